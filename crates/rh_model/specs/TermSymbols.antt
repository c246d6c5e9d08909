-- A term in prefix notation: a list or a tuple is told by how many terms stand in it, and these follow.
use Rattle.std.specs.Prelude.{ℕ, ℤ, List, [], ◌∷◌, ◌++◌, length}
use Rattle.rh_base.specs.Tree.{Tree, Trees, atom, int, text, list, tuple, none, more, list_of_trees}

pub data TermSymbol : Type 0 where
  an_atom : List ℕ → TermSymbol
  an_int : ℤ → TermSymbol
  a_text : List ℕ → TermSymbol
  list_of : ℕ → TermSymbol
  tuple_of : ℕ → TermSymbol

abbrev mutual
  pub symbols_of : Tree → List TermSymbol
  symbols_of (atom s) = an_atom s ∷ []
  symbols_of (int n) = an_int n ∷ []
  symbols_of (text s) = a_text s ∷ []
  symbols_of (list ts) = list_of (length (list_of_trees ts)) ∷ symbols_of_all ts
  symbols_of (tuple ts) = tuple_of (length (list_of_trees ts)) ∷ symbols_of_all ts

  pub symbols_of_all : Trees → List TermSymbol
  symbols_of_all none = []
  symbols_of_all (more t ts) = symbols_of t ++ symbols_of_all ts
