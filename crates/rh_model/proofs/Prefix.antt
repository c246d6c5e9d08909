-- The words of a term tell which term it is.
use Rattle.std.proofs.Common.{◌≡◌, List, [], ◌++◌, length, refl, sym, ap, ◌∙◌, append_assoc, arith}
use Rattle.rh_base.specs.Tree.{Tree, Trees, atom, int, text, list, tuple, none, more, list_of_trees}
use Rattle.rh_model.specs.TermSymbols.{TermSymbol, symbols_of, symbols_of_all}

-- whatever follows them, equal words are of equal terms, and so are those of as many terms
mutual
  pub same_front : (t u : Tree) (r s : List TermSymbol) → symbols_of t ++ r ≡ symbols_of u ++ s → (t ≡ u) × (r ≡ s)
  same_front (atom a) (atom b) r s e = (cc, cc)
  same_front (int a) (int b) r s e = (cc, cc)
  same_front (text a) (text b) r s e = (cc, cc)
  same_front (list ts) (list us) r s e = let all = same_fronts ts us r s (cc) (cc) in (ap list all.0, all.1)
  same_front (tuple ts) (tuple us) r s e = let all = same_fronts ts us r s (cc) (cc) in (ap tuple all.0, all.1)
  same_front _ _ r s e = (cc, cc)

  pub same_fronts : (ts us : Trees) (r s : List TermSymbol) → length (list_of_trees ts) ≡ length (list_of_trees us)
      → symbols_of_all ts ++ r ≡ symbols_of_all us ++ s → (ts ≡ us) × (r ≡ s)
  same_fronts none none r s as_many e = (cc, e)
  same_fronts (more t ts) (more u us) r s as_many e =
      let first = same_front t u (symbols_of_all ts ++ r) (symbols_of_all us ++ s)
      (sym (append_assoc (symbols_of t) (symbols_of_all ts) r) ∙ e ∙ append_assoc (symbols_of u) (symbols_of_all us) s) in
      let rest = same_fronts ts us r s (omega arith) first.1 in
      (cc (first.0, rest.0), rest.1)
  same_fronts _ _ r s as_many e = absurd (omega arith)

-- equal words are of equal terms
pub symbols_told : (t u : Tree) → symbols_of t ≡ symbols_of u → t ≡ u
symbols_told t u e = (same_front t u [] [] (ap (λ ws. ws ++ []) e)).0

abbrev none_yet : List TermSymbol
none_yet = []

-- a term has a symbol at least
some_symbol : (u : Tree) (s : List TermSymbol) → none_yet ≡ symbols_of u ++ s → ⊥
some_symbol (atom a) s e = cc
some_symbol (int n) s e = cc
some_symbol (text a) s e = cc
some_symbol (list ts) s e = cc
some_symbol (tuple ts) s e = cc

-- equal words of lists are of equal lists
pub all_told : (ts us : Trees) → symbols_of_all ts ≡ symbols_of_all us → ts ≡ us
all_told none none e = refl
all_told none (more u us) e = absurd (some_symbol u (symbols_of_all us) e)
all_told (more t ts) none e = absurd (some_symbol t (symbols_of_all ts) (sym e))
all_told (more t ts) (more u us) e =
    let first = same_front t u (symbols_of_all ts) (symbols_of_all us) e in
    cc (first.0, all_told ts us first.1)
