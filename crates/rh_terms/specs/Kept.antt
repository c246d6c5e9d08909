-- What is kept of terms that are read, where a rule says what is kept behind a key (ours).
use Rattle.std.specs.Prelude.{ℕ, List, length, Option, Some, None, Result, Ok, Err}
use Rattle.rh_terms.specs.declared.fault.Fault.{Fault}
use Rattle.rh_terms.specs.declared.fault.TermFault.{TermFault}
use Rattle.rh_terms.specs.declared.keep.Next.{Next}
use Rattle.rh_terms.specs.declared.keep.Next.TheVariants.{Each, First, Skipped}
use Rattle.rh_terms.specs.Faults.{◌>>=◌, Read, under}
use Rattle.rh_base.specs.Tree.{Tree, Trees, atom, list, tuple, none, more}
use Rattle.rh_terms.specs.Grammar.{some_terms, term_at, terms_from}

-- what is kept of a skipped term: whether it is a list
abbrev pub hollow : Tree → Tree
hollow (list ts) = list none
hollow t = tuple none

abbrev pub each_if : {K : Type 0} → Option K → Next K
each_if (Some k) = Each k
each_if None = Skipped

-- what is kept of the terms behind one: behind an atom that a tuple begins with, what the rule says of that key
abbrev pub next_behind : {K : Type 0} → (K → List ℕ → Option K) → Next K → Tree → Next K
next_behind rule (First k) (atom key) = each_if (rule k key)
next_behind rule (First k) t = Each k
next_behind rule next t = next

-- what is kept of a term, and of terms that stand next to each other
unfoldable mutual
  pub kept_tree : {K : Type 0} → (K → List ℕ → Option K) → K → Tree → Tree
  kept_tree rule k (list ts) = list (kept_trees rule (Each k) ts)
  kept_tree rule k (tuple ts) = tuple (kept_trees rule (First k) ts)
  kept_tree rule k t = t

  pub kept_trees : {K : Type 0} → (K → List ℕ → Option K) → Next K → Trees → Trees
  kept_trees rule next none = none
  kept_trees rule (Each k) (more t ts) = more (kept_tree rule k t) (kept_trees rule (Each k) ts)
  kept_trees rule (First k) (more t ts) = more (kept_tree rule k t) (kept_trees rule (next_behind rule (First k) t) ts)
  kept_trees rule Skipped (more t ts) = more (hollow t) (kept_trees rule Skipped ts)

-- what is kept of the next term
abbrev pub kept_next : {K : Type 0} → (K → List ℕ → Option K) → Next K → Tree → Tree
kept_next rule (Each k) t = kept_tree rule k t
kept_next rule (First k) t = kept_tree rule k t
kept_next rule Skipped t = hollow t

-- the terms from here on, as they are kept
abbrev pub kept_from : {K : Type 0} → (K → List ℕ → Option K) → K → List ℕ → Result Trees Fault
kept_from rule k bs = terms_from bs >>= λ ts. Ok (kept_trees rule (Each k) ts)

-- the terms of a text, as they are kept, or its first fault
abbrev pub kept_of : {K : Type 0} → (K → List ℕ → Option K) → K → Result Trees TermFault → Result Trees TermFault
kept_of rule k (Ok ts) = Ok (kept_trees rule (Each k) ts)
kept_of rule k (Err fault) = Err fault

-- what stands behind what was read
abbrev pub behind : {A : Type 0} → Read A → Result (List ℕ) Fault
behind read = read >>= λ x. Ok x.1

-- the elements of a list or a tuple from here on, up to the closing byte
abbrev pub elements_at : ℕ → ℕ → List ℕ → Read Trees
elements_at room close bs = some_terms (term_at room) close (length bs) bs

-- the first trees, then the others
abbrev pub join : Trees → Trees → Trees
join none ys = ys
join (more x xs) ys = more x (join xs ys)

-- what was read, behind these trees
abbrev pub with_trees : Trees → Read Trees → Read Trees
with_trees front read = under (join front) read
