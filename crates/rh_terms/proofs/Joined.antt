-- What was read before, and what is still read.
use Rattle.std.proofs.Common.{◌≡◌, ◌≤◌, ℕ, List, [], ◌∷◌, ◌++◌, take, drop, length, Result, Ok, Err, refl, sym, ap, ◌∙◌, arith}
use Rattle.std.proofs.lemmas.List.{take-append-le, drop-append-le, length-append}
use Rattle.rh_terms.specs.declared.fault.Fault.{Fault}
use Rattle.rh_base.specs.declared.term.Term.{Term}
use Rattle.rh_terms.specs.Faults.{◌>>=◌, Read, under}
use Rattle.rh_terms.specs.Kept.{join, with_trees}
use Rattle.rh_base.specs.Tree.{Tree, Trees, none, more, trees_of, tree_of}

abbrev pub after_trees : Trees → Result Trees Fault → Result Trees Fault
after_trees front read = read >>= λ ts. Ok (join front ts)

-- what was read, behind these bytes
abbrev pub with_bytes : List ℕ → Read (List ℕ) → Read (List ℕ)
with_bytes front read = under (λ bs. front ++ bs) read

pub join-none : (ts : Trees) → join ts none ≡ ts
join-none none = refl
join-none (more t ts) = ap (more t) (join-none ts)

pub join-join : (xs ys zs : Trees) → join (join xs ys) zs ≡ join xs (join ys zs)
join-join none ys zs = refl
join-join (more x xs) ys zs = ap (more x) (join-join xs ys zs)

-- one term more
pub trees-push : (ts : List Term) (t : Term) → trees_of (ts ++ t ∷ []) ≡ join (trees_of ts) (more (tree_of t) none)
trees-push [] t = refl
trees-push (x ∷ ts) t = ap (more (tree_of x)) (trees-push ts t)

-- what lies on a stack below and above the first so many, after one term more
pub pushed_above : (n : ℕ) (old new : List Term) (t : Term) → n ≤ length old → new ≡ old ++ t ∷ []
    → (take n new ≡ take n old) × (drop n new ≡ drop n old ++ t ∷ []) × (n ≤ length new)
pushed_above n old new t some is = (
  ap (take n) is ∙ take-append-le n old (t ∷ []) some,
  ap (drop n) is ∙ drop-append-le n old (t ∷ []) some,
  rw (is, length-append old (t ∷ [])) (omega arith),
)

pub with-trees-none : (read : Read Trees) → with_trees none read ≡ read
with-trees-none (Ok x) = refl
with-trees-none (Err f) = refl

pub with-trees-more : (front : Trees) (t : Tree) (read : Read Trees) → with_trees front (under (more t) read) ≡ with_trees (join front (more t none)) read
with-trees-more front t (Ok x) = ap (λ (ts : Trees). Ok (ts, x.1)) (sym (join-join front (more t none) x.0))
with-trees-more front t (Err f) = refl

pub after-trees-more : (front : Trees) (t : Tree) (read : Result Trees Fault)
    → after_trees front (read >>= λ ts. Ok (more t ts)) ≡ after_trees (join front (more t none)) read
after-trees-more front t (Ok ts) = ap (λ (all : Trees). Ok all) (sym (join-join front (more t none) ts))
after-trees-more front t (Err f) = refl
