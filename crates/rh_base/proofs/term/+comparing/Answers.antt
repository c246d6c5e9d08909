use Rattle.std.proofs.Common.{◌≡◌, ◌<◌, ℕ, List, length, map, get_or, subst, sym, ap, ◌∙◌, arith}
use Rattle.std.proofs.lemmas.List.{length-map, get_or-map}
use Rattle.rh_base.specs.declared.term.Term.{Term}
use Rattle.rh_base.specs.Tree.{tree_of, trees_of, items_of, list_of_trees}
use Rattle.rh_base.proofs.Trees.{list_of_trees-trees_of}
use Rattle.rh_base.proofs.term.+comparing.Goals as goal

-- equal trees, as lists
lists : (xs ys : List Term) → trees_of xs ≡ trees_of ys → map tree_of xs ≡ map tree_of ys
lists xs ys same = sym (list_of_trees-trees_of xs) ∙ ap list_of_trees same ∙ list_of_trees-trees_of ys

-- they are as many
lengths : (xs ys : List Term) → trees_of xs ≡ trees_of ys → length xs ≡ length ys
lengths xs ys same = sym (length-map xs tree_of) ∙ ap length (lists xs ys same) ∙ length-map ys tree_of

-- and they are equal at each place
places : (xs ys : List Term) (i : ℕ) (x y : Term) → i < length xs → x ≡ get_or xs i x → y ≡ get_or ys i y → trees_of xs ≡ trees_of ys → tree_of x ≡ tree_of y
places xs ys i x y inside at_x at_y same =
    ap tree_of at_x ∙ sym (get_or-map tree_of xs i x (tree_of x) inside) ∙ ap (λ ts. get_or ts i (tree_of x)) (lists xs ys same)
    ∙ get_or-map tree_of ys i y (tree_of x) (subst (λ n. i < n) (lengths xs ys same) inside)
    ∙ sym (ap tree_of at_y)

pub Terms::same-returns-then-these-those : goal.Terms::same-returns-then-these-those
Terms::same-returns-then-these-those t c =
    let these = c.as_slice-these.result.now in
    let those = c.as_slice-those.result.now in
    let equal : trees_of (items_of c.args.self.now) ≡ trees_of (items_of c.args.other.now) → trees_of these ≡ trees_of those =
    λ e. ap trees_of c.as_slice-these.ensures ∙ e ∙ ap trees_of (sym c.as_slice-those.ensures) in
    (λ e. cc e, λ e. let as_many : length these ≡ length those = lengths these those (equal e) in absurd (c.if-these-those.true (omega (arith, as_many))))

pub Terms::same-returns-then-not-same : goal.Terms::same-returns-then-not-same
Terms::same-returns-then-not-same t c =
    let these = c.as_slice-these.result.now in
    let those = c.as_slice-those.result.now in
    let equal : trees_of (items_of c.args.self.now) ≡ trees_of (items_of c.args.other.now) → trees_of these ≡ trees_of those =
    λ e. ap trees_of c.as_slice-these.ensures ∙ e ∙ ap trees_of (sym c.as_slice-those.ensures) in (
      λ e. cc e,
      λ e. c.if-not-same.ensures.1
          (places these those c.terms.index c.index-these-index.result c.index-those-index.result (omega arith) c.index-these-index.is c.index-those-index.is (equal e)),
    )
