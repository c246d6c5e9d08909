-- Connections stay where others come and where those of other nodes go, and hold either way round.
use Rattle.std.proofs.Common.{◌≡◌, ◌≢◌, ◌⊎◌, ◌++◌, ◌==◌, ◌&&◌, ◌||◌, Bool, true, false, not, cond, List, [], ◌∷◌, refl, sym, ◌∙◌, inl, inr}
use Rattle.std.proofs.lemmas.Bool.{and_parts, and_from, or_cases, or_left, or_right, or_from, eqb-true, eq-eqb, ne_eqb, not_from_false, false≢true}
use Rattle.std.proofs.lemmas.List.Folds.{list_any-append}
use Rattle.rh_model.specs.declared.node.Node.{Node}
use Rattle.rh_otp_net.specs.declared.links.Link.{Link}
use Rattle.rh_otp_net.specs.Links.{link, is_between, is_at, are_linked, without_node}

or_swapped : (p q : Bool) → (p || q) ≡ (q || p)
or_swapped true true = refl
or_swapped true false = refl
or_swapped false true = refl
or_swapped false false = refl

pub linked_back : (a b : Node) (links : List Link) → are_linked a b links ≡ are_linked b a links
linked_back a b [] = refl
linked_back a b (l ∷ links) =
    λ i. or_swapped (l.0.0 == a.0 && l.1.0 == b.0) (l.0.0 == b.0 && l.1.0 == a.0) i || linked_back a b links i

pub linked_still : (a b : Node) (links more : List Link) → are_linked a b links ≡ true → are_linked a b (links ++ more) ≡ true
linked_still a b links more is =
    list_any-append (is_between a b) links more ∙ or_left (are_linked a b links) (are_linked a b more) is

pub linked_last : (a b : Node) (links : List Link) → are_linked a b (links ++ link a b ∷ []) ≡ true
linked_last a b links =
    list_any-append (is_between a b) links (link a b ∷ [])
    ∙ or_right (are_linked a b links) (are_linked a b (link a b ∷ []))
    (or_left (is_between a b (link a b)) false
    (or_left (a.0 == a.0 && b.0 == b.0) (a.0 == b.0 && b.0 == a.0)
    (and_from (a.0 == a.0) (b.0 == b.0) (eq-eqb a.0 a.0 refl) (eq-eqb b.0 b.0 refl))))

-- ---- the links of another node go

-- a link between two others isn't at the node
not_at : (n a b : Node) (l : Link) → a.0 ≢ n.0 → b.0 ≢ n.0 → is_between a b l ≡ true → not (is_at n l) ≡ true
not_at n a b l not_a not_b between =
    not_from_false (is_at n l) (by (or_cases (l.0.0 == a.0 && l.1.0 == b.0) (l.0.0 == b.0 && l.1.0 == a.0) between))
  where
    ends : (x y : Node) → x.0 ≢ n.0 → y.0 ≢ n.0 → (l.0.0 == x.0 && l.1.0 == y.0) ≡ true → is_at n l ≡ false
    ends x y not_x not_y is =
        let parts : ((l.0.0 == x.0) ≡ true) × ((l.1.0 == y.0) ≡ true) = and_parts (l.0.0 == x.0) (l.1.0 == y.0) is in
        or_from (l.0.0 == n.0) (l.1.0 == n.0) (ne_eqb l.0.0 n.0 (λ here. not_x (sym (eqb-true l.0.0 x.0 parts.0) ∙ here)))
        (ne_eqb l.1.0 n.0 (λ here. not_y (sym (eqb-true l.1.0 y.0 parts.1) ∙ here)))

    by : ((l.0.0 == a.0 && l.1.0 == b.0) ≡ true) ⊎ ((l.0.0 == b.0 && l.1.0 == a.0) ≡ true) → is_at n l ≡ false
    by (inl is) = ends a b not_a not_b is
    by (inr is) = ends b a not_b not_a is

pub linked_left : (n a b : Node) (links : List Link) → a.0 ≢ n.0 → b.0 ≢ n.0 → are_linked a b links ≡ true
    → are_linked a b (without_node n links) ≡ true
linked_left n a b [] not_a not_b is = is
linked_left n a b (l ∷ links) not_a not_b is =
    by (not (is_at n l)) refl (or_cases (is_between a b l) (are_linked a b links) is) (linked_left n a b links not_a not_b)
  where
    left : List Link
    left = without_node n links

    by : (p : Bool) → not (is_at n l) ≡ p → (is_between a b l ≡ true) ⊎ (are_linked a b links ≡ true)
        → (are_linked a b links ≡ true → are_linked a b left ≡ true) → are_linked a b (cond p (l ∷ left) left) ≡ true
    by true at (inl here) rest = or_left (is_between a b l) (are_linked a b left) here
    by true at (inr later) rest = or_right (is_between a b l) (are_linked a b left) (rest later)
    by false at (inl here) rest = absurd (false≢true (sym at ∙ not_at n a b l not_a not_b here))
    by false at (inr later) rest = rest later
