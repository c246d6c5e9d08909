-- Where local applications can start at marked pairs alone.
use Rattle.std.proofs.Common.{◌≡◌, ◌&&◌, ◌||◌, Bool, true, false, List, [], is_some, refl, sym, ap, ◌∙◌}
use Rattle.std.proofs.Math.Bool.{and-false}
use Rattle.rh_model.specs.declared.node.Node.{Node}
use Rattle.rh_model.specs.declared.node.App.{App}
use Rattle.rh_model.specs.ClusterView.{numbered, app_numbered}
use Rattle.rh_state.specs.Numbers.{same_app, same_node}
use Rattle.rh_state.specs.Shape.{IsShaped}
use Rattle.rh_state.specs.StateView.{StateView, waits_at}
use Rattle.rh_base.specs.Lists.{head}
use Rattle.rh_base.proofs.Lists.{cases}
use Rattle.rh_model.specs.Marks.{AppMarks}
use Rattle.rh_place.specs.Sets.{NodeBits, has}
use Rattle.rh_rules.specs.declared.notice.Pair.{Pair}
use Rattle.rh_rules.specs.Course.{is_fresh, is_local, course_of}
use Rattle.rh_rules.specs.Moves.{can_start, local_moves}
use Rattle.rh_settle.specs.Boards.{AreLocals}
use Rattle.rh_settle.specs.Starting.{StartsAreMarked}
use Rattle.rh_base.proofs.Truths.{both, same_number}
use Rattle.rh_trace.proofs.Entries.{is_false}
use Rattle.rh_settle.proofs.Starts.{each_of, no_start, one_starts, none_starts}

-- ---- a set that a pair adds nothing to
-- where the pair's application doesn't start there
pub stays : (set : NodeBits) (n m : Node) (starts : Bool) → starts ≡ false → has set n ≡ has set n || (same_node n m && starts)
stays set n m starts f = by (has set n) (same_node n m) starts f
  where
    by : (p q r : Bool) → r ≡ false → p ≡ p || (q && r)
    by true q r f = refl
    by false true r f = sym f
    by false false r f = refl

-- where the pair's node is in the set
pub already_in : (set : NodeBits) (n m : Node) (starts : Bool) → has set m ≡ true → has set n ≡ has set n || (same_node n m && starts)
already_in set n m starts here = cases (same_node n m)
    (λ t. known (has set n) (same_node n m && starts) (ap (λ i. has set (numbered i)) (same_number n.0 m.0 t) ∙ here))
    (λ f. apart (has set n) (same_node n m) starts f)
  where
    known : (p q : Bool) → p ≡ true → p ≡ p || q
    known true q h = refl
    known false q h = both false h refl

    apart : (p q r : Bool) → q ≡ false → p ≡ p || (q && r)
    apart true q r f = refl
    apart false true r f = both true refl f
    apart false false r f = refl

-- one that isn't local doesn't start
pub not_local : (s : StateView) (n : Node) (a : App) → is_local s.cluster a ≡ false → waits_at s n a && can_start s n a ≡ false
not_local s n a f = ap (λ b. waits_at s n a && b) (no_start s n a f) ∙ and-false (waits_at s n a)

-- ---- a walk along the pairs
-- at a node that comes to the set by a pair a local application can start
pub one_added : (s : StateView) (n : Node) (p : Pair) → same_node n p.node && (waits_at s p.node p.app && can_start s p.node p.app) ≡ true
    → is_some (head (local_moves s n)) ≡ true
one_added s n p h = let t = each_of (same_node n p.node) (waits_at s p.node p.app && can_start s p.node p.app) h in
    ap (λ i. is_some (head (local_moves s (numbered i)))) (same_number n.0 p.node.0 t.0) ∙ one_starts s p.node p.app t.1

-- what waits and can start at a pair brings its node to the set
pub adds : (s : StateView) (n : Node) (a : App) (p : Pair) → same_node n p.node && same_app a p.app ≡ true → waits_at s n a ≡ true → can_start s n a ≡ true
    → same_node n p.node && (waits_at s p.node p.app && can_start s p.node p.app) ≡ true
adds s n a p is waits starts =
    let t = each_of (same_node n p.node) (same_app a p.app) is in
    let at : (n.0 ≡ p.node.0) × (a.0 ≡ p.app.0) = (same_number n.0 p.node.0 t.0, same_number a.0 p.app.0 t.1) in
    all_three (same_node n p.node) (waits_at s p.node p.app) (can_start s p.node p.app) t.0
    (sym (ap (λ i. waits_at s (numbered i) p.app) at.0) ∙ sym (ap (λ j. waits_at s n (app_numbered j)) at.1) ∙ waits)
    (sym (ap (λ i. can_start s (numbered i) p.app) at.0) ∙ sym (ap (λ j. can_start s n (app_numbered j)) at.1) ∙ starts)
  where
    all_three : (x y z : Bool) → x ≡ true → y ≡ true → z ≡ true → x && (y && z) ≡ true
    all_three true true true f g h = refl
    all_three true true false f g h = h
    all_three true false z f g h = g
    all_three false y z f g h = f

-- at the end of it the set has each node at which a local application can start
pub all_asked : (s : StateView) (marks : AppMarks) (pairs : List Pair) (set : NodeBits) → IsShaped s → AreLocals s.cluster marks
    → StartsAreMarked (course_of s [] pairs)
    → ((n : Node) → has set n ≡ true → is_some (head (local_moves s n)) ≡ true)
    → ((n : Node) (a : App) → is_fresh pairs n a ≡ true → waits_at s n a ≡ true → can_start s n a ≡ true → has set n ≡ true)
    → (n : Node) → has set n ≡ is_some (head (local_moves s n))
all_asked s marks pairs set shape are marked some asked n = cases (has set n)
    (λ y. y ∙ sym (some n y))
    (λ f. f ∙ sym (none_starts s n marks shape are
    (λ a of local. is_false (waits_at s n a && can_start s n a) (λ y. let t = each_of (waits_at s n a) (can_start s n a) y in
    both (has set n) (asked n a (marked n a t.0 t.1) t.0 t.1) f))))
