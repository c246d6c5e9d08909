-- Each move leaves fewer pairs that could still start: the points of a state fall.
use Rattle.std.proofs.Common.{◌≡◌, ℕ, ◌<◌, ◌≤◌, Bool, true, false, cond, length, Option, refl, sym, ap, ◌∙◌, arith, subst, unwrap_or, slice_get, slice_set}
use Rattle.rh_model.specs.declared.node.Node.{Node}
use Rattle.rh_model.specs.declared.node.App.{App}
use Rattle.rh_model.specs.ClusterView.{ClusterView, node_count, app_count, app_numbered, group_of}
use Rattle.rh_state.specs.declared.status.Standing.{Standing}
use Rattle.rh_state.specs.declared.status.Standing.TheVariants.{Quiet, Wanted, Running, Lost}
use Rattle.rh_state.specs.Numbers.{same_app}
use Rattle.rh_state.specs.Shape.{IsShaped}
use Rattle.rh_state.specs.StateView.{StateView, waits_at, standing_of, is_started}
use Rattle.rh_base.proofs.Lists.{cases}
use Rattle.rh_rules.specs.declared.notice.Move.{Move}
use Rattle.rh_rules.specs.declared.notice.Move.TheVariants.{Local, Placement, Takeover}
use Rattle.rh_rules.specs.Course.{is_local}
use Rattle.rh_rules.specs.Moves.{comes_before, moved_state}
use Rattle.rh_trace.proofs.Places.{at_set, at_set_here}
use Rattle.rh_base.proofs.Truths.{same_number, both}
use Rattle.rh_trace.proofs.Entries.{taken, taken_has, taken_not, put_other}
use Rattle.rh_trace.proofs.Points.{standing_point, points_at, points, point_le, point_lt, not_before, through, falls_by, standing_le}

-- the application that a move is of
abbrev pub app_of : Move → App
app_of (Local n a) = a
app_of (Placement a from n) = a
app_of (Takeover a m n) = a

-- what is known of a next move
abbrev pub Progresses : StateView → Move → Type 0
Progresses s (Local n a) = (n.0 < node_count s.cluster) × (a.0 < app_count s.cluster) × (is_local s.cluster a ≡ true) × (waits_at s n a ≡ true)
Progresses s (Placement a from n) = (n.0 < node_count s.cluster) × (a.0 < app_count s.cluster) × (standing_of s a ≡ Wanted from) × (is_started s n a ≡ true)
Progresses s (Takeover a m n) = (n.0 < node_count s.cluster) × (a.0 < app_count s.cluster) × (standing_of s a ≡ Running m)
    × (comes_before (group_of s.cluster a n) (group_of s.cluster a m) ≡ true) × (is_local s.cluster a ≡ false) × (is_started s n a ≡ true)

local_falls : (s : StateView) (n : Node) (a : App) → IsShaped s → Progresses s (Local n a) → points (moved_state s (Local n a)) < points s
unfolding points_at
local_falls s n a shape h =
    let t : StateView = moved_state s (Local n a) in
    falls_by s t n a refl h.0 h.1
    (λ m b. let w = point_le (is_local s.cluster b) (waits_at s m b) (waits_at t m b) (λ _ v. taken_has s.waiting n.0 m.0 a b v) in omega arith)
    (let here : n.0 < length s.waiting = (let e = shape.waiting in let l = h.0 in omega arith) in
    let w = point_lt (is_local s.cluster a) (waits_at s n a) (waits_at t n a) h.2 h.3 (taken_not s.waiting n.0 a here) in omega arith)

cond_le : (p q : Bool) → (p ≡ true → q ≡ true) → cond p 1 0 ≤ cond q 1 0
cond_le false q h = at_least q
  where
    at_least : (w : Bool) → 0 ≤ cond w 1 0
    at_least true = omega arith
    at_least false = omega arith
cond_le true q h = let e : q ≡ true = h refl in rw e (omega arith)

-- what may stand in the place of an application that moves to n
abbrev Outranked : ClusterView → Node → App → Standing → Type 0
Outranked c n a (Wanted _) = Unit {0}
Outranked c n a (Running m) = comes_before (group_of c a n) (group_of c a m) ≡ true
Outranked c n a Quiet = ⊥
Outranked c n a (Lost _) = ⊥

outranked_le : (c : ClusterView) (m n : Node) (a : App) (st : Standing) → Outranked c n a st → standing_point c m a (Running n) ≤ standing_point c m a st
outranked_le c m n a (Wanted f) h = standing_le c m n a (Wanted f)
outranked_le c m n a (Running k) h = cond_le _ _ (λ t. through (group_of c a m) (group_of c a n) (group_of c a k) h t)
outranked_le c m n a Quiet h = absurd h
outranked_le c m n a (Lost _) h = absurd h

outranked_lt : (c : ClusterView) (n : Node) (a : App) (st : Standing) → Outranked c n a st → standing_point c n a (Running n) < standing_point c n a st
outranked_lt c n a (Wanted f) h = let e = not_before (group_of c a n) in rw e (omega arith)
outranked_lt c n a (Running k) h = let e = not_before (group_of c a n) in rw (e, h) (omega arith)
outranked_lt c n a Quiet h = absurd h
outranked_lt c n a (Lost _) h = absurd h

-- the points of standings fall as an application moves to n
module _ (s : StateView) (n : Node) (a : App) (shape : IsShaped s) (lt_a : a.0 < app_count s.cluster) (out : Outranked s.cluster n a (standing_of s a)) where
  abbrev after : App → Standing
  after b = unwrap_or (slice_get (slice_set s.standings a.0 (Running n)) b.0) Quiet

  each_standing : (m : Node) (b : App) → standing_point s.cluster m b (after b) ≤ standing_point s.cluster m b (standing_of s b)
  each_standing m b = at_set s.standings a.0 b.0 (Running n) Quiet
      (λ e. let f : standing_point s.cluster m b (after b) ≡ standing_point s.cluster m b (standing_of s b) = ap (standing_point s.cluster m b) e in
      omega arith)
      (λ same v. let P : ℕ → Type 0 = λ k. Outranked s.cluster n (app_numbered k) (standing_of s (app_numbered k)) in
      let here : Outranked s.cluster n b (standing_of s b) = subst P (sym same) out in
      let f : standing_point s.cluster m b (after b) ≡ standing_point s.cluster m b (Running n) = ap (standing_point s.cluster m b) v in
      let g = outranked_le s.cluster m n b (standing_of s b) here in omega arith)

  this_standing : standing_point s.cluster n a (after a) < standing_point s.cluster n a (standing_of s a)
  this_standing =
      let lt : a.0 < length s.standings = (let e = shape.standings in omega arith) in
      let f : standing_point s.cluster n a (after a) ≡ standing_point s.cluster n a (Running n) = ap (standing_point s.cluster n a)
      (at_set_here s.standings a.0 (Running n) Quiet lt) in
      let g = outranked_lt s.cluster n a (standing_of s a) out in omega arith

placement_falls : (s : StateView) (n : Node) (a : App) (from : Option Node) → IsShaped s → Progresses s (Placement a from n)
    → points (moved_state s (Placement a from n)) < points s
unfolding points_at
placement_falls s n a from shape h =
    let t : StateView = moved_state s (Placement a from n) in
    let out : Outranked s.cluster n a (standing_of s a) = rw h.2 tt in
    falls_by s t n a refl h.0 h.1
    (λ m b. let w = point_le (is_local s.cluster b) (waits_at s m b) (waits_at t m b) (λ _ v. taken_has s.waiting n.0 m.0 a b v) in
    let g = each_standing s n a shape h.1 out m b in omega arith)
    (let w = point_le (is_local s.cluster a) (waits_at s n a) (waits_at t n a) (λ _ v. taken_has s.waiting n.0 n.0 a a v) in
    let g = this_standing s n a shape h.1 out in omega arith)

-- a distributed application is another than a local one
not_same : (c : ClusterView) (a b : App) → is_local c a ≡ false → is_local c b ≡ true → same_app b a ≡ false
not_same c a b h k = cases (same_app b a)
    (λ t. both (is_local c a) (ap (λ i. is_local c (app_numbered i)) (sym (same_number b.0 a.0 t)) ∙ k) h)
    (λ f. f)

takeover_falls : (s : StateView) (m n : Node) (a : App) → IsShaped s → Progresses s (Takeover a m n) → points (moved_state s (Takeover a m n)) < points s
unfolding points_at
takeover_falls s m n a shape h =
    let t : StateView = moved_state s (Takeover a m n) in
    let out : Outranked s.cluster n a (standing_of s a) = rw h.2 h.3 in
    let waits_less : (k : Node) (b : App) → is_local s.cluster b ≡ true → waits_at t k b ≡ true → waits_at s k b ≡ true =
    λ k b l v. taken_has s.waiting n.0 k.0 a b
    (taken_has (taken s.waiting n.0 a) m.0 k.0 a b
    (put_other (taken (taken s.waiting n.0 a) m.0 a) m.0 k.0 a b (not_same s.cluster a b h.4 l) v)) in
    falls_by s t n a refl h.0 h.1
    (λ k b. let w = point_le (is_local s.cluster b) (waits_at s k b) (waits_at t k b) (waits_less k b) in
    let g = each_standing s n a shape h.1 out k b in omega arith)
    (let w = point_le (is_local s.cluster a) (waits_at s n a) (waits_at t n a) (waits_less n a) in
    let g = this_standing s n a shape h.1 out in omega arith)

-- each next move leaves fewer points
pub falls : (s : StateView) (m : Move) → IsShaped s → Progresses s m → points (moved_state s m) < points s
falls s (Local n a) shape h = local_falls s n a shape h
falls s (Placement a from n) shape h = placement_falls s n a from shape h
falls s (Takeover a m n) shape h = takeover_falls s m n a shape h
