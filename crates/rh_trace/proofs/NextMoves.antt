-- What is known of each next move.
use Rattle.std.proofs.Common.{◌≡◌, ℕ, ◌<◌, Bool, true, false, ◌&&◌, List, length, Option, Some, None, refl, ap, arith, nat_lt, unwrap_or, is_none}
use Rattle.std.specs.List.{Contains, position}
use Rattle.std.specs.Option.{option_and_then}
use Rattle.std.proofs.lemmas.Option.{slice_get_past}
use Rattle.rh_model.specs.declared.node.Node.{Node}
use Rattle.rh_model.specs.declared.node.App.{App}
use Rattle.rh_model.specs.declared.settings.Spread.{Spread}
use Rattle.rh_model.specs.ClusterView.{ClusterView, node_count, spread_of, group_of, is_in}
use Rattle.rh_state.specs.declared.status.Mode.{Mode}
use Rattle.rh_state.specs.declared.status.Mode.TheVariants.{Down}
use Rattle.rh_state.specs.Shape.{IsShaped}
use Rattle.rh_state.specs.StateView.{StateView, mode_of, is_up, runs_at, is_started, is_allowed}
use Rattle.rh_rules.specs.Placing.{is_operational, deps_run}
use Rattle.rh_base.proofs.Lists.{cases}
use Rattle.rh_rules.specs.declared.notice.Move.{Move}
use Rattle.rh_rules.specs.declared.notice.Move.TheVariants.{Local, Placement, Takeover}
use Rattle.rh_rules.specs.declared.notice.Pair.{Pair}
use Rattle.rh_rules.specs.Course.{is_fresh, is_local}
use Rattle.rh_rules.specs.Moves.{comes_before, calls_away}
use Rattle.rh_rules.specs.Settling.{next_moves, IsEnabled}
use Rattle.rh_base.proofs.Truths.{or_right, both}
use Rattle.rh_trace.proofs.Entries.{is_below, is_above}
use Rattle.rh_trace.proofs.Falls.{Progresses}
use Rattle.rh_trace.proofs.Shapes.{started_within}
use Rattle.rh_trace.proofs.NextFirsts.{next_are_first}

pub left_true : (p q : Bool) → p && q ≡ true → p ≡ true
left_true true q h = refl
left_true false q h = h

pub right_true : (p q : Bool) → p && q ≡ true → q ≡ true
right_true true q h = h
right_true false q h = both false h refl

-- ---- where an application can run
pub up_within : (s : StateView) (n : Node) → length s.modes ≡ node_count s.cluster → is_up (mode_of s n) ≡ true → n.0 < node_count s.cluster
up_within s n sized h = cases (nat_lt n.0 (length s.modes))
    (λ t. let k = is_below n.0 (length s.modes) t in omega arith)
    (λ f. both (is_up (mode_of s n)) h (ap (λ (o : Option Mode). is_up (unwrap_or o Down)) (slice_get_past s.modes n.0 (is_above n.0 (length s.modes) f))))

pub operational_within : (s : StateView) (a : App) (n : Node) → length s.modes ≡ node_count s.cluster → is_operational s a n ≡ true → n.0 < node_count s.cluster
unfolding is_operational
operational_within s a n sized h = up_within s n sized (left_true _ _ h)

operational_started : (s : StateView) (a : App) (n : Node) → is_operational s a n ≡ true → is_started s n a ≡ true
unfolding is_operational
operational_started s a n h = left_true (is_started s n a) (is_allowed s n a && deps_run s n a) (right_true (is_up (mode_of s n)) _ h)

-- ---- which nodes call away
pub all_called : (s : StateView) (fresh : List Pair) (a : App) (m n : Node) → calls_away s fresh a m n ≡ true
    → (comes_before (group_of s.cluster a n) (group_of s.cluster a m) ≡ true) × (is_fresh fresh n a ≡ true) × (is_operational s a n ≡ true)
unfolding calls_away
all_called s fresh a m n h =
    let rest = right_true (comes_before (group_of s.cluster a n) (group_of s.cluster a m)) _ h in
    (left_true _ _ h, left_true (is_fresh fresh n a) _ rest, right_true (is_fresh fresh n a) _ rest)

-- a local application has no groups, so none comes before another
not_local : (c : ClusterView) (a : App) (n : Node) (p : Option ℕ) → comes_before (group_of c a n) p ≡ true → is_local c a ≡ false
not_local c a n p h = by (spread_of c a) h
  where
    by : (o : Option Spread) → comes_before (option_and_then (λ (s : Spread). position (is_in n) s.groups) o) p ≡ true → is_none o ≡ false
    by None h = cc
    by (Some v) h = refl

-- ---- what is known
pub enabled_progresses : (s : StateView) (fresh : List Pair) → IsShaped s → (m : Move) → IsEnabled s fresh m → Progresses s m
enabled_progresses s fresh shape (Local n a) e = (e.0, started_within s n a shape (or_right (runs_at s n a) _ e.2), e.1, e.2)
enabled_progresses s fresh shape (Placement a from n) e =
    let o = e.2.passes in (operational_within s a n shape.modes o, e.0, e.1, operational_started s a n o)
enabled_progresses s fresh shape (Takeover a m n) e =
    let c = all_called s fresh a m n e.2.passes in
    (operational_within s a n shape.modes c.2, e.0, e.1, c.0, not_local s.cluster a n (group_of s.cluster a m) c.0, operational_started s a n c.2)

pub progresses : (s : StateView) (fresh : List Pair) → IsShaped s → (m : Move) → Contains (next_moves s fresh) m → Progresses s m
progresses s fresh shape m h = enabled_progresses s fresh shape m ((next_are_first s fresh m).0 h).enabled
