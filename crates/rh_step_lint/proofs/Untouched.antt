-- Of what a step doesn't touch no kind of finding speaks.
use Rattle.std.proofs.Common.{◌≡◌, ◌∙◌, ◌&&◌, ◌||◌, ◌++◌, ◌∷◌, [], not, List, Bool, true, false, None, refl, ap, sym, inl, inr}
use Rattle.std.specs.List.{flat_map}
use Rattle.std.proofs.lemmas.Bool.{true≢false, cases_Bool, and_left, and_right, or_parts}
use Rattle.std.proofs.lemmas.Grind.{flat_map-append}
use Rattle.rh_model.specs.ClusterView.{has_phases}
use Rattle.rh_model.specs.declared.node.Node.{Node}
use Rattle.rh_model.specs.declared.node.App.{App}
use Rattle.rh_state.specs.Numbers.{same_node, same_app, nodes_of, apps_of}
use Rattle.rh_state.specs.StateView.{StateView, restart_of, waits_at, is_allowed, is_started}
use Rattle.rh_rules.specs.ByHand.{ends_node}
use Rattle.rh_rules.specs.Course.{is_local}
use Rattle.rh_rules.specs.Everywhere.{is_target}
use Rattle.rh_rules.specs.declared.event.Event.{Event}
use Rattle.rh_rules.specs.declared.event.Event.TheVariants.{Start, Stop, Permit, Takeover, Exit, StartAll}
use Rattle.rh_step_findings.specs.After.{comes_up, ends, boots, is_started_by, starts_now}
use Rattle.rh_step_findings.specs.Tries.{fails_over, is_called, is_permitted_by, tries, asks_others}
use Rattle.rh_step_findings.specs.Pairs.{found, starts_forbidden, starts_below, takes_back, starts_quiet, is_placed_behind_tuple, permits_quiet, forbids, forbids_runner, forbids_last, forbids_twice, stops_forbidden, boots_now, boots_to_run, is_helped, is_booted_with_phases, goes_to, ends_with, moves_unready}
use Rattle.rh_step_findings.specs.Findings.{found_with, found_at, found_of}
use Rattle.rh_step_findings.specs.Touched.{names, is_touched, touched_with, touched_at, all_touched, found_in, names_app, moves, mover, all_movers}
use Rattle.rh_step_findings.specs.declared.code.Code.{Code}
use Rattle.rh_step_findings.specs.declared.code.Code.TheVariants as code
use Rattle.rh_step_findings.specs.declared.touch.Touch.{Touch}

-- ---- what the event doesn't name
pub permits_not : (s : StateView) (e : Event) (n : Node) (a : App) → names e n a ≡ false → is_permitted_by s e n a ≡ false
unfolding is_permitted_by
permits_not s (Permit m b allow) n a fails = and_left (same_node m n && same_app b a) (allow && waits_at s n a) fails
permits_not s _ n a fails = refl

pub forbids_not : (e : Event) (n : Node) (a : App) → names e n a ≡ false → forbids e n a ≡ false
unfolding forbids
forbids_not (Permit m b allow) n a fails = and_left (same_node m n && same_app b a) (not allow) fails
forbids_not _ n a fails = refl

pub stops_not : (s : StateView) (e : Event) (n : Node) (a : App) → names e n a ≡ false → stops_forbidden s e n a ≡ false
unfolding stops_forbidden
stops_not s (Stop m b) n a fails =
    and_left (same_node m n && same_app b a) (is_local s.cluster a && (waits_at s n a && not (is_allowed s n a))) fails
stops_not s _ n a fails = refl

pub moves_not : (s : StateView) (e : Event) (n : Node) (a : App) → names e n a ≡ false → moves_unready s e n a ≡ false
unfolding moves_unready
moves_not s (Takeover m b r) n a fails = and_left (same_node m n && same_app b a) (not (is_started s n a)) fails
moves_not s _ n a fails = refl

crossed : (x y z w : Bool) → (x && y) ≡ false → (y && (z && (x && w))) ≡ false
crossed false true true w fails = refl
crossed false true false w fails = refl
crossed false false z w fails = refl
crossed true false z w fails = refl
crossed true true z w fails = absurd (true≢false fails)

pub ends_not : (s : StateView) (e : Event) (n : Node) (a : App) → names e n a ≡ false → ends_with s e n a ≡ false
unfolding ends_with ends
ends_not s (Exit m b normal) n a fails =
    crossed (same_node m n) (same_app b a) (not (is_local s.cluster a)) (ends_node (restart_of s n b) normal) fails
ends_not s _ n a fails = refl

-- ---- what the step doesn't touch
record Untouched (s : StateView) (e : Event) (n : Node) (a : App) : Type 0 where
  unnamed : names e n a ≡ false
  unstarted : is_started_by s e n a ≡ false
  unbooted : (comes_up s e n && boots s.cluster n a) ≡ false
  starts : starts_now s e n a ≡ false
  uncalled : is_called s e n a ≡ false

parts : (s : StateView) (e : Event) (n : Node) (a : App) → is_touched s e n a ≡ false → Untouched s e n a
unfolding is_touched starts_now
parts s e n a fails =
    let outer = or_parts (names e n a) (starts_now s e n a || is_called s e n a) fails in
    let inner = or_parts (starts_now s e n a) (is_called s e n a) outer.1 in
    let starts = or_parts (is_started_by s e n a) (comes_up s e n && boots s.cluster n a) inner.0 in
    record { unnamed = outer.0; unstarted = starts.0; unbooted = starts.1; starts = inner.0; uncalled = inner.1 }

module _ (s : StateView) (e : Event) (n : Node) (a : App) (un : Untouched s e n a) where
  tries_not : tries s e n a ≡ false
  unfolding tries
  tries_not = rw (un.starts, un.uncalled, permits_not s e n a un.unnamed) (and_right (not (is_local s.cluster a)) false refl)

  helps_not : is_helped s e n a ≡ false
  unfolding is_helped
  helps_not = rw (un.unstarted, permits_not s e n a un.unnamed) (and_right (has_phases s.cluster a) false refl)

  boots_not : boots_now s e n a ≡ false
  unfolding boots_now
  boots_not = un.unbooted

  phases_not : is_booted_with_phases s e n a ≡ false
  unfolding is_booted_with_phases
  phases_not = rw boots_not (and_right (has_phases s.cluster a) false refl)

  nothing : (kind : Code) → found s e kind n a ≡ None
  unfolding found asks_others starts_forbidden starts_below takes_back starts_quiet is_placed_behind_tuple permits_quiet forbids_runner forbids_last forbids_twice boots_to_run goes_to
  nothing code.BetterNodeNotStarted = rw tries_not
  nothing code.TupleMemberNotStarted = rw tries_not
  nothing code.WorseNodeNotStarted = rw tries_not
  nothing code.ForbiddenStartWaits = rw tries_not
  nothing code.RunsAtAWorseNode = rw tries_not
  nothing code.TupleTakeover = rw tries_not
  nothing code.BetterNodeWaitsQuiet = rw un.starts
  nothing code.PermitStartsQuiet = rw (permits_not s e n a un.unnamed)
  nothing code.DependencyForbiddenAtStart = rw boots_not
  nothing code.BeforeDependency = rw boots_not
  nothing code.ForbidMoves = rw (forbids_not e n a un.unnamed)
  nothing code.ForbidOtherNotStarted = rw (forbids_not e n a un.unnamed)
  nothing code.StartWithinTime = rw un.starts
  nothing code.NobodySawTheLoss = rw phases_not
  nothing code.WeightsForEver = rw tries_not
  nothing code.OwnEnd = rw (ends_not s e n a un.unnamed)
  nothing code.KindAfterLoss = rw helps_not
  nothing code.DependencyGone = rw un.uncalled
  nothing code.NeedsADistributedOne = rw boots_not
  nothing code.ForbidWithUnlistedNodes = rw (forbids_not e n a un.unnamed)
  nothing code.TakeoverNotStarted = rw (moves_not s e n a un.unnamed)
  nothing code.LocalForbiddenTwice = rw (forbids_not e n a un.unnamed)
  nothing code.LocalStopWhileForbidden = rw (stops_not s e n a un.unnamed)

-- ---- so only what it touches is asked
module _ (s : StateView) (e : Event) (kind : Code) where
  of_apps : (n : Node) (apps : List App) → flat_map (found_with s e kind n) apps ≡ flat_map (found_in s e kind) (flat_map (touched_with s e n) apps)
  of_apps n [] = refl
  of_apps n (a ∷ apps) = elim (cases_Bool (is_touched s e n a)) [
    | inl holds ↦ rw holds (ap (λ t. found_with s e kind n a ++ t) (of_apps n apps))
    | inr fails ↦ rw (fails, nothing s e n a (parts s e n a fails) kind) (of_apps n apps)
  ]

  of_nodes : (nodes : List Node) → flat_map (found_at s e kind) nodes ≡ flat_map (found_in s e kind) (flat_map (touched_at s e) nodes)
  unfolding found_at touched_at
  of_nodes [] = refl
  of_nodes (n ∷ nodes) =
      ap (λ t. t ++ flat_map (found_at s e kind) nodes) (of_apps n (apps_of s.cluster))
      ∙ ap (λ t. flat_map (found_in s e kind) (touched_at s e n) ++ t) (of_nodes nodes)
      ∙ sym (flat_map-append (found_in s e kind) (touched_at s e n) (flat_map (touched_at s e) nodes))

  pub found_in_touched : (touched : List Touch) → touched ≡ all_touched s e → flat_map (found_in s e kind) touched ≡ found_of s e kind
  unfolding found_of all_touched
  found_in_touched touched are = ap (flat_map (found_in s e kind)) are ∙ sym (of_nodes (nodes_of s.cluster))

-- ---- and where a node doesn't come up only what moves
names_not : (e : Event) (n : Node) (a : App) → names_app e a ≡ false → names e n a ≡ false
names_not (Stop m b) n a fails = and_right (same_node m n) (same_app b a) fails
names_not (Permit m b allow) n a fails = and_right (same_node m n) (same_app b a) fails
names_not (Takeover m b r) n a fails = and_right (same_node m n) (same_app b a) fails
names_not (Exit m b normal) n a fails = and_right (same_node m n) (same_app b a) fails
names_not _ n a fails = refl

starts_not : (s : StateView) (e : Event) (n : Node) (a : App) → names_app e a ≡ false → is_started_by s e n a ≡ false
starts_not s (Start m b r) n a fails = and_right (same_node m n) (same_app b a) fails
starts_not s (StartAll b r) n a fails = and_left (same_app b a) (is_target s a n) fails
starts_not s _ n a fails = refl

module _ (s : StateView) (e : Event) (n : Node) (down : comes_up s e n ≡ false) where
  stays_untouched : (a : App) → moves s e a ≡ false → is_touched s e n a ≡ false
  unfolding moves is_touched starts_now is_called
  stays_untouched a fails =
      let both = or_parts (names_app e a) (fails_over s e a) fails in
      rw (names_not e n a both.0, starts_not s e n a both.0, down, both.1) refl

  among : (apps : List App) → flat_map (touched_with s e n) (flat_map (mover s e) apps) ≡ flat_map (touched_with s e n) apps
  among [] = refl
  among (a ∷ apps) = elim (cases_Bool (moves s e a)) [
    | inl holds ↦ rw holds (ap (λ t. touched_with s e n a ++ t) (among apps))
    | inr fails ↦ rw (fails, stays_untouched a fails) (among apps)
  ]

  pub only_movers : (apps : List App) → apps ≡ all_movers s e → flat_map (touched_with s e n) apps ≡ touched_at s e n
  unfolding all_movers touched_at
  only_movers apps are = ap (flat_map (touched_with s e n)) are ∙ among (apps_of s.cluster)
