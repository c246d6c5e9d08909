-- By the manual's rules a distributed application that is stopped or ends at a node stops there, and that is all, though other nodes hold
-- it ready.
use Rattle.std.proofs.Common.{◌≡◌, ℕ, Bool, true, false, cond, List, [], ◌∷◌, slice_get, slice_set, unwrap_or, Option, None, refl, sym, ap, ◌∙◌}
use Rattle.std.proofs.lemmas.Bool.{false≢true}
use Rattle.rh_model.specs.declared.node.App.{App}
use Rattle.rh_model.specs.declared.node.Node.{Node}
use Rattle.rh_rules.specs.declared.event.Event.TheVariants as event
use Rattle.rh_rules.specs.declared.notice.Move.TheVariants.{Local, Placement, Takeover}
use Rattle.rh_rules.specs.declared.notice.Notice.{Notice}
use Rattle.rh_rules.specs.declared.notice.Notice.TheVariants as notice
use Rattle.rh_rules.specs.declared.pick.Pick.{Pick}
use Rattle.rh_rules.specs.ByHand.{stopped, left_waiting, quiet_if_nowhere, is_started_anywhere, ends_node, exited}
use Rattle.rh_rules.specs.Course.{Course, course_of, told, now_in, is_local}
use Rattle.rh_rules.specs.NodesEnd.{ended}
use Rattle.rh_rules.specs.NodesStart.{ready_come_up}
use Rattle.rh_rules.specs.Placing.{deps_run, is_operational, picked}
use Rattle.rh_rules.specs.Settling.{NoneEnabled, nexts, settled, waits_told}
use Rattle.rh_rules.specs.Steps.{outcome, outcome_of, followed, next}
use Rattle.rh_state.specs.declared.status.Standing.{Standing}
use Rattle.rh_state.specs.declared.status.Standing.TheVariants.{Quiet, Wanted, Running, Lost}
use Rattle.rh_state.specs.declared.status.Timer.{Timer}
use Rattle.rh_state.specs.declared.status.Timer.TheVariants.{Failover}
use Rattle.rh_state.specs.Setters.{unlisted, with_standing, without_due}
use Rattle.rh_state.specs.StateView.{StateView, runs_at, restart_of, standing_of}
use Rattle.rh_trace.specs.Validity.{IsValid}
use Rattle.rh_trace.proofs.NextFirsts.{still_if_none_enabled}
use Rattle.rh_trace.proofs.NextMoves.{all_called}
use Rattle.rh_trace.proofs.Places.{at_set}
use Rattle.rh_settle.proofs.Fuel as fuel
use Rattle.rh_settle.proofs.Searches.{none_of_none}
use Rattle.rh_step.proofs.StartsFewer.{unlisted_fewer}
use Rattle.rh_agreement_calls.proofs.Fewer.{Lessens, none_comes_up}
use Rattle.rh_agreement_calls.proofs.Fewer as fewer

quiet_not_wanted : {P : Type 0} (from : Option Node) → Quiet ≡ Wanted from → P
quiet_not_wanted from is = absurd (clash is)
  where
    clash : Quiet ≡ Wanted from → ⊥
    clash is = cc

module _ (s : StateView) (n : Node) (a : App) (valid : IsValid s) where
  -- it stands in no list of the node
  abbrev pub left : StateView
  left = unlisted s n a

  -- and with these standings and timers
  abbrev pub stands : List Standing → List (ℕ × Timer) → StateView
  stands standings timers = record left { standings = standings; timers = timers }

  less : Lessens s left
  less = record { fewer = unlisted_fewer s n a; allowed = λ m b may. may; modes = refl; standings = refl }

  -- ---- where no more are wanted than before nothing follows

  module _ (standings : List Standing) (timers : List (ℕ × Timer))
      (wanted : (b : App) (from : Option Node) → unwrap_or (slice_get standings b.0) Quiet ≡ Wanted from
      → standing_of s b ≡ Wanted from) where
    abbrev then : StateView
    then = stands standings timers

    none_moves : NoneEnabled then []
    unfolding deps_run is_operational
    none_moves (Local m b) is = fewer.none_moves s left valid less (Local m b) is
    none_moves (Placement b from m) is =
        fewer.none_moves s left valid less (Placement b from m) (
          is.0,
          wanted b from is.1,
          record { listed = is.2.listed; passes = is.2.passes; first = is.2.first; fewest = is.2.fewest },
        )
    none_moves (Takeover b k m) is = absurd (false≢true (all_called then [] b k m is.2.passes).1)

    module _ (notices : List Notice) where
      abbrev course : Course
      course = course_of then notices []

      no_next : (pick : Pick) → picked pick (nexts course) ≡ None
      no_next pick = ap (picked pick) ((still_if_none_enabled then []).1 none_moves) ∙ sym (none_of_none pick)

      pub nothing_follows : (pick : Pick) → settled pick (ready_come_up course) ≡ course
      nothing_follows pick =
          ap (settled pick) (none_comes_up s then refl refl valid.settled notices [])
          ∙ ap waits_told (fuel.ended pick course (no_next pick))

  -- one that is quiet now isn't wanted
  still_wanted : (b : App) (from : Option Node) → unwrap_or (slice_get (slice_set s.standings a.0 Quiet) b.0) Quiet ≡ Wanted from
      → standing_of s b ≡ Wanted from
  still_wanted b from is =
      at_set s.standings a.0 b.0 Quiet Quiet (λ same. sym same ∙ is) (λ here new. quiet_not_wanted from (sym new ∙ is))

  -- ---- where it runs

  abbrev course_then : Course
  course_then = course_of s [] []

  -- where it is distributed it is to run nowhere
  abbrev standings_by : Bool → List Standing
  standings_by local = cond local s.standings (slice_set s.standings a.0 Quiet)

  abbrev pub without_it : StateView
  without_it = stands (standings_by (is_local s.cluster a)) s.timers

  wanted_by : (local : Bool) (b : App) (from : Option Node) → unwrap_or (slice_get (standings_by local) b.0) Quiet ≡ Wanted from
      → standing_of s b ≡ Wanted from
  wanted_by true b from is = is
  wanted_by false b from is = still_wanted b from is

  abbrev stop_told : List Notice
  stop_told = notice.Stopped a n ∷ []

  stopped_by : (local : Bool)
      → told (now_in course_then (cond local left (with_standing left a Quiet))) (notice.Stopped a n)
      ≡ course_of (stands (standings_by local) s.timers) stop_told []
  stopped_by true = refl
  stopped_by false = refl

  stopped_so : stopped course_then n a ≡ course_of without_it stop_told []
  unfolding stopped
  stopped_so = stopped_by (is_local s.cluster a)

  follows_stop : (pick : Pick) → settled pick (ready_come_up (course_of without_it stop_told [])) ≡ course_of without_it stop_told []
  follows_stop pick =
      nothing_follows (standings_by (is_local s.cluster a)) s.timers (wanted_by (is_local s.cluster a)) stop_told pick

  pub only_stops : runs_at s n a ≡ true → (pick : Pick) → next s (event.Stop n a) pick ≡ outcome without_it stop_told
  unfolding next followed
  only_stops runs pick =
      ap (λ (o : Course). outcome_of (settled pick (ready_come_up o)))
      (ap (λ (b : Bool). cond b (stopped course_then n a) (left_waiting course_then n a)) runs ∙ stopped_so)
      ∙ ap outcome_of (follows_stop pick)

  pub only_ends : (normal : Bool) → ends_node (restart_of s n a) normal ≡ false → (pick : Pick)
      → next s (event.Exit n a normal) pick ≡ outcome without_it stop_told
  unfolding next followed exited
  only_ends normal keeps pick =
      ap (λ (o : Course). outcome_of (settled pick (ready_come_up o)))
      (ap (λ (b : Bool). cond b (ended course_then n) (stopped course_then n a)) keeps ∙ stopped_so)
      ∙ ap outcome_of (follows_stop pick)

  -- ---- where it waits

  -- it is as it was, or to run nowhere
  abbrev quiet_by : Standing → Bool → StateView
  quiet_by (Wanted from) somewhere = cond somewhere left (with_standing left a Quiet)
  quiet_by (Lost m) somewhere = cond somewhere left (without_due (with_standing left a Quiet) (Failover a))
  quiet_by st somewhere = left

  abbrev waits_standings : Standing → Bool → List Standing
  waits_standings (Wanted from) somewhere = cond somewhere s.standings (slice_set s.standings a.0 Quiet)
  waits_standings (Lost m) somewhere = cond somewhere s.standings (slice_set s.standings a.0 Quiet)
  waits_standings st somewhere = s.standings

  abbrev waits_timers : Standing → Bool → List (ℕ × Timer)
  waits_timers (Lost m) somewhere = cond somewhere s.timers (without_due (with_standing left a Quiet) (Failover a)).timers
  waits_timers st somewhere = s.timers

  abbrev somewhere_then : Bool
  somewhere_then = is_started_anywhere left a

  abbrev pub gone : StateView
  gone = stands (waits_standings (standing_of s a) somewhere_then) (waits_timers (standing_of s a) somewhere_then)

  gone_so : (st : Standing) (b : Bool) → quiet_by st b ≡ stands (waits_standings st b) (waits_timers st b)
  gone_so Quiet b = refl
  gone_so (Wanted from) true = refl
  gone_so (Wanted from) false = refl
  gone_so (Running m) b = refl
  gone_so (Lost m) true = refl
  gone_so (Lost m) false = refl

  quiet_so : (st : Standing) → quiet_if_nowhere left a st ≡ quiet_by st somewhere_then
  quiet_so Quiet = refl
  quiet_so (Wanted from) = refl
  quiet_so (Running m) = refl
  quiet_so (Lost m) = refl

  gone_wanted : (st : Standing) (somewhere : Bool) (b : App) (from : Option Node)
      → unwrap_or (slice_get (waits_standings st somewhere) b.0) Quiet ≡ Wanted from → standing_of s b ≡ Wanted from
  gone_wanted Quiet somewhere b from is = is
  gone_wanted (Wanted k) true b from is = is
  gone_wanted (Wanted k) false b from is = still_wanted b from is
  gone_wanted (Running m) somewhere b from is = is
  gone_wanted (Lost m) true b from is = is
  gone_wanted (Lost m) false b from is = still_wanted b from is

  left_so : left_waiting course_then n a ≡ course_of gone [] []
  unfolding left_waiting
  left_so = ap (now_in course_then) (quiet_so (standing_of s a) ∙ gone_so (standing_of s a) somewhere_then)

  pub only_leaves : runs_at s n a ≡ false → (pick : Pick) → next s (event.Stop n a) pick ≡ outcome gone []
  unfolding next followed
  only_leaves runs_not pick =
      ap (λ (o : Course). outcome_of (settled pick (ready_come_up o)))
      (ap (λ (b : Bool). cond b (stopped course_then n a) (left_waiting course_then n a)) runs_not ∙ left_so)
      ∙ ap outcome_of
      (nothing_follows (waits_standings (standing_of s a) somewhere_then) (waits_timers (standing_of s a) somewhere_then)
      (gone_wanted (standing_of s a) somewhere_then) [] pick)
