-- By the manual's rules a distributed application that is forbidden where it runs, and can run nowhere else, stops, and that is all.
use Rattle.std.proofs.Common.{◌≡◌, ◌<◌, ◌&&◌, ℕ, Bool, true, false, cond, List, [], ◌∷◌, length, None, refl, sym, ap, subst, ◌∙◌, inl, inr}
use Rattle.std.proofs.lemmas.Bool.{cases_eq, false≢true}
use Rattle.rh_base.proofs.Truths.{both, same_refl}
use Rattle.rh_model.specs.ClusterView.{numbered, app_numbered}
use Rattle.rh_model.specs.declared.node.App.{App}
use Rattle.rh_model.specs.declared.node.Node.{Node}
use Rattle.rh_rules.specs.declared.event.Event.TheVariants as event
use Rattle.rh_rules.specs.declared.notice.Move.TheVariants.{Local, Placement, Takeover}
use Rattle.rh_rules.specs.declared.notice.Notice.{Notice}
use Rattle.rh_rules.specs.declared.notice.Notice.TheVariants as notice
use Rattle.rh_rules.specs.declared.pick.Pick.{Pick}
use Rattle.rh_rules.specs.ByHand.{forbidden, permission_set, permitted}
use Rattle.rh_rules.specs.Course.{Course, course_of, told, now_in}
use Rattle.rh_rules.specs.Moves.{with_stopped}
use Rattle.rh_rules.specs.NodesStart.{ready_come_up}
use Rattle.rh_rules.specs.Placing.{deps_run, is_operational, picked}
use Rattle.rh_rules.specs.Settling.{NoneEnabled, nexts, settled, waits_told}
use Rattle.rh_rules.specs.Steps.{outcome, outcome_of, followed, next}
use Rattle.rh_state.specs.declared.status.Standing.TheVariants.{Quiet, Wanted}
use Rattle.rh_state.specs.Setters.{with_allowed, with_standing}
use Rattle.rh_state.specs.StateView.{StateView, is_up, mode_of, is_started, is_allowed, runs_at, waits_at}
use Rattle.rh_trace.specs.Validity.{IsValid}
use Rattle.rh_state.specs.Shape.{IsNodeOf}
use Rattle.rh_trace.proofs.Entries.{taken, length_taken, put_gives}
use Rattle.rh_trace.proofs.NextFirsts.{still_if_none_enabled}
use Rattle.rh_trace.proofs.NextMoves.{left_true, right_true, all_called}
use Rattle.rh_trace.proofs.Places.{at_set}
use Rattle.rh_settle.proofs.Fuel as fuel
use Rattle.rh_settle.proofs.Searches.{none_of_none}
use Rattle.rh_step.proofs.StartsFewer.{StartsFewer, forbidden_fewer}
use Rattle.rh_agreement_calls.proofs.Fewer.{Lessens, none_comes_up}
use Rattle.rh_agreement_calls.proofs.Fewer as fewer
use Rattle.rh_agreement_permits.specs.Stops.{CanRunThereAlone}
use Rattle.rh_agreement_permits.proofs.Unmoved.{flag_was}

module _ (s : StateView) (n : Node) (a : App) (valid : IsValid s) (node : IsNodeOf s.cluster n)
    (can : CanRunThereAlone s n a) where
  -- it waits there, forbidden
  abbrev waiting : StateView
  waiting = with_stopped (with_allowed s n a false) n a

  -- and is to run somewhere
  abbrev pub then : StateView
  then = with_standing waiting a (Wanted None)

  abbrev stop_told : List Notice
  stop_told = notice.Stopped a n ∷ []

  forbidden_so : permitted (course_of s [] []) n a false ≡ course_of then stop_told []
  unfolding permitted forbidden
  forbidden_so =
      (λ i. cond (can.may i && can.runs i) (forbidden (course_of s [] []) n a) (permission_set (course_of s [] []) n a false))
      ∙ ap (λ (b : Bool). told (now_in (course_of s [] []) (cond b waiting then)) (notice.Stopped a n)) can.spread

  -- ---- no more can run than before

  fewer_then : StartsFewer s then
  fewer_then = subst (λ (b : Bool). StartsFewer s (cond b waiting then)) can.spread (forbidden_fewer s n a)

  less : Lessens s waiting
  less = record {
    fewer = record {
      cluster = refl;
      waited = λ m b waits may. fewer_then.waited m b waits may;
      ran = λ m b runs. fewer_then.ran m b runs;
    };
    allowed = λ m b may. flag_was s.allowed n.0 m.0 a.0 b.0 false may (λ was. was) (λ here same on. absurd (false≢true on));
    modes = refl;
    standings = refl;
  }

  in_waiting : n.0 < length (taken s.waiting n.0 a)
  in_waiting = subst (λ (k : ℕ). n.0 < k) (sym valid.sound.shaped.waiting ∙ sym (length_taken s.waiting n.0 a)) node

  waits_now : waits_at waiting n a ≡ true
  waits_now = put_gives (taken s.waiting n.0 a) n.0 a a in_waiting (same_refl a.0)

  -- where it was running it waits forbidden
  no_longer : is_allowed waiting n a ≡ true → ⊥
  no_longer may = both (runs_at s n a) can.runs (valid.sound.once.apart n a (fewer_then.waited n a waits_now may).0)

  not_there : is_operational waiting a n ≡ true → ⊥
  unfolding is_operational
  not_there is =
      no_longer (left_true (is_allowed waiting n a) _ (right_true (is_started waiting n a) _ (right_true (is_up (mode_of s n)) _ is)))

  none_moves : NoneEnabled then []
  unfolding deps_run is_operational
  none_moves (Local m b) is = fewer.none_moves s waiting valid less (Local m b) is
  none_moves (Placement b from m) is =
      at_set s.standings a.0 b.0 (Wanted None) Quiet
      (λ same. fewer.none_moves s waiting valid less (Placement b from m) (
        is.0,
        sym same ∙ is.1,
        record { listed = is.2.listed; passes = is.2.passes; first = is.2.first; fewest = is.2.fewest },
      ))
      (λ one now.
      let can_then : is_operational waiting a m ≡ true = (λ i. is_operational waiting (app_numbered (sym one i)) m) ∙ is.2.passes in
      elim (cases_eq m.0 n.0) [
        | inl here ↦ not_there ((λ i. is_operational waiting a (numbered (sym here i))) ∙ can_then)
        | inr other ↦ both (is_operational s a m) (fewer.could_run s waiting valid less a m can_then) (can.nobody m other)
      ])
  none_moves (Takeover b k m) is = absurd (false≢true (all_called then [] b k m is.2.passes).1)

  abbrev course : Course
  course = course_of then stop_told []

  no_next : (pick : Pick) → picked pick (nexts course) ≡ None
  no_next pick = ap (picked pick) ((still_if_none_enabled then []).1 none_moves) ∙ sym (none_of_none pick)

  pub only_forbids : (pick : Pick) → next s (event.Permit n a false) pick ≡ outcome then stop_told
  unfolding next followed
  only_forbids pick =
      ap (λ (o : Course). outcome_of (settled pick (ready_come_up o))) forbidden_so
      ∙ ap (λ (o : Course). outcome_of (settled pick o)) (none_comes_up s then refl refl valid.settled stop_told [])
      ∙ ap (λ (o : Course). outcome_of (waits_told o)) (fuel.ended pick course (no_next pick))
