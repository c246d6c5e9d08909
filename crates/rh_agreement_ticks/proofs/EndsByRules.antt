-- By the manual's rules a node whose wait ends without one that it must have ends, and that is all: nothing ran there, no other node comes
-- up, and no application moves.
use Rattle.std.proofs.Common.{◌≡◌, ◌<◌, ◌≤◌, ◌++◌, ℕ, Bool, true, false, cond, List, [], ◌∷◌, fold, None, Some, refl, sym, ap, subst, ◌∙◌, arith}
use Rattle.std.proofs.lemmas.Bool.{eqb-true, false≢true}
use Rattle.rh_model.specs.ClusterView.{mandatory_of}
use Rattle.rh_model.specs.declared.node.App.{App}
use Rattle.rh_model.specs.declared.node.Node.{Node}
use Rattle.rh_rules.specs.declared.notice.Notice.{Notice}
use Rattle.rh_rules.specs.declared.notice.Notice.TheVariants as notice
use Rattle.rh_rules.specs.declared.pick.Pick.{Pick}
use Rattle.rh_rules.specs.Course.{Course, course_of}
use Rattle.rh_rules.specs.NodesEnd.{timeout_of, cleared, lost_at, lost_from, lost_if_ran, all_lost, ended}
use Rattle.rh_rules.specs.NodesStart.{all_alive, come_up, ready_come_up}
use Rattle.rh_rules.specs.Placing.{picked}
use Rattle.rh_rules.specs.Settling.{nexts, settled, waits_told}
use Rattle.rh_rules.specs.Steps.{Outcome, followed, next}
use Rattle.rh_rules.specs.Time.{effect, taken_off, fired}
use Rattle.rh_state.specs.declared.status.Mode.{Mode}
use Rattle.rh_state.specs.declared.status.Mode.TheVariants as mode
use Rattle.rh_state.specs.declared.status.Standing.{Standing}
use Rattle.rh_state.specs.declared.status.Standing.TheVariants.{Quiet, Wanted, Running, Lost}
use Rattle.rh_state.specs.declared.status.Timer.{Timer}
use Rattle.rh_state.specs.declared.status.Timer.TheVariants.{Sync}
use Rattle.rh_state.specs.Limits.{time_limit}
use Rattle.rh_state.specs.Lists.{has_app}
use Rattle.rh_state.specs.Numbers.{same_node, apps_of}
use Rattle.rh_state.specs.Setters.{with_time}
use Rattle.rh_state.specs.Shape.{IsNodeOf}
use Rattle.rh_state.specs.StateView.{StateView, earliest, mode_of, is_up, is_waiting, running_at, standing_of}
use Rattle.rh_trace.specs.Validity.{IsSound, IsValid}
use Rattle.rh_trace.proofs.NextFirsts.{still_if_none_enabled}
use Rattle.rh_trace.proofs.TimersToldApart.{least-first}
use Rattle.rh_settle.proofs.Fuel as fuel
use Rattle.rh_settle.proofs.Searches.{none_of_none}
use Rattle.rh_step.proofs.AnyTime.{ready_alike, moves_alike}
use Rattle.rh_step.proofs.Fuel.{due_is_first, due_within}
use Rattle.rh_step.proofs.TakenOff.{sound_at, sync_effect, waits_to_end, waiting_node}
use Rattle.rh_step.proofs.TickedValid.{fired_valid}
use Rattle.rh_agreement.proofs.Ending as ending
use Rattle.rh_agreement_calls.proofs.Fewer.{none_comes_up}
use Rattle.rh_agreement_ticks.specs.Passing.{EndsItsWait, ended_at}

-- ---- where nothing runs at a node nothing is lost with it

same_named : (m n : Node) → same_node m n ≡ true → m ≡ n
same_named m n is = let same : m.0 ≡ n.0 = eqb-true m.0 n.0 is in λ i. record { 0 = same i }

one_stays : (n : Node) (s : StateView) (a : App) → ((b : App) → standing_of s b ≡ Running n → ⊥) → lost_if_ran n s a ≡ s
unfolding lost_if_ran
one_stays n s a none = by (standing_of s a) refl
  where
    at : (k : Node) → standing_of s a ≡ Running k → (b : Bool) → same_node k n ≡ b → cond b (lost_at s n a) s ≡ s
    at k stands true is = absurd (none a (stands ∙ ap Running (same_named k n is)))
    at k stands false is = refl

    by : (st : Standing) → standing_of s a ≡ st → lost_from s n a st ≡ s
    by (Running k) is = at k is (same_node k n) refl
    by Quiet is = refl
    by (Wanted from) is = refl
    by (Lost k) is = refl

all_stay : (n : Node) (apps : List App) (s : StateView) → ((b : App) → standing_of s b ≡ Running n → ⊥)
    → fold (lost_if_ran n) s apps ≡ s
all_stay n [] s none = refl
all_stay n (a ∷ apps) s none = ap (λ (t : StateView). fold (lost_if_ran n) t apps) (one_stays n s a none) ∙ all_stay n apps s none

not_up : (m : Mode) → is_waiting m ≡ true → is_up m ≡ false
not_up mode.Waiting is = refl
not_up mode.Down is = absurd (false≢true is)
not_up mode.Up is = absurd (false≢true is)

-- ---- the end of the wait

module _ (end : ℕ) (s : StateView) (n : Node) (ends : EndsItsWait end s n) (valid : IsValid s) (within : end ≤ time_limit) where
  abbrev pub entry : ℕ × Timer
  entry = (ends.due, Sync n)

  at_first : earliest s ≡ Some entry
  at_first = due_is_first end s entry ends.timer

  in_time : ends.due ≤ end
  in_time = due_within end (earliest s) entry ends.timer

  waits : is_waiting (mode_of s n) ≡ true
  waits = waits_to_end s ends.due n valid.sound at_first

  pub inside : IsNodeOf s.cluster n
  inside = waiting_node s n valid.sound waits

  -- nothing runs there
  none_runs : (a : App) → standing_of s a ≡ Running n → ⊥
  none_runs a stands =
      let none : running_at s n ≡ [] = valid.sound.idle.running n (not_up (mode_of s n) waits) in
      false≢true (sym (ap (λ (apps : List App). has_app apps a) none) ∙ valid.sound.runs.runs a n stands)

  -- the same at that time
  abbrev then : StateView
  then = with_time s ends.due

  sound_then : IsSound then
  sound_then =
      let soon : ends.due ≤ end = in_time in
      sound_at s ends.due (omega (arith, soon, within)) valid.sound (least-first entry s.timers at_first valid.sound.timers.order)

  valid_then : IsValid then
  valid_then = record {
    sound = sound_then;
    settled = λ m. ready_alike s then m refl refl ∙ valid.settled m;
    still = (still_if_none_enabled then []).0 (moves_alike s ends.due [] ∙ (still_if_none_enabled s []).1 valid.still);
  }

  timed : (a : App) → standing_of then a ≡ Running n → 0 < timeout_of then.cluster a
  timed a stands = absurd (none_runs a stands)

  -- ---- it ends

  abbrev behind : StateView
  behind = ended_at ends.due n s

  over_is : ending.over then n ≡ behind
  unfolding ended all_lost cleared
  over_is = all_stay n (apps_of s.cluster) behind none_runs

  lacks_then : all_alive then (mandatory_of s.cluster n) ≡ false
  unfolding all_alive
  lacks_then = ends.lacks

  module _ (pick : Pick) where
    abbrev at_time : List Notice → Course
    at_time told = course_of then told []

    effect_so : (told : List Notice) → effect (taken_off (course_of s told []) entry) (Sync n) ≡ ended (at_time told) n
    effect_so told =
        sync_effect (course_of s told []) ends.due n
        ∙ ap (λ (b : Bool). cond b (come_up (at_time told) n) (ended (at_time told) n)) lacks_then

    -- where nothing was told before
    first_so : (fired pick (course_of s [] []) entry).state ≡ behind
    unfolding fired next followed
    first_so =
        ap (λ (o : Course). (settled pick (ready_come_up o)).state) (effect_so [])
        ∙ ap (λ (o : Outcome). o.state) (ending.only_ends then n valid_then inside timed pick)
        ∙ over_is

    valid_behind : IsValid behind
    valid_behind = subst IsValid first_so (fired_valid pick end (course_of s [] []) entry within valid ends.timer)

    module _ (told : List Notice) where
      abbrev course : Course
      course = course_of behind (told ++ notice.Ended n ∷ []) []

      ended_so : ended (at_time told) n ≡ course
      unfolding ended
      ended_so = ap (λ (t : StateView). course_of t (told ++ notice.Ended n ∷ []) []) over_is

      no_next : picked pick (nexts course) ≡ None
      no_next = ap (picked pick) ((still_if_none_enabled behind []).1 valid_behind.still) ∙ sym (none_of_none pick)

      pub fires_so : fired pick (course_of s told []) entry ≡ course
      unfolding fired
      fires_so =
          ap (λ (o : Course). settled pick (ready_come_up o)) (effect_so told ∙ ended_so)
          ∙ ap (settled pick) (none_comes_up behind behind refl refl valid_behind.settled (told ++ notice.Ended n ∷ []) [])
          ∙ ap waits_told (fuel.ended pick course no_next)
