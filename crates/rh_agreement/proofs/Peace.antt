-- Where both are at rest crashes, and ticks that reach no timer, are answered alike, and both are at rest again.
use Rattle.std.proofs.Common.{◌≡◌, ◌≤◌, ◌+◌, None, refl, sym, subst, ◌∙◌}
use Rattle.std.proofs.lemmas.Bool.{ltb-false}
use Rattle.rh_model.specs.ClusterView.{node_count}
use Rattle.rh_rules.specs.declared.event.Event.{Event}
use Rattle.rh_rules.specs.declared.event.Event.TheVariants as event
use Rattle.rh_rules.specs.Refusals.{refused}
use Rattle.rh_calls.specs.declared.call.Call.TheVariants as call
use Rattle.rh_step.specs.Runs.{step}
use Rattle.rh_step.proofs.Validity.{next_valid}
use Rattle.rh_trace.specs.Validity.{IsValid}
use Rattle.rh_trail.specs.Lone.{Served, served}
use Rattle.rh_trail.specs.SimView.{SimView, state_of}
use Rattle.rh_trail.proofs.Histories.{state_last}
use Rattle.rh_otp_sim.specs.Calls.{made_by}
use Rattle.rh_otp_sim.specs.Refusing.{refusal_of}
use Rattle.rh_otp_sim.specs.Sim.{LiveSimView, net_in}
use Rattle.rh_otp_sim.specs.Stepping.{cells_behind, stepped_with, with_step}
use Rattle.rh_otp_system.specs.Resting.{forgotten}
use Rattle.rh_otp_system.specs.State.{SystemView}
use Rattle.rh_otp_crashes.specs.Crashes.{FailOverLater}
use Rattle.rh_agreement.specs.Telling.{GoTogether}
use Rattle.rh_agreement.specs.Laws.{IsAnsweredAlike, HasRoom, IsStill}
use Rattle.rh_agreement.specs.Resting.{AreBothAtRest, TicksAtRestAreAnsweredAlike, CrashesAreAnsweredAlike, held}
use Rattle.rh_agreement.proofs.CrashAlike.{answered_alike, tells_the_end, behind_it, steps_so as crash_steps}
use Rattle.rh_agreement.proofs.Quiet.{quiet_ticks_alike, in_limit, behind, steps_so}
use Rattle.rh_agreement.proofs.Rest.{IsOver, rests_again, reached_again, rests_still, tick_over, crash_over}
use Rattle.rh_agreement.proofs.Stepping.{manual, live_made, unchanged_or_made}

-- by the manual's rules a step leads from a state that a cluster reaches to one
valid_behind : (sim : SimView) (l : LiveSimView) (e : Event) → GoTogether sim l → HasRoom sim l → IsValid (state_of sim) → refused (state_of sim) e ≡ None
    → IsValid (state_of (served sim (call.Step e)).sim)
unfolding step
valid_behind sim l e together room valid fine =
    subst (λ (s : Served). IsValid (state_of s.sim)) (sym (manual sim e fine room.steps))
    (subst IsValid (sym (state_last sim.cluster sim.pick sim.trail sim.cursor e together.within)) (next_valid (state_of sim) e sim.pick valid fine))

-- both are at rest behind a step that is over
module _ (sim : SimView) (l : LiveSimView) (e : Event) (last : SystemView) (together : GoTogether sim l) (room : HasRoom sim l)
    (at_rest : AreBothAtRest sim l) (fine : refused (state_of sim) e ≡ None) (live_fine : refusal_of (net_in l).clock e l ≡ None)
    (steps : stepped_with (net_in l) e l ≡ with_step (cells_behind (net_in l) (node_count l.cluster) last) l) (over : IsOver l last) where
  abbrev then : LiveSimView
  then = with_step (cells_behind (net_in l) (node_count l.cluster) last) l

  later_then : FailOverLater (held then)
  unfolding forgotten
  later_then = at_rest.later

  pub made : made_by (call.Step e) l ≡ then
  made = live_made sim l e together room live_fine ∙ steps

  pub both_rest : AreBothAtRest (served sim (call.Step e)).sim (made_by (call.Step e) l)
  both_rest =
      subst (AreBothAtRest (served sim (call.Step e)).sim) (sym made)
      (record {
        valid = valid_behind sim l e together room at_rest.valid fine;
        reached = reached_again l last over;
        rest = rests_again l last over;
        later = later_then;
      })

-- ---- a tick

pub ticks_alike : TicksAtRestAreAnsweredAlike
ticks_alike sim l ms together room at_rest none =
    let still : IsStill ms sim l = rests_still sim l ms at_rest.reached at_rest.rest none in
    let alike : IsAnsweredAlike (call.Step (event.Tick ms)) sim l
    × GoTogether (served sim (call.Step (event.Tick ms))).sim (made_by (call.Step (event.Tick ms)) l) =
    quiet_ticks_alike sim l ms together room still in (
      alike.0,
      alike.1,
      unchanged_or_made AreBothAtRest sim l (event.Tick ms) refl refl together at_rest
          (λ fine live_fine.
          let within : (net_in l).clock + ms ≤ 1000000000000 = ltb-false 1000000000000 ((net_in l).clock + ms) (in_limit _ _ _ _ live_fine) in
          both_rest sim l (event.Tick ms) (behind ms sim l still within) together room at_rest fine live_fine (steps_so ms sim l still within)
          (tick_over sim l ms together.now.cells at_rest.reached at_rest.rest none still within)),
    )

-- ---- a crash

pub crashes_alike : CrashesAreAnsweredAlike
crashes_alike sim l n together room at_rest peace =
    let alike : IsAnsweredAlike (call.Step (event.Crash n)) sim l
    × GoTogether (served sim (call.Step (event.Crash n))).sim (made_by (call.Step (event.Crash n)) l) =
    answered_alike sim l n together room at_rest peace in (
      alike.0,
      alike.1,
      unchanged_or_made AreBothAtRest sim l (event.Crash n) refl refl together at_rest
          (λ fine live_fine.
          both_rest sim l (event.Crash n) (behind_it l n peace.ends) together room at_rest fine live_fine (crash_steps l n peace.ends)
          (crash_over l n peace.ends together.now.cells at_rest.reached at_rest.rest at_rest.later)),
      tells_the_end sim l n together room at_rest peace,
    )
