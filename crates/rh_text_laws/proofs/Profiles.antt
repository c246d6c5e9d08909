-- In each profile an event that gives no permission back has the same outcome.
use Rattle.std.proofs.Common.{◌≡◌, ℕ, zero, suc, ◌+◌, false, cond, [], length, Option, Some, None, refl, ap, ◌∙◌}
use Rattle.rh_model.specs.ClusterView.{mandatory_of}
use Rattle.rh_model.specs.declared.node.App.{App}
use Rattle.rh_state.specs.declared.status.Standing.{Standing}
use Rattle.rh_state.specs.declared.status.Standing.TheVariants.{Quiet, Wanted, Running, Lost}
use Rattle.rh_state.specs.declared.status.Timer.{Timer}
use Rattle.rh_state.specs.declared.status.Timer.TheVariants.{Sync, Failover}
use Rattle.rh_state.specs.StateView.{StateView, standing_of, earliest}
use Rattle.rh_state.specs.Setters.{with_time}
use Rattle.rh_rules.specs.declared.pick.Pick.{Pick}
use Rattle.rh_rules.specs.Course.{Course, course_of, now_in}
use Rattle.rh_rules.specs.NodesStart.{all_alive, come_up, ready_come_up}
use Rattle.rh_rules.specs.Settling.{settled}
use Rattle.rh_rules.specs.declared.event.Event.{Event}
use Rattle.rh_rules.specs.declared.event.Event.TheVariants.{Tick}
use Rattle.rh_rules.specs.NodesEnd.{ended, wanted_if_lost}
use Rattle.rh_rules.specs.Steps.{change, outcome_of, followed, next_from, next}
use Rattle.rh_rules.specs.Time.{due_by, effect, taken_off, fired, go_on, fired_by, all_fired, ticked}
use Rattle.rh_text_laws.specs.Profiles.{state_in, gives_back, SameUnderProfiles}
use Rattle.rh_text_laws.proofs.ProfileMoves.{swap, course_in, settled_alike}
use Rattle.rh_text_laws.proofs.ProfileChanges.{refused_alike, comes_alike, rising_alike, ended_alike, change_alike}

module _ (profile : ℕ) where
  abbrev along : Course → Course
  along = course_in profile

  rest_alike : (pick : Pick) (o : Course) → settled pick (ready_come_up (along o)) ≡ along (settled pick (ready_come_up o))
  rest_alike pick o = ap (settled pick) (rising_alike profile o) ∙ settled_alike profile pick (ready_come_up o)

  followed_alike : (pick : Pick) (o : Course) (e : Event) → gives_back o.state e ≡ false → followed pick (along o) e ≡ along (followed pick o e)
  unfolding followed
  followed_alike pick o e none = ap (λ (p : Course). settled pick (ready_come_up p)) (change_alike profile o e none) ∙ rest_alike pick (change o e)

  -- ---- time that passes
  lost_alike : (s : StateView) (a : App) (st : Standing) → wanted_if_lost (state_in profile s) a st ≡ state_in profile (wanted_if_lost s a st)
  lost_alike s a Quiet = refl
  lost_alike s a (Wanted from) = refl
  lost_alike s a (Running m) = refl
  lost_alike s a (Lost m) = refl

  effect_alike : (o : Course) (t : Timer) → effect (along o) t ≡ along (effect o t)
  unfolding all_alive
  effect_alike o (Sync n) =
      let alive = all_alive o.state (mandatory_of o.state.cluster n) in
      (λ i. cond alive (comes_alike profile o n i) (ended_alike profile o n i)) ∙ swap along alive (come_up o n) (ended o n)
  effect_alike o (Failover a) = ap (now_in o) (lost_alike o.state a (standing_of o.state a))

  fired_alike : (pick : Pick) (o : Course) (entry : ℕ × Timer) → fired pick (along o) entry ≡ along (fired pick o entry)
  unfolding fired
  fired_alike pick o entry =
      ap (λ (p : Course). settled pick (ready_come_up p)) (effect_alike (taken_off o entry) entry.1) ∙ rest_alike pick (effect (taken_off o entry) entry.1)

  firings_alike : (pick : Pick) (most limit : ℕ) (o : Course) → fired_by pick most limit (along o) ≡ along (fired_by pick most limit o)
  unfolding fired_by
  firings_alike pick zero limit o = refl
  firings_alike pick (suc most) limit o = by (λ entry. firings_alike pick most limit (fired pick o entry)) (due_by limit (earliest o.state))
    where
      by : ((entry : ℕ × Timer) → fired_by pick most limit (along (fired pick o entry)) ≡ along (fired_by pick most limit (fired pick o entry)))
          → (due : Option (ℕ × Timer)) → go_on (along o) due (λ entry. fired_by pick most limit (fired pick (along o) entry))
          ≡ along (go_on o due (λ entry. fired_by pick most limit (fired pick o entry)))
      by rest None = refl
      by rest (Some entry) = ap (fired_by pick most limit) (fired_alike pick o entry) ∙ rest entry

  ticked_alike : (pick : Pick) (o : Course) (ms : ℕ) → ticked pick (along o) ms ≡ along (ticked pick o ms)
  unfolding all_fired ticked
  ticked_alike pick o ms =
      ap (λ (p : Course). now_in p (with_time p.state (o.state.time + ms))) (firings_alike pick (length o.state.timers) (o.state.time + ms) o)

  -- ---- each event
  next_from_alike : (pick : Pick) (o : Course) (e : Event) → gives_back o.state e ≡ false → next_from (along o) e pick ≡ along (next_from o e pick)
  next_from_alike pick o (Tick ms) none = ticked_alike pick o ms
  next_from_alike pick o e none = followed_alike pick o e none

pub same_under_profiles : SameUnderProfiles
unfolding next
same_under_profiles profile s e pick =
    (refused_alike profile s e, λ none. ap outcome_of (next_from_alike profile pick (course_of s [] []) e none))
