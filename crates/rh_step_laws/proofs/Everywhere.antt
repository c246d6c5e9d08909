-- What is left of an application that is stopped at all its nodes, and where one is started that is started at all of them.
use Rattle.std.proofs.Common.{◌≡◌, ◌&&◌, Bool, true, false, List, [], Option, Some, None, is_some, ap, ◌∙◌, arith}
use Rattle.rh_model.specs.declared.settings.Restart.{Restart}
use Rattle.rh_model.specs.declared.settings.Restart.TheVariants.{Temporary}
use Rattle.rh_model.specs.ClusterView.{ClusterView, is_listed_at}
use Rattle.rh_state.specs.declared.status.Standing.TheVariants.{Quiet}
use Rattle.rh_state.specs.declared.status.Timer.TheVariants.{Failover}
use Rattle.rh_state.specs.Standings.{is_lost}
use Rattle.rh_state.specs.Tables.{cell}
use Rattle.rh_state.specs.StateView.{StateView, mode_of, is_up, is_started, restart_of, standing_of, due_of}
use Rattle.rh_rules.specs.declared.pick.Pick.{Pick}
use Rattle.rh_rules.specs.Course.{Course, course_of, is_local}
use Rattle.rh_rules.specs.Settling.{settled}
use Rattle.rh_trace.specs.Validity.{IsValid}
use Rattle.rh_trace.proofs.NextMoves.{up_within}
use Rattle.rh_settle.proofs.Resting.{rests, settled_rests}
use Rattle.rh_settle.proofs.Unchanged.{settled_restarts}
use Rattle.rh_rules.specs.declared.event.Event.{Event}
use Rattle.rh_rules.specs.declared.event.Event.TheVariants.{StartAll, StopAll}
use Rattle.rh_rules.specs.Steps.{change, followed, next}
use Rattle.rh_rules.specs.Everywhere.{start_all, stop_all}
use Rattle.rh_refusals.proofs.Accepted.{accepted_stop_all}
use Rattle.rh_events.proofs.EachEvent.{sound_changed}
use Rattle.rh_events.proofs.Fields.{SameNodes}
use Rattle.rh_events.proofs.SoundEndingLists.{lists_fit}
use Rattle.rh_events.proofs.StartingAll.{started_all_same, started_at_hosts, started_all_types}
use Rattle.rh_events.proofs.StoppingAll.{stopped_all_same, stopped_all_nowhere, stopped_all_quiet}
use Rattle.rh_step_laws.specs.Laws.{StopAllLeavesNothing, StartAllStartsEverywhere, StartAllKeepsTypes}
use Rattle.rh_step.proofs.AnyTime.{ready_alike}
use Rattle.rh_step_laws.proofs.StartedStays.{settled_keeps, settled_starts_none}
use Rattle.rh_step_laws.proofs.Stops.{none_rises}
use Rattle.rh_step.proofs.Validity.{next_valid}

-- no node comes up behind an event that leaves cluster and modes as they are
only_settles : (s : StateView) (e : Event) (pick : Pick) → IsValid s → SameNodes s (change (course_of s [] []) e).state
    → followed pick (course_of s [] []) e ≡ settled pick (change (course_of s [] []) e)
unfolding followed
only_settles s e pick valid same =
    let p : Course = change (course_of s [] []) e in
    ap (settled pick) (none_rises p (λ m. ready_alike s p.state m same.cluster same.modes ∙ valid.settled m))

nothing_set : {A : Type 0} (o : Option A) → is_some o ≡ false → o ≡ None
nothing_set None h = cc
nothing_set (Some x) h = absurd (cc h)

pub stop_all_leaves_nothing : StopAllLeavesNothing
unfolding next
stop_all_leaves_nothing s a pick valid fine =
    let o : Course = course_of s [] [] in
    let t : Course = stop_all o a in
    let h = accepted_stop_all s a fine in
    let sound = sound_changed o (StopAll a) valid.sound fine in
    let size = valid.sound.shaped.standings in
    let app = h.app in
    let same = stopped_all_same o a in
    let far : is_local t.state.cluster a ≡ false = ap (λ (c : ClusterView). is_local c a) same.cluster ∙ h.distributed in
    let only = only_settles s (StopAll a) pick valid same in
    let quiet : standing_of t.state a ≡ Quiet = stopped_all_quiet o a (omega (arith, size, app)) in
    let still : standing_of (followed pick o (StopAll a)).state a ≡ Quiet =
    ap (λ (p : Course). standing_of p.state a) only ∙ settled_rests pick t a (ap rests quiet) ∙ quiet in
    let later = next_valid s (StopAll a) pick valid fine in (
      still,
      λ n. ap (λ (p : Course). is_started p.state n a) only
          ∙ settled_starts_none pick t n a sound far quiet (stopped_all_nowhere o a n (lists_fit s valid.sound)),
      nothing_set (due_of (followed pick o (StopAll a)).state (Failover a)) (later.sound.timers.failover a ∙ ap is_lost still),
    )

both_hold : (p q : Bool) → p ≡ true → q ≡ true → p && q ≡ true
both_hold true q h k = k
both_hold false q h k = absurd (cc h)

pub start_all_starts_everywhere : StartAllStartsEverywhere
unfolding next
start_all_starts_everywhere s a r pick n valid fine up listed =
    let o : Course = course_of s [] [] in
    let t : Course = start_all o a r in
    let sound = sound_changed o (StartAll a r) valid.sound fine in
    let node = up_within s n valid.sound.shaped.modes up in
    ap (λ (p : Course). is_started p.state n a) (only_settles s (StartAll a r) pick valid (started_all_same o a r))
    ∙ settled_keeps pick t n a sound
    (started_at_hosts o a r n valid.sound.shaped.waiting (both_hold (is_up (mode_of s n)) (is_listed_at s.cluster a n) up listed) node)

pub start_all_keeps_types : StartAllKeepsTypes
unfolding next
start_all_keeps_types s a r pick n valid fine on =
    let o : Course = course_of s [] [] in
    ap (λ (p : Course). restart_of p.state n a) (only_settles s (StartAll a r) pick valid (started_all_same o a r))
    ∙ ap (λ (table : List (List Restart)). cell table n.0 a.0 Temporary) (settled_restarts pick (start_all o a r))
    ∙ started_all_types o a r n on
