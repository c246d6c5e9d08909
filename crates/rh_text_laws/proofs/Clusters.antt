-- A simulation stays on its cluster.
use Rattle.std.proofs.Common.{◌≡◌, ℕ, zero, suc, ◌+◌, Bool, true, false, cond, List, [], ◌∷◌, ◌==◌, ◌-◌, fold, length, take, Option, Some, None, refl, ◌∙◌}
use Rattle.rh_rules.specs.declared.pick.Pick.{Pick}
use Rattle.rh_state.specs.declared.status.Timer.{Timer}
use Rattle.rh_state.specs.StateView.{StateView, earliest}
use Rattle.rh_state.specs.First.{first}
use Rattle.rh_rules.specs.Course.{Course, course_of}
use Rattle.rh_settle.proofs.Unchanged.{settled_cluster}
use Rattle.rh_rules.specs.declared.event.Event.{Event}
use Rattle.rh_rules.specs.declared.event.Event.TheVariants.{Tick}
use Rattle.rh_rules.specs.declared.refusal.Refusal.{Refusal}
use Rattle.rh_rules.specs.declared.refusal.Refusal.TheVariants.{TrailFull}
use Rattle.rh_rules.specs.Refusals.{refused}
use Rattle.rh_rules.specs.NodesStart.{ready_come_up}
use Rattle.rh_rules.specs.Steps.{change, followed, next_from, next}
use Rattle.rh_events.proofs.SoundComingUp.{ready_come_up_cluster}
use Rattle.rh_events.proofs.EachEvent.{change_cluster}
use Rattle.rh_rules.specs.Time.{due_by, effect, taken_off, fired, go_on, fired_by, all_fired, ticked}
use Rattle.rh_step.proofs.Firing.{effect_cluster}
use Rattle.rh_calls.specs.declared.call.Call.{Call}
use Rattle.rh_calls.specs.declared.call.Call.TheVariants as call
use Rattle.rh_calls.specs.declared.call.Reply.TheVariants as reply
use Rattle.rh_step.specs.Runs.{step}
use Rattle.rh_trail.specs.SimView.{SimView, state_of}
use Rattle.rh_trail.specs.Lone.{answered, stepped, served, with_event, sim_after, trail_limit}

followed_cluster : (pick : Pick) (o : Course) (e : Event) → (followed pick o e).state.cluster ≡ o.state.cluster
unfolding followed
followed_cluster pick o e = settled_cluster pick (ready_come_up (change o e)) ∙ ready_come_up_cluster (change o e) ∙ change_cluster o e

fired_cluster : (pick : Pick) (o : Course) (entry : ℕ × Timer) → (fired pick o entry).state.cluster ≡ o.state.cluster
unfolding fired
fired_cluster pick o entry =
    let now = effect (taken_off o entry) entry.1 in
    settled_cluster pick (ready_come_up now) ∙ ready_come_up_cluster now ∙ effect_cluster (taken_off o entry) entry.1

firings_cluster : (pick : Pick) (most limit : ℕ) (o : Course) → (fired_by pick most limit o).state.cluster ≡ o.state.cluster
unfolding fired_by
firings_cluster pick zero limit o = refl
firings_cluster pick (suc most) limit o = by (λ entry. firings_cluster pick most limit (fired pick o entry)) (due_by limit (earliest o.state))
  where
    by : ((entry : ℕ × Timer) → (fired_by pick most limit (fired pick o entry)).state.cluster ≡ (fired pick o entry).state.cluster)
        → (due : Option (ℕ × Timer)) → (go_on o due (λ entry. fired_by pick most limit (fired pick o entry))).state.cluster ≡ o.state.cluster
    by rest None = refl
    by rest (Some entry) = rest entry ∙ fired_cluster pick o entry

from_cluster : (pick : Pick) (o : Course) (e : Event) → (next_from o e pick).state.cluster ≡ o.state.cluster
unfolding all_fired ticked
from_cluster pick o (Tick ms) = firings_cluster pick (length o.state.timers) (o.state.time + ms) o
from_cluster pick o e = followed_cluster pick o e

step_cluster : (pick : Pick) (s : StateView) (e : Event) → (step pick s e).cluster ≡ s.cluster
unfolding next step
step_cluster pick s e = from_cluster pick (course_of s [] []) e

fold_cluster : (pick : Pick) (s : StateView) (events : List Event) → (fold (step pick) s events).cluster ≡ s.cluster
fold_cluster pick s [] = refl
fold_cluster pick s (e ∷ es) = fold_cluster pick (step pick s e) es ∙ step_cluster pick s e

served_cluster : (s : SimView) (asked : Call) → (served s asked).sim.cluster ≡ s.cluster
served_cluster s (call.Step e) = by (refused (state_of s) e)
  where
    room : (b : Bool) → (cond b (answered (reply.Refused TrailFull) s) (answered (reply.Done (next (state_of s) e s.pick).notices) (with_event s e))).sim.cluster ≡ s.cluster
    room true = refl
    room false = refl

    by : (o : Option Refusal) → (stepped s e o).sim.cluster ≡ s.cluster
    by (Some why) = refl
    by None = room (s.cursor == trail_limit)
served_cluster s call.Undo = by (s.cursor == 0)
  where
    by : (b : Bool) → (cond b (answered reply.AtStart s) (answered reply.Undone (record s { cursor = s.cursor - 1 }))).sim.cluster ≡ s.cluster
    by true = refl
    by false = refl
served_cluster s call.Redo = by (s.cursor == length s.trail)
  where
    by : (b : Bool) → (cond b (answered reply.AtEnd s) (answered reply.Redone (record s { cursor = s.cursor + 1 }))).sim.cluster ≡ s.cluster
    by true = refl
    by false = refl
served_cluster s call.UndoAll = refl
served_cluster s call.RedoAll = refl
served_cluster s call.Look = refl

pub sim_cluster : (s : SimView) (calls : List Call) → (sim_after s calls).cluster ≡ s.cluster
sim_cluster s [] = refl
sim_cluster s (asked ∷ calls) = sim_cluster (served s asked).sim calls ∙ served_cluster s asked

pub state_cluster : (s : SimView) → (state_of s).cluster ≡ s.cluster
state_cluster s = fold_cluster s.pick (first s.cluster) (take s.cursor s.trail)
