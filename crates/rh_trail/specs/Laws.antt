-- What holds of a simulation after any list of calls (ours).
use Rattle.std.specs.Prelude.{◌≡◌, ◌≤◌, ◌+◌, ◌-◌, ℕ, List, length, take, replicate, Bool, true, false}
use Rattle.rh_model.specs.ClusterView.{ClusterView, IsWithin}
use Rattle.rh_rules.specs.declared.event.Event.{Event}
use Rattle.rh_rules.specs.declared.notice.Notice.{Notice}
use Rattle.rh_rules.specs.declared.pick.Pick.{Pick}
use Rattle.rh_calls.specs.declared.call.Call.{Call}
use Rattle.rh_calls.specs.declared.call.Call.TheVariants as call
use Rattle.rh_calls.specs.declared.call.Reply.{Reply}
use Rattle.rh_calls.specs.declared.call.Reply.TheVariants as reply
use Rattle.rh_state.specs.First.{first}
use Rattle.rh_rules.specs.Steps.{outcome, Allowed}
use Rattle.rh_trace.specs.Validity.{IsValid}
use Rattle.rh_step.specs.Runs.{after}
use Rattle.rh_trail.specs.SimView.{SimView, state_of}
use Rattle.rh_trail.specs.Lone.{served, sim_after, opened, trail_limit}

-- the replies of calls that changed nothing
abbrev pub is_refusal : Reply → Bool
is_refusal (reply.Refused _) = true
is_refusal reply.AtStart = true
is_refusal reply.AtEnd = true
is_refusal (reply.Done _) = false
is_refusal reply.Undone = false
is_refusal reply.Redone = false
is_refusal (reply.Moved _) = false
is_refusal (reply.Seen _ _ _) = false

-- the simulation after one more call
abbrev pub next_sim : SimView → Call → SimView
next_sim s call = (served s call).sim

-- the step of this event is accepted and has these notices
abbrev pub Accepts : SimView → Event → List Notice → Type 0
Accepts s e notices = (served s (call.Step e)).reply ≡ reply.Done notices

-- an accepted step is one that the rules allow; undoing it restores the whole earlier state, and redoing it the whole later
-- simulation
pub record IsStepReversible (s : SimView) (e : Event) (notices : List Notice) : Type 0 where
  pub allowed : Allowed (state_of s) e (outcome (state_of (next_sim s (call.Step e))) notices)
  pub undone : state_of (next_sim (next_sim s (call.Step e)) call.Undo) ≡ state_of s
  pub redone : next_sim (next_sim (next_sim s (call.Step e)) call.Undo) call.Redo ≡ next_sim s (call.Step e)

-- a step that was taken back is made again by redo, and the other way round; undoing all gives the first state, and redoing
-- all the last one
pub record GoesBackAndForth (s : SimView) : Type 0 where
  -- to any depth: behind k steps back stands the state after the events that are left, behind k steps forth that after k more
  pub back_to : (k : ℕ) → k ≤ s.cursor → state_of (sim_after s (replicate k call.Undo)) ≡ after s.cluster s.pick (take (s.cursor - k) s.trail)
  pub forth_to : (k : ℕ) → s.cursor + k ≤ length s.trail → state_of (sim_after s (replicate k call.Redo)) ≡ after s.cluster s.pick (take (s.cursor + k) s.trail)
  pub back : (served s call.Undo).reply ≡ reply.Undone → next_sim (next_sim s call.Undo) call.Redo ≡ s
  pub forth : (served s call.Redo).reply ≡ reply.Redone → next_sim (next_sim s call.Redo) call.Undo ≡ s
  pub all_undone : state_of (next_sim s call.UndoAll) ≡ first s.cluster
  pub all_redone : state_of (next_sim s call.RedoAll) ≡ after s.cluster s.pick s.trail

pub record IsReversible (s : SimView) : Type 0 where
  pub within : s.cursor ≤ length s.trail
  pub limited : length s.trail ≤ trail_limit
  -- the state is one that a cluster reaches
  pub valid : IsValid (state_of s)
  pub steps : (e : Event) (notices : List Notice) → Accepts s e notices → IsStepReversible s e notices
  pub moves : GoesBackAndForth s
  -- a refused call changes nothing
  pub refused : (call : Call) → is_refusal (served s call).reply ≡ true → next_sim s call ≡ s

-- after any list of calls to a simulation of a cluster that is read from a file
abbrev pub CallsAreReversible : Type 0
CallsAreReversible = (c : ClusterView) (pick : Pick) (calls : List Call) → IsWithin c → IsReversible (sim_after (opened c pick) calls)
