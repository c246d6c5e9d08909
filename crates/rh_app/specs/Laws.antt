-- The promise of the product, of what is kept and of what is answered (ours).
use Rattle.std.specs.Prelude.{◌≡◌, ◌≤◌, ◌++◌, ◌∷◌, [], ℕ, List, Ok, true}
use Rattle.rh_model.specs.ClusterView.{ClusterView}
use Rattle.rh_cluster.specs.ClusterOf.{cluster_of}
use Rattle.rh_rules.specs.declared.pick.Pick.{Pick}
use Rattle.rh_rules.specs.declared.notice.Notice.{Notice}
use Rattle.rh_rules.specs.declared.event.Event.{Event}
use Rattle.rh_calls.specs.declared.call.Call.{Call}
use Rattle.rh_calls.specs.declared.call.Call.TheVariants as call
use Rattle.rh_calls.specs.declared.call.Reply.TheVariants as reply
use Rattle.rh_trail.specs.Chain.{kept_to}
use Rattle.rh_trail.specs.SimView.{SimView}
use Rattle.rh_trail.specs.Lone.{opened, sim_after}
use Rattle.rh_trail.specs.Laws.{IsReversible, IsStepReversible, is_refusal, next_sim}
use Rattle.rh_room.specs.declared.pass.Entry.{Entry}
use Rattle.rh_room.specs.Legal.{IsLegal, calls}

-- ---- what is kept

-- no step of these calls is made where fewer than k events stand: so the words behind k events stay
abbrev pub KeepsTo : SimView → List Call → ℕ → Type 0
KeepsTo s [] k = Unit {0}
KeepsTo s (call ∷ calls) k = (k ≤ kept_to s call) × KeepsTo (next_sim s call) calls k

-- ---- what is answered

-- from every state that a cluster file and any list of calls reach
abbrev pub RehearsalsAreReversible : Type 0
RehearsalsAreReversible =
    (bytes : List ℕ) (c : ClusterView) (pick : Pick) (calls : List Call) → cluster_of bytes ≡ Ok c → IsReversible (sim_after (opened c pick) calls)

-- ---- several sessions

-- an entry of a log, from the simulation that its call was made of: a step that was accepted is one that the rules allow, undoing
-- it restores the whole earlier state, and redoing it the whole later simulation; a call that was refused changed nothing
pub record IsEntryReversible (s : SimView) (e : Entry) : Type 0 where
  pub step : (event : Event) (notices : List Notice) → e.call ≡ call.Step event → e.reply ≡ reply.Done notices → IsStepReversible s event notices
  pub refused : is_refusal e.reply ≡ true → next_sim s e.call ≡ s

-- wherever a log is parted, the simulation behind the earlier calls is reversible, and so is the entry that comes next
pub record IsLogReversible (start : SimView) (log : List Entry) : Type 0 where
  pub behind : (earlier later : List Entry) → log ≡ earlier ++ later → IsReversible (sim_after start (calls earlier))
  pub entries : (earlier : List Entry) (e : Entry) (later : List Entry) → log ≡ earlier ++ e ∷ later → IsEntryReversible (sim_after start (calls earlier)) e

-- over every legal log, in whatever order the calls of the sessions stand there
abbrev pub SessionsAreReversible : Type 0
SessionsAreReversible =
    (bytes : List ℕ) (c : ClusterView) (pick : Pick) (log : List Entry) → cluster_of bytes ≡ Ok c → IsLegal (opened c pick) log → IsLogReversible (opened c pick) log
