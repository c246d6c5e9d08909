-- What a call leaves as it was.
use Rattle.std.proofs.Common.{◌≡◌, ◌+◌, ◌-◌, ℕ, Bool, true, false, cond, List, Option, Some, None, length, refl}
use Rattle.rh_calls.specs.declared.call.Call.{Call}
use Rattle.rh_calls.specs.declared.call.Call.TheVariants.{Step, Undo, Redo, UndoAll, RedoAll, Look}
use Rattle.rh_model.specs.ClusterView.{node_count}
use Rattle.rh_rules.specs.declared.event.Event.{Event}
use Rattle.rh_rules.specs.declared.refusal.Refusal.{Refusal}
use Rattle.rh_otp_sim.specs.Calls.{made_by}
use Rattle.rh_otp_sim.specs.Refusing.{refused}
use Rattle.rh_otp_sim.specs.Sim.{LiveSimView, at_step_of, can_undo, can_redo, net_in}
use Rattle.rh_otp_sim.specs.Stepping.{stepped_if, stepped_with, with_step, ends_with, cells_behind, system_with}
use Rattle.rh_otp_system.specs.Views.{NetView}

either : (b : Bool) (x sim : LiveSimView) → x.cluster ≡ sim.cluster → (cond b x sim).cluster ≡ sim.cluster
either true x sim same = same
either false x sim same = refl

step_keeps : (why : Option Refusal) (net : NetView) (e : Event) (sim : LiveSimView) → (stepped_if why net e sim).cluster ≡ sim.cluster
step_keeps (Some why) net e sim = refl
step_keeps None net e sim =
    either (ends_with net e sim) (with_step (cells_behind net (node_count sim.cluster) (system_with net e sim)) sim) sim refl

-- a call leaves the cluster
pub call_keeps_cluster : (call : Call) (sim : LiveSimView) → (made_by call sim).cluster ≡ sim.cluster
call_keeps_cluster (Step e) sim = step_keeps (refused (net_in sim).clock (net_in sim).last_call e sim) (net_in sim) e sim
call_keeps_cluster Undo sim = either (can_undo sim) (at_step_of (sim.history.cursor - 1) sim) sim refl
call_keeps_cluster Redo sim = either (can_redo sim) (at_step_of (sim.history.cursor + 1) sim) sim refl
call_keeps_cluster UndoAll sim = refl
call_keeps_cluster RedoAll sim = refl
call_keeps_cluster Look sim = refl
