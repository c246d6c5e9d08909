-- The last boot of a cold start, which `run` and `run --rules otp25` answer by the same lines, in some order (ours).
use Rattle.std.specs.Prelude.{◌≡◌, ◌<◌, [], List, map, not, true, false}
use Rattle.std.specs.List.Sorted.{IsPermutation}
use Rattle.rh_model.specs.ClusterView.{node_count}
use Rattle.rh_model.specs.declared.node.App.{App}
use Rattle.rh_model.specs.declared.node.Node.{Node}
use Rattle.rh_state.specs.declared.status.Standing.TheVariants.{Quiet}
use Rattle.rh_state.specs.StateView.{standing_of}
use Rattle.rh_rules.specs.declared.event.Event.TheVariants as event
use Rattle.rh_rules.specs.declared.notice.Notice.{Notice}
use Rattle.rh_rules.specs.Course.{is_local}
use Rattle.rh_calls.specs.declared.call.Call.{Call}
use Rattle.rh_calls.specs.declared.call.Call.TheVariants as call
use Rattle.rh_calls.specs.declared.call.Reply.TheVariants as reply
use Rattle.rh_script.specs.Answers.{notice_line}
use Rattle.rh_step_laws.specs.Laws.{boots}
use Rattle.rh_start_laws.specs.Starts.{StartsInOrder}
use Rattle.rh_trail.specs.Lone.{served}
use Rattle.rh_trail.specs.SimView.{SimView, state_of}
use Rattle.rh_otp_model.specs.Own.{controls}
use Rattle.rh_otp_sim.specs.Calls.{made_by, reply_to}
use Rattle.rh_otp_sim.specs.declared.calls.LiveReply.TheVariants as live_reply
use Rattle.rh_otp_sim.specs.declared.lines.Answer.TheVariants.{Told}
use Rattle.rh_otp_sim.specs.declared.lines.Line.{Line}
use Rattle.rh_otp_sim.specs.declared.stepping.Outcome.TheVariants as outcome
use Rattle.rh_otp_sim.specs.declared.verdict.Verdict.TheVariants as verdict
use Rattle.rh_otp_sim.specs.Sim.{LiveSimView, net_in}
use Rattle.rh_otp_sim.specs.Stepping.{ends_with}
use Rattle.rh_otp_system.specs.State.{own_at}
use Rattle.rh_otp_text.specs.Lines.{line_text}
use Rattle.rh_otp_colds.specs.Colds.{IsColdStart}
use Rattle.rh_otp_colds.specs.Wholes.{CanStartTogether, IsLeft}
use Rattle.rh_agreement.specs.Telling.{GoTogether}
use Rattle.rh_agreement.specs.Laws.{HasRoom}
use Rattle.rh_agreement.specs.Resting.{AreBothAtRest, held}

-- Both answer the call by `ok` and the same lines, in some order.
pub record IsAnsweredInSomeOrder (c : Call) (sim : SimView) (live : LiveSimView) : Type 0 where
  pub notices : List Notice
  pub lines : List Line
  pub told : (served sim c).reply ≡ reply.Done notices
  pub live_told : reply_to c live ≡ live_reply.Step (outcome.Done (record { answer = Told verdict.Done; lines = lines }))
  pub same : IsPermutation (map (notice_line sim.cluster) notices) (map (line_text live.cluster) lines)

-- The last node of a cold start is to begin. By the manual's rules no application is to run yet, all boot lists are in order, nothing in
-- them needs a distributed application, what isn't distributed is permitted where it is booted, and of the list of each distributed one
-- that is booted the first group with a node that may start it has one such node alone (`StartsInOrder`). On live nodes it is a cold
-- start, they can start together (`CanStartTogether`: the distributed applications that they boot stand in one order, and those of them
-- that a node doesn't boot are all left to the same node), and the node is the one that is left; nobody was told yet that something
-- waits, and what comes of it isn't taken for a step without end. Both sides are told the same: of what a node boots its own
-- `distributed` has exactly what the cluster's has, and by both the same node is the first one that may run it.
pub record StartsCold (n : Node) (sim : SimView) (live : LiveSimView) : Type 0 where
  pub quiet : (a : App) → standing_of (state_of sim) a ≡ Quiet
  pub order : StartsInOrder sim.cluster
  pub cold : IsColdStart (held live)
  pub can : CanStartTogether (held live)
  pub left : IsLeft n (held live)
  pub untold : (net_in live).told ≡ []
  pub ends : ends_with (net_in live) (event.Boot n) live ≡ true
  pub own : (m : Node) (a : App) → m.0 < node_count sim.cluster → boots sim.cluster m a ≡ true
      → controls (own_at (held live) m) a ≡ not (is_local sim.cluster a)
  pub at : (m : Node) (a : App) → boots sim.cluster m a ≡ true → is_local sim.cluster a ≡ false → (order.at a).0 ≡ (can.at a).0

-- Where both are at rest, such a boot is answered by both by the same lines, in some order, and leads to what is told alike; and both are at
-- rest again. It isn't refused (Starting and Stopping Distributed Applications; kernel(6)).
abbrev pub LastBootsAreAnsweredInSomeOrder : Type 0
LastBootsAreAnsweredInSomeOrder = (sim : SimView) (live : LiveSimView) (n : Node) → GoTogether sim live → HasRoom sim live
    → AreBothAtRest sim live → StartsCold n sim live
    → IsAnsweredInSomeOrder (call.Step (event.Boot n)) sim live
    × GoTogether (served sim (call.Step (event.Boot n))).sim (made_by (call.Step (event.Boot n)) live)
    × AreBothAtRest (served sim (call.Step (event.Boot n))).sim (made_by (call.Step (event.Boot n)) live)
