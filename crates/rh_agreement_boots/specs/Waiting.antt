-- Boots that `run` and `run --rules otp25` answer alike whoever else is alive: those of nodes that wait on (ours).
use Rattle.std.specs.Prelude.{◌≡◌, ◌≢◌, ◌<◌, ◌≤◌, ◌+◌, ◌*◌, ℕ, [], length, false}
use Rattle.rh_model.specs.ClusterView.{ClusterView, node_count, mandatory_of, optional_of}
use Rattle.rh_model.specs.declared.node.Node.{Node}
use Rattle.rh_rules.specs.declared.event.Event.TheVariants as event
use Rattle.rh_rules.specs.NodesStart.{booted as manual_booted, is_ready}
use Rattle.rh_trail.specs.SimView.{SimView, state_of}
use Rattle.rh_otp_net.specs.Links.{linked_with}
use Rattle.rh_otp_sim.specs.Acting.{most_moves}
use Rattle.rh_otp_sim.specs.Sim.{LiveSimView, net_in}
use Rattle.rh_otp_sim.specs.Stepping.{begun}
use Rattle.rh_otp_system.specs.Doing.{booted}
use Rattle.rh_otp_system.specs.State.{SystemView}
use Rattle.rh_otp_laws.specs.Acting.{IsThere}
use Rattle.rh_otp_waits.specs.Waits.{WaitsOn}
use Rattle.rh_agreement.specs.Laws.{HasRoom}
use Rattle.rh_agreement.specs.Resting.{AreBothAtRest, held}
use Rattle.rh_agreement.specs.Telling.{GoTogether}
use Rattle.rh_agreement_boots.specs.Boots.{StayInTouch, IsBootedAlike}

-- the live nodes, where the node has begun and seen those that it sees at once
abbrev pub begun_to_wait : Node → LiveSimView → SystemView
begun_to_wait n live = booted n (begun (net_in live) (event.Boot n) live)

-- The node waits on once it has begun, whoever else is alive, up or waiting. By the manual's rules no node is ready then, neither this one
-- nor one that waited. On live nodes its own file has it wait, its lists name all that are alive and one that isn't, and no other node's
-- wait is over by it; those that are alive stay in touch; and they are so few that with a move for each message and each connection that is
-- still to be made the step isn't taken for one without end. (And if the node is one of the cluster's there is a cell for it: that is so of
-- each simulation that was given calls.)
pub record BeginsAndWaitsOn (n : Node) (sim : SimView) (live : LiveSimView) : Type 0 where
  pub unready : (m : Node) → is_ready (manual_booted (state_of sim) n) m ≡ false
  pub waits : WaitsOn n (held live)
  pub touch : StayInTouch live
  pub few : length (begun_to_wait n live).messages + length (begun_to_wait n live).slow < most_moves
  pub there : n.0 < node_count live.cluster → IsThere n (held live)

-- Where both are at rest, such a boot is answered by both alike and leads to what is told alike; both are at rest again, and the live nodes
-- stay in touch. Where it isn't refused, the answer is `ok` alone.
abbrev pub WaitingBootsAreAnsweredAlike : Type 0
WaitingBootsAreAnsweredAlike = (sim : SimView) (live : LiveSimView) (n : Node) → GoTogether sim live → HasRoom sim live
    → AreBothAtRest sim live → BeginsAndWaitsOn n sim live → IsBootedAlike n sim live

-- ---- that it comes to an end

-- how many entries the node's lists have
abbrev pub entry_count : ClusterView → Node → ℕ
entry_count c n = length (mandatory_of c n) + length (optional_of c n)

-- Such a boot isn't taken for a step without end where the node isn't connected with anybody yet, each other one with so many at most, and
-- this is below the bound of a million moves: for each entry of the node's lists three messages, and a connection between each that is
-- around the node by then, itself and one for each entry at most, and each that is around the named one, itself and those that it sees.
abbrev pub WaitingBootsComeToAnEnd : Type 0
WaitingBootsComeToAnEnd = (live : LiveSimView) (n : Node) (most : ℕ) → IsThere n (held live) → WaitsOn n (held live)
    → linked_with n (held live).links ≡ []
    → ((m : Node) → m.0 ≢ n.0 → length (linked_with m (held live).links) ≤ most)
    → 3 * entry_count live.cluster n + entry_count live.cluster n * ((entry_count live.cluster n + 1) * (most + 1)) < most_moves
    → length (begun_to_wait n live).messages + length (begun_to_wait n live).slow < most_moves
