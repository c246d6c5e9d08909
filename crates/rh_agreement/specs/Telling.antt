-- What `run` and `run --rules otp25` tell the same of (ours).
use Rattle.std.specs.Prelude.{◌≡◌, ◌<◌, ◌≤◌, ◌+◌, ℕ, length}
use Rattle.rh_model.specs.ClusterView.{node_count}
use Rattle.rh_model.specs.declared.node.Node.{Node}
use Rattle.rh_state.specs.declared.status.Mode.{Mode}
use Rattle.rh_state.specs.declared.status.Mode.TheVariants as mode
use Rattle.rh_state.specs.Limits.{incarnation_limit}
use Rattle.rh_state.specs.StateView.{StateView, mode_of, incarnation_of}
use Rattle.rh_trail.specs.SimView.{SimView, state_of}
use Rattle.rh_otp_node.specs.declared.node.Phase.{Phase}
use Rattle.rh_otp_node.specs.declared.node.Phase.TheVariants as phase
use Rattle.rh_otp_sim.specs.Refusing.{phase_in, life_in}
use Rattle.rh_otp_sim.specs.Sim.{LiveSimView, net_in, at_step_of}

-- how far a live node is, as the manual's rules call it
abbrev pub mode_of_phase : Phase → Mode
mode_of_phase phase.Down = mode.Down
mode_of_phase phase.Waiting = mode.Waiting
mode_of_phase phase.Up = mode.Up

-- Both tell the same of the clock, and of each node how far it is and how often it has begun. Of applications this says nothing. (The rest
-- is so of each simulation: no node has begun more often than it may, and there is a cell for what is between live nodes.)
pub record TellTheSame (s : StateView) (live : LiveSimView) : Type 0 where
  pub cluster : live.cluster ≡ s.cluster
  pub clock : (net_in live).clock ≡ s.time
  pub modes : (n : Node) → n.0 < node_count s.cluster → mode_of_phase (phase_in live n) ≡ mode_of s n
  pub begun : (n : Node) → n.0 < node_count s.cluster → life_in live n ≡ incarnation_of s n
  pub limited : (n : Node) → n.0 < node_count s.cluster → incarnation_of s n ≤ incarnation_limit
  pub cells : node_count live.cluster < length live.history.now

-- with so many steps done
abbrev pub at_step : ℕ → SimView → SimView
at_step k sim = record sim { cursor = k }

-- They tell the same now, and behind each number of steps: as many are done, of as many.
pub record GoTogether (sim : SimView) (live : LiveSimView) : Type 0 where
  pub cluster : live.cluster ≡ sim.cluster
  pub now : TellTheSame (state_of sim) live
  pub always : (k : ℕ) → k ≤ length sim.trail → TellTheSame (state_of (at_step k sim)) (at_step_of k live)
  pub done : live.history.cursor ≡ sim.cursor
  pub steps : length live.history.states ≡ length sim.trail + 1
  pub within : sim.cursor ≤ length sim.trail
