-- What a state keeps, and what that means (ours). Contracts speak of the meaning, `read`.
use Rattle.std.specs.Prelude.{ℕ, List, Bool, map}
use Rattle.rh_model.specs.ClusterView.{ClusterView}
use Rattle.rh_model.specs.declared.settings.Restart.{Restart}
use Rattle.rh_arena.specs.Words as links
use Rattle.rh_wheel.specs.Stored as wheel
use Rattle.rh_state.specs.declared.status.Mode.{Mode}
use Rattle.rh_state.specs.declared.status.Kind.{Kind}
use Rattle.rh_state.specs.declared.status.Standing.{Standing}
use Rattle.rh_state.specs.declared.status.Timer.{Timer}
use Rattle.rh_state.specs.Timers.{timer_numbered}
use Rattle.rh_state.specs.Pairs.{running_in, waiting_in}
use Rattle.rh_state.specs.StateView.{StateView}

pub record Stored : Type 0 where
  pub cluster : ClusterView
  pub time : ℕ
  pub modes : List Mode
  pub incarnations : List ℕ
  pub links : links.Words
  pub restarts : List (List Restart)
  pub kinds : List (List Kind)
  pub allowed : List (List Bool)
  pub standings : List Standing
  pub wheel : wheel.Stored

-- the timers that a wheel means, by their numbers
unfoldable pub timers_of : ClusterView → wheel.Stored → List (ℕ × Timer)
timers_of c w = map (λ entry. (entry.0, timer_numbered c entry.1)) (wheel.listed w)

-- the state that is kept so
unfoldable pub read : Stored → StateView
read w = record {
  cluster = w.cluster;
  time = w.time;
  modes = w.modes;
  incarnations = w.incarnations;
  running = running_in w.cluster w.links;
  waiting = waiting_in w.cluster w.links;
  restarts = w.restarts;
  kinds = w.kinds;
  allowed = w.allowed;
  standings = w.standings;
  timers = timers_of w.cluster w.wheel;
}
