-- What doesn't hold, and that there are states that live nodes reach.
use Rattle.std.proofs.Common.{◌≡◌, ◌++◌, ℕ, zero, suc, true, false, List, [], ◌∷◌, replicate, slice_get, unwrap_or, Some, refl}
use Rattle.std.specs.Option.{option_and_then}
use Rattle.rh_model.specs.ClusterView.{ClusterView}
use Rattle.rh_model.specs.declared.node.App.{App}
use Rattle.rh_model.specs.declared.node.Node.{Node}
use Rattle.rh_model.specs.declared.settings.Restart.{Restart}
use Rattle.rh_otp_model.specs.declared.message.Change.TheVariants.{Takeover}
use Rattle.rh_otp_model.specs.declared.message.Message.{Message}
use Rattle.rh_otp_model.specs.declared.message.Message.TheVariants.{Change}
use Rattle.rh_otp_model.specs.declared.output.Output.TheVariants.{Send}
use Rattle.rh_otp_model.specs.declared.process.Process.{Process}
use Rattle.rh_otp_model.specs.declared.process.Role.TheVariants.{Controller}
use Rattle.rh_otp_model.specs.Processes.{process_at}
use Rattle.rh_otp_dist.specs.declared.state.Standing.TheVariants.{Distributed}
use Rattle.rh_otp_dist.specs.Calls.{take_over_from}
use Rattle.rh_otp_dist.specs.Sending.{me}
use Rattle.rh_otp_dist.specs.State.{TurnView}
use Rattle.rh_otp_model.specs.declared.wait.OwnFile.{OwnFile}
use Rattle.rh_otp_node.specs.Live.{never_begun}
use Rattle.rh_otp_system.specs.declared.cell.Cell.TheVariants as cell
use Rattle.rh_otp_system.specs.State.{live_in, system_of}
use Rattle.rh_otp_system.specs.Views.{NetView}
use Rattle.rh_otp_laws.specs.Acting.{IsReached, new}
use Rattle.rh_otp_laws.specs.Starting.{is_start}

-- what a controller is told at a takeover by call
abbrev taken_over : App → Node → Restart → Message
taken_over a n restart = Change a (Takeover n (Some restart))

is_start_row : (a : App) (n : Node) (restart : Restart) → is_start (taken_over a n restart) ≡ true
is_start_row a n restart = refl

-- A takeover that an operator calls is told to the controller whatever the node's list and permissions say.
pub taken_over_anyhow : (a : App) (n : Node) (restart : Restart) (caller : Process) (t : TurnView)
    → (take_over_from a restart caller (Distributed n) t).out
    ≡ t.out ++ Send (record { from = me t; to = process_at t.here Controller; message = taken_over a n restart }) ∷ []
taken_over_anyhow a n restart caller t = refl

-- ---- there are reached states

none_begun : (count k : ℕ) (net : NetView)
    → unwrap_or (option_and_then live_in (slice_get (replicate count (cell.Node never_begun) ++ cell.Net net ∷ []) k)) never_begun ≡ never_begun
none_begun zero zero net = refl
none_begun zero (suc k) net = refl
none_begun (suc count) zero net = refl
none_begun (suc count) (suc k) net = none_begun count k net

-- nothing has happened between the nodes
abbrev first_net : NetView
first_net = record {
  clock = 0;
  step = 0;
  last_call = 0;
  alive = [];
  links = [];
  locks = [];
  timers = [];
  calls = [];
  asleep = [];
  told = [];
}

-- so many nodes, of which none has begun
pub first_row : (cluster : ClusterView) (files : List OwnFile) (count : ℕ)
    → IsReached (system_of cluster files (replicate count (cell.Node never_begun) ++ cell.Net first_net ∷ []) first_net false)
first_row cluster files count = new _ (record {
  nodes = λ n. none_begun count n.0 first_net;
  alive = refl;
  links = refl;
  locks = refl;
  timers = refl;
  calls = refl;
  messages = refl;
  slow = refl;
})
