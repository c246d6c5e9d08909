-- The state of a dist_ac, and a turn of it (dist_ac.erl, the records `state` and `appl`).
use Rattle.std.specs.Prelude.{ℕ, ◌==◌, List, [], length, map, filter, not, replicate, slice_get, slice_set, unwrap_or, Bool, false}
use Rattle.std.specs.List.{position_or_len, remove, range_with_len}
use Rattle.rh_model.specs.ClusterView.{ClusterView, numbered, is_in}
use Rattle.rh_model.specs.declared.node.App.{App}
use Rattle.rh_model.specs.declared.node.Node.{Node}
use Rattle.rh_otp_model.specs.declared.message.Message.{Message}
use Rattle.rh_otp_model.specs.declared.output.Output.{Output}
use Rattle.rh_otp_model.specs.declared.process.Here.{Here}
use Rattle.rh_otp_model.specs.declared.process.Process.{Process}
use Rattle.rh_otp_model.specs.Flags.{flag}
use Rattle.rh_otp_model.specs.Own.{OwnView}
use Rattle.rh_otp_dist.specs.declared.state.Appl.{Appl}
use Rattle.rh_otp_dist.specs.declared.state.Stand.{Stand}
use Rattle.rh_otp_dist.specs.declared.state.Stand.TheVariants.{ForGo}
use Rattle.rh_otp_dist.specs.declared.state.Standing.{Standing}
use Rattle.rh_otp_dist.specs.declared.state.Standing.TheVariants.{Undefined}
use Rattle.rh_otp_dist.specs.declared.state.Told.{Told}
use Rattle.rh_otp_dist.specs.Views.{PermitWaitView}

-- What is new stands in front. Of each application how it stands, and of each node which applications it may run, as far as it is
-- known here; both by number.
pub record DistView : Type 0 where
  pub stand : Stand
  pub mail : List Message
  pub is_synchronised : Bool
  pub known : List Node
  pub remote_started : List (App × Node)
  pub started : List App
  pub tmp_locals : List Told
  pub tmp_weights : List (App × ℕ)
  pub t_reqs : List (App × Process)
  pub s_reqs : List (App × Process)
  pub p_reqs : List (App × PermitWaitView)
  pub monitored : List Node
  pub parked : List App
  pub appls : List Appl
  pub may : List (List Bool)

-- A turn: what the process knows of its node, its state, and what it has done so far. Of others it asks, and is told at once, how many
-- applications run at its node (`weight`), whether it has the lock of its own node (`has_lock`), and whether two nodes answer one
-- another without end (`burns`).
pub record TurnView : Type 0 where
  pub cluster : ClusterView
  pub own : OwnView
  pub here : Here
  pub weight : ℕ
  pub has_lock : Bool
  pub burns : Bool
  pub state : DistView
  pub out : List Output

-- with another state
abbrev pub with_state : DistView → TurnView → TurnView
with_state d t = record t { state = d }

-- an application that nothing is known of
abbrev pub unknown_appl : Appl
unknown_appl = record { standing = Undefined; losses = 0 }

abbrev pub appl_of : DistView → App → Appl
appl_of d a = unwrap_or (slice_get d.appls a.0) unknown_appl

-- how an application stands
abbrev pub standing_of : DistView → App → Standing
standing_of d a = (appl_of d a).standing

-- with an application that stands so
abbrev pub with_standing : App → Standing → DistView → DistView
with_standing a standing d = record d { appls = slice_set d.appls a.0 (record (appl_of d a) { standing = standing }) }

-- with an application that was lost so often
abbrev pub with_losses : App → ℕ → DistView → DistView
with_losses a losses d = record d { appls = slice_set d.appls a.0 (record (appl_of d a) { losses = losses }) }

-- may the node run the application, as far as it is known?
abbrev pub may_run : DistView → Node → App → Bool
may_run d n a = flag (unwrap_or (slice_get d.may n.0) []) a

-- with a node that may run the application, or may not
abbrev pub with_permission : Node → App → Bool → DistView → DistView
with_permission n a allow d = record d { may = slice_set d.may n.0 (slice_set (unwrap_or (slice_get d.may n.0) []) a.0 allow) }

-- the nodes that may run the application, in the order of their numbers
abbrev pub permitted : DistView → App → List Node
permitted d a = filter (λ n. may_run d n a) (map numbered (range_with_len 0 (length d.may)))

-- is the node one of these?
abbrev pub is_among : Node → List Node → Bool
is_among n nodes = is_in n nodes

-- these nodes without the first that is this one (lists:delete/2)
abbrev pub without_first : Node → List Node → List Node
without_first n nodes = remove nodes (position_or_len (λ (m : Node). m.0 == n.0) nodes)

-- these nodes without this one
abbrev pub without_node : Node → List Node → List Node
without_node n nodes = filter (λ (m : Node). not (m.0 == n.0)) nodes

-- What a node that begins knows: of so many applications nothing, and of so many nodes which of them it may run itself.
abbrev pub beginning : ℕ → ℕ → Node → List Bool → DistView
beginning nodes apps here own = record {
  stand = ForGo;
  mail = [];
  is_synchronised = false;
  known = [];
  remote_started = [];
  started = [];
  tmp_locals = [];
  tmp_weights = [];
  t_reqs = [];
  s_reqs = [];
  p_reqs = [];
  monitored = [];
  parked = [];
  appls = replicate apps unknown_appl;
  may = slice_set (replicate nodes (replicate apps false)) here.0 own;
}
