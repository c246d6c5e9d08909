-- A live node: its processes, and how far it is.
use Rattle.std.specs.Prelude.{ℕ, List, [], Bool, true, false, ◌+◌, ◌&&◌, map, Option, Some, None, if◌then◌else◌}
use Rattle.std.specs.List.{range_with_len}
use Rattle.rh_model.specs.ClusterView.{ClusterView, node_count, app_count, app_numbered, is_permitted, mandatory_of, optional_of}
use Rattle.rh_model.specs.declared.node.App.{App}
use Rattle.rh_model.specs.declared.node.Node.{Node}
use Rattle.rh_otp_model.specs.declared.process.Here.{Here}
use Rattle.rh_otp_model.specs.declared.process.StartType.{StartType}
use Rattle.rh_otp_model.specs.Own.{OwnView, controls}
use Rattle.rh_otp_model.specs.Rows.{keystore}
use Rattle.rh_otp_controller.specs.First.{first}
use Rattle.rh_otp_controller.specs.State.{ControllerView}
use Rattle.rh_otp_dist.specs.State.{DistView, beginning}
use Rattle.rh_otp_node.specs.declared.node.Phase.{Phase}
use Rattle.rh_otp_node.specs.declared.node.Phase.TheVariants as phase

-- How often it has begun, and how far it is; whether its controller has ended and what ran has stopped; the nodes that kernel waits
-- for still (kernel_config); how many applications of its boot list it has begun to start, with the end of the list as one more;
-- its processes; and of which kind the last start of each application was, as an observer has seen it.
pub record LiveView : Type 0 where
  pub life : ℕ
  pub phase : Phase
  pub is_stopped : Bool
  pub mandatory : List Node
  pub optional : List Node
  pub place : ℕ
  pub controller : ControllerView
  pub dist : Option DistView
  pub kinds : List (App × StartType)

-- a node that has never begun
abbrev pub never_begun : LiveView
never_begun = record {
  life = 0;
  phase = phase.Down;
  is_stopped = false;
  mandatory = [];
  optional = [];
  place = 0;
  controller = first [];
  dist = None;
  kinds = [];
}

-- all applications of the cluster, in its order
abbrev pub all_apps : ClusterView → List App
all_apps c = map app_numbered (range_with_len 0 (app_count c))

-- for each application of the cluster, whether the node may run it, as configured (kernel(6), `permissions`)
abbrev pub permission_rows : ClusterView → Node → List (App × Bool)
permission_rows c n = map (λ (a : App). (a, is_permitted c n a)) (all_apps c)

-- for each application of the cluster, whether the node's dist_ac controls it and may run it
abbrev pub own_flags : ClusterView → OwnView → Node → List Bool
own_flags c own n = map (λ (a : App). controls own a && is_permitted c n a) (all_apps c)

-- the dist_ac of a node that begins, where it has one (dist_ac, init/1)
abbrev pub first_dist : ClusterView → OwnView → Node → Option DistView
first_dist c own n = if own.has_dist then Some (beginning (node_count c) (app_count c) n (own_flags c own n)) else None

-- the node begins once more: with the lists of its file, and nothing started
abbrev pub begun : ClusterView → OwnView → Node → LiveView → LiveView
begun c own n v = record {
  life = v.life + 1;
  phase = phase.Waiting;
  is_stopped = false;
  mandatory = mandatory_of c n;
  optional = optional_of c n;
  place = 0;
  controller = first (permission_rows c n);
  dist = first_dist c own n;
  kinds = [];
}

-- the node in its life now
abbrev pub here_of : Node → LiveView → Here
here_of n v = record { node = n; life = v.life }

abbrev pub is_down : Phase → Bool
is_down phase.Down = true
is_down p = false

-- is it alive?
abbrev pub is_alive : LiveView → Bool
is_alive v = if is_down v.phase then false else true

abbrev pub is_phase_up : Phase → Bool
is_phase_up phase.Up = true
is_phase_up p = false

-- is its wait for others over?
abbrev pub is_up : LiveView → Bool
is_up v = is_phase_up v.phase

-- has its controller ended, and the node has to follow?
abbrev pub is_ending : LiveView → Bool
is_ending v = v.controller.is_ending

-- an observer has seen a start of this kind
abbrev pub with_kind : App → StartType → LiveView → LiveView
with_kind a kind v = record v { kinds = keystore a kind v.kinds }
