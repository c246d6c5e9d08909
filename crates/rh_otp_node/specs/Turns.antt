-- Turns of a node's processes: its state behind the turn, and what the process has done.
use Rattle.std.specs.Prelude.{ℕ, List, [], Bool, true, false, ◌+◌, min, length, count_by, Option, Some, None}
use Rattle.std.specs.List.{range_with_len}
use Rattle.rh_model.specs.ClusterView.{ClusterView, is_platform}
use Rattle.rh_model.specs.declared.node.App.{App}
use Rattle.rh_model.specs.declared.node.Node.{Node}
use Rattle.rh_otp_model.specs.declared.message.Message.{Message}
use Rattle.rh_otp_model.specs.declared.output.Output.{Output}
use Rattle.rh_otp_model.specs.Own.{OwnView}
use Rattle.rh_otp_controller.specs.declared.state.Place.{Place}
use Rattle.rh_otp_controller.specs.declared.state.Place.TheVariants as place_of
use Rattle.rh_otp_controller.specs.Changes.{received}
use Rattle.rh_otp_controller.specs.Ending.{terminated}
use Rattle.rh_otp_controller.specs.State.{TurnView as ControllerTurn}
use Rattle.rh_otp_dist.specs.declared.turn.Asked.{Asked}
use Rattle.rh_otp_dist.specs.Outside.{introduced_to}
use Rattle.rh_otp_dist.specs.Received.{handle_next, next_mail}
use Rattle.rh_otp_dist.specs.State.{DistView, TurnView as DistTurn}
use Rattle.rh_otp_node.specs.Live.{LiveView, here_of}

-- does it run here?
abbrev pub is_here : Place → Bool
is_here place_of.Here = true
is_here place = false

-- how many of these run here
abbrev pub running_here : List (App × Place) → ℕ
running_here rows = count_by (λ row. is_here row.1) rows

-- how many names of the platform the node has
abbrev pub platform_count : ClusterView → Node → ℕ
platform_count c n = count_by (is_platform c n) (range_with_len 0 (length c.platform_names))

-- length(application:which_applications()): how many applications run here, with those of the platform (and no more than its type holds)
abbrev pub weight_of : ClusterView → Node → LiveView → ℕ
weight_of c n v = platform_count c n + min (running_here v.controller.running) 4294967039

-- the controller before its turn
abbrev pub controller_turn : ClusterView → OwnView → Node → LiveView → ControllerTurn
controller_turn c own n v = record { cluster = c; own = own; here = here_of n v; state = v.controller; out = [] }

-- its controller handles a message
unfoldable pub controlled_by : ClusterView → OwnView → Node → Message → LiveView → LiveView × List Output
controlled_by c own n m v =
    let t : ControllerTurn = received m (controller_turn c own n v) in
    (record v { controller = t.state }, t.out)

-- its controller has ended: what runs here stops
unfoldable pub terminated_by : ClusterView → OwnView → Node → LiveView → LiveView × List Output
terminated_by c own n v =
    let t : ControllerTurn = terminated (controller_turn c own n v) in
    (record v { controller = t.state; is_stopped = true }, t.out)

-- the dist_ac before its turn
abbrev pub dist_turn : ClusterView → OwnView → Node → Asked → LiveView → DistView → DistTurn
dist_turn c own n asked v d = record {
  cluster = c;
  own = own;
  here = here_of n v;
  weight = asked.weight;
  has_lock = asked.has_lock;
  burns = asked.burns;
  state = d;
  out = [];
}

-- behind a turn of its dist_ac
abbrev pub behind_turn : LiveView → DistTurn → LiveView × List Output
behind_turn v t = (record v { dist = Some t.state }, t.out)

-- it handles the message at this place of its mailbox, if there is one
abbrev pub handled_if : Option ℕ → DistTurn → DistTurn
handled_if None t = t
handled_if (Some place) t = handle_next place t

-- the dist_ac handles the message that it takes next, if there is one
abbrev pub handled_with : ClusterView → OwnView → Node → Asked → LiveView → Option DistView → LiveView × List Output
handled_with c own n asked v None = (v, [])
handled_with c own n asked v (Some d) = behind_turn v (handled_if (next_mail d) (dist_turn c own n asked v d))

unfoldable pub handled_by : ClusterView → OwnView → Node → Asked → LiveView → LiveView × List Output
handled_by c own n asked v = handled_with c own n asked v v.dist

-- the dist_ac introduces itself to these nodes
abbrev pub introduced_with : ClusterView → OwnView → Node → List Node → LiveView → Option DistView → LiveView × List Output
introduced_with c own n nodes v None = (v, [])
introduced_with c own n nodes v (Some d) =
    behind_turn v (introduced_to nodes (dist_turn c own n (record { weight = 0; has_lock = false; burns = false }) v d))

unfoldable pub introduced_by : ClusterView → OwnView → Node → List Node → LiveView → LiveView × List Output
introduced_by c own n nodes v = introduced_with c own n nodes v v.dist
