-- Events of which a name may be left open, so that they stand for one with each name (ours).
use Rattle.std.specs.Prelude.{ℕ, List, [], ◌∷◌, map, Bool, false, not, nat_lt, ◌&&◌, ◌||◌, if◌then◌else◌, Option, Some, None, is_some}
use Rattle.std.specs.List.{flat_map}
use Rattle.rh_model.specs.ClusterView.{ClusterView, node_count, app_count}
use Rattle.rh_model.specs.declared.node.Node.{Node}
use Rattle.rh_model.specs.declared.node.App.{App}
use Rattle.rh_state.specs.Numbers.{nodes_of, apps_of}
use Rattle.rh_rules.specs.declared.event.Event.{Event}
use Rattle.rh_calls.specs.declared.call.Call.{Call}
use Rattle.rh_calls.specs.declared.call.Call.TheVariants as call
use Rattle.rh_script.specs.declared.forms.Given.{Given}
use Rattle.rh_script.specs.declared.forms.Verb.{Verb}
use Rattle.rh_script.specs.Forms.{said, call_of, with_node, with_app}
use Rattle.rh_explore.specs.declared.moves.Move.{Move}
use Rattle.rh_explore.specs.declared.moves.Move.TheVariants.{Make}
use Rattle.rh_explore_text.specs.Words.{is_star_at}

-- ---- the node and the application of an event: those that its command is given

-- its command, and what is given to it
abbrev pub command_of : Event → Verb
command_of e = (said (call.Step e)).0

abbrev pub given_to : Event → Given
given_to e = (said (call.Step e)).1

abbrev pub node_in : Event → Option Node
node_in e = (given_to e).node

abbrev pub app_in : Event → Option App
app_in e = (given_to e).app

-- the event that a call makes, or this one
abbrev pub event_or : Event → Option Call → Event
event_or e (Some (call.Step other)) = other
event_or e _ = e

-- the event of the same command with this given to it
abbrev pub event_with : Event → Given → Event
event_with e g = event_or e (call_of (command_of e) g)

-- the same event with another one, where it has one
abbrev pub at_node : Event → Node → Event
at_node e n = if is_some (node_in e) then event_with e (with_node (given_to e) n) else e

abbrev pub at_app : Event → App → Event
at_app e a = if is_some (app_in e) then event_with e (with_app (given_to e) a) else e

-- ---- names that are left open

-- it is there, and no node of the cluster
abbrev pub is_no_node : ClusterView → Option Node → Bool
is_no_node c None = false
is_no_node c (Some n) = not (nat_lt n.0 (node_count c))

abbrev pub is_no_app : ClusterView → Option App → Bool
is_no_app c None = false
is_no_app c (Some a) = not (nat_lt a.0 (app_count c))

abbrev pub is_open_node : ClusterView → Event → Bool
is_open_node c e = is_no_node c (node_in e)

abbrev pub is_open_app : ClusterView → Event → Bool
is_open_app c e = is_no_app c (app_in e)

-- the place of the application's name in the words of the event's command: behind that of a node, if there is one
abbrev pub app_place : Event → ℕ
app_place e = if is_some (node_in e) then 2 else 1

-- each name that the cluster hasn't is a `*`
abbrev pub is_meant : ClusterView → List (List ℕ) → Event → Bool
is_meant c words e = (not (is_open_node c e) || is_star_at words 1) && (not (is_open_app c e) || is_star_at words (app_place e))

-- the event with another application, as a move
abbrev pub move_at : Event → App → Move
move_at e a = Make (at_app e a)

-- the event with each application of the cluster, in the order of its file, where its own is none
abbrev pub each_app : ClusterView → Event → List Move
each_app c e = if is_open_app c e then map (move_at e) (apps_of c) else Make e ∷ []

-- and with each node, where its own is none
abbrev pub each_move : ClusterView → Event → List Move
each_move c e = if is_open_node c e then flat_map (λ n. each_app c (at_node e n)) (nodes_of c) else each_app c e
