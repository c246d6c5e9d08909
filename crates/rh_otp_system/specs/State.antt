-- The live nodes of a cluster, and what is between them.
use Rattle.std.specs.Prelude.{ℕ, List, [], Bool, false, Option, Some, None, unwrap_or, slice_get, ◌==◌, ◌&&◌}
use Rattle.std.specs.Option.{option_map, option_and_then}
use Rattle.rh_model.specs.ClusterView.{ClusterView}
use Rattle.rh_model.specs.declared.node.App.{App}
use Rattle.rh_model.specs.declared.node.Node.{Node}
use Rattle.rh_history.specs.Draft.{DraftView, draft_of, with_cell}
use Rattle.rh_otp_model.specs.declared.output.Envelope.{Envelope}
use Rattle.rh_otp_model.specs.declared.output.Event.{Event}
use Rattle.rh_otp_model.specs.declared.process.Process.{Process}
use Rattle.rh_otp_model.specs.declared.process.Role.{Role}
use Rattle.rh_otp_model.specs.declared.wait.OwnFile.{OwnFile}
use Rattle.rh_otp_model.specs.declared.wait.Wait.{Wait}
use Rattle.rh_otp_model.specs.declared.wait.Wait.TheVariants.{Unset}
use Rattle.rh_otp_model.specs.Own.{OwnView}
use Rattle.rh_otp_model.specs.Processes.{process_at}
use Rattle.rh_otp_net.specs.declared.links.Link.{Link}
use Rattle.rh_otp_net.specs.declared.locks.Held.{Held}
use Rattle.rh_otp_net.specs.declared.timers.Timer.{Timer}
use Rattle.rh_otp_node.specs.Live.{LiveView, never_begun, here_of, is_alive, is_up}
use Rattle.rh_otp_system.specs.declared.calls.Call.{Call}
use Rattle.rh_otp_system.specs.declared.cell.Cell.{Cell}
use Rattle.rh_otp_system.specs.declared.cell.Cell.TheVariants as cell
use Rattle.rh_otp_system.specs.declared.slow.Answered.{Answered}
use Rattle.rh_otp_system.specs.declared.slow.Slow.{Slow}
use Rattle.rh_otp_system.specs.Views.{NetView}

-- What stays from one command to the next: the nodes, the clock in milliseconds, the numbers of the command and of the last call, the
-- nodes that are alive in the order in which they began, connections, locks, timers, calls, who sleeps before it asks for a lock
-- again, and of what an observer was told that it waits. And what there is while a command is carried out: messages and slower
-- things on their way, the answers that nodes have given one another since all was quiet, what an observer has seen, whether time
-- passes, and whether the command waits for the end of a node that ends by itself.
pub record SystemView : Type 0 where
  pub cluster : ClusterView
  pub files : List OwnFile
  pub nodes : DraftView Cell
  pub clock : ℕ
  pub step : ℕ
  pub last_call : ℕ
  pub alive : List Node
  pub links : List Link
  pub locks : List Held
  pub timers : List Timer
  pub calls : List Call
  pub asleep : List Process
  pub told : List (App × Node)
  pub messages : List Envelope
  pub slow : List Slow
  pub answers : List Answered
  pub events : List Event
  pub is_ticking : Bool
  pub ends_soon : Bool

-- the system of these nodes and of what is between them, where nothing is on its way
abbrev pub system_of : ClusterView → List OwnFile → List Cell → NetView → Bool → SystemView
system_of cluster files cells net ends_soon = record {
  cluster = cluster;
  files = files;
  nodes = draft_of cells;
  clock = net.clock;
  step = net.step;
  last_call = net.last_call;
  alive = net.alive;
  links = net.links;
  locks = net.locks;
  timers = net.timers;
  calls = net.calls;
  asleep = net.asleep;
  told = net.told;
  messages = [];
  slow = [];
  answers = [];
  events = [];
  is_ticking = false;
  ends_soon = ends_soon;
}

abbrev pub live_in : Cell → Option LiveView
live_in (cell.Node v) = Some v
live_in (cell.Net net) = None

-- a node, if there is one of this number: the first cells are the nodes
abbrev pub live_at : SystemView → Node → Option LiveView
live_at s n = option_and_then live_in (slice_get s.nodes.cells n.0)

-- a node, or one that has never begun for a number that no node has
abbrev pub node_at : SystemView → Node → LiveView
node_at s n = unwrap_or (live_at s n) never_begun

-- the same system with another state of a node
abbrev pub with_node : Node → LiveView → SystemView → SystemView
with_node n v s = record s { nodes = with_cell s.nodes n.0 (cell.Node v) }

-- a node without `distributed`
abbrev pub no_own : OwnView
no_own = record { has_dist = false; entries = [] }

-- what the node's own file says
abbrev pub own_at : SystemView → Node → OwnView
own_at s n = unwrap_or (option_map (λ (f : OwnFile). f.own) (slice_get s.files n.0)) no_own

abbrev pub wait_at : SystemView → Node → Wait
wait_at s n = unwrap_or (option_map (λ (f : OwnFile). f.wait) (slice_get s.files n.0)) Unset

-- is the node alive?
abbrev pub is_alive_at : SystemView → Node → Bool
is_alive_at s n = is_alive (node_at s n)

-- is its wait for others over?
abbrev pub is_up_at : SystemView → Node → Bool
is_up_at s n = is_up (node_at s n)

-- has it a dist_ac?
abbrev pub has_dist_at : SystemView → Node → Bool
has_dist_at s n = (own_at s n).has_dist

-- its process of this role, in its life now, or in its last one
abbrev pub process_in : SystemView → Node → Role → Process
process_in s n role = process_at (here_of n (node_at s n)) role

-- is this the life of the node now?
abbrev pub lives_in : ℕ → LiveView → Bool
lives_in life v = is_alive v && v.life == life

-- is the process there still?
abbrev pub lives : SystemView → Process → Bool
lives s p = lives_in p.life (node_at s p.node)

-- what is between the nodes, of a system
abbrev pub net_of : SystemView → NetView
net_of s = record {
  clock = s.clock;
  step = s.step;
  last_call = s.last_call;
  alive = s.alive;
  links = s.links;
  locks = s.locks;
  timers = s.timers;
  calls = s.calls;
  asleep = s.asleep;
  told = s.told;
}
