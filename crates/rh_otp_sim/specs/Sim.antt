-- A simulation of live nodes (ours).
use Rattle.std.specs.Prelude.{ℕ, ◌+◌, ◌-◌, nat_lt, List, [], ◌∷◌, ◌++◌, length, replicate, slice_get, Bool, Option, Some, None, if◌then◌else◌}
use Rattle.std.specs.Option.{option_and_then}
use Rattle.rh_model.specs.ClusterView.{ClusterView, node_count}
use Rattle.rh_model.specs.declared.node.Node.{Node}
use Rattle.rh_history.specs.HistoryView.{HistoryView, at_step}
use Rattle.rh_otp_model.specs.declared.wait.OwnFile.{OwnFile}
use Rattle.rh_otp_net.specs.declared.order.Order.{Order}
use Rattle.rh_otp_node.specs.Live.{LiveView, never_begun}
use Rattle.rh_otp_system.specs.declared.cell.Cell.{Cell}
use Rattle.rh_otp_system.specs.declared.cell.Cell.TheVariants as cell
use Rattle.rh_otp_system.specs.Views.{NetView}
use Rattle.rh_otp_system.specs.State as system

-- the cluster, what its nodes' own files say, the order in which messages are taken at each command, and the history of the cells: a
-- cell for each node, and the last one for what is between them
pub record LiveSimView : Type 0 where
  pub cluster : ClusterView
  pub files : List OwnFile
  pub order : Order
  pub history : HistoryView Cell

-- nothing has happened between the nodes
abbrev pub first_net : NetView
first_net = record {
  clock = 0;
  step = 0;
  last_call = 0;
  alive = [];
  links = [];
  locks = [];
  timers = [];
  calls = [];
  asleep = [];
  told = [];
}

-- the cells of a system in which no node has begun
abbrev pub first_cells : ℕ → List Cell
first_cells nodes = replicate nodes (cell.Node never_begun) ++ cell.Net first_net ∷ []

-- the simulation in which no node has begun, with no step
abbrev pub opened : ClusterView → List OwnFile → Order → LiveSimView
opened cluster files order = record {
  cluster = cluster;
  files = files;
  order = order;
  history = record {
    now = first_cells (node_count cluster);
    states = first_cells (node_count cluster) ∷ [];
    cursor = 0;
  };
}

-- the simulation without its past: its cells are those with which it began, and no step is done
abbrev pub without_past : LiveSimView → LiveSimView
without_past sim = record sim { history = record { now = sim.history.now; states = sim.history.now ∷ []; cursor = 0 } }

-- a node, if there is one of this number
abbrev pub live_in : LiveSimView → Node → Option LiveView
live_in sim n = option_and_then system.live_in (slice_get sim.history.now n.0)

abbrev pub net_of_cell : Option Cell → NetView
net_of_cell (Some (cell.Net net)) = net
net_of_cell c = first_net

-- what is between the nodes
abbrev pub net_in : LiveSimView → NetView
net_in sim = net_of_cell (slice_get sim.history.now (node_count sim.cluster))

-- the simulation with so many steps done
abbrev pub at_step_of : ℕ → LiveSimView → LiveSimView
at_step_of k sim = record sim { history = at_step sim.history k }

abbrev pub can_undo : LiveSimView → Bool
can_undo sim = nat_lt 0 sim.history.cursor

abbrev pub can_redo : LiveSimView → Bool
can_redo sim = nat_lt (sim.history.cursor + 1) (length sim.history.states)

-- the last step is taken back, if there is one
abbrev pub undone : LiveSimView → LiveSimView
undone sim = if can_undo sim then at_step_of (sim.history.cursor - 1) sim else sim

-- the next step is made again, if there is one
abbrev pub redone : LiveSimView → LiveSimView
redone sim = if can_redo sim then at_step_of (sim.history.cursor + 1) sim else sim
