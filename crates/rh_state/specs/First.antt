-- The state before any event (ours).
use Rattle.std.specs.Prelude.{[], List, Bool, ◌+◌, ◌*◌, map, replicate}
use Rattle.rh_model.specs.ClusterView.{ClusterView, node_count, app_count, is_permitted}
use Rattle.rh_model.specs.declared.node.Node.{Node}
use Rattle.rh_arena.specs.Words.{unlinked}
use Rattle.rh_wheel.specs.Stored.{unarmed}
use Rattle.rh_model.specs.declared.settings.Restart.TheVariants.{Temporary}
use Rattle.rh_state.specs.declared.status.Mode.TheVariants.{Down}
use Rattle.rh_state.specs.declared.status.Kind.TheVariants.{Normal}
use Rattle.rh_state.specs.declared.status.Standing.TheVariants.{Quiet}
use Rattle.rh_state.specs.Numbers.{nodes_of, apps_of}
use Rattle.rh_state.specs.StateView.{StateView}
use Rattle.rh_state.specs.Stored.{Stored}

-- the permissions of a new incarnation of a node (kernel(6), permissions)
unfoldable pub configured : ClusterView → Node → List Bool
configured c n = map (is_permitted c n) (apps_of c)

-- the time is 0, all nodes are down and were never started, nothing is started or wanted, and no timer is set
abbrev pub first : ClusterView → StateView
first c = record {
  cluster = c;
  time = 0;
  modes = replicate (node_count c) Down;
  incarnations = replicate (node_count c) 0;
  running = replicate (node_count c) [];
  waiting = replicate (node_count c) [];
  restarts = replicate (node_count c) (replicate (app_count c) Temporary);
  kinds = replicate (node_count c) (replicate (app_count c) Normal);
  allowed = map (configured c) (nodes_of c);
  standings = replicate (app_count c) Quiet;
  timers = [];
}

-- what is kept of it: no entry is linked, and no timer armed
abbrev pub first_words : ClusterView → Stored
first_words c = record {
  cluster = c;
  time = 0;
  modes = replicate (node_count c) Down;
  incarnations = replicate (node_count c) 0;
  links = unlinked (node_count c * app_count c) (2 * node_count c);
  restarts = replicate (node_count c) (replicate (app_count c) Temporary);
  kinds = replicate (node_count c) (replicate (app_count c) Normal);
  allowed = map (configured c) (nodes_of c);
  standings = replicate (app_count c) Quiet;
  wheel = unarmed (node_count c + app_count c);
}
