-- Which waiting nodes are ready, computed from the definitions.
use Rattle.std.proofs.Common.{◌≡◌, List, [], ◌∷◌, map, Bool, true, false, refl}
use Rattle.rh_model.specs.ClusterView.{ClusterView, NodeView}
use Rattle.rh_model.proofs.PlainNode.{plain_node}
use Rattle.rh_model.specs.declared.node.Node.{Node}
use Rattle.rh_model.specs.declared.settings.SyncWait.{SyncWait}
use Rattle.rh_model.specs.declared.settings.SyncWait.TheVariants.{Unset, After, Forever}
use Rattle.rh_state.specs.declared.status.Mode.{Mode}
use Rattle.rh_state.specs.declared.status.Mode.TheVariants.{Down, Waiting, Up}
use Rattle.rh_state.specs.First.{first}
use Rattle.rh_rules.specs.NodesStart.{all_alive, is_ready}

abbrev one : Node
one = record { 0 = 0 }

abbrev must : Node
must = record { 0 = 1 }

abbrev may : Node
may = record { 0 = 2 }

abbrev node : List Node → List Node → SyncWait → NodeView
node mandatory optional wait = record plain_node { mandatory = mandatory; optional = optional; sync_wait = wait }

-- the first node has itself and the second for mandatory ones, and itself and the third for optional ones
abbrev cluster : SyncWait → ClusterView
cluster wait = record {
  profile = 1;
  node_names = (1 ∷ []) ∷ (2 ∷ []) ∷ (3 ∷ []) ∷ [];
  app_names = [];
  platform_names = [];
  nodes = node (must ∷ one ∷ []) (one ∷ may ∷ []) wait ∷ node [] [] Unset ∷ node [] [] Unset ∷ [];
  apps = [];
}

-- is the first node ready, with the modes of the three?
abbrev ready : SyncWait → List Mode → Bool
ready wait modes = is_ready (record (first (cluster wait)) { modes = modes }) one

-- without a timeout it waits for nobody, whatever its lists say
waits_for_nobody_row : ready Unset (Waiting ∷ Down ∷ Down ∷ []) ≡ true
unfolding is_ready
waits_for_nobody_row = refl

-- with one it waits until all of both lists are alive, up or waiting; its own name has no effect
all_there_row : map (ready (After 5)) ((Waiting ∷ Up ∷ Up ∷ []) ∷ (Waiting ∷ Waiting ∷ Up ∷ []) ∷ (Waiting ∷ Up ∷ Waiting ∷ []) ∷ []) ≡ true ∷ true ∷ true ∷ []
unfolding is_ready all_alive
all_there_row = refl

one_missing_row : map (ready (After 5)) ((Waiting ∷ Down ∷ Up ∷ []) ∷ (Waiting ∷ Up ∷ Down ∷ []) ∷ (Waiting ∷ Down ∷ Down ∷ []) ∷ [])
    ≡ false ∷ false ∷ false ∷ []
unfolding is_ready all_alive
one_missing_row = refl

-- an infinite wait ends so too, and in no other way; and a timeout of 0 doesn't make it ready
for_ever_row : map (ready Forever) ((Waiting ∷ Up ∷ Waiting ∷ []) ∷ (Waiting ∷ Up ∷ Down ∷ []) ∷ (Waiting ∷ Down ∷ Up ∷ []) ∷ []) ≡ true ∷ false ∷ false ∷ []
unfolding is_ready all_alive
for_ever_row = refl

with_no_time_row : ready (After 0) (Waiting ∷ Up ∷ Down ∷ []) ≡ false
unfolding is_ready all_alive
with_no_time_row = refl

-- only a waiting node is ready
not_waiting_row : map (ready (After 5)) ((Up ∷ Up ∷ Up ∷ []) ∷ (Down ∷ Up ∷ Up ∷ []) ∷ []) ≡ false ∷ false ∷ []
unfolding is_ready all_alive
not_waiting_row = refl

not_waiting_without_a_timeout_row : map (ready Unset) ((Up ∷ Up ∷ Up ∷ []) ∷ (Down ∷ Up ∷ Up ∷ []) ∷ []) ≡ false ∷ false ∷ []
unfolding is_ready
not_waiting_without_a_timeout_row = refl
