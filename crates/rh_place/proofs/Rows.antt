-- Three nodes n1, n2 and n3, and an application with the groups n1 and {n2, n3}, computed from the definitions.
use Rattle.std.proofs.Common.{◌≡◌, Bool, true, false, Some, None, [], ◌∷◌, refl}
use Rattle.rh_model.specs.ClusterView.{ClusterView, NodeView, AppView, is_in}
use Rattle.rh_model.proofs.PlainNode.{plain_node}
use Rattle.rh_model.specs.declared.node.Node.{Node}
use Rattle.rh_model.specs.declared.node.App.{App}
use Rattle.rh_model.specs.declared.settings.Dep.TheVariants.{Listed, Platform}
use Rattle.rh_state.specs.declared.status.Kind.TheVariants.{Normal, Failover}
use Rattle.rh_state.specs.declared.status.Mode.TheVariants.{Down, Up}
use Rattle.rh_state.specs.First.{first}
use Rattle.rh_state.specs.StateView.{StateView}
use Rattle.rh_rules.specs.declared.pick.Pick.TheVariants.{First, Last}
use Rattle.rh_place.specs.Sets.{has}
use Rattle.rh_rules.specs.Placing.{picked, is_operational, deps_run, missing_dep, best, candidates, start_kind}

abbrev n1 : Node
n1 = record { 0 = 0 }

abbrev n2 : Node
n2 = record { 0 = 1 }

abbrev n3 : Node
n3 = record { 0 = 2 }

-- the distributed application, one that depends on another and on the platform, and that other one
abbrev app : App
app = record { 0 = 0 }

abbrev user : App
user = record { 0 = 1 }

abbrev helper : App
helper = record { 0 = 2 }

abbrev node_view : NodeView
node_view = record plain_node { permissions = true ∷ true ∷ true ∷ []; platforms = true ∷ false ∷ [] }

abbrev app_view : Bool → AppView
app_view phases = record { deps = []; start_arg = None; phases = phases; spread = Some (record { timeout = 0; groups = (n1 ∷ []) ∷ (n2 ∷ n3 ∷ []) ∷ [] }) }

abbrev cluster : Bool → ClusterView
cluster phases = record {
  profile = 1;
  node_names = (1 ∷ []) ∷ (2 ∷ []) ∷ (3 ∷ []) ∷ [];
  app_names = (4 ∷ []) ∷ (5 ∷ []) ∷ (6 ∷ []) ∷ [];
  platform_names = (7 ∷ []) ∷ (8 ∷ []) ∷ [];
  nodes = node_view ∷ node_view ∷ node_view ∷ [];
  apps = app_view phases
      ∷ record { deps = Platform 0 ∷ Listed helper ∷ Platform 1 ∷ []; start_arg = None; phases = false; spread = None }
      ∷ record { deps = []; start_arg = None; phases = false; spread = None }
      ∷ [];
}

-- the application waits at all nodes
abbrev all_up : StateView
all_up = record (first (cluster true)) {
  modes = Up ∷ Up ∷ Up ∷ [];
  waiting = (app ∷ []) ∷ (app ∷ []) ∷ (app ∷ []) ∷ [];
  allowed = (true ∷ true ∷ true ∷ []) ∷ (true ∷ true ∷ true ∷ []) ∷ (true ∷ true ∷ true ∷ []) ∷ [];
}

abbrev first_down : StateView
first_down = record all_up { modes = Down ∷ Up ∷ Up ∷ [] }

first_group_alone : candidates all_up app ≡ n1 ∷ []
unfolding candidates best is_operational deps_run
first_group_alone = refl

second_group : candidates first_down app ≡ n2 ∷ n3 ∷ []
unfolding candidates best is_operational deps_run
second_group = refl

written_first : picked First (candidates first_down app) ≡ Some n2
unfolding candidates best is_operational deps_run
written_first = refl

written_last : picked Last (candidates first_down app) ≡ Some n3
unfolding candidates best is_operational deps_run
written_last = refl

-- a shorter running list goes before the written order
shorter_list : picked First (candidates (record first_down { running = [] ∷ (helper ∷ []) ∷ [] ∷ [] }) app) ≡ Some n3
unfolding candidates best is_operational deps_run
shorter_list = refl

shorter_list_the_other_way : picked Last (candidates (record first_down { running = [] ∷ [] ∷ (helper ∷ []) ∷ [] }) app) ≡ Some n2
unfolding candidates best is_operational deps_run
shorter_list_the_other_way = refl

-- the first group goes before a shorter running list
group_before_list : candidates (record all_up { running = (helper ∷ []) ∷ [] ∷ [] ∷ [] }) app ≡ n1 ∷ []
unfolding candidates best is_operational deps_run
group_before_list = refl

not_permitted : candidates (record all_up { allowed = (false ∷ true ∷ true ∷ []) ∷ (true ∷ true ∷ true ∷ []) ∷ (false ∷ true ∷ true ∷ []) ∷ [] }) app ≡ n2 ∷ []
unfolding candidates best is_operational deps_run
not_permitted = refl

not_started : candidates (record all_up { waiting = [] ∷ [] ∷ (app ∷ []) ∷ [] }) app ≡ n3 ∷ []
unfolding candidates best is_operational deps_run
not_started = refl

all_down : picked First (candidates (first (cluster true)) app) ≡ None
unfolding candidates best is_operational deps_run
all_down = refl

not_distributed : candidates (record all_up { waiting = (helper ∷ []) ∷ [] ∷ [] ∷ [] }) helper ≡ []
unfolding candidates best is_operational deps_run
not_distributed = refl

of_a_set : picked Last (best all_up app (λ n. is_in n (n1 ∷ n3 ∷ []))) ≡ Some n1
unfolding best
of_a_set = refl

of_a_word : picked Last (best all_up app (has (record { bits = 5 }))) ≡ Some n1
unfolding best has
of_a_word = refl

of_no_set : picked First (best all_up app (has (record { bits = 0 }))) ≡ None
unfolding best has
of_no_set = refl

-- what the other application depends on: a platform name, an application, and a name that the platform lacks
second_missing : missing_dep all_up n1 user ≡ Some (Listed helper)
unfolding missing_dep
second_missing = refl

third_missing : missing_dep (record all_up { running = (helper ∷ []) ∷ [] ∷ [] ∷ [] }) n1 user ≡ Some (Platform 1)
unfolding missing_dep
third_missing = refl

not_all_run : deps_run (record all_up { running = (helper ∷ []) ∷ [] ∷ [] ∷ [] }) n1 user ≡ false
unfolding deps_run
not_all_run = refl

all_run : deps_run all_up n1 app ≡ true
unfolding deps_run
all_run = refl

failover : start_kind all_up app (Some n1) n2 ≡ Failover n1
failover = refl

same_node_again : start_kind all_up app (Some n1) n1 ≡ Normal
same_node_again = refl

without_phases : start_kind (first (cluster false)) app (Some n1) n2 ≡ Normal
without_phases = refl

not_lost : start_kind all_up app None n2 ≡ Normal
not_lost = refl
