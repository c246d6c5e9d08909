-- RULES, "Applications start", What it needs, Where it can run, Ties: where an application can run, which of equally good nodes is
-- taken, and how it starts there (Distributed Applications; app(4), applications, start_phases; application(3), start/2; ours for ties).
use Rattle.std.specs.Prelude.{Bool, not, find, Option, List, unwrap_or, None, Some, ◌&&◌, [], if◌then◌else◌}
use Rattle.rh_rules.specs.Prelude.{list_all, filter, last_or, option_map, first_given, lightest, head, is_platform, deps_of, ClusterView, spread_of, has_phases, App, Node, Dep, Listed, Platform, Spread, same_node, StateView, runs_at, mode_of, is_up, is_started, is_allowed, running_count, Kind, Normal, Failover, Pick, First, Last}

-- a dependency runs at a node that has it as a platform name, or runs it (app(4), applications)
abbrev pub dep_runs : StateView → Node → Dep → Bool
dep_runs s n (Listed b) = runs_at s n b
dep_runs s n (Platform p) = is_platform s.cluster n p

-- all that the application depends on runs there (app(4), applications)
unfoldable pub deps_run : StateView → Node → App → Bool
deps_run s n a = list_all (dep_runs s n) (deps_of s.cluster a)

-- the first dependency, in written order, that doesn't run there (ours)
unfoldable pub missing_dep : StateView → Node → App → Option Dep
missing_dep s n a = find (λ d. not (dep_runs s n d)) (deps_of s.cluster a)

-- the node is up, and the application is started and may run there, with all that it needs (Distributed Applications)
unfoldable pub is_operational : StateView → App → Node → Bool
is_operational s a n = is_up (mode_of s n) && (is_started s n a && (is_allowed s n a && deps_run s n a))

-- the groups of an application's node list; it has none if it isn't distributed (Distributed Applications)
abbrev pub groups_of : ClusterView → App → List (List Node)
groups_of c a = unwrap_or (option_map (λ (v : Spread). v.groups) (spread_of c a)) []

-- of the first group with a node that passes the test, those such nodes at which fewest applications run
-- (Distributed Applications)
unfoldable pub best : StateView → App → (Node → Bool) → List Node
best s a test = lightest (running_count s) (first_given (filter test) (groups_of s.cluster a))

-- where an application that is wanted can be placed (Distributed Applications)
unfoldable pub candidates : StateView → App → List Node
candidates s a = best s a (is_operational s a)

-- of equally good ones, in written order, the one that the pick takes
abbrev pub picked : {A : Type 0} → Pick → List A → Option A
picked First xs = head xs
picked Last xs = last_or None xs

-- as a failover if its start phases are defined and it was lost with another node
abbrev pub start_kind : StateView → App → Option Node → Node → Kind
start_kind s a None n = Normal
start_kind s a (Some from) n = if has_phases s.cluster a && not (same_node from n) then Failover from else Normal
