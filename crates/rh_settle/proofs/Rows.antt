-- Three nodes n1, n2 and n3, a distributed application with the groups n1 and {n2, n3}, one that needs another, and that
-- other one: what follows of itself, computed from the definitions.
use Rattle.std.proofs.Common.{◌≡◌, List, Bool, true, false, Some, None, [], ◌∷◌, refl, arith}
use Rattle.rh_model.specs.ClusterView.{ClusterView, NodeView, group_of}
use Rattle.rh_model.proofs.PlainNode.{plain_node}
use Rattle.rh_model.specs.declared.node.Node.{Node}
use Rattle.rh_model.specs.declared.node.App.{App}
use Rattle.rh_model.specs.declared.settings.Dep.TheVariants.{Listed}
use Rattle.rh_state.specs.declared.status.Kind.TheVariants as kind
use Rattle.rh_state.specs.declared.status.Mode.TheVariants.{Up}
use Rattle.rh_state.specs.declared.status.Standing.{Standing}
use Rattle.rh_state.specs.declared.status.Standing.TheVariants.{Quiet, Wanted, Running, Lost}
use Rattle.rh_state.specs.First.{first}
use Rattle.rh_state.specs.Numbers.{nodes_of, apps_of}
use Rattle.rh_state.specs.StateView.{StateView}
use Rattle.rh_rules.specs.declared.pick.Pick.{Pick}
use Rattle.rh_rules.specs.declared.pick.Pick.TheVariants.{First, Last}
use Rattle.rh_rules.specs.Placing.{is_operational, deps_run, best, candidates}
use Rattle.rh_rules.specs.declared.notice.Move.{Move}
use Rattle.rh_rules.specs.declared.notice.Move.TheVariants.{Local, Placement}
use Rattle.rh_rules.specs.declared.notice.Notice.{Notice}
use Rattle.rh_rules.specs.declared.notice.Notice.TheVariants.{Started, Stopped, Waits}
use Rattle.rh_rules.specs.declared.notice.Pair.{Pair}
use Rattle.rh_rules.specs.Course.{course_of}
use Rattle.rh_rules.specs.Moves.{can_start, local_moves, placements, calls_away, takeovers}
use Rattle.rh_rules.specs.Settling.{next_moves, IsEnabled, goes_before, AreFirst, moved_by, all_moved, settled}
use Rattle.rh_base.proofs.Truths.{both}
use Rattle.rh_trace.proofs.InGroups.{none_before}

abbrev n1 : Node
n1 = record { 0 = 0 }

abbrev n2 : Node
n2 = record { 0 = 1 }

abbrev n3 : Node
n3 = record { 0 = 2 }

abbrev app : App
app = record { 0 = 0 }

abbrev user : App
user = record { 0 = 1 }

abbrev helper : App
helper = record { 0 = 2 }

abbrev pair : Node → App → Pair
pair n a = record { node = n; app = a }

abbrev node_view : NodeView
node_view = record plain_node { permissions = true ∷ true ∷ true ∷ [] }

abbrev cluster : Bool → ClusterView
cluster phases = record {
  profile = 1;
  node_names = (1 ∷ []) ∷ (2 ∷ []) ∷ (3 ∷ []) ∷ [];
  app_names = (4 ∷ []) ∷ (5 ∷ []) ∷ (6 ∷ []) ∷ [];
  platform_names = [];
  nodes = node_view ∷ node_view ∷ node_view ∷ [];
  apps = record { deps = []; start_arg = None; phases = phases; spread = Some (record { timeout = 0; groups = (n1 ∷ []) ∷ (n2 ∷ n3 ∷ []) ∷ [] }) }
      ∷ record { deps = Listed helper ∷ []; start_arg = None; phases = false; spread = None }
      ∷ record { deps = []; start_arg = None; phases = false; spread = None }
      ∷ [];
}

-- all nodes are up and all is permitted; what runs, what waits, and where the distributed application stands
abbrev up : Bool → List (List App) → List (List App) → Standing → StateView
up phases running waiting standing = record (first (cluster phases)) {
  modes = Up ∷ Up ∷ Up ∷ [];
  running = running;
  waiting = waiting;
  allowed = (true ∷ true ∷ true ∷ []) ∷ (true ∷ true ∷ true ∷ []) ∷ (true ∷ true ∷ true ∷ []) ∷ [];
  standings = standing ∷ Quiet ∷ Quiet ∷ [];
}

abbrev told : StateView → List Pair → Pick → List Notice
told s marked pick = (settled pick (course_of s [] marked)).notices

abbrev none : List (List App)
none = [] ∷ [] ∷ [] ∷ []

-- the distributed application waits at all nodes
abbrev everywhere : List (List App)
everywhere = (app ∷ []) ∷ (app ∷ []) ∷ (app ∷ []) ∷ []

abbrev all_fresh : List Pair
all_fresh = pair n1 app ∷ pair n2 app ∷ pair n3 app ∷ []

starts_at_the_first : told (up false none everywhere (Wanted None)) all_fresh First
    ≡ Started app n1 kind.Normal None ∷ Waits app n2 ∷ Waits app n3 ∷ []
unfolding nodes_of apps_of is_operational deps_run best candidates can_start local_moves placements calls_away takeovers next_moves moved_by all_moved
starts_at_the_first = refl

-- what it leads to: it runs at n1, and waits at the others
leads_to : (settled First (course_of (up false none everywhere (Wanted None)) [] all_fresh)).state
    ≡ record (up false ((app ∷ []) ∷ [] ∷ [] ∷ []) ([] ∷ (app ∷ []) ∷ (app ∷ []) ∷ []) (Running n1)) { kinds = (first (cluster false)).kinds }
unfolding nodes_of apps_of is_operational deps_run best candidates can_start local_moves placements calls_away takeovers next_moves moved_by all_moved
leads_to = refl

-- it was lost with n1, and n2 and n3 are equally good
fails_over_to_the_first : told (up false none ([] ∷ (app ∷ []) ∷ (app ∷ []) ∷ []) (Wanted (Some n1))) [] First ≡ Started app n2 kind.Normal (Some n1) ∷ []
unfolding nodes_of apps_of is_operational deps_run best candidates can_start local_moves placements calls_away takeovers next_moves moved_by all_moved
fails_over_to_the_first = refl

fails_over_to_the_last : told (up true none ([] ∷ (app ∷ []) ∷ (app ∷ []) ∷ []) (Wanted (Some n1))) [] Last ≡ Started app n3 (kind.Failover n1) (Some n1) ∷ []
unfolding nodes_of apps_of is_operational deps_run best candidates can_start local_moves placements calls_away takeovers next_moves moved_by all_moved
fails_over_to_the_last = refl

-- it starts again at the node with which it was lost
comes_back : told (up true none everywhere (Wanted (Some n1))) [] First ≡ Started app n1 kind.Normal None ∷ []
unfolding nodes_of apps_of is_operational deps_run best candidates can_start local_moves placements calls_away takeovers next_moves moved_by all_moved
comes_back = refl

-- it runs at n3; the pair of n1 is fresh
abbrev at_the_third : StateView
at_the_third = up false ([] ∷ [] ∷ (app ∷ []) ∷ []) ((app ∷ []) ∷ (app ∷ []) ∷ [] ∷ []) (Running n3)

taken_over : told at_the_third (pair n2 app ∷ pair n1 app ∷ []) Last
    ≡ Started app n1 (kind.Takeover n3) None ∷ Stopped app n3 ∷ Waits app n2 ∷ []
unfolding nodes_of apps_of is_operational deps_run best candidates can_start local_moves placements calls_away takeovers next_moves moved_by all_moved
taken_over = refl

-- n2 is in the same group, so it doesn't take over; nor does n1 unless its pair is fresh
stays : next_moves at_the_third (pair n2 app ∷ []) ≡ []
unfolding nodes_of apps_of is_operational deps_run best candidates can_start local_moves placements calls_away takeovers next_moves
stays = refl

waits_for_the_other : told at_the_third (pair n2 app ∷ []) First ≡ Waits app n2 ∷ []
unfolding nodes_of apps_of is_operational deps_run best candidates can_start local_moves placements calls_away takeovers next_moves moved_by all_moved
waits_for_the_other = refl

-- a pair that was freed calls away as a marked one does, and isn't told where it waits
abbrev freed : StateView → List Pair → List Notice
freed s pairs = (settled First (record (course_of s [] []) { freed = pairs })).notices

taken_back : freed at_the_third (pair n2 app ∷ pair n1 app ∷ []) ≡ Started app n1 (kind.Takeover n3) None ∷ Stopped app n3 ∷ []
unfolding nodes_of apps_of is_operational deps_run best candidates can_start local_moves placements calls_away takeovers next_moves moved_by all_moved
taken_back = refl

freed_stays : freed at_the_third (pair n2 app ∷ []) ≡ []
unfolding nodes_of apps_of is_operational deps_run best candidates can_start local_moves placements calls_away takeovers next_moves moved_by all_moved
freed_stays = refl

-- a local application starts once what it needs runs: first the other, then what waits for it, node after node
one_after_the_other : told (up false none ((user ∷ helper ∷ []) ∷ [] ∷ (helper ∷ user ∷ []) ∷ []) Quiet) (pair n1 user ∷ []) First
    ≡ Started helper n1 kind.Normal None ∷ Started user n1 kind.Normal None ∷ Started helper n3 kind.Normal None ∷ Started user n3 kind.Normal None ∷ []
unfolding nodes_of apps_of is_operational deps_run best candidates can_start local_moves placements calls_away takeovers next_moves moved_by all_moved
one_after_the_other = refl

-- without it, it waits
waits_for_its_needs : told (up false none ((user ∷ []) ∷ [] ∷ [] ∷ []) Quiet) (pair n1 user ∷ []) First ≡ Waits user n1 ∷ []
unfolding nodes_of apps_of is_operational deps_run best candidates can_start local_moves placements calls_away takeovers next_moves moved_by all_moved
waits_for_its_needs = refl

-- a local one goes before a placement, and a placement before a takeover
local_goes_first : next_moves (up false none ((app ∷ []) ∷ [] ∷ (helper ∷ []) ∷ []) (Wanted None)) [] ≡ Local n3 helper ∷ []
unfolding nodes_of apps_of is_operational deps_run best candidates can_start local_moves placements calls_away takeovers next_moves
local_goes_first = refl

-- the placement is enabled there too, and the local one goes before it
abbrev both_kinds : StateView
both_kinds = up false none ((app ∷ []) ∷ [] ∷ (helper ∷ []) ∷ []) (Wanted None)

enabled_too : IsEnabled both_kinds [] (Placement app None n1)
unfolding is_operational deps_run
enabled_too = (
  omega arith,
  refl,
  record {
    listed = refl;
    passes = refl;
    first = λ k h. none_before (group_of (cluster false) app k);
    fewest = λ k h e. omega arith;
  },
)

local_before : goes_before both_kinds (Local n3 helper) (Placement app None n1) ≡ true
local_before = refl

-- so no settling ends there, and none begins with the placement
local_enabled : IsEnabled both_kinds [] (Local n3 helper)
unfolding deps_run
local_enabled = (omega arith, refl, refl, refl, refl)

isnt_settled : AreFirst (course_of both_kinds [] []) [] → ⊥
isnt_settled none = none (Placement app None n1) enabled_too

not_placed_first : (ms : List Move) → AreFirst (course_of both_kinds [] []) (Placement app None n1 ∷ ms) → ⊥
not_placed_first ms run = both true refl (run.0.first (Local n3 helper) local_enabled)

-- local ones go by node first, and then as they wait there
earlier_node : goes_before (up false none ((user ∷ helper ∷ []) ∷ [] ∷ (helper ∷ []) ∷ []) Quiet) (Local n1 helper) (Local n3 helper) ≡ true
earlier_node = refl

as_they_wait : goes_before (up false none ((helper ∷ user ∷ []) ∷ [] ∷ [] ∷ []) Quiet) (Local n1 helper) (Local n1 user) ≡ true
as_they_wait = refl

not_by_name : goes_before (up false none ((helper ∷ user ∷ []) ∷ [] ∷ [] ∷ []) Quiet) (Local n1 user) (Local n1 helper) ≡ false
not_by_name = refl

equally_good : next_moves (up false none ([] ∷ (app ∷ []) ∷ (app ∷ []) ∷ []) (Wanted None)) [] ≡ Placement app None n2 ∷ Placement app None n3 ∷ []
unfolding nodes_of apps_of is_operational deps_run best candidates can_start local_moves placements calls_away takeovers next_moves
equally_good = refl

neither_before : goes_before (up false none ([] ∷ (app ∷ []) ∷ (app ∷ []) ∷ []) (Wanted None)) (Placement app None n2) (Placement app None n3) ≡ false
neither_before = refl

-- a lost one waits for its timer
lost_stays : next_moves (up false none everywhere (Lost n1)) all_fresh ≡ []
unfolding nodes_of apps_of is_operational deps_run best candidates can_start local_moves placements calls_away takeovers next_moves
lost_stays = refl
