-- Two nodes and distributed applications alone: which move goes before which, and what a move does, computed from the
-- definitions.
use Rattle.std.proofs.Common.{◌≡◌, List, true, false, Some, None, [], ◌∷◌, refl}
use Rattle.rh_model.specs.ClusterView.{ClusterView, NodeView, AppView}
use Rattle.rh_model.proofs.PlainNode.{plain_node}
use Rattle.rh_model.specs.declared.node.Node.{Node}
use Rattle.rh_model.specs.declared.node.App.{App}
use Rattle.rh_model.specs.declared.settings.Restart.TheVariants.{Permanent, Temporary}
use Rattle.rh_state.specs.declared.status.Kind.TheVariants as kind
use Rattle.rh_state.specs.declared.status.Mode.TheVariants.{Up}
use Rattle.rh_state.specs.declared.status.Standing.{Standing}
use Rattle.rh_state.specs.declared.status.Standing.TheVariants.{Quiet, Wanted, Running, Lost}
use Rattle.rh_state.specs.First.{first}
use Rattle.rh_state.specs.Numbers.{nodes_of, apps_of}
use Rattle.rh_state.specs.StateView.{StateView}
use Rattle.rh_rules.specs.Placing.{is_operational, deps_run, best, candidates}
use Rattle.rh_rules.specs.declared.notice.Move.TheVariants.{Placement, Takeover}
use Rattle.rh_rules.specs.declared.notice.Notice.TheVariants.{Started, Stopped, Waits}
use Rattle.rh_rules.specs.declared.notice.Pair.{Pair}
use Rattle.rh_rules.specs.Course.{course_of}
use Rattle.rh_rules.specs.Moves.{can_start, local_moves, placements, calls_away, takeovers, moved}
use Rattle.rh_rules.specs.Settling.{next_moves, waits_told, goes_before}

abbrev p : Node
p = record { 0 = 0 }

abbrev q : Node
q = record { 0 = 1 }

abbrev r : Node
r = record { 0 = 2 }

abbrev a : App
a = record { 0 = 0 }

abbrev b : App
b = record { 0 = 1 }

abbrev pair : Node → App → Pair
pair n x = record { node = n; app = x }

abbrev node : NodeView
node = record plain_node { permissions = true ∷ true ∷ [] }

-- both prefer p and q, which rank alike, to r
abbrev app : AppView
app = record { deps = []; start_arg = None; phases = false; spread = Some (record { timeout = 0; groups = (p ∷ q ∷ []) ∷ (r ∷ []) ∷ [] }) }

abbrev cluster : ClusterView
cluster = record {
  profile = 1;
  node_names = (1 ∷ []) ∷ (2 ∷ []) ∷ (3 ∷ []) ∷ [];
  app_names = (4 ∷ []) ∷ (5 ∷ []) ∷ [];
  platform_names = [];
  nodes = node ∷ node ∷ node ∷ [];
  apps = app ∷ app ∷ [];
}

abbrev up : List (List App) → List (List App) → List Standing → StateView
up running waiting standings = record (first cluster) {
  modes = Up ∷ Up ∷ Up ∷ [];
  running = running;
  waiting = waiting;
  allowed = (true ∷ true ∷ []) ∷ (true ∷ true ∷ []) ∷ (true ∷ true ∷ []) ∷ [];
  standings = standings;
}

-- ---- a placement goes before a takeover, also that of a later application before that of an earlier one
abbrev one_of_each : StateView
one_of_each = up ([] ∷ [] ∷ (a ∷ []) ∷ []) ((a ∷ []) ∷ (b ∷ []) ∷ [] ∷ []) (Running r ∷ Wanted None ∷ [])

placement_first_row : next_moves one_of_each (pair p a ∷ []) ≡ Placement b None q ∷ []
unfolding nodes_of apps_of is_operational deps_run best candidates can_start local_moves placements calls_away takeovers next_moves
placement_first_row = refl

placement_before_takeover_row : goes_before one_of_each (Placement b None q) (Takeover a r p) ≡ true
placement_before_takeover_row = refl

takeover_not_before_placement_row : goes_before one_of_each (Takeover a r p) (Placement b None q) ≡ false
takeover_not_before_placement_row = refl

-- placements go by application, and so do takeovers
abbrev two_wanted : StateView
two_wanted = up ([] ∷ [] ∷ [] ∷ []) ((b ∷ []) ∷ (a ∷ []) ∷ [] ∷ []) (Wanted (Some r) ∷ Wanted None ∷ [])

placements_by_application_row : next_moves two_wanted [] ≡ Placement a (Some r) q ∷ []
unfolding nodes_of apps_of is_operational deps_run best candidates can_start local_moves placements calls_away takeovers next_moves
placements_by_application_row = refl

abbrev two_behind : StateView
two_behind = up ([] ∷ [] ∷ (b ∷ a ∷ []) ∷ []) ((b ∷ []) ∷ (a ∷ []) ∷ [] ∷ []) (Running r ∷ Running r ∷ [])

takeovers_by_application_row : next_moves two_behind (pair p b ∷ pair q a ∷ []) ≡ Takeover a r q ∷ []
unfolding nodes_of apps_of is_operational deps_run best candidates can_start local_moves placements calls_away takeovers next_moves
takeovers_by_application_row = refl

-- ---- of several nodes that call an application away, the best is one at which fewest applications run
lighter_takes_over_row : next_moves (up ((b ∷ []) ∷ [] ∷ (a ∷ []) ∷ []) ((a ∷ []) ∷ (a ∷ []) ∷ [] ∷ []) (Running r ∷ Running p ∷ [])) (pair p a ∷ pair q a ∷ [])
    ≡ Takeover a r q ∷ []
unfolding nodes_of apps_of is_operational deps_run best candidates can_start local_moves placements calls_away takeovers next_moves
lighter_takes_over_row = refl

either_takes_over_row : next_moves (up ([] ∷ [] ∷ (a ∷ []) ∷ []) ((a ∷ []) ∷ (a ∷ []) ∷ [] ∷ []) (Running r ∷ Quiet ∷ [])) (pair q a ∷ pair p a ∷ [])
    ≡ Takeover a r p ∷ Takeover a r q ∷ []
unfolding nodes_of apps_of is_operational deps_run best candidates can_start local_moves placements calls_away takeovers next_moves
either_takes_over_row = refl

-- one that runs in the first group is called away by nobody there, and one that is fresh but forbidden calls nobody
same_group_row : next_moves (up ([] ∷ (a ∷ []) ∷ [] ∷ []) ((a ∷ []) ∷ [] ∷ [] ∷ []) (Running q ∷ Quiet ∷ [])) (pair p a ∷ []) ≡ []
unfolding nodes_of apps_of is_operational deps_run best candidates can_start local_moves placements calls_away takeovers next_moves
same_group_row = refl

forbidden_row : next_moves (record (up ([] ∷ [] ∷ (a ∷ []) ∷ []) ((a ∷ []) ∷ [] ∷ [] ∷ []) (Running r ∷ Quiet ∷ [])) {
  allowed = (false ∷ true ∷ []) ∷ (true ∷ true ∷ []) ∷ (true ∷ true ∷ []) ∷ [];
}) (pair p a ∷ []) ≡ []
unfolding nodes_of apps_of is_operational deps_run best candidates can_start local_moves placements calls_away takeovers next_moves
forbidden_row = refl

-- ---- neither a quiet application nor a lost one is placed, though it waits where it could run
quiet_or_lost_row : next_moves (up ([] ∷ [] ∷ [] ∷ []) ((a ∷ b ∷ []) ∷ (a ∷ b ∷ []) ∷ [] ∷ []) (Quiet ∷ Lost r ∷ [])) (pair p a ∷ pair p b ∷ []) ≡ []
unfolding nodes_of apps_of is_operational deps_run best candidates can_start local_moves placements calls_away takeovers next_moves
quiet_or_lost_row = refl

-- ---- a takeover starts at the new node before it stops at the old one, goes on waiting there, and leaves both restart types
abbrev typed : StateView
typed = record two_behind { restarts = (Permanent ∷ Temporary ∷ []) ∷ (Temporary ∷ Temporary ∷ []) ∷ (Temporary ∷ Permanent ∷ []) ∷ [] }

takeover_row : moved (course_of typed [] []) (Takeover b r p)
    ≡ course_of (record (up ((b ∷ []) ∷ [] ∷ (a ∷ []) ∷ []) ([] ∷ (a ∷ []) ∷ (b ∷ []) ∷ []) (Running r ∷ Running p ∷ [])) {
      restarts = typed.restarts;
      kinds = (kind.Normal ∷ kind.Takeover r ∷ []) ∷ (kind.Normal ∷ kind.Normal ∷ []) ∷ (kind.Normal ∷ kind.Normal ∷ []) ∷ [];
    }) (Started b p (kind.Takeover r) None ∷ Stopped b r ∷ []) []
takeover_row = refl

-- a placement goes to the end of what runs there, tells with which other node it was lost, and leaves its restart type
placement_row : moved (course_of (record typed { running = (b ∷ []) ∷ [] ∷ [] ∷ []; waiting = (a ∷ []) ∷ [] ∷ [] ∷ []; standings = Wanted (Some r) ∷ Running p ∷ [] }) [] [])
    (Placement a (Some r) p)
    ≡ course_of (record typed { running = (b ∷ a ∷ []) ∷ [] ∷ [] ∷ []; waiting = [] ∷ [] ∷ [] ∷ []; standings = Running p ∷ Running p ∷ [] })
    (Started a p kind.Normal (Some r) ∷ []) []
placement_row = refl

-- ---- at the end each fresh pair that still waits is told, in the order in which they were started
still_waiting_row : (waits_told (course_of two_behind [] (pair q a ∷ pair r a ∷ pair p b ∷ []))).notices ≡ Waits a q ∷ Waits b p ∷ []
still_waiting_row = refl
