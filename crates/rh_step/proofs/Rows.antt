-- Worked rows of local applications: the definitions compute to what an operator expects.
use Rattle.std.proofs.Common.{◌≡◌, List, Bool, true, false, [], ◌∷◌, Some, None, codes, refl}
use Rattle.rh_model.specs.ClusterView.{ClusterView, NodeView, AppView, numbered, app_numbered}
use Rattle.rh_model.proofs.PlainNode.{plain_node}
use Rattle.rh_model.specs.declared.node.Node.{Node}
use Rattle.rh_model.specs.declared.node.App.{App}
use Rattle.rh_model.specs.declared.settings.Dep.{Dep}
use Rattle.rh_model.specs.declared.settings.Dep.TheVariants.{Listed, Platform}
use Rattle.rh_model.specs.declared.settings.Restart.{Restart}
use Rattle.rh_model.specs.declared.settings.Restart.TheVariants.{Permanent, Temporary}
use Rattle.rh_state.specs.declared.status.Kind.TheVariants.{Normal}
use Rattle.rh_state.specs.Numbers.{nodes_of, apps_of}
use Rattle.rh_state.specs.First.{first, configured}
use Rattle.rh_state.specs.StateView.{StateView}
use Rattle.rh_rules.specs.declared.pick.Pick.TheVariants.{First}
use Rattle.rh_rules.specs.Placing.{missing_dep, deps_run, is_operational, best, candidates}
use Rattle.rh_rules.specs.declared.notice.Notice.{Notice}
use Rattle.rh_rules.specs.declared.notice.Notice.TheVariants.{Up, Ended, Started, Stopped, Waits}
use Rattle.rh_rules.specs.Moves.{can_start, local_moves, placements, calls_away, takeovers}
use Rattle.rh_rules.specs.Settling.{next_moves, moved_by, all_moved}
use Rattle.rh_rules.specs.declared.event.Event.{Event}
use Rattle.rh_rules.specs.declared.event.Event.TheVariants.{Boot, Crash, Start, Stop, Permit}
use Rattle.rh_rules.specs.NodesStart.{all_alive, is_ready, come_up, come_up_if_ready, ready_come_up, booted}
use Rattle.rh_rules.specs.Marking.{with_mark, mark_all}
use Rattle.rh_rules.specs.NodesEnd.{cleared, lost_if_ran, all_lost, ended}
use Rattle.rh_rules.specs.ByHand.{stopped, is_started_anywhere, left_waiting, forbidden, permitted}
use Rattle.rh_rules.specs.declared.refusal.Refusal.TheVariants.{NodeNotUp, AlreadyStarted, DependencyNotStarted}
use Rattle.rh_rules.specs.Refusals.{refused}
use Rattle.rh_rules.specs.Steps.{followed, next}

abbrev pub state_after : StateView → List Event → StateView
state_after s [] = s
state_after s (e ∷ events) = state_after (next s e First).state events

abbrev pub answers : StateView → List Event → List (List Notice)
answers s [] = []
answers s (e ∷ events) = (next s e First).notices ∷ answers (next s e First).state events

abbrev node : List (App × Restart) → List Bool → NodeView
node boot permissions = record plain_node { boot = boot; permissions = permissions; platforms = true ∷ true ∷ [] }

abbrev local : List Dep → AppView
local deps = record { deps = deps; start_arg = None; phases = false; spread = None }

-- ---- one node that boots three applications
abbrev pub one : Node
one = numbered 0

abbrev pub a : App
a = app_numbered 0

abbrev b : App
b = app_numbered 1

abbrev c : App
c = app_numbered 2

abbrev pub three_apps : ClusterView
three_apps = record {
  profile = 1;
  node_names = codes "one@lab" ∷ [];
  app_names = codes "a" ∷ codes "b" ∷ codes "c" ∷ [];
  platform_names = codes "kernel" ∷ codes "stdlib" ∷ [];
  nodes = node ((a, Temporary) ∷ (b, Temporary) ∷ (c, Temporary) ∷ []) (true ∷ true ∷ true ∷ []) ∷ [];
  apps = local [] ∷ local [] ∷ local [] ∷ [];
}

-- an application that is started again goes behind the others
started_again_row : answers (first three_apps) (Boot one ∷ Stop one b ∷ Start one b Temporary ∷ [])
    ≡ (Up one ∷ Started a one Normal None ∷ Started b one Normal None ∷ Started c one Normal None ∷ [])
    ∷ (Stopped b one ∷ []) ∷ (Started b one Normal None ∷ []) ∷ []
unfolding nodes_of apps_of configured all_alive is_ready booted with_mark mark_all come_up come_up_if_ready ready_come_up stopped left_waiting
    is_started_anywhere missing_dep deps_run is_operational best candidates can_start local_moves placements calls_away takeovers next_moves moved_by all_moved
    followed next
started_again_row = refl

order_row : (state_after (first three_apps) (Boot one ∷ Stop one b ∷ Start one b Temporary ∷ [])).running ≡ (a ∷ c ∷ b ∷ []) ∷ []
unfolding nodes_of apps_of configured all_alive is_ready booted with_mark mark_all come_up come_up_if_ready ready_come_up stopped left_waiting
    is_started_anywhere missing_dep deps_run is_operational best candidates can_start local_moves placements calls_away takeovers next_moves moved_by all_moved
    followed next
order_row = refl

-- one that may not run waits, and starts again as soon as it may
abbrev forbidden_b : StateView
forbidden_b = state_after (first three_apps) (Boot one ∷ Permit one b false ∷ [])

forbidden_row : answers (first three_apps) (Boot one ∷ Permit one b false ∷ Permit one b true ∷ Crash one ∷ [])
    ≡ (Up one ∷ Started a one Normal None ∷ Started b one Normal None ∷ Started c one Normal None ∷ [])
    ∷ (Stopped b one ∷ []) ∷ (Started b one Normal None ∷ []) ∷ (Ended one ∷ []) ∷ []
unfolding nodes_of apps_of configured all_alive is_ready booted with_mark mark_all come_up come_up_if_ready ready_come_up cleared lost_if_ran all_lost ended
    forbidden permitted missing_dep deps_run is_operational best candidates can_start local_moves placements calls_away takeovers next_moves moved_by all_moved
    followed next
forbidden_row = refl

started_already_row : refused forbidden_b (Start one b Permanent) ≡ Some AlreadyStarted
unfolding nodes_of apps_of configured all_alive is_ready booted with_mark mark_all come_up come_up_if_ready ready_come_up forbidden permitted missing_dep
    deps_run is_operational best candidates can_start local_moves placements calls_away takeovers next_moves moved_by all_moved followed next refused
started_already_row = refl

not_up_row : refused (first three_apps) (Permit one a true) ≡ Some NodeNotUp
unfolding refused
not_up_row = refl

-- ---- what an application needs: x needs d1 and d2
abbrev v : Node
v = numbered 0

abbrev w : Node
w = numbered 1

abbrev x : App
x = app_numbered 0

abbrev d1 : App
d1 = app_numbered 1

abbrev d2 : App
d2 = app_numbered 2

abbrev needs : ClusterView
needs = record {
  profile = 1;
  node_names = codes "v@lab" ∷ codes "w@lab" ∷ [];
  app_names = codes "x" ∷ codes "d1" ∷ codes "d2" ∷ [];
  platform_names = codes "kernel" ∷ codes "stdlib" ∷ [];
  nodes = node [] (true ∷ true ∷ true ∷ []) ∷ node ((x, Permanent) ∷ (d1, Permanent) ∷ []) (true ∷ true ∷ true ∷ []) ∷ [];
  apps = local (Platform 0 ∷ Listed d1 ∷ Listed d2 ∷ []) ∷ local [] ∷ local [] ∷ [];
}

missing_row : refused (state_after (first needs) (Boot v ∷ [])) (Start v x Permanent) ≡ Some (DependencyNotStarted (Listed d1))
unfolding nodes_of apps_of configured all_alive is_ready booted with_mark mark_all come_up come_up_if_ready ready_come_up missing_dep deps_run is_operational
    best candidates can_start local_moves placements calls_away takeovers next_moves moved_by all_moved followed next refused
missing_row = refl

needs_row : answers (first needs) (Boot v ∷ Boot w ∷ Start w d2 Temporary ∷ [])
    ≡ (Up v ∷ []) ∷ (Up w ∷ Started d1 w Normal None ∷ Waits x w ∷ []) ∷ (Started d2 w Normal None ∷ Started x w Normal None ∷ []) ∷ []
unfolding nodes_of apps_of configured all_alive is_ready booted with_mark mark_all come_up come_up_if_ready ready_come_up missing_dep deps_run is_operational
    best candidates can_start local_moves placements calls_away takeovers next_moves moved_by all_moved followed next
needs_row = refl

-- two that need each other wait for ever
abbrev circle : ClusterView
circle = record {
  profile = 1;
  node_names = codes "z" ∷ [];
  app_names = codes "f" ∷ codes "g" ∷ [];
  platform_names = codes "kernel" ∷ codes "stdlib" ∷ [];
  nodes = node ((a, Permanent) ∷ (b, Permanent) ∷ []) (true ∷ true ∷ []) ∷ [];
  apps = local (Listed b ∷ []) ∷ local (Listed a ∷ []) ∷ [];
}

circle_row : answers (first circle) (Boot one ∷ []) ≡ (Up one ∷ Waits a one ∷ Waits b one ∷ []) ∷ []
unfolding nodes_of apps_of configured all_alive is_ready booted with_mark mark_all come_up come_up_if_ready ready_come_up missing_dep deps_run is_operational
    best candidates can_start local_moves placements calls_away takeovers next_moves moved_by all_moved followed next
circle_row = refl
