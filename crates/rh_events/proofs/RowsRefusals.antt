-- Which events are refused, why, and which reason goes before another, computed from the definitions.
use Rattle.std.proofs.Common.{◌≡◌, List, [], ◌∷◌, map, Option, Some, None, true, false, codes, refl}
use Rattle.rh_model.specs.declared.node.Node.{Node}
use Rattle.rh_model.specs.declared.node.App.{App}
use Rattle.rh_model.specs.declared.settings.Dep.TheVariants.{Listed}
use Rattle.rh_model.specs.declared.settings.Restart.TheVariants.{Permanent}
use Rattle.rh_state.specs.declared.status.Mode.TheVariants.{Down, Waiting, Up}
use Rattle.rh_state.specs.declared.status.Standing.{Standing}
use Rattle.rh_state.specs.declared.status.Standing.TheVariants.{Quiet, Wanted, Running, Lost}
use Rattle.rh_state.specs.StateView.{StateView}
use Rattle.rh_rules.specs.Placing.{missing_dep}
use Rattle.rh_rules.specs.declared.event.Event.{Event}
use Rattle.rh_rules.specs.declared.event.Event.TheVariants.{Boot, Crash, Tick, Start, Stop, Permit, Takeover, Exit}
use Rattle.rh_rules.specs.declared.refusal.Refusal.{Refusal}
use Rattle.rh_rules.specs.declared.refusal.Refusal.TheVariants.{UnknownNode, UnknownApp, AlreadyAlive, IncarnationLimit, NotAlive, ZeroTick, TimeLimit, NodeNotUp, NotDistributed, NotListed, AlreadyStarted, NeverStarted, NotRunning, RunsHere, NotRunningHere, NotPermitted, DependencyNotStarted, TrailFull, OutOfMemory}
use Rattle.rh_rules.specs.Refusals.{refused, refusal_words}
use Rattle.rh_events.proofs.Scene.{p, q, nowhere, nothing, job, twin, far, tool, aid, scene, none}

abbrev why : StateView → List Event → List (Option Refusal)
why s events = map (refused s) events

abbrev by_hand : Node → App → List Event
by_hand n a = Start n a Permanent ∷ Stop n a ∷ Permit n a false ∷ Takeover n a Permanent ∷ Exit n a true ∷ []

abbrev each : Refusal → List (Option Refusal)
each r = Some r ∷ Some r ∷ Some r ∷ Some r ∷ Some r ∷ []

abbrev quiet : List Standing
quiet = Quiet ∷ Quiet ∷ Quiet ∷ []

-- p is down, q waits for it, and nothing is started
abbrev dark : StateView
dark = scene (Down ∷ Waiting ∷ []) none none quiet

abbrev bright : List (List App) → List (List App) → List Standing → StateView
bright running waiting standings = scene (Up ∷ Up ∷ []) running waiting standings

-- ---- a node that isn't there goes before an application that isn't there, and that before a node that isn't up
unknown_node_row : why dark (Boot nowhere ∷ Crash nowhere ∷ by_hand nowhere nothing) ≡ Some UnknownNode ∷ Some UnknownNode ∷ each UnknownNode
unfolding refused
unknown_node_row = refl

unknown_application_row : why dark (by_hand p nothing) ≡ each UnknownApp
unfolding refused
unknown_application_row = refl

unknown_application_where_it_waits_row : why dark (by_hand q nothing) ≡ each UnknownApp
unfolding refused
unknown_application_where_it_waits_row = refl

-- a node that isn't up goes before all that is asked of the application
down_row : why dark (by_hand p far) ≡ each NodeNotUp
unfolding refused
down_row = refl

down_local_row : why dark (by_hand p tool) ≡ each NodeNotUp
unfolding refused
down_local_row = refl

waiting_isnt_up_row : why dark (by_hand q tool) ≡ each NodeNotUp
unfolding refused
waiting_isnt_up_row = refl

-- ---- nodes
alive_row : why (bright none none quiet) (Boot p ∷ Crash p ∷ []) ≡ Some AlreadyAlive ∷ None ∷ []
unfolding refused
alive_row = refl

waiting_is_alive_row : why dark (Boot q ∷ Crash q ∷ []) ≡ Some AlreadyAlive ∷ None ∷ []
unfolding refused
waiting_is_alive_row = refl

not_alive_row : why dark (Boot p ∷ Crash p ∷ []) ≡ None ∷ Some NotAlive ∷ []
unfolding refused
not_alive_row = refl

last_start_row : why (record dark { incarnations = 9998 ∷ 0 ∷ [] }) (Boot p ∷ []) ≡ None ∷ []
unfolding refused
last_start_row = refl

starts_used_up_row : why (record dark { incarnations = 9999 ∷ 0 ∷ [] }) (Boot p ∷ []) ≡ Some IncarnationLimit ∷ []
unfolding refused
starts_used_up_row = refl

-- already alive goes before the last start
alive_at_the_last_start_row : why (record dark { incarnations = 0 ∷ 9999 ∷ [] }) (Boot q ∷ []) ≡ Some AlreadyAlive ∷ []
unfolding refused
alive_at_the_last_start_row = refl

-- ---- time: up to 10^12 milliseconds, and not one more
ticks_row : why (record dark { time = 999999999995 }) (Tick 0 ∷ Tick 1 ∷ Tick 5 ∷ Tick 6 ∷ []) ≡ Some ZeroTick ∷ None ∷ None ∷ Some TimeLimit ∷ []
unfolding refused
ticks_row = refl

at_the_end_of_time_row : why (record dark { time = 1000000000000 }) (Tick 0 ∷ Tick 1 ∷ []) ≡ Some ZeroTick ∷ Some TimeLimit ∷ []
unfolding refused
at_the_end_of_time_row = refl

-- ---- start: not listed goes before a missing dependency, and so does already started
start_row : why (bright ((aid ∷ []) ∷ [] ∷ []) none quiet) (Start p job Permanent ∷ Start p tool Permanent ∷ Start q twin Permanent ∷ [])
    ≡ None ∷ None ∷ None ∷ []
unfolding refused missing_dep
start_row = refl

start_not_listed_row : why (bright none none quiet) (Start p far Permanent ∷ []) ≡ Some NotListed ∷ []
unfolding refused missing_dep
start_not_listed_row = refl

start_needs_row : why (bright ((aid ∷ []) ∷ [] ∷ []) none quiet) (Start q far Permanent ∷ Start q job Permanent ∷ Start q tool Permanent ∷ [])
    ≡ Some (DependencyNotStarted (Listed aid)) ∷ Some (DependencyNotStarted (Listed aid)) ∷ Some (DependencyNotStarted (Listed aid)) ∷ []
unfolding refused missing_dep
start_needs_row = refl

-- tool waits and job runs, both without aid
abbrev started : StateView
started = bright ((job ∷ []) ∷ [] ∷ []) ((tool ∷ []) ∷ [] ∷ []) (Running p ∷ Quiet ∷ Quiet ∷ [])

started_already_row : why started (Start p tool Permanent ∷ Start p job Permanent ∷ []) ≡ Some AlreadyStarted ∷ Some AlreadyStarted ∷ []
unfolding refused missing_dep
started_already_row = refl

-- ---- stop and exit: one that waits can stop, and can't exit
stop_row : why started (Stop p tool ∷ Stop p job ∷ Stop q job ∷ Stop p twin ∷ []) ≡ None ∷ None ∷ Some NeverStarted ∷ Some NeverStarted ∷ []
unfolding refused
stop_row = refl

exit_row : why started (Exit p job true ∷ Exit p job false ∷ Exit p tool true ∷ Exit p tool false ∷ Exit q job true ∷ [])
    ≡ None ∷ None ∷ Some NotRunningHere ∷ Some NotRunningHere ∷ Some NotRunningHere ∷ []
unfolding refused
exit_row = refl

-- ---- permit asks nothing of the application, not even that the node is listed
permit_row : why started (Permit p far true ∷ Permit p far false ∷ Permit q job false ∷ Permit p tool true ∷ []) ≡ None ∷ None ∷ None ∷ None ∷ []
unfolding refused
permit_row = refl

-- ---- takeover: local goes before running nowhere, not listed before running nowhere, and running nowhere, running here and
-- not permitted each before a missing dependency
takeover_row : why (bright ((job ∷ []) ∷ (aid ∷ []) ∷ []) none (Running p ∷ Quiet ∷ Quiet ∷ [])) (Takeover q job Permanent ∷ []) ≡ None ∷ []
unfolding refused missing_dep
takeover_row = refl

takeover_of_a_local_one_row : why started (Takeover p tool Permanent ∷ Takeover q tool Permanent ∷ Takeover p aid Permanent ∷ [])
    ≡ Some NotDistributed ∷ Some NotDistributed ∷ Some NotDistributed ∷ []
unfolding refused missing_dep
takeover_of_a_local_one_row = refl

takeover_not_listed_row : why started (Takeover p far Permanent ∷ []) ≡ Some NotListed ∷ []
unfolding refused missing_dep
takeover_not_listed_row = refl

-- neither quiet nor wanted nor lost is running
abbrev forbidden_at_q : List Standing → StateView
forbidden_at_q standings = record (bright none none standings) {
  allowed = (true ∷ true ∷ true ∷ true ∷ true ∷ []) ∷ (false ∷ false ∷ false ∷ true ∷ true ∷ []) ∷ [];
}

takeover_of_what_runs_nowhere_row : why (forbidden_at_q (Wanted None ∷ Lost p ∷ Quiet ∷ [])) (Takeover q job Permanent ∷ Takeover q twin Permanent
    ∷ Takeover q far Permanent ∷ [])
    ≡ Some NotRunning ∷ Some NotRunning ∷ Some NotRunning ∷ []
unfolding refused missing_dep
takeover_of_what_runs_nowhere_row = refl

takeover_of_what_runs_here_row : why started (Takeover p job Permanent ∷ []) ≡ Some RunsHere ∷ []
unfolding refused missing_dep
takeover_of_what_runs_here_row = refl

takeover_where_it_may_not_run_row : why (forbidden_at_q (Running p ∷ Quiet ∷ Quiet ∷ [])) (Takeover q job Permanent ∷ []) ≡ Some NotPermitted ∷ []
unfolding refused missing_dep
takeover_where_it_may_not_run_row = refl

takeover_needs_row : why started (Takeover q job Permanent ∷ []) ≡ Some (DependencyNotStarted (Listed aid)) ∷ []
unfolding refused missing_dep
takeover_needs_row = refl

-- ---- how refusals are shown
shown_row : map refusal_words (UnknownNode ∷ UnknownApp ∷ AlreadyAlive ∷ IncarnationLimit ∷ NotAlive ∷ ZeroTick ∷ TimeLimit ∷ NodeNotUp ∷ NotDistributed ∷ [])
    ≡ codes "S1 unknown_node" ∷ codes "S2 unknown_app" ∷ codes "S3 already_alive" ∷ codes "S4 incarnation_limit" ∷ codes "S5 not_alive"
    ∷ codes "S6 zero_tick" ∷ codes "S7 time_limit" ∷ codes "S8 node_not_up" ∷ codes "S9 not_distributed" ∷ []
shown_row = refl

shown_too_row : map refusal_words (NotListed ∷ AlreadyStarted ∷ NeverStarted ∷ NotRunning ∷ RunsHere ∷ NotRunningHere ∷ NotPermitted
    ∷ DependencyNotStarted (Listed aid) ∷ TrailFull ∷ OutOfMemory ∷ [])
    ≡ codes "S10 not_listed" ∷ codes "S11 already_started" ∷ codes "S12 never_started" ∷ codes "S13 not_running" ∷ codes "S14 runs_here"
    ∷ codes "S15 not_running_here" ∷ codes "S16 not_permitted" ∷ codes "S17 dependency_not_started" ∷ codes "S18 trail_full" ∷ codes "S19 out_of_memory" ∷ []
shown_too_row = refl
