-- RULES, "Refusals": of the tests of an event, in their order, the first that applies counts (ours).
use Rattle.std.specs.Prelude.{Bool, not, nat_lt, List, true, Option, Some, None, ℕ, codes, [], ◌∷◌, ◌+◌, ◌==◌, ◌&&◌, if◌then◌else◌}
use Rattle.rh_rules.specs.Prelude.{node_count, app_count, is_listed_at, App, Node, Dep, time_limit, incarnation_limit, is_running, is_running_at, StateView, mode_of, is_up, incarnation_of, is_alive, is_started, is_allowed, runs_at, standing_of, Event, Boot, Crash, Tick, Start, Stop, Permit, Takeover, Exit, StartAll, StopAll, Refusal, DependencyNotStarted, UnknownNode, UnknownApp, NodeNotUp, AlreadyAlive, IncarnationLimit, NotAlive, ZeroTick, TimeLimit, NotDistributed, NotListed, AlreadyStarted, NeverStarted, NotRunning, RunsHere, NotRunningHere, NotPermitted, TrailFull, OutOfMemory}
use Rattle.rh_rules.specs.Course.{is_local}
use Rattle.rh_rules.specs.Placing.{missing_dep}
use Rattle.rh_rules.specs.ByHand.{is_started_anywhere}
use Rattle.rh_rules.specs.Everywhere.{has_host, has_target, missing_at_targets}

-- there is no such node, or no such application
abbrev pub is_unknown : StateView → Node → Bool
is_unknown s n = not (nat_lt n.0 (node_count s.cluster))

abbrev pub is_unknown_app : StateView → App → Bool
is_unknown_app s a = not (nat_lt a.0 (app_count s.cluster))

-- the first dependency that doesn't run there, if there is one
abbrev pub dep_tests : Option Dep → List (Bool × Refusal)
dep_tests None = []
dep_tests (Some dep) = (true, DependencyNotStarted dep) ∷ []

-- the tests that all events by hand have: the node and the application are known, and the node is up
abbrev pub tests_by_hand : StateView → Node → App → List (Bool × Refusal) → List (Bool × Refusal)
tests_by_hand s n a others = (is_unknown s n, UnknownNode) ∷ (is_unknown_app s a, UnknownApp) ∷ (not (is_up (mode_of s n)), NodeNotUp) ∷ others

-- the tests of each event, in the order of their codes, each with the refusal that it leads to (ours; application(3) for what each call
-- asks)
abbrev pub tests : StateView → Event → List (Bool × Refusal)
tests s (Boot n) = (is_unknown s n, UnknownNode) ∷ (is_alive (mode_of s n), AlreadyAlive) ∷ (incarnation_of s n == incarnation_limit, IncarnationLimit) ∷ []
tests s (Crash n) = (is_unknown s n, UnknownNode) ∷ (not (is_alive (mode_of s n)), NotAlive) ∷ []
tests s (Tick ms) = (ms == 0, ZeroTick) ∷ (nat_lt time_limit (s.time + ms), TimeLimit) ∷ []
tests s (Start n a r) = tests_by_hand s n a (
    (not (is_listed_at s.cluster a n), NotListed) ∷ (is_started s n a, AlreadyStarted) ∷ dep_tests (missing_dep s n a))
tests s (Stop n a) = tests_by_hand s n a ((not (is_started s n a), NeverStarted) ∷ [])
tests s (Permit n a allow) = tests_by_hand s n a []
tests s (Takeover n a r) = tests_by_hand s n a (
    (is_local s.cluster a, NotDistributed) ∷ (not (is_listed_at s.cluster a n), NotListed) ∷ (not (is_running (standing_of s a)), NotRunning)
    ∷ (is_running_at n (standing_of s a), RunsHere) ∷ (not (is_allowed s n a), NotPermitted) ∷ dep_tests (missing_dep s n a))
tests s (Exit n a normal) = tests_by_hand s n a ((not (runs_at s n a), NotRunningHere) ∷ [])
tests s (StartAll a r) =
    (is_unknown_app s a, UnknownApp) ∷ (not (is_local s.cluster a) && not (has_host s a), NodeNotUp) ∷ (is_local s.cluster a, NotDistributed)
    ∷ (not (has_target s a), AlreadyStarted) ∷ dep_tests (missing_at_targets s a)
tests s (StopAll a) =
    (is_unknown_app s a, UnknownApp) ∷ (is_local s.cluster a, NotDistributed) ∷ (not (is_started_anywhere s a), NeverStarted) ∷ []

abbrev pub first_that_applies : List (Bool × Refusal) → Option Refusal
first_that_applies [] = None
first_that_applies (test ∷ others) = if test.0 then Some test.1 else first_that_applies others

-- why an event is refused, if it is: the first of its tests that applies (ours)
unfoldable pub refused : StateView → Event → Option Refusal
refused s e = first_that_applies (tests s e)

-- how a refusal is shown: its code and its name; the name of a dependency follows elsewhere
abbrev pub refusal_words : Refusal → List ℕ
refusal_words UnknownNode = codes "S1 unknown_node"
refusal_words UnknownApp = codes "S2 unknown_app"
refusal_words AlreadyAlive = codes "S3 already_alive"
refusal_words IncarnationLimit = codes "S4 incarnation_limit"
refusal_words NotAlive = codes "S5 not_alive"
refusal_words ZeroTick = codes "S6 zero_tick"
refusal_words TimeLimit = codes "S7 time_limit"
refusal_words NodeNotUp = codes "S8 node_not_up"
refusal_words NotDistributed = codes "S9 not_distributed"
refusal_words NotListed = codes "S10 not_listed"
refusal_words AlreadyStarted = codes "S11 already_started"
refusal_words NeverStarted = codes "S12 never_started"
refusal_words NotRunning = codes "S13 not_running"
refusal_words RunsHere = codes "S14 runs_here"
refusal_words NotRunningHere = codes "S15 not_running_here"
refusal_words NotPermitted = codes "S16 not_permitted"
refusal_words (DependencyNotStarted dep) = codes "S17 dependency_not_started"
refusal_words TrailFull = codes "S18 trail_full"
refusal_words OutOfMemory = codes "S19 out_of_memory"
