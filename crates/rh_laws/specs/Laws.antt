-- Laws of whole steps, in the field's own words (ours).
use Rattle.std.specs.Prelude.{◌≡◌, ◌≢◌, ◌<◌, ◌≤◌, ◌+◌, ◌++◌, ◌↔◌, ℕ, true, List, [], ◌∷◌, fold, All}
use Rattle.std.specs.Prelude.{AllPairs, Option, Some, None, IsSome}
use Rattle.std.specs.List.{filter}
use Rattle.rh_model.specs.ClusterView.{ClusterView, group_of}
use Rattle.rh_model.specs.declared.node.Node.{Node}
use Rattle.rh_model.specs.declared.node.App.{App}
use Rattle.rh_model.specs.declared.settings.Restart.{Restart}
use Rattle.rh_state.specs.declared.status.Standing.TheVariants.{Running, Lost}
use Rattle.rh_state.specs.declared.status.Timer.TheVariants.{Failover}
use Rattle.rh_state.specs.Numbers.{nodes_of}
use Rattle.rh_state.specs.Setters.{with_time}
use Rattle.rh_state.specs.StateView.{StateView, runs_at, is_started, standing_of, due_of}
use Rattle.rh_rules.specs.declared.pick.Pick.{Pick}
use Rattle.rh_rules.specs.declared.pick.Pick.TheVariants.{First, Last}
use Rattle.rh_rules.specs.Placing.{is_operational, groups_of}
use Rattle.rh_rules.specs.Course.{Course, course_of}
use Rattle.rh_rules.specs.declared.notice.Move.{Move}
use Rattle.rh_rules.specs.declared.notice.Move.TheVariants.{Placement}
use Rattle.rh_rules.specs.Moves.{moved}
use Rattle.rh_rules.specs.Settling.{IsBest, Settles, settled}
use Rattle.rh_trace.specs.Validity.{IsValid}
use Rattle.rh_rules.specs.declared.event.Event.{Event}
use Rattle.rh_rules.specs.declared.event.Event.TheVariants.{Tick, Start, Stop, StartAll, StopAll}
use Rattle.rh_rules.specs.Steps.{change, Allowed, Outcome, outcome, outcome_of, next}
use Rattle.rh_rules.specs.NodesStart.{ready_come_up}
use Rattle.rh_rules.specs.Everywhere.{targets}
use Rattle.rh_rules.specs.Refusals.{refused}

-- while no timer is due a tick moves the clock alone, and tells nothing: nothing comes of time itself
-- (kernel(6), sync_nodes_timeout, distributed)
abbrev pub OnlyTheClockMoves : Type 0
OnlyTheClockMoves =
    (s : StateView) (ms : ℕ) (pick : Pick) → All (λ entry. s.time + ms < entry.0) s.timers
    → next s (Tick ms) pick ≡ outcome (with_time s (s.time + ms)) []

-- an application runs at a node, and stands so
abbrev pub RunsAgain : StateView → App → Type 0
RunsAgain s a = (n : Node) × (standing_of s a ≡ Running n) × (runs_at s n a ≡ true)

-- an application that was lost runs again behind a tick that reaches its timer, if a node of its
-- list can run it then (Distributed Applications, Failover; kernel(6), distributed)
abbrev pub FailsOverInTime : Type 0
FailsOverInTime =
    (s : StateView) (ms : ℕ) (pick : Pick) (a : App) (m : Node) (due : ℕ)
    → IsValid s → refused s (Tick ms) ≡ None
    → standing_of s a ≡ Lost m → due_of s (Failover a) ≡ Some due → due ≤ s.time + ms
    → (n : Node) → IsSome (group_of s.cluster a n)
    → is_operational (next s (Tick ms) pick).state a n ≡ true
    → RunsAgain (next s (Tick ms) pick).state a

-- in each settling that the rules allow, a placement is at a best node of its moment: in the first
-- group of the application's list that has a node which can run it then, there at one where fewest
-- applications run (Distributed Applications, Failover)
abbrev pub PlacedAtBestNodes : Type 0
PlacedAtBestNodes =
    (o p : Course) (run : Settles o p) (before after : List Move) (a : App) (from : Option Node) (n : Node)
    → run.moves ≡ before ++ Placement a from n ∷ after
    → IsBest (fold moved o before).state a (is_operational (fold moved o before).state a) n

-- no group of an application's node list names a node twice: a cluster file in which one does is
-- refused (ours)
abbrev pub NamesNodesOnce : ClusterView → Type 0
NamesNodesOnce c =
    (a : App)
    → All (λ (group : List Node). AllPairs (λ (n later : Node). n.0 ≢ later.0) group) (groups_of c a)

-- the rules allow one answer to a command exactly where the first and the last of equally good nodes
-- lead to the same notices: no tie was met on the way then (ours)
abbrev pub OneAnswer : Type 0
OneAnswer =
    (s : StateView) (e : Event) → IsValid s → NamesNodesOnce s.cluster → refused s e ≡ None
    → ((next s e First).notices ≡ (next s e Last).notices)
    ↔ ((p : Outcome) → Allowed s e p → p ≡ next s e First)

-- a start at all nodes comes to the same as a start at each node at which it is still to be started,
-- in node order, and one settling behind them (application(3), start/2; ours for the one settling)
abbrev pub StartAllIsStarts : Type 0
StartAllIsStarts =
    (s : StateView) (a : App) (r : Restart) (pick : Pick)
    → next s (StartAll a r) pick ≡ outcome_of (settled pick (ready_come_up
    (fold (λ (o : Course) (n : Node). change o (Start n a r)) (course_of s [] []) (targets s a))))

-- the nodes at which an application is started, in node order
abbrev pub started_nodes : StateView → App → List Node
started_nodes s a = filter (λ (n : Node). is_started s n a) (nodes_of s.cluster)

-- it is stopped at a node by a command of its own, behind what was told before
abbrev pub stop_next : App → Pick → Outcome → Node → Outcome
stop_next a pick o n = outcome (next o.state (Stop n a) pick).state (o.notices ++ (next o.state (Stop n a) pick).notices)

-- so at one node after the other, and none of these commands is refused
abbrev pub AllStop : App → Pick → Outcome → List Node → Type 0
AllStop a pick o [] = Unit {0}
AllStop a pick o (n ∷ ns) = (refused o.state (Stop n a) ≡ None) × AllStop a pick (stop_next a pick o n) ns

-- a stop at all nodes leads to the same state, and tells the same, as a stop at each node at which the
-- application is started, each a command of its own, in node order; none of these is refused
-- (application(3), stop/1; ours for doing it in one step)
abbrev pub StopAllIsStops : Type 0
StopAllIsStops =
    (s : StateView) (a : App) (pick : Pick) → IsValid s → refused s (StopAll a) ≡ None
    → AllStop a pick (outcome s []) (started_nodes s a)
    × (next s (StopAll a) pick ≡ fold (stop_next a pick) (outcome s []) (started_nodes s a))
