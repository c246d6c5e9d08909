-- Laws of settling, in the field's words (Distributed Applications; application(3); ours).
use Rattle.std.specs.Prelude.{◌≡◌, ◌≤◌, ◌*◌, ◌⊎◌, ◌↔◌, ◌||◌, length, List, [], Option, true, false, Contains, IsSome}
use Rattle.rh_model.specs.ClusterView.{group_of}
use Rattle.rh_model.specs.declared.node.Node.{Node}
use Rattle.rh_model.specs.declared.node.App.{App}
use Rattle.rh_state.specs.declared.status.Standing.TheVariants.{Wanted}
use Rattle.rh_state.specs.Standings.{is_quiet, is_lost}
use Rattle.rh_state.specs.Shape.{IsShaped, IsNodeOf, IsAppOf}
use Rattle.rh_state.specs.StateView.{StateView, runs_at, waits_at, is_allowed, standing_of}
use Rattle.rh_rules.specs.declared.pick.Pick.{Pick}
use Rattle.rh_rules.specs.Placing.{deps_run, is_operational}
use Rattle.rh_rules.specs.declared.notice.Move.{Move}
use Rattle.rh_rules.specs.declared.notice.Move.TheVariants.{Placement, Takeover}
use Rattle.rh_rules.specs.declared.notice.Pair.{Pair}
use Rattle.rh_rules.specs.Course.{Course, is_fresh, is_local}
use Rattle.rh_rules.specs.Moves.{comes_before}
use Rattle.rh_rules.specs.Settling.{next_moves, IsBest, IsFirst, NoneEnabled, Settles, settled, pair_count}
use Rattle.rh_trace.specs.Validity.{IsSound}

-- the settling that the pick takes is one of those that are allowed (ours)
abbrev pub SettlesByPick : Type 0
SettlesByPick = (pick : Pick) (o : Course) → IsShaped o.state → Settles o (settled pick o)

-- every settling has at most twice as many moves as there are pairs (ours)
abbrev pub FewMoves : Type 0
FewMoves = (o p : Course) → IsShaped o.state → (run : Settles o p) → length run.moves ≤ 2 * pair_count o.state.cluster

-- every settling keeps a sound state sound (ours)
abbrev pub SettlingKeeps : Type 0
SettlingKeeps = (o p : Course) → IsSound o.state → Settles o p → IsSound p.state

-- the next moves are the enabled ones before which no other enabled one goes (ours)
abbrev pub NextAreFirst : Type 0
NextAreFirst = (s : StateView) (fresh : List Pair) (move : Move) → Contains (next_moves s fresh) move ↔ IsFirst s fresh move

-- there is no next move exactly where none is enabled (ours)
abbrev pub StillIfNoneEnabled : Type 0
StillIfNoneEnabled = (s : StateView) (fresh : List Pair) → (next_moves s fresh ≡ []) ↔ NoneEnabled s fresh

-- a distributed application runs at one node only (Distributed Applications)
abbrev pub RunsAtOneNode : Type 0
RunsAtOneNode =
    (s : StateView) (a : App) (m n : Node) → IsSound s → is_local s.cluster a ≡ false → runs_at s m a ≡ true → runs_at s n a ≡ true → m ≡ n

-- a node takes an application over only from one whose group comes behind its own in the application's node list, only
-- where its pair is fresh, and only if it can run there (Distributed Applications, Takeover)
abbrev pub TakenOverByEarlierGroups : Type 0
TakenOverByEarlierGroups =
    (s : StateView) (fresh : List Pair) (a : App) (m n : Node) → Contains (next_moves s fresh) (Takeover a m n)
    → (comes_before (group_of s.cluster a n) (group_of s.cluster a m) ≡ true) × (is_fresh fresh n a ≡ true) × (is_operational s a n ≡ true)

-- an application is placed in the first group that has a node at which it can run, there at a node at which fewest
-- applications run (Distributed Applications, Starting and Stopping Distributed Applications, Failover)
abbrev pub PlacedInFirstGroup : Type 0
PlacedInFirstGroup =
    (s : StateView) (fresh : List Pair) (a : App) (from : Option Node) (n : Node) → Contains (next_moves s fresh) (Placement a from n)
    → IsBest s a (is_operational s a) n

-- where nothing moves, an application that is to run can run at no node of its node list (Distributed Applications,
-- Failover)
abbrev pub NeverLeftWanted : Type 0
NeverLeftWanted =
    (s : StateView) (a : App) (from : Option Node) → NoneEnabled s [] → IsAppOf s.cluster a → standing_of s a ≡ Wanted from
    → (n : Node) → IsSome (group_of s.cluster a n) → is_operational s a n ≡ false

-- where nothing moves, an application that isn't distributed waits at a node only because it may not run there, or
-- because something that it needs doesn't run there (application(3), permit/2; app(4), applications)
abbrev pub WaitsForAReason : Type 0
WaitsForAReason =
    (s : StateView) (n : Node) (a : App) → NoneEnabled s [] → IsNodeOf s.cluster n → is_local s.cluster a ≡ true → waits_at s n a ≡ true
    → (is_allowed s n a ≡ false) ⊎ (deps_run s n a ≡ false)

-- settling starts no application that is to run nowhere, and none that was lost with a node: such a one stays as it stands
-- (application(3), stop/1; Distributed Applications, Failover)
abbrev pub QuietAndLostStay : Type 0
QuietAndLostStay =
    (pick : Pick) (o : Course) (a : App) → is_quiet (standing_of o.state a) || is_lost (standing_of o.state a) ≡ true
    → standing_of (settled pick o).state a ≡ standing_of o.state a
