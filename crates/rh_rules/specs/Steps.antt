-- RULES, "What a command does": its own change; then the nodes that are ready come up, and the applications settle (Distributed
-- Applications; application(3); kernel(6), distributed, sync_nodes_timeout; ours for the order).
-- It is said twice. `Allowed` is a relation, which has several outcomes where the rules leave a choice; `next` is the outcome that is
-- taken, and one of them. What a single part does (an event, a node that comes up, a timer, a move) both cite from one place; which
-- come, in which order, and how long, each says for itself.
use Rattle.std.specs.Prelude.{List, true, false, ℕ, Some, None, if◌then◌else◌, ◌≡◌, [], ◌∷◌, ◌+◌}
use Rattle.rh_rules.specs.Prelude.{Node, nodes_of, with_time, runs_at, StateView, earliest, Timer, Event, Boot, Crash, Tick, Start, Stop, Permit, Takeover, Exit, StartAll, StopAll, Notice, Pick}
use Rattle.rh_rules.specs.Course.{Course, now_in, course_of}
use Rattle.rh_rules.specs.NodesStart.{booted, is_ready, come_up, ready_come_up}
use Rattle.rh_rules.specs.Marking.{mark}
use Rattle.rh_rules.specs.Settling.{Settles, settled}
use Rattle.rh_rules.specs.NodesEnd.{ended}
use Rattle.rh_rules.specs.ByHand.{stopped, left_waiting, permitted, taken_over, exited}
use Rattle.rh_rules.specs.Everywhere.{start_all, stop_all}
use Rattle.rh_rules.specs.Time.{due_by, taken_off, effect, ticked}
use Rattle.rh_rules.specs.Refusals.{refused}

-- the change of the event itself; that of a tick is what its timers do
abbrev pub change : Course → Event → Course
change o (Boot n) = now_in o (booted o.state n)
change o (Crash n) = ended o n
change o (Tick ms) = o
change o (Start n a r) = mark o n a r
change o (Stop n a) = if runs_at o.state n a then stopped o n a else left_waiting o n a
change o (Permit n a allow) = permitted o n a allow
change o (Takeover n a r) = taken_over o n a r
change o (Exit n a normal) = exited o n a normal
change o (StartAll a r) = start_all o a r
change o (StopAll a) = stop_all o a

-- a state, and what was told on the way to it
pub record Outcome : Type 0 where
  pub state : StateView
  pub notices : List Notice

abbrev pub outcome : StateView → List Notice → Outcome
outcome s notices = record { state = s; notices = notices }

-- where a course has led
abbrev pub outcome_of : Course → Outcome
outcome_of o = outcome o.state o.notices

-- ---- what the rules allow, without a bound
-- one node after the other comes up where it is ready then, and stays as it is where it isn't
pub data ComeUp : List Node → Course → Course → Type 0 where
  no_node : (o : Course) → ComeUp [] o o
  ready : (n : Node) (ns : List Node) (o p : Course) → is_ready o.state n ≡ true → ComeUp ns (come_up o n) p → ComeUp (n ∷ ns) o p
  not_ready : (n : Node) (ns : List Node) (o p : Course) → is_ready o.state n ≡ false → ComeUp ns o p → ComeUp (n ∷ ns) o p

-- behind a change the ready nodes come up, and then the applications settle
pub record ComesOf (changed p : Course) : Type 0 where
  pub risen : Course
  pub rises : ComeUp (nodes_of changed.state.cluster) changed risen
  pub settles : Settles risen p

-- as long as a timer is due by the limit, the first of them fires
pub data Fires (limit : ℕ) : Course → Course → Type 0 where
  none_due : (o : Course) → due_by limit (earliest o.state) ≡ None → Fires limit o o
  one_due : (entry : ℕ × Timer) (o p q : Course) → due_by limit (earliest o.state) ≡ Some entry
      → ComesOf (effect (taken_off o entry) entry.1) p → Fires limit p q → Fires limit o q

-- time passes to its end
pub record Passes (s : StateView) (ms : ℕ) (p : Outcome) : Type 0 where
  pub before : Course
  pub fires : Fires (s.time + ms) (course_of s [] []) before
  pub end : p ≡ outcome (with_time before.state (s.time + ms)) before.notices

-- an event that is no tick
pub record Happens (s : StateView) (e : Event) (p : Outcome) : Type 0 where
  pub last : Course
  pub comes : ComesOf (change (course_of s [] []) e) last
  pub end : p ≡ outcome_of last

-- time passes in a tick, and any other event happens
abbrev pub Follows : StateView → Event → Outcome → Type 0
Follows s (Tick ms) p = Passes s ms p
Follows s e p = Happens s e p

-- the event isn't refused, and this follows from it
pub record Allowed (s : StateView) (e : Event) (p : Outcome) : Type 0 where
  pub accepted : refused s e ≡ None
  pub outcome : Follows s e p

-- ---- what is taken, where each tie goes to the pick
-- the change of the event; then the ready nodes come up, and the applications settle
unfoldable pub followed : Pick → Course → Event → Course
followed pick o e = settled pick (ready_come_up (change o e))

-- a tick does so at each timer that fires, and any other event once
abbrev pub next_from : Course → Event → Pick → Course
next_from o (Tick ms) pick = ticked pick o ms
next_from o e pick = followed pick o e

-- what follows of an event, with this choice among equally good nodes: the state and the notices (ours for their order)
unfoldable pub next : StateView → Event → Pick → Outcome
next s e pick = outcome_of (next_from (course_of s [] []) e pick)
