-- Steps that a law of commands is of: each of them ends alike at its turn.
use Rattle.std.specs.Prelude.{◌≡◌, ◌≢◌, ◌⊎◌, ◌+◌, ◌&&◌, ℕ, zero, suc, List, [], ◌∷◌, Bool, true, false, Some, None}
use Rattle.rh_model.specs.ClusterView.{ClusterView}
use Rattle.rh_model.specs.declared.node.App.{App}
use Rattle.rh_model.specs.declared.node.Node.{Node}
use Rattle.rh_model.specs.declared.settings.Restart.{Restart}
use Rattle.rh_calls.specs.declared.call.Call.{Call}
use Rattle.rh_calls.specs.declared.call.Call.TheVariants as call
use Rattle.rh_rules.specs.declared.event.Event.{Event}
use Rattle.rh_rules.specs.declared.event.Event.TheVariants as event
use Rattle.rh_otp_model.specs.declared.output.Envelope.{Envelope}
use Rattle.rh_otp_model.specs.declared.wait.OwnFile.{OwnFile}
use Rattle.rh_otp_model.specs.Own.{controls}
use Rattle.rh_otp_model.specs.Rows.{has_row}
use Rattle.rh_otp_dist.specs.declared.state.Stand.TheVariants as stand
use Rattle.rh_otp_dist.specs.State.{DistView}
use Rattle.rh_otp_net.specs.declared.order.Order.{Order}
use Rattle.rh_otp_net.specs.declared.order.Order.TheVariants.{FirstComes}
use Rattle.rh_otp_system.specs.declared.moves.Move.TheVariants as move
use Rattle.rh_otp_system.specs.declared.slow.Answered.{Answered}
use Rattle.rh_otp_system.specs.declared.slow.Slow.{Slow}
use Rattle.rh_otp_system.specs.Doing.{booted, fired_next, next_until}
use Rattle.rh_otp_system.specs.Moves.{made, is_settled_by, Reaches, IsSettled}
use Rattle.rh_otp_system.specs.State.{SystemView, node_at, own_at, is_alive_at}
use Rattle.rh_otp_sim.specs.Acting.{booted_if}
use Rattle.rh_otp_sim.specs.Calls.{made_by}
use Rattle.rh_otp_sim.specs.Refusing.{refused}
use Rattle.rh_otp_sim.specs.Sim.{LiveSimView, opened, net_in}
use Rattle.rh_otp_sim.specs.Stepping.{begun}
use Rattle.rh_otp_crashes.specs.Crashes.{AreAtRest, FailOverLater}
use Rattle.rh_otp_crashes.specs.Failovers.{FailsOverAt, SeesAll}
use Rattle.rh_otp_ticks.specs.Moments.{EachMomentIsCovered}
use Rattle.rh_otp_stops.specs.Stops.{CanEnd, KeepsNode}
use Rattle.rh_otp_starts.specs.Elsewhere.{RunsElsewhere}
use Rattle.rh_otp_begins.specs.Here.{StartsHere}
use Rattle.rh_otp_begins.specs.Nowhere.{RunsNowhere}
use Rattle.rh_otp_begins.specs.Waiting.{IsLeftTo}
use Rattle.rh_otp_permits.specs.Permits.{NotesAlone}
use Rattle.rh_otp_takeovers.specs.Takeovers.{IsKnownElsewhere}
use Rattle.rh_otp_moves.specs.Elsewhere.{FindsElsewhere}
use Rattle.rh_otp_moves.specs.Moving.{MovesBehind}
use Rattle.rh_otp_moves.specs.Starting.{StartsBehind}
use Rattle.rh_otp_moves.specs.Stopping.{StopsBehind}
use Rattle.rh_otp_laws.specs.Acting.{IsThere}
use Rattle.rh_otp_waits.specs.Waits.{AllSeeAll, WaitsOn}
use Rattle.rh_otp_joins.specs.Joins.{ComesBack, uncounted}
use Rattle.rh_otp_returns.specs.Returns.{CanBootThere}
use Rattle.rh_otp_scripts.specs.Boots.{GoesOneWay}
use Rattle.rh_otp_scripts.specs.Scripts.{BootsAlone, CanBoot}
use Rattle.rh_otp_colds.specs.Colds.{IsColdStart}
use Rattle.rh_otp_colds.specs.Wholes.{CanStartTogether}
use Rattle.rh_otp_rehearsals.specs.Rehearsals.{EventEndsAlike, EachEndsAlike}

-- ---- one thing at a time

-- no answers of nodes to one another are counted
abbrev pub none_counted : List Answered → Bool
none_counted [] = true
none_counted (x ∷ answers) = false

-- nothing moves any more, and none are counted
abbrev pub is_over : SystemView → Bool
is_over s = none_counted s.answers && is_settled_by 1 FirstComes s

-- where no message is on its way: one slower thing comes about, and then so on; or it is over
abbrev pub one_slow : (SystemView → Bool) → List Slow → SystemView → Bool
one_slow go [] s = is_over s
one_slow go (what ∷ []) s = go (made (move.Slow 0) s)
one_slow go (what ∷ other ∷ slow) s = false

-- one message arrives, and then so on
abbrev pub one_message : (SystemView → Bool) → List Envelope → SystemView → Bool
one_message go [] s = one_slow go s.slow s
one_message go (e ∷ []) s = go (made (move.Deliver 0) s)
one_message go (e ∷ f ∷ messages) s = false

-- Is one message at a time on its way, or where none is one slower thing, until nothing moves and no answers are counted, before so many
-- moves were made? Then there is but one order.
abbrev pub goes_one_at_a_time : ℕ → SystemView → Bool
goes_one_at_a_time zero s = false
goes_one_at_a_time (suc most) s = one_message (goes_one_at_a_time most) s.messages s

-- ---- what laws are of

-- The event, in the system in which it is carried out, meets what a law of commands asks for: a crash or a failover; a stop, an exit or a
-- forbid; a start, a permit or a fatal exit; a start, a takeover or a permission of a distributed application; a boot of a node that waits
-- on, that comes back to nodes that are up, or of a cold start, or a boot that goes one way to where its script begins. Or a node boots one
-- thing at a time, or time passes, while nothing moves and no timer is due, or over moments at each of which the timers that are due are
-- left over, are those of a failover, or end alike for another reason.
pub data IsCovered : Event → SystemView → Type 0 where
  boot : (s : SystemView) (n : Node) (most : ℕ) → goes_one_at_a_time most (record (booted_if n s) { answers = [] }) ≡ true
      → IsCovered (event.Boot n) s
  boot_waiting : (s : SystemView) (n : Node) → AreAtRest s → IsThere n s → AllSeeAll s → WaitsOn n s → IsCovered (event.Boot n) s
  boot_returning : (s : SystemView) (n : Node) → AreAtRest s → ComesBack n s → CanBootThere n s → FailOverLater s
      → IsCovered (event.Boot n) s
  -- of several nodes that begin one after the other, the last one among them
  boot_cold : (s : SystemView) (n other : Node) → IsColdStart s → CanStartTogether s → IsThere n s → is_alive_at s n ≡ false
      → IsThere other s → other.0 ≢ n.0 → IsCovered (event.Boot n) s
  boot_by_script : (s t : SystemView) (n : Node) → AreAtRest s → IsThere n s → is_alive_at s n ≡ false
      → GoesOneWay (uncounted (booted n s)) t → BootsAlone n t → CanBoot n t → FailOverLater t → IsCovered (event.Boot n) s
  crash : (s : SystemView) (n : Node) → AreAtRest s → FailOverLater s → IsCovered (event.Crash n) s
  time : (s : SystemView) (ms : ℕ) → IsSettled (record s { is_ticking = true }) → next_until (s.clock + ms) s ≡ None
      → IsCovered (event.Tick ms) s
  -- no other timer is due until then, whatever the failover comes to
  failover : (s : SystemView) (ms : ℕ) (n : Node) (a : App) → AreAtRest (record s { is_ticking = true })
      → (fails : FailsOverAt n a (record s { is_ticking = true }))
      → ((t : SystemView) → Reaches (fired_next fails.due (record s { is_ticking = true })) t → IsSettled t
      → next_until (s.clock + ms) t ≡ None)
      → IsCovered (event.Tick ms) s
  -- each moment until then at which timers are due, however many there are
  moments : (s : SystemView) (ms : ℕ) → IsSettled (record s { is_ticking = true })
      → EachMomentIsCovered (s.clock + ms) (record s { is_ticking = true }) → IsCovered (event.Tick ms) s
  stop : (s : SystemView) (n : Node) (a : App) → AreAtRest s → CanEnd n a s → IsCovered (event.Stop n a) s
  exit : (s : SystemView) (n : Node) (a : App) (is_normal : Bool) → AreAtRest s → CanEnd n a s
      → KeepsNode a is_normal (node_at s n).controller → IsCovered (event.Exit n a is_normal) s
  fatal_exit : (s : SystemView) (n : Node) (a : App) (is_normal : Bool) → AreAtRest s → CanEnd n a s → FailOverLater s
      → IsCovered (event.Exit n a is_normal) s
  forbid : (s : SystemView) (n : Node) (a : App) → AreAtRest s → controls (own_at s n) a ≡ false
      → IsCovered (event.Permit n a false) s
  permit : (s : SystemView) (n : Node) (a : App) → AreAtRest s → controls (own_at s n) a ≡ false
      → has_row a (node_at s n).controller.start_req ≡ false → IsCovered (event.Permit n a true) s
  permit_alone : (s : SystemView) (n : Node) (a : App) (allow : Bool) → AreAtRest s → controls (own_at s n) a ≡ true
      → NotesAlone n a allow s → IsCovered (event.Permit n a allow) s
  start : (s : SystemView) (n : Node) (a : App) (restart : Restart) → AreAtRest s → controls (own_at s n) a ≡ false
      → IsCovered (event.Start n a restart) s
  start_elsewhere : (s : SystemView) (n : Node) (a : App) (restart : Restart) → AreAtRest s
      → ((d : DistView) → (node_at s n).dist ≡ Some d → d.stand ≡ stand.Idle → RunsElsewhere (own_at s n) n a d)
      → IsCovered (event.Start n a restart) s
  start_here : (s : SystemView) (n : Node) (a : App) (restart : Restart) → AreAtRest s → StartsHere n a s
      → IsCovered (event.Start n a restart) s
  start_left : (s : SystemView) (n : Node) (a : App) (restart : Restart) → AreAtRest s
      → ((d : DistView) → (node_at s n).dist ≡ Some d → d.stand ≡ stand.Idle → IsLeftTo n a d s)
      → IsCovered (event.Start n a restart) s
  start_nowhere : (s : SystemView) (n : Node) (a : App) (restart : Restart) → AreAtRest s
      → ((d : DistView) → (node_at s n).dist ≡ Some d → d.stand ≡ stand.Idle → RunsNowhere (own_at s n) a d)
      → IsCovered (event.Start n a restart) s
  takeover : (s : SystemView) (n : Node) (a : App) (restart : Restart) → AreAtRest s → (IsKnownElsewhere n a s → SeesAll n s)
      → IsCovered (event.Takeover n a restart) s
  permit_starts : (s : SystemView) (n : Node) (a : App) → AreAtRest s → controls (own_at s n) a ≡ true → StartsBehind n a s
      → IsCovered (event.Permit n a true) s
  permit_elsewhere : (s : SystemView) (n : Node) (a : App) → AreAtRest s → controls (own_at s n) a ≡ true → FindsElsewhere n a s
      → IsCovered (event.Permit n a true) s
  forbid_stops : (s : SystemView) (n : Node) (a : App) → AreAtRest s → controls (own_at s n) a ≡ true → StopsBehind n a s
      → IsCovered (event.Permit n a false) s
  forbid_moves : (s : SystemView) (n : Node) (a : App) → AreAtRest s → controls (own_at s n) a ≡ true → MovesBehind n a s
      → IsCovered (event.Permit n a false) s

-- a step, if it isn't refused, is covered, or ends alike for another reason; other calls carry nothing out
abbrev pub CallIsCovered : Call → LiveSimView → Type 0
CallIsCovered (call.Step e) sim = refused (net_in sim).clock (net_in sim).last_call e sim ≡ None
    → IsCovered e (begun (net_in sim) e sim) ⊎ EventEndsAlike e sim (begun (net_in sim) e sim)
CallIsCovered c sim = Unit {0}

-- each of the calls at its turn
abbrev pub EachIsCovered : List Call → LiveSimView → Type 0
EachIsCovered [] sim = Unit {0}
EachIsCovered (c ∷ calls) sim = CallIsCovered c sim × EachIsCovered calls (made_by c sim)

-- So each command of such a rehearsal ends alike at its turn.
abbrev pub CoveredRehearsalsEndAlike : Type 0
CoveredRehearsalsEndAlike = (cluster : ClusterView) (files : List OwnFile) (order : Order) (calls : List Call)
    → EachIsCovered calls (opened cluster files order) → EachEndsAlike calls (opened cluster files order)
