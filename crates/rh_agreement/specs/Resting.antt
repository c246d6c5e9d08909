-- What `run` and `run --rules otp25` answer alike where both are at rest: crashes, and ticks that reach no timer (ours).
use Rattle.std.specs.Prelude.{◌≡◌, ◌<◌, ◌≤◌, ◌+◌, ◌*◌, ℕ, List, [], ◌∷◌, length, true, None}
use Rattle.rh_model.specs.ClusterView.{ClusterView, IsWithin, numbered}
use Rattle.rh_model.specs.declared.node.App.{App}
use Rattle.rh_model.specs.declared.node.Node.{Node}
use Rattle.rh_rules.specs.declared.event.Event.{Event}
use Rattle.rh_rules.specs.declared.event.Event.TheVariants as event
use Rattle.rh_rules.specs.declared.notice.Notice.TheVariants as notice
use Rattle.rh_rules.specs.declared.pick.Pick.{Pick}
use Rattle.rh_rules.specs.NodesEnd.{timeout_of}
use Rattle.rh_rules.specs.Refusals.{refused}
use Rattle.rh_rules.specs.Time.{due_by}
use Rattle.rh_calls.specs.declared.call.Call.{Call}
use Rattle.rh_calls.specs.declared.call.Call.TheVariants as call
use Rattle.rh_calls.specs.declared.call.Reply.TheVariants as reply
use Rattle.rh_state.specs.declared.status.Standing.TheVariants.{Running}
use Rattle.rh_state.specs.StateView.{earliest, standing_of}
use Rattle.rh_trace.specs.Validity.{IsValid}
use Rattle.rh_trail.specs.Lone.{opened, served}
use Rattle.rh_trail.specs.SimView.{SimView, state_of}
use Rattle.rh_otp_model.specs.declared.wait.OwnFile.{OwnFile}
use Rattle.rh_otp_net.specs.declared.order.Order.{Order}
use Rattle.rh_otp_sim.specs.Acting.{most_moves}
use Rattle.rh_otp_sim.specs.Calls.{made_by}
use Rattle.rh_otp_sim.specs.Sim.{LiveSimView, net_in, at_step_of}
use Rattle.rh_otp_sim.specs.Sim.{opened as live_opened}
use Rattle.rh_otp_sim.specs.Stepping.{begun, ends_with}
use Rattle.rh_otp_system.specs.Doing.{next_until}
use Rattle.rh_otp_system.specs.Resting.{crashed}
use Rattle.rh_otp_system.specs.State.{SystemView, own_at}
use Rattle.rh_otp_laws.specs.Acting.{IsReached}
use Rattle.rh_otp_crashes.specs.Crashes.{AreAtRest, FailOverLater}
use Rattle.rh_agreement.specs.Laws.{IsAnsweredAlike, HasRoom, is_reversal}
use Rattle.rh_agreement.specs.Telling.{GoTogether, at_step}

-- the live nodes, where a command begins that doesn't wait for the end of one that ends by itself, as a crash or a tick
abbrev pub held : LiveSimView → SystemView
held live = begun (net_in live) (event.Crash (numbered 0)) live

-- Both are at rest. By the manual's rules: the state is one that a cluster reaches. On live nodes: they reach the state, nothing can move, no
-- call is open, and no dist_ac stands in the middle of something; and no node's own `distributed` has a timeout of 0. (That the states are
-- reached is so of each two simulations that were given calls.)
pub record AreBothAtRest (sim : SimView) (live : LiveSimView) : Type 0 where
  pub valid : IsValid (state_of sim)
  pub reached : IsReached (held live)
  pub rest : AreAtRest (held live)
  pub later : FailOverLater (held live)

-- ---- time that passes

-- no timer is due by the end of a tick, by the manual's rules and on live nodes
pub record ReachesNoTimer (ms : ℕ) (sim : SimView) (live : LiveSimView) : Type 0 where
  pub timers : due_by ((state_of sim).time + ms) (earliest (state_of sim)) ≡ None
  pub live_timers : next_until ((net_in live).clock + ms) (held live) ≡ None

-- Where both are at rest, a tick that reaches no timer is answered by both alike and leads to what is told alike; and both are at rest again.
abbrev pub TicksAtRestAreAnsweredAlike : Type 0
TicksAtRestAreAnsweredAlike = (sim : SimView) (live : LiveSimView) (ms : ℕ) → GoTogether sim live → HasRoom sim live → AreBothAtRest sim live
    → ReachesNoTimer ms sim live
    → IsAnsweredAlike (call.Step (event.Tick ms)) sim live
    × GoTogether (served sim (call.Step (event.Tick ms))).sim (made_by (call.Step (event.Tick ms)) live)
    × AreBothAtRest (served sim (call.Step (event.Tick ms))).sim (made_by (call.Step (event.Tick ms)) live)

-- ---- a node ends

-- Each application that stands as running at the node, by the manual's rules, has a timeout; and what comes of the crash isn't taken for
-- a step without end on live nodes.
pub record StartsNothingAtOnce (n : Node) (sim : SimView) (live : LiveSimView) : Type 0 where
  pub timeouts : (a : App) → standing_of (state_of sim) a ≡ Running n → 0 < timeout_of (state_of sim).cluster a
  pub ends : ends_with (net_in live) (event.Crash n) live ≡ true

-- Where both are at rest, such a crash is answered by both alike and leads to what is told alike; and both are at rest again. Where it isn't
-- refused, the answer is the end of that node alone.
abbrev pub CrashesAreAnsweredAlike : Type 0
CrashesAreAnsweredAlike = (sim : SimView) (live : LiveSimView) (n : Node) → GoTogether sim live → HasRoom sim live → AreBothAtRest sim live
    → StartsNothingAtOnce n sim live
    → IsAnsweredAlike (call.Step (event.Crash n)) sim live
    × GoTogether (served sim (call.Step (event.Crash n))).sim (made_by (call.Step (event.Crash n)) live)
    × AreBothAtRest (served sim (call.Step (event.Crash n))).sim (made_by (call.Step (event.Crash n)) live)
    × (refused (state_of sim) (event.Crash n) ≡ None
    → (served sim (call.Step (event.Crash n))).reply ≡ reply.Done (notice.Ended n ∷ []))

-- A crash isn't taken for a step without end where what can come of it is below the bound of a million moves: each message that tells of
-- the end, one for each node that is told and one more for each of its monitors, leads to as many more at most as its node's own file has
-- entries.
abbrev pub CrashesComeToAnEnd : Type 0
CrashesComeToAnEnd = (live : LiveSimView) (n : Node) (entries : ℕ) → IsReached (held live) → AreAtRest (held live) → FailOverLater (held live)
    → ((m : Node) → length (own_at (held live) m).entries ≤ entries)
    → length (crashed n (held live)).messages * (entries + 1) < most_moves
    → ends_with (net_in live) (event.Crash n) live ≡ true

-- ---- one after the other

-- both are at rest now, and behind each number of steps
pub record AreAlwaysAtRest (sim : SimView) (live : LiveSimView) : Type 0 where
  pub now : AreBothAtRest sim live
  pub always : (k : ℕ) → k ≤ length sim.trail → AreBothAtRest (at_step k sim) (at_step_of k live)

-- such a tick, or such a crash
abbrev pub IsPeaceful : Event → SimView → LiveSimView → Type 0
IsPeaceful (event.Tick ms) sim live = ReachesNoTimer ms sim live
IsPeaceful (event.Crash n) sim live = StartsNothingAtOnce n sim live
IsPeaceful e sim live = ⊥

-- or `undo`, `redo`, `undo_all`, `redo_all`
abbrev pub IsPeacefulCall : Call → SimView → LiveSimView → Type 0
IsPeacefulCall (call.Step e) sim live = HasRoom sim live × IsPeaceful e sim live
IsPeacefulCall c sim live = is_reversal c ≡ true

-- each is, where it has its turn
abbrev pub ArePeaceful : List Call → SimView → LiveSimView → Type 0
ArePeaceful [] sim live = Unit {0}
ArePeaceful (c ∷ calls) sim live = IsPeacefulCall c sim live × ArePeaceful calls (served sim c).sim (made_by c live)

-- each is answered by the same text
abbrev pub AreAnsweredAlike : List Call → SimView → LiveSimView → Type 0
AreAnsweredAlike [] sim live = Unit {0}
AreAnsweredAlike (c ∷ calls) sim live = IsAnsweredAlike c sim live × AreAnsweredAlike calls (served sim c).sim (made_by c live)

-- From where both are at rest, now and behind each number of steps, however many of them come one after the other are answered alike.
abbrev pub PeacefulCallsAreAnsweredAlike : Type 0
PeacefulCallsAreAnsweredAlike = (sim : SimView) (live : LiveSimView) (calls : List Call) → GoTogether sim live → AreAlwaysAtRest sim live
    → ArePeaceful calls sim live → AreAnsweredAlike calls sim live

-- Where no node has begun both are at rest, now and behind each number of steps: of a cluster that a file says, and where no node's own
-- `distributed` has a timeout of 0.
abbrev pub RehearsalsBeginAtRest : Type 0
RehearsalsBeginAtRest = (c : ClusterView) (pick : Pick) (files : List OwnFile) (order : Order) → IsWithin c
    → FailOverLater (held (live_opened c files order)) → AreAlwaysAtRest (opened c pick) (live_opened c files order)
