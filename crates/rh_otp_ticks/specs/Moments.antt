-- Time that passes over several moments at which timers fire, and that every order of what comes of them ends alike (ours).
use Rattle.std.specs.Prelude.{◌≡◌, ℕ, [], true, Some, None}
use Rattle.rh_model.specs.declared.node.App.{App}
use Rattle.rh_model.specs.declared.node.Node.{Node}
use Rattle.rh_otp_net.specs.declared.order.Order.{Order}
use Rattle.rh_otp_net.specs.Timers.{next_due}
use Rattle.rh_otp_system.specs.Doing.{fired_next, next_until}
use Rattle.rh_otp_system.specs.Moves.{Reaches, IsSettled}
use Rattle.rh_otp_system.specs.State.{SystemView}
use Rattle.rh_otp_laws.specs.Acting.{IsReached}
use Rattle.rh_otp_commands.specs.Commands.{SettlesAlike, TickEndsAlike}
use Rattle.rh_otp_crashes.specs.Crashes.{AreAtRest, FailOverLater}
use Rattle.rh_otp_crashes.specs.Failovers.{FailsOverAt}
use Rattle.rh_otp_ticks.specs.LeftOver.{AreLeftOver, behind_timers}
use Rattle.rh_otp_ticks.specs.WaitsEnd.{WaitEnds}

-- the timers of this moment have fired, and no answers of nodes to one another are counted yet
abbrev pub fired_at : ℕ → SystemView → SystemView
fired_at due s = record (fired_next due s) { answers = [] }

-- Each moment until this end at which timers are due, one after the other, is covered.
pub data EachMomentIsCovered (end : ℕ) : SystemView → Type 0 where
  -- none is due until then
  over : (s : SystemView) → next_until end s ≡ None → EachMomentIsCovered end s
  -- those that are due next are left over, and so on behind them, where all else is as it was
  left_over : (s : SystemView) → (timers : AreLeftOver s) → EachMomentIsCovered end (record (behind_timers timers.due s) { answers = [] })
      → EachMomentIsCovered end s
  -- they are those of a failover, of live nodes that are at rest, and so on behind what that comes to by one order, be they due by the end
  -- or not
  fails_over : (s t : SystemView) (n : Node) (a : App) → AreAtRest s → (fails : FailsOverAt n a s) → Reaches (fired_at fails.due s) t
      → IsSettled t → EachMomentIsCovered end t → EachMomentIsCovered end s
  -- it is the end of the wait of a node, which hasn't seen one that it must have and so ends; of live nodes that are at rest, and of which
  -- none starts at once what is lost; and so on behind what that comes to by one order
  wait_ends : (s t : SystemView) (n : Node) → AreAtRest s → FailOverLater s → (ends : WaitEnds n s) → Reaches (fired_at ends.due s) t
      → IsSettled t → EachMomentIsCovered end t → EachMomentIsCovered end s
  -- all that comes of them ends alike for another reason, and so on behind what it comes to by one order
  otherwise : (s t : SystemView) (due step : ℕ) → next_due s.timers ≡ Some (due, step) → SettlesAlike (fired_next due s)
      → Reaches (fired_at due s) t → IsSettled t → EachMomentIsCovered end t → EachMomentIsCovered end s

-- time begins to pass
abbrev pub passing : SystemView → SystemView
passing s = record s { is_ticking = true; answers = [] }

-- Where nothing can move when time begins to pass on live nodes, and each moment until its end is covered, a tick ends alike: all that comes
-- of its beginning, and all that comes of the timers each time that some fire, by whichever order those before were taken.
abbrev pub TicksThroughMomentsEndAlike : Type 0
TicksThroughMomentsEndAlike = (s : SystemView) (end most : ℕ) (order : Order) → IsReached s → IsSettled (passing s)
    → EachMomentIsCovered end (passing s) → TickEndsAlike end most order s
