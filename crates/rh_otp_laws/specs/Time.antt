-- Timers and the clock (erlang:send_after/3: here no timer is ever cancelled).
use Rattle.std.specs.Prelude.{◌≡◌, ◌<◌, ◌≤◌, ◌++◌, ℕ, true, List, All, map}
use Rattle.rh_otp_model.specs.declared.output.Envelope.{Envelope}
use Rattle.rh_otp_model.specs.declared.process.Role.TheVariants as role
use Rattle.rh_otp_net.specs.declared.timers.Timer.{Timer}
use Rattle.rh_otp_net.specs.declared.order.Order.{Order}
use Rattle.rh_otp_net.specs.Timers as timers
use Rattle.rh_otp_system.specs.State.{SystemView}
use Rattle.rh_otp_system.specs.Doing.{fired_next, ticked, is_ticked}
use Rattle.rh_otp_laws.specs.Acting.{Acts, Happens, IsReached, IsNoneDueBefore}

-- The clock stands, and all timers stay set, in their order: only new ones come behind them, which are due later than now.
pub record OnlySetsTimers (s t : SystemView) : Type 0 where
  pub clock : t.clock ≡ s.clock
  pub step : t.step ≡ s.step
  pub more : List Timer
  pub behind : t.timers ≡ s.timers ++ more
  pub later : All (λ (x : Timer). s.clock < x.due) more
  pub of_step : All (λ (x : Timer). x.step ≡ s.step) more

-- Whatever nodes do, and whatever a command begins with, no timer is cancelled, and the clock stands.
abbrev pub TimersAreNeverCancelled : Type 0
TimersAreNeverCancelled = (s t : SystemView) → Acts s t → OnlySetsTimers s t

-- what a timer sends when it fires
abbrev pub message_of : Timer → Envelope
message_of x = record { from = record x.to { role = role.Timer }; to = x.to; message = x.message }

-- Where time passes exactly the timers that are due next fire, in the order in which they were set: each sends its message, behind all
-- that is on its way, and all else stays as it is.
abbrev pub TimersThatAreDueFire : Type 0
TimersThatAreDueFire = (s : SystemView) (due : ℕ) → fired_next due s ≡ record s {
  clock = due;
  timers = timers.left s.timers;
  messages = s.messages ++ map message_of (timers.fired s.timers);
}

-- No timer is overdue, in any state that live nodes reach: time doesn't pass over one.
abbrev pub TimersFireInTime : Type 0
TimersFireInTime = (s : SystemView) → IsReached s → IsNoneDueBefore s.clock s.timers

-- time never goes back
abbrev pub TimeNeverGoesBack : Type 0
TimeNeverGoesBack = (s t : SystemView) → IsReached s → Happens s t → s.clock ≤ t.clock

-- no timer is due until then
abbrev pub IsNoneDueUntil : ℕ → List Timer → Type 0
IsNoneDueUntil end timers = All (λ (x : Timer). end < x.due) timers

-- Behind a tick that comes to an end the clock stands where it was to, and all timers that were due until then have fired.
abbrev pub TicksEndInTime : Type 0
TicksEndInTime = (end most : ℕ) (order : Order) (s : SystemView) → is_ticked end most order s ≡ true
    → ((ticked end most order s).clock ≡ end) × IsNoneDueUntil end (ticked end most order s).timers
