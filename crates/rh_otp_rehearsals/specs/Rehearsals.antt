-- Rehearsals each of whose commands ends alike at its turn show the same by every order of messages.
use Rattle.std.specs.Prelude.{◌≡◌, ◌<◌, ◌+◌, ℕ, List, [], ◌∷◌, length, None}
use Rattle.rh_model.specs.ClusterView.{ClusterView}
use Rattle.rh_calls.specs.declared.call.Call.{Call}
use Rattle.rh_calls.specs.declared.call.Call.TheVariants as call
use Rattle.rh_rules.specs.declared.event.Event.{Event}
use Rattle.rh_rules.specs.declared.event.Event.TheVariants as event
use Rattle.rh_otp_model.specs.declared.wait.OwnFile.{OwnFile}
use Rattle.rh_otp_net.specs.declared.order.Order.{Order}
use Rattle.rh_otp_system.specs.State.{SystemView}
use Rattle.rh_otp_sim.specs.Acting.{most_moves, done_first}
use Rattle.rh_otp_sim.specs.Calls.{made_by, reply_to}
use Rattle.rh_otp_sim.specs.Laws.{behind}
use Rattle.rh_otp_sim.specs.Refusing.{refused}
use Rattle.rh_otp_sim.specs.Sim.{LiveSimView, opened, net_in, at_step_of}
use Rattle.rh_otp_sim.specs.Stepping.{begun}
use Rattle.rh_otp_commands.specs.Commands.{SettlesAlike, TickEndsAlike}
use Rattle.rh_otp_rehearsals.specs.Alike.{HoldAlike, RepliesAlike}

-- ---- each command ends alike

-- All that comes of the event in this system ends alike; and where time passes, all that comes of each time that timers fire, by this
-- order.
abbrev pub EventEndsAlike : Event → LiveSimView → SystemView → Type 0
EventEndsAlike (event.Tick ms) sim s = TickEndsAlike (s.clock + ms) most_moves sim.order s
EventEndsAlike e sim s = SettlesAlike (done_first e sim s)

-- a step, if it isn't refused; other calls carry nothing out
abbrev pub CallEndsAlike : Call → LiveSimView → Type 0
CallEndsAlike (call.Step e) sim = refused (net_in sim).clock (net_in sim).last_call e sim ≡ None
    → EventEndsAlike e sim (begun (net_in sim) e sim)
CallEndsAlike c sim = Unit {0}

-- each of the calls at its turn
abbrev pub EachEndsAlike : List Call → LiveSimView → Type 0
EachEndsAlike [] sim = Unit {0}
EachEndsAlike (c ∷ calls) sim = CallEndsAlike c sim × EachEndsAlike calls (made_by c sim)

-- ---- both show the same

-- each call is answered alike
abbrev pub AnswerAlike : List Call → LiveSimView → LiveSimView → Type 0
AnswerAlike [] one other = Unit {0}
AnswerAlike (c ∷ calls) one other =
    RepliesAlike (reply_to c one) (reply_to c other) × AnswerAlike calls (made_by c one) (made_by c other)

pub record ShowTheSame (calls : List Call) (one other : LiveSimView) : Type 0 where
  -- each call is answered alike
  pub answers : AnswerAlike calls one other
  -- behind them as many steps are done, of as many
  pub done : (behind calls one).history.cursor ≡ (behind calls other).history.cursor
  pub steps : length (behind calls one).history.states ≡ length (behind calls other).history.states
  -- and what both hold is alike, now and with any number of steps done
  pub now : HoldAlike (behind calls one) (behind calls other)
  pub each : (k : ℕ) → k < length (behind calls one).history.states
      → HoldAlike (at_step_of k (behind calls one)) (at_step_of k (behind calls other))

-- The same calls to new simulations of a cluster that take messages in different orders. Only of the one it is asked that each command ends
-- alike at its turn.
abbrev pub RehearsalsEndAlike : Type 0
RehearsalsEndAlike = (cluster : ClusterView) (files : List OwnFile) (one other : Order) (calls : List Call)
    → EachEndsAlike calls (opened cluster files one) → ShowTheSame calls (opened cluster files one) (opened cluster files other)
