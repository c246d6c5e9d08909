-- Timers that are left over, and that nothing comes of them (ours).
use Rattle.std.specs.Prelude.{◌≡◌, ℕ, All, true, false, Some}
use Rattle.rh_model.specs.declared.node.App.{App}
use Rattle.rh_otp_model.specs.declared.message.Message.TheVariants as message
use Rattle.rh_otp_model.specs.declared.process.Role.TheVariants as role
use Rattle.rh_otp_dist.specs.State.{DistView}
use Rattle.rh_otp_net.specs.declared.timers.Timer.{Timer}
use Rattle.rh_otp_net.specs.Timers.{next_due, fired, left}
use Rattle.rh_otp_node.specs.Live.{LiveView}
use Rattle.rh_otp_system.specs.Doing.{fired_next}
use Rattle.rh_otp_system.specs.Moves.{Reaches, IsSettled}
use Rattle.rh_otp_system.specs.State.{SystemView, node_at, is_up_at, lives}
use Rattle.rh_otp_orders.specs.Confluence.{EveryOrderEndsAlike}
use Rattle.rh_otp_crashes.specs.Crashes.{IsUnoccupied, AreAtRest}
use Rattle.rh_otp_crashes.specs.Failovers.{IsOver}

-- The application isn't lost at this node, or not any more; and the node's dist_ac, if it has one, takes whatever comes (`IsOver`), and
-- does nothing.
pub record HasNotLost (a : App) (v : LiveView) : Type 0 where
  pub free : (d : DistView) → v.dist ≡ Some d → IsUnoccupied d
  pub over : IsOver a v

-- A timer whose message changes nothing; here no timer is ever cancelled (erlang:send_after/3). Its process isn't there any more, since the
-- node is down or has begun again. Or it was to end the wait of a node that is up (kernel(6), `sync_nodes_timeout`). Or it was set at the
-- loss of an application that isn't lost at the node any more (kernel(6), `distributed`).
pub data IsLeftOver (s : SystemView) : Timer → Type 0 where
  gone : (x : Timer) → lives s x.to ≡ false → IsLeftOver s x
  up : (x : Timer) → x.to.role ≡ role.KernelConfig → is_up_at s x.to.node ≡ true → IsLeftOver s x
  not_lost : (x : Timer) (a : App) (loss : ℕ) → x.to.role ≡ role.DistAc → x.message ≡ message.RestartAppl a loss
      → HasNotLost a (node_at s x.to.node) → IsLeftOver s x

-- All timers that are due next are left over, at however many nodes.
pub record AreLeftOver (s : SystemView) : Type 0 where
  pub due : ℕ
  pub step : ℕ
  pub next : next_due s.timers ≡ Some (due, step)
  pub all : All (IsLeftOver s) (fired s.timers)

-- the clock stands there, and the timers that were due next are gone
abbrev pub behind_timers : ℕ → SystemView → SystemView
behind_timers due s = record s { clock = due; timers = left s.timers }

-- What comes of such timers where nothing can move: every order ends alike, and it comes to that all is as it was, but for the clock, and
-- that these timers are gone. So live nodes that were at rest are at rest behind it.
pub record ChangesNothing (s : SystemView) (due : ℕ) : Type 0 where
  pub every : EveryOrderEndsAlike (fired_next due s)
  pub reaches : Reaches (fired_next due s) (behind_timers due s)
  pub settled : IsSettled (behind_timers due s)
  pub alone : (t : SystemView) → Reaches (fired_next due s) t → IsSettled t → t ≡ behind_timers due s
  pub at_rest : AreAtRest s → AreAtRest (behind_timers due s)

abbrev pub LeftOverTimersChangeNothing : Type 0
LeftOverTimersChangeNothing = (s : SystemView) → IsSettled s → (over : AreLeftOver s) → ChangesNothing s over.due
