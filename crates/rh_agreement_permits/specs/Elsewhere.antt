-- Which permits of distributed applications that run elsewhere `run` and `run --rules otp25` answer alike by `ok` alone: those by
-- which nothing else changes (ours).
use Rattle.std.specs.Prelude.{◌≡◌, ◌<◌, ◌+◌, length, true, false, Some}
use Rattle.rh_model.specs.declared.node.App.{App}
use Rattle.rh_model.specs.declared.node.Node.{Node}
use Rattle.rh_rules.specs.declared.event.Event.TheVariants as event
use Rattle.rh_trail.specs.SimView.{SimView, state_of}
use Rattle.rh_otp_controller.specs.Calls.{is_here}
use Rattle.rh_otp_dist.specs.declared.state.Stand.TheVariants as stand
use Rattle.rh_otp_dist.specs.Choosing.{backwards}
use Rattle.rh_otp_dist.specs.State.{DistView}
use Rattle.rh_otp_model.specs.Own.{controls}
use Rattle.rh_otp_model.specs.Rows.{keyfind}
use Rattle.rh_otp_moves.specs.Elsewhere.{FindsElsewhere}
use Rattle.rh_otp_node.specs.Live.{is_ending}
use Rattle.rh_otp_permits.specs.Permits.{is_begun}
use Rattle.rh_otp_sim.specs.Acting.{most_moves}
use Rattle.rh_otp_sim.specs.Refusing.{node_in}
use Rattle.rh_otp_sim.specs.Sim.{LiveSimView}
use Rattle.rh_otp_system.specs.State.{own_at}
use Rattle.rh_agreement.specs.Telling.{GoTogether}
use Rattle.rh_agreement.specs.Laws.{HasRoom}
use Rattle.rh_agreement.specs.Resting.{AreBothAtRest, held}
use Rattle.rh_agreement_spread.specs.Stops.{IsLeftAlike}
use Rattle.rh_agreement_permits.specs.Permits.{ChangesNoMore}

-- On the live node the application is one of its own `distributed`, and its controller has started it, or is starting it, and doesn't run
-- it. Behind the permit the node's dist_ac, which takes whatever comes and has synchronised, finds that it runs elsewhere. The node sees
-- those of the application's list that are alive, and isn't on its way to its end. The list is so short that with one message for each of
-- its nodes, and five more, the step isn't taken for one without end.
pub record FindsElsewhereLive (live : LiveSimView) (n : Node) (a : App) : Type 0 where
  pub own : controls (own_at (held live) n) a ≡ true
  pub begun : is_begun a (node_in live n).controller ≡ true
  pub runs_not : is_here (keyfind a (node_in live n).controller.running) ≡ false
  pub dist : DistView
  pub has : (node_in live n).dist ≡ Some dist
  pub takes_all : dist.stand ≡ stand.Idle
  pub finds : FindsElsewhere n a (held live)
  pub stays : is_ending (node_in live n) ≡ false
  pub few : length (backwards (own_at (held live) n) a) + 5 < most_moves

-- Where both are at rest, such a permit, if it changes nothing else by the manual's rules, is answered alike, by `ok` alone, and leads to
-- what is told alike; and both are at rest again (application(3), permit/2; kernel(6), `distributed`).
abbrev pub PermitsWhereItRunsElsewhereAreAnsweredAlike : Type 0
PermitsWhereItRunsElsewhereAreAnsweredAlike = (sim : SimView) (live : LiveSimView) (n : Node) (a : App) → GoTogether sim live
    → HasRoom sim live → AreBothAtRest sim live → ChangesNoMore (state_of sim) n a true → FindsElsewhereLive live n a
    → IsLeftAlike (event.Permit n a true) sim live
