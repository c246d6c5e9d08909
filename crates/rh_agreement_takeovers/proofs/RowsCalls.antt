-- A worked row of calls one after the other: two starts, by which the application runs at the first node and waits at the second one, and
-- its takeover by that.
use Rattle.std.proofs.Common.{List, [], ◌∷◌, inl, inr}
use Rattle.rh_model.specs.declared.settings.Restart.TheVariants.{Permanent, Temporary}
use Rattle.rh_rules.specs.declared.event.Event.TheVariants as event
use Rattle.rh_rules.specs.declared.pick.Pick.TheVariants.{First}
use Rattle.rh_calls.specs.declared.call.Call.{Call}
use Rattle.rh_calls.specs.declared.call.Call.TheVariants as call
use Rattle.rh_otp_net.specs.declared.order.Order.TheVariants.{FirstComes}
use Rattle.rh_otp_sim.specs.Sim.{net_in}
use Rattle.rh_otp_sim.specs.Stepping.{cells_behind}
use Rattle.rh_otp_system.specs.Resting.{forgotten}
use Rattle.rh_agreement.specs.Resting.{AreBothAtRest, AreAlwaysAtRest, AreAnsweredAlike}
use Rattle.rh_agreement.proofs.Always.{then_rest}
use Rattle.rh_agreement.proofs.AtFirst.{begin_at_rest}
use Rattle.rh_agreement.proofs.Beginning.{begin_together}
use Rattle.rh_agreement.proofs.Rest.{rests_again, reached_again}
use Rattle.rh_agreement_spread.proofs.RowsPair.{a, b, web, two, file, within}
use Rattle.rh_agreement_spread.proofs.RowsTwo.{new_sim, new_live, sim_one, live_one, last_one, one_over, together_one, valid_one, no_timeouts, sim_two, live_two, last_two, together_two, at_rest_two}
use Rattle.rh_agreement_spread.proofs.RowsTwoCalls.{room_two, can_place, can_place_live, room_three, can_wait, can_wait_live}
use Rattle.rh_agreement_takeovers.proofs.Calls.{calls_and_takeovers_alike}
use Rattle.rh_agreement_takeovers.proofs.Rows.{room_four, can_take, can_take_live}

at_rest_one : AreBothAtRest sim_one live_one
unfolding forgotten
at_rest_one = record {
  valid = valid_one;
  reached = reached_again new_live last_one one_over;
  rest = rests_again new_live last_one one_over;
  later = λ n. no_timeouts n.0;
}

-- both nodes have booted, and both are at rest, now and behind each number of steps
pub always_two : AreAlwaysAtRest sim_two live_two
always_two =
    then_rest sim_one live_one (event.Boot b) (cells_behind (net_in live_one) 2 last_two) together_one
    (then_rest new_sim new_live (event.Boot a) (cells_behind (net_in new_live) 2 last_one)
    (begin_together two First (file ∷ file ∷ []) FirstComes)
    (begin_at_rest two First (file ∷ file ∷ []) FirstComes within (λ n. no_timeouts n.0)) at_rest_one)
    at_rest_two

abbrev calls : List Call
calls = call.Step (event.Start a web Temporary) ∷ call.Step (event.Start b web Temporary) ∷ call.Step (event.Takeover b web Permanent) ∷ []

row : AreAnsweredAlike calls sim_two live_two
row = calls_and_takeovers_alike sim_two live_two calls together_two always_two (
  inr (inl (room_two, inl (can_place, can_place_live))),
  (inr (inl (room_three, inr (can_wait, can_wait_live))), (inl (room_four, (a, can_take, can_take_live)), tt)),
)
