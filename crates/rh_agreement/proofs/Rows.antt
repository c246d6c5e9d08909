-- Worked rows: the laws are about something. The first simulations are still, and the first tick is answered alike, whatever the cluster is,
-- what the nodes' own files say and in which order messages are taken.
use Rattle.std.proofs.Common.{◌≡◌, ◌<◌, ◌+◌, ◌||◌, ◌&&◌, not, ℕ, false, List, refl, sym, ap, subst, arith}
use Rattle.std.specs.Option.{option_map}
use Rattle.rh_model.specs.ClusterView.{ClusterView, node_count}
use Rattle.rh_model.specs.declared.node.Node.{Node}
use Rattle.rh_rules.specs.declared.event.Event.TheVariants as event
use Rattle.rh_rules.specs.declared.pick.Pick.{Pick}
use Rattle.rh_calls.specs.declared.call.Call.TheVariants as call
use Rattle.rh_trail.specs.Lone.{opened}
use Rattle.rh_otp_model.specs.declared.wait.OwnFile.{OwnFile}
use Rattle.rh_otp_net.specs.declared.order.Order.{Order}
use Rattle.rh_otp_net.specs.Timers.{next_due}
use Rattle.rh_otp_node.specs.Live.{LiveView, never_begun, is_ending}
use Rattle.rh_otp_sim.specs.Sim.{LiveSimView, net_in, first_net}
use Rattle.rh_otp_sim.specs.Sim.{opened as live_opened}
use Rattle.rh_otp_system.specs.Doing.{until_if}
use Rattle.rh_otp_system.specs.Moves.{can_go_on_at, can_unpark_in, is_sync_free, is_to_end}
use Rattle.rh_otp_system.specs.Resting.{forgotten, open_of}
use Rattle.rh_otp_system.specs.State.{node_at}
use Rattle.rh_otp_system.specs.Views.{NetView}
use Rattle.rh_otp_system.specs.Working.{alive_of, lock_in}
use Rattle.rh_agreement.specs.Laws.{HasRoom, IsStill, IsAnsweredAlike, ticking}
use Rattle.rh_agreement.proofs.AtFirst.{none_begun}
use Rattle.rh_agreement.proofs.Beginning.{begin_together, net_so}
use Rattle.rh_agreement.proofs.Quiet.{quiet_ticks_alike}

module _ (c : ClusterView) (pick : Pick) (files : List OwnFile) (order : Order) (ms : ℕ) where
  abbrev live : LiveSimView
  live = live_opened c files order

  no_node : (n : Node) → node_at (ticking ms live) n ≡ never_begun
  unfolding forgotten
  no_node n = none_begun (node_count c) n.0 first_net

  no_lock : (n : Node) → can_go_on_at n (ticking ms live) ≡ false
  no_lock n =
      ap (λ (v : LiveView). is_sync_free n (option_map (alive_of (ticking ms live)) (lock_in v.dist)) (ticking ms live)
      || can_unpark_in n v.dist (ticking ms live)) (no_node n)

  no_end : (n : Node) → is_to_end n (ticking ms live) ≡ false
  no_end n = ap (λ (v : LiveView). is_ending v && ((ticking ms live).ends_soon || not v.is_stopped)) (no_node n)

  first_is_still : IsStill ms (opened c pick) live
  unfolding forgotten
  first_is_still = record {
    timers = refl;
    live_timers = ap (λ (v : NetView). until_if ((net_in live).clock + ms) (next_due v.timers)) (net_so c files order);
    calls = ap (λ (v : NetView). open_of v.calls) (net_so c files order);
    locks = λ n among. no_lock n;
    ends = λ n among. no_end n;
  }

  has_room : HasRoom (opened c pick) live
  has_room = record {
    steps = omega arith;
    calls = subst (λ (v : NetView). v.last_call < 4000000000) (sym (net_so c files order)) (omega arith);
  }

  first_tick : IsAnsweredAlike (call.Step (event.Tick ms)) (opened c pick) live
  first_tick = (quiet_ticks_alike (opened c pick) live ms (begin_together c pick files order) has_room first_is_still).0
