-- A worked row: behind the boot of the first of three nodes the second begins, and waits on for the third, as the first does.
use Rattle.std.proofs.Common.{◌≡◌, ◌<◌, ◌+◌, ℕ, zero, suc, true, false, [], ◌∷◌, length, None, refl, sym, ap, subst, ◌∙◌, inl, inr, arith}
use Rattle.std.proofs.lemmas.Bool.{false≢true}
use Rattle.rh_model.specs.ClusterView.{numbered}
use Rattle.rh_rules.specs.declared.event.Event.TheVariants as event
use Rattle.rh_rules.specs.declared.pick.Pick.TheVariants.{First}
use Rattle.rh_rules.specs.Marking.{mark_all}
use Rattle.rh_rules.specs.Moves.{local_moves, placements, takeovers}
use Rattle.rh_rules.specs.NodesStart.{all_alive, is_ready, booted, come_up, come_up_if_ready, ready_come_up}
use Rattle.rh_rules.specs.Refusals.{refused}
use Rattle.rh_rules.specs.Settling.{next_moves, moved_by, all_moved}
use Rattle.rh_rules.specs.Steps.{next, followed}
use Rattle.rh_calls.specs.declared.call.Call.TheVariants as call
use Rattle.rh_calls.specs.declared.call.Reply.TheVariants as reply
use Rattle.rh_state.specs.declared.status.Mode.TheVariants as mode
use Rattle.rh_state.specs.declared.status.Timer.TheVariants.{Sync}
use Rattle.rh_state.specs.First.{first}
use Rattle.rh_state.specs.Numbers.{nodes_of, apps_of}
use Rattle.rh_state.specs.StateView.{StateView}
use Rattle.rh_step.specs.Runs.{step}
use Rattle.rh_trail.specs.Lone.{Served, served, with_event, trail_limit}
use Rattle.rh_trail.specs.SimView.{SimView, state_of}
use Rattle.rh_otp_model.specs.declared.message.Message.TheVariants as message
use Rattle.rh_otp_model.specs.declared.process.Role.TheVariants as role
use Rattle.rh_otp_node.specs.Live.{LiveView, never_begun, begun, is_ending}
use Rattle.rh_otp_sim.specs.Acting.{most_moves, acted, acted_at_once, is_acted, is_quiet_at_once}
use Rattle.rh_otp_sim.specs.Calls.{made_by}
use Rattle.rh_otp_sim.specs.Sim.{LiveSimView, net_in}
use Rattle.rh_otp_sim.specs.Stepping.{cells_behind, with_step}
use Rattle.rh_otp_system.specs.declared.cell.Cell.TheVariants as cell
use Rattle.rh_otp_net.specs.Links.{to_connect}
use Rattle.rh_otp_system.specs.Connecting.{connect}
use Rattle.rh_otp_system.specs.Doing.{booted as system_booted, waited_for}
use Rattle.rh_otp_system.specs.Resting.{forgotten, rested}
use Rattle.rh_otp_system.specs.Sending.{after}
use Rattle.rh_otp_system.specs.State.{SystemView, node_at, is_alive_at}
use Rattle.rh_otp_waits.specs.Waits.{is_listed, WaitsForMore, WaitsOn}
use Rattle.rh_agreement.specs.Laws.{HasRoom}
use Rattle.rh_agreement.specs.Resting.{AreAnsweredAlike, held}
use Rattle.rh_agreement.proofs.Stepping.{manual}
use Rattle.rh_agreement_boots.specs.Boots.{IsBootedAlike}
use Rattle.rh_agreement_boots.specs.Waiting.{begun_to_wait, BeginsAndWaitsOn}
use Rattle.rh_agreement_boots.proofs.BootAlike.{waiting_alike}
use Rattle.rh_agreement_boots.proofs.Calls.{boots_and_peaceful_calls_alike}
use Rattle.rh_agreement_boots.proofs.Counting.{come_to_an_end}
use Rattle.rh_agreement_boots.proofs.Rows.{a, b, c, three, file, sim, live, together, always, room, begins, not_refused, first_row}

-- ---- the first waits: by the manual's rules

abbrev sim_then : SimView
sim_then = (served sim (call.Step (event.Boot a))).sim

abbrev state_then : StateView
state_then = record (first three) {
  modes = mode.Waiting ∷ mode.Down ∷ mode.Down ∷ [];
  incarnations = 1 ∷ 0 ∷ 0 ∷ [];
  timers = (5000, Sync a) ∷ [];
}

state_is : step First (first three) (event.Boot a) ≡ state_then
unfolding step next followed booted is_ready all_alive come_up come_up_if_ready ready_come_up mark_all nodes_of apps_of local_moves
    placements takeovers next_moves moved_by all_moved
state_is = refl

sim_is : sim_then ≡ with_event sim (event.Boot a)
sim_is = ap (λ (s : Served). s.sim) (manual sim (event.Boot a) not_refused (omega arith))

state_so : state_of sim_then ≡ state_then
state_so = ap state_of sim_is ∙ state_is

-- ---- and on live nodes

abbrev live_then : LiveSimView
live_then = made_by (call.Step (event.Boot a)) live

abbrev waiting_node : LiveView
waiting_node = begun three file.own a never_begun

abbrev last : SystemView
last = record {
  cluster = three;
  files = file ∷ file ∷ file ∷ [];
  nodes = record {
    base = cell.Node never_begun ∷ cell.Node never_begun ∷ cell.Node never_begun ∷ cell.Net (net_in live) ∷ [];
    cells = cell.Node waiting_node ∷ cell.Node never_begun ∷ cell.Node never_begun ∷ cell.Net (net_in live) ∷ [];
  };
  clock = 0;
  step = 1;
  last_call = 0;
  alive = a ∷ [];
  links = [];
  locks = [];
  timers =
      record { due = 5000; step = 1; to = record { role = role.KernelConfig; node = a; life = 1 }; message = message.Timeout } ∷ [];
  calls = [];
  asleep = [];
  told = [];
  messages = [];
  slow = [];
  answers = [];
  events = [];
  is_ticking = false;
  ends_soon = true;
}

abbrev live_waits : LiveSimView
live_waits = with_step (cells_behind (net_in live) 3 last) live

live_is : live_then ≡ live_waits
unfolding acted acted_at_once is_acted is_quiet_at_once forgotten rested system_booted waited_for after
live_is = refl

-- ---- so the second waits on

unready : (k : ℕ) → is_ready (booted state_then b) (numbered k) ≡ false
unfolding is_ready booted all_alive
unready zero = refl
unready (suc zero) = refl
unready (suc (suc zero)) = refl
unready (suc (suc (suc k))) = refl

-- the first is the only one that is alive
only_first : (k : ℕ) → is_alive_at (held live_waits) (numbered k) ≡ true → k ≡ 0
unfolding forgotten
only_first zero alive = refl
only_first (suc zero) alive = absurd (false≢true alive)
only_first (suc (suc zero)) alive = absurd (false≢true alive)
only_first (suc (suc (suc zero))) alive = absurd (false≢true alive)
only_first (suc (suc (suc (suc k)))) alive = absurd (false≢true alive)

named : (k : ℕ) → k ≡ 0 → is_listed three b (numbered k) ≡ true
named k here = subst (λ (j : ℕ). is_listed three b (numbered j) ≡ true) (sym here) refl

waits_for_third : (k : ℕ) → k ≡ 0 → WaitsForMore b (node_at (held live_waits) (numbered k))
unfolding forgotten
waits_for_third k here =
    subst (λ (j : ℕ). WaitsForMore b (node_at (held live_waits) (numbered j))) (sym here)
    (record { more = c; other = λ same. omega (arith, same); awaited = refl })

waits : WaitsOn b (held live_waits)
unfolding forgotten
waits = record {
  down = refl;
  file = omega arith;
  names = λ m alive. named m.0 (only_first m.0 alive);
  lacks = c;
  lacking = refl;
  not_itself = λ same. omega (arith, same);
  not_there = refl;
  others = λ m alive down. waits_for_third m.0 (only_first m.0 alive);
}

-- three messages come of it: the second hears of the first twice, since it tries to reach it and is connected, and the first of the second
comes : length (begun_to_wait b live_waits).messages + length (begun_to_wait b live_waits).slow ≡ 3
unfolding forgotten system_booted waited_for after connect to_connect
comes = refl

-- which the law bounds without a look at them: by 3 * 2 for the two entries of its lists, and 2 * 3 * 1 connections
bounded : length (begun_to_wait b live_waits).messages + length (begun_to_wait b live_waits).slow < most_moves
unfolding forgotten
bounded = come_to_an_end live_waits b 0 (never_begun, refl) waits refl (λ m other. omega arith) (omega arith)

begins_live : BeginsAndWaitsOn b sim_then live_waits
unfolding forgotten
begins_live = record {
  unready = λ m. subst (λ (s : StateView). is_ready (booted s b) m ≡ false) (sym state_so) (unready m.0);
  waits = waits;
  touch = record {
    see = λ m k one other apart. absurd (apart (only_first m.0 one ∙ sym (only_first k.0 other)));
    stay = λ m alive. stays m.0 (only_first m.0 alive);
  };
  few = bounded;
  there = λ inside. (never_begun, refl);
}
  where
    stays : (k : ℕ) → k ≡ 0 → is_ending (node_at (held live_waits) (numbered k)) ≡ false
    stays k here = subst (λ (j : ℕ). is_ending (node_at (held live_waits) (numbered j)) ≡ false) (sym here) refl

begins_then : BeginsAndWaitsOn b sim_then live_then
begins_then = subst (BeginsAndWaitsOn b sim_then) (sym live_is) begins_live

room_then : HasRoom sim_then live_then
room_then = record {
  steps = subst (λ (s : SimView). s.cursor < trail_limit) (sym sim_is) (omega arith);
  calls = subst (λ (l : LiveSimView). (net_in l).last_call < 4000000000) (sym live_is) (omega arith);
}

second_row : IsBootedAlike b sim_then live_then
second_row = waiting_alike sim_then live_then b first_row.1 room_then first_row.2 begins_then

-- and it isn't refused
fine_then : refused state_then (event.Boot b) ≡ None
unfolding refused
fine_then = refl

second_told : (served sim_then (call.Step (event.Boot b))).reply ≡ reply.Done []
second_told = second_row.3 (ap (λ (s : StateView). refused s (event.Boot b)) state_so ∙ fine_then)

-- both boots, one behind the other, from where no node has begun
both_boots : AreAnsweredAlike (call.Step (event.Boot a) ∷ call.Step (event.Boot b) ∷ []) sim live
both_boots =
    boots_and_peaceful_calls_alike sim live (call.Step (event.Boot a) ∷ call.Step (event.Boot b) ∷ []) together always
    ((room, inl begins), ((room_then, inr begins_then), tt))
