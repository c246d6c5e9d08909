-- Worked rows: the application that was stopped meets all that the law of starts asks, and starts again; and a list of calls that is calm.
use Rattle.std.proofs.Common.{List, ◌≡◌, ◌<◌, ◌∙◌, ℕ, zero, suc, false, None, [], ◌∷◌, refl, sym, ap, subst, arith}
use Rattle.std.specs.List.{list_any}
use Rattle.rh_model.specs.ClusterView.{app_numbered, deps_of}
use Rattle.rh_model.specs.declared.settings.Restart.TheVariants.{Permanent}
use Rattle.rh_rules.specs.declared.event.Event.TheVariants as event
use Rattle.rh_rules.specs.declared.notice.Notice.TheVariants as notice
use Rattle.rh_rules.specs.declared.pick.Pick.TheVariants.{First}
use Rattle.rh_rules.specs.ByHand.{stopped}
use Rattle.rh_rules.specs.Moves.{local_moves, placements, takeovers, can_start}
use Rattle.rh_rules.specs.NodesStart.{all_alive, is_ready, come_up_if_ready, ready_come_up}
use Rattle.rh_rules.specs.Placing.{deps_run}
use Rattle.rh_rules.specs.Refusals.{refused}
use Rattle.rh_rules.specs.Settling.{next_moves, moved_by, all_moved}
use Rattle.rh_rules.specs.Steps.{followed, next}
use Rattle.rh_calls.specs.declared.call.Call.{Call}
use Rattle.rh_calls.specs.declared.call.Call.TheVariants as call
use Rattle.rh_calls.specs.declared.call.Reply.TheVariants as reply
use Rattle.rh_state.specs.declared.status.Kind.TheVariants.{Normal}
use Rattle.rh_state.specs.First.{configured}
use Rattle.rh_state.specs.Numbers.{nodes_of, apps_of}
use Rattle.rh_state.specs.StateView.{StateView}
use Rattle.rh_step.specs.Runs.{step}
use Rattle.rh_trail.specs.Lone.{Served, served, with_event, trail_limit}
use Rattle.rh_trail.specs.SimView.{SimView, state_of}
use Rattle.rh_otp_controller.specs.Calls.{stop}
use Rattle.rh_otp_controller.specs.Changes.{received}
use Rattle.rh_otp_model.specs.declared.fault.Outcome.TheVariants as outcome
use Rattle.rh_otp_model.specs.declared.output.Event.TheVariants as seen
use Rattle.rh_otp_node.specs.Live.{LiveView}
use Rattle.rh_otp_node.specs.Turns.{controlled_by}
use Rattle.rh_otp_sim.specs.Acting.{acted, acted_at_once, is_acted, is_quiet_at_once}
use Rattle.rh_otp_sim.specs.Calls.{made_by}
use Rattle.rh_otp_sim.specs.Sim.{LiveSimView, net_in}
use Rattle.rh_otp_sim.specs.Stepping.{cells_behind, with_step}
use Rattle.rh_otp_system.specs.declared.calls.Ask.TheVariants as ask
use Rattle.rh_otp_system.specs.declared.calls.Stage.TheVariants as stage
use Rattle.rh_otp_system.specs.declared.cell.Cell.TheVariants as cell
use Rattle.rh_otp_system.specs.Calling.{call_received}
use Rattle.rh_otp_system.specs.Delivering.{delivered}
use Rattle.rh_otp_system.specs.Doing.{called}
use Rattle.rh_otp_system.specs.Moves.{made}
use Rattle.rh_otp_system.specs.Resting.{forgotten, rested}
use Rattle.rh_otp_system.specs.Sending.{told}
use Rattle.rh_otp_system.specs.State.{SystemView}
use Rattle.rh_agreement.specs.Laws.{IsAnsweredAlike, HasRoom}
use Rattle.rh_agreement.specs.Resting.{AreAnsweredAlike}
use Rattle.rh_agreement.proofs.Stepping.{manual}
use Rattle.rh_agreement_calls.specs.Calm.{AreAllCalm}
use Rattle.rh_agreement_calls.specs.Starts.{CanStart, CanStartLive, is_dep}
use Rattle.rh_agreement_calls.proofs.Calm.{calm_calls_alike}
use Rattle.rh_agreement_calls.proofs.Rows.{a, web, shop, file, state_up, state_is, sim, live, live_node, stop_row, together, alone, always}
use Rattle.rh_agreement_calls.proofs.Rows.{room as first_room}
use Rattle.rh_agreement_calls.proofs.StartAlike.{starts_are_alike}

-- ---- it was stopped: by the manual's rules

abbrev stopped_sim : SimView
stopped_sim = (served sim (call.Step (event.Stop a web))).sim

abbrev state_then : StateView
state_then = record state_up { running = [] ∷ [] }

stop_is : step First state_up (event.Stop a web) ≡ state_then
unfolding step next followed stopped is_ready all_alive come_up_if_ready ready_come_up nodes_of apps_of local_moves placements
    takeovers can_start deps_run next_moves moved_by all_moved
stop_is = refl

accepted : refused state_up (event.Stop a web) ≡ None
unfolding refused
accepted = refl

sim_is : stopped_sim ≡ with_event sim (event.Stop a web)
sim_is =
    ap (λ (s : Served). s.sim)
    (manual sim (event.Stop a web) (ap (λ (s : StateView). refused s (event.Stop a web)) state_is ∙ accepted) (omega arith))

state_so : state_of stopped_sim ≡ state_then
state_so = ap state_of sim_is ∙ ap (λ (s : StateView). step First s (event.Stop a web)) state_is ∙ stop_is

-- ---- and on live nodes

abbrev stopped_live : LiveSimView
stopped_live = made_by (call.Step (event.Stop a web)) live

abbrev stopped_node : LiveView
stopped_node = record live_node { controller = record live_node.controller { running = []; started = [] } }

abbrev last : SystemView
last = record {
  cluster = shop;
  files = file ∷ [];
  nodes = record {
    base = cell.Node live_node ∷ cell.Net (net_in live) ∷ [];
    cells = cell.Node stopped_node ∷ cell.Net (net_in live) ∷ [];
  };
  clock = 0;
  step = 2;
  last_call = 1;
  alive = a ∷ [];
  links = [];
  locks = [];
  timers = [];
  calls =
      record { number = 1; ask = ask.Stop; node = a; life = 1; app = web; only_loaded = false; stage = stage.Done outcome.Done } ∷ [];
  asleep = [];
  told = [];
  messages = [];
  slow = [];
  answers = [];
  events = seen.Stopped web a ∷ seen.Answered 1 ∷ [];
  is_ticking = false;
  ends_soon = false;
}

live_is : stopped_live ≡ with_step (cells_behind (net_in live) 1 last) live
unfolding acted acted_at_once is_acted is_quiet_at_once forgotten rested called made delivered controlled_by received stop
    call_received told
live_is = refl

-- ---- it can start on both sides

can_then : CanStart state_then a web
unfolding deps_run configured nodes_of apps_of
can_then = record {
  app = omega arith;
  up = refl;
  local = refl;
  off = refl;
  may = refl;
  needs = refl;
  unneeded = λ b waits. unneeded b.0;
}
  where
    unneeded : (k : ℕ) → list_any (is_dep web) (deps_of shop (app_numbered k)) ≡ false
    unneeded zero = refl
    unneeded (suc k) = refl

can : CanStart (state_of stopped_sim) a web
can = subst (λ (s : StateView). CanStart s a web) (sym state_so) can_then

live_can_then : CanStartLive (with_step (cells_behind (net_in live) 1 last) live) a web
unfolding forgotten
live_can_then = record { own = refl; off = refl; unasked = refl; may = refl; started = refl; runs = refl; stays = refl }

live_can : CanStartLive stopped_live a web
live_can = subst (λ (l : LiveSimView). CanStartLive l a web) (sym live_is) live_can_then

room : HasRoom stopped_sim stopped_live
room = record {
  steps = subst (λ (s : SimView). s.cursor < trail_limit) (sym sim_is) (omega arith);
  calls = subst (λ (l : LiveSimView). (net_in l).last_call < 4000000000) (sym live_is) (omega arith);
}

start_row : IsAnsweredAlike (call.Step (event.Start a web Permanent)) stopped_sim stopped_live
start_row = (starts_are_alike stopped_sim stopped_live a web Permanent stop_row.1 room stop_row.2 can live_can).0

start_told : (served stopped_sim (call.Step (event.Start a web Permanent))).reply ≡ reply.Done (notice.Started web a Normal None ∷ [])
start_told = (starts_are_alike stopped_sim stopped_live a web Permanent stop_row.1 room stop_row.2 can live_can).3

-- ---- and so both answer a stop, the start and `undo_all`, one after the other

calls : List Call
calls = call.Step (event.Stop a web) ∷ call.Step (event.Start a web Permanent) ∷ call.UndoAll ∷ []

calm : AreAllCalm calls sim live
unfolding calls
calm = ((first_room, alone), ((room, (can, live_can)), (refl, tt)))

calm_row : AreAnsweredAlike calls sim live
calm_row = calm_calls_alike sim live calls together always calm
