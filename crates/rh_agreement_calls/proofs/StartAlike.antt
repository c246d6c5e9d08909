-- Starts of a local application are answered alike, and both are at rest again.
use Rattle.std.proofs.Common.{◌≡◌, ◌<◌, true, false, not, cond, find, List, [], ◌∷◌, Some, None, refl, ap, ◌∙◌}
use Rattle.std.specs.List.{list_all}
use Rattle.std.proofs.lemmas.Bool.{and_parts}
use Rattle.rh_base.proofs.Truths.{or_left}
use Rattle.rh_model.specs.ClusterView.{node_count, deps_of, is_listed_at}
use Rattle.rh_model.specs.declared.node.App.{App}
use Rattle.rh_model.specs.declared.node.Node.{Node}
use Rattle.rh_model.specs.declared.settings.Dep.{Dep}
use Rattle.rh_model.specs.declared.settings.Restart.{Restart}
use Rattle.rh_rules.specs.declared.event.Event.TheVariants as event
use Rattle.rh_rules.specs.declared.notice.Notice.{Notice}
use Rattle.rh_rules.specs.declared.notice.Notice.TheVariants as notice
use Rattle.rh_rules.specs.declared.refusal.Refusal.TheVariants.{NotListed, AlreadyStarted}
use Rattle.rh_rules.specs.Course.{is_local}
use Rattle.rh_rules.specs.Placing.{dep_runs, deps_run, missing_dep}
use Rattle.rh_rules.specs.Refusals.{refused, dep_tests, first_that_applies}
use Rattle.rh_state.specs.declared.status.Kind.TheVariants as kind
use Rattle.rh_state.specs.StateView.{StateView}
use Rattle.rh_trace.proofs.NextMoves.{up_within}
use Rattle.rh_calls.specs.declared.call.Call.TheVariants as call
use Rattle.rh_calls.specs.declared.call.Reply.TheVariants as reply
use Rattle.rh_trail.specs.Lone.{served}
use Rattle.rh_trail.specs.SimView.{SimView, state_of}
use Rattle.rh_otp_controller.specs.Calls.{is_forbidden}
use Rattle.rh_otp_controller.specs.Starting.{lacks_started, lacks_running}
use Rattle.rh_otp_model.specs.declared.message.Message.TheVariants as message
use Rattle.rh_otp_model.specs.declared.output.Envelope.{Envelope}
use Rattle.rh_otp_model.specs.declared.output.Event.{Event as Seen}
use Rattle.rh_otp_model.specs.declared.output.Event.TheVariants as seen
use Rattle.rh_otp_model.specs.declared.output.Output.{Output}
use Rattle.rh_otp_model.specs.declared.process.Process.{Process}
use Rattle.rh_otp_model.specs.declared.process.StartType.TheVariants.{Normal}
use Rattle.rh_otp_model.specs.Own.{OwnView}
use Rattle.rh_otp_model.specs.Rows.{keyfind, has_row}
use Rattle.rh_otp_net.specs.Order.{next_order}
use Rattle.rh_otp_node.specs.Live.{LiveView, is_alive, with_kind}
use Rattle.rh_otp_node.specs.Turns.{controller_turn, controlled_by}
use Rattle.rh_otp_sim.specs.declared.lines.Answer.TheVariants.{Told}
use Rattle.rh_otp_sim.specs.declared.lines.Line.TheVariants as line
use Rattle.rh_otp_sim.specs.declared.verdict.Verdict.TheVariants as verdict
use Rattle.rh_otp_sim.specs.Acting.{acted, acted_at_once, is_acted, is_quiet_at_once, most_moves, called_if}
use Rattle.rh_otp_sim.specs.Calls.{made_by}
use Rattle.rh_otp_sim.specs.Sim.{LiveSimView, net_in}
use Rattle.rh_otp_sim.specs.Stepping.{happened}
use Rattle.rh_otp_system.specs.declared.calls.Ask.TheVariants as ask
use Rattle.rh_otp_system.specs.declared.calls.Call.{Call}
use Rattle.rh_otp_system.specs.Calls.{process_of}
use Rattle.rh_otp_system.specs.Moves.{moved, settled, is_quiet_behind, is_settled_by}
use Rattle.rh_otp_system.specs.Resting.{forgotten, rested}
use Rattle.rh_otp_system.specs.Sending.{told}
use Rattle.rh_otp_system.specs.State.{SystemView, live_at, node_at, own_at, with_node, is_alive_at}
use Rattle.rh_otp_system.specs.Working.{behind}
use Rattle.rh_otp_laws.proofs.Nodes.{alive_is_there, node_written, there_written}
use Rattle.rh_otp_crashes.proofs.Peace.{arrives_alive}
use Rattle.rh_otp_crashes.proofs.Turning.{written_twice}
use Rattle.rh_agreement.specs.Telling.{GoTogether}
use Rattle.rh_agreement.specs.Laws.{IsAnsweredAlike, HasRoom}
use Rattle.rh_agreement.specs.Resting.{AreBothAtRest, AreAlwaysAtRest, held}
use Rattle.rh_agreement.proofs.Always.{GoesOn}
use Rattle.rh_agreement.proofs.Rest.{AreIdle, idle_at_rest}
use Rattle.rh_agreement.proofs.Resting.{moved_not, quiet_so}
use Rattle.rh_agreement_calls.specs.Starts.{CanStart, CanStartLive, StartsAreAnsweredAlike}
use Rattle.rh_agreement_calls.proofs.ByHand.{by_hand, not_refused}
use Rattle.rh_agreement_calls.proofs.CallAlike.{Calls}
use Rattle.rh_agreement_calls.proofs.CallAlike as calling_alike
use Rattle.rh_agreement_calls.proofs.Controlling.{well_answered}
use Rattle.rh_agreement_calls.proofs.Moving.{CanAnswer, call_at, request_of, calling, with_one, taken, one_moves, one_is_quiet}
use Rattle.rh_agreement_calls.proofs.Moving as moving
use Rattle.rh_agreement_calls.proofs.StartTold.{happened_start, start_text}
use Rattle.rh_agreement_calls.proofs.Started as manual
use Rattle.rh_agreement_calls.proofs.Starting as controller

-- where all that an application needs runs, nothing is missing
none_missing : (s : StateView) (n : Node) (deps : List Dep) → list_all (dep_runs s n) deps ≡ true
    → find (λ (d : Dep). not (dep_runs s n d)) deps ≡ None
none_missing s n [] all = refl
none_missing s n (d ∷ deps) all =
    let parts = and_parts (dep_runs s n d) _ all in
    (λ i. cond (not (parts.0 i)) (Some d) (find (λ (x : Dep). not (dep_runs s n x)) deps)) ∙ none_missing s n deps parts.1

module _ (sim : SimView) (l : LiveSimView) (n : Node) (a : App) (restart : Restart) (together : GoTogether sim l) (room : HasRoom sim l)
    (at_rest : AreBothAtRest sim l) (can : CanStart (state_of sim) n a) (live_can : CanStartLive l n a) where
  abbrev s : StateView
  s = state_of sim

  -- ---- by the manual's rules

  inside : n.0 < node_count s.cluster
  inside = up_within s n at_rest.valid.sound.shaped.modes can.up

  listed : is_listed_at s.cluster a n ≡ true
  listed = or_left (is_local s.cluster a) _ can.local

  nothing_missing : missing_dep s n a ≡ None
  unfolding missing_dep deps_run
  nothing_missing = none_missing s n (deps_of s.cluster a) can.needs

  start_fine : refused s (event.Start n a restart) ≡ None
  unfolding refused
  start_fine =
      by_hand s n a inside can.app can.up _
      ∙ (λ i. cond (not (listed i)) (Some NotListed)
      (cond (can.off i) (Some AlreadyStarted) (first_that_applies (dep_tests (nothing_missing i)))))

  abbrev note : Notice
  note = notice.Started a n kind.Normal None

  idle : AreIdle (held l)
  idle = idle_at_rest l at_rest.reached at_rest.rest

  how : Calls sim l n a (event.Start n a restart) note
  unfolding acted acted_at_once is_acted is_quiet_at_once forgotten
  how = record {
    asked = ask.Start restart;
    apart = refl;
    fine = start_fine;
    live_fine = not_refused sim l (event.Start n a restart) together refl start_fine;
    then = manual.then s n a restart at_rest.valid inside can;
    comes = manual.only_starts s n a restart at_rest.valid inside can sim.pick;
    cluster = refl;
    time = refl;
    modes = refl;
    begun = refl;
    soon = false;
    runs = refl;
    ends = refl;
    none_ends = λ m alive. idle.ends m alive;
  }

  -- ---- on live nodes

  abbrev base : SystemView
  base = record (held l) { ends_soon = false }

  abbrev own : OwnView
  own = own_at (held l) n

  abbrev v : LiveView
  v = node_at (held l) n

  abbrev c : Call
  c = call_at base (ask.Start restart) n a

  abbrev caller : Process
  caller = process_of c

  stays : v.controller.is_ending ≡ false
  unfolding forgotten
  stays = live_can.stays

  off : has_row a v.controller.running ≡ false
  unfolding forgotten
  off = live_can.off

  unasked : has_row a v.controller.start_req ≡ false
  unfolding forgotten
  unasked = live_can.unasked

  may : is_forbidden (keyfind a v.controller.permissions) ≡ false
  unfolding forgotten
  may = live_can.may

  started : lacks_started (controller_turn l.cluster own n v) a ≡ None
  unfolding forgotten
  started = live_can.started

  runs : lacks_running (controller_turn l.cluster own n v) a ≡ None
  unfolding forgotten
  runs = live_can.runs

  begins : controlled_by l.cluster own n (message.Start a restart caller) v
      ≡ (
        record v { controller = controller.beginning l.cluster own n a restart caller v live_can.own stays off unasked may started runs },
        controller.begin_out l.cluster own n a restart caller v live_can.own stays off unasked may started runs,
      )
  begins = controller.begins l.cluster own n a restart caller v live_can.own stays off unasked may started runs

  abbrev start_out : List Output
  start_out = controller.begin_out l.cluster own n a restart caller v live_can.own stays off unasked may started runs

  abbrev begun_message : Envelope
  begun_message = controller.begun l.cluster own n a restart caller v live_can.own stays off unasked may started runs

  abbrev first_node : LiveView
  first_node = record v {
    controller = controller.beginning l.cluster own n a restart caller v live_can.own stays off unasked may started runs;
  }

  abbrev seen_node : LiveView
  seen_node = with_kind a Normal first_node

  abbrev new : LiveView
  new = record seen_node { controller = controller.over l.cluster own n a restart caller v live_can.own stays off unasked may started runs }

  abbrev start_seen : List Seen
  start_seen = seen.Started a n Normal ∷ []

  can_answer : CanAnswer base n new
  unfolding how
  can_answer =
      calling_alike.can_answer sim l n a (event.Start n a restart) note together room at_rest inside can.up how new refl refl refl stays

  alive : is_alive_at base n ≡ true
  alive = calling_alike.alive sim l n a (event.Start n a restart) note together room at_rest inside can.up how

  there : (w : LiveView) × (live_at base n ≡ Some w)
  there = alive_is_there base n alive

  abbrev first : SystemView
  first = calling base c

  abbrev begun : SystemView
  begun = record (with_node n seen_node first) { events = start_seen }

  abbrev answering : SystemView
  answering = moving.answering base (ask.Start restart) n a new start_seen can_answer

  abbrev over : SystemView
  over = moving.over base (ask.Start restart) n a new start_seen can_answer

  -- it is started, which is seen
  started_so : behind n (first_node, start_out) first
      ≡ with_one begun_message begun
  unfolding told
  started_so =
      (λ i. record (with_node n (with_kind a Normal (node_written first n there.0 first_node there.1 i)) (with_node n first_node first)) {
        messages = begun_message ∷ [];
        events = start_seen;
      })
      ∙ (λ i. record (written_twice first n first_node seen_node i) {
        messages = begun_message ∷ [];
        events = start_seen;
      })

  turned : taken (request_of c) first ≡ with_one begun_message begun
  unfolding forgotten
  turned =
      arrives_alive (request_of c).to (request_of c).message (record first { messages = [] }) alive refl
      ∙ ap (λ done. behind n done (record first { messages = [] })) begins
      ∙ started_so

  -- and answered
  node_begun : node_at begun n ≡ seen_node
  node_begun = node_written first n there.0 seen_node there.1

  turned_again : taken begun_message begun
      ≡ with_one (well_answered n v caller) answering
  unfolding forgotten
  turned_again =
      arrives_alive (request_of c).to (message.ApplicationStarted a None) begun (ap is_alive node_begun ∙ alive)
      (ap (λ (w : LiveView). w.life) node_begun)
      ∙ ap (λ (w : LiveView). behind n (controlled_by l.cluster own n (message.ApplicationStarted a None) w) begun) node_begun
      ∙ ap (λ done. behind n done begun)
      (controller.ends l.cluster own n a restart caller v live_can.own stays off unasked may started runs)
      ∙ (λ i. record (written_twice first n seen_node new i) { messages = well_answered n v caller ∷ []; events = start_seen })

  begins_so : called_if (ask.Start restart) n a base ≡ with_one (request_of c) first
  unfolding how
  begins_so = calling_alike.begins_so sim l n a (event.Start n a restart) note together room at_rest inside can.up how

  moves_so : settled most_moves l.order (called_if (ask.Start restart) n a base) ≡ over
  moves_so =
      ap (λ (t : SystemView). moved most_moves l.order (record t { answers = [] })) begins_so
      ∙ one_moves (request_of c) first 999999 l.order
      ∙ ap (moved 999999 (next_order l.order)) turned
      ∙ one_moves begun_message begun 999998 (next_order l.order)
      ∙ ap (moved 999998 (next_order (next_order l.order))) turned_again
      ∙ one_moves (well_answered n v caller) answering 999997 (next_order (next_order l.order))
      ∙ ap (moved 999997 (next_order (next_order (next_order l.order))))
      (moving.answer_comes base (ask.Start restart) n a new start_seen can_answer)
      ∙ moved_not 999996 (next_order (next_order (next_order l.order))) over
      (moving.none_next base (ask.Start restart) n a new start_seen can_answer (next_order (next_order (next_order l.order))))

  quiet : is_settled_by most_moves l.order (called_if (ask.Start restart) n a base) ≡ true
  quiet =
      ap (λ (t : SystemView). is_quiet_behind most_moves l.order (record t { answers = [] })) begins_so
      ∙ one_is_quiet (request_of c) first 999999 l.order
      ∙ ap (is_quiet_behind 999999 (next_order l.order)) turned
      ∙ one_is_quiet begun_message begun 999998 (next_order l.order)
      ∙ ap (is_quiet_behind 999998 (next_order (next_order l.order))) turned_again
      ∙ one_is_quiet (well_answered n v caller) answering 999997 (next_order (next_order l.order))
      ∙ ap (is_quiet_behind 999997 (next_order (next_order (next_order l.order))))
      (moving.answer_comes base (ask.Start restart) n a new start_seen can_answer)
      ∙ quiet_so 999996 (next_order (next_order (next_order l.order))) over
      (moving.none_next base (ask.Start restart) n a new start_seen can_answer (next_order (next_order (next_order l.order))))

  -- ---- so both answer alike

  happens : happened (net_in l) (rested over) ≡ record { answer = Told verdict.Done; lines = line.Started a n Normal ∷ [] }
  unfolding forgotten rested
  happens =
      happened_start (net_in l) base (rested over) n a restart new refl (there_written first n there.0 new there.1) alive
      (controller.is_running l.cluster own n a restart caller v live_can.own stays off unasked may started runs) refl refl

  abbrev Alike : Type 0
  Alike = IsAnsweredAlike (call.Step (event.Start n a restart)) sim l
      × GoTogether (served sim (call.Step (event.Start n a restart))).sim (made_by (call.Step (event.Start n a restart)) l)
      × AreBothAtRest (served sim (call.Step (event.Start n a restart))).sim (made_by (call.Step (event.Start n a restart)) l)
      × ((served sim (call.Step (event.Start n a restart))).reply ≡ reply.Done (note ∷ []))

  starts_alike : Alike
  unfolding how
  starts_alike =
      calling_alike.called_alike sim l n a (event.Start n a restart) note together room at_rest inside can.up how new start_seen can_answer
      (line.Started a n Normal) moves_so quiet happens (start_text l.cluster l n a refl)

  pub start_on : AreAlwaysAtRest sim l → GoesOn (call.Step (event.Start n a restart)) sim l
  unfolding how
  start_on =
      calling_alike.goes_on sim l n a (event.Start n a restart) note together room at_rest inside can.up how new start_seen can_answer
      (line.Started a n Normal) moves_so quiet happens (start_text l.cluster l n a refl)

pub starts_are_alike : StartsAreAnsweredAlike
starts_are_alike sim l n a restart together room at_rest can live_can = starts_alike sim l n a restart together room at_rest can live_can
