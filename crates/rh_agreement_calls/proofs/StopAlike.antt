-- Stops, ends and forbids of a local application are answered alike, and both are at rest again.
use Rattle.std.proofs.Common.{◌≡◌, ◌<◌, Bool, true, false, not, cond, List, [], ◌∷◌, Some, None, refl, ap, ◌∙◌}
use Rattle.std.proofs.lemmas.Bool.{and_left}
use Rattle.rh_base.proofs.Truths.{or_left}
use Rattle.rh_model.specs.ClusterView.{node_count, app_count}
use Rattle.rh_model.specs.declared.node.App.{App}
use Rattle.rh_model.specs.declared.node.Node.{Node}
use Rattle.rh_rules.specs.declared.event.Event.{Event}
use Rattle.rh_rules.specs.declared.event.Event.TheVariants as event
use Rattle.rh_rules.specs.declared.notice.Notice.TheVariants as notice
use Rattle.rh_rules.specs.declared.refusal.Refusal.TheVariants.{NeverStarted, NotRunningHere}
use Rattle.rh_rules.specs.Refusals.{refused}
use Rattle.rh_state.specs.StateView.{StateView, mode_of, is_up, runs_at, waits_at, is_started, is_allowed}
use Rattle.rh_trace.proofs.NextMoves.{up_within}
use Rattle.rh_trace.proofs.Shapes.{started_within}
use Rattle.rh_events.proofs.SoundEndingLists.{up_where_runs}
use Rattle.rh_calls.specs.declared.call.Call.TheVariants as call
use Rattle.rh_trail.specs.SimView.{SimView, state_of}
use Rattle.rh_otp_controller.specs.Calls.{is_here, ends_with}
use Rattle.rh_otp_model.specs.declared.output.Event.{Event as Seen}
use Rattle.rh_otp_model.specs.declared.output.Event.TheVariants as seen
use Rattle.rh_otp_model.specs.Rows.{keyfind}
use Rattle.rh_otp_net.specs.Order.{next_order}
use Rattle.rh_otp_node.specs.Live.{LiveView}
use Rattle.rh_otp_sim.specs.declared.lines.Answer.TheVariants.{Told}
use Rattle.rh_otp_sim.specs.declared.lines.Line.TheVariants as line
use Rattle.rh_otp_sim.specs.declared.verdict.Verdict.TheVariants as verdict
use Rattle.rh_otp_sim.specs.Acting.{acted, acted_at_once, is_acted, is_quiet_at_once, most_moves, called_if}
use Rattle.rh_otp_sim.specs.Sim.{LiveSimView, net_in}
use Rattle.rh_otp_sim.specs.Stepping.{begun, happened, system_with, ends_with as comes_to_an_end}
use Rattle.rh_otp_sim.specs.Verdicts.{is_start}
use Rattle.rh_otp_model.specs.declared.process.Process.{Process}
use Rattle.rh_otp_model.specs.Own.{OwnView}
use Rattle.rh_otp_system.specs.declared.calls.Ask.{Ask}
use Rattle.rh_otp_system.specs.declared.calls.Ask.TheVariants as ask
use Rattle.rh_otp_system.specs.declared.calls.Call.{Call}
use Rattle.rh_otp_system.specs.Calls.{process_of, first_by}
use Rattle.rh_otp_system.specs.Moves.{moved, settled, is_quiet_behind, is_settled_by, is_to_end}
use Rattle.rh_otp_system.specs.Resting.{forgotten, rested}
use Rattle.rh_otp_system.specs.State.{SystemView, node_at, own_at, with_node, is_alive_at}
use Rattle.rh_otp_system.specs.Working.{behind}
use Rattle.rh_otp_crashes.proofs.Peace.{arrives_alive}
use Rattle.rh_agreement.specs.Telling.{GoTogether}
use Rattle.rh_agreement.specs.Laws.{HasRoom}
use Rattle.rh_agreement.specs.Resting.{AreBothAtRest, AreAlwaysAtRest, held}
use Rattle.rh_agreement.proofs.Always.{GoesOn}
use Rattle.rh_agreement.proofs.Rest.{AreIdle, idle_at_rest}
use Rattle.rh_agreement.proofs.Resting.{moved_not, quiet_so}
use Rattle.rh_agreement_calls.specs.Stops.{RunsAlone, KeepsNodes, IsStoppedAlike, StopsAreAnsweredAlike, ForbidsAreAnsweredAlike, ExitsAreAnsweredAlike}
use Rattle.rh_agreement_calls.proofs.ByHand.{by_hand, not_refused}
use Rattle.rh_agreement_calls.proofs.CallAlike.{Calls}
use Rattle.rh_agreement_calls.proofs.CallAlike as calling_alike
use Rattle.rh_agreement_calls.proofs.Controlling.{Answers, well_answered, stop_answers, forbid_answers, exit_answers}
use Rattle.rh_agreement_calls.proofs.Ended.{without_it, waiting_for_it, only_stops, only_ends, only_forbids}
use Rattle.rh_agreement_calls.proofs.Moving.{CanAnswer, call_at, request_of, calling, with_one, taken, one_moves, one_is_quiet}
use Rattle.rh_agreement_calls.proofs.Moving as moving
use Rattle.rh_agreement_calls.proofs.Told.{happened_so, stop_text}

-- ---- where the controller stops it and answers

module _ (sim : SimView) (l : LiveSimView) (n : Node) (a : App) (e : Event) (together : GoTogether sim l) (room : HasRoom sim l)
    (at_rest : AreBothAtRest sim l) (inside : n.0 < node_count (state_of sim).cluster) (up : is_up (mode_of (state_of sim) n) ≡ true)
    (how : Calls sim l n a e (notice.Stopped a n)) (no_start : is_start how.asked ≡ false)
    (answers : Answers l.cluster (own_at (held l) n) n (process_of (call_at (held l) how.asked n a)) (node_at (held l) n)
    (first_by how.asked (call_at (held l) how.asked n a)) (seen.Stopped a n)) where
  abbrev base : SystemView
  base = calling_alike.base sim l n a e (notice.Stopped a n) together room at_rest inside up how

  abbrev new : LiveView
  new = record (node_at base n) { controller = answers.next }

  abbrev stop_seen : List Seen
  stop_seen = seen.Stopped a n ∷ []

  can : CanAnswer base n new
  can = calling_alike.can_answer sim l n a e (notice.Stopped a n) together room at_rest inside up how new refl refl refl answers.stays

  abbrev over : SystemView
  over = moving.over base how.asked n a new stop_seen can

  abbrev c : Call
  c = call_at base how.asked n a

  abbrev first : SystemView
  first = calling base c

  abbrev answering : SystemView
  answering = moving.answering base how.asked n a new stop_seen can

  turned : taken (request_of c) first
      ≡ with_one (well_answered n (node_at base n) (process_of c)) answering
  unfolding forgotten
  turned =
      arrives_alive (request_of c).to (request_of c).message (record first { messages = [] })
      (calling_alike.alive sim l n a e (notice.Stopped a n) together room at_rest inside up how) refl
      ∙ ap (λ done. behind n done (record first { messages = [] })) answers.comes
      ∙ answers.does (with_node n new (record first { messages = [] }))

  begins_so : called_if how.asked n a base ≡ with_one (request_of c) first
  begins_so = calling_alike.begins_so sim l n a e (notice.Stopped a n) together room at_rest inside up how

  moves_so : settled most_moves l.order (called_if how.asked n a base) ≡ over
  moves_so =
      ap (λ (t : SystemView). moved most_moves l.order (record t { answers = [] })) begins_so
      ∙ one_moves (request_of c) first 999999 l.order
      ∙ ap (moved 999999 (next_order l.order)) turned
      ∙ one_moves (well_answered n (node_at base n) (process_of c)) answering 999998 (next_order l.order)
      ∙ ap (moved 999998 (next_order (next_order l.order))) (moving.answer_comes base how.asked n a new stop_seen can)
      ∙ moved_not 999997 (next_order (next_order l.order)) over
      (moving.none_next base how.asked n a new stop_seen can (next_order (next_order l.order)))

  quiet : is_settled_by most_moves l.order (called_if how.asked n a base) ≡ true
  quiet =
      ap (λ (t : SystemView). is_quiet_behind most_moves l.order (record t { answers = [] })) begins_so
      ∙ one_is_quiet (request_of c) first 999999 l.order
      ∙ ap (is_quiet_behind 999999 (next_order l.order)) turned
      ∙ one_is_quiet (well_answered n (node_at base n) (process_of c)) answering 999998 (next_order l.order)
      ∙ ap (is_quiet_behind 999998 (next_order (next_order l.order))) (moving.answer_comes base how.asked n a new stop_seen can)
      ∙ quiet_so 999997 (next_order (next_order l.order)) over
      (moving.none_next base how.asked n a new stop_seen can (next_order (next_order l.order)))

  happens : happened (net_in l) (rested over) ≡ record { answer = Told verdict.Done; lines = line.Stopped a n ∷ [] }
  unfolding forgotten rested
  happens = happened_so (net_in l) (rested over) n a c refl no_start refl refl

  pub stopped_alike : IsStoppedAlike e n a sim l
  stopped_alike =
      calling_alike.called_alike sim l n a e (notice.Stopped a n) together room at_rest inside up how new stop_seen can (line.Stopped a n)
      moves_so quiet happens (stop_text l.cluster l n a refl)

  pub stops_on : AreAlwaysAtRest sim l → GoesOn (call.Step e) sim l
  stops_on =
      calling_alike.goes_on sim l n a e (notice.Stopped a n) together room at_rest inside up how new stop_seen can (line.Stopped a n)
      moves_so quiet happens (stop_text l.cluster l n a refl)

-- ---- the calls

module _ (sim : SimView) (l : LiveSimView) (n : Node) (a : App) (together : GoTogether sim l) (room : HasRoom sim l)
    (at_rest : AreBothAtRest sim l) (alone : RunsAlone n a sim l) where
  abbrev s : StateView
  s = state_of sim

  up : is_up (mode_of s n) ≡ true
  up = up_where_runs s n a at_rest.valid.sound.idle alone.runs

  inside : n.0 < node_count s.cluster
  inside = up_within s n at_rest.valid.sound.shaped.modes up

  started : is_started s n a ≡ true
  started = or_left (runs_at s n a) (waits_at s n a) alone.runs

  known : a.0 < app_count s.cluster
  known = started_within s n a at_rest.valid.sound.shaped started

  idle : AreIdle (held l)
  idle = idle_at_rest l at_rest.reached at_rest.rest

  runs_here : is_here (keyfind a (node_at (held l) n).controller.running) ≡ true
  unfolding forgotten
  runs_here = alone.live_runs

  stays : (node_at (held l) n).controller.is_ending ≡ false
  unfolding forgotten
  stays = alone.stays

  abbrev caller : Ask → Process
  caller asked = process_of (call_at (held l) asked n a)

  abbrev own : OwnView
  own = own_at (held l) n

  abbrev v : LiveView
  v = node_at (held l) n

  -- ---- a stop

  stop_fine : refused s (event.Stop n a) ≡ None
  unfolding refused
  stop_fine = by_hand s n a inside known up (cond (not (is_started s n a)) (Some NeverStarted) None)
      ∙ ap (λ (b : Bool). cond (not b) (Some NeverStarted) None) started

  stops : Calls sim l n a (event.Stop n a) (notice.Stopped a n)
  unfolding acted acted_at_once is_acted is_quiet_at_once forgotten
  stops = record {
    asked = ask.Stop;
    apart = refl;
    fine = stop_fine;
    live_fine = not_refused sim l (event.Stop n a) together refl stop_fine;
    then = without_it s n a at_rest.valid alone.local alone.runs;
    comes = only_stops s n a at_rest.valid alone.local alone.runs sim.pick;
    cluster = refl;
    time = refl;
    modes = refl;
    begun = refl;
    soon = false;
    runs = refl;
    ends = refl;
    none_ends = λ m alive. idle.ends m alive;
  }

  stops_alike : IsStoppedAlike (event.Stop n a) n a sim l
  unfolding stops
  stops_alike =
      stopped_alike sim l n a (event.Stop n a) together room at_rest inside up stops refl
      (stop_answers l.cluster own n a (caller ask.Stop) v alone.own runs_here stays)

  pub stop_on : AreAlwaysAtRest sim l → GoesOn (call.Step (event.Stop n a)) sim l
  unfolding stops
  stop_on =
      stops_on sim l n a (event.Stop n a) together room at_rest inside up stops refl
      (stop_answers l.cluster own n a (caller ask.Stop) v alone.own runs_here stays)

  -- ---- it is forbidden

  forbid_fine : refused s (event.Permit n a false) ≡ None
  unfolding refused
  forbid_fine = by_hand s n a inside known up None

  forbids : is_allowed s n a ≡ true → Calls sim l n a (event.Permit n a false) (notice.Stopped a n)
  unfolding acted acted_at_once is_acted is_quiet_at_once forgotten
  forbids may = record {
    asked = ask.Permit false;
    apart = refl;
    fine = forbid_fine;
    live_fine = not_refused sim l (event.Permit n a false) together refl forbid_fine;
    then = waiting_for_it s n a at_rest.valid alone.local alone.runs;
    comes = only_forbids s n a at_rest.valid alone.local alone.runs may sim.pick;
    cluster = refl;
    time = refl;
    modes = refl;
    begun = refl;
    soon = false;
    runs = refl;
    ends = refl;
    none_ends = λ m alive. idle.ends m alive;
  }

  forbids_alike : is_allowed s n a ≡ true → IsStoppedAlike (event.Permit n a false) n a sim l
  unfolding forbids
  forbids_alike may =
      stopped_alike sim l n a (event.Permit n a false) together room at_rest inside up (forbids may) refl
      (forbid_answers l.cluster own n a (caller (ask.Permit false)) v alone.own runs_here stays)

  pub forbid_on : is_allowed s n a ≡ true → AreAlwaysAtRest sim l → GoesOn (call.Step (event.Permit n a false)) sim l
  unfolding forbids
  forbid_on may =
      stops_on sim l n a (event.Permit n a false) together room at_rest inside up (forbids may) refl
      (forbid_answers l.cluster own n a (caller (ask.Permit false)) v alone.own runs_here stays)

  -- ---- it ends by itself

  module _ (normal : Bool) (keeps : KeepsNodes n a normal sim l) where
    exit_fine : refused s (event.Exit n a normal) ≡ None
    unfolding refused
    exit_fine = by_hand s n a inside known up (cond (not (runs_at s n a)) (Some NotRunningHere) None)
        ∙ ap (λ (b : Bool). cond (not b) (Some NotRunningHere) None) alone.runs

    abbrev exiting : SystemView
    exiting = begun (net_in l) (event.Exit n a normal) l

    exiting_so : exiting ≡ record (held l) { ends_soon = true }
    unfolding forgotten
    exiting_so = refl

    exit_runs : system_with (net_in l) (event.Exit n a normal) l
        ≡ rested (settled most_moves l.order (called_if (ask.Exit normal) n a exiting))
    unfolding acted acted_at_once
    exit_runs = refl

    exit_ends : comes_to_an_end (net_in l) (event.Exit n a normal) l
        ≡ is_settled_by most_moves l.order (called_if (ask.Exit normal) n a exiting)
    unfolding is_acted is_quiet_at_once
    exit_ends = refl

    stay_so : (m : Node) → is_alive_at (held l) m ≡ true → is_to_end m (record (held l) { ends_soon = true }) ≡ false
    unfolding forgotten
    stay_so m alive = and_left _ _ (keeps.stay m alive)

    exits : Calls sim l n a (event.Exit n a normal) (notice.Stopped a n)
    exits = record {
      asked = ask.Exit normal;
      apart = refl;
      fine = exit_fine;
      live_fine = not_refused sim l (event.Exit n a normal) together refl exit_fine;
      then = without_it s n a at_rest.valid alone.local alone.runs;
      comes = only_ends s n a at_rest.valid alone.local alone.runs normal keeps.keeps sim.pick;
      cluster = refl;
      time = refl;
      modes = refl;
      begun = refl;
      soon = true;
      runs = exit_runs ∙ ap (λ (t : SystemView). rested (settled most_moves l.order (called_if (ask.Exit normal) n a t))) exiting_so;
      ends = exit_ends ∙ ap (λ (t : SystemView). is_settled_by most_moves l.order (called_if (ask.Exit normal) n a t)) exiting_so;
      none_ends = stay_so;
    }

    live_keeps : ends_with (keyfind a (node_at (held l) n).controller.started) normal ≡ false
    unfolding forgotten
    live_keeps = keeps.live_keeps

    exits_alike : IsStoppedAlike (event.Exit n a normal) n a sim l
    unfolding exits
    exits_alike =
        stopped_alike sim l n a (event.Exit n a normal) together room at_rest inside up exits refl
        (exit_answers l.cluster own n a (caller (ask.Exit normal)) v alone.own runs_here stays normal live_keeps)

    pub exit_on : AreAlwaysAtRest sim l → GoesOn (call.Step (event.Exit n a normal)) sim l
    unfolding exits
    exit_on =
        stops_on sim l n a (event.Exit n a normal) together room at_rest inside up exits refl
        (exit_answers l.cluster own n a (caller (ask.Exit normal)) v alone.own runs_here stays normal live_keeps)

pub stops_are_alike : StopsAreAnsweredAlike
stops_are_alike sim l n a together room at_rest alone = stops_alike sim l n a together room at_rest alone

pub forbids_are_alike : ForbidsAreAnsweredAlike
forbids_are_alike sim l n a together room at_rest alone may = forbids_alike sim l n a together room at_rest alone may

pub exits_are_alike : ExitsAreAnsweredAlike
exits_are_alike sim l n a normal together room at_rest alone keeps = exits_alike sim l n a together room at_rest alone normal keeps
