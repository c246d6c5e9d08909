-- Takeovers that both refuse for the same reason are refused by the same text, and both are at rest again.
use Rattle.std.proofs.Common.{◌≡◌, ◌<◌, ◌&&◌, ℕ, Bool, true, false, not, cond, nat_le, nat_lt, List, [], ◌∷◌, length, slice_get, unwrap_or, Option, Some, None, refl, sym, ap, subst, ◌∙◌, inl, inr, arith}
use Rattle.std.specs.List.{cons_option}
use Rattle.std.specs.Option.{option_and_then, option_map}
use Rattle.std.proofs.lemmas.Bool.{lt-ltb}
use Rattle.std.proofs.lemmas.Bool.Decides.{nat_tests}
use Rattle.std.proofs.lemmas.List.{length-set}
use Rattle.std.proofs.lemmas.Option.{none-some, same_Some}
use Rattle.rh_model.specs.ClusterView.{ClusterView, node_count}
use Rattle.rh_model.specs.declared.node.App.{App}
use Rattle.rh_model.specs.declared.node.Node.{Node}
use Rattle.rh_model.specs.declared.settings.Restart.{Restart}
use Rattle.rh_rules.specs.declared.event.Event.{Event}
use Rattle.rh_rules.specs.declared.event.Event.TheVariants as event
use Rattle.rh_rules.specs.declared.refusal.Refusal.{Refusal}
use Rattle.rh_rules.specs.declared.refusal.Refusal.TheVariants.{RunsHere, NotRunning}
use Rattle.rh_rules.specs.Refusals.{refused}
use Rattle.rh_calls.specs.declared.call.Call.TheVariants as call
use Rattle.rh_calls.specs.declared.call.Reply.TheVariants as reply
use Rattle.rh_script.specs.Answers.{answer_text}
use Rattle.rh_state.specs.StateView.{StateView}
use Rattle.rh_trail.specs.Lone.{served, stepped}
use Rattle.rh_trail.specs.SimView.{SimView, state_of}
use Rattle.rh_otp_model.specs.declared.fault.Fault.TheVariants.{RunsLocally, RunsNowhere}
use Rattle.rh_otp_model.specs.declared.fault.Outcome.{Outcome}
use Rattle.rh_otp_model.specs.declared.fault.Outcome.TheVariants.{Failed}
use Rattle.rh_otp_model.specs.declared.output.Envelope.{Envelope}
use Rattle.rh_otp_model.specs.declared.output.Event.{Event as Seen}
use Rattle.rh_otp_model.specs.declared.output.Event.TheVariants as seen
use Rattle.rh_otp_dist.specs.declared.state.Standing.{Standing}
use Rattle.rh_otp_dist.specs.declared.state.Standing.TheVariants as standing
use Rattle.rh_otp_dist.specs.Calls.{take_over, take_over_from}
use Rattle.rh_otp_dist.specs.Sending.{answer}
use Rattle.rh_otp_dist.specs.State.{DistView, TurnView, standing_of}
use Rattle.rh_otp_net.specs.declared.order.Order.{Order}
use Rattle.rh_otp_net.specs.Order.{next_order}
use Rattle.rh_otp_node.specs.Live.{LiveView, never_begun, is_alive, is_ending}
use Rattle.rh_otp_sim.specs.declared.calls.LiveReply.TheVariants as live_reply
use Rattle.rh_otp_sim.specs.declared.lines.Answer.TheVariants.{Told}
use Rattle.rh_otp_sim.specs.declared.lines.Line.{Line}
use Rattle.rh_otp_sim.specs.declared.stepping.Outcome.TheVariants as live
use Rattle.rh_otp_sim.specs.declared.verdict.Verdict.TheVariants as verdict
use Rattle.rh_otp_sim.specs.Acting.{acted, acted_at_once, is_acted, is_quiet_at_once, most_moves, called_if}
use Rattle.rh_otp_sim.specs.Calls.{made_by, reply_to}
use Rattle.rh_otp_sim.specs.Refusing.{refusal_of, phase_in, life_in, node_in}
use Rattle.rh_otp_sim.specs.Sim.{LiveSimView, net_in}
use Rattle.rh_otp_sim.specs.Sim.{live_in as live_at_node}
use Rattle.rh_otp_sim.specs.Stepping.{happened, net_behind, cells_behind, system_with, ends_with, with_step}
use Rattle.rh_otp_sim.specs.Telling.{answer_of as answer_told_of, answered_line, lines_of}
use Rattle.rh_otp_sim.specs.Verdicts.{verdict_of}
use Rattle.rh_otp_sim.specs.Views.{HappenedView}
use Rattle.rh_otp_sim.specs.Waiting.{WaitingView, still_told, events_asked, calls_asked}
use Rattle.rh_otp_system.specs.declared.calls.Ask.TheVariants as ask
use Rattle.rh_otp_system.specs.declared.calls.Call.{Call}
use Rattle.rh_otp_system.specs.declared.calls.Stage.TheVariants as stage
use Rattle.rh_otp_system.specs.declared.cell.Cell.{Cell}
use Rattle.rh_otp_system.specs.declared.cell.Cell.TheVariants as cell
use Rattle.rh_otp_system.specs.declared.moves.Move.TheVariants as move
use Rattle.rh_otp_system.specs.Calling.{is_known}
use Rattle.rh_otp_system.specs.Calls.{process_of}
use Rattle.rh_otp_system.specs.Moves.{IsAmong, can_go_on_at, is_to_end, call_or_end, lock_or_more, quiet_move, next_move, moved, settled, is_quiet_behind, is_settled_by}
use Rattle.rh_otp_system.specs.Resting.{forgotten, rested}
use Rattle.rh_otp_system.specs.State.{SystemView, live_in, node_at, is_alive_at}
use Rattle.rh_otp_system.specs.Views.{NetView}
use Rattle.rh_otp_text.specs.Replies.{reply_text}
use Rattle.rh_otp_laws.specs.Acting.{IsReached}
use Rattle.rh_otp_laws.proofs.Nodes.{as_it_was_or_written, same_of_all}
use Rattle.rh_otp_crashes.specs.Crashes.{IsUnoccupied, FailOverLater}
use Rattle.rh_otp_crashes.proofs.Peace.{arrives_alive, is_free_at_ease, no_lock_at}
use Rattle.rh_otp_crashes.proofs.Turning.{idle, weighing, idle_comes}
use Rattle.rh_otp_locks.proofs.Locks.{none_at_rest}
use Rattle.rh_otp_stops.proofs.Answering.{at_stage, answered_free, cannot_call}
use Rattle.rh_otp_permits.proofs.Noting.{answer_of, answered_then}
use Rattle.rh_agreement.specs.Telling.{TellTheSame, GoTogether, mode_of_phase}
use Rattle.rh_agreement.specs.Laws.{IsAnsweredAlike, HasRoom}
use Rattle.rh_agreement.specs.Resting.{AreBothAtRest, held}
use Rattle.rh_agreement.proofs.Refusing.{refused_by_both}
use Rattle.rh_agreement.proofs.Rest.{AreIdle, IsOver, idle_at_rest, nobody_there, rests_again, reached_again}
use Rattle.rh_agreement.proofs.Resting.{none_found, none_moves, moved_not, quiet_so}
use Rattle.rh_agreement.proofs.Stepping.{net_so, node_so, live_made, live_told}
use Rattle.rh_agreement_calls.proofs.Moving.{with_one, taken, one_moves, one_is_quiet}
use Rattle.rh_agreement_takeovers.specs.Refused.{refusal_at, RefusesFor, TakeoversAreRefusedAlike}
use Rattle.rh_agreement_takeovers.proofs.Question.{takes_lives}
use Rattle.rh_agreement_takeovers.proofs.Question as asks
use Rattle.rh_agreement_takeovers.proofs.RefusedTold.{refusing, refused_text}

module _ (sim : SimView) (l : LiveSimView) (n : Node) (a : App) (restart : Restart) (why : Refusal) (together : GoTogether sim l)
    (room : HasRoom sim l) (at_rest : AreBothAtRest sim l) (refuses : refused (state_of sim) (event.Takeover n a restart) ≡ Some why)
    (live_refuses : RefusesFor why a (node_in l n)) (taken_up : refusal_of (net_in l).clock (event.Takeover n a restart) l ≡ None) where
  abbrev s : StateView
  s = state_of sim

  abbrev e : Event
  e = event.Takeover n a restart

  -- ---- where it begins

  idle_all : AreIdle (held l)
  idle_all = idle_at_rest l at_rest.reached at_rest.rest

  alive : is_alive_at (held l) n ≡ true
  unfolding forgotten
  alive = takes_lives l n a taken_up

  abbrev d : DistView
  d = live_refuses.dist

  has : (node_at (held l) n).dist ≡ Some d
  unfolding forgotten
  has = live_refuses.has

  free : IsUnoccupied d
  free = idle_all.dists n d alive has

  nobody_locks : (held l).locks ≡ []
  nobody_locks = none_at_rest (held l) at_rest.reached at_rest.rest

  abbrev base : SystemView
  base = asks.base l n a restart alive d has live_refuses.takes_all live_refuses.synchronised free nobody_locks

  abbrev lives : Node → ℕ
  lives = asks.lives l n a restart alive d has live_refuses.takes_all live_refuses.synchronised free nobody_locks

  abbrev v : LiveView
  v = asks.v l n a restart alive d has live_refuses.takes_all live_refuses.synchronised free nobody_locks

  abbrev c : Call
  c = asks.c l n a restart alive d has live_refuses.takes_all live_refuses.synchronised free nobody_locks

  abbrev first : SystemView
  first = asks.first l n a restart alive d has live_refuses.takes_all live_refuses.synchronised free nobody_locks

  abbrev question : Envelope
  question = asks.question l n a restart alive d has live_refuses.takes_all live_refuses.synchronised free nobody_locks

  abbrev named : Envelope
  named = asks.named l n a restart alive d has live_refuses.takes_all live_refuses.synchronised free nobody_locks

  abbrev naming : SystemView
  naming = asks.naming l n a restart alive d has live_refuses.takes_all live_refuses.synchronised free nobody_locks

  abbrev request : Envelope
  request = asks.request l n a restart alive d has live_refuses.takes_all live_refuses.synchronised free nobody_locks

  abbrev locked : SystemView
  locked = asks.locked l n a restart alive d has live_refuses.takes_all live_refuses.synchronised free nobody_locks

  abbrev idle_node : LiveView
  idle_node = asks.idle_node l n a restart alive d has live_refuses.takes_all live_refuses.synchronised free nobody_locks

  abbrev turn : TurnView
  turn = asks.d_turn l n a restart alive d has live_refuses.takes_all live_refuses.synchronised free nobody_locks

  free_idle : IsUnoccupied (idle d)
  free_idle = asks.free_idle l n a restart alive d has live_refuses.takes_all live_refuses.synchronised free nobody_locks

  node_locked : node_at locked n ≡ idle_node
  node_locked = asks.node_with l n a restart alive d has live_refuses.takes_all live_refuses.synchronised free nobody_locks idle_node []

  -- ---- its dist_ac refuses it

  -- by this answer
  record Refuses : Type 0 where
    outcome : Outcome
    known : is_known outcome ≡ false
    says : verdict_of (ask.Takeover restart) outcome ≡ verdict.Refused why
    comes : (w : ℕ) → take_over a restart (process_of c) (weighing w turn) ≡ weighing w (answer (process_of c) outcome turn)

  answers : Refuses
  unfolding take_over
  answers = by (standing_of d a) refl live_refuses.refuses
    where
      stood : {st : Standing} → standing_of d a ≡ st → (w : ℕ)
          → take_over a restart (process_of c) (weighing w turn) ≡ take_over_from a restart (process_of c) st (weighing w turn)
      stood is w = ap (λ (st : Standing). take_over_from a restart (process_of c) st (weighing w turn)) is

      nowhere : Some NotRunning ≡ Some why
          → ((w : ℕ) → take_over a restart (process_of c) (weighing w turn)
          ≡ weighing w (answer (process_of c) (Failed (RunsNowhere a)) turn)) → Refuses
      nowhere is comes = record {
        outcome = Failed (RunsNowhere a);
        known = refl;
        says = ap verdict.Refused (same_Some NotRunning why is);
        comes = comes;
      }

      by : (st : Standing) → standing_of d a ≡ st → refusal_at st ≡ Some why → Refuses
      by standing.Local stands is = record {
        outcome = Failed (RunsLocally a);
        known = refl;
        says = ap verdict.Refused (same_Some RunsHere why is);
        comes = stood stands;
      }
      by (standing.Distributed m) stands is = absurd (none-some why is)
      by standing.Undefined stands is = nowhere is (stood stands)
      by standing.RunWaiting stands is = nowhere is (stood stands)
      by standing.Takeover stands is = nowhere is (stood stands)
      by (standing.Failover m) stands is = nowhere is (stood stands)

  abbrev message : Envelope
  message = answer_of lives c answers.outcome

  refuses_so : taken request locked ≡ with_one message locked
  unfolding forgotten
  refuses_so =
      arrives_alive request.to request.message (record locked { messages = [] }) (ap is_alive node_locked ∙ alive)
      (ap (λ (w : LiveView). w.life) node_locked)
      ∙ idle_comes l.cluster l.files n v.life request.message (idle d) (answer (process_of c) answers.outcome turn) free_idle refl refl
      answers.comes (record locked { messages = [] }) idle_node
      (asks.there_with l n a restart alive d has live_refuses.takes_all live_refuses.synchronised free nobody_locks idle_node [])
      refl refl refl refl
      ∙ ap (with_one message)
      (asks.twice l n a restart alive d has live_refuses.takes_all live_refuses.synchronised free nobody_locks idle_node idle_node [])

  -- ---- and the call is over

  abbrev over : SystemView
  over = answered_then c answers.outcome (record locked { messages = [] })

  answered_so : taken message locked ≡ over
  answered_so =
      answered_free c stage.DistAc answers.outcome (record locked { messages = [] }) refl answers.known
      (ap is_alive node_locked ∙ alive) (ap (λ (w : LiveView). w.life) node_locked)

  alive_so : (m : Node) → is_alive_at over m ≡ is_alive_at base m
  alive_so m = same_of_all is_alive first n m idle_node refl

  dists_so : (m : Node) (k : DistView) → is_alive_at over m ≡ true → (node_at over m).dist ≡ Some k → IsUnoccupied k
  dists_so m k up there = elim (as_it_was_or_written first n m idle_node) [
    | inl was ↦ idle_all.dists m k (sym (alive_so m) ∙ up) (sym (ap (λ (w : LiveView). w.dist) was) ∙ there)
    | inr is ↦ subst IsUnoccupied (same_Some (idle d) k (sym (ap (λ (w : LiveView). w.dist) is.1) ∙ there)) free_idle
  ]

  ends_so : (m : Node) → is_alive_at over m ≡ true → (is_ending (node_at over m) && not (node_at over m).is_stopped) ≡ false
  unfolding forgotten
  ends_so m up =
      same_of_all (λ (w : LiveView). is_ending w && not w.is_stopped) first n m idle_node refl
      ∙ idle_all.ends m (sym (alive_so m) ∙ up)

  listed_so : (m : Node) → IsAmong m over.alive → is_alive_at over m ≡ true
  listed_so m among = alive_so m ∙ idle_all.listed m among

  none_goes_on : quiet_move over ≡ None
  none_goes_on =
      ap (λ (found : Option Node). lock_or_more found over)
      (none_found (λ m. can_go_on_at m over) over.alive
      (λ m among. no_lock_at m over (node_at over m).dist (λ k there. is_free_at_ease k (dists_so m k (listed_so m among) there))))
      ∙ ap (λ (b : Bool). call_or_end (cond b (Some 0) None) over)
      (cannot_call c (stage.Done answers.outcome) over (λ call q. refl) refl 0 (at_stage c (stage.Done answers.outcome)) refl)
      ∙ ap (option_map move.End)
      (none_found (λ m. is_to_end m over) over.alive (λ m among. ends_so m (listed_so m among)))

  none_next : (o : Order) → next_move o over ≡ None
  none_next o = none_moves o over refl refl none_goes_on

  -- ---- what comes of it

  begins_so : called_if (ask.Takeover restart) n a base ≡ with_one question first
  begins_so =
      asks.calls_so l n a restart alive d has live_refuses.takes_all live_refuses.synchronised free nobody_locks at_rest.rest.calls
      room.calls

  abbrev o1 : Order
  o1 = next_order l.order

  abbrev o2 : Order
  o2 = next_order o1

  abbrev o3 : Order
  o3 = next_order o2

  abbrev o4 : Order
  o4 = next_order o3

  moves_so : settled most_moves l.order (called_if (ask.Takeover restart) n a base) ≡ over
  moves_so =
      ap (λ (t : SystemView). moved most_moves l.order (record t { answers = [] })) begins_so
      ∙ one_moves question first 999999 l.order
      ∙ ap (moved 999999 o1) (asks.names_so l n a restart alive d has live_refuses.takes_all live_refuses.synchronised free nobody_locks)
      ∙ one_moves named naming 999998 o1
      ∙ ap (moved 999998 o2) (asks.locks_so l n a restart alive d has live_refuses.takes_all live_refuses.synchronised free nobody_locks)
      ∙ one_moves request locked 999997 o2
      ∙ ap (moved 999997 o3) refuses_so
      ∙ one_moves message locked 999996 o3
      ∙ ap (moved 999996 o4) answered_so
      ∙ moved_not 999995 o4 over (none_next o4)

  quiet : is_settled_by most_moves l.order (called_if (ask.Takeover restart) n a base) ≡ true
  quiet =
      ap (λ (t : SystemView). is_quiet_behind most_moves l.order (record t { answers = [] })) begins_so
      ∙ one_is_quiet question first 999999 l.order
      ∙ ap (is_quiet_behind 999999 o1)
      (asks.names_so l n a restart alive d has live_refuses.takes_all live_refuses.synchronised free nobody_locks)
      ∙ one_is_quiet named naming 999998 o1
      ∙ ap (is_quiet_behind 999998 o2)
      (asks.locks_so l n a restart alive d has live_refuses.takes_all live_refuses.synchronised free nobody_locks)
      ∙ one_is_quiet request locked 999997 o2
      ∙ ap (is_quiet_behind 999997 o3) refuses_so
      ∙ one_is_quiet message locked 999996 o3
      ∙ ap (is_quiet_behind 999996 o4) answered_so
      ∙ quiet_so 999995 o4 over (none_next o4)

  -- ---- live nodes are at rest again

  abbrev last : SystemView
  last = rested over

  reached : IsReached last
  reached =
      asks.reached_so l n a restart alive d has live_refuses.takes_all live_refuses.synchronised free nobody_locks at_rest.reached over
      moves_so

  inside : node_count l.cluster < length last.nodes.cells
  unfolding rested forgotten
  inside =
      subst (λ (count : ℕ). node_count l.cluster < count) (sym (length-set base.nodes.cells n.0 (cell.Node idle_node)))
      together.now.cells

  is_over : IsOver l last
  unfolding rested forgotten
  is_over = record {
    inside = inside;
    idle = record { calls = refl; listed = listed_so; dists = dists_so; ends = ends_so };
    reached = reached;
    is_quiet = (refl, refl);
    cluster = refl;
    files = refl;
    nobody = λ m there. alive_so m ∙ nobody_there l at_rest.reached m there;
  }

  abbrev cells : List Cell
  cells = cells_behind (net_in l) (node_count l.cluster) last

  abbrev then : LiveSimView
  then = with_step cells l

  runs : system_with (net_in l) e l ≡ last
  unfolding acted acted_at_once forgotten
  runs = ap rested moves_so

  ends : ends_with (net_in l) e l ≡ true
  unfolding is_acted is_quiet_at_once forgotten
  ends = quiet

  made : made_by (call.Step e) l ≡ then
  made =
      live_made sim l e together room taken_up
      ∙ ap (λ (b : Bool). cond b (with_step (cells_behind (net_in l) (node_count l.cluster) (system_with (net_in l) e l)) l) l) ends
      ∙ ap (λ (t : SystemView). with_step (cells_behind (net_in l) (node_count l.cluster) t) l) runs

  later_then : FailOverLater (held then)
  unfolding forgotten
  later_then = at_rest.later

  rest_then : AreBothAtRest sim then
  rest_then = record {
    valid = at_rest.valid;
    reached = reached_again l last is_over;
    rest = rests_again l last is_over;
    later = later_then;
  }

  -- ---- both tell the same

  clock_so : (net_in then).clock ≡ (net_in l).clock
  unfolding forgotten rested
  clock_so = ap (λ (net : NetView). net.clock) (net_so l last.nodes.cells (net_behind (net_in l) last) inside)

  module _ (k : Node) (known : k.0 < node_count s.cluster) where
    node_then : live_at_node then k ≡ option_and_then live_in (slice_get last.nodes.cells k.0)
    node_then =
        node_so l last.nodes.cells (net_behind (net_in l) last) inside k
        (subst (λ (c : ClusterView). k.0 < node_count c) (sym together.now.cluster) known)

    phase_then : phase_in then k ≡ phase_in l k
    unfolding forgotten rested
    phase_then =
        ap (λ (o : Option LiveView). (unwrap_or o never_begun).phase) node_then
        ∙ same_of_all (λ (w : LiveView). w.phase) first n k idle_node refl

    life_then : life_in then k ≡ life_in l k
    unfolding forgotten rested
    life_then =
        ap (λ (o : Option LiveView). (unwrap_or o never_begun).life) node_then
        ∙ same_of_all (λ (w : LiveView). w.life) first n k idle_node refl

  tells : TellTheSame s then
  tells = record {
    cluster = together.now.cluster;
    clock = clock_so ∙ together.now.clock;
    modes = λ k known. ap mode_of_phase (phase_then k known) ∙ together.now.modes k known;
    begun = λ k known. life_then k known ∙ together.now.begun k known;
    limited = together.now.limited;
    cells = subst (λ (count : ℕ). node_count l.cluster < count)
        (sym (length-set last.nodes.cells (node_count l.cluster) (cell.Net (net_behind (net_in l) last)))) inside;
  }

  -- ---- and answer alike

  abbrev answered : Call
  answered = at_stage c (stage.Done answers.outcome)

  behind_all : nat_lt (net_in l).last_call c.number ≡ true
  unfolding forgotten
  behind_all = lt-ltb (net_in l).last_call c.number (omega arith)

  not_before : nat_le c.number (net_in l).last_call ≡ false
  unfolding forgotten
  not_before = grind (arith, nat_tests)

  abbrev seen_then : List Seen
  seen_then = seen.Answered c.number ∷ []

  answer_so : answer_told_of (net_in l).last_call (answered ∷ []) ≡ Told (verdict.Refused why)
  answer_so =
      ap (λ (b : Bool). cond b (Told (verdict_of (ask.Takeover restart) answers.outcome)) (Told verdict.Done)) behind_all
      ∙ ap Told answers.says

  shown : List Line → WaitingView
  shown lines = record { told = still_told seen_then (net_in l).told; asked = []; lines = lines }

  lines_so : (calls_asked last seen_then (net_in l).last_call (answered ∷ []) (events_asked last seen_then seen_then (record {
    told = still_told seen_then (net_in l).told;
    asked = [];
    lines = lines_of seen_then (answered ∷ []) (net_in l).last_call;
  }))).lines ≡ []
  unfolding shown
  lines_so = λ i.
      let w : WaitingView = shown (cons_option (cond (not_before i) (answered_line c.number (answered ∷ [])) None) []) in
      (cond (behind_all i) w w).lines

  happens : happened (net_in l) last ≡ refusing why
  unfolding rested forgotten
  happens = λ i. record { answer = answer_so i; lines = lines_so i }

  says : reply_to (call.Step e) l ≡ live_reply.Step (live.Done (refusing why))
  says =
      live_told sim l e together room taken_up
      ∙ ap (λ (b : Bool). live_reply.Step (cond b (live.Done (happened (net_in l) (system_with (net_in l) e l))) live.Endless)) ends
      ∙ ap (λ (t : SystemView). live_reply.Step (live.Done (happened (net_in l) t))) runs
      ∙ ap (λ (h : HappenedView). live_reply.Step (live.Done h)) happens

  text : IsAnsweredAlike (call.Step e) sim l
  unfolding reply_text
  text =
      ap (λ (o : Option Refusal). answer_text sim.cluster (stepped sim e o).reply) refuses
      ∙ ap (λ (c : ClusterView). answer_text c (reply.Refused why)) (sym together.cluster)
      ∙ refused_text l why (standing_of d a) live_refuses.refuses
      ∙ sym (λ i. reply_text (made i) (says i))

  refused_alike : IsAnsweredAlike (call.Step e) sim l × ((served sim (call.Step e)).sim ≡ sim)
      × TellTheSame s (made_by (call.Step e) l) × AreBothAtRest sim (made_by (call.Step e) l)
  refused_alike = (
    text,
    ap (λ (o : Option Refusal). (stepped sim e o).sim) refuses,
    subst (TellTheSame s) (sym made) tells,
    subst (AreBothAtRest sim) (sym made) rest_then,
  )

-- where the call can't be given to the node at all, nothing changes
pub takeovers_refused_alike : TakeoversAreRefusedAlike
takeovers_refused_alike sim l n a restart why together room at_rest refuses live_refuses =
    by (refusal_of (net_in l).clock e l) refl
  where
    e : Event
    e = event.Takeover n a restart

    by : (o : Option Refusal) → refusal_of (net_in l).clock e l ≡ o
        → IsAnsweredAlike (call.Step e) sim l × ((served sim (call.Step e)).sim ≡ sim)
        × TellTheSame (state_of sim) (made_by (call.Step e) l) × AreBothAtRest sim (made_by (call.Step e) l)
    by None is = refused_alike sim l n a restart why together room at_rest refuses live_refuses is
    by (Some other) is =
        let both = refused_by_both sim l e other together refl is in (
          both.0,
          both.1,
          subst (TellTheSame (state_of sim)) (sym both.2) together.now,
          subst (AreBothAtRest sim) (sym both.2) at_rest,
        )
