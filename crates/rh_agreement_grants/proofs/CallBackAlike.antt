-- Permits of a distributed application by which it is called back to the node are answered alike, and both are at rest again.
use Rattle.std.proofs.Common.{◌≡◌, ◌≢◌, ◌<◌, ◌≤◌, ◌+◌, ◌*◌, ◌||◌, ℕ, Bool, true, false, List, [], ◌∷◌, length, Some, None, refl, sym, ap, subst, ◌∙◌, inl, inr, arith}
use Rattle.std.specs.Prelude.{All}
use Rattle.std.proofs.lemmas.List.Elements.{All-nil, All-cons, All-append}
use Rattle.std.proofs.lemmas.Option.{same_Some}
use Rattle.rh_base.proofs.Truths.{or_right}
use Rattle.rh_model.specs.declared.node.App.{App}
use Rattle.rh_model.specs.declared.node.Node.{Node}
use Rattle.rh_rules.specs.declared.event.Event.TheVariants as event
use Rattle.rh_rules.specs.declared.notice.Notice.{Notice}
use Rattle.rh_state.specs.StateView.{StateView, mode_of, is_up, is_started, runs_at, waits_at}
use Rattle.rh_settle.proofs.Soundly.{up_where_started}
use Rattle.rh_trace.proofs.Shapes.{started_within}
use Rattle.rh_calls.specs.declared.call.Call.TheVariants as call
use Rattle.rh_calls.specs.declared.call.Reply.TheVariants as reply
use Rattle.rh_trail.specs.Lone.{served}
use Rattle.rh_trail.specs.SimView.{SimView, state_of}
use Rattle.rh_otp_controller.specs.Calls.{is_here}
use Rattle.rh_otp_controller.specs.Starting.{lacks_running}
use Rattle.rh_otp_model.specs.declared.message.Change.TheVariants as change_of
use Rattle.rh_otp_model.specs.declared.output.Envelope.{Envelope}
use Rattle.rh_otp_model.specs.declared.process.StartType.TheVariants.{Takeover}
use Rattle.rh_otp_model.specs.Rows.{keyfind, has_row}
use Rattle.rh_otp_dist.specs.declared.attempt.AskedBy.TheVariants as asked_by
use Rattle.rh_otp_dist.specs.declared.state.Standing.{Standing}
use Rattle.rh_otp_dist.specs.Attempts.{change_of as verdict_change}
use Rattle.rh_otp_dist.specs.Choosing.{backwards, remote, verdict_here}
use Rattle.rh_otp_dist.specs.State.{DistView, is_among}
use Rattle.rh_otp_node.specs.Live.{LiveView, is_alive, is_ending}
use Rattle.rh_otp_node.specs.Turns.{controller_turn}
use Rattle.rh_otp_sim.specs.Acting.{most_moves}
use Rattle.rh_otp_sim.specs.Calls.{made_by}
use Rattle.rh_otp_sim.specs.Sim.{LiveSimView, net_in}
use Rattle.rh_otp_sim.specs.Stepping.{happened}
use Rattle.rh_otp_system.specs.declared.calls.Call.{Call}
use Rattle.rh_otp_system.specs.Calling.{is_only_loaded}
use Rattle.rh_otp_system.specs.Calls.{process_of}
use Rattle.rh_otp_system.specs.Moves.{is_settled_by}
use Rattle.rh_otp_system.specs.Resting.{forgotten, rested}
use Rattle.rh_otp_system.specs.State.{SystemView, node_at, own_at, is_alive_at}
use Rattle.rh_otp_system.proofs.Moving.{settles}
use Rattle.rh_otp_laws.proofs.Nodes.{node_written, others_same}
use Rattle.rh_otp_crashes.specs.Crashes.{IsUnoccupied}
use Rattle.rh_otp_moves.specs.Starting.{IsChosenThen}
use Rattle.rh_otp_moves.proofs.Permit.{its_change}
use Rattle.rh_otp_permits.proofs.Asking.{first_answer}
use Rattle.rh_otp_permits.proofs.Noting.{note}
use Rattle.rh_agreement.specs.Telling.{GoTogether}
use Rattle.rh_agreement.specs.Laws.{IsAnsweredAlike, HasRoom}
use Rattle.rh_agreement.specs.Resting.{AreBothAtRest, AreAlwaysAtRest, held}
use Rattle.rh_agreement.proofs.Always.{GoesOn}
use Rattle.rh_agreement_calls.proofs.Controlling.{place_here}
use Rattle.rh_agreement_calls.proofs.Moving.{done, taken}
use Rattle.rh_agreement_spread.proofs.Alike.{Comes, well, comes_alike, goes_on}
use Rattle.rh_agreement_spread.proofs.Summing.{sum_of, sum_behind, sum_of_none, sum_of_ones}
use Rattle.rh_agreement_permits.proofs.Coming.{keeps_on}
use Rattle.rh_agreement_permits.proofs.Noted.{asked_so, none_owed}
use Rattle.rh_agreement_permits.proofs.Permitting.{Begins}
use Rattle.rh_agreement_permits.proofs.Permitting as permitting
use Rattle.rh_agreement_permits.proofs.Setting.{Asks}
use Rattle.rh_agreement_takeovers.proofs.Following.{Giver, Shown, told_at, learnt_at}
use Rattle.rh_agreement_takeovers.proofs.Told.{moved_lines, happened_so, moved_text}
use Rattle.rh_agreement_grants.specs.CallBacks.{IsCalledBack, IsCalledBackLive, PermitsByWhichItIsCalledBackAreAnsweredAlike}
use Rattle.rh_agreement_grants.proofs.Alike.{keeps_freed}
use Rattle.rh_agreement_grants.proofs.CalledBack as manual
use Rattle.rh_agreement_grants.proofs.Choosing as choosing
use Rattle.rh_agreement_grants.proofs.Giving.{Follows, Stands, Stops}
use Rattle.rh_agreement_grants.proofs.Turns.{takes_over}
use Rattle.rh_agreement_grants.proofs.Words.{Link, begins, reports, runs, answers, Starts, IsSaid, follows, notes, owed, cost, start_it}
use Rattle.rh_agreement_grants.proofs.Yielding.{follow_on, quiet_soon}

module _ (sim : SimView) (l : LiveSimView) (n at : Node) (a : App) (together : GoTogether sim l) (room : HasRoom sim l)
    (at_rest : AreBothAtRest sim l) (can : IsCalledBack (state_of sim) n at a) (live_can : IsCalledBackLive l n at a) where
  abbrev s : StateView
  s = state_of sim

  started : is_started s n a ≡ true
  started = or_right (runs_at s n a) (waits_at s n a) can.waits

  up : is_up (mode_of s n) ≡ true
  up = up_where_started s n a at_rest.valid.sound.idle started

  abbrev its_call : Begins sim l n a
  its_call = record {
    together = together;
    room = room;
    at_rest = at_rest;
    app = started_within s n a at_rest.valid.sound.shaped started;
    up = up;
    own = live_can.own;
    stays = live_can.stays;
    synchronised = live_can.starts.sees_list.synchronised;
  }

  abbrev base : SystemView
  base = permitting.base true its_call

  abbrev told : Call
  told = permitting.told true its_call

  abbrev only : Bool
  only = permitting.only true its_call

  abbrev asked : SystemView
  asked = permitting.asked true its_call

  abbrev asked_node : LiveView
  asked_node = permitting.asked_node true its_call

  abbrev lives : Node → ℕ
  lives = permitting.lives true its_call

  alive : is_alive_at (held l) n ≡ true
  alive = permitting.alive true its_call

  -- ---- its dist_ac's turn

  abbrev d : DistView
  d = live_can.dist

  has : (node_at (held l) n).dist ≡ Some d
  unfolding forgotten
  has = live_can.has

  live_started : has_row a (node_at (held l) n).controller.started ≡ true
  unfolding forgotten
  live_started = live_can.started

  live_off : is_here (keyfind a (node_at (held l) n).controller.running) ≡ false
  unfolding forgotten
  live_off = live_can.off

  live_listed : has_row a (node_at (held l) n).controller.running ≡ true
  unfolding forgotten
  live_listed = live_can.listed

  live_unasked : has_row a (node_at (held l) n).controller.start_req ≡ false
  unfolding forgotten
  live_unasked = live_can.unasked

  live_needs : lacks_running (controller_turn l.cluster (own_at (held l) n) n (node_at (held l) n)) a ≡ None
  unfolding forgotten
  live_needs = live_can.runs

  asks : Asks lives told asked asked_node d
  asks = asked_so true its_call d live_can.has live_can.takes_all live_can.starts.sees_list.sees

  chosen : IsChosenThen (own_at (held l) n) n a d
  chosen = live_can.starts.chooses d has live_can.takes_all

  only_no : only ≡ false
  only_no = λ i. is_only_loaded (first_answer (live_started i || has_row a (node_at (held l) n).controller.starting))

  told_so : its_change a d ≡ change_of.Takeover at None
  told_so = ap (λ (st : Standing). verdict_change (verdict_here st asked_by.Nobody (remote d a))) live_can.elsewhere

  abbrev new : LiveView
  new = choosing.new asks chosen (change_of.Takeover at None) told_so

  abbrev next : DistView
  next = (choosing.over asks chosen (change_of.Takeover at None) told_so).state

  abbrev listed : List Node
  listed = backwards (own_at (held l) n) a

  starts : Starts lives told base new next (change_of.Takeover at None) (Takeover at)
  unfolding forgotten
  starts = record {
    alive = alive;
    life = refl;
    same = refl;
    own = live_can.own;
    stays = permitting.stays true its_call;
    started = live_started;
    off = live_off;
    unasked = live_unasked;
    needs = live_needs;
    order = takes_over at live_listed;
    has = refl;
    takes_all = refl;
    free = choosing.over_free asks chosen (change_of.Takeover at None) told_so;
    waits = ap (λ rows. (a, process_of told) ∷ rows) (live_can.starts.sees_all.takeovers d has);
    sees = live_can.starts.sees_all.sees d has;
  }

  -- ---- the node at which it runs

  other : at.0 ≢ n.0
  other = manual.apart s n at a at_rest.valid (permitting.within true its_call) can

  alive_at : is_alive_at base at ≡ true
  unfolding forgotten
  alive_at = live_can.gives_up.alive

  giver : Giver base told at
  unfolding forgotten
  giver = record {
    other = other;
    alive = alive_at;
    runs = place_here _ live_can.gives_up.runs;
    started = live_can.gives_up.started;
    stays = live_can.gives_up.stays;
    dist = live_can.gives_up.dist;
    has = live_can.gives_up.has;
    free = (permitting.idle true its_call).dists at live_can.gives_up.dist alive_at live_can.gives_up.has;
    takes_all = live_can.gives_up.takes_all;
    controlled = live_can.gives_up.controlled;
    started_too = live_can.gives_up.started_too;
  }

  knows : is_among at next.known ≡ true
  knows = live_can.knows

  -- ---- behind its turn

  abbrev noting : SystemView
  noting = choosing.noting asks chosen (change_of.Takeover at None) told_so

  turned : taken (permitting.permit_message true its_call) asked ≡ noting
  turned = choosing.sets_so asks chosen (change_of.Takeover at None) told_so only only_no

  abbrev sent : List Envelope
  sent = choosing.sent asks chosen (change_of.Takeover at None) told_so

  abbrev last : List Envelope
  last = start_it starts ∷ []

  all_sent : (P : Envelope → Type 0) → ((m : Node) → m.0 ≢ n.0 → P (note lives told true false m)) → All P sent
  all_sent P so = choosing.all_sent asks chosen (change_of.Takeover at None) told_so P so

  kinds : All (IsSaid starts begins) noting.messages
  kinds = All-append (IsSaid starts begins) sent last (all_sent (IsSaid starts begins) notes)
      (All-cons (IsSaid starts begins) (start_it starts) [] follows (All-nil (IsSaid starts begins)))

  one_owed : sum_of owed noting.messages ≡ 1
  one_owed =
      let none : sum_of owed sent ≡ 0 = sum_of_none owed sent
      (all_sent (λ (e : Envelope). owed e ≡ 0) (λ m other. refl)) in
      let sum : sum_of owed noting.messages ≡ sum_of owed sent + sum_of owed last =
      sum_behind owed sent last in
      omega (arith, none, sum)

  few : sum_of (cost (length d.known)) noting.messages ≤ length listed + 2 * length d.known + 4
  few =
      let ones : sum_of (cost (length d.known)) sent ≡ length sent = sum_of_ones (cost (length d.known)) sent
      (all_sent (λ (e : Envelope). cost (length d.known) e ≡ 1) (λ m other. refl)) in
      let told_few : length sent ≤ length listed = choosing.few_sent asks chosen (change_of.Takeover at None) told_so in
      let sum : sum_of (cost (length d.known)) noting.messages ≡ sum_of (cost (length d.known)) sent + sum_of (cost (length d.known)) last =
      sum_behind (cost (length d.known)) sent last in
      omega (arith, ones, told_few, sum)

  same_first : (m : Node) → m.0 ≢ n.0 → node_at noting m ≡ node_at base m
  same_first m apart = others_same asked n m new apart ∙ others_same (permitting.first true its_call) n m asked_node apart

  nowhere_first : (m : Node) → m.0 ≢ n.0 → m.0 ≢ at.0 → is_alive_at noting m ≡ true
      → is_here (keyfind a (node_at noting m).controller.running) ≡ false
  unfolding forgotten
  nowhere_first m apart far awake =
      ap (λ (w : LiveView). is_here (keyfind a w.controller.running)) (same_first m apart)
      ∙ live_can.nowhere m apart far (sym (ap is_alive (same_first m apart)) ∙ awake)

  first_follows : Follows starts giver knows noting
  first_follows = record {
    keeps = keeps_freed lives told base _ (choosing.locks_left asks chosen (change_of.Takeover at None) told_so)
        (keeps_on lives told base (record asked { messages = [] }) n new noting.messages [] (permitting.keeps_asked true its_call) (record {
          phase = sym (ap (λ (w : LiveView). w.phase) (permitting.node_asked true its_call));
          life = sym (ap (λ (w : LiveView). w.life) (permitting.node_asked true its_call));
          ending = sym (ap is_ending (permitting.node_asked true its_call));
          stopped = sym (ap (λ (w : LiveView). w.is_stopped) (permitting.node_asked true its_call));
          rest = λ e is. subst IsUnoccupied (same_Some next e is) starts.free;
        }));
    nowhere = nowhere_first;
    link = begins;
    said = kinds;
    stopped = false;
    stands = (refl, refl, refl, one_owed, node_written asked n asked_node new (permitting.there true its_call));
    stops = (
      record {
        there = ap (λ (w : LiveView). w.controller) (same_first at other);
        dist = giver.dist;
        has = ap (λ (w : LiveView). w.dist) (same_first at other) ∙ giver.has;
        takes_all = giver.takes_all;
        started = giver.started_too;
      },
      tt,
    );
  }

  -- ---- what comes of it

  short : length listed + 2 * length d.known + 7 < most_moves
  short = live_can.few

  quiet_so : is_settled_by 999997 (permitting.o3 true its_call) noting ≡ true
  quiet_so = quiet_soon starts giver knows 999997 (permitting.o3 true its_call) noting first_follows (omega (arith, few, short))

  abbrev over : SystemView
  over = permitting.over true its_call noting turned quiet_so

  followed : Follows starts giver knows over
  followed = follow_on starts giver knows noting over (settles 999997 (permitting.o3 true its_call) noting).0 first_follows

  none_left : (f : Envelope → ℕ) → sum_of f over.messages ≡ 0
  none_left f = ap (sum_of f) (permitting.is_quiet true its_call noting turned quiet_so).0

  none_some : (k : ℕ) → k ≡ 0 → 0 < k → ⊥
  none_some k none some = omega (arith, none, some)

  over_so : (over.calls ≡ done told ∷ []) × Shown told at true true over.events
  over_so = by followed.link followed.stopped followed.stands followed.stops
    where
      by : (k : Link) (b : Bool) → Stands starts giver knows k b over → Stops starts giver knows b k over
          → (over.calls ≡ done told ∷ []) × Shown told at true true over.events
      by begins b on stops = absurd (none_owed (sum_of owed over.messages) (none_left owed) on.3)
      by reports b on stops = absurd (none_owed (sum_of owed over.messages) (none_left owed) on.3)
      by runs b on stops = absurd (none_owed (sum_of owed over.messages) (none_left owed) on.3)
      by answers b (inl on) stops = absurd (none_owed (sum_of owed over.messages) (none_left owed) on.2)
      by answers true (inr is) stops = (is.0, is.1)
      by answers false (inr is) stops = elim stops.1 [
        | inl learnt ↦ absurd (none_some (sum_of (learnt_at at) over.messages) (none_left (learnt_at at)) learnt)
        | inr told_it ↦ absurd (none_some (sum_of (told_at at) over.messages) (none_left (told_at at)) told_it)
      ]

  -- ---- so both answer alike

  calls_so : (rested over).calls ≡ done told ∷ []
  unfolding rested
  calls_so = over_so.0

  events_so : Shown told at true true (rested over).events
  unfolding rested
  events_so = over_so.1

  abbrev notes_told : List Notice
  notes_told = manual.notes s n at a at_rest.valid (permitting.within true its_call) can

  happens : happened (net_in l) (rested over) ≡ well (moved_lines a n at)
  happens =
      happened_so (net_in l) (rested over) n at a told
      (permitting.number_so true its_call noting turned quiet_so followed.keeps over_so.0)
      refl calls_so events_so

  it_comes : Comes sim l (event.Permit n a true) notes_told (moved_lines a n at)
  it_comes =
      permitting.it_comes true its_call noting turned quiet_so followed.keeps over_so.0
      (manual.then s n at a at_rest.valid (permitting.within true its_call) can) notes_told (moved_lines a n at)
      (manual.only_moves s n at a at_rest.valid (permitting.within true its_call) can sim.pick) refl refl refl refl
      happens (moved_text l.cluster l n at a refl)

  abbrev Alike : Type 0
  Alike = IsAnsweredAlike (call.Step (event.Permit n a true)) sim l
      × GoTogether (served sim (call.Step (event.Permit n a true))).sim (made_by (call.Step (event.Permit n a true)) l)
      × AreBothAtRest (served sim (call.Step (event.Permit n a true))).sim (made_by (call.Step (event.Permit n a true)) l)
      × ((served sim (call.Step (event.Permit n a true))).reply ≡ reply.Done notes_told)

  call_back_alike : Alike
  call_back_alike = comes_alike sim l (event.Permit n a true) notes_told (moved_lines a n at) together room at_rest it_comes

  pub call_back_on : AreAlwaysAtRest sim l → GoesOn (call.Step (event.Permit n a true)) sim l
  call_back_on = goes_on sim l (event.Permit n a true) notes_told (moved_lines a n at) together room at_rest it_comes

pub call_backs_alike : PermitsByWhichItIsCalledBackAreAnsweredAlike
call_backs_alike sim l n at a together room at_rest can live_can = call_back_alike sim l n at a together room at_rest can live_can
