-- Permits of a distributed application by which it starts at the node are answered alike, and both are at rest again.
use Rattle.std.proofs.Common.{◌≡◌, ◌≢◌, ◌<◌, ◌≤◌, ◌+◌, ◌*◌, ◌||◌, ℕ, Bool, true, false, List, [], ◌∷◌, length, Option, Some, None, refl, sym, ap, subst, ◌∙◌, inl, inr, arith}
use Rattle.std.specs.Prelude.{All}
use Rattle.std.proofs.lemmas.List.Elements.{All-nil, All-cons, All-append}
use Rattle.std.proofs.lemmas.Option.{same_Some}
use Rattle.rh_base.proofs.Truths.{or_right}
use Rattle.rh_model.specs.declared.node.App.{App}
use Rattle.rh_model.specs.declared.node.Node.{Node}
use Rattle.rh_rules.specs.declared.event.Event.TheVariants as event
use Rattle.rh_rules.specs.declared.notice.Notice.{Notice}
use Rattle.rh_rules.specs.declared.notice.Notice.TheVariants as notice
use Rattle.rh_rules.specs.Moves.{lost_elsewhere}
use Rattle.rh_state.specs.declared.status.Kind.TheVariants as kind
use Rattle.rh_state.specs.StateView.{StateView, mode_of, is_up, is_started, runs_at, waits_at}
use Rattle.rh_settle.proofs.Soundly.{up_where_started}
use Rattle.rh_trace.proofs.Shapes.{started_within}
use Rattle.rh_calls.specs.declared.call.Call.TheVariants as call
use Rattle.rh_calls.specs.declared.call.Reply.TheVariants as reply
use Rattle.rh_trail.specs.Lone.{served}
use Rattle.rh_trail.specs.SimView.{SimView, state_of}
use Rattle.rh_otp_controller.specs.Calls.{is_here}
use Rattle.rh_otp_controller.specs.Starting.{lacks_running}
use Rattle.rh_otp_model.specs.declared.message.Change.TheVariants as change_of
use Rattle.rh_otp_model.specs.declared.output.Envelope.{Envelope}
use Rattle.rh_otp_model.specs.declared.output.Event.TheVariants as seen
use Rattle.rh_otp_model.specs.declared.process.StartType.TheVariants.{Normal}
use Rattle.rh_otp_model.specs.Rows.{keyfind, has_row}
use Rattle.rh_otp_dist.specs.declared.attempt.AskedBy.TheVariants as asked_by
use Rattle.rh_otp_dist.specs.declared.state.Standing.{Standing}
use Rattle.rh_otp_dist.specs.Attempts.{change_of as verdict_change}
use Rattle.rh_otp_dist.specs.Choosing.{backwards, remote, verdict_here}
use Rattle.rh_otp_dist.specs.State.{DistView}
use Rattle.rh_otp_net.specs.declared.locks.Held.{Held}
use Rattle.rh_otp_node.specs.Live.{LiveView, is_alive, is_ending}
use Rattle.rh_otp_node.specs.Turns.{controller_turn}
use Rattle.rh_otp_sim.specs.declared.lines.Line.{Line}
use Rattle.rh_otp_sim.specs.declared.lines.Line.TheVariants as line
use Rattle.rh_otp_sim.specs.Acting.{most_moves}
use Rattle.rh_otp_sim.specs.Calls.{made_by}
use Rattle.rh_otp_sim.specs.Sim.{LiveSimView, net_in}
use Rattle.rh_otp_sim.specs.Stepping.{happened}
use Rattle.rh_otp_system.specs.declared.calls.Call.{Call}
use Rattle.rh_otp_system.specs.Calling.{is_only_loaded}
use Rattle.rh_otp_system.specs.Calls.{process_of}
use Rattle.rh_otp_system.specs.Moves.{is_settled_by}
use Rattle.rh_otp_system.specs.Resting.{forgotten, rested}
use Rattle.rh_otp_system.specs.State.{SystemView, node_at, own_at, is_alive_at}
use Rattle.rh_otp_system.proofs.Moving.{settles}
use Rattle.rh_otp_laws.proofs.Nodes.{node_written, others_same}
use Rattle.rh_otp_crashes.specs.Crashes.{IsUnoccupied}
use Rattle.rh_otp_moves.specs.Starting.{IsChosenThen}
use Rattle.rh_otp_moves.proofs.Permit.{its_change}
use Rattle.rh_otp_permits.proofs.Asking.{first_answer}
use Rattle.rh_otp_permits.proofs.Noting.{note}
use Rattle.rh_agreement.specs.Telling.{GoTogether}
use Rattle.rh_agreement.specs.Laws.{IsAnsweredAlike, HasRoom}
use Rattle.rh_agreement.specs.Resting.{AreBothAtRest, AreAlwaysAtRest, held}
use Rattle.rh_agreement.proofs.Always.{GoesOn}
use Rattle.rh_agreement_calls.proofs.Moving.{done, taken}
use Rattle.rh_agreement_spread.proofs.Alike.{Comes, well, comes_alike, goes_on}
use Rattle.rh_agreement_spread.proofs.Summing.{sum_of, sum_behind, sum_of_none, sum_of_ones}
use Rattle.rh_agreement_permits.proofs.Coming.{Keeps, keeps_on}
use Rattle.rh_agreement_permits.proofs.Noted.{asked_so, none_owed}
use Rattle.rh_agreement_permits.proofs.Permitting.{Begins}
use Rattle.rh_agreement_permits.proofs.Permitting as permitting
use Rattle.rh_agreement_permits.proofs.Setting.{Asks}
use Rattle.rh_agreement_grants.specs.Grants.{StartsOncePermitted, StartsOncePermittedLive, PermitsByWhichItStartsAreAnsweredAlike}
use Rattle.rh_agreement_grants.proofs.Choosing as choosing
use Rattle.rh_agreement_grants.proofs.Coming.{follow_on, quiet_soon}
use Rattle.rh_agreement_grants.proofs.Following.{Follows, Stands}
use Rattle.rh_agreement_grants.proofs.Granted as manual
use Rattle.rh_agreement_grants.proofs.Told.{happened_so, start_text}
use Rattle.rh_agreement_grants.proofs.Turns.{starts_it}
use Rattle.rh_agreement_grants.proofs.Words.{Link, begins, reports, runs, answers, Starts, IsSaid, follows, notes, owed, cost, start_it}

-- what is so of nodes and calls is so whoever has locks
pub keeps_freed : (lives : Node → ℕ) (c : Call) (base s : SystemView) (locks : List Held) → Keeps lives c base s
    → Keeps lives c base (record s { locks = locks })
keeps_freed lives c base s locks f = record {
  slow = f.slow;
  dists = f.dists;
  ends = f.ends;
  listed = f.listed;
  same_lives = f.same_lives;
  stage = f.stage;
  calls = f.calls;
  waits = f.waits;
  cluster = f.cluster;
  files = f.files;
  links = f.links;
  soon = f.soon;
  clock = f.clock;
  count = f.count;
  phases = f.phases;
}

module _ (sim : SimView) (l : LiveSimView) (n : Node) (a : App) (from : Option Node) (together : GoTogether sim l) (room : HasRoom sim l)
    (at_rest : AreBothAtRest sim l) (can : StartsOncePermitted (state_of sim) n a from) (live_can : StartsOncePermittedLive l n a) where
  abbrev s : StateView
  s = state_of sim

  started : is_started s n a ≡ true
  started = or_right (runs_at s n a) (waits_at s n a) can.waits

  up : is_up (mode_of s n) ≡ true
  up = up_where_started s n a at_rest.valid.sound.idle started

  abbrev its_call : Begins sim l n a
  its_call = record {
    together = together;
    room = room;
    at_rest = at_rest;
    app = started_within s n a at_rest.valid.sound.shaped started;
    up = up;
    own = live_can.own;
    stays = live_can.stays;
    synchronised = live_can.starts.sees_list.synchronised;
  }

  abbrev base : SystemView
  base = permitting.base true its_call

  abbrev told : Call
  told = permitting.told true its_call

  abbrev only : Bool
  only = permitting.only true its_call

  abbrev asked : SystemView
  asked = permitting.asked true its_call

  abbrev asked_node : LiveView
  asked_node = permitting.asked_node true its_call

  abbrev lives : Node → ℕ
  lives = permitting.lives true its_call

  alive : is_alive_at (held l) n ≡ true
  alive = permitting.alive true its_call

  -- ---- its dist_ac's turn

  abbrev d : DistView
  d = live_can.dist

  has : (node_at (held l) n).dist ≡ Some d
  unfolding forgotten
  has = live_can.has

  live_started : has_row a (node_at (held l) n).controller.started ≡ true
  unfolding forgotten
  live_started = live_can.started

  live_off : is_here (keyfind a (node_at (held l) n).controller.running) ≡ false
  unfolding forgotten
  live_off = live_can.off

  live_unasked : has_row a (node_at (held l) n).controller.start_req ≡ false
  unfolding forgotten
  live_unasked = live_can.unasked

  live_needs : lacks_running (controller_turn l.cluster (own_at (held l) n) n (node_at (held l) n)) a ≡ None
  unfolding forgotten
  live_needs = live_can.runs

  asks : Asks lives told asked asked_node d
  asks = asked_so true its_call d live_can.has live_can.takes_all live_can.starts.sees_list.sees

  chosen : IsChosenThen (own_at (held l) n) n a d
  chosen = live_can.starts.chooses d has live_can.takes_all

  only_no : only ≡ false
  only_no = λ i. is_only_loaded (first_answer (live_started i || has_row a (node_at (held l) n).controller.starting))

  told_so : its_change a d ≡ change_of.StartIt
  told_so = ap (λ (st : Standing). verdict_change (verdict_here st asked_by.Nobody (remote d a))) live_can.unknown

  abbrev new : LiveView
  new = choosing.new asks chosen change_of.StartIt told_so

  abbrev next : DistView
  next = (choosing.over asks chosen change_of.StartIt told_so).state

  abbrev listed : List Node
  listed = backwards (own_at (held l) n) a

  starts : Starts lives told base new next change_of.StartIt Normal
  unfolding forgotten
  starts = record {
    alive = alive;
    life = refl;
    same = refl;
    own = live_can.own;
    stays = permitting.stays true its_call;
    started = live_started;
    off = live_off;
    unasked = live_unasked;
    needs = live_needs;
    order = starts_it;
    has = refl;
    takes_all = refl;
    free = choosing.over_free asks chosen change_of.StartIt told_so;
    waits = ap (λ rows. (a, process_of told) ∷ rows) (live_can.starts.sees_all.takeovers d has);
    sees = live_can.starts.sees_all.sees d has;
  }

  abbrev noting : SystemView
  noting = choosing.noting asks chosen change_of.StartIt told_so

  turned : taken (permitting.permit_message true its_call) asked ≡ noting
  turned = choosing.sets_so asks chosen change_of.StartIt told_so only only_no

  abbrev sent : List Envelope
  sent = choosing.sent asks chosen change_of.StartIt told_so

  abbrev last : List Envelope
  last = start_it starts ∷ []

  all_sent : (P : Envelope → Type 0) → ((m : Node) → m.0 ≢ n.0 → P (note lives told true false m)) → All P sent
  all_sent P so = choosing.all_sent asks chosen change_of.StartIt told_so P so

  kinds : All (IsSaid starts begins) noting.messages
  kinds = All-append (IsSaid starts begins) sent last (all_sent (IsSaid starts begins) notes)
      (All-cons (IsSaid starts begins) (start_it starts) [] follows (All-nil (IsSaid starts begins)))

  one_owed : sum_of owed noting.messages ≡ 1
  one_owed =
      let none : sum_of owed sent ≡ 0 = sum_of_none owed sent
      (all_sent (λ (e : Envelope). owed e ≡ 0) (λ m other. refl)) in
      let sum : sum_of owed noting.messages ≡ sum_of owed sent + sum_of owed last =
      sum_behind owed sent last in
      omega (arith, none, sum)

  few : sum_of (cost (length d.known)) noting.messages ≤ length listed + 2 * length d.known + 4
  few =
      let ones : sum_of (cost (length d.known)) sent ≡ length sent = sum_of_ones (cost (length d.known)) sent
      (all_sent (λ (e : Envelope). cost (length d.known) e ≡ 1) (λ m other. refl)) in
      let told_few : length sent ≤ length listed = choosing.few_sent asks chosen change_of.StartIt told_so in
      let sum : sum_of (cost (length d.known)) noting.messages ≡ sum_of (cost (length d.known)) sent + sum_of (cost (length d.known)) last =
      sum_behind (cost (length d.known)) sent last in
      omega (arith, ones, told_few, sum)

  nowhere_first : (m : Node) → m.0 ≢ n.0 → is_alive_at noting m ≡ true
      → is_here (keyfind a (node_at noting m).controller.running) ≡ false
  unfolding forgotten
  nowhere_first m other awake =
      let same : node_at noting m ≡ node_at base m =
      others_same asked n m new other ∙ others_same (permitting.first true its_call) n m asked_node other in
      ap (λ (w : LiveView). is_here (keyfind a w.controller.running)) same ∙ live_can.nowhere m other (sym (ap is_alive same) ∙ awake)

  first_follows : Follows starts noting
  first_follows = record {
    keeps = keeps_freed lives told base _ (choosing.locks_left asks chosen change_of.StartIt told_so)
        (keeps_on lives told base (record asked { messages = [] }) n new noting.messages [] (permitting.keeps_asked true its_call) (record {
          phase = sym (ap (λ (w : LiveView). w.phase) (permitting.node_asked true its_call));
          life = sym (ap (λ (w : LiveView). w.life) (permitting.node_asked true its_call));
          ending = sym (ap is_ending (permitting.node_asked true its_call));
          stopped = sym (ap (λ (w : LiveView). w.is_stopped) (permitting.node_asked true its_call));
          rest = λ e is. subst IsUnoccupied (same_Some next e is) starts.free;
        }));
    nowhere = nowhere_first;
    link = begins;
    said = kinds;
    stands = (refl, refl, one_owed, node_written asked n asked_node new (permitting.there true its_call));
  }

  -- ---- what comes of it

  short : length listed + 2 * length d.known + 7 < most_moves
  short = live_can.few

  quiet_so : is_settled_by 999997 (permitting.o3 true its_call) noting ≡ true
  quiet_so = quiet_soon starts 999997 (permitting.o3 true its_call) noting first_follows (omega (arith, few, short))

  abbrev over : SystemView
  over = permitting.over true its_call noting turned quiet_so

  followed : Follows starts over
  followed = follow_on starts noting over (settles 999997 (permitting.o3 true its_call) noting).0 first_follows

  none_left : sum_of owed over.messages ≡ 0
  none_left = ap (sum_of owed) (permitting.is_quiet true its_call noting turned quiet_so).0

  over_so : (over.calls ≡ done told ∷ []) × (over.events ≡ seen.Started a n Normal ∷ seen.Answered told.number ∷ [])
  over_so = by followed.link followed.stands
    where
      by : (k : Link) → Stands starts k over
          → (over.calls ≡ done told ∷ []) × (over.events ≡ seen.Started a n Normal ∷ seen.Answered told.number ∷ [])
      by begins on = absurd (none_owed (sum_of owed over.messages) none_left on.2)
      by reports on = absurd (none_owed (sum_of owed over.messages) none_left on.2)
      by runs on = absurd (none_owed (sum_of owed over.messages) none_left on.2)
      by answers (inl on) = absurd (none_owed (sum_of owed over.messages) none_left on.2)
      by answers (inr is) = (is.0, is.1)

  -- ---- so both answer alike

  calls_so : (rested over).calls ≡ done told ∷ []
  unfolding rested
  calls_so = over_so.0

  events_so : (rested over).events ≡ seen.Started a n Normal ∷ seen.Answered told.number ∷ []
  unfolding rested
  events_so = over_so.1

  abbrev start_lines : List Line
  start_lines = line.Started a n Normal ∷ []

  abbrev start_notes : List Notice
  start_notes = notice.Started a n kind.Normal (lost_elsewhere from n) ∷ []

  happens : happened (net_in l) (rested over) ≡ well start_lines
  happens =
      happened_so (net_in l) (rested over) n a told
      (permitting.number_so true its_call noting turned quiet_so followed.keeps over_so.0)
      refl calls_so events_so

  it_comes : Comes sim l (event.Permit n a true) start_notes start_lines
  it_comes =
      permitting.it_comes true its_call noting turned quiet_so followed.keeps over_so.0
      (manual.then s n a from at_rest.valid (permitting.within true its_call) can) start_notes start_lines
      (manual.only_starts s n a from at_rest.valid (permitting.within true its_call) can sim.pick) refl refl refl refl
      happens (start_text l.cluster l n a (lost_elsewhere from n) refl)

  abbrev Alike : Type 0
  Alike = IsAnsweredAlike (call.Step (event.Permit n a true)) sim l
      × GoTogether (served sim (call.Step (event.Permit n a true))).sim (made_by (call.Step (event.Permit n a true)) l)
      × AreBothAtRest (served sim (call.Step (event.Permit n a true))).sim (made_by (call.Step (event.Permit n a true)) l)
      × ((served sim (call.Step (event.Permit n a true))).reply ≡ reply.Done start_notes)

  grant_alike : Alike
  grant_alike = comes_alike sim l (event.Permit n a true) start_notes start_lines together room at_rest it_comes

  pub grant_on : AreAlwaysAtRest sim l → GoesOn (call.Step (event.Permit n a true)) sim l
  grant_on = goes_on sim l (event.Permit n a true) start_notes start_lines together room at_rest it_comes

pub grants_alike : PermitsByWhichItStartsAreAnsweredAlike
grants_alike sim l n a from together room at_rest can live_can = grant_alike sim l n a from together room at_rest can live_can
