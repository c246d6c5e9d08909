-- Forbids of a distributed application where it runs, which can run nowhere else, are answered alike, and both are at rest again.
use Rattle.std.proofs.Common.{◌≡◌, ◌≢◌, ◌<◌, ◌≤◌, ◌+◌, ◌||◌, ℕ, Bool, true, false, List, [], ◌∷◌, length, Some, refl, sym, ap, subst, ◌∙◌, inl, inr, arith}
use Rattle.std.specs.Prelude.{All}
use Rattle.std.proofs.lemmas.List.Elements.{All-nil, All-cons, All-append}
use Rattle.std.proofs.lemmas.Option.{same_Some}
use Rattle.rh_base.proofs.Truths.{or_left}
use Rattle.rh_model.specs.ClusterView.{app_count}
use Rattle.rh_model.specs.declared.node.App.{App}
use Rattle.rh_model.specs.declared.node.Node.{Node}
use Rattle.rh_rules.specs.declared.event.Event.TheVariants as event
use Rattle.rh_rules.specs.declared.notice.Notice.TheVariants as notice
use Rattle.rh_state.specs.StateView.{StateView, mode_of, is_up, is_started, runs_at, waits_at}
use Rattle.rh_settle.proofs.Soundly.{up_where_started}
use Rattle.rh_trace.proofs.Shapes.{started_within}
use Rattle.rh_trail.specs.SimView.{SimView, state_of}
use Rattle.rh_calls.specs.declared.call.Call.TheVariants as call
use Rattle.rh_otp_controller.specs.Calls.{is_here}
use Rattle.rh_otp_model.specs.declared.message.Message.{Message}
use Rattle.rh_otp_model.specs.declared.message.Message.TheVariants as message
use Rattle.rh_otp_model.specs.declared.output.Envelope.{Envelope}
use Rattle.rh_otp_model.specs.declared.output.Event.TheVariants as seen
use Rattle.rh_otp_model.specs.Rows.{keyfind, has_row}
use Rattle.rh_otp_dist.specs.declared.state.Stand.TheVariants as stand
use Rattle.rh_otp_dist.specs.Calls.{permit}
use Rattle.rh_otp_dist.specs.Choosing.{backwards}
use Rattle.rh_otp_dist.specs.State.{DistView, TurnView, is_among}
use Rattle.rh_otp_dist.specs.Waiting.{takes}
use Rattle.rh_otp_node.specs.Live.{LiveView, is_alive, is_ending}
use Rattle.rh_otp_sim.specs.declared.lines.Line.TheVariants as line
use Rattle.rh_otp_sim.specs.Acting.{most_moves}
use Rattle.rh_otp_sim.specs.Sim.{LiveSimView, net_in}
use Rattle.rh_otp_sim.specs.Stepping.{happened}
use Rattle.rh_otp_system.specs.declared.calls.Call.{Call}
use Rattle.rh_otp_system.specs.Calling.{is_only_loaded}
use Rattle.rh_otp_system.specs.Calls.{process_of}
use Rattle.rh_otp_system.specs.Moves.{is_settled_by}
use Rattle.rh_otp_system.specs.Resting.{forgotten, rested}
use Rattle.rh_otp_system.specs.State.{SystemView, node_at, own_at, is_alive_at}
use Rattle.rh_otp_system.proofs.Moving.{settles}
use Rattle.rh_otp_laws.proofs.Nodes.{node_written, others_same}
use Rattle.rh_otp_crashes.specs.Crashes.{IsUnoccupied}
use Rattle.rh_otp_crashes.proofs.Turning.{own_in, weighing}
use Rattle.rh_otp_moves.specs.Stopping.{RunsThereAlone as RunsAloneLive}
use Rattle.rh_otp_moves.proofs.Forbid.{stops_over, stops_so}
use Rattle.rh_otp_permits.proofs.Asking.{first_answer}
use Rattle.rh_otp_permits.proofs.Noting.{note}
use Rattle.rh_agreement.specs.Telling.{GoTogether}
use Rattle.rh_agreement.specs.Laws.{HasRoom}
use Rattle.rh_agreement.specs.Resting.{AreBothAtRest, AreAlwaysAtRest, held}
use Rattle.rh_agreement.proofs.Always.{GoesOn}
use Rattle.rh_agreement_calls.specs.Stops.{IsStoppedAlike}
use Rattle.rh_agreement_calls.proofs.Controlling.{place_here}
use Rattle.rh_agreement_calls.proofs.Moving.{done, taken}
use Rattle.rh_agreement_calls.proofs.Told.{happened_so, stop_text}
use Rattle.rh_agreement_spread.proofs.Alike.{Comes, well, comes_alike, goes_on}
use Rattle.rh_agreement_spread.proofs.Summing.{sum_of, sum_behind, sum_of_none, sum_of_ones}
use Rattle.rh_agreement_permits.specs.Stops.{CanRunThereAlone, StopsThereLive, ForbidsWhereItRunsAreAnsweredAlike}
use Rattle.rh_agreement_permits.proofs.Coming.{keeps_on}
use Rattle.rh_agreement_permits.proofs.Forbidden as manual
use Rattle.rh_agreement_permits.proofs.Hearing.{IsTame}
use Rattle.rh_agreement_permits.proofs.Noted.{asked_so, none_owed}
use Rattle.rh_agreement_permits.proofs.Permitting.{Begins}
use Rattle.rh_agreement_permits.proofs.Permitting as permitting
use Rattle.rh_agreement_permits.proofs.Setting.{Asks, turn_of}
use Rattle.rh_agreement_permits.proofs.Setting as setting
use Rattle.rh_agreement_permits.proofs.Stopping.{Halts, Link, Stands, IsSaid, Follows, stops, reports, answers, follows, notes, stop_it, owed, cost, follow_on, quiet_soon}

module _ (sim : SimView) (l : LiveSimView) (n : Node) (a : App) (together : GoTogether sim l) (room : HasRoom sim l)
    (at_rest : AreBothAtRest sim l) (can : CanRunThereAlone (state_of sim) n a) (live_can : StopsThereLive l n a) where
  abbrev s : StateView
  s = state_of sim

  started : is_started s n a ≡ true
  started = or_left (runs_at s n a) (waits_at s n a) can.runs

  up : is_up (mode_of s n) ≡ true
  up = up_where_started s n a at_rest.valid.sound.idle started

  known : a.0 < app_count s.cluster
  known = started_within s n a at_rest.valid.sound.shaped started

  abbrev begins : Begins sim l n a
  begins = record {
    together = together;
    room = room;
    at_rest = at_rest;
    app = known;
    up = up;
    own = live_can.own;
    stays = live_can.stays;
    synchronised = live_can.stops.sees_list.synchronised;
  }

  abbrev base : SystemView
  base = permitting.base false begins

  abbrev told : Call
  told = permitting.told false begins

  abbrev only : Bool
  only = permitting.only false begins

  abbrev asked : SystemView
  asked = permitting.asked false begins

  abbrev asked_node : LiveView
  asked_node = permitting.asked_node false begins

  abbrev lives : Node → ℕ
  lives = permitting.lives false begins

  alive : is_alive_at (held l) n ≡ true
  alive = permitting.alive false begins

  -- ---- its dist_ac's turn

  abbrev d : DistView
  d = live_can.dist

  has : (node_at (held l) n).dist ≡ Some d
  unfolding forgotten
  has = live_can.has

  live_started : has_row a (node_at (held l) n).controller.started ≡ true
  unfolding forgotten
  live_started = live_can.started

  live_runs : is_here (keyfind a (node_at (held l) n).controller.running) ≡ true
  unfolding forgotten
  live_runs = live_can.runs

  alone : RunsAloneLive n a d
  alone = live_can.stops.alone d has live_can.takes_all

  asks : Asks lives told asked asked_node d
  asks = asked_so false begins d live_can.has live_can.takes_all live_can.stops.sees_list.sees

  abbrev over_turn : TurnView
  over_turn = stops_over a (process_of told) (turn_of lives told asked d)

  only_no : only ≡ false
  only_no = λ i. is_only_loaded (first_answer (live_started i || has_row a (node_at (held l) n).controller.starting))

  sets : (w : ℕ) → permit a false only (process_of told) (weighing w (turn_of lives told asked d)) ≡ weighing w over_turn
  sets w =
      ap (λ (b : Bool). permit a false b (process_of told) (weighing w (turn_of lives told asked d))) only_no
      ∙ stops_so a (process_of told) (weighing w (turn_of lives told asked d)) alone.local alone.nobody

  abbrev new : LiveView
  new = record asked_node { dist = Some over_turn.state }

  abbrev listed : List Node
  listed = backwards (own_at (held l) n) a

  halts : Halts lives told base new over_turn.state
  halts = record {
    alive = alive;
    life = refl;
    same = refl;
    own = live_can.own;
    stays = permitting.stays false begins;
    runs = place_here (keyfind a (node_at (held l) n).controller.running) live_runs;
    started = live_started;
    has = refl;
    takes_all = refl;
    free = record {
      stand = inl refl;
      mail = All-nil (λ (m : Message). takes stand.Idle m ≡ false);
      permits = asks.free.permits;
      parked = asks.free.parked;
    };
    no_takeovers = live_can.stops.tells.sees_all.takeovers d has;
    waits = ap (λ rows. (a, process_of told) ∷ rows) (live_can.stops.tells.ends d has);
    local = alone.local;
    sees = live_can.stops.tells.sees_all.sees d has;
  }

  abbrev news : Message
  news = message.NewPermission n a false true

  abbrev last : Envelope
  last = stop_it listed halts

  abbrev noting : SystemView
  noting = setting.noting asks false only news over_turn (last ∷ []) sets refl

  turned : taken (permitting.permit_message false begins) asked ≡ noting
  turned = setting.sets_so asks false only news over_turn (last ∷ []) sets refl

  abbrev sent : List Envelope
  sent = setting.sent asks false only news over_turn (last ∷ []) sets refl

  all_sent : (P : Envelope → Type 0) → ((m : Node) → m.0 ≢ n.0 → is_among m listed ≡ true → P (note lives told false true m)) → All P sent
  all_sent P so = setting.all_sent asks false only news over_turn (last ∷ []) sets refl P so

  kinds : All (IsSaid listed halts stops) noting.messages
  kinds = All-append (IsSaid listed halts stops) sent (last ∷ []) (all_sent (IsSaid listed halts stops) notes)
      (All-cons (IsSaid listed halts stops) last [] follows (All-nil (IsSaid listed halts stops)))

  one_owed : sum_of (owed listed halts) noting.messages ≡ 1
  one_owed =
      let none : sum_of (owed listed halts) sent ≡ 0 = sum_of_none (owed listed halts) sent
      (all_sent (λ (e : Envelope). owed listed halts e ≡ 0) (λ m other among. refl)) in
      let sum : sum_of (owed listed halts) noting.messages ≡ sum_of (owed listed halts) sent + sum_of (owed listed halts) (last ∷ []) =
      sum_behind (owed listed halts) sent (last ∷ []) in
      omega (arith, none, sum)

  few : sum_of (cost listed halts) noting.messages ≤ length listed + length d.known + 3
  few =
      let ones : sum_of (cost listed halts) sent ≡ length sent = sum_of_ones (cost listed halts) sent
      (all_sent (λ (e : Envelope). cost listed halts e ≡ 1) (λ m other among. refl)) in
      let told_few : length sent ≤ length listed = setting.few_sent asks false only news over_turn (last ∷ []) sets refl in
      let sum : sum_of (cost listed halts) noting.messages ≡ sum_of (cost listed halts) sent + sum_of (cost listed halts) (last ∷ []) =
      sum_behind (cost listed halts) sent (last ∷ []) in
      omega (arith, ones, told_few, sum)

  tame_first : (m : Node) (x : DistView) → m.0 ≢ n.0 → is_among m listed ≡ true → is_alive_at noting m ≡ true
      → (node_at noting m).dist ≡ Some x → IsTame a (own_in base.files m) m x
  tame_first m x other among awake has_it is controlled =
      let same : node_at noting m ≡ node_at base m =
      others_same asked n m new other ∙ others_same (permitting.first false begins) n m asked_node other in
      live_can.stops.others m x other among (sym (ap is_alive same) ∙ awake) (sym (ap (λ (w : LiveView). w.dist) same) ∙ has_it) is
      controlled

  first_follows : Follows listed halts noting
  first_follows = record {
    keeps = keeps_on lives told base (record asked { messages = [] }) n new noting.messages [] (permitting.keeps_asked false begins)
        (record {
          phase = sym (ap (λ (w : LiveView). w.phase) (permitting.node_asked false begins));
          life = sym (ap (λ (w : LiveView). w.life) (permitting.node_asked false begins));
          ending = sym (ap is_ending (permitting.node_asked false begins));
          stopped = sym (ap (λ (w : LiveView). w.is_stopped) (permitting.node_asked false begins));
          rest = λ e is. subst IsUnoccupied (same_Some over_turn.state e is) halts.free;
        });
    tame = tame_first;
    link = stops;
    said = kinds;
    stands = (refl, refl, one_owed, node_written asked n asked_node new (permitting.there false begins));
  }

  -- ---- what comes of it

  short : length listed + length d.known + 6 < most_moves
  short = live_can.few

  quiet_so : is_settled_by 999997 (permitting.o3 false begins) noting ≡ true
  quiet_so = quiet_soon listed halts 999997 (permitting.o3 false begins) noting first_follows (omega (arith, few, short))

  abbrev over : SystemView
  over = permitting.over false begins noting turned quiet_so

  followed : Follows listed halts over
  followed = follow_on listed halts noting over (settles 999997 (permitting.o3 false begins) noting).0 first_follows

  none_left : sum_of (owed listed halts) over.messages ≡ 0
  none_left =
      ap (sum_of (owed listed halts))
      (permitting.is_quiet false begins noting turned quiet_so).0

  over_so : (over.calls ≡ done told ∷ []) × (over.events ≡ seen.Stopped a n ∷ seen.Answered told.number ∷ [])
  over_so = by followed.link followed.stands
    where
      by : (k : Link) → Stands listed halts k over
          → (over.calls ≡ done told ∷ []) × (over.events ≡ seen.Stopped a n ∷ seen.Answered told.number ∷ [])
      by stops on = absurd (none_owed (sum_of (owed listed halts) over.messages) none_left on.2)
      by reports on = absurd (none_owed (sum_of (owed listed halts) over.messages) none_left on.2)
      by answers (inl on) = absurd (none_owed (sum_of (owed listed halts) over.messages) none_left on.2)
      by answers (inr is) = (is.0, is.1)

  -- ---- so both answer alike

  calls_so : (rested over).calls ≡ done told ∷ []
  unfolding rested
  calls_so = over_so.0

  events_so : (rested over).events ≡ seen.Stopped a n ∷ seen.Answered told.number ∷ []
  unfolding rested
  events_so = over_so.1

  happens : happened (net_in l) (rested over) ≡ well (line.Stopped a n ∷ [])
  happens =
      happened_so (net_in l) (rested over) n a told
      (permitting.number_so false begins noting turned quiet_so followed.keeps over_so.0)
      refl calls_so events_so

  it_comes : Comes sim l (event.Permit n a false) (notice.Stopped a n ∷ []) (line.Stopped a n ∷ [])
  it_comes =
      permitting.it_comes false begins noting turned quiet_so followed.keeps over_so.0
      (manual.then s n a at_rest.valid (permitting.within false begins) can) (notice.Stopped a n ∷ []) (line.Stopped a n ∷ [])
      (manual.only_forbids s n a at_rest.valid (permitting.within false begins) can sim.pick) refl refl refl refl
      happens (stop_text l.cluster l n a refl)

  forbid_alike : IsStoppedAlike (event.Permit n a false) n a sim l
  forbid_alike = comes_alike sim l (event.Permit n a false) (notice.Stopped a n ∷ []) (line.Stopped a n ∷ []) together room at_rest it_comes

  pub forbid_on : AreAlwaysAtRest sim l → GoesOn (call.Step (event.Permit n a false)) sim l
  forbid_on = goes_on sim l (event.Permit n a false) (notice.Stopped a n ∷ []) (line.Stopped a n ∷ []) together room at_rest it_comes

pub forbids_alike : ForbidsWhereItRunsAreAnsweredAlike
forbids_alike sim l n a together room at_rest can live_can = forbid_alike sim l n a together room at_rest can live_can
