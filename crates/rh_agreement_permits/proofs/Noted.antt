-- Where a dist_ac sets a permission, tells the others, and then answers, and perhaps tells its controller where the application runs: the
-- call is over then, and both have answered alike, where by the manual's rules nothing else changes.
use Rattle.std.proofs.Common.{◌≡◌, ◌≢◌, ◌<◌, ◌≤◌, ◌+◌, ◌++◌, ℕ, Bool, true, false, List, [], ◌∷◌, length, Some, refl, sym, ap, subst, ◌∙◌, inl, inr, arith, not, ◌||◌, ◌&&◌, ◌==◌}
use Rattle.std.specs.Prelude.{All}
use Rattle.std.proofs.lemmas.List.Elements.{All-nil, All-cons, All-append}
use Rattle.std.proofs.lemmas.Option.{same_Some}
use Rattle.rh_model.specs.declared.node.App.{App}
use Rattle.rh_model.specs.declared.node.Node.{Node}
use Rattle.rh_rules.specs.declared.event.Event.TheVariants as event
use Rattle.rh_trail.specs.SimView.{SimView, state_of}
use Rattle.rh_otp_model.specs.declared.message.Message.{Message}
use Rattle.rh_otp_model.specs.declared.message.Message.TheVariants as message
use Rattle.rh_otp_model.specs.declared.output.Envelope.{Envelope}
use Rattle.rh_otp_model.specs.declared.output.Event.TheVariants as seen
use Rattle.rh_otp_dist.specs.declared.state.Stand.TheVariants as stand
use Rattle.rh_otp_dist.specs.Choosing.{backwards}
use Rattle.rh_otp_dist.specs.State.{DistView, TurnView, is_among}
use Rattle.rh_otp_dist.specs.Calls.{permit}
use Rattle.rh_otp_node.specs.Live.{LiveView, is_ending}
use Rattle.rh_otp_sim.specs.Acting.{most_moves}
use Rattle.rh_otp_sim.specs.Sim.{LiveSimView, net_in}
use Rattle.rh_otp_sim.specs.Stepping.{happened}
use Rattle.rh_otp_system.specs.declared.calls.Call.{Call}
use Rattle.rh_otp_system.specs.Moves.{is_settled_by}
use Rattle.rh_otp_system.specs.Resting.{forgotten, rested}
use Rattle.rh_otp_system.specs.State.{SystemView, node_at, own_at, is_alive_at}
use Rattle.rh_otp_system.proofs.Moving.{settles}
use Rattle.rh_otp_crashes.specs.Crashes.{IsUnoccupied}
use Rattle.rh_otp_crashes.proofs.Turning.{weighing}
use Rattle.rh_otp_system.specs.Calls.{process_of}
use Rattle.rh_otp_permits.proofs.Noting.{note}
use Rattle.rh_agreement.specs.Resting.{held}
use Rattle.rh_agreement_calls.proofs.Moving.{done, taken}
use Rattle.rh_agreement_spread.proofs.Alike.{Comes, well}
use Rattle.rh_agreement_spread.proofs.Following.{owed}
use Rattle.rh_agreement_spread.proofs.Summing.{sum_of, sum_behind, sum_of_none, sum_of_ones}
use Rattle.rh_agreement_spread.proofs.Told.{happened_alone, ok_text}
use Rattle.rh_agreement_permits.specs.Permits.{ChangesNoMore}
use Rattle.rh_agreement_permits.proofs.Coming.{keeps_on}
use Rattle.rh_agreement_permits.proofs.Notes.{Follows, IsSaid, tells, follow_on, quiet_soon, one}
use Rattle.rh_agreement_permits.proofs.Permitting.{Begins}
use Rattle.rh_agreement_permits.proofs.Permitting as permitting
use Rattle.rh_agreement_permits.proofs.Setting.{Asks, turn_of, all_sends}
use Rattle.rh_agreement_permits.proofs.Setting as setting
use Rattle.rh_agreement_permits.proofs.Unmoved as manual
use Rattle.rh_otp_controller.specs.Calls.{is_here}
use Rattle.rh_otp_crashes.proofs.Posting.{posts}
use Rattle.rh_otp_laws.proofs.Nodes.{node_written}
use Rattle.rh_otp_model.specs.Rows.{keyfind}
use Rattle.rh_otp_net.specs.Links.{are_linked}
use Rattle.rh_otp_sim.specs.Refusing.{node_in}

-- what its dist_ac is asked, which takes whatever comes, where the node sees those of the list that are alive
pub asked_so : {sim : SimView} {l : LiveSimView} {n : Node} {a : App} (allow : Bool) (begins : Begins sim l n a) (d : DistView)
    → (node_in l n).dist ≡ Some d → d.stand ≡ stand.Idle
    → ((m : Node) → is_among m (backwards (own_at (held l) n) a) ≡ true → is_alive_at (held l) m ≡ true
    → (n.0 == m.0 || are_linked n m (held l).links) ≡ true)
    → Asks (permitting.lives allow begins) (permitting.told allow begins) (permitting.asked allow begins)
    (permitting.asked_node allow begins) d
unfolding forgotten
asked_so {n = n} allow begins d has takes_all sees = record {
  there = permitting.there allow begins;
  has = has;
  free = (permitting.idle allow begins).dists n d (permitting.alive allow begins) has;
  takes_all = takes_all;
  same_lives = permitting.same_then allow begins (λ (w : LiveView). w.life) refl;
  life = refl;
  alive = permitting.alive_then allow begins n ∙ permitting.alive allow begins;
  sees = λ m among up. sees m among (sym (permitting.alive_then allow begins m) ∙ up);
}

pub none_owed : (k : ℕ) → k ≡ 0 → k ≡ 1 → ⊥
none_owed k none one = omega (arith, none, one)

all_ones : (l : List Envelope) → All (λ (e : Envelope). one e ≡ 1) l
all_ones [] = All-nil (λ (e : Envelope). one e ≡ 1)
all_ones (e ∷ l) = All-cons (λ (x : Envelope). one x ≡ 1) e l refl (all_ones l)

module _ {sim : SimView} {l : LiveSimView} {n : Node} {a : App} (allow his may : Bool) (begins : Begins sim l n a)
    (can : ChangesNoMore (state_of sim) n a allow) {d : DistView}
    (asks : Asks (permitting.lives allow begins) (permitting.told allow begins) (permitting.asked allow begins)
    (permitting.asked_node allow begins) d)
    (over_turn : TurnView) (lasts : List Envelope)
    (sets : (w : ℕ) → permit a allow (permitting.only allow begins) (process_of (permitting.told allow begins))
    (weighing w (turn_of (permitting.lives allow begins) (permitting.told allow begins) (permitting.asked allow begins) d))
    ≡ weighing w over_turn)
    (says : over_turn.out ≡ posts n (message.NewPermission n a allow his) (backwards (own_at (held l) n) a) ++ all_sends lasts)
    (over_free : IsUnoccupied over_turn.state) (quiet : (not allow && his) ≡ false)
    (last_kinds : All (IsSaid (permitting.lives allow begins) (permitting.told allow begins) allow his may) lasts)
    (last_owed : sum_of owed lasts ≡ 1) (short : length (backwards (own_at (held l) n) a) + length lasts + 3 < most_moves)
    (runs_not : may ≡ true → is_here (keyfind a (node_at (held l) n).controller.running) ≡ false) where
  abbrev base : SystemView
  base = permitting.base allow begins

  abbrev told : Call
  told = permitting.told allow begins

  abbrev asked : SystemView
  asked = permitting.asked allow begins

  abbrev asked_node : LiveView
  asked_node = permitting.asked_node allow begins

  abbrev lives : Node → ℕ
  lives = permitting.lives allow begins

  alive : is_alive_at (held l) n ≡ true
  alive = permitting.alive allow begins

  abbrev news : Message
  news = message.NewPermission n a allow his

  abbrev noting : SystemView
  noting = setting.noting asks allow (permitting.only allow begins) news over_turn lasts sets says

  turned : taken (permitting.permit_message allow begins) asked ≡ noting
  turned = setting.sets_so asks allow (permitting.only allow begins) news over_turn lasts sets says

  abbrev new : LiveView
  new = setting.new asks allow (permitting.only allow begins) news over_turn lasts sets says

  abbrev sent : List Envelope
  sent = setting.sent asks allow (permitting.only allow begins) news over_turn lasts sets says

  -- what is so of what the others are told is so of all that is sent
  all_sent : (P : Envelope → Type 0) → ((m : Node) → m.0 ≢ n.0 → P (note lives told allow his m)) → All P sent
  all_sent P so = setting.all_sent asks allow (permitting.only allow begins) news over_turn lasts sets says P (λ m other among. so m other)

  kinds : All (IsSaid lives told allow his may) noting.messages
  kinds = All-append (IsSaid lives told allow his may) sent lasts (all_sent (IsSaid lives told allow his may) tells) last_kinds

  one_owed : sum_of owed noting.messages ≡ 1
  one_owed =
      let none : sum_of owed sent ≡ 0 = sum_of_none owed sent (all_sent (λ (e : Envelope). owed e ≡ 0) (λ m other. refl)) in
      let sum : sum_of owed noting.messages ≡ sum_of owed sent + sum_of owed lasts = sum_behind owed sent lasts in
      omega (arith, none, sum, last_owed)

  few : sum_of one noting.messages ≤ length (backwards (own_at (held l) n) a) + length lasts
  few =
      let ones : sum_of one sent ≡ length sent = sum_of_ones one sent (all_sent (λ (e : Envelope). one e ≡ 1) (λ m other. refl)) in
      let told_few : length sent ≤ length (backwards (own_at (held l) n) a) =
      setting.few_sent asks allow (permitting.only allow begins) news over_turn lasts sets says in
      let sum : sum_of one noting.messages ≡ sum_of one sent + sum_of one lasts = sum_behind one sent lasts in
      let more : sum_of one lasts ≡ length lasts = sum_of_ones one lasts (all_ones lasts) in
      omega (arith, ones, told_few, sum, more)

  abbrev FollowsHere : SystemView → Type 0
  FollowsHere = Follows lives told allow his may base alive refl quiet

  first_follows : FollowsHere noting
  first_follows = record {
    keeps = keeps_on lives told base (record asked { messages = [] }) n new noting.messages []
        (permitting.keeps_asked allow begins)
        (record {
          phase = sym (ap (λ (w : LiveView). w.phase) (permitting.node_asked allow begins));
          life = sym (ap (λ (w : LiveView). w.life) (permitting.node_asked allow begins));
          ending = sym (ap is_ending (permitting.node_asked allow begins));
          stopped = sym (ap (λ (w : LiveView). w.is_stopped) (permitting.node_asked allow begins));
          rest = λ e is. subst IsUnoccupied (same_Some over_turn.state e is) over_free;
        });
    said = kinds;
    awaits = inl (refl, refl, one_owed);
    runs_not = λ is.
        ap (λ (w : LiveView). is_here (keyfind a w.controller.running))
        (node_written asked n asked_node new (permitting.there allow begins))
        ∙ runs_not is;
  }

  -- ---- what comes of it

  quiet_so : is_settled_by 999997 (permitting.o3 allow begins) noting ≡ true
  quiet_so =
      quiet_soon lives told allow his may base alive refl quiet 999997 (permitting.o3 allow begins) noting first_follows
      (omega (arith, few, short))

  abbrev over : SystemView
  over = permitting.over allow begins noting turned quiet_so

  follows : FollowsHere over
  follows =
      follow_on lives told allow his may base alive refl quiet noting over
      (settles 999997 (permitting.o3 allow begins) noting).0 first_follows

  over_so : (over.calls ≡ done told ∷ []) × (over.events ≡ seen.Answered told.number ∷ [])
  over_so = elim follows.awaits [
    | inl on ↦ absurd (none_owed (sum_of owed over.messages)
        (ap (sum_of owed) (permitting.is_quiet allow begins noting turned quiet_so).0) on.2)
    | inr is ↦ (is.0, is.1)
  ]

  -- ---- so both answer alike

  calls_so : (rested over).calls ≡ done told ∷ []
  unfolding rested
  calls_so = over_so.0

  events_so : (rested over).events ≡ seen.Answered told.number ∷ []
  unfolding rested
  events_so = over_so.1

  pub it_comes : Comes sim l (event.Permit n a allow) [] []
  it_comes =
      permitting.it_comes allow begins noting turned quiet_so follows.keeps over_so.0
      (manual.then (state_of sim) n a allow begins.at_rest.valid can) [] []
      (manual.only_permits (state_of sim) n a allow begins.at_rest.valid can sim.pick) refl refl refl refl
      happens (ok_text l.cluster l refl)
    where
      happens : happened (net_in l) (rested over) ≡ well []
      happens =
          happened_alone (net_in l) (rested over) told
          (permitting.number_so allow begins noting turned quiet_so follows.keeps over_so.0) refl calls_so
          events_so
