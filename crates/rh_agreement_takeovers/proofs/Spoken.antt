-- Behind the start of an application that is taken over the answer is on its way, the node at which it ran is told, and all else is at
-- rest.
use Rattle.std.proofs.Common.{◌≡◌, ◌≢◌, ◌<◌, ◌≤◌, ◌+◌, ◌*◌, ◌==◌, ◌&&◌, ◌||◌, ℕ, Bool, true, false, not, cond, List, [], ◌∷◌, length, Some, None, refl, sym, ap, subst, ◌∙◌, inl, inr, arith}
use Rattle.std.specs.Prelude.{All}
use Rattle.std.proofs.lemmas.Bool.{and_left, and_parts, false≢true}
use Rattle.std.proofs.lemmas.List.{length-set}
use Rattle.std.proofs.lemmas.List.Elements.{All-nil, All-cons, All-append, All-weaker}
use Rattle.std.proofs.lemmas.Option.{same_Some}
use Rattle.rh_base.proofs.Truths.{same_number, same_refl}
use Rattle.rh_model.specs.ClusterView.{numbered}
use Rattle.rh_model.specs.declared.node.App.{App}
use Rattle.rh_model.specs.declared.node.Node.{Node}
use Rattle.rh_model.specs.declared.settings.Restart.{Restart}
use Rattle.rh_otp_controller.specs.Calls.{is_here}
use Rattle.rh_otp_model.specs.declared.message.Message.{Message}
use Rattle.rh_otp_model.specs.declared.message.Message.TheVariants as message
use Rattle.rh_otp_model.specs.declared.output.Envelope.{Envelope}
use Rattle.rh_otp_model.specs.Rows.{keyfind}
use Rattle.rh_otp_dist.specs.declared.state.Stand.TheVariants as stand
use Rattle.rh_otp_dist.specs.State.{DistView, is_among}
use Rattle.rh_otp_dist.specs.Waiting.{takes}
use Rattle.rh_otp_net.specs.declared.locks.Held.{Held}
use Rattle.rh_otp_node.specs.Live.{LiveView, is_alive, is_ending}
use Rattle.rh_otp_sim.specs.Acting.{most_moves}
use Rattle.rh_otp_sim.specs.Sim.{LiveSimView}
use Rattle.rh_otp_system.specs.declared.calls.Call.{Call}
use Rattle.rh_otp_system.specs.declared.calls.Stage.TheVariants as stage
use Rattle.rh_otp_system.specs.declared.cell.Cell.TheVariants as cell
use Rattle.rh_otp_system.specs.Moves.{is_to_end}
use Rattle.rh_otp_system.specs.Resting.{forgotten}
use Rattle.rh_otp_system.specs.State.{SystemView, node_at, own_at, has_dist_at, is_alive_at}
use Rattle.rh_otp_laws.proofs.Nodes.{as_it_was_or_written, node_written, others_same, same_of_all}
use Rattle.rh_otp_orders.specs.Orders.{is_call}
use Rattle.rh_otp_crashes.specs.Crashes.{IsUnoccupied}
use Rattle.rh_otp_crashes.proofs.Posting.{posted_to, mails, all_mailed}
use Rattle.rh_otp_stops.proofs.Stopping.{there_is}
use Rattle.rh_otp_takeovers.proofs.Telling.{IsLast, Telling}
use Rattle.rh_agreement.specs.Resting.{held}
use Rattle.rh_agreement.proofs.Rest.{AreIdle}
use Rattle.rh_agreement_calls.proofs.Controlling.{place_here}
use Rattle.rh_agreement_spread.proofs.Following.{owed}
use Rattle.rh_agreement_spread.proofs.Hearing.{few_told}
use Rattle.rh_agreement_spread.proofs.Running.{sum_of_twos}
use Rattle.rh_agreement_spread.proofs.Summing.{sum_of, sum_behind, sum_of_none}
use Rattle.rh_agreement_takeovers.specs.Takeovers.{CanBeTakenOverLive}
use Rattle.rh_agreement_takeovers.proofs.Beginning as begins
use Rattle.rh_agreement_takeovers.proofs.Following.{IsSaid, answers, tells, is_last, Giver, Follows, cost, told_at}

-- ---- the node at which it ran is told

-- whoever is among these, is alive and has a dist_ac, is told
pub told_by : (lives : Node → ℕ) (s : SystemView) (n at : Node) (a : App) (nodes : List Node) → at.0 ≢ n.0 → is_among at nodes ≡ true
    → is_alive_at s at ≡ true → has_dist_at s at ≡ true → 0 < sum_of (told_at at) (mails lives s n (message.AppStarted n a None) nodes)
told_by lives s n at a [] other among up has = absurd (false≢true among)
told_by lives s n at a (m ∷ nodes) other among up has =
    by (m.0 == n.0) (is_alive_at s m && has_dist_at s m) (at.0 == m.0) refl refl refl among
    (λ more. told_by lives s n at a nodes other more up has)
  where
    left : List Envelope
    left = mails lives s n (message.AppStarted n a None) nodes

    sum : Bool → Bool → ℕ
    sum b k = sum_of (told_at at) (cond b left (cond k (posted_to lives n (message.AppStarted n a None) m ∷ left) left))

    here : (m.0 == at.0) ≡ true → 0 < told_at at (posted_to lives n (message.AppStarted n a None) m) + sum_of (told_at at) left
    here is =
        let one : told_at at (posted_to lives n (message.AppStarted n a None) m) ≡ 1 = ap (λ (b : Bool). cond b 1 0) is in
        omega (arith, one)

    by : (b k same : Bool) → (m.0 == n.0) ≡ b → (is_alive_at s m && has_dist_at s m) ≡ k → (at.0 == m.0) ≡ same
        → (same || is_among at nodes) ≡ true → (is_among at nodes ≡ true → 0 < sum_of (told_at at) left) → 0 < sum b k
    by true k false is ready apart among rest = rest among
    by false false false is ready apart among rest = rest among
    by false true false is ready apart among rest =
        let more : 0 < sum_of (told_at at) left = rest among in
        omega (arith, more)
    by true k true is ready one among rest =
        absurd (other (same_number at.0 m.0 one ∙ same_number m.0 n.0 is))
    by false true true is ready one among rest =
        here (ap (λ (i : ℕ). i == at.0) (sym (same_number at.0 m.0 one)) ∙ same_refl at.0)
    by false false true is ready one among rest =
        absurd (false≢true (sym ready ∙ ap (λ (j : ℕ). is_alive_at s (numbered j) && has_dist_at s (numbered j))
        (sym (same_number at.0 m.0 one)) ∙ (λ i. up i && has i)))

module _ (l : LiveSimView) (n at : Node) (a : App) (restart : Restart) (idle : AreIdle (held l)) (nobody_locks : (held l).locks ≡ [])
    (alive : is_alive_at (held l) n ≡ true) (other : at.0 ≢ n.0) (live_can : CanBeTakenOverLive l n at a) where
  pub free_at : (d : DistView) → (node_at (held l) n).dist ≡ Some d → IsUnoccupied d
  free_at d has = idle.dists n d alive has

  abbrev base : SystemView
  base = begins.base l n at a restart alive live_can free_at nobody_locks

  abbrev lives : Node → ℕ
  lives = begins.lives l n at a restart alive live_can free_at nobody_locks

  abbrev c : Call
  c = begins.c l n at a restart alive live_can free_at nobody_locks

  abbrev d : DistView
  d = begins.d l n at a restart alive live_can free_at nobody_locks

  abbrev first : SystemView
  first = begins.first l n at a restart alive live_can free_at nobody_locks

  abbrev next : DistView
  next = begins.next l n at a restart alive live_can free_at nobody_locks

  abbrev new : LiveView
  new = begins.new l n at a restart alive live_can free_at nobody_locks

  abbrev over : SystemView
  over = begins.over l n at a restart alive live_can free_at nobody_locks

  abbrev sent : List Envelope
  sent = begins.sent l n at a restart alive live_can free_at nobody_locks

  abbrev answer : Envelope
  answer = begins.answer l n at a restart alive live_can free_at nobody_locks

  abbrev news : Message
  news = begins.spread_news l n at a restart alive live_can free_at nobody_locks

  abbrev spoken : SystemView
  spoken = begins.spoken l n at a restart alive live_can free_at nobody_locks

  free : IsUnoccupied d
  free = begins.free l n at a restart alive live_can free_at nobody_locks

  -- ---- the node at which it runs

  alive_at : is_alive_at base at ≡ true
  unfolding forgotten
  alive_at = live_can.gives_up.alive

  pub giver : Giver base c at
  unfolding forgotten
  giver = record {
    other = other;
    alive = alive_at;
    runs = place_here _ live_can.gives_up.runs;
    started = live_can.gives_up.started;
    stays = live_can.gives_up.stays;
    dist = live_can.gives_up.dist;
    has = live_can.gives_up.has;
    free = idle.dists at live_can.gives_up.dist alive_at live_can.gives_up.has;
    takes_all = live_can.gives_up.takes_all;
    controlled = live_can.gives_up.controlled;
    started_too = live_can.gives_up.started_too;
  }

  abbrev FollowsHere : SystemView → Type 0
  FollowsHere = Follows lives c at base alive giver

  -- ---- behind the start

  new_there : node_at spoken n ≡ new
  new_there = node_written first n (node_at (held l) n) new (there_is base n alive)

  next_free : IsUnoccupied next
  next_free = record {
    stand = inl refl;
    mail = All-nil (λ (m : Message). takes stand.Idle m ≡ false);
    permits = free.permits;
    parked = free.parked;
  }

  same_alive : (m : Node) → is_alive_at spoken m ≡ is_alive_at base m
  same_alive m = same_of_all is_alive first n m new refl

  stays_there : is_ending (node_at spoken n) ≡ false
  stays_there = ap is_ending new_there ∙ begins.stays l n at a restart alive live_can free_at nobody_locks

  dists_then : (m : Node) (k : DistView) → is_alive_at spoken m ≡ true → (node_at spoken m).dist ≡ Some k → IsUnoccupied k
  dists_then m k up has = elim (as_it_was_or_written first n m new) [
    | inl was ↦ idle.dists m k (sym (same_alive m) ∙ up) (sym (ap (λ (v : LiveView). v.dist) was) ∙ has)
    | inr is ↦ subst IsUnoccupied (same_Some next k (sym (ap (λ (v : LiveView). v.dist) is.1) ∙ has)) next_free
  ]

  ends_then : (m : Node) → is_alive_at spoken m ≡ true → is_to_end m spoken ≡ false
  unfolding forgotten
  ends_then m up = elim (as_it_was_or_written first n m new) [
    | inl was ↦ ap (λ (v : LiveView). is_ending v && not v.is_stopped) was ∙ idle.ends m (sym (same_alive m) ∙ up)
    | inr is ↦ and_left (is_ending (node_at spoken m)) _
        (ap is_ending is.1 ∙ begins.stays l n at a restart alive live_can free_at nobody_locks)
  ]

  -- ---- what is on its way then

  abbrev IsOurs : Envelope → Type 0
  IsOurs = IsSaid lives c

  said : All IsOurs spoken.messages
  said =
      All-append IsOurs sent (answer ∷ []) (all_mailed lives IsOurs over n news d.known (λ m other. tells m other))
      (All-cons IsOurs answer [] answers (All-nil IsOurs))

  still : Telling lives c None spoken
  still = record {
    still = record {
      waits = record {
        messages = refl;
        slow = refl;
        dists = dists_then;
        ends = λ m up may. ends_then m up;
        later = λ soon. absurd (false≢true soon);
        listed = λ m among. same_alive m ∙ idle.listed m among;
        same_lives = λ m. same_of_all (λ (v : LiveView). v.life) first n m new refl;
        stage = stage.DistAc;
        calls = refl;
        waits = λ call q. refl;
        life = refl;
        locks = All-nil (λ (h : Held). is_call h.owner.role ≡ false);
      };
      soon = refl;
    };
    kinds = All-weaker IsOurs (IsLast lives c None) (λ x is. is_last x is) spoken.messages said;
    alive = same_alive n ∙ alive;
  }

  one_owed : sum_of owed spoken.messages ≡ 1
  one_owed =
      let none : sum_of owed sent ≡ 0 =
      sum_of_none owed sent (all_mailed lives (λ (x : Envelope). owed x ≡ 0) over n news d.known (λ m other. refl)) in
      let sum : sum_of owed spoken.messages ≡ sum_of owed sent + sum_of owed (answer ∷ []) = sum_behind owed sent (answer ∷ []) in
      omega (arith, none, sum)

  has_dist : has_dist_at base at ≡ true
  unfolding forgotten
  has_dist = (and_parts (own_at (held l) at).has_dist _ live_can.gives_up.controlled).0

  some_told : 0 < sum_of (told_at at) spoken.messages
  some_told =
      let some : 0 < sum_of (told_at at) sent =
      told_by lives over n at a d.known other (begins.elsewhere l n at a restart alive live_can free_at nobody_locks).knows
      (same_alive at ∙ alive_at) has_dist in
      let sum : sum_of (told_at at) spoken.messages ≡ sum_of (told_at at) sent + sum_of (told_at at) (answer ∷ []) =
      sum_behind (told_at at) sent (answer ∷ []) in
      omega (arith, some, sum)

  at_as_it_was : node_at spoken at ≡ node_at base at
  at_as_it_was = others_same first n at new other

  nowhere : (m : Node) → m.0 ≢ n.0 → m.0 ≢ at.0 → is_alive_at spoken m ≡ true
      → is_here (keyfind a (node_at spoken m).controller.running) ≡ false
  unfolding forgotten
  nowhere m other apart up =
      ap (λ (v : LiveView). is_here (keyfind a v.controller.running)) (others_same first n m new other)
      ∙ live_can.nowhere m other apart (sym (same_alive m) ∙ up)

  pub first_follows : FollowsHere spoken
  first_follows = record {
    still = still;
    said = said;
    cluster = refl;
    files = refl;
    clock = refl;
    count = length-set base.nodes.cells n.0 (cell.Node new);
    phases = λ k. same_of_all (λ (v : LiveView). v.phase) first n k new refl;
    stays = stays_there;
    nowhere = nowhere;
    is_answered = false;
    has_stopped = false;
    shown = refl;
    calls = refl;
    owes = one_owed;
    stops = record {
      there = ap (λ (v : LiveView). v.controller) at_as_it_was;
      soon = inr (some_told, ap (λ (v : LiveView). v.dist) at_as_it_was ∙ giver.has);
    };
  }

  pub costs : sum_of cost spoken.messages < 999994
  costs =
      let few : 2 * length d.known + 7 < most_moves = (begins.elsewhere l n at a restart alive live_can free_at nobody_locks).few in
      let told : length sent ≤ length d.known = few_told lives over n news d.known in
      let twos : sum_of cost sent ≡ 2 * length sent =
      sum_of_twos cost sent (all_mailed lives (λ (x : Envelope). cost x ≡ 2) over n news d.known (λ m other. refl)) in
      let sum : sum_of cost spoken.messages ≡ sum_of cost sent + sum_of cost (answer ∷ []) = sum_behind cost sent (answer ∷ []) in
      omega (arith, few, told, twos, sum)
