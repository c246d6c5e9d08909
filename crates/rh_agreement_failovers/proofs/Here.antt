-- A message that comes to the node which starts the application is its next turn, and what is said above stays so.
use Rattle.std.proofs.Common.{◌≡◌, ◌≢◌, ◌⊎◌, ◌<◌, ◌≤◌, ◌+◌, ◌*◌, ◌++◌, ℕ, Bool, true, false, cond, List, [], ◌∷◌, length, None, Some, refl, sym, ap, subst, ◌∙◌, inl, inr, arith}
use Rattle.std.specs.Prelude.{All}
use Rattle.std.proofs.lemmas.Bool.{false≢true, ne_eqb}
use Rattle.std.proofs.lemmas.List.{append-nil}
use Rattle.std.proofs.lemmas.List.Elements.{All-nil, All-cons, All-append, All-weaker}
use Rattle.rh_model.specs.declared.node.App.{App}
use Rattle.rh_model.specs.declared.node.Node.{Node}
use Rattle.rh_otp_controller.specs.Calls.{is_here}
use Rattle.rh_otp_model.specs.declared.message.Change.TheVariants as change_of
use Rattle.rh_otp_model.specs.declared.message.Message.{Message}
use Rattle.rh_otp_model.specs.declared.message.Message.TheVariants as message
use Rattle.rh_otp_model.specs.declared.output.Envelope.{Envelope}
use Rattle.rh_otp_model.specs.declared.output.Event.{Event}
use Rattle.rh_otp_model.specs.Rows.{keyfind}
use Rattle.rh_otp_model.specs.declared.wait.OwnFile.{OwnFile}
use Rattle.rh_otp_node.specs.Live.{LiveView, is_alive}
use Rattle.rh_otp_system.specs.Delivering.{arrived}
use Rattle.rh_otp_system.specs.State.{SystemView, live_at, node_at, with_node, is_alive_at}
use Rattle.rh_otp_laws.proofs.Nodes.{node_written, others_same}
use Rattle.rh_otp_orders.proofs.Taking.{Taken}
use Rattle.rh_otp_crashes.proofs.News.{IsNews, IsLater, is_to, it_is_lost, it_fails_over, it_started, it_runs, all_pass, none_passes}
use Rattle.rh_otp_crashes.proofs.Peace.{without, arrives_alive, taken_all}
use Rattle.rh_otp_crashes.proofs.Posting.{all_mailed}
use Rattle.rh_otp_crashes.proofs.Turning.{own_in}
use Rattle.rh_otp_stops.proofs.Stopping.{there_is}
use Rattle.rh_agreement_spread.proofs.Hearing.{few_told}
use Rattle.rh_agreement_spread.proofs.Running.{sum_of_twos}
use Rattle.rh_agreement_spread.proofs.Summing.{sum_of, sum_behind}
use Rattle.rh_agreement_failovers.proofs.Costs.{cost, cost_of, count, count_more, to_itself, IsOnly, is_news_for, told_there}
use Rattle.rh_agreement_failovers.proofs.Following.{Keeps, keeps_on, keeps_left, keeps_node, alive_kept, second_part, Follows, ComesOn, Stage, IsPending, IsToldOf, IsKnown, RunsNot, waits, told, begun, runs}
use Rattle.rh_agreement_failovers.proofs.Following as following
use Rattle.rh_agreement_failovers.proofs.Hearing.{IsSafe, safe_on}
use Rattle.rh_agreement_failovers.proofs.Starting.{CanStartIt, goes}
use Rattle.rh_agreement_failovers.proofs.Starting as starting

module _ (lives : Node → ℕ) (n : Node) (a : App) (most : ℕ) (base : SystemView) (can : CanStartIt lives n a base)
    (alive_there : is_alive_at base n ≡ true) (few : length (starting.d lives n a base can).known ≤ most)
    (s : SystemView) (e : Envelope) (left : List Envelope) (f : Follows lives n a most base can s) (taken : Taken e s.messages left)
    (kind : IsNews lives n a e) where
  abbrev q : SystemView
  q = without s left

  abbrev then : SystemView
  then = arrived e.to e.message q

  abbrev Comes : Type 0
  Comes = ComesOn lives n a most base can s then

  up_here : is_alive_at s n ≡ true
  up_here = alive_kept base s f.keeps n ∙ alive_there

  costs : sum_of (cost most n) s.messages ≡ cost most n e + sum_of (cost most n) left
  costs = following.costs lives n a most base can s e left f taken kind

  left_all : (P : Envelope → Type 0) → All P s.messages → All P left
  left_all P all = (taken_all P e s.messages left taken all).1

  -- none of those that are left is for it
  none_left : is_to n e ≡ true → count n s.messages ≡ 1 → All (λ (x : Envelope). is_to n x ≡ false) left
  none_left to one =
      let all : count n s.messages ≡ 1 + count n left =
      following.left_count lives n a most base can s e left f taken kind ∙ ap (λ (b : Bool). cond b 1 0 + count n left) to in
      none_passes (is_to n) left (omega (arith, all, one))

  -- ---- its node is another one, and this is sent

  module _ (new : LiveView) (more : List Envelope) (seen : List Event) (same : then ≡ goes n new more seen q)
      (phase : new.phase ≡ (node_at q n).phase) where
    abbrev t : SystemView
    t = goes n new more seen q

    others : (k : Node) → k.0 ≢ n.0 → node_at t k ≡ node_at s k
    others k apart = others_same q n k new apart

    keeps : Keeps base t
    keeps = keeps_on base q t (keeps_on base s q f.keeps (keeps_left s left)) (keeps_node n new (left ++ more) (q.events ++ seen) q phase)

    up_so : (k : Node) → is_alive_at t k ≡ true → is_alive_at s k ≡ true
    up_so k up = sym (alive_kept q t (keeps_node n new (left ++ more) (q.events ++ seen) q phase) k) ∙ up

    safe_still : ((k : Node) → k.0 ≢ n.0 → All (IsLater k) more) → (k : Node) → k.0 ≢ n.0 → IsSafe k a s → IsSafe k a t
    safe_still later k apart =
        safe_on k a s t (ap (λ (v : LiveView). v.dist) (others k apart))
        (λ all. All-append (IsLater k) left more (left_all (IsLater k) all) (later k apart))

    comes : sum_of (cost most n) more < cost most n e → IsPending lives n a most base can t ⊎ IsToldOf lives n a most base can t → Comes
    comes spent far = record {
      then = record {
        still = following.still_then lives n a most base can s e left f taken kind;
        keeps = subst (Keeps base) (sym same) keeps;
        nowhere = subst (λ (u : SystemView). (k : Node) → k.0 ≢ n.0 → is_alive_at u k ≡ true → RunsNot lives n a most base can u k)
            (sym same)
            (λ k apart up.
            ap (λ (v : LiveView). is_here (keyfind a v.controller.running)) (others k apart) ∙ f.nowhere k apart (up_so k up));
        far = subst (λ (u : SystemView). IsPending lives n a most base can u ⊎ IsToldOf lives n a most base can u) (sym same) far;
      };
      less =
          let is : sum_of (cost most n) then.messages ≡ sum_of (cost most n) left + sum_of (cost most n) more =
          ap (λ (u : SystemView). sum_of (cost most n) u.messages) same ∙ sum_behind (cost most n) left more in
          omega (arith, is, costs, spent);
    }

  -- ---- one message for it more

  abbrev IsStage : Envelope → LiveView → List Event → Type 0
  IsStage = Stage lives n a most base can

  module _ (p : IsPending lives n a most base can s) (to : is_to n e ≡ true) where
    next_turn : (x : Envelope) (new : LiveView) (seen : List Event) → then ≡ goes n new (x ∷ []) seen q → new.phase ≡ (node_at q n).phase
        → IsStage x new (p.seen ++ seen) → is_to n x ≡ true → ((k : Node) → IsLater k x) → cost most n x < cost most n e → Comes
    next_turn x new seen same phase stage to_it later spent =
        let t : SystemView = goes n new (x ∷ []) seen q in
        let none : All (λ (y : Envelope). is_to n y ≡ false) left = none_left to p.one in
        comes new (x ∷ []) seen same phase (omega (arith, spent)) (inl (record {
          message = x;
          view = new;
          seen = p.seen ++ seen;
          stage = stage;
          there = node_written q n (node_at q n) new (there_is q n up_here);
          events = ap (λ (events : List Event). events ++ seen) p.events;
          one =
              let sum : count n (left ++ x ∷ []) ≡ count n left + count n (x ∷ []) = count_more n left (x ∷ []) in
              let zero : count n left ≡ 0 = all_pass (is_to n) left none in
              let one : count n (x ∷ []) ≡ 1 = ap (λ (b : Bool). length (cond b (x ∷ []) [])) to_it in
              omega (arith, sum, zero, one);
          only = All-append (IsOnly n x) left (x ∷ [])
              (All-weaker (λ (y : Envelope). is_to n y ≡ false) (IsOnly n x)
              (λ y is is_too. absurd (false≢true (sym is ∙ is_too))) left none)
              (All-cons (IsOnly n x) x [] (λ is. refl) (All-nil (IsOnly n x)));
          hopes = λ k apart up. hope k apart (p.hopes k apart (up_so new (x ∷ []) seen same phase k up));
        }))
      where
        hope : (k : Node) → k.0 ≢ n.0 → IsSafe k a s ⊎ IsKnown lives n a most base can k
            → IsSafe k a (goes n new (x ∷ []) seen q) ⊎ IsKnown lives n a most base can k
        hope k apart (inl safe) =
            inl (safe_still new (x ∷ []) seen same phase (λ j away. All-cons (IsLater j) x [] (later j) (All-nil (IsLater j))) k apart safe)
        hope k apart (inr known) = inr known

    -- the last one: it has told the others
    last_turn : (new : LiveView) → then ≡ goes n new (starting.all_told lives n a base can q) [] q → new.phase ≡ (node_at q n).phase
        → p.seen ≡ starting.start_seen lives n a base can → 2 * most < cost most n e → Comes
    last_turn new same phase seen_so spent =
        let more : List Envelope = starting.all_told lives n a base can q in
        let nodes : List Node = (starting.d lives n a base can).known in
        let there : SystemView = with_node n (starting.last_node lives n a base can) q in
        let x : Message = message.AppStarted n a None in
        let sent : length more ≤ length nodes = few_told lives there n x nodes in
        let twos : sum_of (cost most n) more ≡ 2 * length more =
        sum_of_twos (cost most n) more
        (all_mailed lives (λ (y : Envelope). cost most n y ≡ 2) there n x nodes
        (λ k apart. ap (λ (b : Bool). cost_of most b x) (ne_eqb k.0 n.0 apart))) in
        comes new more [] same phase (omega (arith, spent, sent, twos, few)) (inr (record {
          none = All-append (λ (y : Envelope). is_to n y ≡ false) left more (none_left to p.one)
              (all_mailed lives (λ (y : Envelope). is_to n y ≡ false) there n x nodes (λ k apart. ne_eqb k.0 n.0 apart));
          events = append-nil s.events ∙ p.events ∙ seen_so;
          served = λ k apart up none.
              let up_too : is_alive_at s k ≡ true = up_so new more [] same phase k up in
              serve k apart up_too none (p.hopes k apart up_too);
        }))
      where
        sent_to : Node → Envelope → Type 0
        sent_to k y = is_news_for k y ≡ false

        later : (k : Node) → All (IsLater k) (starting.all_told lives n a base can q)
        later k =
            all_mailed lives (IsLater k) (with_node n (starting.last_node lives n a base can) q) n (message.AppStarted n a None)
            (starting.d lives n a base can).known (λ j apart. refl)

        serve : (k : Node) → k.0 ≢ n.0 → is_alive_at s k ≡ true
            → All (λ (y : Envelope). is_news_for k y ≡ false) (left ++ starting.all_told lives n a base can q)
            → IsSafe k a s ⊎ IsKnown lives n a most base can k → IsSafe k a (goes n new (starting.all_told lives n a base can q) [] q)
        serve k apart up none (inl safe) =
            safe_still new (starting.all_told lives n a base can q) [] same phase (λ j away. later j) k apart safe
        serve k apart up none (inr known) =
            absurd (told_there lives (with_node n (starting.last_node lives n a base can) q) n k (message.AppStarted n a None) refl apart
            (ap is_alive (others_same q n k (starting.last_node lives n a base can) apart) ∙ up)
            (ap (λ (files : List OwnFile). (own_in files k).has_dist) f.keeps.files ∙ known.1) (starting.d lives n a base can).known known.0
            (second_part left (starting.all_told lives n a base can q) (λ (y : Envelope). is_news_for k y ≡ false) none))

    -- ---- what its turn comes to

    in_cluster : q.cluster ≡ base.cluster
    in_cluster = f.keeps.cluster

    in_files : q.files ≡ base.files
    in_files = f.keeps.files

    there_as : (w : LiveView) → node_at s n ≡ w → live_at q n ≡ Some w
    there_as w is = there_is q n up_here ∙ ap Some is

    of_it : (x : Envelope) → e ≡ x → then ≡ arrived x.to x.message q
    of_it x is = ap (λ (y : Envelope). arrived y.to y.message q) is

    costs_it : (x : Envelope) → e ≡ x → is_to n x ≡ true → cost most n e ≡ cost_of most true x.message
    costs_it x is to_x = ap (cost most n) is ∙ ap (λ (b : Bool). cost_of most b x.message) to_x

    abbrev IsOf : Envelope → LiveView → List Event → Type 0
    IsOf x w seen = (e ≡ x) × (node_at s n ≡ w) × (p.seen ≡ seen)

    turns : (x : Envelope) (w : LiveView) (seen : List Event) → IsStage x w seen → IsOf x w seen → Comes
    turns _ _ _ (waits loss) is =
        let x : Envelope = it_is_lost lives n a loss in
        next_turn (it_fails_over lives n a (starting.gone lives n a base can)) (starting.told_node lives n a base can) []
        (of_it x is.0
        ∙ arrives_alive x.to x.message q up_here (f.still.peace.same_lives n)
        ∙ starting.loses lives n a base can loss q (there_as (starting.v lives n a base can) is.1) in_cluster in_files)
        (ap (λ (v : LiveView). v.phase) (sym is.1))
        (subst (IsStage (it_fails_over lives n a (starting.gone lives n a base can)) (starting.told_node lives n a base can))
        (sym (ap (λ (events : List Event). events ++ []) is.2)) told)
        (to_itself n) (λ k. refl)
        (let before : cost most n e ≡ 2 * most + 4 = costs_it x is.0 (to_itself n) in
        let after : cost most n (it_fails_over lives n a (starting.gone lives n a base can)) ≡ 2 * most + 3 =
        ap (λ (b : Bool). cost_of most b (message.Change a (change_of.Failover (starting.gone lives n a base can)))) (to_itself n) in
        omega (arith, before, after))
    turns _ _ _ told is =
        let x : Envelope = it_fails_over lives n a (starting.gone lives n a base can) in
        next_turn (it_started lives n a) (starting.seen_node lives n a base can) (starting.start_seen lives n a base can)
        (of_it x is.0
        ∙ arrives_alive x.to x.message q up_here (f.still.peace.same_lives n)
        ∙ starting.begins lives n a base can q (there_as (starting.told_node lives n a base can) is.1) in_cluster in_files)
        (ap (λ (v : LiveView). v.phase) (sym is.1))
        (subst (IsStage (it_started lives n a) (starting.seen_node lives n a base can))
        (sym (ap (λ (events : List Event). events ++ starting.start_seen lives n a base can) is.2)) begun)
        (to_itself n) (λ k. refl)
        (let before : cost most n e ≡ 2 * most + 3 = costs_it x is.0 (to_itself n) in
        let after : cost most n (it_started lives n a) ≡ 2 * most + 2 =
        ap (λ (b : Bool). cost_of most b (message.ApplicationStarted a None)) (to_itself n) in
        omega (arith, before, after))
    turns _ _ _ begun is =
        let x : Envelope = it_started lives n a in
        next_turn (it_runs lives n a) (starting.kept_node lives n a base can) []
        (of_it x is.0
        ∙ arrives_alive x.to x.message q up_here (f.still.peace.same_lives n)
        ∙ starting.ends lives n a base can q (there_as (starting.seen_node lives n a base can) is.1) in_cluster in_files)
        (ap (λ (v : LiveView). v.phase) (sym is.1))
        (subst (IsStage (it_runs lives n a) (starting.kept_node lives n a base can))
        (sym (ap (λ (events : List Event). events ++ []) is.2)) runs)
        (to_itself n) (λ k. refl)
        (let before : cost most n e ≡ 2 * most + 2 = costs_it x is.0 (to_itself n) in
        let after : cost most n (it_runs lives n a) ≡ 2 * most + 1 =
        ap (λ (b : Bool). cost_of most b (message.Run a None)) (to_itself n) in
        omega (arith, before, after))
    turns _ _ _ runs is =
        let x : Envelope = it_runs lives n a in
        let view : LiveView = starting.kept_node lives n a base can in
        last_turn (starting.last_node lives n a base can)
        (of_it x is.0
        ∙ arrives_alive x.to x.message q up_here (f.still.peace.same_lives n)
        ∙ starting.tells lives n a base can q (there_as view is.1) in_cluster in_files f.still.peace.same_lives
        (λ m among up. f.still.sees (starting.next lives n a base can) (ap (λ (v : LiveView). v.dist) is.1) m among up))
        (ap (λ (v : LiveView). v.phase) (sym is.1)) is.2
        (let before : cost most n e ≡ 2 * most + 1 = costs_it x is.0 (to_itself n) in omega (arith, before))

    is_it : e ≡ p.message
    is_it = (taken_all (IsOnly n p.message) e s.messages left taken p.only).0 to

    its_turn : Comes
    its_turn = turns p.message p.view p.seen p.stage (is_it, p.there, refl)

  -- where none is for it any more there is none
  pub here_on : is_to n e ≡ true → Comes
  here_on to = elim f.far [
    | inl p ↦ its_turn p to
    | inr o ↦ absurd (false≢true (sym (taken_all (λ (x : Envelope). is_to n x ≡ false) e s.messages left taken o.none).0 ∙ to))
  ]
