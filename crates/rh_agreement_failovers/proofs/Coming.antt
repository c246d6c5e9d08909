-- What each message comes to, at whichever node: it keeps all that is said of a failover underway, and uses something up. So nothing moves
-- soon, and then each dist_ac does nothing, and the start alone was seen.
use Rattle.std.proofs.Common.{◌≡◌, ◌≢◌, ◌⊎◌, ◌<◌, ◌≤◌, ◌+◌, ◌++◌, ℕ, Bool, true, false, List, [], ◌∷◌, length, Option, refl, sym, ap, subst, ◌∙◌, inl, inr, arith}
use Rattle.std.specs.Prelude.{All}
use Rattle.std.proofs.lemmas.Bool.{cases_Bool, false≢true, ne_eqb}
use Rattle.std.proofs.lemmas.List.{append-nil}
use Rattle.std.proofs.lemmas.List.Elements.{All-nil, All-cons}
use Rattle.rh_model.specs.declared.node.App.{App}
use Rattle.rh_model.specs.declared.node.Node.{Node}
use Rattle.rh_otp_controller.specs.Calls.{is_here}
use Rattle.rh_otp_controller.specs.State.{ControllerView}
use Rattle.rh_otp_model.specs.declared.output.Envelope.{Envelope}
use Rattle.rh_otp_model.specs.Rows.{keyfind}
use Rattle.rh_otp_dist.specs.State.{DistView}
use Rattle.rh_otp_node.specs.Live.{LiveView}
use Rattle.rh_otp_system.specs.Delivering.{arrived}
use Rattle.rh_otp_system.specs.State.{SystemView, node_at, with_node, is_alive_at}
use Rattle.rh_otp_system.specs.Working.{mailed}
use Rattle.rh_otp_laws.proofs.Nodes.{node_written, others_same}
use Rattle.rh_otp_orders.proofs.Taking.{Taken}
use Rattle.rh_otp_crashes.proofs.Hearing.{IsTold}
use Rattle.rh_otp_crashes.proofs.News.{IsNews, IsLater, fires, starts, started, running, tells, moves, wakes, is_to, it_is_lost, news, runs_there}
use Rattle.rh_otp_crashes.proofs.Peace.{without, arrives_alive, arrives_dead, taken_all}
use Rattle.rh_otp_crashes.proofs.Phases.{due}
use Rattle.rh_otp_crashes.proofs.Starting.{moves_so, moved_by}
use Rattle.rh_otp_crashes.proofs.Underway.{left_underway}
use Rattle.rh_otp_stops.proofs.Stopping.{there_is}
use Rattle.rh_agreement_spread.proofs.Hearing.{acted}
use Rattle.rh_agreement_spread.proofs.Running.{not_here_then, seen_none}
use Rattle.rh_agreement_spread.proofs.Summing.{sum_of}
use Rattle.rh_agreement_failovers.proofs.Costs.{cost, cost_of, to_itself, is_news_for}
use Rattle.rh_agreement_failovers.proofs.Following.{Keeps, keeps_itself, keeps_node, Follows, ComesOn, RunsNot}
use Rattle.rh_agreement_failovers.proofs.Following as following
use Rattle.rh_agreement_failovers.proofs.Hearing.{IsSafe, safe_on, safe_behind, hears_it, wakes_it, as_it_was}
use Rattle.rh_agreement_failovers.proofs.Here.{here_on}
use Rattle.rh_agreement_failovers.proofs.Starting.{CanStartIt}
use Rattle.rh_agreement_failovers.proofs.Starting as starting

module _ (lives : Node → ℕ) (n : Node) (a : App) (most : ℕ) (base : SystemView) (can : CanStartIt lives n a base)
    (alive_there : is_alive_at base n ≡ true) (few : length (starting.d lives n a base can).known ≤ most) where
  abbrev FollowsHere : SystemView → Type 0
  FollowsHere = Follows lives n a most base can

  module _ (s : SystemView) (e : Envelope) (left : List Envelope) (f : FollowsHere s) (taken : Taken e s.messages left)
      (kind : IsNews lives n a e) (m : Node) (other : m.0 ≢ n.0) (to : e.to.node.0 ≡ m.0) where
    abbrev q : SystemView
    q = without s left

    abbrev then : SystemView
    then = arrived e.to e.message q

    abbrev Comes : Type 0
    Comes = ComesOn lives n a most base can s then

    -- what comes to a node that isn't alive is lost
    is_lost : is_alive_at s m ≡ false → then ≡ q → 0 < cost most n e → Comes
    is_lost dead same some =
        following.elsewhere lives n a most base can s e left f taken kind m other to q [] (keeps_itself q) (sym (append-nil left)) refl
        (λ k apart. refl) (All-nil (λ (x : Envelope). is_to n x ≡ false)) (λ k. All-nil (IsLater k))
        (λ up. absurd (false≢true (sym dead ∙ up))) (λ up. absurd (false≢true (sym dead ∙ up))) same some

    -- a dist_ac has done something for itself
    module _ (next : Option DistView) (more : List Envelope) (same : then ≡ acted m next more q)
        (away : All (λ (x : Envelope). is_to n x ≡ false) more) (later : (k : Node) → All (IsLater k) more)
        (safe : is_alive_at s m ≡ true → IsSafe m a (acted m next more q)
        ⊎ ((is_news_for m e ≡ false) × (IsSafe m a s → IsSafe m a (acted m next more q))))
        (spent : sum_of (cost most n) more < cost most n e) where
      abbrev new : LiveView
      new = record (node_at q m) { dist = next }

      dist_acts : Comes
      dist_acts =
          following.elsewhere lives n a most base can s e left f taken kind m other to (acted m next more q) more
          (keeps_node m new (left ++ more) s.events q refl) refl refl (λ k apart. others_same q m k new apart) away later
          (λ up was. ap (λ (v : LiveView). is_here (keyfind a v.controller.running)) (node_written q m (node_at q m) new (there_is q m up))
          ∙ was) safe same spent

  -- ---- what each message comes to

  pub comes_on : (s : SystemView) (e : Envelope) (left : List Envelope) → FollowsHere s → Taken e s.messages left → IsNews lives n a e
      → ComesOn lives n a most base can s (arrived e.to e.message (without s left))
  comes_on s _ left f taken (fires loss) =
      here_on lives n a most base can alive_there few s _ left f taken (fires loss) (to_itself n)
  comes_on s _ left f taken (starts gone) =
      here_on lives n a most base can alive_there few s _ left f taken (starts gone) (to_itself n)
  comes_on s _ left f taken started = here_on lives n a most base can alive_there few s _ left f taken started (to_itself n)
  comes_on s _ left f taken running = here_on lives n a most base can alive_there few s _ left f taken running (to_itself n)
  comes_on s _ left f taken (tells m other) = by (cases_Bool (is_alive_at s m))
    where
      e : Envelope
      e = news lives n a m

      q : SystemView
      q = without s left

      kind : IsNews lives n a e
      kind = tells m other

      two : cost most n e ≡ 2
      two = ap (λ (b : Bool). cost_of most b e.message) (ne_eqb m.0 n.0 other)

      there : Envelope
      there = runs_there lives n a m

      one : cost most n there ≡ 1
      one = ap (λ (b : Bool). cost_of most b there.message) (ne_eqb m.0 n.0 other)

      acts : is_alive_at s m ≡ true → (next : Option DistView) (more : List Envelope) → (more ≡ []) ⊎ (more ≡ there ∷ [])
          → mailed m e.message q ≡ acted m next more q → arrived e.to e.message q ≡ mailed m e.message q
          → ComesOn lives n a most base can s (arrived e.to e.message q)
      acts up next more what same comes =
          let safe : All (IsLater m) more → IsSafe m a (acted m next more q) =
          λ later. subst (IsSafe m a) same (safe_behind m q (left_underway s e left f.still taken) other up next more later same) in
          by_more what safe
        where
          by_more : (more ≡ []) ⊎ (more ≡ there ∷ []) → (All (IsLater m) more → IsSafe m a (acted m next more q))
              → ComesOn lives n a most base can s (arrived e.to e.message q)
          by_more (inl is) safe =
              let later : (k : Node) → All (IsLater k) more = λ k. subst (All (IsLater k)) (sym is) (All-nil (IsLater k)) in
              dist_acts s e left f taken kind m other refl next more (comes ∙ same)
              (subst (All (λ (x : Envelope). is_to n x ≡ false)) (sym is) (All-nil (λ (x : Envelope). is_to n x ≡ false))) later
              (λ alive. inl (safe (later m)))
              (let sum : sum_of (cost most n) more ≡ 0 = ap (sum_of (cost most n)) is in omega (arith, sum, two))
          by_more (inr is) safe =
              let later : (k : Node) → All (IsLater k) more =
              λ k. subst (All (IsLater k)) (sym is) (All-cons (IsLater k) there [] refl (All-nil (IsLater k))) in
              dist_acts s e left f taken kind m other refl next more (comes ∙ same)
              (subst (All (λ (x : Envelope). is_to n x ≡ false)) (sym is)
              (All-cons (λ (x : Envelope). is_to n x ≡ false) there [] (ne_eqb m.0 n.0 other) (All-nil (λ (x : Envelope). is_to n x
              ≡ false)))) later
              (λ alive. inl (safe (later m)))
              (let sum : sum_of (cost most n) more ≡ cost most n there + 0 = ap (sum_of (cost most n)) is in omega (arith, sum, one, two))

      by : (is_alive_at s m ≡ true) ⊎ (is_alive_at s m ≡ false) → ComesOn lives n a most base can s (arrived e.to e.message q)
      by (inl up) =
          let heard = hears_it lives n m a q (f.still.peace.same_lives m) up (λ d has. f.still.peace.dists m d up has) in
          acts up heard.0 heard.1 heard.2 heard.3 (arrives_alive e.to e.message q up (f.still.peace.same_lives m))
      by (inr dead) =
          is_lost s e left f taken kind m other refl dead (arrives_dead e.to e.message q dead) (omega (arith, two))
  comes_on s _ left f taken (moves m other) = by (cases_Bool (is_alive_at s m))
    where
      e : Envelope
      e = runs_there lives n a m

      q : SystemView
      q = without s left

      kind : IsNews lives n a e
      kind = moves m other

      one : cost most n e ≡ 1
      one = ap (λ (b : Bool). cost_of most b e.message) (ne_eqb m.0 n.0 other)

      x : ControllerView
      x = (node_at q m).controller

      new : LiveView
      new = record (node_at q m) { controller = moved_by a n x }

      t : SystemView
      t = record (with_node m new q) { messages = left ++ []; events = s.events }

      by : (is_alive_at s m ≡ true) ⊎ (is_alive_at s m ≡ false) → ComesOn lives n a most base can s (arrived e.to e.message q)
      by (inl up) =
          let written : node_at (with_node m new q) m ≡ new = node_written q m (node_at q m) new (there_is q m up) in
          following.elsewhere lives n a most base can s e left f taken kind m other refl t []
          (keeps_node m new (left ++ []) s.events q refl) refl refl (λ k apart. others_same q m k new apart)
          (All-nil (λ (y : Envelope). is_to n y ≡ false)) (λ k. All-nil (IsLater k))
          (λ alive was. ap (λ (v : LiveView). is_here (keyfind a v.controller.running)) written ∙ not_here_then a n x was)
          (λ alive. inr (
            refl,
            safe_on m a s t (ap (λ (v : LiveView). v.dist) written)
                (λ all. subst (All (IsLater m)) (sym (append-nil left)) (taken_all (IsLater m) e s.messages left taken all).1),
          ))
          (arrives_alive e.to e.message q up (f.still.peace.same_lives m)
          ∙ moves_so m a n q (node_at q m) (there_is q m up)
          ∙ (λ i. record (with_node m new q) {
            messages = sym (append-nil left) i;
            events = s.events ++ seen_none m a x (f.nowhere m other up) i;
          })
          ∙ (λ i. record (with_node m new q) { messages = left ++ []; events = append-nil s.events i }))
          (omega (arith, one))
      by (inr dead) =
          is_lost s e left f taken kind m other refl dead (arrives_dead e.to e.message q dead) (omega (arith, one))
  comes_on s _ left f taken (wakes m other loss) = by (cases_Bool (is_alive_at s m))
    where
      e : Envelope
      e = it_is_lost lives m a loss

      q : SystemView
      q = without s left

      kind : IsNews lives n a e
      kind = wakes m other loss

      one : cost most n e ≡ 1
      one = ap (λ (b : Bool). cost_of most b e.message) (ne_eqb m.0 n.0 other)

      -- its timer's message was there
      not_all : All (IsLater m) s.messages → ⊥
      not_all all = false≢true (sym (taken_all (IsLater m) e s.messages left taken all).0 ∙ to_itself m)

      by : (is_alive_at s m ≡ true) ⊎ (is_alive_at s m ≡ false) → ComesOn lives n a most base can s (arrived e.to e.message q)
      by (inl up) =
          let woken = wakes_it lives m loss q other (f.still.peace.same_lives m) up (due m s left not_all (f.still.phases m other up)) in
          let t : SystemView = acted m woken.0 [] q in
          dist_acts s e left f taken kind m other refl woken.0 []
          (arrives_alive e.to e.message q up (f.still.peace.same_lives m) ∙ woken.1)
          (All-nil (λ (y : Envelope). is_to n y ≡ false)) (λ k. All-nil (IsLater k))
          (λ alive. inr (
            refl,
            λ before. elim before [
              | inl safe ↦ absurd (not_all safe.0)
              | inr so ↦ inr (subst (IsTold a) (sym (ap (λ (u : SystemView). (node_at u m).dist) (sym woken.1)
                  ∙ as_it_was lives a m loss q (f.still.peace.same_lives m) up so)) so)
            ],
          ))
          (omega (arith, one))
      by (inr dead) =
          is_lost s e left f taken kind m other refl dead (arrives_dead e.to e.message q dead) (omega (arith, one))
