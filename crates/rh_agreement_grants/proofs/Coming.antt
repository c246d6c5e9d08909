-- Behind a permit by which an application starts, whichever message arrives first: nodes are as far as they were, the application runs at
-- the node and at no other, one answer is owed and then comes, and each message uses up some of what is on its way.
use Rattle.std.proofs.Common.{◌≡◌, ◌≢◌, ◌⊎◌, ◌<◌, ◌++◌, ℕ, Bool, true, false, cond, List, [], ◌∷◌, None, refl, sym, ap, subst, ◌∙◌, inl, inr, arith}
use Rattle.std.proofs.lemmas.Bool.{cases_Bool}
use Rattle.std.proofs.lemmas.List.{append-nil}
use Rattle.std.proofs.lemmas.List.Elements.{All-nil, All-cons}
use Rattle.std.specs.Prelude.{All}
use Rattle.rh_model.specs.declared.node.App.{App}
use Rattle.rh_model.specs.declared.node.Node.{Node}
use Rattle.rh_otp_controller.specs.State.{ControllerView}
use Rattle.rh_otp_model.specs.declared.fault.Outcome.TheVariants as outcome
use Rattle.rh_otp_model.specs.declared.message.Change.TheVariants as change_of
use Rattle.rh_otp_model.specs.declared.message.Message.TheVariants as message
use Rattle.rh_otp_model.specs.declared.process.StartType.TheVariants.{Normal}
use Rattle.rh_otp_model.specs.declared.output.Envelope.{Envelope}
use Rattle.rh_otp_model.specs.declared.output.Event.TheVariants as event
use Rattle.rh_otp_dist.specs.State.{DistView}
use Rattle.rh_otp_net.specs.declared.order.Order.{Order}
use Rattle.rh_otp_node.specs.Live.{LiveView}
use Rattle.rh_otp_system.specs.declared.calls.Call.{Call}
use Rattle.rh_otp_system.specs.Delivering.{arrived}
use Rattle.rh_otp_system.specs.Moves.{Reaches, is_quiet_behind}
use Rattle.rh_otp_system.specs.State.{SystemView, node_at, with_node, is_alive_at}
use Rattle.rh_otp_orders.proofs.Taking.{Taken}
use Rattle.rh_otp_crashes.proofs.Peace.{without, arrives_alive, arrives_dead}
use Rattle.rh_otp_crashes.proofs.Posting.{posted_to}
use Rattle.rh_otp_crashes.proofs.Starting.{moves_so, moved, moved_by, seen_by}
use Rattle.rh_otp_stops.proofs.Answering.{answered_free}
use Rattle.rh_otp_stops.proofs.Stopping.{there_is}
use Rattle.rh_otp_permits.proofs.Noting.{answer_of, note}
use Rattle.rh_agreement_spread.proofs.HearingStarts.{learned_at}
use Rattle.rh_agreement_spread.proofs.Running.{seen_none, not_here_then}
use Rattle.rh_agreement_spread.proofs.Summing.{sum_of}
use Rattle.rh_agreement_permits.proofs.Coming.{keeps_answered}
use Rattle.rh_agreement_permits.proofs.Coming as coming
use Rattle.rh_agreement_permits.proofs.Notes.{Hears, hears}
use Rattle.rh_agreement_grants.proofs.Following.{Follows, Stands, ComesOnHere, IsSaid, owed, cost, quietly, kinds, costs, owes, awake, lost, has_acted, begins_it, reports_it, runs_it}
use Rattle.rh_agreement_grants.proofs.Hearing as hearing
use Rattle.rh_agreement_grants.proofs.Words.{Link, is_late, begins, reports, runs, answers, Starts, follows, notes, tells, moves, start_it, it_reports, it_runs}

-- a controller that learns where it runs goes on to its end or not, as before
pub ending_kept : (a : App) (j : Node) (x : ControllerView) → (moved_by a j x).is_ending ≡ x.is_ending
ending_kept a j x = by x.is_ending refl
  where
    by : (b : Bool) → x.is_ending ≡ b → (cond b x (moved a j x)).is_ending ≡ x.is_ending
    by true is = refl
    by false is = refl

module _ {lives : Node → ℕ} {c : Call} {base : SystemView} {v : LiveView} {d : DistView}
    (starts : Starts lives c base v d change_of.StartIt Normal) where
  abbrev n : Node
  n = c.node

  abbrev a : App
  a = c.app

  module _ (s : SystemView) (e : Envelope) (left : List Envelope) (f : Follows starts s) (taken : Taken e s.messages left) where
    abbrev q : SystemView
    q = without s left

    abbrev then : SystemView
    then = arrived e.to e.message q

    abbrev answer : Envelope
    answer = answer_of lives c outcome.Done

    -- ---- the caller is answered

    answers_it : f.link ≡ answers → e ≡ answer → ComesOnHere starts s then
    answers_it at is =
        let on : Stands starts answers s = subst (λ (k : Link). Stands starts k s) at f.stands in
        let owed_one : owed starts e ≡ 1 = ap (owed starts) is in
        let cost_e : cost starts e ≡ 1 = ap (cost starts) is in
        let owing = owes starts s e left f taken in
        let costing = costs starts s e left f taken in
        subst (ComesOnHere starts s)
        (sym ((λ i. arrived (is i).to (is i).message q)
        ∙ answered_free c f.keeps.stage outcome.Done q f.keeps.calls refl (awake starts s e left f taken)
        (f.keeps.same_lives n ∙ sym starts.life))) (record {
          then = record {
            keeps = keeps_answered lives c base q outcome.Done _ _ (quietly starts s e left f taken);
            nowhere = f.nowhere;
            link = answers;
            said = subst (λ (k : Link). All (IsSaid starts k) left) at (kinds starts s e left f taken).1;
            stands = elim on [
              | inl on_way ↦ inr (
                refl,
                ap (λ events. events ++ event.Answered c.number ∷ []) on_way.1,
                omega (arith, owing, owed_one, on_way.2),
                on_way.3,
              )
              | inr come ↦ absurd (omega (arith, owing, owed_one, come.2))
            ];
          };
          less = omega (arith, costing, cost_e);
        })

    -- ---- what comes to another node

    module _ (m : Node) (other : m.0 ≢ n.0) (up : is_alive_at s m ≡ true) where
      notes_it : e ≡ note lives c true false m → ComesOnHere starts s then
      notes_it is =
          has_acted starts s e left f taken m other new [] comes_so refl refl refl refl h.free (ap (owed starts) is)
          (All-nil (IsSaid starts f.link)) refl (omega (arith, costs_one)) (λ away. away)
        where
          h : Hears m (message.NewPermission n a true false) q
          h = hears m n a true false q up refl (λ x has_it. f.keeps.dists m x up has_it)

          new : LiveView
          new = record (node_at q m) { dist = h.next }

          costs_one : cost starts e ≡ 1
          costs_one = ap (cost starts) is

          nothing_more : with_node m new q ≡ record (with_node m new q) { messages = left ++ [] }
          nothing_more = λ i. record (with_node m new q) { messages = sym (append-nil left) i }

          comes_so : then ≡ record (with_node m new q) { messages = left ++ [] }
          comes_so =
              (λ i. arrived (is i).to (is i).message q)
              ∙ arrives_alive (note lives c true false m).to (message.NewPermission n a true false) q up (f.keeps.same_lives m)
              ∙ h.comes ∙ nothing_more

      tells_it : is_late f.link ≡ true → e ≡ posted_to lives n (message.AppStarted n a None) m → ComesOnHere starts s then
      tells_it late is = by h.kinds
        where
          h : hearing.Hears lives n a m q
          h = hearing.hears lives n m a q (f.keeps.same_lives m) up (λ x has_it. f.keeps.dists m x up has_it)

          new : LiveView
          new = record (node_at q m) { dist = h.next }

          costs_two : cost starts e ≡ 2
          costs_two = ap (cost starts) is

          comes_so : (more : List Envelope) → h.more ≡ more → then ≡ record (with_node m new q) { messages = left ++ more }
          comes_so more same =
              (λ i. arrived (is i).to (is i).message q)
              ∙ arrives_alive (posted_to lives n (message.AppStarted n a None) m).to (message.AppStarted n a None) q up
              (f.keeps.same_lives m)
              ∙ h.comes ∙ (λ i. record (with_node m new q) { messages = left ++ same i })

          by : (h.more ≡ []) ⊎ (h.more ≡ learned_at lives n a m ∷ []) → ComesOnHere starts s then
          by (inl none) =
              has_acted starts s e left f taken m other new [] (comes_so [] none) refl refl refl refl h.free (ap (owed starts) is)
              (All-nil (IsSaid starts f.link)) refl (omega (arith, costs_two)) (λ away. away)
          by (inr one) =
              has_acted starts s e left f taken m other new (learned_at lives n a m ∷ []) (comes_so (learned_at lives n a m ∷ []) one)
              refl refl refl refl h.free (ap (owed starts) is)
              (All-cons (IsSaid starts f.link) (learned_at lives n a m) [] (moves late m other) (All-nil (IsSaid starts f.link))) refl
              (omega (arith, costs_two)) (λ away. away)

      moves_it : e ≡ learned_at lives n a m → ComesOnHere starts s then
      moves_it is =
          has_acted starts s e left f taken m other new [] comes_so refl refl (ending_kept a n x) refl
          (λ y has_it. f.keeps.dists m y up has_it) (ap (owed starts) is) (All-nil (IsSaid starts f.link)) refl
          (omega (arith, costs_one)) (λ away. not_here_then a n x away)
        where
          x : ControllerView
          x = (node_at q m).controller

          new : LiveView
          new = record (node_at q m) { controller = moved_by a n x }

          costs_one : cost starts e ≡ 1
          costs_one = ap (cost starts) is

          none_seen : seen_by m a x ≡ []
          none_seen = seen_none m a x (f.nowhere m other up)

          nothing_more : record (with_node m new q) { events = s.events ++ [] } ≡ record (with_node m new q) { messages = left ++ [] }
          nothing_more = λ i. record (with_node m new q) { messages = sym (append-nil left) i; events = append-nil s.events i }

          comes_so : then ≡ record (with_node m new q) { messages = left ++ [] }
          comes_so =
              (λ i. arrived (is i).to (is i).message q)
              ∙ arrives_alive (learned_at lives n a m).to (learned_at lives n a m).message q up (f.keeps.same_lives m)
              ∙ moves_so m a n q (node_at q m) (there_is q m up)
              ∙ (λ i. record (with_node m new q) { events = s.events ++ none_seen i }) ∙ nothing_more

    -- what is lost
    dies : (m : Node) → e.to ≡ (note lives c true false m).to → is_alive_at s m ≡ false → owed starts e ≡ 0 → 0 < cost starts e
        → ComesOnHere starts s then
    dies m to dead none some =
        lost starts s e left f taken
        (ap (λ p. arrived p e.message q) to ∙ arrives_dead (note lives c true false m).to e.message q dead) none some

  -- ---- until nothing moves

  comes : (s : SystemView) (e : Envelope) (left : List Envelope) (f : Follows starts s) → Taken e s.messages left → (k : Link) → f.link ≡ k
      → IsSaid starts k e → ComesOnHere starts s (arrived e.to e.message (without s left))
  comes s _ left f taken begins at follows = begins_it starts s (start_it starts) left f taken at refl
  comes s _ left f taken reports at follows = reports_it starts s (it_reports starts) left f taken at refl
  comes s _ left f taken runs at follows = runs_it starts s (it_runs starts) left f taken at refl
  comes s _ left f taken answers at follows = answers_it s (answer_of lives c outcome.Done) left f taken at refl
  comes s _ left f taken k at (notes m other) = elim (cases_Bool (is_alive_at s m)) [
    | inl up ↦ notes_it s (note lives c true false m) left f taken m other up refl
    | inr dead ↦ dies s (note lives c true false m) left f taken m refl dead refl (omega arith)
  ]
  comes s _ left f taken k at (tells late m other) = elim (cases_Bool (is_alive_at s m)) [
    | inl up ↦ tells_it s (posted_to lives n (message.AppStarted n a None) m) left f taken m other up (ap is_late at ∙ late) refl
    | inr dead ↦ dies s (posted_to lives n (message.AppStarted n a None) m) left f taken m refl dead refl (omega arith)
  ]
  comes s _ left f taken k at (moves late m other) = elim (cases_Bool (is_alive_at s m)) [
    | inl up ↦ moves_it s (learned_at lives n a m) left f taken m other up refl
    | inr dead ↦ lost starts s (learned_at lives n a m) left f taken
        (arrives_dead (learned_at lives n a m).to (learned_at lives n a m).message (without s left) dead) refl (omega arith)
  ]

  step : (s : SystemView) (e : Envelope) (left : List Envelope) → Follows starts s → Taken e s.messages left
      → ComesOnHere starts s (arrived e.to e.message (without s left))
  step s e left f taken = comes s e left f taken f.link refl (kinds starts s e left f taken).0

  pub follow_on : (s t : SystemView) → Reaches s t → Follows starts s → Follows starts t
  follow_on s t reaches f = coming.follow_on lives c base (Follows starts) (cost starts) (λ u g. g.keeps) step s t reaches f

  pub quiet_soon : (k : ℕ) (order : Order) (s : SystemView) → Follows starts s → sum_of (cost starts) s.messages < k
      → is_quiet_behind k order s ≡ true
  quiet_soon k order s f within =
      coming.quiet_soon lives c base (Follows starts) (cost starts) (λ u g. g.keeps) step k order s f within
