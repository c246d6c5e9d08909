-- Behind a permit by which an application is called back, whichever message arrives first: one answer is owed and then comes, the
-- application stops at the node at which it ran, once, and each message uses up some of what is on its way.
use Rattle.std.proofs.Common.{◌≡◌, ◌≢◌, ◌⊎◌, ◌<◌, ◌+◌, ◌==◌, ◌++◌, ℕ, Bool, true, false, cond, List, [], ◌∷◌, Option, None, Some, refl, sym, ap, subst, ◌∙◌, inl, inr, arith}
use Rattle.std.proofs.lemmas.Bool.{cases_Bool, cases_eq, eq-eqb}
use Rattle.std.proofs.lemmas.Bool.Decides.{nat_tests}
use Rattle.std.proofs.lemmas.List.{append-nil}
use Rattle.std.proofs.lemmas.List.Elements.{All-nil, All-cons}
use Rattle.std.proofs.lemmas.Option.{same_Some}
use Rattle.std.specs.Prelude.{All}
use Rattle.rh_model.specs.declared.node.App.{App}
use Rattle.rh_model.specs.declared.node.Node.{Node}
use Rattle.rh_otp_controller.specs.declared.state.Place.TheVariants.{At}
use Rattle.rh_otp_controller.specs.Calls.{is_here}
use Rattle.rh_otp_controller.specs.State.{ControllerView}
use Rattle.rh_otp_model.specs.declared.fault.Outcome.TheVariants as outcome
use Rattle.rh_otp_model.specs.declared.message.Change.TheVariants as change_of
use Rattle.rh_otp_model.specs.declared.message.Message.TheVariants as message
use Rattle.rh_otp_model.specs.declared.output.Envelope.{Envelope}
use Rattle.rh_otp_model.specs.declared.output.Event.{Event}
use Rattle.rh_otp_model.specs.declared.output.Event.TheVariants as event
use Rattle.rh_otp_model.specs.declared.process.StartType.TheVariants.{Takeover}
use Rattle.rh_otp_model.specs.Own.{controls}
use Rattle.rh_otp_model.specs.Rows.{keyfind, keydelete, has_row}
use Rattle.rh_otp_dist.specs.State.{DistView, is_among}
use Rattle.rh_otp_net.specs.declared.order.Order.{Order}
use Rattle.rh_otp_node.specs.Live.{LiveView}
use Rattle.rh_otp_system.specs.declared.calls.Call.{Call}
use Rattle.rh_otp_system.specs.Delivering.{arrived}
use Rattle.rh_otp_system.specs.Moves.{Reaches, is_quiet_behind}
use Rattle.rh_otp_system.specs.State.{SystemView, node_at, with_node, is_alive_at}
use Rattle.rh_otp_laws.proofs.Nodes.{node_written}
use Rattle.rh_otp_orders.proofs.Taking.{Taken}
use Rattle.rh_otp_crashes.specs.Crashes.{IsUnoccupied}
use Rattle.rh_otp_crashes.proofs.Crossing.{same_node}
use Rattle.rh_otp_crashes.proofs.Peace.{without, arrives_alive, arrives_dead}
use Rattle.rh_otp_crashes.proofs.Posting.{posted_to}
use Rattle.rh_otp_crashes.proofs.Turning.{own_in}
use Rattle.rh_otp_crashes.proofs.Starting.{moves_so, moved, moved_by, seen_by, stops_at}
use Rattle.rh_otp_stops.proofs.Answering.{answered_free}
use Rattle.rh_otp_stops.proofs.Stopping.{there_is}
use Rattle.rh_otp_permits.proofs.Noting.{answer_of, note}
use Rattle.rh_agreement_calls.proofs.Starting.{found_first}
use Rattle.rh_agreement_spread.proofs.HearingStarts.{learned_at}
use Rattle.rh_agreement_spread.proofs.Running.{seen_none, not_here_then}
use Rattle.rh_agreement_spread.proofs.Summing.{sum_of, sum_behind}
use Rattle.rh_agreement_takeovers.proofs.Following.{Giver, shown_answer, told_at, learnt_at}
use Rattle.rh_agreement_permits.proofs.Coming.{keeps_answered, still_alive}
use Rattle.rh_agreement_permits.proofs.Coming as coming
use Rattle.rh_agreement_permits.proofs.Notes.{hears}
use Rattle.rh_agreement_permits.proofs.Notes as notes_of
use Rattle.rh_agreement_grants.proofs.Coming.{ending_kept}
use Rattle.rh_agreement_grants.proofs.Giving as giving
use Rattle.rh_agreement_grants.proofs.Hearing as hearing
use Rattle.rh_agreement_grants.proofs.Taking as taking
use Rattle.rh_agreement_grants.proofs.Words.{Link, is_late, begins, reports, runs, answers, Starts, follows, notes, tells, moves, start_it, it_reports, it_runs}

-- another number isn't the same
not_same : (i j : ℕ) → i ≢ j → (i == j) ≡ false
not_same i j other = grind (arith, nat_tests, other)

none : (b : Bool) → let zeros : ℕ = cond b 0 0 in zeros ≡ 0
none true = refl
none false = refl

module _ {lives : Node → ℕ} {c : Call} {base : SystemView} {v : LiveView} {d : DistView} {at : Node}
    (starts : Starts lives c base v d (change_of.Takeover at None) (Takeover at)) (g : Giver base c at)
    (knows : is_among at d.known ≡ true) where
  abbrev n : Node
  n = c.node

  abbrev a : App
  a = c.app

  abbrev Follows : SystemView → Type 0
  Follows = giving.Follows starts g knows

  abbrev ComesOnHere : SystemView → SystemView → Type 0
  ComesOnHere = giving.ComesOnHere starts g knows

  abbrev Stands : Link → Bool → SystemView → Type 0
  Stands = giving.Stands starts g knows

  abbrev Stops : Bool → Link → SystemView → Type 0
  Stops = giving.Stops starts g knows

  abbrev Gives : SystemView → Type 0
  Gives = giving.Gives starts g knows

  abbrev Soon : Link → List Envelope → Type 0
  Soon = giving.Soon starts g knows

  abbrev IsSaid : Link → Envelope → Type 0
  IsSaid = giving.IsSaid starts g knows

  abbrev owed : Envelope → ℕ
  owed = giving.owed starts g knows

  abbrev cost : Envelope → ℕ
  cost = giving.cost starts g knows

  module _ (s : SystemView) (e : Envelope) (left : List Envelope) (f : Follows s) (taken : Taken e s.messages left) where
    abbrev q : SystemView
    q = without s left

    abbrev then : SystemView
    then = arrived e.to e.message q

    abbrev answer : Envelope
    answer = answer_of lives c outcome.Done

    -- ---- the caller is answered

    answers_it : f.link ≡ answers → e ≡ answer → ComesOnHere s then
    answers_it at_link is =
        let on : Stands answers f.stopped s = subst (λ (k : Link). Stands k f.stopped s) at_link f.stands in
        let owed_one : owed e ≡ 1 = ap owed is in
        let cost_e : cost e ≡ 1 = ap cost is in
        let owing = giving.owes starts g knows s e left f taken in
        let costing = giving.costs starts g knows s e left f taken in
        subst (ComesOnHere s)
        (sym ((λ i. arrived (is i).to (is i).message q)
        ∙ answered_free c f.keeps.stage outcome.Done q f.keeps.calls refl (giving.awake starts g knows s e left f taken)
        (f.keeps.same_lives n ∙ sym starts.life))) (record {
          then = record {
            keeps = keeps_answered lives c base q outcome.Done _ _ (giving.quietly starts g knows s e left f taken);
            nowhere = f.nowhere;
            link = answers;
            said = subst (λ (k : Link). All (IsSaid k) left) at_link (giving.kinds starts g knows s e left f taken).1;
            stopped = f.stopped;
            stands = elim on [
              | inl on_way ↦ inr (refl, shown_answer c at f.stopped s.events on_way.1, omega (arith, owing, owed_one, on_way.2))
              | inr come ↦ absurd (omega (arith, owing, owed_one, come.2))
            ];
            stops = giving.stops_on starts g knows s e left f taken f.stopped answers _ [] refl (sym (append-nil left))
                (ap (told_at at) is ∙ none (n.0 == at.0)) (ap (learnt_at at) is ∙ none (n.0 == at.0))
                (subst (λ (k : Link). Stops f.stopped k s) at_link f.stops);
          };
          less = omega (arith, costing, cost_e);
        })

    -- ---- a third node is told

    module _ (m : Node) (other : m.0 ≢ n.0) (far : m.0 ≢ at.0) (up : is_alive_at s m ≡ true) where
      apart : (m.0 == at.0) ≡ false
      apart = not_same m.0 at.0 far

      notes_far : e ≡ note lives c true false m → ComesOnHere s then
      notes_far is =
          giving.far_acted starts g knows s e left f taken m other new [] [] comes_so refl refl refl refl h.free (ap owed is)
          (All-nil (IsSaid f.link)) refl (omega (arith, costs_one)) (λ different away. away) far refl
          (ap (told_at at) is ∙ none (m.0 == at.0)) (ap (learnt_at at) is ∙ none (m.0 == at.0))
        where
          h : notes_of.Hears m (message.NewPermission n a true false) q
          h = hears m n a true false q up refl (λ x has_it. f.keeps.dists m x up has_it)

          new : LiveView
          new = record (node_at q m) { dist = h.next }

          costs_one : cost e ≡ 1
          costs_one = ap cost is

          nothing_more : with_node m new q ≡ record (with_node m new q) { messages = left ++ []; events = s.events ++ [] }
          nothing_more = λ i. record (with_node m new q) { messages = sym (append-nil left) i; events = sym (append-nil s.events) i }

          comes_so : then ≡ record (with_node m new q) { messages = left ++ []; events = s.events ++ [] }
          comes_so =
              (λ i. arrived (is i).to (is i).message q)
              ∙ arrives_alive (note lives c true false m).to (message.NewPermission n a true false) q up (f.keeps.same_lives m)
              ∙ h.comes ∙ nothing_more

      tells_far : is_late f.link ≡ true → e ≡ posted_to lives n (message.AppStarted n a None) m → ComesOnHere s then
      tells_far late is = by h.kinds
        where
          h : hearing.Hears lives n a m q
          h = hearing.hears lives n m a q (f.keeps.same_lives m) up (λ x has_it. f.keeps.dists m x up has_it)

          new : LiveView
          new = record (node_at q m) { dist = h.next }

          costs_two : cost e ≡ 2
          costs_two = ap cost is

          not_told : told_at at e ≡ 0
          not_told = ap (told_at at) is ∙ ap (λ (b : Bool). cond b 1 0) apart

          comes_so : (more : List Envelope) → h.more ≡ more
              → then ≡ record (with_node m new q) { messages = left ++ more; events = s.events ++ [] }
          comes_so more same =
              (λ i. arrived (is i).to (is i).message q)
              ∙ arrives_alive (posted_to lives n (message.AppStarted n a None) m).to (message.AppStarted n a None) q up
              (f.keeps.same_lives m)
              ∙ h.comes
              ∙ (λ i. record (with_node m new q) { messages = left ++ same i; events = sym (append-nil s.events) i })

          by : (h.more ≡ []) ⊎ (h.more ≡ learned_at lives n a m ∷ []) → ComesOnHere s then
          by (inl nothing) =
              giving.far_acted starts g knows s e left f taken m other new [] [] (comes_so [] nothing) refl refl refl refl h.free
              (ap owed is)
              (All-nil (IsSaid f.link)) refl (omega (arith, costs_two)) (λ different away. away) far refl not_told
              (ap (learnt_at at) is ∙ none (m.0 == at.0))
          by (inr one) =
              giving.far_acted starts g knows s e left f taken m other new (learned_at lives n a m ∷ []) []
              (comes_so (learned_at lives n a m ∷ []) one) refl refl refl refl h.free (ap owed is)
              (All-cons (IsSaid f.link) (learned_at lives n a m) [] (moves late m other) (All-nil (IsSaid f.link))) refl
              (omega (arith, costs_two)) (λ different away. away) far refl not_told (ap (learnt_at at) is ∙ none (m.0 == at.0))

      moves_far : e ≡ learned_at lives n a m → ComesOnHere s then
      moves_far is =
          giving.far_acted starts g knows s e left f taken m other new [] [] comes_so refl refl (ending_kept a n x) refl
          (λ y has_it. f.keeps.dists m y up has_it) (ap owed is) (All-nil (IsSaid f.link)) refl
          (omega (arith, costs_one)) (λ different away. not_here_then a n x away) far refl (ap (told_at at) is ∙ none (m.0 == at.0))
          (ap (learnt_at at) is ∙ ap (λ (b : Bool). cond b 1 0) apart)
        where
          x : ControllerView
          x = (node_at q m).controller

          new : LiveView
          new = record (node_at q m) { controller = moved_by a n x }

          costs_one : cost e ≡ 1
          costs_one = ap cost is

          none_seen : seen_by m a x ≡ []
          none_seen = seen_none m a x (f.nowhere m other far up)

          comes_so : then ≡ record (with_node m new q) { messages = left ++ []; events = s.events ++ [] }
          comes_so =
              (λ i. arrived (is i).to (is i).message q)
              ∙ arrives_alive (learned_at lives n a m).to (learned_at lives n a m).message q up (f.keeps.same_lives m)
              ∙ moves_so m a n q (node_at q m) (there_is q m up)
              ∙ (λ i. record (with_node m new q) { messages = sym (append-nil left) i; events = s.events ++ none_seen i })

    -- ---- where it ran

    awake_at : is_alive_at s at ≡ true
    awake_at = still_alive lives c base s at f.keeps ∙ g.alive

    -- its dist_ac notes the permission
    notes_back : e ≡ note lives c true false at → ComesOnHere s then
    notes_back is = by f.stopped refl f.stops
      where
        costs_one : cost e ≡ 1
        costs_one = ap cost is

        not_told : told_at at e ≡ 0
        not_told = ap (told_at at) is ∙ none (at.0 == at.0)

        not_learnt : learnt_at at e ≡ 0
        not_learnt = ap (learnt_at at) is ∙ none (at.0 == at.0)

        comes_with : (o : Option DistView) → arrived (note lives c true false at).to (message.NewPermission n a true false) q
            ≡ with_node at (record (node_at q at) { dist = o }) q
            → then ≡ record (with_node at (record (node_at q at) { dist = o }) q) { messages = left ++ []; events = s.events ++ [] }
        comes_with o same =
            (λ i. arrived (is i).to (is i).message q) ∙ same
            ∙ (λ i. record (with_node at (record (node_at q at) { dist = o }) q) {
              messages = sym (append-nil left) i;
              events = sym (append-nil s.events) i;
            })

        by : (b : Bool) → f.stopped ≡ b → Stops b f.link s → ComesOnHere s then
        by true is_so away =
            let h : notes_of.Hears at (message.NewPermission n a true false) q =
            hears at n a true false q awake_at refl (λ x has_it. f.keeps.dists at x awake_at has_it) in
            let new : LiveView = record (node_at q at) { dist = h.next } in
            giving.has_acted starts g knows s e left f taken at g.other new [] []
            (comes_with h.next (arrives_alive (note lives c true false at).to (message.NewPermission n a true false) q awake_at
            (f.keeps.same_lives at) ∙ h.comes)) refl refl refl refl h.free (ap owed is) (All-nil (IsSaid f.link)) refl
            (omega (arith, costs_one)) (λ different. absurd (different refl)) true (inl (refl, is_so))
            (ap (λ (w : LiveView). is_here (keyfind a w.controller.running)) (node_written q at (node_at q at) new (there_is q at awake_at))
            ∙ away)
        by false is_so on =
            let h = hearing.notes_there n at a q on.0.dist on.0.has awake_at (f.keeps.dists at on.0.dist awake_at on.0.has)
            on.0.takes_all in
            let new : LiveView = record (node_at q at) { dist = Some h.0.next } in
            let written : node_at (with_node at new q) at ≡ new = node_written q at (node_at q at) new (there_is q at awake_at) in
            giving.has_acted starts g knows s e left f taken at g.other new [] []
            (comes_with (Some h.0.next) (arrives_alive (note lives c true false at).to (message.NewPermission n a true false) q awake_at
            (f.keeps.same_lives at) ∙ h.1)) refl refl refl refl
            (λ y same. subst IsUnoccupied (same_Some h.0.next y same) h.0.free) (ap owed is) (All-nil (IsSaid f.link)) refl
            (omega (arith, costs_one)) (λ different. absurd (different refl)) false (inl (refl, is_so)) (
              record {
                there = ap (λ (w : LiveView). w.controller) written ∙ on.0.there;
                dist = h.0.next;
                has = ap (λ (w : LiveView). w.dist) written;
                takes_all = h.0.takes_all;
                started = h.0.started ∙ on.0.started;
              },
              giving.soon_on starts g knows s e left f taken f.link [] not_told not_learnt on.1,
            )

    -- it hears where the application runs, and tells its controller
    tells_back : is_late f.link ≡ true → e ≡ posted_to lives n (message.AppStarted n a None) at → ComesOnHere s then
    tells_back late is = by f.stopped refl f.stops
      where
        learns : Envelope
        learns = learned_at lives n a at

        costs_two : cost e ≡ 2
        costs_two = ap cost is

        learns_one : learnt_at at learns ≡ 1
        learns_one = ap (λ (b : Bool). cond b 1 0) (eq-eqb at.0 at.0 refl)

        one_said : All (IsSaid f.link) (learns ∷ [])
        one_said = All-cons (IsSaid f.link) learns [] (moves late at g.other) (All-nil (IsSaid f.link))

        comes_with : (o : Option DistView) (made more : List Envelope) → made ≡ more
            → arrived (posted_to lives n (message.AppStarted n a None) at).to (message.AppStarted n a None) q
            ≡ record (with_node at (record (node_at q at) { dist = o }) q) { messages = left ++ made }
            → then ≡ record (with_node at (record (node_at q at) { dist = o }) q) { messages = left ++ more; events = s.events ++ [] }
        comes_with o made more one same =
            (λ i. arrived (is i).to (is i).message q) ∙ same
            ∙ (λ i. record (with_node at (record (node_at q at) { dist = o }) q) {
              messages = left ++ one i;
              events = sym (append-nil s.events) i;
            })

        by : (b : Bool) → f.stopped ≡ b → Stops b f.link s → ComesOnHere s then
        by true is_so away = at_kind h.kinds
          where
            h : hearing.Hears lives n a at q
            h = hearing.hears lives n at a q (f.keeps.same_lives at) awake_at (λ x has_it. f.keeps.dists at x awake_at has_it)

            new : LiveView
            new = record (node_at q at) { dist = h.next }

            gone : is_here (keyfind a (node_at (with_node at new q) at).controller.running) ≡ false
            gone = ap (λ (w : LiveView). is_here (keyfind a w.controller.running))
                (node_written q at (node_at q at) new (there_is q at awake_at)) ∙ away

            comes_so : (more : List Envelope) → h.more ≡ more
                → then ≡ record (with_node at new q) { messages = left ++ more; events = s.events ++ [] }
            comes_so more one =
                comes_with h.next h.more more one
                (arrives_alive (posted_to lives n (message.AppStarted n a None) at).to (message.AppStarted n a None) q awake_at
                (f.keeps.same_lives at) ∙ h.comes)

            at_kind : (h.more ≡ []) ⊎ (h.more ≡ learns ∷ []) → ComesOnHere s then
            at_kind (inl nothing) =
                giving.has_acted starts g knows s e left f taken at g.other new [] [] (comes_so [] nothing) refl refl refl refl h.free
                (ap owed is) (All-nil (IsSaid f.link)) refl (omega (arith, costs_two)) (λ different. absurd (different refl)) true
                (inl (refl, is_so)) gone
            at_kind (inr one) =
                giving.has_acted starts g knows s e left f taken at g.other new (learns ∷ []) [] (comes_so (learns ∷ []) one) refl refl refl
                refl h.free (ap owed is) one_said refl (omega (arith, costs_two)) (λ different. absurd (different refl)) true
                (inl (refl, is_so)) gone
        by false is_so on =
            let h = hearing.tells_there n at a q on.0.dist on.0.has awake_at (f.keeps.dists at on.0.dist awake_at on.0.has)
            on.0.takes_all lives (f.keeps.same_lives at) (ap (λ files. controls (own_in files at) a) f.keeps.files ∙ g.controlled)
            on.0.started in
            let new : LiveView = record (node_at q at) { dist = Some h.0.next } in
            let written : node_at (with_node at new q) at ≡ new = node_written q at (node_at q at) new (there_is q at awake_at) in
            giving.has_acted starts g knows s e left f taken at g.other new (learns ∷ []) []
            (comes_with (Some h.0.next) (learns ∷ []) (learns ∷ []) refl
            (arrives_alive (posted_to lives n (message.AppStarted n a None) at).to (message.AppStarted n a None) q awake_at
            (f.keeps.same_lives at) ∙ h.1)) refl refl refl refl
            (λ y same. subst IsUnoccupied (same_Some h.0.next y same) h.0.free) (ap owed is) one_said refl
            (omega (arith, costs_two)) (λ different. absurd (different refl)) false (inl (refl, is_so)) (
              record {
                there = ap (λ (w : LiveView). w.controller) written ∙ on.0.there;
                dist = h.0.next;
                has = ap (λ (w : LiveView). w.dist) written;
                takes_all = h.0.takes_all;
                started = h.0.started ∙ on.0.started;
              },
              soon f.link,
            )
          where
            sum : sum_of (learnt_at at) (left ++ learns ∷ []) ≡ sum_of (learnt_at at) left + sum_of (learnt_at at) (learns ∷ [])
            sum = sum_behind (learnt_at at) left (learns ∷ [])

            soon : (link : Link) → Soon link (left ++ learns ∷ [])
            soon begins = tt
            soon reports = tt
            soon runs = tt
            soon answers = inl (omega (arith, sum, learns_one))

    -- its controller stops it, if it hasn't
    moves_back : is_late f.link ≡ true → e ≡ learned_at lives n a at → ComesOnHere s then
    moves_back late is = by f.stopped refl f.stops
      where
        x : ControllerView
        x = (node_at q at).controller

        new : LiveView
        new = record (node_at q at) { controller = moved_by a n x }

        costs_one : cost e ≡ 1
        costs_one = ap cost is

        comes_so : (seen : List Event) → seen_by at a x ≡ seen
            → then ≡ record (with_node at new q) { messages = left ++ []; events = s.events ++ seen }
        comes_so seen same =
            (λ i. arrived (is i).to (is i).message q)
            ∙ arrives_alive (learned_at lives n a at).to (learned_at lives n a at).message q awake_at (f.keeps.same_lives at)
            ∙ moves_so at a n q (node_at q at) (there_is q at awake_at)
            ∙ (λ i. record (with_node at new q) { messages = sym (append-nil left) i; events = s.events ++ same i })

        stops_now : (seen : List Event) → seen_by at a x ≡ seen → giving.Shows starts g knows s e left f taken true seen
            → is_here (keyfind a (moved_by a n x).running) ≡ false → ComesOnHere s then
        stops_now seen same shows gone =
            giving.has_acted starts g knows s e left f taken at g.other new [] seen (comes_so seen same) refl refl (ending_kept a n x) refl
            (λ y has_it. f.keeps.dists at y awake_at has_it) (ap owed is) (All-nil (IsSaid f.link)) refl (omega (arith, costs_one))
            (λ different. absurd (different refl)) true shows
            (ap (λ (w : LiveView). is_here (keyfind a w.controller.running)) (node_written q at (node_at q at) new (there_is q at awake_at))
            ∙ gone)

        giver : ControllerView
        giver = (node_at base at).controller

        by : (b : Bool) → f.stopped ≡ b → Stops b f.link s → ComesOnHere s then
        by true is_so away = stops_now [] (seen_none at a x away) (inl (refl, is_so)) (not_here_then a n x away)
        by false is_so on =
            stops_now (event.Stopped a at ∷ [])
            (ap (seen_by at a) on.0.there
            ∙ ap (λ (b : Bool). cond b [] (stops_at at a (keyfind a giver.running) (has_row a giver.started))) g.stays
            ∙ (λ i. stops_at at a (g.runs i) (g.started i)))
            (inr (refl, is_so, refl, late))
            (ap (λ (y : ControllerView). is_here (keyfind a (moved_by a n y).running)) on.0.there
            ∙ ap (λ (b : Bool). is_here (keyfind a (cond b giver (moved a n giver)).running)) g.stays
            ∙ ap is_here (found_first a (At n) (keydelete a giver.running)))

  -- ---- until nothing moves

  -- what is for that node, or for a third one
  for_each : (s : SystemView) (left : List Envelope) (m : Node) (x : Node → Envelope)
      → (Taken (x at) s.messages left → ComesOnHere s (arrived (x at).to (x at).message (without s left)))
      → (m.0 ≢ at.0 → ComesOnHere s (arrived (x m).to (x m).message (without s left)))
      → Taken (x m) s.messages left → ComesOnHere s (arrived (x m).to (x m).message (without s left))
  for_each s left m x back far taken = elim (cases_eq m.0 at.0) [
    | inl same ↦ subst (λ (k : Node). Taken (x k) s.messages left → ComesOnHere s (arrived (x k).to (x k).message (without s left)))
        (sym (same_node m at same)) back taken
    | inr third ↦ far third
  ]

  comes : (s : SystemView) (e : Envelope) (left : List Envelope) (f : Follows s) → Taken e s.messages left → (k : Link) → f.link ≡ k
      → IsSaid k e → ComesOnHere s (arrived e.to e.message (without s left))
  comes s _ left f taken begins at_link follows = taking.begins_it starts g knows s (start_it starts) left f taken at_link refl
  comes s _ left f taken reports at_link follows = taking.reports_it starts g knows s (it_reports starts) left f taken at_link refl
  comes s _ left f taken runs at_link follows = taking.runs_it starts g knows s (it_runs starts) left f taken at_link refl
  comes s _ left f taken answers at_link follows = answers_it s (answer_of lives c outcome.Done) left f taken at_link refl
  comes s _ left f taken k at_link (notes m other) =
      for_each s left m (note lives c true false) (λ there. notes_back s (note lives c true false at) left f there refl)
      (λ far. elim (cases_Bool (is_alive_at s m)) [
        | inl up ↦ notes_far s (note lives c true false m) left f taken m other far up refl
        | inr dead ↦ giving.lost starts g knows s (note lives c true false m) left f taken
            (arrives_dead (note lives c true false m).to (note lives c true false m).message (without s left) dead) refl (omega arith)
            (none (m.0 == at.0)) (none (m.0 == at.0))
      ]) taken
  comes s _ left f taken k at_link (tells late m other) =
      let on : is_late f.link ≡ true = ap is_late at_link ∙ late in
      for_each s left m (posted_to lives n (message.AppStarted n a None))
      (λ there. tells_back s (posted_to lives n (message.AppStarted n a None) at) left f there on refl)
      (λ far. elim (cases_Bool (is_alive_at s m)) [
        | inl up ↦ tells_far s (posted_to lives n (message.AppStarted n a None) m) left f taken m other far up on refl
        | inr dead ↦ giving.lost starts g knows s (posted_to lives n (message.AppStarted n a None) m) left f taken
            (arrives_dead (posted_to lives n (message.AppStarted n a None) m).to (message.AppStarted n a None) (without s left) dead) refl
            (omega arith) (ap (λ (b : Bool). cond b 1 0) (not_same m.0 at.0 far)) (none (m.0 == at.0))
      ]) taken
  comes s _ left f taken k at_link (moves late m other) =
      let on : is_late f.link ≡ true = ap is_late at_link ∙ late in
      for_each s left m (learned_at lives n a) (λ there. moves_back s (learned_at lives n a at) left f there on refl)
      (λ far. elim (cases_Bool (is_alive_at s m)) [
        | inl up ↦ moves_far s (learned_at lives n a m) left f taken m other far up refl
        | inr dead ↦ giving.lost starts g knows s (learned_at lives n a m) left f taken
            (arrives_dead (learned_at lives n a m).to (learned_at lives n a m).message (without s left) dead) refl (omega arith)
            (none (m.0 == at.0)) (ap (λ (b : Bool). cond b 1 0) (not_same m.0 at.0 far))
      ]) taken

  step : (s : SystemView) (e : Envelope) (left : List Envelope) → Follows s → Taken e s.messages left
      → ComesOnHere s (arrived e.to e.message (without s left))
  step s e left f taken = comes s e left f taken f.link refl (giving.kinds starts g knows s e left f taken).0

  pub follow_on : (s t : SystemView) → Reaches s t → Follows s → Follows t
  follow_on s t reaches f = coming.follow_on lives c base Follows cost (λ u h. h.keeps) step s t reaches f

  pub quiet_soon : (k : ℕ) (order : Order) (s : SystemView) → Follows s → sum_of cost s.messages < k → is_quiet_behind k order s ≡ true
  quiet_soon k order s f within = coming.quiet_soon lives c base Follows cost (λ u h. h.keeps) step k order s f within
