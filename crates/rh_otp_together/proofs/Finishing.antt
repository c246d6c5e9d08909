-- A start is over, here or at another node, and the script goes on to the next one.
use Rattle.std.proofs.Common.{◌≡◌, ◌≢◌, ◌≤◌, ◌⊎◌, ◌+◌, ◌++◌, ◌||◌, ℕ, suc, Bool, true, false, cond, List, [], ◌∷◌, map, filter, length, Some, None, refl, sym, ap, subst, ◌∙◌, inl, inr, arith}
use Rattle.std.proofs.lemmas.Bool.{cases_eq, eq-eqb, ne_eqb}
use Rattle.std.proofs.lemmas.List.{append-nil}
use Rattle.std.proofs.lemmas.List.Elements.{All-nil, All-cons}
use Rattle.rh_model.specs.declared.node.App.{App}
use Rattle.rh_model.specs.declared.node.Node.{Node}
use Rattle.rh_model.specs.declared.settings.Restart.{Restart}
use Rattle.rh_otp_model.specs.declared.fault.Outcome.TheVariants.{Done}
use Rattle.rh_otp_model.specs.declared.message.Message.TheVariants as message
use Rattle.rh_otp_model.specs.declared.message.Reply.TheVariants as reply
use Rattle.rh_otp_model.specs.declared.output.Envelope.{Envelope}
use Rattle.rh_otp_model.specs.declared.output.Event.TheVariants as event
use Rattle.rh_otp_model.specs.declared.output.Output.TheVariants as output
use Rattle.rh_otp_model.specs.declared.process.Role.TheVariants as role
use Rattle.rh_otp_model.specs.declared.process.StartType.TheVariants.{Normal}
use Rattle.rh_otp_model.specs.Processes.{process_at}
use Rattle.rh_otp_model.specs.Rows.{keystore}
use Rattle.rh_otp_controller.specs.declared.state.Place.TheVariants as place_of
use Rattle.rh_otp_dist.specs.declared.state.Stand.TheVariants as stand
use Rattle.rh_otp_dist.specs.Attempts.{has_app}
use Rattle.rh_otp_node.specs.Live.{LiveView, permission_rows}
use Rattle.rh_otp_system.specs.Delivering.{arrived}
use Rattle.rh_otp_system.specs.State.{SystemView, node_at, own_at}
use Rattle.rh_otp_crashes.proofs.Peace.{without}
use Rattle.rh_otp_starts.proofs.Turns.{IsSaid, sends}
use Rattle.rh_otp_scripts.proofs.Words.{its_answer, own_news}
use Rattle.rh_otp_joins.proofs.Lists.{more_if, count_of}
use Rattle.rh_otp_together.specs.Together.{BootTogether}
use Rattle.rh_otp_together.proofs.Apps.{same_app, tally, tally_other, none_tallied}
use Rattle.rh_otp_together.proofs.Controlling as controlling
use Rattle.rh_otp_together.proofs.Forms.{app_of, learns, reports, answered, Far, live, Fine, Token, answer, ran, letter, h, is_dist, is_mine, starts_here, place_for, calm, kinds_of, d0, dists, appls_by, some_app, is_inner, inners, told_by, tale_of, telling_weight, ran_weight}
use Rattle.rh_otp_together.proofs.Handling.{dist_with, note}
use Rattle.rh_otp_together.proofs.Moving.{controls}
use Rattle.rh_otp_together.proofs.Needs.{has_rows}
use Rattle.rh_otp_together.proofs.Plain.{IsMine}
use Rattle.rh_otp_together.proofs.Stages.{Stage}
use Rattle.rh_otp_together.proofs.Starting.{no_events}
use Rattle.rh_otp_together.proofs.Voices.{Goes, same_inners}

-- it stands there once still
pub once_more : (a : App) (l : List App) → has_app a l ≡ false → ((c : App) → tally c l ≤ 1) → (c : App) → tally c (a ∷ l) ≤ 1
once_more a l new single c = by (cases_eq a.0 c.0)
  where
    by : (a.0 ≡ c.0) ⊎ (a.0 ≢ c.0) → tally c (a ∷ l) ≤ 1
    by (inl is) =
        let one : tally c (a ∷ l) ≡ suc (tally c l) = ap (λ (d : Bool). more_if d (tally c l)) (eq-eqb a.0 c.0 is) in
        let none : tally a l ≡ 0 = none_tallied a l new in
        let same : tally c l ≡ tally a l = ap (λ (x : App). tally x l) (sym (same_app a c is)) in
        omega (arith, one, none, same)
    by (inr other) =
        let same : tally c (a ∷ l) ≡ tally c l = tally_other c a l other in
        let few : tally c l ≤ 1 = single c in
        omega (arith, same, few)

module _ {b : SystemView} (g : BootTogether b) {left : ℕ} {u : SystemView} (f : Stage b g.at (suc left) u) (m : Node) (a : App)
    (r : Restart)
    (alive : 1 ≤ count_of m b.alive) (messages : List Envelope) (rest : List Token) (left_so : messages ≡ map (letter b g.at) rest) where
  abbrev k : Far
  k = f.far m

  -- the node, with the start over
  abbrev over_with : Bool → Bool → ℕ → LiveView
  over_with here pends place = record (node_at b m) {
    place = place;
    controller = record (calm b g.at m k.done) {
      running = (a, cond here place_of.Here (place_of.At (g.at a))) ∷ (calm b g.at m k.done).running;
      started = (a, Some r) ∷ (calm b g.at m k.done).started;
    };
    dist = Some (dist_with (d0 b g.at m) stand.Idle (map (note g.at) k.mail) k.rows
        (cond (is_dist b g.at m a) (a ∷ dists b g.at m k.done) (dists b g.at m k.done)) []
        (appls_by b g.at m pends (cond (is_dist b g.at m a) (a ∷ dists b g.at m k.done) (dists b g.at m k.done))));
    kinds = cond here (keystore a Normal (kinds_of b g.at m k.done)) (kinds_of b g.at m k.done);
  }

  place_more : length k.done + 1 ≡ suc (length k.done)
  place_more = omega arith

  -- ---- it has started at another node

  abbrev pub learning_it : Far
  learning_it = record (f.far m) { how = learns a r }

  module _ (was : f.far m ≡ learning_it) (inner : filter (is_inner m) rest ≡ inners m (learns a r) k.ran) where
    fine : Fine b g.at m learning_it
    fine = subst (Fine b g.at m) was (f.fine m alive)

    controlled : is_dist b g.at m a ≡ true
    controlled = fine.so.0

    not_here : starts_here b g.at m a ≡ false
    not_here = ap (λ (c : Bool). cond c (is_mine b g.at m a) true) controlled ∙ ne_eqb (g.at a).0 m.0 fine.so.1

    pub learns_so : Goes g f m learning_it rest
        (arrived (process_at (h b g.at m) role.Controller) (message.Reply a (reply.Started (g.at a))) (without u messages))
    learns_so = record {
      next = next;
      extra = [];
      seen = [];
      is = controls g f m learning_it alive was messages (message.Reply a (reply.Started (g.at a))) _ (live b g.at m next) rest
          (answer m ∷ []) []
          (controlling.starts_there b.cluster (own_at b m) (h b g.at m) (permission_rows b.cluster m) (calm b g.at m k.done).running
          (calm b g.at m k.done).started a r
          (g.at a)
          (has_rows (λ (row : App × Restart). place_for b g.at m row.0) a k.done ∙ fine.order.0)
          (has_rows (λ (row : App × Restart). Some row.1) a k.done ∙ fine.order.0))
          (All-cons (IsSaid m) (output.Send (its_answer (h b g.at m) Done)) [] (sends (its_answer (h b g.at m) Done)) (All-nil (IsSaid m)))
          (ap (λ (c : Bool). record (over_with false (some_app k.ran) (length k.done + 1)) {
            dist = Some (dist_with (d0 b g.at m) stand.Idle (map (note g.at) k.mail) k.rows
                (cond c (a ∷ dists b g.at m k.done) (dists b g.at m k.done)) []
                (appls_by b g.at m (some_app k.ran) (cond c (a ∷ dists b g.at m k.done) (dists b g.at m k.done))));
          }) (sym controlled)
          ∙ (λ i. over_with (sym not_here i) (some_app k.ran) (place_more i)))
          refl refl left_so;
      same_rows = refl;
      same_mail = refl;
      asked = ap (λ (c : Bool). cond c (a ∷ dists b g.at m k.done) (dists b g.at m k.done)) controlled;
      told = ap (λ (c : Bool). told_by b g.at m (some_app k.ran) (cond c (a ∷ dists b g.at m k.done) (dists b g.at m k.done))) controlled;
      mine = All-nil (IsMine m);
      voiceless = refl;
      inner = append-nil (filter (is_inner m) rest) ∙ inner ∙ same_inners m (learns a r) answered k.ran refl;
      quiet = refl;
      begun = refl;
      weighs = omega arith;
      fine = record {
        boots = fine.boots;
        order = fine.order.3;
        so = tt;
        lately = inl fine.so.2;
        marked = fine.marked;
        mail = fine.mail;
        single = once_more a (map app_of k.done) fine.order.0 fine.single;
        awaited = tt;
      };
      tells = ap (λ (c : Bool). tale_of b g.at m k.done ++ cond c (event.Started a m Normal ∷ []) []) not_here;
      own = no_events m;
    }
      where
        next : Far
        next = record (f.far m) { how = answered; done = (a, r) ∷ k.done }

  -- ---- the starter reports

  abbrev pub reporting_it : Far
  reporting_it = record (f.far m) { how = reports a r }

  module _ (was : f.far m ≡ reporting_it) (inner : filter (is_inner m) rest ≡ inners m (reports a r) k.ran) where
    fine_report : Fine b g.at m reporting_it
    fine_report = subst (Fine b g.at m) was (f.fine m alive)

    abbrev Reported : Type 0
    Reported = Goes g f m reporting_it rest
        (arrived (process_at (h b g.at m) role.Controller) (message.ApplicationStarted a None) (without u messages))

    reports_dist : is_dist b g.at m a ≡ true → (g.at a).0 ≡ m.0 → k.ran ≡ [] → Reported
    reports_dist controlled mine none = record {
      next = next;
      extra = ran m a ∷ [];
      seen = [];
      is = controls g f m reporting_it alive was messages (message.ApplicationStarted a None) _ (live b g.at m next) rest
          (answer m ∷ ran m a ∷ []) []
          (controlling.reports_dist b.cluster (own_at b m) (h b g.at m) (permission_rows b.cluster m) (calm b g.at m k.done).running
          (calm b g.at m k.done).started a r
          (has_rows (λ (row : App × Restart). place_for b g.at m row.0) a k.done ∙ fine_report.order.0)
          (has_rows (λ (row : App × Restart). Some row.1) a k.done ∙ fine_report.order.0) controlled)
          (All-cons (IsSaid m) (output.Send (its_answer (h b g.at m) Done)) (output.Send (own_news (h b g.at m) a None) ∷ [])
          (sends (its_answer (h b g.at m) Done))
          (All-cons (IsSaid m) (output.Send (own_news (h b g.at m) a None)) [] (sends (own_news (h b g.at m) a None)) (All-nil (IsSaid m))))
          (λ i. over_with (sym here i) (pends i) (place_more i))
          refl refl left_so;
      same_rows = refl;
      same_mail = refl;
      asked = refl;
      told = ap (λ (c : Bool). told_by b g.at m c (cond (is_dist b g.at m a) (a ∷ dists b g.at m k.done) (dists b g.at m k.done)))
          (sym pends);
      mine = All-cons (IsMine m) (ran m a) [] (refl, refl) (All-nil (IsMine m));
      voiceless = refl;
      inner =
          ap (λ (l : List Token). l ++ filter (is_inner m) (ran m a ∷ [])) (inner ∙ ap (inners m (reports a r)) none)
          ∙ ap (λ (c : Bool). cond c (ran m a ∷ []) []) (eq-eqb m.0 m.0 refl);
      quiet = refl;
      begun = refl;
      weighs =
          (let some : cond (is_dist b g.at m a) (telling_weight b g.at m) 0 ≡ telling_weight b g.at m =
          ap (λ (c : Bool). cond c (telling_weight b g.at m) 0) controlled in
          let nought : ran_weight b g.at m k.ran ≡ 0 = ap (ran_weight b g.at m) none in
          omega (arith, some, nought));
      fine = record {
        boots = fine_report.boots;
        order = fine_report.order.3;
        so = tt;
        lately = inr (
          a,
          dists b g.at m k.done,
          refl,
          ap (λ (c : Bool). cond c (a ∷ dists b g.at m k.done) (dists b g.at m k.done))
              controlled,
          mine,
        );
        marked = fine_report.marked;
        mail = fine_report.mail;
        single = once_more a (map app_of k.done) fine_report.order.0 fine_report.single;
        awaited = tt;
      };
      tells =
          ap (λ (c : Bool). tale_of b g.at m k.done ++ cond c (event.Started a m Normal ∷ []) []) here
          ∙ sym (append-nil (tale_of b g.at m k.done ++ event.Started a m Normal ∷ []));
      own = no_events m;
    }
      where
        next : Far
        next = record (f.far m) { how = answered; done = (a, r) ∷ k.done; ran = a ∷ [] }

        here : starts_here b g.at m a ≡ true
        here = ap (λ (c : Bool). cond c (is_mine b g.at m a) true) controlled ∙ eq-eqb (g.at a).0 m.0 mine

        pends : (is_dist b g.at m a || some_app k.ran) ≡ true
        pends = ap (λ (c : Bool). c || some_app k.ran) controlled

    reports_own : is_dist b g.at m a ≡ false → Reported
    reports_own local = record {
      next = next;
      extra = [];
      seen = [];
      is = controls g f m reporting_it alive was messages (message.ApplicationStarted a None) _ (live b g.at m next) rest (answer m ∷ []) []
          (controlling.reports_own b.cluster (own_at b m) (h b g.at m) (permission_rows b.cluster m) (calm b g.at m k.done).running
          (calm b g.at m k.done).started a r
          (has_rows (λ (row : App × Restart). place_for b g.at m row.0) a k.done ∙ fine_report.order.0)
          (has_rows (λ (row : App × Restart). Some row.1) a k.done ∙ fine_report.order.0) local)
          (All-cons (IsSaid m) (output.Send (its_answer (h b g.at m) Done)) [] (sends (its_answer (h b g.at m) Done)) (All-nil (IsSaid m)))
          (λ i. over_with (sym here i) (pends i) (place_more i))
          refl refl left_so;
      same_rows = refl;
      same_mail = refl;
      asked = refl;
      told = ap (λ (c : Bool). told_by b g.at m c (cond (is_dist b g.at m a) (a ∷ dists b g.at m k.done) (dists b g.at m k.done)))
          (sym pends);
      mine = All-nil (IsMine m);
      voiceless = refl;
      inner = append-nil (filter (is_inner m) rest) ∙ inner ∙ same_inners m (reports a r) answered k.ran refl;
      quiet = refl;
      begun = refl;
      weighs =
          (let nought : cond (is_dist b g.at m a) (telling_weight b g.at m) 0 ≡ 0 =
          ap (λ (c : Bool). cond c (telling_weight b g.at m) 0) local in
          omega (arith, nought));
      fine = record {
        boots = fine_report.boots;
        order = fine_report.order.3;
        so = tt;
        lately = fine_report.lately;
        marked = fine_report.marked;
        mail = fine_report.mail;
        single = once_more a (map app_of k.done) fine_report.order.0 fine_report.single;
        awaited = tt;
      };
      tells =
          ap (λ (c : Bool). tale_of b g.at m k.done ++ cond c (event.Started a m Normal ∷ []) []) here
          ∙ sym (append-nil (tale_of b g.at m k.done ++ event.Started a m Normal ∷ []));
      own = no_events m;
    }
      where
        next : Far
        next = record (f.far m) { how = answered; done = (a, r) ∷ k.done }

        here : starts_here b g.at m a ≡ true
        here = ap (λ (c : Bool). cond c (is_mine b g.at m a) true) local

        pends : (is_dist b g.at m a || some_app k.ran) ≡ some_app k.ran
        pends = ap (λ (c : Bool). c || some_app k.ran) local

    pub reports_so : Reported
    reports_so = by fine_report.so
      where
        by : (is_dist b g.at m a ≡ false) ⊎ ((is_dist b g.at m a ≡ true) × ((g.at a).0 ≡ m.0) × (k.ran ≡ [])) → Reported
        by (inl local) = reports_own local
        by (inr (controlled, mine, none)) = reports_dist controlled mine none
