-- A script asks for a start, or dist_ac has its controller start the application.
use Rattle.std.proofs.Common.{◌≡◌, ◌≤◌, ◌⊎◌, ◌+◌, ◌++◌, ◌||◌, ℕ, suc, Bool, true, false, cond, List, [], ◌∷◌, map, filter, Some, None, refl, sym, ap, subst, ◌∙◌, inl, inr, arith}
use Rattle.std.specs.Prelude.{All}
use Rattle.std.proofs.lemmas.Bool.{cases_Bool, eq-eqb}
use Rattle.std.proofs.lemmas.List.{append-nil}
use Rattle.std.proofs.lemmas.List.Elements.{All-nil, All-cons}
use Rattle.rh_model.specs.declared.node.App.{App}
use Rattle.rh_model.specs.declared.node.Node.{Node}
use Rattle.rh_model.specs.declared.settings.Restart.{Restart}
use Rattle.rh_otp_model.specs.declared.message.Message.TheVariants as message
use Rattle.rh_otp_model.specs.declared.message.Reply.TheVariants as reply
use Rattle.rh_otp_model.specs.declared.output.Envelope.{Envelope}
use Rattle.rh_otp_model.specs.declared.output.Event.{Event}
use Rattle.rh_otp_model.specs.declared.output.Event.TheVariants as event
use Rattle.rh_otp_model.specs.declared.output.Output.TheVariants as output
use Rattle.rh_otp_model.specs.declared.process.Role.TheVariants as role
use Rattle.rh_otp_model.specs.declared.process.StartType.TheVariants.{Normal}
use Rattle.rh_otp_model.specs.Processes.{process_at}
use Rattle.rh_otp_controller.specs.State.{TurnView}
use Rattle.rh_otp_dist.specs.declared.state.Stand.TheVariants as stand
use Rattle.rh_otp_node.specs.Live.{permission_rows}
use Rattle.rh_otp_system.specs.Delivering.{arrived}
use Rattle.rh_otp_system.specs.State.{SystemView, own_at}
use Rattle.rh_otp_orders.specs.Orders.{node_told}
use Rattle.rh_otp_crashes.proofs.Peace.{without}
use Rattle.rh_otp_starts.proofs.Turns.{IsSaid, sends, shows}
use Rattle.rh_otp_scripts.proofs.Words.{its_request, its_report}
use Rattle.rh_otp_joins.proofs.Lists.{count_of}
use Rattle.rh_otp_together.specs.Together.{BootTogether}
use Rattle.rh_otp_together.proofs.Controlling as controlling
use Rattle.rh_otp_together.proofs.Forms.{requests, asks, starts, reports, Far, live, Fine, Token, request, report, ran, letter, h, is_dist, place_for, calm, d0, dists, appls_by, some_app, is_inner, inners, told_by, tale_of, telling_weight, request_weight, IsLately}
use Rattle.rh_otp_together.proofs.Handling.{dist_with, note}
use Rattle.rh_otp_together.proofs.Moving.{controls}
use Rattle.rh_otp_together.proofs.Needs.{has_rows, lacks_none, is_allowed}
use Rattle.rh_otp_together.proofs.Plain.{IsMine}
use Rattle.rh_otp_together.proofs.Stages.{Stage}
use Rattle.rh_otp_together.proofs.Voices.{Goes, same_inners}

-- with one more to the inner ones
pub one_more_inner : (m : Node) (a : App) (r : Restart) (l : List App)
    → inners m (asks a r) l ++ filter (is_inner m) (request m a ∷ []) ≡ inners m (requests a r) l
one_more_inner m a r [] = ap (λ (c : Bool). cond c (request m a ∷ []) []) (eq-eqb m.0 m.0 refl)
one_more_inner m a r (x ∷ l) = ap (λ (c : Bool). ran m x ∷ cond c (request m a ∷ []) []) (eq-eqb m.0 m.0 refl)

pub no_events : (m : Node) → All (λ (e : Event). node_told e ≡ Some m) []
no_events m = All-nil (λ (e : Event). node_told e ≡ Some m)

module _ {b : SystemView} (g : BootTogether b) {left : ℕ} {u : SystemView} (f : Stage b g.at (suc left) u) (m : Node) (a : App)
    (r : Restart)
    (alive : 1 ≤ count_of m b.alive) (messages : List Envelope) (rest : List Token) (left_so : messages ≡ map (letter b g.at) rest) where
  abbrev k : Far
  k = f.far m

  abbrev t0 : TurnView
  t0 = controlling.t b.cluster (own_at b m) (h b g.at m) (permission_rows b.cluster m) (calm b g.at m k.done).running
      (calm b g.at m k.done).started a r

  abbrev t1 : TurnView
  t1 = controlling.waiting b.cluster (own_at b m) (h b g.at m) (permission_rows b.cluster m) (calm b g.at m k.done).running
      (calm b g.at m k.done).started a r

  -- ---- the script asks

  abbrev pub asking_it : Far
  asking_it = record (f.far m) { how = asks a r }

  module _ (was : f.far m ≡ asking_it) (inner : filter (is_inner m) rest ≡ inners m (asks a r) k.ran) where
    fine : Fine b g.at m asking_it
    fine = subst (Fine b g.at m) was (f.fine m alive)

    started_at_dist : is_dist b g.at m a ≡ true
        → Goes g f m asking_it rest
        (arrived (process_at (h b g.at m) role.Controller) (message.Start a r (process_at (h b g.at m) role.Boot)) (without u messages))
    started_at_dist controlled = record {
      next = next;
      extra = request m a ∷ [];
      seen = [];
      is = controls g f m asking_it alive was messages (message.Start a r (process_at (h b g.at m) role.Boot)) _ (live b g.at m next) rest
          (request m a ∷ []) []
          (controlling.asks_dist b.cluster (own_at b m) (h b g.at m) (permission_rows b.cluster m) (calm b g.at m k.done).running
          (calm b g.at m k.done).started a r
          (has_rows (λ (row : App × Restart). place_for b g.at m row.0) a k.done ∙ fine.order.0)
          (lacks_none b m (λ (row : App × Restart). Some row.1) a k.done t0 refl refl fine.order.1) controlled)
          (All-cons (IsSaid m) (output.Send (its_request (h b g.at m) a)) [] (sends (its_request (h b g.at m) a)) (All-nil (IsSaid m)))
          refl refl refl left_so;
      same_rows = refl;
      same_mail = refl;
      asked = refl;
      told = refl;
      mine = All-cons (IsMine m) (request m a) [] (refl, refl) (All-nil (IsMine m));
      voiceless = refl;
      inner = ap (λ (l : List Token). l ++ filter (is_inner m) (request m a ∷ [])) inner ∙ one_more_inner m a r k.ran;
      quiet = refl;
      begun = refl;
      weighs =
          (let is : cond (is_dist b g.at m a) (1 + request_weight b g.at m a) 3 ≡ 1 + request_weight b g.at m a =
          ap (λ (c : Bool). cond c (1 + request_weight b g.at m a) 3) controlled in
          omega (arith, is));
      fine = record {
        boots = fine.boots;
        order = fine.order;
        so = controlled;
        lately = fine.lately;
        marked = fine.marked;
        mail = fine.mail;
        single = fine.single;
        awaited = tt;
      };
      tells = sym (append-nil (tale_of b g.at m k.done));
      own = no_events m;
    }
      where
        next : Far
        next = record (f.far m) { how = requests a r }

    started_own : is_dist b g.at m a ≡ false
        → Goes g f m asking_it rest
        (arrived (process_at (h b g.at m) role.Controller) (message.Start a r (process_at (h b g.at m) role.Boot)) (without u messages))
    started_own local = record {
      next = next;
      extra = [];
      seen = event.Started a m Normal ∷ [];
      is = controls g f m asking_it alive was messages (message.Start a r (process_at (h b g.at m) role.Boot)) _ (live b g.at m next) rest
          (report m a ∷ []) (event.Started a m Normal ∷ [])
          (controlling.starts_own b.cluster (own_at b m) (h b g.at m) (permission_rows b.cluster m) (calm b g.at m k.done).running
          (calm b g.at m k.done).started a r
          (has_rows (λ (row : App × Restart). place_for b g.at m row.0) a k.done ∙ fine.order.0)
          (lacks_none b m (λ (row : App × Restart). Some row.1) a k.done t0 refl refl fine.order.1) local
          (is_allowed b.cluster m a (fine.order.2 local))
          (lacks_none b m (λ (row : App × Restart). place_for b g.at m row.0) a k.done t0 refl refl fine.order.1))
          (All-cons (IsSaid m) (output.Tell (event.Started a m Normal)) (output.Send (its_report (h b g.at m) a None) ∷ []) (shows a Normal)
          (All-cons (IsSaid m) (output.Send (its_report (h b g.at m) a None)) [] (sends (its_report (h b g.at m) a None))
          (All-nil (IsSaid m))))
          (ap (λ (c : Bool). record (live b g.at m next) {
            dist = Some (dist_with (d0 b g.at m) stand.Idle (map (note g.at) k.mail) k.rows
                (cond c (a ∷ dists b g.at m k.done) (dists b g.at m k.done)) []
                (appls_by b g.at m (c || some_app k.ran) (cond c (a ∷ dists b g.at m k.done) (dists b g.at m k.done))));
          }) (sym local))
          refl refl left_so;
      same_rows = refl;
      same_mail = refl;
      asked = ap (λ (c : Bool). cond c (a ∷ dists b g.at m k.done) (dists b g.at m k.done)) local;
      told = ap (λ (c : Bool). told_by b g.at m (c || some_app k.ran) (cond c (a ∷ dists b g.at m k.done) (dists b g.at m k.done))) local;
      mine = All-nil (IsMine m);
      voiceless = refl;
      inner = append-nil (filter (is_inner m) rest) ∙ inner ∙ same_inners m (asks a r) (reports a r) k.ran refl;
      quiet = refl;
      begun = refl;
      weighs =
          (let is : cond (is_dist b g.at m a) (1 + request_weight b g.at m a) 3 ≡ 3 =
          ap (λ (c : Bool). cond c (1 + request_weight b g.at m a) 3) local in
          let none : cond (is_dist b g.at m a) (telling_weight b g.at m) 0 ≡ 0 =
          ap (λ (c : Bool). cond c (telling_weight b g.at m) 0) local in
          omega (arith, is, none));
      fine = record {
        boots = fine.boots;
        order = fine.order;
        so = inl local;
        lately = subst (IsLately b g.at m k.ran)
            (sym (ap (λ (c : Bool). cond c (a ∷ dists b g.at m k.done) (dists b g.at m k.done)) local)) fine.lately;
        marked = fine.marked;
        mail = fine.mail;
        single = fine.single;
        awaited = tt;
      };
      tells = refl;
      own = All-cons (λ (e : Event). node_told e ≡ Some m) (event.Started a m Normal) [] refl (no_events m);
    }
      where
        next : Far
        next = record (f.far m) { how = reports a r }

    pub starts_so : Goes g f m asking_it rest
        (arrived (process_at (h b g.at m) role.Controller) (message.Start a r (process_at (h b g.at m) role.Boot)) (without u messages))
    starts_so = by (cases_Bool (is_dist b g.at m a))
      where
        by : (is_dist b g.at m a ≡ true) ⊎ (is_dist b g.at m a ≡ false)
            → Goes g f m asking_it rest
            (arrived (process_at (h b g.at m) role.Controller) (message.Start a r (process_at (h b g.at m) role.Boot))
            (without u messages))
        by (inl controlled) = started_at_dist controlled
        by (inr local) = started_own local

  -- ---- dist_ac has it start here

  abbrev pub starting_it : Far
  starting_it = record (f.far m) { how = starts a r }

  module _ (was : f.far m ≡ starting_it) (inner : filter (is_inner m) rest ≡ inners m (starts a r) k.ran) where
    fine_yes : Fine b g.at m starting_it
    fine_yes = subst (Fine b g.at m) was (f.fine m alive)

    pub starts_here : Goes g f m starting_it rest
        (arrived (process_at (h b g.at m) role.Controller) (message.Reply a reply.StartIt) (without u messages))
    starts_here = record {
      next = next;
      extra = [];
      seen = event.Started a m Normal ∷ [];
      is = controls g f m starting_it alive was messages (message.Reply a reply.StartIt) _ (live b g.at m next) rest (report m a ∷ [])
          (event.Started a m Normal ∷ [])
          (controlling.starts_here b.cluster (own_at b m) (h b g.at m) (permission_rows b.cluster m) (calm b g.at m k.done).running
          (calm b g.at m k.done).started a r
          (lacks_none b m (λ (row : App × Restart). place_for b g.at m row.0) a k.done t1 refl refl fine_yes.order.1))
          (All-cons (IsSaid m) (output.Tell (event.Started a m Normal)) (output.Send (its_report (h b g.at m) a None) ∷ []) (shows a Normal)
          (All-cons (IsSaid m) (output.Send (its_report (h b g.at m) a None)) [] (sends (its_report (h b g.at m) a None))
          (All-nil (IsSaid m))))
          (ap (λ (c : Bool). record (live b g.at m next) {
            dist = Some (dist_with (d0 b g.at m) stand.Idle (map (note g.at) k.mail) k.rows
                (cond c (a ∷ dists b g.at m k.done) (dists b g.at m k.done)) []
                (appls_by b g.at m (c || some_app k.ran) (cond c (a ∷ dists b g.at m k.done) (dists b g.at m k.done))));
          }) (sym controlled))
          refl refl left_so;
      same_rows = refl;
      same_mail = refl;
      asked = ap (λ (c : Bool). cond c (a ∷ dists b g.at m k.done) (dists b g.at m k.done)) controlled;
      told = ap (λ (c : Bool). told_by b g.at m (c || some_app k.ran) (cond c (a ∷ dists b g.at m k.done) (dists b g.at m k.done)))
          controlled;
      mine = All-nil (IsMine m);
      voiceless = refl;
      inner = append-nil (filter (is_inner m) rest) ∙ inner ∙ same_inners m (starts a r) (reports a r) k.ran refl;
      quiet = refl;
      begun = refl;
      weighs =
          (let some : cond (is_dist b g.at m a) (telling_weight b g.at m) 0 ≡ telling_weight b g.at m =
          ap (λ (c : Bool). cond c (telling_weight b g.at m) 0) controlled in
          omega (arith, some));
      fine = record {
        boots = fine_yes.boots;
        order = fine_yes.order;
        so = inr (controlled, fine_yes.so.1, fine_yes.so.2);
        lately = inl fine_yes.so.2;
        marked = fine_yes.marked;
        mail = fine_yes.mail;
        single = fine_yes.single;
        awaited = tt;
      };
      tells = refl;
      own = All-cons (λ (e : Event). node_told e ≡ Some m) (event.Started a m Normal) [] refl (no_events m);
    }
      where
        next : Far
        next = record (f.far m) { how = reports a r }

        controlled : is_dist b g.at m a ≡ true
        controlled = fine_yes.so.0
