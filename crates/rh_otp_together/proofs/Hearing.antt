-- The news of another node's start comes to a dist_ac: it notes it, or keeps it in its mailbox, or has waited for it.
use Rattle.std.proofs.Common.{◌≡◌, ◌≢◌, ◌≤◌, ◌⊎◌, ◌+◌, ◌++◌, ◌==◌, ◌&&◌, ℕ, suc, Bool, true, false, List, [], ◌∷◌, map, Some, refl, sym, ap, subst, ◌∙◌, inl, inr, arith, cond, filter}
use Rattle.std.specs.Prelude.{All}
use Rattle.std.proofs.Math.Bool.{and-false}
use Rattle.std.proofs.lemmas.Bool.{cases_eq, eq-eqb, ne_eqb, false≢true, cases_Bool}
use Rattle.std.proofs.lemmas.List.{append-nil, map-append}
use Rattle.std.proofs.lemmas.List.Elements.{All-nil, All-cons, All-append, All-weaker}
use Rattle.rh_model.specs.declared.node.App.{App}
use Rattle.rh_model.specs.declared.node.Node.{Node}
use Rattle.rh_model.specs.declared.settings.Restart.{Restart}
use Rattle.rh_otp_model.specs.declared.message.Message.{Message}
use Rattle.rh_otp_model.specs.declared.output.Envelope.{Envelope}
use Rattle.rh_otp_model.specs.declared.process.Role.TheVariants as role
use Rattle.rh_otp_model.specs.Processes.{process_at}
use Rattle.rh_otp_dist.specs.declared.state.Stand.TheVariants as stand
use Rattle.rh_otp_dist.specs.Attempts.{has_app}
use Rattle.rh_otp_dist.specs.State.{DistView}
use Rattle.rh_otp_dist.specs.Told.{add_remote}
use Rattle.rh_otp_dist.specs.Waiting.{takes}
use Rattle.rh_otp_node.specs.Live.{LiveView}
use Rattle.rh_otp_system.specs.Delivering.{arrived}
use Rattle.rh_otp_system.specs.State.{SystemView, live_at, with_node, own_at}
use Rattle.rh_otp_crashes.proofs.Crossing.{same_node}
use Rattle.rh_otp_crashes.proofs.Peace.{without}
use Rattle.rh_otp_crashes.proofs.Turning.{own_in, weighing, turn, works_on, works_idle, works_waiting}
use Rattle.rh_otp_joins.proofs.Lists.{more_if, count_of}
use Rattle.rh_otp_gathers.proofs.Stages.{drawn_all}
use Rattle.rh_otp_gathers.proofs.Tokens.{total, Drawn, drawn_total}
use Rattle.rh_otp_together.specs.Together.{BootTogether}
use Rattle.rh_otp_together.proofs.Apps.{tally, tally_rows, tally_more, tallied_none, IsMarked}
use Rattle.rh_otp_together.proofs.Forms.{How, unbegun, asks, requests, stands, starts, learns, reports, answered, over, Far, live, Fine, IsAwaited, Token, news, letter, h, d0, dists, asked_by, pends_by, some_app, appls_by, dist_of, may_itself, is_inner, is_voice, is_standing, news_of, token_weight, tale, onto, is_news, all_said}
use Rattle.rh_otp_together.proofs.Handling.{dist_with, note, notes}
use Rattle.rh_otp_together.proofs.Deciding as deciding
use Rattle.rh_otp_together.proofs.Lives.{came_once}
use Rattle.rh_otp_together.proofs.Moving.{comes_to, there_now}
use Rattle.rh_otp_together.proofs.Needs.{once_of}
use Rattle.rh_otp_together.proofs.Queues.{onto_more, skipped}
use Rattle.rh_otp_together.proofs.Stages.{IsHeld, changed, changed_here, changed_other, got, asked_of, IsOf, Stage, drawn_apart, heard, row_app, come}
use Rattle.rh_otp_together.proofs.Starting.{no_events}
use Rattle.rh_otp_together.proofs.Stepping.{stepped}
use Rattle.rh_otp_together.proofs.Telling.{idle_so, no_mail}
use Rattle.rh_otp_together.proofs.Voices.{still_waiting}

-- of the news to the node of what is left to one node these are the first
abbrev pub IsNext : (App → Node) → Node → App → List Token → List Token → Type 0
IsNext at m a tokens rest = (n : Node) (q : App → Bool) → ((c : App) → q c ≡ true → (at c).0 ≡ n.0) → q a ≡ true
    → filter (is_news m q) tokens ≡ news m a ∷ filter (is_news m q) rest

module _ {b : SystemView} (g : BootTogether b) {left : ℕ} {u : SystemView} (f : Stage b g.at (suc left) u) (m : Node) (a : App)
    (alive : 1 ≤ count_of m b.alive) (messages : List Envelope) (rest : List Token) (left_so : messages ≡ map (letter b g.at) rest)
    (drawn : Drawn (news m a) f.tokens rest) where
  abbrev k : Far
  k = f.far m

  abbrev s : SystemView
  s = without u messages

  -- it is on its way once less
  pub fewer_news : (x : Node) (c : App) → total (news_of x c) f.tokens ≡ more_if (m.0 == x.0 && a.0 == c.0) 0 + total (news_of x c) rest
  fewer_news x c = drawn_total (news_of x c) (news m a) f.tokens rest drawn

  pub itself : total (news_of m a) f.tokens ≡ suc (total (news_of m a) rest)
  itself =
      let less : total (news_of m a) f.tokens ≡ more_if (m.0 == m.0 && a.0 == a.0) 0 + total (news_of m a) rest = fewer_news m a in
      let one : more_if (m.0 == m.0 && a.0 == a.0) 0 ≡ 1 = (λ i. more_if (eq-eqb m.0 m.0 refl i && eq-eqb a.0 a.0 refl i) 0) in
      (let same : total (news_of m a) f.tokens ≡ suc (total (news_of m a) rest) = omega (arith, less, one) in same)

  pub came : ((g.at a).0 ≢ m.0) × (got f.tokens (f.far m) m a ≡ 1) × (tally a (asked_of b g.at m (f.far m)) ≡ 0)
  came = came_once g f m a alive (let some : total (news_of m a) f.tokens ≡ suc (total (news_of m a) rest) = itself in omega (arith, some))

  pub nowhere_else : (tally a k.mail ≡ 0) × (tally_rows a k.rows ≡ 0)
  nowhere_else =
      let some : total (news_of m a) f.tokens ≡ suc (total (news_of m a) rest) = itself in
      let all : got f.tokens (f.far m) m a ≡ 1 = came.1 in (
        (let one : tally a k.mail ≡ 0 = omega (arith, some, all) in one),
        (let other : tally_rows a k.rows ≡ 0 = omega (arith, some, all) in other),
      )

  pub new_to_it : has_app a (asked_by b g.at m k.how k.done) ≡ false
  new_to_it = tallied_none a (asked_by b g.at m k.how k.done) came.2

  pub other_news : (c : App) → total (news_of m c) f.tokens ≡ more_if (a.0 == c.0) 0 + total (news_of m c) rest
  other_news c = fewer_news m c ∙ ap (λ (d : Bool). more_if (d && a.0 == c.0) 0 + total (news_of m c) rest) (eq-eqb m.0 m.0 refl)

  pub elsewhere_news : (x : Node) (c : App) → x.0 ≢ m.0 → total (news_of x c) f.tokens ≡ total (news_of x c) rest
  elsewhere_news x c other =
      let less : total (news_of x c) f.tokens ≡ more_if (m.0 == x.0 && a.0 == c.0) 0 + total (news_of x c) rest = fewer_news x c in
      let none : more_if (m.0 == x.0 && a.0 == c.0) 0 ≡ 0 =
      ap (λ (d : Bool). more_if (d && a.0 == c.0) 0) (ne_eqb m.0 x.0 (λ is. other (sym is))) in
      (let same : total (news_of x c) f.tokens ≡ total (news_of x c) rest = omega (arith, less, none) in same)

  plus : (d : Bool) (j : ℕ) → more_if d j ≡ more_if d 0 + j
  plus true j = omega arith
  plus false j = omega arith

  -- ---- it is kept, as a row or in the mailbox

  abbrev kept_with : List (App × Node) → List App → Far
  kept_with rows mail = record (f.far m) { rows = rows; mail = mail }

  same_locks : (next : Far) → next.how ≡ k.how → All (IsHeld b f.far) u.locks → All (IsHeld b (changed m f.far next)) u.locks
  same_locks next how all = All-weaker (IsHeld b f.far) (IsHeld b (changed m f.far next)) (λ x is. record {
    node = is.node;
    alive = is.alive;
    standing = stands_still is.node is.standing (cases_eq is.node.0 m.0);
    is = is.is;
  }) u.locks all
    where
      stands_still : (n : Node) → is_standing (f.far n).how ≡ true → (n.0 ≡ m.0) ⊎ (n.0 ≢ m.0) → is_standing (changed m f.far next n).how
          ≡ true
      stands_still n is (inl same) =
          ap (λ (y : Far). is_standing y.how) (changed_here m f.far next n same) ∙ ap is_standing how
          ∙ ap (λ (y : Node). is_standing (f.far y).how) (sym (same_node n m same)) ∙ is
      stands_still n is (inr other) = ap (λ (y : Far). is_standing y.how) (changed_other m f.far next n other) ∙ is

  -- what is so of both
  kept : (rows : List (App × Node)) (mail : List App) → IsNext g.at m a f.tokens rest
      → onto mail (map row_app rows) ≡ a ∷ onto k.mail (map row_app k.rows)
      → Fine b g.at m (kept_with rows mail)
      → ((c : App) → tally c mail + tally_rows c rows ≡ more_if (a.0 == c.0) 0 + tally c k.mail + tally_rows c k.rows)
      → arrived (process_at (h b g.at m) role.DistAc) (note g.at a) s ≡ with_node m (live b g.at m (kept_with rows mail)) s
      → Stage b g.at left (arrived (process_at (h b g.at m) role.DistAc) (note g.at a) s)
  kept rows mail next_one in_front fine counts comes = stepped f m (arrived (process_at (h b g.at m) role.DistAc) (note g.at a) s)
      (once_of g m alive)
      (record {
        next = kept_with rows mail;
        tokens = rest;
        waiting = f.waiting;
        seen = [];
        locks = u.locks;
        is = comes ∙ (λ i. record (with_node m (live b g.at m (kept_with rows mail)) u) {
          messages = left_so i;
          slow = (ap (λ (x : SystemView). x.slow) f.same) i;
          events = sym (append-nil u.events) i;
        });
        weighs =
            (let less : total token_weight f.tokens ≡ 1 + total token_weight rest =
            drawn_total token_weight (news m a) f.tokens rest drawn in
            omega (arith, less));
        fine = fine;
        locked = same_locks (kept_with rows mail) refl f.locks;
        slow = still_waiting b f.far m (kept_with rows mail) f.waiting refl f.slow;
        known = (drawn_all (IsOf b) (news m a) f.tokens rest f.known drawn).1;
        voiced = sym (drawn_apart (is_voice m) (news m a) f.tokens rest drawn refl) ∙ f.voiced m alive;
        inner = sym (drawn_apart (is_inner m) (news m a) f.tokens rest drawn refl) ∙ f.inner m alive;
        voiced_else = λ x other. sym (drawn_apart (is_voice x) (news m a) f.tokens rest drawn refl);
        inner_else = λ x other. sym (drawn_apart (is_inner x) (news m a) f.tokens rest drawn refl);
        sums = λ c away.
            (let less : total (news_of m c) f.tokens ≡ more_if (a.0 == c.0) 0 + total (news_of m c) rest = other_news c in
            let same : tally c mail + tally_rows c rows ≡ more_if (a.0 == c.0) 0 + tally c k.mail + tally_rows c k.rows = counts c in
            omega (arith, less, same));
        homes = λ c home.
            (let less : total (news_of m c) f.tokens ≡ more_if (a.0 == c.0) 0 + total (news_of m c) rest = other_news c in
            let same : tally c mail + tally_rows c rows ≡ more_if (a.0 == c.0) 0 + tally c k.mail + tally_rows c k.rows = counts c in
            omega (arith, less, same));
        near = λ x c there other home. (let less : total (news_of x c) f.tokens ≡ total (news_of x c) rest = elsewhere_news x c other in
            omega (arith, less));
        apart = λ x c there other away. sym (elsewhere_news x c other);
        says = [];
        says_own = All-nil (λ (c : App). (g.at c).0 ≡ m.0);
        ordered = λ n q apart strange. in_order q (λ is. next_one n q (λ c so. (strange c so).0) is) (cases_Bool (q a));
        hears = λ x q there other.
            ap all_said (sym (drawn_apart (is_news x q) (news m a) f.tokens rest drawn
            (ap (λ (d : Bool). d && q a) (ne_eqb m.0 x.0 (λ is. other (sym is))))))
            ∙ sym (append-nil (heard x q f.tokens));
        says_so = λ q own. refl;
        tells = sym (append-nil (tale b g.at m k.how k.done));
        mine = no_events m;
      })
    where
      before : (App → Bool) → List App
      before q = filter q (onto k.mail (map row_app k.rows))

      in_order : (q : App → Bool) → (q a ≡ true → filter (is_news m q) f.tokens ≡ news m a ∷ filter (is_news m q) rest)
          → (q a ≡ true) ⊎ (q a ≡ false) → come rest (kept_with rows mail) m q ≡ come f.tokens (f.far m) m q
      in_order q first (inl is) =
          ap (λ (l : List App). onto (heard m q rest) (filter q l)) in_front
          ∙ ap (λ (d : Bool). onto (heard m q rest) (cond d (a ∷ before q) (before q))) is
          ∙ ap (λ (l : List Token). onto (all_said l) (before q)) (sym (first is))
      in_order q first (inr other) =
          ap (λ (l : List App). onto (heard m q rest) (filter q l)) in_front
          ∙ ap (onto (heard m q rest)) (skipped q a (onto k.mail (map row_app k.rows)) other)
          ∙ ap (λ (l : List Token). onto (all_said l) (before q)) (sym (drawn_apart (is_news m q) (news m a) f.tokens rest drawn
          (ap (λ (d : Bool). m.0 == m.0 && d) other ∙ and-false (m.0 == m.0))))

  abbrev v0 : LiveView
  v0 = live b g.at m (f.far m)

  abbrev e : DistView
  e = dist_with (d0 b g.at m) stand.Idle [] k.rows (asked_by b g.at m k.how k.done) []
      (appls_by b g.at m (pends_by b g.at m k.how k.ran) (asked_by b g.at m k.how k.done))

  idle_there : is_standing k.how ≡ false → live_at s m ≡ Some (record v0 { dist = Some e })
  idle_there quiet =
      there_now g f m k alive refl messages ∙ (λ i. Some (record v0 { dist = Some (idle_so b g.at m k (f.fine m alive) quiet i) }))

  -- it takes whatever comes, and notes it
  pub noted_now : IsNext g.at m a f.tokens rest → is_standing k.how ≡ false
      → Stage b g.at left (arrived (process_at (h b g.at m) role.DistAc) (note g.at a) s)
  noted_now next_one quiet = kept ((a, g.at a) ∷ k.rows) k.mail next_one
      ((λ i. onto (no_mail b g.at m k (f.fine m alive) quiet i) (a ∷ map row_app k.rows))
      ∙ (λ i. a ∷ onto (sym (no_mail b g.at m k (f.fine m alive) quiet) i) (map row_app k.rows))) fine
      (λ c. (let more : more_if (a.0 == c.0) (tally_rows c k.rows) ≡ more_if (a.0 == c.0) 0 + tally_rows c k.rows =
      plus (a.0 == c.0) (tally_rows c k.rows) in omega (arith, more)))
      (comes_to g f m k alive refl messages role.DistAc (note g.at a)
      ∙ works_on m (note g.at a) s (record v0 { dist = Some e }) (idle_there quiet)
      ∙ works_idle m (note g.at a) s v0 e (add_remote a (g.at a) (turn s.cluster (own_in s.files m) m v0.life e)) (idle_there quiet) refl
      (λ w. notes g.at a (weighing w (turn s.cluster (own_in s.files m) m v0.life e)) new_to_it)
      ∙ (λ i. with_node m (record v0 { dist = Some (sym (idle_so b g.at m (kept_with ((a, g.at a) ∷ k.rows) k.mail) fine quiet) i) }) s))
    where
      awaits_none : (how : How) → is_standing how ≡ false → IsAwaited b g.at m how ((a, g.at a) ∷ k.rows)
      awaits_none unbegun is = tt
      awaits_none (asks c r) is = tt
      awaits_none (requests c r) is = tt
      awaits_none (stands c r) is = absurd (false≢true (sym is))
      awaits_none (starts c r) is = tt
      awaits_none (learns c r) is = tt
      awaits_none (reports c r) is = tt
      awaits_none answered is = tt
      awaits_none over is = tt

      fine : Fine b g.at m (kept_with ((a, g.at a) ∷ k.rows) k.mail)
      fine = record {
        boots = (f.fine m alive).boots;
        order = (f.fine m alive).order;
        so = (f.fine m alive).so;
        lately = (f.fine m alive).lately;
        marked = All-cons (IsMarked g.at) (a, g.at a) k.rows refl (f.fine m alive).marked;
        mail = (f.fine m alive).mail;
        single = (f.fine m alive).single;
        awaited = awaits_none k.how quiet;
      }

  -- it waits for the start of another application, and keeps this in its mailbox
  pub mailed_now : (c : App) (r : Restart) → IsNext g.at m a f.tokens rest → k.how ≡ stands c r → a.0 ≢ c.0
      → Stage b g.at left (arrived (process_at (h b g.at m) role.DistAc) (note g.at a) s)
  mailed_now c r next_one is other = kept k.rows (k.mail ++ a ∷ []) next_one (onto_more k.mail (a ∷ []) (map row_app k.rows)) fine
      (λ x.
      (let both : tally x (k.mail ++ a ∷ []) ≡ tally x k.mail + tally x (a ∷ []) = tally_more x k.mail (a ∷ []) in omega (arith, both)))
      (comes_to g f m k alive refl messages role.DistAc (note g.at a)
      ∙ works_on m (note g.at a) s v1 there1
      ∙ works_waiting m (note g.at a) s v1 e1 there1 refl
      (All-append (λ (x : Message). takes e1.stand x ≡ false) (map (note g.at) k.mail) (note g.at a ∷ []) (none k.mail (fine_stands.mail))
      (All-cons (λ (x : Message). takes e1.stand x ≡ false) (note g.at a) [] (over_it a other)
      (All-nil (λ (x : Message). takes e1.stand x ≡ false))))
      ∙ (λ i. with_node m (record v1 {
        dist = Some (dist_with (d0 b g.at m) e1.stand (sym (map-append (note g.at) k.mail (a ∷ [])) i) k.rows
            (dists b g.at m k.done) e1.monitored (appls_by b g.at m (some_app k.ran) (dists b g.at m k.done)));
      }) s)
      ∙ (λ i. with_node m (live b g.at m (record (f.far m) { how = sym is i; mail = k.mail ++ a ∷ [] })) s))
    where
      old : Far
      old = record (f.far m) { how = stands c r }

      was : f.far m ≡ old
      was = λ i. record (f.far m) { how = is i }

      fine_stands : Fine b g.at m (record (f.far m) { how = stands c r })
      fine_stands = subst (Fine b g.at m) was (f.fine m alive)

      v1 : LiveView
      v1 = live b g.at m (record (f.far m) { how = stands c r })

      e1 : DistView
      e1 = dist_of b g.at m (record (f.far m) { how = stands c r })

      there1 : live_at s m ≡ Some v1
      there1 = there_now g f m old alive was messages

      over_it : (o : App) → o.0 ≢ c.0 → takes e1.stand (note g.at o) ≡ false
      over_it o apart = deciding.passes_over b.cluster (own_at b m) m 0 (d0 b g.at m) [] [] [] c (g.at c) g.at (may_itself b g.at m c) o
          apart

      none : (mail : List App) → tally c mail ≡ 0 → All (λ (x : Message). takes e1.stand x ≡ false) (map (note g.at) mail)
      none [] no_one = All-nil (λ (x : Message). takes e1.stand x ≡ false)
      none (o ∷ mail) no_one =
          All-cons (λ (x : Message). takes e1.stand x ≡ false) (note g.at o) (map (note g.at) mail)
          (over_it o (first_other (cases_eq o.0 c.0))) (none mail (rest_none (o.0 == c.0) no_one))
        where
          first_other : (o.0 ≡ c.0) ⊎ (o.0 ≢ c.0) → o.0 ≢ c.0
          first_other (inl same) =
              absurd (let one : more_if (o.0 == c.0) (tally c mail) ≡ suc (tally c mail) =
              ap (λ (d : Bool). more_if d (tally c mail)) (eq-eqb o.0 c.0 same) in omega (arith, one, no_one))
          first_other (inr apart) = apart

          rest_none : (d : Bool) → more_if d (tally c mail) ≡ 0 → tally c mail ≡ 0
          rest_none true zero_is = absurd (omega (arith, zero_is))
          rest_none false zero_is = zero_is

      fine : Fine b g.at m (kept_with k.rows (k.mail ++ a ∷ []))
      fine = subst (λ (x : How). Fine b g.at m (record (f.far m) { how = x; mail = k.mail ++ a ∷ [] })) (sym is) (record {
        boots = fine_stands.boots;
        order = fine_stands.order;
        so = fine_stands.so;
        lately = fine_stands.lately;
        marked = fine_stands.marked;
        mail =
            (let both : tally c (k.mail ++ a ∷ []) ≡ tally c k.mail + tally c (a ∷ []) = tally_more c k.mail (a ∷ []) in
            let no_one : tally c k.mail ≡ 0 = fine_stands.mail in
            let not_it : tally c (a ∷ []) ≡ 0 = ap (λ (d : Bool). more_if d 0) (ne_eqb a.0 c.0 other) in
            omega (arith, both, no_one, not_it));
        single = fine_stands.single;
        awaited = fine_stands.awaited;
      })
