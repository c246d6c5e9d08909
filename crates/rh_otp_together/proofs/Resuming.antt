-- The news for which a dist_ac has waited comes: it answers its controller, and takes what has come meanwhile.
use Rattle.std.proofs.Common.{◌≡◌, ◌≢◌, ◌≤◌, ◌⊎◌, ◌+◌, ◌++◌, ◌==◌, ℕ, suc, Bool, true, false, cond, List, [], ◌∷◌, map, filter, length, Some, refl, sym, ap, subst, ◌∙◌, inl, inr, arith, ◌&&◌}
use Rattle.std.specs.Prelude.{All}
use Rattle.std.proofs.Math.Bool.{and-false}
use Rattle.std.proofs.lemmas.Bool.{cases_eq, eq-eqb, ne_eqb, false≢true, false_from_ne_true}
use Rattle.std.proofs.lemmas.List.{append-nil, map-append, length-append, length-map}
use Rattle.std.proofs.lemmas.List.Elements.{All-nil, All-cons, All-append, All-weaker, filter-append}
use Rattle.rh_model.specs.declared.node.App.{App}
use Rattle.rh_model.specs.declared.node.Node.{Node}
use Rattle.rh_model.specs.declared.settings.Restart.{Restart}
use Rattle.rh_otp_model.specs.declared.message.Message.{Message}
use Rattle.rh_otp_model.specs.declared.message.Reply.TheVariants as reply
use Rattle.rh_otp_model.specs.declared.output.Envelope.{Envelope}
use Rattle.rh_otp_model.specs.declared.output.Output.TheVariants as output
use Rattle.rh_otp_model.specs.declared.output.Requester.TheVariants.{Alone}
use Rattle.rh_otp_model.specs.declared.process.Process.{Process}
use Rattle.rh_otp_model.specs.declared.process.Role.TheVariants as role
use Rattle.rh_otp_model.specs.Processes.{process_at}
use Rattle.rh_otp_model.specs.Rows.{keydelete}
use Rattle.rh_otp_dist.specs.declared.outside.Need.TheVariants as need
use Rattle.rh_otp_dist.specs.declared.state.Appl.{Appl}
use Rattle.rh_otp_dist.specs.declared.state.Stand.TheVariants as stand
use Rattle.rh_otp_dist.specs.declared.state.Standing.TheVariants as standing
use Rattle.rh_otp_dist.specs.Attempts.{has_app}
use Rattle.rh_otp_dist.specs.Outside as outside
use Rattle.rh_otp_dist.specs.Outside.{with_message}
use Rattle.rh_otp_dist.specs.Received as mail_of
use Rattle.rh_otp_dist.specs.State.{DistView, TurnView}
use Rattle.rh_otp_dist.specs.Waiting.{takes}
use Rattle.rh_otp_net.specs.declared.locks.Held.{Held}
use Rattle.rh_otp_net.specs.Locks.{freed}
use Rattle.rh_otp_node.specs.Live.{LiveView}
use Rattle.rh_otp_node.specs.Remote as remotely
use Rattle.rh_otp_system.specs.declared.slow.Slow.TheVariants as slow
use Rattle.rh_otp_system.specs.Delivering.{arrived}
use Rattle.rh_otp_system.specs.State.{SystemView, live_at, node_at, with_node, own_at}
use Rattle.rh_otp_system.specs.Working as working
use Rattle.rh_otp_laws.proofs.Nodes.{node_written}
use Rattle.rh_otp_crashes.proofs.Peace.{without}
use Rattle.rh_otp_crashes.proofs.Turning.{weighing, works_on}
use Rattle.rh_otp_starts.proofs.Requests.{frees, its_reply}
use Rattle.rh_otp_joins.proofs.Lists.{more_if, count_of}
use Rattle.rh_otp_gathers.proofs.Stages.{drawn_all}
use Rattle.rh_otp_gathers.proofs.Tokens.{total, total_more, Drawn, drawn_total}
use Rattle.rh_otp_together.specs.Together.{BootTogether, boots_at}
use Rattle.rh_otp_together.proofs.Apps.{same_app, tally, tally_rows, tally_other, tallied_none, same_rows, IsMarked}
use Rattle.rh_otp_together.proofs.Deciding as deciding
use Rattle.rh_otp_together.proofs.Deciding.{with_appl}
use Rattle.rh_otp_together.proofs.Forms.{stands, learns, Far, live, Fine, Token, there, news, letter, h, d0, dists, asked_by, appls_by, dist_of, may_itself, is_inner, is_voice, news_of, token_weight, voices, inners, tale, tale_of, weight, onto, is_news, all_said}
use Rattle.rh_otp_together.proofs.Handling.{dist_with, turn_from, note, noted, handles_at, has_next_so, IsLastOf, last_of_all, absorbs}
use Rattle.rh_otp_together.proofs.Hearing.{nowhere_else, new_to_it, other_news, elsewhere_news}
use Rattle.rh_otp_together.proofs.Lives.{came_once, held_then}
use Rattle.rh_otp_together.proofs.Moving.{comes_to, there_now}
use Rattle.rh_otp_together.proofs.Needs.{once_of}
use Rattle.rh_otp_together.proofs.Queues.{skipped, stands_in, noted_apps}
use Rattle.rh_otp_together.proofs.Stages.{is_unbegun, IsHeld, the_lock, got, asked_of, told_of, IsOf, Stage, drawn_apart, heard, row_app, come}
use Rattle.rh_otp_together.proofs.Starting.{no_events}
use Rattle.rh_otp_together.proofs.Stepping.{Step, stepped}
use Rattle.rh_otp_together.proofs.Voices.{still_waiting}

-- what was noted stands as rows
noted_rows : (at : App → Node) (c : App) (apps : List App) (rows : List (App × Node)) → tally_rows c (noted at apps rows)
    ≡ tally c apps + tally_rows c rows
noted_rows at c [] rows = omega arith
noted_rows at c (a ∷ apps) rows =
    let rest : tally_rows c (noted at apps ((a, at a) ∷ rows)) ≡ tally c apps + more_if (a.0 == c.0) (tally_rows c rows) =
    noted_rows at c apps ((a, at a) ∷ rows) in
    by (a.0 == c.0) rest
  where
    by : (d : Bool) → tally_rows c (noted at apps ((a, at a) ∷ rows)) ≡ tally c apps + more_if d (tally_rows c rows)
        → tally_rows c (noted at apps ((a, at a) ∷ rows)) ≡ more_if d (tally c apps) + tally_rows c rows
    by true is = omega (arith, is)
    by false is = is

noted_marked : (at : App → Node) (apps : List App) (rows : List (App × Node)) → All (IsMarked at) rows
    → All (IsMarked at) (noted at apps rows)
noted_marked at [] rows all = all
noted_marked at (a ∷ apps) rows all = noted_marked at apps ((a, at a) ∷ rows) (All-cons (IsMarked at) (a, at a) rows refl all)

-- each of them is so
each_so : (P : App → Type 0) (apps : List App) → ((a : App) → 1 ≤ tally a apps → P a) → All P apps
each_so P [] so = All-nil P
each_so P (a ∷ apps) so =
    All-cons P a apps (so a (subst (λ (c : Bool). 1 ≤ more_if c (tally a apps)) (sym (eq-eqb a.0 a.0 refl)) (omega arith)))
    (each_so P apps (λ x some. so x (more (a.0 == x.0) (tally x apps) some)))
  where
    more : (c : Bool) (j : ℕ) → 1 ≤ j → 1 ≤ more_if c j
    more true j some = omega (arith, some)
    more false j some = some

module _ {b : SystemView} (g : BootTogether b) {left : ℕ} {u : SystemView} (f : Stage b g.at (suc left) u) (m : Node) (a : App)
    (alive : 1 ≤ count_of m b.alive) (messages : List Envelope) (rest : List Token) (left_so : messages ≡ map (letter b g.at) rest)
    (drawn : Drawn (news m a) f.tokens rest) (r : Restart) (is : (f.far m).how ≡ stands a r) where
  abbrev k : Far
  k = f.far m

  abbrev s : SystemView
  s = without u messages

  abbrev x : Node
  x = g.at a

  first : Fine b g.at m (record (f.far m) { how = stands a r })
  first = subst (Fine b g.at m) (λ i. record (f.far m) { how = is i }) (f.fine m alive)

  none_ran : k.ran ≡ []
  none_ran = first.so.2

  abbrev old : Far
  old = record (f.far m) { how = stands a r; ran = [] }

  was : f.far m ≡ old
  was = λ i. record (f.far m) { how = is i; ran = none_ran i }

  fine : Fine b g.at m old
  fine = subst (Fine b g.at m) was (f.fine m alive)

  other : (g.at a).0 ≢ m.0
  other = fine.so.1

  abbrev asked : List App
  asked = dists b g.at m k.done

  abbrev appls : List Appl
  appls = appls_by b g.at m false asked

  new : has_app a asked ≡ false
  new = ap (λ (y : Far). has_app a (asked_by b g.at m y.how y.done)) (sym was) ∙ new_to_it g f m a alive messages rest left_so drawn

  none_mailed : tally a k.mail ≡ 0
  none_mailed = fine.mail

  no_row : tally_rows a k.rows ≡ 0
  no_row = (nowhere_else g f m a alive messages rest left_so drawn).1

  abbrev rows : List (App × Node)
  rows = noted g.at k.mail (keydelete a k.rows)

  abbrev next : Far
  next = record (f.far m) { how = learns a r; ran = []; rows = rows; mail = [] }

  -- ---- what it does

  abbrev v0 : LiveView
  v0 = live b g.at m old

  abbrev letters : List Message
  letters = map (note g.at) k.mail

  abbrev e1 : DistView
  e1 = with_message (note g.at a) (dist_of b g.at m old)

  there0 : live_at s m ≡ Some v0
  there0 = there_now g f m old alive was messages

  over_it : (o : App) → o.0 ≢ a.0 → takes e1.stand (note g.at o) ≡ false
  over_it o apart = deciding.passes_over s.cluster (own_at s m) m v0.life (d0 b g.at m) k.rows asked appls a x g.at
      (may_itself b g.at m a) o apart

  none_taken : (mail : List App) → tally a mail ≡ 0 → All (λ (y : Message). takes e1.stand y ≡ false) (map (note g.at) mail)
  none_taken [] no_one = All-nil (λ (y : Message). takes e1.stand y ≡ false)
  none_taken (o ∷ mail) no_one =
      All-cons (λ (y : Message). takes e1.stand y ≡ false) (note g.at o) (map (note g.at) mail) (over_it o (first_other (cases_eq o.0 a.0)))
      (none_taken mail (rest_none (o.0 == a.0) no_one))
    where
      first_other : (o.0 ≡ a.0) ⊎ (o.0 ≢ a.0) → o.0 ≢ a.0
      first_other (inl same) =
          absurd (let one : more_if (o.0 == a.0) (tally a mail) ≡ suc (tally a mail) =
          ap (λ (d : Bool). more_if d (tally a mail)) (eq-eqb o.0 a.0 same) in omega (arith, one, no_one))
      first_other (inr apart) = apart

      rest_none : (d : Bool) → more_if d (tally a mail) ≡ 0 → tally a mail ≡ 0
      rest_none true zero_is = absurd (omega (arith, zero_is))
      rest_none false zero_is = zero_is

  last : IsLastOf (takes e1.stand) letters (note g.at a)
  last = last_of_all (takes e1.stand) letters (note g.at a) (none_taken k.mail none_mailed)
      (deciding.takes_it s.cluster (own_at s m) m v0.life (d0 b g.at m) k.rows asked appls a x g.at (may_itself b g.at m a) refl)

  no_need : (d : Bool) → outside.need_at (deciding.stands_in s.cluster (own_at s m) m v0.life (d0 b g.at m) k.rows asked appls a x d)
      (note g.at a) e1 ≡ need.Nothing
  no_need true = refl
  no_need false = refl

  abbrev appls_then : List Appl
  appls_then = with_appl a (standing.Distributed x) appls

  abbrev ended : TurnView
  ended = record (turn_from s.cluster (own_at s m) m v0.life
      (dist_with (d0 b g.at m) stand.Idle letters (keydelete a k.rows) (a ∷ asked) [] appls_then)) {
        out = output.Send (its_reply (h b g.at m) a (reply.Started x)) ∷ frees (h b g.at m) ∷ [];
      }

  closed : (w : ℕ) → mail_of.resumed e1.stand (note g.at a)
      (mail_of.taken_out (length letters) (weighing w (turn_from s.cluster (own_at s m) m v0.life e1))) ≡ weighing w ended
  closed w =
      ap (λ (l : List Message). mail_of.resumed e1.stand (note g.at a) (weighing w (turn_from s.cluster (own_at s m) m v0.life
      (dist_with (d0 b g.at m) stand.Idle l k.rows asked e1.monitored appls)))) last.left
      ∙ deciding.resumes s.cluster (own_at s m) m v0.life (d0 b g.at m) k.rows asked appls a x g.at (may_itself b g.at m a) letters refl
      new w

  abbrev p : Process
  p = record { role = role.DistAc; node = m; life = (node_at b m).life }

  abbrev replied : SystemView
  replied = record s {
    messages = messages ++ its_reply (h b g.at m) a (reply.Started x) ∷ [];
    locks = freed (Alone p) p u.locks;
  }

  -- what it has kept wasn't asked for yet
  unasked_mail : All (λ (c : App). has_app c (a ∷ asked) ≡ false) k.mail
  unasked_mail = each_so (λ (c : App). has_app c (a ∷ asked) ≡ false) k.mail (λ c some.
      tallied_none c (a ∷ asked)
      (tally_other c a asked (λ same. apart c some same)
      ∙ ap (λ (y : Far). tally c (asked_of b g.at m y)) (sym was) ∙ (came_once g f m c alive (some_got c some)).2))
    where
      some_got : (c : App) → 1 ≤ tally c k.mail → 1 ≤ got f.tokens (f.far m) m c
      some_got c some = omega (arith, some)

      apart : (c : App) → 1 ≤ tally c k.mail → a.0 ≡ c.0 → ⊥
      apart c some same =
          let one : tally c k.mail ≡ tally a k.mail = ap (λ (y : App). tally y k.mail) (sym (same_app a c same)) in
          let none : tally a k.mail ≡ 0 = none_mailed in
          omega (arith, some, one, none)

  works : working.work m (with_node m (record v0 { dist = Some e1 }) s)
      ≡ with_node m (record v0 { dist = Some (dist_with (d0 b g.at m) stand.Idle [] rows (a ∷ asked) [] appls_then) }) replied
  unfolding working.work
  works =
      let q : SystemView = with_node m (record v0 { dist = Some e1 }) s in
      ap (λ (y : LiveView). working.work_for (remotely.mail_count y) m q) (node_written s m v0 (record v0 { dist = Some e1 }) there0)
      ∙ ap (λ (j : ℕ). working.work_for j m q) many
      ∙ ap (λ (c : Bool). cond c (working.work_for (length k.mail) m (working.handled m q)) q)
      (has_next_so m s v0 v0 e1 (length letters) there0 last.found)
      ∙ ap (working.work_for (length k.mail) m)
      (handles_at m s v0 v0 e1 (length letters) (note g.at a) ended there0 last.found last.there (no_need (may_itself b g.at m a)) closed)
      ∙ absorbs g.at m replied v0 v0 there0 (d0 b g.at m) (a ∷ asked) appls_then k.mail (keydelete a k.rows) unasked_mail
    where
      many : length (letters ++ note g.at a ∷ []) ≡ suc (length k.mail)
      many =
          let both : length (letters ++ note g.at a ∷ []) ≡ length letters + 1 = length-append letters (note g.at a ∷ []) in
          let same : length letters ≡ length k.mail = length-map k.mail (note g.at) in
          omega (arith, both, same)

  its_standing : with_appl a (standing.Distributed x) appls ≡ appls_by b g.at m false (a ∷ asked)
  its_standing = ap (λ (c : Bool). with_appl a (cond c standing.Local (standing.Distributed x)) appls) (sym (ne_eqb (g.at a).0 m.0 other))

  comes : arrived (process_at (h b g.at m) role.DistAc) (note g.at a) s
      ≡ record (with_node m (live b g.at m next) u) {
        messages = map (letter b g.at) (rest ++ there m a ∷ []);
        slow = map slow.Boot f.waiting;
        events = u.events ++ [];
        locks = freed (Alone p) p u.locks;
      }
  comes =
      comes_to g f m old alive was messages role.DistAc (note g.at a)
      ∙ works_on m (note g.at a) s v0 there0
      ∙ works
      ∙ (λ i. record (with_node m (record v0 { dist = Some (dist_with (d0 b g.at m) stand.Idle [] rows (a ∷ asked) [] (its_standing i)) })
      u) {
        messages = (ap (λ (l : List Envelope). l ++ its_reply (h b g.at m) a (reply.Started x) ∷ []) left_so
            ∙ sym (map-append (letter b g.at) rest (there m a ∷ []))) i;
        slow = (ap (λ (y : SystemView). y.slow) f.same) i;
        events = sym (append-nil u.events) i;
        locks = freed (Alone p) p u.locks;
      })

  -- ---- so all is further

  not_itself : (c : App) → (g.at c).0 ≡ m.0 → a.0 ≢ c.0
  not_itself c home same = other (ap (λ (y : App). (g.at y).0) (same_app a c same) ∙ home)

  plus : (d : Bool) (j : ℕ) → more_if d j ≡ more_if d 0 + j
  plus true j = omega arith
  plus false j = omega arith

  more_news : (n : Node) (c : App) → total (news_of n c) (rest ++ there m a ∷ []) ≡ total (news_of n c) rest
  more_news n c =
      let both : total (news_of n c) (rest ++ there m a ∷ []) ≡ total (news_of n c) rest + 0 =
      total_more (news_of n c) rest (there m a ∷ []) in
      (let same : total (news_of n c) (rest ++ there m a ∷ []) ≡ total (news_of n c) rest = omega (arith, both) in same)

  rows_now : (c : App) → tally_rows c rows ≡ tally c k.mail + tally_rows c k.rows
  rows_now c =
      noted_rows g.at c k.mail (keydelete a k.rows)
      ∙ ap (λ (l : List (App × Node)). tally c k.mail + tally_rows c l) (same_rows a k.rows no_row)

  booted : boots_at b m a ≡ true
  booted = ap (λ (l : List (App × Restart)). has_app a (map (λ (row : App × Restart). row.0) l)) fine.boots ∙ stands_in a r k.done k.rest

  -- of others nothing more is on its way, and nothing less
  no_more : (n : Node) (q : App → Bool) → is_news n q (news m a) ≡ false
      → filter (is_news n q) (rest ++ there m a ∷ []) ≡ filter (is_news n q) f.tokens
  no_more n q fails =
      filter-append (is_news n q) rest (there m a ∷ [])
      ∙ (λ i. sym (drawn_apart (is_news n q) (news m a) f.tokens rest drawn fails) i ++ [])
      ∙ append-nil (filter (is_news n q) f.tokens)

  rows_apps : map row_app rows ≡ onto k.mail (map row_app k.rows)
  rows_apps =
      noted_apps g.at k.mail (keydelete a k.rows)
      ∙ ap (λ (l : List (App × Node)). onto k.mail (map row_app l)) (same_rows a k.rows no_row)

  one_further : Step f m (arrived (process_at (h b g.at m) role.DistAc) (note g.at a) s)
  one_further = record {
    next = next;
    tokens = rest ++ there m a ∷ [];
    waiting = f.waiting;
    seen = [];
    locks = freed (Alone p) p u.locks;
    is = comes;
    weighs =
        (let less : total token_weight f.tokens ≡ 1 + total token_weight rest = drawn_total token_weight (news m a) f.tokens rest drawn in
        let both : total token_weight (rest ++ there m a ∷ []) ≡ total token_weight rest + 0 =
        total_more token_weight rest (there m a ∷ []) in
        let before : weight b g.at m (f.far m) ≡ weight b g.at m old = ap (weight b g.at m) was in
        omega (arith, less, both, before));
    fine = record {
      boots = fine.boots;
      order = fine.order;
      so = (fine.so.0, other, refl);
      lately = inl refl;
      marked = noted_marked g.at k.mail (keydelete a k.rows) (subst (All (IsMarked g.at)) (sym (same_rows a k.rows no_row)) fine.marked);
      mail = refl;
      single = fine.single;
      awaited = tt;
    };
    locked = held_then b f.far m next u.locks
        (All-weaker (IsHeld b f.far) (λ (y : Held). (y ≡ the_lock m (node_at b m).life) ⊎ IsHeld b f.far y) (λ y held. inr held) u.locks
        f.locks);
    slow = still_waiting b f.far m next f.waiting (ap is_unbegun (sym is)) f.slow;
    known = All-append (IsOf b) rest (there m a ∷ []) (drawn_all (IsOf b) (news m a) f.tokens rest f.known drawn).1
        (All-cons (IsOf b) (there m a) [] alive (All-nil (IsOf b)));
    voiced =
        filter-append (is_voice m) rest (there m a ∷ [])
        ∙ (λ i. (sym (drawn_apart (is_voice m) (news m a) f.tokens rest drawn refl) ∙ f.voiced m alive ∙ ap (voices m) is) i
        ++ cond (eq-eqb m.0 m.0 refl i) (there m a ∷ []) []);
    inner =
        filter-append (is_inner m) rest (there m a ∷ [])
        ∙ (λ i. (sym (drawn_apart (is_inner m) (news m a) f.tokens rest drawn refl) ∙ f.inner m alive
        ∙ ap (λ (y : Far). inners m y.how y.ran) was) i ++ []);
    voiced_else = λ n apart.
        filter-append (is_voice n) rest (there m a ∷ [])
        ∙ (λ i. sym (drawn_apart (is_voice n) (news m a) f.tokens rest drawn refl) i ++ cond (ne_eqb m.0 n.0 (λ same. apart (sym same)) i)
        (there m a ∷ []) [])
        ∙ append-nil (filter (is_voice n) f.tokens);
    inner_else = λ n apart.
        filter-append (is_inner n) rest (there m a ∷ [])
        ∙ (λ i. sym (drawn_apart (is_inner n) (news m a) f.tokens rest drawn refl) i ++ [])
        ∙ append-nil (filter (is_inner n) f.tokens);
    sums = λ c away.
        (let less : total (news_of m c) f.tokens ≡ more_if (a.0 == c.0) 0 + total (news_of m c) rest =
        other_news g f m a alive messages rest left_so drawn c in
        let same : total (news_of m c) (rest ++ there m a ∷ []) ≡ total (news_of m c) rest = more_news m c in
        let in_rows : tally_rows c rows ≡ tally c k.mail + tally_rows c k.rows = rows_now c in
        let before : got f.tokens (f.far m) m c + tally c (asked_of b g.at m (f.far m)) ≡ got f.tokens old m c + tally c asked =
        ap (λ (y : Far). got f.tokens y m c + tally c (asked_of b g.at m y)) was in
        let more : more_if (a.0 == c.0) (tally c asked) ≡ more_if (a.0 == c.0) 0 + tally c asked = plus (a.0 == c.0) (tally c asked) in
        omega (arith, less, same, in_rows, before, more));
    homes = λ c home.
        (let less : total (news_of m c) f.tokens ≡ more_if (a.0 == c.0) 0 + total (news_of m c) rest =
        other_news g f m a alive messages rest left_so drawn c in
        let same : total (news_of m c) (rest ++ there m a ∷ []) ≡ total (news_of m c) rest = more_news m c in
        let in_rows : tally_rows c rows ≡ tally c k.mail + tally_rows c k.rows = rows_now c in
        let no_one : more_if (a.0 == c.0) 0 ≡ 0 = ap (λ (d : Bool). more_if d 0) (ne_eqb a.0 c.0 (not_itself c home)) in
        omega (arith, less, same, in_rows, no_one));
    near = λ n c there_is apart home.
        (let less : total (news_of n c) f.tokens ≡ total (news_of n c) rest =
        elsewhere_news g f m a alive messages rest left_so drawn n c apart in
        let same : total (news_of n c) (rest ++ there m a ∷ []) ≡ total (news_of n c) rest = more_news n c in
        let before : tally c (told_of b g.at m (f.far m)) ≡ tally c asked = ap (λ (y : Far). tally c (told_of b g.at m y)) was in
        let now : tally c (a ∷ asked) ≡ tally c asked = tally_other c a asked (not_itself c home) in
        omega (arith, less, same, before, now));
    apart = λ n c there_is apart away. more_news n c ∙ sym (elsewhere_news g f m a alive messages rest left_so drawn n c apart);
    says = [];
    says_own = All-nil (λ (c : App). (g.at c).0 ≡ m.0);
    ordered = λ n q apart strange.
        (λ i. onto (all_said (no_more m q
        (ap (λ (c : Bool). m.0 == m.0 && c) (false_from_ne_true (q a) (λ so. false≢true (sym (strange a so).1 ∙ booted)))
        ∙ and-false (m.0 == m.0)) i))
        (filter q (rows_apps i)))
        ∙ ap (λ (y : Far). come f.tokens y m q) (sym was);
    hears = λ n q there_is apart.
        ap all_said (no_more n q (ap (λ (c : Bool). c && q a) (ne_eqb m.0 n.0 (λ same. apart (sym same)))))
        ∙ sym (append-nil (heard n q f.tokens));
    says_so = λ q own.
        skipped q a asked (false_from_ne_true (q a) (λ so. other (own a so))) ∙ ap (λ (y : Far). filter q (told_of b g.at m y)) (sym was);
    tells = sym (append-nil (tale_of b g.at m k.done)) ∙ (λ i. tale b g.at m (sym is i) k.done ++ []);
    mine = no_events m;
  }

  pub goes_on_there : Stage b g.at left (arrived (process_at (h b g.at m) role.DistAc) (note g.at a) s)
  goes_on_there = stepped f m (arrived (process_at (h b g.at m) role.DistAc) (note g.at a) s) (once_of g m alive) one_further
