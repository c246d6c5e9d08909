-- A controller's request comes to its dist_ac: it starts here, is known to run at another node, or that is waited for.
use Rattle.std.proofs.Common.{◌≡◌, ◌≢◌, ◌≤◌, ◌⊎◌, ◌+◌, ◌++◌, ◌==◌, ◌||◌, ℕ, zero, suc, Bool, true, false, cond, unwrap_or, List, [], ◌∷◌, map, filter, slice_get, slice_set, Some, refl, sym, ap, subst, ◌∙◌, inl, inr, arith}
use Rattle.std.specs.Prelude.{All}
use Rattle.std.proofs.Math.Bool.{or-true}
use Rattle.std.proofs.lemmas.Bool.{cases_eq, eq-eqb, ne_eqb, false≢true, false_from_ne_true}
use Rattle.std.proofs.lemmas.List.{append-nil, map-append}
use Rattle.std.proofs.lemmas.List.Elements.{All-nil, All-cons, All-append, All-head, All-tail, All-weaker, filter-append}
use Rattle.rh_model.specs.declared.node.App.{App}
use Rattle.rh_model.specs.declared.node.Node.{Node}
use Rattle.rh_model.specs.declared.settings.Restart.{Restart}
use Rattle.rh_otp_model.specs.declared.message.Message.TheVariants as message
use Rattle.rh_otp_model.specs.declared.message.Reply.TheVariants as reply
use Rattle.rh_otp_model.specs.declared.output.Envelope.{Envelope}
use Rattle.rh_otp_model.specs.declared.output.Requester.TheVariants.{Alone}
use Rattle.rh_otp_model.specs.declared.process.Process.{Process}
use Rattle.rh_otp_model.specs.declared.process.Role.TheVariants as role
use Rattle.rh_otp_model.specs.Own.{OwnView, controls}
use Rattle.rh_otp_model.specs.Processes.{process_at}
use Rattle.rh_otp_model.specs.Rows.{keydelete}
use Rattle.rh_otp_dist.specs.declared.state.Appl.{Appl}
use Rattle.rh_otp_dist.specs.declared.state.Stand.TheVariants as stand
use Rattle.rh_otp_dist.specs.declared.state.Standing.TheVariants as standing
use Rattle.rh_otp_dist.specs.Attempts.{has_app}
use Rattle.rh_otp_dist.specs.Choosing.{places_of}
use Rattle.rh_otp_dist.specs.Received as mail_of
use Rattle.rh_otp_dist.specs.State.{DistView, TurnView, unknown_appl, standing_of, is_among}
use Rattle.rh_otp_net.specs.declared.locks.Held.{Held}
use Rattle.rh_otp_net.specs.Links.{are_linked}
use Rattle.rh_otp_net.specs.Locks.{freed}
use Rattle.rh_otp_node.specs.Live.{LiveView}
use Rattle.rh_otp_system.specs.Delivering.{arrived}
use Rattle.rh_otp_system.specs.Outputs.{all_carried_out}
use Rattle.rh_otp_system.specs.State.{SystemView, live_at, node_at, with_node, own_at}
use Rattle.rh_otp_crashes.specs.Failovers.{first_of}
use Rattle.rh_otp_crashes.proofs.Crossing.{same_node}
use Rattle.rh_otp_crashes.proofs.Peace.{without}
use Rattle.rh_otp_crashes.proofs.Waiting.{monitors_it}
use Rattle.rh_otp_starts.specs.Elsewhere.{candidates_at}
use Rattle.rh_otp_starts.proofs.Requests.{asking as lock_asking, its_reply, its_lock}
use Rattle.rh_otp_joins.proofs.Lists.{more_if, count_of}
use Rattle.rh_otp_gathers.specs.Gathers.{times}
use Rattle.rh_otp_gathers.proofs.Opening.{counts_so}
use Rattle.rh_otp_gathers.proofs.Tokens.{Drawn}
use Rattle.rh_otp_together.specs.Together.{boots_at, BootTogether, LeavesTo}
use Rattle.rh_otp_together.proofs.Apps.{same_app, tally, tally_rows, tally_other, tallied_none, not_found, found_at, fewer_rows, same_rows, still_marked}
use Rattle.rh_otp_together.proofs.Deciding as deciding
use Rattle.rh_otp_together.proofs.Deciding.{with_appl, standing_in, Leaves, request_so}
use Rattle.rh_otp_together.proofs.Forms.{How, unbegun, asks, requests, stands, starts, learns, reports, answered, over, Far, live, Fine, Token, request, letter, h, d0, onto, is_mine, dists, asked_by, appls_by, dist_of, may_itself, is_inner, is_voice, voices, asking, inners, tale, tale_of, telling_weight, request_weight, weight}
use Rattle.rh_otp_together.proofs.Handling.{dist_with, turn_from}
use Rattle.rh_otp_together.proofs.Lives.{awake_so, own_is_free, held_more, held_then, unasked}
use Rattle.rh_otp_together.proofs.Moving.{comes_to, there_now}
use Rattle.rh_otp_together.proofs.Needs.{each_of, once_of, up_of, dist_so}
use Rattle.rh_otp_together.proofs.Passing.{all_passing}
use Rattle.rh_otp_together.proofs.Plain.{plainly, voices_pass, voices_mine, voices_no_inner}
use Rattle.rh_otp_together.proofs.Queues.{skipped, stands_in, kept_rows}
use Rattle.rh_otp_together.proofs.Stages.{is_unbegun, IsHeld, the_lock, got, told_of, Stage, changed, drawn_apart, row_app}
use Rattle.rh_otp_together.proofs.Starting.{no_events}
use Rattle.rh_otp_together.proofs.Stepping.{stepped}
use Rattle.rh_otp_together.proofs.Voices.{still_waiting}

-- ---- which it is

asked_so : (m : Node) (a : App) (how : How) (l : List Token) → asking m how ≡ request m a ∷ l → (r : Restart) × (how ≡ requests a r)
    × (l ≡ [])
asked_so m a unbegun l is = absurd (cc)
asked_so m a (asks c r) l is = absurd (cc)
asked_so m a (requests c r) l is = (r, (let same : requests c r ≡ requests a r = cc in same), (let none : l ≡ [] = cc in none))
asked_so m a (stands c r) l is = absurd (cc)
asked_so m a (starts c r) l is = absurd (cc)
asked_so m a (learns c r) l is = absurd (cc)
asked_so m a (reports c r) l is = absurd (cc)
asked_so m a answered l is = absurd (cc)
asked_so m a over l is = absurd (cc)

request_front : (m : Node) (a : App) (how : How) (apps : List App) (l : List Token) → inners m how apps ≡ request m a ∷ l
    → (r : Restart) × (how ≡ requests a r) × (l ≡ []) × (apps ≡ [])
request_front m a how [] l is =
    let so : (r : Restart) × (how ≡ requests a r) × (l ≡ []) = asked_so m a how l is in
    (so.0, so.1, so.2, refl)
request_front m a how (c ∷ more) l is = absurd (cc)

-- ---- what is so of each that is asked for

-- of those of a list that pass, it is one
passed_on : (P : App → Type 0) (q : App → Bool) (d l : List (App × Restart))
    → All P (filter q (map (λ (row : App × Restart). row.0) (onto d l)))
    → All P (filter q (map (λ (row : App × Restart). row.0) l))
passed_on P q [] l all = all
passed_on P q (y ∷ d) l all = by (q y.0) (passed_on P q d (y ∷ l) all)
  where
    by : (c : Bool) → All P
        (cond c (y.0 ∷ filter q (map (λ (row : App × Restart). row.0) l)) (filter q (map (λ (row : App × Restart). row.0) l)))
        → All P (filter q (map (λ (row : App × Restart). row.0) l))
    by true so = All-tail P y.0 (filter q (map (λ (row : App × Restart). row.0) l)) so
    by false so = so

so_of_it : (P : App → Type 0) (q : App → Bool) (d : List (App × Restart)) (a : App) (r : Restart) (rest : List (App × Restart))
    → All P (filter q (map (λ (row : App × Restart). row.0) (onto d ((a, r) ∷ rest)))) → q a ≡ true → P a
so_of_it P q d a r rest all is =
    All-head P a (filter q (map (λ (row : App × Restart). row.0) rest))
    (subst (λ (c : Bool). All P
    (cond c (a ∷ filter q (map (λ (row : App × Restart). row.0) rest)) (filter q (map (λ (row : App × Restart). row.0) rest)))) is
    (passed_on P q d ((a, r) ∷ rest) all))

-- ---- how it stands before

elsewhere_same : (appls : List Appl) (i j : ℕ) (y : Appl) → j ≢ i → slice_get (slice_set appls i y) j ≡ slice_get appls j
elsewhere_same [] i j y other = refl
elsewhere_same (z ∷ appls) zero zero y other = absurd (other refl)
elsewhere_same (z ∷ appls) zero (suc j) y other = refl
elsewhere_same (z ∷ appls) (suc i) zero y other = refl
elsewhere_same (z ∷ appls) (suc i) (suc j) y other = elsewhere_same appls i j y (λ same. other (ap suc same))

unknown_yet : (b : SystemView) (at : App → Node) (m : Node) (a : App) (pends : Bool) (asked : List App) → tally a asked ≡ 0
    → standing_in (d0 b at m).appls a ≡ standing.Undefined → standing_in (appls_by b at m pends asked) a ≡ standing.Undefined
unknown_yet b at m a pends [] none unknown = unknown
unknown_yet b at m a pends (c ∷ asked) none unknown =
    ap (λ o. (unwrap_or o unknown_appl).standing)
    (elsewhere_same (appls_by b at m false asked) c.0 a.0 _ (other (cases_eq a.0 c.0)))
    ∙ unknown_yet b at m a false asked (left (c.0 == a.0) none) unknown
  where
    left : (d : Bool) → more_if d (tally a asked) ≡ 0 → tally a asked ≡ 0
    left true is = absurd (omega (arith, is))
    left false is = is

    other : (a.0 ≡ c.0) ⊎ (a.0 ≢ c.0) → a.0 ≢ c.0
    other (inl same) = absurd (let one : more_if (c.0 == a.0) (tally a asked) ≡ suc (tally a asked) =
        ap (λ (d : Bool). more_if d (tally a asked)) (eq-eqb c.0 a.0 (sym same)) in omega (arith, one, none))
    other (inr apart) = apart

module _ {b : SystemView} (g : BootTogether b) {left : ℕ} {u : SystemView} (f : Stage b g.at (suc left) u) (m : Node) (a : App)
    (alive : 1 ≤ count_of m b.alive) (messages : List Envelope) (rest : List Token) (left_so : messages ≡ map (letter b g.at) rest)
    (drawn : Drawn (request m a) f.tokens rest) (front : filter (is_inner m) f.tokens ≡ request m a ∷ filter (is_inner m) rest) where
  abbrev k : Far
  k = f.far m

  abbrev s : SystemView
  s = without u messages

  abbrev x : Node
  x = g.at a

  it : (r : Restart) × (k.how ≡ requests a r) × (filter (is_inner m) rest ≡ []) × (k.ran ≡ [])
  it = request_front m a k.how k.ran (filter (is_inner m) rest) (sym (f.inner m alive) ∙ front)

  module _ (r : Restart) (is : (f.far m).how ≡ requests a r) (none : filter (is_inner m) rest ≡ []) (none_ran : (f.far m).ran ≡ []) where
    first : Fine b g.at m (record (f.far m) { how = requests a r })
    first = subst (Fine b g.at m) (λ i. record (f.far m) { how = is i }) (f.fine m alive)

    abbrev old : Far
    old = record (f.far m) { how = requests a r; ran = []; mail = [] }

    was : f.far m ≡ old
    was = λ i. record (f.far m) { how = is i; ran = none_ran i; mail = first.mail i }

    fine : Fine b g.at m old
    fine = subst (Fine b g.at m) was (f.fine m alive)

    abbrev asked : List App
    asked = dists b g.at m k.done

    abbrev appls : List Appl
    appls = appls_by b g.at m false asked

    not_asked : tally a asked ≡ 0
    not_asked = unasked b m g.at a k.done fine.order.0

    new : has_app a asked ≡ false
    new = tallied_none a asked not_asked

    unknown : standing_in appls a ≡ standing.Undefined
    unknown =
        unknown_yet b g.at m a false asked not_asked
        (ap (λ (d : DistView). standing_of d a) (dist_so g m alive) ∙ (each_of g m alive).blank.unknown a)

    own_same : own_at s m ≡ own_at b m
    own_same = ap (λ (y : SystemView). own_at y m) f.same

    in_list : filter (controls (own_at b m)) (map (λ (row : App × Restart). row.0) (onto k.done ((a, r) ∷ k.rest)))
        ≡ filter (boots_at b m) g.apps
    in_list =
        ap (λ (l : List (App × Restart)). filter (controls (own_at b m)) (map (λ (row : App × Restart). row.0) l)) (sym fine.boots)
        ∙ (each_of g m alive).distributed

    -- what is so of each application that it boots is so of this one
    own_so : (P : App → Type 0) → All (λ (c : App). boots_at b m c ≡ true → P c) g.apps → P a
    own_so P all =
        so_of_it P (controls (own_at b m)) k.done a r k.rest
        (subst (All P) (sym in_list) (all_passing P (boots_at b m) g.apps all)) fine.so

    booted : boots_at b m a ≡ true
    booted = ap (λ (l : List (App × Restart)). has_app a (map (λ (row : App × Restart). row.0) l)) fine.boots ∙ stands_in a r k.done k.rest

    leaves : Leaves (own_at s m) m a (d0 b g.at m) x
    leaves =
        subst (λ (o : OwnView). Leaves o m a (d0 b g.at m) x) (sym own_same)
        (subst (λ (d : DistView). Leaves (own_at b m) m a d x) (sym (dist_so g m alive))
        (own_so (λ (c : App). LeavesTo m c (each_of g m alive).dist b (g.at c)) (each_of g m alive).leaves))

    runner : 1 ≤ count_of x b.alive
    runner = subst (λ (j : ℕ). 1 ≤ j) (sym (counts_so x b.alive)) (own_so (λ (c : App). 1 ≤ times (g.at c) b.alive)
        (All-weaker IsRunner (λ (c : App). boots_at b m c ≡ true → 1 ≤ times (g.at c) b.alive) (λ c so own. so.0) g.apps g.runners))
      where
        IsRunner : App → Type 0
        IsRunner c = (1 ≤ times (g.at c) b.alive) × (boots_at b (g.at c) c ≡ true)

    abbrev v0 : LiveView
    v0 = live b g.at m old

    there0 : live_at s m ≡ Some v0
    there0 = there_now g f m old alive was messages

    abbrev p : Process
    p = record { role = role.DistAc; node = m; life = (node_at b m).life }

    abbrev Over : Type 0
    Over = Stage b g.at left (arrived (process_at (h b g.at m) role.DistAc) (message.StartRequest a) s)

    -- what it does, carried out
    takes : (ended : TurnView)
        → ((w : ℕ) → mail_of.handled (message.StartRequest a)
        (lock_asking w (turn_from s.cluster (own_at s m) m v0.life (dist_of b g.at m old))) ≡ lock_asking w ended)
        → arrived (process_at (h b g.at m) role.DistAc) (message.StartRequest a) s
        ≡ all_carried_out m ended.out
        (record (with_node m (record v0 { dist = Some ended.state }) s) { locks = u.locks ++ its_lock m v0.life })
    takes ended closed =
        comes_to g f m old alive was messages role.DistAc (message.StartRequest a)
        ∙ request_so m a s v0 (dist_of b g.at m old) ended there0 (own_is_free b f.far m u.locks f.locks) closed

    -- all that is common to what comes of it
    further : (how : How) (rows : List (App × Node)) (locks : List Held)
        → Fine b g.at m (record (f.far m) { how = how; ran = []; mail = []; rows = rows })
        → All (IsHeld b (changed m f.far (record (f.far m) { how = how; ran = []; mail = []; rows = rows }))) locks
        → is_unbegun how ≡ false → asking m how ≡ []
        → suc (weight b g.at m (record (f.far m) { how = how; ran = []; mail = []; rows = rows })) ≡ weight b g.at m old
        → ((c : App) → (g.at c).0 ≢ m.0 → tally_rows c rows + tally c (asked_by b g.at m how k.done) ≡ tally_rows c k.rows + tally c asked)
        → ((c : App) → (g.at c).0 ≡ m.0 → tally_rows c rows ≡ tally_rows c k.rows)
        → ((c : App) → (g.at c).0 ≡ m.0 → tally c (told_of b g.at m (record (f.far m) { how = how; ran = []; mail = []; rows = rows }))
        ≡ tally c asked)
        → ((q : App → Bool) → ((c : App) → q c ≡ true → boots_at b m c ≡ false)
        → filter q (map row_app rows) ≡ filter q (map row_app k.rows))
        → ((q : App → Bool) → ((c : App) → q c ≡ true → (g.at c).0 ≡ m.0)
        → filter q (told_of b g.at m (record (f.far m) { how = how; ran = []; mail = []; rows = rows })) ≡ filter q asked)
        → tale b g.at m how k.done ≡ tale_of b g.at m k.done
        → arrived (process_at (h b g.at m) role.DistAc) (message.StartRequest a) s
        ≡ record (with_node m (live b g.at m (record (f.far m) { how = how; ran = []; mail = []; rows = rows })) u) {
          messages = messages ++ map (letter b g.at) (voices m how);
          locks = locks;
        }
        → Over
    further how rows locks so held begun quiet weighs sums homes told ordered said tells comes =
        stepped f m (arrived (process_at (h b g.at m) role.DistAc) (message.StartRequest a) s) (once_of g m alive)
        (plainly f m (arrived (process_at (h b g.at m) role.DistAc) (message.StartRequest a) s) (record {
          old = old;
          was = was;
          alive = alive;
          next = record (f.far m) { how = how; ran = []; mail = []; rows = rows };
          rest = rest;
          left_by = inr (request m a, (refl, refl), drawn);
          more = voices m how;
          mine = voices_mine m how;
          waiting = f.waiting;
          seen = [];
          locks = locks;
          is = comes ∙ (λ i. record (with_node m (live b g.at m (record (f.far m) { how = how; ran = []; mail = []; rows = rows })) u) {
            messages = (ap (λ (l : List Envelope). l ++ map (letter b g.at) (voices m how)) left_so
                ∙ sym (map-append (letter b g.at) rest (voices m how))) i;
            slow = (ap (λ (y : SystemView). y.slow) f.same) i;
            events = sym (append-nil u.events) i;
            locks = locks;
          });
          weighs = weighs;
          fine = so;
          locked = held;
          slow = still_waiting b f.far m (record (f.far m) { how = how; ran = []; mail = []; rows = rows }) f.waiting
              (begun ∙ ap is_unbegun (sym is)) f.slow;
          voiced =
              filter-append (is_voice m) rest (voices m how)
              ∙ (λ i. (sym (drawn_apart (is_voice m) (request m a) f.tokens rest drawn refl) ∙ f.voiced m alive ∙ ap (voices m) is) i
              ++ voices_pass m how i);
          inner = filter-append (is_inner m) rest (voices m how) ∙ (λ i. none i ++ voices_no_inner m m how i) ∙ sym quiet;
          sums = λ c away. (let same : tally_rows c rows + tally c (asked_by b g.at m how k.done) ≡ tally_rows c k.rows + tally c asked =
              sums c away in omega (arith, same));
          homes = λ c home. (let same : tally_rows c rows ≡ tally_rows c k.rows = homes c home in omega (arith, same));
          told = told;
          ordered = ordered;
          said = said;
          tells = tells ∙ sym (append-nil (tale_of b g.at m k.done));
          own = no_events m;
        }))

    -- its own lock is free again
    freed_again : (next : Far) → All (IsHeld b (changed m f.far next)) (freed (Alone p) p (u.locks ++ the_lock m (node_at b m).life ∷ []))
    freed_again next = held_then b f.far m next (u.locks ++ the_lock m (node_at b m).life ∷ [])
        (All-append IsEither u.locks (the_lock m (node_at b m).life ∷ [])
        (All-weaker (IsHeld b f.far) IsEither (λ y held. inr held) u.locks f.locks)
        (All-cons IsEither (the_lock m (node_at b m).life) [] (inl refl) (All-nil IsEither)))
      where
        IsEither : Held → Type 0
        IsEither y = (y ≡ the_lock m (node_at b m).life) ⊎ IsHeld b f.far y

    -- ---- it is to start here

    starts_here : (g.at a).0 ≡ m.0 → Over
    starts_here mine = further (starts a r) k.rows _ (record {
      boots = fine.boots;
      order = fine.order;
      so = (fine.so, mine, refl);
      lately = inl refl;
      marked = fine.marked;
      mail = refl;
      single = fine.single;
      awaited = tt;
    }) (freed_again _) refl refl
        (let much : request_weight b g.at m a ≡ 4 + telling_weight b g.at m =
        ap (λ (c : Bool). cond c (4 + telling_weight b g.at m) 3) is_its in
        omega (arith, much))
        (λ c away. ap (λ (j : ℕ). tally_rows c k.rows + j)
        (tally_other c a asked (λ same. away (ap (λ (y : App). (g.at y).0) (sym (same_app a c same)) ∙ mine))))
        (λ c home. refl) (λ c home. refl) (λ q strange. refl) (λ q own. refl) refl
        (takes (deciding.answered s.cluster (own_at s m) m v0.life (d0 b g.at m) k.rows asked appls a x reply.StartIt standing.RunWaiting)
        (deciding.chooses_here s.cluster (own_at s m) m v0.life (d0 b g.at m) k.rows asked appls a x unknown new
        (not_found a k.rows no_row) first_here)
        ∙ (λ i. record (with_node m
        (record v0 {
          dist = Some (dist_with (d0 b g.at m) stand.Idle [] (same_rows a k.rows no_row i) (a ∷ asked) [] (its_standing i));
        }) u) {
          messages = messages ++ its_reply (h b g.at m) a reply.StartIt ∷ [];
          locks = freed (Alone p) p (u.locks ++ the_lock m (node_at b m).life ∷ []);
        }))
      where
        is_its : is_mine b g.at m a ≡ true
        is_its = eq-eqb (g.at a).0 m.0 mine

        no_row : tally_rows a k.rows ≡ 0
        no_row = let none_got : got f.tokens (f.far m) m a ≡ 0 = f.home m a alive mine in omega (arith, none_got)

        its_standing : with_appl a standing.RunWaiting appls ≡ appls_by b g.at m true (a ∷ asked)
        its_standing = ap (λ (c : Bool). with_appl a (cond c standing.RunWaiting (standing.Distributed (g.at a))) appls) (sym is_its)

        by : Leaves (own_at s m) m a (d0 b g.at m) x
            → first_of (candidates_at (own_at s m) a (d0 b g.at m)) (places_of (own_at s m) a) ≡ Some m
        by (inl (among, first_is)) = first_is ∙ ap Some (same_node x m mine)
        by (inr (not_among, some)) =
            absurd (false≢true (sym not_among ∙ ap (λ (y : Node). is_among y (candidates_at (own_at s m) a (d0 b g.at m)))
            (sym (same_node x m mine)) ∙ some))

        first_here : first_of (candidates_at (own_at s m) a (d0 b g.at m)) (places_of (own_at s m) a) ≡ Some m
        first_here = by leaves

    -- ---- it is known to run at another node

    not_itself : (g.at a).0 ≢ m.0 → (c : App) → (g.at c).0 ≡ m.0 → a.0 ≢ c.0
    not_itself other c home same = other (ap (λ (y : App). (g.at y).0) (same_app a c same) ∙ home)

    light : (g.at a).0 ≢ m.0 → request_weight b g.at m a ≡ 3
    light other = ap (λ (c : Bool). cond c (4 + telling_weight b g.at m) 3) (ne_eqb (g.at a).0 m.0 other)

    starts_there : (g.at a).0 ≢ m.0 → 1 ≤ tally_rows a k.rows → Over
    starts_there other some = further (learns a r) (keydelete a k.rows) _ (record {
      boots = fine.boots;
      order = fine.order;
      so = (fine.so, other, refl);
      lately = inl refl;
      marked = still_marked g.at a k.rows fine.marked;
      mail = refl;
      single = fine.single;
      awaited = tt;
    }) (freed_again _) refl refl
        (let much : request_weight b g.at m a ≡ 3 = light other in omega (arith, much))
        (λ c away.
        (let less : tally_rows c k.rows ≡ more_if (a.0 == c.0) (tally_rows c (keydelete a k.rows)) = fewer_rows a c k.rows some in
        let both : more_if (a.0 == c.0) (tally_rows c (keydelete a k.rows)) + tally c asked
        ≡ tally_rows c (keydelete a k.rows) + more_if (a.0 == c.0) (tally c asked) =
        moved (a.0 == c.0) (tally_rows c (keydelete a k.rows)) (tally c asked) in
        omega (arith, less, both)))
        (λ c home. sym (fewer_rows a c k.rows some
        ∙ ap (λ (d : Bool). more_if d (tally_rows c (keydelete a k.rows))) (ne_eqb a.0 c.0 (not_itself other c home))))
        (λ c home. tally_other c a asked (not_itself other c home))
        (λ q strange. kept_rows q a k.rows (false_from_ne_true (q a) (λ so. false≢true (sym (strange a so) ∙ booted))))
        (λ q own. skipped q a asked (false_from_ne_true (q a) (λ so. other (own a so)))) refl
        (takes (deciding.answered s.cluster (own_at s m) m v0.life (d0 b g.at m) k.rows asked appls a x (reply.Started x)
        (standing.Distributed x))
        (deciding.finds_there s.cluster (own_at s m) m v0.life (d0 b g.at m) k.rows asked appls a x unknown new
        (found_at g.at a k.rows fine.marked some) leaves)
        ∙ (λ i. record (with_node m
        (record v0 { dist = Some (dist_with (d0 b g.at m) stand.Idle [] (keydelete a k.rows) (a ∷ asked) [] (its_standing i)) }) u) {
          messages = messages ++ its_reply (h b g.at m) a (reply.Started x) ∷ [];
          locks = freed (Alone p) p (u.locks ++ the_lock m (node_at b m).life ∷ []);
        }))
      where
        moved : (d : Bool) (i j : ℕ) → more_if d i + j ≡ i + more_if d j
        moved true i j = omega arith
        moved false i j = refl

        its_standing : with_appl a (standing.Distributed x) appls ≡ appls_by b g.at m false (a ∷ asked)
        its_standing = ap (λ (c : Bool). with_appl a (cond c standing.Local (standing.Distributed x)) appls)
            (sym (ne_eqb (g.at a).0 m.0 other))

    -- ---- it waits for that

    abbrev st : Bool → List Node → DistView
    st d nodes = dist_with (d0 b g.at m) (deciding.stands_in s.cluster (own_at s m) m v0.life (d0 b g.at m) k.rows asked appls a x d) []
        k.rows asked nodes appls

    watches : (g.at a).0 ≢ m.0 → (d : Bool) (locks : List Held)
        → all_carried_out m (deciding.waits_out s.cluster (own_at s m) m v0.life (d0 b g.at m) k.rows asked appls a x d)
        (record (with_node m (record v0 { dist = Some (st d []) }) s) { locks = locks })
        ≡ record (with_node m
        (record v0 { dist = Some (st d (deciding.watches s.cluster (own_at s m) m v0.life (d0 b g.at m) k.rows asked appls a x d)) })
        s) { locks = locks }
    watches other true locks =
        monitors_it m x (record s { locks = locks }) v0 (st true []) there0 (λ same. other (sym same)) (awake_so g f x ∙ up_of g x runner)
        (ap (λ l. m.0 == x.0 || are_linked m x l) (ap (λ (y : SystemView). y.links) f.same)
        ∙ ap (λ (c : Bool). m.0 == x.0 || c) ((each_of g m alive).sees x other (subst (λ (j : ℕ). 1 ≤ j) (counts_so x b.alive) runner))
        ∙ or-true (m.0 == x.0))
    watches other false locks = refl

    waits_there : (g.at a).0 ≢ m.0 → tally_rows a k.rows ≡ 0 → Over
    waits_there other no_row = further (stands a r) k.rows (u.locks ++ the_lock m (node_at b m).life ∷ []) (record {
      boots = fine.boots;
      order = fine.order;
      so = (fine.so, other, refl);
      lately = inl refl;
      marked = fine.marked;
      mail = refl;
      single = fine.single;
      awaited = no_row;
    }) (held_more b f.far m (record (f.far m) { how = stands a r; ran = []; mail = []; rows = k.rows }) u.locks alive refl f.locks) refl
        refl
        (let much : request_weight b g.at m a ≡ 3 = light other in omega (arith, much))
        (λ c away. refl) (λ c home. refl) (λ c home. refl) (λ q strange. refl) (λ q own. refl) refl
        (takes (record (turn_from s.cluster (own_at s m) m v0.life (dist_of b g.at m old)) {
          state = st (may_itself b g.at m a) [];
          out = deciding.waits_out s.cluster (own_at s m) m v0.life (d0 b g.at m) k.rows asked appls a x (may_itself b g.at m a);
        })
        (deciding.waits_there s.cluster (own_at s m) m v0.life (d0 b g.at m) k.rows asked appls a x (may_itself b g.at m a) unknown
        (not_found a k.rows no_row) other
        (ap (λ (o : OwnView). is_among m (candidates_at o a (d0 b g.at m))) own_same) leaves)
        ∙ watches other (may_itself b g.at m a) (u.locks ++ the_lock m (node_at b m).life ∷ [])
        ∙ (λ i. record (with_node m (live b g.at m (record (f.far m) { how = stands a r; ran = []; mail = []; rows = k.rows })) u) {
          messages = sym (append-nil messages) i;
          locks = u.locks ++ the_lock m (node_at b m).life ∷ [];
        }))

    decides : Over
    decides = by (cases_eq (g.at a).0 m.0) (tally_rows a k.rows) refl
      where
        by : ((g.at a).0 ≡ m.0) ⊎ ((g.at a).0 ≢ m.0) → (j : ℕ) → tally_rows a k.rows ≡ j → Over
        by (inl mine) j many = starts_here mine
        by (inr other) zero many = waits_there other many
        by (inr other) (suc j) many = starts_there other (omega (arith, many))

  pub answers_it : Stage b g.at left (arrived (process_at (h b g.at m) role.DistAc) (message.StartRequest a) s)
  answers_it = decides it.0 it.1 it.2 it.3
