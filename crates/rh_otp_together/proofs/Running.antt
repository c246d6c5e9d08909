-- A dist_ac is told of a start at its node, and the news goes to all others.
use Rattle.std.proofs.Common.{◌≡◌, ◌≢◌, ◌≤◌, ◌⊎◌, ◌+◌, ◌++◌, ◌==◌, ◌&&◌, ◌||◌, ℕ, suc, Bool, true, false, not, cond, List, [], ◌∷◌, map, filter, length, Some, None, refl, sym, ap, subst, ◌∙◌, inl, inr, arith}
use Rattle.std.proofs.Math.Bool.{or-true}
use Rattle.std.proofs.lemmas.Bool.{cases_eq, eq-eqb, ne_eqb}
use Rattle.std.proofs.lemmas.List.{append-nil}
use Rattle.std.proofs.lemmas.List.Elements.{All-append, filter-append, All-cons, All-nil}
use Rattle.rh_model.specs.declared.node.App.{App}
use Rattle.rh_model.specs.declared.node.Node.{Node}
use Rattle.rh_otp_model.specs.declared.message.Message.TheVariants as message
use Rattle.rh_otp_model.specs.declared.output.Envelope.{Envelope}
use Rattle.rh_otp_model.specs.declared.process.Role.TheVariants as role
use Rattle.rh_otp_model.specs.Processes.{process_at}
use Rattle.rh_otp_dist.specs.declared.state.Appl.{Appl}
use Rattle.rh_otp_dist.specs.declared.state.Stand.TheVariants as stand
use Rattle.rh_otp_dist.specs.declared.state.Standing.TheVariants as standing
use Rattle.rh_otp_dist.specs.State.{DistView, TurnView, is_among}
use Rattle.rh_otp_net.specs.Links.{are_linked}
use Rattle.rh_otp_node.specs.Live.{LiveView, here_of, is_alive}
use Rattle.rh_otp_system.specs.declared.slow.Slow.TheVariants as slow
use Rattle.rh_otp_system.specs.Delivering.{arrived}
use Rattle.rh_otp_system.specs.State.{SystemView, live_at, node_at, with_node, is_alive_at, has_dist_at}
use Rattle.rh_otp_laws.proofs.Nodes.{same_of_all}
use Rattle.rh_otp_crashes.proofs.Crossing.{same_node}
use Rattle.rh_otp_crashes.proofs.Peace.{without}
use Rattle.rh_otp_crashes.proofs.Posting.{posted_to, mails, all_posted}
use Rattle.rh_otp_crashes.proofs.Telling.{it_is_here, run_over, runs_so}
use Rattle.rh_otp_crashes.proofs.Turning.{own_in, weighing, turn, works_on, works_idle}
use Rattle.rh_otp_joins.proofs.Lists.{more_if, count_of}
use Rattle.rh_otp_gathers.proofs.Opening.{counts_so}
use Rattle.rh_otp_gathers.proofs.Stages.{drawn_all}
use Rattle.rh_otp_gathers.proofs.Tokens.{total, total_more, Drawn, drawn_total}
use Rattle.rh_otp_together.specs.Together.{BootTogether}
use Rattle.rh_otp_together.proofs.Apps.{tally, same_app}
use Rattle.rh_otp_together.proofs.Deciding.{with_appl}
use Rattle.rh_otp_together.proofs.Forms.{How, unbegun, asks, requests, stands, starts, learns, reports, answered, over, Far, live, Fine, Token, ran, news, letter, h, d0, is_mine, asked_by, told_by, behind_first, standing_for, appls_by, dist_of, friends, is_inner, is_voice, news_of, token_weight, asking, inners, tale, weight, onto, is_news, all_said}
use Rattle.rh_otp_together.proofs.Handling.{dist_with}
use Rattle.rh_otp_together.proofs.Lives.{lives_so, awake_so}
use Rattle.rh_otp_together.proofs.Moving.{comes_to, there_now, written}
use Rattle.rh_otp_together.proofs.Needs.{each_of, once_of, up_of}
use Rattle.rh_otp_together.proofs.Queues.{heard_more, often, heard_of}
use Rattle.rh_otp_together.proofs.Stages.{told_of, IsOf, Stage, drawn_apart, heard, row_app}
use Rattle.rh_otp_together.proofs.Starting.{no_events}
use Rattle.rh_otp_together.proofs.Stepping.{Step, stepped}
use Rattle.rh_otp_together.proofs.Telling.{idle_so, Untold, untold, set_again, among_count, known_count, friends_alive, friend_count}
use Rattle.rh_otp_together.proofs.Voices.{still_held, still_waiting}

-- ---- which it is

asked_front : (m : Node) (a : App) (how : How) (l : List Token) → asking m how ≡ ran m a ∷ l → ⊥
asked_front m a unbegun l is = cc
asked_front m a (asks c r) l is = cc
asked_front m a (requests c r) l is = cc
asked_front m a (stands c r) l is = cc
asked_front m a (starts c r) l is = cc
asked_front m a (learns c r) l is = cc
asked_front m a (reports c r) l is = cc
asked_front m a answered l is = cc
asked_front m a over l is = cc

ran_front : (m : Node) (a : App) (how : How) (apps : List App) (l : List Token) → inners m how apps ≡ ran m a ∷ l
    → (more : List App) × (apps ≡ a ∷ more) × (l ≡ asking m how)
ran_front m a how [] l is = absurd (asked_front m a how l is)
ran_front m a how (c ∷ more) l is = (more, (let one : c ∷ more ≡ a ∷ more = cc in one), (let other : l ≡ asking m how = cc in other))

-- ---- news are nobody's voices

news_filter : (p : Token → Bool) (a : App) → ((x : Node) → p (news x a) ≡ false) → (nodes : List Node)
    → filter p (map (λ (x : Node). news x a) nodes) ≡ []
news_filter p a fails [] = refl
news_filter p a fails (x ∷ nodes) =
    ap (λ (c : Bool). cond c (news x a ∷ filter p (map (λ (y : Node). news y a) nodes)) (filter p (map (λ (y : Node). news y a) nodes)))
    (fails x)
    ∙ news_filter p a fails nodes

news_weight : (a : App) (nodes : List Node) → total token_weight (map (λ (x : Node). news x a) nodes) ≡ length nodes
news_weight a [] = refl
news_weight a (x ∷ nodes) = let rest : total token_weight (map (λ (y : Node). news y a) nodes) ≡ length nodes = news_weight a nodes in
    omega (arith, rest)

news_total : (k : Node) (c a : App) (nodes : List Node) → total (news_of k c) (map (λ (x : Node). news x a) nodes)
    ≡ cond (a.0 == c.0) (count_of k nodes) 0
news_total k c a [] = by (a.0 == c.0)
  where
    by : (d : Bool) → ◌≡◌ {A = ℕ} 0 (cond d 0 0)
    by true = refl
    by false = refl
news_total k c a (x ∷ nodes) = by (x.0 == k.0) (a.0 == c.0) (news_total k c a nodes)
  where
    by : (d e : Bool) → total (news_of k c) (map (λ (y : Node). news y a) nodes) ≡ cond e (count_of k nodes) 0
        → more_if (d && e) 0 + total (news_of k c) (map (λ (y : Node). news y a) nodes) ≡ cond e (more_if d (count_of k nodes)) 0
    by true true rest = omega (arith, rest)
    by true false rest = omega (arith, rest)
    by false true rest = omega (arith, rest)
    by false false rest = omega (arith, rest)

-- what none of the friends is
not_among : (k : Node) (q : Node → Bool) (nodes : List Node) → ((x : Node) → x.0 ≡ k.0 → q x ≡ false) → count_of k (filter q nodes) ≡ 0
not_among k q [] out = refl
not_among k q (x ∷ nodes) out = by (cases_eq x.0 k.0) (not_among k q nodes out)
  where
    skips : (c : Bool) → (x.0 == k.0) ≡ false → count_of k (cond c (x ∷ filter q nodes) (filter q nodes)) ≡ count_of k (filter q nodes)
    skips true apart = ap (λ (c : Bool). more_if c (count_of k (filter q nodes))) apart
    skips false apart = refl

    by : (x.0 ≡ k.0) ⊎ (x.0 ≢ k.0) → count_of k (filter q nodes) ≡ 0 → count_of k (cond (q x) (x ∷ filter q nodes) (filter q nodes)) ≡ 0
    by (inl is) rest = ap (λ (c : Bool). count_of k (cond c (x ∷ filter q nodes) (filter q nodes))) (out x is) ∙ rest
    by (inr other) rest = skips (q x) (ne_eqb x.0 k.0 other) ∙ rest

module _ {b : SystemView} (g : BootTogether b) {left : ℕ} {u : SystemView} (f : Stage b g.at (suc left) u) (m : Node) (a : App)
    (alive : 1 ≤ count_of m b.alive) (messages : List Envelope) (rest : List Token) (left_so : messages ≡ map (letter b g.at) rest)
    (drawn : Drawn (ran m a) f.tokens rest) (front : filter (is_inner m) f.tokens ≡ ran m a ∷ filter (is_inner m) rest) where
  abbrev k : Far
  k = f.far m

  abbrev asked : List App
  asked = asked_by b g.at m k.how k.done

  abbrev later : List App
  later = behind_first asked

  abbrev it : (more : List App) × (k.ran ≡ a ∷ more) × (filter (is_inner m) rest ≡ asking m k.how)
  it = ran_front m a k.how k.ran (filter (is_inner m) rest) (sym (f.inner m alive) ∙ front)

  record Lately : Type 0 where
    alone : k.ran ≡ a ∷ []
    last : asked ≡ a ∷ later
    mine : (g.at a).0 ≡ m.0

  lately : Lately
  lately = by (f.fine m alive).lately
    where
      by : (k.ran ≡ []) ⊎ ((c : App) × (l : List App) × (k.ran ≡ c ∷ []) × (asked ≡ c ∷ l) × ((g.at c).0 ≡ m.0)) → Lately
      by (inl none) = let is : [] ≡ a ∷ it.0 = sym none ∙ it.1 in absurd (cc)
      by (inr (c, l, one, last, mine)) =
          let both : c ∷ [] ≡ a ∷ it.0 = sym one ∙ it.1 in
          let same : c ≡ a = cc in
          record {
            alone = one ∙ (λ i. same i ∷ []);
            last = last ∙ (λ i. same i ∷ behind_first (sym last i));
            mine = ap (λ (x : App). (g.at x).0) (sym same) ∙ mine;
          }

  abbrev old : Far
  old = record (f.far m) { ran = a ∷ [] }

  was : f.far m ≡ old
  was = λ i. record (f.far m) { ran = lately.alone i }

  fine : Fine b g.at m old
  fine = subst (Fine b g.at m) was (f.fine m alive)

  so : Untold b g.at m k.how k.done k.rest a
  so = untold b g.at m k.how k.done k.rest a fine.so

  abbrev next : Far
  next = record (f.far m) { ran = [] }

  fine_next : Fine b g.at m next
  fine_next = record {
    boots = fine.boots;
    order = fine.order;
    so = so.so;
    lately = inl refl;
    marked = fine.marked;
    mail = fine.mail;
    single = fine.single;
    awaited = fine.awaited;
  }

  is_its : is_mine b g.at m a ≡ true
  is_its = eq-eqb (g.at a).0 m.0 lately.mine

  abbrev form : List Appl → DistView
  form appls = dist_with (d0 b g.at m) stand.Idle [] k.rows (a ∷ later) [] appls

  old_dist : dist_of b g.at m old ≡ form (appls_by b g.at m true (a ∷ later))
  old_dist =
      idle_so b g.at m old fine so.quiet
      ∙ (λ i. dist_with (d0 b g.at m) stand.Idle [] k.rows (lately.last i) [] (appls_by b g.at m (so.pends i) (lately.last i)))

  next_dist : dist_of b g.at m next ≡ form (appls_by b g.at m false (a ∷ later))
  next_dist =
      idle_so b g.at m next fine_next so.quiet
      ∙ (λ i. dist_with (d0 b g.at m) stand.Idle [] k.rows (lately.last i) [] (appls_by b g.at m (so.then i) (lately.last i)))

  local_so : with_appl a standing.Local (appls_by b g.at m true (a ∷ later)) ≡ appls_by b g.at m false (a ∷ later)
  local_so =
      set_again a (standing_for b g.at m true a) standing.Local (appls_by b g.at m false later)
      ∙ ap (λ (c : Bool). with_appl a (cond c standing.Local (standing.Distributed (g.at a))) (appls_by b g.at m false later)) (sym is_its)

  abbrev s : SystemView
  s = without u messages

  abbrev v0 : LiveView
  v0 = live b g.at m old

  abbrev e0 : DistView
  e0 = form (appls_by b g.at m true (a ∷ later))

  there0 : live_at s m ≡ Some (record v0 { dist = Some e0 })
  there0 = there_now g f m old alive was messages ∙ (λ i. Some (record v0 { dist = Some (old_dist i) }))

  abbrev ended : TurnView
  ended = run_over a None (turn s.cluster (own_in s.files m) m v0.life e0)

  abbrev new : LiveView
  new = record v0 { dist = Some ended.state }

  abbrev q : SystemView
  q = with_node m new s

  abbrev lives : Node → ℕ
  lives x = (node_at b x).life

  same_lives : (x : Node) → (node_at q x).life ≡ lives x
  same_lives x = same_of_all (λ (w : LiveView). w.life) s m x new (sym (lives_so g f m)) ∙ lives_so g f x

  awake : (x : Node) → is_alive_at q x ≡ is_alive_at b x
  awake x = same_of_all is_alive s m x new (sym (awake_so g f m)) ∙ awake_so g f x

  sees : (x : Node) → is_among x (d0 b g.at m).known ≡ true → is_alive_at q x ≡ true → (m.0 == x.0 || are_linked m x q.links) ≡ true
  sees x among up = by (cases_eq x.0 m.0)
    where
      by : (x.0 ≡ m.0) ⊎ (x.0 ≢ m.0) → (m.0 == x.0 || are_linked m x q.links) ≡ true
      by (inl is) = ap (λ (c : Bool). c || are_linked m x q.links) (eq-eqb m.0 x.0 (sym is))
      by (inr other) =
          let known : count_of x (d0 b g.at m).known ≡ count_of x b.alive = known_count g m alive x other in
          let some : 1 ≤ count_of x (d0 b g.at m).known = among_count x (d0 b g.at m).known among in
          ap (λ l. m.0 == x.0 || are_linked m x l) (ap (λ (y : SystemView). y.links) f.same)
          ∙ ap (λ (c : Bool). m.0 == x.0 || c)
          ((each_of g m alive).sees x other (subst (λ (j : ℕ). 1 ≤ j) (counts_so x b.alive) (omega (arith, known, some))))
          ∙ or-true (m.0 == x.0)

  -- what is sent is the news to all friends
  abbrev told_them : List Node → List Token
  told_them nodes = map (λ (x : Node). news x a) nodes

  letter_so : (x : Node) → posted_to lives m (it_is_here m a None) x ≡ letter b g.at (news x a)
  letter_so x = ap (λ (y : Node). record {
    from = process_at (here_of y (node_at b y)) role.DistAc;
    to = process_at (here_of x (node_at b x)) role.DistAc;
    message = message.AppStarted y a None;
  }) (sym (same_node (g.at a) m lately.mine))

  mails_so : (nodes : List Node) → mails lives q m (it_is_here m a None) nodes
      ≡ map (letter b g.at) (told_them (filter (λ (x : Node). not (x.0 == m.0) && (is_alive_at b x && has_dist_at b x)) nodes))
  mails_so [] = refl
  mails_so (x ∷ nodes) =
      (λ i. cond (x.0 == m.0) (mails_so nodes i) (cond (awake x i && has_so i) (letter_so x i ∷ mails_so nodes i) (mails_so nodes i)))
      ∙ by (x.0 == m.0) (is_alive_at b x && has_dist_at b x)
    where
      rest_nodes : List Node
      rest_nodes = filter (λ (y : Node). not (y.0 == m.0) && (is_alive_at b y && has_dist_at b y)) nodes

      has_so : has_dist_at q x ≡ has_dist_at b x
      has_so = ap (λ (y : SystemView). has_dist_at y x) f.same

      by : (c d : Bool)
          → cond c (map (letter b g.at) (told_them rest_nodes))
          (cond d (letter b g.at (news x a) ∷ map (letter b g.at) (told_them rest_nodes)) (map (letter b g.at) (told_them rest_nodes)))
          ≡ map (letter b g.at) (told_them (cond (not c && d) (x ∷ rest_nodes) rest_nodes))
      by true d = refl
      by false true = refl
      by false false = refl

  abbrev more : List Token
  more = told_them (friends b g.at m)

  comes : arrived (process_at (h b g.at m) role.DistAc) (message.Run a None) s
      ≡ record (with_node m (live b g.at m next) u) {
        messages = map (letter b g.at) (rest ++ more);
        slow = map slow.Boot f.waiting;
        events = u.events ++ [];
      }
  comes =
      comes_to g f m old alive was messages role.DistAc (message.Run a None)
      ∙ works_on m (message.Run a None) s (record v0 { dist = Some e0 }) there0
      ∙ works_idle m (message.Run a None) s v0 e0 ended there0 refl
      (λ w. runs_so a None (weighing w (turn s.cluster (own_in s.files m) m v0.life e0)) refl)
      ∙ all_posted m (it_is_here m a None) (d0 b g.at m).known q same_lives sees
      ∙ (λ i. record q { messages = messages ++ mails_so (d0 b g.at m).known i; events = sym (append-nil u.events) i })
      ∙ (λ i. record (with_node m (record v0 { dist = Some ((ap form local_so ∙ sym next_dist) i) }) s) {
        messages = messages ++ map (letter b g.at) more;
        events = u.events ++ [];
      })
      ∙ written g f m old alive was messages (live b g.at m next) rest more [] left_so

  -- ---- so all is further

  apart_from : (x : Node) → x.0 ≢ m.0 → m.0 ≢ x.0
  apart_from x other is = other (sym is)

  told_old : told_of b g.at m (f.far m) ≡ later
  told_old = ap (told_of b g.at m) was ∙ (λ i. told_by b g.at m (so.pends i) asked)

  told_next : told_of b g.at m next ≡ a ∷ later
  told_next = (λ i. told_by b g.at m (so.then i) asked) ∙ lately.last

  not_itself : count_of m (friends b g.at m) ≡ 0
  not_itself = not_among m (λ (x : Node). not (x.0 == m.0) && (is_alive_at b x && has_dist_at b x)) (d0 b g.at m).known
      (λ x is. ap (λ (d : Bool). not d && (is_alive_at b x && has_dist_at b x)) (eq-eqb x.0 m.0 is))

  one_further : Step f m (arrived (process_at (h b g.at m) role.DistAc) (message.Run a None) s)
  one_further = record {
    next = next;
    tokens = rest ++ more;
    waiting = f.waiting;
    seen = [];
    locks = u.locks;
    is = comes;
    weighs =
        (let old_weight : total token_weight f.tokens ≡ 0 + total token_weight rest =
        drawn_total token_weight (ran m a) f.tokens rest drawn in
        let both : total token_weight (rest ++ more) ≡ total token_weight rest + total token_weight more =
        total_more token_weight rest more in
        let many : total token_weight more ≡ length (friends b g.at m) = news_weight a (friends b g.at m) in
        let before : weight b g.at m (f.far m) ≡ weight b g.at m old = ap (weight b g.at m) was in
        omega (arith, old_weight, both, many, before));
    fine = fine_next;
    locked = still_held b f.far m next u.locks so.quiet f.locks;
    slow = still_waiting b f.far m next f.waiting refl f.slow;
    known = All-append (IsOf b) rest more (drawn_all (IsOf b) (ran m a) f.tokens rest f.known drawn).1
        (friends_alive g m alive (d0 b g.at m).known
        (λ x other. let known : count_of x (d0 b g.at m).known ≡ count_of x b.alive = known_count g m alive x other in
        omega (arith, known)) a);
    voiced =
        filter-append (is_voice m) rest more
        ∙ (λ i. sym (drawn_apart (is_voice m) (ran m a) f.tokens rest drawn refl) i ++ news_filter (is_voice m) a (λ x. refl)
        (friends b g.at m) i)
        ∙ append-nil (filter (is_voice m) f.tokens) ∙ f.voiced m alive;
    inner =
        filter-append (is_inner m) rest more
        ∙ (λ i. it.2 i ++ news_filter (is_inner m) a (λ x. refl) (friends b g.at m) i)
        ∙ append-nil (asking m k.how);
    voiced_else = λ x other.
        filter-append (is_voice x) rest more
        ∙ (λ i. sym (drawn_apart (is_voice x) (ran m a) f.tokens rest drawn refl) i ++ news_filter (is_voice x) a (λ y. refl)
        (friends b g.at m) i)
        ∙ append-nil (filter (is_voice x) f.tokens);
    inner_else = λ x other.
        filter-append (is_inner x) rest more
        ∙ (λ i. sym (drawn_apart (is_inner x) (ran m a) f.tokens rest drawn (ne_eqb m.0 x.0 (apart_from x other))) i
        ++ news_filter (is_inner x) a (λ y. refl) (friends b g.at m) i)
        ∙ append-nil (filter (is_inner x) f.tokens);
    sums = λ c away. (let same : total (news_of m c) (rest ++ more) ≡ total (news_of m c) f.tokens = none_to_itself c in
        omega (arith, same));
    homes = λ c home. (let same : total (news_of m c) (rest ++ more) ≡ total (news_of m c) f.tokens = none_to_itself c in
        omega (arith, same));
    near = λ x c there other home.
        (let both : total (news_of x c) (rest ++ more) ≡ total (news_of x c) rest + total (news_of x c) more =
        total_more (news_of x c) rest more in
        let before : total (news_of x c) f.tokens ≡ 0 + total (news_of x c) rest =
        drawn_total (news_of x c) (ran m a) f.tokens rest drawn in
        let sent : total (news_of x c) more ≡ cond (a.0 == c.0) (count_of x (friends b g.at m)) 0 = news_total x c a (friends b g.at m) in
        let one : count_of x (friends b g.at m) ≡ 1 = friend_count g m alive x there other (is_one x there other) in
        let old_told : tally c (told_of b g.at m (f.far m)) ≡ tally c later = ap (tally c) told_old in
        let next_told : tally c (told_of b g.at m next) ≡ more_if (a.0 == c.0) (tally c later) = ap (tally c) told_next in
        let told : cond (a.0 == c.0) (count_of x (friends b g.at m)) 0 + tally c later ≡ more_if (a.0 == c.0) (tally c later) =
        counted (a.0 == c.0) (count_of x (friends b g.at m)) (tally c later) one in
        omega (arith, both, before, sent, old_told, next_told, told));
    apart = λ x c there other away.
        (let both : total (news_of x c) (rest ++ more) ≡ total (news_of x c) rest + total (news_of x c) more =
        total_more (news_of x c) rest more in
        let before : total (news_of x c) f.tokens ≡ 0 + total (news_of x c) rest =
        drawn_total (news_of x c) (ran m a) f.tokens rest drawn in
        let sent : total (news_of x c) more ≡ 0 =
        news_total x c a (friends b g.at m)
        ∙ ap (λ (d : Bool). cond d (count_of x (friends b g.at m)) 0)
        (ne_eqb a.0 c.0 (λ is. away (ap (λ (y : App). (g.at y).0) (sym (same_app a c is)) ∙ lately.mine))) in
        omega (arith, both, before, sent));
    says = a ∷ [];
    says_own = All-cons (λ (c : App). (g.at c).0 ≡ m.0) a [] lately.mine (All-nil (λ (c : App). (g.at c).0 ≡ m.0));
    ordered = λ n p apart strange. ap (λ (l : List App). onto l (filter p (onto k.mail (map row_app k.rows))))
        (heard_now m p ∙ ap (λ (l : List App). heard m p f.tokens ++ l) (none_said p) ∙ append-nil (heard m p f.tokens));
    hears = λ x p there other.
        heard_now x p
        ∙ ap (λ (l : List App). heard x p f.tokens ++ l)
        (heard_of x p a (friends b g.at m)
        ∙ ap (λ (j : ℕ). cond (p a) (often a j) []) (friend_count g m alive x there other (is_one x there other)));
    says_so = λ p own. ap (filter p) told_next ∙ put (p a) (filter p later) ∙ ap (λ (l : List App). onto (filter p (a ∷ [])) (filter p l))
        (sym told_old);
    tells = sym (append-nil (tale b g.at m k.how k.done));
    mine = no_events m;
  }
    where
      put : (c : Bool) (l : List App) → cond c (a ∷ l) l ≡ onto (cond c (a ∷ []) []) l
      put true l = refl
      put false l = refl

      heard_now : (x : Node) (p : App → Bool) → heard x p (rest ++ more) ≡ heard x p f.tokens ++ heard x p more
      heard_now x p =
          heard_more x p rest more
          ∙ ap (λ (l : List Token). all_said l ++ heard x p more) (sym (drawn_apart (is_news x p) (ran m a) f.tokens rest drawn refl))

      none_said : (p : App → Bool) → heard m p more ≡ []
      none_said p = heard_of m p a (friends b g.at m) ∙ ap (λ (j : ℕ). cond (p a) (often a j) []) not_itself ∙ nothing (p a)
        where
          nothing : (c : Bool) → ◌≡◌ {A = List App} (cond c [] []) []
          nothing true = refl
          nothing false = refl

      counted : (d : Bool) (j l : ℕ) → j ≡ 1 → cond d j 0 + l ≡ more_if d l
      counted true j l one = omega (arith, one)
      counted false j l one = omega arith

      is_one : (x : Node) → 1 ≤ count_of x b.alive → x.0 ≢ m.0 → (not (x.0 == m.0) && (is_alive_at b x && has_dist_at b x)) ≡ true
      is_one x there other = (λ i. not (ne_eqb x.0 m.0 other i) && (up_of g x there i && (each_of g x there).has_dist i))

      none_to_itself : (c : App) → total (news_of m c) (rest ++ more) ≡ total (news_of m c) f.tokens
      none_to_itself c =
          let both : total (news_of m c) (rest ++ more) ≡ total (news_of m c) rest + total (news_of m c) more =
          total_more (news_of m c) rest more in
          let before : total (news_of m c) f.tokens ≡ 0 + total (news_of m c) rest =
          drawn_total (news_of m c) (ran m a) f.tokens rest drawn in
          let sent : total (news_of m c) more ≡ cond (a.0 == c.0) (count_of m (friends b g.at m)) 0 = news_total m c a (friends b g.at m) in
          let none : cond (a.0 == c.0) (count_of m (friends b g.at m)) 0 ≡ 0 =
          nought (a.0 == c.0) (count_of m (friends b g.at m)) not_itself in
          (let same : total (news_of m c) (rest ++ more) ≡ total (news_of m c) f.tokens = omega (arith, both, before, sent, none) in same)
        where
          nought : (d : Bool) (j : ℕ) → j ≡ 0 → cond d j 0 ≡ 0
          nought true j out = out
          nought false j out = refl

  pub tells_all : Stage b g.at left (arrived (process_at (h b g.at m) role.DistAc) (message.Run a None) s)
  tells_all = stepped f m (arrived (process_at (h b g.at m) role.DistAc) (message.Run a None) s) (once_of g m alive) one_further
