-- A node begins to come back: it sees all nodes of its lists at once, and waits for them, or joins.
use Rattle.std.proofs.Common.{◌≡◌, ◌≢◌, ◌≤◌, ◌<◌, ◌⊎◌, ◌+◌, ◌++◌, ◌||◌, ◌^◌, nat_lt, ℕ, Bool, true, false, cond, List, [], ◌∷◌, map, Option, Some, None, refl, sym, ap, subst, ◌∙◌, inl, inr, arith}
use Rattle.std.proofs.lemmas.Bool.{ne_eqb, false≢true, or_left, or_right, or_cases}
use Rattle.std.proofs.lemmas.List.Elements.{All-nil}
use Rattle.std.proofs.lemmas.Option.{none-some, same_Some}
use Rattle.rh_model.specs.ClusterView.{is_in, mandatory_of, optional_of}
use Rattle.rh_model.specs.declared.node.Node.{Node}
use Rattle.rh_otp_model.specs.declared.message.Message.TheVariants as message
use Rattle.rh_otp_model.specs.declared.process.Role.TheVariants as role
use Rattle.rh_otp_model.specs.declared.wait.Wait.{Wait}
use Rattle.rh_otp_model.specs.declared.wait.Wait.TheVariants as wait
use Rattle.rh_otp_net.specs.declared.timers.Timer.{Timer}
use Rattle.rh_otp_net.specs.Links.{linked_with}
use Rattle.rh_otp_node.specs.Live.{LiveView, is_alive, is_up}
use Rattle.rh_otp_system.specs.Doing.{begun_at, all_seen, with_timeout, waited_for, waited, booted}
use Rattle.rh_otp_node.specs.Kernel as kernel
use Rattle.rh_otp_model.specs.declared.output.Event.TheVariants as event
use Rattle.rh_otp_system.specs.Joining.{go_on, join, joined_at, with_boot}
use Rattle.rh_otp_system.specs.Moves.{IsQuiet}
use Rattle.rh_otp_system.specs.Sending.{sent, after, told}
use Rattle.rh_otp_system.specs.State.{SystemView, node_at, with_node, wait_at, is_alive_at, is_up_at, has_dist_at, process_in}
use Rattle.rh_otp_laws.specs.Acting.{IsReached}
use Rattle.rh_otp_laws.proofs.Beginning.{begun_there}
use Rattle.rh_otp_laws.proofs.Hanging.{settled_stays_so}
use Rattle.rh_otp_laws.proofs.Nodes.{others_same}
use Rattle.rh_otp_system.specs.Moves.{here}
use Rattle.rh_otp_crashes.specs.Crashes.{AreAtRest}
use Rattle.rh_otp_crashes.proofs.Crossing.{same_node}
use Rattle.rh_otp_crashes.proofs.Turning.{written_twice}
use Rattle.rh_otp_waits.specs.Waits.{HasItWait}
use Rattle.rh_otp_joins.specs.Joins.{connect_of, ComesBack, uncounted}
use Rattle.rh_otp_joins.proofs.Connected.{none_left_of}
use Rattle.rh_otp_joins.proofs.Landing.{new_live, Linked}
use Rattle.rh_otp_joins.proofs.Lists.{more_if, count_of, in_counted, counted_in_list, count_both}
use Rattle.rh_otp_joins.proofs.Opened.{up_letter}
use Rattle.rh_otp_joins.proofs.Seeing.{Seen, IsApart, sees_all}
use Rattle.rh_otp_joins.proofs.Waiting.{Covers, waiting_as}

-- ---- its timer

picked : (d e : Bool) (x : Timer) (u : SystemView)
    → cond d u (cond e (record u { timers = u.timers ++ x ∷ [] }) u) ≡ record u { timers = cond d u.timers (cond e (u.timers ++ x ∷ []) u.timers) }
picked true e x u = refl
picked false true x u = refl
picked false false x u = refl

-- the end of its wait is a timer, if it has one
timed : (n : Node) (time : Option ℕ) (u : SystemView) → ((k : ℕ) → time ≡ Some k → 0 < k)
    → (timers : List Timer) × (with_timeout n time u ≡ record u { timers = timers })
unfolding after
timed n None u some = (u.timers, refl)
timed n (Some time) u some =
    let x : Timer = record { due = u.clock + time; step = u.step; to = process_in u n role.KernelConfig; message = message.Timeout } in
    let d : Bool = nat_lt 4294967295 time in
    let e : Bool = nat_lt (u.clock + time) (2 ^ 64) in (
      cond d u.timers (cond e (u.timers ++ x ∷ []) u.timers),
      ap (λ (c : Bool). cond c (sent (record x.to { role = role.Timer }) x.to message.Timeout u) (cond d u (cond e (record u { timers = u.timers ++ x ∷ [] }) u)))
          (ne_eqb time 0 (λ is. (let more : 0 < time = some time refl in omega (arith, is, more))))
          ∙ picked d e x u,
    )

-- ---- the answers aren't counted

uncounted_join : (n : Node) (x : SystemView) → uncounted (join n x) ≡ join n (uncounted x)
unfolding join told
uncounted_join n x = by (has_dist_at x n)
  where
    y : SystemView
    y = told (event.Up n) (joined_at n x)

    go : SystemView → SystemView
    go z = sent (process_in z n role.KernelConfig) (process_in z n role.DistAc) message.Go z

    by : (c : Bool) → uncounted (with_boot n (cond c (go y) y)) ≡ with_boot n (cond c (go (uncounted y)) (uncounted y))
    by true = refl
    by false = refl

uncounted_so : (n : Node) (x : SystemView) → uncounted (go_on n x) ≡ go_on n (uncounted x)
uncounted_so n x = by (kernel.waits (node_at x n)) (uncounted_join n x)
  where
    by : (c : Bool) → uncounted (join n x) ≡ join n (uncounted x) → uncounted (cond c x (join n x)) ≡ cond c (uncounted x) (join n (uncounted x))
    by true joins = refl
    by false joins = joins

-- ---- it has begun

-- Behind its beginning it waits for its lists, or joins, and net_kernel tells of those that it sees (`ups`).
pub record Begun (n : Node) (s : SystemView) : Type 0 where
  pub q : SystemView
  pub ups : List Node
  pub start : uncounted (booted n s)
      ≡ go_on n (waiting_as n (new_live n s) q (mandatory_of s.cluster n) (optional_of s.cluster n) ups)
  pub nodes : q.nodes ≡ (with_node n (new_live n s) s).nodes
  pub linked : Linked n s q
  pub locks : q.locks ≡ s.locks
  pub answers : q.answers ≡ []
  pub covers : Covers ups (mandatory_of s.cluster n) (optional_of s.cluster n)
  pub once : (m : Node) → count_of m (linked_with n q.links) ≤ 1
  pub only : (m : Node) → 1 ≤ count_of m (linked_with n q.links) → (is_alive_at s m ≡ true) × (m.0 ≢ n.0)

-- its wait, by its file
wait_time : (n : Node) (s : SystemView) → ComesBack n s
    → (time : Option ℕ) × ((k : ℕ) → time ≡ Some k → 0 < k) × ((x : SystemView) → waited (wait_at s n) n x ≡ waited_for n time x)
wait_time n s back = by (wait_at s n) back.waits
  where
    by : (w : Wait) → HasItWait w
        → (time : Option ℕ) × ((k : ℕ) → time ≡ Some k → 0 < k) × ((x : SystemView) → waited w n x ≡ waited_for n time x)
    by (wait.After time) more = (Some time, λ k some. subst (λ (j : ℕ). 0 < j) (same_Some time k some) more, λ x. refl)
    by wait.Forever has = (None, λ k some. absurd (none-some k some), λ x. refl)
    by wait.Unset has = absurd has
    by wait.Refused has = absurd has

pub has_begun : (n : Node) (s : SystemView) → IsReached s → AreAtRest s → ComesBack n s → Begun n s
unfolding booted waited_for
has_begun n s reached rest back = record {
  q = q;
  ups = f.ups;
  start = start_so;
  nodes = refl;
  linked = record {
    cluster = refl;
    files = refl;
    alive = refl;
    ends_soon = refl;
    calls = refl;
    events = refl;
    connects = f.connects;
    slow = refl;
    apart = f.apart;
    kept = f.kept;
    linked = λ m alive. f.linked m (alive_now m (not_itself m alive) alive) (listed_so m alive);
  };
  locks = refl;
  answers = refl;
  covers = covers_so;
  once = f.once;
  only = λ m among. (let so : (is_alive_at s1 m ≡ true) × (m.0 ≢ n.0) = f.only m among in (alive_then m so.1 so.0, so.1));
}
  where
    v : LiveView
    v = new_live n s

    s1 : SystemView
    s1 = begun_at n s

    ms : List Node
    ms = mandatory_of s.cluster n

    os : List Node
    os = optional_of s.cluster n

    at_n : node_at s1 n ≡ v
    at_n = begun_there s n back.there.0 back.there.1

    at_others : (m : Node) → m.0 ≢ n.0 → node_at s1 m ≡ node_at s m
    at_others m apart = others_same s n m v apart

    alive_now : (m : Node) → m.0 ≢ n.0 → is_alive_at s m ≡ true → is_alive_at s1 m ≡ true
    alive_now m apart alive = ap is_alive (at_others m apart) ∙ alive

    alive_then : (m : Node) → m.0 ≢ n.0 → is_alive_at s1 m ≡ true → is_alive_at s m ≡ true
    alive_then m apart alive = sym (ap is_alive (at_others m apart)) ∙ alive

    not_itself : (m : Node) → is_alive_at s m ≡ true → m.0 ≢ n.0
    not_itself m alive same = false≢true (sym back.down ∙ ap (is_alive_at s) (sym (same_node m n same)) ∙ alive)

    listed_so : (m : Node) → is_alive_at s m ≡ true → 1 ≤ count_of m (ms ++ os)
    listed_so m alive =
        let both : count_of m (ms ++ os) ≡ count_of m ms + count_of m os = count_both m ms os in
        by both (or_cases (is_in m ms) (is_in m os) (back.listed m ∙ alive))
      where
        by : count_of m (ms ++ os) ≡ count_of m ms + count_of m os → (is_in m ms ≡ true) ⊎ (is_in m os ≡ true) → 1 ≤ count_of m (ms ++ os)
        by both (inl among) = let one : 1 ≤ count_of m ms = counted_in_list m ms among in omega (arith, both, one)
        by both (inr among) = let one : 1 ≤ count_of m os = counted_in_list m os among in omega (arith, both, one)

    fine : (m : Node) → is_in m ms || is_in m os ≡ true → (is_up_at s1 m ≡ true) × (m.0 ≢ n.0)
    fine m among =
        let alive : is_alive_at s m ≡ true = sym (back.listed m) ∙ among in
        let apart : m.0 ≢ n.0 = not_itself m alive in
        (ap is_up (at_others m apart) ∙ back.up m alive, apart)

    unlinked : linked_with n s.links ≡ []
    unlinked = none_left_of n s reached back.down

    quiet : IsQuiet s
    quiet = (settled_stays_so s s rest.settled (here s)).0

    none_seen : Seen n s1 [] s1
    none_seen = record {
      ups = [];
      connects = [];
      links = s.links;
      is = λ i. record s1 { messages = quiet.0 i; slow = quiet.1 i };
      told = λ m alive. omega arith;
      kept = λ a b is. is;
      linked = λ m alive among. absurd (omega (arith, among));
      once = λ m.
          (let none : count_of m (linked_with n s.links) ≡ 0 = ap (count_of m) unlinked in
          omega (arith, none));
      only = λ m among. absurd (let none : count_of m (linked_with n s.links) ≡ 0 = ap (count_of m) unlinked in omega (arith, among, none));
      apart = All-nil IsApart;
    }

    u : SystemView
    u = all_seen n os (all_seen n ms s1)

    f : Seen n s1 (ms ++ os) u
    f =
        sees_all n os s1 (all_seen n ms s1) ms (ap (λ (w : LiveView). w.phase) at_n)
        (λ m alive among. fine m (or_right (is_in m ms) (is_in m os) (in_counted m os among)))
        (sees_all n ms s1 s1 [] (ap (λ (w : LiveView). w.phase) at_n)
        (λ m alive among. fine m (or_left (is_in m ms) (is_in m os) (in_counted m ms among))) none_seen)

    time : (time : Option ℕ) × ((k : ℕ) → time ≡ Some k → 0 < k) × ((x : SystemView) → waited (wait_at s n) n x ≡ waited_for n time x)
    time = wait_time n s back

    seen : SystemView
    seen = record s1 { messages = map (up_letter n s1) f.ups; links = f.links; slow = map connect_of f.connects }

    timer : (timers : List Timer) × (with_timeout n time.0 seen ≡ record seen { timers = timers })
    timer = timed n time.0 seen time.1

    q : SystemView
    q = record seen { messages = []; timers = timer.0; answers = [] }

    covers_so : Covers f.ups ms os
    covers_so m = by (is_in m ms) refl (is_in m os) refl
      where
        enough : is_alive_at s m ≡ true → count_of m ms + count_of m os ≤ count_of m f.ups
        enough alive =
            let less : count_of m (ms ++ os) ≤ count_of m f.ups = f.told m (alive_now m (not_itself m alive) alive) in
            let both : count_of m (ms ++ os) ≡ count_of m ms + count_of m os = count_both m ms os in
            omega (arith, less, both)

        by : (c : Bool) → is_in m ms ≡ c → (d : Bool) → is_in m os ≡ d → more_if c 0 + more_if d 0 ≤ count_of m f.ups
        by true is true is_too =
            let all : count_of m ms + count_of m os ≤ count_of m f.ups = enough (sym (back.listed m) ∙ or_left (is_in m ms) (is_in m os) is) in
            let one : 1 ≤ count_of m ms = counted_in_list m ms is in
            let two : 1 ≤ count_of m os = counted_in_list m os is_too in
            omega (arith, all, one, two)
        by true is false is_too =
            let all : count_of m ms + count_of m os ≤ count_of m f.ups = enough (sym (back.listed m) ∙ or_left (is_in m ms) (is_in m os) is) in
            let one : 1 ≤ count_of m ms = counted_in_list m ms is in
            omega (arith, all, one)
        by false is true is_too =
            let all : count_of m ms + count_of m os ≤ count_of m f.ups = enough (sym (back.listed m) ∙ or_right (is_in m ms) (is_in m os) is_too) in
            let two : 1 ≤ count_of m os = counted_in_list m os is_too in
            omega (arith, all, two)
        by false is false is_too = omega arith

    start_so : uncounted (booted n s) ≡ go_on n (waiting_as n v q ms os f.ups)
    start_so =
        ap uncounted (time.2 s1)
        ∙ ap (λ (w : LiveView). uncounted (go_on n (with_timeout n time.0 (all_seen n w.optional (all_seen n w.mandatory s1))))) at_n
        ∙ ap (λ (x : SystemView). uncounted (go_on n (with_timeout n time.0 x))) f.is
        ∙ ap (λ (x : SystemView). uncounted (go_on n x)) timer.1
        ∙ uncounted_so n (record seen { timers = timer.0 })
        ∙ (λ i. go_on n (record q { messages = map (up_letter n s1) f.ups; nodes = (sym (written_twice s n v v) i).nodes }))
