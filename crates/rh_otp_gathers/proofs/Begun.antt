-- A node begins where all that are alive wait: it sees those that its lists name, and waits on.
use Rattle.std.proofs.Common.{◌≡◌, ◌≢◌, ◌<◌, ◌≤◌, ◌⊎◌, ◌+◌, ◌^◌, ◌==◌, ◌&&◌, ◌||◌, nat_lt, ℕ, zero, suc, Bool, true, false, cond, List, [], ◌∷◌, filter, length, Option, Some, None, refl, sym, ap, subst, ◌∙◌, inl, inr, arith}
use Rattle.std.specs.List.{cons_option}
use Rattle.std.specs.Prelude.{All, if◌then◌else◌}
use Rattle.std.proofs.Math.Bool.{and-false}
use Rattle.std.proofs.lemmas.Bool.{cases_Bool, cases_eq, eq-eqb, ne_eqb, eqb-true, false≢true, or_cases, or_left, or_right}
use Rattle.std.proofs.lemmas.List.Elements.{All-nil}
use Rattle.rh_model.specs.ClusterView.{is_in, mandatory_of, optional_of}
use Rattle.rh_model.specs.declared.node.Node.{Node}
use Rattle.rh_otp_model.specs.declared.message.Message.TheVariants as message
use Rattle.rh_otp_model.specs.declared.process.Role.TheVariants as role
use Rattle.rh_otp_model.specs.declared.wait.Wait.{Wait}
use Rattle.rh_otp_model.specs.declared.wait.Wait.TheVariants as wait
use Rattle.rh_otp_net.specs.declared.links.Link.{Link}
use Rattle.rh_otp_net.specs.declared.timers.Timer.{Timer}
use Rattle.rh_otp_net.specs.Links.{linked_with, are_linked}
use Rattle.rh_otp_node.specs.declared.node.Phase.{Phase}
use Rattle.rh_otp_node.specs.declared.node.Phase.TheVariants as phase
use Rattle.rh_otp_node.specs.Kernel as kernel
use Rattle.rh_otp_node.specs.Live.{LiveView, begun, is_alive, is_down}
use Rattle.rh_otp_system.specs.Doing.{booted, waited, waited_for, with_timeout, begun_at, all_seen}
use Rattle.rh_otp_system.specs.Joining.{join, go_on}
use Rattle.rh_otp_system.specs.Sending.{sent, after, with_timer}
use Rattle.rh_otp_system.specs.State.{SystemView, live_at, node_at, own_at, wait_at, is_alive_at, process_in}
use Rattle.rh_otp_laws.specs.Acting.{IsThere}
use Rattle.rh_otp_laws.proofs.Nodes.{node_written, there_written, others_same}
use Rattle.rh_otp_crashes.proofs.Crossing.{same_node}
use Rattle.rh_otp_joins.proofs.Lists.{more_if, count_of, counts_itself, count_filtered, passes}
use Rattle.rh_otp_joins.proofs.Stages.{all_of}
use Rattle.rh_otp_waits.specs.Waits.{HasItWait, is_listed}
use Rattle.rh_otp_waits.proofs.Waiting.{awaiting_waits}
use Rattle.rh_otp_gathers.specs.Gathers.{times, tellings, IsTelling, one_if}
use Rattle.rh_otp_gathers.proofs.Booting.{Saw, CanSee, MaySee, alive_of, pushed, sees_all, count_app}
use Rattle.rh_otp_gathers.proofs.Opening.{counts_so}

-- ---- counts

count_pushed : (x : Node) (n : Node) (b : SystemView) (xs done : List Node) → count_of x (pushed n b xs done) ≡ count_of x xs + count_of x done
count_pushed x n b [] done = omega arith
count_pushed x n b (y ∷ xs) done =
    let rest : count_of x (pushed n b xs (y ∷ done)) ≡ count_of x xs + count_of x (y ∷ done) = count_pushed x n b xs (y ∷ done) in
    by (y.0 == x.0) (count_of x (pushed n b xs (y ∷ done))) rest
  where
    by : (c : Bool) (j : ℕ) → j ≡ count_of x xs + more_if c (count_of x done) → j ≡ more_if c (count_of x xs) + count_of x done
    by true j is = omega (arith, is)
    by false j is = omega (arith, is)

pub in_count_by : (x : Node) (nodes : List Node) → (is_in x nodes ≡ true → 1 ≤ count_of x nodes) × (1 ≤ count_of x nodes → is_in x nodes ≡ true)
in_count_by x [] = (λ is. absurd (false≢true is), λ some. absurd (omega (arith, some)))
in_count_by x (y ∷ nodes) = by (cases_eq x.0 y.0) (in_count_by x nodes)
  where
    by : (x.0 ≡ y.0) ⊎ (x.0 ≢ y.0) → (is_in x nodes ≡ true → 1 ≤ count_of x nodes) × (1 ≤ count_of x nodes → is_in x nodes ≡ true)
        → ((x.0 == y.0 || is_in x nodes) ≡ true → 1 ≤ more_if (y.0 == x.0) (count_of x nodes))
        × (1 ≤ more_if (y.0 == x.0) (count_of x nodes) → (x.0 == y.0 || is_in x nodes) ≡ true)
    by (inl is) rest = (
      λ among. subst (λ (c : Bool). 1 ≤ more_if c (count_of x nodes)) (sym (eq-eqb y.0 x.0 (sym is))) (omega arith),
      λ some. ap (λ (c : Bool). c || is_in x nodes) (eq-eqb x.0 y.0 is),
    )
    by (inr other) rest = (
      λ among. subst (λ (c : Bool). 1 ≤ more_if c (count_of x nodes)) (sym (ne_eqb y.0 x.0 (λ is. other (sym is))))
          (rest.0 (sym (ap (λ (c : Bool). c || is_in x nodes) (ne_eqb x.0 y.0 other)) ∙ among)),
      λ some. ap (λ (c : Bool). c || is_in x nodes) (ne_eqb x.0 y.0 other)
          ∙ rest.1 (subst (λ (c : Bool). 1 ≤ more_if c (count_of x nodes)) (ne_eqb y.0 x.0 (λ is. other (sym is))) some),
    )

-- who sees nobody is connected with nobody
unlinked : (n m : Node) (links : List Link) → linked_with n links ≡ [] → are_linked n m links ≡ false
unlinked n m [] none = refl
unlinked n m (l ∷ links) none = by (l.0.0 == n.0) (l.1.0 == n.0) none (unlinked n m links)
  where
    some : (x : Node) (nodes : List Node) → x ∷ nodes ≡ [] → ⊥
    some x nodes is = let long : suc (length nodes) ≡ 0 = ap length is in omega (arith, long)

    by : (c d : Bool) → cons_option (if c then Some l.1 else if d then Some l.0 else None) (linked_with n links) ≡ []
        → (linked_with n links ≡ [] → are_linked n m links ≡ false)
        → (((c && l.1.0 == m.0) || (l.0.0 == m.0 && d)) || are_linked n m links) ≡ false
    by true d is rest = absurd (some l.1 (linked_with n links) is)
    by false true is rest = absurd (some l.0 (linked_with n links) is)
    by false false is rest = ap (λ (c : Bool). c || are_linked n m links) (and-false (l.0.0 == m.0)) ∙ rest is

-- those of a list that pass a test stand there as often
count_passed : (p : Node → Bool) (x : Node) (xs : List Node) → p x ≡ true → count_of x (filter p xs) ≡ count_of x xs
count_passed p x [] is = refl
count_passed p x (y ∷ xs) is = by (cases_Bool (y.0 == x.0)) (count_passed p x xs is)
  where
    by : ((y.0 == x.0) ≡ true) ⊎ ((y.0 == x.0) ≡ false) → count_of x (filter p xs) ≡ count_of x xs
        → count_of x (cond (p y) (y ∷ filter p xs) (filter p xs)) ≡ more_if (y.0 == x.0) (count_of x xs)
    by (inl same) rest =
        ap (λ (c : Bool). count_of x (cond c (y ∷ filter p xs) (filter p xs))) (ap p (same_node y x (eqb-true y.0 x.0 same)) ∙ is)
        ∙ ap (more_if (y.0 == x.0)) rest
    by (inr other) rest = either (p y) ∙ rest ∙ sym (ap (λ (c : Bool). more_if c (count_of x xs)) other)
      where
        either : (c : Bool) → count_of x (cond c (y ∷ filter p xs) (filter p xs)) ≡ count_of x (filter p xs)
        either true = ap (λ (d : Bool). more_if d (count_of x (filter p xs))) other
        either false = refl

pub one_count : (x : Node) (nodes : List Node) → one_if (is_in x nodes) ≤ count_of x nodes
one_count x nodes = by (cases_Bool (is_in x nodes))
  where
    by : (is_in x nodes ≡ true) ⊎ (is_in x nodes ≡ false) → one_if (is_in x nodes) ≤ count_of x nodes
    by (inl is) =
        let some : 1 ≤ count_of x nodes = (in_count_by x nodes).0 is in
        let one : one_if (is_in x nodes) ≡ 1 = ap one_if is in
        omega (arith, some, one)
    by (inr out) = let none : one_if (is_in x nodes) ≡ 0 = ap one_if out in omega (arith, none)

-- a wait that has no end, or some time
abbrev IsSome : Option ℕ → Type 0
IsSome None = Unit {0}
IsSome (Some time) = 0 < time

-- ---- the node begins

-- The node isn't alive, and nobody is connected with it. Its own file has it wait; its lists name each node that is alive, and some node,
-- but not itself. All that are alive wait, and no message is on its way.
pub record Begins (n : Node) (s : SystemView) : Type 0 where
  pub there : IsThere n s
  pub file : HasItWait (wait_at s n)
  pub down : times n s.alive ≡ 0
  pub unseen : linked_with n s.links ≡ []
  pub names : (x : Node) → 1 ≤ times x s.alive → is_listed s.cluster n x ≡ true
  pub not_itself : is_listed s.cluster n n ≡ true → ⊥
  pub some : Node
  pub listed : is_listed s.cluster n some ≡ true
  pub once : (m : Node) → times m s.alive ≤ 1
  pub waits : (m : Node) → 1 ≤ times m s.alive → (node_at s m).phase ≡ phase.Waiting
  pub dead : (m : Node) → is_listed s.cluster n m ≡ true → times m s.alive ≡ 0 → is_alive_at s m ≡ false
  pub messages : s.messages ≡ []

module _ (s : SystemView) (n : Node) (p : Begins n s) where
  abbrev pub b : SystemView
  b = begun_at n s

  abbrev pub v : LiveView
  v = begun s.cluster (own_at s n) n (node_at s n)

  pub here_n : node_at b n ≡ v
  here_n = node_written s n p.there.0 v p.there.1

  pub there_n : live_at b n ≡ Some v
  there_n = there_written s n p.there.0 v p.there.1

  pub at_m : (m : Node) → m.0 ≢ n.0 → node_at b m ≡ node_at s m
  at_m m apart = others_same s n m v apart

  pub apart : (m : Node) → 1 ≤ times m s.alive → m.0 ≢ n.0
  apart m some is =
      let none : times n s.alive ≡ 0 = p.down in
      let same : times m s.alive ≡ times n s.alive = ap (λ (x : Node). times x s.alive) (same_node m n is) in
      omega (arith, some, none, same)

  -- those that are alive since
  pub alive_then : (m : Node) → times m b.alive ≡ times m s.alive + one_if (n.0 == m.0)
  alive_then m =
      sym (counts_so m b.alive)
      ∙ count_app m s.alive (n ∷ [])
      ∙ (λ i. counts_so m s.alive i + more (n.0 == m.0) i)
    where
      more : (c : Bool) → more_if c 0 ≡ one_if c
      more true = refl
      more false = refl

  pub once_then : (m : Node) → times m b.alive ≤ 1
  once_then m = by (cases_eq n.0 m.0)
    where
      since : times m b.alive ≡ times m s.alive + one_if (n.0 == m.0)
      since = alive_then m

      by : (n.0 ≡ m.0) ⊎ (n.0 ≢ m.0) → times m b.alive ≤ 1
      by (inl is) =
          let none : times m s.alive ≡ 0 = ap (λ (x : Node). times x s.alive) (sym (same_node n m is)) ∙ p.down in
          let one : one_if (n.0 == m.0) ≡ 1 = ap one_if (eq-eqb n.0 m.0 is) in
          omega (arith, since, none, one)
      by (inr other) =
          let none : one_if (n.0 == m.0) ≡ 0 = ap one_if (ne_eqb n.0 m.0 other) in
          let once : times m s.alive ≤ 1 = p.once m in
          omega (arith, since, none, once)

  pub n_alive : 1 ≤ times n b.alive
  n_alive =
      let all : times n b.alive ≡ times n s.alive + one_if (n.0 == n.0) = alive_then n in
      let one : one_if (n.0 == n.0) ≡ 1 = ap one_if (eq-eqb n.0 n.0 refl) in
      omega (arith, all, one)

  pub can_see : (x : Node) → 1 ≤ times x s.alive → CanSee n b x
  can_see x some = record {
    alive = ap is_alive (at_m x (apart x some)) ∙ ap (λ (q : Phase). if is_down q then false else true) (p.waits x some);
    waits = ap (λ (y : LiveView). y.phase) (at_m x (apart x some)) ∙ p.waits x some;
    listed = (let all : times x b.alive ≡ times x s.alive + one_if (n.0 == x.0) = alive_then x in omega (arith, all, some));
    apart = apart x some;
  }

  abbrev pub ms : List Node
  ms = mandatory_of s.cluster n

  abbrev pub os : List Node
  os = optional_of s.cluster n

  other_listed : (x : Node) → is_listed s.cluster n x ≡ true → x.0 ≢ n.0
  other_listed x is same = p.not_itself (ap (is_listed s.cluster n) (sym (same_node x n same)) ∙ is)

  may_see : (x : Node) → is_listed s.cluster n x ≡ true → MaySee n b x
  may_see x is = by (times x s.alive) refl
    where
      by : (k : ℕ) → times x s.alive ≡ k → MaySee n b x
      by zero none = inr (ap is_alive (at_m x (other_listed x is)) ∙ p.dead x is none)
      by (suc k) some = inl (can_see x (omega (arith, some)))

  may_ms : All (MaySee n b) ms
  may_ms = all_of (MaySee n b) ms (λ x some. may_see x (or_left (is_in x ms) (is_in x os) ((in_count_by x ms).1 some)))

  may_os : All (MaySee n b) os
  may_os = all_of (MaySee n b) os (λ x some. may_see x (or_right (is_in x ms) (is_in x os) ((in_count_by x os).1 some)))

  -- those that it has seen
  abbrev pub done : List Node
  done = pushed n b (alive_of n b os) (pushed n b (alive_of n b ms) [])

  saw_none : Saw n b s.links [] b
  saw_none = record {
    links = s.links;
    messages = s.messages;
    slow = s.slow;
    is = refl;
    tells = subst (All (IsTelling b)) (sym p.messages) (All-nil (IsTelling b));
    own = λ x. omega arith;
    theirs = λ m some. absurd (omega (arith, some));
    joins = λ m other. unlinked n m s.links p.unseen;
    at_n = λ x. ap (count_of x) p.unseen;
    at_m = λ m x other. nothing (n.0 == x.0) (count_of x (linked_with m s.links));
  }
    where
      nothing : (c : Bool) (k : ℕ) → k ≡ k + (if c then 0 else 0)
      nothing true k = omega arith
      nothing false k = omega arith

  pub saw : Saw n b s.links done (all_seen n os (all_seen n ms b))
  saw =
      sees_all n b s.links os (pushed n b (alive_of n b ms) []) (all_seen n ms b) may_os waits n_alive
      (sees_all n b s.links ms [] b may_ms waits n_alive saw_none)
    where
      waits : (node_at b n).phase ≡ phase.Waiting
      waits = ap (λ (y : LiveView). y.phase) here_n

  -- ---- whom it has seen

  done_so : (x : Node) → count_of x done ≡ count_of x (alive_of n b os) + count_of x (alive_of n b ms)
  done_so x =
      let one : count_of x done ≡ count_of x (alive_of n b os) + count_of x (pushed n b (alive_of n b ms) []) =
      count_pushed x n b (alive_of n b os) (pushed n b (alive_of n b ms) []) in
      let two : count_of x (pushed n b (alive_of n b ms) []) ≡ count_of x (alive_of n b ms) + 0 = count_pushed x n b (alive_of n b ms) [] in
      omega (arith, one, two)

  done_count : (x : Node) → is_alive_at b x ≡ true → count_of x done ≡ count_of x os + count_of x ms
  done_count x is =
      let all : count_of x done ≡ count_of x (alive_of n b os) + count_of x (alive_of n b ms) = done_so x in
      let one : count_of x (alive_of n b os) ≡ count_of x os = count_passed (is_alive_at b) x os is in
      let two : count_of x (alive_of n b ms) ≡ count_of x ms = count_passed (is_alive_at b) x ms is in
      omega (arith, all, one, two)

  -- it is told of each of them, for each list in which that stands
  pub own_told : (x : Node) → 1 ≤ times x s.alive → one_if (is_in x ms) + one_if (is_in x os) ≤ tellings n x saw.messages
  own_told x some =
      let own : count_of x done ≤ tellings n x saw.messages = saw.own x in
      let all : count_of x done ≡ count_of x os + count_of x ms = done_count x (can_see x some).alive in
      let one : one_if (is_in x ms) ≤ count_of x ms = one_count x ms in
      let two : one_if (is_in x os) ≤ count_of x os = one_count x os in
      omega (arith, own, all, one, two)

  -- it has seen exactly those that are alive
  pub all_done : (x : Node) → one_if (is_in x done) ≡ times x s.alive
  all_done x = by (times x s.alive) refl (cases_Bool (is_in x done))
    where
      in_done : 1 ≤ times x s.alive → (is_in x ms ≡ true) ⊎ (is_in x os ≡ true) → 1 ≤ count_of x done
      in_done some (inl one) =
          let among : 1 ≤ count_of x ms = (in_count_by x ms).0 one in
          let all : count_of x done ≡ count_of x os + count_of x ms = done_count x (can_see x some).alive in
          omega (arith, among, all)
      in_done some (inr one) =
          let among : 1 ≤ count_of x os = (in_count_by x os).0 one in
          let all : count_of x done ≡ count_of x os + count_of x ms = done_count x (can_see x some).alive in
          omega (arith, among, all)

      -- whoever is seen is listed and alive
      seen : 1 ≤ count_of x (alive_of n b os) + count_of x (alive_of n b ms) → (is_alive_at b x ≡ true) × (is_listed s.cluster n x ≡ true)
      seen some = side (count_of x (alive_of n b os)) refl
        where
          side : (k : ℕ) → count_of x (alive_of n b os) ≡ k → (is_alive_at b x ≡ true) × (is_listed s.cluster n x ≡ true)
          side (suc k) is =
              let one : 1 ≤ count_of x (alive_of n b os) = omega (arith, is) in
              let less : count_of x (alive_of n b os) ≤ count_of x os = count_filtered (is_alive_at b) x os in (
                passes (is_alive_at b) x os one,
                or_right (is_in x ms) (is_in x os) ((in_count_by x os).1 (omega (arith, one, less))),
              )
          side zero is =
              let one : 1 ≤ count_of x (alive_of n b ms) = omega (arith, is, some) in
              let less : count_of x (alive_of n b ms) ≤ count_of x ms = count_filtered (is_alive_at b) x ms in (
                passes (is_alive_at b) x ms one,
                or_left (is_in x ms) (is_in x os) ((in_count_by x ms).1 (omega (arith, one, less))),
              )

      by : (k : ℕ) → times x s.alive ≡ k → (is_in x done ≡ true) ⊎ (is_in x done ≡ false) → one_if (is_in x done) ≡ times x s.alive
      by zero none (inr out) = ap one_if out ∙ sym none
      by zero none (inl among) =
          absurd (false≢true (sym (ap is_alive (at_m x (other_listed x (seen some).1)) ∙ p.dead x (seen some).1 none) ∙ (seen some).0))
        where
          some : 1 ≤ count_of x (alive_of n b os) + count_of x (alive_of n b ms)
          some =
              let one : 1 ≤ count_of x done = (in_count_by x done).0 among in
              let all : count_of x done ≡ count_of x (alive_of n b os) + count_of x (alive_of n b ms) = done_so x in
              omega (arith, one, all)
      by (suc k) is c =
          let some : 1 ≤ times x s.alive = omega (arith, is) in
          let once : times x s.alive ≤ 1 = p.once x in
          let among : one_if (is_in x done) ≡ 1 =
          ap one_if ((in_count_by x done).1 (in_done some (or_cases (is_in x ms) (is_in x os) (p.names x some)))) in
          omega (arith, some, once, among)

  pub one_in : (m : Node) → 1 ≤ times m s.alive → one_if (is_in m done) ≡ 1
  one_in m some =
      let all : one_if (is_in m done) ≡ times m s.alive = all_done m in
      let once : times m s.alive ≤ 1 = p.once m in
      omega (arith, some, all, once)

  -- each of those is told of the node
  pub they_told : (m : Node) → 1 ≤ times m s.alive → 1 ≤ tellings m n saw.messages
  they_told m some = saw.theirs m ((in_count_by m done).0 (is_one (is_in m done) (one_in m some)))
    where
      is_one : (c : Bool) → one_if c ≡ 1 → c ≡ true
      is_one true is = refl
      is_one false is = absurd (omega (arith, is))

  -- ---- whom each sees

  pub n_sees : (x : Node) → x.0 ≢ n.0 → times x (linked_with n saw.links) ≡ times x b.alive
  n_sees x other =
      let count : count_of x (linked_with n saw.links) ≡ times x (linked_with n saw.links) = counts_so x (linked_with n saw.links) in
      let at : count_of x (linked_with n saw.links) ≡ one_if (is_in x done) = saw.at_n x in
      let all : one_if (is_in x done) ≡ times x s.alive = all_done x in
      let since : times x b.alive ≡ times x s.alive + one_if (n.0 == x.0) = alive_then x in
      let none : one_if (n.0 == x.0) ≡ 0 = ap one_if (ne_eqb n.0 x.0 (λ is. other (sym is))) in
      omega (arith, count, at, all, since, none)

  pub n_not_itself : times n (linked_with n saw.links) ≡ 0
  n_not_itself =
      let count : count_of n (linked_with n saw.links) ≡ times n (linked_with n saw.links) = counts_so n (linked_with n saw.links) in
      let at : count_of n (linked_with n saw.links) ≡ one_if (is_in n done) = saw.at_n n in
      let all : one_if (is_in n done) ≡ times n s.alive = all_done n in
      let down : times n s.alive ≡ 0 = p.down in
      omega (arith, count, at, all, down)

  pub m_sees : (m : Node) → 1 ≤ times m s.alive → (x : Node) → times x (linked_with m s.links) ≡ times x s.alive
      → times x (linked_with m saw.links) ≡ times x b.alive
  m_sees m some x sees =
      let count : count_of x (linked_with m saw.links) ≡ times x (linked_with m saw.links) = counts_so x (linked_with m saw.links) in
      let at : count_of x (linked_with m saw.links) ≡ count_of x (linked_with m s.links) + (if n.0 == x.0 then one_if (is_in m done) else 0) = saw.at_m m x (apart m some) in
      let before : count_of x (linked_with m s.links) ≡ times x s.alive = counts_so x (linked_with m s.links) ∙ sees in
      let since : times x b.alive ≡ times x s.alive + one_if (n.0 == x.0) = alive_then x in
      let one : (if n.0 == x.0 then one_if (is_in m done) else 0) ≡ one_if (n.0 == x.0) =
      ap (λ (k : ℕ). if n.0 == x.0 then k else 0) (one_in m some) in
      omega (arith, count, at, before, since, one)

  pub m_not_itself : (m : Node) → 1 ≤ times m s.alive → times m (linked_with m s.links) ≡ 0 → times m (linked_with m saw.links) ≡ 0
  m_not_itself m some not_itself =
      let count : count_of m (linked_with m saw.links) ≡ times m (linked_with m saw.links) = counts_so m (linked_with m saw.links) in
      let at : count_of m (linked_with m saw.links) ≡ count_of m (linked_with m s.links) + (if n.0 == m.0 then one_if (is_in m done) else 0) = saw.at_m m m (apart m some) in
      let before : count_of m (linked_with m s.links) ≡ 0 = counts_so m (linked_with m s.links) ∙ not_itself in
      let none : (if n.0 == m.0 then one_if (is_in m done) else 0) ≡ 0 =
      ap (λ (c : Bool). if c then one_if (is_in m done) else 0) (ne_eqb n.0 m.0 (λ is. apart m some (sym is))) in
      omega (arith, count, at, before, none)

  -- nobody is connected with one that isn't alive
  pub unseen_still : (m : Node) → m.0 ≢ n.0 → times m s.alive ≡ 0 → linked_with m s.links ≡ [] → linked_with m saw.links ≡ []
  unseen_still m other none unseen = no_one (linked_with m saw.links) (λ x.
      (let at : count_of x (linked_with m saw.links) ≡ count_of x (linked_with m s.links) + (if n.0 == x.0 then one_if (is_in m done) else 0) = saw.at_m m x other in
      let before : count_of x (linked_with m s.links) ≡ 0 = ap (count_of x) unseen in
      let out : one_if (is_in m done) ≡ 0 = all_done m ∙ none in
      let no : (if n.0 == x.0 then one_if (is_in m done) else 0) ≡ 0 = ap (λ (k : ℕ). if n.0 == x.0 then k else 0) out ∙ either (n.0 == x.0) in
      omega (arith, at, before, no)))
    where
      either : (c : Bool) → ◌≡◌ {A = ℕ} (if c then 0 else 0) 0
      either true = refl
      either false = refl

      no_one : (nodes : List Node) → ((x : Node) → count_of x nodes ≡ 0) → nodes ≡ []
      no_one [] none = refl
      no_one (x ∷ nodes) none =
          absurd (let one : suc (count_of x nodes) ≡ 0 = sym (counts_itself x nodes) ∙ none x in omega (arith, one))

  -- ---- it waits on

  pub waits_on : kernel.waits v ≡ true
  waits_on = awaiting_waits p.some v p.listed

  abbrev pub z : List Timer → SystemView
  z timers = record b { links = saw.links; messages = saw.messages; slow = saw.slow; timers = timers }

  -- how long it waits makes no difference to that
  with_time : (time : Option ℕ) → IsSome time → (timers : List Timer) × (with_timeout n time (z b.timers) ≡ z timers)
  unfolding after
  with_time None some = (b.timers, refl)
  with_time (Some time) some = by (cond-false-of (time == 0) (ne_eqb time 0 (λ is. omega (arith, some, is))))
    where
      cond-false-of : (c : Bool) → c ≡ false → c ≡ false
      cond-false-of c is = is

      by : (time == 0) ≡ false → (timers : List Timer) × (with_timeout n (Some time) (z b.timers) ≡ z timers)
      by is = most (nat_lt 4294967295 time) refl (nat_lt (b.clock + time) (2 ^ 64)) refl
        where
          so : (c d : Bool) → nat_lt 4294967295 time ≡ c → nat_lt (b.clock + time) (2 ^ 64) ≡ d
              → with_timeout n (Some time) (z b.timers)
              ≡ cond c (z b.timers) (cond d (with_timer (b.clock + time) (process_in (z b.timers) n role.KernelConfig) message.Timeout (z b.timers)) (z b.timers))
          so c d one two = λ i.
              cond (is i) (sent (record (process_in (z b.timers) n role.KernelConfig) { role = role.Timer }) (process_in (z b.timers) n role.KernelConfig) message.Timeout (z b.timers))
              (cond (one i) (z b.timers) (cond (two i) (with_timer (b.clock + time) (process_in (z b.timers) n role.KernelConfig) message.Timeout (z b.timers)) (z b.timers)))

          most : (c : Bool) → nat_lt 4294967295 time ≡ c → (d : Bool) → nat_lt (b.clock + time) (2 ^ 64) ≡ d
              → (timers : List Timer) × (with_timeout n (Some time) (z b.timers) ≡ z timers)
          most true one d two = (b.timers, so true d one two)
          most false one true two = ((with_timer (b.clock + time) (process_in (z b.timers) n role.KernelConfig) message.Timeout (z b.timers)).timers, so false true one two)
          most false one false two = (b.timers, so false false one two)

  waits_so : (time : Option ℕ) → IsSome time → (timers : List Timer) × (waited_for n time b ≡ z timers)
  unfolding waited_for
  waits_so time some =
      let over : (timers : List Timer) × (with_timeout n time (z b.timers) ≡ z timers) = with_time time some in (
        over.0,
        ap (λ (y : LiveView). go_on n (with_timeout n time (all_seen n y.optional (all_seen n y.mandatory b)))) here_n
            ∙ ap (λ (x : SystemView). go_on n (with_timeout n time x)) saw.is
            ∙ ap (go_on n) over.1
            ∙ ap (λ (c : Bool). cond c (z over.0) (join n (z over.0))) (ap kernel.waits here_n ∙ waits_on),
      )

  pub boots_so : (timers : List Timer) × (booted n s ≡ z timers)
  unfolding booted
  boots_so = by (wait_at s n) p.file
    where
      by : (w : Wait) → HasItWait w → (timers : List Timer) × (waited w n b ≡ z timers)
      by (wait.After time) some = waits_so (Some time) some
      by wait.Forever some = waits_so None tt
      by wait.Unset none = absurd none
      by wait.Refused none = absurd none
