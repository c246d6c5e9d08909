-- A boot of one that isn't the last leaves a cold start, wherever it comes to rest.
use Rattle.std.proofs.Common.{◌≡◌, ◌≢◌, ◌≤◌, ◌⊎◌, ◌+◌, ◌==◌, ◌&&◌, ◌||◌, ℕ, zero, suc, Bool, true, false, not, List, [], ◌∷◌, refl, sym, ap, subst, ◌∙◌, inl, inr, arith}
use Rattle.std.proofs.Math.Bool.{or-false}
use Rattle.std.proofs.lemmas.Bool.{cases_Bool, cases_eq, eq-eqb, ne_eqb, and_parts, not-true, false≢true}
use Rattle.std.proofs.lemmas.List.Folds.{list_any-append}
use Rattle.rh_model.specs.ClusterView.{ClusterView, is_in, mandatory_of, optional_of}
use Rattle.rh_model.specs.declared.node.Node.{Node}
use Rattle.rh_otp_model.specs.declared.output.Envelope.{Envelope}
use Rattle.rh_otp_model.specs.declared.wait.OwnFile.{OwnFile}
use Rattle.rh_otp_net.specs.Links.{linked_with}
use Rattle.rh_otp_node.specs.Live.{LiveView, never_begun, begun, is_alive, is_up}
use Rattle.rh_otp_system.specs.Doing.{begun_at, booted}
use Rattle.rh_otp_system.specs.Moves.{Reaches, here, IsSettled}
use Rattle.rh_otp_system.specs.State.{SystemView, node_at, own_at, is_alive_at, is_up_at}
use Rattle.rh_otp_laws.specs.Acting.{IsThere, IsReached}
use Rattle.rh_otp_laws.proofs.Hanging.{settled_stays_so}
use Rattle.rh_otp_laws.proofs.Nodes.{others_as_they_were, alive_is_there}
use Rattle.rh_otp_crashes.proofs.Crossing.{same_node}
use Rattle.rh_otp_crashes.proofs.Turning.{own_in}
use Rattle.rh_otp_waits.specs.Together.{AllWait}
use Rattle.rh_otp_waits.specs.Waits.{HasItWait}
use Rattle.rh_otp_waits.proofs.Begun.{heard_of}
use Rattle.rh_otp_waits.proofs.Boot.{Starts, calm, waits_from, waits_behind}
use Rattle.rh_otp_waits.proofs.Naming.{wait_in}
use Rattle.rh_otp_waits.proofs.Together.{starts, was_there, all_but_last}
use Rattle.rh_otp_waits.proofs.Waiting.{HeardOnly, unlisted}
use Rattle.rh_otp_gathers.specs.Gathers.{times, tellings, one_if}
use Rattle.rh_otp_gathers.proofs.Begun.{Begins, v, here_n, there_n, at_m, apart, alive_then, once_then, saw, own_told, they_told, n_sees, n_not_itself, m_sees, m_not_itself, unseen_still, z, boots_so}
use Rattle.rh_otp_colds.specs.Colds.{is_there, IsColdStart, ColdStartsGoOn}
use Rattle.rh_otp_colds.proofs.Awaiting.{waits_for, Covers, covers_all}
use Rattle.rh_otp_colds.proofs.Starting.{there_so, is_there_so, listed_by, lists_other, waits_so, dead_so, listed_alive, unlisted_dead, in_alive, all_wait, new_cold, is_last}

-- ---- it begins

begins_cold : (s : SystemView) (n last : Node) → IsColdStart s → IsThere n s → is_alive_at s n ≡ false → IsThere last s → last.0 ≢ n.0
    → Begins n s
begins_cold s n last f there down there_too other = record {
  there = there;
  file = f.names.wait n there;
  down = unlisted_dead s f n down;
  unseen = f.unseen n (unlisted_dead s f n down);
  names = λ x some. lists_other s n x f.names there (f.begun x some).there
      (λ is. false≢true (sym down ∙ ap (is_alive_at s) (sym (same_node x n is)) ∙ waits_so s f x some));
  not_itself = λ is.
      false≢true (sym (listed_by s n n f.names there ∙ (λ i. there_so s n there i && not (eq-eqb n.0 n.0 refl i))) ∙ is);
  some = last;
  listed = lists_other s n last f.names there there_too other;
  once = f.once;
  waits = λ m some. ap (λ (w : LiveView). w.phase) (f.begun m some).node;
  dead = λ m is none. dead_so s f m none;
  messages = f.messages;
}

or_parts : (c d : Bool) → (c || d) ≡ false → (c ≡ false) × (d ≡ false)
or_parts true d is = absurd (false≢true (sym is))
or_parts false d is = (refl, is)

module _ (s : SystemView) (n last : Node) (f : IsColdStart s) (there : IsThere n s) (down : is_alive_at s n ≡ false)
    (there_too : IsThere last s) (other : last.0 ≢ n.0) where
  abbrev p : Begins n s
  p = begins_cold s n last f there down there_too other

  abbrev b : SystemView
  b = begun_at n s

  abbrev messages : List Envelope
  messages = (saw s n p).messages

  in_then : (x : Node) → is_in x b.alive ≡ (is_in x s.alive || (x.0 == n.0 || false))
  in_then x = list_any-append (λ (m : Node). x.0 == m.0) s.alive (n ∷ [])

  in_still : (x : Node) → x.0 ≢ n.0 → is_in x b.alive ≡ is_in x s.alive
  in_still x apart =
      in_then x ∙ ap (λ (c : Bool). is_in x s.alive || (c || false)) (ne_eqb x.0 n.0 apart) ∙ or-false (is_in x s.alive)

  -- those that aren't alive then
  abbrev pub lacking : Node → ℕ
  lacking x = one_if (is_there s x && not (is_in x b.alive))

  lacking_so : (x : Node) → x.0 ≢ n.0 → lacking x ≡ one_if (is_there s x && not (is_in x s.alive))
  lacking_so x apart = ap (λ (c : Bool). one_if (is_there s x && not c)) (in_still x apart)

  at_most : (c : Bool) → one_if c ≤ 1
  at_most true = omega arith
  at_most false = omega arith

  -- what the node waits for as it begins
  n_awaits : (x : Node) → waits_for x (v s n p) ≤ tellings n x messages + lacking x
  n_awaits x = by (times x s.alive) refl (cases_eq x.0 n.0)
    where
      lists : one_if (is_in x (mandatory_of s.cluster n)) + one_if (is_in x (optional_of s.cluster n))
          ≡ one_if (is_there s x && not (x.0 == n.0))
      lists = f.names.lists n x there

      by : (k : ℕ) → times x s.alive ≡ k → (x.0 ≡ n.0) ⊎ (x.0 ≢ n.0) → waits_for x (v s n p) ≤ tellings n x messages + lacking x
      by (suc k) some c =
          let own : one_if (is_in x (mandatory_of s.cluster n)) + one_if (is_in x (optional_of s.cluster n)) ≤ tellings n x messages =
          own_told s n p x (omega (arith, some)) in
          omega (arith, own)
      by zero none (inl is) =
          let no : one_if (is_there s x && not (x.0 == n.0)) ≡ 0 =
          ap (λ (c : Bool). one_if (is_there s x && not c)) (eq-eqb x.0 n.0 is) ∙ neither (is_there s x) in
          omega (arith, lists, no)
        where
          neither : (c : Bool) → one_if (c && false) ≡ 0
          neither true = refl
          neither false = refl
      by zero none (inr apart) =
          let one : one_if (is_there s x && not (x.0 == n.0)) ≡ one_if (is_there s x && true) =
          ap (λ (c : Bool). one_if (is_there s x && not c)) (ne_eqb x.0 n.0 apart) in
          let more : lacking x ≡ one_if (is_there s x && true) =
          lacking_so x apart ∙ ap (λ (c : Bool). one_if (is_there s x && not c)) (in_alive s f x ∙ dead_so s f x none) in
          omega (arith, lists, one, more)

  -- and each other one
  m_awaits : (m x : Node) → 1 ≤ times m s.alive → waits_for x (node_at s m) ≤ tellings m x messages + lacking x
  m_awaits m x some = by (cases_eq x.0 n.0)
    where
      awaits : waits_for x (node_at s m) ≡ one_if (is_there s x && not (is_in x s.alive))
      awaits = (f.begun m some).awaits x

      by : (x.0 ≡ n.0) ⊎ (x.0 ≢ n.0) → waits_for x (node_at s m) ≤ tellings m x messages + lacking x
      by (inl is) =
          let told : 1 ≤ tellings m n messages = they_told s n p m some in
          let same : tellings m x messages ≡ tellings m n messages = ap (λ (y : Node). tellings m y messages) (same_node x n is) in
          let most : one_if (is_there s x && not (is_in x s.alive)) ≤ 1 = at_most (is_there s x && not (is_in x s.alive)) in
          omega (arith, awaits, told, same, most)
      by (inr apart) =
          let same : lacking x ≡ one_if (is_there s x && not (is_in x s.alive)) = lacking_so x apart in
          omega (arith, awaits, same)

  was_listed : (m : Node) → m.0 ≢ n.0 → is_alive_at b m ≡ true → 1 ≤ times m s.alive
  was_listed m apart alive = listed_alive s f m (sym (ap is_alive (at_m s n p m apart)) ∙ alive)

  first_covers : Covers lacking s (booted n s)
  first_covers = subst (Covers lacking s) (sym (boots_so s n p).1) (record {
    most = λ m x alive. by m x alive (cases_eq m.0 n.0);
    there = λ m there_before. still m there_before (cases_eq m.0 n.0);
    dead = λ m dead. at_m s n p m (not_n m dead);
  })
    where
      by : (m x : Node) → is_alive_at b m ≡ true → (m.0 ≡ n.0) ⊎ (m.0 ≢ n.0) → waits_for x (node_at b m) ≤ tellings m x messages + lacking x
      by m x alive (inl is) =
          subst (λ (j : Node). waits_for x (node_at b j) ≤ tellings j x messages + lacking x) (sym (same_node m n is))
          (subst (λ (w : LiveView). waits_for x w ≤ tellings n x messages + lacking x) (sym (here_n s n p)) (n_awaits x))
      by m x alive (inr apart) =
          subst (λ (w : LiveView). waits_for x w ≤ tellings m x messages + lacking x) (sym (at_m s n p m apart))
          (m_awaits m x (was_listed m apart alive))

      still : (m : Node) → IsThere m s → (m.0 ≡ n.0) ⊎ (m.0 ≢ n.0) → IsThere m b
      still m before (inl is) = subst (λ (j : Node). IsThere j b) (sym (same_node m n is)) (v s n p, there_n s n p)
      still m before (inr apart) = (before.0, others_as_they_were s n m (v s n p) apart ∙ before.1)

      not_n : (m : Node) → is_alive_at b m ≡ false → m.0 ≢ n.0
      not_n m dead is = false≢true (sym dead ∙ ap (is_alive_at b) (same_node m n is) ∙ ap is_alive (here_n s n p))

  waiting : (m : Node) → is_alive_at (booted n s) m ≡ true → is_up_at (booted n s) m ≡ false
  waiting = subst (λ (x : SystemView). (m : Node) → is_alive_at x m ≡ true → is_up_at x m ≡ false) (sym (boots_so s n p).1)
      (λ m alive. by m alive (cases_eq m.0 n.0))
    where
      by : (m : Node) → is_alive_at b m ≡ true → (m.0 ≡ n.0) ⊎ (m.0 ≢ n.0) → is_up_at b m ≡ false
      by m alive (inl is) = ap (is_up_at b) (same_node m n is) ∙ ap is_up (here_n s n p)
      by m alive (inr apart) = ap is_up (at_m s n p m apart) ∙ ap is_up (f.begun m (was_listed m apart alive)).node

  -- ---- where it comes to rest

  module _ (reached : IsReached s) (down_too : is_alive_at s last ≡ false) (t : SystemView) (reaches : Reaches (booted n s) t)
      (settled : IsSettled t) where
    starting : Starts s n
    starting = starts s n last reached (all_wait s f) there down there_too down_too other

    w : HeardOnly (heard_of b n) (booted n s) t
    w = waits_behind s t n starting reaches

    all : AllWait t
    all = (all_but_last.each s n last reached (all_wait s f) there down there_too down_too other).1 t reaches settled

    covers : Covers lacking s t
    covers = covers_all waiting lacking s (booted n s) t reaches (calm s n starting) (waits_from s n starting) first_covers

    so : {A : Type 0} (h : SystemView → A) → h t ≡ h (booted n s) → h t ≡ h (z s n p (boots_so s n p).0)
    so h is = is ∙ ap h (boots_so s n p).1

    alive_t : t.alive ≡ b.alive
    alive_t = so (λ (x : SystemView). x.alive) (ap (λ (x : SystemView). x.alive) w.else)

    links_t : t.links ≡ (saw s n p).links
    links_t = so (λ (x : SystemView). x.links) (ap (λ (x : SystemView). x.links) w.else)

    pub cluster_t : t.cluster ≡ s.cluster
    cluster_t = so (λ (x : SystemView). x.cluster) (ap (λ (x : SystemView). x.cluster) w.else)

    pub files_t : t.files ≡ s.files
    files_t = so (λ (x : SystemView). x.files) (ap (λ (x : SystemView). x.files) w.else)

    locks_t : t.locks ≡ []
    locks_t = so (λ (x : SystemView). x.locks) (ap (λ (x : SystemView). x.locks) w.else) ∙ f.locks

    node_t : (m : Node) → unlisted (node_at t m) ≡ unlisted (node_at b m)
    node_t m = so (λ (x : SystemView). unlisted (node_at x m)) (w.nodes m)

    pub there_t : (x : Node) → is_there t x ≡ is_there s x
    there_t x = by (cases_Bool (is_there s x)) (cases_Bool (is_there t x))
      where
        by : (is_there s x ≡ true) ⊎ (is_there s x ≡ false) → (is_there t x ≡ true) ⊎ (is_there t x ≡ false) → is_there t x ≡ is_there s x
        by (inl is) c = there_so t x (covers.there x (is_there_so s x is)) ∙ sym is
        by (inr out) (inr out_too) = out_too ∙ sym out
        by (inr out) (inl is) =
            absurd (false≢true (sym out ∙ there_so s x (was_there s t n x starting w (is_there_so t x is))))

    listed_t : (m : Node) → 1 ≤ times m t.alive → (m.0 ≡ n.0) ⊎ ((m.0 ≢ n.0) × (1 ≤ times m s.alive))
    listed_t m some = by (cases_eq m.0 n.0)
      where
        by : (m.0 ≡ n.0) ⊎ (m.0 ≢ n.0) → (m.0 ≡ n.0) ⊎ ((m.0 ≢ n.0) × (1 ≤ times m s.alive))
        by (inl is) = inl is
        by (inr apart) =
            inr (
              apart,
              (let since : times m b.alive ≡ times m s.alive + one_if (n.0 == m.0) = alive_then s n p m in
                  let none : one_if (n.0 == m.0) ≡ 0 = ap one_if (ne_eqb n.0 m.0 (λ is. apart (sym is))) in
                  let same : times m t.alive ≡ times m b.alive = ap (times m) alive_t in
                  omega (arith, since, none, same, some)),
            )

    unlisted_t : (m : Node) → times m t.alive ≡ 0 → (m.0 ≢ n.0) × (times m s.alive ≡ 0)
    unlisted_t m none = (
      (λ is.
          (let since : times m b.alive ≡ times m s.alive + one_if (n.0 == m.0) = alive_then s n p m in
          let one : one_if (n.0 == m.0) ≡ 1 = ap one_if (eq-eqb n.0 m.0 (sym is)) in
          let same : times m t.alive ≡ times m b.alive = ap (times m) alive_t in
          omega (arith, since, one, same, none))),
      (let since : times m b.alive ≡ times m s.alive + one_if (n.0 == m.0) = alive_then s n p m in
          let same : times m t.alive ≡ times m b.alive = ap (times m) alive_t in
          omega (arith, since, same, none)),
    )

    -- each is as it begins, but for its lists
    as_begun : (m : Node) → 1 ≤ times m t.alive → unlisted (node_at b m) ≡ unlisted (begun s.cluster (own_at s m) m never_begun)
    as_begun m some = by (listed_t m some)
      where
        by : (m.0 ≡ n.0) ⊎ ((m.0 ≢ n.0) × (1 ≤ times m s.alive))
            → unlisted (node_at b m) ≡ unlisted (begun s.cluster (own_at s m) m never_begun)
        by (inl is) =
            subst (λ (j : Node). unlisted (node_at b j) ≡ unlisted (begun s.cluster (own_at s j) j never_begun)) (sym (same_node m n is))
            (ap unlisted (here_n s n p)
            ∙ ap (λ (o : LiveView). unlisted (begun s.cluster (own_at s n) n o)) (f.new n (unlisted_dead s f n down)))
        by (inr was) = ap unlisted (at_m s n p m was.0) ∙ ap unlisted (f.begun m was.1).node

    -- by its files, which are the same
    files_same : (m : Node) → begun s.cluster (own_at s m) m never_begun ≡ begun t.cluster (own_at t m) m never_begun
    files_same m = λ i. begun (sym cluster_t i) (own_in (sym files_t i) m) m never_begun

    alive_at : (m : Node) → 1 ≤ times m t.alive → is_alive_at t m ≡ true
    alive_at m some = ap is_alive (node_t m ∙ as_begun m some)

    awaits_t : (m x : Node) → 1 ≤ times m t.alive → waits_for x (node_at t m) ≡ one_if (is_there t x && not (is_in x t.alive))
    awaits_t m x some = by (cases_Bool (is_there s x && not (is_in x b.alive))) ∙ sym same
      where
        same : one_if (is_there t x && not (is_in x t.alive)) ≡ lacking x
        same = λ i. one_if (there_t x i && not (is_in x (alive_t i)))

        none : tellings m x t.messages ≡ 0
        none = ap (tellings m x) (settled_stays_so t t settled (here t)).0.0

        most : waits_for x (node_at t m) ≤ tellings m x t.messages + lacking x
        most = covers.most m x (alive_at m some)

        by : ((is_there s x && not (is_in x b.alive)) ≡ true) ⊎ ((is_there s x && not (is_in x b.alive)) ≡ false)
            → waits_for x (node_at t m) ≡ lacking x
        by (inr out) =
            let no : lacking x ≡ 0 = ap one_if out in
            omega (arith, none, most, no)
        by (inl is) =
            let one : lacking x ≡ 1 = ap one_if is in
            let parts : (is_there s x ≡ true) × (not (is_in x b.alive) ≡ true) = and_parts (is_there s x) (not (is_in x b.alive)) is in
            let some_list : 1 ≤ waits_for x (node_at t m) =
            waits_some (is_in x (node_at t m).mandatory) (is_in x (node_at t m).optional)
            (all.waits m x (alive_at m some) (covers.there x (is_there_so s x parts.0))
            (not_alive (not-true (is_in x b.alive) parts.1))).1 in
            omega (arith, none, most, one, some_list)
          where
            waits_some : (c d : Bool) → (c || d) ≡ true → 1 ≤ one_if c + one_if d
            waits_some true d so = omega arith
            waits_some false true so = omega arith
            waits_some false false so = absurd (false≢true so)

            not_alive : is_in x b.alive ≡ false → is_alive_at t x ≡ false
            not_alive out = ap is_alive (covers.dead x dead_then ∙ f.new x no_times)
              where
                no_times : times x s.alive ≡ 0
                no_times =
                    unlisted_dead s f x
                    (sym (in_alive s f x) ∙ (or_parts (is_in x s.alive) (x.0 == n.0 || false) (sym (in_then x) ∙ out)).0)

                dead_then : is_alive_at t x ≡ false
                dead_then = ap is_alive (node_t x ∙ ap unlisted (at_m s n p x not_n) ∙ ap unlisted (f.new x no_times))
                  where
                    not_n : x.0 ≢ n.0
                    not_n is = false≢true (sym (or_parts (is_in x s.alive) (x.0 == n.0 || false) (sym (in_then x) ∙ out)).1
                        ∙ ap (λ (c : Bool). c || false) (eq-eqb x.0 n.0 is))

    pub again : IsColdStart t
    again = record {
      names = record {
        wait = λ m there_now. subst (λ (files : List OwnFile). HasItWait (wait_in files m)) (sym files_t)
            (f.names.wait m (was_there s t n m starting w there_now));
        lists = λ m x there_now.
            subst (λ (c : ClusterView). one_if (is_in x (mandatory_of c m)) + one_if (is_in x (optional_of c m))
            ≡ one_if (is_there t x && not (x.0 == m.0)))
            (sym cluster_t)
            (f.names.lists m x (was_there s t n m starting w there_now)
            ∙ (λ i. one_if (sym (there_t x) i && not (x.0 == m.0))));
      };
      once = λ m. (let same : times m t.alive ≡ times m b.alive = ap (times m) alive_t in
          let once : times m b.alive ≤ 1 = once_then s n p m in
          omega (arith, same, once));
      begun = λ m some. record {
        there = alive_is_there t m (alive_at m some);
        node = ap (λ (o : LiveView). record o { mandatory = (node_at t m).mandatory; optional = (node_at t m).optional })
            (node_t m ∙ as_begun m some ∙ ap unlisted (files_same m));
        awaits = λ x. awaits_t m x some;
        sees = λ x apart. (λ i. times x (linked_with m (links_t i))) ∙ sees m x apart (listed_t m some) ∙ sym (ap (times x) alive_t);
        not_itself = (λ i. times m (linked_with m (links_t i))) ∙ not_itself m (listed_t m some);
      };
      new = λ m none. covers.dead m (dead m none) ∙ f.new m (unlisted_t m none).1;
      unseen = λ m none.
          ap (linked_with m) links_t
          ∙ unseen_still s n p m (unlisted_t m none).0 (unlisted_t m none).1 (f.unseen m (unlisted_t m none).1);
      locks = locks_t;
      messages = (settled_stays_so t t settled (here t)).0.0;
      slow = (settled_stays_so t t settled (here t)).0.1;
      calls = all.rest.calls;
    }
      where
        sees : (m x : Node) → x.0 ≢ m.0 → (m.0 ≡ n.0) ⊎ ((m.0 ≢ n.0) × (1 ≤ times m s.alive))
            → times x (linked_with m (saw s n p).links) ≡ times x b.alive
        sees m x apart (inl is) =
            ap (λ (j : Node). times x (linked_with j (saw s n p).links)) (same_node m n is) ∙ n_sees s n p x (λ same. apart (same ∙ sym is))
        sees m x apart (inr was) = m_sees s n p m was.1 x ((f.begun m was.1).sees x apart)

        not_itself : (m : Node) → (m.0 ≡ n.0) ⊎ ((m.0 ≢ n.0) × (1 ≤ times m s.alive)) → times m (linked_with m (saw s n p).links) ≡ 0
        not_itself m (inl is) =
            subst (λ (j : Node). times j (linked_with j (saw s n p).links) ≡ 0) (sym (same_node m n is)) (n_not_itself s n p)
        not_itself m (inr was) = m_not_itself s n p m was.1 (f.begun m was.1).not_itself

        dead : (m : Node) → times m t.alive ≡ 0 → is_alive_at t m ≡ false
        dead m none =
            ap is_alive (node_t m ∙ ap unlisted (at_m s n p m (unlisted_t m none).0) ∙ ap unlisted (f.new m (unlisted_t m none).1))

-- ---- the law

pub colds_go_on : ColdStartsGoOn
colds_go_on = record {
  first = new_cold;
  next = λ s n last reached f there down there_too down_too other. (
    (all_but_last.each s n last reached (all_wait s f) there down there_too down_too other).0,
    λ t reaches settled. again s n last f there down there_too other reached down_too t reaches settled,
  );
  last = is_last;
}
