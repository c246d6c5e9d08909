-- The last node begins: it is connected with each that is alive, and both are told of one another.
use Rattle.std.proofs.Common.{◌≡◌, ◌≢◌, ◌≤◌, ◌⊎◌, ◌+◌, ◌++◌, ◌==◌, ◌&&◌, ◌||◌, ℕ, Bool, true, false, cond, List, [], ◌∷◌, filter, length, Some, None, refl, sym, ap, subst, ◌∙◌, inl, inr, arith}
use Rattle.std.specs.Prelude.{All, if◌then◌else◌}
use Rattle.std.specs.List.{cons_option}
use Rattle.std.proofs.lemmas.Bool.{cases_Bool, cases_eq, eq-eqb, ne_eqb, false≢true, or_cases}
use Rattle.std.proofs.lemmas.List.{length-append}
use Rattle.std.proofs.lemmas.List.Elements.{All-nil, All-cons, All-append, All-head, All-tail, filter-append, filter_map-append}
use Rattle.std.proofs.lemmas.List.Folds.{list_any-append}
use Rattle.rh_model.specs.ClusterView.{is_in}
use Rattle.rh_model.specs.declared.node.Node.{Node}
use Rattle.rh_otp_model.specs.declared.message.Message.TheVariants as message
use Rattle.rh_otp_model.specs.declared.output.Envelope.{Envelope}
use Rattle.rh_otp_model.specs.declared.process.Role.TheVariants as role
use Rattle.rh_otp_net.specs.declared.links.Link.{Link}
use Rattle.rh_otp_net.specs.Links.{link, are_linked, is_between, linked_with, other_end, to_connect}
use Rattle.rh_otp_node.specs.declared.node.Phase.{Phase}
use Rattle.rh_otp_node.specs.declared.node.Phase.TheVariants as phase
use Rattle.rh_otp_system.specs.declared.slow.Slow.{Slow}
use Rattle.rh_otp_system.specs.Connecting as connecting
use Rattle.rh_otp_system.specs.Doing.{seen_at_once, all_seen}
use Rattle.rh_otp_system.specs.State.{SystemView, node_at, is_alive_at, process_in}
use Rattle.rh_otp_crashes.proofs.Crossing.{same_node}
use Rattle.rh_otp_joins.specs.Joins.{connect_of}
use Rattle.rh_otp_joins.proofs.Lists.{more_if, count_of}
use Rattle.rh_otp_gathers.specs.Gathers.{times, tellings, is_node_up, IsTelling, one_if}

abbrev pub telling : SystemView → Node → Node → Envelope
telling s m x = record {
  from = process_in s m role.NetKernel;
  to = process_in s m role.KernelConfig;
  message = message.NodeUp x;
}

-- ---- counts

pub tellings_more : (m x : Node) (xs ys : List Envelope) → tellings m x (xs ++ ys) ≡ tellings m x xs + tellings m x ys
tellings_more m x xs ys =
    ap length (filter-append (λ (e : Envelope). e.to.node.0 == m.0 && is_node_up x e.message) xs ys)
    ∙ length-append (filter (λ (e : Envelope). e.to.node.0 == m.0 && is_node_up x e.message) xs) (filter (λ (e : Envelope). e.to.node.0 == m.0 && is_node_up x e.message) ys)

tells_one : (m x : Node) (s : SystemView) (a y : Node) → tellings m x (telling s a y ∷ []) ≡ one_if (a.0 == m.0 && y.0 == x.0)
tells_one m x s a y = by (a.0 == m.0 && y.0 == x.0)
  where
    by : (c : Bool) → length (cond c (telling s a y ∷ []) []) ≡ one_if c
    by true = refl
    by false = refl

slow_more : (more : List Link) (s : SystemView) → (slow : List Slow) × (connecting.with_slow_links more s ≡ record s { slow = slow })
slow_more [] s = (s.slow, refl)
slow_more (l ∷ more) s =
    let rest : (slow : List Slow) × (connecting.with_slow_links more (record s { slow = s.slow ++ connect_of l ∷ [] }) ≡ record s { slow = slow }) =
    slow_more more (record s { slow = s.slow ++ connect_of l ∷ [] }) in
    (rest.0, rest.1)

pub count_app : (x : Node) (xs ys : List Node) → count_of x (xs ++ ys) ≡ count_of x xs + count_of x ys
count_app x [] ys = omega arith
count_app x (y ∷ xs) ys = by (y.0 == x.0) (count_app x xs ys)
  where
    by : (c : Bool) → count_of x (xs ++ ys) ≡ count_of x xs + count_of x ys → more_if c (count_of x (xs ++ ys)) ≡ more_if c (count_of x xs) + count_of x ys
    by true same = omega (arith, same)
    by false same = same

linked_more : (m x : Node) (xs : List Link) (l : Link)
    → count_of x (linked_with m (xs ++ l ∷ [])) ≡ count_of x (linked_with m xs) + count_of x (linked_with m (l ∷ []))
linked_more m x xs l = ap (count_of x) (filter_map-append (other_end m) xs (l ∷ [])) ∙ count_app x (linked_with m xs) (linked_with m (l ∷ []))

flip : (a b : ℕ) → (a == b) ≡ (b == a)
flip a b = by (cases_eq a b)
  where
    by : (a ≡ b) ⊎ (a ≢ b) → (a == b) ≡ (b == a)
    by (inl is) = eq-eqb a b is ∙ sym (eq-eqb b a (sym is))
    by (inr other) = ne_eqb a b other ∙ sym (ne_eqb b a (λ is. other (sym is)))

-- ---- one more is seen

module _ (n : Node) (b : SystemView) where
  -- The node has seen these, which are alive and wait.
  pub record Saw (first : List Link) (done : List Node) (u : SystemView) : Type 0 where
    pub links : List Link
    pub messages : List Envelope
    pub slow : List Slow
    pub is : u ≡ record b { links = links; messages = messages; slow = slow }
    pub tells : All (IsTelling b) messages
    pub own : (x : Node) → count_of x done ≤ tellings n x messages
    pub theirs : (m : Node) → 1 ≤ count_of m done → 1 ≤ tellings m n messages
    pub joins : (m : Node) → m.0 ≢ n.0 → are_linked n m links ≡ is_in m done
    pub at_n : (x : Node) → count_of x (linked_with n links) ≡ one_if (is_in x done)
    pub at_m : (m x : Node) → m.0 ≢ n.0
        → count_of x (linked_with m links) ≡ count_of x (linked_with m first) + (if n.0 == x.0 then one_if (is_in m done) else 0)

  abbrev seen_as : List Link → List Envelope → List Slow → SystemView
  seen_as links messages slow = record b { links = links; messages = messages; slow = slow }

  -- a node that is alive and waits
  pub record CanSee (x : Node) : Type 0 where
    pub alive : is_alive_at b x ≡ true
    pub waits : (node_at b x).phase ≡ phase.Waiting
    pub listed : 1 ≤ times x b.alive
    pub apart : x.0 ≢ n.0

  does_again : (x : Node) (links : List Link) (messages : List Envelope) (slow : List Slow) → CanSee x → are_linked n x links ≡ true
      → seen_at_once n x (seen_as links messages slow) ≡ seen_as links (messages ++ telling b n x ∷ []) slow
  unfolding connecting.connect
  does_again x links messages slow can seen =
      let u : SystemView = seen_as links messages slow in
      ap (λ (c : Bool). cond c (connecting.with_up n x (connecting.reach n x u)) u) can.alive
      ∙ ap (λ (c : Bool). connecting.with_up n x (cond c u (connecting.connect n x u))) (ne_eqb n.0 x.0 (λ is. can.apart (sym is)))
      ∙ ap (λ (c : Bool). connecting.with_up n x (cond c u (connecting.with_slow_links (to_connect n x links) (connecting.link n x u)))) seen

  does_first : (x : Node) (links : List Link) (messages : List Envelope) (slow : List Slow) → CanSee x → (node_at b n).phase ≡ phase.Waiting
      → are_linked n x links ≡ false
      → (more : List Slow) × (seen_at_once n x (seen_as links messages slow)
      ≡ seen_as (links ++ link n x ∷ []) (((messages ++ telling b n x ∷ []) ++ telling b x n ∷ []) ++ telling b n x ∷ []) more)
  unfolding connecting.connect
  does_first x links messages slow can waits unseen =
      let u : SystemView = seen_as links messages slow in
      let linked : SystemView = seen_as (links ++ link n x ∷ []) messages slow in
      let told : SystemView = connecting.with_up n x linked in
      let both : SystemView = connecting.with_up x n told in
      let more : (slow : List Slow) × (connecting.with_slow_links (to_connect n x links) both ≡ record both { slow = slow }) =
      slow_more (to_connect n x links) both in (
        more.0,
        ap (λ (c : Bool). cond c (connecting.with_up n x (connecting.reach n x u)) u) can.alive
            ∙ ap (λ (c : Bool). connecting.with_up n x (cond c u (connecting.connect n x u))) (ne_eqb n.0 x.0 (λ is. can.apart (sym is)))
            ∙ ap (λ (c : Bool). connecting.with_up n x (cond c u (connecting.with_slow_links (to_connect n x links) (connecting.link n x u)))) unseen
            ∙ ap (λ (p : Phase). connecting.with_up n x (connecting.with_slow_links (to_connect n x links)
            (connecting.tell_up x n (cond (connecting.waits_in p) told linked)))) waits
            ∙ ap (λ (p : Phase). connecting.with_up n x (connecting.with_slow_links (to_connect n x links)
            (cond (connecting.waits_in p) both told))) can.waits
            ∙ ap (connecting.with_up n x) more.1,
      )

  sees_one : (first : List Link) (done : List Node) (x : Node) (u : SystemView) → CanSee x → (node_at b n).phase ≡ phase.Waiting
      → 1 ≤ times n b.alive → Saw first done u → Saw first (x ∷ done) (seen_at_once n x u)
  sees_one first done x u can waits listed saw = by (cases_Bool (is_in x done))
    where
      is_telling : (a y : Node) → 1 ≤ times a b.alive → All (IsTelling b) (telling b a y ∷ [])
      is_telling a y some =
          All-cons (IsTelling b) (telling b a y) [] (record { node = a; other = y; alive = some; is = refl }) (All-nil (IsTelling b))

      -- the node is told once more
      own_more : (messages : List Envelope) → ((y : Node) → count_of y done ≤ tellings n y messages)
          → (y : Node) → count_of y (x ∷ done) ≤ tellings n y (messages ++ telling b n x ∷ [])
      own_more messages own y =
          let both : tellings n y (messages ++ telling b n x ∷ []) ≡ tellings n y messages + tellings n y (telling b n x ∷ []) =
          tellings_more n y messages (telling b n x ∷ []) in
          let one : tellings n y (telling b n x ∷ []) ≡ one_if (n.0 == n.0 && x.0 == y.0) = tells_one n y b n x in
          let here : one_if (n.0 == n.0 && x.0 == y.0) ≡ one_if (x.0 == y.0) = ap (λ (c : Bool). one_if (c && x.0 == y.0)) (eq-eqb n.0 n.0 refl) in
          let before : count_of y done ≤ tellings n y messages = own y in
          add (x.0 == y.0) (count_of y done) (tellings n y (messages ++ telling b n x ∷ [])) (omega (arith, both, one, here, before))
        where
          add : (c : Bool) (j k : ℕ) → j + one_if c ≤ k → more_if c j ≤ k
          add true j k less = omega (arith, less)
          add false j k less = omega (arith, less)

      kept : (m y : Node) (messages more : List Envelope) → tellings m y messages ≤ tellings m y (messages ++ more)
      kept m y messages more =
          let both : tellings m y (messages ++ more) ≡ tellings m y messages + tellings m y more = tellings_more m y messages more in
          omega (arith, both)

      again : (c : Bool) (m : Node) → is_in x done ≡ true → (m.0 ≡ x.0) ⊎ (m.0 ≢ x.0) → is_in m (x ∷ done) ≡ is_in m done
      again c m among (inl is) =
          ap (λ (d : Bool). d || is_in m done) (eq-eqb m.0 x.0 is) ∙ sym (ap (λ (y : Node). is_in y done) (same_node m x is) ∙ among)
      again c m among (inr other) = ap (λ (d : Bool). d || is_in m done) (ne_eqb m.0 x.0 other)

      counted : (m : Node) → (m.0 ≡ x.0) ⊎ (m.0 ≢ x.0) → 1 ≤ count_of m (x ∷ done) → (m ≡ x) ⊎ (1 ≤ count_of m done)
      counted m (inl is) some = inl (same_node m x is)
      counted m (inr other) some =
          inr (subst (λ (c : Bool). 1 ≤ more_if c (count_of m done)) (ne_eqb x.0 m.0 (λ is. other (sym is))) some)

      among_count : (nodes : List Node) → is_in x nodes ≡ true → 1 ≤ count_of x nodes
      among_count [] among = absurd (false≢true among)
      among_count (y ∷ nodes) among = in_by (or_cases (x.0 == y.0) (is_in x nodes) among) (among_count nodes)
        where
          in_by : ((x.0 == y.0) ≡ true) ⊎ (is_in x nodes ≡ true) → (is_in x nodes ≡ true → 1 ≤ count_of x nodes) → 1 ≤ more_if (y.0 == x.0) (count_of x nodes)
          in_by (inl is) rest = subst (λ (c : Bool). 1 ≤ more_if c (count_of x nodes)) (sym (flip y.0 x.0 ∙ is)) (omega arith)
          in_by (inr later) rest = more (y.0 == x.0) (count_of x nodes) (rest later)
            where
              more : (c : Bool) (k : ℕ) → 1 ≤ k → 1 ≤ more_if c k
              more true k some = omega (arith, some)
              more false k some = some

      by : (is_in x done ≡ true) ⊎ (is_in x done ≡ false) → Saw first (x ∷ done) (seen_at_once n x u)
      by (inl among) = record {
        links = saw.links;
        messages = saw.messages ++ telling b n x ∷ [];
        slow = saw.slow;
        is = ap (seen_at_once n x) saw.is ∙ does_again x saw.links saw.messages saw.slow can (saw.joins x can.apart ∙ among);
        tells = All-append (IsTelling b) saw.messages (telling b n x ∷ []) saw.tells (is_telling n x listed);
        own = own_more saw.messages saw.own;
        theirs = λ m some.
            (let before : 1 ≤ tellings m n saw.messages = saw.theirs m (back m (counted m (cases_eq m.0 x.0) some)) in
            let less : tellings m n saw.messages ≤ tellings m n (saw.messages ++ telling b n x ∷ []) = kept m n saw.messages (telling b n x ∷ []) in
            omega (arith, before, less));
        joins = λ m apart. saw.joins m apart ∙ sym (again true m among (cases_eq m.0 x.0));
        at_n = λ y. saw.at_n y ∙ ap one_if (sym (again true y among (cases_eq y.0 x.0)));
        at_m = λ m y apart.
            saw.at_m m y apart
            ∙ ap (λ (c : Bool). count_of y (linked_with m first) + (if n.0 == y.0 then one_if c else 0)) (sym (again true m among (cases_eq m.0 x.0)));
      }
        where
          back : (m : Node) → (m ≡ x) ⊎ (1 ≤ count_of m done) → 1 ≤ count_of m done
          back m (inl is) = subst (λ (y : Node). 1 ≤ count_of y done) (sym is) (among_count done among)
          back m (inr some) = some
      by (inr out) = record {
        links = saw.links ++ link n x ∷ [];
        messages = last ++ telling b n x ∷ [];
        slow = does.0;
        is = ap (seen_at_once n x) saw.is ∙ does.1;
        tells = All-append (IsTelling b) last (telling b n x ∷ [])
            (All-append (IsTelling b) (saw.messages ++ telling b n x ∷ []) (telling b x n ∷ [])
            (All-append (IsTelling b) saw.messages (telling b n x ∷ []) saw.tells (is_telling n x listed)) (is_telling x n can.listed))
            (is_telling n x listed);
        own = own_more last (λ y.
            (let before : count_of y done ≤ tellings n y saw.messages = saw.own y in
            let one : tellings n y saw.messages ≤ tellings n y (saw.messages ++ telling b n x ∷ []) = kept n y saw.messages (telling b n x ∷ []) in
            let two : tellings n y (saw.messages ++ telling b n x ∷ []) ≤ tellings n y last = kept n y (saw.messages ++ telling b n x ∷ []) (telling b x n ∷ []) in
            omega (arith, before, one, two)));
        theirs = λ m some.
            (let three : tellings m n last ≤ tellings m n (last ++ telling b n x ∷ []) = kept m n last (telling b n x ∷ []) in
            let told : 1 ≤ tellings m n last = their m (counted m (cases_eq m.0 x.0) some) in
            omega (arith, three, told));
        joins = λ m apart.
            list_any-append (is_between n m) saw.links (link n x ∷ [])
            ∙ (λ i. saw.joins m apart i || (((eq-eqb n.0 n.0 refl i && x.0 == m.0) || (ne_eqb n.0 m.0 (λ is. apart (sym is)) i && x.0 == n.0)) || false))
            ∙ ends (is_in m done) (x.0 == m.0)
            ∙ ap (λ (c : Bool). c || is_in m done) (flip x.0 m.0);
        at_n = λ y.
            linked_more n y saw.links (link n x)
            ∙ (λ i. saw.at_n y i + count_of y (linked_of (eq-eqb n.0 n.0 refl i) n x (x.0 == n.0)))
            ∙ n_sees y (cases_eq y.0 x.0);
        at_m = λ m y apart.
            linked_more m y saw.links (link n x)
            ∙ (λ i. saw.at_m m y apart i + count_of y (linked_of (ne_eqb n.0 m.0 (λ is. apart (sym is)) i) n x (x.0 == m.0)))
            ∙ m_sees m y (cases_eq m.0 x.0);
      }
        where
          last : List Envelope
          last = (saw.messages ++ telling b n x ∷ []) ++ telling b x n ∷ []

          does : (more : List Slow) × (seen_at_once n x (seen_as saw.links saw.messages saw.slow)
              ≡ seen_as (saw.links ++ link n x ∷ []) (last ++ telling b n x ∷ []) more)
          does = does_first x saw.links saw.messages saw.slow can waits (saw.joins x can.apart ∙ out)

          linked_of : Bool → Node → Node → Bool → List Node
          linked_of c a y d = cons_option (if c then Some y else if d then Some a else None) []

          ends : (c d : Bool) → (c || ((d || false) || false)) ≡ (d || c)
          ends true true = refl
          ends true false = refl
          ends false true = refl
          ends false false = refl

          their : (m : Node) → (m ≡ x) ⊎ (1 ≤ count_of m done) → 1 ≤ tellings m n last
          their m (inl is) = subst (λ (y : Node). 1 ≤ tellings y n last) (sym is)
              (let both : tellings x n last ≡ tellings x n (saw.messages ++ telling b n x ∷ []) + tellings x n (telling b x n ∷ []) =
              tellings_more x n (saw.messages ++ telling b n x ∷ []) (telling b x n ∷ []) in
              let one : tellings x n (telling b x n ∷ []) ≡ one_if (x.0 == x.0 && n.0 == n.0) = tells_one x n b x n in
              let here : one_if (x.0 == x.0 && n.0 == n.0) ≡ 1 = (λ i. one_if (eq-eqb x.0 x.0 refl i && eq-eqb n.0 n.0 refl i)) in
              omega (arith, both, one, here))
          their m (inr some) =
              let before : 1 ≤ tellings m n saw.messages = saw.theirs m some in
              let one : tellings m n saw.messages ≤ tellings m n (saw.messages ++ telling b n x ∷ []) = kept m n saw.messages (telling b n x ∷ []) in
              let two : tellings m n (saw.messages ++ telling b n x ∷ []) ≤ tellings m n last = kept m n (saw.messages ++ telling b n x ∷ []) (telling b x n ∷ []) in
              omega (arith, before, one, two)

          n_sees : (y : Node) → (y.0 ≡ x.0) ⊎ (y.0 ≢ x.0) → one_if (is_in y done) + more_if (x.0 == y.0) 0 ≡ one_if (y.0 == x.0 || is_in y done)
          n_sees y (inl is) =
              (λ i. one_if ((ap (λ (z : Node). is_in z done) (same_node y x is) ∙ out) i) + more_if (eq-eqb x.0 y.0 (sym is) i) 0)
              ∙ (let same : 0 + 1 ≡ 1 = omega arith in same)
              ∙ sym (ap (λ (c : Bool). one_if (c || is_in y done)) (eq-eqb y.0 x.0 is))
          n_sees y (inr other) =
              ap (λ (c : Bool). one_if (is_in y done) + more_if c 0) (ne_eqb x.0 y.0 (λ is. other (sym is)))
              ∙ (let same : one_if (is_in y done) + 0 ≡ one_if (is_in y done) = omega arith in same)
              ∙ sym (ap (λ (c : Bool). one_if (c || is_in y done)) (ne_eqb y.0 x.0 other))

          m_sees : (m y : Node) → (m.0 ≡ x.0) ⊎ (m.0 ≢ x.0)
              → (count_of y (linked_with m first) + (if n.0 == y.0 then one_if (is_in m done) else 0)) + count_of y (linked_of false n x (x.0 == m.0))
              ≡ count_of y (linked_with m first) + (if n.0 == y.0 then one_if (m.0 == x.0 || is_in m done) else 0)
          m_sees m y (inl is) =
              (λ i. (count_of y (linked_with m first) + (if n.0 == y.0 then one_if ((ap (λ (z : Node). is_in z done) (same_node m x is) ∙ out) i) else 0))
              + count_of y (linked_of false n x (eq-eqb x.0 m.0 (sym is) i)))
              ∙ fit (n.0 == y.0) (count_of y (linked_with m first))
              ∙ sym (ap (λ (c : Bool). count_of y (linked_with m first) + (if n.0 == y.0 then one_if (c || is_in m done) else 0)) (eq-eqb m.0 x.0 is))
            where
              fit : (c : Bool) (k : ℕ) → (k + (if c then 0 else 0)) + more_if c 0 ≡ k + (if c then 1 else 0)
              fit true k = omega arith
              fit false k = omega arith
          m_sees m y (inr other) =
              ap (λ (c : Bool). (count_of y (linked_with m first) + (if n.0 == y.0 then one_if (is_in m done) else 0)) + count_of y (linked_of false n x c))
              (ne_eqb x.0 m.0 (λ is. other (sym is)))
              ∙ (let same : (count_of y (linked_with m first) + (if n.0 == y.0 then one_if (is_in m done) else 0)) + 0
              ≡ count_of y (linked_with m first) + (if n.0 == y.0 then one_if (is_in m done) else 0) = omega arith in same)
              ∙ sym (ap (λ (c : Bool). count_of y (linked_with m first) + (if n.0 == y.0 then one_if (c || is_in m done) else 0)) (ne_eqb m.0 x.0 other))

  -- all of a list, one after the other
  abbrev pub pushed : List Node → List Node → List Node
  pushed [] done = done
  pushed (x ∷ xs) done = pushed xs (x ∷ done)

  -- one that isn't alive isn't seen
  abbrev pub MaySee : Node → Type 0
  MaySee x = CanSee x ⊎ (is_alive_at b x ≡ false)

  -- those of a list that are alive
  abbrev pub alive_of : List Node → List Node
  alive_of xs = filter (is_alive_at b) xs

  pub sees_all : (first : List Link) (xs done : List Node) (u : SystemView) → All MaySee xs → (node_at b n).phase ≡ phase.Waiting
      → 1 ≤ times n b.alive → Saw first done u → Saw first (pushed (alive_of xs) done) (all_seen n xs u)
  sees_all first [] done u may waits listed saw = saw
  sees_all first (x ∷ xs) done u may waits listed saw =
      by (All-head MaySee x xs may)
      (λ more v so. sees_all first xs more v (All-tail MaySee x xs may) waits listed so)
    where
      by : MaySee x → ((more : List Node) (v : SystemView) → Saw first more v → Saw first (pushed (alive_of xs) more) (all_seen n xs v))
          → Saw first (pushed (cond (is_alive_at b x) (x ∷ alive_of xs) (alive_of xs)) done) (all_seen n xs (seen_at_once n x u))
      by (inl can) rest =
          subst (λ (c : Bool). Saw first (pushed (cond c (x ∷ alive_of xs) (alive_of xs)) done) (all_seen n xs (seen_at_once n x u))) (sym can.alive)
          (rest (x ∷ done) (seen_at_once n x u) (sees_one first done x u can waits listed saw))
      by (inr dead) rest =
          subst (λ (c : Bool). Saw first (pushed (cond c (x ∷ alive_of xs) (alive_of xs)) done) (all_seen n xs (seen_at_once n x u))) (sym dead)
          (subst (λ (y : SystemView). Saw first (pushed (alive_of xs) done) (all_seen n xs y)) (sym unseen) (rest done u saw))
        where
          unseen : seen_at_once n x u ≡ u
          unseen =
              ap (λ (c : Bool). cond c (connecting.with_up n x (connecting.reach n x u)) u)
              (ap (λ (y : SystemView). is_alive_at y x) saw.is ∙ dead)
