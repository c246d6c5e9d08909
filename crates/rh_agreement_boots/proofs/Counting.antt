-- How much comes of a boot of a node that waits on: so much at most for each entry of its lists. So it comes to an end.
use Rattle.std.proofs.Common.{◌≡◌, ◌≢◌, ◌<◌, ◌≤◌, ◌+◌, ◌*◌, ◌++◌, ◌&&◌, ◌||◌, ◌==◌, ℕ, suc, Bool, true, false, cond, filter, filter_map, List, [], ◌∷◌, length, Some, None, refl, sym, ap, subst, ◌∙◌, arith}
use Rattle.std.specs.List.{flat_map}
use Rattle.std.proofs.lemmas.Bool.{eq-eqb, ne_eqb, or_left, or_right, false≢true, false_from_ne_true}
use Rattle.std.proofs.lemmas.List.{length-append, length-map}
use Rattle.std.proofs.lemmas.List.Concat.{flat_map-cons}
use Rattle.std.proofs.lemmas.List.Elements.{filter_map-append}
use Rattle.std.proofs.lemmas.List.Folds.{list_any-append}
use Rattle.std.proofs.lemmas.Nat.{mul-le}
use Rattle.std.proofs.Math.Nat.{suc-mul}
use Rattle.rh_model.specs.ClusterView.{mandatory_of, optional_of}
use Rattle.rh_model.specs.declared.node.Node.{Node}
use Rattle.rh_rules.specs.declared.event.Event.TheVariants as event
use Rattle.rh_otp_net.specs.declared.links.Link.{Link}
use Rattle.rh_otp_net.specs.declared.timers.Timer.{Timer}
use Rattle.rh_otp_net.specs.Links as links
use Rattle.rh_otp_net.specs.Links.{are_linked, is_between, is_to_connect, joined, around, linked_with, other_end, to_connect}
use Rattle.rh_otp_node.specs.Kernel.{waits as still_waits}
use Rattle.rh_otp_node.specs.Live.{LiveView, begun as begun_node}
use Rattle.rh_otp_sim.specs.Sim.{LiveSimView, net_in}
use Rattle.rh_otp_sim.specs.Stepping.{begun}
use Rattle.rh_otp_system.specs.declared.slow.Slow.TheVariants as slow
use Rattle.rh_otp_system.specs.Connecting.{with_up, waits_in, tell_up, with_slow, with_slow_links, connect, reach}
use Rattle.rh_otp_system.specs.Doing.{begun_at, seen_at_once, all_seen}
use Rattle.rh_otp_system.specs.Resting.{forgotten}
use Rattle.rh_otp_system.specs.State.{SystemView, node_at, own_at, is_alive_at}
use Rattle.rh_otp_laws.specs.Acting.{IsThere}
use Rattle.rh_otp_laws.proofs.Beginning.{begun_there}
use Rattle.rh_otp_waits.specs.Waits.{WaitsOn}
use Rattle.rh_otp_waits.proofs.Waiting.{awaiting_waits}
use Rattle.rh_agreement.specs.Resting.{held}
use Rattle.rh_agreement_boots.specs.Waiting.{begun_to_wait, entry_count, WaitingBootsComeToAnEnd}
use Rattle.rh_agreement_boots.proofs.Begun.{with_timers, seen_at_first, only_sees}

-- ---- how many global connects

filtered_few : {A : Type 0} (p : A → Bool) (xs : List A) → length (filter p xs) ≤ length xs
filtered_few p [] = omega arith
filtered_few {A} p (x ∷ xs) = by (p x) (filtered_few p xs)
  where
    by : (c : Bool) → length (filter p xs) ≤ length xs → length (cond c (x ∷ filter p xs) (filter p xs)) ≤ suc (length xs)
    by true few = omega (arith, few)
    by false few = omega (arith, few)

each_few : (pair : Link) (ls : List Link) (others nodes : List Node)
    → length (flat_map (λ (a : Node). joined pair ls a others) nodes) ≤ length nodes * length others
each_few pair ls others [] = omega arith
each_few pair ls others (a ∷ nodes) =
    let p : Node → Bool = is_to_connect pair.0 pair.1 ls a in
    let rest : List Link = flat_map (λ (m : Node). joined pair ls m others) nodes in
    let here : length (joined pair ls a others) ≡ length (filter p others) = length-map (filter p others) (links.link a) in
    let few : length (filter p others) ≤ length others = filtered_few p others in
    let more : length rest ≤ length nodes * length others = each_few pair ls others nodes in
    let both : length (flat_map (λ (m : Node). joined pair ls m others) (a ∷ nodes)) ≡ length (joined pair ls a others) + length rest =
    ap length (flat_map-cons (λ (m : Node). joined pair ls m others) a nodes) ∙ length-append (joined pair ls a others) rest in
    let times : suc (length nodes) * length others ≡ length nodes * length others + length others =
    suc-mul (length nodes) (length others) in
    omega (arith, here, few, more, both, times)

-- how many a node sees
abbrev pub degree : Node → List Link → ℕ
degree n ls = length (linked_with n ls)

connects_few : (one two : Node) (ls : List Link) → length (to_connect one two ls) ≤ suc (degree one ls) * suc (degree two ls)
unfolding to_connect
connects_few one two ls = each_few (links.link one two) ls (around two ls) (around one ls)

-- a connection more
degree_so : (k : Node) (ls : List Link) (l : Link) → degree k (ls ++ l ∷ []) ≡ degree k ls + degree k (l ∷ [])
degree_so k ls l =
    ap (λ (nodes : List Node). length nodes) (filter_map-append (other_end k) ls (l ∷ []))
    ∙ length-append (linked_with k ls) (linked_with k (l ∷ []))

one_more : (k : Node) (l : Link) → degree k (l ∷ []) ≤ 1
one_more k l = by (l.0.0 == k.0) (l.1.0 == k.0)
  where
    by : (c d : Bool) → length (filter_map (λ (_ : Link). cond c (Some l.1) (cond d (Some l.0) None)) (l ∷ [])) ≤ 1
    by true d = omega arith
    by false true = omega arith
    by false false = omega arith

none_more : (k n m : Node) → k.0 ≢ n.0 → k.0 ≢ m.0 → degree k (links.link n m ∷ []) ≡ 0
none_more k n m not_n not_m =
    (λ i. length (filter_map (λ (_ : Link). cond (ne_eqb n.0 k.0 (λ same. not_n (sym same)) i) (Some m)
    (cond (ne_eqb m.0 k.0 (λ same. not_m (sym same)) i) (Some n) None)) (links.link n m ∷ [])))

-- ---- what each entry leads to

-- for each entry so many at most
module _ (n : Node) (b : SystemView) (most entries : ℕ) where
  abbrev pub each : ℕ
  each = suc entries * suc most

  -- behind so many entries
  pub record Counted (i : ℕ) (t : SystemView) : Type 0 where
    pub nodes : (m : Node) → node_at t m ≡ node_at b m
    pub mine : degree n t.links ≤ i
    pub theirs : (m : Node) → m.0 ≢ n.0 → are_linked n m t.links ≡ false → degree m t.links ≤ most
    pub messages : length t.messages ≤ 3 * i
    pub slow : length t.slow ≤ i * each

  -- on the way through one: with two of its messages at most
  record Half (i : ℕ) (t : SystemView) : Type 0 where
    pub nodes : (m : Node) → node_at t m ≡ node_at b m
    pub mine : degree n t.links ≤ suc i
    pub theirs : (m : Node) → m.0 ≢ n.0 → are_linked n m t.links ≡ false → degree m t.links ≤ most
    pub messages : length t.messages ≤ 3 * i + 2
    pub slow : length t.slow ≤ i * each + each

  -- the same, but for one message more at most
  record Told (t u : SystemView) : Type 0 where
    pub nodes : (m : Node) → node_at u m ≡ node_at t m
    pub links : u.links ≡ t.links
    pub messages : length u.messages ≤ length t.messages + 1
    pub slow : u.slow ≡ t.slow

  told_if : (c : Bool) (j k : Node) (t : SystemView) → Told t (cond c (with_up j k t) t)
  told_if true j k t =
      let same : length (with_up j k t).messages ≡ length t.messages + 1 = length-append t.messages _ in
      record { nodes = λ m. refl; links = refl; messages = omega (arith, same); slow = refl }
  told_if false j k t = record { nodes = λ m. refl; links = refl; messages = omega arith; slow = refl }

  -- what is to be connected stands behind the rest
  record Longer (count : ℕ) (t u : SystemView) : Type 0 where
    pub nodes : (m : Node) → node_at u m ≡ node_at t m
    pub links : u.links ≡ t.links
    pub messages : u.messages ≡ t.messages
    pub slow : length u.slow ≡ length t.slow + count

  longer : (more : List Link) (t : SystemView) → Longer (length more) t (with_slow_links more t)
  longer [] t = record { nodes = λ m. refl; links = refl; messages = refl; slow = omega arith }
  longer (l ∷ more) t =
      let next : SystemView = with_slow (slow.Connect l.0 l.1) t in
      let rest : Longer (length more) next (with_slow_links more next) = longer more next in
      let one : length next.slow ≡ length t.slow + 1 = length-append t.slow (slow.Connect l.0 l.1 ∷ []) in
      record { nodes = rest.nodes; links = rest.links; messages = rest.messages; slow = omega (arith, rest.slow, one) }

  half : (i : ℕ) (t : SystemView) → Counted i t → Half i t
  half i t c = record {
    nodes = c.nodes;
    mine = omega (arith, c.mine);
    theirs = c.theirs;
    messages = omega (arith, c.messages);
    slow = omega (arith, c.slow);
  }

  -- it is connected with another one that it doesn't see
  connects : (k : Node) (i : ℕ) (t : SystemView) → k.0 ≢ n.0 → i < entries → Counted i t → Half i (connect n k t)
  unfolding connect
  connects k i t other within c = by (are_linked n k t.links) refl
    where
      joined_now : List Link
      joined_now = t.links ++ links.link n k ∷ []

      first : SystemView
      first = record t { links = joined_now }

      second : SystemView
      second = tell_up n k first

      third : SystemView
      third = tell_up k n second

      last : SystemView
      last = with_slow_links (to_connect n k t.links) third

      one : Told first second
      one = told_if (waits_in (node_at first n).phase) n k first

      two : Told second third
      two = told_if (waits_in (node_at second k).phase) k n second

      rest : Longer (length (to_connect n k t.links)) third last
      rest = longer (to_connect n k t.links) third

      same_links : last.links ≡ joined_now
      same_links = rest.links ∙ two.links ∙ one.links

      apart : (m : Node) → are_linked n m joined_now ≡ false → (are_linked n m t.links ≡ false) × (m.0 ≢ k.0)
      apart m none = (
        false_from_ne_true (are_linked n m t.links)
            (λ is. false≢true (sym none ∙ so ∙ or_left (are_linked n m t.links) (are_linked n m (links.link n k ∷ [])) is)),
        λ same. false≢true (sym none ∙ so ∙ or_right (are_linked n m t.links) (are_linked n m (links.link n k ∷ [])) (now m same)),
      )
        where
          so : are_linked n m joined_now ≡ (are_linked n m t.links || are_linked n m (links.link n k ∷ []))
          so = list_any-append (is_between n m) t.links (links.link n k ∷ [])

          now : (j : Node) → j.0 ≡ k.0 → are_linked n j (links.link n k ∷ []) ≡ true
          now j same =
              λ p. ((eq-eqb n.0 n.0 refl p && eq-eqb k.0 j.0 (sym same) p) || (n.0 == j.0 && k.0 == n.0)) || false

      few : are_linked n k t.links ≡ false → length (to_connect n k t.links) ≤ each
      few none =
          let bound : length (to_connect n k t.links) ≤ suc (degree n t.links) * suc (degree k t.links) = connects_few n k t.links in
          let theirs : degree k t.links ≤ most = c.theirs k other none in
          let product : suc (degree n t.links) * suc (degree k t.links) ≤ each =
          mul-le (suc (degree n t.links)) (suc (degree k t.links)) (suc entries) (suc most) (omega (arith, c.mine, within))
          (omega (arith, theirs)) in
          omega (arith, bound, product)

      by : (p : Bool) → are_linked n k t.links ≡ p → Half i (cond p t last)
      by true is = half i t c
      by false none = record {
        nodes = λ m. rest.nodes m ∙ two.nodes m ∙ one.nodes m ∙ c.nodes m;
        mine =
            let more : degree n joined_now ≡ degree n t.links + degree n (links.link n k ∷ []) = degree_so n t.links (links.link n k) in
            subst (λ (ls : List Link). degree n ls ≤ suc i) (sym same_links) (omega (arith, more, one_more n (links.link n k), c.mine));
        theirs = λ m not_n unlinked.
            let parts : (are_linked n m t.links ≡ false) × (m.0 ≢ k.0) =
            apart m (sym (ap (are_linked n m) same_links) ∙ unlinked) in
            let more : degree m joined_now ≡ degree m t.links + degree m (links.link n k ∷ []) = degree_so m t.links (links.link n k) in
            let before : degree m t.links ≤ most = c.theirs m not_n parts.0 in
            subst (λ (ls : List Link). degree m ls ≤ most) (sym same_links) (omega (arith, more, none_more m n k not_n parts.1, before));
        messages = omega (arith, ap length rest.messages, two.messages, one.messages, c.messages);
        slow = omega (arith, rest.slow, ap length two.slow, ap length one.slow, few none, c.slow);
      }

  -- one entry more
  sees_one : (k : Node) (i : ℕ) (t : SystemView) → i < entries → Counted i t → Counted (suc i) (seen_at_once n k t)
  sees_one k i t within c = by (is_alive_at t k)
    where
      times : suc i * each ≡ i * each + each
      times = suc-mul i each

      reached : (p : Bool) → (n.0 == k.0) ≡ p → Half i (cond p t (connect n k t))
      reached true same = half i t c
      reached false apart = connects k i t (λ same. false≢true (sym apart ∙ eq-eqb n.0 k.0 (sym same))) within c

      told : (u : SystemView) → Half i u → Counted (suc i) (with_up n k u)
      told u h =
          let same : length (with_up n k u).messages ≡ length u.messages + 1 = length-append u.messages _ in
          record {
            nodes = h.nodes;
            mine = h.mine;
            theirs = h.theirs;
            messages = omega (arith, same, h.messages);
            slow = omega (arith, h.slow, times);
          }

      by : (p : Bool) → Counted (suc i) (cond p (with_up n k (reach n k t)) t)
      by true = told (reach n k t) (reached (n.0 == k.0) refl)
      by false = record {
        nodes = c.nodes;
        mine = omega (arith, c.mine);
        theirs = c.theirs;
        messages = omega (arith, c.messages);
        slow = omega (arith, c.slow, times);
      }

  pub sees_all : (nodes : List Node) (i : ℕ) (t : SystemView) → i + length nodes ≤ entries → Counted i t
      → Counted (i + length nodes) (all_seen n nodes t)
  sees_all [] i t within c = subst (λ (j : ℕ). Counted j t) (let same : i ≡ i + 0 = omega arith in same) c
  sees_all (k ∷ nodes) i t within c =
      let next : SystemView = seen_at_once n k t in
      subst (λ (j : ℕ). Counted j (all_seen n nodes next)) (let same : suc i + length nodes ≡ i + suc (length nodes) = omega arith in same)
      (sees_all nodes (suc i) next (omega (arith, within)) (sees_one k i t (omega (arith, within)) c))

-- ---- the law

module _ (live : LiveSimView) (n : Node) (most : ℕ) (there : IsThere n (held live)) (waits : WaitsOn n (held live))
    (unlinked : linked_with n (held live).links ≡ []) (others : (m : Node) → m.0 ≢ n.0 → degree m (held live).links ≤ most) where
  abbrev first : SystemView
  first = begun (net_in live) (event.Boot n) live

  abbrev b : SystemView
  b = begun_at n first

  abbrev new : LiveView
  new = begun_node first.cluster (own_at first n) n (node_at first n)

  abbrev entries : ℕ
  entries = entry_count live.cluster n

  begins : node_at b n ≡ new
  unfolding forgotten
  begins = begun_there first n there.0 there.1

  counted : Counted n b most entries 0 b
  unfolding forgotten
  counted = record {
    nodes = λ m. refl;
    mine = let none : degree n (held live).links ≡ 0 = ap length unlinked in omega (arith, none);
    theirs = λ m other _. others m other;
    messages = omega arith;
    slow = omega arith;
  }

  mandatory_so : length (node_at b n).mandatory ≡ length (mandatory_of live.cluster n)
  unfolding forgotten
  mandatory_so = ap (λ (v : LiveView). length v.mandatory) begins

  optional_so : length (node_at b n).optional ≡ length (optional_of live.cluster n)
  unfolding forgotten
  optional_so = ap (λ (v : LiveView). length v.optional) begins

  all_counted : Counted n b most entries (0 + length (node_at b n).mandatory + length (node_at b n).optional) (seen_at_first n first)
  all_counted =
      sees_all n b most entries (node_at b n).optional (0 + length (node_at b n).mandatory) (all_seen n (node_at b n).mandatory b)
      (omega (arith, mandatory_so, optional_so))
      (sees_all n b most entries (node_at b n).mandatory 0 b (omega (arith, mandatory_so)) counted)

  still : still_waits (node_at (seen_at_first n first) n) ≡ true
  unfolding forgotten
  still = ap still_waits (all_counted.nodes n ∙ begins) ∙ awaiting_waits waits.lacks new waits.lacking

  comes : (timers : List Timer) × (begun_to_wait n live ≡ with_timers timers (seen_at_first n first))
  unfolding forgotten
  comes = only_sees n first still waits.file

  few : length (begun_to_wait n live).messages + length (begun_to_wait n live).slow ≤ 3 * entries + entries * ((entries + 1) * (most + 1))
  few =
      let count : ℕ = 0 + length (node_at b n).mandatory + length (node_at b n).optional in
      let all : count ≡ entries = omega (arith, mandatory_so, optional_so) in
      let slow : length (seen_at_first n first).slow ≤ entries * each n b most entries =
      subst (λ (k : ℕ). length (seen_at_first n first).slow ≤ k * each n b most entries) all all_counted.slow in
      let plus : (k : ℕ) → suc k ≡ k + 1 = λ k. omega arith in
      let product : entries * each n b most entries ≡ entries * ((entries + 1) * (most + 1)) =
      λ i. entries * (plus entries i * plus most i) in
      omega (
        arith,
        ap (λ (t : SystemView). length t.messages) comes.1,
        ap (λ (t : SystemView). length t.slow) comes.1,
        all,
        all_counted.messages,
        slow,
        product,
      )

pub come_to_an_end : WaitingBootsComeToAnEnd
come_to_an_end live n most there waits unlinked others within = omega (arith, few live n most there waits unlinked others, within)
