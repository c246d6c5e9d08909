-- A node that begins sees the nodes of its lists at once, those that are alive: it is connected with each, and told of each.
use Rattle.std.proofs.Common.{◌≡◌, ◌≢◌, ◌≤◌, ◌⊎◌, ◌+◌, ◌++◌, ◌==◌, ◌&&◌, ◌||◌, not, ℕ, zero, suc, Bool, true, false, cond, List, [], ◌∷◌, map, filter, Some, None, refl, sym, ap, subst, ◌∙◌, inl, inr, arith}
use Rattle.std.specs.List.{flat_map, cons_option}
use Rattle.std.specs.Prelude.{All}
use Rattle.std.proofs.lemmas.Bool.{eq-eqb, ne_eqb, false≢true, or_right, or_left, cases_eq}
use Rattle.std.proofs.Math.Bool.{or-true}
use Rattle.std.proofs.lemmas.List.{append_assoc, append-nil, map-append}
use Rattle.std.proofs.lemmas.List.Folds.{list_any-append}
use Rattle.std.proofs.lemmas.List.Elements.{All-nil, All-cons, All-append, filter_map-append}
use Rattle.rh_model.specs.declared.node.Node.{Node}
use Rattle.rh_otp_net.specs.declared.links.Link.{Link}
use Rattle.rh_otp_net.specs.Links.{link, is_between, other_end, are_linked, linked_with, around, is_to_connect, joined, to_connect}
use Rattle.rh_otp_node.specs.declared.node.Phase.{Phase}
use Rattle.rh_otp_node.specs.declared.node.Phase.TheVariants as phase
use Rattle.rh_otp_node.specs.Live.{is_phase_up}
use Rattle.rh_otp_system.specs.Connecting as connecting
use Rattle.rh_otp_system.specs.Connecting.{with_up, waits_in, connect, with_slow_links, reach}
use Rattle.rh_otp_system.specs.Doing.{seen_at_once, all_seen}
use Rattle.rh_otp_system.specs.State.{SystemView, node_at, is_alive_at, is_up_at}
use Rattle.rh_otp_crashes.proofs.Crossing.{same_node}
use Rattle.rh_otp_joins.specs.Joins.{connect_of}
use Rattle.rh_otp_joins.proofs.Lists.{more_if, count_of, counts_itself}
use Rattle.rh_otp_joins.proofs.Opened.{up_letter}
use Rattle.rh_otp_joins.proofs.Taking.{count_more}

-- ---- connections

linked_first : (a b : Node) (xs ys : List Link) → are_linked a b xs ≡ true → are_linked a b (xs ++ ys) ≡ true
linked_first a b xs ys is = list_any-append (is_between a b) xs ys ∙ or_left (are_linked a b xs) (are_linked a b ys) is

linked_last : (a b : Node) (xs : List Link) → are_linked a b (xs ++ link a b ∷ []) ≡ true
linked_last a b [] =
    ap (λ (c : Bool). (c && (b.0 == b.0) || (a.0 == b.0 && b.0 == a.0)) || false) (eq-eqb a.0 a.0 refl)
    ∙ ap (λ (c : Bool). (c || (a.0 == b.0 && b.0 == a.0)) || false) (eq-eqb b.0 b.0 refl)
linked_last a b (l ∷ xs) = or_right (is_between a b l) (are_linked a b (xs ++ link a b ∷ [])) (linked_last a b xs)

-- either way round
pub linked_back : (a b : Node) (xs : List Link) → are_linked a b xs ≡ are_linked b a xs
linked_back a b [] = refl
linked_back a b (l ∷ xs) = (λ i. swapped (l.0.0 == a.0 && l.1.0 == b.0) (l.0.0 == b.0 && l.1.0 == a.0) i || linked_back a b xs i)
  where
    swapped : (c d : Bool) → (c || d) ≡ (d || c)
    swapped true true = refl
    swapped true false = refl
    swapped false true = refl
    swapped false false = refl

-- whom the node sees it is connected with
pub seen_linked : (n m : Node) (xs : List Link) → 1 ≤ count_of m (linked_with n xs) → are_linked n m xs ≡ true
seen_linked n m [] among = absurd (omega (arith, among))
seen_linked n m (l ∷ xs) among =
    by (l.0.0 == n.0) (l.1.0 == n.0) refl refl (l.1.0 == m.0) (l.0.0 == m.0) refl refl (seen_linked n m xs) among
  where
    by : (c d : Bool) → (l.0.0 == n.0) ≡ c → (l.1.0 == n.0) ≡ d → (e f : Bool) → (l.1.0 == m.0) ≡ e → (l.0.0 == m.0) ≡ f
        → (1 ≤ count_of m (linked_with n xs) → are_linked n m xs ≡ true)
        → 1 ≤ count_of m (cons_option (cond c (Some l.1) (cond d (Some l.0) None)) (linked_with n xs))
        → (((l.0.0 == n.0 && l.1.0 == m.0) || (l.0.0 == m.0 && l.1.0 == n.0)) || are_linked n m xs) ≡ true
    by true d is is_too true f same same_too rest among =
        (λ i. ((is i && same i) || (l.0.0 == m.0 && l.1.0 == n.0)) || are_linked n m xs)
    by true d is is_too false f same same_too rest among =
        or_right _ (are_linked n m xs) (rest (subst (λ (x : Bool). 1 ≤ more_if x (count_of m (linked_with n xs))) same among))
    by false true is is_too e true same same_too rest among =
        (λ i. ((l.0.0 == n.0 && l.1.0 == m.0) || (same_too i && is_too i)) || are_linked n m xs)
        ∙ ap (λ (x : Bool). x || are_linked n m xs) (or-true (l.0.0 == n.0 && l.1.0 == m.0))
    by false true is is_too e false same same_too rest among =
        or_right _ (are_linked n m xs) (rest (subst (λ (x : Bool). 1 ≤ more_if x (count_of m (linked_with n xs))) same_too among))
    by false false is is_too e f same same_too rest among = or_right _ (are_linked n m xs) (rest among)

-- ---- what global is to connect joins two nodes

abbrev pub IsApart : Link → Type 0
IsApart l = l.0.0 ≢ l.1.0

joined_apart : (pair : Link) (links : List Link) (a : Node) (others : List Node) → All IsApart (joined pair links a others)
joined_apart pair links a [] = All-nil IsApart
joined_apart pair links a (b ∷ others) = by (a.0 == b.0) refl (joined_apart pair links a others)
  where
    by : (c : Bool) → (a.0 == b.0) ≡ c → All IsApart (joined pair links a others)
        → All IsApart (map (link a) (cond (not c && not (are_linked a b links) && not (is_between pair.0 pair.1 (link a b)))
        (b ∷ filter (is_to_connect pair.0 pair.1 links a) others) (filter (is_to_connect pair.0 pair.1 links a) others)))
    by true is rest = rest
    by false is rest = more (not (are_linked a b links) && not (is_between pair.0 pair.1 (link a b)))
      where
        more : (d : Bool) → All IsApart (map (link a) (cond d (b ∷ filter (is_to_connect pair.0 pair.1 links a) others)
            (filter (is_to_connect pair.0 pair.1 links a) others)))
        more true = All-cons IsApart (link a b) (joined pair links a others) (λ same. false≢true (sym is ∙ eq-eqb a.0 b.0 same)) rest
        more false = rest

all_apart : (pair : Link) (links : List Link) (others nodes : List Node) → All IsApart (flat_map (λ a. joined pair links a others) nodes)
all_apart pair links others [] = All-nil IsApart
all_apart pair links others (a ∷ nodes) =
    All-append IsApart (joined pair links a others) (flat_map (λ x. joined pair links x others) nodes) (joined_apart pair links a others)
    (all_apart pair links others nodes)

to_connect_apart : (one two : Node) (links : List Link) → All IsApart (to_connect one two links)
unfolding to_connect
to_connect_apart one two links = all_apart (link one two) links (around two links) (around one links)

slow_so : (more : List Link) (s : SystemView) → with_slow_links more s ≡ record s { slow = s.slow ++ map connect_of more }
slow_so [] s = λ i. record s { slow = sym (append-nil s.slow) i }
slow_so (l ∷ more) s =
    slow_so more (record s { slow = s.slow ++ connect_of l ∷ [] })
    ∙ (λ i. record s { slow = append_assoc s.slow (connect_of l ∷ []) (map connect_of more) i })

-- ---- what it has seen

-- The node, which waits, has seen those of these that are alive: it was told of each as often as it stands there, is connected with it, and
-- sees it once.
pub record Seen (n : Node) (s : SystemView) (listed : List Node) (u : SystemView) : Type 0 where
  pub ups : List Node
  pub connects : List Link
  pub links : List Link
  pub is : u ≡ record s { messages = map (up_letter n s) ups; links = links; slow = map connect_of connects }
  pub told : (m : Node) → is_alive_at s m ≡ true → count_of m listed ≤ count_of m ups
  pub kept : (a b : Node) → are_linked a b s.links ≡ true → are_linked a b links ≡ true
  pub linked : (m : Node) → is_alive_at s m ≡ true → 1 ≤ count_of m listed → are_linked n m links ≡ true
  pub once : (m : Node) → count_of m (linked_with n links) ≤ 1
  pub only : (m : Node) → 1 ≤ count_of m (linked_with n links) → (is_alive_at s m ≡ true) × (m.0 ≢ n.0)
  pub apart : All IsApart connects

-- ---- it sees one more

abbrev seen_as : Node → SystemView → List Node → List Link → List Link → SystemView
seen_as n s ups links connects = record s { messages = map (up_letter n s) ups; links = links; slow = map connect_of connects }

no_longer_waits : (p : Phase) → is_phase_up p ≡ true → waits_in p ≡ false
no_longer_waits phase.Up is = refl
no_longer_waits phase.Down is = absurd (false≢true is)
no_longer_waits phase.Waiting is = absurd (false≢true is)

told_more : (n m : Node) (s : SystemView) (ups : List Node) (links connects : List Link)
    → with_up n m (seen_as n s ups links connects) ≡ seen_as n s (ups ++ m ∷ []) links connects
told_more n m s ups links connects = λ i. record s {
  messages = sym (map-append (up_letter n s) ups (m ∷ [])) i;
  links = links;
  slow = map connect_of connects;
}

-- where both are connected already
sees_again : (n m : Node) (s : SystemView) (ups : List Node) (links connects : List Link) → is_alive_at s m ≡ true → m.0 ≢ n.0
    → are_linked n m links ≡ true
    → seen_at_once n m (seen_as n s ups links connects) ≡ seen_as n s (ups ++ m ∷ []) links connects
unfolding connect
sees_again n m s ups links connects alive apart seen =
    let u : SystemView = seen_as n s ups links connects in
    ap (λ (c : Bool). cond c (with_up n m (reach n m u)) u) alive
    ∙ ap (λ (c : Bool). with_up n m (cond c u (connect n m u))) (ne_eqb n.0 m.0 (λ same. apart (sym same)))
    ∙ ap (λ (c : Bool). with_up n m (cond c u (with_slow_links (to_connect n m links) (connecting.link n m u)))) seen
    ∙ told_more n m s ups links connects

-- where they aren't
sees_first : (n m : Node) (s : SystemView) (ups : List Node) (links connects : List Link) → is_alive_at s m ≡ true → is_up_at s m ≡ true
    → (node_at s n).phase ≡ phase.Waiting → m.0 ≢ n.0 → are_linked n m links ≡ false
    → seen_at_once n m (seen_as n s ups links connects)
    ≡ seen_as n s ((ups ++ m ∷ []) ++ m ∷ []) (links ++ link n m ∷ []) (connects ++ to_connect n m links)
unfolding connect
sees_first n m s ups links connects alive is_up_there waits apart unseen =
    let u : SystemView = seen_as n s ups links connects in
    let linked : SystemView = seen_as n s ups (links ++ link n m ∷ []) connects in
    let told : SystemView = with_up n m linked in
    let more : List Link = to_connect n m links in
    ap (λ (c : Bool). cond c (with_up n m (reach n m u)) u) alive
    ∙ ap (λ (c : Bool). with_up n m (cond c u (connect n m u))) (ne_eqb n.0 m.0 (λ same. apart (sym same)))
    ∙ ap (λ (c : Bool). with_up n m (cond c u (with_slow_links more (connecting.link n m u)))) unseen
    ∙ ap (λ (p : Phase). with_up n m (with_slow_links more (connecting.tell_up m n (cond (waits_in p) told linked)))) waits
    ∙ ap (λ (c : Bool). with_up n m (with_slow_links more (cond c (with_up m n told) told))) (no_longer_waits (node_at s m).phase is_up_there)
    ∙ ap (λ (x : SystemView). with_up n m (with_slow_links more x)) (told_more n m s ups (links ++ link n m ∷ []) connects)
    ∙ ap (with_up n m) (slow_so more (seen_as n s (ups ++ m ∷ []) (links ++ link n m ∷ []) connects))
    ∙ (λ i. with_up n m (record s {
      messages = map (up_letter n s) (ups ++ m ∷ []);
      links = links ++ link n m ∷ [];
      slow = sym (map-append connect_of connects more) i;
    }))
    ∙ told_more n m s (ups ++ m ∷ []) (links ++ link n m ∷ []) (connects ++ more)

counted_here : (m k : Node) (ups listed : List Node) → count_of k listed ≤ count_of k ups → count_of k (listed ++ m ∷ []) ≤ count_of k (ups ++ m ∷ [])
counted_here m k ups listed less =
    let one : count_of k (listed ++ m ∷ []) ≡ count_of k listed + more_if (m.0 == k.0) 0 = count_more k m listed in
    let other : count_of k (ups ++ m ∷ []) ≡ count_of k ups + more_if (m.0 == k.0) 0 = count_more k m ups in
    omega (arith, one, other, less)

sees_one : (n m : Node) (s u : SystemView) (listed : List Node) → (node_at s n).phase ≡ phase.Waiting
    → (is_alive_at s m ≡ true → (is_up_at s m ≡ true) × (m.0 ≢ n.0)) → Seen n s listed u → Seen n s (listed ++ m ∷ []) (seen_at_once n m u)
sees_one n m s u listed waits fine f =
    subst (λ (x : SystemView). Seen n s (listed ++ m ∷ []) (seen_at_once n m x)) (sym f.is)
    (by (is_alive_at s m) refl (are_linked n m f.links) refl)
  where
    w : SystemView
    w = seen_as n s f.ups f.links f.connects

    -- one more of the list is connected, if it is alive
    linked_too : (links : List Link) → ((a b : Node) → are_linked a b f.links ≡ true → are_linked a b links ≡ true)
        → (is_alive_at s m ≡ true → are_linked n m links ≡ true)
        → (k : Node) → is_alive_at s k ≡ true → 1 ≤ count_of k (listed ++ m ∷ []) → are_linked n k links ≡ true
    linked_too links kept new k alive among = go (cases_eq m.0 k.0)
      where
        go : (m.0 ≡ k.0) ⊎ (m.0 ≢ k.0) → are_linked n k links ≡ true
        go (inl same) =
            subst (λ (x : Node). are_linked n x links ≡ true) (same_node m k same)
            (new (subst (λ (x : Node). is_alive_at s x ≡ true) (sym (same_node m k same)) alive))
        go (inr differs) =
            let one : count_of k (listed ++ m ∷ []) ≡ count_of k listed + more_if (m.0 == k.0) 0 = count_more k m listed in
            let none : more_if (m.0 == k.0) 0 ≡ 0 = ap (λ (c : Bool). more_if c 0) (ne_eqb m.0 k.0 differs) in
            kept n k (f.linked k alive (omega (arith, one, none, among)))

    by : (c : Bool) → is_alive_at s m ≡ c → (d : Bool) → are_linked n m f.links ≡ d → Seen n s (listed ++ m ∷ []) (seen_at_once n m w)
    by false dead d is =
        subst (Seen n s (listed ++ m ∷ [])) (sym (ap (λ (c : Bool). cond c (with_up n m (reach n m w)) w) dead)) (record {
          ups = f.ups;
          connects = f.connects;
          links = f.links;
          is = refl;
          told = λ k alive.
              (let one : count_of k (listed ++ m ∷ []) ≡ count_of k listed + more_if (m.0 == k.0) 0 = count_more k m listed in
              let none : more_if (m.0 == k.0) 0 ≡ 0 =
              ap (λ (c : Bool). more_if c 0) (ne_eqb m.0 k.0 (λ same. false≢true (sym dead ∙ ap (is_alive_at s) (same_node m k same) ∙ alive))) in
              let less : count_of k listed ≤ count_of k f.ups = f.told k alive in
              omega (arith, one, none, less));
          kept = f.kept;
          linked = linked_too f.links (λ a b is. is) (λ alive. absurd (false≢true (sym dead ∙ alive)));
          once = f.once;
          only = f.only;
          apart = f.apart;
        })
    by true alive true seen =
        subst (Seen n s (listed ++ m ∷ [])) (sym (sees_again n m s f.ups f.links f.connects alive (fine alive).1 seen)) (record {
          ups = f.ups ++ m ∷ [];
          connects = f.connects;
          links = f.links;
          is = refl;
          told = λ k alive_k. counted_here m k f.ups listed (f.told k alive_k);
          kept = f.kept;
          linked = linked_too f.links (λ a b is. is) (λ is. seen);
          once = f.once;
          only = f.only;
          apart = f.apart;
        })
    by true alive false unseen =
        let links : List Link = f.links ++ link n m ∷ [] in
        let around_so : linked_with n links ≡ linked_with n f.links ++ m ∷ [] =
        filter_map-append (other_end n) f.links (link n m ∷ [])
        ∙ ap (λ (c : Bool). linked_with n f.links ++ cons_option (cond c (Some m) (cond (m.0 == n.0) (Some n) None)) []) (eq-eqb n.0 n.0 refl) in
        let counts : (k : Node) → count_of k (linked_with n links) ≡ count_of k (linked_with n f.links) + more_if (m.0 == k.0) 0 =
        λ k. ap (count_of k) around_so ∙ count_more k m (linked_with n f.links) in
        subst (Seen n s (listed ++ m ∷ []))
        (sym (sees_first n m s f.ups f.links f.connects alive (fine alive).0 waits (fine alive).1 unseen)) (record {
          ups = (f.ups ++ m ∷ []) ++ m ∷ [];
          connects = f.connects ++ to_connect n m f.links;
          links = links;
          is = refl;
          told = λ k alive_k.
              (let first : count_of k (listed ++ m ∷ []) ≤ count_of k (f.ups ++ m ∷ []) = counted_here m k f.ups listed (f.told k alive_k) in
              let more : count_of k ((f.ups ++ m ∷ []) ++ m ∷ []) ≡ count_of k (f.ups ++ m ∷ []) + more_if (m.0 == k.0) 0 =
              count_more k m (f.ups ++ m ∷ []) in
              omega (arith, first, more));
          kept = λ a b is. linked_first a b f.links (link n m ∷ []) (f.kept a b is);
          linked = linked_too links (λ a b is. linked_first a b f.links (link n m ∷ []) is) (λ is. linked_last n m f.links);
          once = λ k. once_more k (counts k) (cases_eq m.0 k.0);
          only = λ k among. only_those k (counts k) among (cases_eq m.0 k.0);
          apart = All-append IsApart f.connects (to_connect n m f.links) f.apart (to_connect_apart n m f.links);
        })
      where
        once_more : (k : Node) → count_of k (linked_with n (f.links ++ link n m ∷ [])) ≡ count_of k (linked_with n f.links) + more_if (m.0 == k.0) 0
            → (m.0 ≡ k.0) ⊎ (m.0 ≢ k.0) → count_of k (linked_with n (f.links ++ link n m ∷ [])) ≤ 1
        once_more k counts (inl same) =
            by_count (count_of k (linked_with n f.links)) refl
          where
            unseen_k : are_linked n k f.links ≡ false
            unseen_k = ap (λ (x : Node). are_linked n x f.links) (sym (same_node m k same)) ∙ unseen

            by_count : (j : ℕ) → count_of k (linked_with n f.links) ≡ j → count_of k (linked_with n (f.links ++ link n m ∷ [])) ≤ 1
            by_count zero none =
                let one : more_if (m.0 == k.0) 0 ≡ 1 = ap (λ (c : Bool). more_if c 0) (eq-eqb m.0 k.0 same) in
                omega (arith, none, one, counts)
            by_count (suc j) some =
                absurd (false≢true (sym unseen_k ∙ seen_linked n k f.links (omega (arith, some))))
        once_more k counts (inr differs) =
            let none : more_if (m.0 == k.0) 0 ≡ 0 = ap (λ (c : Bool). more_if c 0) (ne_eqb m.0 k.0 differs) in
            let before : count_of k (linked_with n f.links) ≤ 1 = f.once k in
            omega (arith, none, before, counts)

        only_those : (k : Node) → count_of k (linked_with n (f.links ++ link n m ∷ [])) ≡ count_of k (linked_with n f.links) + more_if (m.0 == k.0) 0
            → 1 ≤ count_of k (linked_with n (f.links ++ link n m ∷ [])) → (m.0 ≡ k.0) ⊎ (m.0 ≢ k.0)
            → (is_alive_at s k ≡ true) × (k.0 ≢ n.0)
        only_those k counts among (inl same) =
            (ap (is_alive_at s) (sym (same_node m k same)) ∙ alive, λ is. (fine alive).1 (same ∙ is))
        only_those k counts among (inr differs) =
            let none : more_if (m.0 == k.0) 0 ≡ 0 = ap (λ (c : Bool). more_if c 0) (ne_eqb m.0 k.0 differs) in
            f.only k (omega (arith, none, counts, among))

-- and all of the lists
pub sees_all : (n : Node) (nodes : List Node) (s u : SystemView) (listed : List Node) → (node_at s n).phase ≡ phase.Waiting
    → ((m : Node) → is_alive_at s m ≡ true → 1 ≤ count_of m nodes → (is_up_at s m ≡ true) × (m.0 ≢ n.0)) → Seen n s listed u
    → Seen n s (listed ++ nodes) (all_seen n nodes u)
sees_all n [] s u listed waits fine f = subst (λ (l : List Node). Seen n s l u) (sym (append-nil listed)) f
sees_all n (m ∷ nodes) s u listed waits fine f =
    subst (λ (l : List Node). Seen n s l (all_seen n nodes (seen_at_once n m u))) (append_assoc listed (m ∷ []) nodes)
    (sees_all n nodes s (seen_at_once n m u) (listed ++ m ∷ []) waits
    (λ k alive among. fine k alive (later (m.0 == k.0) (count_of k nodes) among))
    (sees_one n m s u listed waits
    (λ alive. fine m alive (let one : count_of m (m ∷ nodes) ≡ suc (count_of m nodes) = counts_itself m nodes in omega (arith, one))) f))
  where
    later : (c : Bool) (k : ℕ) → 1 ≤ k → 1 ≤ more_if c k
    later true k among = omega (arith, among)
    later false k among = among
