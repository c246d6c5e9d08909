-- Connections of which no two join the same two nodes, and none a node with itself: what a node sees by them.
use Rattle.std.proofs.Common.{◌≡◌, ◌≢◌, ◌≤◌, ◌⊎◌, ◌++◌, ◌==◌, ◌&&◌, ◌||◌, not, ℕ, zero, suc, Bool, true, false, cond, List, [], ◌∷◌, filter, slice_get, Some, None, refl, sym, ap, subst, ◌∙◌, inl, inr, arith}
use Rattle.std.specs.List.{AllPairs, cons_option, flat_map, remove}
use Rattle.std.specs.Prelude.{All}
use Rattle.std.proofs.lemmas.Bool.{and_from, or_left, or_right, eq-eqb, eqb-true, false≢true}
use Rattle.std.proofs.lemmas.List.Elements.{All-nil, All-cons, All-head, All-tail, All-append, All-map, All-filter, filter_passes}
use Rattle.std.proofs.lemmas.List.Kept.{AllPairs-filter}
use Rattle.std.proofs.lemmas.List.Quantifiers.{all_pairs_push}
use Rattle.std.proofs.lemmas.Option.{none-some, same_Some}
use Rattle.rh_model.specs.declared.node.Node.{Node}
use Rattle.rh_otp_net.specs.declared.links.Link.{Link}
use Rattle.rh_otp_net.specs.Links.{link, is_between, is_at, are_linked, linked_with, around, is_to_connect, joined, to_connect, without_node}
use Rattle.rh_otp_system.specs.declared.slow.Slow.{Slow}
use Rattle.rh_otp_system.specs.declared.slow.Slow.TheVariants as slow
use Rattle.rh_otp_system.specs.State.{SystemView, is_alive_at}
use Rattle.rh_otp_crashes.proofs.Crossing.{same_node}
use Rattle.rh_otp_joins.specs.Connections.{IsBound}
use Rattle.rh_otp_joins.proofs.Lists.{more_if, count_of}
use Rattle.rh_otp_joins.proofs.Seeing.{IsApart}

-- the second one joins other nodes than the first
abbrev pub IsOther : Link → Link → Type 0
IsOther l k = is_between k.0 k.1 l ≡ false

-- what is slow connects two nodes, if it connects any
abbrev pub JoinsTwo : Slow → Type 0
JoinsTwo (slow.Connect one two) = one.0 ≢ two.0
JoinsTwo (slow.Boot n) = Unit {0}

-- No two connections join the same two nodes, and none a node with itself; nor does what is slow.
pub record AreSingle (links : List Link) (slow : List Slow) : Type 0 where
  pub once : AllPairs IsOther links
  pub apart : All IsApart links
  pub coming : All JoinsTwo slow

-- ---- what a node sees by them

-- it joins these two
abbrev Joins : Node → Node → Link → Type 0
Joins n m l = ((l.0.0 ≡ n.0) × (l.1.0 ≡ m.0)) ⊎ ((l.0.0 ≡ m.0) × (l.1.0 ≡ n.0))

both_between : (n m : Node) (l k : Link) → Joins n m l → Joins n m k → is_between k.0 k.1 l ≡ true
both_between n m l k one other = by one other
  where
    straight : l.0.0 ≡ k.0.0 → l.1.0 ≡ k.1.0 → is_between k.0 k.1 l ≡ true
    straight p q =
        or_left (l.0.0 == k.0.0 && l.1.0 == k.1.0) (l.0.0 == k.1.0 && l.1.0 == k.0.0)
        (and_from (l.0.0 == k.0.0) (l.1.0 == k.1.0) (eq-eqb l.0.0 k.0.0 p) (eq-eqb l.1.0 k.1.0 q))

    crossed : l.0.0 ≡ k.1.0 → l.1.0 ≡ k.0.0 → is_between k.0 k.1 l ≡ true
    crossed p q =
        or_right (l.0.0 == k.0.0 && l.1.0 == k.1.0) (l.0.0 == k.1.0 && l.1.0 == k.0.0)
        (and_from (l.0.0 == k.1.0) (l.1.0 == k.0.0) (eq-eqb l.0.0 k.1.0 p) (eq-eqb l.1.0 k.0.0 q))

    by : Joins n m l → Joins n m k → is_between k.0 k.1 l ≡ true
    by (inl p) (inl q) = straight (p.0 ∙ sym q.0) (p.1 ∙ sym q.1)
    by (inl p) (inr q) = crossed (p.0 ∙ sym q.1) (p.1 ∙ sym q.0)
    by (inr p) (inl q) = crossed (p.0 ∙ sym q.1) (p.1 ∙ sym q.0)
    by (inr p) (inr q) = straight (p.0 ∙ sym q.0) (p.1 ∙ sym q.1)

-- one connection more shows it another node, or not
abbrev OneMore : Node → Node → Link → List Link → Type 0
OneMore n m l xs = (Joins n m l × (count_of m (linked_with n (l ∷ xs)) ≡ suc (count_of m (linked_with n xs))))
    ⊎ (count_of m (linked_with n (l ∷ xs)) ≡ count_of m (linked_with n xs))

counted_link : (n m : Node) (l : Link) (xs : List Link) → OneMore n m l xs
counted_link n m l xs = by (l.0.0 == n.0) refl (l.1.0 == n.0) refl (l.1.0 == m.0) refl (l.0.0 == m.0) refl
  where
    rest : List Node
    rest = linked_with n xs

    by : (c : Bool) → (l.0.0 == n.0) ≡ c → (d : Bool) → (l.1.0 == n.0) ≡ d → (e : Bool) → (l.1.0 == m.0) ≡ e
        → (f : Bool) → (l.0.0 == m.0) ≡ f
        → (Joins n m l × (count_of m (cons_option (cond c (Some l.1) (cond d (Some l.0) None)) rest) ≡ suc (count_of m rest)))
        ⊎ (count_of m (cons_option (cond c (Some l.1) (cond d (Some l.0) None)) rest) ≡ count_of m rest)
    by true is d at true same f too =
        inl (inl (eqb-true l.0.0 n.0 is, eqb-true l.1.0 m.0 same), ap (λ (b : Bool). more_if b (count_of m rest)) same)
    by true is d at false other f too = inr (ap (λ (b : Bool). more_if b (count_of m rest)) other)
    by false not_there true is e at true same =
        inl (inr (eqb-true l.0.0 m.0 same, eqb-true l.1.0 n.0 is), ap (λ (b : Bool). more_if b (count_of m rest)) same)
    by false not_there true is e at false other = inr (ap (λ (b : Bool). more_if b (count_of m rest)) other)
    by false not_there false nor_there e at f too = inr refl

none_more : (n m : Node) (l : Link) (xs : List Link) → Joins n m l → All (IsOther l) xs → count_of m (linked_with n xs) ≡ 0
none_more n m l [] joins others = refl
none_more n m l (k ∷ xs) joins others =
    by (counted_link n m k xs) (none_more n m l xs joins (All-tail (IsOther l) k xs others))
  where
    by : OneMore n m k xs → count_of m (linked_with n xs) ≡ 0 → count_of m (linked_with n (k ∷ xs)) ≡ 0
    by (inl one) rest = absurd (false≢true (sym (All-head (IsOther l) k xs others) ∙ both_between n m l k joins one.0))
    by (inr same) rest = same ∙ rest

-- it sees each once
pub seen_once : (n m : Node) (xs : List Link) → AllPairs IsOther xs → count_of m (linked_with n xs) ≤ 1
seen_once n m [] pairs = omega arith
seen_once n m (l ∷ xs) pairs =
    by (counted_link n m l xs) (seen_once n m xs later)
  where
    later : AllPairs IsOther xs
    later = λ i j d below within. pairs (suc i) (suc j) d (omega (arith, below)) (omega (arith, within))

    others : All (IsOther l) xs
    others = λ k d within. pairs zero (suc k) d (omega arith) (omega (arith, within))

    by : OneMore n m l xs → count_of m (linked_with n xs) ≤ 1 → count_of m (linked_with n (l ∷ xs)) ≤ 1
    by (inl one) rest = let none : count_of m (linked_with n xs) ≡ 0 = none_more n m l xs one.0 others in omega (arith, one.1, none)
    by (inr same) rest = omega (arith, same, rest)

-- and not itself
pub not_itself : (n m : Node) (xs : List Link) → All IsApart xs → 1 ≤ count_of m (linked_with n xs) → m.0 ≢ n.0
not_itself n m [] apart among = absurd (omega (arith, among))
not_itself n m (l ∷ xs) apart among =
    by (counted_link n m l xs) (not_itself n m xs (All-tail IsApart l xs apart))
  where
    two : Joins n m l → m.0 ≢ n.0
    two (inl p) same = All-head IsApart l xs apart (p.0 ∙ sym same ∙ sym p.1)
    two (inr p) same = All-head IsApart l xs apart (p.0 ∙ same ∙ sym p.1)

    by : OneMore n m l xs → (1 ≤ count_of m (linked_with n xs) → m.0 ≢ n.0) → m.0 ≢ n.0
    by (inl one) rest = two one.0
    by (inr same) rest = rest (omega (arith, among, same))

-- and nodes that are alive alone
pub seen_alive : (s : SystemView) (n m : Node) (xs : List Link) → All (IsBound s) xs → 1 ≤ count_of m (linked_with n xs)
    → is_alive_at s m ≡ true
seen_alive s n m [] bound among = absurd (omega (arith, among))
seen_alive s n m (l ∷ xs) bound among =
    by (counted_link n m l xs) (seen_alive s n m xs (All-tail (IsBound s) l xs bound))
  where
    one_end : Joins n m l → is_alive_at s m ≡ true
    one_end (inl p) = ap (is_alive_at s) (same_node m l.1 (sym p.1)) ∙ (All-head (IsBound s) l xs bound).1
    one_end (inr p) = ap (is_alive_at s) (same_node m l.0 (sym p.0)) ∙ (All-head (IsBound s) l xs bound).0

    by : OneMore n m l xs → (1 ≤ count_of m (linked_with n xs) → is_alive_at s m ≡ true) → is_alive_at s m ≡ true
    by (inl one) rest = one_end one.0
    by (inr same) rest = rest (omega (arith, among, same))

-- ---- they stay so

-- two more are connected
unlinked : (a b : Node) (xs : List Link) → are_linked a b xs ≡ false → All (λ (l : Link). is_between a b l ≡ false) xs
unlinked a b [] none = All-nil (λ (l : Link). is_between a b l ≡ false)
unlinked a b (l ∷ xs) none = by (is_between a b l) refl none (unlinked a b xs)
  where
    by : (c : Bool) → is_between a b l ≡ c → (c || are_linked a b xs) ≡ false
        → (are_linked a b xs ≡ false → All (λ (k : Link). is_between a b k ≡ false) xs)
        → All (λ (k : Link). is_between a b k ≡ false) (l ∷ xs)
    by true is never rest = absurd (false≢true (sym never))
    by false is other rest = All-cons (λ (k : Link). is_between a b k ≡ false) l xs is (rest other)

pub linked_too : (one two : Node) (links : List Link) (slow : List Slow) → one.0 ≢ two.0 → are_linked one two links ≡ false
    → AreSingle links slow → AreSingle (links ++ link one two ∷ []) slow
linked_too one two links slow apart none so = record {
  once = all_pairs_push IsOther links (link one two) so.once (unlinked one two links none);
  apart = All-append IsApart links (link one two ∷ []) so.apart (All-cons IsApart (link one two) [] apart (All-nil IsApart));
  coming = so.coming;
}

-- a node ends
pub left_so : (n : Node) (links : List Link) (slow : List Slow) → AreSingle links slow → AreSingle (without_node n links) slow
left_so n links slow so = record {
  once = AllPairs-filter IsOther (λ (l : Link). not (is_at n l)) links so.once;
  apart = All-filter (λ (l : Link). not (is_at n l)) IsApart links so.apart;
  coming = so.coming;
}

-- what global is to connect joins two nodes
joined_apart : (pair : Link) (links : List Link) (a : Node) (others : List Node) → All IsApart (joined pair links a others)
joined_apart pair links a others =
    All-map IsApart (link a) (filter test others) (λ k d within. two _ (filter_passes test others k d within))
  where
    test : Node → Bool
    test b = is_to_connect pair.0 pair.1 links a b

    two : (b : Node) → test b ≡ true → a.0 ≢ b.0
    two b passes same =
        false≢true
        (sym (ap (λ (c : Bool). not c && not (are_linked a b links) && not (is_between pair.0 pair.1 (link a b))) (eq-eqb a.0 b.0 same))
        ∙ passes)

all_apart : (pair : Link) (links : List Link) (others nodes : List Node) → All IsApart (flat_map (λ a. joined pair links a others) nodes)
all_apart pair links others [] = All-nil IsApart
all_apart pair links others (a ∷ nodes) =
    All-append IsApart (joined pair links a others) (flat_map (λ x. joined pair links x others) nodes) (joined_apart pair links a others)
    (all_apart pair links others nodes)

pub to_connect_apart : (one two : Node) (links : List Link) → All IsApart (to_connect one two links)
unfolding to_connect
to_connect_apart one two links = all_apart (link one two) links (around two links) (around one links)

pub more_slow : (links : List Link) (slow : List Slow) (what : Slow) → JoinsTwo what → AreSingle links slow
    → AreSingle links (slow ++ what ∷ [])
more_slow links slow what two so = record {
  once = so.once;
  apart = so.apart;
  coming = All-append JoinsTwo slow (what ∷ []) so.coming (All-cons JoinsTwo what [] two (All-nil JoinsTwo));
}

without_one : (xs : List Slow) (place : ℕ) → All JoinsTwo xs → All JoinsTwo (remove xs place)
without_one [] zero all = all
without_one [] (suc place) all = all
without_one (x ∷ xs) zero all = All-tail JoinsTwo x xs all
without_one (x ∷ xs) (suc place) all =
    All-cons JoinsTwo x (remove xs place) (All-head JoinsTwo x xs all) (without_one xs place (All-tail JoinsTwo x xs all))

pub less_slow : (links : List Link) (slow : List Slow) (place : ℕ) → AreSingle links slow → AreSingle links (remove slow place)
less_slow links slow place so = record { once = so.once; apart = so.apart; coming = without_one slow place so.coming }

pub at_place : (xs : List Slow) (place : ℕ) (what : Slow) → All JoinsTwo xs → slice_get xs place ≡ Some what → JoinsTwo what
at_place [] place what all is = absurd (none-some what is)
at_place (x ∷ xs) zero what all is = subst JoinsTwo (same_Some x what is) (All-head JoinsTwo x xs all)
at_place (x ∷ xs) (suc place) what all is = at_place xs place what (All-tail JoinsTwo x xs all) is
