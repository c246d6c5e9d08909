-- What two turns of different nodes have added is of neither's both.
use Rattle.std.proofs.Common.{◌≡◌, ◌≢◌, ◌⊎◌, ◌&&◌, ◌++◌, Bool, true, false, List, [], ◌∷◌, filter, All, Option, Some, None, refl, sym, ap, ◌∙◌, inl, inr}
use Rattle.std.proofs.lemmas.Bool.{false≢true, eqb-true, and_parts}
use Rattle.std.proofs.lemmas.List.{append-nil}
use Rattle.std.proofs.lemmas.List.Elements.{All-head, All-filter, filter-append, filter_passes}
use Rattle.std.proofs.lemmas.Option.{same_Some}
use Rattle.rh_model.specs.declared.node.Node.{Node}
use Rattle.rh_otp_model.specs.declared.output.Envelope.{Envelope}
use Rattle.rh_otp_model.specs.declared.output.Event.{Event}
use Rattle.rh_otp_model.specs.declared.process.Process.{Process}
use Rattle.rh_otp_net.specs.Alike.{is_process}
use Rattle.rh_otp_net.specs.Queue.{is_of_pair}
use Rattle.rh_otp_node.specs.Live.{is_alive}
use Rattle.rh_otp_system.specs.State.{SystemView, is_alive_at}
use Rattle.rh_otp_laws.proofs.Alike.{same_process}
use Rattle.rh_otp_laws.proofs.Nodes.{same_number}
use Rattle.rh_otp_orders.specs.Orders.{is_owner, node_told, SameOfEach}
use Rattle.rh_otp_orders.proofs.Same.{IsOf, IsToldBy, Owns}

-- no two of these pass the same test
abbrev pub Clash : {A : Type 0} → (A → Bool) → (A → Type 0) → (A → Type 0) → Type 0
Clash {A} q P Q = (c d : A) → q c ≡ true → q d ≡ true → P c → Q d → ⊥

one_is_empty : {A : Type 0} (q : A → Bool) (P Q : A → Type 0) (xs ys : List A) → Clash q P Q → All P xs → All Q ys
    → (filter q xs ≡ []) ⊎ (filter q ys ≡ [])
one_is_empty {A} q P Q xs ys clash each_x each_y =
    by (filter q xs) (filter q ys) (filter_passes q xs) (filter_passes q ys) (All-filter q P xs each_x) (All-filter q Q ys each_y)
  where
    by : (xs ys : List A) → All (λ x. q x ≡ true) xs → All (λ x. q x ≡ true) ys → All P xs → All Q ys → (xs ≡ []) ⊎ (ys ≡ [])
    by [] ys pass_x pass_y each_x each_y = inl refl
    by (c ∷ xs) [] pass_x pass_y each_x each_y = inr refl
    by (c ∷ xs) (d ∷ ys) pass_x pass_y each_x each_y =
        absurd (clash c d (All-head (λ x. q x ≡ true) c xs pass_x) (All-head (λ x. q x ≡ true) d ys pass_y) (All-head P c xs each_x)
        (All-head Q d ys each_y))

swapped : {A : Type 0} (base xs ys : List A) → (xs ≡ []) ⊎ (ys ≡ []) → (base ++ xs) ++ ys ≡ (base ++ ys) ++ xs
swapped base xs ys (inl none) =
    ap (λ l. (base ++ l) ++ ys) none ∙ ap (λ l. l ++ ys) (append-nil base) ∙ sym (append-nil (base ++ ys)) ∙ ap (λ l. (base ++ ys) ++ l)
    (sym none)
swapped base xs ys (inr none) =
    ap (λ l. (base ++ xs) ++ l) none ∙ append-nil (base ++ xs) ∙ ap (λ l. l ++ xs) (sym (append-nil base)) ∙ ap (λ l. (base ++ l) ++ xs)
    (sym none)

-- what stands behind in either order is the same for each test
pub in_either_order : {A : Type 0} (q : A → Bool) (P Q : A → Type 0) (base xs ys vs ws : List A) → Clash q P Q → All P xs → All Q ys
    → vs ≡ (base ++ xs) ++ ys → ws ≡ (base ++ ys) ++ xs → filter q vs ≡ filter q ws
in_either_order {A} q P Q base xs ys vs ws clash each_x each_y is_v is_w =
    ap (filter q) is_v ∙ parts xs ys ∙ swapped (filter q base) (filter q xs) (filter q ys) (one_is_empty q P Q xs ys clash each_x each_y)
    ∙ sym (parts ys xs) ∙ sym (ap (filter q) is_w)
  where
    parts : (xs ys : List A) → filter q ((base ++ xs) ++ ys) ≡ (filter q base ++ filter q xs) ++ filter q ys
    parts xs ys = filter-append q (base ++ xs) ys ∙ ap (λ l. l ++ filter q ys) (filter-append q base xs)

-- ---- of two nodes

owned_by : (o p : Option Node) (a : Node) → is_owner o p ≡ true → is_owner (Some a) p ≡ true → (n : Node) × (o ≡ Some n) × (n.0 ≡ a.0)
owned_by None None a is own = absurd (false≢true own)
owned_by None (Some m) a is own = absurd (false≢true is)
owned_by (Some n) None a is own = absurd (false≢true is)
owned_by (Some n) (Some m) a is own = (n, refl, eqb-true n.0 m.0 is ∙ sym (eqb-true a.0 m.0 own))

owners_clash : {A : Type 0} (owner : A → Option Node) (a b : Node) (o : Option Node) → a.0 ≢ b.0
    → Clash (λ (x : A). is_owner o (owner x)) (Owns owner a) (Owns owner b)
owners_clash owner a b o apart c d is_c is_d own_c own_d =
    let of_c : (n : Node) × (o ≡ Some n) × (n.0 ≡ a.0) = owned_by o (owner c) a is_c own_c in
    let of_d : (n : Node) × (o ≡ Some n) × (n.0 ≡ b.0) = owned_by o (owner d) b is_d own_d in
    apart (sym of_c.2 ∙ number (sym of_c.1 ∙ of_d.1) ∙ of_d.2)
  where
    number : {m n : Node} → Some m ≡ Some n → m.0 ≡ n.0
    number {m} {n} is = ap (λ (k : Node). k.0) (same_Some m n is)

pub same_of_each : {A : Type 0} (owner : A → Option Node) (a b : Node) (base xs ys vs ws : List A) → a.0 ≢ b.0 → All (Owns owner a) xs
    → All (Owns owner b) ys → vs ≡ (base ++ xs) ++ ys → ws ≡ (base ++ ys) ++ xs → SameOfEach owner vs ws
same_of_each {A} owner a b base xs ys vs ws apart each_x each_y is_v is_w o =
    in_either_order (λ (x : A). is_owner o (owner x)) (Owns owner a) (Owns owner b) base xs ys vs ws (owners_clash owner a b o apart) each_x
    each_y is_v is_w

-- ---- events

-- what is of a node, and what is of none
no_owner : (o p q : Option Node) (a : Node) → is_owner o p ≡ true → is_owner (Some a) p ≡ true → is_owner o q ≡ true → q ≡ None → ⊥
no_owner o p q a is_p own is_q none =
    let of_p : (n : Node) × (o ≡ Some n) × (n.0 ≡ a.0) = owned_by o p a is_p own in
    false≢true (sym (λ i. is_owner (of_p.1 i) (none i)) ∙ is_q)

told_clash : (called called' : Bool) (a b : Node) (o : Option Node) → a.0 ≢ b.0 → (called && called') ≡ false
    → Clash (λ (e : Event). is_owner o (node_told e)) (IsToldBy called a) (IsToldBy called' b)
told_clash called called' a b o apart one c d is_c is_d (inl own_c) (inl own_d) =
    owners_clash node_told a b o apart c d is_c is_d own_c own_d
told_clash called called' a b o apart one c d is_c is_d (inl own_c) (inr of_d) = no_owner o (node_told c)
    (node_told d) a is_c own_c is_d of_d.1
told_clash called called' a b o apart one c d is_c is_d (inr of_c) (inl own_d) = no_owner o (node_told d)
    (node_told c) b is_d own_d is_c of_c.1
told_clash called called' a b o apart one c d is_c is_d (inr of_c) (inr of_d) =
    false≢true (sym one ∙ (λ i. of_c.0 i && of_d.0 i))

pub same_events : (called called' : Bool) (a b : Node) (base xs ys vs ws : List Event) → a.0 ≢ b.0 → (called && called') ≡ false
    → All (IsToldBy called a) xs → All (IsToldBy called' b) ys → vs ≡ (base ++ xs) ++ ys → ws ≡ (base ++ ys) ++ xs
    → SameOfEach node_told vs ws
same_events called called' a b base xs ys vs ws apart one each_x each_y is_v is_w o =
    in_either_order (λ (e : Event). is_owner o (node_told e)) (IsToldBy called a) (IsToldBy called' b) base xs ys vs ws
    (told_clash called called' a b o apart one) each_x each_y is_v is_w

-- ---- messages

-- what two nodes send is of different pairs of processes
pub senders_clash : (s : SystemView) (a b : Node) (p : Envelope) → a.0 ≢ b.0 → Clash (is_of_pair p) (IsOf a s) (IsOf b s)
senders_clash s a b p apart c d is_c is_d of_c of_d = by of_c.1 of_d.1
  where
    pair_c : (is_process p.from c.from ≡ true) × (is_process p.to c.to ≡ true)
    pair_c = and_parts (is_process p.from c.from) (is_process p.to c.to) is_c

    pair_d : (is_process p.from d.from ≡ true) × (is_process p.to d.to ≡ true)
    pair_d = and_parts (is_process p.from d.from) (is_process p.to d.to) is_d

    from : c.from.node.0 ≡ d.from.node.0
    from = ap (λ (q : Process). q.node.0) (sym (same_process p.from c.from pair_c.0) ∙ same_process p.from d.from pair_d.0)

    to : c.to.node.0 ≡ d.to.node.0
    to = ap (λ (q : Process). q.node.0) (sym (same_process p.to c.to pair_c.1) ∙ same_process p.to d.to pair_d.1)

    alive_too : (m n : Node) → m.0 ≡ n.0 → is_alive_at s m ≡ false → is_alive_at s n ≡ true → ⊥
    alive_too m n is dead alive = false≢true (sym dead ∙ ap is_alive (same_number s m n is) ∙ alive)

    by : (c.from.node.0 ≡ a.0) ⊎ ((c.to.node.0 ≡ a.0) × (is_alive_at s c.from.node ≡ false))
        → (d.from.node.0 ≡ b.0) ⊎ ((d.to.node.0 ≡ b.0) × (is_alive_at s d.from.node ≡ false)) → ⊥
    by (inl from_a) (inl from_b) = apart (sym from_a ∙ from ∙ from_b)
    by (inl from_a) (inr to_b) = alive_too d.from.node a (sym from ∙ from_a) to_b.1 of_c.0
    by (inr to_a) (inl from_b) = alive_too c.from.node b (from ∙ from_b) to_a.1 of_d.0
    by (inr to_a) (inr to_b) = apart (sym to_a.0 ∙ to ∙ to_b.0)
