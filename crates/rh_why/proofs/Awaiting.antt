-- A node that waits is ready exactly where it awaits nobody.
use Rattle.std.proofs.Common.{◌≡◌, ◌≢◌, ◌↔◌, ◌<◌, ◌&&◌, ℕ, nat_eq, Bool, true, false, cond, not, List, [], ◌∷◌, get_or, refl, sym, ap, ◌∙◌, arith, subst, All}
use Rattle.std.specs.List.{filter, list_all}
use Rattle.std.proofs.lemmas.Bool.{and_parts}
use Rattle.std.proofs.lemmas.List.Elements.{All-nil, All-cons, All-head, All-tail, All-append}
use Rattle.std.proofs.lemmas.List.Folds.{list_any_none}
use Rattle.rh_model.specs.declared.node.Node.{Node}
use Rattle.rh_model.specs.declared.settings.SyncWait.{SyncWait}
use Rattle.rh_model.specs.declared.settings.SyncWait.TheVariants.{Unset, After, Forever}
use Rattle.rh_model.specs.ClusterView.{ClusterView, IsWithin, node_count, numbered, is_in, mandatory_of, optional_of, sync_wait_of}
use Rattle.rh_state.specs.Numbers.{nodes_of}
use Rattle.rh_state.specs.StateView.{StateView, mode_of, is_alive, is_waiting}
use Rattle.rh_rules.specs.NodesStart.{all_alive, has_others, is_ready}
use Rattle.rh_base.proofs.Lists.{cases, none_filter}
use Rattle.rh_trace.specs.Validity.{IsValid}
use Rattle.rh_trace.proofs.Every.{filter_no, filter_yes}
use Rattle.rh_base.proofs.Truths.{same_refl, or_left, or_right, both, same_number}
use Rattle.rh_trace.proofs.Entries.{either}
use Rattle.rh_trace.proofs.Numbered.{length_nodes, node_there}
use Rattle.rh_why.specs.Reasons.{sync_nodes, is_awaited, has_sync_wait, awaited}

-- ---- members of a list
-- where all pass, each member does
member_passes : (q : Node → Bool) (xs : List Node) (n : Node) → list_all q xs ≡ true → is_in n xs ≡ true → q n ≡ true
member_passes q [] n all there = cc
member_passes q (x ∷ xs) n all there =
    let parts = and_parts (q x) (list_all q xs) all in
    either (nat_eq n.0 x.0) (is_in n xs) there
    (λ same. ap (λ (k : ℕ). q (numbered k)) (same_number n.0 x.0 same) ∙ parts.0)
    (λ later. member_passes q xs n parts.1 later)

-- where each member passes, all do
all_members : (q : Node → Bool) (count : ℕ) (xs : List Node) → All (λ (m : Node). m.0 < count) xs
    → ((m : Node) → m.0 < count → is_in m xs ≡ true → q m ≡ true) → list_all q xs ≡ true
all_members q count [] below each = refl
all_members q count (x ∷ xs) below each =
    let here = each x (All-head (λ (m : Node). m.0 < count) x xs below) (or_left (nat_eq x.0 x.0) (is_in x xs) (same_refl x.0)) in
    let rest = all_members q count xs (All-tail (λ (m : Node). m.0 < count) x xs below)
    (λ m l there. each m l (or_right (nat_eq m.0 x.0) (is_in m xs) there)) in
    λ i. here i && rest i

-- a filter that keeps nothing
none_kept : (p : Node → Bool) (ys : List Node) → filter p ys ≡ [] → All (λ (y : Node). p y ≡ false) ys
none_kept p [] e = All-nil (λ (y : Node). p y ≡ false)
none_kept p (y ∷ ys) e = cases (p y)
    (λ t. absurd (some y (filter p ys) (sym (filter_yes p y ys t) ∙ e)))
    (λ f. All-cons (λ (k : Node). p k ≡ false) y ys f (none_kept p ys (sym (filter_no p y ys f) ∙ e)))
  where
    some : (k : Node) (ks : List Node) → k ∷ ks ≡ [] → ⊥
    some k ks h = cc

kept_none : (c : ClusterView) (p : Node → Bool) (n : Node) → filter p (nodes_of c) ≡ [] → n.0 < node_count c → p n ≡ false
kept_none c p n e l =
    let long = length_nodes c in
    subst (λ (m : Node). p m ≡ false) (node_there c n.0 n l) (none_kept p (nodes_of c) e n.0 n (omega (arith, long, l)))

-- ---- nobody is awaited where all are alive
none_awaited : (s : StateView) (n : Node) → all_alive s (sync_nodes s.cluster n) ≡ true → filter (is_awaited s n) (nodes_of s.cluster) ≡ []
unfolding all_alive
none_awaited s n all = none_filter (is_awaited s n) (nodes_of s.cluster)
    (list_any_none (is_awaited s n) (nodes_of s.cluster) (λ k d l. each (get_or (nodes_of s.cluster) k d)))
  where
    each : (m : Node) → is_awaited s n m ≡ false
    each m = cases (is_in m (sync_nodes s.cluster n))
        (λ t. let alive = member_passes (λ (k : Node). is_alive (mode_of s k)) (sync_nodes s.cluster n) m all t in
        λ i. t i && not (alive i))
        (λ f. λ i. f i && not (is_alive (mode_of s m)))

all_there : (s : StateView) (n : Node) → IsWithin s.cluster → filter (is_awaited s n) (nodes_of s.cluster) ≡ [] → all_alive s (sync_nodes s.cluster n) ≡ true
unfolding all_alive
all_there s n within none = all_members (λ (m : Node). is_alive (mode_of s m)) (node_count s.cluster) (sync_nodes s.cluster n)
    (All-append (λ (m : Node). m.0 < node_count s.cluster) (mandatory_of s.cluster n) (optional_of s.cluster n) (within.mandatory n) (within.optional n))
    (λ m l there. cases (is_alive (mode_of s m))
    (λ t. t)
    (λ f. both (is_awaited s n m) (λ i. there i && not (f i)) (kept_none s.cluster (is_awaited s n) m none l)))

-- ---- ready
by_wait : (s : StateView) (n : Node) (wait : SyncWait) → IsWithin s.cluster
    → (has_others s n wait ≡ true) ↔ (cond (has_sync_wait wait) (filter (is_awaited s n) (nodes_of s.cluster)) [] ≡ [])
by_wait s n Unset within = (λ h. refl, λ h. refl)
by_wait s n (After ms) within = (none_awaited s n, all_there s n within)
by_wait s n Forever within = (none_awaited s n, all_there s n within)

ready_is : (s : StateView) (n : Node) → is_waiting (mode_of s n) ≡ true → is_ready s n ≡ has_others s n (sync_wait_of s.cluster n)
unfolding is_ready
ready_is s n w = ap (λ b. b && has_others s n (sync_wait_of s.cluster n)) w

awaited_is : (s : StateView) (n : Node) → is_waiting (mode_of s n) ≡ true
    → awaited s n ≡ cond (has_sync_wait (sync_wait_of s.cluster n)) (filter (is_awaited s n) (nodes_of s.cluster)) []
unfolding awaited
awaited_is s n w = ap (λ b. cond (b && has_sync_wait (sync_wait_of s.cluster n)) (filter (is_awaited s n) (nodes_of s.cluster)) []) w

pub ready_if_none_awaited : (s : StateView) (n : Node) → IsWithin s.cluster → is_waiting (mode_of s n) ≡ true → (is_ready s n ≡ true) ↔ (awaited s n ≡ [])
ready_if_none_awaited s n within w =
    let by = by_wait s n (sync_wait_of s.cluster n) within in
    (λ ready. awaited_is s n w ∙ by.0 (sym (ready_is s n w) ∙ ready), λ none. ready_is s n w ∙ by.1 (sym (awaited_is s n w) ∙ none))

-- ---- before and behind each event
idle_awaits_none : (s : StateView) (n : Node) → is_waiting (mode_of s n) ≡ false → awaited s n ≡ []
unfolding awaited
idle_awaits_none s n f = ap (λ b. cond (b && has_sync_wait (sync_wait_of s.cluster n)) (filter (is_awaited s n) (nodes_of s.cluster)) []) f

pub waiting_node_awaits : (s : StateView) (n : Node) → IsValid s → (is_waiting (mode_of s n) ≡ true) ↔ (awaited s n ≢ [])
waiting_node_awaits s n valid = (
  λ w none. both (is_ready s n) ((ready_if_none_awaited s n valid.sound.within w).1 none) (valid.settled n),
  λ some. cases (is_waiting (mode_of s n)) (λ t. t) (λ f. absurd (some (idle_awaits_none s n f))),
)
