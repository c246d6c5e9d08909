-- Who has a share of the lock of all that synchronise.
use Rattle.std.proofs.Common.{◌≡◌, ◌≢◌, ◌≤◌, ◌⊎◌, ◌==◌, ◌&&◌, ℕ, suc, Bool, true, false, not, cond, List, [], ◌∷◌, refl, sym, ap, subst, ◌∙◌, inl, inr, arith}
use Rattle.std.specs.Prelude.{All}
use Rattle.std.proofs.lemmas.Bool.{cases_Bool, cases_eq, eq-eqb, ne_eqb, eqb-true, false≢true}
use Rattle.std.proofs.lemmas.List.Elements.{All-nil, All-cons, All-head, All-tail}
use Rattle.rh_model.specs.declared.node.Node.{Node}
use Rattle.rh_otp_model.specs.declared.output.Requester.{Requester}
use Rattle.rh_otp_model.specs.declared.output.Requester.TheVariants.{Sync}
use Rattle.rh_otp_model.specs.declared.process.Process.{Process}
use Rattle.rh_otp_model.specs.declared.process.Role.TheVariants as role
use Rattle.rh_otp_net.specs.declared.locks.Held.{Held}
use Rattle.rh_otp_net.specs.Alike.{is_process, is_requester}
use Rattle.rh_otp_net.specs.Locks.{freed, held_at}
use Rattle.rh_otp_node.specs.Kernel.{without_node}
use Rattle.rh_otp_system.specs.State.{SystemView, process_in}
use Rattle.rh_otp_laws.proofs.Alike.{process_itself}
use Rattle.rh_otp_crashes.proofs.Crossing.{same_node}
use Rattle.rh_otp_joins.proofs.Lists.{more_if, count_of}
use Rattle.rh_otp_gathers.proofs.Going.{IsShared}
use Rattle.rh_otp_gathers.proofs.Learning.{locks_then}
use Rattle.rh_otp_gathers.proofs.Stages.{IsOwned}

pub count_without : (m : Node) (nodes : List Node) → count_of m (without_node m nodes) ≡ 0
count_without m [] = refl
count_without m (x ∷ nodes) = by (cases_Bool (x.0 == m.0)) (count_without m nodes)
  where
    by : ((x.0 == m.0) ≡ true) ⊎ ((x.0 == m.0) ≡ false) → count_of m (without_node m nodes) ≡ 0
        → count_of m (cond (not (x.0 == m.0)) (x ∷ without_node m nodes) (without_node m nodes)) ≡ 0
    by (inl is) none = ap (λ (c : Bool). count_of m (cond (not c) (x ∷ without_node m nodes) (without_node m nodes))) is ∙ none
    by (inr other) none =
        ap (λ (c : Bool). count_of m (cond (not c) (x ∷ without_node m nodes) (without_node m nodes))) other
        ∙ ap (λ (c : Bool). more_if c (count_of m (without_node m nodes))) other
        ∙ none

pub count_without_other : (k m : Node) (nodes : List Node) → k.0 ≢ m.0 → count_of k (without_node m nodes) ≡ count_of k nodes
count_without_other k m [] other = refl
count_without_other k m (x ∷ nodes) other = by (cases_Bool (x.0 == m.0)) (count_without_other k m nodes other)
  where
    by : ((x.0 == m.0) ≡ true) ⊎ ((x.0 == m.0) ≡ false) → count_of k (without_node m nodes) ≡ count_of k nodes
        → count_of k (cond (not (x.0 == m.0)) (x ∷ without_node m nodes) (without_node m nodes)) ≡ more_if (x.0 == k.0) (count_of k nodes)
    by (inl is) same =
        ap (λ (c : Bool). count_of k (cond (not c) (x ∷ without_node m nodes) (without_node m nodes))) is
        ∙ same
        ∙ sym (ap (λ (c : Bool). more_if c (count_of k nodes)) (ne_eqb x.0 k.0 (λ same_too. other (sym same_too ∙ eqb-true x.0 m.0 is))))
    by (inr apart) same =
        ap (λ (c : Bool). count_of k (cond (not c) (x ∷ without_node m nodes) (without_node m nodes))) apart
        ∙ ap (more_if (x.0 == k.0)) same

-- those that have a share when it waits for these
abbrev pub holders_then : Node → List Node → List Node → List Node
holders_then m holders [] = without_node m holders
holders_then m holders (x ∷ xs) = holders

pub holders_other : (k m : Node) (holders later : List Node) → k.0 ≢ m.0 → count_of k (holders_then m holders later) ≡ count_of k holders
holders_other k m holders [] other = count_without_other k m holders other
holders_other k m holders (x ∷ xs) other = refl

pub holders_none : (m : Node) (holders later : List Node) → later ≡ [] → count_of m (holders_then m holders later) ≡ 0
holders_none m holders later none = ap (λ (l : List Node). count_of m (holders_then m holders l)) none ∙ count_without m holders

holds_by : (m k : Node) (b : SystemView) (h : Held) → h.requester ≡ Sync → h.owner ≡ process_in b k role.DistAc → k.0 ≡ m.0
    → (is_requester h.requester Sync && is_process h.owner (process_in b m role.DistAc)) ≡ true
holds_by m k b h shared own is =
    ap (λ (r : Requester). is_requester r Sync && is_process h.owner (process_in b m role.DistAc)) shared
    ∙ ap (λ (p : Process). is_process p (process_in b m role.DistAc)) (own ∙ ap (λ (x : Node). process_in b x role.DistAc) (same_node k m is))
    ∙ process_itself (process_in b m role.DistAc)

freed_owned : (b : SystemView) (m : Node) (holders : List Node) (rows : List Held) → All (IsOwned b holders) rows
    → All (IsOwned b (without_node m holders)) (freed Sync (process_in b m role.DistAc) rows)
freed_owned b m holders [] owned = All-nil (IsOwned b (without_node m holders))
freed_owned b m holders (h ∷ rows) owned =
    by (cases_Bool test) (cases_eq k.0 m.0) (freed_owned b m holders rows (All-tail (IsOwned b holders) h rows owned))
  where
    first : IsOwned b holders h
    first = All-head (IsOwned b holders) h rows owned

    k : Node
    k = first.1

    test : Bool
    test = is_requester h.requester Sync && is_process h.owner (process_in b m role.DistAc)

    by : (test ≡ true) ⊎ (test ≡ false) → (k.0 ≡ m.0) ⊎ (k.0 ≢ m.0)
        → All (IsOwned b (without_node m holders)) (freed Sync (process_in b m role.DistAc) rows)
        → All (IsOwned b (without_node m holders))
        (cond (not test) (h ∷ freed Sync (process_in b m role.DistAc) rows) (freed Sync (process_in b m role.DistAc) rows))
    by (inl is) at rest =
        subst (λ (c : Bool). All (IsOwned b (without_node m holders))
        (cond (not c) (h ∷ freed Sync (process_in b m role.DistAc) rows) (freed Sync (process_in b m role.DistAc) rows))) (sym is) rest
    by (inr isnt) (inl is) rest = absurd (false≢true (sym isnt ∙ holds_by m k b h first.0 first.2 is))
    by (inr isnt) (inr other) rest =
        subst (λ (c : Bool). All (IsOwned b (without_node m holders))
        (cond (not c) (h ∷ freed Sync (process_in b m role.DistAc) rows) (freed Sync (process_in b m role.DistAc) rows))) (sym isnt)
        (All-cons (IsOwned b (without_node m holders)) h (freed Sync (process_in b m role.DistAc) rows)
        (first.0, k, first.2, subst (λ (j : ℕ). 1 ≤ j) (sym (count_without_other k m holders other)) first.3) rest)

pub still_owned : (b : SystemView) (m : Node) (holders : List Node) (rows : List Held) (later : List Node) → All (IsOwned b holders) rows
    → All (IsOwned b (holders_then m holders later)) (locks_then (process_in b m role.DistAc) rows later)
still_owned b m holders rows [] owned = freed_owned b m holders rows owned
still_owned b m holders rows (x ∷ xs) owned = owned

-- one more has a share
pub more_owned : (b : SystemView) (m : Node) (holders : List Node) (rows : List Held) → All (IsOwned b holders) rows
    → All (IsOwned b (m ∷ holders)) rows
more_owned b m holders [] owned = All-nil (IsOwned b (m ∷ holders))
more_owned b m holders (h ∷ rows) owned =
    let first : IsOwned b holders h = All-head (IsOwned b holders) h rows owned in
    All-cons (IsOwned b (m ∷ holders)) h rows (first.0, first.1, first.2, more (m.0 == first.1.0) (count_of first.1 holders) first.3)
    (more_owned b m holders rows (All-tail (IsOwned b holders) h rows owned))
  where
    more : (c : Bool) (k : ℕ) → 1 ≤ k → 1 ≤ more_if c k
    more true k some = omega (arith, some)
    more false k some = some

pub own_owned : (b : SystemView) (m : Node) (holders nodes : List Node)
    → All (IsOwned b (m ∷ holders)) (held_at Sync (process_in b m role.DistAc) nodes)
own_owned b m holders [] = All-nil (IsOwned b (m ∷ holders))
own_owned b m holders (x ∷ nodes) =
    All-cons (IsOwned b (m ∷ holders)) (record { node = x; requester = Sync; owner = process_in b m role.DistAc })
    (held_at Sync (process_in b m role.DistAc) nodes) (
      refl,
      m,
      refl,
      (let one : count_of m (m ∷ holders) ≡ suc (count_of m holders) = ap (λ (c : Bool). more_if c (count_of m holders)) (eq-eqb m.0 m.0 refl) in
          omega (arith, one)),
    )
    (own_owned b m holders nodes)

pub owned_shared : (b : SystemView) (holders : List Node) (rows : List Held) → All (IsOwned b holders) rows → All IsShared rows
owned_shared b holders [] owned = All-nil IsShared
owned_shared b holders (h ∷ rows) owned =
    All-cons IsShared h rows (All-head (IsOwned b holders) h rows owned).0
    (owned_shared b holders rows (All-tail (IsOwned b holders) h rows owned))
