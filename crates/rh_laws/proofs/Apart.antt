-- Where no group names a node twice, no move stands twice among the next ones.
use Rattle.std.proofs.Common.{◌≡◌, ◌≢◌, ◌==◌, ◌<◌, ℕ, suc, Bool, true, false, cond, List, [], ◌∷◌, map, All, AllPairs, None, Some, ◌⊎◌, inl, inr}
use Rattle.std.proofs.Common.{refl, sym, ap, ◌∙◌, subst, arith, length, get_or}
use Rattle.std.specs.List.{filter, last_or}
use Rattle.rh_model.specs.declared.node.Node.{Node}
use Rattle.rh_model.specs.declared.node.App.{App}
use Rattle.rh_state.specs.declared.status.Standing.{Standing}
use Rattle.rh_state.specs.declared.status.Standing.TheVariants.{Quiet, Wanted, Running, Lost}
use Rattle.rh_state.specs.Numbers.{nodes_of, apps_of}
use Rattle.rh_state.specs.StateView.{StateView, standing_of, waiting_at, running_count}
use Rattle.rh_base.specs.Lists.{head, least, or_else, first_given}
use Rattle.rh_rules.specs.Placing.{groups_of, best, candidates, is_operational}
use Rattle.rh_rules.specs.declared.notice.Move.{Move}
use Rattle.rh_rules.specs.declared.notice.Move.TheVariants.{Local, Placement, Takeover}
use Rattle.rh_rules.specs.declared.notice.Pair.{Pair}
use Rattle.rh_rules.specs.Moves.{can_start, local_move, local_moves, placements_from, placements, calls_away, takeovers_from, takeovers}
use Rattle.rh_rules.specs.Settling.{next_moves}
use Rattle.rh_laws.specs.Laws.{NamesNodesOnce}
use Rattle.rh_trace.proofs.Every.{Every, every_filter}
use Rattle.rh_trace.proofs.Firsts.{In, every_in}

-- no element of a list stands in it twice
abbrev pub Apart : {A : Type 0} → List A → Type 0
Apart [] = Unit {0}
Apart (x ∷ xs) = Every (λ y. x ≢ y) xs × Apart xs

filter_apart : {A : Type 0} (p : A → Bool) (xs : List A) → Apart xs → Apart (filter p xs)
filter_apart p [] h = tt
filter_apart {A} p (x ∷ xs) h =
    let rest = filter_apart p xs h.1 in
    elim (p x) as (λ b. Apart (cond b (x ∷ filter p xs) (filter p xs))) [ true ↦ (every_filter (λ (y : A). x ≢ y) p xs h.0, rest) | false ↦ rest ]

every_map : {A B : Type 0} (f : A → B) (x : A) (xs : List A) → ((y z : A) → f y ≡ f z → y ≡ z) → Every (λ (y : A). x ≢ y) xs
    → Every (λ (z : B). f x ≢ z) (map f xs)
every_map f x [] one h = tt
every_map f x (y ∷ ys) one h = ((λ e. h.0 (one x y e)), every_map f x ys one h.1)

map_apart : {A B : Type 0} (f : A → B) (xs : List A) → ((y z : A) → f y ≡ f z → y ≡ z) → Apart xs → Apart (map f xs)
map_apart f [] one h = tt
map_apart f (x ∷ xs) one h = (every_map f x xs one h.0, map_apart f xs one h.1)

-- what holds of each list that is given holds of the first that is
else_keeps : {A : Type 0} (P : List A → Type 0) (xs ys : List A) → P xs → P ys → P (or_else xs ys)
else_keeps P [] ys h k = k
else_keeps P (x ∷ xs) ys h k = h

given_keeps : {A B : Type 0} (P : List B → Type 0) (f : A → List B) (xs : List A) → P [] → Every (λ (x : A). P (f x)) xs → P (first_given f xs)
given_keeps P f [] none h = none
given_keeps P f (x ∷ xs) none h = else_keeps P (f x) (first_given f xs) h.0 (given_keeps P f xs none h.1)

every_of : {A : Type 0} (P : A → Type 0) (xs : List A) → ((x : A) → P x) → Every P xs
every_of P [] h = tt
every_of P (x ∷ xs) h = (h x, every_of P xs h)

-- ---- the best nodes
later_apart : (n : Node) (xs : List Node) → ((k : ℕ) (d : Node) → k < length xs → n.0 ≢ (get_or xs k d).0) → Every (λ (m : Node). n ≢ m) xs
later_apart n [] h = tt
later_apart n (m ∷ xs) h = ((λ e. h 0 m (omega arith) (ap (λ (k : Node). k.0) e)), later_apart n xs (λ k d l. h (suc k) d (omega arith)))

group_apart : (xs : List Node) → AllPairs (λ (n later : Node). n.0 ≢ later.0) xs → Apart xs
group_apart [] h = tt
group_apart (n ∷ xs) h = (
  later_apart n xs (λ k d l. h 0 (suc k) d (omega arith) (omega arith)),
  group_apart xs (λ i j d l k. h (suc i) (suc j) d (omega arith) (omega arith)),
)

groups_apart : (p : Node → Bool) (groups : List (List Node)) → All (λ (g : List Node). AllPairs (λ (n later : Node). n.0 ≢ later.0) g) groups
    → Every (λ (g : List Node). Apart (filter p g)) groups
groups_apart p [] h = tt
groups_apart p (g ∷ groups) h = (filter_apart p g (group_apart g (h 0 g (omega arith))), groups_apart p groups (λ k d l. h (suc k) d (omega arith)))

best_apart : (s : StateView) (a : App) (test : Node → Bool) → NamesNodesOnce s.cluster → Apart (best s a test)
unfolding best
best_apart s a test names =
    let among : List Node = first_given (filter test) (groups_of s.cluster a) in
    filter_apart (λ (n : Node). running_count s n == least (map (running_count s) among)) among
    (given_keeps (λ (ns : List Node). Apart ns) (filter test) (groups_of s.cluster a) tt (groups_apart test (groups_of s.cluster a) (names a)))

-- ---- the next moves
module _ (s : StateView) (fresh : List Pair) (names : NamesNodesOnce s.cluster) where
  local_apart : (n : Node) → Apart (local_moves s n)
  unfolding local_moves
  local_apart n = given_keeps (λ (ms : List Move). Apart ms) (local_move s n) (waiting_at s n) tt
      (every_of (λ (a : App). Apart (local_move s n a)) (waiting_at s n) (λ a. by a (can_start s n a)))
    where
      by : (a : App) (b : Bool) → Apart (cond b (Local n a ∷ []) [])
      by a true = (tt, tt)
      by a false = tt

  placements_apart : (a : App) → Apart (placements s a)
  unfolding placements candidates
  placements_apart a = by (standing_of s a)
    where
      by : (st : Standing) → Apart (placements_from s a st)
      by (Wanted from) = map_apart (Placement a from) (best s a (is_operational s a)) (λ y z e. cc e) (best_apart s a (is_operational s a) names)
      by Quiet = tt
      by (Running m) = tt
      by (Lost m) = tt

  takeovers_apart : (a : App) → Apart (takeovers s fresh a)
  unfolding takeovers
  takeovers_apart a = by (standing_of s a)
    where
      by : (st : Standing) → Apart (takeovers_from s fresh a st)
      by (Running m) = map_apart (Takeover a m) (best s a (calls_away s fresh a m)) (λ y z e. cc e) (best_apart s a (calls_away s fresh a m) names)
      by Quiet = tt
      by (Wanted from) = tt
      by (Lost m) = tt

  pub next_apart : Apart (next_moves s fresh)
  unfolding next_moves
  next_apart = else_keeps (λ (ms : List Move). Apart ms) (first_given (local_moves s) (nodes_of s.cluster))
      (or_else (first_given (placements s) (apps_of s.cluster)) (first_given (takeovers s fresh) (apps_of s.cluster)))
      (given_keeps (λ (ms : List Move). Apart ms) (local_moves s) (nodes_of s.cluster) tt
      (every_of (λ (n : Node). Apart (local_moves s n)) (nodes_of s.cluster) local_apart))
      (else_keeps (λ (ms : List Move). Apart ms) (first_given (placements s) (apps_of s.cluster)) (first_given (takeovers s fresh) (apps_of s.cluster))
      (given_keeps (λ (ms : List Move). Apart ms) (placements s) (apps_of s.cluster) tt
      (every_of (λ (a : App). Apart (placements s a)) (apps_of s.cluster) placements_apart))
      (given_keeps (λ (ms : List Move). Apart ms) (takeovers s fresh) (apps_of s.cluster) tt
      (every_of (λ (a : App). Apart (takeovers s fresh a)) (apps_of s.cluster) takeovers_apart)))

-- ---- a list that begins and ends with one element has no other
last_is : {A : Type 0} (y : A) (ys : List A) (x : A) → last_or (Some y) ys ≡ Some x → ((y ≡ x) × (ys ≡ [])) ⊎ In x ys
last_is y [] x e = inl (cc e, refl)
last_is y (z ∷ zs) x e = inr (elim (last_is z zs x e) [ inl a ↦ inl a.0 | inr i ↦ inr i ])

pub lone : {A : Type 0} (xs : List A) (x m : A) → Apart xs → head xs ≡ Some x → last_or None xs ≡ Some x → In m xs → m ≡ x
lone [] x m apart first last i = absurd i
lone {A} (z ∷ zs) x m apart first last i =
    let here : z ≡ x = cc first in
    elim (last_is z zs x last) [
      | inl a ↦ elim i [ inl e ↦ sym e ∙ here | inr j ↦ absurd (subst (λ (ys : List A). In m ys) a.1 j) ]
      | inr j ↦ absurd (every_in (λ (y : A). z ≢ y) zs x apart.0 j here)
    ]
