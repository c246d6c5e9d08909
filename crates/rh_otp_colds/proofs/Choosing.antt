-- By what a dist_ac has learnt that nodes may run, it leaves each application to the first node that may run it.
use Rattle.std.proofs.Common.{◌≡◌, ◌≢◌, ◌≤◌, ◌<◌, ◌⊎◌, ◌+◌, ◌==◌, ◌&&◌, ◌||◌, nat_lt, ℕ, zero, suc, Bool, true, false, cond, List, [], ◌∷◌, map, filter, length, replicate, slice_get, unwrap_or, Option, Some, None, refl, sym, ap, ◌∙◌, inl, inr, arith}
use Rattle.std.specs.List.{range_with_len}
use Rattle.std.specs.Prelude.{if◌then◌else◌}
use Rattle.std.proofs.Math.Bool.{and-false}
use Rattle.std.proofs.lemmas.Bool.{cases_Bool, cases_eq, eq-eqb, ne_eqb, lt-ltb, ltb-true, false≢true}
use Rattle.std.proofs.lemmas.Option.{none-some, same_Some}
use Rattle.rh_model.specs.ClusterView.{is_in, numbered, node_count, app_count}
use Rattle.rh_model.specs.declared.node.App.{App}
use Rattle.rh_model.specs.declared.node.Node.{Node}
use Rattle.rh_otp_model.specs.Flags.{flag}
use Rattle.rh_otp_model.specs.Own.{WrittenView}
use Rattle.rh_otp_dist.specs.declared.state.Standing.TheVariants as standing
use Rattle.rh_otp_dist.specs.State.{DistView, unknown_appl, may_run, permitted, is_among}
use Rattle.rh_otp_node.specs.Live.{own_flags}
use Rattle.rh_otp_system.specs.State.{SystemView, own_at, has_dist_at}
use Rattle.rh_otp_crashes.proofs.Crossing.{same_node}
use Rattle.rh_otp_crashes.specs.Failovers.{first_alone, first_of}
use Rattle.rh_otp_gathers.specs.Gathers.{KnowsAll}
use Rattle.rh_otp_colds.specs.Wholes.{may_start}

-- ---- lists

pub same_filter : {A : Type 0} (p q : A → Bool) → ((x : A) → p x ≡ q x) → (xs : List A) → filter p xs ≡ filter q xs
same_filter p q same [] = refl
same_filter p q same (x ∷ xs) = λ i. cond (same x i) (x ∷ same_filter p q same xs i) (same_filter p q same xs i)

-- whoever passes, and is one of them, is one of those that pass
pub in_filtered : (p : Node → Bool) (x : Node) (xs : List Node) → is_in x (filter p xs) ≡ (is_in x xs && p x)
in_filtered p x [] = refl
in_filtered p x (y ∷ xs) = by (cases_eq x.0 y.0) (in_filtered p x xs)
  where
    here : (c : Bool) → p x ≡ c → is_in x (filter p xs) ≡ (is_in x xs && p x) → is_in x (cond c (x ∷ filter p xs) (filter p xs)) ≡ c
    here true is rest = ap (λ (d : Bool). d || is_in x (filter p xs)) (eq-eqb x.0 x.0 refl)
    here false is rest = rest ∙ ap (λ (d : Bool). is_in x xs && d) is ∙ and-false (is_in x xs)

    by : (x.0 ≡ y.0) ⊎ (x.0 ≢ y.0) → is_in x (filter p xs) ≡ (is_in x xs && p x)
        → is_in x (cond (p y) (y ∷ filter p xs) (filter p xs)) ≡ ((x.0 == y.0 || is_in x xs) && p x)
    by (inl is) rest =
        (λ i. is_in x (cond (p (same_node y x (sym is) i)) (same_node y x (sym is) i ∷ filter p xs) (filter p xs)))
        ∙ here (p x) refl rest
        ∙ sym (ap (λ (d : Bool). (d || is_in x xs) && p x) (eq-eqb x.0 y.0 is))
    by (inr apart) rest =
        either (p y) ∙ rest ∙ sym (ap (λ (d : Bool). (d || is_in x xs) && p x) (ne_eqb x.0 y.0 apart))
      where
        either : (c : Bool) → is_in x (cond c (y ∷ filter p xs) (filter p xs)) ≡ is_in x (filter p xs)
        either true = ap (λ (d : Bool). d || is_in x (filter p xs)) (ne_eqb x.0 y.0 apart)
        either false = refl

-- the nodes of so many numbers
in_numbers : (x : Node) (k n : ℕ) → k ≤ x.0 → x.0 < k + n → is_in x (map numbered (range_with_len k n)) ≡ true
in_numbers x k zero low high = absurd (omega (arith, low, high))
in_numbers x k (suc n) low high = by (cases_eq x.0 k) (λ more. in_numbers x (k + 1) n more (omega (arith, high)))
  where
    by : (x.0 ≡ k) ⊎ (x.0 ≢ k) → (k + 1 ≤ x.0 → is_in x (map numbered (range_with_len (k + 1) n)) ≡ true)
        → (x.0 == k || is_in x (map numbered (range_with_len (k + 1) n))) ≡ true
    by (inl is) rest = ap (λ (c : Bool). c || is_in x (map numbered (range_with_len (k + 1) n))) (eq-eqb x.0 k is)
    by (inr apart) rest =
        ap (λ (c : Bool). c || is_in x (map numbered (range_with_len (k + 1) n))) (ne_eqb x.0 k apart) ∙ rest (omega (arith, low, apart))

out_of_numbers : (x : Node) (k n : ℕ) → k + n ≤ x.0 → is_in x (map numbered (range_with_len k n)) ≡ false
out_of_numbers x k zero high = refl
out_of_numbers x k (suc n) high =
    ap (λ (c : Bool). c || is_in x (map numbered (range_with_len (k + 1) n))) (ne_eqb x.0 k (λ is. omega (arith, high, is)))
    ∙ out_of_numbers x (k + 1) n (omega (arith, high))

in_numbers_so : (x : Node) (n : ℕ) → is_in x (map numbered (range_with_len 0 n)) ≡ nat_lt x.0 n
in_numbers_so x n = by (cases_Bool (nat_lt x.0 n))
  where
    by : (nat_lt x.0 n ≡ true) ⊎ (nat_lt x.0 n ≡ false) → is_in x (map numbered (range_with_len 0 n)) ≡ nat_lt x.0 n
    by (inl less) = in_numbers x 0 n (omega arith) (let so : x.0 < n = ltb-true x.0 n less in omega (arith, so)) ∙ sym less
    by (inr more) = out_of_numbers x 0 n (omega (arith, not_less)) ∙ sym more
      where
        not_less : x.0 < n → ⊥
        not_less less = false≢true (sym more ∙ lt-ltb x.0 n less)

-- ---- who may run it

-- as a dist_ac has learnt it, where all nodes are alive
pub may_so : (s : SystemView) (m : Node) (d : DistView) → KnowsAll m s d
    → ((x : Node) → nat_lt x.0 (node_count s.cluster) ≡ true → (is_in x s.alive && has_dist_at s x) ≡ true)
    → (a : App) (x : Node) → is_among x (permitted d a) ≡ may_start s x a
may_so s m d knows all a x =
    in_filtered (λ (n : Node). may_run d n a) x (map numbered (range_with_len 0 (length d.may)))
    ∙ (λ i. in_numbers_so x (length d.may) i && may_run d x a)
    ∙ ap (λ (k : ℕ). nat_lt x.0 k && may_run d x a) knows.rows
    ∙ by (nat_lt x.0 (node_count s.cluster)) refl
  where
    by : (c : Bool) → nat_lt x.0 (node_count s.cluster) ≡ c → (c && may_run d x a) ≡ (c && flag (own_flags s.cluster (own_at s x) x) a)
    by true less =
        ap (λ (row : Option (List Bool)). flag (unwrap_or row []) a) (knows.may x (ltb-true x.0 (node_count s.cluster) less))
        ∙ ap (λ (c : Bool). flag (if c then own_flags s.cluster (own_at s x) x else replicate (app_count s.cluster) false) a) (all x less)
    by false more = refl

-- whoever is the first one is one of those that may
pub first_among : (candidates : List Node) (y : Node) (places : List WrittenView) → first_of candidates places ≡ Some y
    → is_among y candidates ≡ true
first_among candidates y [] is = absurd (none-some y is)
first_among candidates y (w ∷ places) is = by w.is_tuple w.nodes (first_among candidates y places) is
  where
    alone : (n : Node) (c : Bool) → is_among n candidates ≡ c → (first_of candidates places ≡ Some y → is_among y candidates ≡ true)
        → (if c then Some n else first_of candidates places) ≡ Some y → is_among y candidates ≡ true
    alone n true among rest is = ap (λ (x : Node). is_among x candidates) (sym (same_Some n y is)) ∙ among
    alone n false out rest is = rest is

    by : (c : Bool) (nodes : List Node) → (first_of candidates places ≡ Some y → is_among y candidates ≡ true)
        → (if c then None else first_alone candidates nodes (first_of candidates places)) ≡ Some y → is_among y candidates ≡ true
    by true nodes rest is = absurd (none-some y is)
    by false [] rest is = rest is
    by false (n ∷ nodes) rest is = alone n (is_among n candidates) refl rest is

-- ---- of an application nothing is known

pub unknown_first : (apps k : ℕ) → (unwrap_or (slice_get (replicate apps unknown_appl) k) unknown_appl).standing ≡ standing.Undefined
unknown_first zero k = refl
unknown_first (suc apps) zero = refl
unknown_first (suc apps) (suc k) = unknown_first apps k
