-- The first group that has a node that passes a test: what stands in groups before it, and in it.
use Rattle.std.proofs.Common.{◌≡◌, ◌+◌, ◌||◌, ℕ, suc, Bool, true, false, cond, not, nat_eq, nat_lt, List, [], ◌∷◌, length, Option, Some, None, IsSome, is_some}
use Rattle.std.proofs.Common.{refl, sym, ap, ◌∙◌, arith, subst}
use Rattle.std.specs.List.{filter, list_any, position, position_or_len}
use Rattle.std.specs.Option.{option_map}
use Rattle.std.proofs.lemmas.Bool.Decides.{nat_tests}
use Rattle.rh_model.specs.declared.node.Node.{Node}
use Rattle.rh_model.specs.ClusterView.{is_in, numbered}
use Rattle.rh_base.specs.Lists.{or_else, first_given}
use Rattle.rh_base.proofs.Lists.{cases, any_filter, none_filter}
use Rattle.rh_rules.specs.Moves.{comes_before}
use Rattle.rh_base.proofs.Truths.{same_refl, or_left, or_right, both, same_number}
use Rattle.rh_trace.proofs.Every.{Every, every_filter, every_passes, filter_no, filter_yes}

-- ---- places of groups
pub position_cons : {A : Type 0} (p : A → Bool) (x : A) (xs : List A) → position p (x ∷ xs) ≡ cond (p x) (Some 0) (option_map suc (position p xs))
position_cons p x xs = by (p x)
  where
    first : (n : ℕ) → nat_lt 0 (suc n) ≡ true
    first n = grind (arith, nat_tests)

    later : (n m : ℕ) → nat_lt (1 + n) (suc m) ≡ nat_lt n m
    later n m = grind (arith, nat_tests)

    one_more : (n : ℕ) → 1 + n ≡ suc n
    one_more n = omega arith

    under : (b : Bool) (n : ℕ) → cond b (Some (1 + n)) None ≡ option_map suc (cond b (Some n) None)
    under true n = ap Some (one_more n)
    under false n = refl

    by : (b : Bool) → cond (nat_lt (cond (not b) (1 + position_or_len p xs) 0) (suc (length xs))) (Some (cond (not b) (1 + position_or_len p xs) 0)) None
        ≡ cond b (Some 0) (option_map suc (position p xs))
    by true = ap (λ c. cond c (Some 0) None) (first (length xs))
    by false = ap (λ c. cond c (Some (1 + position_or_len p xs)) None) (later (position_or_len p xs) (length xs))
        ∙ under (nat_lt (position_or_len p xs) (length xs)) (position_or_len p xs)

abbrev pub place : List (List Node) → Node → Option ℕ
place groups n = position (is_in n) groups

in_here : (g : List Node) (groups : List (List Node)) (n : Node) → is_in n g ≡ true → place (g ∷ groups) n ≡ Some 0
in_here g groups n h = position_cons (is_in n) g groups ∙ ap (λ b. cond b (Some 0) (option_map suc (place groups n))) h

not_here : (g : List Node) (groups : List (List Node)) (n : Node) → is_in n g ≡ false → place (g ∷ groups) n ≡ option_map suc (place groups n)
not_here g groups n h = position_cons (is_in n) g groups ∙ ap (λ b. cond b (Some 0) (option_map suc (place groups n))) h

-- nothing comes before the first group
pub none_before : (q : Option ℕ) → comes_before q (Some 0) ≡ false
none_before None = refl
none_before (Some i) = not_less i
  where
    not_less : (i : ℕ) → nat_lt i 0 ≡ false
    not_less i = grind (arith, nat_tests)

pub before_suc : (q r : Option ℕ) → comes_before (option_map suc q) (option_map suc r) ≡ comes_before q r
before_suc None r = refl
before_suc (Some i) None = refl
before_suc (Some i) (Some j) = less i j
  where
    less : (i j : ℕ) → nat_lt (suc i) (suc j) ≡ nat_lt i j
    less i j = grind (arith, nat_tests)

not_first : {P : Type 0} (q : Option ℕ) → option_map suc q ≡ Some 0 → P
not_first None e = cc
not_first (Some i) e = cc

same_before : (q r : Option ℕ) → option_map suc q ≡ option_map suc r → q ≡ r
same_before None None e = refl
same_before None (Some j) e = cc
same_before (Some i) None e = cc
same_before (Some i) (Some j) e = ap Some (down i j e)
  where
    down : (i j : ℕ) → Some (suc i) ≡ Some (suc j) → i ≡ j
    down i j e = cc

suc_some : (q : Option ℕ) → is_some (option_map suc q) ≡ is_some q
suc_some None = refl
suc_some (Some i) = refl

-- the first group comes before all others
pub first_before : (q : Option ℕ) → comes_before (Some 0) (option_map suc q) ≡ true
first_before None = refl
first_before (Some i) = less i
  where
    less : (i : ℕ) → nat_lt 0 (suc i) ≡ true
    less i = grind (arith, nat_tests)

-- ---- nodes of a list
in_itself : (all xs : List Node) → ((n : Node) → is_in n xs ≡ true → is_in n all ≡ true) → Every (λ n. is_in n all ≡ true) xs
in_itself all [] within = tt
in_itself all (x ∷ xs) within =
    (within x (or_left (nat_eq x.0 x.0) (is_in x xs) (same_refl x.0)), in_itself all xs (λ n h. within n (or_right (nat_eq n.0 x.0) (is_in n xs) h)))

pub kept_in : (p : Node → Bool) (g : List Node) (k : Node) → p k ≡ true → is_in k g ≡ true → is_in k (filter p g) ≡ true
kept_in p [] k t h = h
kept_in p (x ∷ xs) k t h = cases (nat_eq k.0 x.0)
    (λ e. let is : p x ≡ true = ap (λ i. p (numbered i)) (sym (same_number k.0 x.0 e)) ∙ t in
    ap (is_in k) (filter_yes p x xs is) ∙ or_left (nat_eq k.0 x.0) (is_in k (filter p xs)) e)
    (λ f. let rest = kept_in p xs k t (sym (ap (λ b. b || is_in k xs) f) ∙ h) in
    cases (p x)
    (λ is. ap (is_in k) (filter_yes p x xs is) ∙ or_right (nat_eq k.0 x.0) (is_in k (filter p xs)) rest)
    (λ no. ap (is_in k) (filter_no p x xs no) ∙ rest))

none_in : (p : Node → Bool) (g : List Node) (k : Node) → list_any p g ≡ false → p k ≡ true → is_in k g ≡ false
none_in p g k f t = cases (is_in k g)
    (λ h. both (is_in k (filter p g)) (kept_in p g k t h) (ap (is_in k) (none_filter p g f)))
    (λ h. h)

pub every_both : {A : Type 0} (P Q R : A → Type 0) (xs : List A) → ((x : A) → P x → Q x → R x) → Every P xs → Every Q xs → Every R xs
every_both P Q R [] each h k = tt
every_both P Q R (x ∷ xs) each h k = (each x h.0 k.0, every_both P Q R xs each h.1 k.1)

pub every_weaker : {A : Type 0} (P Q : A → Type 0) (xs : List A) → ((x : A) → P x → Q x) → Every P xs → Every Q xs
every_weaker P Q [] each h = tt
every_weaker P Q (x ∷ xs) each h = (each x h.0, every_weaker P Q xs each h.1)

-- ---- the first group that has a node that passes
abbrev pub among : (Node → Bool) → List (List Node) → List Node
among p groups = first_given (filter p) groups

abbrev pub Chosen : (Node → Bool) → List (List Node) → Node → Type 0
Chosen p groups n =
    (p n ≡ true)
    × ((k : Node) → comes_before (place groups k) (place groups n) ≡ true → p k ≡ false)
    × ((k : Node) → place groups k ≡ place groups n → p k ≡ true → is_in k (among p groups) ≡ true)
    × IsSome (place groups n)

here : (p : Node → Bool) (g : List Node) (groups : List (List Node)) → list_any p g ≡ true → (n : Node) → is_in n g ≡ true → p n ≡ true
    → Chosen p (g ∷ groups) n
here p g groups any n at t = (
  t,
  (λ k h. both (comes_before (place (g ∷ groups) k) (Some 0)) (ap (comes_before (place (g ∷ groups) k)) (sym (in_here g groups n at)) ∙ h)
      (none_before (place (g ∷ groups) k))),
  (λ k e tk. cases (is_in k g)
      (λ h. ap (is_in k) (any_filter p g (among p groups) any) ∙ kept_in p g k tk h)
      (λ f. not_first (place groups k) (sym (not_here g groups k f) ∙ e ∙ in_here g groups n at))),
  ap is_some (in_here g groups n at),
)

later : (p : Node → Bool) (g : List Node) (groups : List (List Node)) → list_any p g ≡ false → (n : Node) → Chosen p groups n → Chosen p (g ∷ groups) n
later p g groups none n c =
    let out : place (g ∷ groups) n ≡ option_map suc (place groups n) = not_here g groups n (none_in p g n none c.0) in (
      c.0,
      (λ k h. cases (p k)
          (λ t. c.1 k (sym (before_suc (place groups k) (place groups n))
          ∙ ap (λ q. comes_before q (option_map suc (place groups n))) (sym (not_here g groups k (none_in p g k none t)))
          ∙ ap (comes_before (place (g ∷ groups) k)) (sym out) ∙ h))
          (λ f. f)),
      (λ k e t. ap (λ xs. is_in k (or_else xs (among p groups))) (none_filter p g none)
          ∙ c.2 k (same_before (place groups k) (place groups n) (sym (not_here g groups k (none_in p g k none t)) ∙ e ∙ out)) t),
      ap is_some out ∙ suc_some (place groups n) ∙ c.3,
    )

pub each_chosen : (p : Node → Bool) (groups : List (List Node)) → Every (Chosen p groups) (among p groups)
each_chosen p [] = tt
each_chosen p (g ∷ groups) =
    let rest = each_chosen p groups in
    cases (list_any p g)
    (λ t. subst (Every (Chosen p (g ∷ groups))) (sym (any_filter p g (among p groups) t))
    (every_both (λ n. is_in n g ≡ true) (λ n. p n ≡ true) (Chosen p (g ∷ groups)) (filter p g) (here p g groups t)
    (every_filter (λ n. is_in n g ≡ true) p g (in_itself g g (λ n h. h))) (every_passes p g)))
    (λ f. subst (Every (Chosen p (g ∷ groups))) (sym (ap (λ xs. or_else xs (among p groups)) (none_filter p g f)))
    (every_weaker (Chosen p groups) (Chosen p (g ∷ groups)) (among p groups) (later p g groups f) rest))

-- ---- the other way round: a node that passes is in the first group that has one that does
of_filter : (p : Node → Bool) (xs : List Node) (k : Node) → is_in k (filter p xs) ≡ true → (is_in k xs ≡ true) × (p k ≡ true)
of_filter p [] k h = cc
of_filter p (x ∷ xs) k h = cases (p x)
    (λ t. let i = sym (ap (is_in k) (filter_yes p x xs t)) ∙ h in
    cases (nat_eq k.0 x.0)
    (λ e. (or_left (nat_eq k.0 x.0) (is_in k xs) e, ap (λ i. p (numbered i)) (same_number k.0 x.0 e) ∙ t))
    (λ f. let r = of_filter p xs k (sym (ap (λ b. b || is_in k (filter p xs)) f) ∙ i) in (or_right (nat_eq k.0 x.0) (is_in k xs) r.0, r.1)))
    (λ f. let r = of_filter p xs k (sym (ap (is_in k) (filter_no p x xs f)) ∙ h) in (or_right (nat_eq k.0 x.0) (is_in k xs) r.0, r.1))

passing : {P : Type 0} (p : Node → Bool) (g : List Node) → list_any p g ≡ true → ((k : Node) → is_in k g ≡ true → p k ≡ true → P) → P
passing p [] h found = cc
passing p (x ∷ xs) h found = cases (p x)
    (λ t. found x (or_left (nat_eq x.0 x.0) (is_in x xs) (same_refl x.0)) t)
    (λ f. passing p xs (sym (ap (λ b. b || list_any p xs) f) ∙ h) (λ k i t. found k (or_right (nat_eq k.0 x.0) (is_in k xs) i) t))

-- a node that is first among those that pass is chosen, and what is chosen beside it stands in the same place
abbrev pub IsAmong : (Node → Bool) → List (List Node) → Node → Type 0
IsAmong p groups n =
    (is_in n (among p groups) ≡ true)
    × ((k : Node) → is_in k (among p groups) ≡ true → (place groups k ≡ place groups n) × (p k ≡ true))

abbrev pub NoneBefore : (Node → Bool) → List (List Node) → Node → Type 0
NoneBefore p groups n = (k : Node) → p k ≡ true → comes_before (place groups k) (place groups n) ≡ false

among_here : (p : Node → Bool) (g : List Node) (groups : List (List Node)) (n : Node) → list_any p g ≡ true → p n ≡ true → NoneBefore p (g ∷ groups) n
    → IsAmong p (g ∷ groups) n
among_here p g groups n any t first =
    let e = any_filter p g (among p groups) any in
    let at : is_in n g ≡ true = cases (is_in n g) (λ h. h)
    (λ f. passing p g any (λ k i u. both (comes_before (place (g ∷ groups) k) (place (g ∷ groups) n))
    (ap (λ q. comes_before q (place (g ∷ groups) n)) (in_here g groups k i) ∙ ap (comes_before (Some 0)) (not_here g groups n f)
    ∙ first_before (place groups n))
    (first k u))) in (
      ap (is_in n) e ∙ kept_in p g n t at,
      (λ k i. let r = of_filter p g k (sym (ap (is_in k) e) ∙ i) in (in_here g groups k r.0 ∙ sym (in_here g groups n at), r.1)),
    )

pub among_first : (p : Node → Bool) (groups : List (List Node)) (n : Node) → IsSome (place groups n) → p n ≡ true → NoneBefore p groups n → IsAmong p groups n
among_first p [] n listed t first = cc
among_first p (g ∷ groups) n listed t first = cases (list_any p g)
    (λ any. among_here p g groups n any t first)
    (λ none. let out : (k : Node) → p k ≡ true → place (g ∷ groups) k ≡ option_map suc (place groups k) = λ k u. not_here g groups k (none_in p g k none u) in
    let e : or_else (filter p g) (among p groups) ≡ among p groups = ap (λ xs. or_else xs (among p groups)) (none_filter p g none) in
    let r = among_first p groups n (sym (suc_some (place groups n)) ∙ sym (ap is_some (out n t)) ∙ listed) t
    (λ k u. sym (before_suc (place groups k) (place groups n)) ∙ ap (λ q. comes_before q (option_map suc (place groups n))) (sym (out k u))
    ∙ ap (comes_before (place (g ∷ groups) k)) (sym (out n t)) ∙ first k u) in (
      ap (is_in n) e ∙ r.0,
      (λ k i. let q = r.1 k (sym (ap (is_in k) e) ∙ i) in (out k q.1 ∙ ap (option_map suc) q.0 ∙ sym (out n t), q.1)),
    ))
