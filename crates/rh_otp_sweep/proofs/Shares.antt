-- The outcomes of workers, each of which was given plans that stand behind one another.
use Rattle.std.proofs.Common.{◌≡◌, ℕ, suc, zero, ◌+◌, ◌*◌, ◌/◌, ◌%◌, ◌<◌, ◌≤◌, min, List, [], ◌∷◌, ◌++◌, length, take, drop, map, get_or, All, Result, Ok, Err, IsOk, IfOk, OnOk, Option, Some, None, refl, sym, ap, subst, ◌∙◌, inl, inr, arith}
use Rattle.std.specs.Global.{Vec}
use Rattle.std.specs.List.{flat_map}
use Rattle.std.specs.Fork.{slice_chunk}
use Rattle.std.specs.Option.{option_to_list}
use Rattle.std.proofs.lemmas.Bool.{cases_lt}
use Rattle.std.proofs.lemmas.List.{append-nil, drop-drop, map-append, length-drop, nil_from_length, take-append-drop}
use Rattle.std.proofs.lemmas.List.Concat.{flat_map-append}
use Rattle.std.proofs.lemmas.List.Elements.{All-head, All-tail}
use Rattle.rh_base.specs.declared.memory.OutOfMemory.{OutOfMemory}
use Rattle.rh_plans.specs.declared.plan.Plan.{Plan}
use Rattle.rh_otp_sim.specs.Sim.{LiveSimView}
use Rattle.rh_otp_sweep.specs.Outcomes.{LiveOutcomeView, outcome_of}
use Rattle.rh_otp_sweep.specs.Working.{part_items}

abbrev pub Part : Type 0
Part = Result (Vec LiveOutcomeView) OutOfMemory

-- ---- a queue of parts

-- the first is taken from it
pub first_is : {A : Type 0} (old new : List A) (r : Option A) (x : A) → old ≡ option_to_list r ++ new → r ≡ Some x → old ≡ x ∷ new
first_is {A} old new r x items is = items ∙ ap (λ (o : Option A). option_to_list o ++ new) is

-- there was none
pub none_left : {A : Type 0} (old new : List A) (r : Option A) → old ≡ option_to_list r ++ new → new ≡ drop 1 old → r ≡ None → old ≡ []
none_left {A} old new r items rest none =
    let same : old ≡ new = items ∙ ap (λ (o : Option A). option_to_list o ++ new) none in
    let few = ap (λ (xs : List A). length xs) (same ∙ rest) in
    nil_from_length old (omega (arith, few, length-drop 1 old))

-- one more at the end
pub flat_push : {A B : Type 0} (f : A → List B) (xs : List A) (x : A) → flat_map f (xs ++ x ∷ []) ≡ flat_map f xs ++ f x
flat_push f xs x = flat_map-append f xs (x ∷ []) ∙ ap (λ l. flat_map f xs ++ l) (append-nil (f x))

-- ---- plans that stand behind one another

-- so many shares of this size are enough for all plans
pub all_are_shared : (plans shares size : ℕ) → 0 < size → shares ≡ plans / size + min 1 (plans % size) → plans ≤ shares * size
all_are_shared plans shares size some is = elim (cases_lt 0 (plans % size)) [
  | inl left ↦
      let one : shares ≡ plans / size + 1 = omega (arith, is, left) in
      rw one (omega (arith, some))
  | inr none ↦
      let one : shares ≡ plans / size = omega (arith, is, none) in
      rw one (omega (arith, some, none))
]

module _ (f : Plan → LiveOutcomeView) (size : ℕ) where
  -- what a worker made of the plans of this share
  abbrev pub IsShare : List Plan → ℕ → Part → Type 0
  IsShare plans n r = IfOk r (λ v. v.items ≡ map f (slice_chunk plans size n))

  items_of : (r : Part) (outcomes : List LiveOutcomeView) → IsOk r → IfOk r (λ v. v.items ≡ outcomes) → part_items r ≡ outcomes
  items_of (Ok v) outcomes ok is = is
  items_of (Err e) outcomes ok is = absurd (cc ok)

  -- they are those of all plans, one after the other
  pub shares_join : (plans : List Plan) (rs : List Part) → length plans ≤ length rs * size → All IsOk rs
      → ((n : ℕ) (d : Part) → n < length rs → IsShare plans n (get_or rs n d)) → flat_map part_items rs ≡ map f plans
  shares_join plans [] few ok each = ap (map f) (sym (nil_from_length plans (omega (arith, few))))
  shares_join plans (r ∷ rs) few ok each =
      let zeroth : 0 * size ≡ 0 = omega arith in
      let first : part_items r ≡ map f (take size plans) =
      items_of r (map f (take size plans)) (All-head IsOk r rs ok)
      (subst (λ (k : ℕ). IfOk r (λ v. v.items ≡ map f (take size (drop k plans)))) zeroth (each 0 r (omega arith))) in
      let fewer : length (drop size plans) ≤ length rs * size = omega (arith, few, length-drop size plans) in
      let others : flat_map part_items rs ≡ map f (drop size plans) =
      shares_join (drop size plans) rs fewer (All-tail IsOk r rs ok)
      (λ n d inside.
      let behind : suc n * size ≡ size + n * size = omega arith in
      subst (λ (ps : List Plan). IfOk (get_or rs n d) (λ v. v.items ≡ map f (take size ps)))
      (ap (λ (k : ℕ). drop k plans) behind ∙ sym (drop-drop (n * size) size plans))
      (each (suc n) d (omega (arith, inside)))) in
      (λ i. first i ++ others i)
      ∙ sym (map-append f (take size plans) (drop size plans))
      ∙ ap (map f) (take-append-drop size plans)

-- so where they were put together
pub joined_is : (outcomes : List LiveOutcomeView) (parts : List Part) (all : Part) → OnOk all (All IsOk parts)
    → IfOk all (λ v. v.items ≡ flat_map part_items parts) → (All IsOk parts → flat_map part_items parts ≡ outcomes)
    → IfOk all (λ v. v.items ≡ outcomes)
joined_is outcomes parts (Ok v) whole is same = is ∙ same whole
joined_is outcomes parts (Err e) whole is same = tt
