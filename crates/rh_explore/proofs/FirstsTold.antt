-- Of which asks the first state is known in which they fail, with one state more.
use Rattle.std.proofs.Common.{◌≡◌, ◌≢◌, ◌⊎◌, ◌<◌, ℕ, zero, suc, true, false, List, [], ◌∷◌, ◌++◌, length, get_or, set, replicate, slice_get, is_some, Option, Some, None, All, inl, inr, refl, sym, ap, ◌∙◌, subst, arith}
use Rattle.std.specs.Prelude.{Contains}
use Rattle.std.proofs.lemmas.List.{length-set, length-replicate}
use Rattle.std.proofs.lemmas.List.Elements.{All-push}
use Rattle.std.proofs.lemmas.Bool.Decides.{eqb_tells}
use Rattle.std.proofs.lemmas.Option.{slice_get_within, slice_get-get_or, none-some, same_Some}
use Rattle.rh_base.proofs.Lists.{cases}
use Rattle.rh_base.proofs.Truths.{both}
use Rattle.rh_state.specs.StateView.{StateView}
use Rattle.rh_rules.specs.declared.pick.Pick.{Pick}
use Rattle.rh_explore.specs.declared.asking.Ask.{Ask}
use Rattle.rh_explore.specs.Asking.{holds_in}
use Rattle.rh_explore.specs.Failures.{FailsAt, AreFirsts, FailThere, told_where, told_at, all_told}
use Rattle.rh_keys.proofs.Places.{at_front, at_of}

-- ---- what is told of one ask
at_set : {A : Type 0} (xs : List A) (k : ℕ) (x y : A) → slice_get (set xs k x) k ≡ Some y → x ≡ y
at_set [] k x y at = absurd (none-some y at)
at_set (z ∷ zs) zero x y at = same_Some x y at
at_set (z ∷ zs) (suc k) x y at = at_set zs k x y at

off_set : {A : Type 0} (xs : List A) (k j : ℕ) (x : A) → j ≢ k → slice_get (set xs k x) j ≡ slice_get xs j
off_set [] k j x off = refl
off_set (z ∷ zs) zero zero x off = absurd (off refl)
off_set (z ∷ zs) zero (suc j) x off = refl
off_set (z ∷ zs) (suc k) zero x off = refl
off_set (z ∷ zs) (suc k) (suc j) x off = off_set zs k j x (λ e. off (ap suc e))

none_is_some : {A : Type 0} (x : A) → Some x ≡ None → ⊥
none_is_some x e = none-some x (sym e)

-- what is told of an ask behind these: what was told, or the number, if none was
record IsToldSo (number : ℕ) (old new : List (Option ℕ)) (fails : List ℕ) : Type 0 where
  pub count : length new ≡ length old
  pub known : (j i : ℕ) → slice_get new j ≡ Some (Some i) → (slice_get old j ≡ Some (Some i)) ⊎ ((slice_get old j ≡ Some None) × (number ≡ i) × Contains fails j)
  pub unknown : (j : ℕ) → slice_get new j ≡ Some None → (slice_get old j ≡ Some None) × (Contains fails j → ⊥)

in_rest : (x : ℕ) (xs : List ℕ) (j : ℕ) → Contains xs j → Contains (x ∷ xs) j
in_rest x xs j has = let l = has.1 in (suc has.0, omega (arith, l), has.2)

module _ (number : ℕ) (old : List (Option ℕ)) (x : ℕ) where
  one_count : (o : Option (Option ℕ)) → length (told_where number old x o) ≡ length old
  one_count (Some None) = length-set old x (Some number)
  one_count (Some (Some i)) = refl
  one_count None = refl

  one_known : (o : Option (Option ℕ)) → slice_get old x ≡ o → (j i : ℕ) → slice_get (told_where number old x o) j ≡ Some (Some i)
      → (slice_get old j ≡ Some (Some i)) ⊎ ((slice_get old j ≡ Some None) × (number ≡ i) × (x ≡ j))
  one_known (Some None) is j i at = elim (eqb_tells j x) [
    | inl e ↦
        let same = same_Some number i (at_set old x (Some number) (Some i) (ap (slice_get (set old x (Some number))) (sym e.1) ∙ at)) in
        inr (ap (slice_get old) e.1 ∙ is, same, sym e.1)
    | inr e ↦ inl (sym (off_set old x j (Some number) e.1) ∙ at)
  ]
  one_known (Some (Some n)) is j i at = inl at
  one_known None is j i at = inl at

  one_unknown : (o : Option (Option ℕ)) → slice_get old x ≡ o → (j : ℕ) → slice_get (told_where number old x o) j ≡ Some None
      → (slice_get old j ≡ Some None) × (x ≡ j → ⊥)
  one_unknown (Some None) is j at = elim (eqb_tells j x) [
    | inl e ↦ absurd (none_is_some number (at_set old x (Some number) None (ap (slice_get (set old x (Some number))) (sym e.1) ∙ at)))
    | inr e ↦ (sym (off_set old x j (Some number) e.1) ∙ at, λ same. e.1 (sym same))
  ]
  one_unknown (Some (Some n)) is j at = (at, λ same. none_is_some n (same_Some (Some n) None (sym is ∙ ap (slice_get old) same ∙ at)))
  one_unknown None is j at = (at, λ same. none-some None (sym is ∙ ap (slice_get old) same ∙ at))

told_so : (number : ℕ) (old : List (Option ℕ)) (fails : List ℕ) → IsToldSo number old (all_told number old fails) fails
told_so number old [] = record {
  count = refl;
  known = λ j i at. inl at;
  unknown = λ j at. (at, λ has. let l = has.1 in omega (arith, l));
}
told_so number old (x ∷ xs) =
    let mid = told_at number old x in
    let rest = told_so number mid xs in
    let o = slice_get old x in record {
      count = rest.count ∙ one_count number old x o;
      known = λ j i at. elim (rest.known j i at) [
        | inl was ↦ elim (one_known number old x o refl j i was) [
          | inl before ↦ inl before
          | inr here ↦ inr (here.0, here.1, (0, omega arith, here.2))
        ]
        | inr was ↦ inr ((one_unknown number old x o refl j was.0).0, was.1, in_rest x xs j was.2)
      ];
      unknown = λ j at.
          let was = rest.unknown j at in
          let one = one_unknown number old x o refl j was.0 in
          (one.0, λ has. not_in x xs j one.1 was.1 has);
    }
  where
    not_in : (x : ℕ) (xs : List ℕ) (j : ℕ) → (x ≡ j → ⊥) → (Contains xs j → ⊥) → Contains (x ∷ xs) j → ⊥
    not_in x xs j off none (zero, l, at) = off at
    not_in x xs j off none (suc k, l, at) = none (k, omega (arith, l), at)

-- no more are unknown than before
pub still_unknown : (number : ℕ) (old : List (Option ℕ)) (fails : List ℕ) (j : ℕ) → slice_get (all_told number old fails) j ≡ Some None → slice_get old j ≡ Some None
still_unknown number old fails j at = ((told_so number old fails).unknown j at).0

pub as_many_told : (number : ℕ) (old : List (Option ℕ)) (fails : List ℕ) → length (all_told number old fails) ≡ length old
as_many_told number old fails = (told_so number old fails).count

-- where it was told before, nothing changes
pub told_before : (number : ℕ) (old : List (Option ℕ)) (j : ℕ) (o : Option ℕ) → slice_get old j ≡ Some o → is_some o ≡ true → old ≡ told_at number old j
told_before number old j None at some = absurd (both false some refl)
told_before number old j (Some i) at some = ap (told_where number old j) (sym at)

pub told_here : (number : ℕ) (old : List (Option ℕ)) (j : ℕ) (o : Option ℕ) → slice_get old j ≡ Some o → is_some o ≡ false
    → set old j (Some number) ≡ told_at number old j
told_here number old j None at none = ap (told_where number old j) (sym at)
told_here number old j (Some i) at none = absurd (both true refl none)

-- ---- what fails in a state
-- no ask has a number that is too great
pub fails_within : (pick : Pick) (firsts told : List (Option ℕ)) (asks : List Ask) (s : StateView) (fails : List ℕ) → FailThere pick firsts asks s fails
    → length told ≡ length asks → All (λ j. j < length told) fails
fails_within pick firsts told asks s fails there count = λ k d l.
    let one = there.each k d l in omega (arith, slice_get_within asks (get_or fails k d) one.0 one.1, count)

-- by what was known earlier no fewer are told
pub fails_known : (pick : Pick) (firsts later : List (Option ℕ)) (asks : List Ask) (s : StateView) (fails : List ℕ)
    → ((j : ℕ) → slice_get later j ≡ Some None → slice_get firsts j ≡ Some None) → FailThere pick firsts asks s fails → FailThere pick later asks s fails
fails_known pick firsts later asks s fails known there = record {
  told = λ j ask at is fails. there.told j ask (known j at) is fails;
  each = there.each;
}

-- ---- one state more
fails_more : (pick : Pick) (states : List StateView) (s : StateView) (ask : Ask) (i : ℕ) → FailsAt pick states ask i → FailsAt pick (states ++ s ∷ []) ask i
fails_more pick states s ask i f =
    let inside = slice_get_within states i f.fails.0 f.fails.1 in record {
      fails = (f.fails.0, at_front states (s ∷ []) i inside ∙ f.fails.1, f.fails.2);
      earlier = λ k t l there. f.earlier k t l (sym (at_front states (s ∷ []) k (omega (arith, l, inside))) ∙ there);
    }

last_is : {A : Type 0} (xs : List A) (x : A) → slice_get (xs ++ x ∷ []) (length xs) ≡ Some x
last_is [] x = refl
last_is (y ∷ ys) x = last_is ys x

pub firsts_more : (pick : Pick) (old : List (Option ℕ)) (asks : List Ask) (states : List StateView) (s : StateView) (fails : List ℕ) → AreFirsts pick old asks states
    → FailThere pick old asks s fails → AreFirsts pick (all_told (length states) old fails) asks (states ++ s ∷ [])
firsts_more pick old asks states s fails so there =
    let number = length states in
    let told = told_so number old fails in record {
      count = told.count ∙ so.count;
      known = λ j i ask at is. elim (told.known j i at) [
        | inl was ↦ fails_more pick states s ask i (so.known j i ask was is)
        | inr was ↦
            let has = was.2 in
            let one = at_of (λ k. (a : Ask) × (slice_get asks k ≡ Some a) × (holds_in pick a s ≡ false)) fails has.0 j there.each
            (slice_get-get_or fails has.0 j has.1 ∙ ap Some has.2) in
            let a_is : one.0 ≡ ask = same_Some one.0 ask (sym one.1 ∙ is) in
            subst (FailsAt pick (states ++ s ∷ []) ask) was.1
            (record {
              fails = (s, last_is states s, subst (λ a. holds_in pick a s ≡ false) a_is one.2);
              earlier = λ k t l here.
                  at_of (λ u. holds_in pick ask u ≡ true) states k t (so.unknown j ask was.0 is) (sym (at_front states (s ∷ []) k l) ∙ here);
            })
      ];
      unknown = λ j ask at is.
          let was = told.unknown j at in
          All-push (λ t. holds_in pick ask t ≡ true) states s (so.unknown j ask was.0 is)
          (cases (holds_in pick ask s) (λ t. t) (λ f. absurd (was.1 (there.told j ask was.0 is f))));
    }

-- no state was asked about
abbrev untold : Option ℕ
untold = None

unwritten : (n j : ℕ) (o : Option ℕ) → slice_get (replicate n untold) j ≡ Some o → untold ≡ o
unwritten zero j o at = absurd (none-some o at)
unwritten (suc n) zero o at = same_Some untold o at
unwritten (suc n) (suc j) o at = unwritten n j o at

pub none_asked : (pick : Pick) (asks : List Ask) → AreFirsts pick (replicate (length asks) None) asks []
none_asked pick asks = record {
  count = length-replicate (length asks) untold;
  known = λ j i ask at is. absurd (none-some i (unwritten (length asks) j (Some i) at));
  unknown = λ j ask at is k d l. absurd (omega (arith, l));
}
