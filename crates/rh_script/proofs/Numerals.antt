-- A word that is parsed as a number, and the number that it is in a script.
use Rattle.std.proofs.Common.{◌≡◌, ℕ, ◌^◌, ◌<◌, ◌&&◌, ◌==◌, Bool, true, false, not, cond, List, [], ◌∷◌, length, drop, Some, None, Result, Ok, Err, nat_lt}
use Rattle.std.proofs.Common.{refl, sym, ap, subst, ◌∙◌, arith}
use Rattle.std.specs.List.{list_all}
use Rattle.std.specs.Char.{digit_value}
use Rattle.std.specs.Result.{result_ok}
use Rattle.std.specs.Str.Parse.{AllDigits, IsNumeral, ParsesUnsigned, digits_value, without_leading_plus}
use Rattle.std.proofs.lemmas.Bool.Decides.{nat_tests}
use Rattle.rh_script.specs.Commands.{begins_with, is_numeral, milliseconds}

digits_from : (word : List ℕ) → list_all (λ b. nat_lt (digit_value b) 10) word ≡ true → AllDigits 10 word
digits_from [] h = tt
digits_from (b ∷ word) h = by (nat_lt (digit_value b) 10) refl h (digits_from word)
  where
    by : (t : Bool) → nat_lt (digit_value b) 10 ≡ t → (t && list_all (λ b. nat_lt (digit_value b) 10) word) ≡ true
        → (list_all (λ b. nat_lt (digit_value b) 10) word ≡ true → AllDigits 10 word) → AllDigits 10 (b ∷ word)
    by true is rest later = (grind (arith, nat_tests, is), later rest)
    by false is rest later = absurd (cc rest)

digits_to : (word : List ℕ) → AllDigits 10 word → list_all (λ b. nat_lt (digit_value b) 10) word ≡ true
digits_to [] h = refl
digits_to (b ∷ word) h =
    let first : nat_lt (digit_value b) 10 ≡ true = grind (arith, nat_tests, h.0) in
    ap (λ t. t && list_all (λ b. nat_lt (digit_value b) 10) word) first ∙ digits_to word h.1

no_plus : (word : List ℕ) → begins_with 43 word ≡ false → without_leading_plus word ≡ word
no_plus [] h = refl
no_plus (b ∷ word) h = ap (λ t. drop (cond t 1 0) (b ∷ word)) h

pub numeral_to : (word : List ℕ) → IsNumeral 10 word → is_numeral word ≡ true
numeral_to word h =
    let some : (length word == 0) ≡ false = grind (arith, nat_tests, h.0) in
    ap (λ t. not t && list_all (λ b. nat_lt (digit_value b) 10) word) some ∙ digits_to word h.1

numeral_from : (word : List ℕ) → is_numeral word ≡ true → IsNumeral 10 word
numeral_from word h = by (length word == 0) refl h
  where
    by : (t : Bool) → (length word == 0) ≡ t → (not t && list_all (λ b. nat_lt (digit_value b) 10) word) ≡ true → IsNumeral 10 word
    by true is rest = absurd (cc rest)
    by false is rest = (grind (arith, nat_tests, is), digits_from word rest)

read_number : (word : List ℕ) (n : ℕ) → begins_with 43 word ≡ false → IsNumeral 10 (without_leading_plus word)
    → digits_value 10 (without_leading_plus word) < 2 ^ 64
    → n ≡ digits_value 10 (without_leading_plus word) → Some n ≡ milliseconds word
unfolding milliseconds
read_number word n plain numeral small is =
    let e = no_plus word plain in
    let numeral_here : is_numeral word ≡ true = numeral_to word (subst (IsNumeral 10) e numeral) in
    let small_here : digits_value 10 word < 2 ^ 64 = subst (λ w. digits_value 10 w < 2 ^ 64) e small in
    let fits : nat_lt (digits_value 10 word) (2 ^ 64) ≡ true = grind (arith, nat_tests, small_here) in
    ap (λ (m : ℕ). Some m) (is ∙ ap (digits_value 10) e)
    ∙ sym (ap (λ t. cond (t && nat_lt (digits_value 10 word) (2 ^ 64)) (Some (digits_value 10 word)) None) numeral_here
    ∙ ap (λ t. cond t (Some (digits_value 10 word)) None) fits)

read_nothing : (word : List ℕ) → begins_with 43 word ≡ false →
    (IsNumeral 10 (without_leading_plus word) × (digits_value 10 (without_leading_plus word) < 2 ^ 64) → ⊥) → None ≡ milliseconds word
unfolding milliseconds
read_nothing word plain not_so = by (is_numeral word) refl (nat_lt (digits_value 10 word) (2 ^ 64)) refl
  where
    by : (t : Bool) → is_numeral word ≡ t → (u : Bool) → nat_lt (digits_value 10 word) (2 ^ 64) ≡ u → None ≡ cond (t && u) (Some (digits_value 10 word)) None
    by false is u fits = refl
    by true is false fits = refl
    by true is true fits =
        let e = sym (no_plus word plain) in
        let small : digits_value 10 word < 2 ^ 64 = grind (arith, nat_tests, fits) in
        absurd (not_so (subst (IsNumeral 10) e (numeral_from word is), subst (λ w. digits_value 10 w < 2 ^ 64) e small))

-- what is parsed of a word without a plus
pub read_word : {E : Type 0} (word : List ℕ) (r : Result ℕ E) → begins_with 43 word ≡ false → ParsesUnsigned 64 10 word r → result_ok r ≡ milliseconds word
read_word word (Ok n) plain h = read_number word n plain h.0.0 h.0.1 h.1
read_word word (Err e) plain h = read_nothing word plain h

pub read_plus : (word : List ℕ) → begins_with 43 word ≡ true → None ≡ milliseconds word
unfolding milliseconds
read_plus [] h = absurd (cc h)
read_plus (b ∷ word) h = by (is_numeral (b ∷ word)) refl
  where
    by : (t : Bool) → is_numeral (b ∷ word) ≡ t → None ≡ cond (t && nat_lt (digits_value 10 (b ∷ word)) (2 ^ 64)) (Some (digits_value 10 (b ∷ word))) None
    by false is = refl
    by true is =
        let plus : b ≡ 43 = grind (arith, nat_tests, h) in
        let digit : digit_value 43 < 10 = subst (λ c. digit_value c < 10) plus (numeral_from (b ∷ word) is).1.0 in
        absurd (omega (arith, digit))
