-- Words in a line: where they end, that they are text, and the numbers among them.
use Rattle.std.proofs.Common.{◌≡◌, ◌≢◌, ◌<◌, ◌^◌, ◌==◌, ◌&&◌, ℕ, zero, suc, Bool, true, false, not, cond, List, [], ◌∷◌, ◌++◌, length, get_or, nat_lt, Some, None}
use Rattle.std.proofs.Common.{refl, sym, ap, ◌∙◌, subst, arith}
use Rattle.std.specs.Prelude.{All, AllPairs, position}
use Rattle.std.specs.List.{slice_split, filter, list_all}
use Rattle.std.specs.Char.{digit_value}
use Rattle.std.specs.Fmt.{decimal}
use Rattle.std.specs.Str.{is_utf8, bytes_eq}
use Rattle.std.specs.Str.Parse.{AllDigits, digits_value}
use Rattle.std.proofs.lemmas.Bool.Decides.{nat_tests}
use Rattle.std.proofs.lemmas.Fmt.{decimal_is_IsNumeral, IsAscii-decimal}
use Rattle.std.proofs.lemmas.List.Elements.{All-nil, All-cons, All-weaker}
use Rattle.std.proofs.lemmas.List.Splits.{slice_split_none, slice_split_at}
use Rattle.std.proofs.lemmas.List.Sums.{position_or_len_is}
use Rattle.std.proofs.lemmas.Slice.Eq.{bytes_eq-Decides}
use Rattle.std.proofs.lemmas.Str.{IsUtf8-append, IsUtf8-from_ascii, IsUtf8-from_is_utf8, is_utf8-from_IsUtf8}
use Rattle.rh_script.specs.Commands.{words_of, is_numeral, milliseconds}
use Rattle.rh_script.proofs.Numerals.{numeral_to}
use Rattle.rh_script.specs.Laws.{IsWord}

-- ---- where words end

no_space : (word : List ℕ) → All (λ b. b ≢ 32) word → All (λ b. (b == 32) ≡ false) word
no_space word h = All-weaker (λ b. b ≢ 32) (λ b. (b == 32) ≡ false) (λ b other. grind (arith, nat_tests, other)) word h

kept : (word : List ℕ) (words : List (List ℕ)) → 0 < length word
    → filter (λ w. not (length w == 0)) (word ∷ words) ≡ word ∷ filter (λ w. not (length w == 0)) words
kept word words h =
    let some : (length word == 0) ≡ false = grind (arith, nat_tests, h) in
    let others = filter (λ (w : List ℕ). not (length w == 0)) words in
    ap (λ t. cond (not t) (word ∷ others) others) some

-- a word, and a space behind it
pub first_word : (word rest : List ℕ) → IsWord word → words_of (word ++ 32 ∷ rest) ≡ word ∷ words_of rest
first_word word rest is =
    ap (filter (λ w. not (length w == 0))) (slice_split_at (λ b. b == 32) word 32 rest (no_space word is.unparted) refl)
    ∙ kept word (slice_split (λ b. b == 32) rest) is.some

-- a word alone
pub last_word : (word : List ℕ) → IsWord word → words_of word ≡ word ∷ []
last_word word is =
    ap (filter (λ w. not (length w == 0))) (slice_split_none (λ b. b == 32) word (no_space word is.unparted))
    ∙ kept word [] is.some

-- ---- texts

pub joined_text : (xs ys : List ℕ) → is_utf8 xs ≡ true → is_utf8 ys ≡ true → is_utf8 (xs ++ ys) ≡ true
joined_text xs ys x y = is_utf8-from_IsUtf8 (xs ++ ys) (IsUtf8-append xs ys (IsUtf8-from_is_utf8 xs x) (IsUtf8-from_is_utf8 ys y))

-- ---- numbers

digits_unparted : (word : List ℕ) → AllDigits 10 word → All (λ b. b ≢ 32) word
digits_unparted [] h = All-nil (λ b. b ≢ 32)
digits_unparted (b ∷ word) h = All-cons (λ b. b ≢ 32) b word (λ e. absurd (omega (arith, subst (λ d. digit_value d < 10) e h.0))) (digits_unparted word h.1)

pub decimal_word : (n : ℕ) → n < 2 ^ 64 → IsWord (decimal n)
decimal_word n small =
    let numeral = decimal_is_IsNumeral n small in
    record {
      text = is_utf8-from_IsUtf8 (decimal n) (IsUtf8-from_ascii (decimal n) (IsAscii-decimal n small));
      some = numeral.0.0;
      unparted = digits_unparted (decimal n) numeral.0.1;
    }

-- ---- names

-- the place of the name that stands at i
pub place_of_name : (names : List (List ℕ)) (i : ℕ) (d : List ℕ) → AllPairs (λ (name later : List ℕ). name ≢ later) names → i < length names
    → position (bytes_eq (get_or names i d)) names ≡ Some i
place_of_name names i d once inside =
    let name = get_or names i d in
    let at = position_or_len_is (bytes_eq name) names i d (omega (arith, inside)) earlier (λ _. (bytes_eq-Decides name name).1 refl) in
    ap (λ n. cond (nat_lt n (length names)) (Some n) None) at ∙ ap (λ t. cond t (Some i) None) within
  where
    earlier : (k : ℕ) → k < i → bytes_eq (get_or names i d) (get_or names k d) ≡ false
    earlier k before = by (bytes_eq (get_or names i d) (get_or names k d)) (bytes_eq-Decides (get_or names i d) (get_or names k d)).0
      where
        by : (t : Bool) → (t ≡ true → get_or names i d ≡ get_or names k d) → t ≡ false
        by true same = absurd (once k i d before inside (sym (same refl)))
        by false same = refl

    within : nat_lt i (length names) ≡ true
    within = grind (arith, nat_tests, inside)

all_ascii : (bs : List ℕ) → list_all (λ b. nat_lt b 128) bs ≡ true → (i : ℕ) → get_or bs i 0 < 128
all_ascii [] h i = omega arith
all_ascii (b ∷ bs) h zero = by (nat_lt b 128) refl h
  where
    by : (t : Bool) → nat_lt b 128 ≡ t → (t && list_all (λ b. nat_lt b 128) bs) ≡ true → b < 128
    by true is rest = grind (arith, nat_tests, is)
    by false is rest = absurd (cc rest)
all_ascii (b ∷ bs) h (suc i) = by (nat_lt b 128) h (λ others. all_ascii bs others i)
  where
    by : (t : Bool) → (t && list_all (λ b. nat_lt b 128) bs) ≡ true → (list_all (λ b. nat_lt b 128) bs ≡ true → get_or bs i 0 < 128) → get_or bs i 0 < 128
    by true rest later = later rest
    by false rest later = absurd (cc rest)

pub ascii_text : (bytes : List ℕ) → list_all (λ b. nat_lt b 128) bytes ≡ true → is_utf8 bytes ≡ true
ascii_text bytes h = is_utf8-from_IsUtf8 bytes (IsUtf8-from_ascii bytes (all_ascii bytes h))

pub milliseconds_told : (n : ℕ) → n < 2 ^ 64 → milliseconds (decimal n) ≡ Some n
unfolding milliseconds
milliseconds_told n small =
    let numeral = decimal_is_IsNumeral n small in
    let is : is_numeral (decimal n) ≡ true = numeral_to (decimal n) numeral.0 in
    let fits : nat_lt n (2 ^ 64) ≡ true = grind (arith, nat_tests, small) in
    ap (λ t. cond (t && nat_lt (digits_value 10 (decimal n)) (2 ^ 64)) (Some (digits_value 10 (decimal n))) None) is
    ∙ ap (λ (m : ℕ). cond (nat_lt m (2 ^ 64)) (Some m) None) numeral.1
    ∙ ap (λ t. cond t (Some n) None) fits

-- ---- words by their bytes

pub each_passes : (p : ℕ → Bool) (P : ℕ → Type 0) → ((b : ℕ) → p b ≡ true → P b) → (bs : List ℕ) → list_all p bs ≡ true → All P bs
each_passes p P passes [] h = All-nil P
each_passes p P passes (b ∷ bs) h = by (p b) refl h (λ others. each_passes p P passes bs others)
  where
    by : (t : Bool) → p b ≡ t → (t && list_all p bs) ≡ true → (list_all p bs ≡ true → All P bs) → All P (b ∷ bs)
    by true is rest later = All-cons P b bs (passes b is) (later rest)
    by false is rest later = absurd (cc rest)

pub some_byte : (word : List ℕ) → (length word == 0) ≡ false → 0 < length word
some_byte word h = grind (arith, nat_tests, h)

-- a word that is written out
pub closed_word : (word : List ℕ) → list_all (λ b. nat_lt b 128) word ≡ true → list_all (λ b. nat_lt 32 b) word ≡ true → (length word == 0) ≡ false
    → IsWord word
closed_word word small great some = record {
  text = ascii_text word small;
  some = some_byte word some;
  unparted = each_passes (λ b. nat_lt 32 b) (λ b. b ≢ 32) (λ b above. grind (arith, nat_tests, above)) word great;
}
