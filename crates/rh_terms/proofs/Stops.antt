-- Where a text has a syntax fault at a byte, no text that begins with the bytes up to this one is read.
use Rattle.std.proofs.Common.{◌≡◌, ◌<◌, ◌+◌, ℕ, suc, List, [], ◌∷◌, ◌++◌, Bool, true, false, cond, Result}
use Rattle.std.proofs.Common.{Ok, Err, Option, Some, None, length, take, drop, refl, sym, ap, subst, ◌∙◌, append_assoc}
use Rattle.std.proofs.Common.{arith, inl, inr}
use Rattle.std.specs.Prelude.{◌==◌, ◌||◌, not}
use Rattle.std.specs.List.{prefix_len}
use Rattle.std.proofs.lemmas.Bool.{eqb-true}
use Rattle.std.proofs.lemmas.Bool.Decides.{nat_tests}
use Rattle.rh_terms.specs.declared.fault.Fault.{Fault}
use Rattle.rh_terms.specs.declared.fault.Fault.TheVariants.{Syntax, Unsupported, IntRange}
use Rattle.rh_terms.specs.Bytes.{past, past_blank, begins, is_white, is_lower, is_digit, is_end, is_unsupported}
use Rattle.rh_terms.specs.Faults.{◌>>=◌, Read, under, stuck}
use Rattle.rh_terms.specs.Tokens.{escape, quoted, with_byte, number, fits, signed, is_other_number, digits_at, integer_at, name_at, quoted_atom_at, text_at}
use Rattle.rh_base.specs.Tree.{Tree, Trees, atom, int, text}
use Rattle.rh_terms.specs.Grammar.{word_at}
use Rattle.rh_terms.proofs.Spelled.{chosen, blank_front, begins_is}
use Rattle.rh_terms.proofs.Found.{bind_err, err_is}
use Rattle.rh_terms.proofs.Read.{blank_read, prefix_step, prefix_end}

abbrev pub IsErr : {A : Type 0} → Result A Fault → Type 0
IsErr r = (d : Fault) × (r ≡ Err d)

pub first_err : {A B : Type 0} (r : Result A Fault) (f : A → Result B Fault) → IsErr r → IsErr (r >>= f)
first_err (Ok x) f h = absurd (cc (h.1))
first_err (Err d) f h = (d, refl)

pub second_err : {A B : Type 0} (r : Result A Fault) (f : A → Result B Fault) (x : A) → r ≡ Ok x → IsErr (f x) → IsErr (r >>= f)
second_err {A} {B} r f x e h =
    let P : Result A Fault → Type 0 = λ y. IsErr (y >>= f) in
    subst P (sym e) h

-- A byte of the text, with so many bytes left, such that P holds of each text that begins with the bytes up to this one.
pub record Stops (P : List ℕ → Type 0) (bs : List ℕ) (left : ℕ) : Type 0 where
  pub front : List ℕ
  pub first : ℕ
  pub others : List ℕ
  pub parts : bs ≡ front ++ first ∷ others
  pub left_is : left ≡ length (first ∷ others)
  pub is : (after : List ℕ) → P (front ++ first ∷ after)

pub later : (P Q : List ℕ → Type 0) (a bs : List ℕ) (left : ℕ) → ((l : List ℕ) → P l → Q (a ++ l)) → Stops P bs left → Stops Q (a ++ bs) left
later P Q a bs left f h =
    record {
      front = a ++ h.front;
      first = h.first;
      others = h.others;
      parts = ap (λ (l : List ℕ). a ++ l) h.parts ∙ sym (append_assoc a h.front (h.first ∷ h.others));
      left_is = h.left_is;
      is = λ after. subst Q (sym (append_assoc a h.front (h.first ∷ after))) (f (h.front ++ h.first ∷ after) (h.is after));
    }

pub begins_same : (p : ℕ → Bool) (front : List ℕ) (first : ℕ) (x y : List ℕ) → begins p (front ++ first ∷ x) ≡ begins p (front ++ first ∷ y)
begins_same p [] first x y = refl
begins_same p (c ∷ front) first x y = refl

-- such a text has the same first byte
pub same_test : (p : ℕ → Bool) (P : List ℕ → Type 0) (bs : List ℕ) (left : ℕ) (s : Stops P bs left) (after : List ℕ) (v : Bool) → begins p bs ≡ v
    → begins p (s.front ++ s.first ∷ after) ≡ v
same_test p P bs left s after v e = begins_same p s.front s.first after s.others ∙ ap (λ (l : List ℕ). begins p l) (sym s.parts) ∙ e

-- the byte at which nothing can go on
pub record Stuck (bs : List ℕ) (left : ℕ) : Type 0 where
  pub first : ℕ
  pub others : List ℕ
  pub parts : bs ≡ first ∷ others
  pub left_is : left ≡ length (first ∷ others)

pub stuck_is : (bs : List ℕ) (left : ℕ) → 0 < left → stuck bs ≡ Syntax left → Stuck bs left
stuck_is [] left some e = let same : 0 ≡ left = cc in absurd (omega arith)
stuck_is (b ∷ bs) left some e = elim (chosen (is_unsupported b) (Unsupported (length (b ∷ bs))) (Syntax (length (b ∷ bs))) (Syntax left) e) [
  | inl p ↦ absurd (cc (p.1))
  | inr p ↦ let same : length (b ∷ bs) ≡ left = cc (p.1) in record { first = b; others = bs; parts = refl; left_is = sym same }
]

pub test_first : (p : ℕ → Bool) (bs : List ℕ) (left : ℕ) (s : Stuck bs left) (v : Bool) → begins p bs ≡ v → p s.first ≡ v
test_first p bs left s v e = ap (λ (l : List ℕ). begins p l) (sym s.parts) ∙ e

pub at_stuck : (P : List ℕ → Type 0) (bs : List ℕ) (left : ℕ) (s : Stuck bs left) → ((after : List ℕ) → P (s.first ∷ after)) → Stops P bs left
at_stuck P bs left s f = record { front = []; first = s.first; others = s.others; parts = s.parts; left_is = s.left_is; is = f }

-- ---- blanks

on_cond : (P : List ℕ → Type 0) (b : Bool) (x y : List ℕ) → (b ≡ true → P x) → (b ≡ false → P y) → P (cond b x y)
on_cond P true x y f g = f refl
on_cond P false x y f g = g refl

past_first : (inside_comment : Bool) (bs : List ℕ) → begins is_end (past inside_comment bs) ≡ false
unfolding past
past_first true [] = refl
past_first false [] = refl
past_first true (b ∷ bs) =
    on_cond (λ l. begins is_end l ≡ false) (b == 10) (past false bs) (past true bs) (λ e. past_first false bs) (λ e. past_first true bs)
past_first false (b ∷ bs) = on_cond (λ l. begins is_end l ≡ false) (b == 37) (past true bs) (cond (is_white b) (past false bs) (b ∷ bs))
    (λ e. past_first true bs)
    (λ e. on_cond (λ l. begins is_end l ≡ false) (is_white b) (past false bs) (b ∷ bs) (λ w. past_first false bs) (λ w. rw (w, e) refl))

kept : (bs : List ℕ) → begins is_end bs ≡ false → past_blank bs ≡ bs
unfolding past
kept [] e = refl
kept (b ∷ bs) e =
    let white : is_white b ≡ false = grind (arith, nat_tests, e) in
    let comment : (b == 37) ≡ false = grind (arith, nat_tests, e) in
    rw (comment, white) refl

-- the blanks before a place stay blanks whatever comes behind its byte
pub record Blank (bs front : List ℕ) (first : ℕ) (others : List ℕ) : Type 0 where
  pub text : List ℕ
  pub parts : bs ≡ text ++ (front ++ first ∷ others)
  pub is : (after : List ℕ) → past_blank (text ++ (front ++ first ∷ after)) ≡ front ++ first ∷ after

pub blank_stays : (bs front : List ℕ) (first : ℕ) (others : List ℕ) → past_blank bs ≡ front ++ first ∷ others → Blank bs front first others
blank_stays bs front first others e =
    let a = blank_front bs (past_blank bs) front first others refl e in
    record {
      text = a.text;
      parts = a.parts ∙ ap (λ (l : List ℕ). a.text ++ l) e;
      is = λ after. blank_read a.text (front ++ first ∷ after) a.is ∙ kept (front ++ first ∷ after)
          (begins_same is_end front first after others ∙ ap (λ (l : List ℕ). begins is_end l) (sym e) ∙ past_first false bs);
    }

-- ---- words

zero_escape : (quote b left : ℕ) (bs : List ℕ) (o : Option ℕ) (f : Fault) → (f ≡ Syntax left → ⊥) → (quoted false quote bs ≡ Err (Syntax left) → left ≡ 0)
    → ◌≡◌ {A = Read (List ℕ)} (elim o [ Some x ↦ with_byte x (quoted false quote bs) | None ↦ Err f ]) (Err (Syntax left)) → left ≡ 0
zero_escape quote b left bs None f other others e = absurd (other (err_is {B = List ℕ × List ℕ} f (Syntax left) e))
zero_escape quote b left bs (Some x) f other others e = elim (bind_err (quoted false quote bs) (λ y. Ok (x ∷ y.0, y.1)) (Syntax left) e) [
  | inl h ↦ others h
  | inr h ↦ absurd (cc (h.2))
]

-- Between quotes a text has a syntax fault at its end alone.
pub quoted_zero : (escaped : Bool) (quote : ℕ) (bs : List ℕ) (left : ℕ) → quoted escaped quote bs ≡ Err (Syntax left) → left ≡ 0
unfolding quoted
quoted_zero true quote [] left e = cc
quoted_zero false quote [] left e = cc
quoted_zero true quote (b ∷ bs) left e =
    zero_escape quote b left bs (escape b) (Unsupported (1 + length (b ∷ bs))) (λ h. cc) (λ h. quoted_zero false quote bs left h) e
quoted_zero false quote (b ∷ bs) left e = elim (chosen (b == quote) (Ok ([], bs)) _ (Err (Syntax left)) e) [
  | inl p ↦ absurd (cc (p.1))
  | inr p ↦ elim (chosen (b == 92) (quoted true quote bs) (with_byte b (quoted false quote bs)) (Err (Syntax left)) p.1) [
    | inl q ↦ quoted_zero true quote bs left q.1
    | inr q ↦ elim (bind_err (quoted false quote bs) (λ y. Ok (b ∷ y.0, y.1)) (Syntax left) q.1) [
      | inl h ↦ quoted_zero false quote bs left h
      | inr h ↦ absurd (cc (h.2))
    ]
  ]
]

atom_zero : (bs : List ℕ) (left : ℕ) → quoted_atom_at bs ≡ Err (Syntax left) → left ≡ 0
unfolding quoted_atom_at
atom_zero bs left e = elim (bind_err (quoted false 39 bs) (λ x. Ok (atom x.0, x.1)) (Syntax left) e) [
  | inl h ↦ quoted_zero false 39 bs left h
  | inr h ↦ absurd (cc (h.2))
]

text_zero : (bs : List ℕ) (left : ℕ) → text_at bs ≡ Err (Syntax left) → left ≡ 0
unfolding text_at
text_zero bs left e =
    elim (bind_err (quoted false 34 bs) (λ x. cond (begins (λ b. b == 34) (past_blank x.1)) (Err (Unsupported (length (past_blank x.1))))
    (Ok (text x.0, x.1))) (Syntax left) e) [
      | inl h ↦ quoted_zero false 34 bs left h
      | inr h ↦
          elim (chosen (begins (λ b. b == 34) (past_blank h.0.1)) (Err (Unsupported (length (past_blank h.0.1)))) (Ok (text h.0.0, h.0.1))
          (Err (Syntax left)) h.2) [
            | inl p ↦ absurd (cc (p.1))
            | inr p ↦ absurd (cc (p.1))
          ]
    ]

zero_cons : (p : ℕ → Bool) (b : ℕ) (bs : List ℕ) (v : Bool) → p b ≡ v → prefix_len p (b ∷ bs) ≡ 0 → v ≡ false
zero_cons p b bs true e h = let n : prefix_len p (b ∷ bs) ≡ suc (prefix_len p bs) = prefix_step p b bs e in absurd (omega arith)
zero_cons p b bs false e h = refl

prefix_zero : (p : ℕ → Bool) (bs : List ℕ) → prefix_len p bs ≡ 0 → begins p bs ≡ false
prefix_zero p [] e = refl
prefix_zero p (b ∷ bs) e = zero_cons p b bs (p b) refl e

pub digits_syntax : (minus : Bool) (bs : List ℕ) (left : ℕ) → digits_at minus bs ≡ Err (Syntax left) → (stuck bs ≡ Syntax left) × (begins is_digit bs ≡ false)
unfolding digits_at
digits_syntax minus bs left e =
    let n = prefix_len is_digit bs in
    elim (chosen (n == 0) (Err (stuck bs)) _ (Err (Syntax left)) e) [
      | inl p ↦ (err_is {B = Tree × List ℕ} (stuck bs) (Syntax left) p.1, prefix_zero is_digit bs (eqb-true n 0 p.0))
      | inr p ↦ elim (chosen (not (fits minus (number (take n bs)))) (Err IntRange) _ (Err (Syntax left)) p.1) [
        | inl q ↦ absurd (cc (q.1))
        | inr q ↦
            elim (chosen (is_other_number (drop n bs)) (Err (Unsupported (length (drop n bs))))
            (Ok (int (signed minus (number (take n bs))), drop n bs)) (Err (Syntax left)) q.1) [ inl r ↦ absurd (cc (r.1)) | inr r ↦ absurd (cc (r.1)) ]
      ]
    ]

no_digits : (minus : Bool) (b : ℕ) (after : List ℕ) → is_digit b ≡ false → IsErr (digits_at minus (b ∷ after))
unfolding digits_at
no_digits minus b after e =
    let n : prefix_len is_digit (b ∷ after) ≡ 0 = prefix_end is_digit (b ∷ after) e in
    rw n (stuck (b ∷ after), refl)

no_minus : (b : ℕ) (after : List ℕ) → (b == 45) ≡ false → is_digit b ≡ false → IsErr (integer_at (b ∷ after))
unfolding integer_at
no_minus b after e h = rw e (no_digits false b after h)

minus_only : (l : List ℕ) → IsErr (digits_at true l) → IsErr (integer_at (45 ∷ l))
unfolding integer_at
minus_only l h = h

abbrev pub StopsRead : {A : Type 0} → (List ℕ → Read A) → Type 0
StopsRead read = (bs : List ℕ) (left : ℕ) → 0 < left → read bs ≡ Err (Syntax left) → Stops (λ l. IsErr (read l)) bs left

integer_stops : StopsRead integer_at
unfolding integer_at
integer_stops bs left some e = elim (chosen (begins (λ b. b == 45) bs) (digits_at true (drop 1 bs)) (digits_at false bs) (Err (Syntax left)) e) [
  | inl p ↦
      let d = digits_syntax true (drop 1 bs) left p.1 in
      let s = stuck_is (drop 1 bs) left some d.0 in
      let P : List ℕ → Type 0 = λ l. Stops (λ k. IsErr (integer_at k)) l left in
      subst P (sym (begins_is 45 bs p.0))
      (later (λ k. IsErr (digits_at true k)) (λ k. IsErr (integer_at k)) (45 ∷ []) (drop 1 bs) left (λ l h. minus_only l h)
      (at_stuck (λ k. IsErr (digits_at true k)) (drop 1 bs) left s (λ after. no_digits true s.first after (test_first is_digit (drop 1 bs) left s false d.1))))
  | inr p ↦
      let d = digits_syntax false bs left p.1 in
      let s = stuck_is bs left some d.0 in
      at_stuck (λ k. IsErr (integer_at k)) bs left s
      (λ after. no_minus s.first after (test_first (λ b. b == 45) bs left s false p.0) (test_first is_digit bs left s false d.1))
]

is_integer : (bs : List ℕ) → begins is_lower bs ≡ false → begins (λ b. b == 39) bs ≡ false → begins (λ b. b == 34) bs ≡ false
    → begins (λ b. (b == 45) || is_digit b) bs ≡ true → word_at bs ≡ integer_at bs
unfolding word_at
is_integer [] l q t i = absurd cc
is_integer (b ∷ bs) l q t i = rw (l, q, t, i) refl

no_word : (b : ℕ) (after : List ℕ) → is_lower b ≡ false → (b == 39) ≡ false → (b == 34) ≡ false → ((b == 45) || is_digit b) ≡ false
    → IsErr (word_at (b ∷ after))
unfolding word_at
no_word b after l q t i = rw (l, q, t, i) (stuck (b ∷ after), refl)

pub word_stops : StopsRead word_at
unfolding word_at name_at
word_stops [] left some e = let same : 0 ≡ left = cc in absurd (omega arith)
word_stops (b ∷ bs) left some e = elim (chosen (is_lower b) (name_at (b ∷ bs)) _ (Err (Syntax left)) e) [
  | inl p ↦ absurd (cc (p.1))
  | inr p ↦ elim (chosen (b == 39) (quoted_atom_at bs) _ (Err (Syntax left)) p.1) [
    | inl q ↦ absurd (omega (arith, some, atom_zero bs left q.1))
    | inr q ↦ elim (chosen (b == 34) (text_at bs) _ (Err (Syntax left)) q.1) [
      | inl r ↦ absurd (omega (arith, some, text_zero bs left r.1))
      | inr r ↦ elim (chosen ((b == 45) || is_digit b) (integer_at (b ∷ bs)) (Err (stuck (b ∷ bs))) (Err (Syntax left)) r.1) [
        | inl u ↦
            let s = integer_stops (b ∷ bs) left some u.1 in
            let P : List ℕ → Type 0 = λ k. IsErr (integer_at k) in
            let Q : Read Tree → Type 0 = λ k. IsErr k in
            record {
              front = s.front;
              first = s.first;
              others = s.others;
              parts = s.parts;
              left_is = s.left_is;
              is = λ after. subst Q (sym (is_integer (s.front ++ s.first ∷ after) (same_test is_lower P (b ∷ bs) left s after false p.0)
                  (same_test (λ x. x == 39) P (b ∷ bs) left s after false q.0) (same_test (λ x. x == 34) P (b ∷ bs) left s after false r.0)
                  (same_test (λ x. (x == 45) || is_digit x) P (b ∷ bs) left s after true u.0))) (s.is after);
            }
        | inr u ↦
            let s = stuck_is (b ∷ bs) left some (err_is {B = Tree × List ℕ} (stuck (b ∷ bs)) (Syntax left) u.1) in
            at_stuck (λ k. IsErr (word_at k)) (b ∷ bs) left s
            (λ after. no_word s.first after (test_first is_lower (b ∷ bs) left s false p.0) (test_first (λ x. x == 39) (b ∷ bs) left s false q.0)
            (test_first (λ x. x == 34) (b ∷ bs) left s false r.0) (test_first (λ x. (x == 45) || is_digit x) (b ∷ bs) left s false u.0))
      ]
    ]
  ]
]

pub under_syntax : (f : Trees → Tree) (read : Read Trees) (left : ℕ) → under f read ≡ Err (Syntax left) → read ≡ Err (Syntax left)
under_syntax f read left e = elim (bind_err read (λ x. Ok (f x.0, x.1)) (Syntax left) e) [
  | inl h ↦ h
  | inr h ↦ absurd (cc (h.2))
]
