-- Where a text is refused as unsupported, one of the constructs stands.
use Rattle.std.proofs.Common.{◌≡◌, ◌<◌, ◌+◌, ℕ, zero, suc, List, [], ◌∷◌, ◌++◌, Bool, true, false, cond, Result}
use Rattle.std.proofs.Common.{Ok, Err, Option, Some, None, length, take, drop, refl, sym, ap, subst, ◌∙◌, append_assoc}
use Rattle.std.proofs.Common.{arith, inl, inr}
use Rattle.std.specs.Prelude.{◌==◌, ◌&&◌, ◌||◌, not, ◌⊎◌}
use Rattle.std.specs.List.{prefix_len}
use Rattle.std.proofs.lemmas.List.{take-append-drop}
use Rattle.std.proofs.lemmas.List.Folds.{length-prefix_len}
use Rattle.std.proofs.lemmas.Bool.{eqb-true}
use Rattle.std.proofs.lemmas.Bool.Decides.{nat_tests}
use Rattle.rh_terms.specs.declared.fault.Fault.{Fault}
use Rattle.rh_terms.specs.declared.fault.Fault.TheVariants.{Syntax, Unsupported, IntRange}
use Rattle.rh_terms.specs.Bytes.{past, past_blank, begins, is_white, is_lower, is_digit, is_unsupported}
use Rattle.rh_terms.specs.Faults.{◌>>=◌, Read, under, stuck}
use Rattle.rh_terms.specs.Tokens.{escape, quoted, with_byte, number, fits, signed, is_other_number, digits_at, integer_at, name_at, quoted_atom_at, text_at}
use Rattle.rh_base.specs.Tree.{Tree, Trees, atom, int, text, list, tuple, none, more}
use Rattle.rh_terms.specs.Grammar.{word_at, term_by, next_at, some_terms, terms_up_to, inside, term_at}
use Rattle.rh_terms.specs.Spelling.{IsQuoted, IsBlank, Spells}
use Rattle.rh_terms.specs.Constructs.{IsSign, IsOtherNumber, InTerm, InElements}
use Rattle.rh_terms.proofs.Cut.{and_is}
use Rattle.rh_terms.proofs.Spelled.{chosen, blank_is, blank_front, begins_is, quoted_is, not_false, Front, Quoted, all_front}
use Rattle.rh_terms.proofs.Spelled.{term_spelled, next_more, next_last}

-- a construct, and how many bytes are left from its place on
pub record Found (P : List ℕ → List ℕ → Type 0) (bs : List ℕ) (left : ℕ) : Type 0 where
  pub front : List ℕ
  pub first : ℕ
  pub others : List ℕ
  pub parts : bs ≡ front ++ first ∷ others
  pub left_is : left ≡ length (first ∷ others)
  pub is : P front (first ∷ others)

-- the same, behind these bytes
pub later : (P Q : List ℕ → List ℕ → Type 0) (a bs : List ℕ) (left : ℕ) → ((front rest : List ℕ) → P front rest → Q (a ++ front) rest) → Found P bs left
    → Found Q (a ++ bs) left
later P Q a bs left f h =
    record {
      front = a ++ h.front;
      first = h.first;
      others = h.others;
      parts = ap (λ (l : List ℕ). a ++ l) h.parts ∙ sym
          (append_assoc a h.front (h.first ∷ h.others));
      left_is = h.left_is;
      is = f h.front (h.first ∷ h.others) h.is;
    }

pub err_is : {B : Type 0} (c d : Fault) → ◌≡◌ {A = Result B Fault} (Err c) (Err d) → c ≡ d
err_is c d e = cc

-- how a chain fails
pub bind_err : {A B : Type 0} (r : Result A Fault) (f : A → Result B Fault) (d : Fault) → (r >>= f) ≡ Err d
    → (r ≡ Err d) ⊎ ((x : A) × (r ≡ Ok x) × (f x ≡ Err d))
bind_err (Ok x) f d e = inr (x, refl, e)
bind_err {A} {B} (Err c) f d e = inl (ap (λ (h : Fault). Err h) (err_is {B = B} c d e))

pub stuck_found : (P : List ℕ → List ℕ → Type 0) (bs : List ℕ) (left : ℕ) → ((rest : List ℕ) → IsSign rest → P [] rest) → stuck bs ≡ Unsupported left
    → Found P bs left
stuck_found P [] left f e = absurd cc
stuck_found P (b ∷ bs) left f e = elim (chosen (is_unsupported b) (Unsupported (length (b ∷ bs))) (Syntax (length (b ∷ bs))) (Unsupported left) e) [
  | inl p ↦ let same : length (b ∷ bs) ≡ left =
      cc (p.1) in record { front = []; first = b; others = bs; parts = refl; left_is = sym same; is = f (b ∷ bs) p.0 }
  | inr p ↦ absurd (cc (p.1))
]

-- the second is an end of the first
abbrev pub Back : List ℕ → List ℕ → Type 0
Back bs rest = (a : List ℕ) × (bs ≡ a ++ rest)

back_cond : (bs x y : List ℕ) (t : Bool) → Back bs x → Back bs y → Back bs (cond t x y)
back_cond bs x y true h k = h
back_cond bs x y false h k = k

back_step : (b : ℕ) (bs rest : List ℕ) → Back bs rest → Back (b ∷ bs) rest
back_step b bs rest h = (b ∷ h.0, ap (λ (l : List ℕ). b ∷ l) h.1)

pub past_back : (inside : Bool) (bs : List ℕ) → Back bs (past inside bs)
unfolding past
past_back inside [] = ([], refl)
past_back true (b ∷ bs) =
    back_cond (b ∷ bs) (past false bs) (past true bs) (b == 10) (back_step b bs (past false bs) (past_back false bs))
    (back_step b bs (past true bs) (past_back true bs))
past_back false (b ∷ bs) =
    back_cond (b ∷ bs) (past true bs) (cond (is_white b) (past false bs) (b ∷ bs)) (b == 37) (back_step b bs (past true bs) (past_back true bs))
    (back_cond (b ∷ bs) (past false bs) (b ∷ bs) (is_white b) (back_step b bs (past false bs) (past_back false bs)) ([], refl))

-- ---- words

record IsBadEscape (quote : ℕ) (front rest : List ℕ) : Type 0 where
  content : List ℕ
  letter : ℕ
  after : List ℕ
  before : IsQuoted quote front content
  rest_is : rest ≡ 92 ∷ (letter ∷ after)
  unknown : escape letter ≡ None

abbrev FoundAt : Bool → ℕ → List ℕ → ℕ → Type 0
FoundAt true quote bs left = Found (IsBadEscape quote) (92 ∷ bs) left
FoundAt false quote bs left = Found (IsBadEscape quote) bs left

by_escape : (quote b : ℕ) (bs : List ℕ) (left : ℕ) (o : Option ℕ) → (quoted false quote bs ≡ Err (Unsupported left) → Found (IsBadEscape quote) bs left)
    → escape b ≡ o
    → ◌≡◌ {A = Read (List ℕ)} (elim o [ Some x ↦ with_byte x (quoted false quote bs) | None ↦ Err (Unsupported (1 + length (b ∷ bs))) ])
    (Err (Unsupported left)) → Found (IsBadEscape quote) (92 ∷ (b ∷ bs)) left
by_escape quote b bs left None others is e =
    let same : 1 + length (b ∷ bs) ≡ left = cc in
    record {
      front = [];
      first = 92;
      others = b ∷ bs;
      parts = refl;
      left_is = omega (arith, same);
      is = record { content = []; letter = b; after = bs; before = IsQuoted.nothing; rest_is = refl; unknown = is };
    }
by_escape quote b bs left (Some x) others is e = elim (bind_err (quoted false quote bs) (λ y. Ok (x ∷ y.0, y.1)) (Unsupported left) e) [
  | inl h ↦ later (IsBadEscape quote) (IsBadEscape quote) (92 ∷ (b ∷ [])) bs left
      (λ front rest k. record {
        content = x ∷ k.content;
        letter = k.letter;
        after = k.after;
        before = IsQuoted.escaped b x front k.content is k.before;
        rest_is = k.rest_is;
        unknown = k.unknown;
      })
      (others h)
  | inr h ↦ absurd (cc (h.2))
]

quoted_found : (escaped : Bool) (quote : ℕ) (bs : List ℕ) (left : ℕ) → quoted escaped quote bs ≡ Err (Unsupported left) → FoundAt escaped quote bs left
unfolding quoted
quoted_found true quote [] left e = absurd cc
quoted_found false quote [] left e = absurd cc
quoted_found true quote (b ∷ bs) left e = by_escape quote b bs left (escape b) (λ h. quoted_found false quote bs left h) refl e
quoted_found false quote (b ∷ bs) left e = elim (chosen (b == quote) (Ok ([], bs)) _ (Err (Unsupported left)) e) [
  | inl p ↦ absurd (cc (p.1))
  | inr p ↦ elim (chosen (b == 92) (quoted true quote bs) (with_byte b (quoted false quote bs)) (Err (Unsupported left)) p.1) [
    | inl q ↦
        let P : ℕ → Type 0 = λ y. Found (IsBadEscape quote) (y ∷ bs) left in
        subst P (sym (eqb-true b 92 q.0)) (quoted_found true quote bs left q.1)
    | inr q ↦ elim (bind_err (quoted false quote bs) (λ y. Ok (b ∷ y.0, y.1)) (Unsupported left) q.1) [
      | inl h ↦ later (IsBadEscape quote) (IsBadEscape quote) (b ∷ []) bs left
          (λ front rest k. record {
            content = b ∷ k.content;
            letter = k.letter;
            after = k.after;
            before = IsQuoted.plain b front k.content p.0 q.0 k.before;
            rest_is = k.rest_is;
            unknown = k.unknown;
          })
          (quoted_found false quote bs left h)
      | inr h ↦ absurd (cc (h.2))
    ]
  ]
]

in_quotes : (room quote : ℕ) (front rest : List ℕ) → (quote ≡ 34) ⊎ (quote ≡ 39) → IsBadEscape quote front rest → InTerm room (quote ∷ front) rest
in_quotes room quote front rest is h =
    let P : List ℕ → Type 0 = λ l. InTerm room (quote ∷ front) l in
    subst P (sym h.rest_is) (InTerm.escape_of room quote front h.content h.letter h.after is h.before h.unknown)

atom_found : (room : ℕ) (bs : List ℕ) (left : ℕ) → quoted_atom_at bs ≡ Err (Unsupported left) → Found (InTerm room) (39 ∷ bs) left
unfolding quoted_atom_at
atom_found room bs left e = elim (bind_err (quoted false 39 bs) (λ x. Ok (atom x.0, x.1)) (Unsupported left) e) [
  | inl h ↦ later (IsBadEscape 39) (InTerm room) (39 ∷ []) bs left (λ front rest k. in_quotes room 39 front rest (inr refl) k) (quoted_found false 39 bs left h)
  | inr h ↦ absurd (cc (h.2))
]

text_found : (room : ℕ) (bs : List ℕ) (left : ℕ) → text_at bs ≡ Err (Unsupported left) → Found (InTerm room) (34 ∷ bs) left
unfolding text_at
text_found room bs left e =
    elim (bind_err (quoted false 34 bs) (λ x. cond (begins (λ b. b == 34) (past_blank x.1)) (Err (Unsupported (length (past_blank x.1))))
    (Ok (text x.0, x.1))) (Unsupported left) e) [
      | inl h ↦ later (IsBadEscape 34) (InTerm room) (34 ∷ []) bs left (λ front rest k. in_quotes room 34 front rest (inl refl) k)
          (quoted_found false 34 bs left h)
      | inr h ↦
          elim (chosen (begins (λ b. b == 34) (past_blank h.0.1)) (Err (Unsupported (length (past_blank h.0.1)))) (Ok (text h.0.0, h.0.1))
          (Err (Unsupported left)) h.2) [
            | inl p ↦
                let same : length (past_blank h.0.1) ≡ left = cc (p.1) in
                let second : past_blank h.0.1 ≡ 34 ∷ drop 1 (past_blank h.0.1) = begins_is 34 (past_blank h.0.1) p.0 in
                let q : Quoted 34 bs h.0.0 h.0.1 = quoted_is false 34 bs h.0.0 h.0.1 h.1 in
                let blank = blank_is h.0.1 34 (drop 1 (past_blank h.0.1)) second in
                record {
                  front = 34 ∷ (q.inner ++ 34 ∷ blank.text);
                  first = 34;
                  others = drop 1 (past_blank h.0.1);
                  parts = ap (λ (l : List ℕ). 34 ∷ l) (q.parts ∙ ap (λ (l : List ℕ). q.inner ++ 34 ∷ l) blank.parts ∙ sym
                      (append_assoc q.inner (34 ∷ blank.text) (34 ∷ drop 1 (past_blank h.0.1))));
                  left_is = sym same ∙ ap (λ (l : List ℕ). length l) second;
                  is = InTerm.text_of room q.inner h.0.0 blank.text (drop 1 (past_blank h.0.1)) q.is blank.is;
                }
            | inr p ↦ absurd (cc (p.1))
          ]
    ]

abbrev InDigits : Bool → ℕ → List ℕ → List ℕ → Type 0
InDigits true room front rest = InTerm room (45 ∷ front) rest
InDigits false room front rest = InTerm room front rest

digits_sign : (minus : Bool) (room : ℕ) (rest : List ℕ) → IsSign rest → InDigits minus room [] rest
digits_sign true room rest h = InTerm.minus_sign room rest h
digits_sign false room rest h = InTerm.sign room rest h

digits_other : (minus : Bool) (room : ℕ) (digits rest : List ℕ) → IsOtherNumber minus digits rest → InDigits minus room digits rest
digits_other true room digits rest h = InTerm.minus_number room digits rest h
digits_other false room digits rest h = InTerm.number_of room digits rest h

other_first : (bs : List ℕ) → is_other_number bs ≡ true → (c : ℕ) × (others : List ℕ) × (bs ≡ c ∷ others)
other_first [] e = absurd cc
other_first (c ∷ bs) e = (c, bs, refl)

digits_found : (minus : Bool) (room : ℕ) (bs : List ℕ) (left : ℕ) → digits_at minus bs ≡ Err (Unsupported left) → Found (λ f r. InDigits minus room f r) bs left
unfolding digits_at
digits_found minus room bs left e =
    let n = prefix_len is_digit bs in
    elim (chosen (n == 0) (Err (stuck bs)) _ (Err (Unsupported left)) e) [
      | inl p ↦
          stuck_found (λ f r. InDigits minus room f r) bs left (λ rest h. digits_sign minus room rest h)
          (err_is {B = Tree × List ℕ} (stuck bs) (Unsupported left) p.1)
      | inr p ↦ elim (chosen (not (fits minus (number (take n bs)))) (Err IntRange) _ (Err (Unsupported left)) p.1) [
        | inl q ↦ absurd (cc (q.1))
        | inr q ↦
            elim (chosen (is_other_number (drop n bs)) (Err (Unsupported (length (drop n bs))))
            (Ok (int (signed minus (number (take n bs))), drop n bs)) (Err (Unsupported left)) q.1) [
              | inl r ↦
                  let same : length (drop n bs) ≡ left = cc (r.1) in
                  let len : length (take n bs) ≡ n = length-prefix_len is_digit bs in
                  let some : 0 < length (take n bs) = rw len (grind (arith, nat_tests, p.0)) in
                  let fit : fits minus (number (take n bs)) ≡ true = not_false _ q.0 in
                  let o = other_first (drop n bs) r.0 in
                  let P : List ℕ → Type 0 = λ l. InDigits minus room (take n bs) l in
                  record {
                    front = take n bs;
                    first = o.0;
                    others = o.1;
                    parts = sym (take-append-drop n bs) ∙ ap (λ (l : List ℕ). take n bs ++ l) o.2;
                    left_is = sym same ∙ ap (λ (l : List ℕ). length l) o.2;
                    is = subst P o.2 (digits_other minus room (take n bs) (drop n bs) (some, all_front is_digit bs, fit, r.0));
                  }
              | inr r ↦ absurd (cc (r.1))
            ]
      ]
    ]

integer_found : (room : ℕ) (bs : List ℕ) (left : ℕ) → integer_at bs ≡ Err (Unsupported left) → Found (InTerm room) bs left
unfolding integer_at
integer_found room bs left e = elim (chosen (begins (λ b. b == 45) bs) (digits_at true (drop 1 bs)) (digits_at false bs) (Err (Unsupported left)) e) [
  | inl p ↦
      let P : List ℕ → Type 0 = λ l. Found (InTerm room) l left in
      subst P (sym (begins_is 45 bs p.0))
      (later (λ f r. InDigits true room f r) (InTerm room) (45 ∷ []) (drop 1 bs) left (λ f r h. h) (digits_found true room (drop 1 bs) left p.1))
  | inr p ↦ digits_found false room bs left p.1
]

at_byte : (room b c : ℕ) (bs : List ℕ) (left : ℕ) → (b == c) ≡ true → Found (InTerm room) (c ∷ bs) left → Found (InTerm room) (b ∷ bs) left
at_byte room b c bs left e h =
    let P : ℕ → Type 0 = λ y. Found (InTerm room) (y ∷ bs) left in
    subst P (sym (eqb-true b c e)) h

abbrev Finds : {A : Type 0} → (List ℕ → List ℕ → Type 0) → (List ℕ → Read A) → Type 0
Finds P read = (bs : List ℕ) (left : ℕ) → read bs ≡ Err (Unsupported left) → Found P bs left

word_found : (room : ℕ) → Finds (InTerm room) word_at
unfolding word_at name_at
word_found room [] left e = absurd cc
word_found room (b ∷ bs) left e = elim (chosen (is_lower b) (name_at (b ∷ bs)) _ (Err (Unsupported left)) e) [
  | inl p ↦ absurd (cc (p.1))
  | inr p ↦ elim (chosen (b == 39) (quoted_atom_at bs) _ (Err (Unsupported left)) p.1) [
    | inl q ↦ at_byte room b 39 bs left q.0 (atom_found room bs left q.1)
    | inr q ↦ elim (chosen (b == 34) (text_at bs) _ (Err (Unsupported left)) q.1) [
      | inl r ↦ at_byte room b 34 bs left r.0 (text_found room bs left r.1)
      | inr r ↦ elim (chosen ((b == 45) || is_digit b) (integer_at (b ∷ bs)) (Err (stuck (b ∷ bs))) (Err (Unsupported left)) r.1) [
        | inl u ↦ integer_found room (b ∷ bs) left u.1
        | inr u ↦ stuck_found (InTerm room) (b ∷ bs) left (λ rest h. InTerm.sign room rest h)
            (err_is {B = Tree × List ℕ} (stuck (b ∷ bs)) (Unsupported left) u.1)
      ]
    ]
  ]
]

-- ---- lists and tuples

-- what is left behind a term is an end of the bytes
abbrev pub Leaves : {A : Type 0} → (List ℕ → Read A) → Type 0
Leaves {A} read = (bs : List ℕ) (x : A) (rest : List ℕ) → read bs ≡ Ok (x, rest) → Back bs rest

pub next_back : (close : ℕ) → Leaves (next_at close)
next_back close bs true rest e =
    let n = next_more close bs rest e in
    let b = past_back false (drop 1 bs) in
    (44 ∷ b.0, n.0 ∙ ap (λ (l : List ℕ). 44 ∷ l) (b.1 ∙ ap (λ (l : List ℕ). b.0 ++ l) n.1))
next_back close bs false rest e = (close ∷ [], next_last close bs rest e)

-- what can't stand behind an element, at its place
record IsBadNext (close : ℕ) (front rest : List ℕ) : Type 0 where
  nothing : front ≡ []
  is : IsSign rest ⊎ ((close ≡ 93) × (begins (λ b. b == 124) rest ≡ true))

next_found : (close : ℕ) → Finds (IsBadNext close) (next_at close)
unfolding next_at
next_found close bs left e = elim (chosen (begins (λ b. b == 44) bs) (Ok (true, past_blank (drop 1 bs))) _ (Err (Unsupported left)) e) [
  | inl p ↦ absurd (cc (p.1))
  | inr p ↦ elim (chosen (begins (λ b. b == close) bs) (Ok (false, drop 1 bs)) _ (Err (Unsupported left)) p.1) [
    | inl q ↦ absurd (cc (q.1))
    | inr q ↦ elim (chosen ((close == 93) && begins (λ b. b == 124) bs) (Err (Unsupported (length bs))) (Err (stuck bs)) (Err (Unsupported left)) q.1) [
      | inl r ↦
          let same : length bs ≡ left = cc (r.1) in
          let both = and_is (close == 93) (begins (λ b. b == 124) bs) r.0 in
          let whole : bs ≡ 124 ∷ drop 1 bs = begins_is 124 bs both.1 in
          record {
            front = [];
            first = 124;
            others = drop 1 bs;
            parts = whole;
            left_is = sym same ∙ ap (λ (l : List ℕ). length l) whole;
            is = record { nothing = refl; is = inr (eqb-true close 93 both.0, refl) };
          }
      | inr r ↦
          stuck_found (IsBadNext close) bs left (λ rest h. record { nothing = refl; is = inl h })
          (err_is {B = Bool × List ℕ} (stuck bs) (Unsupported left) r.1)
    ]
  ]
]

-- a byte that can't stand behind an element
bad_next : (room close : ℕ) (t : Tree) (s b rest : List ℕ) → Spells room t s → IsBlank b → IsSign rest ⊎ ((close ≡ 93) × (begins (λ x. x == 124) rest ≡ true))
    → InElements room close (s ++ b) rest
bad_next room close t s b rest spelled blank (inl h) = InElements.sign_behind room close t s b rest spelled blank h
bad_next room close t s b rest spelled blank (inr h) =
    let P : ℕ → Type 0 = λ c. InElements room c (s ++ b) rest in
    subst P (sym h.0) (InElements.bar room t s b rest spelled blank h.1)

at_next : (room close : ℕ) (t : Tree) (s behind : List ℕ) (left : ℕ) → Spells room t s → Found (IsBadNext close) (past_blank behind) left
    → Found (InElements room close) (s ++ behind) left
at_next room close t s behind left spelled f =
    let here : past_blank behind ≡ f.first ∷ f.others = f.parts ∙ ap (λ (l : List ℕ). l ++ f.first ∷ f.others) f.is.nothing in
    let b = blank_is behind f.first f.others here in
    record {
      front = s ++ b.text;
      first = f.first;
      others = f.others;
      parts = ap (λ (l : List ℕ). s ++ l) b.parts ∙ sym (append_assoc s b.text (f.first ∷ f.others));
      left_is = f.left_is;
      is = bad_next room close t s b.text (f.first ∷ f.others) spelled b.is f.is.is;
    }

regroup_comma : (s b a q tail : List ℕ) → s ++ (b ++ 44 ∷ (a ++ (q ++ tail))) ≡ (s ++ (b ++ 44 ∷ (a ++ q))) ++ tail
regroup_comma s b a q tail = simp append_assoc

behind_next : (room close : ℕ) (read : List ℕ → Read Trees) (finds : Finds (InElements room close) read) (t : Tree) (s behind : List ℕ) (goes_on : Bool)
    (from : List ℕ) (left : ℕ) → Spells room t s → next_at close (past_blank behind) ≡ Ok (goes_on, from)
    → cond goes_on (under (more t) (read from)) (Ok (more t none, from)) ≡ Err (Unsupported left) → Found (InElements room close) (s ++ behind) left
behind_next room close read finds t s behind false from left spelled next e = absurd cc
behind_next room close read finds t s behind true from left spelled next e =
    elim (bind_err (read from) (λ y. Ok (more t y.0, y.1)) (Unsupported left) e) [
      | inl h ↦
          let f = finds from left h in
          let n = next_more close (past_blank behind) from next in
          let b = blank_is behind 44 (drop 1 (past_blank behind)) n.0 in
          let a = blank_front (drop 1 (past_blank behind)) from f.front f.first f.others n.1 f.parts in
          record {
            front = s ++ (b.text ++ 44 ∷ (a.text ++ f.front));
            first = f.first;
            others = f.others;
            parts = ap (λ (l : List ℕ). s ++ l) (b.parts ∙ ap (λ (l : List ℕ). b.text ++ 44 ∷ l) (a.parts ∙ ap (λ (l : List ℕ). a.text ++ l) f.parts))
                ∙ regroup_comma s b.text a.text f.front (f.first ∷ f.others);
            left_is = f.left_is;
            is = InElements.comma room close t s b.text a.text f.front (f.first ∷ f.others) spelled b.is a.is f.is;
          }
      | inr h ↦ absurd (cc (h.2))
    ]

abbrev Reads : (List ℕ → Read Tree) → ℕ → Type 0
Reads term room = (bs : List ℕ) (t : Tree) (rest : List ℕ) → term bs ≡ Ok (t, rest) → Front (Spells room t) bs rest

some_found : (room close n : ℕ) (term : List ℕ → Read Tree) → Finds (InTerm room) term → Reads term room
    → Finds (InElements room close) (some_terms term close n)
unfolding some_terms
some_found room close zero term finds reads bs left e =
    stuck_found (InElements room close) bs left (λ rest h. InElements.element room close [] rest (InTerm.sign room rest h))
    (err_is {B = Trees × List ℕ} (stuck bs) (Unsupported left) e)
some_found room close (suc n) term finds reads bs left e =
    elim (bind_err (term bs) (λ x. next_at close (past_blank x.1) >>= λ next. cond next.0 (under (more x.0) (some_terms term close n next.1))
    (Ok (more x.0 none, next.1))) (Unsupported left) e) [
      | inl h ↦ later (InTerm room) (InElements room close) [] bs left (λ front rest k. InElements.element room close front rest k) (finds bs left h)
      | inr h ↦
          let x = h.0 in
          let s = reads bs x.0 x.1 h.1 in
          let P : List ℕ → Type 0 = λ l. Found (InElements room close) l left in
          elim (bind_err (next_at close (past_blank x.1)) (λ next. cond next.0 (under (more x.0) (some_terms term close n next.1))
          (Ok (more x.0 none, next.1))) (Unsupported left) h.2) [
            | inl k ↦ subst P (sym s.parts) (at_next room close x.0 s.text x.1 left s.is (next_found close (past_blank x.1) left k))
            | inr k ↦
                subst P (sym s.parts)
                (behind_next room close (some_terms term close n) (some_found room close n term finds reads) x.0 s.text x.1 k.0.0 k.0.1 left s.is k.1 k.2)
          ]
    ]

-- blanks and elements
record Inside (room close : ℕ) (front rest : List ℕ) : Type 0 where
  blank : List ℕ
  elements : List ℕ
  parts : front ≡ blank ++ elements
  is_blank : IsBlank blank
  is : InElements room close elements rest

one_found : (room close : ℕ) (term : List ℕ → Read Tree) → Finds (InTerm room) term → Reads term room → Finds (Inside room close) (terms_up_to term close)
unfolding terms_up_to
one_found room close term finds reads bs left e =
    elim (chosen (begins (λ b. b == close) (past_blank bs)) (Ok (none, drop 1 (past_blank bs)))
    (some_terms term close (length (past_blank bs)) (past_blank bs)) (Err (Unsupported left)) e) [
      | inl p ↦ absurd (cc (p.1))
      | inr p ↦
          let f = some_found room close (length (past_blank bs)) term finds reads (past_blank bs) left p.1 in
          let a = blank_front bs (past_blank bs) f.front f.first f.others refl f.parts in
          record {
            front = a.text ++ f.front;
            first = f.first;
            others = f.others;
            parts = a.parts ∙ ap (λ (l : List ℕ). a.text ++ l) f.parts ∙ sym (append_assoc a.text f.front (f.first ∷ f.others));
            left_is = f.left_is;
            is = record { blank = a.text; elements = f.front; parts = refl; is_blank = a.is; is = f.is };
          }
    ]

abbrev InInner : ℕ → ℕ → List ℕ → List ℕ → Type 0
InInner zero close front rest = ⊥
InInner (suc room) close front rest = Inside room close front rest

in_list : (room : ℕ) (front rest : List ℕ) → InInner room 93 front rest → InTerm room (91 ∷ front) rest
in_list zero front rest h = absurd h
in_list (suc room) front rest h =
    let P : List ℕ → Type 0 = λ l. InTerm (suc room) (91 ∷ l) rest in
    subst P (sym h.parts) (InTerm.list_of room h.blank h.elements rest h.is_blank h.is)

in_tuple : (room : ℕ) (front rest : List ℕ) → InInner room 125 front rest → InTerm room (123 ∷ front) rest
in_tuple zero front rest h = absurd h
in_tuple (suc room) front rest h =
    let P : List ℕ → Type 0 = λ l. InTerm (suc room) (123 ∷ l) rest in
    subst P (sym h.parts) (InTerm.tuple_of room h.blank h.elements rest h.is_blank h.is)

under_found : (f : Trees → Tree) (read : Read Trees) (left : ℕ) → under f read ≡ Err (Unsupported left) → read ≡ Err (Unsupported left)
under_found f read left e = elim (bind_err read (λ x. Ok (f x.0, x.1)) (Unsupported left) e) [
  | inl h ↦ h
  | inr h ↦ absurd (cc (h.2))
]

abbrev FindsInner : ℕ → Type 0
FindsInner room = (close : ℕ) → Finds (λ f r. InInner room close f r) (inside room close)

term_by_found : (room : ℕ) → FindsInner room → Finds (InTerm room) (term_by (inside room))
unfolding term_by
term_by_found room finds bs left e =
    let P : List ℕ → Type 0 = λ l. Found (InTerm room) l left in
    elim (chosen (begins (λ b. b == 91) bs) (under list (inside room 93 (drop 1 bs))) _ (Err (Unsupported left)) e) [
      | inl p ↦ subst P (sym (begins_is 91 bs p.0)) (later (λ f r. InInner room 93 f r) (InTerm room) (91 ∷ []) (drop 1 bs) left
          (λ f r h. in_list room f r h) (finds 93 (drop 1 bs) left (under_found list (inside room 93 (drop 1 bs)) left p.1)))
      | inr p ↦ elim (chosen (begins (λ b. b == 123) bs) (under tuple (inside room 125 (drop 1 bs))) (word_at bs) (Err (Unsupported left)) p.1) [
        | inl q ↦ subst P (sym (begins_is 123 bs q.0)) (later (λ f r. InInner room 125 f r) (InTerm room) (123 ∷ []) (drop 1 bs) left
            (λ f r h. in_tuple room f r h) (finds 125 (drop 1 bs) left (under_found tuple (inside room 125 (drop 1 bs)) left q.1)))
        | inr q ↦ word_found room bs left q.1
      ]
    ]

inside_found : (room : ℕ) → FindsInner room
unfolding inside
inside_found zero close bs left e = absurd cc
inside_found (suc room) close bs left e = one_found room close (term_at room) (term_by_found room (inside_found room)) (term_spelled room) bs left e

pub term_found : (room : ℕ) → Finds (InTerm room) (term_at room)
term_found room = term_by_found room (inside_found room)
