-- Up to a syntax fault a word goes on as one does that is spelled.
use Rattle.std.proofs.Common.{◌≡◌, ◌+◌, ℕ, List, [], ◌∷◌, ◌++◌, Bool, true, false, cond}
use Rattle.std.proofs.Common.{Ok, Err, Option, Some, None, length, drop, refl, sym, ap, subst, ◌∙◌, append_assoc}
use Rattle.std.proofs.Common.{arith, inl, inr}
use Rattle.std.specs.Prelude.{◌==◌, ◌||◌}
use Rattle.std.proofs.lemmas.Bool.{eqb-true}
use Rattle.std.proofs.lemmas.List.{append-nil}
use Rattle.rh_terms.specs.declared.fault.Fault.{Fault}
use Rattle.rh_terms.specs.declared.fault.Fault.TheVariants.{Syntax, Unsupported}
use Rattle.rh_terms.specs.Bytes.{past, past_blank, begins, is_white, is_lower, is_digit, is_unsupported}
use Rattle.rh_terms.specs.Faults.{Read, stuck}
use Rattle.rh_terms.specs.Tokens.{escape, quoted, with_byte, digits_at, integer_at, name_at, quoted_atom_at, text_at}
use Rattle.rh_base.specs.Tree.{Tree, atom, text}
use Rattle.rh_terms.specs.Grammar.{word_at}
use Rattle.rh_terms.specs.Spelling.{IsQuoted, InLine, IsBlank, Spells}
use Rattle.rh_terms.proofs.Spelled.{chosen, blank_is, begins_is}
use Rattle.rh_terms.proofs.Found.{bind_err, err_is}
use Rattle.rh_terms.proofs.Stops.{digits_syntax, quoted_zero}

-- a place with so many bytes left, and P of what stands before it
pub record Reaches (P : List ℕ → Type 0) (bs : List ℕ) (left : ℕ) : Type 0 where
  pub front : List ℕ
  pub rest : List ℕ
  pub parts : bs ≡ front ++ rest
  pub left_is : left ≡ length rest
  pub is : P front

pub later : (P Q : List ℕ → Type 0) (a bs : List ℕ) (left : ℕ) → ((l : List ℕ) → P l → Q (a ++ l)) → Reaches P bs left → Reaches Q (a ++ bs) left
later P Q a bs left f h =
    record {
      front = a ++ h.front;
      rest = h.rest;
      parts = ap (λ (l : List ℕ). a ++ l) h.parts ∙ sym (append_assoc a h.front h.rest);
      left_is = h.left_is;
      is = f h.front h.is;
    }

stuck_left : (bs : List ℕ) (left : ℕ) → stuck bs ≡ Syntax left → left ≡ length bs
stuck_left [] left e = cc
stuck_left (b ∷ bs) left e = elim (chosen (is_unsupported b) (Unsupported (length (b ∷ bs))) (Syntax (length (b ∷ bs))) (Syntax left) e) [
  | inl p ↦ absurd (cc (p.1))
  | inr p ↦ let same : length (b ∷ bs) ≡ left = cc (p.1) in sym same
]

pub at_once : (P : List ℕ → Type 0) (bs : List ℕ) (left : ℕ) → stuck bs ≡ Syntax left → P [] → Reaches P bs left
at_once P bs left e h = record { front = []; rest = bs; parts = refl; left_is = stuck_left bs left e; is = h }

at_end : (P : List ℕ → Type 0) (bs : List ℕ) (left : ℕ) → left ≡ 0 → P bs → Reaches P bs left
at_end P bs left e h = record { front = bs; rest = []; parts = sym (append-nil bs); left_is = e; is = h }

-- ---- blanks

-- a comment that ends with the line
record Closed (bs : List ℕ) : Type 0 where
  line : List ℕ
  rest : List ℕ
  parts : bs ++ 10 ∷ [] ≡ line ++ 10 ∷ rest
  in_line : InLine line
  blank : IsBlank rest

abbrev ClosedAt : Bool → List ℕ → Type 0
ClosedAt true bs = Closed bs
ClosedAt false bs = IsBlank (bs ++ 10 ∷ [])

-- What is blank to its end is a blank once its last line ends.
closed : (inside_comment : Bool) (bs : List ℕ) → past inside_comment bs ≡ [] → ClosedAt inside_comment bs
unfolding past
closed true [] e = record { line = []; rest = []; parts = refl; in_line = refl; blank = IsBlank.nothing }
closed false [] e = IsBlank.white 10 [] refl IsBlank.nothing
closed true (b ∷ bs) e = elim (chosen (b == 10) (past false bs) (past true bs) [] e) [
  | inl p ↦
      record {
        line = [];
        rest = bs ++ 10 ∷ [];
        parts = ap (λ (y : ℕ). y ∷ (bs ++ 10 ∷ [])) (eqb-true b 10 p.0);
        in_line = refl;
        blank = closed false bs p.1;
      }
  | inr p ↦
      let r = closed true bs p.1 in
      record { line = b ∷ r.line; rest = r.rest; parts = ap (λ (l : List ℕ). b ∷ l) r.parts; in_line = rw p.0 r.in_line; blank = r.blank }
]
closed false (b ∷ bs) e = elim (chosen (b == 37) (past true bs) (cond (is_white b) (past false bs) (b ∷ bs)) [] e) [
  | inl p ↦
      let r = closed true bs p.1 in
      let same : b ∷ (bs ++ 10 ∷ []) ≡ 37 ∷ (r.line ++ 10 ∷ r.rest) =
      ap (λ (y : ℕ). y ∷ (bs ++ 10 ∷ [])) (eqb-true b 37 p.0) ∙ ap (λ (l : List ℕ). 37 ∷ l) r.parts in
      let P : List ℕ → Type 0 = λ l. IsBlank l in
      subst P (sym same) (IsBlank.comment r.line r.rest r.in_line r.blank)
  | inr p ↦ elim (chosen (is_white b) (past false bs) (b ∷ bs) [] p.1) [
    | inl q ↦ IsBlank.white b (bs ++ 10 ∷ []) q.0 (closed false bs q.1)
    | inr q ↦ absurd cc
  ]
]

-- A place behind a blank; where the text ends in the blank, `tail` ends the blank's last line.
pub record BlankThen (P : List ℕ → Type 0) (bs : List ℕ) (left : ℕ) : Type 0 where
  pub front : List ℕ
  pub rest : List ℕ
  pub parts : bs ≡ front ++ rest
  pub left_is : left ≡ length rest
  pub blank : List ℕ
  pub inner : List ℕ
  pub tail : List ℕ
  pub is_blank : IsBlank blank
  pub joins : (after : List ℕ) → front ++ (tail ++ after) ≡ blank ++ (inner ++ after)
  pub is : P inner

pub blank_then : (P : List ℕ → Type 0) (bs : List ℕ) (left : ℕ) → Reaches P (past_blank bs) left → BlankThen P bs left
blank_then P bs left r = by_rest (past_blank bs) refl r.front r.rest r.parts r.left_is r.is
  where
    by_rest : (l : List ℕ) → past_blank bs ≡ l → (front rest : List ℕ) → l ≡ front ++ rest → left ≡ length rest → P front → BlankThen P bs left
    by_rest [] e [] [] parts left_is is =
        record {
          front = bs;
          rest = [];
          parts = sym (append-nil bs);
          left_is = left_is;
          blank = bs ++ 10 ∷ [];
          inner = [];
          tail = 10 ∷ [];
          is_blank = closed false bs e;
          joins = λ after. sym (append_assoc bs (10 ∷ []) after);
          is = is;
        }
    by_rest [] e [] (c ∷ rest) parts left_is is = absurd cc
    by_rest [] e (c ∷ front) rest parts left_is is = absurd cc
    by_rest (c ∷ l) e front rest parts left_is is =
        let a = blank_is bs c l e in
        record {
          front = a.text ++ front;
          rest = rest;
          parts = a.parts ∙ ap (λ (k : List ℕ). a.text ++ k) parts ∙ sym (append_assoc a.text front rest);
          left_is = left_is;
          blank = a.text;
          inner = front;
          tail = [];
          is_blank = a.is;
          joins = λ after. append_assoc a.text front after;
          is = is;
        }

-- ---- words

abbrev pub TermGoesOn : ℕ → List ℕ → Type 0
TermGoesOn room front = (after : List ℕ) × (t : Tree) × Spells room t (front ++ after)

-- where a term has to stand, `a` can
pub some_term : (room : ℕ) → TermGoesOn room []
some_term room = (97 ∷ [], atom (97 ∷ []), Spells.name room (97 ∷ []) refl refl)

abbrev QuotesGoOn : Bool → ℕ → List ℕ → Type 0
QuotesGoOn true quote bs = (after : List ℕ) × (content : List ℕ) × IsQuoted quote (92 ∷ (bs ++ after)) content
QuotesGoOn false quote bs = (after : List ℕ) × (content : List ℕ) × IsQuoted quote (bs ++ after) content

open_escape : (quote b left : ℕ) (bs : List ℕ) (o : Option ℕ) (f : Fault) → (f ≡ Syntax left → ⊥) → escape b ≡ o
    → (quoted false quote bs ≡ Err (Syntax left) → QuotesGoOn false quote bs)
    → ◌≡◌ {A = Read (List ℕ)} (elim o [ Some x ↦ with_byte x (quoted false quote bs) | None ↦ Err f ]) (Err (Syntax left))
    → QuotesGoOn true quote (b ∷ bs)
open_escape quote b left bs None f other is others e = absurd (other (err_is {B = List ℕ × List ℕ} f (Syntax left) e))
open_escape quote b left bs (Some x) f other is others e = elim (bind_err (quoted false quote bs) (λ y. Ok (x ∷ y.0, y.1)) (Syntax left) e) [
  | inl h ↦ let r = others h in (r.0, x ∷ r.1, IsQuoted.escaped b x (bs ++ r.0) r.1 is r.2)
  | inr h ↦ absurd (cc (h.2))
]

quotes_go_on : (escaped : Bool) (quote : ℕ) (bs : List ℕ) (left : ℕ) → quoted escaped quote bs ≡ Err (Syntax left) → QuotesGoOn escaped quote bs
unfolding quoted
quotes_go_on true quote [] left e = (92 ∷ [], 92 ∷ [], IsQuoted.escaped 92 92 [] [] refl IsQuoted.nothing)
quotes_go_on false quote [] left e = ([], [], IsQuoted.nothing)
quotes_go_on true quote (b ∷ bs) left e =
    open_escape quote b left bs (escape b) (Unsupported (1 + length (b ∷ bs))) (λ h. cc) refl (λ h. quotes_go_on false quote bs left h) e
quotes_go_on false quote (b ∷ bs) left e = elim (chosen (b == quote) (Ok ([], bs)) _ (Err (Syntax left)) e) [
  | inl p ↦ absurd (cc (p.1))
  | inr p ↦ elim (chosen (b == 92) (quoted true quote bs) (with_byte b (quoted false quote bs)) (Err (Syntax left)) p.1) [
    | inl q ↦
        let P : ℕ → Type 0 = λ y. QuotesGoOn false quote (y ∷ bs) in
        subst P (sym (eqb-true b 92 q.0)) (quotes_go_on true quote bs left q.1)
    | inr q ↦ elim (bind_err (quoted false quote bs) (λ y. Ok (b ∷ y.0, y.1)) (Syntax left) q.1) [
      | inl h ↦ let r = quotes_go_on false quote bs left h in (r.0, b ∷ r.1, IsQuoted.plain b (bs ++ r.0) r.1 p.0 q.0 r.2)
      | inr h ↦ absurd (cc (h.2))
    ]
  ]
]

atom_goes_on : (room : ℕ) (bs : List ℕ) → QuotesGoOn false 39 bs → TermGoesOn room (39 ∷ bs)
atom_goes_on room bs o =
    let P : List ℕ → Type 0 = λ l. Spells room (atom o.1) (39 ∷ l) in
    (o.0 ++ 39 ∷ [], atom o.1, subst P (append_assoc bs o.0 (39 ∷ [])) (Spells.quoted_atom room (bs ++ o.0) o.1 o.2))

text_goes_on : (room : ℕ) (bs : List ℕ) → QuotesGoOn false 34 bs → TermGoesOn room (34 ∷ bs)
text_goes_on room bs o =
    let P : List ℕ → Type 0 = λ l. Spells room (text o.1) (34 ∷ l) in
    (o.0 ++ 34 ∷ [], text o.1, subst P (append_assoc bs o.0 (34 ∷ [])) (Spells.text_of room (bs ++ o.0) o.1 o.2))

atom_reaches : (room : ℕ) (bs : List ℕ) (left : ℕ) → quoted_atom_at bs ≡ Err (Syntax left) → Reaches (TermGoesOn room) (39 ∷ bs) left
unfolding quoted_atom_at
atom_reaches room bs left e = elim (bind_err (quoted false 39 bs) (λ x. Ok (atom x.0, x.1)) (Syntax left) e) [
  | inl h ↦ at_end (TermGoesOn room) (39 ∷ bs) left (quoted_zero false 39 bs left h) (atom_goes_on room bs (quotes_go_on false 39 bs left h))
  | inr h ↦ absurd (cc (h.2))
]

text_reaches : (room : ℕ) (bs : List ℕ) (left : ℕ) → text_at bs ≡ Err (Syntax left) → Reaches (TermGoesOn room) (34 ∷ bs) left
unfolding text_at
text_reaches room bs left e =
    elim (bind_err (quoted false 34 bs) (λ x. cond (begins (λ b. b == 34) (past_blank x.1)) (Err (Unsupported (length (past_blank x.1))))
    (Ok (text x.0, x.1))) (Syntax left) e) [
      | inl h ↦ at_end (TermGoesOn room) (34 ∷ bs) left (quoted_zero false 34 bs left h) (text_goes_on room bs (quotes_go_on false 34 bs left h))
      | inr h ↦
          elim (chosen (begins (λ b. b == 34) (past_blank h.0.1)) (Err (Unsupported (length (past_blank h.0.1)))) (Ok (text h.0.0, h.0.1))
          (Err (Syntax left)) h.2) [
            | inl p ↦ absurd (cc (p.1))
            | inr p ↦ absurd (cc (p.1))
          ]
    ]

minus_goes_on : (room : ℕ) → TermGoesOn room (45 ∷ [])
minus_goes_on room = (49 ∷ [], _, Spells.minus room (49 ∷ []) (omega arith) refl refl)

integer_reaches : (room : ℕ) (bs : List ℕ) (left : ℕ) → integer_at bs ≡ Err (Syntax left) → Reaches (TermGoesOn room) bs left
unfolding integer_at
integer_reaches room bs left e = elim (chosen (begins (λ b. b == 45) bs) (digits_at true (drop 1 bs)) (digits_at false bs) (Err (Syntax left)) e) [
  | inl p ↦
      let P : List ℕ → Type 0 = λ l. Reaches (TermGoesOn room) l left in
      subst P (sym (begins_is 45 bs p.0)) (later (λ l. TermGoesOn room (45 ∷ l)) (TermGoesOn room) (45 ∷ []) (drop 1 bs) left (λ l h. h)
      (at_once (λ l. TermGoesOn room (45 ∷ l)) (drop 1 bs) left (digits_syntax true (drop 1 bs) left p.1).0 (minus_goes_on room)))
  | inr p ↦ at_once (TermGoesOn room) bs left (digits_syntax false bs left p.1).0 (some_term room)
]

at_byte : (room b c : ℕ) (bs : List ℕ) (left : ℕ) → (b == c) ≡ true → Reaches (TermGoesOn room) (c ∷ bs) left → Reaches (TermGoesOn room) (b ∷ bs) left
at_byte room b c bs left e h =
    let P : ℕ → Type 0 = λ y. Reaches (TermGoesOn room) (y ∷ bs) left in
    subst P (sym (eqb-true b c e)) h

abbrev pub ReachesIn : {A : Type 0} → (List ℕ → Type 0) → (List ℕ → Read A) → Type 0
ReachesIn P read = (bs : List ℕ) (left : ℕ) → read bs ≡ Err (Syntax left) → Reaches P bs left

pub word_reaches : (room : ℕ) → ReachesIn (TermGoesOn room) word_at
unfolding word_at name_at
word_reaches room [] left e = at_end (TermGoesOn room) [] left (let same : 0 ≡ left = cc in sym same) (some_term room)
word_reaches room (b ∷ bs) left e = elim (chosen (is_lower b) (name_at (b ∷ bs)) _ (Err (Syntax left)) e) [
  | inl p ↦ absurd (cc (p.1))
  | inr p ↦ elim (chosen (b == 39) (quoted_atom_at bs) _ (Err (Syntax left)) p.1) [
    | inl q ↦ at_byte room b 39 bs left q.0 (atom_reaches room bs left q.1)
    | inr q ↦ elim (chosen (b == 34) (text_at bs) _ (Err (Syntax left)) q.1) [
      | inl r ↦ at_byte room b 34 bs left r.0 (text_reaches room bs left r.1)
      | inr r ↦ elim (chosen ((b == 45) || is_digit b) (integer_at (b ∷ bs)) (Err (stuck (b ∷ bs))) (Err (Syntax left)) r.1) [
        | inl u ↦ integer_reaches room (b ∷ bs) left u.1
        | inr u ↦ at_once (TermGoesOn room) (b ∷ bs) left (err_is {B = Tree × List ℕ} (stuck (b ∷ bs)) (Syntax left) u.1) (some_term room)
      ]
    ]
  ]
]
