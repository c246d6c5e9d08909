-- What is read is in the grammar.
use Rattle.std.proofs.Common.{◌≡◌, ℕ, zero, suc, ◌+◌, ◌<◌, List, [], ◌∷◌, ◌++◌, length, drop, take, Bool, true, false}
use Rattle.std.proofs.Common.{cond, Result, Ok, Err, refl, sym, ap, subst, ◌∙◌, append_assoc, arith, inl, inr, Option}
use Rattle.std.proofs.Common.{Some, None}
use Rattle.std.specs.Prelude.{◌==◌, not, ◌⊎◌, ◌||◌}
use Rattle.std.specs.List.{list_all}
use Rattle.std.proofs.lemmas.Bool.{eqb-true}
use Rattle.rh_terms.specs.declared.fault.Fault.{Fault}
use Rattle.rh_terms.specs.declared.fault.Fault.TheVariants.{Unsupported, IntRange}
use Rattle.rh_terms.specs.Bytes.{past, past_blank, begins, is_white}
use Rattle.rh_terms.specs.Faults.{◌>>=◌, Read, under, stuck}
use Rattle.rh_base.specs.Tree.{Tree, Trees, none, more, list, tuple}
use Rattle.rh_terms.specs.Grammar.{word_at, term_by, next_at, some_terms, terms_up_to, inside, term_at}
use Rattle.std.specs.List.{prefix_len}
use Rattle.std.proofs.lemmas.List.{take-append-drop}
use Rattle.std.proofs.lemmas.List.Folds.{length-prefix_len}
use Rattle.std.proofs.lemmas.Bool.Decides.{nat_tests}
use Rattle.rh_terms.specs.Bytes.{is_lower, is_atom_byte, is_digit}
use Rattle.rh_base.specs.Tree.{atom, int, text}
use Rattle.rh_terms.specs.Tokens.{escape, quoted, with_byte, number, fits, signed, is_other_number, digits_at, integer_at, name_at, quoted_atom_at, text_at}
use Rattle.rh_terms.specs.Spelling.{IsQuoted, InLine, IsBlank, Spells, IsInside, AreSeparated}

-- the bytes before a rest
pub record Front (P : List ℕ → Type 0) (bs rest : List ℕ) : Type 0 where
  pub text : List ℕ
  pub parts : bs ≡ text ++ rest
  pub is : P text

pub bind_ok : {A B : Type 0} (r : Result A Fault) (f : A → Result B Fault) (y : B) → (r >>= f) ≡ Ok y → (x : A) × (r ≡ Ok x) × (f x ≡ Ok y)
bind_ok (Ok x) f y e = (x, refl, e)
bind_ok (Err d) f y e = absurd cc

pub chosen : {A : Type 0} (b : Bool) (x y z : A) → cond b x y ≡ z → ((b ≡ true) × (x ≡ z)) ⊎ ((b ≡ false) × (y ≡ z))
chosen true x y z e = inl (refl, e)
chosen false x y z e = inr (refl, e)

abbrev pub done : {A : Type 0} → A → Result A Fault
done x = Ok x

pub ok_is : {A : Type 0} (x y : A) → done x ≡ done y → x ≡ y
ok_is x y e = cc

pub begins_is : (c : ℕ) (bs : List ℕ) → begins (λ b. b == c) bs ≡ true → bs ≡ c ∷ drop 1 bs
begins_is c [] e = absurd cc
begins_is c (b ∷ bs) e = ap (λ (x : ℕ). x ∷ bs) (eqb-true b c e)

-- ---- blanks

record Comment (bs rest : List ℕ) : Type 0 where
  line : List ℕ
  blank : List ℕ
  parts : bs ≡ line ++ 10 ∷ (blank ++ rest)
  in_line : InLine line
  is_blank : IsBlank blank

abbrev Past : Bool → List ℕ → List ℕ → Type 0
Past true bs rest = Comment bs rest
Past false bs rest = Front IsBlank bs rest

past_is : (inside_comment : Bool) (bs : List ℕ) (x : ℕ) (xs : List ℕ) → past inside_comment bs ≡ x ∷ xs → Past inside_comment bs (x ∷ xs)
unfolding past
past_is true [] x xs e = absurd cc
past_is false [] x xs e = absurd cc
past_is true (b ∷ bs) x xs e = elim (chosen (b == 10) (past false bs) (past true bs) (x ∷ xs) e) [
  | inl p ↦ let r = past_is false bs x xs p.1 in
      record {
        line = [];
        blank = r.text;
        parts = ap (λ (y : ℕ). y ∷ bs) (eqb-true b 10 p.0) ∙ ap
            (λ (l : List ℕ). 10 ∷ l) r.parts;
        in_line = refl;
        is_blank = r.is;
      }
  | inr p ↦ let r = past_is true bs x xs p.1 in
      record { line = b ∷ r.line; blank = r.blank; parts = ap (λ (l : List ℕ). b ∷ l) r.parts; in_line = rw p.0 r.in_line; is_blank = r.is_blank }
]
past_is false (b ∷ bs) x xs e = elim (chosen (b == 37) (past true bs) (cond (is_white b) (past false bs) (b ∷ bs)) (x ∷ xs) e) [
  | inl p ↦ let r = past_is true bs x xs p.1 in
      record {
        text = 37 ∷ (r.line ++ 10 ∷ r.blank);
        parts = ap (λ (y : ℕ). y ∷ bs) (eqb-true b 37 p.0) ∙ ap (λ (l : List ℕ). 37 ∷ l)
            (r.parts ∙ sym (append_assoc r.line (10 ∷ r.blank) (x ∷ xs)));
        is = IsBlank.comment r.line r.blank r.in_line r.is_blank;
      }
  | inr p ↦ elim (chosen (is_white b) (past false bs) (b ∷ bs) (x ∷ xs) p.1) [
    | inl q ↦ let r = past_is false bs x xs q.1 in
        record { text = b ∷ r.text; parts = ap (λ (l : List ℕ). b ∷ l) r.parts; is = IsBlank.white b r.text q.0 r.is }
    | inr q ↦ record { text = []; parts = q.1; is = IsBlank.nothing }
  ]
]

pub blank_is : (bs : List ℕ) (x : ℕ) (xs : List ℕ) → past_blank bs ≡ x ∷ xs → Front IsBlank bs (x ∷ xs)
blank_is bs x xs e = past_is false bs x xs e

front_cons : (q : List ℕ) (c : ℕ) (r : List ℕ) → (y : ℕ) × (ys : List ℕ) × (q ++ c ∷ r ≡ y ∷ ys)
front_cons [] c r = (c, r, refl)
front_cons (x ∷ q) c r = (x, q ++ c ∷ r, refl)

-- the blanks before bytes that are not empty
pub blank_front : (bs rest q : List ℕ) (c : ℕ) (r : List ℕ) → past_blank bs ≡ rest → rest ≡ q ++ c ∷ r → Front IsBlank bs rest
blank_front bs rest q c r e parts =
    let k = front_cons q c r in
    let P : List ℕ → Type 0 = λ l. Front IsBlank bs l in
    subst P (sym (parts ∙ k.2)) (blank_is bs k.0 k.1 (e ∙ parts ∙ k.2))

-- ---- lists and tuples

same_rest : (x y : Bool) (a b : List ℕ) → done {A = Bool × List ℕ} (x, a) ≡ done {A = Bool × List ℕ} (y, b) → (x ≡ y) × (a ≡ b)
same_rest x y a b e =
    let p : Bool × List ℕ = (x, a) in
    let q : Bool × List ℕ = (y, b) in
    let h : p ≡ q = ok_is p q e in
    (ap (λ (r : Bool × List ℕ). r.0) h, ap (λ (r : Bool × List ℕ). r.1) h)

pub next_more : (close : ℕ) (bs rest : List ℕ) → next_at close bs ≡ Ok (true, rest) → (bs ≡ 44 ∷ drop 1 bs) × (past_blank (drop 1 bs) ≡ rest)
unfolding next_at
next_more close bs rest e = elim (chosen (begins (λ b. b == 44) bs) (Ok (true, past_blank (drop 1 bs))) _ (Ok (true, rest)) e) [
  | inl p ↦ (begins_is 44 bs p.0, (same_rest true true (past_blank (drop 1 bs)) rest p.1).1)
  | inr p ↦ elim (chosen (begins (λ b. b == close) bs) (Ok (false, drop 1 bs)) _ (Ok (true, rest)) p.1) [
    | inl q ↦ let h : false ≡ true = (same_rest false true (drop 1 bs) rest q.1).0 in absurd cc
    | inr q ↦ elim (chosen _ (Err (Unsupported (length bs))) (Err (stuck bs)) (Ok (true, rest)) q.1) [ inl r ↦ absurd (cc (r.1)) | inr r ↦ absurd (cc (r.1)) ]
  ]
]

pub next_last : (close : ℕ) (bs rest : List ℕ) → next_at close bs ≡ Ok (false, rest) → bs ≡ close ∷ rest
unfolding next_at
next_last close bs rest e = elim (chosen (begins (λ b. b == 44) bs) (Ok (true, past_blank (drop 1 bs))) _ (Ok (false, rest)) e) [
  | inl p ↦ let h : true ≡ false = (same_rest true false (past_blank (drop 1 bs)) rest p.1).0 in absurd cc
  | inr p ↦ elim (chosen (begins (λ b. b == close) bs) (Ok (false, drop 1 bs)) _ (Ok (false, rest)) p.1) [
    | inl q ↦ let same : drop 1 bs ≡ rest = (same_rest false false (drop 1 bs) rest q.1).1 in begins_is close bs q.0 ∙ ap (λ (l : List ℕ). close ∷ l) same
    | inr q ↦ elim (chosen _ (Err (Unsupported (length bs))) (Err (stuck bs)) (Ok (false, rest)) q.1) [ inl r ↦ absurd (cc (r.1)) | inr r ↦ absurd (cc (r.1)) ]
  ]
]

abbrev Reads : (List ℕ → Read Tree) → ℕ → Type 0
Reads term room = (bs : List ℕ) (t : Tree) (rest : List ℕ) → term bs ≡ Ok (t, rest) → Front (Spells room t) bs rest

abbrev Separates : (List ℕ → Read Trees) → ℕ → ℕ → Type 0
Separates read room close = (bs : List ℕ) (ts : Trees) (rest : List ℕ) → read bs ≡ Ok (ts, rest) → Front (AreSeparated room ts) bs (close ∷ rest)

regroup_comma : (s b a q tail : List ℕ) → s ++ (b ++ 44 ∷ (a ++ (q ++ tail))) ≡ (s ++ (b ++ 44 ∷ (a ++ q))) ++ tail
regroup_comma s b a q tail = simp append_assoc

after_next : (room close : ℕ) (read : List ℕ → Read Trees) (others : Separates read room close) (t : Tree) (s behind : List ℕ) (goes_on : Bool)
    (from : List ℕ) (ts : Trees) (rest : List ℕ) → Spells room t s → next_at close (past_blank behind) ≡ Ok (goes_on, from)
    → cond goes_on (under (more t) (read from)) (Ok (more t none, from)) ≡ Ok (ts, rest) → Front (AreSeparated room ts) (s ++ behind) (close ∷ rest)
after_next room close read others t s behind true from ts rest spelled next e =
    let x = bind_ok (read from) (λ x. Ok (more t x.0, x.1)) (ts, rest) e in
    let n = next_more close (past_blank behind) from next in
    let r = others from x.0.0 x.0.1 x.1 in
    let b = blank_is behind 44 (drop 1 (past_blank behind)) n.0 in
    let a = blank_front (drop 1 (past_blank behind)) from r.text close x.0.1 n.1 r.parts in
    let whole : s ++ behind ≡ (s ++ (b.text ++ 44 ∷ (a.text ++ r.text))) ++ close ∷ x.0.1 =
    ap (λ (l : List ℕ). s ++ l) (b.parts ∙ ap (λ (l : List ℕ). b.text ++ 44 ∷ l) (a.parts ∙ ap (λ (l : List ℕ). a.text ++ l) r.parts))
    ∙ regroup_comma s b.text a.text r.text (close ∷ x.0.1) in
    let made : Trees × List ℕ = (more t x.0.0, x.0.1) in
    let P : Trees × List ℕ → Type 0 = λ y. Front (AreSeparated room y.0) (s ++ behind) (close ∷ y.1) in
    subst P (ok_is made (ts, rest) x.2) (record {
      text = s ++
          (b.text ++ 44 ∷ (a.text ++ r.text));
      parts = whole;
      is = AreSeparated.comma room t x.0.0 s b.text a.text r.text spelled b.is a.is r.is;
    })
after_next room close read others t s behind false from ts rest spelled next e =
    let n = next_last close (past_blank behind) from next in
    let b = blank_is behind close from n in
    let made : Trees × List ℕ = (more t none, from) in
    let P : Trees × List ℕ → Type 0 = λ y. Front (AreSeparated room y.0) (s ++ behind) (close ∷ y.1) in
    subst P (ok_is made (ts, rest) e) (record {
      text = s ++ b.text;
      parts = ap (λ (l : List ℕ). s ++ l) b.parts ∙ sym
          (append_assoc s b.text (close ∷ from));
      is = AreSeparated.last room t s b.text spelled b.is;
    })

separated : (room close : ℕ) (term : List ℕ → Read Tree) (reads : Reads term room) (n : ℕ) → Separates (some_terms term close n) room close
unfolding some_terms
separated room close term reads zero bs ts rest e = absurd cc
separated room close term reads (suc n) bs ts rest e =
    let x = bind_ok (term bs) (λ x. next_at close (past_blank x.1) >>= λ next. cond next.0 (under (more x.0) (some_terms term close n next.1))
    (Ok (more x.0 none, next.1))) (ts, rest) e in
    let next = bind_ok (next_at close (past_blank x.0.1))
    (λ next. cond next.0 (under (more x.0.0) (some_terms term close n next.1)) (Ok (more x.0.0 none, next.1))) (ts, rest) x.2 in
    let front = reads bs x.0.0 x.0.1 x.1 in
    let P : List ℕ → Type 0 = λ l. Front (AreSeparated room ts) l (close ∷ rest) in
    subst P (sym front.parts) (after_next room close (some_terms term close n)
    (separated room close term reads n) x.0.0 front.text x.0.1 next.0.0 next.0.1 ts rest front.is next.1 next.2)

inside_one : (room close : ℕ) (term : List ℕ → Read Tree) (reads : Reads term room) (bs : List ℕ) (ts : Trees) (rest : List ℕ)
    → terms_up_to term close bs ≡ Ok (ts, rest) → Front (IsInside room ts) bs (close ∷ rest)
unfolding terms_up_to
inside_one room close term reads bs ts rest e =
    elim (chosen (begins (λ b. b == close) (past_blank bs)) (Ok (none, drop 1 (past_blank bs)))
    (some_terms term close (length (past_blank bs)) (past_blank bs)) (Ok (ts, rest)) e) [
      | inl p ↦
          let b = blank_is bs close (drop 1 (past_blank bs)) (begins_is close (past_blank bs) p.0) in
          let made : Trees × List ℕ = (none, drop 1 (past_blank bs)) in
          let P : Trees × List ℕ → Type 0 = λ y. Front (IsInside room y.0) bs (close ∷ y.1) in
          subst P (ok_is made (ts, rest) p.1) (record { text = b.text; parts = b.parts; is = IsInside.nothing room b.text b.is })
      | inr p ↦
          let r = separated room close term reads (length (past_blank bs)) (past_blank bs) ts rest p.1 in
          let a = blank_front bs (past_blank bs) r.text close rest refl r.parts in
          record {
            text = a.text ++ r.text;
            parts = a.parts ∙ ap (λ (l : List ℕ). a.text ++ l) r.parts ∙ sym
                (append_assoc a.text r.text (close ∷ rest));
            is = IsInside.some room ts a.text r.text a.is r.is;
          }
    ]

abbrev IsInner : ℕ → Trees → List ℕ → Type 0
IsInner zero ts s = ⊥
IsInner (suc room) ts s = IsInside room ts s

abbrev ReadsInner : ℕ → Type 0
ReadsInner room = (close : ℕ) (bs : List ℕ) (ts : Trees) (rest : List ℕ) → inside room close bs ≡ Ok (ts, rest) → Front (IsInner room ts) bs (close ∷ rest)

list_is : (room : ℕ) (ts : Trees) (s : List ℕ) → IsInner room ts s → Spells room (list ts) (91 ∷ (s ++ 93 ∷ []))
list_is zero ts s h = absurd h
list_is (suc room) ts s h = Spells.list_of room ts s h

tuple_is : (room : ℕ) (ts : Trees) (s : List ℕ) → IsInner room ts s → Spells room (tuple ts) (123 ∷ (s ++ 125 ∷ []))
tuple_is zero ts s h = absurd h
tuple_is (suc room) ts s h = Spells.tuple_of room ts s h

-- ---- terms

pub under_is : {A B : Type 0} (f : A → B) (read : Read A) (y : B) (rest : List ℕ) → under f read ≡ Ok (y, rest) → (x : A) × (read ≡ Ok (x, rest)) × (f x ≡ y)
under_is {A} {B} f read y rest e =
    let x = bind_ok read (λ x. Ok (f x.0, x.1)) (y, rest) e in
    let p : B × List ℕ = (f x.0.0, x.0.1) in
    let q : B × List ℕ = (y, rest) in
    let h : p ≡ q = ok_is p q x.2 in
    let last : x.0.1 ≡ rest = ap (λ (r : B × List ℕ). r.1) h in
    (x.0.0, x.1 ∙ ap (λ (l : List ℕ). Ok (x.0.0, l)) last, ap (λ (r : B × List ℕ). r.0) h)

abbrev bracketed : (room open_byte close : ℕ) (f : Trees → Tree) (bs : List ℕ) (t : Tree) (rest : List ℕ) → Type 0
bracketed room open_byte close f bs t rest =
    ((ts : Trees) (s : List ℕ) → IsInner room ts s → Spells room (f ts) (open_byte ∷ (s ++ close ∷ []))) → ReadsInner room → under f
    (inside room close bs) ≡ Ok (t, rest) → Front (Spells room t) (open_byte ∷ bs) rest

bracketed_is : (room open_byte close : ℕ) (f : Trees → Tree) (bs : List ℕ) (t : Tree) (rest : List ℕ) → bracketed room open_byte close f bs t rest
bracketed_is room open_byte close f bs t rest spells reads e =
    let x = under_is f (inside room close bs) t rest e in
    let r = reads close bs x.0 rest x.1 in
    let P : Tree → Type 0 = λ y. Front (Spells room y) (open_byte ∷ bs) rest in
    subst P x.2 (record {
      text = open_byte ∷ (r.text ++ close ∷ []);
      parts = ap (λ (l : List ℕ). open_byte ∷ l)
          (r.parts ∙ simp append_assoc);
      is = spells x.0 r.text r.is;
    })

-- ---- words

all_cons : (p : ℕ → Bool) (x : ℕ) (xs : List ℕ) (b : Bool) → p x ≡ b → list_all p (take (prefix_len p xs) xs) ≡ true
    → list_all p (take (prefix_len p (x ∷ xs)) (x ∷ xs)) ≡ true
all_cons p x xs true e h =
    let c : prefix_len p (x ∷ xs) ≡ suc (prefix_len p xs) = rw e (omega arith) in
    rw (c, e) h
all_cons p x xs false e h =
    let c : prefix_len p (x ∷ xs) ≡ 0 = rw e refl in
    rw c refl

pub all_front : (p : ℕ → Bool) (xs : List ℕ) → list_all p (take (prefix_len p xs) xs) ≡ true
all_front p [] = refl
all_front p (x ∷ xs) = all_cons p x xs (p x) refl (all_front p xs)

name_is : (room b : ℕ) (bs : List ℕ) (t : Tree) (rest : List ℕ) → is_lower b ≡ true → name_at (b ∷ bs) ≡ Ok (t, rest) → Front (Spells room t) (b ∷ bs) rest
unfolding name_at
name_is room b bs t rest low e =
    let n = prefix_len is_atom_byte (b ∷ bs) in
    let is : is_atom_byte b ≡ true = rw low refl in
    let c : prefix_len is_atom_byte (b ∷ bs) ≡ suc (prefix_len is_atom_byte bs) = rw is (omega arith) in
    let first : begins is_lower (take n (b ∷ bs)) ≡ true = rw c low in
    let made : Tree × List ℕ = (atom (take n (b ∷ bs)), drop n (b ∷ bs)) in
    let P : Tree × List ℕ → Type 0 = λ y. Front (Spells room y.0) (b ∷ bs) y.1 in
    subst P (ok_is made (t, rest) e) (record {
      text = take n (b ∷ bs);
      parts = sym (take-append-drop n (b ∷ bs));
      is = Spells.name room
          (take n (b ∷ bs)) first (all_front is_atom_byte (b ∷ bs));
    })

-- what stands before a closing quote
pub record Quoted (quote : ℕ) (bs content rest : List ℕ) : Type 0 where
  pub inner : List ℕ
  pub parts : bs ≡ inner ++ quote ∷ rest
  pub is : IsQuoted quote inner content

pub record Escaped (quote : ℕ) (bs content rest : List ℕ) : Type 0 where
  letter : ℕ
  byte : ℕ
  after : List ℕ
  others : List ℕ
  stands : escape letter ≡ Some byte
  letter_is : bs ≡ letter ∷ after
  content_is : byte ∷ others ≡ content
  quoted_is : Quoted quote after others rest

abbrev pub QuotedAt : Bool → ℕ → List ℕ → List ℕ → List ℕ → Type 0
QuotedAt true quote bs content rest = Escaped quote bs content rest
QuotedAt false quote bs content rest = Quoted quote bs content rest

by_escape : (quote b : ℕ) (bs content rest : List ℕ) (f : Fault) (o : Option ℕ)
    (others : (c r : List ℕ) → quoted false quote bs ≡ Ok (c, r) → Quoted quote bs c r) → escape b ≡ o
    → ◌≡◌ {A = Read (List ℕ)} (elim o [ Some x ↦ with_byte x (quoted false quote bs) | None ↦ Err f ]) (Ok (content, rest))
    → Escaped quote (b ∷ bs) content rest
by_escape quote b bs content rest f None others is e = absurd cc
by_escape quote b bs content rest f (Some x) others is e =
    let r = under_is (λ (c : List ℕ). x ∷ c) (quoted false quote bs) content rest e in
    record { letter = b; byte = x; after = bs; others = r.0; stands = is; letter_is = refl; content_is = r.2; quoted_is = others r.0 rest r.1 }

pub quoted_is : (escaped : Bool) (quote : ℕ) (bs content rest : List ℕ) → quoted escaped quote bs ≡ Ok (content, rest) → QuotedAt escaped quote bs content rest
unfolding quoted
quoted_is true quote [] content rest e = absurd cc
quoted_is false quote [] content rest e = absurd cc
quoted_is true quote (b ∷ bs) content rest e =
    by_escape quote b bs content rest (Unsupported (1 + length (b ∷ bs))) (escape b) (λ c r h. quoted_is false quote bs c r h) refl e
quoted_is false quote (b ∷ bs) content rest e = elim (chosen (b == quote) (Ok ([], bs)) _ (Ok (content, rest)) e) [
  | inl p ↦
      let made : List ℕ × List ℕ = ([], bs) in
      let P : List ℕ × List ℕ → Type 0 = λ y. Quoted quote (b ∷ bs) y.0 y.1 in
      subst P (ok_is made (content, rest) p.1) (record { inner = []; parts = ap (λ (y : ℕ). y ∷ bs) (eqb-true b quote p.0); is = IsQuoted.nothing })
  | inr p ↦ elim (chosen (b == 92) (quoted true quote bs) (with_byte b (quoted false quote bs)) (Ok (content, rest)) p.1) [
    | inl q ↦
        let r = quoted_is true quote bs content rest q.1 in
        let i = r.quoted_is in
        let P : List ℕ → Type 0 = λ y. IsQuoted quote (92 ∷ (r.letter ∷ i.inner)) y in
        record {
          inner = 92 ∷ (r.letter ∷ i.inner);
          parts = ap (λ (y : ℕ). y ∷ bs) (eqb-true b 92 q.0) ∙ ap (λ (l : List ℕ). 92 ∷ l) (r.letter_is ∙ ap (λ (l : List ℕ). r.letter ∷ l) i.parts);
          is = subst P r.content_is (IsQuoted.escaped r.letter r.byte i.inner r.others r.stands i.is);
        }
    | inr q ↦
        let r = under_is (λ (c : List ℕ). b ∷ c) (quoted false quote bs) content rest q.1 in
        let i = quoted_is false quote bs r.0 rest r.1 in
        let P : List ℕ → Type 0 = λ y. IsQuoted quote (b ∷ i.inner) y in
        record { inner = b ∷ i.inner; parts = ap (λ (l : List ℕ). b ∷ l) i.parts; is = subst P r.2 (IsQuoted.plain b i.inner r.0 p.0 q.0 i.is) }
  ]
]

quoted_atom_is : (room : ℕ) (bs : List ℕ) (t : Tree) (rest : List ℕ) → quoted_atom_at bs ≡ Ok (t, rest) → Front (Spells room t) (39 ∷ bs) rest
unfolding quoted_atom_at
quoted_atom_is room bs t rest e =
    let r = under_is atom (quoted false 39 bs) t rest e in
    let i = quoted_is false 39 bs r.0 rest r.1 in
    let P : Tree → Type 0 = λ y. Front (Spells room y) (39 ∷ bs) rest in
    subst P r.2 (record {
      text = 39 ∷ (i.inner ++ 39 ∷ []);
      parts = ap (λ (l : List ℕ). 39 ∷ l)
          (i.parts ∙ simp append_assoc);
      is = Spells.quoted_atom room i.inner r.0 i.is;
    })

text_is : (room : ℕ) (bs : List ℕ) (t : Tree) (rest : List ℕ) → text_at bs ≡ Ok (t, rest) → Front (Spells room t) (34 ∷ bs) rest
unfolding text_at
text_is room bs t rest e =
    let x = bind_ok (quoted false 34 bs) (λ x. cond (begins (λ b. b == 34) (past_blank x.1)) (Err (Unsupported (length (past_blank x.1)))) (Ok (text x.0, x.1)))
    (t, rest) e in
    elim (chosen (begins (λ b. b == 34) (past_blank x.0.1)) (Err (Unsupported (length (past_blank x.0.1)))) (Ok (text x.0.0, x.0.1)) (Ok (t, rest)) x.2) [
      | inl p ↦ let h : ◌≡◌ {A = Read Tree} (Err (Unsupported (length (past_blank x.0.1)))) (Ok (t, rest)) = p.1 in absurd cc
      | inr p ↦
          let i = quoted_is false 34 bs x.0.0 x.0.1 x.1 in
          let made : Tree × List ℕ = (text x.0.0, x.0.1) in
          let P : Tree × List ℕ → Type 0 = λ y. Front (Spells room y.0) (34 ∷ bs) y.1 in
          subst P (ok_is made (t, rest) p.1)
          (record {
            text = 34 ∷ (i.inner ++ 34 ∷ []);
            parts = ap (λ (l : List ℕ). 34 ∷ l)
                (i.parts ∙ simp append_assoc);
            is = Spells.text_of room i.inner x.0.0 i.is;
          })
    ]

abbrev SpellsDigits : Bool → ℕ → Tree → List ℕ → Type 0
SpellsDigits minus room t s = (0 < length s) × (list_all is_digit s ≡ true) × (fits minus (number s) ≡ true) × (int (signed minus (number s)) ≡ t)

pub not_false : (b : Bool) → not b ≡ false → b ≡ true
not_false true e = refl
not_false false e = absurd cc

digits_is : (minus : Bool) (room : ℕ) (bs : List ℕ) (t : Tree) (rest : List ℕ) → digits_at minus bs ≡ Ok (t, rest) → Front (SpellsDigits minus room t) bs rest
unfolding digits_at
digits_is minus room bs t rest e =
    let n = prefix_len is_digit bs in
    elim (chosen (n == 0) (Err (stuck bs)) _ (Ok (t, rest)) e) [
      | inl p ↦ let h : ◌≡◌ {A = Read Tree} (Err (stuck bs)) (Ok (t, rest)) = p.1 in absurd cc
      | inr p ↦ elim (chosen (not (fits minus (number (take n bs)))) (Err IntRange) _ (Ok (t, rest)) p.1) [
        | inl q ↦ let h : ◌≡◌ {A = Read Tree} (Err IntRange) (Ok (t, rest)) = q.1 in absurd cc
        | inr q ↦
            elim (chosen (is_other_number (drop n bs)) (Err (Unsupported (length (drop n bs))))
            (Ok (int (signed minus (number (take n bs))), drop n bs)) (Ok (t, rest)) q.1) [
              | inl r ↦ let h : ◌≡◌ {A = Read Tree} (Err (Unsupported (length (drop n bs)))) (Ok (t, rest)) = r.1 in absurd cc
              | inr r ↦
                  let len : length (take n bs) ≡ n = length-prefix_len is_digit bs in
                  let some : 0 < length (take n bs) = rw len (grind (arith, nat_tests, p.0)) in
                  let fit : fits minus (number (take n bs)) ≡ true = not_false _ q.0 in
                  let made : Tree × List ℕ = (int (signed minus (number (take n bs))), drop n bs) in
                  let P : Tree × List ℕ → Type 0 = λ y. Front (SpellsDigits minus room y.0) bs y.1 in
                  subst P (ok_is made (t, rest) r.1)
                  (record { text = take n bs; parts = sym (take-append-drop n bs); is = (some, all_front is_digit bs, fit, refl) })
            ]
      ]
    ]

integer_is : (room : ℕ) (bs : List ℕ) (t : Tree) (rest : List ℕ) → integer_at bs ≡ Ok (t, rest) → Front (Spells room t) bs rest
unfolding integer_at
integer_is room bs t rest e = elim (chosen (begins (λ b. b == 45) bs) (digits_at true (drop 1 bs)) (digits_at false bs) (Ok (t, rest)) e) [
  | inl p ↦
      let r = digits_is true room (drop 1 bs) t rest p.1 in
      let P : Tree → Type 0 = λ y. Spells room y (45 ∷ r.text) in
      record {
        text = 45 ∷ r.text;
        parts = begins_is 45 bs p.0 ∙ ap (λ (l : List ℕ). 45 ∷ l) r.parts;
        is = subst P r.is.3
            (Spells.minus room r.text r.is.0 r.is.1 r.is.2);
      }
  | inr p ↦
      let r = digits_is false room bs t rest p.1 in
      let P : Tree → Type 0 = λ y. Spells room y r.text in
      record { text = r.text; parts = r.parts; is = subst P r.is.3 (Spells.integer room r.text r.is.0 r.is.1 r.is.2) }
]

-- ---- a term

at_byte : (room b c : ℕ) (bs : List ℕ) (t : Tree) (rest : List ℕ) → (b == c) ≡ true → Front (Spells room t) (c ∷ bs) rest → Front (Spells room t) (b ∷ bs) rest
at_byte room b c bs t rest e h =
    let P : ℕ → Type 0 = λ y. Front (Spells room t) (y ∷ bs) rest in
    subst P (sym (eqb-true b c e)) h

word_is : (room : ℕ) → Reads word_at room
unfolding word_at
word_is room [] t rest e = absurd cc
word_is room (b ∷ bs) t rest e = elim (chosen (is_lower b) (name_at (b ∷ bs)) _ (Ok (t, rest)) e) [
  | inl p ↦ name_is room b bs t rest p.0 p.1
  | inr p ↦ elim (chosen (b == 39) (quoted_atom_at bs) _ (Ok (t, rest)) p.1) [
    | inl q ↦ at_byte room b 39 bs t rest q.0 (quoted_atom_is room bs t rest q.1)
    | inr q ↦ elim (chosen (b == 34) (text_at bs) _ (Ok (t, rest)) q.1) [
      | inl r ↦ at_byte room b 34 bs t rest r.0 (text_is room bs t rest r.1)
      | inr r ↦ elim (chosen ((b == 45) || is_digit b) (integer_at (b ∷ bs)) (Err (stuck (b ∷ bs))) (Ok (t, rest)) r.1) [
        | inl u ↦ integer_is room (b ∷ bs) t rest u.1
        | inr u ↦ let h : ◌≡◌ {A = Read Tree} (Err (stuck (b ∷ bs))) (Ok (t, rest)) = u.1 in absurd cc
      ]
    ]
  ]
]

term_is : (room : ℕ) → ReadsInner room → Reads (term_by (inside room)) room
unfolding term_by
term_is room inner bs t rest e =
    let P : List ℕ → Type 0 = λ l. Front (Spells room t) l rest in
    elim (chosen (begins (λ b. b == 91) bs) (under list (inside room 93 (drop 1 bs))) _ (Ok (t, rest)) e) [
      | inl p ↦ subst P (sym (begins_is 91 bs p.0)) (bracketed_is room 91 93 list (drop 1 bs) t rest (list_is room) inner p.1)
      | inr p ↦ elim (chosen (begins (λ b. b == 123) bs) (under tuple (inside room 125 (drop 1 bs))) (word_at bs) (Ok (t, rest)) p.1) [
        | inl q ↦ subst P (sym (begins_is 123 bs q.0)) (bracketed_is room 123 125 tuple (drop 1 bs) t rest (tuple_is room) inner q.1)
        | inr q ↦ word_is room bs t rest q.1
      ]
    ]

inside_is : (room : ℕ) → ReadsInner room
unfolding inside
inside_is zero close bs ts rest e = absurd cc
inside_is (suc room) close bs ts rest e = inside_one room close (term_by (inside room)) (term_is room (inside_is room)) bs ts rest e

-- What is read as a term is spelled so.
pub term_spelled : (room : ℕ) → Reads (term_at room) room
term_spelled room = term_is room (inside_is room)
