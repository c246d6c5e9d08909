-- What is spelled is read.
use Rattle.std.proofs.Common.{◌≡◌, ◌<◌, ◌≤◌, ◌+◌, ℕ, zero, suc, List, [], ◌∷◌, ◌++◌, Bool, true, false, cond, Result}
use Rattle.std.proofs.Common.{Ok, Err, Option, Some, None, length, refl, sym, ap, subst, ◌∙◌, append_assoc, arith, inl}
use Rattle.std.proofs.Common.{inr, length-append}
use Rattle.std.specs.Prelude.{◌==◌, ◌||◌, not, ◌⊎◌}
use Rattle.std.specs.List.{prefix_len, list_all}
use Rattle.std.proofs.Math.Seq.{take-append_seam, drop-append_seam}
use Rattle.std.proofs.lemmas.List.{append-nil}
use Rattle.std.proofs.lemmas.Bool.Decides.{nat_tests}
use Rattle.rh_terms.specs.declared.nest.TheConstants.{MAX_DEPTH}
use Rattle.rh_terms.specs.declared.fault.Fault.{Fault}
use Rattle.rh_terms.specs.declared.fault.Fault.TheVariants.{Unsupported}
use Rattle.rh_terms.specs.Bytes.{past, past_blank, begins, is_white, is_lower, is_atom_byte, is_digit, is_end}
use Rattle.rh_terms.specs.Faults.{Read, under, stuck}
use Rattle.rh_terms.specs.Tokens.{escape, quoted, with_byte, number, fits, signed, is_other_number, digits_at, integer_at, name_at, quoted_atom_at, text_at}
use Rattle.rh_base.specs.Tree.{Tree, Trees, atom, int, text, list, tuple, none, more}
use Rattle.rh_terms.specs.Grammar.{word_at, term_by, next_at, some_terms, terms_up_to, inside, term_at, dot_at, dotted}
use Rattle.rh_terms.proofs.Cut.{and_is}
use Rattle.rh_terms.proofs.Whole.{trees_is}
use Rattle.rh_terms.specs.Spelling.{IsQuoted, InLine, IsBlank, Spells, IsInside, AreSeparated, AreDotted}

-- ---- blanks

not_true : (b : Bool) → not b ≡ true → b ≡ false
not_true true e = absurd cc
not_true false e = refl

in_line_parts : (b : ℕ) (line : List ℕ) → InLine (b ∷ line) → ((b == 10) ≡ false) × InLine line
in_line_parts b line h =
    let p = and_is (not (b == 10)) (list_all (λ b. not (b == 10)) line) h in
    (not_true (b == 10) p.0, p.1)

comment_read : (line rest : List ℕ) → InLine line → past true (line ++ 10 ∷ rest) ≡ past_blank rest
unfolding past
comment_read [] rest h = refl
comment_read (b ∷ line) rest h =
    let p = in_line_parts b line h in
    rw p.0 (comment_read line rest p.1)

last_comment_read : (line : List ℕ) → InLine line → past true line ≡ []
unfolding past
last_comment_read [] h = refl
last_comment_read (b ∷ line) h =
    let p = in_line_parts b line h in
    rw p.0 (last_comment_read line p.1)

pub blank_read : (a rest : List ℕ) → IsBlank a → past_blank (a ++ rest) ≡ past_blank rest
unfolding past
blank_read a rest IsBlank.nothing = refl
blank_read a rest (IsBlank.white b bs w h) =
    let no_comment : (b == 37) ≡ false = grind (arith, nat_tests, w) in
    rw (no_comment, w) (blank_read bs rest h)
blank_read a rest (IsBlank.comment line bs in_line h) = rw append_assoc (comment_read line (bs ++ rest) in_line ∙ blank_read bs rest h)

-- ---- what may follow a word

-- a byte that ends each word, and what stands behind it
record IsMark (c : ℕ) (r : List ℕ) : Type 0 where
  no_name : is_atom_byte c ≡ false
  no_number : is_other_number (c ∷ r) ≡ false
  no_quote : (c == 34) ≡ false
  no_blank : past_blank (c ∷ r) ≡ c ∷ r

-- what may stand behind a word
record IsStop (rest : List ℕ) : Type 0 where
  no_name : begins is_atom_byte rest ≡ false
  no_digit : begins is_digit rest ≡ false
  no_number : is_other_number rest ≡ false
  no_quote : begins (λ b. b == 34) (past_blank rest) ≡ false

no_digit_of : (c : ℕ) → is_atom_byte c ≡ false → is_digit c ≡ false
no_digit_of c e = grind (arith, nat_tests, e)

white_is_no_name : (b : ℕ) → is_white b ≡ true → is_atom_byte b ≡ false
white_is_no_name b w = grind (arith, nat_tests, w)

white_is_no_number : (b : ℕ) (r : List ℕ) → is_white b ≡ true → is_other_number (b ∷ r) ≡ false
white_is_no_number b r w =
    let h : (b == 35) ≡ false = grind (arith, nat_tests, w) in
    let u : (b == 95) ≡ false = grind (arith, nat_tests, w) in
    let d : (b == 46) ≡ false = grind (arith, nat_tests, w) in
    rw (h, u, d) refl

stop : (b : List ℕ) (c : ℕ) (r : List ℕ) → IsBlank b → IsMark c r → IsStop (b ++ c ∷ r)
stop b c r blank mark =
    let behind : past_blank (b ++ c ∷ r) ≡ c ∷ r = blank_read b (c ∷ r) blank ∙ mark.no_blank in
    let no_quote : begins (λ b. b == 34) (past_blank (b ++ c ∷ r)) ≡ false = rw behind mark.no_quote in
    by_blank b blank no_quote
  where
    by_blank : (b : List ℕ) → IsBlank b → begins (λ b. b == 34) (past_blank (b ++ c ∷ r)) ≡ false → IsStop (b ++ c ∷ r)
    by_blank b IsBlank.nothing q = record { no_name = mark.no_name; no_digit = no_digit_of c mark.no_name; no_number = mark.no_number; no_quote = q }
    by_blank b (IsBlank.white w bs is h) q =
        record {
          no_name = white_is_no_name w is;
          no_digit = no_digit_of w (white_is_no_name w is);
          no_number = white_is_no_number w
              (bs ++ c ∷ r) is;
          no_quote = q;
        }
    by_blank b (IsBlank.comment line bs in_line h) q = record { no_name = refl; no_digit = refl; no_number = refl; no_quote = q }

comma_mark : (r : List ℕ) → IsMark 44 r
unfolding past
comma_mark r = record { no_name = refl; no_number = refl; no_quote = refl; no_blank = refl }

-- a closing byte
record IsClose (close : ℕ) : Type 0 where
  mark : (r : List ℕ) → IsMark close r
  same : (close == close) ≡ true
  no_comma : (close == 44) ≡ false

list_close : IsClose 93
unfolding past
list_close = record { mark = λ r. record { no_name = refl; no_number = refl; no_quote = refl; no_blank = refl }; same = refl; no_comma = refl }

tuple_close : IsClose 125
unfolding past
tuple_close = record { mark = λ r. record { no_name = refl; no_number = refl; no_quote = refl; no_blank = refl }; same = refl; no_comma = refl }

end_is_no_digit : (b : ℕ) → is_end b ≡ true → is_digit b ≡ false
end_is_no_digit b e = grind (arith, nat_tests, e)

no_digit_after : (r : List ℕ) → (length r ≡ 0) ⊎ (begins is_end r ≡ true) → begins is_digit r ≡ false
no_digit_after [] ends = refl
no_digit_after (b ∷ r) (inl h) = absurd (omega arith)
no_digit_after (b ∷ r) (inr h) = end_is_no_digit b h

dot_mark : (r : List ℕ) → (length r ≡ 0) ⊎ (begins is_end r ≡ true) → IsMark 46 r
unfolding past
dot_mark r ends = record { no_name = refl; no_number = no_digit_after r ends; no_quote = refl; no_blank = refl }

-- ---- words

pub prefix_step : (p : ℕ → Bool) (b : ℕ) (bs : List ℕ) → p b ≡ true → prefix_len p (b ∷ bs) ≡ suc (prefix_len p bs)
prefix_step p b bs e = rw e (omega arith)

pub prefix_end : (p : ℕ → Bool) (bs : List ℕ) → begins p bs ≡ false → prefix_len p bs ≡ 0
prefix_end p [] e = refl
prefix_end p (b ∷ bs) e = rw e refl

pub prefix_all : (p : ℕ → Bool) (s rest : List ℕ) → list_all p s ≡ true → begins p rest ≡ false → prefix_len p (s ++ rest) ≡ length s
prefix_all p [] rest all ends = prefix_end p rest ends
prefix_all p (b ∷ s) rest all ends =
    let h = and_is (p b) (list_all p s) all in
    prefix_step p b (s ++ rest) h.0 ∙ ap (λ (n : ℕ). suc n) (prefix_all p s rest h.1 ends)

name_read : (s rest : List ℕ) → list_all is_atom_byte s ≡ true → IsStop rest → name_at (s ++ rest) ≡ Ok (atom s, rest)
unfolding name_at
name_read s rest all ends =
    let n : prefix_len is_atom_byte (s ++ rest) ≡ length s = prefix_all is_atom_byte s rest all ends.no_name in
    rw (n, take-append_seam s rest, drop-append_seam s rest) refl

digits_read : (minus : Bool) (s rest : List ℕ) → 0 < length s → list_all is_digit s ≡ true → fits minus (number s) ≡ true → IsStop rest
    → digits_at minus (s ++ rest) ≡ Ok (int (signed minus (number s)), rest)
unfolding digits_at
digits_read minus s rest some all fit ends =
    let n : prefix_len is_digit (s ++ rest) ≡ length s = prefix_all is_digit s rest all ends.no_digit in
    let t : (length s == 0) ≡ false = grind (arith, nat_tests, some) in
    rw (n, take-append_seam s rest, drop-append_seam s rest, t, fit, ends.no_number) refl

escaped_read : (quote b x : ℕ) (bs content rest : List ℕ) → escape b ≡ Some x → quoted false quote bs ≡ Ok (content, rest)
    → quoted true quote (b ∷ bs) ≡ Ok (x ∷ content, rest)
unfolding quoted
escaped_read quote b x bs content rest e read =
    let P : Option ℕ → Type 0 =
    λ o. ◌≡◌ {A = Read (List ℕ)} (elim o [
      | Some x ↦
          with_byte x (quoted false quote bs)
      | None ↦ Err (Unsupported (1 + length (b ∷ bs)))
    ]) (Ok (x ∷ content, rest)) in
    let one : ◌≡◌ {A = Read (List ℕ)} (with_byte x (quoted false quote bs)) (Ok (x ∷ content, rest)) = rw read refl in
    subst P (sym e) one

pub quoted_read : (quote : ℕ) (s content rest : List ℕ) → (quote == quote) ≡ true → (92 == quote) ≡ false → IsQuoted quote s content
    → quoted false quote (s ++ quote ∷ rest) ≡ Ok (content, rest)
unfolding quoted
quoted_read quote s content rest same other IsQuoted.nothing = rw same refl
quoted_read quote s content rest same other (IsQuoted.plain b bs inner q e h) = rw (q, e, quoted_read quote bs inner rest same other h) refl
quoted_read quote s content rest same other (IsQuoted.escaped b x bs inner e h) =
    rw other (escaped_read quote b x (bs ++ quote ∷ rest) inner rest e (quoted_read quote bs inner rest same other h))

pub atom_read : (s content rest : List ℕ) → IsQuoted 39 s content → quoted_atom_at ((s ++ 39 ∷ []) ++ rest) ≡ Ok (atom content, rest)
unfolding quoted_atom_at
atom_read s content rest h = rw (append_assoc s (39 ∷ []) rest, quoted_read 39 s content rest refl refl h) refl

text_read : (s content rest : List ℕ) → IsQuoted 34 s content → IsStop rest → text_at ((s ++ 34 ∷ []) ++ rest) ≡ Ok (text content, rest)
unfolding text_at
text_read s content rest h ends = rw (append_assoc s (34 ∷ []) rest, quoted_read 34 s content rest refl refl h, ends.no_quote) refl

-- ---- the first byte of a term

pub record CanBegin (b : ℕ) : Type 0 where
  no_white : is_white b ≡ false
  no_comment : (b == 37) ≡ false
  no_list_end : (b == 93) ≡ false
  no_tuple_end : (b == 125) ≡ false

pub record Begins (s : List ℕ) : Type 0 where
  first : ℕ
  others : List ℕ
  parts : s ≡ first ∷ others
  is : CanBegin first

lower_begins : (b : ℕ) → is_lower b ≡ true → CanBegin b
lower_begins b e =
    record {
      no_white = grind (arith, nat_tests, e);
      no_comment = grind (arith, nat_tests, e);
      no_list_end = grind
          (arith, nat_tests, e);
      no_tuple_end = grind (arith, nat_tests, e);
    }

digit_begins : (b : ℕ) → is_digit b ≡ true → CanBegin b
digit_begins b e =
    record {
      no_white = grind (arith, nat_tests, e);
      no_comment = grind (arith, nat_tests, e);
      no_list_end = grind
          (arith, nat_tests, e);
      no_tuple_end = grind (arith, nat_tests, e);
    }

name_begins : (s : List ℕ) → begins is_lower s ≡ true → Begins s
name_begins [] e = absurd cc
name_begins (b ∷ s) e = record { first = b; others = s; parts = refl; is = lower_begins b e }

digits_begin : (s : List ℕ) → 0 < length s → list_all is_digit s ≡ true → Begins s
digits_begin [] some all = absurd (omega arith)
digits_begin (b ∷ s) some all = record { first = b; others = s; parts = refl; is = digit_begins b (and_is (is_digit b) (list_all is_digit s) all).0 }

abbrev begins_with : (b : ℕ) (s : List ℕ) → CanBegin b → Begins (b ∷ s)
begins_with b s is = record { first = b; others = s; parts = refl; is = is }

pub spelling_begins : (room : ℕ) (t : Tree) (s : List ℕ) → Spells room t s → Begins s
spelling_begins room t s (Spells.name r name first all) = name_begins name first
spelling_begins room t s (Spells.quoted_atom r q content h) =
    begins_with 39 (q ++ 39 ∷ []) (record { no_white = refl; no_comment = refl; no_list_end = refl; no_tuple_end = refl })
spelling_begins room t s (Spells.text_of r q content h) =
    begins_with 34 (q ++ 34 ∷ []) (record { no_white = refl; no_comment = refl; no_list_end = refl; no_tuple_end = refl })
spelling_begins room t s (Spells.integer r d some all fit) = digits_begin d some all
spelling_begins room t s (Spells.minus r d some all fit) =
    begins_with 45 d (record { no_white = refl; no_comment = refl; no_list_end = refl; no_tuple_end = refl })
spelling_begins room t s (Spells.list_of inner ts q h) =
    begins_with 91 (q ++ 93 ∷ []) (record { no_white = refl; no_comment = refl; no_list_end = refl; no_tuple_end = refl })
spelling_begins room t s (Spells.tuple_of inner ts q h) =
    begins_with 123 (q ++ 125 ∷ []) (record { no_white = refl; no_comment = refl; no_list_end = refl; no_tuple_end = refl })

separated_begins : (room : ℕ) (ts : Trees) (s : List ℕ) → AreSeparated room ts s → Begins s
separated_begins room ts s (AreSeparated.last r t u b h blank) =
    let f = spelling_begins r t u h in
    record { first = f.first; others = f.others ++ b; parts = ap (λ (l : List ℕ). l ++ b) f.parts; is = f.is }
separated_begins room ts s (AreSeparated.comma r t us u b a q h blank after others) =
    let f = spelling_begins r t u h in
    record { first = f.first; others = f.others ++ (b ++ 44 ∷ (a ++ q)); parts = ap (λ (l : List ℕ). l ++ (b ++ 44 ∷ (a ++ q))) f.parts; is = f.is }

-- a term is no blank
kept : (s rest : List ℕ) → Begins s → past_blank (s ++ rest) ≡ s ++ rest
unfolding past
kept s rest f =
    let one : past_blank (f.first ∷ (f.others ++ rest)) ≡ f.first ∷ (f.others ++ rest) = rw (f.is.no_comment, f.is.no_white) refl in
    rw f.parts one

-- a term has a byte at least
pub some_byte : (s : List ℕ) → Begins s → 0 < length s
some_byte s f = rw f.parts (omega arith)

no_close : (close : ℕ) (s rest : List ℕ) → (close ≡ 93) ⊎ (close ≡ 125) → Begins s → begins (λ b. b == close) (s ++ rest) ≡ false
no_close close s rest (inl e) f = rw (f.parts, e) f.is.no_list_end
no_close close s rest (inr e) f = rw (f.parts, e) f.is.no_tuple_end

is_close : (close : ℕ) → (close ≡ 93) ⊎ (close ≡ 125) → IsClose close
is_close close (inl e) = rw e list_close
is_close close (inr e) = rw e tuple_close

-- ---- terms

next_close : (close : ℕ) (b rest : List ℕ) → IsClose close → IsBlank b → next_at close (past_blank (b ++ close ∷ rest)) ≡ Ok (false, rest)
unfolding next_at
next_close close b rest is blank =
    let behind : past_blank (b ++ close ∷ rest) ≡ close ∷ rest = blank_read b (close ∷ rest) blank ∙ (is.mark rest).no_blank in
    rw (behind, is.no_comma, is.same) refl

pub next_comma : (close : ℕ) (b rest : List ℕ) → IsBlank b → next_at close (past_blank (b ++ 44 ∷ rest)) ≡ Ok (true, past_blank rest)
unfolding next_at
next_comma close b rest blank =
    let behind : past_blank (b ++ 44 ∷ rest) ≡ 44 ∷ rest = blank_read b (44 ∷ rest) blank ∙ (comma_mark rest).no_blank in
    rw behind refl

pub name_term : (inner : ℕ → List ℕ → Read Trees) (s rest : List ℕ) → begins is_lower s ≡ true → term_by inner (s ++ rest) ≡ name_at (s ++ rest)
unfolding term_by word_at
name_term inner [] rest e = absurd cc
name_term inner (b ∷ s) rest e =
    let l : (b == 91) ≡ false = grind (arith, nat_tests, e) in
    let t : (b == 123) ≡ false = grind (arith, nat_tests, e) in
    rw (l, t, e) refl

pub digits_term : (inner : ℕ → List ℕ → Read Trees) (s rest : List ℕ) → 0 < length s → list_all is_digit s ≡ true
    → term_by inner (s ++ rest) ≡ digits_at false (s ++ rest)
unfolding term_by word_at integer_at
digits_term inner [] rest some all = absurd (omega arith)
digits_term inner (b ∷ s) rest some all =
    let d : is_digit b ≡ true = (and_is (is_digit b) (list_all is_digit s) all).0 in
    let l : (b == 91) ≡ false = grind (arith, nat_tests, d) in
    let u : (b == 123) ≡ false = grind (arith, nat_tests, d) in
    let n : is_lower b ≡ false = grind (arith, nat_tests, d) in
    let q : (b == 39) ≡ false = grind (arith, nat_tests, d) in
    let t : (b == 34) ≡ false = grind (arith, nat_tests, d) in
    let m : (b == 45) ≡ false = grind (arith, nat_tests, d) in
    rw (l, u, n, q, t, m, d) refl

pub minus_term : (inner : ℕ → List ℕ → Read Trees) (s : List ℕ) → term_by inner (45 ∷ s) ≡ digits_at true s
unfolding term_by word_at integer_at
minus_term inner s = refl

pub quoted_term : (inner : ℕ → List ℕ → Read Trees) (s : List ℕ) → term_by inner (39 ∷ s) ≡ quoted_atom_at s
unfolding term_by word_at
quoted_term inner s = refl

pub text_term : (inner : ℕ → List ℕ → Read Trees) (s : List ℕ) → term_by inner (34 ∷ s) ≡ text_at s
unfolding term_by word_at
text_term inner s = refl

pub list_term : (room : ℕ) (s rest : List ℕ) → term_at (suc room) (91 ∷ ((s ++ 93 ∷ []) ++ rest)) ≡ under list (terms_up_to (term_at room) 93 (s ++ 93 ∷ rest))
unfolding term_by inside
list_term room s rest = rw (append_assoc s (93 ∷ []) rest) refl

pub tuple_term : (room : ℕ) (s rest : List ℕ)
    → term_at (suc room) (123 ∷ ((s ++ 125 ∷ []) ++ rest)) ≡ under tuple (terms_up_to (term_at room) 125 (s ++ 125 ∷ rest))
unfolding term_by inside
tuple_term room s rest = rw (append_assoc s (125 ∷ []) rest) refl

empty_inside : (term : List ℕ → Read Tree) (close : ℕ) (a rest : List ℕ) → IsClose close → IsBlank a
    → terms_up_to term close (a ++ close ∷ rest) ≡ Ok (none, rest)
unfolding terms_up_to
empty_inside term close a rest is blank =
    let behind : past_blank (a ++ close ∷ rest) ≡ close ∷ rest = blank_read a (close ∷ rest) blank ∙ (is.mark rest).no_blank in
    rw (behind, is.same) refl

some_inside : (term : List ℕ → Read Tree) (close : ℕ) (a s rest : List ℕ) → (close ≡ 93) ⊎ (close ≡ 125) → IsBlank a → Begins s
    → terms_up_to term close ((a ++ s) ++ close ∷ rest) ≡ some_terms term close (length (s ++ close ∷ rest)) (s ++ close ∷ rest)
unfolding terms_up_to
some_inside term close a s rest is blank f =
    let behind : past_blank (a ++ (s ++ close ∷ rest)) ≡ s ++ close ∷ rest = blank_read a (s ++ close ∷ rest) blank ∙ kept s (close ∷ rest) f in
    let e : (a ++ s) ++ close ∷ rest ≡ a ++ (s ++ close ∷ rest) = append_assoc a s (close ∷ rest) in
    rw (e, behind, no_close close s (close ∷ rest) is f) refl

-- one step over a term in a list or a tuple
last_step : (term : List ℕ → Read Tree) (close n : ℕ) (t : Tree) (s b rest : List ℕ) → 0 < n → IsClose close → IsBlank b
    → term (s ++ (b ++ close ∷ rest)) ≡ Ok (t, b ++ close ∷ rest) → some_terms term close n ((s ++ b) ++ close ∷ rest) ≡ Ok (more t none, rest)
unfolding some_terms
last_step term close zero t s b rest some is blank read = absurd (omega arith)
last_step term close (suc n) t s b rest some is blank read =
    let e : (s ++ b) ++ close ∷ rest ≡ s ++ (b ++ close ∷ rest) = append_assoc s b (close ∷ rest) in
    rw (e, read, next_close close b rest is blank) refl

comma_step : (term : List ℕ → Read Tree) (close n : ℕ) (t : Tree) (ts : Trees) (s b a q rest : List ℕ) → IsBlank b → IsBlank a → Begins q
    → term (s ++ (b ++ 44 ∷ (a ++ (q ++ close ∷ rest)))) ≡ Ok (t, b ++ 44 ∷ (a ++ (q ++ close ∷ rest)))
    → some_terms term close n (q ++ close ∷ rest) ≡ Ok (ts, rest)
    → some_terms term close (suc n) ((s ++ (b ++ 44 ∷ (a ++ q))) ++ close ∷ rest) ≡ Ok (more t ts, rest)
unfolding some_terms
comma_step term close n t ts s b a q rest blank after f read others =
    let e : (s ++ (b ++ 44 ∷ (a ++ q))) ++ close ∷ rest ≡ s ++ (b ++ 44 ∷ (a ++ (q ++ close ∷ rest))) = simp append_assoc in
    let behind : past_blank (a ++ (q ++ close ∷ rest)) ≡ q ++ close ∷ rest = blank_read a (q ++ close ∷ rest) after ∙ kept q (close ∷ rest) f in
    rw (e, read, next_comma close b (a ++ (q ++ close ∷ rest)) blank, behind, others) refl

abbrev pub list_or_tuple : ℕ → Type 0
list_or_tuple close = (close ≡ 93) ⊎ (close ≡ 125)

mutual
  term_read : (room : ℕ) (t : Tree) (s : List ℕ) → Spells room t s → (rest : List ℕ) → IsStop rest → term_at room (s ++ rest) ≡ Ok (t, rest)
  term_read room t s (Spells.name r name first all) rest ends = name_term (inside r) name rest first ∙ name_read name rest all ends
  term_read room t s (Spells.quoted_atom r q content h) rest ends = quoted_term (inside r) ((q ++ 39 ∷ []) ++ rest) ∙ atom_read q content rest h
  term_read room t s (Spells.text_of r q content h) rest ends = text_term (inside r) ((q ++ 34 ∷ []) ++ rest) ∙ text_read q content rest h ends
  term_read room t s (Spells.integer r d some all fit) rest ends = digits_term (inside r) d rest some all ∙ digits_read false d rest some all fit ends
  term_read room t s (Spells.minus r d some all fit) rest ends = minus_term (inside r) (d ++ rest) ∙ digits_read true d rest some all fit ends
  term_read room t s (Spells.list_of inner ts q h) rest ends =
      list_term inner q rest ∙ ap (λ (r : Read Trees). under list r) (inside_read inner ts q h 93 rest (inl refl))
  term_read room t s (Spells.tuple_of inner ts q h) rest ends =
      tuple_term inner q rest ∙ ap (λ (r : Read Trees). under tuple r) (inside_read inner ts q h 125 rest (inr refl))

  pub inside_read : (room : ℕ) (ts : Trees) (s : List ℕ) → IsInside room ts s → (close : ℕ) (rest : List ℕ) → list_or_tuple close
      → terms_up_to (term_at room) close (s ++ close ∷ rest) ≡ Ok (ts, rest)
  inside_read room ts s (IsInside.nothing r a blank) close rest is = empty_inside (term_at r) close a rest (is_close close is) blank
  inside_read room ts s (IsInside.some r us a q blank h) close rest is =
      some_inside (term_at r) close a q rest is blank (separated_begins r us q h)
      ∙ separated_read r us q h close rest (length (q ++ close ∷ rest)) is (omega (arith, length-append q (close ∷ rest)))

  separated_read : (room : ℕ) (ts : Trees) (s : List ℕ) → AreSeparated room ts s → (close : ℕ) (rest : List ℕ) (n : ℕ) → list_or_tuple close
      → length s ≤ n → some_terms (term_at room) close n (s ++ close ∷ rest) ≡ Ok (ts, rest)
  separated_read room ts s (AreSeparated.last r t u b h blank) close rest n is fuel =
      let some = some_byte u (spelling_begins r t u h) in
      let left : 0 < n = omega (arith, length-append u b) in
      let c = is_close close is in
      last_step (term_at r) close n t u b rest left c blank (term_read r t u h (b ++ close ∷ rest) (stop b close rest blank (c.mark rest)))
  separated_read room ts s (AreSeparated.comma r t us u b a q h blank after others) close rest zero is fuel =
      let some = some_byte u (spelling_begins r t u h) in
      absurd (omega (arith, length-append u (b ++ 44 ∷ (a ++ q))))
  separated_read room ts s (AreSeparated.comma r t us u b a q h blank after others) close rest (suc n) is fuel =
      let some = some_byte u (spelling_begins r t u h) in
      let left : length q ≤ n = omega (arith, length-append u (b ++ 44 ∷ (a ++ q)), length-append b (44 ∷ (a ++ q)), length-append a q) in
      let behind : List ℕ = a ++ (q ++ close ∷ rest) in
      comma_step (term_at r) close n t us u b a q rest blank after (separated_begins r us q others)
      (term_read r t u h (b ++ 44 ∷ behind) (stop b 44 behind blank (comma_mark behind))) (separated_read r us q others close rest n is left)

-- ---- whole texts

pub dot_read : (r : List ℕ) → (length r ≡ 0) ⊎ (begins is_end r ≡ true) → dot_at (46 ∷ r) ≡ Ok r
unfolding dot_at
dot_read r (inl e) =
    let one : (length (46 ∷ r) == 1) ≡ true = grind (arith, nat_tests, e) in
    rw one refl
dot_read r (inr e) = by_test (length (46 ∷ r) == 1)
  where
    by_test : (t : Bool) → ◌≡◌ {A = Result (List ℕ) Fault} (cond (t || begins is_end r) (Ok r) (Err (stuck r))) (Ok r)
    by_test true = refl
    by_test false = rw e refl

dotted_step : (n : ℕ) (t : Tree) (ts : Trees) (s b r : List ℕ) → Begins s → IsBlank b → (length r ≡ 0) ⊎ (begins is_end r ≡ true)
    → term_at MAX_DEPTH (s ++ (b ++ 46 ∷ r)) ≡ Ok (t, b ++ 46 ∷ r)
    → dotted n (past_blank r) ≡ Ok ts → dotted (suc n) (s ++ (b ++ 46 ∷ r)) ≡ Ok (more t ts)
unfolding dotted
dotted_step n t ts s b r f blank ends read others =
    let behind : past_blank (b ++ 46 ∷ r) ≡ 46 ∷ r = blank_read b (46 ∷ r) blank ∙ (dot_mark r ends).no_blank in
    let whole : s ++ (b ++ 46 ∷ r) ≡ f.first ∷ (f.others ++ (b ++ 46 ∷ r)) = ap (λ (l : List ℕ). l ++ (b ++ 46 ∷ r)) f.parts in
    let read_first : term_at MAX_DEPTH (f.first ∷ (f.others ++ (b ++ 46 ∷ r))) ≡ Ok (t, b ++ 46 ∷ r) = rw whole at read in
    rw (whole, read_first, behind, dot_read r ends, others) refl

nothing_past : past_blank [] ≡ []
unfolding past
nothing_past = refl

comment_past : (line : List ℕ) → InLine line → past_blank (37 ∷ line) ≡ []
unfolding past
comment_past line h = last_comment_read line h

no_terms : (n : ℕ) → dotted n [] ≡ Ok none
unfolding dotted
no_terms n = refl

by_fuel : (n : ℕ) (t : Tree) (ts : Trees) (s b r : List ℕ) → 0 < length s → Begins s → Spells MAX_DEPTH t s → IsBlank b
    → (length r ≡ 0) ⊎ (begins is_end r ≡ true) → ((m : ℕ) → length r ≤ m → dotted m (past_blank r) ≡ Ok ts)
    → length s + (length b + suc (length r)) ≤ n → dotted n (s ++ (b ++ 46 ∷ r)) ≡ Ok (more t ts)
by_fuel zero t ts s b r some f h blank ends others fuel = absurd (omega arith)
by_fuel (suc n) t ts s b r some f h blank ends others fuel =
    dotted_step n t ts s b r f blank ends (term_read MAX_DEPTH t s h (b ++ 46 ∷ r) (stop b 46 r blank (dot_mark r ends))) (others n (omega arith))

-- What is spelled is read, whatever it is spelled with.
pub dotted_read : (ts : Trees) (bytes : List ℕ) → AreDotted ts bytes → (n : ℕ) → length bytes ≤ n → dotted n (past_blank bytes) ≡ Ok ts
dotted_read ts bytes (AreDotted.nothing a blank) n fuel =
    let e : past_blank a ≡ [] = ap (λ (l : List ℕ). past_blank l) (sym (append-nil a)) ∙ blank_read a [] blank ∙ nothing_past in
    rw e (no_terms n)
dotted_read ts bytes (AreDotted.last_comment a line blank in_line) n fuel =
    let e : past_blank (a ++ 37 ∷ line) ≡ [] = blank_read a (37 ∷ line) blank ∙ comment_past line in_line in
    rw e (no_terms n)
dotted_read ts bytes (AreDotted.term t us a s b r before h blank ends others) n fuel =
    let f = spelling_begins MAX_DEPTH t s h in
    let some = some_byte s f in
    let e : past_blank (a ++ (s ++ (b ++ 46 ∷ r))) ≡ s ++ (b ++ 46 ∷ r) = blank_read a (s ++ (b ++ 46 ∷ r)) before ∙ kept s (b ++ 46 ∷ r) f in
    rw e (by_fuel n t us s b r some f h blank ends (λ m left. dotted_read us r others m left)
    (omega (arith, length-append a (s ++ (b ++ 46 ∷ r)), length-append s (b ++ 46 ∷ r), length-append b (46 ∷ r))))

-- No text has two readings.
pub one_reading : (ts us : Trees) (bytes : List ℕ) → AreDotted ts bytes → AreDotted us bytes → ts ≡ us
one_reading ts us bytes h k = trees_is ts us (sym (dotted_read ts bytes h (length bytes) (omega arith)) ∙ dotted_read us bytes k (length bytes) (omega arith))
