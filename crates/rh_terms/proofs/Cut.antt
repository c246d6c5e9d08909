-- Where a text in UTF-8 is cut, its parts are in UTF-8 again.
use Rattle.std.proofs.Common.{◌≡◌, ◌<◌, ◌+◌, ◌-◌, ℕ, zero, suc, List, [], ◌∷◌, ◌++◌, Bool, true, false, cond, Ok, Some}
use Rattle.std.proofs.Common.{length, take, drop, get_or, refl, sym, ap, subst, ◌∙◌, append_assoc, arith, length-append}
use Rattle.std.specs.Prelude.{◌==◌, ◌&&◌}
use Rattle.std.specs.Str.{IsUtf8}
use Rattle.std.specs.List.{prefix_len, list_all}
use Rattle.std.proofs.Math.Seq.{take-append_seam, drop-append-add, get_or-append_seam}
use Rattle.std.proofs.lemmas.Str.{IsUtf8-nil, IsUtf8-take, IsUtf8-drop, IsUtf8-append, IsUtf8-from_ascii}
use Rattle.std.proofs.lemmas.Str.{IsCharBoundary-before_ascii, IsCharBoundary-after_ascii}
use Rattle.std.proofs.lemmas.List.{take_rest}
use Rattle.std.proofs.lemmas.Bool.{eqb-true}
use Rattle.std.proofs.lemmas.Bool.Decides.{nat_tests}
use Rattle.rh_terms.specs.Bytes.{past, past_blank, begins, is_lower, is_white, is_atom_byte, is_digit}
use Rattle.rh_terms.specs.Tokens.{escape, quoted}
use Rattle.rh_base.specs.Tree.{Tree}
use Rattle.rh_terms.specs.Grammar.{term_at, next_at, dot_at}
use Rattle.rh_terms.specs.Spelling.{IsQuoted, Spells}
use Rattle.rh_terms.proofs.Spelled.{quoted_is, Quoted, term_spelled, next_more, next_last, begins_is}
use Rattle.rh_terms.proofs.Whole.{dot_is}

-- the parts of a text round one ASCII byte
pub cut_at : (seg bs : List ℕ) (b : ℕ) → b < 128 → IsUtf8 (seg ++ b ∷ bs) → IsUtf8 seg × IsUtf8 bs
cut_at seg bs b ascii text =
    let whole = seg ++ b ∷ bs in
    let same : get_or whole (length seg) 0 ≡ b = get_or-append_seam seg b bs 0 in
    let small : get_or whole (length seg) 0 < 128 = rw same ascii in
    let within : length seg < length whole = omega (arith, length-append seg (b ∷ bs)) in
    let front = IsUtf8-take whole (length seg) text (IsCharBoundary-before_ascii whole (length seg) within small) in
    let behind = IsUtf8-drop whole (length seg + 1) text (IsCharBoundary-after_ascii whole (length seg) text within small) in
    let P : List ℕ → Type 0 = λ l. IsUtf8 l in
    (subst P (take-append_seam seg (b ∷ bs)) front, subst P (drop-append-add seg (b ∷ bs) 1) behind)

-- what stands behind an ASCII byte
pub behind_ascii : (b : ℕ) (bs : List ℕ) → b < 128 → IsUtf8 (b ∷ bs) → IsUtf8 bs
behind_ascii b bs ascii text = (cut_at [] bs b ascii text).1

longer : (seg bs : List ℕ) (b : ℕ) → IsUtf8 (seg ++ b ∷ bs) → IsUtf8 ((seg ++ b ∷ []) ++ bs)
longer seg bs b text = rw append_assoc text

abbrev IsTextAt : Bool → List ℕ → List ℕ → Type 0
IsTextAt true seg bs = IsUtf8 (seg ++ bs)
IsTextAt false seg bs = IsUtf8 bs

on_cond : (P : List ℕ → Type 0) (b : Bool) (x y : List ℕ) → (b ≡ true → P x) → (b ≡ false → P y) → P (cond b x y)
on_cond P true x y f g = f refl
on_cond P false x y f g = g refl

-- white space is ASCII
pub white_ascii : (b : ℕ) → is_white b ≡ true → b < 128
white_ascii b e = grind (arith, nat_tests, e)

is_byte : (b c : ℕ) → (b == c) ≡ true → c < 128 → b < 128
is_byte b c e small = rw (eqb-true b c e) small

past_text : (inside : Bool) (seg bs : List ℕ) → IsTextAt inside seg bs → IsUtf8 (past inside bs)
unfolding past
past_text true seg [] text = IsUtf8-nil
past_text false seg [] text = IsUtf8-nil
past_text true seg (b ∷ bs) text = on_cond (λ l. IsUtf8 l) (b == 10) (past false bs) (past true bs)
    (λ e. past_text false [] bs (cut_at seg bs b (is_byte b 10 e (omega arith)) text).1)
    (λ e. past_text true (seg ++ b ∷ []) bs (longer seg bs b text))
past_text false seg (b ∷ bs) text = on_cond (λ l. IsUtf8 l) (b == 37) (past true bs) (cond (is_white b) (past false bs) (b ∷ bs))
    (λ e. past_text true [] bs (behind_ascii b bs (is_byte b 37 e (omega arith)) text))
    (λ e. on_cond (λ l. IsUtf8 l) (is_white b) (past false bs) (b ∷ bs)
    (λ w. past_text false [] bs (behind_ascii b bs (white_ascii b w) text))
    (λ w. text))

-- what stands behind white space and comments
pub blank_text : (bs : List ℕ) → IsUtf8 bs → IsUtf8 (past_blank bs)
blank_text bs text = past_text false [] bs text

escape_ascii : (b x : ℕ) → escape b ≡ Some x → (b < 128) × (x < 128)
escape_ascii b x e = grind (arith, nat_tests, e)

byte_ascii : (x : ℕ) → x < 128 → (i : ℕ) → get_or (x ∷ []) i 0 < 128
byte_ascii x small zero = small
byte_ascii x small (suc i) = omega arith

byte_text : (x : ℕ) → x < 128 → IsUtf8 (x ∷ [])
byte_text x small = IsUtf8-from_ascii (x ∷ []) (byte_ascii x small)

-- what text between quotes stands for
pub quoted_text : (quote : ℕ) (seg s content : List ℕ) → IsQuoted quote s content → IsUtf8 (seg ++ s) → IsUtf8 (seg ++ content)
quoted_text quote seg s content IsQuoted.nothing text = text
quoted_text quote seg s content (IsQuoted.plain b bs others q e h) text =
    let longer_text : IsUtf8 ((seg ++ b ∷ []) ++ others) = quoted_text quote (seg ++ b ∷ []) bs others h (longer seg bs b text) in
    rw append_assoc at longer_text
quoted_text quote seg s content (IsQuoted.escaped b x bs others e h) text =
    let ascii = escape_ascii b x e in
    let parts = cut_at seg (b ∷ bs) 92 (omega arith) text in
    let rest : IsUtf8 others = quoted_text quote [] bs others h (behind_ascii b bs ascii.0 parts.1) in
    IsUtf8-append seg (x ∷ others) parts.0 (IsUtf8-append (x ∷ []) others (byte_text x ascii.1) rest)

-- what stands between quotes, and what stands behind them
pub quoted_parts : (quote : ℕ) (bs content rest : List ℕ) → quote < 128 → IsUtf8 bs → quoted false quote bs ≡ Ok (content, rest) → IsUtf8 content × IsUtf8 rest
quoted_parts quote bs content rest small text e =
    let r : Quoted quote bs content rest = quoted_is false quote bs content rest e in
    let whole : IsUtf8 (r.inner ++ quote ∷ rest) = rw r.parts at text in
    let parts = cut_at r.inner rest quote small whole in
    (quoted_text quote [] r.inner content r.is parts.0, parts.1)

front_cons : (p : ℕ → Bool) (ascii : (b : ℕ) → p b ≡ true → b < 128) (b : ℕ) (bs : List ℕ) (t : Bool) → p b ≡ t → IsUtf8 (take (prefix_len p bs) bs)
    → IsUtf8 (take (prefix_len p (b ∷ bs)) (b ∷ bs))
front_cons p ascii b bs true e others =
    let n : prefix_len p (b ∷ bs) ≡ suc (prefix_len p bs) = rw e (omega arith) in
    rw n (IsUtf8-append (b ∷ []) (take (prefix_len p bs) bs) (byte_text b (ascii b e)) others)
front_cons p ascii b bs false e others =
    let n : prefix_len p (b ∷ bs) ≡ 0 = rw e refl in
    rw n IsUtf8-nil

-- the longest front of ASCII bytes that pass a test
pub front_text : (p : ℕ → Bool) (ascii : (b : ℕ) → p b ≡ true → b < 128) (bs : List ℕ) → IsUtf8 (take (prefix_len p bs) bs)
front_text p ascii [] = IsUtf8-nil
front_text p ascii (b ∷ bs) = front_cons p ascii b bs (p b) refl (front_text p ascii bs)

pub name_ascii : (b : ℕ) → is_atom_byte b ≡ true → b < 128
name_ascii b e = grind (arith, nat_tests, e)

pub digit_ascii : (b : ℕ) → is_digit b ≡ true → b < 128
digit_ascii b e = grind (arith, nat_tests, e)

-- ---- behind a term

-- the bytes end in an ASCII byte
record EndsInAscii (s : List ℕ) : Type 0 where
  front : List ℕ
  last : ℕ
  parts : s ≡ front ++ last ∷ []
  ascii : last < 128

pub and_is : (a b : Bool) → (a && b) ≡ true → (a ≡ true) × (b ≡ true)
and_is true b e = (refl, e)
and_is false b e = absurd cc

all_ascii : (p : ℕ → Bool) (ascii : (b : ℕ) → p b ≡ true → b < 128) (b : ℕ) (s : List ℕ) → list_all p (b ∷ s) ≡ true → EndsInAscii (b ∷ s)
all_ascii p ascii b [] all = record { front = []; last = b; parts = refl; ascii = ascii b (and_is (p b) true all).0 }
all_ascii p ascii b (c ∷ s) all =
    let e = all_ascii p ascii c s (and_is (p b) (list_all p (c ∷ s)) all).1 in
    record { front = b ∷ e.front; last = e.last; parts = ap (λ (l : List ℕ). b ∷ l) e.parts; ascii = e.ascii }

closed : (b : ℕ) (s : List ℕ) (c : ℕ) → c < 128 → EndsInAscii (b ∷ (s ++ c ∷ []))
closed b s c small = record { front = b ∷ s; last = c; parts = refl; ascii = small }

name_end : (s : List ℕ) → begins is_lower s ≡ true → list_all is_atom_byte s ≡ true → EndsInAscii s
name_end [] first all = absurd cc
name_end (b ∷ s) first all = all_ascii is_atom_byte (λ b e. name_ascii b e) b s all

digits_end : (s : List ℕ) → 0 < length s → list_all is_digit s ≡ true → EndsInAscii s
digits_end [] some all = absurd (omega arith)
digits_end (b ∷ s) some all = all_ascii is_digit (λ b e. digit_ascii b e) b s all

-- the spelling of a term ends in an ASCII byte
spelling_ascii : (room : ℕ) (t : Tree) (s : List ℕ) → Spells room t s → EndsInAscii s
spelling_ascii room t s (Spells.name r name first all) = name_end name first all
spelling_ascii room t s (Spells.quoted_atom r q content h) = closed 39 q 39 (omega arith)
spelling_ascii room t s (Spells.text_of r q content h) = closed 34 q 34 (omega arith)
spelling_ascii room t s (Spells.integer r d some all fit) = digits_end d some all
spelling_ascii room t s (Spells.minus r d some all fit) =
    let e = digits_end d some all in
    record { front = 45 ∷ e.front; last = e.last; parts = ap (λ (l : List ℕ). 45 ∷ l) e.parts; ascii = e.ascii }
spelling_ascii room t s (Spells.list_of inner ts q h) = closed 91 q 93 (omega arith)
spelling_ascii room t s (Spells.tuple_of inner ts q h) = closed 123 q 125 (omega arith)

-- what stands behind a term
pub term_text : (room : ℕ) (bs : List ℕ) (t : Tree) (rest : List ℕ) → term_at room bs ≡ Ok (t, rest) → IsUtf8 bs → IsUtf8 rest
term_text room bs t rest e text =
    let s = term_spelled room bs t rest e in
    let h = spelling_ascii room t s.text s.is in
    let whole : bs ≡ h.front ++ h.last ∷ rest = s.parts ∙ ap (λ (l : List ℕ). l ++ rest) h.parts ∙ append_assoc h.front (h.last ∷ []) rest in
    (cut_at h.front rest h.last h.ascii (rw whole at text)).1

-- what stands behind a term's comma or closing byte
pub next_text : (close : ℕ) (bs : List ℕ) (goes_on : Bool) (rest : List ℕ) → close < 128 → next_at close bs ≡ Ok (goes_on, rest) → IsUtf8 bs → IsUtf8 rest
next_text close bs true rest small e text =
    let n = next_more close bs rest e in
    let behind : IsUtf8 (past_blank (drop 1 bs)) = blank_text (drop 1 bs) (behind_ascii 44 (drop 1 bs) (omega arith) (rw n.0 at text)) in
    rw n.1 at behind
next_text close bs false rest small e text = behind_ascii close rest small (rw (next_last close bs rest e) at text)

-- what stands behind a dot
pub dot_text : (bs rest : List ℕ) → dot_at bs ≡ Ok rest → IsUtf8 bs → IsUtf8 rest
dot_text bs rest e text = behind_ascii 46 rest (omega arith) (rw (dot_is bs rest e).0 at text)

-- what stands behind a first byte that was looked at
pub tail_text : (bs : List ℕ) (c : ℕ) → 0 < length bs → get_or bs 0 0 ≡ c → c < 128 → IsUtf8 bs → IsUtf8 (take (length bs - 1) (drop 1 bs))
tail_text [] c some first small text = absurd (omega arith)
tail_text (b ∷ bs) c some first small text = rw (take_rest (b ∷ bs) 1) (behind_ascii b bs (rw first small) text)

-- the bytes behind a first one that was looked at
pub first_byte : (bs : List ℕ) (c : ℕ) → begins (λ b. b == c) bs ≡ true → bs ≡ c ∷ take (length bs - 1) (drop 1 bs)
first_byte bs c e = begins_is c bs e ∙ ap (λ (l : List ℕ). c ∷ l) (sym (take_rest bs 1))

pub behind_first : (bs : List ℕ) (c : ℕ) → begins (λ b. b == c) bs ≡ true → c < 128 → IsUtf8 bs → IsUtf8 (take (length bs - 1) (drop 1 bs))
behind_first bs c e small text =
    let P : List ℕ → Type 0 = λ l. IsUtf8 l in
    behind_ascii c (take (length bs - 1) (drop 1 bs)) small (subst P (first_byte bs c e) text)
