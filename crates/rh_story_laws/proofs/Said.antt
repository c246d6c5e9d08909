-- What is expected by the lines of a text, where these come without their ends.
use Rattle.std.proofs.Common.{◌≡◌, ◌==◌, ◌&&◌, ℕ, suc, List, [], ◌∷◌, ◌++◌, Bool, true, false, cond, eqb, codes, map, length, Option, Some, None, refl, sym, ap, ◌∙◌, subst, append_assoc, true≢false, arith}
use Rattle.std.specs.List.{onto_first, flat_map, cons_option}
use Rattle.std.specs.Option.{option_map}
use Rattle.std.proofs.lemmas.Bool.{eqb-true}
use Rattle.std.proofs.lemmas.Bool.Decides.{nat_tests}
use Rattle.std.proofs.lemmas.List.{map-append}
use Rattle.std.proofs.lemmas.Slice.Eq.{bytes_eq-Decides}
use Rattle.rh_model.specs.ClusterView.{ClusterView}
use Rattle.rh_script.specs.declared.notes.Kind.{Kind}
use Rattle.rh_script.specs.declared.notes.Kind.TheVariants as kind
use Rattle.rh_script.specs.Notes.{kind_of, note_of}
use Rattle.rh_script.specs.declared.script.Line.TheVariants.{Nothing}
use Rattle.rh_script.specs.Lines.{raw_lines, content, without_last}
use Rattle.rh_script.specs.Commands.{line_of}
use Rattle.rh_verify.specs.Spaces.{lines_of}
use Rattle.rh_verify.specs.Expected.{answer_in, wanted_in, answers_in, wanted_among}
use Rattle.rh_verify.specs.Blocks.{is_answered}
use Rattle.rh_story_laws.specs.Answers.{answer_in as text_in}
use Rattle.rh_story_laws.proofs.Texts.{free, Ended, nothing, line, first_line, lines_append}
use Rattle.rh_story_laws.proofs.Rows.{Last, empty, byte, last_of, without_is, content_is}
use Rattle.rh_story_laws.proofs.Marks.{kind_at, told_kind, front_lf, kind_content}
use Rattle.rh_story_laws.proofs.Told.{told, told_line, Tells}
use Rattle.rh_story_laws.proofs.Marked.{AllMarked, MarkedText, marked_asks_nothing}
use Rattle.rh_story_laws.proofs.Clean.{clean, clean_parts}

-- ---- lines of a text
pub contents_append : (s t : List ℕ) → Ended s → lines_of (s ++ t) ≡ lines_of s ++ lines_of t
contents_append s t e = ap (map content) (lines_append s t e) ∙ map-append content (raw_lines s) (raw_lines t)

pub contents_first : (x rest : List ℕ) → free x ≡ true → lines_of ((x ++ 10 ∷ []) ++ rest) ≡ content (x ++ 10 ∷ []) ∷ lines_of rest
contents_first x rest u = ap lines_of (append_assoc x (10 ∷ []) rest) ∙ ap (map content) (first_line x rest u)

-- ---- lines that are answers, and others
data Shape : List ℕ → Type 0 where
  answer : (y : List ℕ) → Shape (35 ∷ 61 ∷ 32 ∷ y)
  other : (x : List ℕ) → (kind_at x ≡ Some kind.Answer → ⊥) → Shape x

no_answer : (t u v w : Bool) → cond t (Some kind.Time) (cond u (Some kind.Reason) (cond v (Some kind.Table) (cond w (Some kind.Wanted) None))) ≡ Some kind.Answer → ⊥
no_answer true u v w e = cc e
no_answer false true v w e = cc e
no_answer false false true w e = cc e
no_answer false false false true e = cc e
no_answer false false false false e = cc e

kind_made : (o : Option Kind) (y : List ℕ) → option_map (λ (note : Kind × List ℕ). note.0) (option_map (λ k. (k, y)) o) ≡ o
kind_made None y = refl
kind_made (Some k) y = refl

shape_of : (x : List ℕ) → Shape x
shape_of [] = other [] (λ e. cc e)
shape_of (a ∷ []) = other (a ∷ []) (λ e. cc e)
shape_of (a ∷ b ∷ []) = other (a ∷ b ∷ []) (λ e. cc e)
shape_of (a ∷ b ∷ d ∷ y) = by (eqb a 35) (eqb d 32) (eqb b 61) refl refl refl
  where
    kind_if : Bool → Bool → Option Kind → Option Kind
    kind_if t u o = option_map (λ (note : Kind × List ℕ). note.0) (cond (t && u) (option_map (λ k. (k, y)) o) None)

    by : (t u v : Bool) → eqb a 35 ≡ t → eqb d 32 ≡ u → eqb b 61 ≡ v → Shape (a ∷ b ∷ d ∷ y)
    by true true true p q r =
        subst (λ (n : ℕ). Shape (n ∷ b ∷ d ∷ y)) (sym (eqb-true a 35 p))
        (subst (λ (n : ℕ). Shape (35 ∷ n ∷ d ∷ y)) (sym (eqb-true b 61 r))
        (subst (λ (n : ℕ). Shape (35 ∷ 61 ∷ n ∷ y)) (sym (eqb-true d 32 q)) (answer y)))
    by true true false p q r = other (a ∷ b ∷ d ∷ y) (λ e.
        no_answer (b == 64) (b == 45) (b == 124) (b == 63)
        (sym (ap (λ (t : Bool). cond t (Some kind.Answer) (cond (b == 64) (Some kind.Time) (cond (b == 45) (Some kind.Reason) (cond (b == 124) (Some kind.Table) (cond (b == 63) (Some kind.Wanted) None))))) r)
        ∙ sym (kind_made (kind_of b) y) ∙ sym (λ i. kind_if (p i) (q i) (kind_of b)) ∙ e))
    by true false v p q r = other (a ∷ b ∷ d ∷ y) (λ e. let none : None ≡ Some kind.Answer = sym (λ i. kind_if (p i) (q i) (kind_of b)) ∙ e in cc none)
    by false u v p q r = other (a ∷ b ∷ d ∷ y) (λ e. let none : None ≡ Some kind.Answer = sym (λ i. kind_if (p i) (d == 32) (kind_of b)) ∙ e in cc none)

-- what a line of another kind says
no_text : (l : List ℕ) → (kind_at l ≡ Some kind.Answer → ⊥) → text_in (note_of l) ≡ []
no_text l h = by (note_of l) h
  where
    by : (o : Option (Kind × List ℕ)) → (option_map (λ (note : Kind × List ℕ). note.0) o ≡ Some kind.Answer → ⊥) → text_in o ≡ []
    by None k = refl
    by (Some (kind.Answer, text)) k = absurd (k refl)
    by (Some (kind.Time, text)) k = refl
    by (Some (kind.Reason, text)) k = refl
    by (Some (kind.Table, text)) k = refl
    by (Some (kind.Wanted, text)) k = refl

pub no_line : (l : List ℕ) → (kind_at l ≡ Some kind.Answer → ⊥) → answer_in (note_of l) ≡ None
no_line l h = by (note_of l) h
  where
    by : (o : Option (Kind × List ℕ)) → (option_map (λ (note : Kind × List ℕ). note.0) o ≡ Some kind.Answer → ⊥) → answer_in o ≡ None
    by None k = refl
    by (Some (kind.Answer, text)) k = absurd (k refl)
    by (Some (kind.Time, text)) k = refl
    by (Some (kind.Reason, text)) k = refl
    by (Some (kind.Table, text)) k = refl
    by (Some (kind.Wanted, text)) k = refl

-- a line that a story writes expects nothing of a report; one that it doesn't write is no answer
pub told_unwanted : (l : List ℕ) → told_kind (kind_at l) ≡ true → wanted_in (note_of l) ≡ None
told_unwanted l h = by (note_of l) h
  where
    by : (o : Option (Kind × List ℕ)) → told_kind (option_map (λ (note : Kind × List ℕ). note.0) o) ≡ true → wanted_in o ≡ None
    by None k = refl
    by (Some (kind.Answer, text)) k = refl
    by (Some (kind.Time, text)) k = refl
    by (Some (kind.Reason, text)) k = refl
    by (Some (kind.Table, text)) k = refl
    by (Some (kind.Wanted, text)) k = absurd (true≢false (sym k))

pub untold_no_line : (l : List ℕ) → told_kind (kind_at l) ≡ false → answer_in (note_of l) ≡ None
untold_no_line l h = no_line l (λ e. true≢false (sym (ap told_kind e) ∙ h))

-- ---- the answers among the lines of a text are the lines that these answers make
cut_behind : (y : List ℕ) → without_last 13 (35 ∷ 61 ∷ 32 ∷ y) ≡ 35 ∷ 61 ∷ 32 ∷ without_last 13 y
cut_behind y = by y (last_of y)
  where
    cut : (y : List ℕ) (t : Bool) (b : ℕ) → cond t (35 ∷ 61 ∷ 32 ∷ y) (35 ∷ 61 ∷ 32 ∷ y ++ b ∷ []) ≡ 35 ∷ 61 ∷ 32 ∷ cond t y (y ++ b ∷ [])
    cut y true b = refl
    cut y false b = refl

    by : (y : List ℕ) → Last y → without_last 13 (35 ∷ 61 ∷ 32 ∷ y) ≡ 35 ∷ 61 ∷ 32 ∷ without_last 13 y
    by _ empty = refl
    by _ (byte z b) =
        without_is (35 ∷ 61 ∷ 32 ∷ z) b 13 ∙ cut z (b == 13) b ∙ ap (λ (t : List ℕ). 35 ∷ 61 ∷ 32 ∷ t) (sym (without_is z b 13))

abbrev Same : List ℕ → List ℕ → Type 0
Same x rest = cons_option (answer_in (note_of (content (x ++ 10 ∷ [])))) (lines_of rest) ≡ lines_of (text_in (note_of (x ++ 10 ∷ [])) ++ rest)

same_line : (x rest : List ℕ) → free x ≡ true → Same x rest
same_line x rest u = by x (shape_of x) u
  where
    by : (z : List ℕ) → Shape z → free z ≡ true → Same z rest
    by _ (answer y) v =
        ap (λ (l : List ℕ). cons_option (answer_in (note_of l)) (lines_of rest)) (content_is (35 ∷ 61 ∷ 32 ∷ y) ∙ cut_behind y)
        ∙ ap (λ (l : List ℕ). l ∷ lines_of rest) (sym (content_is y))
        ∙ sym (contents_first y rest v)
    by _ (other z h) v =
        ap (λ (o : Option (List ℕ)). cons_option o (lines_of rest)) (no_line (content (z ++ 10 ∷ [])) (λ e. h (sym (kind_content z) ∙ e)))
        ∙ ap (λ (t : List ℕ). lines_of (t ++ rest)) (sym (no_text (z ++ 10 ∷ []) (λ e. h (sym (front_lf z) ∙ e))))

pub answers_said : (t : List ℕ) → Ended t → answers_in (lines_of t) ≡ lines_of (told t)
answers_said _ nothing = refl
answers_said _ (line x rest u r) =
    ap answers_in (ap (map content) (first_line x rest u))
    ∙ ap (λ (ls : List (List ℕ)). cons_option (answer_in (note_of (content (x ++ 10 ∷ [])))) ls) (answers_said rest r)
    ∙ same_line x (told rest) u
    ∙ ap lines_of (sym (told_line x rest u))

-- ---- lines that ask nothing
abbrev pub Comments : ClusterView → List (List ℕ) → Type 0
Comments c [] = Unit {0}
Comments c (l ∷ lines) = (line_of c l ≡ Nothing) × Comments c lines

marked_comments : (c : ClusterView) (lines : List (List ℕ)) → AllMarked lines → Comments c (map content lines)
marked_comments c [] m = tt
marked_comments c (l ∷ lines) m = (marked_asks_nothing c (content l) m.0, marked_comments c lines m.1)

marked_unwanted : (lines : List (List ℕ)) → AllMarked lines → wanted_among (map content lines) ≡ []
marked_unwanted [] m = refl
marked_unwanted (l ∷ lines) m = (λ i. cons_option (told_unwanted (content l) m.0 i) (marked_unwanted lines m.1 i))

-- comments that say these answers, and expect nothing of a report
pub record Says (c : ClusterView) (lines said : List (List ℕ)) : Type 0 where
  pub comments : Comments c lines
  pub answers : answers_in lines ≡ said
  pub unwanted : wanted_among lines ≡ []

pub says : (c : ClusterView) (text said : List ℕ) → Tells text said → MarkedText text → Says c (lines_of text) (lines_of said)
says c text said tells marked = record {
  comments = marked_comments c (raw_lines text) marked;
  answers = answers_said text tells.ended ∙ ap lines_of tells.told;
  unwanted = marked_unwanted (raw_lines text) marked;
}

-- ---- lines without CR, and their ends, are the text again
uncut : (x : List ℕ) → clean x ≡ true → without_last 13 x ≡ x
uncut x h = by x (last_of x) h
  where
    kept : (y : List ℕ) (b : ℕ) (t : Bool) → cond t false true ≡ true → cond t y (y ++ b ∷ []) ≡ y ++ b ∷ []
    kept y b true k = absurd (true≢false (sym k))
    kept y b false k = refl

    by : (y : List ℕ) → Last y → clean y ≡ true → without_last 13 y ≡ y
    by _ empty k = refl
    by _ (byte y b) k = without_is y b 13 ∙ kept y b (b == 13) (clean_parts y (b ∷ []) k).1

abbrev with_ends : List (List ℕ) → List ℕ
with_ends lines = flat_map (λ (l : List ℕ). l ++ codes "\n") lines

made_again : (t : List ℕ) → Ended t → clean t ≡ true → with_ends (lines_of t) ≡ t
made_again _ nothing h = refl
made_again _ (line x rest u r) h =
    let parts = clean_parts x (10 ∷ rest) h in
    ap with_ends (ap (map content) (first_line x rest u))
    ∙ (λ i. ((content_is x ∙ uncut x parts.0) i ++ codes "\n") ++ made_again rest r parts.1 i)
    ∙ append_assoc x (codes "\n") rest

-- so a text is answered by its own lines
answered_by : (lines : List (List ℕ)) → is_answered lines (with_ends lines) ≡ true
answered_by [] = refl
answered_by (l ∷ lines) = (bytes_eq-Decides (with_ends (l ∷ lines)) (with_ends (l ∷ lines))).1 refl

pub answers_itself : (t : List ℕ) → Ended t → clean t ≡ true → is_answered (lines_of t) t ≡ true
answers_itself t e h = ap (is_answered (lines_of t)) (sym (made_again t e h)) ∙ answered_by (lines_of t)

-- a text that isn't empty has a line
not_none : (n : ℕ) → (suc n == 0) ≡ false
not_none n = grind (arith, nat_tests)

pub some_line : (b : ℕ) (bytes : List ℕ) → (length (lines_of (b ∷ bytes)) == 0) ≡ false
some_line b bytes = by (b == 10)
  where
    onto : (lines : List (List ℕ)) → (length (map content (onto_first b lines)) == 0) ≡ false
    onto [] = refl
    onto (l ∷ lines) = not_none (length (map content lines))

    by : (t : Bool) → (length (map content (cond t ((b ∷ []) ∷ raw_lines bytes) (onto_first b (raw_lines bytes)))) == 0) ≡ false
    by true = not_none (length (map content (raw_lines bytes)))
    by false = onto (raw_lines bytes)
