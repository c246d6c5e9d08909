-- Of which kind a line is goes by its first three bytes.
use Rattle.std.proofs.Common.{◌≡◌, ◌==◌, ◌&&◌, ℕ, List, [], ◌∷◌, ◌++◌, Bool, true, false, cond, eqb, Option, Some, None, refl, sym, ap, ◌∙◌}
use Rattle.std.specs.Option.{option_map}
use Rattle.std.proofs.lemmas.Bool.{eqb-true}
use Rattle.rh_model.specs.ClusterView.{ClusterView}
use Rattle.rh_script.specs.declared.notes.Kind.{Kind}
use Rattle.rh_script.specs.declared.notes.Kind.TheVariants as kind
use Rattle.rh_script.specs.Notes.{kind_of, note_of, is_told_kind, is_told_note, is_told}
use Rattle.rh_calls.specs.declared.call.Call.{Call}
use Rattle.rh_script.specs.declared.script.Line.{Line}
use Rattle.rh_script.specs.declared.script.Line.TheVariants.{Nothing, Asks}
use Rattle.rh_script.specs.Lines.{content, without_last}
use Rattle.rh_script.specs.Commands.{line_of}
use Rattle.rh_story_laws.specs.Answers.{answer_in}
use Rattle.rh_story_laws.proofs.Rows.{Last, empty, byte, last_of, without_is, content_is}

-- the kind of a line
abbrev pub kind_at : List ℕ → Option Kind
kind_at line = option_map (λ (note : Kind × List ℕ). note.0) (note_of line)

none_of : {A : Type 0} (t : Bool) (o : Option A) → cond t o o ≡ o
none_of true o = refl
none_of false o = refl

-- no mark ends in this byte
same_front : (a b c : ℕ) (x y : List ℕ) → kind_at (a ∷ b ∷ c ∷ x) ≡ kind_at (a ∷ b ∷ c ∷ y)
same_front a b c x y = by ((a == 35) && (c == 32)) (kind_of b)
  where
    by : (t : Bool) (o : Option Kind) → option_map (λ (note : Kind × List ℕ). note.0) (cond t (option_map (λ k. (k, x)) o) None)
        ≡ option_map (λ (note : Kind × List ℕ). note.0) (cond t (option_map (λ k. (k, y)) o) None)
    by true None = refl
    by true (Some k) = refl
    by false o = refl

unmarked : (t : Bool) (o : Option (Kind × List ℕ)) → option_map (λ (note : Kind × List ℕ). note.0) (cond (t && false) o None) ≡ None
unmarked true o = refl
unmarked false o = refl

pub front_lf : (x : List ℕ) → kind_at (x ++ 10 ∷ []) ≡ kind_at x
front_lf [] = refl
front_lf (a ∷ []) = refl
front_lf (a ∷ b ∷ []) = unmarked (a == 35) (option_map (λ k. (k, [])) (kind_of b))
front_lf (a ∷ b ∷ c ∷ x) = same_front a b c (x ++ 10 ∷ []) x

front_cr : (x : List ℕ) → kind_at (x ++ 13 ∷ []) ≡ kind_at x
front_cr [] = refl
front_cr (a ∷ []) = refl
front_cr (a ∷ b ∷ []) = unmarked (a == 35) (option_map (λ k. (k, [])) (kind_of b))
front_cr (a ∷ b ∷ c ∷ x) = same_front a b c (x ++ 13 ∷ []) x

pub front_crlf : (x : List ℕ) → kind_at (x ++ 13 ∷ 10 ∷ []) ≡ kind_at x
front_crlf [] = refl
front_crlf (a ∷ []) = unmarked (a == 35) (option_map (λ k. (k, [])) (kind_of 13))
front_crlf (a ∷ b ∷ []) = unmarked (a == 35) (option_map (λ k. (k, 10 ∷ [])) (kind_of b))
front_crlf (a ∷ b ∷ c ∷ x) = same_front a b c (x ++ 13 ∷ 10 ∷ []) x

-- so it is that of its content
pub kind_content : (x : List ℕ) → kind_at (content (x ++ 10 ∷ [])) ≡ kind_at x
kind_content x = ap kind_at (content_is x) ∙ by x (last_of x)
  where
    cut : (y : List ℕ) (b : ℕ) (t : Bool) → eqb b 13 ≡ t → kind_at (cond t y (y ++ b ∷ [])) ≡ kind_at (y ++ b ∷ [])
    cut y b true is = sym (ap (λ c. kind_at (y ++ c ∷ [])) (eqb-true b 13 is) ∙ front_cr y)
    cut y b false is = refl

    by : (y : List ℕ) → Last y → kind_at (without_last 13 y) ≡ kind_at y
    by _ empty = refl
    by _ (byte y b) = ap kind_at (without_is y b 13) ∙ cut y b (b == 13) refl

-- ---- what that says
abbrev pub told_kind : Option Kind → Bool
told_kind None = false
told_kind (Some k) = is_told_kind k

pub told_is : (line : List ℕ) → is_told line ≡ told_kind (kind_at line)
told_is line = by (note_of line)
  where
    by : (o : Option (Kind × List ℕ)) → is_told_note o ≡ told_kind (option_map (λ (note : Kind × List ℕ). note.0) o)
    by None = refl
    by (Some note) = refl

-- a line of a kind that a story doesn't write has no answer
pub untold_silent : (line : List ℕ) → told_kind (kind_at line) ≡ false → answer_in (note_of line) ≡ []
untold_silent line h = by (note_of line) h
  where
    by : (o : Option (Kind × List ℕ)) → told_kind (option_map (λ (note : Kind × List ℕ). note.0) o) ≡ false → answer_in o ≡ []
    by None k = refl
    by (Some (kind.Answer, text)) k = absurd (cc k)
    by (Some (kind.Time, text)) k = absurd (cc k)
    by (Some (kind.Reason, text)) k = absurd (cc k)
    by (Some (kind.Table, text)) k = absurd (cc k)
    by (Some (kind.Wanted, text)) k = refl

-- a command is no such line
pub command_plain : (c : ClusterView) (line : List ℕ) (asked : Call) → line_of c line ≡ Asks asked → kind_at line ≡ None
unfolding line_of
command_plain c [] asked is = refl
command_plain c (a ∷ []) asked is = refl
command_plain c (a ∷ b ∷ []) asked is = refl
command_plain c (a ∷ b ∷ d ∷ line) asked is = by (a == 35) _ is
  where
    by : (t : Bool) (other : Line) → cond t Nothing other ≡ Asks asked
        → option_map (λ (note : Kind × List ℕ). note.0) (cond (t && (d == 32)) (option_map (λ k. (k, line)) (kind_of b)) None) ≡ None
    by true other h = absurd (cc h)
    by false other h = refl
