-- What the lines `#= ` of a text say.
use Rattle.std.proofs.Common.{◌≡◌, ℕ, List, [], ◌∷◌, ◌++◌, codes, true, refl, sym, ap, ◌∙◌, subst, append_assoc}
use Rattle.std.specs.List.{flat_map}
use Rattle.std.proofs.lemmas.List.Concat.{flat_map-append}
use Rattle.rh_script.specs.declared.notes.Kind.TheVariants as kind
use Rattle.rh_script.specs.Notes.{mark, note_of}
use Rattle.rh_script.specs.Lines.{raw_lines}
use Rattle.rh_story.specs.LineText.{answer_lines}
use Rattle.rh_story_laws.specs.Answers.{answer_in, answers_in}
use Rattle.rh_story_laws.proofs.Texts.{free, Ended, nothing, line, first_line, ended_append, lines_append}

abbrev pub told : List ℕ → List ℕ
told text = answers_in (raw_lines text)

-- a text of whole lines whose answers say this
pub record Tells (text says : List ℕ) : Type 0 where
  pub ended : Ended text
  pub told : told text ≡ says

pub told_behind : (s t : List ℕ) → Ended s → told (s ++ t) ≡ told s ++ told t
told_behind s t e = ap answers_in (lines_append s t e) ∙ flat_map-append (λ line. answer_in (note_of line)) (raw_lines s) (raw_lines t)

pub tells_nothing : Tells [] []
tells_nothing = record { ended = nothing; told = refl }

pub tells_both : (s t a b : List ℕ) → Tells s a → Tells t b → Tells (s ++ t) (a ++ b)
tells_both s t a b x y = record {
  ended = ended_append s t x.ended y.ended;
  told = told_behind s t x.ended ∙ (λ i. x.told i ++ y.told i);
}

pub tells_each : {X : Type 0} (f g : X → List ℕ) → ((x : X) → Tells (f x) (g x)) → (xs : List X) → Tells (flat_map f xs) (flat_map g xs)
tells_each f g each [] = tells_nothing
tells_each f g each (x ∷ xs) = tells_both (f x) (flat_map f xs) (g x) (flat_map g xs) (each x) (tells_each f g each xs)

-- ---- one line
pub told_line : (x rest : List ℕ) → free x ≡ true → told (x ++ 10 ∷ rest) ≡ answer_in (note_of (x ++ 10 ∷ [])) ++ told rest
told_line x rest u = ap answers_in (first_line x rest u)

pub silent_line : (x : List ℕ) → free x ≡ true → answer_in (note_of (x ++ 10 ∷ [])) ≡ [] → Tells (x ++ 10 ∷ []) []
silent_line x u none = record { ended = line x [] u nothing; told = told_line x [] u ∙ ap (λ a. a ++ []) none }

pub time_silent : (x : List ℕ) → free x ≡ true → Tells (mark kind.Time ++ x ++ codes "\n") []
time_silent x u = silent_line (mark kind.Time ++ x) u refl

pub reason_silent : (x : List ℕ) → free x ≡ true → Tells (mark kind.Reason ++ x ++ codes "\n") []
reason_silent x u = silent_line (mark kind.Reason ++ x) u refl

pub table_silent : (x : List ℕ) → free x ≡ true → Tells (mark kind.Table ++ x ++ codes "\n") []
table_silent x u = silent_line (mark kind.Table ++ x) u refl

-- ---- an answer
pub marked_first : (x rest : List ℕ) → free x ≡ true → answer_lines (x ++ 10 ∷ rest) ≡ (35 ∷ 61 ∷ 32 ∷ x) ++ 10 ∷ answer_lines rest
marked_first x rest u =
    ap (flat_map (λ (l : List ℕ). mark kind.Answer ++ l)) (first_line x rest u)
    ∙ ap (λ (l : List ℕ). 35 ∷ 61 ∷ 32 ∷ l) (append_assoc x (10 ∷ []) (answer_lines rest))

answer_ended : (t : List ℕ) → Ended t → Ended (answer_lines t)
answer_ended _ nothing = nothing
answer_ended _ (line x rest u r) =
    subst Ended (sym (marked_first x rest u)) (line (35 ∷ 61 ∷ 32 ∷ x) (answer_lines rest) u (answer_ended rest r))

answer_told : (t : List ℕ) → Ended t → told (answer_lines t) ≡ t
answer_told _ nothing = refl
answer_told _ (line x rest u r) =
    ap told (marked_first x rest u)
    ∙ told_line (35 ∷ 61 ∷ 32 ∷ x) (answer_lines rest) u
    ∙ ap (λ (more : List ℕ). (x ++ 10 ∷ []) ++ more) (answer_told rest r)
    ∙ append_assoc x (10 ∷ []) rest

pub answer_tells : (t : List ℕ) → Ended t → Tells (answer_lines t) t
answer_tells t e = record { ended = answer_ended t e; told = answer_told t e }
