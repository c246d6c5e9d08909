-- A text as lines that end.
use Rattle.std.proofs.Common.{◌≡◌, ℕ, List, [], ◌∷◌, ◌++◌, Bool, true, false, cond, eqb, refl, sym, ap, ◌∙◌, subst, append_assoc, true≢false}
use Rattle.std.specs.List.{onto_first, flat_map}
use Rattle.std.proofs.lemmas.Bool.{eqb-true}
use Rattle.rh_script.specs.Lines.{raw_lines}

-- no LF stands in it
abbrev pub free : List ℕ → Bool
free [] = true
free (b ∷ bytes) = cond (eqb b 10) false (free bytes)

-- each line of it ends in LF
pub data Ended : List ℕ → Type 0 where
  nothing : Ended []
  line : (x rest : List ℕ) → free x ≡ true → Ended rest → Ended (x ++ 10 ∷ rest)

-- ---- lines that end
pub not_both : {A : Type 0} → false ≡ true → A
not_both e = absurd (true≢false (sym e))

pub first_line : (x rest : List ℕ) → free x ≡ true → raw_lines (x ++ 10 ∷ rest) ≡ (x ++ 10 ∷ []) ∷ raw_lines rest
first_line [] rest h = refl
first_line (b ∷ x) rest h = by (eqb b 10) h (first_line x rest)
  where
    by : (t : Bool) → cond t false (free x) ≡ true → (free x ≡ true → raw_lines (x ++ 10 ∷ rest) ≡ (x ++ 10 ∷ []) ∷ raw_lines rest)
        → cond t ((b ∷ []) ∷ raw_lines (x ++ 10 ∷ rest)) (onto_first b (raw_lines (x ++ 10 ∷ rest))) ≡ (b ∷ x ++ 10 ∷ []) ∷ raw_lines rest
    by true k others = not_both k
    by false k others = ap (onto_first b) (others k)

pub free_append : (x y : List ℕ) → free x ≡ true → free y ≡ true → free (x ++ y) ≡ true
free_append [] y h k = k
free_append (b ∷ x) y h k = by (eqb b 10) h (λ u. free_append x y u k)
  where
    by : (t : Bool) → cond t false (free x) ≡ true → (free x ≡ true → free (x ++ y) ≡ true) → cond t false (free (x ++ y)) ≡ true
    by true u others = not_both u
    by false u others = others u

-- one byte more at the front

pub ended_onto : (b : ℕ) (t : List ℕ) → (t ≡ [] → ⊥) → Ended t → Ended (b ∷ t)
ended_onto b t more e = by (eqb b 10) refl
  where
    behind : (u : List ℕ) → (u ≡ [] → ⊥) → eqb b 10 ≡ false → Ended u → Ended (b ∷ u)
    behind _ much other nothing = absurd (much refl)
    behind _ much other (line x rest u r) = line (b ∷ x) rest (ap (λ t. cond t false (free x)) other ∙ u) r

    by : (u : Bool) → eqb b 10 ≡ u → Ended (b ∷ t)
    by true is = subst (λ c. Ended (c ∷ t)) (sym (eqb-true b 10 is)) (line [] t refl e)
    by false is = behind t more is e

not_empty : (x : List ℕ) (b : ℕ) → x ++ b ∷ [] ≡ [] → ⊥
not_empty [] b e = cc e
not_empty (a ∷ x) b e = cc e

-- whatever stands before it, an LF ends a line
pub ended_by : (x : List ℕ) → Ended (x ++ 10 ∷ [])
ended_by [] = line [] [] refl nothing
ended_by (b ∷ x) = ended_onto b (x ++ 10 ∷ []) (not_empty x 10) (ended_by x)

pub ended_append : (s t : List ℕ) → Ended s → Ended t → Ended (s ++ t)
ended_append _ t nothing e = e
ended_append _ t (line x rest u r) e =
    subst Ended (sym (append_assoc x (10 ∷ rest) t)) (line x (rest ++ t) u (ended_append rest t r e))

pub ended_each : {X : Type 0} (f : X → List ℕ) → ((x : X) → Ended (f x)) → (xs : List X) → Ended (flat_map f xs)
ended_each f each [] = nothing
ended_each f each (x ∷ xs) = ended_append (f x) (flat_map f xs) (each x) (ended_each f each xs)

-- so the lines of two texts are those of the one and those of the other
pub lines_append : (s t : List ℕ) → Ended s → raw_lines (s ++ t) ≡ raw_lines s ++ raw_lines t
lines_append _ t nothing = refl
lines_append _ t (line x rest u r) =
    ap raw_lines (append_assoc x (10 ∷ rest) t)
    ∙ first_line x (rest ++ t) u
    ∙ ap (λ ls. (x ++ 10 ∷ []) ∷ ls) (lines_append rest t r)
    ∙ ap (λ ls. ls ++ raw_lines t) (sym (first_line x rest u))
