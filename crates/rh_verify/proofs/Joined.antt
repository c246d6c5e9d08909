-- Lines with their ends, compared one after the other.
use Rattle.std.proofs.Common.{◌≡◌, ◌≢◌, ◌<◌, ◌+◌, ◌&&◌, ℕ, List, [], ◌∷◌, ◌++◌, length, drop, get_or, map, codes, Bool, true, false, Option, Some, None, refl, sym, ap, ◌∙◌, append_assoc}
use Rattle.std.specs.List.{flat_map}
use Rattle.std.specs.Option.{MatchOption}
use Rattle.std.specs.Str.{bytes_eq}
use Rattle.std.specs.Borrow.{Bor}
use Rattle.std.proofs.lemmas.Slice.Eq.{bytes_eq-Decides}
use Rattle.std.proofs.lemmas.Bool.Decides.{Decides-eqb}
use Rattle.std.proofs.lemmas.List.{append_cancel_left, drop_more}

-- what stands behind two pieces, the second of which was looked for behind the first
pub behind_both : (text piece end mid : List ℕ) (found : Option (Bor (List ℕ))) → text ≡ piece ++ mid
    → MatchOption found ((rest : List ℕ) → mid ≢ end ++ rest) (λ x. mid ≡ end ++ x.now)
    → MatchOption found ((rest : List ℕ) → text ≢ piece ++ end ++ rest) (λ x. text ≡ piece ++ end ++ x.now)
behind_both text piece end mid (Some x) first second = first ∙ ap (λ (t : List ℕ). piece ++ t) second ∙ sym (append_assoc piece end x.now)
behind_both text piece end mid None first second = λ rest whole. second rest (append_cancel_left piece mid (end ++ rest) (sym first ∙ whole ∙ append_assoc piece end rest))

-- a text that doesn't begin with a piece has nothing behind it and another
pub nothing_behind : (text piece end : List ℕ) → ((rest : List ℕ) → text ≢ piece ++ rest) → (rest : List ℕ) → text ≢ piece ++ end ++ rest
nothing_behind text piece end other rest whole = other (end ++ rest) (whole ∙ append_assoc piece end rest)

-- a front that is the same is left out of a comparison
same_front : (front xs ys : List ℕ) → bytes_eq (front ++ xs) (front ++ ys) ≡ bytes_eq xs ys
same_front [] xs ys = refl
same_front (b ∷ front) xs ys = ap (λ t. t && bytes_eq (front ++ xs) (front ++ ys)) ((Decides-eqb b b).1 refl) ∙ same_front front xs ys

-- false, where it can't be true
not_true : (b : Bool) → (b ≡ true → ⊥) → b ≡ false
not_true true never = absurd (never refl)
not_true false never = refl

-- the lines from one on, each with its end
abbrev pub ended_from : ℕ → List (Bor (List ℕ)) → List ℕ
ended_from i lines = flat_map (λ (t : List ℕ). t ++ codes "\n") (map (λ (line : Bor (List ℕ)). line.now) (drop i lines))

module _ (lines : List (Bor (List ℕ))) (i : ℕ) (d : Bor (List ℕ)) (inside : i < length lines) where
  next : ended_from i lines ≡ ((get_or lines i d).now ++ codes "\n") ++ ended_from (i + 1) lines
  next = ap (λ (ls : List (Bor (List ℕ))). flat_map (λ (t : List ℕ). t ++ codes "\n") (map (λ (line : Bor (List ℕ)). line.now) ls))
      (drop_more lines i d inside)

  pub line_agrees : (rest after : List ℕ) → rest ≡ (get_or lines i d).now ++ codes "\n" ++ after
      → bytes_eq (ended_from i lines) rest ≡ bytes_eq (ended_from (i + 1) lines) after
  line_agrees rest after is =
      let line = (get_or lines i d).now ++ codes "\n" in
      ap (λ (t : List ℕ). bytes_eq t rest) next ∙ ap (bytes_eq (line ++ ended_from (i + 1) lines)) is
      ∙ same_front line (ended_from (i + 1) lines) after

  pub line_differs : (rest : List ℕ) → ((after : List ℕ) → rest ≢ (get_or lines i d).now ++ codes "\n" ++ after)
      → bytes_eq (ended_from i lines) rest ≡ false
  line_differs rest other =
      not_true (bytes_eq (ended_from i lines) rest)
      (λ same. other (ended_from (i + 1) lines) (sym ((bytes_eq-Decides (ended_from i lines) rest).0 same) ∙ next))
