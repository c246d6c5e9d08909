-- The code of a list that grows piece by piece.
use Rattle.std.proofs.Common.{◌≡◌, ◌++◌, ℕ, List, [], ◌∷◌, refl, sym, ap, ◌∙◌, append_assoc}
use Rattle.std.specs.List.{flat_map}
use Rattle.std.proofs.lemmas.List.{flat_map_more}
use Rattle.std.proofs.lemmas.List.Concat.{flat_map-append}
use Rattle.rh_model.specs.declared.node.App.{App}
use Rattle.rh_keys.specs.Codes.{number_code, code}
use Rattle.rh_keys.specs.Keys.{app_number}

-- one piece behind the other
pub code-append : (xs ys : List ℕ) → code (xs ++ ys) ≡ code xs ++ code ys
code-append xs ys = flat_map-append number_code xs ys

-- one piece more
pub code_more : {A : Type 0} (f : A → List ℕ) (head : List ℕ) (xs : List A) (x : A)
    → (head ++ code (flat_map f xs)) ++ code (f x) ≡ head ++ code (flat_map f (xs ++ x ∷ []))
code_more f head xs x =
    append_assoc head (code (flat_map f xs)) (code (f x))
    ∙ ap (λ (l : List ℕ). head ++ l) (sym (code-append (flat_map f xs) (f x)) ∙ ap code (flat_map_more f [] xs x))

-- the codes of all pieces
pub code_each : {A : Type 0} (f : A → List ℕ) (xs : List A) → flat_map (λ x. code (f x)) xs ≡ code (flat_map f xs)
code_each f [] = refl
code_each f (x ∷ xs) = ap (λ (l : List ℕ). code (f x) ++ l) (code_each f xs) ∙ sym (code-append (f x) (flat_map f xs))

-- an application of a list
abbrev pub app_code : App → List ℕ
app_code a = code (app_number a)
