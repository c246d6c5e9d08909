-- Arrays whose values were written each behind a comma.
use Rattle.std.proofs.Common.{◌≡◌, ◌+◌, ◌<◌, ◌≤◌, ℕ, length, take, drop, set, List, [], ◌∷◌, ◌++◌, map, filter, Bool, true, false, if◌then◌else◌, refl, sym, ap, ◌∙◌, append_assoc, arith, codes, Result, Ok, Err, OnOk}
use Rattle.std.specs.List.{flat_map, range_with_len}
use Rattle.std.proofs.lemmas.List.{append-nil, flat_map_more, take-append-drop, take-set, drop-set, drop-drop, take_all, drop_all}
use Rattle.std.proofs.Math.Seq.{take-append_seam, drop-append_seam}
use Rattle.std.proofs.lemmas.List.FromFn.{map-range_with_len_more}
use Rattle.std.proofs.lemmas.List.Elements.{filter-append}
use Rattle.std.proofs.lemmas.Grind.{flat_map-append}
use Rattle.rh_json_text.specs.Json.{json_array, behind_comma, bracketed}

pub array_is_bracketed : {X : Type 0} (value : X → List ℕ) (xs : List X) → bracketed (flat_map (behind_comma value) xs) ≡ json_array value xs
unfolding json_array
array_is_bracketed value [] = refl
array_is_bracketed value (x ∷ xs) = refl

-- the bracket in place of the first comma
pub bracket_for_comma : (text : List ℕ) (start : ℕ) → start < length text → set text start 91 ≡ take start text ++ (91 ∷ drop 1 (drop start text))
bracket_for_comma text start inside =
    sym (take-append-drop start (set text start 91))
    ∙ ap (λ (t : List ℕ). t ++ drop start (set text start 91)) (take-set text start 91)
    ∙ ap (λ (t : List ℕ). take start text ++ t) (drop-set text start 91 inside)
    ∙ ap (λ (t : List ℕ). take start text ++ 91 ∷ t) (sym (drop-drop 1 start text))

-- the bracket where no value stands
pub bracket_behind : (text : List ℕ) (start : ℕ) → length text ≤ start → text ++ 91 ∷ [] ≡ take start text ++ (91 ∷ drop 1 (drop start text))
bracket_behind text start all =
    ap (λ (t : List ℕ). t ++ 91 ∷ []) (sym (take_all start text all))
    ∙ ap (λ (t : List ℕ). take start text ++ 91 ∷ drop 1 t) (sym (drop_all start text all))

-- values behind a text, each behind a comma, of which an array was made
pub array_is_closed : {X : Type 0} (value : X → List ℕ) (xs : List X) (begun written closed : List ℕ) (start : ℕ)
    → start ≡ length begun → written ≡ begun ++ flat_map (behind_comma value) xs → closed ≡ take start written ++ bracketed (drop start written)
    → closed ≡ begun ++ json_array value xs
array_is_closed value xs begun written closed start at values closing =
    closing
    ∙ ap (λ (n : ℕ). take n written ++ bracketed (drop n written)) at
    ∙ ap (λ (t : List ℕ). take (length begun) t ++ bracketed (drop (length begun) t)) values
    ∙ ap (λ (t : List ℕ). t ++ bracketed (drop (length begun) (begun ++ flat_map (behind_comma value) xs))) (take-append_seam begun (flat_map (behind_comma value) xs))
    ∙ ap (λ (t : List ℕ). begun ++ bracketed t) (drop-append_seam begun (flat_map (behind_comma value) xs))
    ∙ ap (λ (t : List ℕ). begun ++ t) (array_is_bracketed value xs)

-- a text behind which one more value was written, and those of the numbers up to it
pub numbers_more : {X : Type 0} (value : X → List ℕ) (numbered : ℕ → X) (begun text more : List ℕ) (i : ℕ)
    → text ≡ begun ++ flat_map value (map numbered (range_with_len 0 i)) → more ≡ text ++ value (numbered i)
    → more ≡ begun ++ flat_map value (map numbered (range_with_len 0 (i + 1)))
numbers_more value numbered begun text more i so_far added =
    added
    ∙ ap (λ (t : List ℕ). t ++ value (numbered i)) so_far
    ∙ flat_map_more value begun (map numbered (range_with_len 0 i)) (numbered i)
    ∙ ap (λ xs. begun ++ flat_map value xs) (sym (map-range_with_len_more numbered 0 i i (omega arith)))

-- the value of an element, where it passes
one_passed : {X : Type 0} (value : X → List ℕ) (x : X) (passes : Bool) → flat_map value (if passes then x ∷ [] else []) ≡ (if passes then value x else [])
one_passed value x true = append-nil (value x)
one_passed value x false = refl

-- the same of those numbers that pass
pub passed_more : {X : Type 0} (value : X → List ℕ) (test : X → Bool) (numbered : ℕ → X) (begun text more : List ℕ) (i : ℕ)
    → text ≡ begun ++ flat_map value (filter test (map numbered (range_with_len 0 i)))
    → more ≡ text ++ (if test (numbered i) then value (numbered i) else [])
    → more ≡ begun ++ flat_map value (filter test (map numbered (range_with_len 0 (i + 1))))
passed_more value test numbered begun text more i so_far added =
    let earlier = map numbered (range_with_len 0 i) in
    let x = numbered i in
    added
    ∙ ap (λ (t : List ℕ). t ++ (if test x then value x else [])) so_far
    ∙ append_assoc begun (flat_map value (filter test earlier)) (if test x then value x else [])
    ∙ ap (λ (t : List ℕ). begun ++ (flat_map value (filter test earlier) ++ t)) (sym (one_passed value x (test x)))
    ∙ ap (λ (t : List ℕ). begun ++ t) (sym (flat_map-append value (filter test earlier) (filter test (x ∷ []))))
    ∙ ap (λ xs. begun ++ flat_map value xs) (sym (filter-append test earlier (x ∷ [])))
    ∙ ap (λ xs. begun ++ flat_map value (filter test xs)) (sym (map-range_with_len_more numbered 0 i i (omega arith)))

-- a comma was written, and then a value
pub one_behind : {X : Type 0} (value : X → List ℕ) (x : X) (begun with_comma more : List ℕ)
    → with_comma ≡ begun ++ codes "," → more ≡ with_comma ++ value x → more ≡ begun ++ behind_comma value x
one_behind value x begun with_comma more comma added =
    added ∙ ap (λ (t : List ℕ). t ++ value x) comma ∙ append_assoc begun (codes ",") (value x)

-- the texts of the elements of lists that stand one behind the other
pub flat_each : {X Y : Type 0} (text : Y → List ℕ) (list : X → List Y) (xs : List X)
    → flat_map text (flat_map list xs) ≡ flat_map (λ (x : X). flat_map text (list x)) xs
flat_each text list [] = refl
flat_each text list (x ∷ xs) =
    flat_map-append text (list x) (flat_map list xs) ∙ ap (λ (t : List ℕ). flat_map text (list x) ++ t) (flat_each text list xs)

-- a text behind which a front was written, and then, if there was memory, the rest
pub rest_behind_front : {A E : Type 0} (result : Result A E) (begun front rest middle whole : List ℕ) → middle ≡ begun ++ front
    → OnOk result (whole ≡ middle ++ rest) → OnOk result (whole ≡ begun ++ (front ++ rest))
rest_behind_front (Ok value) begun front rest middle whole first behind =
    behind ∙ ap (λ (t : List ℕ). t ++ rest) first ∙ append_assoc begun front rest
rest_behind_front (Err fault) begun front rest middle whole first behind = tt
