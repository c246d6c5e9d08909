-- The lists of events that lead to what was found.
use Rattle.std.proofs.Common.{◌≡◌, ◌<◌, ◌+◌, ℕ, zero, suc, List, [], ◌∷◌, ◌++◌, fold, map, length, get_or, slice_get, unwrap_or, drop, Option, Some, None, inl, inr, refl, sym, ap, ◌∙◌, append_assoc, arith}
use Rattle.std.specs.Option.{option_map}
use Rattle.std.proofs.lemmas.Bool.{cases_lt}
use Rattle.std.proofs.lemmas.List.{length_push, length-map, length-drop, map_push, drop_more}
use Rattle.std.proofs.lemmas.Option.{slice_get-map, slice_get_within, slice_get-get_or, none-some, same_Some}
use Rattle.rh_rules.specs.declared.event.Event.{Event}
use Rattle.rh_explore.specs.declared.space.Found.{Found}
use Rattle.rh_explore.specs.Reaching.{Scope}
use Rattle.rh_explore.specs.Spaces.{Seen}
use Rattle.rh_explore.specs.Kept.{path_by, with_path, paths_of, seen_by, seen_of, AreLinked, GoesOnFrom}
use Rattle.rh_keys.proofs.Places.{at_front}

fold_push : {A B : Type 0} (f : B → A → B) (b : B) (xs : List A) (x : A) → fold f b (xs ++ x ∷ []) ≡ f (fold f b xs) x
fold_push f b [] x = refl
fold_push f b (y ∷ ys) x = fold_push f (f b y) ys x

pub paths_push : (found : List Found) (f : Found) → paths_of (found ++ f ∷ []) ≡ paths_of found ++ path_by (paths_of found) f.last ∷ []
paths_push found f = fold_push with_path [] found f

long_from : (paths : List (List Event)) (found : List Found) → length (fold with_path paths found) ≡ length paths + length found
long_from paths [] = omega arith
long_from paths (f ∷ found) =
    let rest = long_from (with_path paths f) found in
    let one = length_push paths (path_by paths f.last) in
    omega (arith, rest, one)

pub length-paths : (found : List Found) → length (paths_of found) ≡ length found
length-paths found = omega (arith, long_from [] found)

-- a path, by that of the state before it
front_of : (paths : List (List Event)) (found : List Found) (k : ℕ) → k < length paths → slice_get (fold with_path paths found) k ≡ slice_get paths k
front_of paths [] k l = refl
front_of paths (f ∷ found) k l =
    front_of (with_path paths f) found k (omega (arith, l, length_push paths (path_by paths f.last))) ∙ at_front paths (path_by paths f.last ∷ []) k l

last_is : {A : Type 0} (xs : List A) (x : A) → slice_get (xs ++ x ∷ []) (length xs) ≡ Some x
last_is [] x = refl
last_is (y ∷ ys) x = last_is ys x

by_earlier : (paths : List (List Event)) (o : Option (ℕ × Event)) (more : List (List Event)) → ((from : ℕ) (e : Event) → o ≡ Some (from, e) → slice_get more from ≡ slice_get paths from)
    → path_by paths o ≡ path_by more o
by_earlier paths None more same = refl
by_earlier paths (Some (from, e)) more same = ap (λ (p : Option (List Event)). unwrap_or p [] ++ e ∷ []) (sym (same from e refl))

path_from : (paths : List (List Event)) (found : List Found) (k : ℕ) (f : Found) → slice_get found k ≡ Some f
    → ((from : ℕ) (e : Event) → f.last ≡ Some (from, e) → from < length paths + k)
    → slice_get (fold with_path paths found) (length paths + k) ≡ Some (path_by (fold with_path paths found) f.last)
path_from paths [] k f at earlier = absurd (none-some f at)
path_from paths (g ∷ found) zero f at earlier =
    let is : g ≡ f = same_Some g f at in
    let more = with_path paths g in
    let long = length_push paths (path_by paths g.last) in
    ap (slice_get (fold with_path more found)) (omega arith)
    ∙ front_of more found (length paths) (omega (arith, long))
    ∙ last_is paths (path_by paths g.last)
    ∙ ap (λ (h : Found). Some (path_by paths h.last)) is
    ∙ ap Some (by_earlier paths f.last (fold with_path more found) (λ from e last.
    let l : from < length paths = omega (arith, earlier from e last) in
    front_of more found from (omega (arith, l, long)) ∙ at_front paths (path_by paths g.last ∷ []) from l))
path_from paths (g ∷ found) (suc k) f at earlier =
    let more = with_path paths g in
    let long = length_push paths (path_by paths g.last) in
    ap (slice_get (fold with_path more found)) (omega (arith, long))
    ∙ path_from more found k f at (λ from e last. omega (arith, earlier from e last, long))

pub path_is : (found : List Found) → AreLinked found → (k : ℕ) (f : Found) → slice_get found k ≡ Some f → slice_get (paths_of found) k ≡ Some (path_by (paths_of found) f.last)
path_is found linked k f at =
    ap (slice_get (paths_of found)) (omega arith)
    ∙ path_from [] found k f at (λ from e last. omega (arith, linked.earlier k f from e at last))

pub path_there : (found : List Found) (k : ℕ) → k < length found → slice_get (paths_of found) k ≡ Some (unwrap_or (slice_get (paths_of found) k) [])
path_there found k l =
    let paths = paths_of found in
    let at = slice_get-get_or paths k [] (omega (arith, l, length-paths found)) in
    at ∙ ap (λ (o : Option (List Event)). Some (unwrap_or o [])) (sym at)

-- ---- what was seen
abbrev pub path_at : List Found → ℕ → List Event
path_at found k = unwrap_or (slice_get (paths_of found) k) []

pub length-seen : (w : Scope) (found : List Found) → length (seen_of w found) ≡ length found
length-seen w found = length-map (paths_of found) (seen_by w) ∙ length-paths found

pub seen_there : (w : Scope) (found : List Found) (k : ℕ) (f : Found) → slice_get found k ≡ Some f → slice_get (seen_of w found) k ≡ Some (seen_by w (path_at found k))
seen_there w found k f at =
    slice_get-map (seen_by w) (paths_of found) k ∙ ap (option_map (seen_by w)) (path_there found k (slice_get_within found k f at))

pub seen_push : (w : Scope) (found : List Found) (f : Found)
    → seen_of w (found ++ f ∷ []) ≡ seen_of w found ++ seen_by w (path_by (paths_of found) f.last) ∷ []
seen_push w found f = ap (map (seen_by w)) (paths_push found f) ∙ map_push (seen_by w) (paths_of found) (path_by (paths_of found) f.last)

pub depth_is : (found : List Found) (k : ℕ) (f : Found) → AreLinked found → slice_get found k ≡ Some f → f.depth ≡ length (path_at found k)
depth_is found k f linked at =
    let long = λ (path : List Event). length path in
    let deep = λ (g : Found). g.depth in
    let here : slice_get (map deep found) k ≡ Some f.depth = slice_get-map deep found k ∙ ap (option_map deep) at in
    let there : slice_get (map long (paths_of found)) k ≡ Some (length (path_at found k)) =
    slice_get-map long (paths_of found) k ∙ ap (option_map long) (path_there found k (slice_get_within found k f at)) in
    same_Some f.depth (length (path_at found k)) (sym here ∙ ap (λ (ns : List ℕ). slice_get ns k) linked.depths ∙ there)

-- one more was found, by an event in one that was found before
pub linked_push : (found : List Found) (f g : Found) (at : ℕ) (e : Event) → AreLinked found → slice_get found at ≡ Some f → g.last ≡ Some (at, e)
    → g.depth ≡ f.depth + 1 → AreLinked (found ++ g ∷ [])
linked_push found f g at e linked here last deeper =
    let long = λ (path : List Event). length path in
    let deep = λ (h : Found). h.depth in
    let path = path_by (paths_of found) g.last in
    let is : path ≡ path_at found at ++ e ∷ [] = ap (path_by (paths_of found)) last in
    let one : g.depth ≡ length path = omega (arith, deeper, depth_is found at f linked here, ap long is, length_push (path_at found at) e) in
    record {
      depths = map_push deep found g
          ∙ (λ i. linked.depths i ++ one i ∷ [])
          ∙ sym (map_push long (paths_of found) path)
          ∙ ap (map long) (sym (paths_push found g));
      earlier = λ k h from d that by.
          let k_in = slice_get_within (found ++ g ∷ []) k h that in
          let all = length_push found g in
          elim (cases_lt k (length found)) [
            | inl l ↦ linked.earlier k h from d (sym (at_front found (g ∷ []) k l) ∙ that) by
            | inr m ↦
                let k_is : k ≡ length found = omega (arith, m, k_in, all) in
                let h_is : g ≡ h = same_Some g h (sym (last_is found g) ∙ ap (slice_get (found ++ g ∷ [])) (sym k_is) ∙ that) in
                let both : (at, e) ≡ (from, d) = same_Some (at, e) (from, d) (sym last ∙ ap (λ (z : Found). z.last) h_is ∙ by) in
                let from_is : at ≡ from = ap (λ (z : ℕ × Event). z.0) both in
                omega (arith, from_is, k_is, slice_get_within found at f here)
          ];
    }

-- what is found later leaves what was
pub found_stays : (old new : List Found) (k : ℕ) (f : Found) → GoesOnFrom old new → slice_get old k ≡ Some f → slice_get new k ≡ Some f
found_stays old new k f on here =
    ap (λ (l : List Found). slice_get l k) on.1 ∙ at_front old on.0 k (slice_get_within old k f here) ∙ here

fold_on : (paths : List (List Event)) (old more : List Found) → fold with_path paths (old ++ more) ≡ fold with_path (fold with_path paths old) more
fold_on paths [] more = refl
fold_on paths (f ∷ old) more = fold_on (with_path paths f) old more

pub path_stays : (old new : List Found) (k : ℕ) → GoesOnFrom old new → k < length old → path_at new k ≡ path_at old k
path_stays old new k on l =
    ap (λ (fs : List Found). path_at fs k) on.1
    ∙ ap (λ (ps : List (List Event)). unwrap_or (slice_get ps k) []) (fold_on [] old on.0)
    ∙ ap (λ (o : Option (List Event)). unwrap_or o []) (front_of (paths_of old) on.0 k (omega (arith, l, length-paths old)))

pub seen_stays : (w : Scope) (old new : List Found) (k : ℕ) (x : Seen) → GoesOnFrom old new → slice_get (seen_of w old) k ≡ Some x → slice_get (seen_of w new) k ≡ Some x
seen_stays w old new k x on here =
    let within = slice_get_within (seen_of w old) k x here in
    slice_get-map (seen_by w) (paths_of new) k
    ∙ ap (option_map (seen_by w))
    (ap (λ (fs : List Found). slice_get (paths_of fs) k) on.1
    ∙ ap (λ (ps : List (List Event)). slice_get ps k) (fold_on [] old on.0)
    ∙ front_of (paths_of old) on.0 k (omega (arith, within, length-map (paths_of old) (seen_by w))))
    ∙ sym (slice_get-map (seen_by w) (paths_of old) k)
    ∙ here

pub goes_on : (old mid new : List Found) → GoesOnFrom old mid → GoesOnFrom mid new → GoesOnFrom old new
goes_on old mid new a b = (a.0 ++ b.0, b.1 ∙ ap (λ (l : List Found). l ++ b.0) a.1 ∙ append_assoc old a.0 b.0)

-- ---- the front
pub drop_first : {A : Type 0} (xs : List A) (n : ℕ) (y : A) (ys : List A) → y ∷ ys ≡ drop n xs → (slice_get xs n ≡ Some y) × (ys ≡ drop (n + 1) xs)
drop_first xs n y ys e =
    let long = ap (λ (l : List _). length l) e in
    let n_in : n < length xs = omega (arith, long, length-drop n xs) in
    let more = drop_more xs n y n_in in
    let whole : y ∷ ys ≡ get_or xs n y ∷ drop (n + 1) xs = e ∙ more in
    (slice_get-get_or xs n y n_in ∙ ap Some (sym (heads whole)), tails whole)
  where
    heads : {A : Type 0} {a b : A} {r t : List A} → a ∷ r ≡ b ∷ t → a ≡ b
    heads e = cc

    tails : {A : Type 0} {a b : A} {r t : List A} → a ∷ r ≡ b ∷ t → r ≡ t
    tails e = cc
