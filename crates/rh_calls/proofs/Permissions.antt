-- What may not run at a node, by the row of its permissions.
use Rattle.std.proofs.Common.{◌≡◌, ◌+◌, ◌<◌, ◌++◌, ◌||◌, ℕ, zero, suc, Bool, true, false, not, List, [], ◌∷◌, map, length, get_or, take, refl, sym, ap, ◌∙◌, arith, All, if◌then◌else◌}
use Rattle.std.specs.List.{flat_map, list_any, range_with_len}
use Rattle.std.proofs.lemmas.List.FromFn.{fill_by_all}
use Rattle.std.proofs.lemmas.List.Folds.{list_any-append}
use Rattle.std.proofs.lemmas.List.{take_more, append-nil}
use Rattle.std.proofs.lemmas.Option.{unwrap_or-slice_get}
use Rattle.rh_model.specs.ClusterView.{app_count, app_numbered}
use Rattle.rh_model.specs.declared.node.Node.{Node}
use Rattle.rh_model.specs.declared.node.App.{App}
use Rattle.rh_model.proofs.Texts.{list_any-map}
use Rattle.rh_state.specs.Numbers.{apps_of}
use Rattle.rh_state.specs.Shape.{IsShaped, IsNodeOf}
use Rattle.rh_state.specs.StateView.{StateView, is_allowed}
use Rattle.rh_state.specs.Tables.{row}
use Rattle.rh_calls.specs.Report.{forbidden_line, line_if_forbidden}

-- one more answer was read
pub found_more : (answers : List Bool) (i : ℕ) → i < length answers
    → list_any not (take (i + 1) answers) ≡ (list_any not (take i answers) || not (get_or answers i false))
found_more answers i inside =
    ap (list_any not) (take_more answers i false inside)
    ∙ list_any-append not (take i answers) (get_or answers i false ∷ [])
    ∙ ap (λ (b : Bool). list_any not (take i answers) || b) (or_false (not (get_or answers i false)))
  where
    or_false : (b : Bool) → (b || false) ≡ b
    or_false true = refl
    or_false false = refl

-- a row of a table of which each row passes a test
row_passes : {A : Type 0} (P : List A → Type 0) (table : List (List A)) (n : ℕ) → All P table → n < length table → P (row table n)
row_passes P [] n all h = absurd (omega arith)
row_passes P (xs ∷ table) zero all h = all 0 xs (omega arith)
row_passes P (xs ∷ table) (suc n) all h = row_passes P table n (λ k d l. all (suc k) d (omega arith)) (omega arith)

-- a node's permissions are what the state says of each application
pub row_is_asked : (s : StateView) (n : Node) → IsShaped s → IsNodeOf s.cluster n
    → row s.allowed n.0 ≡ map (λ i. is_allowed s n (app_numbered i)) (range_with_len 0 (app_count s.cluster))
row_is_asked s n shaped number =
    let long = row_passes (λ (cells : List Bool). length cells ≡ app_count s.cluster) s.allowed n.0 shaped.allowed_rows (let e = shaped.allowed in omega (arith, e, number)) in
    fill_by_all (λ i. is_allowed s n (app_numbered i)) (row s.allowed n.0) (app_count s.cluster) false long
    (λ k lt. sym (unwrap_or-slice_get (row s.allowed n.0) k false))

pub forbidden_in_row : (s : StateView) (n : Node) → IsShaped s → IsNodeOf s.cluster n
    → list_any not (row s.allowed n.0) ≡ list_any (λ a. not (is_allowed s n a)) (apps_of s.cluster)
unfolding apps_of
forbidden_in_row s n shaped number =
    let numbers = range_with_len 0 (app_count s.cluster) in
    ap (list_any not) (row_is_asked s n shaped number)
    ∙ list_any-map not (λ i. is_allowed s n (app_numbered i)) numbers
    ∙ sym (list_any-map (λ a. not (is_allowed s n a)) app_numbered numbers)

-- where each application may run, no line tells of one that may not
pub no_line : (s : StateView) (n : Node) (apps : List App) → list_any (λ a. not (is_allowed s n a)) apps ≡ false
    → flat_map (line_if_forbidden s n) apps ≡ []
unfolding line_if_forbidden
no_line s n [] none = refl
no_line s n (a ∷ apps) none = by (is_allowed s n a) none (no_line s n apps)
  where
    by : (b : Bool) → (not b || list_any (λ (x : App). not (is_allowed s n x)) apps) ≡ false
        → (list_any (λ (x : App). not (is_allowed s n x)) apps ≡ false → flat_map (line_if_forbidden s n) apps ≡ [])
        → (if b then [] else forbidden_line s.cluster a) ++ flat_map (line_if_forbidden s n) apps ≡ []
    by true none rest = rest none
    by false none rest = cc

-- a text behind which nothing was written
pub nothing_behind : (s : StateView) (n : Node) (text : List ℕ) → list_any (λ a. not (is_allowed s n a)) (apps_of s.cluster) ≡ false
    → text ≡ text ++ flat_map (line_if_forbidden s n) (apps_of s.cluster)
nothing_behind s n text none = sym (append-nil text) ∙ ap (λ (t : List ℕ). text ++ t) (sym (no_line s n (apps_of s.cluster) none))
