-- Cells in whose place others stand, and what writes make of cells.
use Rattle.std.proofs.Common.{◌≡◌, ℕ, zero, suc, ◌+◌, ◌<◌, ◌≤◌, List, [], ◌∷◌, ◌++◌, Option, Some, None, Result, Ok, Err, Bor, length, map, set, refl, ap, sym, subst, ◌∙◌, arith, append_assoc}
use Rattle.std.proofs.Math.Seq.{set-append_seam}
use Rattle.std.proofs.lemmas.Iterator.Adapters.{option_map_id}
use Rattle.std.proofs.lemmas.List.{length_push, set_past, length-set}
use Rattle.std.proofs.lemmas.List.Elements.{All-nil, All-cons}
use Rattle.std.specs.List.{slice_get, filter_map, enumerate_from}
use Rattle.std.proofs.lemmas.Option.{slice_get_past, slice_get_within, slice_get-get_or}
use Rattle.std.specs.Option.{option_map, unwrap_or}
use Rattle.std.specs.Prelude.{All, OnOk}
use Rattle.std.specs.Slice.{IsItemAt}
use Rattle.rh_history.specs.Draft.{DraftView, with_cell, overlaid, written}

-- ---- none stands in the place of another
pub overlaid_nil : {T : Type 0} (cells : List T) → overlaid cells [] ≡ cells
overlaid_nil [] = refl
overlaid_nil (c ∷ cells) = refl

pub overlaid_none : {T : Type 0} (cells : List T) → overlaid cells (map (λ _. None) cells) ≡ cells
overlaid_none [] = refl
overlaid_none (c ∷ cells) = ap (λ v. c ∷ v) (overlaid_none cells)

-- ---- a cell
pub length-overlaid : {T : Type 0} (cells : List T) (own : List (Option T)) → length (overlaid cells own) ≡ length cells
length-overlaid [] own = refl
length-overlaid (c ∷ cells) [] = refl
length-overlaid (c ∷ cells) (o ∷ own) = ap suc (length-overlaid cells own)

pub slice_get-overlaid : {T : Type 0} (cells : List T) (own : List (Option T)) (k : ℕ)
    → slice_get (overlaid cells own) k ≡ option_map (unwrap_or (unwrap_or (slice_get own k) None)) (slice_get cells k)
slice_get-overlaid [] own k = refl
slice_get-overlaid (c ∷ cells) [] k = sym (option_map_id (slice_get (c ∷ cells) k))
slice_get-overlaid (c ∷ cells) (o ∷ own) zero = refl
slice_get-overlaid (c ∷ cells) (o ∷ own) (suc k) = slice_get-overlaid cells own k

-- ---- a cell that is set
pub overlaid-set : {T : Type 0} (cells : List T) (own : List (Option T)) (k : ℕ) (value : T) → length own ≡ length cells
    → overlaid cells (set own k (Some value)) ≡ set (overlaid cells own) k value
overlaid-set [] own k value long = refl
overlaid-set (c ∷ cells) [] k value long = absurd (omega (arith, long))
overlaid-set (c ∷ cells) (o ∷ own) zero value long = refl
overlaid-set (c ∷ cells) (o ∷ own) (suc k) value long =
    ap (λ v. unwrap_or o c ∷ v) (overlaid-set cells own k value (omega (arith, long)))

-- once it is set, what it held before is gone
pub set-overlaid-set : {T : Type 0} (cells : List T) (own : List (Option T)) (k : ℕ) (o : Option T) (value : T)
    → set (overlaid cells (set own k o)) k value ≡ set (overlaid cells own) k value
set-overlaid-set [] own k o value = refl
set-overlaid-set (c ∷ cells) [] k o value = refl
set-overlaid-set (c ∷ cells) (p ∷ own) zero o value = refl
set-overlaid-set (c ∷ cells) (p ∷ own) (suc k) o value = ap (λ v. unwrap_or p c ∷ v) (set-overlaid-set cells own k o value)

-- ---- a draft of some cells, with those of its own
module _ {T : Type 0} (base : List T) (own : List (Option T)) (d : DraftView T) (long : length own ≡ length base)
    (view : record { base = base; cells = overlaid base own } ≡ d) where
  pub length-cells : length d.cells ≡ length own
  length-cells = ap (λ v. length v.cells) (sym view) ∙ length-overlaid base own ∙ sym long

  pub cell_is : (k : ℕ) → slice_get d.cells k ≡ option_map (unwrap_or (unwrap_or (slice_get own k) None)) (slice_get base k)
  cell_is k = ap (λ v. slice_get v.cells k) (sym view) ∙ slice_get-overlaid base own k

  -- what a cell holds
  pub none_held : (k : ℕ) → length own ≤ k → None ≡ slice_get d.cells k
  none_held k past = sym (slice_get_past d.cells k (omega (arith, length-cells, past)))

  pub own_held : (k : ℕ) (value : T) → slice_get own k ≡ Some (Some value) → Some value ≡ slice_get d.cells k
  own_held k value is =
      let inside : k < length base = omega (arith, long, slice_get_within own k (Some value) is) in
      sym (cell_is k
      ∙ (λ i. option_map (unwrap_or (unwrap_or (is i) None)) (slice_get base k))
      ∙ ap (option_map (λ _. value)) (slice_get-get_or base k value inside))

  pub base_held : (k : ℕ) → slice_get own k ≡ Some None → slice_get base k ≡ slice_get d.cells k
  base_held k is =
      sym (cell_is k ∙ (λ i. option_map (unwrap_or (unwrap_or (is i) None)) (slice_get base k)) ∙ option_map_id (slice_get base k))

  pub no_cell : (k : ℕ) (value : T) → length own ≤ k → d ≡ with_cell d k value
  no_cell k value past = λ i. record { base = d.base; cells = sym (set_past d.cells k value (omega (arith, length-cells, past))) i }

  pub cell-set : (k : ℕ) (value : T) → record { base = base; cells = overlaid base (set own k (Some value)) } ≡ with_cell d k value
  cell-set k value = (λ i. record { base = base; cells = overlaid-set base own k value long i }) ∙ (λ i. with_cell (view i) k value)

  pub cell-reset : (k : ℕ) (o : Option T) (value : T)
      → with_cell (record { base = base; cells = overlaid base (set own k o) }) k value ≡ with_cell d k value
  cell-reset k o value = (λ i. record { base = base; cells = set-overlaid-set base own k o value i }) ∙ (λ i. with_cell (view i) k value)

-- what `get` lends
pub item_at : {X : Type 0} (xs : List X) (i : ℕ) (r : Option (Bor X)) → IsItemAt xs i r → option_map (λ x. x.now) r ≡ slice_get xs i
item_at xs i None is = sym (slice_get_past xs i is.3)
item_at xs i (Some x) is = sym (slice_get-get_or xs i x.now is.3.0 ∙ ap Some (sym (is.3.1 x.now)))

-- what holds at any result
pub always_on_ok : {X E P : Type 0} (r : Result X E) → P → OnOk r P
always_on_ok (Ok x) p = p
always_on_ok (Err e) p = tt

-- ---- writes
-- a cell of one's own, with its place
abbrev pub own_write : {T : Type 0} → ℕ × Option T → Option (ℕ × T)
own_write p = option_map (λ value. (p.0, value)) p.1

written-own_write_behind : {T : Type 0} (front cells : List T) (own : List (Option T)) → length own ≤ length cells
    → written (front ++ cells) (filter_map own_write (enumerate_from (length front) own)) ≡ front ++ overlaid cells own
written-own_write_behind front cells [] long = ap (λ v. front ++ v) (sym (overlaid_nil cells))
written-own_write_behind front [] (o ∷ own) long = absurd (omega (arith, long))
written-own_write_behind {T} front (c ∷ cells) (None ∷ own) long =
    (λ i. written (sym (append_assoc front (c ∷ []) cells) i) (filter_map own_write (enumerate_from (sym (length_push front c) i) own)))
    ∙ written-own_write_behind (front ++ c ∷ []) cells own (omega (arith, long))
    ∙ append_assoc front (c ∷ []) (overlaid cells own)
written-own_write_behind {T} front (c ∷ cells) (Some v ∷ own) long =
    (λ i. written ((set-append_seam front c cells v ∙ sym (append_assoc front (v ∷ []) cells)) i)
    (filter_map own_write (enumerate_from (sym (length_push front v) i) own)))
    ∙ written-own_write_behind (front ++ v ∷ []) cells own (omega (arith, long))
    ∙ append_assoc front (v ∷ []) (overlaid cells own)

pub written-own_write : {T : Type 0} (cells : List T) (own : List (Option T)) → length own ≡ length cells
    → written cells (filter_map own_write (enumerate_from 0 own)) ≡ overlaid cells own
written-own_write cells own long = written-own_write_behind [] cells own (omega (arith, long))

own_writes_below : {T : Type 0} (n first : ℕ) (own : List (Option T)) → first + length own ≤ n
    → All (λ (w : ℕ × T). w.0 < n) (filter_map own_write (enumerate_from first own))
own_writes_below {T} n first [] long = let P : ℕ × T → Type 0 = λ w. w.0 < n in All-nil P
own_writes_below n first (None ∷ own) long = own_writes_below n (first + 1) own (omega (arith, long))
own_writes_below {T} n first (Some v ∷ own) long =
    let P : ℕ × T → Type 0 = λ w. w.0 < n in
    All-cons P (first, v) (filter_map own_write (enumerate_from (first + 1) own)) (omega (arith, long)) (own_writes_below n (first + 1) own (omega (arith, long)))

pub own_writes_within : {T : Type 0} (n : ℕ) (own : List (Option T)) → length own ≡ n
    → All (λ (w : ℕ × T). w.0 < n) (filter_map own_write (enumerate_from 0 own))
own_writes_within n own long = own_writes_below n 0 own (omega (arith, long))

-- ---- the writes of a draft
module _ {T : Type 0} (base : List T) (own : List (Option T)) (d : DraftView T) (long : length own ≡ length base)
    (view : record { base = base; cells = overlaid base own } ≡ d) (ws : List (ℕ × T)) (are : ws ≡ filter_map own_write (enumerate_from 0 own)) where
  pub writes_give : written d.base ws ≡ d.cells
  writes_give = (λ i. written (sym view i).base (are i)) ∙ written-own_write base own long ∙ ap (λ v. v.cells) view

  pub writes_within : All (λ w. w.0 < length d.base) ws
  writes_within =
      subst (λ (vs : List (ℕ × T)). All (λ w. w.0 < length d.base) vs) (sym are)
      (own_writes_within (length d.base) own (long ∙ ap (λ v. length v.base) view))

-- ---- writes of cells
pub length-written : {T : Type 0} (cells : List T) (ws : List (ℕ × T)) → length (written cells ws) ≡ length cells
length-written cells [] = refl
length-written cells (w ∷ ws) = length-written (set cells w.0 w.1) ws ∙ length-set cells w.0 w.1

pub written-push : {T : Type 0} (cells : List T) (ws : List (ℕ × T)) (w : ℕ × T)
    → written cells (ws ++ w ∷ []) ≡ set (written cells ws) w.0 w.1
written-push cells [] w = refl
written-push cells (v ∷ ws) w = written-push (set cells v.0 v.1) ws w
