-- A due time that is exchanged for that of a timer, and exchanged again.
use Rattle.std.proofs.Common.{◌≡◌, ℕ, List, length, get_or, set, Option, Some, None, refl, sym, ap, ◌∙◌, arith, inl, inr}
use Rattle.std.proofs.Math.Path.{ap₂}
use Rattle.std.proofs.lemmas.Bool.{cases_lt}
use Rattle.std.specs.Option.{option_map}
use Rattle.std.specs.Prelude.{◌%◌, unwrap_or}
use Rattle.std.proofs.lemmas.List.{get_or_default, set-set, set-get_or, set_past, get_or-set_same, get_or_past}
use Rattle.rh_arena.specs.Exchange.{exchange as exchange_links, turned as turned_links}
use Rattle.rh_arena.proofs.Exchanges.{exchange_twice as links_twice}
use Rattle.rh_wheel.specs.Edits.{EditView, links_of, exchange, turned}
use Rattle.rh_wheel.specs.Formed.{IsFormed}
use Rattle.rh_wheel.specs.Stored.{Stored}

-- what is kept is equal where its parts are
pub Stored-same : (w v : Stored) → w.links ≡ v.links → w.dues ≡ v.dues → w ≡ v
Stored-same w v l d = ap₂ {C = Stored} (λ links dues. record { links = links; dues = dues }) l d

-- a value is written back
pub set-back : {X : Type 0} (xs : List X) (i : ℕ) (x y d : X) → get_or xs i d ≡ y → set (set xs i x) i y ≡ xs
set-back xs i x y d e = set-set xs i x y ∙ ap (set xs i) (sym e) ∙ set-get_or xs i d

-- the list is as it was
pub set-exchanged : {X : Type 0} (xs : List X) (i : ℕ) (x : X) → set (set xs i x) i (get_or xs i x) ≡ xs
set-exchanged xs i x = set-back xs i x (get_or xs i x) x refl

-- and so is the value
pub value-exchanged : {X : Type 0} (xs : List X) (i : ℕ) (x : X) → get_or (set xs i x) i (get_or xs i x) ≡ x
value-exchanged xs i x = elim (cases_lt i (length xs)) [
  | inl l ↦ get_or-set_same xs i x (get_or xs i x) l
  | inr m ↦ ap (λ ys. get_or ys i (get_or xs i x)) (set_past xs i x m) ∙ get_or_past xs i (get_or xs i x) m ∙ get_or_past xs i x m
]

-- an exchange is taken back by the next one
pub exchange_twice : (w : Stored) (e : EditView) → exchange (exchange w e) (turned w e) ≡ w
unfolding exchange turned
exchange_twice w e = Stored-same _ w (links_twice w.links (links_of e)) (set-exchanged w.dues e.timer e.due)

armed_due : (due : Option ℕ) → option_map (λ (number : ℕ). unwrap_or due 0) (option_map (λ due. due % 64) due) ≡ due
armed_due None = refl
armed_due (Some due) = refl

kept_due : (slot : Option ℕ) (due : ℕ) → option_map (λ (number : ℕ). unwrap_or (option_map (λ (number : ℕ). due) slot) 0) slot ≡ option_map (λ (number : ℕ). due) slot
kept_due None due = refl
kept_due (Some slot) due = refl

-- an exchange gives an edit a due time exactly if it gives it a slot
pub due-turned : (w : Stored) (t : ℕ) (slot : Option ℕ) (due : ℕ) → IsFormed w
    → option_map (λ (number : ℕ). unwrap_or (get_or w.dues t (option_map (λ (number : ℕ). due) slot)) 0) (get_or w.links.owner t slot)
    ≡ get_or w.dues t (option_map (λ (number : ℕ). due) slot)
due-turned w t slot due formed =
    let left : Option ℕ = option_map (λ (number : ℕ). due) slot in
    elim (cases_lt t (length w.dues)) [
      | inl inside ↦ rw (
        get_or_default w.dues t left None inside,
        get_or_default w.links.owner t slot None (omega (arith, inside, formed.timers, formed.links.owner)),
        formed.slot t,
      ) (armed_due (get_or w.dues t None))
      | inr past ↦ rw (get_or_past w.dues t left past, get_or_past w.links.owner t slot (omega (arith, past, formed.timers, formed.links.owner)))
          (kept_due slot due)
    ]

-- and so is the edit
pub turned_twice : (w : Stored) (e : EditView)
    → turned_links (exchange_links w.links (links_of e)) (turned_links w.links (links_of e)) ≡ links_of e
    → turned (exchange w e) (turned w e) ≡ e
unfolding exchange turned
turned_twice w e same = λ k. record {
  is_done = (same k).is_done;
  changes = (same k).changes;
  timer = e.timer;
  due = value-exchanged w.dues e.timer e.due k;
}
