-- The slots after a timer was cancelled: none of them has it.
use Rattle.std.proofs.Common.{◌≡◌, ◌≢◌, ◌<◌, ◌%◌, ℕ, zero, suc, Option, Some, None, List, [], ◌∷◌, length, get_or, set}
use Rattle.std.proofs.Common.{All, unwrap_or, refl, sym, ap, ◌∙◌, inl, inr, arith}
use Rattle.std.specs.Option.{option_map}
use Rattle.std.proofs.Math.Path.{ap₂}
use Rattle.std.proofs.lemmas.Bool.{cases_eq}
use Rattle.std.proofs.lemmas.Bool.Decides.{eqb_tells}
use Rattle.std.proofs.lemmas.List.{get_or-set_same, get_or-set_other, length-set}
use Rattle.std.proofs.lemmas.List.Elements.{All-head, All-tail, Contains-get_or}
use Rattle.rh_arena.specs.Words.{entry_count, list_count}
use Rattle.rh_arena.specs.Lists.{listed as timers_in, without as all_but}
use Rattle.rh_arena.specs.WellFormed.{IsWellFormed}
use Rattle.rh_wheel.specs.Firing.{without}
use Rattle.rh_wheel.specs.Stored.{Stored, due_of, in_slot, listed}
use Rattle.rh_wheel.specs.Formed.{IsFormed}
use Rattle.rh_wheel.proofs.Order.{put_in, without-put_in}
use Rattle.rh_wheel.proofs.Slots.{timed, order, order-zero, order-more, by_due-order, due_from_slot, within_from_due}

map-all_but : (f g : ℕ → ℕ) (t : ℕ) → ((u : ℕ) → u ≢ t → f u ≡ g u) → (ts : List ℕ)
    → timed f (all_but t ts) ≡ without t (timed g ts)
map-all_but f g t h [] = refl
map-all_but f g t h (u ∷ ts) = elim (eqb_tells u t) [
  | inl a ↦ simp a.0 (map-all_but f g t h ts)
  | inr a ↦ simp a.0 (ap₂ (λ n (l : List (ℕ × ℕ)). (n, u) ∷ l) (h u a.1) (map-all_but f g t h ts))
]

all_but-absent : (t : ℕ) (ts : List ℕ) → All (λ u. u ≢ t) ts → all_but t ts ≡ ts
all_but-absent t [] h = refl
all_but-absent t (u ∷ ts) h = elim (eqb_tells u t) [
  | inl a ↦ absurd (All-head (λ u. u ≢ t) u ts h a.1)
  | inr a ↦ simp a.0 (ap (λ l. u ∷ l) (all_but-absent t ts (All-tail (λ u. u ≢ t) u ts h)))
]

-- the words v after a timer t of the words w, which was due at a time, was cancelled
pub record IsCancelled (w v : Stored) (t due : ℕ) : Type 0 where
  pub armed : due_of w t ≡ Some due
  pub dues : v.dues ≡ set w.dues t None
  pub own : timers_in v.links (due % 64) ≡ all_but t (timers_in w.links (due % 64))
  pub others : (k : ℕ) → k ≢ due % 64 → timers_in v.links k ≡ timers_in w.links k

module _ (w v : Stored) (t due : ℕ) (h : IsFormed w) (c : IsCancelled w v t due) where
  due-other : (u : ℕ) → u ≢ t → due_of v u ≡ due_of w u
  due-other u differs = ap (λ (l : List (Option ℕ)). get_or l u None) c.dues ∙ get_or-set_other w.dues t u None None differs

  due-same : due_of v t ≡ None
  due-same = ap (λ (l : List (Option ℕ)). get_or l t None) c.dues ∙ get_or-set_same w.dues t None None (within_from_due w.dues t due c.armed)

  slot : (k : ℕ) → timers_in v.links k ≡ all_but t (timers_in w.links k)
  slot k = elim (cases_eq k (due % 64)) [
    | inl e ↦ rw e c.own
    | inr differs ↦ c.others k differs ∙ sym (all_but-absent t (timers_in w.links k)
        (λ i d l e. elsewhere differs (get_or (timers_in w.links k) i d) e
        (due_from_slot w h k (get_or (timers_in w.links k) i d) (Contains-get_or (timers_in w.links k) i d l))))
  ]
    where
      elsewhere : k ≢ due % 64 → (u : ℕ) → u ≡ t → ((d : ℕ) × (due_of w u ≡ Some d) × (d % 64 ≡ k)) → ⊥
      elsewhere differs u e (d, is, m) =
          let s : Some due ≡ Some d = sym c.armed ∙ sym (ap (due_of w) e) ∙ is in
          let same : due ≡ d = cc s in
          differs (sym m ∙ sym (ap (λ (n : ℕ). n % 64) same))

  in_slot-cancelled : (k : ℕ) → in_slot v k ≡ without t (in_slot w k)
  in_slot-cancelled k =
      ap (timed (λ u. unwrap_or (due_of v u) 0)) (slot k)
      ∙ map-all_but (λ u. unwrap_or (due_of v u) 0) (λ u. unwrap_or (due_of w u) 0) t (λ u differs. ap (λ o. unwrap_or o 0) (due-other u differs))
      (timers_in w.links k)

  order-cancelled : (n : ℕ) → order v n ≡ without t (order w n)
  order-cancelled zero = order-zero v ∙ sym (ap (without t) (order-zero w))
  order-cancelled (suc n) =
      order-more v n ∙ ap₂ put_in (order-cancelled n) (in_slot-cancelled n)
      ∙ sym (without-put_in t (order w n) (in_slot w n) (by_due-order w n)) ∙ ap (without t) (sym (order-more w n))

  pub listed-cancelled : listed v ≡ without t (listed w)
  unfolding listed
  listed-cancelled = order-cancelled 64

  pub IsFormed-cancelled : IsWellFormed v.links → list_count v.links ≡ list_count w.links → entry_count v.links ≡ entry_count w.links
      → v.links.owner ≡ set w.links.owner t None → IsFormed v
  IsFormed-cancelled formed lists entries owner = record {
    links = formed;
    slots = lists ∙ h.slots;
    timers = entries ∙ h.timers ∙ sym (ap (λ (l : List (Option ℕ)). length l) c.dues ∙ length-set w.dues t None);
    slot = λ u. elim (cases_eq u t) [
      | inl e ↦ rw e (ap (λ (l : List (Option ℕ)). get_or l t None) owner
          ∙ get_or-set_same w.links.owner t None None within ∙ sym (ap (option_map (λ (d : ℕ). d % 64)) due-same))
      | inr e ↦ ap (λ (l : List (Option ℕ)). get_or l u None) owner ∙ get_or-set_other w.links.owner t u None None e ∙ h.slot u
          ∙ sym (ap (option_map (λ (d : ℕ). d % 64)) (due-other u e))
    ];
  }
    where
      within : t < length w.links.owner
      within = let o = h.links.owner in let m = h.timers in let n = within_from_due w.dues t due c.armed in omega (arith, o, m, n)
