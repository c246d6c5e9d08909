-- The slots after a timer was armed: one of them has it at its end.
use Rattle.std.proofs.Common.{◌≡◌, ◌≢◌, ◌<◌, ◌≤◌, ◌%◌, ℕ, zero, suc, Option, Some, None, List, [], ◌∷◌, ◌++◌, length, get_or, set}
use Rattle.std.proofs.Common.{All, unwrap_or, refl, sym, ap, ◌∙◌, inl, inr, arith}
use Rattle.std.proofs.Math.Path.{ap₂}
use Rattle.std.proofs.lemmas.Bool.{cases_eq}
use Rattle.std.proofs.lemmas.List.{get_or-set_same, get_or-set_other, map_push}
use Rattle.std.proofs.lemmas.List.Elements.{All-head, All-tail, All-weaker, Contains-get_or}
use Rattle.std.proofs.lemmas.List.Sums.{fold-append}
use Rattle.rh_arena.specs.Lists.{listed as timers_in}
use Rattle.rh_wheel.specs.Firing.{behind}
use Rattle.rh_wheel.specs.Stored.{Stored, due_of, in_slot, listed}
use Rattle.rh_wheel.specs.Formed.{IsFormed}
use Rattle.rh_wheel.proofs.Order.{put_in, put_in-behind}
use Rattle.rh_wheel.proofs.Slots.{timed, order, order-zero, order-more, due_from_slot, entries-in_slot}

map_agree : (f g : ℕ → ℕ) (ts : List ℕ) → All (λ t. f t ≡ g t) ts → timed f ts ≡ timed g ts
map_agree f g [] h = refl
map_agree f g (t ∷ ts) h = ap₂ (λ n (l : List (ℕ × ℕ)). (n, t) ∷ l) (All-head (λ t. f t ≡ g t) t ts h) (map_agree f g ts (All-tail (λ t. f t ≡ g t) t ts h))

-- the words v after a timer t of the words w was armed with a due time
pub record IsArmed (w v : Stored) (t due : ℕ) : Type 0 where
  pub numbered : t < length w.dues
  pub free : due_of w t ≡ None
  pub dues : v.dues ≡ set w.dues t (Some due)
  pub own : timers_in v.links (due % 64) ≡ timers_in w.links (due % 64) ++ t ∷ []
  pub others : (k : ℕ) → k ≢ due % 64 → timers_in v.links k ≡ timers_in w.links k

module _ (w v : Stored) (t due : ℕ) (h : IsFormed w) (a : IsArmed w v t due) where
  due-same : due_of v t ≡ Some due
  due-same = ap (λ (l : List (Option ℕ)). get_or l t None) a.dues ∙ get_or-set_same w.dues t (Some due) None a.numbered

  due-other : (u : ℕ) → u ≢ t → due_of v u ≡ due_of w u
  due-other u differs = ap (λ (l : List (Option ℕ)). get_or l u None) a.dues ∙ get_or-set_other w.dues t u (Some due) None differs

  -- each timer that was in a slot is due as it was
  kept : (k : ℕ) → timed (λ u. unwrap_or (due_of v u) 0) (timers_in w.links k) ≡ in_slot w k
  kept k = map_agree (λ u. unwrap_or (due_of v u) 0) (λ u. unwrap_or (due_of w u) 0) (timers_in w.links k)
      (λ i d l. at (get_or (timers_in w.links k) i d) (due_from_slot w h k (get_or (timers_in w.links k) i d) (Contains-get_or (timers_in w.links k) i d l)))
    where
      at : (u : ℕ) → ((d : ℕ) × (due_of w u ≡ Some d) × (d % 64 ≡ k)) → unwrap_or (due_of v u) 0 ≡ unwrap_or (due_of w u) 0
      at u (d, e, m) = ap (λ o. unwrap_or o 0) (due-other u (λ s. let none = a.free in let same = ap (due_of w) s in cc (none, same, e)))

  slot-other : (k : ℕ) → k ≢ due % 64 → in_slot v k ≡ in_slot w k
  slot-other k differs = ap (timed (λ u. unwrap_or (due_of v u) 0)) (a.others k differs) ∙ kept k

  slot-own : in_slot v (due % 64) ≡ in_slot w (due % 64) ++ (due, t) ∷ []
  slot-own =
      ap (timed (λ u. unwrap_or (due_of v u) 0)) a.own
      ∙ map_push {Y = ℕ × ℕ} (λ (u : ℕ). (unwrap_or (due_of v u) 0, u)) (timers_in w.links (due % 64)) t
      ∙ ap₂ (λ (l : List (ℕ × ℕ)) o. l ++ (unwrap_or o 0, t) ∷ []) (kept (due % 64)) due-same

  order-before : (n : ℕ) → n ≤ due % 64 → order v n ≡ order w n
  order-before zero l = order-zero v ∙ sym (order-zero w)
  order-before (suc n) l =
      order-more v n ∙ ap₂ put_in (order-before n (omega arith)) (slot-other n (λ e. omega (arith, e, l))) ∙ sym (order-more w n)

  order-behind : (n : ℕ) → due % 64 < n → order v n ≡ behind (due, t) (order w n)
  order-behind zero l = absurd (omega arith)
  order-behind (suc n) l = elim (cases_eq n (due % 64)) [
    | inl e ↦ order-more v n ∙ ap₂ put_in (order-before n (omega (arith, e))) (last n e)
        ∙ fold-append (λ order entry. behind entry order) (order w n) (in_slot w n) ((due, t) ∷ []) ∙ ap (behind (due, t)) (sym (order-more w n))
    | inr differs ↦ order-more v n ∙ ap₂ put_in (order-behind n (omega (arith, l, differs))) (slot-other n differs)
        ∙ put_in-behind (due, t) (order w n) (in_slot w n)
        (All-weaker (λ x. (due_of w x.1 ≡ Some x.0) × (x.0 % 64 ≡ n)) (λ x. x.0 ≢ due)
        (λ x p e. differs (sym p.1 ∙ ap (λ (k : ℕ). k % 64) e)) (in_slot w n) (entries-in_slot w h n))
        ∙ ap (behind (due, t)) (sym (order-more w n))
  ]
    where
      last : (n : ℕ) → n ≡ due % 64 → in_slot v n ≡ in_slot w n ++ (due, t) ∷ []
      last n e = rw e slot-own

  pub listed-armed : listed v ≡ behind (due, t) (listed w)
  unfolding listed
  listed-armed = order-behind 64 (omega arith)
