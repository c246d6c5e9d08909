-- Words of which one list has changed: the others are as they were, and the words are well formed.
use Rattle.std.proofs.Common.{◌≡◌, ◌≢◌, ◌<◌, ◌↔◌, ℕ, List, length, Some, sym, subst, ◌∙◌, inl, inr, arith}
use Rattle.std.specs.List.{Contains}
use Rattle.std.proofs.lemmas.Bool.{cases_lt, cases_eq}
use Rattle.rh_arena.specs.Words.{Words, list_count, owner_of}
use Rattle.rh_arena.specs.Lists.{listed}
use Rattle.rh_arena.specs.WellFormed.{IsList, IsWellFormed}
use Rattle.rh_arena.proofs.Runs.{is_listed}
use Rattle.rh_arena.proofs.Reading.{listed_past}

pub record IsChanged (w v : Words) (l : ℕ) (xs : List ℕ) : Type 0 where
  pub prev : length v.prev ≡ length w.prev
  pub next : length v.next ≡ length w.next
  pub owner : length v.owner ≡ length w.owner
  pub head : length v.head ≡ length w.head
  pub tail : length v.tail ≡ length w.tail
  pub count : length v.count ≡ length w.count
  -- the list has these entries now, and they are those that have it for their list
  pub list : IsList v l xs
  pub owned : (j : ℕ) → (owner_of v j ≡ Some l) ↔ Contains xs j
  pub others : (m : ℕ) → m ≢ l → m < list_count w → IsList v m (listed w m)
  pub owned_others : (j m : ℕ) → m ≢ l → (owner_of v j ≡ Some m) ↔ (owner_of w j ≡ Some m)

module _ (w v : Words) (l : ℕ) (xs : List ℕ) (h : IsWellFormed w) (c : IsChanged w v l xs) where
  pub changed_listed : listed v l ≡ xs
  changed_listed = is_listed v l xs c.list

  pub changed_others : (m : ℕ) → m ≢ l → listed v m ≡ listed w m
  changed_others m other = elim (cases_lt m (list_count w)) [
    | inl lt ↦ is_listed v m (listed w m) (c.others m other lt)
    | inr le ↦ listed_past v m (omega (arith, le, h.count, c.count)) ∙ sym (listed_past w m (omega (arith, le, h.count)))
  ]

  changed_lists : (m : ℕ) → m < list_count v → IsList v m (listed v m)
  changed_lists m lt = elim (cases_eq m l) [
    | inl e ↦ subst (λ n. IsList v n (listed v n)) (sym e) (subst (λ ys. IsList v l ys) (sym changed_listed) c.list)
    | inr other ↦ subst (λ ys. IsList v m ys) (sym (changed_others m other)) (c.others m other (omega (arith, lt, c.head)))
  ]

  changed_owners : (j m : ℕ) → (owner_of v j ≡ Some m) ↔ Contains (listed v m) j
  changed_owners j m = elim (cases_eq m l) [
    | inl e ↦ subst (λ n. (owner_of v j ≡ Some n) ↔ Contains (listed v n) j) (sym e)
        (subst (λ ys. (owner_of v j ≡ Some l) ↔ Contains ys j) (sym changed_listed) (c.owned j))
    | inr other ↦ subst (λ ys. (owner_of v j ≡ Some m) ↔ Contains ys j) (sym (changed_others m other)) (
      λ o. (h.owners j m).0 ((c.owned_others j m other).0 o),
      λ n. (c.owned_others j m other).1 ((h.owners j m).1 n),
    )
  ]

  pub changed_formed : IsWellFormed v
  changed_formed = record {
    next = c.next ∙ h.next ∙ sym c.prev;
    owner = c.owner ∙ h.owner ∙ sym c.prev;
    tail = c.tail ∙ h.tail ∙ sym c.head;
    count = c.count ∙ h.count ∙ sym c.head;
    lists = changed_lists;
    owners = changed_owners;
  }
