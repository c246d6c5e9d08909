-- Lists computed from the definitions.
use Rattle.std.proofs.Common.{◌≡◌, ℕ, Some, None, List, [], ◌∷◌, slice_get, refl}
use Rattle.rh_arena.specs.Words.{unlinked}
use Rattle.rh_arena.specs.Lists.{listed as in_list}
use Rattle.rh_arena.specs.Linking.{pushed, removed}
use Rattle.rh_wheel.specs.Firing.{behind, without, due_in, due_at, in_firing_order}
use Rattle.rh_wheel.specs.Stored.{Stored, timer_count, in_slot, in_slots, listed}

-- three timers in 64 slots: 2, 0 and 1, armed in this order, all of which are in slot 36
abbrev wheel : Stored
wheel = record {
  links = pushed (pushed (pushed (unlinked 3 64) 36 2) 36 0) 36 1;
  dues = Some 36 ∷ Some 100 ∷ Some 100 ∷ [];
}

count : timer_count wheel ≡ 3
unfolding timer_count
count = refl

slot : in_slot wheel 36 ≡ (100, 2) ∷ (36, 0) ∷ (100, 1) ∷ []
unfolding in_list
slot = refl

other_slot : in_slot wheel 37 ≡ []
unfolding in_list
other_slot = refl

-- the one that is due first fires first, and the two that are due together in the order in which they were armed
firing_order : listed wheel ≡ (36, 0) ∷ (100, 2) ∷ (100, 1) ∷ []
unfolding in_list in_slots listed
firing_order = refl

-- the first of two that are due together is cancelled, and armed anew
abbrev armed_anew : Stored
armed_anew = record { links = pushed (removed wheel.links 36 2) 36 2; dues = wheel.dues }

behind_its_equals : listed armed_anew ≡ (36, 0) ∷ (100, 1) ∷ (100, 2) ∷ []
unfolding in_list in_slots listed
behind_its_equals = refl

-- and it is cancelled
abbrev one_less : Stored
one_less = record { links = removed wheel.links 36 2; dues = Some 36 ∷ Some 100 ∷ None ∷ [] }

without_it : listed one_less ≡ (36, 0) ∷ (100, 1) ∷ []
unfolding in_list in_slots listed
without_it = refl

-- entries of several slots, those of a slot one behind the other
sorted : in_firing_order ((64, 5) ∷ (0, 1) ∷ (65, 4) ∷ (1, 0) ∷ (65, 2) ∷ (2, 3) ∷ []) ≡ (0, 1) ∷ (1, 0) ∷ (2, 3) ∷ (64, 5) ∷ (65, 4) ∷ (65, 2) ∷ []
sorted = refl

abbrev armed : List (ℕ × ℕ)
armed = (36, 0) ∷ (100, 2) ∷ (100, 1) ∷ []

first : slice_get armed 0 ≡ Some (36, 0)
first = refl

first_after_cancelling : slice_get (without 0 armed) 0 ≡ Some (100, 2)
first_after_cancelling = refl

between : behind (99, 3) armed ≡ (36, 0) ∷ (99, 3) ∷ (100, 2) ∷ (100, 1) ∷ []
between = refl

due : due_in 1 armed ≡ Some 100
due = refl

not_armed : due_in 3 armed ≡ None
not_armed = refl

due_together : due_at 100 armed ≡ (100, 2) ∷ (100, 1) ∷ []
due_together = refl

none_armed : slice_get (without 7 ((5, 7) ∷ [])) 0 ≡ None
none_armed = refl
