-- Words that are set where an entry has a neighbour, and where it has none.
use Rattle.std.proofs.Common.{◌≡◌, ◌≢◌, ◌<◌, ℕ, List, length, Option, Some, None, get_or, set, refl, sym, ap, subst, arith}
use Rattle.std.proofs.lemmas.List.{length-set, get_or-set_same, get_or-set_other}
use Rattle.rh_arena.specs.Words.{Words, entry_count, list_count, prev_of, next_of, tail_of}
use Rattle.rh_arena.specs.Linking.{set_at, set_unless, pushed, removed}

-- ---- a word of an entry, where there is one
pub length-set_at : {A : Type 0} (xs : List A) (o : Option ℕ) (x : A) → length (set_at xs o x) ≡ length xs
length-set_at xs None x = refl
length-set_at xs (Some i) x = length-set xs i x

pub set_at_other : {A : Type 0} (xs : List A) (o : Option ℕ) (x d : A) (j : ℕ) → o ≢ Some j → get_or (set_at xs o x) j d ≡ get_or xs j d
set_at_other xs None x d j other = refl
set_at_other xs (Some i) x d j other = get_or-set_other xs i j x d (λ e. other (ap (λ k. Some k) (sym e)))

pub set_at_same : {A : Type 0} (xs : List A) (o : Option ℕ) (x d : A) (j : ℕ) → o ≡ Some j → j < length xs → get_or (set_at xs o x) j d ≡ x
set_at_same xs None x d j e lt = absurd (cc e)
set_at_same xs (Some i) x d j e lt = let q : j ≡ i = cc e in subst (λ k. get_or (set xs i x) k d ≡ x) (sym q) (get_or-set_same xs i x d (omega (arith, q, lt)))

-- ---- a word of a list, where an entry has none
pub length-set_unless : {A : Type 0} (xs : List A) (o : Option ℕ) (l : ℕ) (x : A) → length (set_unless xs o l x) ≡ length xs
length-set_unless xs None l x = length-set xs l x
length-set_unless xs (Some i) l x = refl

pub set_unless_other : {A : Type 0} (xs : List A) (o : Option ℕ) (l : ℕ) (x d : A) (m : ℕ) → m ≢ l → get_or (set_unless xs o l x) m d ≡ get_or xs m d
set_unless_other xs None l x d m other = get_or-set_other xs l m x d other
set_unless_other xs (Some i) l x d m other = refl

pub set_unless_some : {A : Type 0} (xs : List A) (o : Option ℕ) (l : ℕ) (x : A) (j : ℕ) → o ≡ Some j → set_unless xs o l x ≡ xs
set_unless_some xs None l x j e = absurd (cc e)
set_unless_some xs (Some i) l x j e = refl

pub set_unless_none : {A : Type 0} (xs : List A) (o : Option ℕ) (l : ℕ) (x d : A) → o ≡ None → l < length xs → get_or (set_unless xs o l x) l d ≡ x
set_unless_none xs None l x d e lt = get_or-set_same xs l x d lt
set_unless_none xs (Some i) l x d e lt = absurd (cc e)

-- ---- neither changes how many entries and lists there are
pub entry_count-pushed : (w : Words) (l i : ℕ) → entry_count (pushed w l i) ≡ entry_count w
entry_count-pushed w l i = length-set w.prev i (tail_of w l)

pub list_count-pushed : (w : Words) (l i : ℕ) → list_count (pushed w l i) ≡ list_count w
list_count-pushed w l i = length-set_unless w.head (tail_of w l) l (Some i)

pub entry_count-removed : (w : Words) (l i : ℕ) → entry_count (removed w l i) ≡ entry_count w
entry_count-removed w l i = length-set_at w.prev (next_of w i) (prev_of w i)

pub list_count-removed : (w : Words) (l i : ℕ) → list_count (removed w l i) ≡ list_count w
list_count-removed w l i = length-set_unless w.head (prev_of w i) l (next_of w i)
