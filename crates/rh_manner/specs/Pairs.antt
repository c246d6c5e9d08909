-- A reader and a writer as one device: a call of one leaves the other as it is (ours).
use Rattle.std.specs.Prelude.{◌≡◌, ℕ, List}
use Rattle.rh_manner.specs.declared.pair.Pair.{Pair}

-- so where bytes are given
abbrev pub given_by : {S K : Type 0} → (S → S → List ℕ → Type 0) → Pair S K → Pair S K → List ℕ → Type 0
given_by gives before after bytes = gives before.reader after.reader bytes × (after.writer ≡ before.writer)

-- where the reader fails
abbrev pub unread_by : {S K : Type 0} → (S → S → Type 0) → Pair S K → Pair S K → Type 0
unread_by unread before after = unread before.reader after.reader × (after.writer ≡ before.writer)

-- where bytes are taken
abbrev pub taken_by : {S K : Type 0} → (K → K → List ℕ → Type 0) → Pair S K → Pair S K → List ℕ → Type 0
taken_by takes before after bytes = takes before.writer after.writer bytes × (after.reader ≡ before.reader)

-- and where the writer is flushed, or fails
abbrev pub written_by : {S K : Type 0} → (K → K → Type 0) → Pair S K → Pair S K → Type 0
written_by does before after = does before.writer after.writer × (after.reader ≡ before.reader)
