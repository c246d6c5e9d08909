-- What passes between a program and a device of both directions, in the order in which it does (ours). What came last stands first.
use Rattle.std.specs.Prelude.{◌≡◌, ℕ, List, [], ◌∷◌, ◌++◌, Bool, true, false}

-- what one call did
pub data Deed : Type 0 where
  -- the device was asked, and gave these bytes: none only where none are left
  Gave : List ℕ → Deed
  -- it was offered bytes, and took these
  Took : List ℕ → Deed
  -- it was flushed: whatever it took is where it belongs
  Flushed : Deed

-- all bytes that it gave
abbrev pub given : List Deed → List ℕ
given [] = []
given (Gave bytes ∷ log) = given log ++ bytes
given (Took bytes ∷ log) = given log
given (Flushed ∷ log) = given log

-- all bytes that it took
abbrev pub taken : List Deed → List ℕ
taken [] = []
taken (Gave bytes ∷ log) = taken log
taken (Took bytes ∷ log) = taken log ++ bytes
taken (Flushed ∷ log) = taken log

-- is all that it took where it belongs?
abbrev pub is_flushed : List Deed → Bool
is_flushed [] = true
is_flushed (Gave bytes ∷ log) = is_flushed log
is_flushed (Took bytes ∷ log) = false
is_flushed (Flushed ∷ log) = true

-- has it said that no bytes are left?
abbrev pub is_ended : List Deed → Bool
is_ended [] = false
is_ended (Gave [] ∷ log) = true
is_ended (Gave (b ∷ bytes) ∷ log) = false
is_ended (Took bytes ∷ log) = is_ended log
is_ended (Flushed ∷ log) = is_ended log

-- from the first state to the second the device did this
abbrev pub Does : {D : Type 0} → (D → D → List ℕ → Type 0) → (D → D → List ℕ → Type 0) → (D → D → Type 0) → D → D → Deed → Type 0
Does gives takes flushes a b (Gave bytes) = gives a b bytes
Does gives takes flushes a b (Took bytes) = takes a b bytes
Does gives takes flushes a b Flushed = flushes a b

-- from the first state to the second it did all of this, and nothing else
abbrev pub Goes : {D : Type 0} → (D → D → List ℕ → Type 0) → (D → D → List ℕ → Type 0) → (D → D → Type 0) → D → D → List Deed → Type 0
Goes gives takes flushes a b [] = a ≡ b
Goes {D = D} gives takes flushes a b (deed ∷ log) = (d : D) × Goes gives takes flushes a d log × Does gives takes flushes d b deed
