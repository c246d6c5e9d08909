-- What is heard at once, and cut into whole lines (ours).
use Rattle.std.specs.Prelude.{◌≡◌, ◌<◌, ◌≤◌, ◌+◌, ◌⊎◌, ◌==◌, ℕ, List, [], ◌∷◌, ◌++◌, length, Bool, true, false, Result, Ok, Err}
use Rattle.std.specs.List.{list_any}
use Rattle.rh_devices.specs.declared.watched.Watched.{Watched}
use Rattle.rh_devices.specs.Devices.{input_limit}
use Rattle.rh_manner.specs.declared.ear.Ear.{Ear}
use Rattle.rh_manner.specs.declared.ear.Hearing.{Hearing}
use Rattle.rh_manner.specs.declared.ear.Hearing.TheVariants as hearing
use Rattle.rh_manner.specs.declared.fault.DialogueFault.{DialogueFault}
use Rattle.rh_manner.specs.declared.fault.DialogueFault.TheVariants as fault

-- does a line end in these bytes?
abbrev pub has_end : List ℕ → Bool
has_end bytes = list_any (λ b. b == 10) bytes

-- each of their lines has its LF
abbrev pub AreWhole : List ℕ → Type 0
AreWhole lines = (lines ≡ []) ⊎ ((front : List ℕ) × (lines ≡ front ++ 10 ∷ []))

-- the device was flushed, and then it gave these bytes
abbrev pub Answered : {D : Type 0} → (D → D → List ℕ → Type 0) → (D → D → Type 0) → Watched D → Watched D → List ℕ → Type 0
Answered {D = D} gives flushes old new bytes = (d : D) × flushes old.inner d × gives d new.inner bytes × (new.failed ≡ false)

-- what was heard is the lines that are whole now and what is kept; at the end of the input it is nothing
abbrev pub Hears : {D : Type 0} → (D → D → List ℕ → Type 0) → (D → D → Type 0) → (D → D → Type 0) → (D → D → Type 0)
    → Result Hearing DialogueFault → Watched D → Watched D → Ear → Ear → Type 0
Hears gives unread flushes unwritten (Ok (hearing.Lines lines)) old new before after =
    (bytes : List ℕ) × Answered gives flushes old new bytes × (before.rest.items ++ bytes ≡ lines.items ++ after.rest.items)
    × AreWhole lines.items × (has_end after.rest.items ≡ false)
    × (after.count ≡ before.count + length bytes) × (0 < length bytes) × (after.count ≤ input_limit)
Hears gives unread flushes unwritten (Ok hearing.End) old new before after = Answered gives flushes old new [] × (after ≡ before)
Hears {D = D} gives unread flushes unwritten (Err fault.Unheard) old new before after =
    (d : D) × flushes old.inner d × unread d new.inner × (new.failed ≡ true)
Hears gives unread flushes unwritten (Err fault.TooLong) old new before after =
    (bytes : List ℕ) × Answered gives flushes old new bytes × (input_limit < before.count + length bytes)
Hears gives unread flushes unwritten (Err fault.Unsaid) old new before after = unwritten old.inner new.inner × (new.failed ≡ true)
Hears gives unread flushes unwritten (Err fault.OutOfMemory) old new before after = (bytes : List ℕ) × Answered gives flushes old new bytes
