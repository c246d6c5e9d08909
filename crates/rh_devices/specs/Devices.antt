-- What passes between a program and its devices (ours). What a device may do when it is asked, the device says: a relation of its
-- state before and behind, and of the bytes that it passed.
use Rattle.std.specs.Prelude.{◌≡◌, ◌<◌, ℕ, List, [], ◌∷◌, ◌++◌, length, Bool, true, false}
use Rattle.std.specs.List.{flat_map}
use Rattle.rh_devices.specs.declared.transfer.TheConstants.{INPUT_LIMIT}
use Rattle.rh_devices.specs.declared.watched.Watched.{Watched}
use Rattle.rh_devices.specs.declared.fault.ReadFault.{ReadFault}
use Rattle.rh_devices.specs.declared.fault.ReadFault.TheVariants as reading
use Rattle.rh_devices.specs.declared.fault.WriteFault.{WriteFault}
use Rattle.rh_devices.specs.declared.fault.WriteFault.TheVariants as writing

-- most bytes that a program reads
abbrev pub input_limit : ℕ
input_limit = INPUT_LIMIT

-- from the first state to the second a device passed these pieces, one after the other, and did nothing else
abbrev pub InTurn : {D : Type 0} → (D → D → List ℕ → Type 0) → D → D → List (List ℕ) → Type 0
InTurn {D = D} passes a b [] = a ≡ b
InTurn {D = D} passes a b (piece ∷ pieces) = (d : D) × passes a d piece × InTurn passes d b pieces

-- it passed these bytes, in whatever pieces
abbrev pub Passed : {D : Type 0} → (D → D → List ℕ → Type 0) → D → D → List ℕ → Type 0
Passed {D = D} passes a b bytes = (pieces : List (List ℕ)) × InTurn passes a b pieces × (flat_map (λ piece. piece) pieces ≡ bytes)

-- these bytes, and then it had none left
abbrev pub PassedAll : {D : Type 0} → (D → D → List ℕ → Type 0) → D → D → List ℕ → Type 0
PassedAll {D = D} passes a b bytes = (d : D) × Passed passes a d bytes × passes d b []

-- these bytes, and then it failed
abbrev pub BrokeOff : {D : Type 0} → (D → D → List ℕ → Type 0) → (D → D → Type 0) → D → D → List ℕ → Type 0
BrokeOff {D = D} passes fails a b bytes = (d : D) × Passed passes a d bytes × fails d b

-- a front of the text was taken
abbrev pub FrontTaken : {K : Type 0} → (K → K → List ℕ → Type 0) → K → K → List ℕ → Type 0
FrontTaken takes a b text = (front : List ℕ) × (rest : List ℕ) × Passed takes a b front × (text ≡ front ++ rest)

-- a front of the text was taken, and then the sink failed
abbrev pub FrontBroken : {K : Type 0} → (K → K → List ℕ → Type 0) → (K → K → Type 0) → K → K → List ℕ → Type 0
FrontBroken takes fails a b text = (front : List ℕ) × (rest : List ℕ) × BrokeOff takes fails a b front × (text ≡ front ++ rest)

-- the reader failed, behind whatever it gave
abbrev pub ReaderFailed : {S : Type 0} → (S → S → List ℕ → Type 0) → (S → S → Type 0) → Watched S → Watched S → Type 0
ReaderFailed gives fails old new = (new.failed ≡ true) × (bytes : List ℕ) × BrokeOff gives fails old.inner new.inner bytes

-- it gave more bytes than a program reads
abbrev pub GaveTooMuch : {S : Type 0} → (S → S → List ℕ → Type 0) → Watched S → Watched S → Type 0
GaveTooMuch gives old new = (new.failed ≡ false) × (bytes : List ℕ) × Passed gives old.inner new.inner bytes × (input_limit < length bytes)

-- why the bytes of a reader were not read
abbrev pub WhyUnread : {S : Type 0} → (S → S → List ℕ → Type 0) → (S → S → Type 0) → Watched S → Watched S → ReadFault → Type 0
WhyUnread gives fails old new reading.Failed = ReaderFailed gives fails old new
WhyUnread gives fails old new reading.TooLong = GaveTooMuch gives old new
WhyUnread gives fails old new reading.OutOfMemory = new.failed ≡ false

-- why a text was not written whole: a front of it was
abbrev pub WroteFront : {K : Type 0} → (K → K → List ℕ → Type 0) → (K → K → Type 0) → WriteFault → List ℕ → Watched K → Watched K → Type 0
WroteFront takes fails writing.Failed text old new = FrontBroken takes fails old.inner new.inner text × (new.failed ≡ true)
WroteFront takes fails writing.OutOfMemory text old new = FrontTaken takes old.inner new.inner text × (new.failed ≡ false)
