-- What reading gives, and what a function answers of it.
use Rattle.std.specs.Prelude.{◌≡◌, ℕ, List, [], ◌∷◌, length, Result, Ok, Err, if◌then◌else◌}
use Rattle.rh_terms.specs.declared.fault.Fault.{Fault}
use Rattle.rh_terms.specs.declared.fault.Fault.TheVariants.{Syntax, Unsupported}
use Rattle.rh_terms.specs.declared.fault.ReadError.{ReadError}
use Rattle.rh_terms.specs.declared.fault.ReadError.TheVariants as errors
use Rattle.rh_terms.specs.Bytes.{is_unsupported}

-- the second reads on where the first was read; the first fault counts
infixl 10 ◌>>=◌
abbrev pub ◌>>=◌ : {A B : Type 0} → Result A Fault → (A → Result B Fault) → Result B Fault
(Ok x) >>= f = f x
(Err e) >>= f = Err e

-- what reading gives: a value and the bytes behind it, or the first fault
abbrev pub Read : Type 0 → Type 0
Read A = Result (A × List ℕ) Fault

-- what was read, changed by f
abbrev pub under : {A B : Type 0} → (A → B) → Read A → Read B
under f read = read >>= λ x. Ok (f x.0, x.1)

-- The fault at a place where nothing can go on: Unsupported where a byte of that kind stands there, else Syntax (ours).
-- A fault's number says how many bytes are left from its place on.
abbrev pub stuck : List ℕ → Fault
stuck [] = Syntax 0
stuck (b ∷ bs) = if is_unsupported b then Unsupported (length (b ∷ bs)) else Syntax (length (b ∷ bs))

-- the fault that a function answered is the one that reading gives, unless memory ran out
abbrev pub Fails : {Y : Type 0} → ReadError → Result Y Fault → Type 0
Fails errors.Memory read = Unit {0}
Fails (errors.Fault f) read = read ≡ Err f

-- what a function answered, seen by `view`, is what reading gives, unless memory ran out
abbrev pub ReadsAs : {X Y : Type 0} → (X → Y) → Result X ReadError → Result Y Fault → Type 0
ReadsAs view (Ok x) read = read ≡ Ok (view x)
ReadsAs view (Err e) read = Fails e read
