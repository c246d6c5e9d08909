-- How commands are judged one after the other, counted and written (ours).
use Rattle.std.specs.Prelude.{◌≡◌, ℕ, ◌+◌, ◌≤◌, List, ◌∷◌, ◌++◌, length, Bool, true, false, not, ◌||◌, ◌==◌, if◌then◌else◌, Result, Ok, Err}
use Rattle.std.specs.List.{filter, flat_map}
use Rattle.rh_script.specs.declared.script.Line.{Line}
use Rattle.rh_script.specs.declared.script.Line.TheVariants.{Bad}
use Rattle.rh_devices.specs.declared.fault.WriteFault.{WriteFault}
use Rattle.rh_devices.specs.declared.watched.Watched.{Watched}
use Rattle.rh_devices.specs.Devices.{Passed, WroteFront}
use Rattle.rh_verify.specs.declared.blocks.Taken.{Taken}
use Rattle.rh_verify.specs.declared.tally.Tally.{Tally}
use Rattle.rh_verify.specs.declared.tally.Verdict.{Verdict}
use Rattle.rh_verify.specs.Rules.{Rules}
use Rattle.rh_verify.specs.Expected.{Check, checks, answers_in, wanted_among, is_checked}
use Rattle.rh_verify.specs.Blocks.{missing, all_holds, holds, block_text}

-- ---- how they are counted

abbrev pub one_if : Bool → ℕ
one_if b = if b then 1 else 0

abbrev pub with_verdict : Tally → Verdict → Tally
with_verdict t v = record { commands = t.commands + 1; checked = t.checked + one_if v.is_checked; differing = t.differing + one_if v.differs }

-- the verdict on a command, by the answer that was wanted and that came, and the lines of the report that were wanted and that are missing
abbrev pub verdict_of : List (List ℕ) → List ℕ → List (List ℕ) → List (List ℕ) → Verdict
verdict_of answers came wanted lacking =
    record { is_checked = not (length answers == 0) || not (length wanted == 0); differs = not (all_holds answers came lacking) }

abbrev pub verdict_on : Check → Verdict
verdict_on x =
    verdict_of (answers_in x.behind) x.came (wanted_among x.behind) (missing x.report (wanted_among x.behind))

-- the tally with these commands more
abbrev pub with_checks : Tally → List Check → Tally
with_checks t xs = record {
  commands = t.commands + length xs;
  checked = t.checked + length (filter is_checked xs);
  differing = t.differing + length (filter (λ x. not (holds x)) xs);
}

-- ---- how they are written

-- a text was written whole, and this is what is answered; or a front of it
abbrev pub Gave : {K V : Type 0} → (K → K → List ℕ → Type 0) → (K → K → Type 0) → Result V WriteFault → List ℕ → V → Watched K → Watched K → Type 0
Gave takes fails (Ok v) text owed old new = (v ≡ owed) × Passed takes old.inner new.inner text × (new.failed ≡ false)
Gave takes fails (Err f) text owed old new = WroteFront takes fails f text old new

-- whether the line that was taken is bad
abbrev pub was_bad : Result Taken WriteFault → Result Bool WriteFault
was_bad (Ok taken) = Ok taken.is_bad
was_bad (Err f) = Err f

-- a line was taken, which makes a command or none, and the other lines are left; or it is bad, and nothing was done
abbrev pub Takes : {K V : Type 0} → (K → K → List ℕ → Type 0) → (K → K → Type 0) → Rules V → Result Bool WriteFault → V → V → Tally → Tally
    → ℕ → List ℕ × Line → List (List ℕ × Line) → Watched K → Watched K → Type 0
Takes takes fails r (Ok false) before after sum total k line lines old new =
    (more : List Check) × Passed takes old.inner new.inner (flat_map block_text more)
    × (checks r before k (line ∷ lines) ≡ more ++ checks r after (k + 1) lines) × (line.1 ≡ Bad → ⊥) × (total ≡ with_checks sum more)
    × (length more ≤ 1) × (new.failed ≡ false)
Takes takes fails r (Ok true) before after sum total k line lines old new = (line.1 ≡ Bad) × (total ≡ sum) × (new ≡ old)
Takes takes fails r (Err f) before after sum total k line lines old new =
    WroteFront takes fails f (flat_map block_text (checks r before k (line ∷ lines))) old new
