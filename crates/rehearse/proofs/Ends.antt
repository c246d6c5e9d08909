-- How the process ends, by what became of its parts.
use Rattle.std.proofs.Common.{◌≡◌, ℕ, List, Some, None, subst}
use Rattle.rh_devices.specs.declared.watched.Watched.{Watched}
use Rattle.rh_asked.specs.declared.program.Program.{Program}
use Rattle.rh_asked.specs.Programs.{IsStaffed}
use Rattle.rh_manner.specs.declared.pair.Pair.{Pair}
use Rattle.rh_manner.specs.Pairs.{given_by, unread_by, taken_by, written_by}
use Rattle.rh_programs.specs.declared.status.Tongue.{Tongue}
use Rattle.rh_programs.specs.Status.{DialogueStatus, IsDone, StatusGives, said_in}
use Rattle.rh_command_line.specs.Asking.{IsAsked}
use Rattle.rehearse.specs.Process.{EndsBy, unused}
use Rattle.rh_command_line.specs.declared.command_line.Asked.TheVariants as asked
use Rattle.rh_command_line.specs.declared.command_line.Words.{Words}
use Rattle.rh_command_line.specs.declared.command_line.Words.TheVariants as words

-- a sweep that is asked for has a number of workers that there may be
pub staffed : (it : Words) (program : Program) → IsAsked it (asked.For program) → IsStaffed program
staffed (words.Given list) program is = is.4
staffed words.NotUtf8 program is = absurd is
staffed words.OutOfMemory program is = cc

module _ {S K : Type 0} (gives : S → S → List ℕ → Type 0) (unread : S → S → Type 0) (takes : K → K → List ℕ → Type 0)
    (flushes : K → K → Type 0) (unwritten : K → K → Type 0) (program : Program) (status : ℕ) where
  -- the program's devices are the process's
  pub ends_over : (reader : S) (writer : K) (old new : Watched S) (before after : Watched K) → old ≡ unused reader → before ≡ unused writer
      → StatusGives gives unread takes flushes unwritten program status old new before after
      → (status ≡ 0 → IsDone gives takes flushes program old new before after)
      → EndsBy gives unread takes flushes unwritten None program reader writer status
  ends_over reader writer old new before after is_old is_before ends done = (
    new,
    after,
    subst (λ (b : Watched K). StatusGives gives unread takes flushes unwritten program status (unused reader) new b after) is_before
        (subst (λ (o : Watched S). StatusGives gives unread takes flushes unwritten program status o new before after) is_old ends),
    subst (λ (b : Watched K). (status ≡ 0 → IsDone gives takes flushes program (unused reader) new b after)) is_before
        (subst (λ (o : Watched S). (status ≡ 0 → IsDone gives takes flushes program o new before after)) is_old done),
  )

  -- and so is the one device of a dialogue
  pub dialogue_over : (tongue : Tongue) (reader : S) (writer : K) (pair : Pair S K) (old new : Watched (Pair S K))
      → pair ≡ record { reader = reader; writer = writer } → old ≡ unused pair
      → DialogueStatus (given_by gives) (unread_by unread) (taken_by takes) (written_by flushes) (written_by unwritten) (said_in tongue) status old new
      → EndsBy gives unread takes flushes unwritten (Some tongue) program reader writer status
  dialogue_over tongue reader writer pair old new is_pair is_old ends = (
    new,
    subst (λ (p : Pair S K). DialogueStatus (given_by gives) (unread_by unread) (taken_by takes) (written_by flushes) (written_by unwritten) (said_in tongue) status
        (unused p) new) is_pair
        (subst (λ (o : Watched (Pair S K)). DialogueStatus (given_by gives) (unread_by unread) (taken_by takes) (written_by flushes) (written_by unwritten)
        (said_in tongue) status o new) is_old ends),
  )
