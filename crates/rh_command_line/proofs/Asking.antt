-- What the words of a command line ask, by what the parser found in them.
use Rattle.std.proofs.Common.{◌≡◌, ◌∙◌, ◌⊎◌, ℕ, List, [], Option, Some, None, Result, Ok, Err, IfErr, true, refl, ap, sym, subst, inl, inr}
use Rattle.std.specs.Result.{IsErrAnd}
use Rattle.clap.specs.Walk.{Text}
use Rattle.clap.specs.Simple.{App, HasMatchesOf, is_simple, subcommand_of, subcommand_rows_of}
use Rattle.clap.specs.Kinds.{HasKind}
use Rattle.clap.specs.Faults.{fault_of, is_simple_and_free}
use Rattle.clap.specs.Values.{kind_of}
use Rattle.clap.specs.declared.error.Error.{Error}
use Rattle.clap.specs.declared.error.kind.ErrorKind.TheVariants as kind
use Rattle.clap.specs.declared.parser.matches.ArgMatches.{ArgMatches}
use Rattle.rh_asked.specs.declared.program.Program.{Program}
use Rattle.rh_command_line.specs.CommandLine.{AreNames, line}
use Rattle.rh_command_line.specs.declared.building.Names.{Names}
use Rattle.rh_command_line.specs.Asking.{AsksFor, IsAskedBy, IsNotUtf8, IsRefusedBy, Refuses, program_among}
use Rattle.rh_command_line.specs.declared.command_line.Asked.{Asked}
use Rattle.rh_command_line.specs.declared.command_line.Asked.TheVariants as asked

-- the command line is one of those of which the parser says all
is_plain : (names : Names) → is_simple_and_free (line names) ≡ true
is_plain names = refl

has_matches : (names : Names) → is_simple (line names) ≡ true
has_matches names = refl

module _ (app : App) (names : Names) (words : List Text) (is : app ≡ line names) where
  pub no_fault : (is_simple_and_free app ≡ true → fault_of app words ≡ []) → fault_of (line names) words ≡ []
  no_fault found = subst (λ (a : App). (is_simple_and_free a ≡ true → fault_of a words ≡ [])) is found (is_plain names)

  pub some_fault : (error : Error) → (is_simple_and_free app ≡ true → HasKind (fault_of app words) error) → HasKind (fault_of (line names) words) error
  some_fault error found = subst (λ (a : App). (is_simple_and_free a ≡ true → HasKind (fault_of a words) error)) is found (is_plain names)

  pub subcommand_met : (m : ArgMatches) → HasMatchesOf app words m → subcommand_rows_of m ≡ subcommand_of (line names) words
  subcommand_met m has = (subst (λ (a : App). HasMatchesOf a words m) is has (has_matches names)).1

-- an error that is handed on as it was
pub handed_on : {T : Type 0} (result : Result T Error) (error : Error) (Why : Error → Type 0) → IsErrAnd result (λ same. same ≡ error) → Why error
    → IfErr result Why
handed_on (Ok x) error Why is why = absurd is
handed_on (Err same) error Why is why = subst Why (sym is) why

-- a fault of the parser refuses the words
pub faulty : (names : Names) (words : List Text) (error : Error) → AreNames names → HasKind (fault_of (line names) words) error
    → (kind_of error ≡ kind.OutOfMemory) ⊎ Refuses words error
faulty names words error are (inl memory) = inl memory
faulty names words error are (inr among) = inr (names, are, inl among)

-- an error that refuses the words, or tells want of memory, is what they ask
pub refused : (words : List Text) (error : Error) (it : Asked) → IsRefusedBy error it → (kind_of error ≡ kind.OutOfMemory) ⊎ Refuses words error
    → IsAskedBy words it
refused words error (asked.For program) is why = absurd is
refused words error (asked.Refused same) is (inl memory) = absurd (is.1 memory)
refused words error (asked.Refused same) is (inr why) = subst (Refuses words) (sym is.0) why
refused words error asked.OutOfMemory is why = tt

pub refused_bytes : (error : Error) (it : Asked) → IsRefusedBy error it → (kind_of error ≡ kind.OutOfMemory) ⊎ (kind_of error ≡ kind.InvalidValue)
    → IsNotUtf8 it
refused_bytes error (asked.For program) is why = absurd is
refused_bytes error (asked.Refused same) is (inl memory) = absurd (is.1 memory)
refused_bytes error (asked.Refused same) is (inr invalid) = ap kind_of is.0 ∙ invalid
refused_bytes error asked.OutOfMemory is why = tt
