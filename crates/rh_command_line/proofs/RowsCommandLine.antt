-- Worked rows: which program the words of a command line ask for, and what is wrong with those that ask for none.
use Rattle.std.proofs.Common.{◌≡◌, List, [], ◌∷◌, Option, Some, None, codes, refl, true, false}
use Rattle.std.specs.Borrow.{Bor}
use Rattle.clap.specs.Walk.{Text}
use Rattle.clap.specs.Simple.{subcommand_of}
use Rattle.clap.specs.Kinds.{Kinds}
use Rattle.clap.specs.Faults.{fault_of, is_simple_and_free}
use Rattle.clap.specs.declared.error.kind.ErrorKind.TheVariants as kind
use Rattle.clap.proofs.OnLiterals.{clap_on_literals}
use Rattle.rh_rules.specs.declared.pick.Pick.TheVariants.{First, Last}
use Rattle.rh_otp_net.specs.declared.order.Order.{Order}
use Rattle.rh_otp_net.specs.declared.order.Order.TheVariants.{FirstComes, LastComes, Drawn}
use Rattle.rh_asked.specs.declared.program.Program.{Program}
use Rattle.rh_asked.specs.declared.program.Program.TheVariants.{Check, CheckJson, Run, RunLive, RunLiveJson, RunIn, RunJson, Dialogue, DialogueJson, DialogueLive, DialogueLiveJson, Story, StoryLive, Verify, VerifyLive, Lint, LintLive, Explore, ExploreJson, ExploreLive, Sessions, Sweep, SweepJson, SweepLive, SweepLiveJson}
use Rattle.rh_command_line.specs.CommandLine.{AreNames, line}
use Rattle.rh_command_line.specs.declared.building.Names.{Names}
use Rattle.rh_command_line.specs.Table.{subcommand_named}
use Rattle.rh_command_line.specs.Asking.{program_among}

-- a text, somewhere in memory
abbrev at : {X : Type 0} → X → Bor X
at x = record { ref_ptr = (0, 0); now = x }

abbrev names : Names
names = record {
  picks = at (at (codes "first") ∷ at (codes "last") ∷ []);
  rules = at (at (codes "manual") ∷ at (codes "otp25") ∷ []);
}

are_names : AreNames names
are_names = (refl, refl)

-- the program that the words behind the program's name ask for
abbrev asks : List Text → Option Program
asks words = program_among (subcommand_of (line names) (codes "rehearse" ∷ words))

-- the kinds of fault that the parser finds in them
abbrev faults : List Text → Kinds
faults words = fault_of (line names) (codes "rehearse" ∷ words)

-- the parser's statements hold of this command line
simple_row : is_simple_and_free (line names) ≡ true
simple_row = refl

check_row : (asks (codes "check" ∷ []) ≡ Some Check) × (faults (codes "check" ∷ []) ≡ [])
unfolding clap_on_literals subcommand_named
check_row = (refl, refl)

run_row : (asks (codes "run" ∷ []) ≡ Some (Run First)) × (faults (codes "run" ∷ []) ≡ [])
unfolding clap_on_literals subcommand_named
run_row = (refl, refl)

-- each way to write a choice
pick_row : (asks (codes "run" ∷ codes "--pick" ∷ codes "last" ∷ []) ≡ Some (Run Last))
    × (asks (codes "run" ∷ codes "--pick=last" ∷ []) ≡ Some (Run Last))
    × (asks (codes "run" ∷ codes "--pick" ∷ codes "first" ∷ []) ≡ Some (Run First))
unfolding clap_on_literals subcommand_named
pick_row = (refl, refl, refl)

-- a run on live nodes in the plain manner
abbrev plain_live : Order → Program
plain_live order = RunLive order (record { echo = false; strict = false })

-- the rules by which a run answers: the manual's where none are named
rules_row : (asks (codes "run" ∷ codes "--rules" ∷ codes "otp25" ∷ []) ≡ Some (plain_live FirstComes))
    × (faults (codes "run" ∷ codes "--rules" ∷ codes "otp25" ∷ []) ≡ [])
    × (asks (codes "run" ∷ codes "--rules=manual" ∷ codes "--pick=last" ∷ []) ≡ Some (Run Last))
    × (asks (codes "run" ∷ codes "--rules=otp25" ∷ codes "--pick=first" ∷ []) ≡ Some (plain_live FirstComes))
    × (asks (codes "run" ∷ codes "--rules=otp25" ∷ codes "--pick=last" ∷ []) ≡ Some (plain_live LastComes))
    × (faults (codes "run" ∷ codes "--rules=otp26" ∷ []) ≡ kind.InvalidValue ∷ [])
    × (faults (codes "sessions" ∷ codes "--rules=otp25" ∷ []) ≡ kind.UnknownArgument ∷ [])
unfolding clap_on_literals subcommand_named
rules_row = (refl, refl, refl, refl, refl, refl, refl)

-- in which manners they are answered: by JSON, line by line, or both in no other
live_manner_row : (asks (codes "run" ∷ codes "--rules=otp25" ∷ codes "--echo" ∷ []) ≡ Some (RunLive FirstComes (record { echo = true; strict = false })))
    × (asks (codes "run" ∷ codes "--strict" ∷ codes "--rules=otp25" ∷ codes "--pick=last" ∷ []) ≡ Some (RunLive LastComes (record { echo = false; strict = true })))
    × (asks (codes "run" ∷ codes "--json" ∷ codes "--rules=otp25" ∷ codes "--pick=7" ∷ []) ≡ Some (RunLiveJson (Drawn 7)))
    × (asks (codes "run" ∷ codes "--json" ∷ codes "--rules=otp25" ∷ codes "--echo" ∷ []) ≡ None)
    × (asks (codes "run" ∷ codes "--rules=otp25" ∷ codes "--interactive" ∷ []) ≡ Some (DialogueLive FirstComes))
    × (asks (codes "run" ∷ codes "--interactive" ∷ codes "--rules=otp25" ∷ codes "--json" ∷ codes "--pick=last" ∷ []) ≡ Some (DialogueLiveJson LastComes))
    × (asks (codes "run" ∷ codes "--rules=otp25" ∷ codes "--interactive" ∷ codes "--strict" ∷ []) ≡ None)
unfolding clap_on_literals subcommand_named
live_manner_row = (refl, refl, refl, refl, refl, refl, refl)

-- a number decides the order of messages of live nodes, from 1 to 2^31 - 2; by the manual's rules there is none to decide
number_row : (asks (codes "run" ∷ codes "--rules=otp25" ∷ codes "--pick=7" ∷ []) ≡ Some (plain_live (Drawn 7)))
    × (faults (codes "run" ∷ codes "--rules=otp25" ∷ codes "--pick=7" ∷ []) ≡ [])
    × (asks (codes "run" ∷ codes "--pick" ∷ codes "2147483646" ∷ codes "--rules" ∷ codes "otp25" ∷ []) ≡ Some (plain_live (Drawn 2147483646)))
    × (asks (codes "run" ∷ codes "--rules=otp25" ∷ codes "--pick=0" ∷ []) ≡ None)
    × (asks (codes "run" ∷ codes "--rules=otp25" ∷ codes "--pick=2147483647" ∷ []) ≡ None)
    × (asks (codes "run" ∷ codes "--rules=otp25" ∷ codes "--pick=middle" ∷ []) ≡ None)
    × (asks (codes "run" ∷ codes "--pick=7" ∷ []) ≡ None)
    × (asks (codes "run" ∷ codes "--pick=middle" ∷ []) ≡ None)
    × (asks (codes "story" ∷ codes "--pick=7" ∷ []) ≡ None)
    × (faults (codes "sessions" ∷ codes "--pick=7" ∷ []) ≡ kind.InvalidValue ∷ [])
unfolding clap_on_literals subcommand_named
number_row = (refl, refl, refl, refl, refl, refl, refl, refl, refl, refl)

-- each word beside the choice, and both; a word that stands twice, and one that is given a value
flags_row : (asks (codes "run" ∷ codes "--echo" ∷ []) ≡ Some (RunIn First (record { echo = true; strict = false })))
    × (asks (codes "run" ∷ codes "--strict" ∷ []) ≡ Some (RunIn First (record { echo = false; strict = true })))
    × (asks (codes "run" ∷ codes "--strict" ∷ codes "--pick" ∷ codes "last" ∷ codes "--echo" ∷ []) ≡ Some (RunIn Last (record { echo = true; strict = true })))
    × (faults (codes "run" ∷ codes "--strict" ∷ codes "--pick" ∷ codes "last" ∷ codes "--echo" ∷ []) ≡ [])
    × (faults (codes "run" ∷ codes "--echo" ∷ codes "--echo" ∷ []) ≡ kind.ArgumentConflict ∷ [])
    × (faults (codes "run" ∷ codes "--echo=true" ∷ []) ≡ kind.TooManyValues ∷ [])
    × (faults (codes "check" ∷ codes "--echo" ∷ []) ≡ kind.UnknownArgument ∷ [])
unfolding clap_on_literals subcommand_named
flags_row = (refl, refl, refl, refl, refl, refl, refl)

-- answers by JSON, which have no other manner
json_row : (asks (codes "check" ∷ codes "--json" ∷ []) ≡ Some CheckJson)
    × (asks (codes "run" ∷ codes "--json" ∷ codes "--pick=last" ∷ []) ≡ Some (RunJson Last))
    × (faults (codes "run" ∷ codes "--json" ∷ codes "--pick=last" ∷ []) ≡ [])
    × (asks (codes "run" ∷ codes "--json" ∷ codes "--strict" ∷ []) ≡ None)
    × (faults (codes "sessions" ∷ codes "--json" ∷ []) ≡ kind.UnknownArgument ∷ [])
unfolding clap_on_literals subcommand_named
json_row = (refl, refl, refl, refl, refl)

-- a run that answers line by line: by JSON or not, and in no other manner
dialogue_row : (asks (codes "run" ∷ codes "--interactive" ∷ []) ≡ Some (Dialogue First)) × (faults (codes "run" ∷ codes "--interactive" ∷ []) ≡ [])
    × (asks (codes "run" ∷ codes "--json" ∷ codes "--pick=last" ∷ codes "--interactive" ∷ []) ≡ Some (DialogueJson Last))
    × (asks (codes "run" ∷ codes "--interactive" ∷ codes "--echo" ∷ []) ≡ None)
    × (asks (codes "run" ∷ codes "--strict" ∷ codes "--interactive" ∷ codes "--json" ∷ []) ≡ None)
    × (faults (codes "story" ∷ codes "--interactive" ∷ []) ≡ kind.UnknownArgument ∷ [])
unfolding clap_on_literals subcommand_named
dialogue_row = (refl, refl, refl, refl, refl, refl)

-- a script that is printed again, whole or not, and one that is compared
story_row : (asks (codes "story" ∷ []) ≡ Some (Story First false))
    × (asks (codes "story" ∷ codes "--whole" ∷ codes "--pick" ∷ codes "last" ∷ []) ≡ Some (Story Last true))
    × (asks (codes "verify" ∷ codes "--pick=last" ∷ []) ≡ Some (Verify Last))
    × (faults (codes "verify" ∷ codes "--whole" ∷ []) ≡ kind.UnknownArgument ∷ [])
unfolding clap_on_literals subcommand_named
story_row = (refl, refl, refl, refl)

-- by the rules of live nodes, in an order of messages
live_story_row : (asks (codes "story" ∷ codes "--rules=otp25" ∷ []) ≡ Some (StoryLive FirstComes false))
    × (asks (codes "story" ∷ codes "--whole" ∷ codes "--rules=otp25" ∷ codes "--pick=last" ∷ []) ≡ Some (StoryLive LastComes true))
    × (asks (codes "verify" ∷ codes "--pick" ∷ codes "7" ∷ codes "--rules" ∷ codes "otp25" ∷ []) ≡ Some (VerifyLive (Drawn 7)))
    × (faults (codes "verify" ∷ codes "--pick" ∷ codes "7" ∷ codes "--rules" ∷ codes "otp25" ∷ []) ≡ [])
    × (asks (codes "verify" ∷ codes "--pick=7" ∷ []) ≡ None)
unfolding clap_on_literals subcommand_named
live_story_row = (refl, refl, refl, refl, refl)

-- what is listed: also behind a step that hangs, whether hints count, and as JSON
lint_row : (asks (codes "lint" ∷ []) ≡ Some (Lint First (record { all = false; strict = false; json = false })))
    × (asks (codes "lint" ∷ codes "--strict" ∷ codes "--pick" ∷ codes "last" ∷ []) ≡ Some (Lint Last (record { all = false; strict = true; json = false })))
    × (asks (codes "lint" ∷ codes "--all" ∷ []) ≡ Some (Lint First (record { all = true; strict = false; json = false })))
    × (asks (codes "lint" ∷ codes "--json" ∷ codes "--all" ∷ []) ≡ Some (Lint First (record { all = true; strict = false; json = true })))
    × (faults (codes "run" ∷ codes "--all" ∷ []) ≡ kind.UnknownArgument ∷ [])
unfolding clap_on_literals subcommand_named
lint_row = (refl, refl, refl, refl, refl)

-- by the rules of live nodes, where all steps are told of
live_lint_row : (asks (codes "lint" ∷ codes "--rules=otp25" ∷ []) ≡ Some (LintLive FirstComes (record { all = false; strict = false; json = false })))
    × (asks (codes "lint" ∷ codes "--strict" ∷ codes "--rules=otp25" ∷ codes "--pick=7" ∷ codes "--json" ∷ [])
    ≡ Some (LintLive (Drawn 7) (record { all = false; strict = true; json = true })))
    × (asks (codes "lint" ∷ codes "--rules=otp25" ∷ codes "--all" ∷ []) ≡ None) × (asks (codes "lint" ∷ codes "--pick=7" ∷ []) ≡ None)
unfolding clap_on_literals subcommand_named
live_lint_row = (refl, refl, refl, refl)

sessions_row : (asks (codes "sessions" ∷ []) ≡ Some (Sessions First))
    × (asks (codes "sessions" ∷ codes "--pick" ∷ codes "last" ∷ []) ≡ Some (Sessions Last))
unfolding clap_on_literals subcommand_named
sessions_row = (refl, refl)

-- one worker, where no number is given; from 1 to 16
sweep_row : (asks (codes "sweep" ∷ []) ≡ Some (Sweep First 1)) × (faults (codes "sweep" ∷ []) ≡ [])
    × (asks (codes "sweep" ∷ codes "--workers" ∷ codes "4" ∷ []) ≡ Some (Sweep First 4))
    × (asks (codes "sweep" ∷ codes "--pick=last" ∷ codes "--workers=16" ∷ []) ≡ Some (Sweep Last 16))
    × (faults (codes "sweep" ∷ codes "--pick=last" ∷ codes "--workers=16" ∷ []) ≡ [])
unfolding clap_on_literals subcommand_named
sweep_row = (refl, refl, refl, refl, refl)

-- as lines of JSON, by one worker or by several
sweep_json_row : (asks (codes "sweep" ∷ codes "--json" ∷ []) ≡ Some (SweepJson First 1)) × (faults (codes "sweep" ∷ codes "--json" ∷ []) ≡ [])
    × (asks (codes "sweep" ∷ codes "--workers=3" ∷ codes "--json" ∷ codes "--pick" ∷ codes "last" ∷ []) ≡ Some (SweepJson Last 3))
unfolding clap_on_literals subcommand_named
sweep_json_row = (refl, refl, refl)

-- plans on live nodes, by one worker or by several, as lines or as JSON
live_sweep_row : (asks (codes "sweep" ∷ codes "--rules=otp25" ∷ []) ≡ Some (SweepLive FirstComes 1)) × (faults (codes "sweep" ∷ codes "--rules=otp25" ∷ []) ≡ [])
    × (asks (codes "sweep" ∷ codes "--workers=3" ∷ codes "--rules=otp25" ∷ codes "--pick=9" ∷ []) ≡ Some (SweepLive (Drawn 9) 3))
    × (asks (codes "sweep" ∷ codes "--rules=otp25" ∷ codes "--json" ∷ codes "--workers=16" ∷ []) ≡ Some (SweepLiveJson FirstComes 16))
    × (asks (codes "sweep" ∷ codes "--pick=9" ∷ []) ≡ None)
unfolding clap_on_literals subcommand_named
live_sweep_row = (refl, refl, refl, refl, refl)

-- another number, or none
workers_row : (faults (codes "sweep" ∷ codes "--workers" ∷ codes "0" ∷ []) ≡ kind.ValueValidation ∷ [])
    × (faults (codes "sweep" ∷ codes "--workers" ∷ codes "17" ∷ []) ≡ kind.ValueValidation ∷ [])
    × (faults (codes "sweep" ∷ codes "--workers" ∷ codes "many" ∷ []) ≡ kind.ValueValidation ∷ [])
    × (faults (codes "explore" ∷ codes "--workers" ∷ codes "0" ∷ []) ≡ kind.ValueValidation ∷ [])
    × (faults (codes "explore" ∷ codes "--workers" ∷ codes "17" ∷ []) ≡ kind.ValueValidation ∷ [])
unfolding clap_on_literals subcommand_named
workers_row = (refl, refl, refl, refl, refl)

-- a million states, keys of a gibibyte and one worker, where no number is given; from 1 to 2^32 - 1, to 2^20 and to 16
explore_row : (asks (codes "explore" ∷ []) ≡ Some (Explore First (record { states = 1000000; mebibytes = 1024 }) 1)) × (faults (codes "explore" ∷ []) ≡ [])
    × (asks (codes "explore" ∷ codes "--states=4294967295" ∷ codes "--pick=last" ∷ codes "--memory=1" ∷ codes "--workers=16" ∷ [])
    ≡ Some (Explore Last (record { states = 4294967295; mebibytes = 1 }) 16))
    × (faults (codes "explore" ∷ codes "--states=4294967295" ∷ codes "--pick=last" ∷ codes "--memory=1" ∷ codes "--workers=16" ∷ []) ≡ [])
    × (faults (codes "explore" ∷ codes "--memory" ∷ codes "0" ∷ []) ≡ kind.ValueValidation ∷ [])
    × (faults (codes "explore" ∷ codes "--memory" ∷ codes "1048577" ∷ []) ≡ kind.ValueValidation ∷ [])
    × (faults (codes "explore" ∷ codes "--states" ∷ codes "0" ∷ []) ≡ kind.ValueValidation ∷ [])
    × (faults (codes "explore" ∷ codes "--states" ∷ codes "4294967296" ∷ []) ≡ kind.ValueValidation ∷ [])
    × (faults (codes "sweep" ∷ codes "--states" ∷ codes "5" ∷ []) ≡ kind.UnknownArgument ∷ [])
unfolding clap_on_literals subcommand_named
explore_row = (refl, refl, refl, refl, refl, refl, refl, refl, refl)

-- as lines of JSON, by one worker or by several
explore_json_row : (asks (codes "explore" ∷ codes "--json" ∷ []) ≡ Some (ExploreJson First (record { states = 1000000; mebibytes = 1024 }) 1))
    × (faults (codes "explore" ∷ codes "--json" ∷ []) ≡ [])
    × (asks (codes "explore" ∷ codes "--workers=3" ∷ codes "--states=9" ∷ codes "--json" ∷ codes "--pick" ∷ codes "last" ∷ [])
    ≡ Some (ExploreJson Last (record { states = 9; mebibytes = 1024 }) 3))
unfolding clap_on_literals subcommand_named
explore_json_row = (refl, refl, refl)

-- on live nodes by one worker alone, and so many lists in place of states; a number decides an order there, and no tie
live_explore_row : (asks (codes "explore" ∷ codes "--rules=otp25" ∷ []) ≡ Some (ExploreLive FirstComes 1000000 false))
    × (faults (codes "explore" ∷ codes "--rules=otp25" ∷ []) ≡ [])
    × (asks (codes "explore" ∷ codes "--pick=9" ∷ codes "--states=7" ∷ codes "--json" ∷ codes "--rules=otp25" ∷ [])
    ≡ Some (ExploreLive (Drawn 9) 7 true))
    × (asks (codes "explore" ∷ codes "--rules=otp25" ∷ codes "--workers=2" ∷ []) ≡ None)
    × (asks (codes "explore" ∷ codes "--pick=9" ∷ []) ≡ None)
unfolding clap_on_literals subcommand_named
live_explore_row = (refl, refl, refl, refl, refl)

-- another choice, an option that a subcommand hasn't, one that stands twice
options_row : (faults (codes "sessions" ∷ codes "--pick" ∷ codes "middle" ∷ []) ≡ kind.InvalidValue ∷ [])
    × (asks (codes "sweep" ∷ codes "--pick" ∷ codes "middle" ∷ []) ≡ None)
    × (faults (codes "check" ∷ codes "--pick" ∷ codes "last" ∷ []) ≡ kind.UnknownArgument ∷ [])
    × (faults (codes "run" ∷ codes "--workers" ∷ codes "4" ∷ []) ≡ kind.UnknownArgument ∷ [])
    × (faults (codes "run" ∷ codes "--pick=last" ∷ codes "--pick=last" ∷ []) ≡ kind.ArgumentConflict ∷ [])
unfolding clap_on_literals subcommand_named
options_row = (refl, refl, refl, refl, refl)

-- no subcommand, an unknown one, and what asks for help or the version
other_row : (faults [] ≡ kind.MissingSubcommand ∷ []) × (asks [] ≡ None)
    × (faults (codes "walk" ∷ []) ≡ kind.UnknownArgument ∷ kind.InvalidSubcommand ∷ []) × (asks (codes "walk" ∷ []) ≡ None)
    × (faults (codes "--help" ∷ []) ≡ kind.DisplayHelp ∷ []) × (faults (codes "run" ∷ codes "--help" ∷ []) ≡ kind.DisplayHelp ∷ [])
    × (faults (codes "--version" ∷ []) ≡ kind.DisplayVersion ∷ [])
unfolding clap_on_literals subcommand_named
other_row = (refl, refl, refl, refl, refl, refl, refl)
