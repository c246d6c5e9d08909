-- What the words of a command line ask (ours).
use Rattle.std.specs.Prelude.{◌≡◌, ◌⊎◌, ℕ, List, [], Bool, true, false, Option, Some, None, map}
use Rattle.std.specs.Prelude.{◌==◌, ◌&&◌, ◌||◌, codes, if◌then◌else◌, nat_le, option_map, option_and_then}
use Rattle.std.specs.String.{string_bytes}
use Rattle.std.specs.Str.{bytes_eq}
use Rattle.std.specs.Str.Parse.{digits_value, without_leading_plus}
use Rattle.clap.specs.Walk.{Row, Text, first_of, one_of}
use Rattle.clap.specs.Simple.{subcommand_of}
use Rattle.clap.specs.Faults.{fault_of}
use Rattle.clap.specs.Kinds.{IsAmong}
use Rattle.clap.specs.Values.{kind_of}
use Rattle.clap.specs.ValueTests.{is_unsigned_in}
use Rattle.clap.specs.declared.error.Error.{Error}
use Rattle.clap.specs.declared.error.kind.ErrorKind.TheVariants as kind
use Rattle.rh_rules.specs.declared.pick.Pick.{Pick}
use Rattle.rh_rules.specs.declared.pick.Pick.TheVariants.{First, Last}
use Rattle.rh_plans.specs.declared.workers.TheConstants.{MAX_WORKERS}
use Rattle.rh_otp_net.specs.declared.order.Order.{Order}
use Rattle.rh_otp_net.specs.declared.order.Order.TheVariants as order
use Rattle.rh_asked.specs.declared.manner.Manner.{Manner}
use Rattle.rh_asked.specs.declared.manner.SearchRoom.{SearchRoom}
use Rattle.rh_asked.specs.declared.program.Program.{Program}
use Rattle.rh_asked.specs.declared.program.Program.TheVariants as program
use Rattle.rh_asked.specs.Programs.{IsStaffed}
use Rattle.rh_command_line.specs.Table.{flag_word, subcommand_named}
use Rattle.rh_command_line.specs.CommandLine.{AreNames, line}
use Rattle.rh_command_line.specs.declared.building.Names.{Names}
use Rattle.rh_command_line.specs.declared.rules.Rules.{Rules}
use Rattle.rh_command_line.specs.declared.rules.Rules.TheVariants as rules
use Rattle.rh_command_line.specs.declared.table.TheConstants.{MOST_MEBIBYTES, MOST_NUMBER, MOST_STATES}
use Rattle.rh_command_line.specs.declared.table.Flag.{Flag}
use Rattle.rh_command_line.specs.declared.table.Flag.TheVariants.{Echo, Strict, Json, Whole, Hints, All, Interactive}
use Rattle.rh_command_line.specs.declared.table.Subcommand.{Subcommand}
use Rattle.rh_command_line.specs.declared.table.Subcommand.TheVariants.{Run, Check, Lint, Story, Verify, Sessions, Sweep, Explore}
use Rattle.rh_command_line.specs.declared.command_line.Asked.{Asked}
use Rattle.rh_command_line.specs.declared.command_line.Asked.TheVariants as asked
use Rattle.rh_command_line.specs.declared.command_line.Words.{Words}
use Rattle.rh_command_line.specs.declared.command_line.Words.TheVariants as words

abbrev pub is_last : Option Text → Bool
is_last None = false
is_last (Some word) = bytes_eq word (codes "last")

-- the choice at a tie that a word means: the last for `last`, the first for any other and for none
abbrev pub pick_of : Option Text → Pick
pick_of word = if is_last word then Last else First

-- the choice among the matches of a subcommand
abbrev pub pick_in : List Row → Pick
pick_in rows = pick_of (first_of (codes "pick") rows)

-- the choice that a word names, where other words may stand there, too
abbrev pub pick_named : Option Text → Option Pick
pick_named None = None
pick_named (Some word) =
    if bytes_eq word (codes "first") then Some First else if bytes_eq word (codes "last") then Some Last else None

-- a number that decides an order, if it may be this one; the one that a text means, and that among the matches
abbrev pub allowed_number : ℕ → Option ℕ
allowed_number number = if nat_le 1 number && nat_le number MOST_NUMBER then Some number else None

abbrev pub number_of : Text → Option ℕ
number_of text = if is_unsigned_in 1 MOST_NUMBER text then Some (digits_value 10 (without_leading_plus text)) else None

abbrev pub number_in : List Row → Option ℕ
number_in rows = option_and_then number_of (one_of (codes "pick") rows)

-- the order of messages that a choice names, or a number decides
abbrev pub order_of : Option Pick → Option ℕ → Option Order
order_of (Some First) number = Some order.FirstComes
order_of (Some Last) number = Some order.LastComes
order_of None number = option_map order.Drawn number

abbrev pub order_in : List Row → Option Order
order_in rows = order_of (pick_named (first_of (codes "pick") rows)) (number_in rows)

-- a number of workers, if there may be so many
abbrev pub allowed : ℕ → Option ℕ
allowed workers = if nat_le 1 workers && nat_le workers MAX_WORKERS then Some workers else None

-- the number of workers that a text means
abbrev pub workers_of : Text → Option ℕ
workers_of text = if is_unsigned_in 1 MAX_WORKERS text then Some (digits_value 10 (without_leading_plus text)) else None

-- the number of workers among them
abbrev pub workers_in : List Row → Option ℕ
workers_in rows = option_and_then workers_of (one_of (codes "workers") rows)

-- a number of states that are kept, if it may be so many; the one that a text means, and that among the matches
abbrev pub allowed_states : ℕ → Option ℕ
allowed_states states = if nat_le 1 states && nat_le states MOST_STATES then Some states else None

abbrev pub states_of : Text → Option ℕ
states_of text = if is_unsigned_in 1 MOST_STATES text then Some (digits_value 10 (without_leading_plus text)) else None

abbrev pub states_in : List Row → Option ℕ
states_in rows = option_and_then states_of (one_of (codes "states") rows)

-- so for the memory that their keys take, in mebibytes
abbrev pub allowed_memory : ℕ → Option ℕ
allowed_memory mebibytes = if nat_le 1 mebibytes && nat_le mebibytes MOST_MEBIBYTES then Some mebibytes else None

abbrev pub memory_of : Text → Option ℕ
memory_of text = if is_unsigned_in 1 MOST_MEBIBYTES text then Some (digits_value 10 (without_leading_plus text)) else None

abbrev pub memory_in : List Row → Option ℕ
memory_in rows = option_and_then memory_of (one_of (codes "memory") rows)

-- how much a search may keep
abbrev pub room_of : Option ℕ → Option ℕ → Option SearchRoom
room_of None memory = None
room_of (Some states) memory = option_map (λ mebibytes. record { states = states; mebibytes = mebibytes }) memory

abbrev pub room_in : List Row → Option SearchRoom
room_in rows = room_of (states_in rows) (memory_in rows)

-- whether a word without a value was given: among the matches it has the text `true` then
abbrev pub is_given : Option Text → Bool
is_given None = false
is_given (Some word) = bytes_eq word (codes "true")

abbrev pub flag_in : Flag → List Row → Bool
flag_in flag rows = is_given (first_of (flag_word flag) rows)

-- a run: with no word beside its choice it is the plain one
abbrev pub run_of : Pick → Bool → Bool → Program
run_of pick echo strict = if echo || strict then program.RunIn pick (record { echo = echo; strict = strict }) else program.Run pick

-- a run that answers by JSON, line by line, or both
abbrev pub answering : Pick → Bool → Bool → Program
answering pick json interactive = if interactive then (if json then program.DialogueJson pick else program.Dialogue pick) else program.RunJson pick

-- such a one has no other manner
abbrev pub run_as : Pick → Bool → Bool → Bool → Bool → Option Program
run_as pick echo strict json interactive =
    if json || interactive then (if echo || strict then None else Some (answering pick json interactive)) else Some (run_of pick echo strict)

-- whether a word names the rules of live nodes: `otp25` does, and no other, nor none
abbrev pub is_live : Option Text → Bool
is_live None = false
is_live (Some word) = bytes_eq word (codes "otp25")

abbrev pub is_live_in : List Row → Bool
is_live_in rows = is_live (first_of (codes "rules") rows)

-- a run on live nodes, with messages in this order, that answers by JSON, line by line, or both
abbrev pub live_answering : Order → Bool → Bool → Program
live_answering order json interactive =
    if interactive then (if json then program.DialogueLiveJson order else program.DialogueLive order) else program.RunLiveJson order

-- such a one has no manner
abbrev pub live_run : Order → Bool → Bool → Bool → Bool → Option Program
live_run order echo strict json interactive =
    if json || interactive then (if echo || strict then None else Some (live_answering order json interactive))
    else Some (program.RunLive order (record { echo = echo; strict = strict }))

-- the rules that are named, with what they leave open: the choice at a tie of the manual's, the order of messages of live nodes
abbrev pub rules_in : List Row → Option Rules
rules_in rows =
    if is_live_in rows then option_map rules.Live (order_in rows) else option_map rules.Manual (pick_named (first_of (codes "pick") rows))

-- a run by these rules, with what the matches say besides
abbrev pub run_by : List Row → Rules → Option Program
run_by rows (rules.Manual pick) = run_as pick (flag_in Echo rows) (flag_in Strict rows) (flag_in Json rows) (flag_in Interactive rows)
run_by rows (rules.Live order) = live_run order (flag_in Echo rows) (flag_in Strict rows) (flag_in Json rows) (flag_in Interactive rows)

abbrev pub run_in : List Row → Option Program
run_in rows = option_and_then (run_by rows) (rules_in rows)

-- a story, whole or not, and a verification
abbrev pub story_of : Rules → Bool → Program
story_of (rules.Manual pick) whole = program.Story pick whole
story_of (rules.Live order) whole = program.StoryLive order whole

abbrev pub verify_of : Rules → Program
verify_of (rules.Manual pick) = program.Verify pick
verify_of (rules.Live order) = program.VerifyLive order

-- a list of what is wrong, in this manner
abbrev pub lint_of : Pick → Bool → Bool → Bool → Program
lint_of pick all strict json = program.Lint pick (record { all = all; strict = strict; json = json })

-- on live nodes all steps are told of, so nobody asks for that
abbrev pub live_lint : Order → Bool → Bool → Bool → Option Program
live_lint order all strict json =
    if all then None else Some (program.LintLive order (record { all = all; strict = strict; json = json }))

abbrev pub lint_by : Rules → Bool → Bool → Bool → Option Program
lint_by (rules.Manual pick) all strict json = Some (lint_of pick all strict json)
lint_by (rules.Live order) all strict json = live_lint order all strict json

-- a sweep by so many workers, by JSON or not
abbrev pub manual_sweep : Pick → Bool → ℕ → Program
manual_sweep pick json workers = if json then program.SweepJson pick workers else program.Sweep pick workers

abbrev pub live_sweep : Order → Bool → ℕ → Program
live_sweep order json workers = if json then program.SweepLiveJson order workers else program.SweepLive order workers

abbrev pub sweep_of : Rules → Bool → ℕ → Program
sweep_of (rules.Manual pick) json workers = manual_sweep pick json workers
sweep_of (rules.Live order) json workers = live_sweep order json workers

-- where there are such rules, and may be so many workers
abbrev pub sweep_with : Bool → Option Rules → Option ℕ → Option Program
sweep_with json None workers = None
sweep_with json (Some rules) workers = option_map (sweep_of rules json) workers

-- a search in so much room by so many workers, by JSON or not
abbrev pub explore_of : Pick → Bool → SearchRoom → ℕ → Program
explore_of pick json room workers = if json then program.ExploreJson pick room workers else program.Explore pick room workers

-- on live nodes one worker tries lists, so many at most, and keeps no states
abbrev pub live_explore : Order → Bool → ℕ → ℕ → Option Program
live_explore order json lists workers = if workers == 1 then Some (program.ExploreLive order lists json) else None

abbrev pub explore_by : Bool → SearchRoom → Rules → ℕ → Option Program
explore_by json room (rules.Manual pick) workers = Some (explore_of pick json room workers)
explore_by json room (rules.Live order) workers = live_explore order json room.states workers

-- where there are such rules, and may be so much room, and so many workers
abbrev pub explore_in : Bool → Option Rules → SearchRoom → Option ℕ → Option Program
explore_in json None room workers = None
explore_in json (Some rules) room workers = option_and_then (explore_by json room rules) workers

abbrev pub explore_with : Bool → Option Rules → Option SearchRoom → Option ℕ → Option Program
explore_with json rules None workers = None
explore_with json rules (Some room) workers = explore_in json rules room workers

-- the program that a subcommand means with these matches
abbrev pub program_of : Subcommand → List Row → Option Program
program_of Check rows = Some (if flag_in Json rows then program.CheckJson else program.Check)
program_of Run rows = run_in rows
program_of Story rows = option_map (λ rules. story_of rules (flag_in Whole rows)) (rules_in rows)
program_of Lint rows = option_and_then (λ rules. lint_by rules (flag_in All rows) (flag_in Hints rows) (flag_in Json rows)) (rules_in rows)
program_of Verify rows = option_map verify_of (rules_in rows)
program_of Sessions rows = Some (program.Sessions (pick_in rows))
program_of Sweep rows = sweep_with (flag_in Json rows) (rules_in rows) (workers_in rows)
program_of Explore rows = explore_with (flag_in Json rows) (rules_in rows) (room_in rows) (workers_in rows)

-- the program of the subcommand with this word and these matches
abbrev pub program_in : Text → List Row → Option Program
program_in word rows = option_and_then (λ s. program_of s rows) (subcommand_named word)

-- the program of the subcommand that the words name, with its matches
abbrev pub program_among : Option (Text × List Row) → Option Program
program_among = option_and_then (λ p. program_in p.0 p.1)

-- ---- why words that the parser finds no fault in name no program, in words

-- where no rules are named with what they leave open: `--pick` has a word that means nothing there
abbrev pub why_no_rules : List Row → Text
why_no_rules rows =
    if is_live_in rows then codes "with --rules otp25, --pick takes first, last or a number from 1 to 2147483646"
    else codes "--pick takes first or last, and a number only with --rules otp25"

-- a run that names no rules so, or options that don't go together
abbrev pub why_no_run_by : List Row → Option Rules → Text
why_no_run_by rows None = why_no_rules rows
why_no_run_by rows (Some rules) = codes "--json and --interactive go with neither --echo nor --strict"

abbrev pub why_no_run : List Row → Text
why_no_run rows = why_no_run_by rows (rules_in rows)

-- a list of what is wrong
abbrev pub why_no_lint_by : List Row → Option Rules → Text
why_no_lint_by rows None = why_no_rules rows
why_no_lint_by rows (Some rules) = codes "--all doesn't go with --rules otp25, by which all steps are told of"

abbrev pub why_no_lint : List Row → Text
why_no_lint rows = why_no_lint_by rows (rules_in rows)

-- a search
abbrev pub why_no_explore_by : List Row → Option Rules → Text
why_no_explore_by rows None = why_no_rules rows
why_no_explore_by rows (Some rules) = codes "--workers doesn't go with explore --rules otp25, which tries one list after the other"

abbrev pub why_no_explore : List Row → Text
why_no_explore rows = why_no_explore_by rows (rules_in rows)

-- only of subcommands that take rules there is more to say
abbrev pub why_no_program : Subcommand → List Row → Text
why_no_program Run rows = why_no_run rows
why_no_program Lint rows = why_no_lint rows
why_no_program Story rows = why_no_rules rows
why_no_program Verify rows = why_no_rules rows
why_no_program Sweep rows = why_no_rules rows
why_no_program Explore rows = why_no_explore rows
why_no_program s rows = codes "no program has this name and these options"

abbrev pub why_without : Option Subcommand → List Row → Text
why_without None rows = codes "no program has this name and these options"
why_without (Some s) rows = why_no_program s rows

abbrev pub why_not : Text → List Row → Text
why_not word rows = why_without (subcommand_named word) rows

abbrev pub why_none : Option (Text × List Row) → Text
why_none None = codes "no program has this name and these options"
why_none (Some met) = why_not met.0 met.1

-- ---- what is asked

-- the words ask for this program: the parser finds no fault in them, and their subcommand is this program
abbrev pub AsksFor : List Text → Program → Type 0
AsksFor words program = (names : Names) × AreNames names × (fault_of (line names) words ≡ [])
    × (program_among (subcommand_of (line names) words) ≡ Some program) × IsStaffed program

-- the words are refused with this error: it is a fault that the parser finds in them, or they name no program
abbrev pub Refuses : List Text → Error → Type 0
Refuses words error = (names : Names) × AreNames names
    × (IsAmong (kind_of error) (fault_of (line names) words) ⊎ (program_among (subcommand_of (line names) words) ≡ None))

-- what these words ask; memory may be wanting for each
abbrev pub IsAskedBy : List Text → Asked → Type 0
IsAskedBy words (asked.For program) = AsksFor words program
IsAskedBy words (asked.Refused error) = Refuses words error
IsAskedBy words asked.OutOfMemory = Unit {0}

-- a command line with a word that isn't UTF-8 is refused
abbrev pub IsNotUtf8 : Asked → Type 0
IsNotUtf8 (asked.For program) = ⊥
IsNotUtf8 (asked.Refused error) = kind_of error ≡ kind.InvalidValue
IsNotUtf8 asked.OutOfMemory = Unit {0}

-- what is asked by these words, or where there are none
abbrev pub IsAsked : Words → Asked → Type 0
IsAsked (words.Given list) it = IsAskedBy (map string_bytes list.items) it
IsAsked words.NotUtf8 it = IsNotUtf8 it
IsAsked words.OutOfMemory it = it ≡ asked.OutOfMemory

-- the command line is refused with this error, or memory was
abbrev pub IsRefusedBy : Error → Asked → Type 0
IsRefusedBy error (asked.For program) = ⊥
IsRefusedBy error (asked.Refused same) = (same ≡ error) × (kind_of error ≡ kind.OutOfMemory → ⊥)
IsRefusedBy error asked.OutOfMemory = kind_of error ≡ kind.OutOfMemory
