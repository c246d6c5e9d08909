-- The table of subcommands: the word of each, and its options (ours).
use Rattle.std.specs.Prelude.{ℕ, List, [], ◌∷◌, codes, Option, position, slice_get, option_and_then}
use Rattle.std.specs.Str.{bytes_eq}
use Rattle.rh_command_line.specs.declared.table.Flag.{Flag}
use Rattle.rh_command_line.specs.declared.table.Flag.TheVariants.{Echo, Strict, Json, Whole, Hints, All, Interactive}
use Rattle.rh_command_line.specs.declared.table.Setting.{Setting}
use Rattle.rh_command_line.specs.declared.table.Setting.TheVariants as setting
use Rattle.rh_command_line.specs.declared.table.Subcommand.{Subcommand}
use Rattle.rh_command_line.specs.declared.table.Subcommand.TheVariants.{Run, Check, Lint, Story, Verify, Sessions, Sweep, Explore}

-- the words that take no value, without their `--`
abbrev pub flag_word : Flag → List ℕ
flag_word Echo = codes "echo"
flag_word Strict = codes "strict"
flag_word Json = codes "json"
flag_word Whole = codes "whole"
flag_word Hints = codes "strict"
flag_word All = codes "all"
flag_word Interactive = codes "interactive"

-- the word of a subcommand, and its options
abbrev pub entry_of : Subcommand → List ℕ × List Setting
entry_of Run = (codes "run", setting.PickOrNumber ∷ setting.Rules ∷ setting.Flag Echo ∷ setting.Flag Strict ∷ setting.Flag Json ∷ setting.Flag Interactive ∷ [])
entry_of Check = (codes "check", setting.Flag Json ∷ [])
entry_of Lint = (codes "lint", setting.PickOrNumber ∷ setting.Rules ∷ setting.Flag All ∷ setting.Flag Hints ∷ setting.Flag Json ∷ [])
entry_of Story = (codes "story", setting.PickOrNumber ∷ setting.Rules ∷ setting.Flag Whole ∷ [])
entry_of Verify = (codes "verify", setting.PickOrNumber ∷ setting.Rules ∷ [])
entry_of Sessions = (codes "sessions", setting.Pick ∷ [])
entry_of Sweep = (codes "sweep", setting.PickOrNumber ∷ setting.Rules ∷ setting.Workers ∷ setting.Flag Json ∷ [])
entry_of Explore = (codes "explore", setting.PickOrNumber ∷ setting.Rules ∷ setting.Workers ∷ setting.States ∷ setting.Memory ∷ setting.Flag Json ∷ [])

abbrev pub word_of : Subcommand → List ℕ
word_of s = (entry_of s).0

abbrev pub settings_of : Subcommand → List Setting
settings_of s = (entry_of s).1

-- all subcommands
abbrev pub subcommands : List Subcommand
subcommands = Run ∷ Check ∷ Lint ∷ Story ∷ Verify ∷ Sessions ∷ Sweep ∷ Explore ∷ []

-- the subcommand with this word
unfoldable pub subcommand_named : List ℕ → Option Subcommand
subcommand_named word = option_and_then (slice_get subcommands) (position (λ s. bytes_eq word (word_of s)) subcommands)
