-- What is told of the words behind a command is as a script is read (ours).
use Rattle.std.specs.Prelude.{◌≡◌, ◌≢◌, ℕ, List, [], ◌∷◌, Bool, true, false, Some, is_some}
use Rattle.std.specs.List.{list_any}
use Rattle.std.specs.Str.{bytes_eq}
use Rattle.rh_model.specs.ClusterView.{ClusterView}
use Rattle.rh_script.specs.declared.forms.Argument.{Argument}
use Rattle.rh_script.specs.declared.forms.Given.{Given}
use Rattle.rh_script.specs.declared.forms.Verb.{Verb}
use Rattle.rh_script.specs.Forms.{arguments_of, verb_named}
use Rattle.rh_script.specs.declared.script.Line.{Line}
use Rattle.rh_script.specs.declared.script.Line.TheVariants as line
use Rattle.rh_script.specs.Commands.{with_argument, command_of}
use Rattle.rh_line_lint.specs.Arguments.{takes, choices}
use Rattle.rh_line_lint.specs.Lines.{blame}

-- whatever the cluster is, and whatever is given before: the reader of commands takes a word as an argument exactly where it is taken here
abbrev pub WordsAreTaken : Type 0
WordsAreTaken = (c : ClusterView) (a : Argument) (word : List ℕ) (g : Given) → is_some (with_argument c a word g) ≡ takes a word

-- an argument for which a few words are told takes these and no others
abbrev pub ChoicesAreTaken : Type 0
ChoicesAreTaken = (a : Argument) (word : List ℕ) → choices a ≢ [] → takes a word ≡ list_any (bytes_eq word) (choices a)

abbrev pub is_bad : Line → Bool
is_bad line.Nothing = false
is_bad (line.Asks call) = false
is_bad line.Bad = true

abbrev pub is_told : List ℕ → Bool
is_told [] = false
is_told (b ∷ bytes) = true

-- something is told of the words behind a command exactly where they make no command
abbrev pub BadAreBlamed : Type 0
BadAreBlamed =
    (c : ClusterView) (v : Verb) (word : List ℕ) (words : List (List ℕ)) → verb_named word ≡ Some v
    → is_told (blame (arguments_of v) words) ≡ is_bad (command_of c (word ∷ words))
