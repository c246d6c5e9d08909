-- The commands of scripts, as lint tells of them (ours).
use Rattle.std.specs.Prelude.{ℕ, List, ◌++◌, map, codes}
use Rattle.std.specs.List.{flat_map}
use Rattle.rh_script.specs.declared.forms.Argument.{Argument}
use Rattle.rh_script.specs.declared.forms.Argument.TheVariants as argument
use Rattle.rh_script.specs.declared.forms.Verb.{Verb}
use Rattle.rh_script.specs.Forms.{verbs, word_of, arguments_of}

-- what stands for an argument
abbrev pub argument_words : Argument → List ℕ
argument_words argument.Node = codes "NODE"
argument_words argument.App = codes "APPLICATION"
argument_words argument.Restart = codes "permanent|transient|temporary"
argument_words argument.Truth = codes "true|false"
argument_words argument.Ending = codes "normal|abnormal"
argument_words argument.Milliseconds = codes "MILLISECONDS"

-- a command as it is written
abbrev pub usage_of : Verb → List ℕ
usage_of v = word_of v ++ flat_map (λ a. codes " " ++ argument_words a) (arguments_of v)

-- the words of all commands
unfoldable pub command_words : List (List ℕ)
command_words = map word_of verbs
