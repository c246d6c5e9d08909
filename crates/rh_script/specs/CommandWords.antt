-- A call as the command that asks it (ours).
use Rattle.std.specs.Prelude.{ℕ, List, [], ◌++◌, Bool, codes, if◌then◌else◌, Option, Some, None}
use Rattle.std.specs.List.{flat_map}
use Rattle.std.specs.Fmt.{decimal}
use Rattle.rh_model.specs.ClusterView.{ClusterView}
use Rattle.rh_calls.specs.declared.call.Call.{Call}
use Rattle.rh_calls.specs.Report.{node_word, app_word, restart_words}
use Rattle.rh_script.specs.declared.forms.Argument.{Argument}
use Rattle.rh_script.specs.declared.forms.Argument.TheVariants as argument
use Rattle.rh_script.specs.declared.forms.Verb.{Verb}
use Rattle.rh_script.specs.declared.forms.Given.{Given}
use Rattle.rh_script.specs.Forms.{word_of, arguments_of, said}

-- what a permission says
abbrev pub truth_word : Bool → List ℕ
truth_word allow = if allow then codes "true" else codes "false"

-- how an application ends of itself
abbrev pub reason_word : Bool → List ℕ
reason_word normal = if normal then codes "normal" else codes "abnormal"

-- a space, and behind it what is shown, where there is something
abbrev pub spaced : {A : Type 0} → (A → List ℕ) → Option A → List ℕ
spaced show None = []
spaced show (Some it) = codes " " ++ show it

-- what is given of this kind
abbrev pub argument_words : ClusterView → Given → Argument → List ℕ
argument_words c g argument.Node = spaced (node_word c) g.node
argument_words c g argument.App = spaced (app_word c) g.app
argument_words c g argument.Restart = spaced restart_words g.restart
argument_words c g argument.Truth = spaced truth_word g.truth
argument_words c g argument.Ending = spaced reason_word g.ending
argument_words c g argument.Milliseconds = spaced decimal g.ms

-- a command with what is given to it: the word of its row of the table, and the arguments that the row wants
abbrev pub words_said : ClusterView → Verb × Given → List ℕ
words_said c it = word_of it.0 ++ flat_map (argument_words c it.1) (arguments_of it.0)

-- the command that asks a call
unfoldable pub command_words : ClusterView → Call → List ℕ
command_words c asked = words_said c (said asked)
