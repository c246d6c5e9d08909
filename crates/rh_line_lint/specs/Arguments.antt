-- What a command takes behind its word (ours).
use Rattle.std.specs.Prelude.{ℕ, List, [], ◌∷◌, codes, Bool, true, false, is_some, if◌then◌else◌}
use Rattle.rh_model.specs.declared.settings.Restart.TheVariants.{Permanent, Transient, Temporary}
use Rattle.rh_calls.specs.Report.{restart_words}
use Rattle.rh_script.specs.declared.forms.Argument.{Argument}
use Rattle.rh_script.specs.declared.forms.Argument.TheVariants as argument
use Rattle.rh_script.specs.Commands.{is_numeral, milliseconds, restart_named, first_of}
use Rattle.rh_script.specs.CommandWords.{truth_word, reason_word}

-- does the reader of commands take this word as such an argument? As a name it takes any word
abbrev pub takes : Argument → List ℕ → Bool
takes argument.Node word = true
takes argument.App word = true
takes argument.Restart word = is_some (restart_named word)
takes argument.Truth word = is_some (first_of (truth_word true) (truth_word false) word)
takes argument.Ending word = is_some (first_of (reason_word true) (reason_word false) word)
takes argument.Milliseconds word = is_some (milliseconds word)

-- the words that it takes, where they are few
abbrev pub choices : Argument → List (List ℕ)
choices argument.Restart = restart_words Permanent ∷ restart_words Transient ∷ restart_words Temporary ∷ []
choices argument.Truth = truth_word true ∷ truth_word false ∷ []
choices argument.Ending = reason_word true ∷ reason_word false ∷ []
choices _ = []

-- what a word isn't that it doesn't take. A number that it doesn't take is one beyond 64 bits, and the clock ends before
abbrev pub mismatch : Argument → List ℕ → List ℕ
mismatch argument.Restart word = codes " is none of permanent, transient and temporary"
mismatch argument.Truth word = codes " is neither true nor false"
mismatch argument.Ending word = codes " is neither normal nor abnormal"
mismatch argument.Milliseconds word =
    if is_numeral word then codes " is too large: the clock ends at 1000000000000" else codes " is no number of milliseconds, as 5000"
mismatch _ word = []

-- is it the name of a node, or of an application?
abbrev pub is_node : Argument → Bool
is_node argument.Node = true
is_node _ = false

abbrev pub is_app : Argument → Bool
is_app argument.App = true
is_app _ = false
