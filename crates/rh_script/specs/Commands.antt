-- What a line of a script asks (ours).
use Rattle.std.specs.Prelude.{ℕ, ◌^◌, ◌&&◌, ◌==◌, List, [], ◌∷◌, length, filter, Bool, true, false, not, nat_lt, if◌then◌else◌, codes, Option, Some, None}
use Rattle.std.specs.Prelude.{unwrap_or}
use Rattle.std.specs.List.{slice_split, list_all}
use Rattle.std.specs.Prelude.{option_map, option_and_then}
use Rattle.std.specs.Char.{digit_value}
use Rattle.std.specs.Str.{bytes_eq, is_utf8}
use Rattle.std.specs.Str.Parse.{digits_value}
use Rattle.rh_model.specs.ClusterView.{ClusterView, node_of, app_of}
use Rattle.rh_model.specs.declared.node.Node.{Node}
use Rattle.rh_model.specs.declared.node.App.{App}
use Rattle.rh_model.specs.declared.settings.Restart.{Restart}
use Rattle.rh_model.specs.declared.settings.Restart.TheVariants.{Permanent, Transient, Temporary}
use Rattle.rh_calls.specs.declared.call.Call.{Call}
use Rattle.rh_calls.specs.Report.{restart_words}
use Rattle.rh_script.specs.declared.script.TheConstants.{NO_NODE, NO_APP}
use Rattle.rh_script.specs.declared.script.Line.{Line}
use Rattle.rh_script.specs.declared.script.Line.TheVariants.{Nothing, Asks, Bad}
use Rattle.rh_script.specs.declared.forms.Argument.{Argument}
use Rattle.rh_script.specs.declared.forms.Argument.TheVariants as argument
use Rattle.rh_script.specs.declared.forms.Verb.{Verb}
use Rattle.rh_script.specs.declared.forms.Given.{Given}
use Rattle.rh_script.specs.Forms.{arguments_of, verb_named, nothing, call_of, with_node, with_app, with_restart, with_truth, with_ending, with_ms}
use Rattle.rh_script.specs.CommandWords.{truth_word, reason_word}

-- the words between runs of spaces
abbrev pub words_of : List ℕ → List (List ℕ)
words_of line = filter (λ word. not (length word == 0)) (slice_split (λ b. b == 32) line)

-- the node of this name, or what stands for none
abbrev pub named : ClusterView → List ℕ → Node
named c name = unwrap_or (node_of c name) NO_NODE

-- and the application
abbrev pub named_app : ClusterView → List ℕ → App
named_app c name = unwrap_or (app_of c name) NO_APP

-- does the line begin with this byte?
abbrev pub begins_with : ℕ → List ℕ → Bool
begins_with b [] = false
begins_with b (c ∷ bytes) = c == b

-- one decimal digit or more, and nothing else
abbrev pub is_numeral : List ℕ → Bool
is_numeral word = not (length word == 0) && list_all (λ b. nat_lt (digit_value b) 10) word

-- a number of milliseconds, within 64 bits
unfoldable pub milliseconds : List ℕ → Option ℕ
milliseconds word = if is_numeral word && nat_lt (digits_value 10 word) (2 ^ 64) then Some (digits_value 10 word) else None

-- the restart type of this word (application(3), `start/2`)
abbrev pub restart_named : List ℕ → Option Restart
restart_named word =
    if bytes_eq word (restart_words Permanent) then Some Permanent
    else if bytes_eq word (restart_words Transient) then Some Transient
    else if bytes_eq word (restart_words Temporary) then Some Temporary
    else None

-- which of two words it is: the first stands for yes
abbrev pub first_of : List ℕ → List ℕ → List ℕ → Option Bool
first_of yea nay word = if bytes_eq word yea then Some true else if bytes_eq word nay then Some false else None

-- what is given, and this word as an argument of this kind
abbrev pub with_argument : ClusterView → Argument → List ℕ → Given → Option Given
with_argument c argument.Node word g = Some (with_node g (named c word))
with_argument c argument.App word g = Some (with_app g (named_app c word))
with_argument c argument.Restart word g = option_map (with_restart g) (restart_named word)
with_argument c argument.Truth word g = option_map (with_truth g) (first_of (truth_word true) (truth_word false) word)
with_argument c argument.Ending word g = option_map (with_ending g) (first_of (reason_word true) (reason_word false) word)
with_argument c argument.Milliseconds word g = option_map (with_ms g) (milliseconds word)

-- what is given, and these words as arguments of these kinds: one word for each
abbrev pub given_in : ClusterView → List Argument → List (List ℕ) → Given → Option Given
given_in c [] [] g = Some g
given_in c [] (word ∷ words) g = None
given_in c (argument ∷ arguments) [] g = None
given_in c (argument ∷ arguments) (word ∷ words) g = option_and_then (given_in c arguments words) (with_argument c argument word g)

-- the call that the row of a command asks with these words, where they are the arguments that the row wants
abbrev pub row_asks : ClusterView → Option Verb → List (List ℕ) → Option Call
row_asks c None words = None
row_asks c (Some v) words = option_and_then (call_of v) (given_in c (arguments_of v) words nothing)

-- the call that a word asks with the words behind it
abbrev pub call_asked : ClusterView → List ℕ → List (List ℕ) → Option Call
call_asked c word words = row_asks c (verb_named word) words

-- a line of this call, or none without one
abbrev pub asking : Option Call → Line
asking (Some call) = Asks call
asking None = Bad

-- the command that the words make, and nothing of none
abbrev pub command_of : ClusterView → List (List ℕ) → Line
command_of c [] = Nothing
command_of c (word ∷ words) = asking (call_asked c word words)

-- what a line asks; one that begins with `#` is a comment
unfoldable pub line_of : ClusterView → List ℕ → Line
line_of c line =
    if begins_with 35 line then Nothing
    else if is_utf8 line then command_of c (words_of line)
    else Bad

-- the commands of lines up to the first bad one
abbrev pub calls_of : List Line → List Call
calls_of [] = []
calls_of (Nothing ∷ lines) = calls_of lines
calls_of (Asks call ∷ lines) = call ∷ calls_of lines
calls_of (Bad ∷ lines) = []
