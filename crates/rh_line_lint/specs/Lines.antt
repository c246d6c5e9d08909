-- What is found in the lines of a script (ours).
use Rattle.std.specs.Prelude.{ℕ, ◌+◌, ◌-◌, ◌==◌, List, [], ◌∷◌, ◌++◌, length, codes, nat_eq, not, ◌||◌, find, position, Option, Some, None, is_some}
use Rattle.std.specs.Prelude.{if◌then◌else◌, slice_get}
use Rattle.std.specs.Option.{option_and_then}
use Rattle.std.specs.List.{starts_with, list_any, zip}
use Rattle.std.specs.Fmt.{decimal}
use Rattle.std.specs.Str.{bytes_eq, is_utf8}
use Rattle.rh_model.specs.ClusterView.{ClusterView, node_of, app_of}
use Rattle.rh_script.specs.declared.script.Line.{Line}
use Rattle.rh_script.specs.declared.script.Line.TheVariants as line
use Rattle.rh_script.specs.declared.forms.Argument.{Argument}
use Rattle.rh_script.specs.declared.forms.Verb.{Verb}
use Rattle.rh_script.specs.Forms.{arguments_of, verb_named}
use Rattle.rh_script.specs.Commands.{words_of, line_of}
use Rattle.rh_term_lint.specs.Near.{nearest}
use Rattle.rh_findings.specs.declared.finding.Kind.TheVariants.{Error}
use Rattle.rh_findings.specs.declared.finding.Finding.{Finding}
use Rattle.rh_line_lint.specs.Arguments.{takes, choices, mismatch, is_node, is_app}
use Rattle.rh_line_lint.specs.Commands.{command_words, usage_of}

abbrev pub error_at : ℕ → List ℕ → Finding
error_at k text = record { line = Some k; kind = Error; text = text; path = None }

-- a near name, if there is one
unfoldable pub near_words : Option (List ℕ) → List ℕ
near_words None = []
near_words (Some name) = codes "; " ++ (name ++ codes " is near")

-- ---- a line that is no command

-- what may have been meant by its first word: a comment as in the cluster file, or behind blanks, the line between the two, a plan
abbrev pub meant_words : List ℕ → List ℕ
meant_words word =
    if starts_with nat_eq word (codes "%") then codes "; a comment in a script begins with #"
    else if starts_with nat_eq word (codes "#") then codes "; the # of a comment is the first byte of its line"
    else if bytes_eq word (codes "===") then codes "; one line === stands before the script"
    else if bytes_eq word (codes "plan") then codes "; plans are for sweep"
    else []

-- its first word is none; one may be near
unfoldable pub unknown_command : List ℕ → List ℕ
unknown_command word =
    (codes "unknown_command: " ++ (word ++ (codes " is no command" ++ meant_words word))) ++ near_words (nearest word command_words)

-- the first of the words behind a command that isn't what its argument takes, with that argument
abbrev pub first_mistaken : List Argument → List (List ℕ) → Option (Argument × List ℕ)
first_mistaken arguments words = find (λ p. not (takes p.0 p.1)) (zip arguments words)

-- it is told, and one that is taken there, if one is near
unfoldable pub mistaken_words : Argument → List ℕ → List ℕ
mistaken_words argument word = (codes "; " ++ (word ++ mismatch argument word)) ++ near_words (nearest word (choices argument))

-- what may have been meant by a word too many: a comment
unfoldable pub comment_words : List ℕ → List ℕ
comment_words word =
    if starts_with nat_eq word (codes "#") || starts_with nat_eq word (codes "%") then codes "; a comment has a line of its own, which begins with #"
    else []

-- a word too many
unfoldable pub surplus_words : List ℕ → List ℕ
surplus_words word = (codes "; " ++ (word ++ codes " is a word too many")) ++ comment_words word

-- so many words are missing
unfoldable pub missing_words : ℕ → List ℕ
missing_words count =
    if count == 0 then []
    else if count == 1 then codes "; a word is missing"
    else codes "; " ++ (decimal count ++ codes " words are missing")

-- how many words are missing, and the first word too many
abbrev pub count_words : ℕ → Option (List ℕ) → List ℕ
count_words missing None = missing_words missing
count_words missing (Some word) = surplus_words word

abbrev pub blame_by : Option (Argument × List ℕ) → List Argument → List (List ℕ) → List ℕ
blame_by None arguments words = count_words (length arguments - length words) (slice_get words (length arguments))
blame_by (Some mistaken) arguments words = mistaken_words mistaken.0 mistaken.1

-- what is wrong with the words behind a command: the first that isn't what its argument takes; where there is none, the first that is too
-- many, or how many are missing
unfoldable pub blame : List Argument → List (List ℕ) → List ℕ
blame arguments words = blame_by (first_mistaken arguments words) arguments words

-- the first word is a command: how it is written, and what is wrong with the words behind it
unfoldable pub bad_arguments : Verb → List (List ℕ) → List ℕ
bad_arguments v words = (codes "bad_arguments: the command is " ++ usage_of v) ++ blame (arguments_of v) words

abbrev pub unread_by : List ℕ → List (List ℕ) → Option Verb → List ℕ
unread_by word words None = unknown_command word
unread_by word words (Some v) = bad_arguments v words

unfoldable pub unread : List (List ℕ) → List ℕ
unread [] = []
unread (word ∷ words) = unread_by word words (verb_named word)

-- words that a tab was meant to part
unfoldable pub tab_words : List ℕ → List ℕ
tab_words l = if list_any (λ b. b == 9) l then codes "; a tab parts no words" else []

unfoldable pub bad_words : List ℕ → List ℕ
bad_words l = if is_utf8 l then unread (words_of l) ++ tab_words l else codes "not_utf8: the line isn't UTF-8"

-- ---- names in a command that the cluster hasn't

unfoldable pub node_words : ClusterView → List ℕ → List ℕ
node_words c name = (codes "unknown_node: the cluster has no node " ++ name) ++ near_words (nearest name c.node_names)

unfoldable pub app_words : ClusterView → List ℕ → List ℕ
app_words c name = (codes "unknown_application: the cluster has no application " ++ name) ++ near_words (nearest name c.app_names)

unfoldable pub unknown_node : ClusterView → ℕ → Option (List ℕ) → List Finding
unknown_node c k None = []
unknown_node c k (Some name) = if is_some (node_of c name) then [] else error_at k (node_words c name) ∷ []

unfoldable pub unknown_app : ClusterView → ℕ → Option (List ℕ) → List Finding
unknown_app c k None = []
unknown_app c k (Some name) = if is_some (app_of c name) then [] else error_at k (app_words c name) ∷ []

-- the word at a place
abbrev pub word_at : List (List ℕ) → Option ℕ → Option (List ℕ)
word_at words place = option_and_then (slice_get words) place

-- the words behind a command: that which names a node, and that which names an application
unfoldable pub of_command : ClusterView → ℕ → List Argument → List (List ℕ) → List Finding
of_command c k arguments words =
    unknown_node c k (word_at words (position is_node arguments)) ++ unknown_app c k (word_at words (position is_app arguments))

abbrev pub of_command_named : ClusterView → ℕ → Option Verb → List (List ℕ) → List Finding
of_command_named c k None words = []
of_command_named c k (Some v) words = of_command c k (arguments_of v) words

unfoldable pub of_words : ClusterView → ℕ → List (List ℕ) → List Finding
of_words c k [] = []
of_words c k (word ∷ words) = of_command_named c k (verb_named word) words

unfoldable pub unknown_names : ClusterView → ℕ → List ℕ → List Finding
unknown_names c k l = if is_utf8 l then of_words c k (words_of l) else []

-- ---- each line

abbrev pub of_line_asked : ClusterView → ℕ → List ℕ → Line → List Finding
of_line_asked c k l line.Nothing = []
of_line_asked c k l line.Bad = error_at k (bad_words l) ∷ []
of_line_asked c k l (line.Asks call) = unknown_names c k l

-- the line of number k
unfoldable pub of_line : ClusterView → ℕ → List ℕ → List Finding
of_line c k l = of_line_asked c k l (line_of c l)

-- lines of which the first has number k
abbrev pub of_lines : ClusterView → ℕ → List (List ℕ) → List Finding
of_lines c k [] = []
of_lines c k (l ∷ lines) = of_line c k l ++ of_lines c (k + 1) lines
