-- What the lines of a search ask: those of its base, and then which events may come and what is asked (ours).
use Rattle.std.specs.Prelude.{ℕ, ◌^◌, ◌-◌, List, [], ◌∷◌, map, Bool, true, false, nat_lt, if◌then◌else◌, codes, Option, Some, None}
use Rattle.std.specs.List.{flat_map}
use Rattle.std.specs.Str.{bytes_eq, is_utf8}
use Rattle.rh_model.specs.ClusterView.{ClusterView, node_count}
use Rattle.rh_rules.specs.declared.event.Event.{Event}
use Rattle.rh_calls.specs.declared.call.Call.{Call}
use Rattle.rh_calls.specs.declared.call.Call.TheVariants as call
use Rattle.rh_script.specs.declared.script.Line.{Line}
use Rattle.rh_script.specs.declared.script.Line.TheVariants as line
use Rattle.rh_script.specs.Commands.{words_of, milliseconds, line_of}
use Rattle.rh_script.specs.Fitting.{first_unfit}
use Rattle.rh_explore.specs.declared.moves.Move.{Move}
use Rattle.rh_explore.specs.declared.moves.Move.TheVariants.{Wait}
use Rattle.rh_explore_text.specs.declared.lines.SearchLine.{SearchLine}
use Rattle.rh_explore_text.specs.declared.lines.SearchLine.TheVariants as asks
use Rattle.rh_explore_text.specs.Words.{line_of_words}
use Rattle.rh_explore_text.specs.OpenEvents.{is_meant, each_move}
use Rattle.rh_explore_text.specs.Asks.{AskView, ask_named}

abbrev pub no_line : SearchLine
no_line = asks.Plain line.Bad

-- ---- `may EVENT` and `may wait`

-- the event that a line of a script asks, if it asks one
abbrev pub event_asked : Line → Option Event
event_asked line.Nothing = None
event_asked (line.Asks (call.Step event)) = Some event
event_asked (line.Asks call.Undo) = None
event_asked (line.Asks call.Redo) = None
event_asked (line.Asks call.UndoAll) = None
event_asked (line.Asks call.RedoAll) = None
event_asked (line.Asks call.Look) = None
event_asked line.Bad = None

-- an event may come if each name of it that the cluster hasn't is a `*`
abbrev pub meant : ClusterView → List (List ℕ) → Option Event → SearchLine
meant c words None = no_line
meant c words (Some event) = if is_meant c words event then asks.May event else no_line

-- `wait` alone
abbrev pub is_wait : List (List ℕ) → Bool
is_wait [] = false
is_wait (word ∷ []) = bytes_eq word (codes "wait")
is_wait (word ∷ next ∷ words) = false

-- the words are `wait`, or a command
abbrev pub may_line : ClusterView → List (List ℕ) → SearchLine
may_line c words = if is_wait words then asks.MayWait else meant c words (event_asked (line_of c (line_of_words words)))

-- ---- `down K` and `steps K`

abbrev pub down_at_most : Option ℕ → SearchLine
down_at_most None = no_line
down_at_most (Some k) = asks.Down k

abbrev pub down_line : List (List ℕ) → SearchLine
down_line [] = no_line
down_line (word ∷ []) = down_at_most (milliseconds word)
down_line (word ∷ next ∷ words) = no_line

abbrev pub steps_at_most : Option ℕ → SearchLine
steps_at_most None = no_line
steps_at_most (Some k) = if nat_lt k (2 ^ 32) then asks.Steps k else no_line

abbrev pub steps_line : List (List ℕ) → SearchLine
steps_line [] = no_line
steps_line (word ∷ []) = steps_at_most (milliseconds word)
steps_line (word ∷ next ∷ words) = no_line

-- ---- `ask ..`

abbrev pub question_line : Option AskView → SearchLine
question_line None = no_line
question_line (Some question) = asks.Asks question

abbrev pub ask_line : ClusterView → List (List ℕ) → SearchLine
ask_line c words = question_line (ask_named c words)

-- ---- a line

-- what words ask, the first of which says what kind of line it is
abbrev pub search_command : ClusterView → List ℕ → List (List ℕ) → SearchLine
search_command c word words =
    if bytes_eq word (codes "may") then may_line c words
    else if bytes_eq word (codes "down") then down_line words
    else if bytes_eq word (codes "steps") then steps_line words
    else if bytes_eq word (codes "ask") then ask_line c words
    else no_line

abbrev pub search_words : ClusterView → List (List ℕ) → SearchLine
search_words c [] = no_line
search_words c (word ∷ words) = search_command c word words

abbrev pub search_text : ClusterView → List ℕ → SearchLine
search_text c text = if is_utf8 text then search_words c (words_of text) else no_line

-- what a line asks: as any script has it, or else of a search
abbrev pub or_search : Line → SearchLine → SearchLine
or_search line.Nothing other = asks.Plain line.Nothing
or_search (line.Asks asked) other = asks.Plain (line.Asks asked)
or_search line.Bad other = other

unfoldable pub search_line_of : ClusterView → List ℕ → SearchLine
search_line_of c text = or_search (line_of c text) (search_text c text)

abbrev pub search_lines_asked : ClusterView → List (List ℕ) → List SearchLine
search_lines_asked c lines = map (search_line_of c) lines

-- ---- which lines fit

-- commands stand in the base, before the first line of the search
abbrev pub fits_search : Bool → SearchLine → Bool
fits_search begun (asks.Plain line.Nothing) = true
fits_search begun (asks.Plain (line.Asks asked)) = if begun then false else true
fits_search begun (asks.Plain line.Bad) = false
fits_search begun (asks.May event) = true
fits_search begun asks.MayWait = true
fits_search begun (asks.Down k) = true
fits_search begun (asks.Steps k) = true
fits_search begun (asks.Asks question) = true

-- did the search begin with this line or before?
abbrev pub begun_by : Bool → SearchLine → Bool
begun_by begun (asks.Plain read) = begun
begun_by begun (asks.May event) = true
begun_by begun asks.MayWait = true
begun_by begun (asks.Down k) = true
begun_by begun (asks.Steps k) = true
begun_by begun (asks.Asks question) = true

-- the number of the first line that doesn't fit
abbrev pub bad_search_line : List SearchLine → Option ℕ
bad_search_line lines = first_unfit fits_search begun_by 1 false lines

-- ---- what all of them ask

-- the commands of the base, what may happen, behind which at most how many nodes are not up, how many events follow one another at most,
-- and what is asked of each state
pub record SearchView : Type 0 where
  pub base : List Call
  pub moves : List Move
  pub down : ℕ
  pub steps : ℕ
  pub asks : List AskView

abbrev pub calls_in : SearchLine → List Call
calls_in (asks.Plain line.Nothing) = []
calls_in (asks.Plain (line.Asks asked)) = asked ∷ []
calls_in (asks.Plain line.Bad) = []
calls_in (asks.May event) = []
calls_in asks.MayWait = []
calls_in (asks.Down k) = []
calls_in (asks.Steps k) = []
calls_in (asks.Asks question) = []

abbrev pub moves_in : ClusterView → SearchLine → List Move
moves_in c (asks.Plain read) = []
moves_in c (asks.May event) = each_move c event
moves_in c asks.MayWait = Wait ∷ []
moves_in c (asks.Down k) = []
moves_in c (asks.Steps k) = []
moves_in c (asks.Asks question) = []

abbrev pub down_in : SearchLine → List ℕ
down_in (asks.Plain read) = []
down_in (asks.May event) = []
down_in asks.MayWait = []
down_in (asks.Down k) = k ∷ []
down_in (asks.Steps k) = []
down_in (asks.Asks question) = []

abbrev pub steps_in : SearchLine → List ℕ
steps_in (asks.Plain read) = []
steps_in (asks.May event) = []
steps_in asks.MayWait = []
steps_in (asks.Down k) = []
steps_in (asks.Steps k) = k ∷ []
steps_in (asks.Asks question) = []

abbrev pub asks_in : SearchLine → List AskView
asks_in (asks.Plain read) = []
asks_in (asks.May event) = []
asks_in asks.MayWait = []
asks_in (asks.Down k) = []
asks_in (asks.Steps k) = []
asks_in (asks.Asks question) = question ∷ []

-- the last of these, or what is so without them
abbrev pub last_or : ℕ → List ℕ → ℕ
last_or k [] = k
last_or k (next ∷ others) = last_or next others

-- any number of events may follow one another
abbrev pub most_steps : ℕ
most_steps = 2 ^ 32 - 1

-- what lines that fit ask: all their commands are the base's, and of several bounds of a kind the last counts
abbrev pub search_of : ClusterView → List SearchLine → SearchView
search_of c lines = record {
  base = flat_map calls_in lines;
  moves = flat_map (moves_in c) lines;
  down = last_or (node_count c) (flat_map down_in lines);
  steps = last_or most_steps (flat_map steps_in lines);
  asks = flat_map asks_in lines;
}
