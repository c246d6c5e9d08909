-- The commands of a search's base are those that a run answers: a run takes each line that begins or follows a search for no command.
use Rattle.std.proofs.Common.{◌≡◌, ◌+◌, ℕ, List, [], ◌∷◌, map, Bool, true, false, cond, Option, Some, None, refl, sym, ap, subst, ◌∙◌}
use Rattle.std.specs.List.{flat_map}
use Rattle.std.specs.Prelude.{codes, nat_lt, ◌^◌}
use Rattle.std.specs.Str.{bytes_eq, is_utf8}
use Rattle.rh_model.specs.ClusterView.{ClusterView}
use Rattle.rh_rules.specs.declared.event.Event.{Event}
use Rattle.rh_calls.specs.declared.call.Call.{Call}
use Rattle.rh_script.specs.declared.script.Line.{Line}
use Rattle.rh_script.specs.declared.script.Line.TheVariants.{Nothing, Asks, Bad}
use Rattle.rh_script.specs.Commands.{words_of, milliseconds, line_of}
use Rattle.rh_script.specs.Fitting.{first_unfit}
use Rattle.rh_json.specs.RunJson.{Asked, asked_in, before}
use Rattle.rh_explore_text.specs.declared.lines.SearchLine.{SearchLine}
use Rattle.rh_explore_text.specs.declared.lines.SearchLine.TheVariants as asks
use Rattle.rh_explore_text.specs.Words.{line_of_words}
use Rattle.rh_explore_text.specs.OpenEvents.{is_meant}
use Rattle.rh_explore_text.specs.Asks.{AskView, ask_named}
use Rattle.rh_explore_text.specs.SearchLines.{event_asked, meant, is_wait, may_line, down_at_most, down_line, steps_at_most, steps_line, question_line, ask_line, no_line}
use Rattle.rh_explore_text.specs.SearchLines.{search_command, search_words, search_text, or_search, search_line_of, search_lines_asked, fits_search, begun_by, calls_in}
use Rattle.rh_explore_text.specs.Laws.{SearchBaseIsAnswered}

-- ---- a line of a search is none that a run answers or passes over

abbrev IsNone : SearchLine → Type 0
IsNone (asks.Plain Nothing) = ⊥
IsNone (asks.Plain (Asks call)) = ⊥
IsNone (asks.Plain Bad) = Unit {0}
IsNone (asks.May event) = Unit {0}
IsNone asks.MayWait = Unit {0}
IsNone (asks.Down k) = Unit {0}
IsNone (asks.Steps k) = Unit {0}
IsNone (asks.Asks question) = Unit {0}

either : (is : Bool) (this that : SearchLine) → IsNone this → IsNone that → IsNone (cond is this that)
either true this that one other = one
either false this that one other = other

meant_is : (c : ClusterView) (words : List (List ℕ)) (event : Option Event) → IsNone (meant c words event)
meant_is c words None = tt
meant_is c words (Some event) = either (is_meant c words event) (asks.May event) no_line tt tt

may_is : (c : ClusterView) (words : List (List ℕ)) → IsNone (may_line c words)
may_is c words =
    let event = event_asked (line_of c (line_of_words words)) in
    either (is_wait words) asks.MayWait (meant c words event) tt (meant_is c words event)

down_most_is : (k : Option ℕ) → IsNone (down_at_most k)
down_most_is None = tt
down_most_is (Some k) = tt

down_is : (words : List (List ℕ)) → IsNone (down_line words)
down_is [] = tt
down_is (word ∷ []) = down_most_is (milliseconds word)
down_is (word ∷ next ∷ words) = tt

steps_most_is : (k : Option ℕ) → IsNone (steps_at_most k)
steps_most_is None = tt
steps_most_is (Some k) = either (nat_lt k (2 ^ 32)) (asks.Steps k) no_line tt tt

steps_is : (words : List (List ℕ)) → IsNone (steps_line words)
steps_is [] = tt
steps_is (word ∷ []) = steps_most_is (milliseconds word)
steps_is (word ∷ next ∷ words) = tt

question_is : (question : Option AskView) → IsNone (question_line question)
question_is None = tt
question_is (Some question) = tt

command_is : (c : ClusterView) (word : List ℕ) (words : List (List ℕ)) → IsNone (search_command c word words)
command_is c word words =
    let is = λ (name : List ℕ). bytes_eq word name in
    let ask = cond (is (codes "ask")) (ask_line c words) no_line in
    let steps = cond (is (codes "steps")) (steps_line words) ask in
    let down = cond (is (codes "down")) (down_line words) steps in
    let asked : IsNone ask = either (is (codes "ask")) (ask_line c words) no_line (question_is (ask_named c words)) tt in
    let stepped : IsNone steps = either (is (codes "steps")) (steps_line words) ask (steps_is words) asked in
    let bounded : IsNone down = either (is (codes "down")) (down_line words) steps (down_is words) stepped in
    either (is (codes "may")) (may_line c words) down (may_is c words) bounded

words_are : (c : ClusterView) (words : List (List ℕ)) → IsNone (search_words c words)
words_are c [] = tt
words_are c (word ∷ words) = command_is c word words

text_is : (c : ClusterView) (text : List ℕ) → IsNone (search_text c text)
text_is c text = either (is_utf8 text) (search_words c (words_of text)) no_line (words_are c (words_of text)) tt

-- ---- where the lines fit, none behind the first line of the search is a command

none_behind : (k : ℕ) (lines : List SearchLine) → first_unfit fits_search begun_by k true lines ≡ None → flat_map calls_in lines ≡ []
none_behind k [] fine = refl
none_behind k (asks.Plain Nothing ∷ lines) fine = none_behind (k + 1) lines fine
none_behind k (asks.Plain (Asks call) ∷ lines) fine = cc
none_behind k (asks.Plain Bad ∷ lines) fine = cc
none_behind k (asks.May event ∷ lines) fine = none_behind (k + 1) lines fine
none_behind k (asks.MayWait ∷ lines) fine = none_behind (k + 1) lines fine
none_behind k (asks.Down n ∷ lines) fine = none_behind (k + 1) lines fine
none_behind k (asks.Steps n ∷ lines) fine = none_behind (k + 1) lines fine
none_behind k (asks.Asks question ∷ lines) fine = none_behind (k + 1) lines fine

abbrev FitFrom : ℕ → List SearchLine → Type 0
FitFrom k lines = first_unfit fits_search begun_by k false lines ≡ None

-- one line of the base, or the first of the search
module _ (k number : ℕ) (line : List ℕ) (others : List Asked) (lines : List SearchLine) where
  one_bad : (other : SearchLine) → IsNone other → FitFrom k (other ∷ lines) → [] ≡ flat_map calls_in (other ∷ lines)
  one_bad (asks.Plain Nothing) is fine = absurd is
  one_bad (asks.Plain (Asks call)) is fine = absurd is
  one_bad (asks.Plain Bad) is fine = cc
  one_bad (asks.May event) is fine = sym (none_behind (k + 1) lines fine)
  one_bad asks.MayWait is fine = sym (none_behind (k + 1) lines fine)
  one_bad (asks.Down n) is fine = sym (none_behind (k + 1) lines fine)
  one_bad (asks.Steps n) is fine = sym (none_behind (k + 1) lines fine)
  one_bad (asks.Asks question) is fine = sym (none_behind (k + 1) lines fine)

  one_line : (read : Line) (other : SearchLine) → IsNone other
      → (FitFrom (k + 1) lines → map (λ (a : Asked). a.call) others ≡ flat_map calls_in lines)
      → FitFrom k (or_search read other ∷ lines) → map (λ (a : Asked). a.call) (before number line read others) ≡ flat_map calls_in (or_search read other ∷ lines)
  one_line Nothing other is same fine = same fine
  one_line (Asks call) other is same fine = ap (λ (calls : List Call). call ∷ calls) (same fine)
  one_line Bad other is same fine = one_bad other is fine

line_is : (c : ClusterView) (text : List ℕ) → search_line_of c text ≡ or_search (line_of c text) (search_text c text)
unfolding search_line_of
line_is c text = refl

answered_from : (c : ClusterView) (k number : ℕ) (lines : List (List ℕ)) → FitFrom k (search_lines_asked c lines)
    → map (λ (a : Asked). a.call) (asked_in c number lines) ≡ flat_map calls_in (search_lines_asked c lines)
answered_from c k number [] fine = refl
answered_from c k number (line ∷ lines) fine =
    let rest = search_lines_asked c lines in
    one_line k number line (asked_in c (number + 1) lines) rest (line_of c line) (search_text c line) (text_is c line)
    (answered_from c (k + 1) (number + 1) lines) (subst (λ (l : SearchLine). FitFrom k (l ∷ rest)) (line_is c line) fine)
    ∙ ap (λ (l : SearchLine). flat_map calls_in (l ∷ rest)) (sym (line_is c line))

pub search_base_is_answered : SearchBaseIsAnswered
search_base_is_answered c number lines fine = answered_from c 1 number lines fine
