-- The table of commands, row by row: each word is one, it leads back to its row, and what a call says asks it again.
use Rattle.std.proofs.Common.{◌≡◌, ◌==◌, ◌&&◌, ◌++◌, ℕ, Bool, true, false, not, List, [], ◌∷◌, Option, Some, None, refl}
use Rattle.std.specs.List.{list_all}
use Rattle.rh_rules.specs.declared.event.Event.TheVariants as event
use Rattle.rh_calls.specs.declared.call.Call.{Call}
use Rattle.rh_calls.specs.declared.call.Call.TheVariants as call
use Rattle.rh_script.specs.declared.forms.Argument.{Argument}
use Rattle.rh_script.specs.declared.forms.Argument.TheVariants as argument
use Rattle.rh_script.specs.declared.forms.Verb.{Verb}
use Rattle.rh_script.specs.declared.forms.Verb.TheVariants as verb
use Rattle.rh_script.specs.declared.forms.Given.{Given}
use Rattle.rh_script.specs.Forms.{word_of, arguments_of, verb_named, nothing, call_of, said}
use Rattle.rh_script.specs.Commands.{begins_with}
use Rattle.rh_script.specs.Laws.{IsWord}
use Rattle.rh_script.proofs.Words.{closed_word}

-- ---- the words

pub record IsVerb (v : Verb) : Type 0 where
  pub found : verb_named (word_of v) ≡ Some v
  pub word : IsWord (word_of v)
  -- it begins no comment,
  pub plain : (rest : List ℕ) → begins_with 35 (word_of v ++ rest) ≡ false
  -- and no line ends in it
  pub unbroken : list_all (λ b. not (b == 10) && not (b == 13)) (word_of v) ≡ true

pub verb_is : (v : Verb) → IsVerb v
unfolding verb_named
verb_is verb.Boot = record { found = refl; word = closed_word (word_of verb.Boot) refl refl refl; plain = λ rest. refl; unbroken = refl }
verb_is v = record { found = refl; word = closed_word (word_of v) refl refl refl; plain = λ rest. refl; unbroken = refl }

-- ---- what is given

-- is an argument of this kind given?
abbrev pub is_given : {A : Type 0} → Option A → Bool
is_given None = false
is_given (Some it) = true

abbrev pub has : Given → Argument → Bool
has g argument.Node = is_given g.node
has g argument.App = is_given g.app
has g argument.Restart = is_given g.restart
has g argument.Truth = is_given g.truth
has g argument.Ending = is_given g.ending
has g argument.Milliseconds = is_given g.ms

-- what is given, with that of this kind out of g
abbrev pub put : Given → Argument → Given → Given
put g argument.Node h = record h { node = g.node }
put g argument.App h = record h { app = g.app }
put g argument.Restart h = record h { restart = g.restart }
put g argument.Truth h = record h { truth = g.truth }
put g argument.Ending h = record h { ending = g.ending }
put g argument.Milliseconds h = record h { ms = g.ms }

abbrev pub put_all : Given → List Argument → Given → Given
put_all g [] h = h
put_all g (a ∷ others) h = put_all g others (put g a h)

-- ---- the calls

pub record Says (asked : Call) : Type 0 where
  -- what the row wants is given,
  pub whole : list_all (has (said asked).1) (arguments_of (said asked).0) ≡ true
  -- and nothing else,
  pub again : put_all (said asked).1 (arguments_of (said asked).0) nothing ≡ (said asked).1
  -- and the command asks the call with it
  pub means : call_of (said asked).0 (said asked).1 ≡ Some asked

pub says : (asked : Call) → Says asked
says (call.Step (event.Boot n)) = record { whole = refl; again = refl; means = refl }
says _ = record { whole = refl; again = refl; means = refl }
