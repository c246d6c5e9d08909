-- The first six words of a line say what it asks.
use Rattle.std.proofs.Common.{◌≡◌, ◌<◌, ℕ, zero, suc, List, [], ◌∷◌, length, take, Option, Some, None, refl, ap, ◌∙◌, arith}
use Rattle.std.specs.Prelude.{option_and_then}
use Rattle.rh_model.specs.ClusterView.{ClusterView}
use Rattle.rh_script.specs.declared.forms.Argument.{Argument}
use Rattle.rh_script.specs.declared.forms.Given.{Given}
use Rattle.rh_script.specs.declared.forms.Verb.{Verb}
use Rattle.rh_script.specs.declared.forms.Verb.TheVariants as verb
use Rattle.rh_script.specs.Forms.{arguments_of, verb_named, nothing, call_of}
use Rattle.rh_script.specs.Commands.{with_argument, given_in, row_asks, call_asked, asking, command_of}
use Rattle.rh_script.specs.SessionLines.{session_named, asked_by, session_command}
use Rattle.rh_script.specs.SweepLines.{plan_named, begun_or, sweep_command}

-- no command has more than three arguments
few_arguments : (v : Verb) → length (arguments_of v) < 4
few_arguments verb.Boot = omega arith
few_arguments _ = omega arith

-- of more words than there are arguments, those behind make no difference
given_front : (c : ClusterView) (arguments : List Argument) (words : List (List ℕ)) (g : Given) (n : ℕ) → length arguments < n
    → given_in c arguments (take n words) g ≡ given_in c arguments words g
given_front c arguments words g zero few = absurd (omega (arith, few))
given_front c [] [] g (suc n) few = refl
given_front c [] (word ∷ words) g (suc n) few = refl
given_front c (argument ∷ arguments) [] g (suc n) few = refl
given_front c (argument ∷ arguments) (word ∷ words) g (suc n) few =
    by (λ next. given_front c arguments words next n (omega (arith, few))) (with_argument c argument word g)
  where
    by : ((next : Given) → given_in c arguments (take n words) next ≡ given_in c arguments words next) → (o : Option Given)
        → option_and_then (given_in c arguments (take n words)) o ≡ option_and_then (given_in c arguments words) o
    by same None = refl
    by same (Some next) = same next

call_front : (c : ClusterView) (word : List ℕ) (words : List (List ℕ)) (n : ℕ) → 3 < n → call_asked c word (take n words) ≡ call_asked c word words
call_front c word words n most = by (verb_named word)
  where
    by : (o : Option Verb) → row_asks c o (take n words) ≡ row_asks c o words
    by None = refl
    by (Some v) = ap (option_and_then (call_of v)) (given_front c (arguments_of v) words nothing n (omega (arith, few_arguments v, most)))

-- a command, as its word and its arguments
command_front : (c : ClusterView) (words : List (List ℕ)) (n : ℕ) → 3 < n → command_of c (take (suc n) words) ≡ command_of c words
command_front c [] n most = refl
command_front c (word ∷ words) n most = ap asking (call_front c word words n most)

pub command_of_six : (c : ClusterView) (words : List (List ℕ)) → command_of c (take 6 words) ≡ command_of c words
command_of_six c words = command_front c words 5 (omega arith)

pub session_of_six : (c : ClusterView) (words : List (List ℕ)) → session_command c (take 6 words) ≡ session_command c words
session_of_six c [] = refl
session_of_six c (word ∷ words) = ap (asked_by (session_named word)) (command_front c words 4 (omega arith))

plan_of_six : (words : List (List ℕ)) → plan_named (take 6 words) ≡ plan_named words
plan_of_six [] = refl
plan_of_six (word ∷ []) = refl
plan_of_six (word ∷ name ∷ []) = refl
plan_of_six (word ∷ name ∷ other ∷ more) = refl

pub sweep_of_six : (c : ClusterView) (words : List (List ℕ)) → sweep_command c (take 6 words) ≡ sweep_command c words
sweep_of_six c words =
    ap (λ name. begun_or name (command_of c (take 6 words))) (plan_of_six words) ∙ ap (begun_or (plan_named words)) (command_of_six c words)
