-- The words that arguments take are those that the reader of commands takes.
use Rattle.std.proofs.Common.{◌≡◌, ◌≢◌, ◌||◌, ℕ, Bool, true, false, cond, List, [], Option, Some, None, refl}
use Rattle.std.specs.Prelude.{option_map, is_some}
use Rattle.std.specs.List.{list_any}
use Rattle.std.specs.Str.{bytes_eq}
use Rattle.rh_model.specs.ClusterView.{ClusterView}
use Rattle.rh_model.specs.declared.settings.Restart.TheVariants.{Permanent, Transient, Temporary}
use Rattle.rh_calls.specs.Report.{restart_words}
use Rattle.rh_script.specs.declared.forms.Argument.{Argument}
use Rattle.rh_script.specs.declared.forms.Argument.TheVariants as argument
use Rattle.rh_script.specs.declared.forms.Given.{Given}
use Rattle.rh_script.specs.Forms.{with_restart, with_truth, with_ending, with_ms}
use Rattle.rh_script.specs.Commands.{milliseconds, restart_named, first_of, with_argument}
use Rattle.rh_script.specs.CommandWords.{truth_word, reason_word}
use Rattle.rh_line_lint.specs.Arguments.{takes, choices}

mapped : {A B : Type 0} (f : A → B) (o : Option A) → is_some (option_map f o) ≡ is_some o
mapped f None = refl
mapped f (Some x) = refl

pub taken : (c : ClusterView) (a : Argument) (word : List ℕ) (g : Given) → is_some (with_argument c a word g) ≡ takes a word
taken c argument.Node word g = refl
taken c argument.App word g = refl
taken c argument.Restart word g = mapped (with_restart g) (restart_named word)
taken c argument.Truth word g = mapped (with_truth g) (first_of (truth_word true) (truth_word false) word)
taken c argument.Ending word g = mapped (with_ending g) (first_of (reason_word true) (reason_word false) word)
taken c argument.Milliseconds word g = mapped (with_ms g) (milliseconds word)

-- the first of two or three that passes
of_two : {A : Type 0} (p q : A) (t u : Bool) → is_some (cond t (Some p) (cond u (Some q) None)) ≡ (t || (u || false))
of_two p q true u = refl
of_two p q false true = refl
of_two p q false false = refl

of_three : {A : Type 0} (p q r : A) (t u v : Bool) → is_some (cond t (Some p) (cond u (Some q) (cond v (Some r) None))) ≡ (t || (u || (v || false)))
of_three p q r true u v = refl
of_three p q r false true v = refl
of_three p q r false false true = refl
of_three p q r false false false = refl

pub chosen : (a : Argument) (word : List ℕ) → choices a ≢ [] → takes a word ≡ list_any (bytes_eq word) (choices a)
chosen argument.Node word some = absurd (some refl)
chosen argument.App word some = absurd (some refl)
chosen argument.Restart word some =
    of_three Permanent Transient Temporary (bytes_eq word (restart_words Permanent)) (bytes_eq word (restart_words Transient))
    (bytes_eq word (restart_words Temporary))
chosen argument.Truth word some = of_two true false (bytes_eq word (truth_word true)) (bytes_eq word (truth_word false))
chosen argument.Ending word some = of_two true false (bytes_eq word (reason_word true)) (bytes_eq word (reason_word false))
chosen argument.Milliseconds word some = absurd (some refl)
