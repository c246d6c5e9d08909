-- Something is told of the words behind a command exactly where they make no command.
use Rattle.std.proofs.Common.{◌≡◌, ◌<◌, ◌-◌, ◌==◌, ◌&&◌, ℕ, Bool, true, false, not, cond, List, [], ◌∷◌, ◌++◌, length}
use Rattle.std.proofs.Common.{Option, Some, None, IfSome, refl, sym, ap, ◌∙◌, arith, codes}
use Rattle.std.specs.Prelude.{option_map, option_and_then, is_some, slice_get}
use Rattle.std.specs.List.{list_all}
use Rattle.std.specs.Fmt.{decimal}
use Rattle.std.proofs.lemmas.Bool.Decides.{nat_tests}
use Rattle.rh_model.specs.ClusterView.{ClusterView}
use Rattle.rh_calls.specs.declared.call.Call.{Call}
use Rattle.rh_script.specs.declared.forms.Argument.{Argument}
use Rattle.rh_script.specs.declared.forms.Argument.TheVariants as argument
use Rattle.rh_script.specs.declared.forms.Verb.{Verb}
use Rattle.rh_script.specs.declared.forms.Verb.TheVariants as verb
use Rattle.rh_script.specs.declared.forms.Given.{Given}
use Rattle.rh_script.specs.Forms.{arguments_of, verb_named, nothing, two, three, call_of}
use Rattle.rh_script.specs.Forms.{with_node, with_app, with_restart, with_truth, with_ending, with_ms}
use Rattle.rh_script.specs.Commands.{named, named_app, milliseconds, restart_named, first_of, with_argument, given_in, row_asks, asking, command_of}
use Rattle.rh_script.specs.CommandWords.{truth_word, reason_word}
use Rattle.rh_script.proofs.Verbs.{is_given, has, put}
use Rattle.rh_line_lint.specs.Arguments.{takes}
use Rattle.rh_line_lint.specs.Laws.{is_bad, is_told}
use Rattle.rh_line_lint.specs.Lines.{first_mistaken, mistaken_words, surplus_words, missing_words, count_words, blame_by, blame}
use Rattle.rh_line_lint.proofs.Taken.{taken}

-- ---- words that fit: one for each argument, which takes it

abbrev fits : List Argument → List (List ℕ) → Bool
fits [] [] = true
fits [] (word ∷ words) = false
fits (a ∷ arguments) [] = false
fits (a ∷ arguments) (word ∷ words) = takes a word && fits arguments words

-- they are those that are read
read_one : {A B : Type 0} (next : A → Option B) (o : Option A) (t u : Bool) → is_some o ≡ t → ((x : A) → is_some (next x) ≡ u)
    → is_some (option_and_then next o) ≡ (t && u)
read_one next None t u is each = ap (λ b. b && u) is
read_one next (Some x) t u is each = each x ∙ ap (λ b. b && u) is

read : (c : ClusterView) (arguments : List Argument) (words : List (List ℕ)) (g : Given) → is_some (given_in c arguments words g) ≡ fits arguments words
read c [] [] g = refl
read c [] (word ∷ words) g = refl
read c (a ∷ arguments) [] g = refl
read c (a ∷ arguments) (word ∷ words) g =
    read_one (given_in c arguments words) (with_argument c a word g) (takes a word) (fits arguments words) (taken c a word g) (λ h. read c arguments words h)

-- and of all others something is told
told_missing : (n : ℕ) → 0 < n → is_told (missing_words n) ≡ true
unfolding missing_words
told_missing n some = by (n == 0) (n == 1) (grind (arith, nat_tests, some))
  where
    by : (t u : Bool) → t ≡ false
        → is_told (cond t [] (cond u (codes "; a word is missing") (codes "; " ++ (decimal n ++ codes " words are missing")))) ≡ true
    by true u none = cc
    by false true none = refl
    by false false none = refl

-- one more argument and one more word change nothing of how many are missing or too many
moved : (a : Argument) (word : List ℕ) (arguments : List Argument) (words : List (List ℕ)) (o : Option (Argument × List ℕ))
    → is_told (blame_by o (a ∷ arguments) (word ∷ words)) ≡ is_told (blame_by o arguments words)
moved a word arguments words None =
    let less : length (a ∷ arguments) - length (word ∷ words) ≡ length arguments - length words = omega arith in
    ap (λ n. is_told (count_words n (slice_get words (length arguments)))) less
moved a word arguments words (Some mistaken) = refl

told_first : (a : Argument) (word : List ℕ) (arguments : List Argument) (words : List (List ℕ)) (t : Bool)
    → is_told (blame_by (first_mistaken arguments words) arguments words) ≡ not (fits arguments words)
    → is_told (blame_by (cond (not t) (Some (a, word)) (first_mistaken arguments words)) (a ∷ arguments) (word ∷ words)) ≡ not (t && fits arguments words)
unfolding mistaken_words
told_first a word arguments words true later = moved a word arguments words (first_mistaken arguments words) ∙ later
told_first a word arguments words false later = refl

told : (arguments : List Argument) (words : List (List ℕ)) → is_told (blame_by (first_mistaken arguments words) arguments words) ≡ not (fits arguments words)
unfolding surplus_words missing_words
told [] [] = refl
told [] (word ∷ words) = refl
told (a ∷ arguments) [] = told_missing (length (a ∷ arguments) - 0) (omega arith)
told (a ∷ arguments) (word ∷ words) = told_first a word arguments words (takes a word) (told arguments words)

-- ---- words that are read make a call

-- what is put to what is given, and what was given before
put_has : (a : Argument) (k g : Given) → has k a ≡ true → has (put k a g) a ≡ true
put_has argument.Node k g is = is
put_has _ k g is = is

put_keeps : (a b : Argument) (k g : Given) → has k a ≡ true → has g b ≡ true → has (put k a g) b ≡ true
put_keeps argument.Node argument.Node k g is was = is
put_keeps argument.Node _ k g is was = was
put_keeps argument.App argument.App k g is was = is
put_keeps argument.App _ k g is was = was
put_keeps argument.Restart argument.Restart k g is was = is
put_keeps argument.Restart _ k g is was = was
put_keeps argument.Truth argument.Truth k g is was = is
put_keeps argument.Truth _ k g is was = was
put_keeps argument.Ending argument.Ending k g is was = is
put_keeps argument.Ending _ k g is was = was
put_keeps argument.Milliseconds argument.Milliseconds k g is was = is
put_keeps argument.Milliseconds _ k g is was = was

-- one more is given, of this kind
record Adds (a : Argument) (g h : Given) : Type 0 where
  given : has h a ≡ true
  kept : (b : Argument) → has g b ≡ true → has h b ≡ true

of_put : (a : Argument) (k g : Given) → has k a ≡ true → Adds a g (put k a g)
of_put a k g is = record { given = put_has a k g is; kept = λ b was. put_keeps a b k g is was }

each_adds : {A : Type 0} (a : Argument) (g : Given) (set : A → Given) (o : Option A) → ((x : A) → Adds a g (set x))
    → IfSome (option_map set o) (Adds a g)
each_adds a g set None adds = tt
each_adds a g set (Some x) adds = adds x

adds : (c : ClusterView) (a : Argument) (word : List ℕ) (g : Given) → IfSome (with_argument c a word g) (Adds a g)
adds c argument.Node word g = of_put argument.Node (with_node nothing (named c word)) g refl
adds c argument.App word g = of_put argument.App (with_app nothing (named_app c word)) g refl
adds c argument.Restart word g =
    each_adds argument.Restart g (with_restart g) (restart_named word) (λ r. of_put argument.Restart (with_restart nothing r) g refl)
adds c argument.Truth word g =
    each_adds argument.Truth g (with_truth g) (first_of (truth_word true) (truth_word false) word)
    (λ t. of_put argument.Truth (with_truth nothing t) g refl)
adds c argument.Ending word g =
    each_adds argument.Ending g (with_ending g) (first_of (reason_word true) (reason_word false) word)
    (λ t. of_put argument.Ending (with_ending nothing t) g refl)
adds c argument.Milliseconds word g =
    each_adds argument.Milliseconds g (with_ms g) (milliseconds word) (λ n. of_put argument.Milliseconds (with_ms nothing n) g refl)

-- all of these are given
record AddsAll (arguments : List Argument) (g h : Given) : Type 0 where
  whole : list_all (has h) arguments ≡ true
  kept : (b : Argument) → has g b ≡ true → has h b ≡ true

more : {P Q : Given → Type 0} (o : Option Given) → ((h : Given) → P h → Q h) → IfSome o P → IfSome o Q
more None next is = tt
more (Some h) next is = next h is

all_given : (c : ClusterView) (arguments : List Argument) (words : List (List ℕ)) (g : Given) → IfSome (given_in c arguments words g) (AddsAll arguments g)
all_given c [] [] g = record { whole = refl; kept = λ b was. was }
all_given c [] (word ∷ words) g = tt
all_given c (a ∷ arguments) [] g = tt
all_given c (a ∷ arguments) (word ∷ words) g = by (with_argument c a word g) (adds c a word g) (all_given c arguments words)
  where
    both : {t u : Bool} → t ≡ true → u ≡ true → (t && u) ≡ true
    both t u = λ i. t i && u i

    by : (o : Option Given) → IfSome o (Adds a g) → ((h : Given) → IfSome (given_in c arguments words h) (AddsAll arguments h))
        → IfSome (option_and_then (given_in c arguments words) o) (AddsAll (a ∷ arguments) g)
    by None one others = tt
    by (Some h) one others = more (given_in c arguments words h)
        (λ k all. record { whole = both (all.kept a one.given) all.whole; kept = λ b was. all.kept b (one.kept b was) }) (others h)

-- a command asks a call where all is given that its row wants
some_given : {A : Type 0} (o : Option A) → is_some o ≡ is_given o
some_given None = refl
some_given (Some x) = refl

one_given : {A B : Type 0} (f : A → B) (o : Option A) → is_given (option_map f o) ≡ is_given o
one_given f None = refl
one_given f (Some x) = refl

two_given : {A B C : Type 0} (f : A → B → C) (o : Option A) (p : Option B) → is_given (two f o p) ≡ (is_given o && is_given p)
two_given f None p = refl
two_given f (Some x) p = one_given (f x) p

three_given : {A B C D : Type 0} (f : A → B → C → D) (o : Option A) (p : Option B) (q : Option C)
    → is_given (three f o p q) ≡ (is_given o && (is_given p && is_given q))
three_given f None p q = refl
three_given f (Some x) p q = two_given (f x) p q

and_true : (b : Bool) → (b && true) ≡ b
and_true true = refl
and_true false = refl

wanted : (v : Verb) (g : Given) → is_given (call_of v g) ≡ list_all (has g) (arguments_of v)
wanted verb.Undo g = refl
wanted verb.Redo g = refl
wanted verb.UndoAll g = refl
wanted verb.RedoAll g = refl
wanted verb.Show g = refl
wanted _ g = simp (one_given, two_given, three_given, and_true)

made : (c : ClusterView) (v : Verb) (words : List (List ℕ)) → is_some (row_asks c (Some v) words) ≡ is_some (given_in c (arguments_of v) words nothing)
made c v words = by (given_in c (arguments_of v) words nothing) (all_given c (arguments_of v) words nothing)
  where
    by : (o : Option Given) → IfSome o (AddsAll (arguments_of v) nothing) → is_some (option_and_then (call_of v) o) ≡ is_some o
    by None all = refl
    by (Some g) all = some_given (call_of v g) ∙ wanted v g ∙ all.whole

bad_unasked : (o : Option Call) → is_bad (asking o) ≡ not (is_some o)
bad_unasked None = refl
bad_unasked (Some asked) = refl

row_blamed : (c : ClusterView) (v : Verb) (words : List (List ℕ)) → is_told (blame (arguments_of v) words) ≡ is_bad (asking (row_asks c (Some v) words))
unfolding blame
row_blamed c v words =
    told (arguments_of v) words
    ∙ ap not (sym (made c v words ∙ read c (arguments_of v) words nothing))
    ∙ sym (bad_unasked (row_asks c (Some v) words))

pub blamed : (c : ClusterView) (v : Verb) (word : List ℕ) (words : List (List ℕ)) → verb_named word ≡ Some v
    → is_told (blame (arguments_of v) words) ≡ is_bad (command_of c (word ∷ words))
blamed c v word words is = row_blamed c v words ∙ ap (λ (o : Option Verb). is_bad (asking (row_asks c o words))) (sym is)
