-- What a line asks can be told by words, where nothing is named as a missing name is shown.
use Rattle.std.proofs.Common.{◌≡◌, ◌<◌, ◌≤◌, ◌+◌, ◌-◌, ◌^◌, ◌&&◌, inl, inr, ℕ, Bool, true, false, cond, codes, List, [], ◌∷◌, nat_lt, nat_le}
use Rattle.std.proofs.Common.{Option, Some, None, IfSome, refl, subst, arith}
use Rattle.std.specs.Prelude.{position, unwrap_or, option_map, option_and_then}
use Rattle.std.specs.Str.{is_utf8, bytes_eq}
use Rattle.std.specs.Str.Parse.{digits_value}
use Rattle.std.proofs.lemmas.Bool.Decides.{nat_tests}
use Rattle.std.proofs.lemmas.List.Quantifiers.{position-Some}
use Rattle.rh_model.specs.ClusterView.{ClusterView, node_of, app_of, numbered, app_numbered}
use Rattle.rh_rules.specs.declared.event.Event.{Event}
use Rattle.rh_calls.specs.declared.call.Call.{Call}
use Rattle.rh_calls.specs.declared.call.Call.TheVariants as call
use Rattle.rh_calls.specs.Report.{no_name}
use Rattle.rh_script.specs.declared.script.TheConstants.{NO_NODE, NO_APP}
use Rattle.rh_script.specs.declared.script.Line.{Line}
use Rattle.rh_script.specs.declared.script.Line.TheVariants.{Nothing, Asks, Bad}
use Rattle.rh_script.specs.declared.session_lines.Command.{Command}
use Rattle.rh_script.specs.declared.session_lines.SessionLine.{SessionLine}
use Rattle.rh_script.specs.declared.session_lines.SessionLine.TheVariants as line
use Rattle.rh_calls.specs.declared.call.TheConstants.{LAST_SESSION}
use Rattle.rh_script.specs.declared.forms.Argument.{Argument}
use Rattle.rh_script.specs.declared.forms.Argument.TheVariants as argument
use Rattle.rh_script.specs.declared.forms.Verb.{Verb}
use Rattle.rh_script.specs.declared.forms.Verb.TheVariants as verb
use Rattle.rh_script.specs.declared.forms.Given.{Given}
use Rattle.rh_script.specs.Forms.{arguments_of, verb_named, nothing, two, three, call_of}
use Rattle.rh_script.specs.Commands.{words_of, named, named_app, begins_with, is_numeral, milliseconds, restart_named, first_of, with_argument, given_in, row_asks, call_asked, asking, command_of, line_of}
use Rattle.rh_script.specs.CommandWords.{truth_word, reason_word}
use Rattle.rh_script.specs.SessionLines.{session_named, asked_by, session_command, session_line_of}
use Rattle.rh_script.specs.Laws.{IsNodeTold, IsAppTold, IsGivenTold, IsTold, IsCommandTold}

-- of a line: the call that it asks, if it asks one
abbrev AsksTold : ClusterView → Line → Type 0
AsksTold c Nothing = Unit {0}
AsksTold c (Asks asked) = IsTold c asked
AsksTold c Bad = Unit {0}

either : {A : Type 0} (P : A → Type 0) (b : Bool) (x y : A) → P x → P y → P (cond b x y)
either P true x y p q = p
either P false x y p q = q

-- a number that was read is within 64 bits
small : (word : List ℕ) (ms : ℕ) → milliseconds word ≡ Some ms → ms < 2 ^ 64
unfolding milliseconds
small word ms read = by (is_numeral word) (nat_lt (digits_value 10 word) (2 ^ 64)) refl read
  where
    by : (t u : Bool) → nat_lt (digits_value 10 word) (2 ^ 64) ≡ u → cond (t && u) (Some (digits_value 10 word)) None ≡ Some ms → ms < 2 ^ 64
    by true true fits same = let is : digits_value 10 word ≡ ms = cc in grind (arith, nat_tests, fits, is)
    by true false fits same = cc
    by false u fits same = cc

module _ (c : ClusterView) (node_free : node_of c no_name ≡ None) (app_free : app_of c no_name ≡ None) where
  node_told : (name : List ℕ) → IsNodeTold c (named c name)
  node_told name = by (position (bytes_eq name) c.node_names) refl
    where
      by : (o : Option ℕ) → position (bytes_eq name) c.node_names ≡ o → IsNodeTold c (unwrap_or (option_map numbered o) NO_NODE)
      by None at = inr (refl, node_free)
      by (Some i) at = inl (position-Some (bytes_eq name) c.node_names i [] at).0

  app_told : (name : List ℕ) → IsAppTold c (named_app c name)
  app_told name = by (position (bytes_eq name) c.app_names) refl
    where
      by : (o : Option ℕ) → position (bytes_eq name) c.app_names ≡ o → IsAppTold c (unwrap_or (option_map app_numbered o) NO_APP)
      by None at = inr (refl, app_free)
      by (Some i) at = inl (position-Some (bytes_eq name) c.app_names i [] at).0

  -- ---- what is given by words

  set_told : {A : Type 0} (set : A → Given) (o : Option A) → ((x : A) → IsGivenTold c (set x)) → IfSome (option_map set o) (IsGivenTold c)
  set_told set None told = tt
  set_told set (Some x) told = told x

  number_told : (g : Given) → IsGivenTold c g → (word : List ℕ) (o : Option ℕ) → milliseconds word ≡ o
      → IfSome (option_map (λ n. record g { ms = Some n }) o) (IsGivenTold c)
  number_told g told word None read = tt
  number_told g told word (Some ms) read = (told.0, told.1, small word ms read)

  argument_told : (a : Argument) (word : List ℕ) (g : Given) → IsGivenTold c g → IfSome (with_argument c a word g) (IsGivenTold c)
  argument_told argument.Node word g told = (node_told word, told.1, told.2)
  argument_told argument.App word g told = (told.0, app_told word, told.2)
  argument_told argument.Restart word g told = set_told (λ r. record g { restart = Some r }) (restart_named word) (λ _. told)
  argument_told argument.Truth word g told = set_told (λ t. record g { truth = Some t }) (first_of (truth_word true) (truth_word false) word) (λ _. told)
  argument_told argument.Ending word g told = set_told (λ t. record g { ending = Some t }) (first_of (reason_word true) (reason_word false) word) (λ _. told)
  argument_told argument.Milliseconds word g told = number_told g told word (milliseconds word) refl

  then_told : {B : Type 0} (f : Given → Option B) (P : B → Type 0) → ((g : Given) → IsGivenTold c g → IfSome (f g) P)
      → (o : Option Given) → IfSome o (IsGivenTold c) → IfSome (option_and_then f o) P
  then_told f P each None told = tt
  then_told f P each (Some g) told = each g told

  given_told : (arguments : List Argument) (words : List (List ℕ)) (g : Given) → IsGivenTold c g → IfSome (given_in c arguments words g) (IsGivenTold c)
  given_told [] [] g told = told
  given_told [] (word ∷ words) g told = tt
  given_told (a ∷ arguments) [] g told = tt
  given_told (a ∷ arguments) (word ∷ words) g told =
      then_told (given_in c arguments words) (IsGivenTold c) (λ h is. given_told arguments words h is) (with_argument c a word g) (argument_told a word g told)

  -- ---- the call that they ask

  any : {A : Type 0} (o : Option A) → IfSome o (λ _. Unit {0})
  any None = tt
  any (Some x) = tt

  -- an event of one, two or three that are given
  one : {A : Type 0} (event : A → Event) (P : A → Type 0) (o : Option A) → IfSome o P → ((x : A) → P x → IsTold c (call.Step (event x)))
      → IfSome (option_map (λ e. call.Step e) (option_map event o)) (IsTold c)
  one event P None is told = tt
  one event P (Some x) is told = told x is

  both : {A B : Type 0} (event : A → B → Event) (P : A → Type 0) (Q : B → Type 0) (o : Option A) (p : Option B) → IfSome o P → IfSome p Q
      → ((x : A) (y : B) → P x → Q y → IsTold c (call.Step (event x y))) → IfSome (option_map (λ e. call.Step e) (two event o p)) (IsTold c)
  both event P Q None p is are told = tt
  both event P Q (Some x) p is are told = one (event x) Q p are (λ y q. told x y is q)

  all : {A B C : Type 0} (event : A → B → C → Event) (P : A → Type 0) (Q : B → Type 0) (o : Option A) (p : Option B) (q : Option C) → IfSome o P → IfSome p Q
      → ((x : A) (y : B) (z : C) → P x → Q y → IsTold c (call.Step (event x y z))) → IfSome (option_map (λ e. call.Step e) (three event o p q)) (IsTold c)
  all event P Q None p q is are told = tt
  all event P Q (Some x) p q is are told = both (event x) Q (λ _. Unit {0}) p q are (any q) (λ y z r _. told x y z is r)

  -- of two that are given, of which the second is no name
  led : {A B : Type 0} (event : A → B → Event) (P : A → Type 0) (o : Option A) (p : Option B) → IfSome o P
      → ((x : A) (y : B) → P x → IsTold c (call.Step (event x y))) → IfSome (option_map (λ e. call.Step e) (two event o p)) (IsTold c)
  led event P o p is told = both event P (λ _. Unit {0}) o p is (any p) (λ x y q _. told x y q)

  call_told : (v : Verb) (g : Given) → IsGivenTold c g → IfSome (call_of v g) (IsTold c)
  call_told verb.Show g told = (tt, tt, tt)
  call_told _ g told = search (told, one, both, all, led)

  row_told : (o : Option Verb) (words : List (List ℕ)) → IfSome (row_asks c o words) (IsTold c)
  row_told None words = tt
  row_told (Some v) words =
      then_told (call_of v) (IsTold c) (call_told v) (given_in c (arguments_of v) words nothing) (given_told (arguments_of v) words nothing (tt, tt, tt))

  asking_told : (o : Option Call) → IfSome o (IsTold c) → AsksTold c (asking o)
  asking_told None told = tt
  asking_told (Some asked) told = told

  words_told : (words : List (List ℕ)) → AsksTold c (command_of c words)
  words_told [] = tt
  words_told (word ∷ words) = asking_told (call_asked c word words) (row_told (verb_named word) words)

  pub line_told : (bytes : List ℕ) (asked : Call) → line_of c bytes ≡ Asks asked → IsTold c asked
  unfolding line_of
  line_told bytes asked read =
      subst (AsksTold c) read
      (either (AsksTold c) (begins_with 35 bytes) Nothing _ tt (either (AsksTold c) (is_utf8 bytes) _ Bad (words_told (words_of bytes)) tt))

  -- ---- lines of sessions

  -- of a line that names its session: the command that it asks, if it asks one
  abbrev CommandTold : SessionLine → Type 0
  CommandTold line.Nothing = Unit {0}
  CommandTold (line.Asks asked) = IsCommandTold c asked
  CommandTold line.Bad = Unit {0}

  by_session : (session : ℕ) → (1 ≤ session) × (session ≤ LAST_SESSION) → (read : Line) → AsksTold c read → CommandTold (asked_by (Some session) read)
  by_session session named Nothing told = tt
  by_session session named (Asks asked) told = (named.0, named.1, told)
  by_session session named Bad told = tt

  digit_told : (digit : ℕ) (read : Line) → AsksTold c read → CommandTold (asked_by (session_named (digit ∷ [])) read)
  digit_told digit read told = by (nat_le 49 digit) refl (nat_le digit (48 + LAST_SESSION)) refl
    where
      by : (t : Bool) → nat_le 49 digit ≡ t → (u : Bool) → nat_le digit (48 + LAST_SESSION) ≡ u
          → CommandTold (asked_by (cond (t && u) (Some (digit - 48)) None) read)
      by true low true high =
          let some : 1 ≤ digit - 48 = grind (arith, nat_tests, low) in
          let last : digit - 48 ≤ LAST_SESSION = grind (arith, nat_tests, high) in
          by_session (digit - 48) (some, last) read told
      by true low false high = tt
      by false low u high = tt

  session_told : (words : List (List ℕ)) → CommandTold (session_command c words)
  session_told [] = tt
  session_told ([] ∷ words) = tt
  session_told ((digit ∷ []) ∷ words) = digit_told digit (command_of c words) (words_told words)
  session_told ((digit ∷ other ∷ more) ∷ words) = tt

  pub session_line_told : (bytes : List ℕ) (asked : Command) → session_line_of c bytes ≡ line.Asks asked → IsCommandTold c asked
  unfolding session_line_of
  session_line_told bytes asked read =
      subst CommandTold read
      (either CommandTold (begins_with 35 bytes) line.Nothing _ tt (either CommandTold (is_utf8 bytes) _ line.Bad (session_told (words_of bytes)) tt))
