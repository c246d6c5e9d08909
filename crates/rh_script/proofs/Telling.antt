-- The words of a call, as a line and behind the number of a session.
use Rattle.std.proofs.Common.{◌≡◌, ◌<◌, ◌≤◌, ◌+◌, ◌-◌, ◌^◌, ◌==◌, ◌&&◌, inl, inr, ℕ, Bool, true, false, cond, codes, List, [], ◌∷◌, ◌++◌, get_or, nat_le, map}
use Rattle.std.proofs.Common.{Option, Some, None, IfSome, refl, sym, ap, ◌∙◌, subst, arith, append_assoc, append-nil}
use Rattle.std.specs.Prelude.{unwrap_or, option_map, option_and_then}
use Rattle.std.specs.List.{list_all, flat_map}
use Rattle.std.specs.Fmt.{decimal}
use Rattle.std.specs.Str.{is_utf8}
use Rattle.std.proofs.lemmas.Bool.Decides.{nat_tests}
use Rattle.std.proofs.lemmas.Fmt.{decimal_digit}
use Rattle.std.proofs.lemmas.Option.{slice_get-get_or, slice_get_past}
use Rattle.rh_model.specs.ClusterView.{ClusterView, IsWithin, numbered, app_numbered}
use Rattle.rh_model.specs.Limits.{node_limit, app_limit}
use Rattle.rh_model.specs.declared.limits.TheConstants.{MAX_NODES, MAX_APPS, FIRST_PROFILE_NODES, FIRST_PROFILE_APPS}
use Rattle.rh_model.specs.declared.node.Node.{Node}
use Rattle.rh_model.specs.declared.node.App.{App}
use Rattle.rh_model.specs.declared.settings.Restart.{Restart}
use Rattle.rh_model.specs.declared.settings.Restart.TheVariants.{Permanent, Transient, Temporary}
use Rattle.rh_calls.specs.declared.call.Call.{Call}
use Rattle.rh_calls.specs.Report.{no_name, node_word, app_word, restart_words}
use Rattle.rh_script.specs.declared.script.TheConstants.{NO_NODE, NO_APP}
use Rattle.rh_script.specs.declared.script.Line.TheVariants.{Nothing, Asks, Bad}
use Rattle.rh_script.specs.declared.forms.Argument.{Argument}
use Rattle.rh_script.specs.declared.forms.Argument.TheVariants as argument
use Rattle.rh_script.specs.declared.forms.Given.{Given}
use Rattle.rh_script.specs.declared.session_lines.SessionLine.TheVariants as line
use Rattle.rh_calls.specs.declared.call.TheConstants.{LAST_SESSION}
use Rattle.rh_script.specs.Forms.{word_of, arguments_of, nothing, call_of, said}
use Rattle.rh_script.specs.Commands.{words_of, named, named_app, begins_with, milliseconds, restart_named, first_of, with_argument, given_in, row_asks, asking, command_of, line_of}
use Rattle.rh_script.specs.CommandWords.{truth_word, reason_word, spaced, argument_words, command_words}
use Rattle.rh_script.specs.SessionLines.{command, session_named, asked_by, session_command, session_line_of}
use Rattle.rh_script.specs.Laws.{IsWord, HasWords, IsNodeTold, IsAppTold, IsGivenTold, IsTold}
use Rattle.rh_script.proofs.Words.{first_word, last_word, joined_text, ascii_text, closed_word, decimal_word, milliseconds_told, place_of_name}
use Rattle.rh_script.proofs.Verbs.{verb_is, is_given, has, put, put_all, says}

-- ---- nodes and applications

-- a word that stands for this node
record NodeWord (c : ClusterView) (n : Node) : Type 0 where
  word : IsWord (node_word c n)
  names : named c (node_word c n) ≡ n

record AppWord (c : ClusterView) (a : App) : Type 0 where
  word : IsWord (app_word c a)
  names : named_app c (app_word c a) ≡ a

no_name_word : IsWord no_name
no_name_word = closed_word no_name refl refl refl

abbrev node_shown : Option (List ℕ) → List ℕ
node_shown o = unwrap_or o no_name

abbrev node_chosen : Option ℕ → Node
node_chosen o = unwrap_or (option_map numbered o) NO_NODE

abbrev app_chosen : Option ℕ → App
app_chosen o = unwrap_or (option_map app_numbered o) NO_APP

-- a number that no node has, or no application, is past those of each profile
few_of_any_profile : (p : ℕ) → node_limit p ≤ MAX_NODES
few_of_any_profile p = by (p == 2)
  where
    by : (b : Bool) → cond b MAX_NODES FIRST_PROFILE_NODES ≤ MAX_NODES
    by true = omega arith
    by false = omega arith

few_apps_of_any_profile : (p : ℕ) → app_limit p ≤ MAX_APPS
few_apps_of_any_profile p = by (p == 2)
  where
    by : (b : Bool) → cond b MAX_APPS FIRST_PROFILE_APPS ≤ MAX_APPS
    by true = omega arith
    by false = omega arith

module _ (c : ClusterView) (within : IsWithin c) (words : HasWords c) where
  node_by_word : (n : Node) → IsNodeTold c n → NodeWord c n
  node_by_word n (inl inside) =
      let shown : node_word c n ≡ get_or c.node_names n.0 [] = ap node_shown (slice_get-get_or c.node_names n.0 [] inside) in
      record {
        word = subst IsWord (sym shown) (words.nodes n.0 [] inside);
        names = ap (named c) shown ∙ ap node_chosen (place_of_name c.node_names n.0 [] within.node_names inside);
      }
  node_by_word n (inr other) =
      let shown : node_word c n ≡ no_name =
      ap (node_word c) other.0 ∙ ap node_shown (slice_get_past c.node_names 255 (omega (arith, within.few_nodes, few_of_any_profile c.profile))) in
      record {
        word = subst IsWord (sym shown) no_name_word;
        names = ap (named c) shown ∙ ap (λ o. unwrap_or o NO_NODE) other.1 ∙ sym other.0;
      }

  app_by_word : (a : App) → IsAppTold c a → AppWord c a
  app_by_word a (inl inside) =
      let shown : app_word c a ≡ get_or c.app_names a.0 [] = ap node_shown (slice_get-get_or c.app_names a.0 [] inside) in
      record {
        word = subst IsWord (sym shown) (words.apps a.0 [] inside);
        names = ap (named_app c) shown ∙ ap app_chosen (place_of_name c.app_names a.0 [] within.app_names inside);
      }
  app_by_word a (inr other) =
      let shown : app_word c a ≡ no_name =
      ap (app_word c) other.0 ∙ ap node_shown (slice_get_past c.app_names 255 (omega (arith, within.few_apps, few_apps_of_any_profile c.profile))) in
      record {
        word = subst IsWord (sym shown) no_name_word;
        names = ap (named_app c) shown ∙ ap (λ o. unwrap_or o NO_APP) other.1 ∙ sym other.0;
      }

-- ---- lines

-- the bytes are a command of this call, and no comment
pub record Commands (c : ClusterView) (bytes : List ℕ) (asked : Call) : Type 0 where
  pub plain : begins_with 35 bytes ≡ false
  pub text : is_utf8 bytes ≡ true
  pub asks : command_of c (words_of bytes) ≡ Asks asked

both : (t u : Bool) → (t && u) ≡ true → (t ≡ true) × (u ≡ true)
both true u h = (refl, h)
both false u h = absurd (cc h)

-- ---- arguments

-- what is shown of what is given, without the space before it
abbrev from : {A : Type 0} → (A → List ℕ) → Option A → List ℕ
from show None = []
from show (Some it) = show it

abbrev shown : ClusterView → Given → Argument → List ℕ
shown c g argument.Node = from (node_word c) g.node
shown c g argument.App = from (app_word c) g.app
shown c g argument.Restart = from restart_words g.restart
shown c g argument.Truth = from truth_word g.truth
shown c g argument.Ending = from reason_word g.ending
shown c g argument.Milliseconds = from decimal g.ms

-- a space and a word are shown of it, which is read as what was given
record Argues (c : ClusterView) (g : Given) (a : Argument) : Type 0 where
  words : argument_words c g a ≡ 32 ∷ shown c g a
  word : IsWord (shown c g a)
  reads : (h : Given) → with_argument c a (shown c g a) h ≡ Some (put g a h)

restart_word : (restart : Restart) → IsWord (restart_words restart)
restart_word Permanent = closed_word (restart_words Permanent) refl refl refl
restart_word Transient = closed_word (restart_words Transient) refl refl refl
restart_word Temporary = closed_word (restart_words Temporary) refl refl refl

restart_again : (restart : Restart) → restart_named (restart_words restart) ≡ Some restart
restart_again Permanent = refl
restart_again Transient = refl
restart_again Temporary = refl

allow_word : (allow : Bool) → IsWord (truth_word allow)
allow_word true = closed_word (codes "true") refl refl refl
allow_word false = closed_word (codes "false") refl refl refl

allow_again : (allow : Bool) → first_of (truth_word true) (truth_word false) (truth_word allow) ≡ Some allow
allow_again true = refl
allow_again false = refl

normal_word : (normal : Bool) → IsWord (reason_word normal)
normal_word true = closed_word (codes "normal") refl refl refl
normal_word false = closed_word (codes "abnormal") refl refl refl

normal_again : (normal : Bool) → first_of (reason_word true) (reason_word false) (reason_word normal) ≡ Some normal
normal_again true = refl
normal_again false = refl

-- where something is given, it is shown, and is a word; and a reading of that word is one of what was given
module _ {A : Type 0} (show : A → List ℕ) (P : A → Type 0) (is_word : (x : A) → P x → IsWord (show x)) where
  spaced_word : (o : Option A) → is_given o ≡ true → IfSome o P → (spaced show o ≡ 32 ∷ from show o) × IsWord (from show o)
  spaced_word None given told = absurd (cc given)
  spaced_word (Some x) given told = (refl, is_word x told)

  read_again : (read : List ℕ → Option A) → ((x : A) → P x → read (show x) ≡ Some x) → (o : Option A) → is_given o ≡ true → IfSome o P → read (from show o) ≡ o
  read_again read again None given told = absurd (cc given)
  read_again read again (Some x) given told = again x told

any : {A : Type 0} (o : Option A) → IfSome o (λ _. Unit {0})
any None = tt
any (Some x) = tt

-- a reading in two steps
kept : {A : Type 0} (set : Option A → Given) (o p : Option A) → is_given p ≡ true → o ≡ p → option_map (λ x. set (Some x)) o ≡ Some (set p)
kept set o None given same = absurd (cc given)
kept set o (Some x) given same = ap (option_map (λ x. set (Some x))) same

module _ (c : ClusterView) (within : IsWithin c) (words : HasWords c) (g : Given) (told : IsGivenTold c g) where
  argues : (a : Argument) → has g a ≡ true → Argues c g a
  argues argument.Node given =
      let is = spaced_word (node_word c) (IsNodeTold c) (λ n t. (node_by_word c within words n t).word) g.node given told.0 in
      let again = read_again (node_word c) (IsNodeTold c) (λ n t. (node_by_word c within words n t).word) (λ w. Some (named c w))
      (λ n t. ap (λ (m : Node). Some m) (node_by_word c within words n t).names) g.node given told.0 in
      record { words = is.0; word = is.1; reads = λ h. ap (λ (o : Option Node). Some (record h { node = o })) again }
  argues argument.App given =
      let is = spaced_word (app_word c) (IsAppTold c) (λ a t. (app_by_word c within words a t).word) g.app given told.1 in
      let again = read_again (app_word c) (IsAppTold c) (λ a t. (app_by_word c within words a t).word) (λ w. Some (named_app c w))
      (λ a t. ap (λ (b : App). Some b) (app_by_word c within words a t).names) g.app given told.1 in
      record { words = is.0; word = is.1; reads = λ h. ap (λ (o : Option App). Some (record h { app = o })) again }
  argues argument.Restart given =
      let is = spaced_word restart_words (λ _. Unit {0}) (λ r _. restart_word r) g.restart given (any g.restart) in
      let again = read_again restart_words (λ _. Unit {0}) (λ r _. restart_word r) restart_named (λ r _. restart_again r) g.restart given (any g.restart) in
      record { words = is.0; word = is.1; reads = λ h. kept (λ o. record h { restart = o }) (restart_named (shown c g argument.Restart)) g.restart given again }
  argues argument.Truth given =
      let is = spaced_word truth_word (λ _. Unit {0}) (λ t _. allow_word t) g.truth given (any g.truth) in
      let again = read_again truth_word (λ _. Unit {0}) (λ t _. allow_word t) (first_of (truth_word true) (truth_word false)) (λ t _. allow_again t) g.truth given (any g.truth) in
      record { words = is.0; word = is.1; reads = λ h. kept (λ o. record h { truth = o }) (first_of (truth_word true) (truth_word false) (shown c g argument.Truth)) g.truth given again }
  argues argument.Ending given =
      let is = spaced_word reason_word (λ _. Unit {0}) (λ t _. normal_word t) g.ending given (any g.ending) in
      let again = read_again reason_word (λ _. Unit {0}) (λ t _. normal_word t) (first_of (reason_word true) (reason_word false)) (λ t _. normal_again t) g.ending given (any g.ending) in
      record { words = is.0; word = is.1; reads = λ h. kept (λ o. record h { ending = o }) (first_of (reason_word true) (reason_word false) (shown c g argument.Ending)) g.ending given again }
  argues argument.Milliseconds given =
      let is = spaced_word decimal (λ ms. ms < 2 ^ 64) decimal_word g.ms given told.2 in
      let again = read_again decimal (λ ms. ms < 2 ^ 64) decimal_word milliseconds milliseconds_told g.ms given told.2 in
      record { words = is.0; word = is.1; reads = λ h. kept (λ o. record h { ms = o }) (milliseconds (shown c g argument.Milliseconds)) g.ms given again }

  -- ---- all arguments of a row

  -- a word and what is shown behind it are that word and these, a text, and are read as what was given
  record Follows (arguments : List Argument) : Type 0 where
    parts : (v : List ℕ) → IsWord v → words_of (v ++ flat_map (argument_words c g) arguments) ≡ v ∷ map (shown c g) arguments
    text : (v : List ℕ) → IsWord v → is_utf8 (v ++ flat_map (argument_words c g) arguments) ≡ true
    reads : (h : Given) → given_in c arguments (map (shown c g) arguments) h ≡ Some (put_all g arguments h)

  follows : (arguments : List Argument) → list_all (has g) arguments ≡ true → Follows arguments
  follows [] whole = record {
    parts = λ v is. ap words_of (append-nil v) ∙ last_word v is;
    text = λ v is. ap is_utf8 (append-nil v) ∙ is.text;
    reads = λ h. refl;
  }
  follows (a ∷ arguments) whole =
      let given = both (has g a) (list_all (has g) arguments) whole in
      let here = argues a given.0 in
      let others = follows arguments given.1 in
      let rest = flat_map (argument_words c g) arguments in
      record {
        parts = λ v is. ap (λ ws. words_of (v ++ (ws ++ rest))) here.words ∙ first_word v (shown c g a ++ rest) is
            ∙ ap (λ (ws : List (List ℕ)). v ∷ ws) (others.parts (shown c g a) here.word);
        text = λ v is. ap (λ ws. is_utf8 (v ++ (ws ++ rest))) here.words
            ∙ joined_text v (32 ∷ (shown c g a ++ rest)) is.text
            (joined_text (codes " ") (shown c g a ++ rest) (ascii_text (codes " ") refl) (others.text (shown c g a) here.word));
        reads = λ h. ap (option_and_then (given_in c arguments (map (shown c g) arguments))) (here.reads h) ∙ others.reads (put g a h);
      }

-- ---- calls

pub call_asks : (c : ClusterView) → IsWithin c → HasWords c → (asked : Call) → IsTold c asked → Commands c (command_words c asked) asked
unfolding command_words
call_asks c within words asked told =
    let v = (said asked).0 in
    let g = (said asked).1 in
    let row = verb_is v in
    let it = says asked in
    let behind = follows c within words g told (arguments_of v) it.whole in
    record {
      plain = row.plain (flat_map (argument_words c g) (arguments_of v));
      text = behind.text (word_of v) row.word;
      asks = ap (command_of c) (behind.parts (word_of v) row.word)
          ∙ ap (λ o. asking (row_asks c o (map (shown c g) (arguments_of v)))) row.found
          ∙ ap (λ o. asking (option_and_then (call_of v) o)) (behind.reads nothing)
          ∙ ap (λ h. asking (call_of v h)) it.again
          ∙ ap asking it.means;
    }

-- ---- whole lines

pub line_asks : (c : ClusterView) (bytes : List ℕ) (asked : Call) → Commands c bytes asked → line_of c bytes ≡ Asks asked
unfolding line_of
line_asks c bytes asked is =
    (λ i. cond (is.plain i) Nothing (cond (is_utf8 bytes) (command_of c (words_of bytes)) Bad))
    ∙ ap (λ t. cond t (command_of c (words_of bytes)) Bad) is.text ∙ is.asks

session_read : (session : ℕ) → 1 ≤ session → session ≤ LAST_SESSION → session_named (decimal session) ≡ Some session
session_read session some last =
    let first : nat_le 49 (48 + session) ≡ true = grind (arith, nat_tests, some) in
    let fits : nat_le (48 + session) (48 + LAST_SESSION) ≡ true = grind (arith, nat_tests, last) in
    let back : (48 + session) - 48 ≡ session = omega arith in
    ap session_named (decimal_digit session (omega (arith, last)))
    ∙ (λ i. cond (first i && fits i) (Some ((48 + session) - 48)) None) ∙ ap (λ (n : ℕ). Some n) back

-- behind the number of a session
pub entry_asks : (c : ClusterView) (session : ℕ) (bytes : List ℕ) (asked : Call) → 1 ≤ session → session ≤ LAST_SESSION → Commands c bytes asked
    → session_line_of c (decimal session ++ codes " " ++ bytes) ≡ line.Asks (command session asked)
unfolding session_line_of
entry_asks c session bytes asked some last is =
    let whole = decimal session ++ codes " " ++ bytes in
    let word = decimal_word session (omega (arith, last)) in
    let digit : decimal session ≡ (48 + session) ∷ [] = decimal_digit session (omega (arith, last)) in
    let other : ((48 + session) == 35) ≡ false = grind (arith, nat_tests) in
    let plain : begins_with 35 whole ≡ false = ap (λ (d : List ℕ). begins_with 35 (d ++ codes " " ++ bytes)) digit ∙ other in
    let text : is_utf8 whole ≡ true =
    joined_text (decimal session ++ codes " ") bytes (joined_text (decimal session) (codes " ") word.text (ascii_text (codes " ") refl)) is.text in
    let parts : words_of whole ≡ decimal session ∷ words_of bytes =
    ap words_of (append_assoc (decimal session) (codes " ") bytes) ∙ first_word (decimal session) bytes word in
    (λ i. cond (plain i) line.Nothing (cond (text i) (session_command c (parts i)) line.Bad))
    ∙ (λ i. asked_by (session_read session some last i) (is.asks i))
