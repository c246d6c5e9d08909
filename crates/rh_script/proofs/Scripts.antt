-- The words of calls as the lines of a script: where each line ends.
use Rattle.std.proofs.Common.{◌≡◌, ◌≢◌, ◌<◌, ◌-◌, ◌^◌, ◌==◌, ◌&&◌, ℕ, Bool, true, false, not, cond, codes, List, [], ◌∷◌, ◌++◌, length, take, map, nat_lt}
use Rattle.std.proofs.Common.{Option, Some, None, IfSome, refl, ap, ◌∙◌, subst, arith, append_assoc}
use Rattle.std.specs.Prelude.{All, slice_get, slice_index, unwrap_or}
use Rattle.std.specs.List.{list_all, flat_map, onto_first}
use Rattle.std.specs.Char.{digit_value}
use Rattle.std.specs.Fmt.{decimal}
use Rattle.std.specs.Str.Parse.{AllDigits}
use Rattle.std.proofs.lemmas.Bool.Decides.{nat_tests}
use Rattle.std.proofs.lemmas.Fmt.{decimal_is_IsNumeral}
use Rattle.std.proofs.lemmas.List.{get_or_at, take_at, length-append}
use Rattle.std.proofs.lemmas.Option.{get_or_from_slice_get, slice_get_within}
use Rattle.std.proofs.lemmas.List.Elements.{All-nil, All-cons, All-head, All-tail, All-append}
use Rattle.rh_model.specs.ClusterView.{ClusterView}
use Rattle.rh_model.specs.declared.node.Node.{Node}
use Rattle.rh_model.specs.declared.node.App.{App}
use Rattle.rh_model.specs.declared.settings.Restart.{Restart}
use Rattle.rh_model.specs.declared.settings.Restart.TheVariants.{Permanent, Transient, Temporary}
use Rattle.rh_calls.specs.declared.call.Call.{Call}
use Rattle.rh_calls.specs.Report.{no_name, node_word, app_word, restart_words}
use Rattle.rh_script.specs.declared.script.Line.TheVariants.{Asks}
use Rattle.rh_script.specs.declared.forms.Argument.{Argument}
use Rattle.rh_script.specs.declared.forms.Argument.TheVariants as argument
use Rattle.rh_script.specs.declared.forms.Given.{Given}
use Rattle.rh_script.specs.declared.session_lines.Command.{Command}
use Rattle.rh_script.specs.declared.session_lines.SessionLine.TheVariants as line
use Rattle.rh_script.specs.Lines.{raw_lines, content, ends_with, without_last}
use Rattle.rh_script.specs.Forms.{word_of, arguments_of, said}
use Rattle.rh_script.specs.Commands.{line_of}
use Rattle.rh_script.specs.CommandWords.{truth_word, reason_word, spaced, argument_words, command_words}
use Rattle.rh_script.specs.SessionLines.{session_line_of}
use Rattle.rh_script.specs.Laws.{IsUnbroken, HasUnbroken, IsGivenTold, IsTold, IsCommandTold, session_words, ScriptsAskAgain, SessionsAskAgain}
use Rattle.rh_script.proofs.Words.{each_passes}
use Rattle.rh_script.proofs.Verbs.{verb_is}
use Rattle.rh_script.proofs.Telling.{call_asks, line_asks, entry_asks}

-- ---- lines

abbrev NoEnd : ℕ → Type 0
NoEnd b = (b ≢ 10) × (b ≢ 13)

-- bytes in which no line ends, and an LF
first_line : (l rest : List ℕ) → IsUnbroken l → raw_lines (l ++ 10 ∷ rest) ≡ (l ++ 10 ∷ []) ∷ raw_lines rest
first_line [] rest h = refl
first_line (b ∷ l) rest h =
    let other : (b == 10) ≡ false = grind (arith, nat_tests, (All-head NoEnd b l h).0) in
    ap (λ t. cond t ((b ∷ []) ∷ raw_lines (l ++ 10 ∷ rest)) (onto_first b (raw_lines (l ++ 10 ∷ rest)))) other
    ∙ ap (onto_first b) (first_line l rest (All-tail NoEnd b l h))

ends_in : (l : List ℕ) (b : ℕ) → ends_with b (l ++ b ∷ []) ≡ true
ends_in l b =
    let longer = length-append l (b ∷ []) in
    let place : length (l ++ b ∷ []) - 1 ≡ length l = omega (arith, longer) in
    let some : nat_lt 0 (length (l ++ b ∷ [])) ≡ true = grind (arith, nat_tests, longer) in
    let last : slice_index (l ++ b ∷ []) (length (l ++ b ∷ []) - 1) ≡ b =
    ap (slice_index (l ++ b ∷ [])) place ∙ get_or_at l b [] 0 (length l) refl in
    let same : (b == b) ≡ true = grind (arith, nat_tests) in
    (λ i. some i && (last i == b)) ∙ same

last_off : (l : List ℕ) (b : ℕ) → without_last b (l ++ b ∷ []) ≡ l
last_off l b =
    let longer = length-append l (b ∷ []) in
    ap (λ t. cond t (take (length (l ++ b ∷ []) - 1) (l ++ b ∷ [])) (l ++ b ∷ [])) (ends_in l b)
    ∙ take_at l (b ∷ []) (length (l ++ b ∷ []) - 1) (omega (arith, longer))

no_return : (l : List ℕ) → IsUnbroken l → without_last 13 l ≡ l
no_return [] h = refl
no_return (b ∷ l) h =
    let bytes = b ∷ l in
    let last : slice_index bytes (length bytes - 1) ≢ 13 = (h (length bytes - 1) 0 (omega arith)).1 in
    let other : (slice_index bytes (length bytes - 1) == 13) ≡ false = grind (arith, nat_tests, last) in
    let some : nat_lt 0 (length bytes) ≡ true = grind (arith, nat_tests) in
    λ i. cond (some i && other i) (take (length bytes - 1) bytes) bytes

content_is : (l : List ℕ) → IsUnbroken l → content (l ++ 10 ∷ []) ≡ l
unfolding content
content_is l h =
    ap (λ t. cond t (without_last 13 (without_last 10 (l ++ 10 ∷ []))) (l ++ 10 ∷ [])) (ends_in l 10)
    ∙ ap (without_last 13) (last_off l 10) ∙ no_return l h

-- lines that are written of elements, and what is read of each
lines_read : {K L : Type 0} (P : K → Type 0) (write : K → List ℕ) (read : List ℕ → L) (wanted : K → L) → ((k : K) → P k → IsUnbroken (write k))
    → ((k : K) → P k → read (write k) ≡ wanted k) → (ks : List K) → All P ks
    → map read (map content (raw_lines (flat_map (λ k. write k ++ codes "\n") ks))) ≡ map wanted ks
lines_read P write read wanted unbroken reads [] all = refl
lines_read P write read wanted unbroken reads (k ∷ ks) all =
    let here = All-head P k ks all in
    let rest = flat_map (λ k. write k ++ codes "\n") ks in
    let others = lines_read P write read wanted unbroken reads ks (All-tail P k ks all) in
    ap (λ ls. map read (map content (raw_lines ls))) (append_assoc (write k) (codes "\n") rest)
    ∙ ap (λ ls. map read (map content ls)) (first_line (write k) rest (unbroken k here))
    ∙ (λ i. read (content_is (write k) (unbroken k here) i) ∷ others i)
    ∙ ap (λ l. l ∷ map wanted ks) (reads k here)

-- ---- words in which no line ends

no_end : (b : ℕ) (t u : Bool) → (b == 10) ≡ t → (b == 13) ≡ u → (not t && not u) ≡ true → NoEnd b
no_end b false false other another h = (grind (arith, nat_tests, other), grind (arith, nat_tests, another))
no_end b false true other another h = absurd (cc h)
no_end b true u other another h = absurd (cc h)

closed : (bytes : List ℕ) → list_all (λ b. not (b == 10) && not (b == 13)) bytes ≡ true → IsUnbroken bytes
closed bytes h = each_passes (λ b. not (b == 10) && not (b == 13)) NoEnd (λ b passes. no_end b (b == 10) (b == 13) refl refl passes) bytes h

digits_unbroken : (word : List ℕ) → AllDigits 10 word → IsUnbroken word
digits_unbroken [] h = All-nil NoEnd
digits_unbroken (b ∷ word) h =
    let other = λ (n : ℕ) (is : b ≡ n). subst (λ d. digit_value d < 10) is h.0 in
    All-cons NoEnd b word (λ e. absurd (omega (arith, other 10 e)), λ e. absurd (omega (arith, other 13 e))) (digits_unbroken word h.1)

number_unbroken : (n : ℕ) → n < 2 ^ 64 → IsUnbroken (decimal n)
number_unbroken n small = digits_unbroken (decimal n) (decimal_is_IsNumeral n small).0.1

restart_unbroken : (restart : Restart) → IsUnbroken (restart_words restart)
restart_unbroken Permanent = closed (restart_words Permanent) refl
restart_unbroken Transient = closed (restart_words Transient) refl
restart_unbroken Temporary = closed (restart_words Temporary) refl

allow_unbroken : (allow : Bool) → IsUnbroken (truth_word allow)
allow_unbroken true = closed (codes "true") refl
allow_unbroken false = closed (codes "false") refl

normal_unbroken : (normal : Bool) → IsUnbroken (reason_word normal)
normal_unbroken true = closed (codes "normal") refl
normal_unbroken false = closed (codes "abnormal") refl

joined : (xs ys : List ℕ) → IsUnbroken xs → IsUnbroken ys → IsUnbroken (xs ++ ys)
joined xs ys x y = All-append NoEnd xs ys x y

name_unbroken : (names : List (List ℕ)) (i : ℕ) → All IsUnbroken names → IsUnbroken (unwrap_or (slice_get names i) no_name)
name_unbroken names i all = by (slice_get names i) refl
  where
    by : (o : Option (List ℕ)) → slice_get names i ≡ o → IsUnbroken (unwrap_or o no_name)
    by None is = closed no_name refl
    by (Some name) is = subst IsUnbroken (get_or_from_slice_get names i name [] is) (all i [] (slice_get_within names i name is))

module _ (c : ClusterView) (names : HasUnbroken c) where
  node_unbroken : (n : Node) → IsUnbroken (node_word c n)
  node_unbroken n = name_unbroken c.node_names n.0 names.nodes

  app_unbroken : (a : App) → IsUnbroken (app_word c a)
  app_unbroken a = name_unbroken c.app_names a.0 names.apps

  spaced_unbroken : {A : Type 0} (show : A → List ℕ) (P : A → Type 0) → ((x : A) → P x → IsUnbroken (show x)) → (o : Option A) → IfSome o P
      → IsUnbroken (spaced show o)
  spaced_unbroken show P each None is = All-nil NoEnd
  spaced_unbroken show P each (Some x) is = joined (codes " ") (show x) (closed (codes " ") refl) (each x is)

  any : {A : Type 0} (o : Option A) → IfSome o (λ _. Unit {0})
  any None = tt
  any (Some x) = tt

  argument_unbroken : (g : Given) → IsGivenTold c g → (a : Argument) → IsUnbroken (argument_words c g a)
  argument_unbroken g told argument.Node = spaced_unbroken (node_word c) (λ _. Unit {0}) (λ n _. node_unbroken n) g.node (any g.node)
  argument_unbroken g told argument.App = spaced_unbroken (app_word c) (λ _. Unit {0}) (λ a _. app_unbroken a) g.app (any g.app)
  argument_unbroken g told argument.Restart = spaced_unbroken restart_words (λ _. Unit {0}) (λ r _. restart_unbroken r) g.restart (any g.restart)
  argument_unbroken g told argument.Truth = spaced_unbroken truth_word (λ _. Unit {0}) (λ t _. allow_unbroken t) g.truth (any g.truth)
  argument_unbroken g told argument.Ending = spaced_unbroken reason_word (λ _. Unit {0}) (λ t _. normal_unbroken t) g.ending (any g.ending)
  argument_unbroken g told argument.Milliseconds = spaced_unbroken decimal (λ ms. ms < 2 ^ 64) number_unbroken g.ms told.2

  arguments_unbroken : (g : Given) → IsGivenTold c g → (arguments : List Argument) → IsUnbroken (flat_map (argument_words c g) arguments)
  arguments_unbroken g told [] = All-nil NoEnd
  arguments_unbroken g told (a ∷ arguments) =
      joined (argument_words c g a) (flat_map (argument_words c g) arguments) (argument_unbroken g told a) (arguments_unbroken g told arguments)

  words_unbroken : (asked : Call) → IsTold c asked → IsUnbroken (command_words c asked)
  unfolding command_words
  words_unbroken asked told =
      let v = (said asked).0 in
      let g = (said asked).1 in
      joined (word_of v) (flat_map (argument_words c g) (arguments_of v)) (closed (word_of v) (verb_is v).unbroken)
      (arguments_unbroken g told (arguments_of v))

  session_unbroken : (asked : Command) → IsCommandTold c asked → IsUnbroken (session_words c asked)
  session_unbroken asked told =
      joined (decimal asked.session ++ codes " ") (command_words c asked.call)
      (joined (decimal asked.session) (codes " ") (number_unbroken asked.session (omega (arith, told.1))) (closed (codes " ") refl))
      (words_unbroken asked.call told.2)

-- ---- scripts

pub scripts_ask : ScriptsAskAgain
scripts_ask c calls within words names all =
    lines_read (IsTold c) (command_words c) (line_of c) (λ asked. Asks asked) (words_unbroken c names)
    (λ asked told. line_asks c (command_words c asked) asked (call_asks c within words asked told)) calls all

pub sessions_ask : SessionsAskAgain
sessions_ask c commands within words names all =
    lines_read (IsCommandTold c) (session_words c) (session_line_of c) (λ k. line.Asks k) (session_unbroken c names)
    (λ asked told. entry_asks c asked.session (command_words c asked.call) asked.call told.0 told.1 (call_asks c within words asked.call told.2)) commands all
