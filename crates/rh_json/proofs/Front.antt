-- The front of an input: its lines, and what a run makes of them.
use Rattle.std.proofs.Common.{◌≡◌, ◌≤◌, ◌+◌, ◌-◌, ℕ, zero, suc, List, [], ◌∷◌, ◌++◌, length, map, take, drop, Bool, true, false, cond, eqb}
use Rattle.std.proofs.Common.{None, Ok, refl, sym, ap, ◌∙◌, append-nil, append_assoc}
use Rattle.std.specs.List.{concat, onto_first}
use Rattle.rh_model.specs.ClusterView.{ClusterView}
use Rattle.rh_cluster.specs.ClusterOf.{cluster_of}
use Rattle.rh_rules.specs.declared.pick.Pick.{Pick}
use Rattle.rh_trail.specs.Lone.{opened}
use Rattle.rh_script.specs.declared.script.Line.{Line}
use Rattle.rh_script.specs.declared.script.Line.TheVariants.{Nothing, Asks, Bad}
use Rattle.rh_script.specs.Lines.{raw_lines, content, is_separator, lines_before, lines_behind, cluster_text, script_lines}
use Rattle.rh_script.specs.Commands.{line_of}
use Rattle.rh_script.proofs.LineLemmas.{front_farther}
use Rattle.rh_run.specs.RunText.{bad_line, lines_asked}
use Rattle.rh_json_lines.specs.ClusterLines.{cluster_line}
use Rattle.rh_json.specs.RunJson.{Asked, asked_in, before, answer_lines, end_json, json_over, run_json}
use Rattle.rh_json.specs.Base.{is_bad, commands_front, input_front, base_text, front_left}
use Rattle.rh_json.specs.SweepJson.{base_json}

-- ---- the first lines of a text are the lines of the text that they make

one_byte : (b : ℕ) (ends : Bool) → eqb b 10 ≡ ends → (lines : List (List ℕ)) → ((n : ℕ) → raw_lines (concat (take n lines)) ≡ take n lines) → (n : ℕ)
    → raw_lines (concat (take n (cond ends ((b ∷ []) ∷ lines) (onto_first b lines)))) ≡ take n (cond ends ((b ∷ []) ∷ lines) (onto_first b lines))
one_byte b ends is lines alone zero = refl
one_byte b true is lines alone (suc n) =
    ap (λ t. cond t ((b ∷ []) ∷ raw_lines (concat (take n lines))) (onto_first b (raw_lines (concat (take n lines))))) is
    ∙ ap (λ ls. (b ∷ []) ∷ ls) (alone n)
one_byte b false is [] alone (suc zero) = ap (λ t. cond t ((b ∷ []) ∷ []) ((b ∷ []) ∷ [])) is
one_byte b false is [] alone (suc (suc n)) = ap (λ t. cond t ((b ∷ []) ∷ []) ((b ∷ []) ∷ [])) is
one_byte b false is (line ∷ lines) alone (suc n) =
    ap (λ t. cond t ((b ∷ []) ∷ raw_lines (line ++ concat (take n lines))) (onto_first b (raw_lines (line ++ concat (take n lines))))) is
    ∙ ap (onto_first b) (alone (suc n))

lines_alone : (bytes : List ℕ) (n : ℕ) → raw_lines (concat (take n (raw_lines bytes))) ≡ take n (raw_lines bytes)
lines_alone [] zero = refl
lines_alone [] (suc n) = refl
lines_alone (b ∷ bytes) n = one_byte b (eqb b 10) refl (raw_lines bytes) (lines_alone bytes) n

-- ---- the front of an input is so many of its first lines

one_command : (bad : Bool) (line : List ℕ) (front lines : List (List ℕ)) → (n : ℕ) × (front ≡ take n lines)
    → (n : ℕ) × (cond bad [] (line ∷ front) ≡ take n (line ∷ lines))
one_command true line front lines is = (0, refl)
one_command false line front lines is = (suc is.0, ap (λ ls. line ∷ ls) is.1)

one_line : (ends : Bool) (line : List ℕ) (behind before lines : List (List ℕ)) → (n : ℕ) × (behind ≡ take n lines) → (n : ℕ) × (before ≡ take n lines)
    → (n : ℕ) × (line ∷ cond ends behind before ≡ take n (line ∷ lines))
one_line true line behind before lines is other = (suc is.0, ap (λ ls. line ∷ ls) is.1)
one_line false line behind before lines other is = (suc is.0, ap (λ ls. line ∷ ls) is.1)

cluster_by : (ends : Bool) (line : List ℕ) (behind front lines : List (List ℕ)) → lines_before front ≡ lines_before lines
    → cond ends [] (line ∷ lines_before (cond ends behind front)) ≡ cond ends [] (line ∷ lines_before lines)
cluster_by true line behind front lines same = refl
cluster_by false line behind front lines same = ap (λ ls. line ∷ ls) same

module _ (c : ClusterView) where
  commands_are_first : (lines : List (List ℕ)) → (n : ℕ) × (commands_front c lines ≡ take n lines)
  commands_are_first [] = (0, refl)
  commands_are_first (line ∷ lines) = one_command (is_bad (line_of c (content line))) line (commands_front c lines) lines (commands_are_first lines)

  front_is_first : (lines : List (List ℕ)) → (n : ℕ) × (input_front c lines ≡ take n lines)
  front_is_first [] = (0, refl)
  front_is_first (line ∷ lines) =
      one_line (is_separator line) line (commands_front c lines) (input_front c lines) lines (commands_are_first lines) (front_is_first lines)

  -- ---- what a run reads of it

  cluster_is : (lines : List (List ℕ)) → lines_before (input_front c lines) ≡ lines_before lines
  cluster_is [] = refl
  cluster_is (line ∷ lines) = cluster_by (is_separator line) line (commands_front c lines) (input_front c lines) lines (cluster_is lines)

  script_by : (ends : Bool) (front lines : List (List ℕ)) → lines_behind front ≡ commands_front c (lines_behind lines)
      → cond ends (cond ends (commands_front c lines) front) (lines_behind (cond ends (commands_front c lines) front))
      ≡ commands_front c (cond ends lines (lines_behind lines))
  script_by true front lines same = refl
  script_by false front lines same = same

  script_is : (lines : List (List ℕ)) → lines_behind (input_front c lines) ≡ commands_front c (lines_behind lines)
  script_is [] = refl
  script_is (line ∷ lines) = script_by (is_separator line) (input_front c lines) lines (script_is lines)

  asked_by : (k : ℕ) (line : List ℕ) (front : List (List ℕ)) (others : List Asked) (asked : Line) → line_of c (content line) ≡ asked
      → asked_in c (k + 1) (map content front) ≡ others
      → asked_in c k (map content (cond (is_bad asked) [] (line ∷ front))) ≡ before k (content line) asked others
  asked_by k line front others Nothing is same =
      ap (λ l. before k (content line) l (asked_in c (k + 1) (map content front))) is ∙ same
  asked_by k line front others (Asks call) is same =
      ap (λ l. before k (content line) l (asked_in c (k + 1) (map content front))) is ∙ ap (before k (content line) (Asks call)) same
  asked_by k line front others Bad is same = refl

  asked_is : (k : ℕ) (lines : List (List ℕ)) → asked_in c k (map content (commands_front c lines)) ≡ asked_in c k (map content lines)
  asked_is k [] = refl
  asked_is k (line ∷ lines) =
      asked_by k line (commands_front c lines) (asked_in c (k + 1) (map content lines)) (line_of c (content line)) refl (asked_is (k + 1) lines)

  none_by : (k : ℕ) (line : List ℕ) (front : List (List ℕ)) (asked : Line) → line_of c (content line) ≡ asked
      → bad_line (k + 1) (lines_asked c (map content front)) ≡ None
      → bad_line k (lines_asked c (map content (cond (is_bad asked) [] (line ∷ front)))) ≡ None
  none_by k line front Nothing is none = ap (λ l. bad_line k (l ∷ lines_asked c (map content front))) is ∙ none
  none_by k line front (Asks call) is none = ap (λ l. bad_line k (l ∷ lines_asked c (map content front))) is ∙ none
  none_by k line front Bad is none = refl

  none_is_bad : (k : ℕ) (lines : List (List ℕ)) → bad_line k (lines_asked c (map content (commands_front c lines))) ≡ None
  none_is_bad k [] = refl
  none_is_bad k (line ∷ lines) = none_by k line (commands_front c lines) (line_of c (content line)) refl (none_is_bad (k + 1) lines)

  -- a run over the front of an input tells its cluster, and answers the commands of its base
  module _ (pick : Pick) (bytes : List ℕ) (is : cluster_of (cluster_text bytes) ≡ Ok c) where
    abbrev behind : List (List ℕ)
    behind = lines_behind (raw_lines bytes)

    alone : raw_lines (base_text c bytes) ≡ input_front c (raw_lines bytes)
    alone =
        let first = front_is_first (raw_lines bytes) in
        ap (λ ls. raw_lines (concat ls)) first.1 ∙ lines_alone bytes first.0 ∙ sym first.1

    cluster : cluster_of (cluster_text (base_text c bytes)) ≡ Ok c
    cluster = ap (λ ls. cluster_of (concat (lines_before ls))) alone ∙ ap (λ ls. cluster_of (concat ls)) (cluster_is (raw_lines bytes)) ∙ is

    script : script_lines (base_text c bytes) ≡ map content (commands_front c behind)
    script = ap (λ ls. map content (lines_behind ls)) alone ∙ ap (map content) (script_is (raw_lines bytes))

    answers : json_over pick (map content (commands_front c behind)) (Ok c) ≡ base_json c pick (script_lines bytes)
    answers =
        (λ i. cluster_line c ++ (answer_lines c (opened c pick) (asked_is 1 behind i) ++ end_json (none_is_bad 1 behind i)))
        ∙ ap (λ t. cluster_line c ++ t) (append-nil (answer_lines c (opened c pick) (asked_in c 1 (script_lines bytes))))

    pub base_is_run : run_json (base_text c bytes) pick ≡ base_json c pick (script_lines bytes)
    unfolding run_json
    base_is_run =
        ap (json_over pick (script_lines (base_text c bytes))) cluster ∙ ap (λ ls. json_over pick ls (Ok c)) script ∙ answers

-- ---- one line farther in the input

left_by : (c : ClusterView) (line : List ℕ) (lines : List (List ℕ)) (ends : Bool)
    → line ∷ cond ends (commands_front c lines) (input_front c lines) ≡ line ∷ front_left c ends lines
left_by c line lines true = refl
left_by c line lines false = refl

-- before the script, and in it
pub left_begins : (c : ClusterView) (line : List ℕ) (lines : List (List ℕ)) (ends : Bool) → ends ≡ is_separator line
    → front_left c false (line ∷ lines) ≡ line ∷ front_left c ends lines
left_begins c line lines ends is = left_by c line lines (is_separator line) ∙ ap (λ b. line ∷ front_left c b lines) (sym is)

pub left_goes_on : (c : ClusterView) (line : List ℕ) (lines : List (List ℕ)) → is_bad (line_of c (content line)) ≡ false
    → front_left c true (line ∷ lines) ≡ line ∷ front_left c true lines
left_goes_on c line lines fine = ap (λ b. cond b [] (line ∷ commands_front c lines)) fine

module _ (c : ClusterView) (begun next : Bool) (bytes rest line after all : List ℕ) (within : length rest ≤ length bytes)
    (place : rest ≡ drop (length bytes - length rest) bytes) (whole : rest ≡ line ++ after) (split : raw_lines rest ≡ line ∷ raw_lines after)
    (so_far : all ≡ take (length bytes - length rest) bytes ++ concat (front_left c begun (raw_lines rest))) where
  pub text_farther : front_left c begun (line ∷ raw_lines after) ≡ line ∷ front_left c next (raw_lines after)
      → all ≡ take (length bytes - length after) bytes ++ concat (front_left c next (raw_lines after))
  text_farther step =
      so_far
      ∙ ap (λ ls. take (length bytes - length rest) bytes ++ concat (front_left c begun ls)) split
      ∙ ap (λ ls. take (length bytes - length rest) bytes ++ concat ls) step
      ∙ sym (append_assoc (take (length bytes - length rest) bytes) line (concat (front_left c next (raw_lines after))))
      ∙ ap (λ t. t ++ concat (front_left c next (raw_lines after))) (sym (front_farther bytes rest line after within place whole))
