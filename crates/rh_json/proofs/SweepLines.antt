-- The commands of a base are those that a run answers: a run takes the line that begins the first plan for no command.
use Rattle.std.proofs.Common.{◌≡◌, ◌+◌, ℕ, List, [], ◌∷◌, map, Bool, true, false, cond, Some, None, refl, sym, ap, ◌∙◌}
use Rattle.std.specs.Prelude.{codes}
use Rattle.std.specs.Str.{bytes_eq, is_utf8}
use Rattle.std.proofs.lemmas.Slice.Eq.{bytes_eq-Decides}
use Rattle.rh_model.specs.ClusterView.{ClusterView}
use Rattle.rh_calls.specs.declared.call.Call.{Call}
use Rattle.rh_script.specs.declared.script.Line.{Line}
use Rattle.rh_script.specs.declared.script.Line.TheVariants.{Nothing, Asks, Bad}
use Rattle.rh_script.specs.declared.sweep_lines.SweepLine.{SweepLine}
use Rattle.rh_script.specs.declared.sweep_lines.SweepLine.TheVariants as asks
use Rattle.rh_script.specs.Forms.{verb_named}
use Rattle.rh_script.specs.Fitting.{first_unfit}
use Rattle.rh_script.specs.Commands.{begins_with, words_of, command_of, row_asks, line_of, calls_of, asking}
use Rattle.rh_script.specs.SweepLines.{plan_named, begun_or, sweep_line_of, sweep_lines_asked, fits_sweep, begun_by, base_lines}
use Rattle.rh_json.specs.RunJson.{Asked, asked_in, before}
use Rattle.rh_json.specs.SweepLaws.{BaseIsAnswered}

-- what a run makes of a line of a sweep
abbrev as_run : SweepLine → Line
as_run (asks.Begins name) = Bad
as_run (asks.Plain read) = read

no_verb : verb_named (codes "plan") ≡ None
unfolding verb_named
no_verb = refl

named_by : (c : ClusterView) (word name : List ℕ) (is : Bool) → bytes_eq word (codes "plan") ≡ is
    → as_run (begun_or (cond is (Some name) None) (command_of c (word ∷ name ∷ []))) ≡ command_of c (word ∷ name ∷ [])
named_by c word name true is =
    sym (ap (λ w. asking (row_asks c (verb_named w) (name ∷ []))) ((bytes_eq-Decides word (codes "plan")).0 is)
    ∙ ap (λ v. asking (row_asks c v (name ∷ []))) no_verb)
named_by c word name false is = refl

command_is : (c : ClusterView) (words : List (List ℕ)) → as_run (begun_or (plan_named words) (command_of c words)) ≡ command_of c words
command_is c [] = refl
command_is c (word ∷ []) = refl
command_is c (word ∷ name ∷ []) = named_by c word name (bytes_eq word (codes "plan")) refl
command_is c (word ∷ name ∷ other ∷ more) = refl

line_by : (c : ClusterView) (text : List ℕ) (comment utf8 : Bool)
    → as_run (cond comment (asks.Plain Nothing) (cond utf8 (begun_or (plan_named (words_of text)) (command_of c (words_of text))) (asks.Plain Bad)))
    ≡ cond comment Nothing (cond utf8 (command_of c (words_of text)) Bad)
line_by c text true utf8 = refl
line_by c text false true = command_is c (words_of text)
line_by c text false false = refl

line_is : (c : ClusterView) (text : List ℕ) → as_run (sweep_line_of c text) ≡ line_of c text
unfolding sweep_line_of line_of
line_is c text = line_by c text (begins_with 35 text) (is_utf8 text)

-- one line of the base, or the first of a plan
module _ (c : ClusterView) (k number : ℕ) (line : List ℕ) (others : List Asked) (lines : List SweepLine) where
  one_line : (asked : SweepLine) → (first_unfit fits_sweep begun_by (k + 1) false lines ≡ None → map (λ (a : Asked). a.call) others ≡ calls_of (base_lines lines))
      → first_unfit fits_sweep begun_by k false (asked ∷ lines) ≡ None
      → map (λ (a : Asked). a.call) (before number line (as_run asked) others) ≡ calls_of (base_lines (asked ∷ lines))
  one_line (asks.Begins name) same fine = refl
  one_line (asks.Plain Nothing) same fine = same fine
  one_line (asks.Plain (Asks call)) same fine = ap (λ (calls : List Call). call ∷ calls) (same fine)
  one_line (asks.Plain Bad) same fine = cc

answered_from : (c : ClusterView) (k number : ℕ) (lines : List (List ℕ)) → first_unfit fits_sweep begun_by k false (sweep_lines_asked c lines) ≡ None
    → map (λ (a : Asked). a.call) (asked_in c number lines) ≡ calls_of (base_lines (sweep_lines_asked c lines))
answered_from c k number [] fine = refl
answered_from c k number (line ∷ lines) fine =
    ap (λ l. map (λ (a : Asked). a.call) (before number line l (asked_in c (number + 1) lines))) (sym (line_is c line))
    ∙ one_line c k number line (asked_in c (number + 1) lines) (sweep_lines_asked c lines) (sweep_line_of c line)
    (answered_from c (k + 1) (number + 1) lines) fine

pub base_is_answered : BaseIsAnswered
base_is_answered c number lines fine = answered_from c 1 number lines fine
