-- A run in the plain manner is a run.
use Rattle.std.proofs.Common.{◌≡◌, ◌∙◌, ◌+◌, ℕ, List, [], ◌∷◌, ◌++◌, Bool, Option, Some, None, Result, Ok, Err, refl, ap, ap₂}
use Rattle.std.specs.List.{list_any}
use Rattle.rh_model.specs.ClusterView.{ClusterView}
use Rattle.rh_cluster.specs.ClusterOf.{cluster_of}
use Rattle.rh_cluster.specs.declared.fault.ClusterFault.{ClusterFault}
use Rattle.rh_rules.specs.declared.pick.Pick.{Pick}
use Rattle.rh_trail.specs.SimView.{SimView}
use Rattle.rh_trail.specs.Lone.{opened, served}
use Rattle.rh_script.specs.declared.script.Line.{Line}
use Rattle.rh_script.specs.declared.script.Line.TheVariants.{Nothing, Asks, Bad}
use Rattle.rh_script.specs.Lines.{cluster_text, script_lines}
use Rattle.rh_script.specs.Commands.{line_of, calls_of}
use Rattle.rh_script.specs.Answers.{answer_text}
use Rattle.rh_run.specs.RunText.{run_text, run_end, bad_line, end_text, lines_asked, answers_text, script_end}
use Rattle.rh_run.specs.RunText.{text_over as run_over, end_over as run_end_over}
use Rattle.rh_manner.specs.Laws.{plain, PlainMannerIsRun}
use Rattle.rh_manner.specs.MannerText.{Said, said_by, asked, command_lines, commands_text, bad_end, script_replies, manner_text, manner_end, text_over, end_over, end_of, is_refused_step}

-- what the lines ask is what they ask of a run
said_asked : (c : ClusterView) (lines : List (List ℕ)) → asked (said_by c lines) ≡ lines_asked c lines
said_asked c [] = refl
said_asked c (line ∷ lines) = ap (λ (l : List Line). line_of c line ∷ l) (said_asked c lines)

plain_bad : (k : ℕ) (lines : List Said) → bad_end plain k lines ≡ end_text (bad_line k (asked lines))
plain_bad k [] = refl
plain_bad k ((line, Nothing) ∷ lines) = plain_bad (k + 1) lines
plain_bad k ((line, Asks call) ∷ lines) = plain_bad (k + 1) lines
plain_bad k ((line, Bad) ∷ lines) = refl

plain_commands : (c : ClusterView) (sim : SimView) (lines : List Said)
    → commands_text plain c (command_lines lines) (script_replies sim lines) ≡ answers_text c sim (calls_of (asked lines))
plain_commands c sim [] = refl
plain_commands c sim ((line, Nothing) ∷ lines) = plain_commands c sim lines
plain_commands c sim ((line, Asks call) ∷ lines) =
    ap (λ (t : List ℕ). answer_text c (served sim call).reply ++ t) (plain_commands c (served sim call).sim lines)
plain_commands c sim ((line, Bad) ∷ lines) = refl

plain_end : (refused : Bool) (bad : Option ℕ) → end_of plain refused bad ≡ script_end bad
plain_end refused None = refl
plain_end refused (Some k) = refl

module _ (pick : Pick) (lines : List (List ℕ)) where
  over_text : (r : Result ClusterView ClusterFault) → text_over plain pick lines r ≡ run_over pick lines r
  over_text (Ok c) =
      ap₂ (λ (a b : List ℕ). a ++ b) (plain_commands c (opened c pick) (said_by c lines)) (plain_bad 1 (said_by c lines))
      ∙ ap (λ (ls : List Line). answers_text c (opened c pick) (calls_of ls) ++ end_text (bad_line 1 ls)) (said_asked c lines)
  over_text (Err f) = refl

  over_end : (r : Result ClusterView ClusterFault) → end_over plain pick lines r ≡ run_end_over lines r
  over_end (Ok c) = plain_end (list_any is_refused_step (script_replies (opened c pick) (said_by c lines))) (bad_line 1 (asked (said_by c lines))) ∙ ap (λ (ls : List Line). script_end (bad_line 1 ls)) (said_asked c lines)
  over_end (Err f) = refl

pub plain_is_run : PlainMannerIsRun
unfolding run_text run_end manner_text manner_end
plain_is_run bytes pick = (
  over_text pick (script_lines bytes) (cluster_of (cluster_text bytes)),
  over_end pick (script_lines bytes) (cluster_of (cluster_text bytes)),
)
