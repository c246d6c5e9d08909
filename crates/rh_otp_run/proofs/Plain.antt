-- In the plain manner nothing stands beside the answers.
use Rattle.std.proofs.Common.{◌≡◌, ◌∙◌, ◌+◌, ℕ, Bool, List, [], ◌∷◌, ◌++◌, Option, Some, None, Result, Ok, Err, refl, sym, ap}
use Rattle.std.proofs.lemmas.List.{append_assoc}
use Rattle.rh_model.specs.ClusterView.{ClusterView}
use Rattle.rh_cluster.specs.ClusterOf.{cluster_of}
use Rattle.rh_cluster.specs.declared.fault.ClusterFault.{ClusterFault}
use Rattle.rh_script.specs.declared.script.Line.{Line}
use Rattle.rh_script.specs.declared.script.Line.TheVariants.{Nothing, Asks, Bad}
use Rattle.rh_script.specs.Commands.{line_of, calls_of}
use Rattle.rh_script.specs.Lines.{cluster_text, script_lines}
use Rattle.rh_run.specs.RunText.{bad_line, end_text, end_over, lines_asked, run_end, script_end}
use Rattle.rh_manner.specs.Laws.{plain}
use Rattle.rh_manner.specs.MannerText.{Said, said_by, asked, end_of}
use Rattle.rh_otp_net.specs.declared.order.Order.{Order}
use Rattle.rh_otp_file.specs.Files.{own_files}
use Rattle.rh_otp_sim.specs.Calls.{made_by, reply_to}
use Rattle.rh_otp_sim.specs.Sim.{LiveSimView, opened}
use Rattle.rh_otp_text.specs.Replies.{reply_text}
use Rattle.rh_otp_run.specs.Laws.{PlainMannerIsBare, answers_text, script_text, bare_text}
use Rattle.rh_otp_run.specs.LiveText.{said_text, any_refused, text_over, live_text, live_end}
use Rattle.rh_otp_run.specs.LiveText.{end_over as live_end_over}

said_asked : (c : ClusterView) (lines : List (List ℕ)) → asked (said_by c lines) ≡ lines_asked c lines
said_asked c [] = refl
said_asked c (line ∷ lines) = ap (λ (l : List Line). line_of c line ∷ l) (said_asked c lines)

plain_text : (sim : LiveSimView) (k : ℕ) (lines : List Said)
    → said_text plain sim k lines ≡ answers_text sim (calls_of (asked lines)) ++ end_text (bad_line k (asked lines))
plain_text sim k [] = refl
plain_text sim k ((line, Nothing) ∷ lines) = plain_text sim (k + 1) lines
plain_text sim k ((line, Asks call) ∷ lines) =
    let next : LiveSimView = made_by call sim in
    let answer : List ℕ = reply_text next (reply_to call sim) in
    ap (λ (t : List ℕ). answer ++ t) (plain_text next (k + 1) lines)
    ∙ sym (append_assoc answer (answers_text next (calls_of (asked lines))) (end_text (bad_line (k + 1) (asked lines))))
plain_text sim k ((line, Bad) ∷ lines) = refl

plain_end : (refused : Bool) (bad : Option ℕ) → end_of plain refused bad ≡ script_end bad
plain_end refused None = refl
plain_end refused (Some k) = refl

module _ (order : Order) (text : List ℕ) (lines : List (List ℕ)) where
  over_text : (r : Result ClusterView ClusterFault) → text_over order plain text lines r ≡ bare_text order text lines r
  over_text (Ok c) =
      plain_text (opened c (own_files c text) order) 1 (said_by c lines)
      ∙ ap (script_text (opened c (own_files c text) order)) (said_asked c lines)
  over_text (Err f) = refl

  over_end : (r : Result ClusterView ClusterFault) → live_end_over order plain text lines r ≡ end_over lines r
  over_end (Ok c) =
      plain_end (any_refused (opened c (own_files c text) order) (said_by c lines)) (bad_line 1 (asked (said_by c lines)))
      ∙ ap (λ (ls : List Line). script_end (bad_line 1 ls)) (said_asked c lines)
  over_end (Err f) = refl

pub plain_is_bare : PlainMannerIsBare
unfolding live_text live_end run_end
plain_is_bare order bytes = (
  over_text order (cluster_text bytes) (script_lines bytes) (cluster_of (cluster_text bytes)),
  over_end order (cluster_text bytes) (script_lines bytes) (cluster_of (cluster_text bytes)),
)
