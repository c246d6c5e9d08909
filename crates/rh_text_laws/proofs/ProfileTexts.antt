-- In each profile `run` writes the same for a script that gives no permission back.
use Rattle.std.proofs.Common.{◌≡◌, ℕ, List, ◌++◌, map, Ok, refl, sym, ap, ◌∙◌}
use Rattle.std.specs.List.{flat_map}
use Rattle.rh_model.specs.ClusterView.{ClusterView}
use Rattle.rh_cluster.specs.ClusterOf.{cluster_of}
use Rattle.rh_rules.specs.declared.pick.Pick.{Pick}
use Rattle.rh_calls.specs.declared.call.Reply.{Reply}
use Rattle.rh_trail.specs.Lone.{opened}
use Rattle.rh_script.specs.Lines.{content, cluster_text, script_lines}
use Rattle.rh_script.specs.Commands.{calls_of, line_of}
use Rattle.rh_script.specs.Answers.{answer_text, notice_line}
use Rattle.rh_run.specs.RunText.{lines_asked, script_text, script_end, end_text, bad_line, text_over, end_over, run_text, run_end}
use Rattle.rh_text_laws.specs.Profiles.{in_profile, NoneGivesBack}
use Rattle.rh_text_laws.specs.ProfileFiles.{second_line}
use Rattle.rh_text_laws.specs.ProfileTexts.{RunsSameUnderProfiles, SecondProfileRunsSame}
use Rattle.rh_text_laws.proofs.ProfileFiles.{second_profile_reads_same}
use Rattle.rh_text_laws.proofs.ProfileReplies.{replies_same_under_profiles}

module _ (profile : ℕ) (c : ClusterView) where
  line_alike : (line : List ℕ) → line_of (in_profile profile c) line ≡ line_of c line
  unfolding line_of
  line_alike line = refl

  lines_alike : (lines : List (List ℕ)) → lines_asked (in_profile profile c) lines ≡ lines_asked c lines
  lines_alike lines = λ i. map (λ line. line_alike line i) lines

  pub answer_alike : (r : Reply) → answer_text (in_profile profile c) r ≡ answer_text c r
  unfolding notice_line answer_text
  answer_alike r = refl

  over_alike : (pick : Pick) (lines : List (List ℕ)) → NoneGivesBack (opened c pick) (calls_of (lines_asked c lines))
      → text_over pick lines (Ok (in_profile profile c)) ≡ text_over pick lines (Ok c)
  over_alike pick lines none =
      ap (script_text (in_profile profile c) (opened (in_profile profile c) pick) 1) (lines_alike lines)
      ∙ (λ i. flat_map (λ r. answer_alike r i) (replies_same_under_profiles profile c pick (calls_of (lines_asked c lines)) none i)
      ++ end_text (bad_line 1 (lines_asked c lines)))

  end_alike : (lines : List (List ℕ)) → end_over lines (Ok (in_profile profile c)) ≡ end_over lines (Ok c)
  end_alike lines = ap (λ asked. script_end (bad_line 1 asked)) (lines_alike lines)

pub runs_same_under_profiles : RunsSameUnderProfiles
unfolding run_text run_end
runs_same_under_profiles bytes other c profile pick is there same none = (
  (λ i. text_over pick (same i) (there i)) ∙ over_alike profile c pick (script_lines bytes) none ∙ ap (text_over pick (script_lines bytes)) (sym is),
  (λ i. end_over (same i) (there i)) ∙ end_alike profile c (script_lines bytes) ∙ ap (end_over (script_lines bytes)) (sym is),
)

-- ---- the parts of an input behind the line of the second profile
pub text_second : (bytes : List ℕ) → cluster_text (second_line ++ bytes) ≡ second_line ++ cluster_text bytes
unfolding content
text_second bytes = refl

pub script_second : (bytes : List ℕ) → script_lines (second_line ++ bytes) ≡ script_lines bytes
unfolding content
script_second bytes = refl

pub second_profile_runs_same : SecondProfileRunsSame
second_profile_runs_same bytes c pick is unnamed none =
    runs_same_under_profiles bytes (second_line ++ bytes) c 2 pick is
    (ap cluster_of (text_second bytes) ∙ second_profile_reads_same (cluster_text bytes) c unnamed is) (script_second bytes) none
