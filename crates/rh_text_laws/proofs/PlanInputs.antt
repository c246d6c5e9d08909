-- In the text of a sweep each plan stands as `run` answers it.
use Rattle.std.proofs.Common.{◌≡◌, ℕ, List, ◌∷◌, ◌++◌, Option, Some, None, Ok, refl, sym, ap, ◌∙◌, append-nil, append_assoc}
use Rattle.std.specs.List.{flat_map}
use Rattle.std.specs.Option.{option_map}
use Rattle.std.proofs.lemmas.List.Concat.{flat_map-append}
use Rattle.rh_model.specs.ClusterView.{ClusterView}
use Rattle.rh_cluster.specs.ClusterOf.{cluster_of}
use Rattle.rh_rules.specs.declared.pick.Pick.{Pick}
use Rattle.rh_trail.specs.SimView.{SimView}
use Rattle.rh_trail.specs.Lone.{opened}
use Rattle.rh_script.specs.declared.sweep_lines.SweepLine.{SweepLine}
use Rattle.rh_calls.specs.Report.{app_lines}
use Rattle.rh_script.specs.SweepAnswers.{plan_line, refused_line}
use Rattle.rh_script.specs.Lines.{cluster_text, script_lines}
use Rattle.rh_script.specs.Commands.{calls_of}
use Rattle.rh_script.specs.SweepLines.{sweep_lines_asked, bad_sweep_line, plans_of}
use Rattle.rh_run.specs.declared.fault.Told.TheVariants as told
use Rattle.rh_run.specs.RunText.{answers_text, end_text, bad_line, lines_asked, text_over, end_over, run_text, run_end}
use Rattle.rh_run.specs.SweepText.{plan_outcome, plans_text, why_not_swept, base_sim, lines_text, lines_end, swept_over, swept_end_over, sweep_text, sweep_end}
use Rattle.rh_text_laws.specs.Plans.{outcome_read}
use Rattle.rh_text_laws.specs.PlanTexts.{base_calls, base_of, base_text, SweepIsRuns}
use Rattle.rh_text_laws.proofs.PlanTexts.{plan_text_is_run}

-- where nothing is made of a value, there is none
nothing_made : {A B : Type 0} (f : A → B) (o : Option A) → option_map f o ≡ None → o ≡ None
nothing_made f None e = refl
nothing_made f (Some x) e = absurd (cc e)

-- ---- a run without a bad line
run_is : (bytes : List ℕ) (c : ClusterView) (pick : Pick) → cluster_of (cluster_text bytes) ≡ Ok c → run_end bytes ≡ None
    → run_text bytes pick ≡ answers_text c (opened c pick) (calls_of (lines_asked c (script_lines bytes)))
unfolding run_text run_end
run_is bytes c pick is ends =
    let lines = lines_asked c (script_lines bytes) in
    let fine = nothing_made (λ k. told.BadLine k) (bad_line 1 lines) (ap (end_over (script_lines bytes)) (sym is) ∙ ends) in
    ap (text_over pick (script_lines bytes)) is
    ∙ ap (λ bad. answers_text c (opened c pick) (calls_of lines) ++ end_text bad) fine
    ∙ append-nil (answers_text c (opened c pick) (calls_of lines))

-- ---- a sweep whose plans are swept
module _ (bytes : List ℕ) (c : ClusterView) (pick : Pick) where
  abbrev lines : List SweepLine
  lines = sweep_lines_asked c (script_lines bytes)

  abbrev base : SimView
  base = base_sim c pick lines

  swept_lines : (bad : Option ℕ) → lines_end c pick lines bad ≡ None
      → lines_text c pick lines bad ≡ base_text c pick bytes ++ flat_map (plan_outcome c base) (plans_of lines)
  swept_lines (Some k) ends = absurd (cc ends)
  swept_lines None ends =
      ap (λ why. base_text c pick bytes ++ plans_text c base (plans_of lines) why)
      (nothing_made (λ f. told.Sweep f) (why_not_swept base (plans_of lines)) ends)

  sweep_is : cluster_of (cluster_text bytes) ≡ Ok c → sweep_end bytes pick ≡ None
      → sweep_text bytes pick ≡ base_text c pick bytes ++ flat_map (plan_outcome c base) (plans_of lines)
  unfolding sweep_text sweep_end
  sweep_is is ends =
      ap (swept_over pick (script_lines bytes)) is
      ∙ swept_lines (bad_sweep_line lines) (ap (swept_end_over pick (script_lines bytes)) (sym is) ∙ ends)

pub sweep_is_runs : SweepIsRuns
sweep_is_runs bytes c pick before plan behind is ends at =
    let write = plan_outcome c (base_of c pick bytes) in
    let made = plan_text_is_run c pick (base_calls c bytes) plan in
    record {
      answers = made.answers;
      state = made.state;
      answered = made.answered;
      run = λ input so. run_is input c pick so.cluster so.ends ∙ ap (answers_text c (opened c pick)) so.asks ∙ made.run;
      sweep = sweep_is bytes c pick is ends
          ∙ ap (λ ps. base_text c pick bytes ++ flat_map write ps) at
          ∙ ap (λ bs. base_text c pick bytes ++ bs)
          (flat_map-append write before (plan ∷ behind)
          ∙ ap (λ bs. flat_map write before ++ (bs ++ flat_map write behind)) made.sweep
          ∙ sym (append_assoc (flat_map write before) (plan_line plan.name (outcome_read made.answers made.state)
          ++ refused_line c (outcome_read made.answers made.state).refused ++ app_lines made.state) (flat_map write behind)));
    }
