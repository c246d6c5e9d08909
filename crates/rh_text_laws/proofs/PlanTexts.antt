-- What a sweep writes of a plan is written of what `run` answers to it.
use Rattle.std.proofs.Common.{◌≡◌, ℕ, Bool, true, false, cond, List, [], ◌∷◌, ◌++◌, length, codes, refl, sym, ap, ◌∙◌, append-nil}
use Rattle.std.specs.List.{flat_map}
use Rattle.std.proofs.lemmas.List.Concat.{flat_map-append}
use Rattle.rh_model.specs.ClusterView.{ClusterView}
use Rattle.rh_model.specs.declared.node.App.{App}
use Rattle.rh_rules.specs.declared.pick.Pick.{Pick}
use Rattle.rh_state.specs.declared.status.Standing.{Standing}
use Rattle.rh_state.specs.Numbers.{apps_of}
use Rattle.rh_state.specs.StateView.{StateView, standing_of}
use Rattle.rh_rules.specs.Course.{is_local}
use Rattle.rh_calls.specs.declared.call.Call.{Call}
use Rattle.rh_calls.specs.declared.call.Call.TheVariants as call
use Rattle.rh_calls.specs.declared.call.Reply.{Reply}
use Rattle.rh_calls.specs.declared.call.Reply.TheVariants as reply
use Rattle.rh_trail.specs.SimView.{SimView, state_of}
use Rattle.rh_trail.specs.Lone.{opened, replies, sim_after}
use Rattle.rh_calls.specs.Report.{report_text, app_line, app_lines, standing_line}
use Rattle.rh_outcomes.specs.Outcomes.{standing_in, standings_in, steps}
use Rattle.rh_script.specs.Answers.{answer_text}
use Rattle.rh_script.specs.SweepAnswers.{plan_line, refused_line, outcome_text}
use Rattle.rh_script.specs.SweepLines.{PlanText}
use Rattle.rh_run.specs.RunText.{answers_text}
use Rattle.rh_run.specs.SweepText.{plan_outcome}
use Rattle.rh_text_laws.specs.Plans.{AnswersView, replies_of, events_answered, outcome_read}
use Rattle.rh_text_laws.specs.PlanTexts.{PlanTextIsRun}
use Rattle.rh_text_laws.proofs.PlanReplies.{replies-append, answers_to, answered_so, is_answered, read_off}
use Rattle.rh_text_laws.proofs.Clusters.{sim_cluster, state_cluster}

-- ---- the lines of distributed applications are those of the report
module _ (s : StateView) where
  abbrev line_at : App × Standing → List ℕ
  line_at at = standing_line s.cluster at.0 at.1

  one_line : (a : App) → flat_map line_at (standing_in s a) ≡ app_line s a
  unfolding standing_in app_line
  one_line a = by (is_local s.cluster a)
    where
      by : (b : Bool) → flat_map line_at (cond b [] ((a, standing_of s a) ∷ [])) ≡ cond b [] (standing_line s.cluster a (standing_of s a))
      by true = refl
      by false = append-nil (standing_line s.cluster a (standing_of s a))

  lines_of : (apps : List App) → flat_map line_at (flat_map (standing_in s) apps) ≡ flat_map (app_line s) apps
  lines_of [] = refl
  lines_of (a ∷ apps) =
      flat_map-append line_at (standing_in s a) (flat_map (standing_in s) apps)
      ∙ (λ i. one_line a i ++ lines_of apps i)

lines_are : (c : ClusterView) (s : StateView) → s.cluster ≡ c → flat_map (λ at. standing_line c at.0 at.1) (standings_in s) ≡ app_lines s
lines_are c s on = (λ i. flat_map (λ at. standing_line (sym on i) at.0 at.1) (standings_in s)) ∙ lines_of s (apps_of s.cluster)

-- ---- the whole
module _ (c : ClusterView) (pick : Pick) (calls : List Call) (plan : PlanText) where
  abbrev base : SimView
  base = sim_after (opened c pick) calls

  abbrev answers : AnswersView
  answers = answers_to base plan.events

  abbrev made : List Call
  made = steps (events_answered answers plan.events)

  abbrev last : StateView
  last = state_of (sim_after base made)

  abbrev shown : Reply
  shown = reply.Seen (sim_after base made).cursor (length (sim_after base made).trail) (report_text last)

  all_replies : replies (opened c pick) (calls ++ (made ++ call.Look ∷ [])) ≡ replies (opened c pick) calls ++ (replies_of answers ++ shown ∷ [])
  all_replies =
      replies-append (opened c pick) calls (made ++ call.Look ∷ [])
      ∙ ap (λ rs. replies (opened c pick) calls ++ rs)
      (replies-append base made (call.Look ∷ []) ∙ ap (λ rs. rs ++ shown ∷ []) (answered_so base plan.events))

  run_writes : answers_text c (opened c pick) (calls ++ (made ++ call.Look ∷ []))
      ≡ answers_text c (opened c pick) calls ++ (flat_map (answer_text c) (replies_of answers) ++ (codes "ok\n" ++ report_text last))
  unfolding answer_text
  run_writes =
      ap (flat_map (answer_text c)) all_replies
      ∙ flat_map-append (answer_text c) (replies (opened c pick) calls) (replies_of answers ++ shown ∷ [])
      ∙ ap (λ bs. answers_text c (opened c pick) calls ++ bs)
      (flat_map-append (answer_text c) (replies_of answers) (shown ∷ [])
      ∙ ap (λ bs. flat_map (answer_text c) (replies_of answers) ++ bs) (append-nil (answer_text c shown)))

  last_cluster : last.cluster ≡ c
  last_cluster = state_cluster (sim_after base made) ∙ sim_cluster base made ∙ sim_cluster (opened c pick) calls

  sweep_writes : plan_outcome c base plan
      ≡ plan_line plan.name (outcome_read answers last) ++ refused_line c (outcome_read answers last).refused ++ app_lines last
  unfolding outcome_text
  sweep_writes =
      ap (outcome_text c plan.name) (read_off base plan.events)
      ∙ ap (λ bs. plan_line plan.name (outcome_read answers last) ++ refused_line c (outcome_read answers last).refused ++ bs) (lines_are c last last_cluster)

pub plan_text_is_run : PlanTextIsRun
plan_text_is_run c pick calls plan = record {
  answers = answers_to (sim_after (opened c pick) calls) plan.events;
  state = last c pick calls plan;
  answered = is_answered c pick calls plan.events;
  run = run_writes c pick calls plan;
  sweep = sweep_writes c pick calls plan;
}
