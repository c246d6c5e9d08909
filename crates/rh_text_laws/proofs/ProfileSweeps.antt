-- In each profile `sweep` writes the same for a base and plans that give no permission back.
use Rattle.std.proofs.Common.{◌≡◌, ℕ, zero, suc, List, [], ◌∷◌, ◌++◌, map, take, count_by, slice_get, Option, Some, None, Ok, refl, sym, ap, ◌∙◌}
use Rattle.std.specs.List.{flat_map, prefix_len}
use Rattle.std.proofs.lemmas.List.Elements.{All-head, All-tail}
use Rattle.rh_model.specs.ClusterView.{ClusterView}
use Rattle.rh_cluster.specs.ClusterOf.{cluster_of}
use Rattle.rh_rules.specs.declared.pick.Pick.{Pick}
use Rattle.rh_state.specs.Numbers.{apps_of}
use Rattle.rh_state.specs.StateView.{StateView}
use Rattle.rh_rules.specs.declared.event.Event.{Event}
use Rattle.rh_calls.specs.declared.call.Call.{Call}
use Rattle.rh_trail.specs.SimView.{SimView, state_of}
use Rattle.rh_trail.specs.Lone.{Served, served, opened, replies, sim_after}
use Rattle.rh_calls.specs.Report.{standing_line}
use Rattle.rh_plans.specs.declared.fault.SweepFault.{SweepFault}
use Rattle.rh_plans.specs.declared.plan.Outcome.{Outcome}
use Rattle.rh_outcomes.specs.Outcomes.{is_done, told, refusal_at, is_failover, is_takeover, standing_in, standings_in, steps, outcome_by, outcome_in}
use Rattle.rh_script.specs.declared.sweep_lines.SweepLine.{SweepLine}
use Rattle.rh_script.specs.Lines.{cluster_text, script_lines}
use Rattle.rh_script.specs.Commands.{calls_of}
use Rattle.rh_script.specs.SweepAnswers.{refused_line, outcome_text}
use Rattle.rh_script.specs.SweepLines.{PlanText, sweep_line_of, sweep_lines_asked, bad_sweep_line, base_lines, plans_of}
use Rattle.rh_run.specs.RunText.{answers_text}
use Rattle.rh_run.specs.SweepText.{plan_outcome, plans_text, plans_end, why_not_swept, lines_text, lines_end, swept_over, swept_end_over, sweep_text, sweep_end}
use Rattle.rh_text_laws.specs.Profiles.{in_profile, state_in, NoneGivesBack}
use Rattle.rh_text_laws.specs.ProfileFiles.{second_line}
use Rattle.rh_text_laws.specs.ProfileTexts.{NoPlanGivesBack, SecondProfileSweepsSame}
use Rattle.rh_text_laws.proofs.ProfileReplies.{IsAlike, there, state_alike, served_alike, sim_alike, replies_alike, opened_alike}
use Rattle.rh_text_laws.proofs.ProfileFiles.{second_profile_reads_same}
use Rattle.rh_text_laws.proofs.ProfileTexts.{answer_alike, text_second, script_second}

module _ (profile : ℕ) where
  -- ---- the simulation behind calls
  after_alike : (s : SimView) (calls : List Call) → IsAlike profile s → NoneGivesBack s calls
      → sim_after (there profile s) calls ≡ there profile (sim_after s calls)
  after_alike s [] alike none = refl
  after_alike s (asked ∷ calls) alike none =
      ap (λ (v : Served). sim_after v.sim calls) (served_alike profile s asked alike none.0)
      ∙ after_alike (served s asked).sim calls (sim_alike profile s asked alike none.0) none.1

  still_alike : (s : SimView) (calls : List Call) → IsAlike profile s → NoneGivesBack s calls → IsAlike profile (sim_after s calls)
  still_alike s [] alike none = alike
  still_alike s (asked ∷ calls) alike none = still_alike (served s asked).sim calls (sim_alike profile s asked alike none.0) none.1

  fewer_give : (s : SimView) (calls : List Call) (m : ℕ) → NoneGivesBack s calls → NoneGivesBack s (take m calls)
  fewer_give s calls zero none = tt
  fewer_give s [] (suc m) none = tt
  fewer_give s (asked ∷ calls) (suc m) none = (none.0, fewer_give (served s asked).sim calls m none.1)

  -- ---- the outcome of a plan
  standings_alike : (s : StateView) → standings_in (state_in profile s) ≡ standings_in s
  unfolding apps_of standing_in
  standings_alike s = refl

  behind_alike : (s : SimView) (calls : List Call) → IsAlike profile s → NoneGivesBack s calls
      → standings_in (state_of (sim_after (there profile s) calls)) ≡ standings_in (state_of (sim_after s calls))
  behind_alike s calls alike none =
      ap (λ (t : SimView). standings_in (state_of t)) (after_alike s calls alike none)
      ∙ ap standings_in (state_alike profile (sim_after s calls) (still_alike s calls alike none))
      ∙ standings_alike (state_of (sim_after s calls))

  outcome_alike : (s : SimView) (events : List Event) → IsAlike profile s → NoneGivesBack s (steps events)
      → outcome_in (there profile s) events ≡ outcome_in s events
  outcome_alike s events alike none =
      let calls = steps events in
      let m = prefix_len is_done (replies s calls) in
      ap (λ rs. outcome_by (there profile s) calls rs (prefix_len is_done rs)) (replies_alike profile s calls alike none)
      ∙ (λ i. record {
        accepted = m;
        refused = refusal_at m (slice_get (replies s calls) m);
        standings = behind_alike s (take m calls) alike (fewer_give s calls m none) i;
        failovers = count_by is_failover (flat_map told (take m (replies s calls)));
        takeovers = count_by is_takeover (flat_map told (take m (replies s calls)));
      })

  module _ (c : ClusterView) where
    sweep_line_alike : (text : List ℕ) → sweep_line_of (in_profile profile c) text ≡ sweep_line_of c text
    unfolding sweep_line_of
    sweep_line_alike text = refl

    sweep_lines_alike : (texts : List (List ℕ)) → sweep_lines_asked (in_profile profile c) texts ≡ sweep_lines_asked c texts
    sweep_lines_alike texts = λ i. map (λ text. sweep_line_alike text i) texts

    outcome_text_alike : (name : List ℕ) (o : Outcome) → outcome_text (in_profile profile c) name o ≡ outcome_text c name o
    unfolding refused_line standing_line outcome_text
    outcome_text_alike name o = refl

    plans_alike : (base : SimView) (plans : List PlanText) → IsAlike profile base → NoPlanGivesBack base plans
        → flat_map (plan_outcome (in_profile profile c) (there profile base)) plans ≡ flat_map (plan_outcome c base) plans
    plans_alike base [] alike none = refl
    plans_alike base (plan ∷ plans) alike none =
        let P : PlanText → Type 0 = λ p. NoneGivesBack base (steps p.events) in
        let here = outcome_alike base plan.events alike (All-head P plan plans none) in
        λ i. (ap (outcome_text (in_profile profile c) plan.name) here ∙ outcome_text_alike plan.name (outcome_in base plan.events)) i
        ++ plans_alike base plans alike (All-tail P plan plans none) i

    plans_text_alike : (base : SimView) (plans : List PlanText) (why : Option SweepFault) → IsAlike profile base → NoPlanGivesBack base plans
        → plans_text (in_profile profile c) (there profile base) plans why ≡ plans_text c base plans why
    plans_text_alike base plans None alike none = plans_alike base plans alike none
    plans_text_alike base plans (Some fault) alike none = refl

    module _ (pick : Pick) (lines : List SweepLine) where
      abbrev calls : List Call
      calls = calls_of (base_lines lines)

      abbrev base : SimView
      base = sim_after (opened c pick) calls

      module _ (none : NoneGivesBack (opened c pick) calls) where
        answers_alike : answers_text (in_profile profile c) (opened (in_profile profile c) pick) calls ≡ answers_text c (opened c pick) calls
        answers_alike =
            λ i. flat_map (λ r. answer_alike profile c r i) (replies_alike profile (opened c pick) calls (opened_alike profile c pick) none i)

        base_alike : sim_after (opened (in_profile profile c) pick) calls ≡ there profile base
        base_alike = after_alike (opened c pick) calls (opened_alike profile c pick) none

        lines_alike : (bad : Option ℕ) → NoPlanGivesBack base (plans_of lines) → lines_text (in_profile profile c) pick lines bad ≡ lines_text c pick lines bad
        lines_alike (Some k) fine = refl
        lines_alike None fine =
            (λ i. answers_alike i ++ plans_text (in_profile profile c) (base_alike i) (plans_of lines) (why_not_swept (base_alike i) (plans_of lines)))
            ∙ ap (λ bs. answers_text c (opened c pick) calls ++ bs)
            (plans_text_alike base (plans_of lines) (why_not_swept base (plans_of lines)) (still_alike (opened c pick) calls (opened_alike profile c pick) none) fine)

        ends_alike : (bad : Option ℕ) → lines_end (in_profile profile c) pick lines bad ≡ lines_end c pick lines bad
        ends_alike (Some k) = refl
        ends_alike None = ap (λ (s : SimView). plans_end s (plans_of lines)) base_alike

pub second_profile_sweeps_same : SecondProfileSweepsSame
unfolding sweep_text sweep_end
second_profile_sweeps_same bytes c pick is unnamed none fine =
    let there_is : cluster_of (cluster_text (second_line ++ bytes)) ≡ Ok (in_profile 2 c) =
    ap cluster_of (text_second bytes) ∙ second_profile_reads_same (cluster_text bytes) c unnamed is in
    let lines = sweep_lines_asked c (script_lines bytes) in (
      (λ i. swept_over pick (script_second bytes i) (there_is i))
          ∙ ap (λ asked. lines_text (in_profile 2 c) pick asked (bad_sweep_line asked)) (sweep_lines_alike 2 c (script_lines bytes))
          ∙ lines_alike 2 c pick lines none (bad_sweep_line lines) fine
          ∙ ap (swept_over pick (script_lines bytes)) (sym is),
      (λ i. swept_end_over pick (script_second bytes i) (there_is i))
          ∙ ap (λ asked. lines_end (in_profile 2 c) pick asked (bad_sweep_line asked)) (sweep_lines_alike 2 c (script_lines bytes))
          ∙ ends_alike 2 c pick lines none (bad_sweep_line lines)
          ∙ ap (swept_end_over pick (script_lines bytes)) (sym is),
    )
