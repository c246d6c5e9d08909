use Rattle.std.proofs.Common.{[], ◌∷◌, ◌++◌, List, map, ap, sym, ◌∙◌}
use Rattle.std.proofs.lemmas.List.{map_push}
use Rattle.rh_rules.specs.declared.event.Event.{Event}
use Rattle.rh_plans.specs.declared.plan.Plan.{Plan}
use Rattle.rh_script.specs.declared.sweep_lines.SweepLine.TheVariants as asks
use Rattle.rh_script.specs.SweepLines.{PlanText, plan_text}
use Rattle.rh_script.specs.SweepReading.{read_on}
use Rattle.rh_script.proofs.SweepReading.{begins_on, goes_on, plan_of}
use Rattle.rh_script.proofs.sweep_lines.take_line.Goals as goal

pub returns-in_ok-push-in-Begins-clause-taken : goal.returns-in_ok-push-in-Begins-clause-taken
returns-in_ok-push-in-Begins-clause-taken c = λ taken lines.
    let base = c.args.base.now.items in
    let old = c.args.plans.now.items in
    let name = c.in-Begins.name in
    let begun = map_push plan_text old _ ∙ ap (λ (events : List Event). map plan_text old ++ plan_of name events ∷ []) c.new-events.ensures.items in
    rw c.in-Begins.is
    (begins_on base (map plan_text old) name lines
    ∙ ap (λ (plans : List PlanText). read_on base plans lines) (sym (ap (map plan_text) c.in_ok-push-in-Begins.ensures.items ∙ begun)))

pub returns-in_ok-push-in-Some-clause-taken : goal.returns-in_ok-push-in-Some-clause-taken
returns-in_ok-push-in-Some-clause-taken c = λ taken lines.
    let base = c.args.base.now.items in
    let init = c.pop.new.self.items in
    let plan = c.in-Some.plan in
    let line = c.in-Plain.line in
    rw c.in-Plain.is
    (ap (λ (plans : List Plan). read_on base (map plan_text plans) (asks.Plain line ∷ lines)) c.in-Some.ensures.items
    ∙ ap (λ (plans : List PlanText). read_on base plans (asks.Plain line ∷ lines)) (map_push plan_text init plan)
    ∙ goes_on base (map plan_text init) (plan_text plan) line lines
    ∙ ap (λ (events : List Event). read_on base (map plan_text init ++ plan_of plan.name events ∷ []) lines) (sym c.in_ok-taken-in-Some.ensures.taken)
    ∙ ap (λ (plans : List PlanText). read_on base plans lines) (sym (ap (map plan_text) c.in_ok-push-in-Some.ensures.items ∙ map_push plan_text init _)))
