-- A step behind earlier notices: what it makes of them and of the state.
use Rattle.std.proofs.Common.{◌≡◌, List, [], ◌++◌, None, refl, sym, ap, ◌∙◌, subst}
use Rattle.rh_state.specs.StateView.{StateView}
use Rattle.rh_state.specs.declared.edit.Edit.{Edit}
use Rattle.rh_rules.specs.declared.pick.Pick.{Pick}
use Rattle.rh_rules.specs.declared.notice.Notice.{Notice}
use Rattle.rh_trace.specs.Traces.{TraceView, trace_of, course}
use Rattle.rh_rules.specs.Course.{course_of}
use Rattle.rh_rules.specs.declared.event.Event.{Event}
use Rattle.rh_rules.specs.Refusals.{refused}
use Rattle.rh_rules.specs.Steps.{Outcome, outcome, outcome_of, next_from, next, Allowed}
use Rattle.rh_trace.specs.Validity.{IsValid}
use Rattle.rh_trace.proofs.Behind.{after_notices}
use Rattle.rh_step.proofs.NextAfter.{next_after}
use Rattle.rh_step.proofs.Outcomes.{next_allowed}
use Rattle.rh_step.proofs.Validity.{next_valid}

next_is : (s : StateView) (e : Event) (pick : Pick) → next s e pick ≡ outcome_of (next_from (course_of s [] []) e pick)
unfolding next
next_is s e pick = refl

-- a step from s, with these earlier notices and edits, led to the state t and told this
module _ (s t : StateView) (earlier told : List Notice) (begun trace : TraceView) (e : Event) (pick : Pick)
    (edits : List Edit)
    (begins : begun ≡ trace_of earlier [] [] edits) (made : course t trace ≡ next_from (course s begun) e pick) (gives : told ≡ trace.notices) where
  from_nothing : outcome t told ≡ outcome_of (after_notices earlier (next_from (course_of s [] []) e pick))
  from_nothing =
      ap (outcome t) gives ∙ ap outcome_of made
      ∙ ap (λ (v : TraceView). outcome_of (next_from (course s v) e pick)) begins ∙ ap outcome_of (next_after s earlier e pick)

  pub performed_state : t ≡ (next s e pick).state
  performed_state = ap (λ (p : Outcome). p.state) from_nothing ∙ sym (ap (λ (p : Outcome). p.state) (next_is s e pick))

  pub performed_notices : told ≡ earlier ++ (next s e pick).notices
  performed_notices = ap (λ (p : Outcome). p.notices) from_nothing ∙ sym (ap (λ (p : Outcome). earlier ++ p.notices) (next_is s e pick))

  pub performed_allowed : IsValid s → refused s e ≡ None → (more : List Notice) × (told ≡ earlier ++ more) × Allowed s e (outcome t more)
  performed_allowed valid fine =
      let allowed = subst (λ (v : StateView). Allowed s e (outcome v (next s e pick).notices)) (sym performed_state) (next_allowed s e pick valid fine) in
      ((next s e pick).notices, performed_notices, allowed)

  pub performed_valid : IsValid s → refused s e ≡ None → IsValid t
  performed_valid valid fine = subst IsValid (sym performed_state) (next_valid s e pick valid fine)
