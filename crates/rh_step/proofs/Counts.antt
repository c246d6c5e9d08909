-- How many edits a step keeps.
use Rattle.std.proofs.Common.{◌≡◌, ◌≤◌, ◌+◌, ◌-◌, ◌*◌, ℕ, List, [], ◌++◌, length, sym, ap, ◌∙◌, arith}
use Rattle.rh_model.specs.ClusterView.{ClusterView}
use Rattle.rh_state.specs.StateView.{StateView}
use Rattle.rh_state.specs.declared.edit.Edit.{Edit}
use Rattle.rh_rules.specs.declared.notice.Notice.{Notice}
use Rattle.rh_trace.specs.Counts.{FewWeighed, weights}
use Rattle.rh_trace.specs.Traces.{TraceView, trace_of}
use Rattle.rh_trace.proofs.Counts.{weights_joined}
use Rattle.rh_rules.specs.declared.event.Event.{Event}
use Rattle.rh_rules.specs.declared.event.Event.TheVariants.{Boot}
use Rattle.rh_events.specs.Counts.{own_edits}
use Rattle.rh_step.specs.Counts.{step_edits}

-- an event's own edits are among those of its step
own_at_most : (s t : StateView) (e : Event) → own_edits s.cluster e ≤ step_edits s e t
own_at_most s t (Boot n) = omega arith
own_at_most s t _ = omega arith

pub of_step : (s t : StateView) (e : Event) (old new : TraceView) → FewWeighed s.cluster (own_edits s.cluster e) old new
    → FewWeighed s.cluster (step_edits s e t) old new
of_step s t e old new few = let most = own_at_most s t e in omega (arith, most, few)

-- by the number of timers that fired
pub by_timers : (c : ClusterView) (old new : TraceView) (before after : ℕ) → after ≤ before
    → length new.edits + 4 * weights c old.notices + 3 * after ≤ length old.edits + (4 * weights c new.notices + 3 * before)
    → FewWeighed c (3 * (before - after)) old new
by_timers c old new before after fewer few = omega (arith, fewer, few)

-- behind earlier notices and edits
pub added : (c : ClusterView) (more : ℕ) (earlier told all : List Notice) (kept edits : List Edit) (begun trace : TraceView)
    → begun ≡ trace_of earlier [] [] kept → all ≡ trace.notices → all ≡ earlier ++ told → edits ≡ trace.edits
    → FewWeighed c more begun trace → length edits ≤ length kept + (4 * weights c told + more)
added c more earlier told all kept edits begun trace begins is adds same few =
    let before = ap (λ (t : TraceView). weights c t.notices) begins in
    let had = ap (λ (t : TraceView). length t.edits) begins in
    let behind = ap (weights c) (sym is ∙ adds) in
    let sum = weights_joined c earlier told in
    let has = ap (λ (es : List Edit). length es) same in
    omega (arith, before, had, behind, sum, has, few)
