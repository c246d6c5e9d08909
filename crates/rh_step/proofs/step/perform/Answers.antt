use Rattle.std.proofs.Common.{◌≡◌, [], ap, arith}
use Rattle.std.proofs.lemmas.Result.{on_ok_weaker}
use Rattle.rh_trace.specs.Traces.{trace_of}
use Rattle.rh_state.specs.Stored.{read}
use Rattle.rh_events.proofs.Counts.{on_ok_two}
use Rattle.rh_step.specs.Counts.{step_edits}
use Rattle.rh_rules.specs.Steps.{next}
use Rattle.rh_step.proofs.Counts.{added}
use Rattle.rh_step.proofs.Performing.{performed_state, performed_notices, performed_allowed, performed_valid}
use Rattle.rh_step.proofs.step.perform.Goals as goal

begins : (c : goal.Else-is_err) → c.of-trace.result ≡ trace_of c.args.notices.now.items [] [] c.args.edits.now.items
begins c = cc (c.of-trace.ensures, c.replace-earlier.ensures.value, c.replace-before.ensures.value)

pub returns-else-is_err-clause-state : goal.returns-else-is_err-clause-state
returns-else-is_err-clause-state c =
    on_ok_weaker c.make-made.result
    (λ made. performed_state _ _ _ _ _ c.make-made.new.trace _ _ _ (begins c) made c.into_parts.ensures.notices)
    c.make-made.ensures.course

pub returns-else-is_err-clause-notices : goal.returns-else-is_err-clause-notices
returns-else-is_err-clause-notices c =
    on_ok_weaker c.make-made.result
    (λ made. performed_notices _ _ _ _ _ c.make-made.new.trace _ _ _ (begins c) made c.into_parts.ensures.notices)
    c.make-made.ensures.course

pub returns-else-is_err-clause-allowed : goal.returns-else-is_err-clause-allowed
returns-else-is_err-clause-allowed c =
    on_ok_weaker c.make-made.result
    (λ made. performed_allowed _ _ _ _ _ c.make-made.new.trace _ _ _ (begins c) made c.into_parts.ensures.notices c.requires.valid c.requires.accepted)
    c.make-made.ensures.course

pub returns-else-is_err-clause-valid : goal.returns-else-is_err-clause-valid
returns-else-is_err-clause-valid c =
    on_ok_weaker c.make-made.result
    (λ made. performed_valid _ _ _ _ _ c.make-made.new.trace _ _ _ (begins c) made c.into_parts.ensures.notices c.requires.valid c.requires.accepted)
    c.make-made.ensures.course

pub returns-else-is_err-clause-few : goal.returns-else-is_err-clause-few
returns-else-is_err-clause-few c =
    let s = read c.args.state.now in
    let e = c.args.event.now in
    on_ok_two c.make-made.result
    (λ made few.
    let state = performed_state _ _ _ _ _ c.make-made.new.trace _ _ _ (begins c) made c.into_parts.ensures.notices in
    let adds = performed_notices _ _ _ _ _ c.make-made.new.trace _ _ _ (begins c) made c.into_parts.ensures.notices in
    let same = ap (step_edits s e) state in
    let sum = added s.cluster (step_edits s e (read c.make-made.new.state)) c.args.notices.now.items (next s e c.args.pick).notices
    c.into_parts.result.0.items c.args.edits.now.items c.into_parts.result.1.items c.of-trace.result c.make-made.new.trace
    (begins c) c.into_parts.ensures.notices adds c.into_parts.ensures.edits few in
    omega (arith, same, sum))
    c.make-made.ensures.course c.make-made.ensures.few
