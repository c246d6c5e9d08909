use Rattle.std.proofs.Common.{ap}
use Rattle.rh_trace.specs.Traces.{TraceView}
use Rattle.rh_trace.proofs.Ways.{goes_marked, goes_more}
use Rattle.rh_events.proofs.marking.mark.Goals as goal

pub returns-in_err-set_restart-clause-way : goal.returns-in_err-set_restart-clause-way
returns-in_err-set_restart-clause-way c =
    let m = c.in_ok-mark.ensures.marked in
    goes_more _ _ _ _ _ _ (goes_marked _ _ _ (ap (λ (t : TraceView). t.notices) m) (ap (λ (t : TraceView). t.edits) m))
    (goes_more _ _ _ _ _ _ c.in_ok-push_waiting.ensures.way c.in_err-set_restart.ensures.way)

pub returns-clause-way : goal.returns-clause-way
returns-clause-way c =
    let m = c.in_ok-mark.ensures.marked in
    goes_more _ _ _ _ _ _ (goes_marked _ _ _ (ap (λ (t : TraceView). t.notices) m) (ap (λ (t : TraceView). t.edits) m))
    (goes_more _ _ _ _ _ _ c.in_ok-push_waiting.ensures.way
    (goes_more _ _ _ _ _ _ c.in_ok-set_restart.ensures.way c.want_by_mark.ensures.way))
