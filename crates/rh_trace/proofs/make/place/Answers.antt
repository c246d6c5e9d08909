use Rattle.std.proofs.Common.{ap}
use Rattle.rh_trace.specs.Traces.{TraceView}
use Rattle.rh_trace.proofs.Ways.{goes_told, goes_more}
use Rattle.rh_trace.proofs.make.place.Goals as goal

pub returns-clause-way : goal.returns-clause-way
returns-clause-way c =
    let told = c.in_ok-tell.ensures.told in
    let tells = goes_told _ _ _ _ (ap (λ (t : TraceView). t.notices) told) (ap (λ (t : TraceView). t.edits) told) in
    goes_more _ _ _ _ _ _ (goes_more _ _ _ _ _ _ tells c.start_at.ensures.way) c.set_standing.ensures.way
