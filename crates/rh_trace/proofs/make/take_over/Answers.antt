use Rattle.rh_trace.proofs.Ways.{goes_told_more, goes_more}
use Rattle.rh_trace.proofs.make.take_over.Goals as goal

pub returns-in_err-stop_at-clause-way : goal.returns-in_err-stop_at-clause-way
returns-in_err-stop_at-clause-way c =
    let tells = goes_told_more _ _ _ c.tell_takeover.ensures.grows c.tell_takeover.ensures.edits in
    goes_more _ _ _ _ _ _ (goes_more _ _ _ _ _ _ tells c.start_at.ensures.way) c.stop_at.ensures.way

pub returns-clause-way : goal.returns-clause-way
returns-clause-way c =
    let tells = goes_told_more _ _ _ c.tell_takeover.ensures.grows c.tell_takeover.ensures.edits in
    let stops = goes_more _ _ _ _ _ _ (goes_more _ _ _ _ _ _ tells c.start_at.ensures.way) c.stop_at.ensures.way in
    goes_more _ _ _ _ _ _ stops c.set_standing.ensures.way
