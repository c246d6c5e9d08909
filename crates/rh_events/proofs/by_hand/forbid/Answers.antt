use Rattle.std.proofs.Common.{ap, ◌∙◌}
use Rattle.rh_state.specs.StateView.{place_of}
use Rattle.rh_state.specs.Setters.{unlisted}
use Rattle.rh_state.specs.Stored.{read}
use Rattle.rh_trace.specs.Traces.{TraceView}
use Rattle.rh_trace.proofs.Places.{off_unlisted_shaped}
use Rattle.rh_trace.proofs.Ways.{goes_told, goes_more}
use Rattle.rh_events.proofs.by_hand.forbid.Goals as goal

pub push_waiting-requires-clause-off : goal.push_waiting-requires-clause-off
push_waiting-requires-clause-off c =
    ap (λ s. place_of s c.args.node c.args.app) (c.in_ok-unlink.ensures.part ∙ ap (λ s. unlisted s c.args.node c.args.app) c.in_ok-set_allowed.ensures.part)
    ∙ off_unlisted_shaped (read c.args.state.now) c.args.node c.args.app c.formed.ensures.shape c.requires.node

pub returns-in_err-unlink-clause-way : goal.returns-in_err-unlink-clause-way
returns-in_err-unlink-clause-way c =
    let m = c.in_ok-tell.ensures.told in
    goes_more _ _ _ _ _ _ (goes_told _ _ _ _ (ap (λ (t : TraceView). t.notices) m) (ap (λ (t : TraceView). t.edits) m))
    (goes_more _ _ _ _ _ _ c.in_ok-set_allowed.ensures.way c.in_err-unlink.ensures.way)

pub returns-in_err-push_waiting-clause-way : goal.returns-in_err-push_waiting-clause-way
returns-in_err-push_waiting-clause-way c =
    let m = c.in_ok-tell.ensures.told in
    goes_more _ _ _ _ _ _ (goes_told _ _ _ _ (ap (λ (t : TraceView). t.notices) m) (ap (λ (t : TraceView). t.edits) m))
    (goes_more _ _ _ _ _ _ c.in_ok-set_allowed.ensures.way
    (goes_more _ _ _ _ _ _ c.in_ok-unlink.ensures.way c.in_err-push_waiting.ensures.way))

pub returns-clause-way : goal.returns-clause-way
returns-clause-way c =
    let m = c.in_ok-tell.ensures.told in
    goes_more _ _ _ _ _ _ (goes_told _ _ _ _ (ap (λ (t : TraceView). t.notices) m) (ap (λ (t : TraceView). t.edits) m))
    (goes_more _ _ _ _ _ _ c.in_ok-set_allowed.ensures.way
    (goes_more _ _ _ _ _ _ c.in_ok-unlink.ensures.way
    (goes_more _ _ _ _ _ _ c.in_ok-push_waiting.ensures.way c.set_distributed_standing.ensures.way)))
