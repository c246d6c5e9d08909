use Rattle.std.proofs.Common.{ap, ◌∙◌}
use Rattle.rh_state.specs.StateView.{place_of}
use Rattle.rh_state.specs.Stored.{read}
use Rattle.rh_trace.proofs.Places.{off_unlisted_shaped}
use Rattle.rh_trace.proofs.make.stop_at.Goals as goal

pub push_waiting-requires-clause-off : goal.push_waiting-requires-clause-off
push_waiting-requires-clause-off c =
    ap (λ s. place_of s c.args.node c.args.app) c.in_ok-unlink.ensures.part
    ∙ off_unlisted_shaped (read c.args.state.now) c.args.node c.args.app c.formed.ensures.shape c.requires.node
