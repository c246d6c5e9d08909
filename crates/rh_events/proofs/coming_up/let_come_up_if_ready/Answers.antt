use Rattle.std.proofs.Common.{sym, ◌∙◌}
use Rattle.rh_state.specs.Stored.{read}
use Rattle.rh_events.proofs.SoundComingUp.{waits_where_ready, idle_waits}
use Rattle.rh_events.proofs.coming_up.let_come_up_if_ready.Goals as goal

pub come_up-requires-clause-running : goal.come_up-requires-clause-running
come_up-requires-clause-running c =
    let s = read c.args.state.now in
    (idle_waits s c.args.node c.requires.sound (waits_where_ready s c.args.node (sym c.is_ready.ensures ∙ c.if-is_ready.true))).0

pub come_up-requires-clause-waiting : goal.come_up-requires-clause-waiting
come_up-requires-clause-waiting c =
    let s = read c.args.state.now in
    (idle_waits s c.args.node c.requires.sound (waits_where_ready s c.args.node (sym c.is_ready.ensures ∙ c.if-is_ready.true))).1
