use Rattle.std.proofs.Common.{◌≡◌, None, sym, ap, ◌∙◌}
use Rattle.std.specs.List.{list_any}
use Rattle.rh_state.specs.Stored.{read}
use Rattle.rh_rules.specs.Placing.{picked}
use Rattle.rh_rules.specs.Settling.{nexts}
use Rattle.rh_settle.specs.Calls.{can_call}
use Rattle.rh_trace.specs.Traces.{course}
use Rattle.rh_settle.proofs.Callers.{none_in_both}
use Rattle.rh_settle.proofs.GroupWalks.{neither}
use Rattle.rh_settle.proofs.Making.{none_left}
use Rattle.rh_settle.proofs.Starts.{nothing_moves}
use Rattle.rh_settle.proofs.settling.make_moves.Goals as goal
use Rattle.rh_settle.proofs.settling.make_moves.Goals.{Then-not-may_call-2}

nothing : (c : Then-not-may_call-2) → None ≡ picked c.args.pick (nexts (course (read c.args.state.now) c.args.trace.now))
nothing c =
    let s = read c.args.state.now in
    let marked = ap (list_any (can_call s)) (sym c.marked.ensures) ∙ (neither _ _ (sym c.may_call.ensures ∙ c.if-not-may_call.true)).1 in
    let freed = ap (list_any (can_call s)) (sym c.freed.ensures) ∙ (neither _ _ (sym c.may_call-then-not-may_call.ensures ∙ c.if-not-may_call-2.true)).1 in
    nothing_moves s _ c.args.ready c.args.pick c.formed.ensures.shape c.requires.ready
    (c.is_idle.ensures.starts c.if-is_idle.true) (c.is_idle.ensures.wanted c.if-is_idle.true)
    (none_in_both (can_call s) c.args.trace.now.freed c.args.trace.now.marked freed marked)

pub returns-then-not-may_call-2-clause-moved : goal.returns-then-not-may_call-2-clause-moved
returns-then-not-may_call-2-clause-moved c = sym (none_left (course (read c.args.state.now) c.args.trace.now) c.args.pick (nothing c)).0

pub returns-then-not-may_call-2-clause-still : goal.returns-then-not-may_call-2-clause-still
returns-then-not-may_call-2-clause-still c = (none_left (course (read c.args.state.now) c.args.trace.now) c.args.pick (nothing c)).1
