use Rattle.std.proofs.Common.{sym, subst}
use Rattle.rh_state.specs.Stored.{read}
use Rattle.rh_trace.specs.Traces.{course}
use Rattle.rh_settle.specs.Starting.{StartsAreMarked}
use Rattle.rh_trace.proofs.Counts.{weighed, weighed_more, on_ok_any}
use Rattle.rh_trace.proofs.Ways.{goes_more}
use Rattle.rh_step.proofs.Following.{risen_pairs, risen_runs}
use Rattle.rh_step.proofs.StartsKept.{starts_ready}
use Rattle.rh_step.proofs.step.follow_marked.Goals as goal

pub settle_marked-requires-clause-marked : goal.settle_marked-requires-clause-marked
settle_marked-requires-clause-marked c =
    risen_pairs (course (read c.args.state.now) c.args.trace.now) _ c.in_ok-let_ready_come_up.ensures.course c.requires.sound c.requires.marked

pub settle_marked-requires-clause-runs : goal.settle_marked-requires-clause-runs
settle_marked-requires-clause-runs c =
    risen_runs (course (read c.args.state.now) c.args.trace.now) _ c.in_ok-let_ready_come_up.ensures.course c.requires.sound

pub settle_marked-requires-clause-starts : goal.settle_marked-requires-clause-starts
settle_marked-requires-clause-starts c =
    let o = course (read c.args.state.now) c.args.trace.now in
    subst StartsAreMarked (sym c.in_ok-let_ready_come_up.ensures.course) (starts_ready o c.requires.starts)

pub returns-clause-way : goal.returns-clause-way
returns-clause-way c = goes_more _ _ _ _ _ _ c.let_ready_come_up.ensures.way c.settle_marked.ensures.way

pub returns-clause-few : goal.returns-clause-few
returns-clause-few c =
    let s = read c.args.state.now in
    on_ok_any c.settle_marked.result
    (weighed_more s.cluster 0 0 c.args.trace.now c.let_ready_come_up.new.trace c.settle_marked.new.trace
    c.in_ok-let_ready_come_up.ensures.few
    (weighed s.cluster 0 c.let_ready_come_up.new.trace c.settle_marked.new.trace c.settle_marked.ensures.way.notices c.settle_marked.ensures.edits))
