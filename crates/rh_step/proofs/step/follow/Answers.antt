use Rattle.rh_state.specs.Stored.{read}
use Rattle.rh_trace.specs.Traces.{course}
use Rattle.rh_trace.proofs.Counts.{weighed, weighed_more, on_ok_any}
use Rattle.rh_trace.proofs.Ways.{goes_more}
use Rattle.rh_step.proofs.Following.{risen_pairs, risen_runs}
use Rattle.rh_step.proofs.step.follow.Goals as goal

pub settle-requires-clause-marked : goal.settle-requires-clause-marked
settle-requires-clause-marked c =
    risen_pairs (course (read c.args.state.now) c.args.trace.now) _ c.in_ok-let_ready_come_up.ensures.course c.requires.sound c.requires.marked

pub settle-requires-clause-runs : goal.settle-requires-clause-runs
settle-requires-clause-runs c =
    risen_runs (course (read c.args.state.now) c.args.trace.now) _ c.in_ok-let_ready_come_up.ensures.course c.requires.sound

pub returns-clause-way : goal.returns-clause-way
returns-clause-way c = goes_more _ _ _ _ _ _ c.let_ready_come_up.ensures.way c.settle.ensures.way

pub returns-clause-few : goal.returns-clause-few
returns-clause-few c =
    let s = read c.args.state.now in
    on_ok_any c.settle.result
    (weighed_more s.cluster 0 0 c.args.trace.now c.let_ready_come_up.new.trace c.settle.new.trace
    c.in_ok-let_ready_come_up.ensures.few
    (weighed s.cluster 0 c.let_ready_come_up.new.trace c.settle.new.trace c.settle.ensures.way.notices c.settle.ensures.edits))
