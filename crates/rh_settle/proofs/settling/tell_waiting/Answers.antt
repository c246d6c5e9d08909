use Rattle.std.proofs.Common.{List, ◌<◌, length, ◌∙◌, subst, arith}
use Rattle.rh_state.specs.Stored.{read}
use Rattle.rh_rules.specs.declared.notice.Pair.{Pair}
use Rattle.rh_trace.specs.Traces.{course}
use Rattle.rh_settle.proofs.Making.{one_told, same_marks}
use Rattle.rh_trace.proofs.Ways.{goes_more}
use Rattle.rh_settle.proofs.settling.tell_waiting.Goals as goal

pub marked-preserved : goal.marked-preserved
marked-preserved c =
    let first = course (read c.args.state.now) c.args.trace.now in
    let o = course (read c.args.state.now) c.marked.trace in
    let p = course (read c.args.state.now) c.tell_if_waiting.new.trace in
    let seen = c.marked-in-marked.ensures ∙ c.marked.invariant.marked in
    let made = c.in_ok-tell_if_waiting.ensures.course in
    let below = subst (λ (ps : List Pair). c.marked.index < length ps) c.marked-count.ensures c.marked-test.true in
    record {
      same = one_told first o p _ _ _ seen made below c.marked.invariant.same;
      marked = same_marks first o p _ _ _ seen made c.marked.invariant.marked;
      way = goes_more _ _ _ _ _ _ c.marked.invariant.way c.tell_if_waiting.ensures.way;
      few = omega (arith, c.marked.invariant.few, c.tell_if_waiting.ensures.few);
    }

pub returns-in_err-tell_if_waiting-clause-way : goal.returns-in_err-tell_if_waiting-clause-way
returns-in_err-tell_if_waiting-clause-way c = goes_more _ _ _ _ _ _ c.marked.invariant.way c.tell_if_waiting.ensures.way
