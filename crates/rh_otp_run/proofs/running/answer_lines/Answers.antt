use Rattle.std.proofs.Common.{◌∙◌, List, ℕ, None, Ok, Err, map, ap, subst, arith}
use Rattle.std.proofs.lemmas.Result.{err_from_is_err_and}
use Rattle.rh_model.specs.ClusterView.{ClusterView}
use Rattle.rh_script.specs.Lines.{raw_lines, content}
use Rattle.rh_script.specs.Commands.{line_of}
use Rattle.rh_manner.specs.MannerText.{said_by}
use Rattle.rh_otp_run.specs.LiveText.{Turns}
use Rattle.rh_otp_run.proofs.Turns.{breaks_here, ends_here, text_goes_on, bad_goes_on, refusals_go_on}
use Rattle.rh_otp_run.proofs.running.answer_lines.Goals as goal

pub returns-in_err-turn : goal.returns-in_err-turn
returns-in_err-turn g c =
    let takes = g.K.Sink.takes in
    let fails = g.K.Sink.fails in
    let c' = c.args.sim.now.cluster in
    let said = λ (ls : List (List ℕ)). said_by c' (map content ls) in
    let tail = said (raw_lines c.split_line.result.1.now) in
    let line = content c.split_line.result.0.now in
    let p = err_from_is_err_and c.from_residual.result c.from_residual.ensures.1 in
    let turn = subst (λ (l : List ℕ). Turns takes fails (Err c.in_err-turn.field-0.0) c.args.manner c.lines.sim c.answer_line.new.sim c.lines.number
    (l, line_of c' l) tail c.lines.writer c.answer_line.new.writer) c.content.ensures
    (subst (λ (k : ClusterView). Turns takes fails (Err c.in_err-turn.field-0.0) c.args.manner c.lines.sim c.answer_line.new.sim c.lines.number
    (c.content.result.now, line_of k c.content.result.now) tail c.lines.writer c.answer_line.new.writer) c.lines.invariant.same (c.in_err-turn.ensures.text tail)) in
    rw (p.1, p.2)
    (breaks_here takes fails c.args.manner c.args.sim.now c.lines.sim c.answer_line.new.sim c.lines.number c.lines.refused
    (said (raw_lines c.args.script.now)) (said (raw_lines c.lines.rest.now)) tail (line, line_of c' line)
    c.args.writer.now c.lines.writer c.answer_line.new.writer c.lines.invariant.text.0
    (ap said c.split_line.ensures.line) c.lines.invariant.text.1 c.lines.invariant.text.2 c.lines.invariant.fault c.lines.invariant.told
    c.in_err-turn.field-0.0 None turn)

pub returns-in-Ends : goal.returns-in-Ends
returns-in-Ends g c =
    let takes = g.K.Sink.takes in
    let fails = g.K.Sink.fails in
    let c' = c.args.sim.now.cluster in
    let said = λ (ls : List (List ℕ)). said_by c' (map content ls) in
    let tail = said (raw_lines c.split_line.result.1.now) in
    let line = content c.split_line.result.0.now in
    let turn = rw c.in-Ends.is at (subst (λ (l : List ℕ). Turns takes fails (Ok c.in_ok-turn.turn) c.args.manner c.lines.sim c.answer_line.new.sim c.lines.number
    (l, line_of c' l) tail c.lines.writer c.answer_line.new.writer) c.content.ensures
    (subst (λ (k : ClusterView). Turns takes fails (Ok c.in_ok-turn.turn) c.args.manner c.lines.sim c.answer_line.new.sim c.lines.number
    (c.content.result.now, line_of k c.content.result.now) tail c.lines.writer c.answer_line.new.writer) c.lines.invariant.same (c.in_ok-turn.ensures.text tail))) in
    ends_here takes fails c.args.manner c.args.sim.now c.lines.sim c.answer_line.new.sim c.lines.number c.lines.refused
    (said (raw_lines c.args.script.now)) (said (raw_lines c.lines.rest.now)) tail (line, line_of c' line)
    c.args.writer.now c.lines.writer c.answer_line.new.writer c.lines.invariant.text.0
    (ap said c.split_line.ensures.line) c.lines.invariant.text.1 c.lines.invariant.text.2 c.lines.invariant.fault c.lines.invariant.told turn

pub lines-preserved : goal.lines-preserved
lines-preserved g c =
    let takes = g.K.Sink.takes in
    let fails = g.K.Sink.fails in
    let c' = c.args.sim.now.cluster in
    let said = λ (ls : List (List ℕ)). said_by c' (map content ls) in
    let tail = said (raw_lines c.split_line.result.1.now) in
    let line = content c.split_line.result.0.now in
    let turn = rw c.in-Goes.is at (subst (λ (l : List ℕ). Turns takes fails (Ok c.in_ok-turn.turn) c.args.manner c.lines.sim c.answer_line.new.sim c.lines.number
    (l, line_of c' l) tail c.lines.writer c.answer_line.new.writer) c.content.ensures
    (subst (λ (k : ClusterView). Turns takes fails (Ok c.in_ok-turn.turn) c.args.manner c.lines.sim c.answer_line.new.sim c.lines.number
    (c.content.result.now, line_of k c.content.result.now) tail c.lines.writer c.answer_line.new.writer) c.lines.invariant.same (c.in_ok-turn.ensures.text tail))) in
    let was = c.in-Goes.was_refused in
    record {
      text = text_goes_on takes fails c.args.manner c.args.sim.now c.lines.sim c.answer_line.new.sim c.lines.number c.lines.refused
          (said (raw_lines c.args.script.now)) (said (raw_lines c.lines.rest.now)) tail (line, line_of c' line)
          c.args.writer.now c.lines.writer c.answer_line.new.writer c.lines.invariant.text.0
          (ap said c.split_line.ensures.line) c.lines.invariant.text.1 c.lines.invariant.text.2 c.lines.invariant.fault c.lines.invariant.told was turn;
      fault = bad_goes_on takes fails c.args.manner c.args.sim.now c.lines.sim c.answer_line.new.sim c.lines.number c.lines.refused
          (said (raw_lines c.args.script.now)) (said (raw_lines c.lines.rest.now)) tail (line, line_of c' line)
          c.args.writer.now c.lines.writer c.answer_line.new.writer c.lines.invariant.text.0
          (ap said c.split_line.ensures.line) c.lines.invariant.text.1 c.lines.invariant.text.2 c.lines.invariant.fault c.lines.invariant.told was turn;
      told = refusals_go_on takes fails c.args.manner c.args.sim.now c.lines.sim c.answer_line.new.sim c.lines.number c.lines.refused
          (said (raw_lines c.args.script.now)) (said (raw_lines c.lines.rest.now)) tail (line, line_of c' line)
          c.args.writer.now c.lines.writer c.answer_line.new.writer c.lines.invariant.text.0
          (ap said c.split_line.ensures.line) c.lines.invariant.text.1 c.lines.invariant.text.2 c.lines.invariant.fault c.lines.invariant.told was turn;
      watch = turn.5;
      same = c.in_ok-turn.ensures.cluster ∙ c.lines.invariant.same;
      count = omega (arith, c.lines.invariant.count, c.split_line.ensures.shorter);
    }
