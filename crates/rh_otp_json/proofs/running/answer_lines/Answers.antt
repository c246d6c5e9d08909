use Rattle.std.proofs.Common.{List, ℕ, Some, None, Ok, Err, map, ap, subst, ◌∙◌, arith}
use Rattle.std.proofs.lemmas.Result.{err_from_is_err_and}
use Rattle.rh_script.specs.Lines.{raw_lines, content}
use Rattle.rh_model.specs.ClusterView.{ClusterView}
use Rattle.rh_otp_json.specs.LiveJson.{Turns}
use Rattle.rh_otp_json.proofs.Turns.{ends_here, text_goes_on, bad_goes_on}
use Rattle.rh_otp_json.proofs.running.answer_lines.Goals as goal

pub returns-in_err-bad : goal.returns-in_err-bad
returns-in_err-bad g c =
    let takes = g.K.Sink.takes in
    let fails = g.K.Sink.fails in
    let c' = c.args.sim.now.cluster in
    let asked = λ (ls : List (List ℕ)). map content ls in
    let tail = asked (raw_lines c.split_line.result.1.now) in
    let head = content c.split_line.result.0.now in
    let p = err_from_is_err_and c.from_residual.result c.from_residual.ensures.1 in
    let turn = subst (λ (h : List ℕ). Turns takes fails (Err c.in_err-bad.field-0.0) c' c.lines.sim c.answer_line.new.sim c.lines.number
    h tail c.lines.writer c.answer_line.new.writer) c.content.ensures
    (subst (λ (k : ClusterView). Turns takes fails (Err c.in_err-bad.field-0.0) k c.lines.sim c.answer_line.new.sim c.lines.number
    c.content.result.now tail c.lines.writer c.answer_line.new.writer) c.lines.invariant.same (c.in_err-bad.ensures.text tail)) in
    rw (p.1, p.2)
    (ends_here takes fails c' c.args.sim.now c.lines.sim c.answer_line.new.sim c.lines.number (asked (raw_lines c.args.script.now))
    (asked (raw_lines c.lines.rest.now)) tail head c.args.writer.now c.lines.writer c.answer_line.new.writer
    c.lines.invariant.text.0 (ap asked c.split_line.ensures.line) c.lines.invariant.text.1 c.lines.invariant.text.2
    c.lines.invariant.fault
    (Err c.in_err-bad.field-0.0) turn)

pub returns-in-Some : goal.returns-in-Some
returns-in-Some g c =
    let takes = g.K.Sink.takes in
    let fails = g.K.Sink.fails in
    let c' = c.args.sim.now.cluster in
    let asked = λ (ls : List (List ℕ)). map content ls in
    let tail = asked (raw_lines c.split_line.result.1.now) in
    let head = content c.split_line.result.0.now in
    let turn = rw c.in-Some.is at (subst (λ (h : List ℕ). Turns takes fails (Ok c.in_ok-bad.field-0) c' c.lines.sim c.answer_line.new.sim c.lines.number
    h tail c.lines.writer c.answer_line.new.writer) c.content.ensures
    (subst (λ (k : ClusterView). Turns takes fails (Ok c.in_ok-bad.field-0) k c.lines.sim c.answer_line.new.sim c.lines.number
    c.content.result.now tail c.lines.writer c.answer_line.new.writer)
    c.lines.invariant.same (c.in_ok-bad.ensures.text tail))) in
    ends_here takes fails c' c.args.sim.now c.lines.sim c.answer_line.new.sim c.lines.number (asked (raw_lines c.args.script.now))
    (asked (raw_lines c.lines.rest.now)) tail head c.args.writer.now c.lines.writer c.answer_line.new.writer
    c.lines.invariant.text.0 (ap asked c.split_line.ensures.line) c.lines.invariant.text.1 c.lines.invariant.text.2
    c.lines.invariant.fault
    (Ok (Some c.in-Some.bad)) turn

pub lines-preserved : goal.lines-preserved
lines-preserved g c =
    let takes = g.K.Sink.takes in
    let fails = g.K.Sink.fails in
    let c' = c.args.sim.now.cluster in
    let asked = λ (ls : List (List ℕ)). map content ls in
    let tail = asked (raw_lines c.split_line.result.1.now) in
    let head = content c.split_line.result.0.now in
    let turn = rw c.in-None.is at (subst (λ (h : List ℕ). Turns takes fails (Ok c.in_ok-bad.field-0) c' c.lines.sim c.answer_line.new.sim c.lines.number
    h tail c.lines.writer c.answer_line.new.writer) c.content.ensures
    (subst (λ (k : ClusterView). Turns takes fails (Ok c.in_ok-bad.field-0) k c.lines.sim c.answer_line.new.sim c.lines.number
    c.content.result.now tail c.lines.writer c.answer_line.new.writer)
    c.lines.invariant.same (c.in_ok-bad.ensures.text tail))) in
    record {
      text = text_goes_on takes fails c' c.args.sim.now c.lines.sim c.answer_line.new.sim c.lines.number (asked (raw_lines c.args.script.now))
          (asked (raw_lines c.lines.rest.now)) tail head c.args.writer.now c.lines.writer c.answer_line.new.writer
          c.lines.invariant.text.0
          (ap asked c.split_line.ensures.line) c.lines.invariant.text.1 c.lines.invariant.text.2 c.lines.invariant.fault turn;
      fault = bad_goes_on takes fails c' c.args.sim.now c.lines.sim c.answer_line.new.sim c.lines.number (asked (raw_lines c.args.script.now))
          (asked (raw_lines c.lines.rest.now)) tail head c.args.writer.now c.lines.writer c.answer_line.new.writer
          c.lines.invariant.text.0
          (ap asked c.split_line.ensures.line) c.lines.invariant.text.1 c.lines.invariant.text.2 c.lines.invariant.fault turn;
      watch = turn.4;
      same = c.in_ok-bad.ensures.cluster ∙ c.lines.invariant.same;
      count = omega (arith, c.lines.invariant.count, c.split_line.ensures.shorter);
    }
