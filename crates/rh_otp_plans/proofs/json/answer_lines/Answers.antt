use Rattle.std.proofs.Common.{List, ℕ, true, false, Ok, Err, map, ap, subst, sym, ◌∙◌, arith}
use Rattle.std.proofs.lemmas.Result.{err_from_is_err_and}
use Rattle.rh_model.specs.ClusterView.{ClusterView}
use Rattle.rh_script.specs.Lines.{raw_lines, content}
use Rattle.rh_otp_plans.specs.LiveSweepJson.{Turns}
use Rattle.rh_otp_plans.proofs.Bases.{text_goes_on, sim_goes_on, sim_ends, text_ends, breaks_here}
use Rattle.rh_otp_plans.proofs.json.answer_lines.Goals as goal

pub returns-in_err-answer_line-clause-text : goal.returns-in_err-answer_line-clause-text
returns-in_err-answer_line-clause-text g c =
    let takes = g.K.Sink.takes in
    let fails = g.K.Sink.fails in
    let c' = c.args.sim.now.cluster in
    let asked = λ (ls : List (List ℕ)). map content ls in
    let tail = asked (raw_lines c.split_line.result.1.now) in
    let head = content c.split_line.result.0.now in
    let f = c.in_err-answer_line.field-0.0 in
    let p = err_from_is_err_and c.from_residual.result c.from_residual.ensures.1 in
    let turn = subst (λ (h : List ℕ). Turns takes fails (Err f) c' c.lines.sim c.answer_line.new.sim c.lines.number
    h tail c.lines.writer c.answer_line.new.writer) c.content.ensures
    (subst (λ (k : ClusterView). Turns takes fails (Err f) k c.lines.sim c.answer_line.new.sim c.lines.number
    c.content.result.now tail c.lines.writer c.answer_line.new.writer) c.lines.invariant.same (c.in_err-answer_line.ensures.text tail)) in
    rw (p.1, p.2)
    (breaks_here takes fails c' c.args.sim.now c.lines.sim c.answer_line.new.sim c.lines.number (asked (raw_lines c.args.script.now))
    (asked (raw_lines c.lines.rest.now)) tail head c.args.writer.now c.lines.writer c.answer_line.new.writer
    c.lines.invariant.text.0 (ap asked c.split_line.ensures.line) c.lines.invariant.text.1 c.lines.invariant.text.2
    c.lines.invariant.sim f turn)

pub lines-preserved : goal.lines-preserved
lines-preserved g c =
    let takes = g.K.Sink.takes in
    let fails = g.K.Sink.fails in
    let c' = c.args.sim.now.cluster in
    let asked = λ (ls : List (List ℕ)). map content ls in
    let tail = asked (raw_lines c.split_line.result.1.now) in
    let head = content c.split_line.result.0.now in
    let b = c.in_ok-answer_line.field-0 in
    let turn = rw c.if-not-branch.false at (subst (λ (h : List ℕ). Turns takes fails (Ok b) c' c.lines.sim c.answer_line.new.sim c.lines.number
    h tail c.lines.writer c.answer_line.new.writer) c.content.ensures
    (subst (λ (k : ClusterView). Turns takes fails (Ok b) k c.lines.sim c.answer_line.new.sim c.lines.number
    c.content.result.now tail c.lines.writer c.answer_line.new.writer) c.lines.invariant.same (c.in_ok-answer_line.ensures.text tail))) in
    record {
      text = text_goes_on takes fails c' c.args.sim.now c.lines.sim c.answer_line.new.sim c.lines.number (asked (raw_lines c.args.script.now))
          (asked (raw_lines c.lines.rest.now)) tail head c.args.writer.now c.lines.writer c.answer_line.new.writer
          c.lines.invariant.text.0 (ap asked c.split_line.ensures.line) c.lines.invariant.text.1 c.lines.invariant.text.2 c.lines.invariant.sim turn;
      sim = sim_goes_on takes fails c' c.args.sim.now c.lines.sim c.answer_line.new.sim c.lines.number (asked (raw_lines c.args.script.now))
          (asked (raw_lines c.lines.rest.now)) tail head c.args.writer.now c.lines.writer c.answer_line.new.writer
          c.lines.invariant.text.0 (ap asked c.split_line.ensures.line) c.lines.invariant.text.1 c.lines.invariant.text.2 c.lines.invariant.sim turn;
      watch = turn.4;
      same = c.in_ok-answer_line.ensures.cluster ∙ c.lines.invariant.same;
      count = omega (arith, c.lines.invariant.count, c.split_line.ensures.shorter);
    }

pub returns-then-not-branch-clause-sim : goal.returns-then-not-branch-clause-sim
returns-then-not-branch-clause-sim g c =
    let takes = g.K.Sink.takes in
    let fails = g.K.Sink.fails in
    let c' = c.args.sim.now.cluster in
    let asked = λ (ls : List (List ℕ)). map content ls in
    let tail = asked (raw_lines c.split_line.result.1.now) in
    let head = content c.split_line.result.0.now in
    let b = c.in_ok-answer_line.field-0 in
    let turn = rw c.if-not-branch.true at (subst (λ (h : List ℕ). Turns takes fails (Ok b) c' c.lines.sim c.answer_line.new.sim c.lines.number
    h tail c.lines.writer c.answer_line.new.writer) c.content.ensures
    (subst (λ (k : ClusterView). Turns takes fails (Ok b) k c.lines.sim c.answer_line.new.sim c.lines.number
    c.content.result.now tail c.lines.writer c.answer_line.new.writer) c.lines.invariant.same (c.in_ok-answer_line.ensures.text tail))) in
    sim_ends takes fails c' c.args.sim.now c.lines.sim c.answer_line.new.sim c.lines.number (asked (raw_lines c.args.script.now))
    (asked (raw_lines c.lines.rest.now)) tail head c.args.writer.now c.lines.writer c.answer_line.new.writer
    c.lines.invariant.text.0 (ap asked c.split_line.ensures.line) c.lines.invariant.text.1 c.lines.invariant.text.2 c.lines.invariant.sim turn

pub returns-then-not-branch-clause-text : goal.returns-then-not-branch-clause-text
returns-then-not-branch-clause-text g c =
    let takes = g.K.Sink.takes in
    let fails = g.K.Sink.fails in
    let c' = c.args.sim.now.cluster in
    let asked = λ (ls : List (List ℕ)). map content ls in
    let tail = asked (raw_lines c.split_line.result.1.now) in
    let head = content c.split_line.result.0.now in
    let b = c.in_ok-answer_line.field-0 in
    let turn = rw c.if-not-branch.true at (subst (λ (h : List ℕ). Turns takes fails (Ok b) c' c.lines.sim c.answer_line.new.sim c.lines.number
    h tail c.lines.writer c.answer_line.new.writer) c.content.ensures
    (subst (λ (k : ClusterView). Turns takes fails (Ok b) k c.lines.sim c.answer_line.new.sim c.lines.number
    c.content.result.now tail c.lines.writer c.answer_line.new.writer) c.lines.invariant.same (c.in_ok-answer_line.ensures.text tail))) in
    text_ends takes fails c' c.args.sim.now c.lines.sim c.answer_line.new.sim c.lines.number (asked (raw_lines c.args.script.now))
    (asked (raw_lines c.lines.rest.now)) tail head c.args.writer.now c.lines.writer c.answer_line.new.writer
    c.lines.invariant.text.0 (ap asked c.split_line.ensures.line) c.lines.invariant.text.1 c.lines.invariant.text.2 c.lines.invariant.sim turn c.lines.invariant.watch
