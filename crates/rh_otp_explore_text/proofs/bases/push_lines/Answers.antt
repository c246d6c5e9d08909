use Rattle.std.proofs.Common.{List, ℕ, map, ap, subst, ◌∙◌, arith}
use Rattle.rh_model.specs.ClusterView.{ClusterView}
use Rattle.rh_script.specs.Lines.{raw_lines, content}
use Rattle.rh_otp_explore_text.specs.Bases.{GoesOn}
use Rattle.rh_otp_explore_text.proofs.BaseLines.{text_goes_on, sim_goes_on, sim_ends, text_ends, all_told, all_made}
use Rattle.rh_otp_explore_text.proofs.bases.push_lines.Goals as goal

pub lines-preserved : goal.lines-preserved
lines-preserved c =
    let c' = c.args.sim.now.cluster in
    let asked = λ (ls : List (List ℕ)). map content ls in
    let tail = asked (raw_lines c.split_line.result.1.now) in
    let head = content c.split_line.result.0.now in
    let b = c.in_ok-push_line.field-0 in
    let out = c.lines.out.items in
    let new = c.push_line.new.out.items in
    let on = rw c.if-not-branch.false at (subst (λ (h : List ℕ). GoesOn b c' c.lines.sim c.push_line.new.sim c.lines.number h tail out new)
    c.content.ensures
    (subst (λ (k : ClusterView). GoesOn b k c.lines.sim c.push_line.new.sim c.lines.number c.content.result.now tail out new)
    c.lines.invariant.same (c.in_ok-push_line.ensures.goes_on tail))) in
    record {
      text = text_goes_on c' c.args.sim.now c.lines.sim c.push_line.new.sim c.lines.number (asked (raw_lines c.args.script.now))
          (asked (raw_lines c.lines.rest.now)) tail head c.args.out.now.items out new (ap asked c.split_line.ensures.line)
          c.lines.invariant.text c.lines.invariant.sim on;
      sim = sim_goes_on c' c.args.sim.now c.lines.sim c.push_line.new.sim c.lines.number (asked (raw_lines c.args.script.now))
          (asked (raw_lines c.lines.rest.now)) tail head c.args.out.now.items out new (ap asked c.split_line.ensures.line)
          c.lines.invariant.text c.lines.invariant.sim on;
      same = c.in_ok-push_line.ensures.cluster ∙ c.lines.invariant.same;
      count = omega (arith, c.lines.invariant.count, c.split_line.ensures.shorter);
    }

pub returns-then-not-branch-clause-sim : goal.returns-then-not-branch-clause-sim
returns-then-not-branch-clause-sim c =
    let c' = c.args.sim.now.cluster in
    let asked = λ (ls : List (List ℕ)). map content ls in
    let tail = asked (raw_lines c.split_line.result.1.now) in
    let head = content c.split_line.result.0.now in
    let b = c.in_ok-push_line.field-0 in
    let out = c.lines.out.items in
    let new = c.push_line.new.out.items in
    let on = rw c.if-not-branch.true at (subst (λ (h : List ℕ). GoesOn b c' c.lines.sim c.push_line.new.sim c.lines.number h tail out new)
    c.content.ensures
    (subst (λ (k : ClusterView). GoesOn b k c.lines.sim c.push_line.new.sim c.lines.number c.content.result.now tail out new)
    c.lines.invariant.same (c.in_ok-push_line.ensures.goes_on tail))) in
    sim_ends c' c.args.sim.now c.lines.sim c.push_line.new.sim c.lines.number (asked (raw_lines c.args.script.now))
    (asked (raw_lines c.lines.rest.now)) tail head c.args.out.now.items out new (ap asked c.split_line.ensures.line)
    c.lines.invariant.text c.lines.invariant.sim on

pub returns-then-not-branch-clause-out : goal.returns-then-not-branch-clause-out
returns-then-not-branch-clause-out c =
    let c' = c.args.sim.now.cluster in
    let asked = λ (ls : List (List ℕ)). map content ls in
    let tail = asked (raw_lines c.split_line.result.1.now) in
    let head = content c.split_line.result.0.now in
    let b = c.in_ok-push_line.field-0 in
    let out = c.lines.out.items in
    let new = c.push_line.new.out.items in
    let on = rw c.if-not-branch.true at (subst (λ (h : List ℕ). GoesOn b c' c.lines.sim c.push_line.new.sim c.lines.number h tail out new)
    c.content.ensures
    (subst (λ (k : ClusterView). GoesOn b k c.lines.sim c.push_line.new.sim c.lines.number c.content.result.now tail out new)
    c.lines.invariant.same (c.in_ok-push_line.ensures.goes_on tail))) in
    text_ends c' c.args.sim.now c.lines.sim c.push_line.new.sim c.lines.number (asked (raw_lines c.args.script.now))
    (asked (raw_lines c.lines.rest.now)) tail head c.args.out.now.items out new (ap asked c.split_line.ensures.line)
    c.lines.invariant.text c.lines.invariant.sim on
