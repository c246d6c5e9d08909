use Rattle.std.proofs.Common.{◌≡◌, [], length, ap, arith}
use Rattle.std.proofs.lemmas.List.{nil_from_length}
use Rattle.std.proofs.lemmas.Bool.Decides.{nat_tests}
use Rattle.rh_script.specs.Lines.{raw_lines}
use Rattle.rh_lint.proofs.finding.line_count.Goals as goal

pub returns-clause-count : goal.returns-clause-count
returns-clause-count c =
    let none : c.lines.rest.now ≡ [] = nil_from_length c.lines.rest.now (grind (arith, nat_tests, c.is_empty.ensures, c.lines-test.false)) in
    omega (arith, c.lines.invariant.count, ap (λ bytes. length (raw_lines bytes)) none)

pub lines-preserved : goal.lines-preserved
lines-preserved c =
    record {
      count = omega (arith, c.lines.invariant.count, ap length c.split_line.ensures.line);
      within = omega (arith, c.lines.invariant.within, c.split_line.ensures.shorter);
    }
