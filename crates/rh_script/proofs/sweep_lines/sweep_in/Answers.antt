use Rattle.std.proofs.Common.{◌≡◌, ℕ, List, [], map, ap, sym, ◌∙◌, arith}
use Rattle.std.proofs.lemmas.List.{nil_from_length}
use Rattle.std.proofs.lemmas.Bool.Decides.{nat_tests}
use Rattle.rh_script.specs.Lines.{raw_lines, content}
use Rattle.rh_script.specs.Fitting.{first_unfit}
use Rattle.rh_script.specs.SweepLines.{sweep_lines_asked, fits_sweep, begun_by, plan_text}
use Rattle.rh_script.specs.SweepReading.{SweepView, read_on, is_begun}
use Rattle.rh_script.proofs.SweepReading.{read_all}
use Rattle.rh_script.proofs.sweep_lines.sweep_in.Goals as goal

pub returns : goal.returns
returns c =
    let asked = λ (bytes : List ℕ). sweep_lines_asked c.args.cluster.now (map content (raw_lines bytes)) in
    let base = c.lines.base.items in
    let plans = map plan_text c.lines.plans.items in
    let none : c.lines.rest.now ≡ [] = nil_from_length c.lines.rest.now (grind (arith, nat_tests, c.is_empty.ensures, c.lines-test.false)) in
    let all = c.lines.invariant.read ∙ ap (λ (bytes : List ℕ). read_on base plans (asked bytes)) none ∙ read_all base plans in (
      c.lines.invariant.fit ∙ ap (λ (bytes : List ℕ). first_unfit fits_sweep begun_by c.lines.number (is_begun plans) (asked bytes)) none,
      ap (λ (s : SweepView). s.base) (sym all),
      ap (λ (s : SweepView). s.plans) (sym all),
    )
