use Rattle.std.proofs.Common.{◌≡◌, ◌≤◌, ◌+◌, [], length, map, false}
use Rattle.rh_script.specs.Lines.{raw_lines, content}
use Rattle.rh_script.specs.Fitting.{first_unfit}
use Rattle.rh_script.specs.SweepLines.{sweep_lines_asked, fits_sweep, begun_by, plan_text}
use Rattle.rh_script.specs.SweepReading.{read_on, is_begun}
use Rattle.rh_script.proofs.sweep_lines.sweep_in.Given as goal

abbrev pub invariant-lines : goal.invariant-lines
invariant-lines l = record {
  fit : first_unfit fits_sweep begun_by 1 false (sweep_lines_asked l.cluster (map content (raw_lines l.script)))
      ≡ first_unfit fits_sweep begun_by l.number (is_begun (map plan_text l.plans.items)) (sweep_lines_asked l.cluster (map content (raw_lines l.rest)));
  read : read_on [] [] (sweep_lines_asked l.cluster (map content (raw_lines l.script)))
      ≡ read_on l.base.items (map plan_text l.plans.items) (sweep_lines_asked l.cluster (map content (raw_lines l.rest)));
  count : l.number + length l.rest ≤ length l.script + 1;
}

abbrev pub decreases-lines : goal.decreases-lines
decreases-lines l = length l.rest
