use Rattle.std.proofs.Common.{◌≤◌, ◌*◌, ◌^◌}
use Rattle.rh_trail.specs.SimView.{SimView, Held}
use Rattle.rh_outcomes.specs.Sweeping.{HasRoomFor}
use Rattle.rh_sweep.proofs.Trying.{Along}
use Rattle.rh_sweep.proofs.trial.go_ahead.Given as goal

abbrev pub invariant-loop-index : goal.invariant-loop-index
invariant-loop-index g l = record {
  failovers : l.failovers ≤ l.index * 2 ^ 64;
  takeovers : l.takeovers ≤ l.index * 2 ^ 64;
  along : (base : Held) (s : SimView) → g.S.Steps.stands l.fn.steps base s → HasRoomFor s l.events
      → Along (g.S.Steps.stands l.steps base) s l.events l.index l.failovers l.takeovers;
}
