use Rattle.std.proofs.Common.{◌≡◌, drop}
use Rattle.std.specs.List.{list_all}
use Rattle.rh_state.specs.StateView.{runs_at}
use Rattle.rh_state.specs.Stored.{read}
use Rattle.rh_place.proofs.operating.needs_run.Given as goal

abbrev pub invariant-needs : goal.invariant-needs
invariant-needs l = list_all (runs_at (read l.state) l.node) (drop l.need-index l.needs) ≡ list_all (runs_at (read l.state) l.node) l.needs
