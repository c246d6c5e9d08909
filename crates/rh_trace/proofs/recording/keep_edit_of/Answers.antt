use Rattle.std.proofs.Common.{refl, arith}
use Rattle.std.proofs.lemmas.Grind.{common_steps}
use Rattle.rh_trace.proofs.Ways.{goes_one}
use Rattle.rh_trace.proofs.recording.keep_edit_of.Goals as goal

pub returns-clause-way : goal.returns-clause-way
returns-clause-way g c =
    let led = c.requires.exact c.set-edit.result c.set-edit.new.arg2
    (record { shown = _; shows = refl; left = _; met = c.set-edit.ensures; leaves = refl }) in
    grind (arith, common_steps, goes_one)
