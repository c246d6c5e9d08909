use Rattle.std.proofs.Common.{sym, ap, length, ◌∙◌}
use Rattle.rh_history.proofs.Cuts.{length-cut}
use Rattle.rh_history.proofs.records.Records.len.Goals as goal

pub returns : goal.returns
returns g c = c.len.ensures ∙ c.self.inside.ends.ok.0 ∙ sym (length-cut 0 c.self.inside.ends.items c.self.inside.changes.items) ∙ ap length c.self.view_is
