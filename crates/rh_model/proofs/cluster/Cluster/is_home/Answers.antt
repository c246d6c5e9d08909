use Rattle.std.proofs.Common.{◌∙◌}
use Rattle.rh_model.proofs.NeedsKept.{home_kept}
use Rattle.rh_model.proofs.cluster.Cluster.is_home.Goals as goal

pub returns : goal.returns
returns c = c.is_home.ensures ∙ home_kept c.args.self.now c.args.app c.args.node c.needs_of.result.now c.needs_of.ensures
