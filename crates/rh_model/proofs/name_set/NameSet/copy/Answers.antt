use Rattle.std.proofs.Common.{◌∙◌}
use Rattle.rh_model.proofs.Texts.{bytes_of_clones}
use Rattle.rh_model.proofs.name_set.NameSet.copy.Goals as goal

pub returns : goal.returns
returns c =
    bytes_of_clones c.self.inside.names.keys c.in_ok-clone.field-0.keys c.in_ok-clone.ensures.cases ∙ c.self.view_is
