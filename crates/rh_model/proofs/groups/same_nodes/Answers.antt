use Rattle.std.proofs.lemmas.Slice.Eq.{slice_eq-Decides}
use Rattle.rh_model.proofs.Alike.{node_decides}
use Rattle.rh_model.proofs.groups.same_nodes.Goals as goal

pub returns : goal.returns
returns c = slice_eq-Decides node_decides _ _ _ c.eq.ensures
