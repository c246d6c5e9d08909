use Rattle.std.proofs.Common.{sym, ◌∙◌}
use Rattle.std.proofs.lemmas.List.{length-map}
use Rattle.rh_arena.specs.Lists.{listed}
use Rattle.rh_state.specs.Pairs.{app_of_pair}
use Rattle.rh_state.specs.Stored.{read}
use Rattle.rh_state.proofs.Links.{running_listed}
use Rattle.rh_state.proofs.state.State.running_count.Goals as goal

pub returns : goal.returns
unfolding read
returns c =
    let cluster = c.self.inside.cluster.value in
    let words = c.self.inside.links in
    let node = rw (← c.self.view_is) at c.requires in
    rw (← c.self.view_is, running_listed cluster words c.args.node node)
    (c.count.ensures.count ∙ sym (length-map (listed words c.args.node.0) (app_of_pair cluster c.args.node)))
