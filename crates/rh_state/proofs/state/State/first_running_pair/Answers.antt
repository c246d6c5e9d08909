use Rattle.rh_arena.specs.Lists.{listed}
use Rattle.rh_state.specs.Pairs.{running_list}
use Rattle.rh_state.specs.Stored.{read}
use Rattle.rh_state.proofs.Links.{running_listed}
use Rattle.rh_state.proofs.Walking.{first_pair}
use Rattle.rh_state.proofs.state.State.first_running_pair.Goals as goal

pub returns-clause-first : goal.returns-clause-first
unfolding read
returns-clause-first c =
    let cluster = c.self.inside.cluster.value in
    let words = c.self.inside.links in
    let node = rw (← c.self.view_is) at c.requires in
    rw (← c.self.view_is, running_listed cluster words c.args.node node)
    (first_pair cluster c.args.node (listed words (running_list c.args.node)) c.first.result c.first.ensures.first
    (c.self.invariant.links.running c.args.node node)).0

pub returns-clause-pair : goal.returns-clause-pair
unfolding read
returns-clause-pair c =
    let cluster = c.self.inside.cluster.value in
    let words = c.self.inside.links in
    let node = rw (← c.self.view_is) at c.requires in
    rw (← c.self.view_is)
    (first_pair cluster c.args.node (listed words (running_list c.args.node)) c.first.result c.first.ensures.first
    (c.self.invariant.links.running c.args.node node)).1
