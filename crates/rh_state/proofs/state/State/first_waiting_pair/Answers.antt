use Rattle.std.proofs.Common.{◌≡◌, slice_get}
use Rattle.rh_arena.specs.Lists.{listed}
use Rattle.rh_state.specs.Pairs.{waiting_list}
use Rattle.rh_state.specs.Stored.{read}
use Rattle.rh_state.proofs.Links.{waiting_listed}
use Rattle.rh_state.proofs.Walking.{first_pair}
use Rattle.rh_state.proofs.state.State.first_waiting_pair.Goals as goal

pub returns-clause-first : goal.returns-clause-first
unfolding read
returns-clause-first c =
    let cluster = c.self.inside.cluster.value in
    let words = c.self.inside.links in
    let node = rw (← c.self.view_is) at c.requires in
    let list = rw (← c.self.view_is) at c.waiting_list.ensures.list in
    let first : c.first.result ≡ slice_get (listed words (waiting_list cluster c.args.node)) 0 = rw list at c.first.ensures.first in
    rw (← c.self.view_is, waiting_listed cluster words c.args.node node)
    (first_pair cluster c.args.node (listed words (waiting_list cluster c.args.node)) c.first.result first
    (c.self.invariant.links.waiting c.args.node node)).0

pub returns-clause-pair : goal.returns-clause-pair
unfolding read
returns-clause-pair c =
    let cluster = c.self.inside.cluster.value in
    let words = c.self.inside.links in
    let node = rw (← c.self.view_is) at c.requires in
    let list = rw (← c.self.view_is) at c.waiting_list.ensures.list in
    let first : c.first.result ≡ slice_get (listed words (waiting_list cluster c.args.node)) 0 = rw list at c.first.ensures.first in
    rw (← c.self.view_is)
    (first_pair cluster c.args.node (listed words (waiting_list cluster c.args.node)) c.first.result first
    (c.self.invariant.links.waiting c.args.node node)).1
