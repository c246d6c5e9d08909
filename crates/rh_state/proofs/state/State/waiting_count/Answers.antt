use Rattle.std.proofs.Common.{◌≡◌, length, sym, ◌∙◌}
use Rattle.std.proofs.lemmas.List.{length-map}
use Rattle.rh_arena.specs.Lists.{listed}
use Rattle.rh_state.specs.Pairs.{app_of_pair, waiting_list}
use Rattle.rh_state.specs.Stored.{read}
use Rattle.rh_state.proofs.Links.{waiting_listed}
use Rattle.rh_state.proofs.state.State.waiting_count.Goals as goal

pub returns : goal.returns
unfolding read
returns c =
    let cluster = c.self.inside.cluster.value in
    let words = c.self.inside.links in
    let node = rw (← c.self.view_is) at c.requires in
    let list = rw (← c.self.view_is) at c.waiting_list.ensures.list in
    let count : c.count.result ≡ length (listed words (waiting_list cluster c.args.node)) = rw list at c.count.ensures.count in
    rw (← c.self.view_is, waiting_listed cluster words c.args.node node)
    (count ∙ sym (length-map (listed words (waiting_list cluster c.args.node)) (app_of_pair cluster c.args.node)))
