use Rattle.rh_state.specs.Stored.{read}
use Rattle.rh_state.proofs.Walking.{pair_behind}
use Rattle.rh_state.proofs.state.State.next_pair.Goals as goal

pub returns-clause-next : goal.returns-clause-next
unfolding read
returns-clause-next c =
    let node = rw (← c.self.view_is) at c.requires.node in
    let pair = rw (← c.self.view_is) at c.requires.pair in
    let on = rw (← c.self.view_is) at c.requires.listed in
    rw (← c.self.view_is)
    (pair_behind c.self.inside.cluster.value c.self.inside.links c.args.node c.args.pair c.next.result c.self.invariant.links node pair on c.next.ensures.behind).0

pub returns-clause-pair : goal.returns-clause-pair
unfolding read
returns-clause-pair c =
    let node = rw (← c.self.view_is) at c.requires.node in
    let pair = rw (← c.self.view_is) at c.requires.pair in
    let on = rw (← c.self.view_is) at c.requires.listed in
    rw (← c.self.view_is)
    (pair_behind c.self.inside.cluster.value c.self.inside.links c.args.node c.args.pair c.next.result c.self.invariant.links node pair on c.next.ensures.behind).1
