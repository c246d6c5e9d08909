use Rattle.std.proofs.Common.{sym, ◌∙◌}
use Rattle.rh_state.specs.Stored.{read}
use Rattle.rh_state.proofs.Places.{off_unowned, running_owned, waiting_owned}
use Rattle.rh_state.proofs.state.State.place_of.Goals as goal

pub returns-in-None : goal.returns-in-None
unfolding read
returns-in-None c =
    let node = rw (← c.self.view_is) at c.requires.node in
    let number = rw (← c.self.view_is) at c.pair.ensures.pair in
    let owner = rw number at (sym c.list_of.ensures.word ∙ c.in-None.is) in
    rw (← c.self.view_is) (sym (off_unowned _ _ _ _ c.self.invariant.links node owner))

pub returns-then-list-node : goal.returns-then-list-node
unfolding read
returns-then-list-node c =
    let node = rw (← c.self.view_is) at c.requires.node in
    let number = rw (← c.self.view_is) at c.pair.ensures.pair in
    let owner = rw number at (sym c.list_of.ensures.word ∙ c.in-Some.is) in
    rw (← c.self.view_is) (sym (running_owned _ _ _ _ _ c.self.invariant.links node owner c.if-list-node.true))

pub returns-else-list-node : goal.returns-else-list-node
unfolding read
returns-else-list-node c =
    let node = rw (← c.self.view_is) at c.requires.node in
    let app = rw (← c.self.view_is) at c.requires.app in
    let number = rw (← c.self.view_is) at c.pair.ensures.pair in
    let owner = rw number at (sym c.list_of.ensures.word ∙ c.in-Some.is) in
    rw (← c.self.view_is) (sym (waiting_owned _ _ _ _ _ c.self.invariant.links node app owner c.if-list-node.false))
