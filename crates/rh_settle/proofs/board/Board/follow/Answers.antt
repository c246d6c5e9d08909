use Rattle.std.proofs.Common.{ap, ◌∙◌, subst}
use Rattle.rh_state.specs.Shape.{IsAppOf}
use Rattle.rh_state.specs.Stored.{read}
use Rattle.rh_rules.specs.declared.notice.Move.{Move}
use Rattle.rh_rules.specs.declared.notice.Move.TheVariants.{Local, Placement, Takeover}
use Rattle.rh_settle.specs.Boards.{mover}
use Rattle.rh_rules.specs.Moves.{moved_state}
use Rattle.rh_settle.proofs.Boards.{followed, followed_twice}
use Rattle.rh_settle.proofs.board.Board.follow.Goals as goal

pub returns-in-Local : goal.returns-in-Local
returns-in-Local c = λ s fresh h is.
    let e = c.look_again.ensures in
    followed s (read c.args.state.now) (Local c.in-Local.node c.in-Local.app) fresh (is ∙ ap (moved_state s) c.in-Local.is)
    c.formed.ensures.shape (subst (λ (m : Move). IsAppOf (read c.args.state.now).cluster (mover m)) c.in-Local.is c.requires.app)
    c.args.self.now c.look_again.new.self c.in-Local.node (λ k d. d)
    (record { marks = e.marks; moving = e.moving; fresh = e.fresh; local = e.local; apart = e.apart; starts = e.starts; here = e.here; able = e.able }) h

pub returns-in-Placement : goal.returns-in-Placement
returns-in-Placement c = λ s fresh h is.
    let e = c.look_again-in-Placement.ensures in
    followed s (read c.args.state.now) (Placement c.in-Placement.app c.in-Placement.from c.in-Placement.node) fresh (is ∙ ap (moved_state s) c.in-Placement.is)
    c.formed.ensures.shape (subst (λ (m : Move). IsAppOf (read c.args.state.now).cluster (mover m)) c.in-Placement.is c.requires.app)
    c.args.self.now c.look_again-in-Placement.new.self c.in-Placement.node (λ k d. d)
    (record { marks = e.marks; moving = e.moving; fresh = e.fresh; local = e.local; apart = e.apart; starts = e.starts; here = e.here; able = e.able }) h

pub returns-in-Takeover : goal.returns-in-Takeover
returns-in-Takeover c = λ s fresh h is.
    let e = c.look_again-in-Takeover.ensures in
    let f = c.look_again-in-Takeover-2.ensures in
    followed_twice s (read c.args.state.now) (Takeover c.in-Takeover.app c.in-Takeover.from c.in-Takeover.node) fresh (is ∙ ap (moved_state s) c.in-Takeover.is)
    c.formed.ensures.shape (subst (λ (m : Move). IsAppOf (read c.args.state.now).cluster (mover m)) c.in-Takeover.is c.requires.app)
    c.args.self.now c.look_again-in-Takeover.new.self c.look_again-in-Takeover-2.new.self c.in-Takeover.node c.in-Takeover.from (λ k d g. (d, g))
    (record { marks = e.marks; moving = e.moving; fresh = e.fresh; local = e.local; apart = e.apart; starts = e.starts; here = e.here; able = e.able })
    (record { marks = f.marks; moving = f.moving; fresh = f.fresh; local = f.local; apart = f.apart; starts = f.starts; here = f.here; able = f.able }) h
