use Rattle.rh_settle.proofs.search.next_move.Goals as goal

pub next_on-requires : goal.next_on-requires
next_on-requires c = λ n. c.of-board.ensures.exact n

pub returns : goal.returns
returns c = c.next_on.ensures c.args.fresh.now c.of-board.ensures
