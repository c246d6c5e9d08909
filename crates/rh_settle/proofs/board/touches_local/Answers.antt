use Rattle.rh_settle.proofs.Touches.{meets}
use Rattle.rh_settle.proofs.board.touches_local.Goals as goal

pub returns : goal.returns
returns c = meets c.args.cluster.now c.args.moved c.touched_by.result c.args.local.now c.and.result c.and.ensures c.touched_by.ensures.marks
    c.touched_by.ensures.others c.requires.marks c.is_empty.result c.is_empty.ensures.0 c.is_empty.ensures.1
