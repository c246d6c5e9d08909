use Rattle.std.proofs.Common.{refl, arith}
use Rattle.rh_model.proofs.Alike.{alike_more}
use Rattle.rh_model.proofs.name_set.NameSet.same.Goals as goal

pub loop-index-preserved : goal.loop-index-preserved
loop-index-preserved c = record {
  lengths = c.loop-index.invariant.lengths;
  same = alike_more c.args.self.now c.args.other.now c.loop-index.index c.get.result.now c.get-in-loop-index.result.now
      c.loop-index.invariant.lengths (omega arith) c.get.ensures c.get-in-loop-index.ensures
      (c.if-not-same_text.ensures.0 refl)
      c.loop-index.invariant.same;
}
