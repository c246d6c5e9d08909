use Rattle.std.proofs.Common.{◌≡◌, ◌-◌, suc, ap, ◌∙◌, arith}
use Rattle.rh_history.specs.Records.{begin_at}
use Rattle.rh_history.proofs.Cuts.{end_is}
use Rattle.rh_history.proofs.records.start_of.Goals as goal

pub returns-else-index-eq0 : goal.returns-else-index-eq0
returns-else-index-eq0 c =
    let at : suc (c.args.index - 1) ≡ c.args.index = omega (arith, c.if-index-eq0.false) in
    end_is 0 c.args.ends.now (c.args.index - 1) 0 (omega (arith, c.if-index-eq0.false, c.requires)) ∙ ap (begin_at 0 c.args.ends.now) at
