use Rattle.std.proofs.Common.{◌∙◌, ℕ, Option, sym}
use Rattle.rh_keys.proofs.Places.{there_of}
use Rattle.rh_explore.proofs.FirstsTold.{told_before, told_here}
use Rattle.rh_explore.proofs.space.tell_at.Goals as goal

pub returns-then-is_some : goal.returns-then-is_some
returns-then-is_some c =
    let old = c.args.firsts.now.items in
    let o : Option ℕ = c.index.result.now in
    told_before c.args.number old c.args.ask o (there_of old c.args.ask o c.requires c.index.ensures) (sym c.is_some.ensures ∙ c.if-is_some.true)

pub returns : goal.returns
returns c =
    let old = c.args.firsts.now.items in
    let o : Option ℕ = c.index.result.now in
    told_here c.args.number old c.args.ask o (there_of old c.args.ask o c.requires c.index.ensures) (sym c.is_some.ensures ∙ c.if-is_some.false)
