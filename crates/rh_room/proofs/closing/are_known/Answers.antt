use Rattle.std.proofs.Common.{take, sym, subst, refl, arith}
use Rattle.std.proofs.lemmas.List.{take_all}
use Rattle.std.proofs.lemmas.List.Elements.{All-more, All-same}
use Rattle.rh_room.specs.Legal.{IsSession, PassView}
use Rattle.rh_room.proofs.closing.are_known.Goals as goal

pub loop-pass-preserved : goal.loop-pass-preserved
loop-pass-preserved c =
    let P : PassView → Type 0 = λ p. IsSession c.args.sessions p.session in
    All-more P c.args.passes.now c.loop-pass.pass-index c.pass-item.result (omega arith) c.loop-pass.invariant (subst P c.pass-item.is (grind arith))

pub returns : goal.returns
returns c =
    let P : PassView → Type 0 = λ p. IsSession c.args.sessions p.session in (
      λ _. All-same P c.args.passes.now (take c.loop-pass.pass-index c.args.passes.now)
          (sym (take_all c.loop-pass.pass-index c.args.passes.now (omega arith))) c.loop-pass.invariant,
      λ _. refl,
    )
