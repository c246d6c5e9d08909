use Rattle.std.proofs.Common.{◌≡◌, ◌-◌, ℕ, take, get_or, false, sym, ap, ◌∙◌, arith}
use Rattle.std.specs.Prelude.{◌==◌}
use Rattle.std.proofs.lemmas.Bool.Decides.{nat_tests}
use Rattle.rh_verify.specs.Spaces.{without_back}
use Rattle.rh_verify.proofs.Backs.{one_less, all_kept}
use Rattle.rh_verify.proofs.spaces.without_back.Goals as goal
use Rattle.rh_verify.proofs.spaces.without_back.Goals.{then-loop-end-test+else-line-end-eq32, else-loop-end-test}

pub loop-end-preserved : goal.loop-end-preserved
loop-end-preserved c =
    let line = c.args.line.now in
    let end = c.loop-end.end in
    let space : get_or line (end - 1) 0 ≡ 32 = grind (arith, nat_tests, c.if-line-end-eq32.true) in
    record {
      within = omega (arith, c.loop-end.invariant.within);
      same = c.loop-end.invariant.same
          ∙ one_less line end (omega (arith, c.loop-end-test.true)) c.loop-end.invariant.within space;
    }

pub returns : goal.returns
returns c =
    let line = c.args.line.now in
    let end = c.loop-end.end in
    sym (c.loop-end.invariant.same ∙
    (elim c.loop-end-test.branch [
      | then-loop-end-test+else-line-end-eq32 w ↦
          let other : (get_or line (end - 1) 0 == 32) ≡ false = grind (arith, nat_tests, w.if-line-end-eq32.false) in
          all_kept line end (omega (arith, w.loop-end-test.true)) c.loop-end.invariant.within other
      | else-loop-end-test w ↦
          let none : end ≡ 0 = omega (arith, w.loop-end-test.false) in
          ap (λ (k : ℕ). without_back (take k line)) none ∙ ap (λ (k : ℕ). take k line) (sym none)
    ]))
