use Rattle.std.proofs.Common.{ℕ, List, Option, take, length, get_or, sym, ap, ◌∙◌, arith}
use Rattle.std.proofs.lemmas.List.{take_all}
use Rattle.std.proofs.lemmas.List.Sums.{fold_more}
use Rattle.rh_explore.specs.Failures.{told_at, all_told}
use Rattle.rh_explore.proofs.FirstsTold.{as_many_told}
use Rattle.rh_explore.proofs.space.fail_at.Goals as goal

pub tell_at-requires : goal.tell_at-requires
tell_at-requires c =
    let i = c.fails.ask-index in
    let l = c.requires i 0 c.fails-test.true in
    let many = ap (λ (os : List (Option ℕ)). length os) c.fails.invariant in
    omega (arith, l, many, as_many_told c.args.number c.args.firsts.now.items (take i c.args.fails.now))

pub fails-preserved : goal.fails-preserved
fails-preserved c =
    let i = c.fails.ask-index in
    c.tell_at.ensures
    ∙ ap (λ (os : List (Option ℕ)). told_at c.args.number os (get_or c.args.fails.now i 0)) c.fails.invariant
    ∙ sym (fold_more (told_at c.args.number) c.args.firsts.now.items c.args.fails.now i 0 c.fails-test.true)

pub returns : goal.returns
returns c =
    c.fails.invariant
    ∙ ap (all_told c.args.number c.args.firsts.now.items) (take_all c.fails.ask-index c.args.fails.now (omega (arith, c.fails-test.false)))
