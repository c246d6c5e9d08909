use Rattle.std.proofs.Common.{◌<◌, ℕ, length, get_or, arith, ap, sym, subst, set, refl, ◌∙◌}
use Rattle.rh_base.proofs.Exchanges.{ForthLoop, forth_loop, AllForth-at}
use Rattle.rh_state.specs.Edits.{exchange, turned}
use Rattle.rh_state.specs.Records.{CanGoForth}
use Rattle.rh_state.specs.Stored.{Stored}
use Rattle.rh_state.specs.declared.edit.Edit.{Edit}
use Rattle.rh_state.proofs.record.go_forth.Goals as goal

step_at : (c : goal.After-index-edits-made) → CanGoForth c.forth.state (get_or c.forth.edits c.forth.made c.index-edits-made.result)
step_at c =
    let m : ℕ = c.forth.made in
    let w : Stored = c.args.state.now in
    let d : Edit = c.index-edits-made.result in
    let x : Edit = get_or c.forth.edits m d in
    let inside : m < length c.args.edits.now = omega (arith, c.forth.auto.edits, c.forth-test.true) in
    let l : ForthLoop exchange turned w c.args.edits.now c.forth.state c.forth.edits m x =
    forth_loop exchange turned w c.args.edits.now c.forth.state c.forth.edits m x d inside c.forth.invariant.words c.forth.invariant.edits refl in
    subst (λ (e : Edit). CanGoForth c.forth.state e) (sym l.change)
    (subst (λ (v : Stored). CanGoForth v (get_or c.args.edits.now m x)) (sym c.forth.invariant.words)
    (AllForth-at exchange CanGoForth w c.args.edits.now m x inside c.requires))

pub forth-requires-clause-undone : goal.forth-requires-clause-undone
forth-requires-clause-undone c = (step_at c).undone

pub forth-requires-clause-formed : goal.forth-requires-clause-formed
forth-requires-clause-formed c = (step_at c).after

pub forth-preserved : goal.forth-preserved
forth-preserved c =
    let m : ℕ = c.forth.made in
    let w : Stored = c.args.state.now in
    let d : Edit = c.index-edits-made.result in
    let x : Edit = get_or c.forth.edits m d in
    let inside : m < length c.args.edits.now = omega (arith, c.forth.auto.edits, c.forth-test.true) in
    let l : ForthLoop exchange turned w c.args.edits.now c.forth.state c.forth.edits m x =
    forth_loop exchange turned w c.args.edits.now c.forth.state c.forth.edits m x d inside c.forth.invariant.words c.forth.invariant.edits refl in
    record {
      within = omega (arith, inside);
      words = c.forth-in-forth.ensures.words ∙ l.words;
      edits = ap (λ (e : Edit). set c.forth.edits m e) c.forth-in-forth.ensures.edit ∙ l.kept;
    }
