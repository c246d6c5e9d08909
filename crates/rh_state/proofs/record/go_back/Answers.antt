use Rattle.std.proofs.Common.{◌-◌, ℕ, get_or, arith, ap, sym, subst, set, refl, ◌∙◌}
use Rattle.rh_base.proofs.Exchanges.{BackLoop, back_loop, AllBack-at}
use Rattle.rh_state.specs.Edits.{exchange, turned}
use Rattle.rh_state.specs.Records.{CanGoBack}
use Rattle.rh_state.specs.Stored.{Stored}
use Rattle.rh_state.specs.declared.edit.Edit.{Edit}
use Rattle.rh_state.proofs.record.go_back.Goals as goal

step_at : (c : goal.After-index-edits-left) → CanGoBack c.back.state (get_or c.back.edits (c.back.left - 1) c.index-edits-left.result)
step_at c =
    let m : ℕ = c.back.left - 1 in
    let w : Stored = c.args.state.now in
    let d : Edit = c.index-edits-left.result in
    let x : Edit = get_or c.back.edits m d in
    let l : BackLoop exchange turned w c.args.edits.now c.back.state c.back.edits m x =
    back_loop exchange turned w c.args.edits.now c.back.state c.back.edits c.back.left m x d (omega arith) c.back.invariant.within c.back.invariant.words
    c.back.invariant.edits refl in
    subst (λ (e : Edit). CanGoBack c.back.state e) (sym l.change)
    (subst (λ (v : Stored). CanGoBack v (get_or c.args.edits.now m x)) (sym l.reached)
    (AllBack-at exchange CanGoBack w c.args.edits.now m x l.inside c.requires))

pub back-requires-clause-done : goal.back-requires-clause-done
back-requires-clause-done c = (step_at c).done

pub back-requires-clause-formed : goal.back-requires-clause-formed
back-requires-clause-formed c = (step_at c).before

pub back-preserved : goal.back-preserved
back-preserved c =
    let m : ℕ = c.back.left - 1 in
    let w : Stored = c.args.state.now in
    let d : Edit = c.index-edits-left.result in
    let x : Edit = get_or c.back.edits m d in
    let l : BackLoop exchange turned w c.args.edits.now c.back.state c.back.edits m x =
    back_loop exchange turned w c.args.edits.now c.back.state c.back.edits c.back.left m x d (omega arith) c.back.invariant.within c.back.invariant.words
    c.back.invariant.edits refl in
    record {
      within = omega (arith, c.back.invariant.within);
      words = c.back-in-back.ensures.words ∙ l.words;
      edits = ap (λ (e : Edit). set c.back.edits m e) c.back-in-back.ensures.edit ∙ l.kept;
    }
