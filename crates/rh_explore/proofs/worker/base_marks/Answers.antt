use Rattle.std.proofs.Common.{◌≡◌, ℕ, List, IfOk, sym, ap, ◌∙◌, subst}
use Rattle.rh_state.specs.Stored.{Stored, read}
use Rattle.rh_trace.specs.Validity.{IsValid}
use Rattle.rh_explore.specs.Exploring.{key_of}
use Rattle.rh_explore.specs.Failures.{FailThere}
use Rattle.rh_explore.proofs.worker.base_marks.Goals as goal

pub make-requires : goal.make-requires
make-requires c = subst (λ (z : Stored). IsValid (read z)) (sym c.in_ok-state.ensures) c.requires.valid

pub marks-requires-clause-valid : goal.marks-requires-clause-valid
marks-requires-clause-valid c = subst (λ (z : Stored). IsValid (read z)) (sym (c.in_ok-make.ensures.state ∙ c.in_ok-state.ensures)) c.requires.valid

pub returns-clause-key : goal.returns-clause-key
returns-clause-key c =
    subst (λ (q : List ℕ). IfOk c.marks.result (λ marks. marks.key.bytes.items ≡ q))
    (c.in_ok-make.ensures.key ∙ ap (λ (z : Stored). key_of (read z)) c.in_ok-state.ensures) c.marks.ensures.key

pub returns-clause-fails : goal.returns-clause-fails
returns-clause-fails c =
    let s = c.args.search.now in
    subst (λ (z : Stored). IfOk c.marks.result (λ marks. FailThere s.pick c.args.known.now.firsts.now s.asks.now (read z) marks.fails.items))
    (c.in_ok-make.ensures.state ∙ c.in_ok-state.ensures) c.marks.ensures.fails
