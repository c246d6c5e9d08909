use Rattle.std.proofs.Common.{ℕ, List, sym, ap, ◌∙◌}
use Rattle.std.specs.Str.{bytes_eq}
use Rattle.rh_verify.specs.Spaces.{without_front}
use Rattle.rh_verify.proofs.Texts.{found}
use Rattle.rh_verify.proofs.judging.has_line.Goals as goal

pub returns-then-eq : goal.returns-then-eq
returns-then-eq c =
    let wanted = c.without_front-wanted.result.now in
    sym (found (λ (l : List ℕ). bytes_eq (without_front l) (without_front c.args.line.now)) c.args.report.now c.loop-line.line-index _ c.loop-line-test.true
    (ap (λ (t : List ℕ). bytes_eq t (without_front c.args.line.now)) (sym c.without_front.ensures)
    ∙ ap (λ (t : List ℕ). bytes_eq c.without_front.result.now t) (sym c.without_front-wanted.ensures)
    ∙ sym c.eq.ensures ∙ c.if-eq.true))
