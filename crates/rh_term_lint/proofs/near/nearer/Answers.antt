use Rattle.std.proofs.Common.{◌∙◌, sym, ap, arith}
use Rattle.std.specs.Option.{option_map}
use Rattle.rh_term_lint.specs.Near.{edits}
use Rattle.rh_term_lint.proofs.Fewest.{far, near_more, nearer, no_nearer, lighter}
use Rattle.rh_term_lint.proofs.near.nearer.Goals as goal

pub returns-then-not-branch : goal.returns-then-not-branch
returns-then-not-branch c = far c.args.word.now c.args.name.now _ (grind arith)

pub returns-in-None : goal.returns-in-None
returns-in-None c = λ names h.
    sym (ap (λ best. lighter (edits c.args.word.now) c.args.name.now (option_map (λ other. other.now) best)) c.in-None.is)
    ∙ near_more c.args.word.now c.args.name.now _ (grind arith) names h

pub returns-then-branch : goal.returns-then-branch
returns-then-branch c = λ names h.
    sym (nearer c.args.word.now c.args.name.now c.in-Some.other.now (omega (arith, c.in_ok-edits-in-Some.ensures, c.in_ok-edits-in-Some-2.ensures)))
    ∙ sym (ap (λ best. lighter (edits c.args.word.now) c.args.name.now (option_map (λ other. other.now) best)) c.in-Some.is)
    ∙ near_more c.args.word.now c.args.name.now _ (grind arith) names h

pub returns-else-branch : goal.returns-else-branch
returns-else-branch c = λ names h.
    sym (no_nearer c.args.word.now c.args.name.now c.in-Some.other.now (omega (arith, c.in_ok-edits-in-Some.ensures, c.in_ok-edits-in-Some-2.ensures)))
    ∙ sym (ap (λ best. lighter (edits c.args.word.now) c.args.name.now (option_map (λ other. other.now) best)) c.in-Some.is)
    ∙ near_more c.args.word.now c.args.name.now _ (grind arith) names h
