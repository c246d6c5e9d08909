use Rattle.std.proofs.Common.{List, ℕ, take, filter, not, length, lit<, ap, ◌∙◌}
use Rattle.std.specs.Prelude.{◌==◌}
use Rattle.std.proofs.lemmas.Iterator.Consumers.{YieldsList-end}
use Rattle.std.proofs.lemmas.Iterator.Splits.{YieldsList-from_str_split}
use Rattle.rh_script.proofs.script.first_words.Goals as goal

pub returns : goal.returns
returns c =
    c.loop-part.invariant
    ∙ ap (λ (parts : List (List ℕ)). take 6 (filter (λ (w : List ℕ). not (length w == 0)) parts))
    (YieldsList-end (YieldsList-from_str_split 32 c.args.line.now (lit< tt) (cc) (cc) (cc)) c.loop-part.yielded _ c.loop-part.yielded_by _ _ c.in-None.is c.next.ensures.steps).0
