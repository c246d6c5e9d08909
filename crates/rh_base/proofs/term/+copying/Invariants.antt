use Rattle.std.proofs.Common.{◌≡◌, take, map}
use Rattle.rh_base.specs.Tree.{tree_of}
use Rattle.rh_base.proofs.term.+copying.Given as goal

abbrev pub invariant-Terms::copy-terms : goal.invariant-Terms::copy-terms
invariant-Terms::copy-terms l = map tree_of l.items.items ≡ map tree_of (take l.term-index l.terms)
