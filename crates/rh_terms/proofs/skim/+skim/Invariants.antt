use Rattle.std.proofs.Common.{◌≡◌, ◌+◌, ◌*◌, length}
use Rattle.rh_terms.specs.Kept.{behind, elements_at}
use Rattle.rh_terms.proofs.skim.+skim.Given as goal

abbrev pub decreases-behind_term : goal.decreases-behind_term
decreases-behind_term l = 3 * l.room + 1

abbrev pub decreases-behind_inside : goal.decreases-behind_inside
decreases-behind_inside l = 3 * l.room

abbrev pub decreases-behind_elements : goal.decreases-behind_elements
decreases-behind_elements l = 3 * l.room + 2

abbrev pub invariant-behind_elements-elements : goal.invariant-behind_elements-elements
invariant-behind_elements-elements l = behind (elements_at l.room l.close l.rest) ≡ behind (elements_at l.room l.close l.bytes)

abbrev pub decreases-behind_elements-elements : goal.decreases-behind_elements-elements
decreases-behind_elements-elements l = length l.rest
