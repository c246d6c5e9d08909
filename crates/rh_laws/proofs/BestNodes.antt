-- In each settling that the rules allow, a placement is at a best node of its moment.
use Rattle.std.proofs.Common.{List, [], ◌∷◌, ◌++◌, fold, subst}
use Rattle.rh_rules.specs.declared.notice.Move.{Move}
use Rattle.rh_rules.specs.declared.notice.Move.TheVariants.{Placement}
use Rattle.rh_rules.specs.Course.{Course, fresh_of}
use Rattle.rh_rules.specs.Settling.{IsFirst, AreFirst}
use Rattle.rh_rules.specs.Moves.{moved}
use Rattle.rh_laws.specs.Laws.{PlacedAtBestNodes}

-- each move is a first one of its moment
first_then : (before : List Move) (o : Course) (m : Move) (after : List Move) → AreFirst o (before ++ m ∷ after)
    → IsFirst (fold moved o before).state (fresh_of (fold moved o before)) m
first_then [] o m after h = h.0
first_then (x ∷ xs) o m after h = first_then xs (moved o x) m after h.1

pub placed_at_best_nodes : PlacedAtBestNodes
placed_at_best_nodes o p run before after a from n is =
    (first_then before o (Placement a from n) after (subst (λ (moves : List Move). AreFirst o moves) is run.are_first)).enabled.2
