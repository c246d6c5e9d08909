-- How much a finding is worth, as measured on real nodes (ours).
use Rattle.std.specs.Prelude.{Bool, true, false}
use Rattle.rh_step_findings.specs.declared.finding.StepFinding.{StepFinding}
use Rattle.rh_step_findings.specs.declared.finding.StepFinding.TheVariants.{BetterNodeNotStarted, TupleMemberNotStarted, WorseNodeNotStarted, ForbiddenStartWaits, RunsAtAWorseNode, TupleTakeover, BetterNodeWaitsQuiet, ForbidOtherNotStarted, OwnEnd, KindAfterLoss, DependencyGone, ForbidWithUnlistedNodes, TakeoverNotStarted, LocalForbiddenTwice, LocalStopWhileForbidden, OtherNodeWaits, NotInItsLists}

-- worth a warning: all but these, which were there, too, where live nodes agreed
abbrev pub is_warning : StepFinding → Bool
is_warning (OwnEnd n a) = false
is_warning (KindAfterLoss n a m) = false
is_warning (DependencyGone n a d) = false
is_warning (ForbidWithUnlistedNodes n a m) = false
is_warning (TakeoverNotStarted n a) = false
is_warning (LocalForbiddenTwice n a) = false
is_warning (LocalStopWhileForbidden n a) = false
is_warning (OtherNodeWaits n m) = false
is_warning (NotInItsLists n m) = false
is_warning _ = true

-- a live call or boot script doesn't return
abbrev pub hangs : StepFinding → Bool
hangs (BetterNodeNotStarted n a m) = true
hangs (TupleMemberNotStarted n a m) = true
hangs (WorseNodeNotStarted n a m) = true
hangs (ForbiddenStartWaits n a m) = true
hangs (RunsAtAWorseNode n a m) = true
hangs (TupleTakeover n a m) = true
hangs (BetterNodeWaitsQuiet n a m) = true
hangs (ForbidOtherNotStarted n a m) = true
hangs (ForbidWithUnlistedNodes n a m) = true
hangs _ = false
