-- How it is told what a live OTP does otherwise at a step (ours).
use Rattle.std.specs.Prelude.{ℕ, List, [], codes}
use Rattle.rh_model.specs.ClusterView.{ClusterView}
use Rattle.rh_calls.specs.Report.{node_word, app_word}
use Rattle.rh_step_findings.specs.declared.finding.StepFinding.{StepFinding}
use Rattle.rh_step_findings.specs.declared.finding.StepFinding.TheVariants.{BetterNodeNotStarted, TupleMemberNotStarted, WorseNodeNotStarted, ForbiddenStartWaits, RunsAtAWorseNode, TupleTakeover, BetterNodeWaitsQuiet, PermitStartsQuiet, DependencyForbiddenAtStart, BeforeDependency, ForbidMoves, ForbidOtherNotStarted, StartWithinTime, NobodySawTheLoss, WeightsForEver, StartWhereNotListed, TakeoverWhereForbidden, StartOfAWaitingLocal, OwnEnd, KindAfterLoss, DependencyGone, NeedsADistributedOne, ForbidWithUnlistedNodes, TakeoverNotStarted, LocalForbiddenTwice, LocalStopWhileForbidden, OtherNodeWaits, NotInItsLists}
use Rattle.rh_findings.specs.Sentences.{WordsView, NamesView}

abbrev pub words : List ℕ → List ℕ → List ℕ → List ℕ → WordsView
words begin first second third = record { begin = begin; first = first; second = second; third = third }

abbrev pub names : List ℕ → List ℕ → List ℕ → NamesView
names first second third = record { first = first; second = second; third = third }

-- the code and the words, in which names stand
abbrev pub words_of : StepFinding → WordsView
words_of (BetterNodeNotStarted n a m) = words (codes "better_node_not_started: ") (codes " is started at ") (codes ", and ") (codes ", before it in the list, is up and hasn't started it: live it hangs")
words_of (TupleMemberNotStarted n a m) = words (codes "tuple_member_not_started: ") (codes " is started at ") (codes ", and ") (codes " of the same tuple is up and hasn't started it: live it hangs")
words_of (WorseNodeNotStarted n a m) = words (codes "worse_node_not_started: ") (codes " is started at ") (codes ", and ") (codes ", behind it in the list, is up and hasn't started it: live it hangs")
words_of (ForbiddenStartWaits n a m) = words (codes "forbidden_start_waits: ") (codes " is started at ") (codes ", where it is forbidden, and ") (codes " may run it and hasn't started it: live it hangs")
words_of (RunsAtAWorseNode n a m) = words (codes "runs_at_a_worse_node: ") (codes " is started at ") (codes ", and runs at ") (codes ", which is none of its best nodes: live it hangs")
words_of (TupleTakeover n a m) = words (codes "tuple_takeover: ") (codes " is started at ") (codes ", and ") (codes " of the same tuple is up, too, while it runs behind them: live it can hang")
words_of (BetterNodeWaitsQuiet n a m) = words (codes "better_node_waits_quiet: ") (codes " is started at ") (codes ", and ") (codes " holds it stopped: live it hangs")
words_of (PermitStartsQuiet n a) = words (codes "permit_starts_quiet: ") (codes " is stopped, and live the permission at ") (codes " starts it") []
words_of (DependencyForbiddenAtStart n a d) = words (codes "dependency_forbidden_at_start: ") (codes " boots ") (codes ", which needs ") (codes ", forbidden there: live it is never started by itself")
words_of (BeforeDependency n a d) = words (codes "before_dependency: ") (codes " boots ") (codes " before ") (codes ", which it needs: live it is never started by itself")
words_of (ForbidMoves n a m) = words (codes "forbid_moves: ") (codes " is forbidden at ") (codes ", and ") (codes " holds it ready: live both run it for a moment")
words_of (ForbidOtherNotStarted n a m) = words (codes "forbid_other_not_started: ") (codes " is forbidden at ") (codes ", and ") (codes " may run it and hasn't started it: live it hangs, and runs on")
words_of (StartWithinTime n a m) = words (codes "start_within_time: ") (codes " is started at ") (codes " within the time in which it waits for ") (codes ": live it may start at once")
words_of (NobodySawTheLoss n a m) = words (codes "nobody_saw_the_loss: ") (codes " was lost with ") (codes ", which nobody who is up saw: live ") (codes " starts it at once")
words_of (WeightsForEver n a m) = words (codes "weights_for_ever: ") (codes " is placed at ") (codes " or ") (codes " behind a tuple of nodes that are down: live they send messages for ever")
words_of (StartWhereNotListed n a) = words (codes "start_where_not_listed: ") (codes " isn't listed at ") (codes ": live a second instance may run there") []
words_of (TakeoverWhereForbidden n a) = words (codes "takeover_where_forbidden: ") (codes " is forbidden at ") (codes ": live the takeover runs it there all the same") []
words_of (StartOfAWaitingLocal n a) = words (codes "start_of_a_waiting_local: ") (codes " waits at ") (codes ": live another start of it is done") []
words_of (OwnEnd n a) = words (codes "own_end: ") (codes " ends by itself at ") (codes ", and the node with it: live it isn't failed over") []
words_of (KindAfterLoss n a m) = words (codes "kind_after_loss: ") (codes " was lost with ") (codes ", and starts at ") (codes " by hand: live it starts as normal")
words_of (DependencyGone n a d) = words (codes "dependency_gone: ") (codes " comes to ") (codes ", where ") (codes ", which it needs, doesn't run: live the node can end")
words_of (NeedsADistributedOne n a d) = words (codes "needs_a_distributed_one: ") (codes " is to run at ") (codes ", and ") (codes ", which it needs, elsewhere: live it starts without")
words_of (ForbidWithUnlistedNodes n a m) = words (codes "forbid_with_unlisted_nodes: ") (codes " is forbidden at ") (codes ", and ") (codes " takes part without being listed: live it hangs, and runs on")
words_of (TakeoverNotStarted n a) = words (codes "takeover_not_started: ") (codes " isn't started at ") (codes ": live the takeover is refused") []
words_of (LocalForbiddenTwice n a) = words (codes "local_forbidden_twice: ") (codes " was started at ") (codes " while it was forbidden: live that start is forgotten now") []
words_of (LocalStopWhileForbidden n a) = words (codes "local_stop_while_forbidden: ") (codes " was started at ") (codes " while it was forbidden: live the stop is refused") []
words_of (OtherNodeWaits n m) = words (codes "other_node_waits: ") (codes " comes up while ") (codes " still waits: live its applications wait, too, and may run elsewhere") []
words_of (NotInItsLists n m) = words (codes "not_in_its_lists: ") (codes " comes up without ") (codes " in its lists: live both may start what is lost later") []

-- the names
abbrev pub names_of : ClusterView → StepFinding → NamesView
names_of c (BetterNodeNotStarted n a m) = names (app_word c a) (node_word c n) (node_word c m)
names_of c (TupleMemberNotStarted n a m) = names (app_word c a) (node_word c n) (node_word c m)
names_of c (WorseNodeNotStarted n a m) = names (app_word c a) (node_word c n) (node_word c m)
names_of c (ForbiddenStartWaits n a m) = names (app_word c a) (node_word c n) (node_word c m)
names_of c (RunsAtAWorseNode n a m) = names (app_word c a) (node_word c n) (node_word c m)
names_of c (TupleTakeover n a m) = names (app_word c a) (node_word c n) (node_word c m)
names_of c (BetterNodeWaitsQuiet n a m) = names (app_word c a) (node_word c n) (node_word c m)
names_of c (PermitStartsQuiet n a) = names (app_word c a) (node_word c n) []
names_of c (DependencyForbiddenAtStart n a d) = names (node_word c n) (app_word c a) (app_word c d)
names_of c (BeforeDependency n a d) = names (node_word c n) (app_word c a) (app_word c d)
names_of c (ForbidMoves n a m) = names (app_word c a) (node_word c n) (node_word c m)
names_of c (ForbidOtherNotStarted n a m) = names (app_word c a) (node_word c n) (node_word c m)
names_of c (StartWithinTime n a m) = names (app_word c a) (node_word c n) (node_word c m)
names_of c (NobodySawTheLoss n a m) = names (app_word c a) (node_word c m) (node_word c n)
names_of c (WeightsForEver n a m) = names (app_word c a) (node_word c n) (node_word c m)
names_of c (StartWhereNotListed n a) = names (app_word c a) (node_word c n) []
names_of c (TakeoverWhereForbidden n a) = names (app_word c a) (node_word c n) []
names_of c (StartOfAWaitingLocal n a) = names (app_word c a) (node_word c n) []
names_of c (OwnEnd n a) = names (app_word c a) (node_word c n) []
names_of c (KindAfterLoss n a m) = names (app_word c a) (node_word c m) (node_word c n)
names_of c (DependencyGone n a d) = names (app_word c a) (node_word c n) (app_word c d)
names_of c (NeedsADistributedOne n a d) = names (app_word c a) (node_word c n) (app_word c d)
names_of c (ForbidWithUnlistedNodes n a m) = names (app_word c a) (node_word c n) (node_word c m)
names_of c (TakeoverNotStarted n a) = names (app_word c a) (node_word c n) []
names_of c (LocalForbiddenTwice n a) = names (app_word c a) (node_word c n) []
names_of c (LocalStopWhileForbidden n a) = names (app_word c a) (node_word c n) []
names_of c (OtherNodeWaits n m) = names (node_word c n) (node_word c m) []
names_of c (NotInItsLists n m) = names (node_word c n) (node_word c m) []
