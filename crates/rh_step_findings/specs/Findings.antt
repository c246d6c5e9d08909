-- All that a live OTP does otherwise at a step: of an event that isn't refused each kind at each node with each application, and
-- then at each node; of one that is refused what it does all the same.
use Rattle.std.specs.Prelude.{List, [], ◌∷◌, ◌++◌, Option, Some, None, ◌&&◌, if◌then◌else◌}
use Rattle.std.specs.List.{flat_map}
use Rattle.std.specs.Option.{option_to_list}
use Rattle.rh_rules.specs.Prelude.{App, Node, nodes_of, apps_of, StateView, waits_at}
use Rattle.rh_rules.specs.declared.event.Event.{Event}
use Rattle.rh_rules.specs.declared.event.Event.TheVariants.{Start, Takeover}
use Rattle.rh_rules.specs.declared.refusal.Refusal.{Refusal}
use Rattle.rh_rules.specs.declared.refusal.Refusal.TheVariants.{NotListed, NotPermitted, AlreadyStarted}
use Rattle.rh_rules.specs.Course.{is_local}
use Rattle.rh_rules.specs.Refusals.{refused}
use Rattle.rh_step_findings.specs.Pairs.{found}
use Rattle.rh_step_findings.specs.Nodes.{other_node_waits, not_in_its_lists}
use Rattle.rh_step_findings.specs.declared.code.Code.{Code}
use Rattle.rh_step_findings.specs.declared.code.Code.TheVariants as code
use Rattle.rh_step_findings.specs.declared.finding.StepFinding.{StepFinding}
use Rattle.rh_step_findings.specs.declared.finding.StepFinding.TheVariants.{StartWhereNotListed, TakeoverWhereForbidden, StartOfAWaitingLocal}

-- ---- an event that is made
-- the kinds, in the order in which they are told
abbrev pub codes_told : List Code
codes_told =
    code.BetterNodeNotStarted ∷ code.TupleMemberNotStarted ∷ code.WorseNodeNotStarted ∷ code.ForbiddenStartWaits ∷ code.RunsAtAWorseNode
    ∷ code.TupleTakeover ∷ code.BetterNodeWaitsQuiet ∷ code.PermitStartsQuiet ∷ code.DependencyForbiddenAtStart ∷ code.BeforeDependency
    ∷ code.ForbidMoves ∷ code.ForbidOtherNotStarted ∷ code.StartWithinTime ∷ code.NobodySawTheLoss ∷ code.WeightsForEver ∷ code.OwnEnd
    ∷ code.KindAfterLoss ∷ code.DependencyGone ∷ code.NeedsADistributedOne ∷ code.ForbidWithUnlistedNodes ∷ code.TakeoverNotStarted ∷ code.LocalForbiddenTwice ∷ code.LocalStopWhileForbidden ∷ []

-- of a kind those at a node, application by application; and then node by node
abbrev pub found_with : StateView → Event → Code → Node → App → List StepFinding
found_with s e kind n a = option_to_list (found s e kind n a)

unfoldable pub found_at : StateView → Event → Code → Node → List StepFinding
found_at s e kind n = flat_map (found_with s e kind n) (apps_of s.cluster)

unfoldable pub found_of : StateView → Event → Code → List StepFinding
found_of s e kind = flat_map (found_at s e kind) (nodes_of s.cluster)

-- those of nodes alone
abbrev pub waits_found : StateView → Event → Node → List StepFinding
waits_found s e n = option_to_list (other_node_waits s e n)

abbrev pub lists_found : StateView → Event → Node → List StepFinding
lists_found s e n = option_to_list (not_in_its_lists s e n)

unfoldable pub findings_made : StateView → Event → List StepFinding
findings_made s e =
    flat_map (found_of s e) codes_told ++ (flat_map (waits_found s e) (nodes_of s.cluster) ++ flat_map (lists_found s e) (nodes_of s.cluster))

-- ---- an event that is refused
-- a node that isn't in the list: a live OTP starts it there, and takes it over (kernel(6), distributed)
abbrev pub not_listed_found : Event → List StepFinding
not_listed_found (Start n a r) = StartWhereNotListed n a ∷ []
not_listed_found (Takeover n a r) = StartWhereNotListed n a ∷ []
not_listed_found _ = []

-- a live OTP takes it over where it is forbidden (application(3), permit/2)
abbrev pub not_permitted_found : Event → List StepFinding
not_permitted_found (Takeover n a r) = TakeoverWhereForbidden n a ∷ []
not_permitted_found _ = []

-- a local one that is started and doesn't run may be started once more
abbrev pub already_started_found : StateView → Event → List StepFinding
already_started_found s (Start n a r) = if is_local s.cluster a && waits_at s n a then StartOfAWaitingLocal n a ∷ [] else []
already_started_found s _ = []

unfoldable pub findings_refused : StateView → Event → Refusal → List StepFinding
findings_refused s e NotListed = not_listed_found e
findings_refused s e NotPermitted = not_permitted_found e
findings_refused s e AlreadyStarted = already_started_found s e
findings_refused s e _ = []

-- ---- either
abbrev pub findings_by : StateView → Event → Option Refusal → List StepFinding
findings_by s e None = findings_made s e
findings_by s e (Some refusal) = findings_refused s e refusal

unfoldable pub step_findings_of : StateView → Event → List StepFinding
step_findings_of s e = findings_by s e (refused s e)
