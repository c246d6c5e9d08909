-- Which nodes and applications a step touches (ours): of others no kind of finding speaks.
use Rattle.std.specs.Prelude.{List, [], ◌∷◌, Bool, false, not, length, ◌&&◌, ◌||◌, ◌==◌, if◌then◌else◌}
use Rattle.std.specs.List.{flat_map}
use Rattle.rh_model.specs.Needs.{needed_apps}
use Rattle.rh_rules.specs.Prelude.{App, Node, same_node, same_app, nodes_of, apps_of, StateView}
use Rattle.rh_rules.specs.declared.event.Event.{Event}
use Rattle.rh_rules.specs.declared.event.Event.TheVariants.{Start, Stop, Permit, Takeover, Exit, StartAll}
use Rattle.rh_step_findings.specs.After.{starts_now}
use Rattle.rh_step_findings.specs.Tries.{fails_over, is_called, asks_others}
use Rattle.rh_step_findings.specs.Pairs.{starts_forbidden, starts_below, takes_back, starts_quiet, is_placed_behind_tuple, boots_now, is_helped, is_booted_with_phases, goes_to}
use Rattle.rh_step_findings.specs.Ranked.{has_spare}
use Rattle.rh_step_findings.specs.Findings.{found_with}
use Rattle.rh_step_findings.specs.declared.code.Code.{Code}
use Rattle.rh_step_findings.specs.declared.code.Code.TheVariants as code
use Rattle.rh_step_findings.specs.declared.finding.StepFinding.{StepFinding}
use Rattle.rh_step_findings.specs.declared.touch.Touch.{Touch}
use Rattle.rh_step_findings.specs.declared.touch.Trial.{Trial}

-- the event names the node and the application, and doesn't start it
abbrev pub names : Event → Node → App → Bool
names (Stop m b) n a = same_node m n && same_app b a
names (Permit m b allow) n a = same_node m n && same_app b a
names (Takeover m b r) n a = same_node m n && same_app b a
names (Exit m b normal) n a = same_node m n && same_app b a
names _ n a = false

-- the event names them, the application is started there, or it fails over to the node
unfoldable pub is_touched : StateView → Event → Node → App → Bool
is_touched s e n a = names e n a || (starts_now s e n a || is_called s e n a)

-- ---- what the kinds ask of them first
-- an application needs others
abbrev pub has_needs : StateView → App → Bool
has_needs s a = not (length (needed_apps s.cluster a) == 0)

-- what comes of it where a live OTP looks for the node of the application there
abbrev pub trial_of : StateView → Event → Node → App → Trial
trial_of s e n a = record {
  waits = asks_others s e n a && has_spare s e a;
  forbidden = starts_forbidden s e n a;
  below = starts_below s e n a;
  back = takes_back s e n a;
  weighs = is_placed_behind_tuple s e n a;
}

-- a node and an application with all of that
abbrev pub touch_of : StateView → Event → Node → App → Touch
touch_of s e n a = record {
  node = n;
  app = a;
  named = names e n a;
  trial = trial_of s e n a;
  starts = starts_now s e n a;
  quiet = starts_quiet s e n a;
  needs = has_needs s a && boots_now s e n a;
  phases = is_booted_with_phases s e n a;
  helped = is_helped s e n a;
  goes = has_needs s a && goes_to s e n a;
}

-- a kind may speak of them
abbrev pub may_speak : Code → Touch → Bool
may_speak code.BetterNodeNotStarted t = t.trial.waits
may_speak code.TupleMemberNotStarted t = t.trial.waits
may_speak code.WorseNodeNotStarted t = t.trial.waits
may_speak code.ForbiddenStartWaits t = t.trial.forbidden
may_speak code.RunsAtAWorseNode t = t.trial.below
may_speak code.TupleTakeover t = t.trial.back
may_speak code.WeightsForEver t = t.trial.weighs
may_speak code.BetterNodeWaitsQuiet t = t.quiet
may_speak code.DependencyForbiddenAtStart t = t.needs
may_speak code.BeforeDependency t = t.needs
may_speak code.NeedsADistributedOne t = t.needs
may_speak code.StartWithinTime t = t.starts
may_speak code.NobodySawTheLoss t = t.phases
may_speak code.KindAfterLoss t = t.helped
may_speak code.DependencyGone t = t.goes
may_speak _ t = t.named

-- ---- all of them, in the order of the cluster file
-- at a node those with an application, application by application; and then node by node
abbrev pub touched_with : StateView → Event → Node → App → List Touch
touched_with s e n a = if is_touched s e n a then touch_of s e n a ∷ [] else []

unfoldable pub touched_at : StateView → Event → Node → List Touch
touched_at s e n = flat_map (touched_with s e n) (apps_of s.cluster)

unfoldable pub all_touched : StateView → Event → List Touch
all_touched s e = flat_map (touched_at s e) (nodes_of s.cluster)

-- the finding of a kind at one of them
abbrev pub found_in : StateView → Event → Code → Touch → List StepFinding
found_in s e kind t = found_with s e kind t.node t.app

-- ---- at a node that doesn't come up
-- the event names the application
abbrev pub names_app : Event → App → Bool
names_app (Start m b r) a = same_app b a
names_app (Stop m b) a = same_app b a
names_app (Permit m b allow) a = same_app b a
names_app (Takeover m b r) a = same_app b a
names_app (Exit m b normal) a = same_app b a
names_app (StartAll b r) a = same_app b a
names_app _ a = false

-- only these applications may be touched: that which the event names, and those that fail over
unfoldable pub moves : StateView → Event → App → Bool
moves s e a = names_app e a || fails_over s e a

abbrev pub mover : StateView → Event → App → List App
mover s e a = if moves s e a then a ∷ [] else []

unfoldable pub all_movers : StateView → Event → List App
all_movers s e = flat_map (mover s e) (apps_of s.cluster)
