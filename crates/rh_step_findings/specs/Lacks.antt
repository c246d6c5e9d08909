-- What a live OTP finds of an application's dependencies at a node (app(4), applications).
use Rattle.std.specs.Prelude.{ℕ, Bool, not, Option, find, position, ◌&&◌, ◌||◌}
use Rattle.rh_model.specs.Needs.{needed_apps}
use Rattle.rh_rules.specs.Prelude.{ClusterView, boot_of, App, Node, Restart, same_app, StateView, is_allowed, runs_at}
use Rattle.rh_rules.specs.Course.{is_local}
use Rattle.rh_rules.specs.Moves.{comes_before}
use Rattle.rh_rules.specs.declared.event.Event.{Event}
use Rattle.rh_step_findings.specs.Candidates.{is_best}
use Rattle.rh_step_findings.specs.Tries.{stays}
use Rattle.rh_step_findings.specs.declared.lack.Lack.{Lack}
use Rattle.rh_step_findings.specs.declared.lack.Lack.TheVariants.{Forbidden, Later, Elsewhere, Gone}

-- the place of an application in a node's boot list
abbrev pub boot_place : ClusterView → Node → App → Option ℕ
boot_place c n a = position (λ (entry : App × Restart). same_app a entry.0) (boot_of c n)

-- a node boots an application before another one
unfoldable pub boots_before : ClusterView → Node → App → App → Bool
boots_before c n d a = comes_before (boot_place c n d) (boot_place c n a)

-- a dependency is lacking so
unfoldable pub lacks_so : StateView → Event → Lack → Node → App → App → Bool
lacks_so s e Forbidden n a d = is_local s.cluster d && (boots_before s.cluster n d a && not (is_allowed s n d))
lacks_so s e Later n a d = not (boots_before s.cluster n d a)
lacks_so s e Elsewhere n a d = not (is_local s.cluster d) && (not (is_best s e d n) || stays s e d)
lacks_so s e Gone n a d = not (runs_at s n d)

-- the first of the dependencies that is, in written order, if there is one
unfoldable pub lacking_so : StateView → Event → Lack → Node → App → Option App
lacking_so s e lack n a = find (lacks_so s e lack n a) (needed_apps s.cluster a)
