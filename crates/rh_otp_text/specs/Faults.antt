-- Errors, as Erlang writes them (application(3), what `start/2`, `stop/1` and `takeover/2` answer), with names without quotes (ours).
use Rattle.std.specs.Prelude.{ℕ, List, ◌++◌, codes}
use Rattle.rh_calls.specs.Report.{node_word, app_word, dep_word}
use Rattle.rh_model.specs.ClusterView.{ClusterView}
use Rattle.rh_model.specs.declared.node.Node.{Node}
use Rattle.rh_model.specs.declared.settings.Dep.{Dep}
use Rattle.rh_otp_model.specs.declared.fault.Fault.{Fault}
use Rattle.rh_otp_model.specs.declared.fault.Fault.TheVariants as fault

-- `{what,name}`
unfoldable pub with_name : List ℕ → List ℕ → List ℕ
with_name what name = codes "{" ++ what ++ codes "," ++ name ++ codes "}"

-- a dependency doesn't run
unfoldable pub not_running : ClusterView → Dep → List ℕ
not_running c dep = with_name (codes "not_running") (dep_word c dep)

-- the front of a pair
unfoldable pub pair_front : ClusterView → Node → List ℕ
pair_front c n = codes "{" ++ node_word c n ++ codes ","

-- the error of another node, at which a dependency doesn't run
unfoldable pub failed_at : ClusterView → Node → Dep → List ℕ
failed_at c n dep = pair_front c n ++ not_running c dep ++ codes "}"

-- an error
unfoldable pub fault_words : ClusterView → Fault → List ℕ
fault_words c (fault.AlreadyStarted a) = with_name (codes "already_started") (app_word c a)
fault_words c (fault.NeedsStarted dep) = with_name (codes "not_started") (dep_word c dep)
fault_words c (fault.NeedsRunning dep) = not_running c dep
fault_words c (fault.NotStarted a) = with_name (codes "not_started") (app_word c a)
fault_words c fault.NotRunning = codes "not_running"
fault_words c fault.Stopped = codes "stopped"
fault_words c (fault.RunsLocally a) = with_name (codes "already_running_locally") (app_word c a)
fault_words c (fault.RunsNowhere a) = with_name (codes "not_running_distributed") (app_word c a)
fault_words c (fault.FailedAt n dep) = failed_at c n dep
