-- The report of a state, as text (ours).
use Rattle.std.specs.Prelude.{ℕ, List, [], ◌++◌, codes, slice_get, unwrap_or, Some, None, if◌then◌else◌}
use Rattle.std.specs.List.{flat_map}
use Rattle.std.specs.Fmt.{decimal}
use Rattle.rh_model.specs.ClusterView.{ClusterView, dep_name}
use Rattle.rh_model.specs.declared.node.Node.{Node}
use Rattle.rh_model.specs.declared.node.App.{App}
use Rattle.rh_model.specs.declared.settings.Dep.{Dep}
use Rattle.rh_model.specs.declared.settings.Restart.{Restart}
use Rattle.rh_model.specs.declared.settings.Restart.TheVariants.{Permanent, Transient, Temporary}
use Rattle.rh_state.specs.declared.status.Mode.{Mode}
use Rattle.rh_state.specs.declared.status.Mode.TheVariants.{Down, Waiting, Up}
use Rattle.rh_state.specs.declared.status.Kind.{Kind}
use Rattle.rh_state.specs.declared.status.Kind.TheVariants as kind
use Rattle.rh_state.specs.declared.status.Standing.{Standing}
use Rattle.rh_state.specs.declared.status.Standing.TheVariants as standing
use Rattle.rh_state.specs.declared.status.Timer.{Timer}
use Rattle.rh_state.specs.declared.status.Timer.TheVariants as timer
use Rattle.rh_state.specs.Numbers.{nodes_of, apps_of}
use Rattle.rh_state.specs.StateView.{StateView, mode_of, incarnation_of, running_at, waiting_at, restart_of, kind_of, is_allowed, standing_of}
use Rattle.rh_rules.specs.Course.{is_local}

-- what is shown for a name that is missing
abbrev pub no_name : List ℕ
no_name = codes "?"

-- the name of a node or of an application, or that for a number that none has
abbrev pub node_word : ClusterView → Node → List ℕ
node_word c n = unwrap_or (slice_get c.node_names n.0) no_name

abbrev pub app_word : ClusterView → App → List ℕ
app_word c a = unwrap_or (slice_get c.app_names a.0) no_name

-- the name of a dependency, or that for one that isn't of the cluster
abbrev pub dep_word : ClusterView → Dep → List ℕ
dep_word c d = unwrap_or (dep_name c d) no_name

-- ---- the parts of a state in words

-- whether a node runs
abbrev pub mode_words : Mode → List ℕ
mode_words Down = codes "down"
mode_words Waiting = codes "waiting"
mode_words Up = codes "up"

-- the restart type of an application (application(3), `start/2`)
abbrev pub restart_words : Restart → List ℕ
restart_words Permanent = codes "permanent"
restart_words Transient = codes "transient"
restart_words Temporary = codes "temporary"

-- how an application was started, with the node that it came from (application(3), the start type of `start/2`)
abbrev pub kind_words : ClusterView → Kind → List ℕ
kind_words c kind.Normal = codes "normal"
kind_words c (kind.Failover m) = codes "failover " ++ node_word c m
kind_words c (kind.Takeover m) = codes "takeover " ++ node_word c m

-- where a distributed application stands, with the node where it runs or with which it was lost
abbrev pub standing_words : ClusterView → Standing → List ℕ
standing_words c standing.Quiet = codes "quiet"
standing_words c (standing.Wanted None) = codes "wanted"
standing_words c (standing.Wanted (Some m)) = codes "wanted " ++ node_word c m
standing_words c (standing.Running n) = codes "running " ++ node_word c n
standing_words c (standing.Lost n) = codes "lost " ++ node_word c n

-- what a timer is for
abbrev pub timer_words : ClusterView → Timer → List ℕ
timer_words c (timer.Sync n) = codes "sync " ++ node_word c n
timer_words c (timer.Failover a) = codes "failover " ++ app_word c a

-- ---- the lines

abbrev pub time_line : StateView → List ℕ
time_line s = codes "now " ++ decimal s.time ++ codes "\n"

unfoldable pub node_line : StateView → Node → List ℕ
node_line s n = codes "node " ++ node_word s.cluster n ++ codes " " ++ mode_words (mode_of s n) ++ codes " " ++ decimal (incarnation_of s n) ++ codes "\n"

-- an application that runs at a node
unfoldable pub running_line : StateView → Node → App → List ℕ
running_line s n a = codes "  running " ++ app_word s.cluster a ++ codes " " ++ restart_words (restart_of s n a) ++ codes " "
    ++ kind_words s.cluster (kind_of s n a) ++ codes "\n"

-- one that waits there
unfoldable pub waiting_line : StateView → Node → App → List ℕ
waiting_line s n a = codes "  waiting " ++ app_word s.cluster a ++ codes " " ++ restart_words (restart_of s n a) ++ codes "\n"

-- one that may not run there
unfoldable pub forbidden_line : ClusterView → App → List ℕ
forbidden_line c a = codes "  forbidden " ++ app_word c a ++ codes "\n"

unfoldable pub line_if_forbidden : StateView → Node → App → List ℕ
line_if_forbidden s n a = if is_allowed s n a then [] else forbidden_line s.cluster a

-- a distributed application, and where it stands
unfoldable pub standing_line : ClusterView → App → Standing → List ℕ
standing_line c a at = codes "app " ++ app_word c a ++ codes " " ++ standing_words c at ++ codes "\n"

-- nothing for a local one
unfoldable pub app_line : StateView → App → List ℕ
app_line s a = if is_local s.cluster a then [] else standing_line s.cluster a (standing_of s a)

unfoldable pub timer_line : ClusterView → ℕ × Timer → List ℕ
timer_line c entry = codes "timer " ++ timer_words c entry.1 ++ codes " " ++ decimal entry.0 ++ codes "\n"

-- ---- the whole

-- a node's line, and then what runs there, what waits there and what may not run there
unfoldable pub node_lines : StateView → Node → List ℕ
node_lines s n = node_line s n ++ flat_map (running_line s n) (running_at s n) ++ flat_map (waiting_line s n) (waiting_at s n)
    ++ flat_map (line_if_forbidden s n) (apps_of s.cluster)

-- the lines of all distributed applications, in their order
abbrev pub app_lines : StateView → List ℕ
app_lines s = flat_map (app_line s) (apps_of s.cluster)

-- the time, the nodes in their order, the distributed applications in theirs, and the timers in firing order
abbrev pub report_text : StateView → List ℕ
report_text s = time_line s ++ flat_map (node_lines s) (nodes_of s.cluster) ++ app_lines s ++ flat_map (timer_line s.cluster) s.timers
