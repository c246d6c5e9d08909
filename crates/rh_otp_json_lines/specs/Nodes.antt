-- A node in the report (ours): the fields of `run --json` where the same is meant.
use Rattle.std.specs.Prelude.{ℕ, List, [], ◌++◌, codes, Option, Some, None}
use Rattle.std.specs.Fmt.{decimal}
use Rattle.rh_json_lines.specs.ClusterLines.{app_json, node_json}
use Rattle.rh_json_lines.specs.Notices.{pair_json}
use Rattle.rh_json_lines.specs.Starts.{start_json}
use Rattle.rh_json_text.specs.Json.{json_string, json_array}
use Rattle.rh_model.specs.ClusterView.{ClusterView}
use Rattle.rh_model.specs.declared.node.App.{App}
use Rattle.rh_model.specs.declared.settings.Restart.{Restart}
use Rattle.rh_otp_node.specs.declared.node.Phase.{Phase}
use Rattle.rh_otp_node.specs.declared.node.Phase.TheVariants as phase
use Rattle.rh_otp_report.specs.declared.block.Block.{Block}
use Rattle.rh_otp_report.specs.declared.block.Block.TheVariants as block
use Rattle.rh_otp_report.specs.declared.rows.Runs.{Runs}
use Rattle.rh_otp_report.specs.declared.rows.Waits.{Waits}
use Rattle.rh_otp_report.specs.declared.timers.NodeTimer.{NodeTimer}
use Rattle.rh_otp_report.specs.declared.timers.NodeTimer.TheVariants as timer
use Rattle.rh_otp_report.specs.Views.{NodeReportView}
use Rattle.rh_otp_text.specs.Lines.{kind_of}
use Rattle.rh_otp_text.specs.Nodes.{known_words}

-- ---- how far it is

-- the words of a report by the manual's rules
abbrev pub mode_words : Phase → List ℕ
mode_words phase.Down = codes "down"
mode_words phase.Waiting = codes "waiting"
mode_words phase.Up = codes "up"

-- a node: its name, how far it is, and how often it has begun
unfoldable pub mode_json : ClusterView → NodeReportView → List ℕ
mode_json c r = codes "{\"name\":" ++ node_json c r.node ++ codes ",\"mode\":" ++ json_string (mode_words r.phase) ++ codes ",\"starts\":" ++ decimal r.life

-- ---- its applications

-- a restart type, if it is known there
unfoldable pub known_json : Option Restart → List ℕ
known_json restart = codes ",\"restart\":" ++ json_string (known_words restart)

-- an application that is started there, with its restart type
unfoldable pub started_json : ClusterView → App → Option Restart → List ℕ
started_json c a restart = codes "{\"application\":" ++ app_json c a ++ known_json restart

-- one that runs there
unfoldable pub running_json : ClusterView → Runs → List ℕ
running_json c runs = started_json c runs.app runs.restart ++ start_json c (kind_of runs.kind) ++ codes "}"

-- one that waits there
unfoldable pub waiting_json : ClusterView → Waits → List ℕ
waiting_json c waits = started_json c waits.app waits.restart ++ codes "}"

-- what runs there, waits there, is forbidden there, and is being started there
unfoldable pub running_list : ClusterView → List Runs → List ℕ
running_list c rows = codes ",\"running\":" ++ json_array (running_json c) rows

unfoldable pub waiting_list : ClusterView → List Waits → List ℕ
waiting_list c rows = codes ",\"waiting\":" ++ json_array (waiting_json c) rows

unfoldable pub forbidden_list : ClusterView → List App → List ℕ
forbidden_list c apps = codes ",\"forbidden\":" ++ json_array (app_json c) apps

unfoldable pub starting_list : ClusterView → List App → List ℕ
starting_list c apps = codes ",\"starting\":" ++ json_array (app_json c) apps

unfoldable pub lists_json : ClusterView → NodeReportView → List ℕ
lists_json c r = running_list c r.running ++ waiting_list c r.waiting ++ forbidden_list c r.forbidden ++ starting_list c r.starting

-- ---- what hangs

-- for what a dist_ac waits, and of which application and node
unfoldable pub waited_json : ClusterView → Block → List ℕ
waited_json c block.Lock = codes "\"lock\""
waited_json c (block.Introduction n) = codes "\"introduction\",\"node\":" ++ node_json c n
waited_json c (block.Weight a n) = codes "\"weight\"" ++ pair_json c a n
waited_json c (block.Start a n) = codes "\"start\"" ++ pair_json c a n
waited_json c (block.AnyStart a) = codes "\"start\",\"application\":" ++ app_json c a

-- a dist_ac that is blocked
unfoldable pub blocked_json : ClusterView → Block → List ℕ
blocked_json c block = codes ",\"dist_ac\":{\"for\":" ++ waited_json c block ++ codes "}"

unfoldable pub block_json : ClusterView → Option Block → List ℕ
block_json c None = []
block_json c (Some block) = blocked_json c block

-- a boot script that waits for the start of an application
unfoldable pub boot_json : ClusterView → Option App → List ℕ
boot_json c None = []
boot_json c (Some a) = codes ",\"boot\":" ++ app_json c a

-- ---- its timers

-- what a timer is for, and when it is due
abbrev pub timed_json : ClusterView → NodeTimer → List ℕ
timed_json c (timer.Sync due) = codes "{\"timer\":\"sync\",\"due\":" ++ decimal due
timed_json c (timer.Failover a due) = codes "{\"timer\":\"failover\",\"application\":" ++ app_json c a ++ (codes ",\"due\":" ++ decimal due)

unfoldable pub timer_json : ClusterView → NodeTimer → List ℕ
timer_json c t = timed_json c t ++ codes "}"

-- ---- the whole

-- what hangs there, and its timers
unfoldable pub hanging_json : ClusterView → NodeReportView → List ℕ
hanging_json c r = block_json c r.block ++ boot_json c r.boot ++ codes ",\"timers\":" ++ json_array (timer_json c) r.timers

unfoldable pub node_report_json : ClusterView → NodeReportView → List ℕ
node_report_json c r = mode_json c r ++ lists_json c r ++ hanging_json c r ++ codes "}"
