-- The lines of a node in the report (ours).
use Rattle.std.specs.Prelude.{ℕ, List, [], ◌++◌, codes, Option, Some, None}
use Rattle.std.specs.Fmt.{decimal}
use Rattle.std.specs.List.{flat_map}
use Rattle.rh_calls.specs.Report.{node_word, app_word, restart_words, kind_words, forbidden_line}
use Rattle.rh_model.specs.ClusterView.{ClusterView}
use Rattle.rh_model.specs.declared.node.App.{App}
use Rattle.rh_model.specs.declared.settings.Restart.{Restart}
use Rattle.rh_otp_node.specs.declared.node.Phase.{Phase}
use Rattle.rh_otp_node.specs.declared.node.Phase.TheVariants as phase
use Rattle.rh_otp_report.specs.declared.block.Block.{Block}
use Rattle.rh_otp_report.specs.declared.block.Block.TheVariants as block
use Rattle.rh_otp_report.specs.declared.rows.Runs.{Runs}
use Rattle.rh_otp_report.specs.declared.rows.Waits.{Waits}
use Rattle.rh_otp_report.specs.declared.timers.NodeTimer.{NodeTimer}
use Rattle.rh_otp_report.specs.declared.timers.NodeTimer.TheVariants as timer
use Rattle.rh_otp_report.specs.Views.{NodeReportView}
use Rattle.rh_otp_text.specs.Lines.{kind_of}

-- how far a node is, between two spaces
abbrev pub phase_words : Phase → List ℕ
phase_words phase.Down = codes " down "
phase_words phase.Waiting = codes " waiting "
phase_words phase.Up = codes " up "

-- a restart type; where none is known, the atom that a controller has for it
abbrev pub known_words : Option Restart → List ℕ
known_words (Some restart) = restart_words restart
known_words None = codes "undefined"

unfoldable pub node_line : ClusterView → NodeReportView → List ℕ
node_line c r = codes "node " ++ node_word c r.node ++ phase_words r.phase ++ decimal r.life ++ codes "\n"

-- an application that runs there
unfoldable pub running_line : ClusterView → Runs → List ℕ
running_line c runs = codes "  running " ++ app_word c runs.app ++ codes " " ++ known_words runs.restart ++ codes " "
    ++ kind_words c (kind_of runs.kind) ++ codes "\n"

-- one that waits there
unfoldable pub waiting_line : ClusterView → Waits → List ℕ
waiting_line c waits = codes "  waiting " ++ app_word c waits.app ++ codes " " ++ known_words waits.restart ++ codes "\n"

-- one that is being started there
unfoldable pub starting_line : ClusterView → App → List ℕ
starting_line c a = codes "  starting " ++ app_word c a ++ codes "\n"

-- for what a dist_ac waits
abbrev pub block_words : ClusterView → Block → List ℕ
block_words c block.Lock = codes "lock"
block_words c (block.Introduction n) = codes "introduction for " ++ node_word c n
block_words c (block.Weight a n) = codes "weight " ++ app_word c a ++ codes " for " ++ node_word c n
block_words c (block.Start a n) = codes "start " ++ app_word c a ++ codes " for " ++ node_word c n
block_words c (block.AnyStart a) = codes "start " ++ app_word c a

unfoldable pub block_line : ClusterView → Option Block → List ℕ
block_line c None = []
block_line c (Some b) = codes "  blocked dist_ac " ++ block_words c b ++ codes "\n"

-- a boot script that waits for the start of an application
unfoldable pub boot_line : ClusterView → Option App → List ℕ
boot_line c None = []
boot_line c (Some a) = codes "  blocked boot " ++ app_word c a ++ codes "\n"

abbrev pub timer_words : ClusterView → NodeTimer → List ℕ
timer_words c (timer.Sync due) = codes "sync " ++ decimal due
timer_words c (timer.Failover a due) = codes "failover " ++ app_word c a ++ codes " " ++ decimal due

unfoldable pub timer_line : ClusterView → NodeTimer → List ℕ
timer_line c t = codes "  timer " ++ timer_words c t ++ codes "\n"

-- a node's own line, then what runs, waits, is forbidden and is being started there, what hangs, and its timers
unfoldable pub node_lines : ClusterView → NodeReportView → List ℕ
node_lines c r = node_line c r ++ flat_map (running_line c) r.running ++ flat_map (waiting_line c) r.waiting
    ++ flat_map (forbidden_line c) r.forbidden ++ flat_map (starting_line c) r.starting ++ block_line c r.block ++ boot_line c r.boot ++ flat_map (timer_line c) r.timers
