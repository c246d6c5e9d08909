-- Timers that are set at a node (ours).
use Rattle.std.specs.Prelude.{ℕ, List, ◌==◌, ◌&&◌, Bool, true, false, Option, Some, None, if◌then◌else◌}
use Rattle.std.specs.List.{filter_map}
use Rattle.rh_model.specs.declared.node.Node.{Node}
use Rattle.rh_otp_model.specs.declared.message.Message.{Message}
use Rattle.rh_otp_model.specs.declared.message.Message.TheVariants as message
use Rattle.rh_otp_net.specs.declared.timers.Timer.{Timer}
use Rattle.rh_otp_node.specs.Live.{LiveView, is_alive}
use Rattle.rh_otp_node.specs.declared.node.Phase.{Phase}
use Rattle.rh_otp_node.specs.declared.node.Phase.TheVariants as phase
use Rattle.rh_otp_report.specs.declared.timers.NodeTimer.{NodeTimer}
use Rattle.rh_otp_report.specs.declared.timers.NodeTimer.TheVariants as timer

-- is the node alive, in the life of this number?
abbrev pub lives : LiveView → ℕ → Bool
lives v life = is_alive v && v.life == life

abbrev pub is_waiting : Phase → Bool
is_waiting phase.Waiting = true
is_waiting p = false

-- what is told of a timer with this message, if it is to be told: the end of a node's wait no more once it is over
abbrev pub timer_by : Phase → Message → ℕ → Option NodeTimer
timer_by p (message.RestartAppl a loss) due = Some (timer.Failover a due)
timer_by p message.Timeout due = if is_waiting p then Some (timer.Sync due) else None
timer_by p m due = None

-- what is told of a timer at this node, if it is one of its own
abbrev pub timer_at : LiveView → Node → Timer → Option NodeTimer
timer_at v n t = if t.to.node.0 == n.0 && lives v t.to.life then timer_by v.phase t.message t.due else None

-- the timers of a node, in the order in which they were set
abbrev pub timers_at : LiveView → Node → List Timer → List NodeTimer
timers_at v n timers = filter_map (timer_at v n) timers
