-- kernel's wait for other nodes (kernel_config.erl), and the boot script behind it (init.erl).
use Rattle.std.specs.Prelude.{[], ◌∷◌, ◌++◌, Bool, false, Option, Some, None, if◌then◌else◌}
use Rattle.std.specs.Option.{option_and_then}
use Rattle.rh_model.specs.declared.node.App.{App}
use Rattle.rh_model.specs.declared.node.Node.{Node}
use Rattle.rh_model.specs.declared.settings.Restart.{Restart}
use Rattle.rh_otp_model.specs.declared.fault.Fault.{Fault}
use Rattle.rh_otp_model.specs.declared.fault.Outcome.{Outcome}
use Rattle.rh_otp_model.specs.declared.fault.Outcome.TheVariants.{Failed as failed_with}
use Rattle.rh_otp_model.specs.declared.message.Message.{Message}
use Rattle.rh_otp_model.specs.declared.message.Message.TheVariants as message
use Rattle.rh_otp_model.specs.declared.output.Event.TheVariants as event
use Rattle.rh_otp_model.specs.declared.process.Role.TheVariants as role
use Rattle.rh_otp_node.specs.Boot as boot
use Rattle.rh_otp_node.specs.Kernel as kernel
use Rattle.rh_otp_node.specs.Live.{LiveView}
use Rattle.rh_otp_system.specs.declared.slow.Slow.TheVariants.{Boot}
use Rattle.rh_otp_system.specs.State.{SystemView, live_at, node_at, with_node, has_dist_at, is_up_at, process_in}
use Rattle.rh_otp_system.specs.Sending.{sent, told}
use Rattle.rh_otp_system.specs.Ending.{ended}

-- its dist_ac, where it has one, is told that the wait is over
abbrev pub with_go : Node → SystemView → SystemView
with_go n s = if has_dist_at s n then sent (process_in s n role.KernelConfig) (process_in s n role.DistAc) message.Go s else s

abbrev pub with_boot : Node → SystemView → SystemView
with_boot n s = record s { slow = s.slow ++ Boot n ∷ [] }

abbrev pub joined_at : Node → SystemView → SystemView
joined_at n s = with_node n (kernel.joined (node_at s n)) s

-- kernel_config:init/1, dist_ac:dist_take_control/1: the node's wait is over, and its boot script goes on
unfoldable pub join : Node → SystemView → SystemView
join n s = with_boot n (with_go n (told (event.Up n) (joined_at n s)))

-- rec_nodes([], []): it waits for nobody any more
abbrev pub go_on : Node → SystemView → SystemView
go_on n s = if kernel.waits (node_at s n) then s else join n s

abbrev pub lacks_mandatory : Node → SystemView → Bool
lacks_mandatory n s = kernel.is_some_node (node_at s n).mandatory

-- the end of sync_nodes_timeout: without a mandatory node it ends
abbrev pub timed_out : Node → SystemView → SystemView
timed_out n s = if lacks_mandatory n s then ended n s else join n s

abbrev pub seen_at : Node → Node → SystemView → SystemView
seen_at n other s = with_node n (kernel.seen other (node_at s n)) s

-- rec_nodes/2, check_up/3
unfoldable pub has_seen : Node → Node → SystemView → SystemView
has_seen n other s = go_on n (seen_at n other s)

abbrev pub kernel_handled : Node → Message → SystemView → SystemView
kernel_handled n message.Timeout s = timed_out n s
kernel_handled n (message.NodeUp other) s = has_seen n other s
kernel_handled n m s = s

-- what kernel_config receives while it waits
abbrev pub kernel_received : Node → Message → SystemView → SystemView
kernel_received n m s = if is_up_at s n then s else kernel_handled n m s

-- ---- the boot script

-- what it is starting
abbrev pub boot_entry : Node → SystemView → Option (App × Restart)
boot_entry n s = boot.entry_before s.cluster n (node_at s n).place

-- what it starts next, if there is such a node
abbrev pub boot_coming : Node → SystemView → Option (App × Restart)
boot_coming n s = option_and_then (λ (v : LiveView). boot.entry_at s.cluster n v.place) (live_at s n)

abbrev pub is_end_of : Node → Option LiveView → SystemView → Bool
is_end_of n None s = false
is_end_of n (Some v) s = boot.is_end s.cluster n v.place

-- does its list end here?
abbrev pub is_boot_end : Node → SystemView → Bool
is_boot_end n s = is_end_of n (live_at s n) s

abbrev pub failed_at : Node → Option Fault → Option (App × Restart) → SystemView → SystemView
failed_at n (Some fault) (Some entry) s = told (event.Failed entry.0 n fault) s
failed_at n fault entry s = s

-- an error of what it is starting is told
abbrev pub told_failed : Node → Option Fault → SystemView → SystemView
told_failed n fault s = failed_at n fault (boot_entry n s) s

-- one entry more has its turn
abbrev pub counted : Node → SystemView → SystemView
counted n s = with_node n (boot.with_next (node_at s n)) s

abbrev pub start_entry : Node → Option (App × Restart) → SystemView → SystemView
start_entry n (Some entry) s =
    sent (process_in s n role.Boot) (process_in s n role.Controller) (message.Start entry.0 entry.1 (process_in s n role.Boot)) s
start_entry n None s = if is_boot_end n s then told (event.Booted n) s else s

-- the next application is started, or the script is at its end
abbrev pub start_next : Node → SystemView → SystemView
start_next n s = start_entry n (boot_coming n s) s

-- a start has its answer, which may be an error: the script goes on
unfoldable pub boot_next : Node → Option Fault → SystemView → SystemView
boot_next n fault s = counted n (start_next n (told_failed n fault s))

-- the error of an answer, if it is one
abbrev pub fault_in : Outcome → Option Fault
fault_in (failed_with fault) = Some fault
fault_in outcome = None

-- what the boot script receives
abbrev pub boot_received : Node → Message → SystemView → SystemView
boot_received n (message.Answer outcome) s = boot_next n (fault_in outcome) s
boot_received n m s = s
