-- For what a dist_ac waits, and a boot script (ours: what process_info/2 shows of them, in words).
use Rattle.std.specs.Prelude.{List, Bool, Option, Some, None, slice_get, if◌then◌else◌}
use Rattle.std.specs.Option.{option_map, option_and_then}
use Rattle.rh_model.specs.ClusterView.{ClusterView}
use Rattle.rh_model.specs.declared.node.App.{App}
use Rattle.rh_model.specs.declared.node.Node.{Node}
use Rattle.rh_model.specs.declared.settings.Restart.{Restart}
use Rattle.rh_otp_dist.specs.State.{DistView}
use Rattle.rh_otp_dist.specs.declared.state.Stand.{Stand}
use Rattle.rh_otp_dist.specs.declared.state.Stand.TheVariants as stand
use Rattle.rh_otp_model.specs.declared.output.Requester.TheVariants.{Sync}
use Rattle.rh_otp_net.specs.declared.locks.Held.{Held}
use Rattle.rh_otp_net.specs.Locks.{is_free}
use Rattle.rh_otp_node.specs.Boot.{entry_before}
use Rattle.rh_otp_node.specs.Live.{LiveView, is_up}
use Rattle.rh_otp_report.specs.declared.block.Block.{Block}
use Rattle.rh_otp_report.specs.declared.block.Block.TheVariants as block

-- For what a dist_ac waits that stands here, where these locks are held: of several nodes for the first. One that waits for the lock
-- while nobody has it only sleeps, and before its node is up it waits for nothing that is told.
abbrev pub block_of_stand : Stand → List Held → Option Block
block_of_stand stand.Idle locks = None
block_of_stand stand.ForGo locks = None
block_of_stand (stand.ForLock nodes) locks = if is_free Sync nodes locks then None else Some block.Lock
block_of_stand (stand.ForIntroduction s) locks = option_map block.Introduction (slice_get s.nodes 0)
block_of_stand (stand.ForWeight s) locks = option_map (λ n. block.Weight s.attempt.app n) (slice_get s.nodes 0)
block_of_stand (stand.ForStart attempt n) locks = Some (block.Start attempt.app n)
block_of_stand (stand.ForAnyStart attempt) locks = Some (block.AnyStart attempt.app)

-- for what the dist_ac of a node that is up waits
abbrev pub block_at : LiveView → List Held → Option Block
block_at v locks = if is_up v then option_and_then (λ (d : DistView). block_of_stand d.stand locks) v.dist else None

abbrev pub app_in : App × Restart → App
app_in entry = entry.0

-- for which application's start the boot script of a node that is up waits
abbrev pub boot_at : LiveView → ClusterView → Node → Option App
boot_at v c n = if is_up v then option_map app_in (entry_before c n v.place) else None
