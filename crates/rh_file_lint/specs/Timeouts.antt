-- The timeouts of a cluster file (kernel(6), sync_nodes_timeout, distributed).
use Rattle.std.specs.Prelude.{ℕ, Bool, true, false, ◌&&◌, ◌==◌, nat_lt, unwrap_or}
use Rattle.std.specs.Option.{option_map}
use Rattle.rh_model.specs.ClusterView.{ClusterView, sync_wait_of, spread_of}
use Rattle.rh_model.specs.declared.node.Node.{Node}
use Rattle.rh_model.specs.declared.node.App.{App}
use Rattle.rh_model.specs.declared.settings.Spread.{Spread}
use Rattle.rh_model.specs.declared.settings.SyncWait.{SyncWait}
use Rattle.rh_model.specs.declared.settings.SyncWait.TheVariants.{Unset, After}
use Rattle.rh_file_lint.specs.SyncLists.{has_lists}

-- most milliseconds that a live timer takes (erlang(3), `receive .. after`: an integer of 32 bits)
abbrev pub timer_limit : ℕ
timer_limit = 4294967295

abbrev pub is_unset : SyncWait → Bool
is_unset Unset = true
is_unset _ = false

-- a node has lists and no timeout, so it waits for nobody (kernel(6), sync_nodes_timeout)
unfoldable pub lacks_timeout : ClusterView → Node → Bool
lacks_timeout c n = is_unset (sync_wait_of c n) && has_lists c n

abbrev pub is_zero : SyncWait → Bool
is_zero (After ms) = ms == 0
is_zero _ = false

abbrev pub is_too_large : SyncWait → Bool
is_too_large (After ms) = nat_lt timer_limit ms
is_too_large _ = false

-- the timeout of an application that isn't distributed is none
abbrev pub fails_over_too_late : ClusterView → App → Bool
fails_over_too_late c a = unwrap_or (option_map (λ (s : Spread). nat_lt timer_limit s.timeout) (spread_of c a)) false
