-- The part of a boot script that starts applications (ours; init.erl runs it).
use Rattle.std.specs.Prelude.{ℕ, zero, suc, ◌+◌, ◌-◌, ◌^◌, min, Bool, ◌==◌, ◌&&◌, nat_lt, length, Option, None, slice_get}
use Rattle.rh_model.specs.ClusterView.{ClusterView, boot_of, node_count}
use Rattle.rh_model.specs.declared.node.App.{App}
use Rattle.rh_model.specs.declared.node.Node.{Node}
use Rattle.rh_model.specs.declared.settings.Restart.{Restart}
use Rattle.rh_otp_node.specs.Live.{LiveView}

-- what the node's boot list has at this place
abbrev pub entry_at : ClusterView → Node → ℕ → Option (App × Restart)
entry_at c n place = slice_get (boot_of c n) place

-- what it has before this place
abbrev pub entry_before : ClusterView → Node → ℕ → Option (App × Restart)
entry_before c n zero = None
entry_before c n (suc place) = entry_at c n place

-- does its list end at this place?
abbrev pub is_end : ClusterView → Node → ℕ → Bool
is_end c n place = nat_lt n.0 (node_count c) && place == length (boot_of c n)

-- one application more has its turn (and no more than its type holds)
abbrev pub with_next : LiveView → LiveView
with_next v = record v { place = min (v.place + 1) (2 ^ 64 - 1) }
