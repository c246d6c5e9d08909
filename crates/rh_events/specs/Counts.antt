-- How many edits an event keeps of itself, beside those for what it tells (ours).
use Rattle.std.specs.Prelude.{ℕ, ◌+◌, ◌*◌}
use Rattle.rh_model.specs.ClusterView.{ClusterView, node_count}
use Rattle.rh_rules.specs.declared.event.Event.{Event}
use Rattle.rh_rules.specs.declared.event.Event.TheVariants.{Boot, Start, Stop, Permit, Takeover, StartAll, StopAll}

-- at most; those of a tick are its timers', and any other event has none
abbrev pub own_edits : ClusterView → Event → ℕ
own_edits c (Boot n) = 3
own_edits c (Start n a r) = 4
own_edits c (Stop n a) = 3
own_edits c (Permit n a allow) = 1
own_edits c (Takeover n a r) = 2
own_edits c (StartAll a r) = 4 * node_count c
own_edits c (StopAll a) = node_count c + 2
own_edits c _ = 0
