-- A node of which a file says nothing, where there are no applications and no platform names. A row says what it is about in
-- `record plain_node { .. }`, so that a parameter more changes no row.
use Rattle.std.proofs.Common.{[]}
use Rattle.rh_model.specs.ClusterView.{NodeView}
use Rattle.rh_model.specs.declared.settings.SyncWait.TheVariants.{Unset}

abbrev pub plain_node : NodeView
plain_node = record { mandatory = []; optional = []; sync_wait = Unset; boot = []; permissions = []; platforms = [] }
