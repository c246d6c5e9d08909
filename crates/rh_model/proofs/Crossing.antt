-- A cluster may be handed from thread to thread, and threads may share one.
use denote.Param.Send.{IsSend, IsSync, sendable}
use Rattle.std.proofs.Crossing.{crosses}
use Rattle.rh_base.proofs.term.Term.TheLaws.TheKnot as terms
use Rattle.rh_base.proofs.text.Str.TheSendSync as text
use Rattle.rh_model.proofs.settings.Dep.TheSendSync as dep
use Rattle.rh_model.proofs.settings.Spread.TheSendSync as spread
use Rattle.rh_model.proofs.names.Names.TheSendSync as names
use Rattle.rh_model.proofs.node_settings.NodeSettings.TheSendSync as node_settings
use Rattle.rh_model.specs.contracts.app_settings.AppSettings as AppSettings
use Rattle.rh_model.specs.contracts.cluster.Cluster as Cluster

app_parts_send : IsSend AppSettings.the_row
app_parts_send = search (dep.the_send, spread.the_send, text.the_send, text.the_sync, crosses, terms.crosses_both, sendable) depth 60 fits 20000

app_parts_sync : IsSync AppSettings.the_row
app_parts_sync = search (dep.the_sync, spread.the_sync, text.the_send, text.the_sync, crosses, terms.crosses_both, sendable) depth 60 fits 20000

pub cluster_send : IsSend Cluster.the_row
cluster_send = search (app_parts_send, names.the_send, node_settings.the_send, crosses, sendable) depth 60 fits 20000

pub cluster_sync : IsSync Cluster.the_row
cluster_sync = search (app_parts_sync, names.the_sync, node_settings.the_sync, crosses, sendable) depth 60 fits 20000
