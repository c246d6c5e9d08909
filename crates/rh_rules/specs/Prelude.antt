-- What the chapters of the rules speak of, from one place: the words of lists and numbers, of clusters (rh_model) and of states
-- (rh_state), and the types of src/.
pub use Rattle.std.specs.List.{list_any, list_all, filter, last_or}
pub use Rattle.std.specs.Option.{option_map, option_or}
pub use Rattle.rh_base.specs.Lists.{first_given, lightest, head, or_else}
pub use Rattle.rh_model.specs.ClusterView.{ClusterView, spread_of, sync_wait_of, mandatory_of, optional_of, boot_of, is_platform, deps_of, has_phases, group_of, node_count, app_count, is_listed_at}
pub use Rattle.rh_model.specs.declared.node.App.{App}
pub use Rattle.rh_model.specs.declared.node.Node.{Node}
pub use Rattle.rh_model.specs.declared.settings.Dep.{Dep}
pub use Rattle.rh_model.specs.declared.settings.Dep.TheVariants.{Listed, Platform}
pub use Rattle.rh_model.specs.declared.settings.Restart.{Restart}
pub use Rattle.rh_model.specs.declared.settings.Restart.TheVariants.{Permanent, Transient, Temporary}
pub use Rattle.rh_model.specs.declared.settings.Spread.{Spread}
pub use Rattle.rh_model.specs.declared.settings.SyncWait.{SyncWait}
pub use Rattle.rh_model.specs.declared.settings.SyncWait.TheVariants.{After, Unset}
pub use Rattle.rh_state.specs.First.{configured}
pub use Rattle.rh_state.specs.Limits.{time_limit, incarnation_limit}
pub use Rattle.rh_state.specs.Numbers.{nodes_of, same_node, same_app, apps_of}
pub use Rattle.rh_state.specs.Setters.{with_time, with_timer, with_mode, with_incarnation, without_due, with_standing, with_restart, with_waiting, with_running, with_kind, unlisted, with_allowed}
pub use Rattle.rh_state.specs.Shape.{IsNodeOf, IsAppOf}
pub use Rattle.rh_state.specs.Standings.{is_quiet, is_lost_at, is_running_at, is_running}
pub use Rattle.rh_state.specs.StateView.{StateView, runs_at, earliest, incarnation_of, mode_of, is_alive, is_waiting, standing_of, is_up, is_started, is_allowed, running_count, waiting_at, waits_at, restart_of}
pub use Rattle.rh_state.specs.declared.status.Kind.{Kind}
pub use Rattle.rh_state.specs.declared.status.Kind.TheVariants.{Normal, Failover}
pub use Rattle.rh_state.specs.declared.status.Mode.TheVariants.{Waiting, Up, Down}
pub use Rattle.rh_state.specs.declared.status.Standing.{Standing}
pub use Rattle.rh_state.specs.declared.status.Standing.TheVariants.{Wanted, Running, Lost, Quiet}
pub use Rattle.rh_state.specs.declared.status.Timer.{Timer}
pub use Rattle.rh_state.specs.declared.status.Timer.TheVariants.{Sync, Failover}
pub use Rattle.rh_rules.specs.declared.event.Event.{Event}
pub use Rattle.rh_rules.specs.declared.event.Event.TheVariants.{Boot, Crash, Tick, Start, Stop, Permit, Takeover, Exit, StartAll, StopAll}
pub use Rattle.rh_rules.specs.declared.notice.Move.{Move}
pub use Rattle.rh_rules.specs.declared.notice.Move.TheVariants.{Local, Placement, Takeover}
pub use Rattle.rh_rules.specs.declared.notice.Notice.{Notice}
pub use Rattle.rh_rules.specs.declared.notice.Pair.{Pair}
pub use Rattle.rh_rules.specs.declared.pick.Pick.{Pick}
pub use Rattle.rh_rules.specs.declared.pick.Pick.TheVariants.{First, Last}
pub use Rattle.rh_rules.specs.declared.refusal.Refusal.{Refusal}
pub use Rattle.rh_rules.specs.declared.refusal.Refusal.TheVariants.{DependencyNotStarted, UnknownNode, UnknownApp, NodeNotUp, AlreadyAlive, IncarnationLimit, NotAlive, ZeroTick, TimeLimit, NotDistributed, NotListed, AlreadyStarted, NeverStarted, NotRunning, RunsHere, NotRunningHere, NotPermitted, TrailFull, OutOfMemory}
