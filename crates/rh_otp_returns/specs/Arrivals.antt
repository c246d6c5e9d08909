-- A node's wait for others is over by its time, when it has seen each that it must have, be that one there still or not: it comes up
-- without those for which it waits still, and every order of that, its boot script included, ends alike (kernel(6), `sync_nodes_timeout`,
-- `sync_nodes_optional`).
use Rattle.std.specs.Prelude.{◌≡◌, ◌≢◌, ◌++◌, ℕ, [], ◌∷◌, true, false, Some, None}
use Rattle.rh_model.specs.declared.node.Node.{Node}
use Rattle.rh_otp_model.specs.declared.message.Message.TheVariants as message
use Rattle.rh_otp_model.specs.declared.output.Event.TheVariants as event
use Rattle.rh_otp_model.specs.declared.process.Role.TheVariants as role
use Rattle.rh_otp_dist.specs.declared.state.Stand.TheVariants as stand
use Rattle.rh_otp_dist.specs.State.{DistView}
use Rattle.rh_otp_net.specs.Links.{are_linked}
use Rattle.rh_otp_net.specs.Timers.{next_due, fired, left}
use Rattle.rh_otp_node.specs.declared.node.Phase.TheVariants as phase
use Rattle.rh_otp_node.specs.Live.{first_dist}
use Rattle.rh_otp_system.specs.declared.slow.Slow.TheVariants.{Boot}
use Rattle.rh_otp_system.specs.Doing.{fired_next}
use Rattle.rh_otp_system.specs.Joining.{lacks_mandatory}
use Rattle.rh_otp_system.specs.Moves.{Reaches}
use Rattle.rh_otp_system.specs.State.{SystemView, node_at, own_at, is_alive_at, is_up_at, has_dist_at, process_in}
use Rattle.rh_otp_laws.specs.Acting.{IsReached}
use Rattle.rh_otp_crashes.specs.Crashes.{AreAtRest, FailOverLater}
use Rattle.rh_otp_locks.specs.Holding.{stand_at}
use Rattle.rh_otp_stops.specs.Stops.{EndsAlike}
use Rattle.rh_otp_joins.specs.Joins.{uncounted}
use Rattle.rh_otp_joins.specs.Leading.{LeadsTo}
use Rattle.rh_otp_returns.specs.Returns.{CanBootThere}

-- The timer that is due next is the end of the wait of this node, alone. The node waits still, and has seen, in this life, each of those
-- that it must have (kernel(6), `sync_nodes_timeout`, `sync_nodes_mandatory`; as `WaitEnds` of rh_otp_ticks, but for that). Nothing has
-- come to its dist_ac, if it has one, and nobody waits there for a start. It sees each other node that is alive; and the dist_ac of each of
-- these, where it has one, takes whatever comes.
pub record ComesUpInTime (n : Node) (s : SystemView) : Type 0 where
  pub due : ℕ
  pub step : ℕ
  pub next : next_due s.timers ≡ Some (due, step)
  pub alone : fired s.timers
      ≡ record { due = due; step = step; to = process_in s n role.KernelConfig; message = message.Timeout } ∷ []
  pub alive : is_alive_at s n ≡ true
  pub waits : is_up_at s n ≡ false
  pub has : lacks_mandatory n s ≡ false
  pub fresh : (node_at s n).dist ≡ first_dist s.cluster (own_at s n) n
  pub requests : (node_at s n).controller.start_req ≡ []
  pub sees : (m : Node) → m.0 ≢ n.0 → is_alive_at s m ≡ true → are_linked n m s.links ≡ true
  pub ready : (m : Node) → m.0 ≢ n.0 → is_alive_at s m ≡ true → has_dist_at s m ≡ true → stand_at s m ≡ Some stand.Idle

-- ---- it comes up

-- The node is up, and an observer was told so, and nothing else. Its dist_ac, if it has one, has synchronised; all else of the node is as
-- it was, and of the others nothing has changed but their dist_acs. No message is on its way, and what is slow is the node's boot script;
-- no call is open, and nobody has a lock. Who is alive and who is connected is as it was, the clock stands at that moment, and its timer is
-- gone.
pub record HasArrived (n : Node) (s : SystemView) (due : ℕ) (t : SystemView) : Type 0 where
  pub is_up : is_up_at t n ≡ true
  pub itself : record (node_at t n) { dist = None } ≡ record (node_at s n) { phase = phase.Up; dist = None }
  pub synchronised : (d : DistView) → (node_at t n).dist ≡ Some d → d.is_synchronised ≡ true
  pub others : (m : Node) → m.0 ≢ n.0 → record (node_at t m) { dist = None } ≡ record (node_at s m) { dist = None }
  pub events : t.events ≡ s.events ++ event.Up n ∷ []
  pub messages : t.messages ≡ []
  pub slow : t.slow ≡ Boot n ∷ []
  pub calls : t.calls ≡ []
  pub locks : t.locks ≡ []
  pub cluster : t.cluster ≡ s.cluster
  pub files : t.files ≡ s.files
  pub alive : t.alive ≡ s.alive
  pub links : t.links ≡ s.links
  pub clock : t.clock ≡ due
  pub timers : t.timers ≡ left s.timers

-- So by every order, and the same number of moves, it comes to a state that is alike to one, and some order reaches this very one.
abbrev pub ArrivalsComeToOneState : Type 0
ArrivalsComeToOneState = (s : SystemView) (n : Node) → IsReached s → AreAtRest s → (comes : ComesUpInTime n s)
    → (k : ℕ) × (t : SystemView) × LeadsTo k (uncounted (fired_next comes.due s)) t × Reaches (uncounted (fired_next comes.due s)) t
    × HasArrived n s comes.due t

-- ---- and its boot script

-- All that comes of the end of its wait ends alike: the node is up and synchronises its dist_ac with those that it sees, and its boot
-- script runs, with all that the others do for it. In every order, and so by every order that `settle` is told. If the command waits for
-- nodes that end by themselves, an application that is lost with a node is started elsewhere after some time (init(3), application(3),
-- kernel(6), `sync_nodes_timeout`, `distributed`).
abbrev pub ArrivalsEndAlike : Type 0
ArrivalsEndAlike = (s : SystemView) (n : Node) → IsReached s → AreAtRest s → (comes : ComesUpInTime n s) → CanBootThere n s
    → (s.ends_soon ≡ true → FailOverLater s)
    → EndsAlike (uncounted (fired_next comes.due s))
