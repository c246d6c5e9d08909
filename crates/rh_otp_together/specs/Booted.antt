-- What boot scripts come to that begin at once: each has started all of its list, and what an observer is told of it (ours).
use Rattle.std.specs.Prelude.{◌≡◌, ◌≤◌, ◌+◌, ◌==◌, ◌++◌, nat_lt, ℕ, List, [], ◌∷◌, map, filter, reverse, All, length, Bool, true, Some, None, if◌then◌else◌}
use Rattle.rh_model.specs.ClusterView.{boot_of, node_count}
use Rattle.rh_model.specs.declared.node.App.{App}
use Rattle.rh_model.specs.declared.node.Node.{Node}
use Rattle.rh_model.specs.declared.settings.Restart.{Restart}
use Rattle.rh_otp_model.specs.declared.output.Event.{Event}
use Rattle.rh_otp_model.specs.declared.output.Event.TheVariants as event
use Rattle.rh_otp_model.specs.declared.process.StartType.TheVariants.{Normal}
use Rattle.rh_otp_model.specs.Own.{controls}
use Rattle.rh_otp_model.specs.Rows.{keyfind, has_row}
use Rattle.rh_otp_controller.specs.declared.state.Place.{Place}
use Rattle.rh_otp_controller.specs.declared.state.Place.TheVariants as place_of
use Rattle.rh_otp_dist.specs.declared.state.Stand.TheVariants as stand
use Rattle.rh_otp_dist.specs.State.{DistView}
use Rattle.rh_otp_system.specs.Moves.{Reaches, IsSettled}
use Rattle.rh_otp_system.specs.State.{SystemView, node_at, own_at}
use Rattle.rh_otp_orders.specs.Orders.{of_owner, node_told}
use Rattle.rh_otp_crashes.specs.Crashes.{IsUnoccupied}
use Rattle.rh_otp_joins.specs.Leading.{LeadsTo}
use Rattle.rh_otp_gathers.specs.Gathers.{times}
use Rattle.rh_otp_together.specs.Together.{strangers_of, BootTogether}

-- does an application of the node's boot list run at the node itself? One that the node's own `distributed` has runs at the node to which
-- its dist_ac leaves it (kernel(6)).
abbrev pub runs_here : SystemView → (App → Node) → Node → App → Bool
runs_here s at m a = if controls (own_at s m) a then (at a).0 == m.0 else true

-- where it runs, then: at the node itself, or at that other one
abbrev pub place_there : SystemView → (App → Node) → Node → App → Place
place_there s at m a = if runs_here s at m a then place_of.Here else place_of.At (at a)

-- What an observer is told of the node: the starts of what runs there, in the order of its boot list, and that it has booted, if it is one
-- of the cluster.
abbrev pub told_there : SystemView → (App → Node) → Node → List Event
told_there s at m =
    map (λ (row : App × Restart). event.Started row.0 m Normal)
    (filter (λ (row : App × Restart). runs_here s at m row.0) (boot_of s.cluster m))
    ++ (if nat_lt m.0 (node_count s.cluster) then event.Booted m ∷ [] else [])

-- Where those of these applications run that the node doesn't boot. The same node starts all of them, in their order, and its news come
-- in that order, too; dist_ac puts what it is told last in front (`remote_started`; ours).
abbrev pub rows_of : SystemView → Node → (App → Node) → List App → List (App × Node)
rows_of s m at apps = map (λ (a : App). (a, at a)) (reverse (strangers_of s m apps))

-- The node's script has come to the end of its list, and the controller has each entry as started, and knows where it runs. The dist_ac
-- takes whatever comes, nothing is left in its mailbox, and of starts that its node hasn't asked for it knows those of the applications
-- that its node doesn't boot, at the node at which these run; it is unoccupied, if nobody waited at it for a permission where the scripts
-- began. But for these, and for the kinds of starts that an observer saw there, the node is as it was: its phase and its life, too. And
-- of the node an observer was told so, behind what was told before.
pub record HasBooted (apps : List App) (at : App → Node) (m : Node) (s t : SystemView) : Type 0 where
  pub place : (node_at t m).place ≡ length (boot_of s.cluster m) + 1
  pub runs : All (λ (row : App × Restart). keyfind row.0 (node_at t m).controller.running ≡ Some (place_there s at m row.0))
      (boot_of s.cluster m)
  pub started : All (λ (row : App × Restart). has_row row.0 (node_at t m).controller.started ≡ true) (boot_of s.cluster m)
  pub idle : (d : DistView) → (node_at t m).dist ≡ Some d → (d.stand ≡ stand.Idle) × (d.mail ≡ [])
      × (d.remote_started ≡ rows_of s m at apps)
  pub unoccupied : (d e : DistView) → (node_at s m).dist ≡ Some d → (node_at t m).dist ≡ Some e → d.p_reqs ≡ [] → IsUnoccupied e
  pub rest : node_at t m ≡ record (node_at s m) {
    place = (node_at t m).place;
    controller = (node_at t m).controller;
    dist = (node_at t m).dist;
    kinds = (node_at t m).kinds;
  }
  pub told : of_owner node_told (Some m) t.events ≡ of_owner node_told (Some m) s.events ++ told_there s at m

-- So is each that is alive; nothing is left to move, and nobody has a lock. No other node has changed, nothing was told of one, and but for
-- nodes and for what was told all else is as it was.
pub record HaveBooted (apps : List App) (at : App → Node) (s t : SystemView) : Type 0 where
  pub each : (m : Node) → 1 ≤ times m s.alive → HasBooted apps at m s t
  pub messages : t.messages ≡ []
  pub slow : t.slow ≡ []
  pub locks : t.locks ≡ []
  pub others : (m : Node) → times m s.alive ≡ 0 → node_at t m ≡ node_at s m
  pub strangers : (m : Node) → times m s.alive ≡ 0 → of_owner node_told (Some m) t.events ≡ of_owner node_told (Some m) s.events
  pub nobody : of_owner node_told None t.events ≡ of_owner node_told None s.events
  pub rest : t ≡ record s { nodes = t.nodes; messages = []; slow = []; locks = []; events = t.events }

-- Every order of moves leads to one such state, by the same number of moves, and there nothing moves any more: no script waits for one that
-- waits for it (init(3), application(3), kernel(6), `distributed`).
abbrev pub BootScriptsComeToOneState : Type 0
BootScriptsComeToOneState = (s : SystemView) (g : BootTogether s)
    → (k : ℕ) × (t : SystemView) × LeadsTo k s t × Reaches s t × IsSettled t × HaveBooted g.apps g.at s t
