-- Boot scripts that begin while all else is at rest, and that every order of what comes of one ends alike.
use Rattle.std.specs.Prelude.{◌≡◌, ◌≢◌, ◌==◌, ◌||◌, [], ◌∷◌, All, true, false, Some}
use Rattle.rh_model.specs.ClusterView.{boot_of}
use Rattle.rh_model.specs.declared.node.App.{App}
use Rattle.rh_model.specs.declared.node.Node.{Node}
use Rattle.rh_model.specs.declared.settings.Restart.{Restart}
use Rattle.rh_otp_model.specs.Own.{OwnView, WrittenView}
use Rattle.rh_otp_dist.specs.Choosing.{places_of}
use Rattle.rh_otp_dist.specs.State.{DistView, is_among}
use Rattle.rh_otp_net.specs.Links.{are_linked}
use Rattle.rh_otp_system.specs.declared.slow.Slow.TheVariants.{Boot}
use Rattle.rh_otp_system.specs.Moves.{is_to_end}
use Rattle.rh_otp_system.specs.State.{SystemView, node_at, own_at, is_alive_at}
use Rattle.rh_otp_laws.specs.Acting.{IsReached}
use Rattle.rh_otp_crashes.specs.Crashes.{IsUnoccupied, FailOverLater}
use Rattle.rh_otp_crashes.specs.Failovers.{SeesAll}
use Rattle.rh_otp_stops.specs.Stops.{EndsAlike}
use Rattle.rh_otp_starts.specs.Elsewhere.{candidates_at}

-- the application's list has no tuple, of which the weights of nodes would choose one (kernel(6), `distributed`)
abbrev pub HasNoTuple : OwnView → App → Type 0
HasNoTuple own a = All (λ (w : WrittenView). w.is_tuple ≡ false) (places_of own a)

-- each other node of the application's list that may run it, as a node's dist_ac knows, is alive, and the node sees it (ours)
abbrev pub SeesRunners : Node → App → DistView → SystemView → Type 0
SeesRunners n a d s = (m : Node) → m.0 ≢ n.0 → is_among m (candidates_at (own_at s n) a d) ≡ true
    → (is_alive_at s m ≡ true) × ((n.0 == m.0 || are_linked n m s.links) ≡ true)

-- Nothing is on its way, but that the boot script of this node begins. No call is open, nobody has a lock, no dist_ac of a node that is
-- alive stands in the middle of something, and no node has to go on to its end (ours).
pub record BootsAlone (n : Node) (s : SystemView) : Type 0 where
  pub messages : s.messages ≡ []
  pub slow : s.slow ≡ Boot n ∷ []
  pub calls : s.calls ≡ []
  pub locks : s.locks ≡ []
  pub dists : (m : Node) (d : DistView) → is_alive_at s m ≡ true → (node_at s m).dist ≡ Some d → IsUnoccupied d
  pub ends : (m : Node) → is_alive_at s m ≡ true → is_to_end m s ≡ false

-- The node is alive, and nobody waits there for a start or a takeover. It sees all those that are alive and of which its dist_ac knows. Of
-- what its boot script starts each other node that may run it, as its dist_ac knows, is alive, and the node sees it; and no list of that
-- has a tuple (ours).
pub record CanBoot (n : Node) (s : SystemView) : Type 0 where
  pub alive : is_alive_at s n ≡ true
  pub requests : (node_at s n).controller.start_req ≡ []
  pub sees_all : SeesAll n s
  pub runners : (d : DistView) → (node_at s n).dist ≡ Some d
      → All (λ (row : App × Restart). SeesRunners n row.0 d s) (boot_of s.cluster n)
  pub lists : All (λ (row : App × Restart). HasNoTuple (own_at s n) row.0) (boot_of s.cluster n)

-- A boot script ends alike, whatever its boot list is, and whatever comes of each entry: it starts at the node, moves there, runs
-- elsewhere, may run nowhere, is left to another node, by which the script waits for that one, fails, which may end the node, is forbidden,
-- or was started before. If the command waits for nodes that end by themselves, an application that is lost with the node is started
-- elsewhere after some time (init(3), application(3), kernel(6), `distributed`).
abbrev pub ScriptsEndAlike : Type 0
ScriptsEndAlike = (s : SystemView) (n : Node) → IsReached s → BootsAlone n s → CanBoot n s → (s.ends_soon ≡ true → FailOverLater s)
    → EndsAlike s
