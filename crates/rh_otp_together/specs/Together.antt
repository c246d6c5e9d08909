-- Boot scripts of several nodes that begin at once, where their dist_acs know one another and nothing is started yet, and that every order
-- of what comes of them ends alike.
use Rattle.std.specs.Prelude.{◌≡◌, ◌≢◌, ◌⊎◌, ◌≤◌, ◌<◌, ◌-◌, ◌^◌, List, [], ◌∷◌, All, map, filter, length, Bool, not, true, false, Some}
use Rattle.rh_model.specs.ClusterView.{boot_of, deps_of, is_permitted, is_platform}
use Rattle.rh_model.specs.declared.node.App.{App}
use Rattle.rh_model.specs.declared.node.Node.{Node}
use Rattle.rh_model.specs.declared.settings.Dep.{Dep}
use Rattle.rh_model.specs.declared.settings.Dep.TheVariants.{Listed, Platform}
use Rattle.rh_model.specs.declared.settings.Restart.{Restart}
use Rattle.rh_otp_model.specs.Own.{OwnView, controls}
use Rattle.rh_otp_controller.specs.First.{first}
use Rattle.rh_otp_dist.specs.declared.state.Stand.TheVariants as stand
use Rattle.rh_otp_dist.specs.declared.state.Standing.TheVariants as standing
use Rattle.rh_otp_dist.specs.Attempts.{has_app}
use Rattle.rh_otp_dist.specs.Choosing.{places_of}
use Rattle.rh_otp_dist.specs.State.{DistView, standing_of, is_among}
use Rattle.rh_otp_net.specs.Links.{are_linked}
use Rattle.rh_otp_node.specs.declared.node.Phase.TheVariants as phase
use Rattle.rh_otp_node.specs.Live.{permission_rows}
use Rattle.rh_otp_system.specs.declared.slow.Slow.TheVariants.{Boot}
use Rattle.rh_otp_system.specs.State.{SystemView, node_at, own_at, has_dist_at}
use Rattle.rh_otp_laws.specs.Acting.{IsThere}
use Rattle.rh_otp_crashes.specs.Failovers.{first_of}
use Rattle.rh_otp_stops.specs.Stops.{EndsAlike}
use Rattle.rh_otp_starts.specs.Elsewhere.{candidates_at}
use Rattle.rh_otp_gathers.specs.Gathers.{times}

-- ---- boot lists

-- what the application needs stands before it in the boot list, or is a name of the platform that the node has (ours)
abbrev pub IsBefore : SystemView → Node → List App → Dep → Type 0
IsBefore s m before (Listed b) = has_app b before ≡ true
IsBefore s m before (Platform p) = is_platform s.cluster m p ≡ true

-- Each entry stands in the boot list once, behind what it needs. One that the node's own `distributed` hasn't got is permitted there
-- (ours).
abbrev pub InOrder : SystemView → Node → List App → List (App × Restart) → Type 0
InOrder s m before [] = Unit {0}
InOrder s m before (row ∷ rows) = (has_app row.0 before ≡ false) × All (IsBefore s m before) (deps_of s.cluster row.0)
    × (controls (own_at s m) row.0 ≡ false → is_permitted s.cluster m row.0 ≡ true) × InOrder s m (row.0 ∷ before) rows

-- those of these entries that the node's own `distributed` has (kernel(6))
abbrev pub distributed_of : OwnView → List (App × Restart) → List App
distributed_of own rows = filter (controls own) (map (λ (row : App × Restart). row.0) rows)

-- ---- a node whose boot script is to begin

-- The node's dist_ac takes whatever comes. It has nothing of starts: it knows of nobody that runs anything, and nobody waits at it for a
-- takeover (dist_ac).
pub record IsBlank (d : DistView) : Type 0 where
  pub idle : d.stand ≡ stand.Idle
  pub mail : d.mail ≡ []
  pub runs : d.remote_started ≡ []
  pub started : d.started ≡ []
  pub locals : d.tmp_locals ≡ []
  pub weights : d.tmp_weights ≡ []
  pub takeovers : d.t_reqs ≡ []
  pub monitored : d.monitored ≡ []
  pub parked : d.parked ≡ []
  pub unknown : (a : App) → standing_of d a ≡ standing.Undefined

-- The node's dist_ac leaves the application to this node, be it its own or another one: the node itself may run it, and the other is the
-- first of the list that may, with no tuple before it; or the node may not run it, and the other one may (dist_ac, find_start_node/5).
abbrev pub LeavesTo : Node → App → DistView → SystemView → Node → Type 0
LeavesTo m a d s x =
    ((is_among m (candidates_at (own_at s m) a d) ≡ true) × (first_of (candidates_at (own_at s m) a d) (places_of (own_at s m) a) ≡ Some x))
    ⊎ ((is_among m (candidates_at (own_at s m) a d) ≡ false) × (is_among x (candidates_at (own_at s m) a d) ≡ true))

-- does the node boot the application, by its boot list (ours)?
abbrev pub boots_at : SystemView → Node → App → Bool
boots_at s m a = has_app a (map (λ (row : App × Restart). row.0) (boot_of s.cluster m))

-- those of these applications that the node doesn't boot (ours)
abbrev pub strangers_of : SystemView → Node → List App → List App
strangers_of s m apps = filter (λ (a : App). not (boots_at s m a)) apps

-- all these applications are left to the same node (ours)
abbrev pub AreLeftToOne : (App → Node) → List App → Type 0
AreLeftToOne at apps = All (λ (a : App). All (λ (c : App). (at a).0 ≡ (at c).0) apps) apps

-- The node is up, and nothing has started there: its controller is as it began. Its dist_ac has nothing of starts, and knows of the others
-- exactly those that are alive, each once; the node sees each of them. Its boot list is in order. The entries of it that its own
-- `distributed` has are exactly those of these applications that it boots, in their order; its dist_ac leaves each of them to the same node
-- as those of the others do. Those of these applications that it doesn't boot are all left to the same node (ours).
pub record IsToBoot (apps : List App) (at : App → Node) (m : Node) (s : SystemView) : Type 0 where
  pub there : IsThere m s
  pub up : (node_at s m).phase ≡ phase.Up
  pub place : (node_at s m).place ≡ 0
  pub controller : (node_at s m).controller ≡ first (permission_rows s.cluster m)
  pub has_dist : has_dist_at s m ≡ true
  pub dist : DistView
  pub has : (node_at s m).dist ≡ Some dist
  pub blank : IsBlank dist
  pub known : (x : Node) → x.0 ≢ m.0 → times x dist.known ≡ times x s.alive
  pub sees : (x : Node) → x.0 ≢ m.0 → 1 ≤ times x s.alive → are_linked m x s.links ≡ true
  pub in_order : InOrder s m [] (boot_of s.cluster m)
  pub short : length (boot_of s.cluster m) < 2 ^ 64 - 1
  pub distributed : distributed_of (own_at s m) (boot_of s.cluster m) ≡ filter (boots_at s m) apps
  pub leaves : All (λ (a : App). boots_at s m a ≡ true → LeavesTo m a dist s (at a)) apps
  pub strangers : AreLeftToOne at (strangers_of s m apps)

-- Each node that is alive is to boot so. Each of their distributed applications is left to a node that is alive, and boots it. Nothing else
-- is left to move: no message is on its way, no call is open, and nobody has a lock (ours).
pub record BootTogether (s : SystemView) : Type 0 where
  pub once : (m : Node) → times m s.alive ≤ 1
  pub apps : List App
  pub at : App → Node
  pub each : (m : Node) → 1 ≤ times m s.alive → IsToBoot apps at m s
  pub runners : All (λ (a : App). (1 ≤ times (at a) s.alive) × (boots_at s (at a) a ≡ true)) apps
  pub nodes : List Node
  pub slow : s.slow ≡ map Boot nodes
  pub all : (m : Node) → times m nodes ≡ times m s.alive
  pub messages : s.messages ≡ []
  pub calls : s.calls ≡ []
  pub locks : s.locks ≡ []

-- ---- the law

-- However the scripts, their starts and the news of these come between one another, all ends alike (init(3), application(3), kernel(6),
-- `distributed`).
abbrev pub BootScriptsEndAlikeTogether : Type 0
BootScriptsEndAlikeTogether = (s : SystemView) → BootTogether s → EndsAlike s
