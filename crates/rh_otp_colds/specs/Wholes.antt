-- The last boot of a cold start, with what all boot scripts do behind it; and so each boot of a cold start.
use Rattle.std.specs.Prelude.{◌≡◌, ◌≢◌, ◌<◌, ◌-◌, ◌^◌, ◌&&◌, List, [], All, filter, length, nat_lt, Bool, true, false, Option, Some}
use Rattle.rh_model.specs.ClusterView.{node_count, boot_of}
use Rattle.rh_model.specs.declared.node.App.{App}
use Rattle.rh_model.specs.declared.node.Node.{Node}
use Rattle.rh_otp_model.specs.Flags.{flag}
use Rattle.rh_otp_dist.specs.Choosing.{places_of, backwards}
use Rattle.rh_otp_node.specs.Live.{own_flags}
use Rattle.rh_otp_system.specs.Doing.{booted}
use Rattle.rh_otp_system.specs.Moves.{Reaches, IsSettled}
use Rattle.rh_otp_system.specs.State.{SystemView, live_at, own_at, has_dist_at, is_alive_at}
use Rattle.rh_otp_laws.specs.Acting.{IsThere, IsNew, IsReached, Happens}
use Rattle.rh_otp_orders.specs.Confluence.{EveryOrderEndsAlike}
use Rattle.rh_otp_crashes.specs.Failovers.{first_of}
use Rattle.rh_otp_stops.specs.Stops.{EndsAlike}
use Rattle.rh_otp_joins.specs.Joins.{uncounted}
use Rattle.rh_otp_together.specs.Together.{InOrder, distributed_of, boots_at, strangers_of, AreLeftToOne, BootTogether}
use Rattle.rh_otp_colds.specs.Colds.{is_there, NameEachOther, IsColdStart}

-- ---- what the files say of applications

-- may the node of the cluster run the application, by its own `distributed` and its permissions (kernel(6))?
abbrev pub may_start : SystemView → Node → App → Bool
may_start s x a = nat_lt x.0 (node_count s.cluster) && flag (own_flags s.cluster (own_at s x) x) a

-- the first node of the application's list that may run it, as this node's own `distributed` has the list (kernel(6)); none where a tuple
-- comes first
abbrev pub first_runner : SystemView → Node → App → Option Node
first_runner s m a = first_of (filter (λ (x : Node). may_start s x a) (backwards (own_at s m) a)) (places_of (own_at s m) a)

-- Nodes are those of the cluster. Each has a dist_ac, and a boot list that is in order and shorter than a number of 64 bits counts. The
-- entries of that list that its own `distributed` has are exactly those of these applications that the node boots, in their order; those
-- that it doesn't boot are all left to the same node. Each of these applications is left to a node that boots it and may run it, and that
-- is the first one that may by the file of each node that boots it (ours).
pub record CanStartTogether (s : SystemView) : Type 0 where
  pub nodes : (m : Node) → is_there s m ≡ nat_lt m.0 (node_count s.cluster)
  pub has_dist : (m : Node) → IsThere m s → has_dist_at s m ≡ true
  pub in_order : (m : Node) → IsThere m s → InOrder s m [] (boot_of s.cluster m)
  pub short : (m : Node) → IsThere m s → length (boot_of s.cluster m) < 2 ^ 64 - 1
  pub apps : List App
  pub distributed : (m : Node) → IsThere m s → distributed_of (own_at s m) (boot_of s.cluster m) ≡ filter (boots_at s m) apps
  pub at : App → Node
  pub strangers : (m : Node) → IsThere m s → AreLeftToOne at (strangers_of s m apps)
  pub runners : All (λ (a : App). (boots_at s (at a) a ≡ true) × (may_start s (at a) a ≡ true)) apps
  pub first : (m : Node) → IsThere m s → All (λ (a : App). boots_at s m a ≡ true → first_runner s m a ≡ Some (at a)) apps

-- ---- the last boot

-- All nodes but this one are alive, and there is another one (ours).
pub record IsLeft (n : Node) (s : SystemView) : Type 0 where
  pub there : IsThere n s
  pub down : is_alive_at s n ≡ false
  pub others : (m : Node) → IsThere m s → m.0 ≢ n.0 → is_alive_at s m ≡ true
  pub other : Node
  pub alive : is_alive_at s other ≡ true

-- The last boot of a cold start leads to where nothing but the boot scripts of all that are alive then is left to move, and these begin
-- together; and if every order ends alike from there, every order of what comes of the boot ends alike (init(3), kernel(6)).
abbrev pub LastBootsEndAsScriptsDo : Type 0
LastBootsEndAsScriptsDo = (s : SystemView) (n : Node) → IsReached s → IsColdStart s → CanStartTogether s → IsLeft n s
    → (t : SystemView) × Reaches (uncounted (booted n s)) t × (t.alive ≡ (booted n s).alive) × BootTogether t
    × (EveryOrderEndsAlike t → EveryOrderEndsAlike (uncounted (booted n s)))

-- ---- each boot

-- From a cold start each boot ends alike, whichever node begins, if there is another one: in every order, and so by every order that
-- `settle` is told. Where all others are alive it is the last one, with all that the boot scripts of all nodes do (kernel(6), init(3),
-- application(3)).
abbrev pub ColdBootsEndAlike : Type 0
ColdBootsEndAlike = (s : SystemView) (n other : Node) → IsReached s → IsColdStart s → CanStartTogether s → IsThere n s
    → is_alive_at s n ≡ false → IsThere other s → other.0 ≢ n.0 → EndsAlike (uncounted (booted n s))

-- Nodes and what is between them are as they were, as where a command is over, or the next one begins, or time passes and no timer fires
-- (ours).
pub record AreAsBefore (s t : SystemView) : Type 0 where
  pub cluster : t.cluster ≡ s.cluster
  pub files : t.files ≡ s.files
  pub nodes : (m : Node) → live_at t m ≡ live_at s m
  pub alive : t.alive ≡ s.alive
  pub links : t.links ≡ s.links
  pub locks : t.locks ≡ s.locks
  pub messages : t.messages ≡ s.messages
  pub slow : t.slow ≡ s.slow
  pub calls : t.calls ≡ s.calls

-- Of such nodes, which name one another, none has begun yet; or some have, one after the other, each where all that came of the one before
-- was at rest, and the last one hasn't; and meanwhile nothing else has happened to them (ours).
pub data IsStarting : SystemView → Type 0 where
  none_yet : (s : SystemView) → IsNew s → NameEachOther s → CanStartTogether s → IsStarting s
  one_more : (s t : SystemView) (n last : Node) → IsStarting s → IsThere n s → is_alive_at s n ≡ false → IsThere last s
      → is_alive_at s last ≡ false → last.0 ≢ n.0 → Reaches (booted n s) t → IsSettled t → IsStarting t
  meanwhile : (s t : SystemView) → IsStarting s → Happens s t → AreAsBefore s t → IsStarting t

-- So each boot of a whole cold start ends alike, whichever node begins each time, if there is another one (kernel(6), init(3)).
abbrev pub ColdStartsEndAlike : Type 0
ColdStartsEndAlike = (s : SystemView) (n other : Node) → IsStarting s → IsThere n s → is_alive_at s n ≡ false → IsThere other s
    → other.0 ≢ n.0 → EndsAlike (uncounted (booted n s))
