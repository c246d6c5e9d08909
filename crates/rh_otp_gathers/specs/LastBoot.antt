-- The last of nodes begins that all wait for one another, and all orders of what comes of it lead to one state.
use Rattle.std.specs.Prelude.{◌≡◌, ◌≢◌, ◌≤◌, ◌+◌, ◌==◌, ℕ, [], true}
use Rattle.rh_model.specs.ClusterView.{is_in}
use Rattle.rh_model.specs.declared.node.Node.{Node}
use Rattle.rh_otp_net.specs.Links.{linked_with}
use Rattle.rh_otp_node.specs.declared.node.Phase.TheVariants as phase
use Rattle.rh_otp_node.specs.Kernel as kernel
use Rattle.rh_otp_node.specs.Live.{first_dist}
use Rattle.rh_otp_system.specs.Doing.{booted}
use Rattle.rh_otp_system.specs.Moves.{Reaches}
use Rattle.rh_otp_system.specs.State.{SystemView, node_at, own_at, wait_at}
use Rattle.rh_otp_laws.specs.Acting.{IsThere}
use Rattle.rh_otp_joins.specs.Leading.{LeadsTo}
use Rattle.rh_otp_waits.specs.Waits.{HasItWait, is_listed}
use Rattle.rh_otp_gathers.specs.Gathers.{times, one_if, HaveGathered}

-- A node waits for this one alone, by one of its lists. Its dist_ac, if its own file has it have one, is as it began: nothing has come to
-- it. And the node sees each other one that is alive, each once, and nobody else.
pub record WaitsForIt (n m : Node) (s : SystemView) : Type 0 where
  pub there : IsThere m s
  pub phase : (node_at s m).phase ≡ phase.Waiting
  pub waits : kernel.waits (node_at s m) ≡ true
  pub alone : (x : Node) → one_if (is_in x (node_at s m).mandatory) + one_if (is_in x (node_at s m).optional) ≤ one_if (x.0 == n.0)
  pub fresh : (node_at s m).dist ≡ first_dist s.cluster (own_at s m) m
  pub sees : (x : Node) → x.0 ≢ m.0 → times x (linked_with m s.links) ≡ times x s.alive
  pub not_itself : times m (linked_with m s.links) ≡ 0

-- The node isn't alive, and nobody is connected with it. Its own file has it wait, and its lists name exactly those that are alive. There is
-- one at least, and each of them waits for it alone. No message is on its way, and nobody has a lock.
pub record IsLast (n : Node) (s : SystemView) : Type 0 where
  pub there : IsThere n s
  pub file : HasItWait (wait_at s n)
  pub down : times n s.alive ≡ 0
  pub unseen : linked_with n s.links ≡ []
  pub lists : (x : Node) → is_listed s.cluster n x ≡ is_in x s.alive
  pub other : Node
  pub some : 1 ≤ times other s.alive
  pub once : (m : Node) → times m s.alive ≤ 1
  pub others : (m : Node) → 1 ≤ times m s.alive → WaitsForIt n m s
  pub messages : s.messages ≡ []
  pub locks : s.locks ≡ []

-- Every order of moves leads to one state, by the same number of moves, in which all have joined.
abbrev pub LastBootsComeToOneState : Type 0
LastBootsComeToOneState = (s : SystemView) (n : Node) → IsLast n s
    → (k : ℕ) × (t : SystemView) × LeadsTo k (booted n s) t × Reaches (booted n s) t × HaveGathered (booted n s) t
