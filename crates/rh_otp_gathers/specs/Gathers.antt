-- Nodes that all wait, while each is told of all those for which it waits, and that all orders of what comes of it lead to one state.
use Rattle.std.specs.Prelude.{◌≡◌, ◌≢◌, ◌<◌, ◌≤◌, ◌+◌, ◌==◌, ◌&&◌, ◌++◌, ℕ, List, [], map, filter, length, replicate, slice_get, All, Bool, true, false, Some, is_some, if◌then◌else◌}
use Rattle.rh_model.specs.ClusterView.{is_in, node_count, app_count}
use Rattle.rh_model.specs.declared.node.Node.{Node}
use Rattle.rh_otp_model.specs.declared.message.Message.{Message}
use Rattle.rh_otp_model.specs.declared.message.Message.TheVariants as message
use Rattle.rh_otp_model.specs.declared.output.Envelope.{Envelope}
use Rattle.rh_otp_model.specs.declared.output.Event.TheVariants as event
use Rattle.rh_otp_model.specs.declared.process.Role.TheVariants as role
use Rattle.rh_otp_dist.specs.declared.state.Stand.TheVariants as stand
use Rattle.rh_otp_dist.specs.State.{DistView, beginning, is_among}
use Rattle.rh_otp_net.specs.Links.{linked_with}
use Rattle.rh_otp_node.specs.declared.node.Phase.TheVariants as phase
use Rattle.rh_otp_node.specs.Kernel as kernel
use Rattle.rh_otp_node.specs.Live.{own_flags, first_dist}
use Rattle.rh_otp_system.specs.declared.slow.Slow.TheVariants as slow
use Rattle.rh_otp_system.specs.Moves.{Reaches}
use Rattle.rh_otp_system.specs.State.{SystemView, node_at, own_at, is_up_at, has_dist_at, process_in}
use Rattle.rh_otp_laws.specs.Acting.{IsThere}
use Rattle.rh_otp_joins.specs.Leading.{LeadsTo}

-- ---- what is on its way

-- how often the node stands in the list
abbrev pub times : Node → List Node → ℕ
times m nodes = length (filter (λ (x : Node). x.0 == m.0) nodes)

-- is it that this node is up?
abbrev pub is_node_up : Node → Message → Bool
is_node_up x (message.NodeUp y) = y.0 == x.0
is_node_up x m = false

-- how often the first node is to be told that the second is up
abbrev pub tellings : Node → Node → List Envelope → ℕ
tellings m x messages = length (filter (λ (e : Envelope). e.to.node.0 == m.0 && is_node_up x e.message) messages)

-- net_kernel of a node that is alive tells kernel_config there, in its life now, that some node is up
pub record IsTelling (s : SystemView) (e : Envelope) : Type 0 where
  pub node : Node
  pub other : Node
  pub alive : 1 ≤ times node s.alive
  pub is : e ≡ record {
    from = process_in s node role.NetKernel;
    to = process_in s node role.KernelConfig;
    message = message.NodeUp other;
  }

-- ---- nodes that gather

abbrev pub one_if : Bool → ℕ
one_if b = if b then 1 else 0

-- A node waits for others, and is told of each of them, at least once for each of its lists in which that stands. Its dist_ac, if its own
-- file has it have one, is as it began: nothing has come to it. And the node sees each other one that is alive, each once, and nobody else.
pub record Gathers (m : Node) (s : SystemView) : Type 0 where
  pub there : IsThere m s
  pub phase : (node_at s m).phase ≡ phase.Waiting
  pub waits : kernel.waits (node_at s m) ≡ true
  pub told : (x : Node) → one_if (is_in x (node_at s m).mandatory) + one_if (is_in x (node_at s m).optional) ≤ tellings m x s.messages
  pub fresh : (node_at s m).dist ≡ first_dist s.cluster (own_at s m) m
  pub sees : (x : Node) → x.0 ≢ m.0 → times x (linked_with m s.links) ≡ times x s.alive
  pub not_itself : times m (linked_with m s.links) ≡ 0

-- So does each node that is alive, and nothing else is on its way than what they are told; nobody has a lock.
pub record AllGather (s : SystemView) : Type 0 where
  pub once : (m : Node) → times m s.alive ≤ 1
  pub each : (m : Node) → 1 ≤ times m s.alive → Gathers m s
  pub messages : All (IsTelling s) s.messages
  pub locks : s.locks ≡ []

-- ---- what they come to

-- what a dist_ac learns that this node may run: what that one's own file says, where it is alive and has a dist_ac, and else nothing
abbrev pub learnt_of : SystemView → Node → List Bool
learnt_of s x = if is_in x s.alive && has_dist_at s x then own_flags s.cluster (own_at s x) x else replicate (app_count s.cluster) false

-- The dist_ac of a node takes whatever comes, and nothing is left of what has come. It has synchronised: it knows itself, and of the others
-- exactly those that are alive and have a dist_ac, each once. It knows of nobody that runs anything, and of each node of the cluster what
-- that one may run. All else is as where it began.
pub record KnowsAll (m : Node) (s : SystemView) (d : DistView) : Type 0 where
  pub idle : d.stand ≡ stand.Idle
  pub synchronised : d.is_synchronised ≡ true
  pub mail : d.mail ≡ []
  pub runs : d.remote_started ≡ []
  pub itself : is_among m d.known ≡ true
  pub known : (x : Node) → x.0 ≢ m.0 → is_among x d.known ≡ (is_in x s.alive && has_dist_at s x)
  pub once : (x : Node) → x.0 ≢ m.0 → times x d.known ≡ (if has_dist_at s x then times x s.alive else 0)
  pub rows : length d.may ≡ node_count s.cluster
  pub may : (x : Node) → x.0 < node_count s.cluster → slice_get d.may x.0 ≡ Some (learnt_of s x)
  pub rest : d ≡ record (beginning (node_count s.cluster) (app_count s.cluster) m (own_flags s.cluster (own_at s m) m)) {
    stand = stand.Idle;
    is_synchronised = true;
    known = d.known;
    may = d.may;
  }

-- The node is up, in the same life, and waits for nobody. Its dist_ac knows all others, if it has one, and nothing else of the node has
-- changed.
pub record IsGathered (m : Node) (s t : SystemView) : Type 0 where
  pub up : is_up_at t m ≡ true
  pub life : (node_at t m).life ≡ (node_at s m).life
  pub has : is_some (node_at t m).dist ≡ has_dist_at s m
  pub dist : (d : DistView) → (node_at t m).dist ≡ Some d → KnowsAll m s d
  pub rest : node_at t m ≡ record (node_at s m) { mandatory = []; optional = []; phase = phase.Up; dist = (node_at t m).dist }

-- All have joined, each once, in some order, in which an observer was told so, and in which their boot scripts are to begin. No message is
-- on its way, and nobody has a lock; who is alive, connections and calls are as they were, and so is each node that isn't alive, and all
-- else.
pub record HaveGathered (s t : SystemView) : Type 0 where
  pub messages : t.messages ≡ []
  pub locks : t.locks ≡ []
  pub alive : t.alive ≡ s.alive
  pub links : t.links ≡ s.links
  pub calls : t.calls ≡ s.calls
  pub joined : List Node
  pub all : (m : Node) → times m joined ≡ times m s.alive
  pub events : t.events ≡ s.events ++ map event.Up joined
  pub slow : t.slow ≡ s.slow ++ map slow.Boot joined
  pub each : (m : Node) → 1 ≤ times m s.alive → IsGathered m s t
  pub others : (m : Node) → times m s.alive ≡ 0 → node_at t m ≡ node_at s m
  pub rest : t ≡ record s { nodes = t.nodes; messages = []; slow = t.slow; events = t.events }

-- Every order of moves leads to one such state, by the same number of moves.
abbrev pub NodesThatGatherComeToOneState : Type 0
NodesThatGatherComeToOneState = (s : SystemView) → AllGather s
    → (k : ℕ) × (t : SystemView) × LeadsTo k s t × Reaches s t × HaveGathered s t
