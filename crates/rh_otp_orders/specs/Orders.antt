-- In which order messages arrive at two nodes, and where it makes no difference.
use Rattle.std.specs.Prelude.{◌≡◌, ◌≢◌, ◌<◌, ◌+◌, ◌⊎◌, ◌==◌, ◌&&◌, ℕ, Bool, true, false, List, filter, slice_get, Option, Some, None}
use Rattle.rh_model.specs.declared.node.App.{App}
use Rattle.rh_model.specs.declared.node.Node.{Node}
use Rattle.rh_otp_model.specs.declared.message.Message.{Message}
use Rattle.rh_otp_model.specs.declared.message.Message.TheVariants as message
use Rattle.rh_otp_model.specs.declared.output.Envelope.{Envelope}
use Rattle.rh_otp_model.specs.declared.output.Event.{Event}
use Rattle.rh_otp_model.specs.declared.output.Event.TheVariants as event
use Rattle.rh_otp_model.specs.declared.process.Role.{Role}
use Rattle.rh_otp_model.specs.declared.process.Role.TheVariants as role
use Rattle.rh_otp_net.specs.declared.timers.Timer.{Timer}
use Rattle.rh_otp_system.specs.declared.calls.Call.{Call}
use Rattle.rh_otp_system.specs.declared.slow.Answered.{Answered}
use Rattle.rh_otp_system.specs.declared.moves.Move.TheVariants as move
use Rattle.rh_otp_system.specs.Moves.{made, Delivers, Reaches, IsSettled}
use Rattle.rh_otp_system.specs.State.{SystemView, is_alive_at}
use Rattle.rh_otp_system.specs.Working.{pair_of, answer_count, mail_count_at}
use Rattle.rh_otp_laws.specs.Acting.{IsReached}
use Rattle.rh_otp_laws.specs.Messages.{of_pair}
use Rattle.rh_otp_laws.specs.Turns.{arriving, node_of_slow}

-- the message arrives, the first of its pair of processes on their way, and this is the system behind it
abbrev pub Arrives : Envelope → SystemView → SystemView → Type 0
Arrives e s t = (place : ℕ) × (arriving place s ≡ Some e) × (t ≡ made (move.Deliver place) s)

-- is it the process of a call of an operator?
abbrev pub is_call : Role → Bool
is_call (role.Call number) = true
is_call r = false

-- it isn't for the call of another node
abbrev pub IsAtHome : Envelope → SystemView → Type 0
IsAtHome e s = (place : ℕ) (call : Call) → slice_get s.calls place ≡ Some call → e.to.role ≡ role.Call call.number → call.node ≡ e.to.node

-- how often two nodes have answered one another since all was quiet, of an application or of none
abbrev pub answers_of : SystemView → Node → Node → Option App → ℕ
answers_of s m n app = answer_count s.answers (pair_of m n app)

-- Another node's turn leaves this one alone: it connects nobody, keeps no lock that it takes and frees none that was held, and ends no
-- node. And how often this node and each other one have answered one another is as it was, or so seldom that this one could answer the
-- message that arrives and all of its mailbox without coming to the bound of twenty.
pub record LeavesAlone (n : Node) (s t : SystemView) : Type 0 where
  pub links : t.links ≡ s.links
  pub locks : t.locks ≡ s.locks
  pub alive : (m : Node) → is_alive_at t m ≡ is_alive_at s m
  pub answers : (m : Node) (app : Option App)
      → (answers_of t n m app ≡ answers_of s n m app) ⊎ (answers_of t n m app + mail_count_at s n < 20)

-- is it the same node, or none in both?
abbrev pub is_owner : Option Node → Option Node → Bool
is_owner None None = true
is_owner (Some m) (Some n) = m.0 == n.0
is_owner m n = false

-- those that are of this node, or of none, in their order
abbrev pub of_owner : {A : Type 0} → (A → Option Node) → Option Node → List A → List A
of_owner owner o xs = filter (λ x. is_owner o (owner x)) xs

-- Two lists have the same of each node, in the same order, and the same of none: only what is of different nodes can stand otherwise.
abbrev pub SameOfEach : {A : Type 0} → (A → Option Node) → List A → List A → Type 0
SameOfEach owner xs ys = (o : Option Node) → of_owner owner o xs ≡ of_owner owner o ys

-- the node at which a timer fires
abbrev pub node_of_timer : Timer → Option Node
node_of_timer x = Some x.to.node

-- the node that an observer is told of; the answer of a call is of none
abbrev pub node_told : Event → Option Node
node_told (event.Up n) = Some n
node_told (event.Booted n) = Some n
node_told (event.Ended n) = Some n
node_told (event.Started a n kind) = Some n
node_told (event.Stopped a n) = Some n
node_told (event.Failed a n fault) = Some n
node_told (event.Answered number) = None

-- Two systems differ at most in how that stands of which nothing depends on the order: messages of different pairs of processes, and
-- timers, slower things and events of different nodes; answers are only counted. All else is the same, and so are the messages of each
-- pair, in their order.
pub record AreAlike (s t : SystemView) : Type 0 where
  pub cluster : s.cluster ≡ t.cluster
  pub files : s.files ≡ t.files
  pub nodes : s.nodes ≡ t.nodes
  pub clock : s.clock ≡ t.clock
  pub step : s.step ≡ t.step
  pub last_call : s.last_call ≡ t.last_call
  pub alive : s.alive ≡ t.alive
  pub links : s.links ≡ t.links
  pub locks : s.locks ≡ t.locks
  pub calls : s.calls ≡ t.calls
  pub asleep : s.asleep ≡ t.asleep
  pub told : s.told ≡ t.told
  pub answers : (pair : Answered) → answer_count s.answers pair ≡ answer_count t.answers pair
  pub is_ticking : s.is_ticking ≡ t.is_ticking
  pub ends_soon : s.ends_soon ≡ t.ends_soon
  pub messages : (pair : Envelope) → of_pair pair s.messages ≡ of_pair pair t.messages
  pub timers : SameOfEach node_of_timer s.timers t.timers
  pub slow : SameOfEach node_of_slow s.slow t.slow
  pub events : SameOfEach node_told s.events t.events

-- Of two messages for two different nodes either can arrive, and neither changes what the nodes share. They aren't both for calls of an
-- operator, whose answers an observer sees in the order in which they come; and one for a call is for one that was made at its node, as
-- live nodes send no other. The system is `t` behind the one and `u` behind the other.
pub record AreIndependent (s t u : SystemView) (e f : Envelope) : Type 0 where
  pub one : Arrives e s t
  pub other : Arrives f s u
  pub two_nodes : e.to.node.0 ≢ f.to.node.0
  pub leaves_other : LeavesAlone f.to.node s t
  pub leaves_one : LeavesAlone e.to.node s u
  pub one_home : IsAtHome e s
  pub other_home : IsAtHome f s
  pub one_call : (is_call e.to.role && is_call f.to.role) ≡ false

-- They can arrive in either order, and what comes of both is alike, whichever comes first.
abbrev pub MessagesAtTwoNodesCommute : Type 0
MessagesAtTwoNodesCommute = (s t u : SystemView) (e f : Envelope) → AreIndependent s t u e f
    → (v : SystemView) × (w : SystemView) × Arrives f t v × Arrives e u w × AreAlike v w

-- Is it for a controller or a boot script, or does it tell kernel_config that a node is there? (At the end of its wait kernel_config may
-- end its own node.)
abbrev pub is_own_matter : Role → Message → Bool
is_own_matter role.Controller m = true
is_own_matter role.Boot m = true
is_own_matter role.KernelConfig (message.NodeUp n) = true
is_own_matter r m = false

-- What these do leaves all nodes alone: so messages for them, at two nodes, can always arrive in either order.
abbrev pub OwnMattersLeaveAlone : Type 0
OwnMattersLeaveAlone = (s t : SystemView) (e : Envelope) → Arrives e s t → is_own_matter e.to.role e.message ≡ true
    → (n : Node) → LeavesAlone n s t

-- What comes of systems that are alike is alike: a message that arrives in the one can arrive in the other, and whatever it does, both are
-- alike behind it.
abbrev pub AlikeGoOnAlike : Type 0
AlikeGoOnAlike = (s s' t : SystemView) (e : Envelope) → AreAlike s s' → Arrives e s t → (t' : SystemView) × Arrives e s' t' × AreAlike t t'

-- And so it is with every move of what live nodes reach: what is possible is possible in a system that is alike, if at another place, and
-- both are alike behind it.
abbrev pub AlikeMoveAlike : Type 0
AlikeMoveAlike = (s s' t : SystemView) → AreAlike s s' → IsReached s → Delivers s t → (t' : SystemView) × Delivers s' t' × AreAlike t t'

-- So whatever comes of the one system, something alike comes of the other, however many moves there are; and where the one is at rest the
-- other is.
abbrev pub AlikeReachAlike : Type 0
AlikeReachAlike = (s s' t : SystemView) → AreAlike s s' → IsReached s → Reaches s t
    → (t' : SystemView) × Reaches s' t' × AreAlike t t' × (IsSettled t → IsSettled t')

-- And so of two such messages it makes no difference to all that follows which comes first.
abbrev pub WhicheverComesFirst : Type 0
WhicheverComesFirst = (s t u : SystemView) (e f : Envelope) → IsReached s → AreIndependent s t u e f
    → (v : SystemView) × (w : SystemView) × Arrives f t v × Arrives e u w
    × ((x : SystemView) → Reaches v x → (y : SystemView) × Reaches w y × AreAlike x y × (IsSettled x → IsSettled y))
