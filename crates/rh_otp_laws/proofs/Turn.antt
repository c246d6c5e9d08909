-- What a rule changes, one thing after the other: all rules are made of these changes, so that what holds of each of them holds of
-- what any rule does.
use Rattle.std.proofs.Common.{◌≡◌, ◌<◌, ◌++◌, ℕ, Bool, true, false, cond, List, refl}
use Rattle.rh_model.specs.declared.node.App.{App}
use Rattle.rh_model.specs.declared.node.Node.{Node}
use Rattle.rh_otp_model.specs.declared.message.Message.{Message}
use Rattle.rh_otp_model.specs.declared.output.Envelope.{Envelope}
use Rattle.rh_otp_model.specs.declared.output.Event.{Event}
use Rattle.rh_otp_model.specs.declared.output.Requester.{Requester}
use Rattle.rh_otp_model.specs.declared.process.Process.{Process}
use Rattle.rh_otp_model.specs.declared.process.StartType.{StartType}
use Rattle.rh_otp_net.specs.declared.links.Link.{Link}
use Rattle.rh_otp_net.specs.Locks.{taken}
use Rattle.rh_otp_node.specs.Live.{LiveView, is_alive, with_kind}
use Rattle.rh_otp_node.specs.Remote.{without_monitors}
use Rattle.rh_otp_system.specs.declared.calls.Call.{Call}
use Rattle.rh_otp_system.specs.declared.slow.Answered.{Answered}
use Rattle.rh_otp_system.specs.declared.slow.Slow.{Slow}
use Rattle.rh_otp_system.specs.State.{SystemView, node_at, with_node}
use Rattle.rh_otp_system.specs.Ending.{taken_down}
use Rattle.rh_otp_system.specs.Outputs.{free}
use Rattle.rh_otp_system.specs.Sending.{with_event, with_timer}

-- the node is in the same life, and alive where it was
abbrev pub LivesOn : LiveView → LiveView → Type 0
LivesOn v w = (w.life ≡ v.life) × (is_alive w ≡ is_alive v)

-- What one node's turn makes of a system: nothing, or one thing behind the other. Its own processes write its state; an observer notes
-- of any node of which kind a start was; it sends, and tells of events; it sets a timer, which is due later; connections, slower things,
-- locks, calls and answers change; and the node ends, which takes the monitors of it from others.
pub data Turn (n : Node) : SystemView → SystemView → Type 0 where
  nothing : (s : SystemView) → Turn n s s
  both : (s t u : SystemView) → Turn n s t → Turn n t u → Turn n s u
  wrote : (s : SystemView) (v : LiveView) → LivesOn (node_at s n) v → Turn n s (with_node n v s)
  noted : (s : SystemView) (m : Node) (a : App) (kind : StartType) → Turn n s (with_node m (with_kind a kind (node_at s m)) s)
  seen : (s : SystemView) (e : Event) → Turn n s (with_event e s)
  put : (s : SystemView) (more : List Envelope) → Turn n s (record s { messages = s.messages ++ more })
  set : (s : SystemView) (due : ℕ) (to : Process) (m : Message) → s.clock < due → Turn n s (with_timer due to m s)
  linked : (s : SystemView) (links : List Link) → Turn n s (record s { links = links })
  slowed : (s : SystemView) (slow : List Slow) → Turn n s (record s { slow = slow })
  took : (s : SystemView) (r : Requester) (p : Process) (nodes : List Node) → Turn n s (record s { locks = taken r p nodes s.locks })
  freed : (s : SystemView) (r : Requester) (p : Process) → Turn n s (free r p s)
  called : (s : SystemView) (calls : List Call) (last : ℕ) → Turn n s (record s { calls = calls; last_call = last })
  answered : (s : SystemView) (answers : List Answered) → Turn n s (record s { answers = answers })
  fell : (s : SystemView) → Turn n s (taken_down n s)
  unmonitored : (s : SystemView) (m : Node) → Turn n s (with_node m (without_monitors n (node_at s m)) s)

infixl 5 ◌then◌
pub ◌then◌ : {n : Node} {s t u : SystemView} → Turn n s t → Turn n t u → Turn n s u
p then q = both _ _ _ p q

pub either : (n : Node) (b : Bool) (x y s : SystemView) → Turn n s x → Turn n s y → Turn n s (cond b x y)
either n true x y s p q = p
either n false x y s p q = q

-- the same, where what the test tells counts
pub either_if : (n : Node) (b : Bool) (x y s : SystemView) → (b ≡ true → Turn n s x) → (b ≡ false → Turn n s y) → Turn n s (cond b x y)
either_if n true x y s p q = p refl
either_if n false x y s p q = q refl
