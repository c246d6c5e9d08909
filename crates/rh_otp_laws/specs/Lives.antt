-- The lives of nodes, and who is alive.
use Rattle.std.specs.Prelude.{◌≡◌, ◌≢◌, ◌≤◌, ◌+◌, ◌++◌, ◌↔◌, ℕ, true, false, List, AllPairs, slice_get, Some}
use Rattle.rh_model.specs.declared.node.App.{App}
use Rattle.rh_model.specs.declared.node.Node.{Node}
use Rattle.rh_otp_model.specs.declared.output.Event.{Event}
use Rattle.rh_otp_model.specs.declared.output.Event.TheVariants as event
use Rattle.rh_otp_model.specs.declared.process.Process.{Process}
use Rattle.rh_otp_system.specs.declared.calls.Ask.{Ask}
use Rattle.rh_otp_system.specs.declared.moves.Move.{Move}
use Rattle.rh_otp_system.specs.State.{SystemView, node_at, is_alive_at, lives}
use Rattle.rh_otp_system.specs.Doing.{booted, called}
use Rattle.rh_otp_system.specs.Moves.{made, IsAmong}
use Rattle.rh_otp_system.specs.Resting.{crashed}
use Rattle.rh_otp_laws.specs.Acting.{IsThere, Acts, IsReached}

abbrev pub life_at : SystemView → Node → ℕ
life_at s n = (node_at s n).life

-- each node is in the life in which it was, and none has come up
abbrev pub IsNoneBegun : SystemView → SystemView → Type 0
IsNoneBegun s t = (n : Node) → (life_at t n ≡ life_at s n) × (is_alive_at s n ≡ false → is_alive_at t n ≡ false)

-- A node begins a life by its own beginning, one more than the last, and by nothing else: no move, no end of a node and no call changes
-- the life of any node, or brings one up that is down; nor does the beginning of another node.
pub record LivesAreCounted : Type 0 where
  pub moves : (s : SystemView) (next : Move) → IsNoneBegun s (made next s)
  pub crashes : (s : SystemView) (n : Node) → IsNoneBegun s (crashed n s)
  pub calls : (s : SystemView) (a : Ask) (n : Node) (app : App) → IsNoneBegun s (called a n app s)
  pub begins : (s : SystemView) (n : Node) → IsThere n s → life_at (booted n s) n ≡ life_at s n + 1
  pub others : (s : SystemView) (n m : Node) → IsThere n s → m.0 ≢ n.0
      → (life_at (booted n s) m ≡ life_at s m) × (is_alive_at s m ≡ false → is_alive_at (booted n s) m ≡ false)

-- whatever goes down is told: an observer sees the end of each node that was alive and isn't any more
pub record EndsAreToldOf (s t : SystemView) : Type 0 where
  pub more : List Event
  pub behind : t.events ≡ s.events ++ more
  pub each : (n : Node) → is_alive_at s n ≡ true → is_alive_at t n ≡ false
      → (place : ℕ) × (slice_get more place ≡ Some (event.Ended n))

abbrev pub EndsAreTold : Type 0
EndsAreTold = (s t : SystemView) → Acts s t → EndsAreToldOf s t

-- the list of those that are alive has exactly these, and each once
pub record IsListed (s : SystemView) : Type 0 where
  pub exactly : (n : Node) → IsAmong n s.alive ↔ (is_alive_at s n ≡ true)
  pub once : AllPairs (λ (n m : Node). n.0 ≢ m.0) s.alive

abbrev pub AliveAreListed : Type 0
AliveAreListed = (s : SystemView) → IsReached s → IsListed s

-- A process that isn't there any more never is again, whatever happens: its node is in a later life, or in none. So a message, a timer or
-- an answer for it is lost.
abbrev pub EndedStaysEnded : Type 0
EndedStaysEnded = (s t : SystemView) (p : Process) → Acts s t → p.life ≤ life_at s p.node → lives s p ≡ false
    → (p.life ≤ life_at t p.node) × (lives t p ≡ false)
