-- What live nodes do, and what happens to them: in whatever order the moves are made, and however far they are when a command begins.
use Rattle.std.specs.Prelude.{◌≡◌, ◌≤◌, ◌⊎◌, ℕ, [], Bool, true, false, List, All, Some, None}
use Rattle.rh_model.specs.declared.node.App.{App}
use Rattle.rh_model.specs.declared.node.Node.{Node}
use Rattle.rh_otp_net.specs.declared.timers.Timer.{Timer}
use Rattle.rh_otp_net.specs.declared.order.Order.{Order}
use Rattle.rh_otp_net.specs.Timers.{next_due}
use Rattle.rh_otp_node.specs.Live.{LiveView, never_begun}
use Rattle.rh_otp_system.specs.declared.calls.Ask.{Ask}
use Rattle.rh_otp_system.specs.declared.cell.Cell.{Cell}
use Rattle.rh_otp_system.specs.declared.moves.Move.{Move}
use Rattle.rh_otp_system.specs.State.{SystemView, system_of, net_of, live_at, node_at, is_alive_at}
use Rattle.rh_otp_system.specs.Doing.{booted, called, fired_next, ticked, is_ticked}
use Rattle.rh_otp_system.specs.Moves.{made, settled, IsPossible, IsQuiet}
use Rattle.rh_otp_system.specs.Resting.{crashed, rested, forgotten}

-- there is such a node
abbrev pub IsThere : Node → SystemView → Type 0
IsThere n s = (v : LiveView) × (live_at s n ≡ Some v)

-- what nodes do by themselves, and what a command begins with: a node that isn't alive begins, one ends at once, an operator calls
pub data Acts : SystemView → SystemView → Type 0 where
  moves : (s : SystemView) (next : Move) → IsPossible s next → Acts s (made next s)
  begins : (s : SystemView) (n : Node) → IsThere n s → is_alive_at s n ≡ false → Acts s (booted n s)
  crashes : (s : SystemView) (n : Node) → Acts s (crashed n s)
  calls : (s : SystemView) (a : Ask) (n : Node) (app : App) → Acts s (called a n app s)

-- no timer is due before this time
abbrev pub IsNoneDueBefore : ℕ → List Timer → Type 0
IsNoneDueBefore time timers = All (λ (t : Timer). time ≤ t.due) timers

-- the system in which a command begins: with these cells, and with what is between the nodes but what an observer was told
abbrev pub taken_up : SystemView → List Cell → List (App × Node) → Bool → SystemView
taken_up s cells told ends_soon = system_of s.cluster s.files cells (record (net_of s) { told = told }) ends_soon

-- each node is as it was; and where there is none of a number, none of this number was alive
abbrev pub HasNodesOf : SystemView → SystemView → Type 0
HasNodesOf s t = (n : Node) → (live_at t n ≡ live_at s n) ⊎ ((live_at t n ≡ None) × (is_alive_at s n ≡ false))

-- The same, and time passes: the timers that are due next fire, or the clock goes on while none is due. And a command is over, or the
-- next one takes up the nodes and what is between them: answered calls are forgotten, and what was counted, told and seen.
pub data Happens : SystemView → SystemView → Type 0 where
  acts : (s t : SystemView) → Acts s t → Happens s t
  fires : (s : SystemView) (due step : ℕ) → next_due s.timers ≡ Some (due, step) → Happens s (fired_next due s)
  passes : (s : SystemView) (time : ℕ) → s.clock ≤ time → IsNoneDueBefore time s.timers → Happens s (record s { clock = time })
  ticks : (s : SystemView) (ticking : Bool) → Happens s (record s { is_ticking = ticking })
  settles : (s : SystemView) → Happens s (record s { answers = [] })
  rests : (s : SystemView) → Happens s (rested s)
  forgets : (s : SystemView) → Happens s (forgotten s)
  takes_up : (s : SystemView) (cells : List Cell) (told : List (App × Node)) (ends_soon : Bool) → IsQuiet s
      → HasNodesOf s (taken_up s cells told ends_soon) → Happens s (taken_up s cells told ends_soon)

-- no node has begun, and nothing is between them
pub record IsNew (s : SystemView) : Type 0 where
  pub nodes : (n : Node) → node_at s n ≡ never_begun
  pub alive : s.alive ≡ []
  pub links : s.links ≡ []
  pub locks : s.locks ≡ []
  pub timers : s.timers ≡ []
  pub calls : s.calls ≡ []
  pub messages : s.messages ≡ []
  pub slow : s.slow ≡ []

-- all that live nodes reach from there
pub data IsReached : SystemView → Type 0 where
  new : (s : SystemView) → IsNew s → IsReached s
  later : (s t : SystemView) → IsReached s → Happens s t → IsReached t

-- In whatever order, what `settle` and `tick` do are such things, one after the other: a settling, and time that passes up to an end, lead from what live
-- nodes reach to what they reach.
pub record CommandsAreReached : Type 0 where
  pub settles_there : (most : ℕ) (order : Order) (s : SystemView) → IsReached s → IsReached (settled most order s)
  pub ticks_there : (end most : ℕ) (order : Order) (s : SystemView) → s.clock ≤ end → is_ticked end most order s ≡ true → IsReached s
      → IsReached (ticked end most order s)
