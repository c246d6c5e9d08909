-- What is alike stays alike over a command, and over time that passes.
use Rattle.std.specs.Prelude.{◌≡◌, ℕ, zero, suc, [], true, Some}
use Rattle.rh_model.specs.declared.node.App.{App}
use Rattle.rh_model.specs.declared.node.Node.{Node}
use Rattle.rh_otp_net.specs.declared.order.Order.{Order}
use Rattle.rh_otp_system.specs.declared.calls.Ask.{Ask}
use Rattle.rh_otp_system.specs.Doing.{booted, called, fired_next, next_until, ticking, ticked, is_ticked}
use Rattle.rh_otp_system.specs.Moves.{settled, is_settled_by}
use Rattle.rh_otp_system.specs.Resting.{crashed, rested, forgotten}
use Rattle.rh_otp_system.specs.State.{SystemView}
use Rattle.rh_otp_laws.specs.Acting.{IsThere, IsReached}
use Rattle.rh_otp_orders.specs.Confluence.{EveryOrderEndsAlike}
use Rattle.rh_otp_orders.specs.Orders.{AreAlike}

-- ---- what a command begins with

-- A node begins or ends, an operator calls, the timers that are due next fire, whoever has to wait sleeps, a command begins: each leaves
-- both alike.
pub record BeginAlike (s t : SystemView) : Type 0 where
  pub boots : (n : Node) → IsThere n s → AreAlike (booted n s) (booted n t)
  pub crashes : (n : Node) → AreAlike (crashed n s) (crashed n t)
  pub calls : (asked : Ask) (n : Node) (a : App) → AreAlike (called asked n a s) (called asked n a t)
  pub fires : (due : ℕ) → AreAlike (fired_next due s) (fired_next due t)
  pub rests : AreAlike (rested s) (rested t)
  pub forgets : AreAlike (forgotten s) (forgotten t)

abbrev pub CommandsBeginAlike : Type 0
CommandsBeginAlike = (s t : SystemView) → AreAlike s t → BeginAlike s t

-- ---- until nothing moves

-- All that comes of it ends alike, where no answers of nodes to one another are counted yet, as when it begins to settle.
abbrev pub SettlesAlike : SystemView → Type 0
SettlesAlike s = EveryOrderEndsAlike (record s { answers = [] })

-- Of two systems that are alike, the one of which live nodes reach, that one settles by some order and the other by any: each comes to an
-- end within so many moves where the other does, and then both are alike still. Only of the one it is asked that all ends alike.
abbrev pub CommandsEndAlike : Type 0
CommandsEndAlike = (s t : SystemView) (most : ℕ) (one other : Order) → IsReached s → AreAlike s t → SettlesAlike s
    → (is_settled_by most one s ≡ is_settled_by most other t)
    × (is_settled_by most one s ≡ true → AreAlike (settled most one s) (settled most other t))

-- ---- time passes

-- The timers that are due until then fire, so often at most; and each time all that comes of it ends alike.
abbrev pub FiringsEndAlike : ℕ → ℕ → ℕ → Order → SystemView → Type 0
FiringsEndAlike zero end most order s = Unit {0}
FiringsEndAlike (suc times) end most order s = (due : ℕ) → next_until end s ≡ Some due
    → SettlesAlike (fired_next due s)
    × (is_settled_by most order (fired_next due s) ≡ true → FiringsEndAlike times end most order (settled most order (fired_next due s)))

-- So it is where time begins to pass, when those who sleep ask for their lock again, and at each time until then at which timers fire.
pub record TickEndsAlike (end most : ℕ) (order : Order) (s : SystemView) : Type 0 where
  pub first : SettlesAlike (record s { is_ticking = true })
  pub firings : is_settled_by most order (record s { is_ticking = true }) ≡ true
      → FiringsEndAlike most end most order (ticking most order s)

-- Of two systems that are alike, the one of which live nodes reach, that one goes through a time by some order and the other by any.
abbrev pub TicksEndAlike : Type 0
TicksEndAlike = (s t : SystemView) (end most : ℕ) (one other : Order) → IsReached s → AreAlike s t → TickEndsAlike end most one s
    → (is_ticked end most one s ≡ is_ticked end most other t)
    × (is_ticked end most one s ≡ true → AreAlike (ticked end most one s) (ticked end most other t))
