-- Where every order of what moves ends alike.
use Rattle.std.specs.Prelude.{◌≡◌, ◌⊎◌, ◌≤◌, ℕ, zero, suc, [], true}
use Rattle.rh_otp_net.specs.declared.order.Order.{Order}
use Rattle.rh_otp_system.specs.Moves.{Delivers, Reaches, IsSettled, settled, is_settled_by}
use Rattle.rh_otp_system.specs.State.{SystemView}
use Rattle.rh_otp_laws.specs.Acting.{IsReached}
use Rattle.rh_otp_orders.specs.Orders.{AreAlike}

-- The two are alike, or each has a move behind which they are: as where each of two moves can be made behind the other.
abbrev pub Meet : SystemView → SystemView → Type 0
Meet t u = AreAlike t u ⊎ ((v : SystemView) × (w : SystemView) × Delivers t v × Delivers u w × AreAlike v w)

-- Wherever two moves are possible, in whatever comes of this by moves, what they lead to meets. So it is of messages for two nodes that
-- leave alone what nodes share; it isn't so where two messages race for one node that goes by the first, or two nodes for a lock.
abbrev pub IsOrderly : SystemView → Type 0
IsOrderly s = (p t u : SystemView) → Reaches s p → Delivers p t → Delivers p u → Meet t u

-- so many moves, one after the other
pub data Moves : ℕ → SystemView → SystemView → Type 0 where
  none : (s : SystemView) → Moves zero s s
  one_more : (n : ℕ) (s t u : SystemView) → Delivers s t → Moves n t u → Moves (suc n) s u

-- Orderly nodes end alike, whichever of several moves comes first each time; and where one order comes to rest, none has more moves.
pub record EveryOrderEndsAlike (s : SystemView) : Type 0 where
  pub alike : (t u : SystemView) → Reaches s t → IsSettled t → Reaches s u → IsSettled u → AreAlike t u
  pub no_longer : (n k : ℕ) (t u : SystemView) → Moves n s t → IsSettled t → Moves k s u → k ≤ n

abbrev pub OrderlyNodesEndAlike : Type 0
OrderlyNodesEndAlike = (s : SystemView) → IsReached s → IsOrderly s → EveryOrderEndsAlike s

-- So a command on orderly nodes comes to the same by every order that `settle` is told.
abbrev pub EveryPickEndsAlike : Type 0
EveryPickEndsAlike = (s : SystemView) (most : ℕ) (one other : Order) → IsReached s → IsOrderly (record s { answers = [] })
    → is_settled_by most one s ≡ true → is_settled_by most other s ≡ true → AreAlike (settled most one s) (settled most other s)
