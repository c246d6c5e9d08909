-- What holds of all that moves.
use Rattle.std.specs.Prelude.{◌≡◌, ℕ, [], true}
use Rattle.rh_otp_net.specs.declared.order.Order.{Order}
use Rattle.rh_otp_system.specs.State.{SystemView}
use Rattle.rh_otp_system.specs.Moves.{Reaches, IsSettled, settled, is_settled_by}

-- In whatever order, what `settle` does are moves that the rules allow, one after the other; and where it says that nothing moves any
-- more, the rules allow no move.
abbrev pub SettlesByMoves : Type 0
SettlesByMoves = (most : ℕ) (order : Order) (s : SystemView)
    → Reaches (record s { answers = [] }) (settled most order s)
    × (is_settled_by most order s ≡ true → IsSettled (settled most order s))
