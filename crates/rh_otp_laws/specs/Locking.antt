-- global's locks of the one resource `dist_ac`.
use Rattle.std.specs.Prelude.{◌≡◌, ℕ, List, slice_get, Some}
use Rattle.rh_otp_net.specs.declared.locks.Held.{Held}
use Rattle.rh_otp_system.specs.State.{SystemView}
use Rattle.rh_otp_laws.specs.Acting.{IsReached}

-- at each node all that have the lock have it by one name
abbrev pub IsOneName : List Held → Type 0
IsOneName locks = (i j : ℕ) (h k : Held) → slice_get locks i ≡ Some h → slice_get locks j ≡ Some k → h.node.0 ≡ k.node.0
    → h.requester ≡ k.requester

-- In any state that live nodes reach, at each node at most one name has the lock: all that synchronise, or one process alone.
abbrev pub OneNameHoldsTheLock : Type 0
OneNameHoldsTheLock = (s : SystemView) → IsReached s → IsOneName s.locks
