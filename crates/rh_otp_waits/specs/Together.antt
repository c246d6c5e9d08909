-- Boots of nodes that all wait for all others: of each but the last every order ends alike.
use Rattle.std.specs.Prelude.{◌≡◌, ◌≢◌, true, false}
use Rattle.rh_model.specs.declared.node.Node.{Node}
use Rattle.rh_otp_system.specs.Doing.{booted}
use Rattle.rh_otp_system.specs.Moves.{Reaches, IsSettled}
use Rattle.rh_otp_system.specs.State.{SystemView, node_at, wait_at, is_alive_at, is_up_at}
use Rattle.rh_otp_laws.specs.Acting.{IsThere, IsNew, IsReached}
use Rattle.rh_otp_crashes.specs.Crashes.{AreAtRest}
use Rattle.rh_otp_stops.specs.Stops.{EndsAlike}
use Rattle.rh_otp_waits.specs.Waits.{HasItWait, is_listed, is_awaited}

-- each node's lists name all others, and its own file has it wait
abbrev pub AllNameAll : SystemView → Type 0
AllNameAll s = (n m : Node) → IsThere n s → IsThere m s → n.0 ≢ m.0 → HasItWait (wait_at s n) × (is_listed s.cluster n m ≡ true)

-- The nodes name one another and are at rest, and each that is alive waits for each that isn't.
pub record AllWait (s : SystemView) : Type 0 where
  pub names : AllNameAll s
  pub rest : AreAtRest s
  pub waits : (m k : Node) → is_alive_at s m ≡ true → IsThere k s → is_alive_at s k ≡ false
      → (is_up_at s m ≡ false) × (is_awaited (node_at s m) k ≡ true)

-- So it is where no node has begun yet. And there a node that begins, but not as the last one, ends alike; and wherever that comes to rest
-- it is so again.
pub record AllButTheLastEndAlike : Type 0 where
  pub first : (s : SystemView) → IsNew s → AllNameAll s → AllWait s
  pub each : (s : SystemView) (n last : Node) → IsReached s → AllWait s → IsThere n s → is_alive_at s n ≡ false
      → IsThere last s → is_alive_at s last ≡ false → last.0 ≢ n.0
      → EndsAlike (booted n s) × ((t : SystemView) → Reaches (booted n s) t → IsSettled t → AllWait t)
