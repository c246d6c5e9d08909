-- When a room closes (ours).
use Rattle.std.specs.Prelude.{◌≡◌, ◌≢◌, ◌<◌, ℕ, List, All, count_by, ◌==◌, Contains}
use Rattle.std.specs.List.{filter}
use Rattle.rh_model.specs.ClusterView.{ClusterView}
use Rattle.rh_rules.specs.declared.pick.Pick.{Pick}
use Rattle.rh_room.specs.declared.pass.Entry.{Entry}
use Rattle.rh_room.specs.declared.pass.Receipt.{Receipt}
use Rattle.rh_room.specs.declared.closing.CloseReason.{CloseReason}
use Rattle.rh_room.specs.declared.closing.CloseReason.TheVariants.{MissingPass, Disagree, OtherBase}
use Rattle.rh_room.specs.Legal.{PassView, RoomView, IsSession, of_session}

-- the passes are those of the sessions, each exactly once
pub record AreAll (sessions : ℕ) (passes : List PassView) : Type 0 where
  pub known : All (λ p. IsSession sessions p.session) passes
  pub once : (session : ℕ) → IsSession sessions session → count_by (λ p. p.session == session) passes ≡ 1

-- a pass was told exactly what the log has of its session
abbrev pub Agrees : List Entry → PassView → Type 0
Agrees log pass = pass.receipts ≡ of_session pass.session log

-- the room stands on this cluster and this pick
abbrev pub IsOn : RoomView → ClusterView → Pick → Type 0
IsOn room cluster pick = (room.sim.seen.cluster ≡ cluster) × (room.sim.seen.pick ≡ pick)

-- the receipts of a place
abbrev pub at_place : ℕ → List Receipt → List Receipt
at_place place receipts = filter (λ r. r.place == place) receipts

-- the first place at which two lists of receipts differ
pub record IsFirstDifference (one other : List Receipt) (place : ℕ) : Type 0 where
  pub differ : at_place place one ≢ at_place place other
  pub before : (earlier : ℕ) → earlier < place → at_place earlier one ≡ at_place earlier other

-- the first session whose pass doesn't agree with the log, and the first place at which it doesn't
pub record IsDisagreement (log : List Entry) (passes : List PassView) (session place : ℕ) : Type 0 where
  pub pass : PassView
  pub is_one : Contains passes pass
  pub of : pass.session ≡ session
  pub at : IsFirstDifference pass.receipts (of_session session log) place
  pub before : All (λ p. p.session < session → Agrees log p) passes

-- why a room doesn't close: the first reason that applies
abbrev pub WhyOpen : RoomView → List PassView → ClusterView → Pick → CloseReason → Type 0
WhyOpen room passes cluster pick MissingPass = AreAll room.sessions passes → ⊥
WhyOpen room passes cluster pick (Disagree session place) = AreAll room.sessions passes × IsDisagreement room.log passes session place
WhyOpen room passes cluster pick OtherBase = AreAll room.sessions passes × (All (Agrees room.log) passes × (IsOn room cluster pick → ⊥))
