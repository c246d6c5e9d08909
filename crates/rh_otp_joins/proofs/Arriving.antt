-- While messages are on their way nothing else moves.
use Rattle.std.proofs.Common.{◌≡◌, ◌<◌, ℕ, zero, suc, List, [], ◌∷◌, length, refl, sym, subst, arith}
use Rattle.rh_otp_model.specs.declared.output.Envelope.{Envelope}
use Rattle.rh_otp_system.specs.declared.moves.Move.TheVariants as move
use Rattle.rh_otp_system.specs.Delivering.{arrived}
use Rattle.rh_otp_system.specs.Moves.{made, Delivers, Reaches, here, behind_one}
use Rattle.rh_otp_system.specs.State.{SystemView}
use Rattle.rh_otp_laws.specs.Messages.{ArrivesInOrder}
use Rattle.rh_otp_laws.proofs.Order.{keeps_order}
use Rattle.rh_otp_orders.specs.Orders.{Arrives, AreAlike}
use Rattle.rh_otp_orders.proofs.Taking.{Taken, arrives_so}
use Rattle.rh_otp_crashes.proofs.Peace.{without}
use Rattle.rh_otp_joins.specs.Leading.{LeadsTo}

-- a message is taken, those are left, and it comes to this
pub record Comes (s t : SystemView) : Type 0 where
  pub message : Envelope
  pub left : List Envelope
  pub taken : Taken message s.messages left
  pub is : t ≡ arrived message.to message.message (without s left)

pub only_comes : (s t : SystemView) → (s.messages ≡ [] → ⊥) → Delivers s t → Comes s t
only_comes s t some (move.Deliver place, possible, is) =
    let come : ArrivesInOrder place s (made (move.Deliver place) s) = keeps_order s place possible in
    let arrives : Arrives come.message s t = (place, come.is_there, is) in
    let so : (left : List Envelope) × Taken come.message s.messages left × (t ≡ arrived come.message.to come.message.message (without s left)) =
    arrives_so s t come.message arrives in
    record { message = come.message; left = so.0; taken = so.1; is = so.2 }
only_comes s t some (move.Slow place, possible, is) = absurd (some possible.0)
only_comes s t some (move.Lock n, possible, is) = absurd (some possible.0.0)
only_comes s t some (move.Call place, possible, is) = absurd (some possible.0.0)
only_comes s t some (move.End n, possible, is) = absurd (some possible.0.0)

-- and one does
pub one_comes : (s : SystemView) → (s.messages ≡ [] → ⊥) → (t : SystemView) × Delivers s t
one_comes s some = (made (move.Deliver 0) s, (move.Deliver 0, by s.messages some, refl))
  where
    by : (messages : List Envelope) → (messages ≡ [] → ⊥) → 0 < length messages
    by [] some = absurd (some refl)
    by (e ∷ messages) some = omega arith

-- ---- where each message leads one further

-- What is so with so many messages before its end: there is one, whichever arrives leads to what is so with one less, and at the end all
-- is alike.
pub record IsSteady (P : ℕ → SystemView → Type 0) : Type 0 where
  pub some : (k : ℕ) (u : SystemView) → P (suc k) u → u.messages ≡ [] → ⊥
  pub on : (k : ℕ) (u : SystemView) (e : Envelope) (left : List Envelope) → P (suc k) u → Taken e u.messages left
      → P k (arrived e.to e.message (without u left))
  pub same : (u t : SystemView) → P 0 u → P 0 t → AreAlike u t

came : {P : ℕ → SystemView → Type 0} → IsSteady P → (k : ℕ) (u w : SystemView) → P (suc k) u → Delivers u w → P k w
came {P} steady k u w so one =
    let come : Comes u w = only_comes u w (steady.some k u so) one in
    subst (P k) (sym come.is) (steady.on k u come.message come.left so come.taken)

pub steady_leads : {P : ℕ → SystemView → Type 0} → IsSteady P → (k : ℕ) (u t : SystemView) → P k u → P 0 t → LeadsTo k u t
steady_leads steady zero u t so end = steady.same u t so end
steady_leads steady (suc k) u t so end =
    (one_comes u (steady.some k u so), λ w one. steady_leads steady k w t (came steady k u w so one) end)

-- and some order comes to the end
pub steady_ends : {P : ℕ → SystemView → Type 0} → IsSteady P → (k : ℕ) (u : SystemView) → P k u → (t : SystemView) × Reaches u t × P 0 t
steady_ends steady zero u so = (u, here u, so)
steady_ends {P} steady (suc k) u so =
    let one : (w : SystemView) × Delivers u w = one_comes u (steady.some k u so) in
    let more : (t : SystemView) × Reaches one.0 t × P 0 t = steady_ends steady k one.0 (came steady k u one.0 so one.1) in
    (more.0, behind_one u one.0 more.0 one.1 more.1, more.2)
