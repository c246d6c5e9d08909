-- On live nodes where kernels only hear of one another each move uses up some of what is on its way, and so that comes to an end.
use Rattle.std.proofs.Common.{◌≡◌, ◌⊎◌, ◌<◌, ◌+◌, ℕ, zero, suc, Bool, true, false, List, [], ◌∷◌, length, Option, Some, None, refl, sym, ap, subst, ◌∙◌, inl, inr, arith}
use Rattle.std.specs.List.{remove}
use Rattle.std.specs.Prelude.{All}
use Rattle.std.proofs.lemmas.Bool.{cases_Bool, cond-true, cond-false}
use Rattle.std.proofs.lemmas.List.{length-set}
use Rattle.std.proofs.lemmas.List.Edits.{length-remove}
use Rattle.rh_model.specs.declared.node.Node.{Node}
use Rattle.rh_otp_model.specs.declared.message.Message.TheVariants as message
use Rattle.rh_otp_model.specs.declared.output.Envelope.{Envelope}
use Rattle.rh_otp_net.specs.declared.order.Order.{Order}
use Rattle.rh_otp_net.specs.Order.{next_order}
use Rattle.rh_otp_node.specs.Kernel as kernel
use Rattle.rh_otp_node.specs.Live.{LiveView}
use Rattle.rh_otp_system.specs.declared.cell.Cell.TheVariants as cell
use Rattle.rh_otp_system.specs.declared.moves.Move.{Move}
use Rattle.rh_otp_system.specs.Delivering.{arrived}
use Rattle.rh_otp_system.specs.Joining.{kernel_received, has_seen}
use Rattle.rh_otp_system.specs.Moves.{Delivers, Reaches, here, behind_one, next_move, made, is_quiet_by, is_quiet_behind}
use Rattle.rh_otp_system.specs.State.{SystemView, node_at, is_alive_at, is_up_at}
use Rattle.rh_otp_orders.proofs.Taking.{Taken}
use Rattle.rh_otp_commands.proofs.Possible.{possible}
use Rattle.rh_otp_crashes.proofs.Crash.{lives_of}
use Rattle.rh_otp_crashes.proofs.Peace.{without, arrives_alive, arrives_dead, taken_all}
use Rattle.rh_otp_stops.proofs.Still.{Come}
use Rattle.rh_otp_waits.proofs.Waiting.{IsUp, hears, up_of, HeardOnly, IsCalm, Passed, taken_on, waits_on, step, goes_on}
use Rattle.rh_agreement.proofs.Resting.{quiet_so}

-- how much is on its way
abbrev pub weight : SystemView → ℕ
weight s = length s.messages + length s.slow

one_taken : (e : Envelope) (messages left : List Envelope) → Taken e messages left → length messages ≡ suc (length left)
one_taken e [] left taken = absurd taken
one_taken e (m ∷ messages) left (inl first) = λ i. suc (length (sym first.1 i))
one_taken e (m ∷ messages) left (inr later) =
    ap suc (one_taken e messages later.1 later.3) ∙ (λ i. suc (length (sym later.2 i)))

-- nothing is sent, and there are as many cells
record SendsNothing (s t : SystemView) : Type 0 where
  messages : t.messages ≡ s.messages
  slow : t.slow ≡ s.slow
  cells : length t.nodes.cells ≡ length s.nodes.cells

nothing : (s : SystemView) → SendsNothing s s
nothing s = record { messages = refl; slow = refl; cells = refl }

module _ (heard : Node → Node → Bool) (a : SystemView) where
  -- a kernel that hears of a node sends nothing
  receives : (m x : Node) (q : SystemView) → heard m x ≡ true → is_alive_at q m ≡ true → HeardOnly heard a q
      → SendsNothing q (kernel_received m (message.NodeUp x) q)
  receives m x q is alive w = by (cases_Bool (is_up_at q m))
    where
      new : LiveView
      new = kernel.seen x (node_at q m)

      by : (is_up_at q m ≡ true) ⊎ (is_up_at q m ≡ false) → SendsNothing q (kernel_received m (message.NodeUp x) q)
      by (inl up) = subst (SendsNothing q) (sym (cond-true (is_up_at q m) q (has_seen m x q) up)) (nothing q)
      by (inr down) =
          subst (SendsNothing q) (sym (cond-false (is_up_at q m) q (has_seen m x q) down ∙ waits_on m x q is alive down w))
          (record { messages = refl; slow = refl; cells = length-set q.nodes.cells m.0 (cell.Node new) })

  arrives : (q : SystemView) (e : Envelope) → IsUp heard (lives_of a) e → HeardOnly heard a q → SendsNothing q (arrived e.to e.message q)
  arrives q _ (hears m x is) w = by (cases_Bool (is_alive_at q m))
    where
      e : Envelope
      e = up_of (lives_of a) m x

      by : (is_alive_at q m ≡ true) ⊎ (is_alive_at q m ≡ false) → SendsNothing q (arrived e.to e.message q)
      by (inl alive) =
          subst (SendsNothing q) (sym (arrives_alive e.to e.message q alive (ap (λ (v : LiveView). v.life) (w.nodes m))))
          (receives m x q is alive w)
      by (inr dead) = subst (SendsNothing q) (sym (arrives_dead e.to e.message q dead)) (nothing q)

  module _ (calm : IsCalm a) where
    abbrev Less : SystemView → SystemView → Type 0
    Less s t = (weight t < weight s) × (length t.nodes.cells ≡ length s.nodes.cells)

    moves : (s t : SystemView) → HeardOnly heard a s → Delivers s t → Less s t
    moves s t w one = by (step s t calm w one)
      where
        by : Come s t ⊎ ((s.messages ≡ []) × Passed s t) → Less s t
        by (inl come) =
            let e : Envelope = come.message in
            let kinds : IsUp heard (lives_of a) e × All (IsUp heard (lives_of a)) come.left =
            taken_all (IsUp heard (lives_of a)) e s.messages come.left come.taken w.messages in
            let q : SystemView = without s come.left in
            let sent : SendsNothing q (arrived e.to e.message q) = arrives q e kinds.0 (taken_on s come.left w kinds.1) in
            let left : length s.messages ≡ suc (length come.left) = one_taken e s.messages come.left come.taken in
            subst (Less s) (sym come.is) (omega (arith, left, ap length sent.messages, ap length sent.slow), sent.cells)
        by (inr passed) =
            let p : Passed s t = passed.1 in
            let left : length (remove s.slow p.place) + 1 ≡ length s.slow = length-remove s.slow p.place p.within in
            subst (Less s) (sym p.is) (omega (arith, left), refl)

    pub as_many : (s t : SystemView) → Reaches s t → HeardOnly heard a s → length t.nodes.cells ≡ length s.nodes.cells
    as_many _ _ (here s) w = refl
    as_many _ _ (behind_one s u t one rest) w = as_many u t rest (goes_on s u calm w one) ∙ (moves s u w one).1

    -- ---- until nothing moves

    next_quiet : (k : ℕ) (o : Order) (s : SystemView) → HeardOnly heard a s → weight s < suc k → (next : Option Move) → next_move o s ≡ next
        → ((t : SystemView) → HeardOnly heard a t → weight t < k → is_quiet_behind k (next_order o) t ≡ true)
        → is_quiet_behind (suc k) o s ≡ true
    next_quiet k o s w within None none more = quiet_so k o s none
    next_quiet k o s w within (Some m) next more =
        let one : Delivers s (made m s) = (m, possible o s m next, refl) in
        ap (λ (found : Option Move). is_quiet_by (is_quiet_behind k (next_order o)) found s) next
        ∙ more (made m s) (goes_on s (made m s) calm w one) (omega (arith, (moves s (made m s) w one).0, within))

    pub quiet_soon : (k : ℕ) (o : Order) (s : SystemView) → HeardOnly heard a s → weight s < k → is_quiet_behind k o s ≡ true
    quiet_soon zero o s w within = absurd (omega (arith, within))
    quiet_soon (suc k) o s w within = next_quiet k o s w within (next_move o s) refl (quiet_soon k (next_order o))
