-- Live nodes where only messages move, while a call waits that can't go on by itself.
use Rattle.std.proofs.Common.{◌≡◌, ℕ, false, List, [], slice_get, Some, refl, sym, ap, subst, ◌∙◌, inl}
use Rattle.std.proofs.lemmas.Bool.{false≢true}
use Rattle.rh_model.specs.declared.node.Node.{Node}
use Rattle.rh_otp_model.specs.declared.output.Envelope.{Envelope}
use Rattle.rh_otp_system.specs.declared.calls.Call.{Call}
use Rattle.rh_otp_system.specs.declared.moves.Move.TheVariants as move
use Rattle.rh_otp_system.specs.Delivering.{arrived}
use Rattle.rh_otp_system.specs.Moves as moves
use Rattle.rh_otp_system.specs.State.{SystemView, node_at}
use Rattle.rh_otp_laws.specs.Messages.{ArrivesInOrder}
use Rattle.rh_otp_laws.proofs.Order.{keeps_order}
use Rattle.rh_otp_orders.specs.Orders.{Arrives, LeavesAlone}
use Rattle.rh_otp_orders.proofs.Taking.{Taken, arrives_so}
use Rattle.rh_otp_crashes.proofs.Peace.{AtPeace, AtEase, Acted, without, alive_on, no_lock_at, no_place, peace_on}

-- the same without its calls
abbrev pub uncalled : SystemView → SystemView
uncalled s = record s { calls = [] }

-- ---- only messages move

-- a message that arrives, what is left, and what it comes to
pub record Come (s t : SystemView) : Type 0 where
  pub message : Envelope
  pub left : List Envelope
  pub arrives : Arrives message s t
  pub taken : Taken message s.messages left
  pub is : t ≡ arrived message.to message.message (without s left)

no_lock : {K : Envelope → Type 0} {lives : Node → ℕ} (n : Node) (s : SystemView) → AtPeace AtEase K lives (uncalled s)
    → moves.IsAmong n s.alive → moves.can_go_on_at n s ≡ false
no_lock n s f among = no_lock_at n s (node_at s n).dist (λ d has. f.calm.free n d (f.dists n d (f.listed n among) has))

pub only_come : {K : Envelope → Type 0} {lives : Node → ℕ} (s t : SystemView) → AtPeace AtEase K lives (uncalled s)
    → ((place : ℕ) (call : Call) → slice_get s.calls place ≡ Some call → moves.can_call call s ≡ false)
    → moves.Delivers s t → Come s t
only_come s t f waits (move.Deliver place, possible, is) =
    let come : ArrivesInOrder place s (moves.made (move.Deliver place) s) = keeps_order s place possible in
    let arrives : Arrives come.message s t = (place, come.is_there, is) in
    let e : Envelope = come.message in
    let so : (left : List Envelope) × Taken e s.messages left × (t ≡ arrived e.to e.message (without s left)) = arrives_so s t e arrives in
    record { message = e; left = so.0; arrives = arrives; taken = so.1; is = so.2 }
only_come s t f waits (move.Slow place, possible, is) = absurd (no_place s.slow place f.slow possible.1)
only_come s t f waits (move.Lock n, possible, is) = absurd (false≢true (sym (no_lock n s f possible.1) ∙ possible.2))
only_come s t f waits (move.Call place, possible, is) =
    absurd (false≢true (sym (waits place possible.1.0 possible.1.1) ∙ possible.1.2))
only_come s t f waits (move.End n, possible, is) = absurd (false≢true (sym (f.ends n (f.listed n possible.1)) ∙ possible.2))

-- ---- a node that acts for itself

-- the calls are nothing to it
pub peace_acted : {K : Envelope → Type 0} {lives : Node → ℕ} (n : Node) (s t : SystemView) → AtPeace AtEase K lives (uncalled s)
    → Acted AtEase K n s t → AtPeace AtEase K lives (uncalled t)
peace_acted {K} n s t f a = peace_on n (uncalled s) (uncalled t) f (inl so)
  where
    so : Acted AtEase K n (uncalled s) (uncalled t)
    so = record {
      old = a.old;
      new = a.new;
      there = a.there;
      more = a.more;
      set = a.set;
      seen = a.seen;
      is = ap uncalled a.is;
      life = a.life;
      phase = a.phase;
      stopped = a.stopped;
      ending = a.ending;
      rest = a.rest;
      kinds = a.kinds;
    }

pub acted_leaves : {K : Envelope → Type 0} (n m : Node) (s t : SystemView) (left : List Envelope) → Acted AtEase K m (without s left) t
    → LeavesAlone n s t
acted_leaves n m s t left acted =
    subst (LeavesAlone n s) (sym acted.is) (record {
      links = refl;
      locks = refl;
      alive = λ k. alive_on m k (without s left) t acted;
      answers = λ k app. inl refl;
    })
