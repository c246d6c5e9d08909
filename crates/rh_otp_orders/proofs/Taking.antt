-- Two messages of different pairs are taken out of those on their way, in either order.
use Rattle.std.proofs.Common.{◌≡◌, ◌≢◌, ◌⊎◌, ◌<◌, ◌+◌, ◌++◌, ℕ, zero, suc, Bool, true, false, cond, not, List, [], ◌∷◌, length, take, slice_get, get_or, position, unwrap_or, Option, Some, None, refl, sym, ap, subst, ◌∙◌, inl, inr, arith}
use Rattle.std.specs.List.{remove, position_or_len}
use Rattle.std.proofs.lemmas.Bool.{false≢true, and_parts, false_from_ne_true, le-ltb}
use Rattle.std.proofs.lemmas.Option.{none-some, same_Some}
use Rattle.rh_otp_model.specs.declared.output.Envelope.{Envelope}
use Rattle.rh_otp_model.specs.declared.process.Process.{Process}
use Rattle.rh_otp_net.specs.Alike.{is_process}
use Rattle.rh_otp_net.specs.Queue.{is_of_pair, first_like, first_of_pair}
use Rattle.rh_otp_system.specs.declared.moves.Move.TheVariants as move
use Rattle.rh_otp_system.specs.Delivering.{arrived, arrived_at, delivered}
use Rattle.rh_otp_system.specs.Moves.{made}
use Rattle.rh_otp_system.specs.State.{SystemView}
use Rattle.rh_otp_laws.specs.Turns.{arriving}
use Rattle.rh_otp_laws.proofs.Alike.{same_process}
use Rattle.rh_otp_laws.proofs.Order.{pair_itself, none_in_front}
use Rattle.rh_otp_orders.specs.Orders.{Arrives}

-- it is the first of its pair among these, and those are left
abbrev pub Taken : Envelope → List Envelope → List Envelope → Type 0
Taken e [] left = ⊥
Taken e (m ∷ messages) left =
    ((m ≡ e) × (left ≡ messages))
    ⊎ ((is_of_pair e m ≡ false) × (rest : List Envelope) × (left ≡ m ∷ rest) × Taken e messages rest)

taken_from : (f d : Envelope) (messages : List Envelope) (at : ℕ) → ((k : ℕ) → k < at → is_of_pair f (get_or messages k d) ≡ false)
    → slice_get messages at ≡ Some f → Taken f messages (remove messages at)
taken_from f d [] at none is = absurd (none-some f is)
taken_from f d (m ∷ messages) zero none is = inl (same_Some m f is, refl)
taken_from f d (m ∷ messages) (suc at) none is =
    inr (none 0 (omega (arith)), remove messages at, refl, taken_from f d messages at (λ k before. none (suc k) (omega (arith, before))) is)

-- what arrives is taken
pub taken_at : (s : SystemView) (place : ℕ) (f : Envelope) → arriving place s ≡ Some f
    → Taken f s.messages (remove s.messages (first_of_pair s.messages place))
taken_at s place f is =
    let front : (d : Envelope) × ((k : ℕ) → k < first_of_pair s.messages place → is_of_pair f (get_or s.messages k d) ≡ false) =
    none_in_front s place f is in
    taken_from f front.0 s.messages (first_of_pair s.messages place) front.1 is

-- ---- and what is taken arrives

record IsFound (f : Envelope) (messages left : List Envelope) : Type 0 where
  place : ℕ
  there : slice_get messages place ≡ Some f
  left_so : remove messages place ≡ left
  none : position_or_len (is_of_pair f) (take place messages) ≡ length (take place messages)

found : (f : Envelope) (messages left : List Envelope) → Taken f messages left → IsFound f messages left
found f [] left taken = absurd taken
found f (m ∷ messages) left (inl here) = record {
  place = 0;
  there = ap Some here.0;
  left_so = sym here.1;
  none = refl;
}
found f (m ∷ messages) left (inr later) =
    let more : IsFound f messages later.1 = found f messages later.1 later.3 in
    record {
      place = suc more.place;
      there = more.there;
      left_so = ap (λ (l : List Envelope). m ∷ l) more.left_so ∙ sym later.2;
      none = ap (λ (b : Bool). cond (not b) (1 + position_or_len (is_of_pair f) (take more.place messages)) 0) later.0
          ∙ (let same : position_or_len (is_of_pair f) (take more.place messages) ≡ length (take more.place messages) = more.none in omega
          (arith, same));
    }

not_found : (p : Envelope → Bool) (messages : List Envelope) → position_or_len p messages ≡ length messages → position p messages ≡ None
not_found p messages none =
    ap (λ (b : Bool). cond b (Some (position_or_len p messages)) None)
    (le-ltb (position_or_len p messages) (length messages) (omega (arith, none)))

delivers : (s : SystemView) (place : ℕ) (f : Envelope) → arriving place s ≡ Some f
    → made (move.Deliver place) s ≡ arrived f.to f.message (record s { messages = remove s.messages (first_of_pair s.messages place) })
unfolding made delivered
delivers s place f is = ap (λ (o : Option Envelope). arrived_at (first_of_pair s.messages place) o s) is

pub arrives_so : (s t : SystemView) (e : Envelope) → Arrives e s t
    → (left : List Envelope) × Taken e s.messages left × (t ≡ arrived e.to e.message (record s { messages = left }))
arrives_so s t e (place, is, made_so) =
    (remove s.messages (first_of_pair s.messages place), taken_at s place e is, made_so ∙ delivers s place e is)

pub taken_arrives : (s : SystemView) (f : Envelope) (left : List Envelope) → Taken f s.messages left
    → Arrives f s (arrived f.to f.message (record s { messages = left }))
taken_arrives s f left taken =
    let at : IsFound f s.messages left = found f s.messages left taken in
    let first : first_of_pair s.messages at.place ≡ at.place =
    ap (λ (o : Option Envelope). first_like o at.place (take at.place s.messages)) at.there
    ∙ ap (λ (o : Option ℕ). unwrap_or o at.place) (not_found (is_of_pair f) (take at.place s.messages) at.none) in
    let is : arriving at.place s ≡ Some f = ap (slice_get s.messages) first ∙ at.there in (
      at.place,
      is,
      sym (delivers s at.place f is
          ∙ ap (λ (l : List Envelope). arrived f.to f.message (record s { messages = l })) (ap (remove s.messages) first ∙ at.left_so)),
    )

-- ---- two of them

pub taken_of_more : (f : Envelope) (messages left more : List Envelope) → Taken f messages left → Taken f (messages ++ more) (left ++ more)
taken_of_more f [] left more taken = absurd taken
taken_of_more f (m ∷ messages) left more (inl here) = inl (here.0, ap (λ (l : List Envelope). l ++ more) here.1)
taken_of_more f (m ∷ messages) left more (inr later) =
    inr (later.0, later.1 ++ more, ap (λ (l : List Envelope). l ++ more) later.2, taken_of_more f messages later.1 more later.3)

pub taken_same : (f : Envelope) (messages messages' left : List Envelope) → messages ≡ messages' → Taken f messages left
    → Taken f messages' left
taken_same f messages messages' left is taken = subst (λ (l : List Envelope). Taken f l left) is taken

abbrev IsTakenToo : Envelope → Envelope → List Envelope → List Envelope → Type 0
IsTakenToo e f left_e left_f = (left : List Envelope) × Taken f left_e left × Taken e left_f left

-- what is left of both doesn't depend on which was taken first
pub both_taken : (e f : Envelope) (messages left_e left_f : List Envelope) → is_of_pair e f ≡ false → Taken e messages left_e
    → Taken f messages left_f → IsTakenToo e f left_e left_f
both_taken e f [] left_e left_f apart taken_e taken_f = absurd taken_e
both_taken e f (m ∷ messages) left_e left_f apart (inl here_e) (inl here_f) =
    absurd (false≢true (sym apart ∙ ap (is_of_pair e) (sym here_f.0 ∙ here_e.0) ∙ pair_itself e))
both_taken e f (m ∷ messages) left_e left_f apart (inl here_e) (inr later_f) = (
  later_f.1,
  taken_same f messages left_e later_f.1 (sym here_e.1) later_f.3,
  taken_same e (m ∷ later_f.1) left_f later_f.1 (sym later_f.2) (inl (here_e.0, refl)),
)
both_taken e f (m ∷ messages) left_e left_f apart (inr later_e) (inl here_f) = (
  later_e.1,
  taken_same f (m ∷ later_e.1) left_e later_e.1 (sym later_e.2) (inl (here_f.0, refl)),
  taken_same e messages left_f later_e.1 (sym here_f.1) later_e.3,
)
both_taken e f (m ∷ messages) left_e left_f apart (inr later_e) (inr later_f) =
    let more : IsTakenToo e f later_e.1 later_f.1 = both_taken e f messages later_e.1 later_f.1 apart later_e.3 later_f.3 in (
      m ∷ more.0,
      taken_same f (m ∷ later_e.1) left_e (m ∷ more.0) (sym later_e.2) (inr (later_f.0, more.0, refl, more.1)),
      taken_same e (m ∷ later_f.1) left_f (m ∷ more.0) (sym later_f.2) (inr (later_e.0, more.0, refl, more.2)),
    )

-- messages to two nodes are of different pairs
pub of_different_pairs : (e f : Envelope) → e.to.node.0 ≢ f.to.node.0 → is_of_pair e f ≡ false
of_different_pairs e f apart =
    false_from_ne_true (is_of_pair e f) (λ is.
    let parts : (is_process e.from f.from ≡ true) × (is_process e.to f.to ≡ true) = and_parts (is_process e.from f.from)
    (is_process e.to f.to) is in
    apart (ap (λ (p : Process). p.node.0) (same_process e.to f.to parts.1)))
