-- The message that arrives is the first of its pair, and the others stand as they stood.
use Rattle.std.proofs.Common.{◌≡◌, ◌<◌, ◌≤◌, ◌&&◌, ℕ, zero, suc, Bool, true, false, cond, List, [], ◌∷◌, length, filter, take, not, slice_get, get_or, position, unwrap_or, Option, Some, None, refl, sym, ap, subst, ◌∙◌, arith}
use Rattle.std.specs.List.{remove, position_or_len}
use Rattle.std.proofs.lemmas.Bool.{false≢true, and_parts, and_from, false_from_ne_true, not-true}
use Rattle.std.proofs.lemmas.List.{get_or-take, length-take-le}
use Rattle.std.proofs.lemmas.List.Quantifiers.{position-Some}
use Rattle.std.proofs.lemmas.List.Sums.{prefix_len_passes}
use Rattle.std.proofs.lemmas.Option.{none-some, same_Some, slice_get_within, slice_get-get_or, get_or_from_slice_get}
use Rattle.rh_otp_model.specs.declared.output.Envelope.{Envelope}
use Rattle.rh_otp_model.proofs.Places.{no_place}
use Rattle.rh_otp_net.specs.Alike.{is_process}
use Rattle.rh_otp_net.specs.Queue.{is_of_pair, first_like, first_of_pair}
use Rattle.rh_otp_net.proofs.Pairs.{first_is}
use Rattle.rh_otp_system.specs.declared.moves.Move.TheVariants as move
use Rattle.rh_otp_system.specs.State.{SystemView}
use Rattle.rh_otp_system.specs.Delivering.{arrived, arrived_at, delivered}
use Rattle.rh_otp_system.specs.Moves.{made}
use Rattle.rh_otp_laws.specs.Turns.{arriving}
use Rattle.rh_otp_laws.specs.Messages.{without_arriving, IsTakenInOrder, ArrivesInOrder, MessagesKeepTheirOrder}
use Rattle.rh_otp_laws.proofs.Alike.{same_process, process_itself}
use Rattle.rh_otp_laws.proofs.Moving.{arrives}
use Rattle.rh_otp_laws.proofs.Sent.{IsBehind, sends_behind}

-- ---- pairs of processes

pub pair_itself : (e : Envelope) → is_of_pair e e ≡ true
pair_itself e = and_from (is_process e.from e.from) (is_process e.to e.to) (process_itself e.from) (process_itself e.to)

-- a message of the same pair has the same pair
pub same_pair : (e f g : Envelope) → is_of_pair e f ≡ true → is_of_pair f g ≡ is_of_pair e g
same_pair e f g is =
    let parts : (is_process e.from f.from ≡ true) × (is_process e.to f.to ≡ true) =
    and_parts (is_process e.from f.from) (is_process e.to f.to) is in
    λ i. is_process (sym (same_process e.from f.from parts.0) i) g.from && is_process (sym (same_process e.to f.to parts.1) i) g.to

pair_back : (e f : Envelope) → is_of_pair e f ≡ true → is_of_pair f e ≡ true
pair_back e f is = same_pair e f e is ∙ pair_itself e

-- ---- the first of a pair

record IsFirstAt (q : Envelope → Bool) (messages : List Envelope) (d : Envelope) (place : ℕ) : Type 0 where
  within : place < length messages
  passes : q (get_or messages place d) ≡ true
  none_before : (k : ℕ) → k < place → q (get_or messages k d) ≡ false

first_by : (q : Envelope → Bool) (messages : List Envelope) (d : Envelope) (place : ℕ) (found : Option ℕ) → place < length messages
    → q (get_or messages place d) ≡ true → position q (take place messages) ≡ found → IsFirstAt q messages d (unwrap_or found place)
first_by q messages d place None within passes is =
    let many : length (take place messages) ≡ place = length-take-le place messages (omega (arith, within)) in
    let none : length (take place messages) ≤ position_or_len q (take place messages) = no_place q (take place messages) is in
    record {
      within = within;
      passes = passes;
      none_before = λ k before.
          ap q (sym (get_or-take place messages k d before))
          ∙ not-true (q (get_or (take place messages) k d)) (prefix_len_passes (λ (x : Envelope). not (q x)) (take place messages) k d (omega (arith, many, none, before)));
    }
first_by q messages d place (Some i) within passes is =
    let at : (i < length (take place messages)) × (q (get_or (take place messages) i d) ≡ true)
    × ((k : ℕ) → k < i → q (get_or (take place messages) k d) ≡ false) = position-Some q (take place messages) i d is in
    let many : length (take place messages) ≡ place = length-take-le place messages (omega (arith, within)) in
    let before : i < place = omega (arith, many, at.0) in
    record {
      within = omega (arith, before, within);
      passes = ap q (sym (get_or-take place messages i d before)) ∙ at.1;
      none_before = λ k less. ap q (sym (get_or-take place messages k d (omega (arith, less, before)))) ∙ at.2 k less;
    }

-- what passes a test is the first that does, and what is left of those that do
taken : (q : Envelope → Bool) (messages : List Envelope) (d e : Envelope) (place : ℕ) → slice_get messages place ≡ Some e → q e ≡ true
    → ((k : ℕ) → k < place → q (get_or messages k d) ≡ false) → filter q messages ≡ e ∷ filter q (remove messages place)
taken q [] d e place is passes none = absurd (none-some e is)
taken q (m ∷ messages) d e zero is passes none =
    let same : m ≡ e = same_Some m e is in
    ap (λ (b : Bool). cond b (m ∷ filter q messages) (filter q messages)) (ap q same ∙ passes) ∙ ap (λ (f : Envelope). f ∷ filter q messages) same
taken q (m ∷ messages) d e (suc place) is passes none =
    let fails : q m ≡ false = none 0 (omega arith) in
    ap (λ (b : Bool). cond b (m ∷ filter q messages) (filter q messages)) fails
    ∙ taken q messages d e place is passes (λ k before. none (suc k) (omega (arith, before)))
    ∙ sym (ap (λ (b : Bool). e ∷ cond b (m ∷ filter q (remove messages place)) (filter q (remove messages place))) fails)

-- what doesn't pass it isn't missed
not_missed : (q : Envelope → Bool) (messages : List Envelope) (e : Envelope) (place : ℕ) → slice_get messages place ≡ Some e → q e ≡ false
    → filter q messages ≡ filter q (remove messages place)
not_missed q [] e place is fails = absurd (none-some e is)
not_missed q (m ∷ messages) e zero is fails =
    ap (λ (b : Bool). cond b (m ∷ filter q messages) (filter q messages)) (ap q (same_Some m e is) ∙ fails)
not_missed q (m ∷ messages) e (suc place) is fails =
    ap (λ (rest : List Envelope). cond (q m) (m ∷ rest) rest) (not_missed q messages e place is fails)

-- a message of a list that isn't empty
some_message : (messages : List Envelope) (place : ℕ) → place < length messages → (e : Envelope) × (slice_get messages place ≡ Some e)
some_message [] place within = absurd (omega (arith, within))
some_message (e ∷ messages) place within =
    (get_or (e ∷ messages) place e, slice_get-get_or (e ∷ messages) place e within)

-- ---- the law

-- the message that is found at the place of the first of its pair
in_order : (messages : List Envelope) (e f : Envelope) (at : ℕ) → IsFirstAt (is_of_pair e) messages e at → slice_get messages at ≡ Some f
    → IsTakenInOrder f messages (remove messages at)
in_order messages e f at first is =
    let there : get_or messages at e ≡ f = get_or_from_slice_get messages at f e is in
    let same : is_of_pair e f ≡ true = ap (is_of_pair e) (sym there) ∙ first.passes in
    record {
      first = taken (is_of_pair f) messages e f at is (pair_itself f)
          (λ k before. same_pair e f (get_or messages k e) same ∙ first.none_before k before);
      others = λ g other. not_missed (is_of_pair g) messages f at is
          (false_from_ne_true (is_of_pair g f) (λ both. false≢true (sym other ∙ pair_back g f both)));
    }

arrives_in_order : (s : SystemView) (place : ℕ) (e f : Envelope) → IsFirstAt (is_of_pair e) s.messages e (first_of_pair s.messages place)
    → arriving place s ≡ Some f → ArrivesInOrder place s (made (move.Deliver place) s)
unfolding made delivered
arrives_in_order s place e f first is =
    let left : SystemView = without_arriving place s in
    let arrives_there : made (move.Deliver place) s ≡ arrived f.to f.message left =
    ap (λ (o : Option Envelope). arrived_at (first_of_pair s.messages place) o s) is in
    let sends : IsBehind left (arrived f.to f.message left) = sends_behind f.to.node _ _ (arrives f.to f.message left) in
    record {
      message = f;
      is_there = is;
      in_order = in_order s.messages e f (first_of_pair s.messages place) first is;
      received = arrives_there;
      more = sends.0;
      behind = ap (λ (t : SystemView). t.messages) arrives_there ∙ sends.1;
    }

-- what is found at the place of the first of the pair of the message at this place
first_of : (messages : List Envelope) (place : ℕ) (e : Envelope) → slice_get messages place ≡ Some e
    → IsFirstAt (is_of_pair e) messages e (first_of_pair messages place)
first_of messages place e there =
    subst (IsFirstAt (is_of_pair e) messages e)
    (first_is messages place e (position (is_of_pair e) (take place messages)) there refl)
    (first_by (is_of_pair e) messages e place (position (is_of_pair e) (take place messages)) (slice_get_within messages place e there)
    (ap (is_of_pair e) (get_or_from_slice_get messages place e e there) ∙ pair_itself e) refl)

pub keeps_order : MessagesKeepTheirOrder
keeps_order s place within =
    let some : (e : Envelope) × (slice_get s.messages place ≡ Some e) = some_message s.messages place within in
    let e : Envelope = some.0 in
    let first : IsFirstAt (is_of_pair e) s.messages e (first_of_pair s.messages place) = first_of s.messages place e some.1 in
    let at : ℕ = first_of_pair s.messages place in
    arrives_in_order s place e (get_or s.messages at e) first (slice_get-get_or s.messages at e first.within)

-- none in front of the message that arrives is of its pair
pub none_in_front : (s : SystemView) (place : ℕ) (f : Envelope) → arriving place s ≡ Some f
    → (d : Envelope) × ((k : ℕ) → k < first_of_pair s.messages place → is_of_pair f (get_or s.messages k d) ≡ false)
none_in_front s place f is = by (slice_get s.messages place) refl
  where
    by : (o : Option Envelope) → slice_get s.messages place ≡ o
        → (d : Envelope) × ((k : ℕ) → k < first_of_pair s.messages place → is_of_pair f (get_or s.messages k d) ≡ false)
    by None past =
        let at : first_of_pair s.messages place ≡ place = ap (λ (o : Option Envelope). first_like o place (take place s.messages)) past in
        absurd (none-some f (sym (ap (slice_get s.messages) at ∙ past) ∙ is))
    by (Some e) there =
        let first : IsFirstAt (is_of_pair e) s.messages e (first_of_pair s.messages place) = first_of s.messages place e there in
        let same : is_of_pair e f ≡ true =
        ap (is_of_pair e) (sym (get_or_from_slice_get s.messages (first_of_pair s.messages place) f e is)) ∙ first.passes in
        (e, λ k before. same_pair e f (get_or s.messages k e) same ∙ first.none_before k before)
