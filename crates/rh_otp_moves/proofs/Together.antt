-- While another node takes the application over, and the others that are told note the permission, any two messages meet again.
use Rattle.std.proofs.Common.{◌≡◌, ◌≢◌, ◌⊎◌, ◌&&◌, ℕ, Bool, false, List, [], refl, sym, ap, subst, ◌∙◌, inl, inr}
use Rattle.std.specs.Prelude.{All}
use Rattle.std.proofs.lemmas.Bool.{cases_eq, false≢true}
use Rattle.std.proofs.lemmas.List.Elements.{All-weaker}
use Rattle.rh_model.specs.declared.node.Node.{Node}
use Rattle.rh_otp_model.specs.declared.output.Envelope.{Envelope}
use Rattle.rh_otp_net.specs.Queue.{is_of_pair}
use Rattle.rh_otp_system.specs.declared.calls.Call.{Call}
use Rattle.rh_otp_system.specs.Delivering.{arrived}
use Rattle.rh_otp_system.specs.Moves.{Delivers}
use Rattle.rh_otp_system.specs.State.{SystemView}
use Rattle.rh_otp_laws.proofs.Order.{pair_itself}
use Rattle.rh_otp_orders.specs.Confluence.{Meet, IsOrderly}
use Rattle.rh_otp_orders.specs.Orders.{is_call}
use Rattle.rh_otp_orders.proofs.Taking.{Taken, both_taken, of_different_pairs, taken_arrives}
use Rattle.rh_otp_crashes.proofs.Crossing.{same_node}
use Rattle.rh_otp_crashes.proofs.Peace.{without, one_first, taken_all}
use Rattle.rh_otp_stops.proofs.Meeting.{not_apart}
use Rattle.rh_otp_stops.proofs.Still.{Come}
use Rattle.rh_otp_starts.proofs.Parting.{message_comes, by_messages}
use Rattle.rh_otp_moves.proofs.Abroad.{at_home_still, apart_meet}
use Rattle.rh_otp_moves.proofs.Late.{kinds_meet}
use Rattle.rh_otp_moves.proofs.Moving.{all_from}
use Rattle.rh_otp_moves.proofs.Holding.{quiet_orderly}
use Rattle.rh_otp_moves.proofs.Passing.{passing_goes_on}
use Rattle.rh_otp_moves.proofs.Crossing.{passing_meets}
use Rattle.rh_otp_moves.proofs.Handing.{IsNote, tells, its_note, IsLink, news, change, report, run, link_home, link_no_call, link_on, Linked, Moving, linked, passed, Advanced, Noted, note_comes}
use Rattle.rh_otp_moves.proofs.Leading.{run_comes, report_comes, change_comes}
use Rattle.rh_otp_moves.proofs.Hearing.{news_comes}

-- ---- what there is on its way

-- the one message for that node, or a note to another one
abbrev OfBoth : {lives : Node → ℕ} {c : Call} {m : Node} {told : List Node} (s : SystemView) → Linked lives c m told s → Envelope → Type 0
OfBoth {lives} {c} {m} {told} s f e = (e ≡ f.message) ⊎ IsNote lives c m told e

of_both : {lives : Node → ℕ} {c : Call} {m : Node} {told : List Node} (s : SystemView) (f : Linked lives c m told s)
    → All (OfBoth s f) s.messages
of_both {lives} {c} {m} {told} s f =
    all_from (OfBoth s f) f.message s.messages f.rest f.taken (inl refl)
    (All-weaker (IsNote lives c m told) (OfBoth s f) (λ e kind. inr kind) f.rest f.kinds)

no_call : {lives : Node → ℕ} {c : Call} {m : Node} {told : List Node} (s : SystemView) (e : Envelope) (f : Linked lives c m told s)
    → OfBoth s f e → is_call e.to.role ≡ false
no_call {lives} {c} {m} s e f (inl same) =
    ap (λ (x : Envelope). is_call x.to.role) same ∙ link_no_call lives c m s f.message f.link
no_call s _ f (inr (tells j other)) = refl

two_nodes : {lives : Node → ℕ} {c : Call} {m : Node} {told : List Node} (s : SystemView) (g : Envelope) (f : Linked lives c m told s)
    → IsNote lives c m told g → f.message.to.node.0 ≢ g.to.node.0
two_nodes {lives} {c} {m} s _ f (tells j other) one =
    other.0 (sym one ∙ ap (λ (n : Node). n.0) (link_home lives c m s f.message f.link))

-- ---- it comes

link_comes : {lives : Node → ℕ} {c : Call} {m : Node} {told : List Node} (s : SystemView) (left : List Envelope)
    (f : Linked lives c m told s) → Taken f.message s.messages left
    → Advanced lives c m told s (arrived f.message.to f.message.message (without s left))
link_comes {lives} {c} {m} {told} s left f taken =
    subst (λ (l : List Envelope). Advanced lives c m told s (arrived f.message.to f.message.message (without s l)))
    (sym (one_first f.message f.message s.messages left f.rest (pair_itself f.message) taken f.taken).1)
    (by f.message f.link)
  where
    by : (e : Envelope) → IsLink lives c m s e → Advanced lives c m told s (arrived e.to e.message (without s f.rest))
    by _ (news ready) = news_comes s f.rest f.handed ready f.kinds
    by _ (change what is taker) = change_comes what s f.rest is f.handed taker f.kinds
    by _ (report error asked taker) = report_comes error s f.rest f.handed asked taker f.kinds
    by _ (run error taker) = run_comes error s f.rest f.handed taker f.kinds

noted_first : {lives : Node → ℕ} {c : Call} {m : Node} {told : List Node} (s : SystemView) (e : Envelope) (left : List Envelope)
    (f : Linked lives c m told s) → IsNote lives c m told e → Taken e s.messages left
    → Advanced lives c m told s (arrived e.to e.message (without s left))
noted_first {lives} {c} {m} {told} s _ left f (tells j other) taken =
    let e : Envelope = its_note lives c j in
    let t : SystemView = arrived e.to e.message (without s left) in
    let n : Noted lives c m told s t left = note_comes s j left f.handed other in
    let both : (l : List Envelope) × Taken f.message left l × Taken e f.rest l =
    both_taken e f.message s.messages left f.rest
    (of_different_pairs e f.message (λ one. two_nodes s e f (tells j other) (sym one))) taken f.taken in
    record {
      moving = linked (record {
        handed = n.step.handed;
        message = f.message;
        link = link_on s t f.message n.step n.same f.link;
        rest = both.0;
        taken = subst (λ (l : List Envelope). Taken f.message l both.0) (sym n.messages) both.1;
        kinds = (taken_all (IsNote lives c m told) e f.rest both.0 both.2 f.kinds).1;
      });
      leaves = n.step.leaves;
    }

comes : {lives : Node → ℕ} {c : Call} {m : Node} {told : List Node} (s : SystemView) (e : Envelope) (left : List Envelope)
    (f : Linked lives c m told s) → OfBoth s f e → Taken e s.messages left
    → Advanced lives c m told s (arrived e.to e.message (without s left))
comes {lives} {c} {m} {told} s e left f (inl same) taken =
    subst (λ (x : Envelope). Taken x s.messages left → Advanced lives c m told s (arrived x.to x.message (without s left))) (sym same)
    (link_comes s left f) taken
comes s e left f (inr kind) taken = noted_first s e left f kind taken

moving_goes_on : {lives : Node → ℕ} {c : Call} {m : Node} {told : List Node} (s t : SystemView) → Moving lives c m told s
    → (s.messages ≡ [] → ⊥) → Delivers s t → Moving lives c m told t
moving_goes_on {lives} {c} {m} {told} s t (linked f) some one =
    let come : Come s t = message_comes s t some one in
    let kind : OfBoth s f come.message = (taken_all (OfBoth s f) come.message s.messages come.left come.taken (of_both s f)).0 in
    subst (Moving lives c m told) (sym come.is) (comes s come.message come.left f kind come.taken).moving
moving_goes_on s t (passed error f) some one = passed error (passing_goes_on s t f some one)

-- ---- any two meet

apart : {lives : Node → ℕ} {c : Call} {m : Node} {told : List Node} (s : SystemView) (e g : Envelope) (left_e left_g : List Envelope)
    (f : Linked lives c m told s) → OfBoth s f e → OfBoth s f g → Taken e s.messages left_e → Taken g s.messages left_g
    → e.to.node.0 ≢ g.to.node.0
    → Meet (arrived e.to e.message (without s left_e)) (arrived g.to g.message (without s left_g))
apart s e g left_e left_g f kind_e kind_g taken_e taken_g two =
    apart_meet s _ _ e g (taken_arrives s e left_e taken_e) (taken_arrives s g left_g taken_g)
    (comes s e left_e f kind_e taken_e).leaves (comes s g left_g f kind_g taken_g).leaves
    (at_home_still s e (no_call s e f kind_e)) (at_home_still s g (no_call s g f kind_g))
    (ap (λ (b : Bool). b && is_call g.to.role) (no_call s e f kind_e)) two

notes_meet : {lives : Node → ℕ} {c : Call} {m : Node} {told : List Node} (s : SystemView) (e g : Envelope) (left_e left_g : List Envelope)
    (f : Linked lives c m told s) → IsNote lives c m told e → IsNote lives c m told g → Taken e s.messages left_e
    → Taken g s.messages left_g → is_of_pair e g ≡ false
    → Meet (arrived e.to e.message (without s left_e)) (arrived g.to g.message (without s left_g))
notes_meet {lives} {c} s _ _ left_e left_g f (tells j other) (tells i other') taken_e taken_g parted =
    elim (cases_eq j.0 i.0) [
      | inl one ↦ absurd (false≢true (sym parted
          ∙ ap (λ (k : Node). is_of_pair (its_note lives c j) (its_note lives c k)) (sym (same_node j i one))
          ∙ pair_itself (its_note lives c j)))
      | inr two ↦ apart s (its_note lives c j) (its_note lives c i) left_e left_g f (inr (tells j other)) (inr (tells i other'))
          taken_e taken_g two
    ]

both_meet : {lives : Node → ℕ} {c : Call} {m : Node} {told : List Node} (s : SystemView) (e g : Envelope) (left_e left_g : List Envelope)
    (f : Linked lives c m told s) → OfBoth s f e → OfBoth s f g → Taken e s.messages left_e → Taken g s.messages left_g
    → is_of_pair e g ≡ false
    → Meet (arrived e.to e.message (without s left_e)) (arrived g.to g.message (without s left_g))
both_meet s e g left_e left_g f (inl same) (inl same') taken_e taken_g parted = not_apart _ e g (same ∙ sym same') parted
both_meet s e g left_e left_g f (inl same) (inr kind) taken_e taken_g parted =
    apart s e g left_e left_g f (inl same) (inr kind) taken_e taken_g
    (λ one. two_nodes s g f kind (sym (ap (λ (x : Envelope). x.to.node.0) same) ∙ one))
both_meet s e g left_e left_g f (inr kind) (inl same) taken_e taken_g parted =
    apart s e g left_e left_g f (inr kind) (inl same) taken_e taken_g
    (λ one. two_nodes s e f kind (sym (ap (λ (x : Envelope). x.to.node.0) same) ∙ sym one))
both_meet s e g left_e left_g f (inr kind) (inr kind') taken_e taken_g parted =
    notes_meet s e g left_e left_g f kind kind' taken_e taken_g parted

moving_meets : {lives : Node → ℕ} {c : Call} {m : Node} {told : List Node} (s t u : SystemView) → Moving lives c m told s
    → (s.messages ≡ [] → ⊥) → Delivers s t → Delivers s u → Meet t u
moving_meets s t u (linked f) some to_t to_u =
    kinds_meet (OfBoth s f) s t u (of_both s f) some
    (λ e g left_e left_g kind_e kind_g taken_e taken_g parted.
    both_meet s e g left_e left_g f kind_e kind_g taken_e taken_g parted) to_t to_u
moving_meets s t u (passed error f) some to_t to_u = passing_meets s t u f some to_t to_u

-- ---- every order

moving_quiet : {lives : Node → ℕ} {c : Call} {m : Node} {told : List Node} (s : SystemView) → Moving lives c m told s → s.messages ≡ []
    → IsOrderly s
moving_quiet s (linked f) none = absurd (subst (λ (l : List Envelope). Taken f.message l f.rest) none f.taken)
moving_quiet s (passed error f) none = quiet_orderly s f.hold none

pub moving_orderly : {lives : Node → ℕ} {c : Call} {m : Node} {told : List Node} (s : SystemView) → Moving lives c m told s → IsOrderly s
moving_orderly {lives} {c} {m} {told} s f = by_messages (Moving lives c m told) moving_quiet moving_goes_on moving_meets s f
