-- A call that waits for its controller, or was answered, and what an answer makes of it.
use Rattle.std.proofs.Common.{◌≡◌, ◌++◌, ◌+◌, ◌==◌, ◌&&◌, ℕ, zero, suc, Bool, true, false, not, cond, nat_lt, List, [], ◌∷◌, slice_get, Option, Some, None, refl, sym, ap, subst, ◌∙◌}
use Rattle.std.specs.Prelude.{All, position}
use Rattle.std.proofs.lemmas.Bool.{eq-eqb, false≢true}
use Rattle.std.proofs.lemmas.List.Elements.{All-head, All-tail}
use Rattle.std.proofs.lemmas.Option.{none-some, same_Some}
use Rattle.rh_otp_model.specs.declared.fault.Outcome.{Outcome}
use Rattle.rh_otp_model.specs.declared.message.Message.TheVariants as message
use Rattle.rh_otp_model.specs.declared.output.Event.TheVariants as event
use Rattle.rh_otp_model.specs.declared.output.Requester.TheVariants.{Alone}
use Rattle.rh_otp_model.specs.declared.process.Process.{Process}
use Rattle.rh_otp_model.specs.declared.process.Role.{Role}
use Rattle.rh_otp_model.specs.declared.process.Role.TheVariants as role
use Rattle.rh_otp_net.specs.declared.locks.Held.{Held}
use Rattle.rh_otp_net.specs.Alike.{is_role, is_requester}
use Rattle.rh_otp_net.specs.Locks.{freed}
use Rattle.rh_otp_system.specs.declared.calls.Call.{Call}
use Rattle.rh_otp_system.specs.declared.calls.Stage.{Stage}
use Rattle.rh_otp_system.specs.declared.calls.Stage.TheVariants as stage
use Rattle.rh_otp_system.specs.Calling.{can_go_on_from, call_place, call_received, call_received_at, done_with, is_first, is_known}
use Rattle.rh_otp_system.specs.Calls.{process_of, is_permit}
use Rattle.rh_otp_system.specs.Delivering.{arrived}
use Rattle.rh_otp_system.specs.Moves.{can_call, is_awake}
use Rattle.rh_otp_system.specs.Sending.{told}
use Rattle.rh_otp_system.specs.State.{SystemView, node_at, is_alive_at, lives}
use Rattle.rh_otp_orders.specs.Orders.{is_call}
use Rattle.rh_otp_crashes.proofs.Peace.{arrives_alive}

-- the call at this stage
abbrev pub at_stage : Call → Stage → Call
at_stage c w = record c { stage = w }

-- it can't go on by itself
abbrev pub CannotGoOn : Stage → Type 0
CannotGoOn w = (call : Call) (s : SystemView) → can_go_on_from w call s ≡ false

-- ---- where it is the one that there is

pub the_one : (c call : Call) (place : ℕ) → slice_get (c ∷ []) place ≡ Some call → c ≡ call
the_one c call zero is = same_Some c call is
the_one c call (suc place) is = absurd (none-some call is)

neither : (p q x : Bool) → x ≡ false → (p && cond q x false) ≡ false
neither true true x is = is
neither true false x is = refl
neither false q x is = refl

pub cannot_call : (c : Call) (w : Stage) (s : SystemView) → CannotGoOn w → s.calls ≡ at_stage c w ∷ [] → (place : ℕ) (call : Call)
    → slice_get s.calls place ≡ Some call → can_call call s ≡ false
cannot_call c w s none one place call there =
    let p : Process = process_of c in
    subst (λ (x : Call). can_call x s ≡ false)
    (the_one (at_stage c w) call place (sym (ap (λ (l : List Call). slice_get l place) one) ∙ there))
    (neither (is_awake p s) (lives s p) (can_go_on_from w (at_stage c w) s) (none (at_stage c w) s))

-- ---- its lock

-- no call has a lock
abbrev pub NoneOfCalls : List Held → Type 0
NoneOfCalls rows = All (λ (h : Held). is_call h.owner.role ≡ false) rows

not_the_call : (r : Role) (number : ℕ) → is_call r ≡ false → is_role r (role.Call number) ≡ false
not_the_call (role.Call k) number other = absurd (false≢true (sym other))
not_the_call r number other = refl

stays_held : (x y z w : Bool) → y ≡ false → not (x && (y && z && w)) ≡ true
stays_held true true z w other = absurd (false≢true (sym other))
stays_held true false z w other = refl
stays_held false y z w other = refl

not_freed : (c : Call) (rows : List Held) → NoneOfCalls rows → freed (Alone (process_of c)) (process_of c) rows ≡ rows
not_freed c [] none = refl
not_freed c (h ∷ rows) none =
    let left : List Held = freed (Alone (process_of c)) (process_of c) rows in
    let other : is_role h.owner.role (role.Call c.number) ≡ false =
    not_the_call h.owner.role c.number (All-head (λ (k : Held). is_call k.owner.role ≡ false) h rows none) in
    ap (λ (b : Bool). cond b (h ∷ left) left)
    (stays_held (is_requester h.requester (Alone (process_of c))) (is_role h.owner.role (role.Call c.number))
    (h.owner.node.0 == c.node.0) (h.owner.life == c.life) other)
    ∙ ap (λ (l : List Held). h ∷ l) (not_freed c rows (All-tail (λ (k : Held). is_call k.owner.role ≡ false) h rows none))

-- ---- its answer

-- it was answered so
abbrev pub answered_in : Call → Outcome → SystemView → SystemView
answered_in c o s = record s { calls = at_stage c (stage.Done o) ∷ []; events = s.events ++ event.Answered c.number ∷ [] }

not_asked : (p b k : Bool) → k ≡ false → (t u : SystemView) → cond (p && (b && k)) t u ≡ u
not_asked true true true is t u = absurd (false≢true (sym is))
not_asked true true false is t u = refl
not_asked true false k is t u = refl
not_asked false b k is t u = refl

-- where it is the one that there is, it stands first
pub found_alone : (c : Call) (s : SystemView) → s.calls ≡ c ∷ [] → call_place c.number s ≡ Some 0
found_alone c s calls =
    ap (λ (l : List Call). position (λ (call : Call). call.number == c.number) l) calls
    ∙ ap (λ (b : Bool). cond (nat_lt (cond (not b) (1 + 0) 0) 1) (Some (cond (not b) (1 + 0) 0)) None) (eq-eqb c.number c.number refl)

-- its lock is free, if it has one
pub answered_free : (c : Call) (w : Stage) (o : Outcome) (s : SystemView) → s.calls ≡ at_stage c w ∷ [] → is_known o ≡ false
    → is_alive_at s c.node ≡ true → (node_at s c.node).life ≡ c.life
    → arrived (process_of c) (message.Answer o) s
    ≡ record (answered_in c o s) { locks = freed (Alone (process_of c)) (process_of c) s.locks }
unfolding call_received told
answered_free c w o s calls known alive life =
    arrives_alive (process_of c) (message.Answer o) s alive life
    ∙ (λ i. call_received c.number (message.Answer o) (record s { calls = calls i }))
    ∙ ap (λ (place : Option ℕ). call_received_at place (message.Answer o) one) (found_alone (at_stage c w) one refl)
    ∙ not_asked (is_first w) (is_permit c.ask) (is_known o) known _ (done_with 0 (at_stage c w) o one)
  where
    one : SystemView
    one = record s { calls = at_stage c w ∷ [] }

pub answered_so : (c : Call) (w : Stage) (o : Outcome) (s : SystemView) → s.calls ≡ at_stage c w ∷ [] → NoneOfCalls s.locks
    → is_known o ≡ false → is_alive_at s c.node ≡ true → (node_at s c.node).life ≡ c.life
    → arrived (process_of c) (message.Answer o) s ≡ answered_in c o s
answered_so c w o s calls locks known alive life =
    answered_free c w o s calls known alive life ∙ (λ i. record (answered_in c o s) { locks = not_freed c s.locks locks i })
