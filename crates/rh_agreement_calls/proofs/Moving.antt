-- What live nodes do where one message is on its way: it arrives, whichever order they keep. And what a call does that was answered.
use Rattle.std.proofs.Common.{◌≡◌, ◌≢◌, ◌+◌, ◌++◌, ◌&&◌, ◌||◌, ℕ, suc, Bool, true, false, not, cond, nat_lt, List, [], ◌∷◌, Option, Some, None, refl, sym, ap, ◌∙◌, inl, inr}
use Rattle.std.specs.Option.{option_map}
use Rattle.std.proofs.Math.Bool.{and-false}
use Rattle.std.proofs.Math.Nat.{mod-one}
use Rattle.std.proofs.lemmas.Bool.{eq-eqb, true≢false, and_left}
use Rattle.rh_model.specs.declared.node.App.{App}
use Rattle.rh_model.specs.declared.node.Node.{Node}
use Rattle.rh_otp_model.specs.declared.fault.Outcome.TheVariants as outcome
use Rattle.rh_otp_model.specs.declared.message.Message.TheVariants as message
use Rattle.rh_otp_model.specs.declared.output.Envelope.{Envelope}
use Rattle.rh_otp_model.specs.declared.output.Event.{Event}
use Rattle.rh_otp_model.specs.declared.output.Event.TheVariants as event
use Rattle.rh_otp_model.specs.declared.output.Requester.TheVariants.{Alone}
use Rattle.rh_otp_model.specs.declared.process.Role.TheVariants as role
use Rattle.rh_otp_dist.specs.State.{DistView}
use Rattle.rh_otp_net.specs.declared.locks.Held.{Held}
use Rattle.rh_otp_net.specs.declared.order.Order.{Order}
use Rattle.rh_otp_net.specs.declared.order.Order.TheVariants.{FirstComes, LastComes, Drawn}
use Rattle.rh_otp_net.specs.Locks.{freed}
use Rattle.rh_otp_net.specs.Order.{place_in, next_order, drawn}
use Rattle.rh_otp_node.specs.declared.node.Phase.{Phase}
use Rattle.rh_otp_node.specs.Live.{LiveView, is_alive, is_down, is_ending}
use Rattle.rh_otp_system.specs.declared.calls.Ask.{Ask}
use Rattle.rh_otp_system.specs.declared.calls.Ask.TheVariants as ask
use Rattle.rh_otp_system.specs.declared.calls.Call.{Call}
use Rattle.rh_otp_system.specs.declared.calls.Stage.TheVariants as stage
use Rattle.rh_otp_system.specs.declared.moves.Move.TheVariants as move
use Rattle.rh_otp_system.specs.Calling.{call_received, call_received_at, call_place, done_with, go_on_call, with_stage, with_loaded, is_only_loaded}
use Rattle.rh_otp_system.specs.Calls.{process_of, first_by, is_takeover, is_permit}
use Rattle.rh_otp_system.specs.Delivering.{arrived, delivered}
use Rattle.rh_otp_system.specs.Doing.{called}
use Rattle.rh_otp_system.specs.Moves.{IsAmong, can_call, can_go_on_at, is_awake, is_to_end, call_or_end, lock_or_more, quiet_move, next_move, made, moved, is_quiet_behind}
use Rattle.rh_otp_system.specs.Sending.{told}
use Rattle.rh_otp_system.specs.State.{SystemView, node_at, with_node, is_alive_at, lives}
use Rattle.rh_otp_laws.proofs.Nodes.{alive_is_there, node_written, same_of_all, as_it_was_or_written}
use Rattle.rh_otp_crashes.specs.Crashes.{IsUnoccupied}
use Rattle.rh_otp_crashes.proofs.Peace.{arrives_alive, is_free_at_ease, no_lock_at}
use Rattle.rh_agreement.proofs.Resting.{none_found, none_moves}

-- ---- one message is on its way

place_one : (o : Order) → place_in o 1 ≡ 0
place_one FirstComes = refl
place_one LastComes = refl
place_one (Drawn number) = mod-one (drawn number)

abbrev pub with_one : Envelope → SystemView → SystemView
with_one e s = record s { messages = e ∷ [] }

-- it arrives
abbrev pub taken : Envelope → SystemView → SystemView
taken e s = arrived e.to e.message (record s { messages = [] })

one_taken : (e : Envelope) (s : SystemView) (o : Order) → made (move.Deliver (place_in o 1)) (with_one e s) ≡ taken e s
unfolding made delivered
one_taken e s o = ap (λ (place : ℕ). made (move.Deliver place) (with_one e s)) (place_one o)

pub one_moves : (e : Envelope) (s : SystemView) (k : ℕ) (o : Order) → moved (suc k) o (with_one e s) ≡ moved k (next_order o) (taken e s)
one_moves e s k o = ap (moved k (next_order o)) (one_taken e s o)

pub one_is_quiet : (e : Envelope) (s : SystemView) (k : ℕ) (o : Order)
    → is_quiet_behind (suc k) o (with_one e s) ≡ is_quiet_behind k (next_order o) (taken e s)
one_is_quiet e s k o = ap (is_quiet_behind k (next_order o)) (one_taken e s o)

-- ---- where a call begins

-- nothing is on its way, no call is open, and nothing was seen yet
abbrev pub at_first : SystemView → SystemView
at_first s = record s { calls = []; messages = []; slow = []; answers = []; events = [] }

-- the call, which waits for its controller
abbrev pub call_at : SystemView → Ask → Node → App → Call
call_at s asked n a = record {
  number = s.last_call + 1;
  ask = asked;
  node = n;
  life = (node_at s n).life;
  app = a;
  only_loaded = false;
  stage = stage.Controller;
}

-- what it sends to its controller
abbrev pub request_of : Call → Envelope
request_of c = record { from = process_of c; to = record (process_of c) { role = role.Controller }; message = first_by c.ask c }

abbrev pub calling : SystemView → Call → SystemView
calling s c = record (at_first s) { calls = c ∷ []; last_call = c.number }

pub called_so : (s : SystemView) (asked : Ask) (n : Node) (a : App) → is_takeover asked ≡ false
    → called asked n a (at_first s) ≡ with_one (request_of (call_at s asked n a)) (calling s (call_at s asked n a))
unfolding called
called_so s (ask.Start restart) n a apart = refl
called_so s ask.Stop n a apart = refl
called_so s (ask.Permit allow) n a apart = refl
called_so s (ask.Takeover restart) n a apart = absurd (true≢false apart)
called_so s (ask.Exit normal) n a apart = refl

-- ---- the call is answered

-- it was answered that all is well
abbrev pub done : Call → Call
done c = record c { stage = stage.Done outcome.Done }

neither : (p q x : Bool) → x ≡ false → (p && cond q x false) ≡ false
neither true true x is = is
neither true false x is = refl
neither false q x is = refl

-- Nobody else waits for anything, and a node is written as one that isn't on its way to its end.
pub record CanAnswer (s : SystemView) (n : Node) (new : LiveView) : Type 0 where
  pub alive : is_alive_at s n ≡ true
  pub phase : new.phase ≡ (node_at s n).phase
  pub life : new.life ≡ (node_at s n).life
  pub dist : new.dist ≡ (node_at s n).dist
  pub stays : is_ending new ≡ false
  pub listed : (m : Node) → IsAmong m s.alive → is_alive_at s m ≡ true
  pub dists : (m : Node) (d : DistView) → is_alive_at s m ≡ true → (node_at s m).dist ≡ Some d → IsUnoccupied d
  pub ends : (m : Node) → is_alive_at s m ≡ true → is_to_end m s ≡ false

module _ (s : SystemView) (asked : Ask) (n : Node) (a : App) (new : LiveView) (seen : List Event) (can : CanAnswer s n new) where
  abbrev c : Call
  c = call_at s asked n a

  abbrev with_new : SystemView
  with_new = with_node n new (calling s c)

  -- its controller has answered
  abbrev pub answering : SystemView
  answering = record with_new { events = seen }

  abbrev locks_left : List Held
  locks_left = freed (Alone (process_of c)) (process_of c) s.locks

  -- and the answer has come
  abbrev pub over : SystemView
  over = record with_new { calls = done c ∷ []; locks = locks_left; events = seen ++ event.Answered c.number ∷ [] }

  new_there : node_at with_new n ≡ new
  new_there = let there = alive_is_there s n can.alive in node_written (calling s c) n there.0 new there.1

  same_alive : is_alive new ≡ is_alive_at s n
  same_alive = ap (λ (p : Phase). cond (is_down p) false true) can.phase

  pub alive_so : (m : Node) → is_alive_at over m ≡ is_alive_at s m
  alive_so m = same_of_all is_alive (calling s c) n m new same_alive

  found : call_place c.number answering ≡ Some 0
  found =
      ap (λ (b : Bool). cond (nat_lt (cond (not b) (1 + 0) 0) 1) (Some (cond (not b) (1 + 0) 0)) None) (eq-eqb c.number c.number refl)

  pub answer_comes : arrived (process_of c) (message.Answer outcome.Done) answering ≡ over
  unfolding call_received told
  answer_comes =
      arrives_alive (process_of c) (message.Answer outcome.Done) answering (ap is_alive new_there ∙ same_alive ∙ can.alive)
      (ap (λ (v : LiveView). v.life) new_there ∙ can.life)
      ∙ ap (λ (place : Option ℕ). call_received_at place (message.Answer outcome.Done) answering) found
      ∙ ap (λ (b : Bool). cond b
      (go_on_call 0 (with_stage 0 stage.Synchronised (with_loaded 0 (is_only_loaded outcome.Done) answering)))
      (done_with 0 c outcome.Done answering)) (and-false (is_permit asked))

  -- ---- and nothing moves any more

  pub dists_so : (m : Node) (d : DistView) → is_alive_at over m ≡ true → (node_at over m).dist ≡ Some d → IsUnoccupied d
  dists_so m d alive has =
      can.dists m d (sym (alive_so m) ∙ alive) (sym (same_of_all (λ (v : LiveView). v.dist) (calling s c) n m new can.dist) ∙ has)

  -- no node is on its way to its end that wasn't
  pub ends_on : (soon : Bool) (m : Node) → (is_ending (node_at s m) && (soon || not (node_at s m).is_stopped)) ≡ false
      → (is_ending (node_at over m) && (soon || not (node_at over m).is_stopped)) ≡ false
  ends_on soon m stays = elim (as_it_was_or_written (calling s c) n m new) [
    | inl was ↦ ap (λ (v : LiveView). is_ending v && (soon || not v.is_stopped)) was ∙ stays
    | inr is ↦ and_left _ _ (ap is_ending is.1 ∙ can.stays)
  ]

  locks_so : (m : Node) → IsAmong m over.alive → can_go_on_at m over ≡ false
  locks_so m among =
      no_lock_at m over (node_at over m).dist (λ d has. is_free_at_ease d (dists_so m d (alive_so m ∙ can.listed m among) has))

  no_call : can_call (done c) over ≡ false
  no_call = neither (is_awake (process_of c) over) (lives over (process_of c)) false refl

  none_goes_on : quiet_move over ≡ None
  none_goes_on =
      ap (λ (found : Option Node). lock_or_more found over) (none_found (λ m. can_go_on_at m over) over.alive locks_so)
      ∙ ap (λ (b : Bool). call_or_end (cond b (Some 0) None) over) no_call
      ∙ ap (option_map move.End)
      (none_found (λ m. is_to_end m over) over.alive (λ m among. ends_on s.ends_soon m (can.ends m (can.listed m among))))

  pub none_next : (o : Order) → next_move o over ≡ None
  none_next o = none_moves o over refl refl none_goes_on
