-- Live nodes where a call waits, and of what comes of it one message at a time is on its way: so there is but one order.
use Rattle.std.proofs.Common.{◌≡◌, ◌≢◌, ◌⊎◌, ◌&&◌, ◌||◌, ℕ, Bool, true, false, not, cond, length, List, [], ◌∷◌, slice_get, Some, refl, sym, ap, subst, ◌∙◌, inl, inr, arith}
use Rattle.std.proofs.lemmas.Bool.{cases_Bool, cases_eq, false_from_ne_true, false≢true}
use Rattle.rh_model.specs.declared.node.Node.{Node}
use Rattle.rh_otp_model.specs.declared.fault.Outcome.{Outcome}
use Rattle.rh_otp_model.specs.declared.message.Message.{Message}
use Rattle.rh_otp_model.specs.declared.message.Message.TheVariants as message
use Rattle.rh_otp_model.specs.declared.output.Envelope.{Envelope}
use Rattle.rh_otp_model.specs.declared.output.Event.{Event}
use Rattle.rh_otp_model.specs.declared.process.Process.{Process}
use Rattle.rh_otp_net.specs.declared.timers.Timer.{Timer}
use Rattle.rh_otp_dist.specs.State.{DistView}
use Rattle.rh_otp_node.specs.declared.node.Phase.{Phase}
use Rattle.rh_otp_node.specs.Live.{LiveView, is_alive, is_down, is_ending}
use Rattle.rh_otp_system.specs.declared.calls.Call.{Call}
use Rattle.rh_otp_system.specs.declared.calls.Stage.{Stage}
use Rattle.rh_otp_system.specs.declared.calls.Stage.TheVariants as stage
use Rattle.rh_otp_system.specs.declared.moves.Move.TheVariants as move
use Rattle.rh_otp_system.specs.Calling.{is_known}
use Rattle.rh_otp_system.specs.Calls.{process_of}
use Rattle.rh_otp_system.specs.Delivering.{arrived}
use Rattle.rh_otp_system.specs.Moves.{Delivers, Reaches, IsAmong, here, behind_one, is_to_end, can_call, can_go_on_at, made}
use Rattle.rh_otp_system.specs.State.{SystemView, live_at, node_at, with_node, is_alive_at}
use Rattle.rh_otp_laws.specs.Messages.{ArrivesInOrder}
use Rattle.rh_otp_laws.proofs.Nodes.{node_written, others_same, same_number, same_of_all}
use Rattle.rh_otp_laws.proofs.Order.{keeps_order}
use Rattle.rh_otp_orders.specs.Confluence.{IsOrderly}
use Rattle.rh_otp_orders.specs.Orders.{Arrives}
use Rattle.rh_otp_orders.proofs.Taking.{Taken, arrives_so}
use Rattle.rh_otp_crashes.specs.Crashes.{IsUnoccupied}
use Rattle.rh_otp_crashes.proofs.Peace.{without, arrives_dead, is_free_at_ease, no_lock_at, no_place}
use Rattle.rh_otp_crashes.proofs.Crossing.{same_node}
use Rattle.rh_otp_crashes.proofs.Deeds.{AreLater}
use Rattle.rh_otp_crashes.proofs.Turning.{own_in}
use Rattle.rh_otp_stops.proofs.Answering.{at_stage, CannotGoOn, NoneOfCalls, cannot_call, answered_in, answered_so}
use Rattle.rh_otp_stops.proofs.Stop.{only_first, from_first}

-- ---- what is on its way

-- There is the one call, which can't go on by itself, and no call has a lock. These messages are on their way, and all else is at rest; but
-- the call's node may have to go on to its end (`may_end`). If the command waits for that, no loss is over at once.
pub record Waits (lives : Node → ℕ) (c : Call) (may_end : Bool) (l : List Envelope) (s : SystemView) : Type 0 where
  pub messages : s.messages ≡ l
  pub slow : s.slow ≡ []
  pub dists : (n : Node) (d : DistView) → is_alive_at s n ≡ true → (node_at s n).dist ≡ Some d → IsUnoccupied d
  pub ends : (n : Node) → is_alive_at s n ≡ true → (may_end ≡ true → n.0 ≢ c.node.0) → is_to_end n s ≡ false
  pub later : s.ends_soon ≡ true → (n : Node) → AreLater (own_in s.files n)
  pub listed : (n : Node) → IsAmong n s.alive → is_alive_at s n ≡ true
  pub same_lives : (n : Node) → (node_at s n).life ≡ lives n
  pub stage : Stage
  pub calls : s.calls ≡ at_stage c stage ∷ []
  pub waits : CannotGoOn stage
  pub life : c.life ≡ lives c.node
  pub locks : NoneOfCalls s.locks

-- where its message has been taken
pub taken_from : {lives : Node → ℕ} {c : Call} {may_end : Bool} {l : List Envelope} (s : SystemView) → Waits lives c may_end l s
    → Waits lives c may_end [] (without s [])
taken_from s f = record {
  messages = refl;
  slow = f.slow;
  dists = f.dists;
  ends = f.ends;
  later = f.later;
  listed = f.listed;
  same_lives = f.same_lives;
  stage = f.stage;
  calls = f.calls;
  waits = f.waits;
  life = f.life;
  locks = f.locks;
}

-- ---- what moves

no_lock : {lives : Node → ℕ} {c : Call} {may_end : Bool} {l : List Envelope} (n : Node) (s : SystemView) → Waits lives c may_end l s
    → IsAmong n s.alive → can_go_on_at n s ≡ false
no_lock n s f among = no_lock_at n s (node_at s n).dist (λ d has. is_free_at_ease d (f.dists n d (f.listed n among) has))

no_call : {lives : Node → ℕ} {c : Call} {may_end : Bool} {l : List Envelope} (s : SystemView) → Waits lives c may_end l s
    → (place : ℕ) (call : Call) → slice_get s.calls place ≡ Some call → can_call call s ≡ false
no_call {c = c} s f = cannot_call c f.stage s f.waits f.calls

not_none : (e : Envelope) → e ∷ [] ≡ [] → ⊥
not_none e is = let none : 1 ≡ 0 = ap (λ (l : List Envelope). length l) is in omega (arith, none)

-- where there is a message, it arrives
first_moves : {lives : Node → ℕ} {c : Call} {may_end : Bool} (e : Envelope) (s t : SystemView) → Waits lives c may_end (e ∷ []) s
    → Delivers s t → t ≡ arrived e.to e.message (without s [])
first_moves e s t f (move.Deliver place, possible, is) =
    let come : ArrivesInOrder place s (made (move.Deliver place) s) = keeps_order s place possible in
    let arrives : Arrives come.message s t = (place, come.is_there, is) in
    let g : Envelope = come.message in
    let so : (left : List Envelope) × Taken g s.messages left × (t ≡ arrived g.to g.message (without s left)) = arrives_so s t g arrives in
    let one : (e ≡ g) × (so.0 ≡ []) = only_first e g so.0 (subst (λ (l : List Envelope). Taken g l so.0) f.messages so.1) in
    so.2 ∙ (λ i. arrived (sym one.0 i).to (sym one.0 i).message (without s (one.1 i)))
first_moves e s t f (move.Slow place, possible, is) = absurd (no_place s.slow place f.slow possible.1)
first_moves e s t f (move.Lock n, possible, is) = absurd (false≢true (sym (no_lock n s f possible.1) ∙ possible.2))
first_moves e s t f (move.Call place, possible, is) =
    absurd (false≢true (sym (no_call s f place possible.1.0 possible.1.1) ∙ possible.1.2))
first_moves e s t f (move.End n, possible, is) = absurd (not_none e (sym f.messages ∙ possible.0.0))

-- where there is none, its node may go on to its end
last_moves : {lives : Node → ℕ} {c : Call} {may_end : Bool} (s t : SystemView) → Waits lives c may_end [] s → Delivers s t
    → (may_end ≡ true) × (is_alive_at s c.node ≡ true) × (t ≡ made (move.End c.node) s)
last_moves s t f (move.Deliver place, possible, is) = absurd (no_place s.messages place f.messages possible)
last_moves s t f (move.Slow place, possible, is) = absurd (no_place s.slow place f.slow possible.1)
last_moves s t f (move.Lock n, possible, is) = absurd (false≢true (sym (no_lock n s f possible.1) ∙ possible.2))
last_moves s t f (move.Call place, possible, is) =
    absurd (false≢true (sym (no_call s f place possible.1.0 possible.1.1) ∙ possible.1.2))
last_moves {lives} {c} {may_end} s t f (move.End n, possible, is) = by (cases_eq n.0 c.node.0) (cases_Bool may_end)
  where
    alive : is_alive_at s n ≡ true
    alive = f.listed n possible.1

    ends_not : (P : Type 0) → (may_end ≡ true → n.0 ≢ c.node.0) → P
    ends_not P other = absurd (false≢true (sym (f.ends n alive other) ∙ possible.2))

    by : (n.0 ≡ c.node.0) ⊎ (n.0 ≢ c.node.0) → (may_end ≡ true) ⊎ (may_end ≡ false)
        → (may_end ≡ true) × (is_alive_at s c.node ≡ true) × (t ≡ made (move.End c.node) s)
    by (inl same) (inl may) =
        let one : n ≡ c.node = same_node n c.node same in
        (may, ap (is_alive_at s) (sym one) ∙ alive, is ∙ ap (λ (k : Node). made (move.End k) s) one)
    by (inl same) (inr never) = ends_not _ (λ may. absurd (false≢true (sym never ∙ may)))
    by (inr other) may = ends_not _ (λ x. other)

-- ---- so there is one order

pub first_orderly : {lives : Node → ℕ} {c : Call} {may_end : Bool} (e : Envelope) (s : SystemView) → Waits lives c may_end (e ∷ []) s
    → IsOrderly (arrived e.to e.message (without s [])) → IsOrderly s
first_orderly e s f order p t u reaches to_t to_u =
    from_first s p reaches (arrived e.to e.message (without s [])) (λ q one. first_moves e s q f one) order t u to_t to_u

-- where the end of its node can't come
none_behind : {lives : Node → ℕ} {c : Call} {may_end : Bool} (s p t : SystemView) → Reaches s p → Waits lives c may_end [] s
    → (may_end ≡ true → is_alive_at s c.node ≡ false) → Delivers p t → ⊥
none_behind _ _ t (here s) f never one =
    let so = last_moves s t f one in
    false≢true (sym (never so.0) ∙ so.1)
none_behind _ _ t (behind_one s q p first rest) f never one =
    let so = last_moves s q f first in
    absurd (false≢true (sym (never so.0) ∙ so.1))

pub none_orderly : {lives : Node → ℕ} {c : Call} {may_end : Bool} (s : SystemView) → Waits lives c may_end [] s
    → (may_end ≡ true → is_alive_at s c.node ≡ false) → IsOrderly s
none_orderly s f never p t u reaches to_t to_u = absurd (none_behind s p t reaches f never to_t)

-- where it can, and nothing comes of that
pub end_orderly : {lives : Node → ℕ} {c : Call} {may_end : Bool} (s : SystemView) → Waits lives c may_end [] s
    → IsOrderly (made (move.End c.node) s) → IsOrderly s
end_orderly {c = c} s f order p t u reaches to_t to_u =
    from_first s p reaches (made (move.End c.node) s) (λ q one. (last_moves s q f one).2) order t u to_t to_u

-- ---- where its node is down, a message is lost

pub lost : {lives : Node → ℕ} {c : Call} {may_end : Bool} {l : List Envelope} (to : Process) (m : Message) (s : SystemView)
    → Waits lives c may_end l s → is_alive_at s to.node ≡ false → Waits lives c may_end [] (arrived to m (without s []))
lost {lives} {c} {may_end} to m s f dead = subst (Waits lives c may_end []) (sym (arrives_dead to m (without s []) dead)) (taken_from s f)

-- ---- the call is answered

pub answered : {lives : Node → ℕ} {c : Call} {may_end : Bool} {l : List Envelope} (o : Outcome) (s : SystemView)
    → Waits lives c may_end l s → is_known o ≡ false → Waits lives c may_end [] (arrived (process_of c) (message.Answer o) (without s []))
answered {lives} {c} {may_end} o s f known = by (cases_Bool (is_alive_at s c.node))
  where
    q : SystemView
    q = without s []

    g : Waits lives c may_end [] q
    g = taken_from s f

    over : Waits lives c may_end [] (answered_in c o q)
    over = record {
      messages = refl;
      slow = g.slow;
      dists = g.dists;
      ends = g.ends;
      later = g.later;
      listed = g.listed;
      same_lives = g.same_lives;
      stage = stage.Done o;
      calls = refl;
      waits = λ call x. refl;
      life = g.life;
      locks = g.locks;
    }

    by : (is_alive_at s c.node ≡ true) ⊎ (is_alive_at s c.node ≡ false)
        → Waits lives c may_end [] (arrived (process_of c) (message.Answer o) q)
    by (inl alive) =
        subst (Waits lives c may_end [])
        (sym (answered_so c g.stage o q g.calls g.locks known alive (g.same_lives c.node ∙ sym g.life))) over
    by (inr dead) = lost (process_of c) (message.Answer o) s f dead

-- ---- its node has done something for itself

-- it is in the same life, as far as it was, and its dist_ac does nothing, if it has one
pub record Writes (s : SystemView) (n : Node) (new : LiveView) : Type 0 where
  pub there : live_at s n ≡ Some (node_at s n)
  pub life : new.life ≡ (node_at s n).life
  pub phase : new.phase ≡ (node_at s n).phase
  pub rest : (d : DistView) → new.dist ≡ Some d → IsUnoccupied d

pub alive_still : {n : Node} {new : LiveView} (s : SystemView) (k : Node) → Writes s n new
    → is_alive_at (with_node n new s) k ≡ is_alive_at s k
alive_still {n} {new} s k w = same_of_all is_alive s n k new (ap (λ (p : Phase). cond (is_down p) false true) w.phase)

pub waits_on : {lives : Node → ℕ} {c : Call} {before : Bool} {l : List Envelope} (may_end : Bool) (more : List Envelope)
    (timers : List Timer) (events : List Event) (new : LiveView) (s t : SystemView) → Waits lives c before l s → Writes s c.node new
    → (may_end ≡ false → (is_ending new && (s.ends_soon || not new.is_stopped)) ≡ false)
    → t ≡ record (with_node c.node new s) { messages = more; timers = timers; events = events }
    → Waits lives c may_end more t
waits_on {lives} {c} may_end more timers events new s t f w ends is = subst (Waits lives c may_end more) (sym is) (record {
  messages = refl;
  slow = f.slow;
  dists = λ k d alive has. rests k d (sym (alive_still s k w) ∙ alive) has (cases_eq k.0 c.node.0);
  ends = λ k alive other. to_end k (sym (alive_still s k w) ∙ alive) other (cases_eq k.0 c.node.0);
  later = f.later;
  listed = λ k among. alive_still s k w ∙ f.listed k among;
  same_lives = λ k. same_of_all (λ (v : LiveView). v.life) s c.node k new w.life ∙ f.same_lives k;
  stage = f.stage;
  calls = f.calls;
  waits = f.waits;
  life = f.life;
  locks = f.locks;
})
  where
    written : SystemView
    written = with_node c.node new s

    rests : (k : Node) (d : DistView) → is_alive_at s k ≡ true → (node_at written k).dist ≡ Some d
        → (k.0 ≡ c.node.0) ⊎ (k.0 ≢ c.node.0) → IsUnoccupied d
    rests k d alive has (inl same) =
        w.rest d (sym (ap (λ (v : LiveView). v.dist)
        (same_number written k c.node same ∙ node_written s c.node (node_at s c.node) new w.there)) ∙ has)
    rests k d alive has (inr apart) =
        f.dists k d alive (sym (ap (λ (v : LiveView). v.dist) (others_same s c.node k new apart)) ∙ has)

    ends_in : LiveView → Bool
    ends_in v = is_ending v && (s.ends_soon || not v.is_stopped)

    must_not : (k : Node) → k.0 ≡ c.node.0 → (may_end ≡ true → k.0 ≢ c.node.0) → may_end ≡ false
    must_not k same other = false_from_ne_true may_end (λ may. other may same)

    to_end : (k : Node) → is_alive_at s k ≡ true → (may_end ≡ true → k.0 ≢ c.node.0) → (k.0 ≡ c.node.0) ⊎ (k.0 ≢ c.node.0)
        → is_to_end k written ≡ false
    to_end k alive other (inl same) =
        ap ends_in (same_number written k c.node same ∙ node_written s c.node (node_at s c.node) new w.there)
        ∙ ends (must_not k same other)
    to_end k alive other (inr apart) = ap ends_in (others_same s c.node k new apart) ∙ f.ends k alive (λ x. apart)
