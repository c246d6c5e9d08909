-- Live nodes where a call waits that may have a lock of `global`: they are at rest as those are where no call has one (`Waits`), but for
-- locks, which nothing reads then.
use Rattle.std.proofs.Common.{◌≡◌, ◌≢◌, ◌⊎◌, ◌++◌, ◌+◌, ◌^◌, ◌&&◌, ℕ, Bool, true, false, cond, nat_lt, List, [], ◌∷◌, slice_get, Some, refl, sym, ap, subst, ◌∙◌, inl, inr}
use Rattle.std.specs.Prelude.{All}
use Rattle.std.proofs.lemmas.Bool.{cases_Bool, cases_eq, false≢true}
use Rattle.std.proofs.lemmas.List.Elements.{All-nil, All-head, All-tail}
use Rattle.rh_model.specs.declared.node.Node.{Node}
use Rattle.rh_otp_model.specs.declared.message.Message.{Message}
use Rattle.rh_otp_model.specs.declared.message.Message.TheVariants as message
use Rattle.rh_otp_model.specs.declared.output.Envelope.{Envelope}
use Rattle.rh_otp_model.specs.declared.output.Event.{Event}
use Rattle.rh_otp_model.specs.declared.output.Event.TheVariants as event
use Rattle.rh_otp_model.specs.declared.output.Output.{Output}
use Rattle.rh_otp_model.specs.declared.process.Role.TheVariants as role
use Rattle.rh_otp_controller.specs.Changes.{received}
use Rattle.rh_otp_controller.specs.Ending.{stop_each}
use Rattle.rh_otp_controller.specs.State.{TurnView}
use Rattle.rh_otp_net.specs.declared.timers.Timer.{Timer}
use Rattle.rh_otp_node.specs.Live.{LiveView}
use Rattle.rh_otp_node.specs.Turns.{controlled_by, terminated_by}
use Rattle.rh_otp_system.specs.declared.calls.Call.{Call}
use Rattle.rh_otp_system.specs.declared.moves.Move.TheVariants as move
use Rattle.rh_otp_system.specs.Calling.{can_go_on}
use Rattle.rh_otp_system.specs.Calls.{process_of}
use Rattle.rh_otp_system.specs.Delivering.{arrived}
use Rattle.rh_otp_system.specs.Ending.{ended, stopped}
use Rattle.rh_otp_system.specs.Moves.{Delivers, Reaches, IsAmong, here, behind_one, can_call, can_go_on_at, is_awake, made}
use Rattle.rh_otp_system.specs.Outputs.{all_carried_out}
use Rattle.rh_otp_system.specs.Sending.{told, after}
use Rattle.rh_otp_system.specs.State.{SystemView, node_at, with_node, is_alive_at, process_in}
use Rattle.rh_otp_orders.specs.Confluence.{IsOrderly}
use Rattle.rh_otp_orders.proofs.Taking.{Taken}
use Rattle.rh_otp_crashes.proofs.Crossing.{same_node}
use Rattle.rh_otp_crashes.proofs.Peace.{AtPeace, AtEase, without, arrives_alive, is_free_at_ease, no_lock_at, no_place}
use Rattle.rh_otp_stops.proofs.Answering.{cannot_call, the_one}
use Rattle.rh_otp_stops.proofs.Still.{Come, uncalled, only_come}
use Rattle.rh_otp_stops.proofs.Stop.{turn_at, from_first, only_first}
use Rattle.rh_otp_starts.proofs.Alone.{Waits, Writes, taken_from, waits_on}
use Rattle.rh_otp_starts.proofs.Parting.{message_comes}
use Rattle.rh_otp_starts.proofs.Turns as turns
use Rattle.rh_otp_starts.proofs.Turns.{IsSaid, sends, shows, stops, Turn, controller_of, stops_each, stopped_waits}

-- the same where nobody has a lock
abbrev pub unlocked : SystemView → SystemView
unlocked s = record s { locks = [] }

-- All is as where no call has a lock, and the command doesn't wait for nodes that end by themselves.
pub record Holds (lives : Node → ℕ) (c : Call) (may_end : Bool) (l : List Envelope) (s : SystemView) : Type 0 where
  pub waits : Waits lives c may_end l (unlocked s)
  pub soon : s.ends_soon ≡ false

-- where its message has been taken
pub left_of : {lives : Node → ℕ} {c : Call} {may_end : Bool} {l : List Envelope} (s : SystemView) → Holds lives c may_end l s
    → Holds lives c may_end [] (without s [])
left_of s f = record { waits = taken_from (unlocked s) f.waits; soon = f.soon }

-- ---- what moves

-- where there is one message, it arrives
pub first_orderly : (e : Envelope) (s : SystemView) → s.messages ≡ e ∷ [] → IsOrderly (arrived e.to e.message (without s [])) → IsOrderly s
first_orderly e s one order p t u reaches to_t to_u = from_first s p reaches next comes order t u to_t to_u
  where
    next : SystemView
    next = arrived e.to e.message (without s [])

    some : s.messages ≡ [] → ⊥
    some none = false≢true (ap is_none (sym one ∙ none))
      where
        is_none : List Envelope → Bool
        is_none [] = true
        is_none (x ∷ l) = false

    comes : (q : SystemView) → Delivers s q → q ≡ next
    comes q to_q =
        let come : Come s q = message_comes s q some to_q in
        let so : (e ≡ come.message) × (come.left ≡ []) =
        only_first e come.message come.left (subst (λ (l : List Envelope). Taken come.message l come.left) one come.taken) in
        come.is ∙ (λ i. arrived (sym so.0 i).to (sym so.0 i).message (without s (so.1 i)))

-- no dist_ac goes on with a lock
no_lock : {lives : Node → ℕ} {c : Call} {may_end : Bool} {l : List Envelope} (n : Node) (s : SystemView) → Holds lives c may_end l s
    → IsAmong n s.alive → can_go_on_at n s ≡ false
no_lock n s f among =
    no_lock_at n s (node_at s n).dist (λ d has. is_free_at_ease d (f.waits.dists n d (f.waits.listed n among) has))

-- nor does the call by itself
no_call : {lives : Node → ℕ} {c : Call} {may_end : Bool} {l : List Envelope} (s : SystemView) → Holds lives c may_end l s
    → (place : ℕ) (call : Call) → slice_get s.calls place ≡ Some call → can_call call s ≡ false
no_call {c = c} s f = cannot_call c f.waits.stage s f.waits.waits f.waits.calls

-- where there is none, its node may go on to its end
last_moves : {lives : Node → ℕ} {c : Call} {may_end : Bool} (s t : SystemView) → Holds lives c may_end [] s → Delivers s t
    → (may_end ≡ true) × (is_alive_at s c.node ≡ true) × (t ≡ made (move.End c.node) s)
last_moves s t f (move.Deliver place, possible, is) = absurd (no_place s.messages place f.waits.messages possible)
last_moves s t f (move.Slow place, possible, is) = absurd (no_place s.slow place f.waits.slow possible.1)
last_moves s t f (move.Lock n, possible, is) = absurd (false≢true (sym (no_lock n s f possible.1) ∙ possible.2))
last_moves s t f (move.Call place, possible, is) =
    absurd (false≢true (sym (no_call s f place possible.1.0 possible.1.1) ∙ possible.1.2))
last_moves {lives} {c} {may_end} s t f (move.End n, possible, is) = by (cases_eq n.0 c.node.0) (cases_Bool may_end)
  where
    alive : is_alive_at s n ≡ true
    alive = f.waits.listed n possible.1

    ends_not : (P : Type 0) → (may_end ≡ true → n.0 ≢ c.node.0) → P
    ends_not P other = absurd (false≢true (sym (f.waits.ends n alive other) ∙ possible.2))

    by : (n.0 ≡ c.node.0) ⊎ (n.0 ≢ c.node.0) → (may_end ≡ true) ⊎ (may_end ≡ false)
        → (may_end ≡ true) × (is_alive_at s c.node ≡ true) × (t ≡ made (move.End c.node) s)
    by (inl same) (inl may) =
        let one : n ≡ c.node = same_node n c.node same in
        (may, ap (is_alive_at s) (sym one) ∙ alive, is ∙ ap (λ (k : Node). made (move.End k) s) one)
    by (inl same) (inr never) = ends_not _ (λ may. absurd (false≢true (sym never ∙ may)))
    by (inr other) may = ends_not _ (λ x. other)

-- where that can't come, nothing moves
none_behind : {lives : Node → ℕ} {c : Call} {may_end : Bool} (s p t : SystemView) → Reaches s p → Holds lives c may_end [] s
    → (may_end ≡ true → is_alive_at s c.node ≡ false) → Delivers p t → ⊥
none_behind _ _ t (here s) f never one =
    let so = last_moves s t f one in
    false≢true (sym (never so.0) ∙ so.1)
none_behind _ _ t (behind_one s q p first rest) f never one =
    let so = last_moves s q f first in
    absurd (false≢true (sym (never so.0) ∙ so.1))

-- so there is but one order
none_orderly : {lives : Node → ℕ} {c : Call} {may_end : Bool} (s : SystemView) → Holds lives c may_end [] s
    → (may_end ≡ true → is_alive_at s c.node ≡ false) → IsOrderly s
none_orderly s f never p t u reaches to_t to_u = absurd (none_behind s p t reaches f never to_t)

-- where nothing moves at all, as the call can't go on now
stuck : {K : Envelope → Type 0} {lives : Node → ℕ} (s t : SystemView) → AtPeace AtEase K lives (uncalled s) → s.messages ≡ []
    → ((place : ℕ) (call : Call) → slice_get s.calls place ≡ Some call → can_call call s ≡ false) → Delivers s t → ⊥
stuck s t f none waits one =
    let come : Come s t = only_come s t f waits one in
    subst (λ (l : List Envelope). Taken come.message l come.left) none come.taken

-- nor anything behind it
stuck_behind : {K : Envelope → Type 0} {lives : Node → ℕ} (s p t : SystemView) → Reaches s p → AtPeace AtEase K lives (uncalled s)
    → s.messages ≡ [] → ((place : ℕ) (call : Call) → slice_get s.calls place ≡ Some call → can_call call s ≡ false) → Delivers p t → ⊥
stuck_behind _ _ t (here s) f none waits one = stuck s t f none waits one
stuck_behind _ _ t (behind_one s q p first rest) f none waits one = stuck s q f none waits first

-- what is so only of both isn't so
neither : (b : Bool) → (b && false) ≡ false
neither true = refl
neither false = refl

-- the one call can't
pub stuck_orderly : {K : Envelope → Type 0} {lives : Node → ℕ} (c : Call) (s : SystemView) → AtPeace AtEase K lives (uncalled s)
    → s.messages ≡ [] → s.calls ≡ c ∷ [] → can_go_on c s ≡ false → IsOrderly s
stuck_orderly c s f none one cannot p t u reaches to_t to_u = absurd (stuck_behind s p t reaches f none waits to_t)
  where
    waits : (place : ℕ) (call : Call) → slice_get s.calls place ≡ Some call → can_call call s ≡ false
    waits place call there =
        subst (λ (k : Call). can_call k s ≡ false)
        (the_one c call place (sym (ap (λ (l : List Call). slice_get l place) one) ∙ there))
        (ap (λ (b : Bool). is_awake (process_of c) s && b) cannot ∙ neither (is_awake (process_of c) s))

-- ---- what a controller says reads no lock

-- what it sends and shows is the same without locks, and leaves alone what the command waits for
says_unlocked : (n : Node) (outs : List Output) (s : SystemView) → All (IsSaid n) outs
    → (all_carried_out n outs (unlocked s) ≡ unlocked (all_carried_out n outs s)) × ((all_carried_out n outs s).ends_soon ≡ s.ends_soon)
unfolding told
says_unlocked n [] s said = (refl, refl)
says_unlocked n (o ∷ outs) s said =
    by o (All-head (IsSaid n) o outs said) (λ q. says_unlocked n outs q (All-tail (IsSaid n) o outs said))
  where
    Keeps : List Output → SystemView → Type 0
    Keeps l q = (all_carried_out n l (unlocked q) ≡ unlocked (all_carried_out n l q)) × ((all_carried_out n l q).ends_soon ≡ q.ends_soon)

    by : (x : Output) → IsSaid n x → ((q : SystemView) → Keeps outs q) → Keeps (x ∷ outs) s
    by _ (sends e) rest = rest (record s { messages = s.messages ++ e ∷ [] })
    by _ (shows a kind) rest = rest (told (event.Started a n kind) s)
    by _ (stops a) rest = rest (told (event.Stopped a n) s)

-- ---- a controller's turn

-- what it comes to: so the controller stands behind it, and these messages are on their way
pub record Behind (lives : Node → ℕ) (c : Call) (u : TurnView) (l : List Envelope) (t s : SystemView) : Type 0 where
  pub still : Holds lives c true l t
  pub alive : is_alive_at t c.node ≡ true
  pub turn : turn_at t c.node ≡ record (turn_at s c.node) { state = u.state }
  pub dist : (node_at t c.node).dist ≡ (node_at s c.node).dist
  pub links : t.links ≡ s.links
  pub awake : (n : Node) → is_alive_at t n ≡ is_alive_at s n

-- one message at a time is on its way, and the controller takes it
pub takes_turn : {lives : Node → ℕ} {c : Call} {l more : List Envelope} (life : ℕ) (m : Message) (s : SystemView)
    → Holds lives c true l s → lives c.node ≡ life → is_alive_at s c.node ≡ true
    → Turn c.node (received m (turn_at s c.node)) more
    → Behind lives c (received m (turn_at s c.node)) more (arrived (controller_of c.node life) m (without s [])) s
unfolding controlled_by
takes_turn {lives} {c} {l} {more} life m s f same alive turn = record {
  still = record { waits = b.still; soon = ap (λ (x : SystemView). x.ends_soon) comes ∙ keeps.1 ∙ f.soon };
  alive = b.alive;
  turn = b.turn;
  dist = b.dist;
  links = b.links;
  awake = b.awake;
}
  where
    n : Node
    n = c.node

    q : SystemView
    q = without s []

    u : TurnView
    u = received m (turn_at s n)

    t : SystemView
    t = arrived (controller_of n life) m q

    written : SystemView
    written = with_node n (record (node_at s n) { controller = u.state }) q

    keeps : (all_carried_out n u.out (unlocked written) ≡ unlocked (all_carried_out n u.out written))
        × ((all_carried_out n u.out written).ends_soon ≡ written.ends_soon)
    keeps = says_unlocked n u.out written turn.said

    comes : t ≡ all_carried_out n u.out written
    comes = arrives_alive (controller_of n life) m q alive (f.waits.same_lives n ∙ same)

    so : arrived (controller_of n life) m (unlocked q) ≡ unlocked t
    so =
        arrives_alive (controller_of n life) m (unlocked q) alive (f.waits.same_lives n ∙ same) ∙ keeps.0 ∙ ap unlocked (sym comes)

    b : turns.Behind lives c u more (unlocked t) (unlocked s)
    b = subst (λ (x : SystemView). turns.Behind lives c u more x (unlocked s)) so
        (turns.takes_turn life m (unlocked s) f.waits same alive turn)

-- ---- a node goes on to its end

-- the timer of its end is set whatever the locks are
later_so : (n : Node) (s : SystemView) → (after 1500 (process_in s n role.System) message.Ends (unlocked s)
    ≡ unlocked (after 1500 (process_in s n role.System) message.Ends s))
    × ((after 1500 (process_in s n role.System) message.Ends s).ends_soon ≡ s.ends_soon)
unfolding after
later_so n s = by (nat_lt (s.clock + 1500) (2 ^ 64))
  where
    set : SystemView → SystemView
    set x = record x {
      timers = s.timers ++ record { due = s.clock + 1500; step = s.step; to = process_in s n role.System; message = message.Ends } ∷ [];
    }

    by : (b : Bool) → (cond b (set (unlocked s)) (unlocked s) ≡ unlocked (cond b (set s) s)) × ((cond b (set s) s).ends_soon ≡ s.ends_soon)
    by true = (refl, refl)
    by false = (refl, refl)

-- so all that it stops reads no lock
stops_unlocked : (n : Node) (s : SystemView) → (stopped n (unlocked s) ≡ unlocked (stopped n s)) × ((stopped n s).ends_soon ≡ s.ends_soon)
unfolding stopped terminated_by
stops_unlocked n s =
    let u : TurnView = stop_each (node_at s n).controller.running (turn_at s n) in
    let written : SystemView = with_node n (record (node_at s n) { controller = u.state; is_stopped = true }) s in
    let over : SystemView = all_carried_out n u.out written in
    let keeps = says_unlocked n u.out written
    (stops_each n (node_at s n).controller.running (turn_at s n) refl (All-nil (IsSaid n))).0 in (
      ap (λ (x : SystemView). after 1500 (process_in x n role.System) message.Ends x) keeps.0 ∙ (later_so n over).0,
      (later_so n over).1 ∙ keeps.1,
    )

-- and all is at rest then
ends_so : {lives : Node → ℕ} {c : Call} {may_end : Bool} (s : SystemView) → Holds lives c may_end [] s → may_end ≡ true
    → is_alive_at s c.node ≡ true → Holds lives c false [] (made (move.End c.node) s)
unfolding made
ends_so {lives} {c} s f may alive = record {
  waits = subst (Waits lives c false []) (at_end (unlocked s) f.soon ∙ (stops_unlocked n s).0 ∙ ap unlocked (sym (at_end s f.soon)))
      (stopped_waits (unlocked s) f.waits may alive f.soon);
  soon = ap (λ (x : SystemView). x.ends_soon) (at_end s f.soon) ∙ (stops_unlocked n s).1 ∙ f.soon;
}
  where
    n : Node
    n = c.node

    at_end : (x : SystemView) → x.ends_soon ≡ false → made (move.End n) x ≡ stopped n x
    at_end x later = ap (λ (b : Bool). cond b (ended n x) (stopped n x)) later

-- where nothing is on its way
pub quiet_orderly : {lives : Node → ℕ} {c : Call} {may_end : Bool} (s : SystemView) → Holds lives c may_end [] s → IsOrderly s
quiet_orderly {lives} {c} {may_end} s f = by (cases_Bool may_end) (cases_Bool (is_alive_at s c.node))
  where
    end : SystemView
    end = made (move.End c.node) s

    by : (may_end ≡ true) ⊎ (may_end ≡ false) → (is_alive_at s c.node ≡ true) ⊎ (is_alive_at s c.node ≡ false) → IsOrderly s
    by (inl may) (inl alive) =
        λ p t u reaches to_t to_u.
        from_first s p reaches end (λ q one. (last_moves s q f one).2)
        (none_orderly end (ends_so s f may alive) (λ x. absurd (false≢true x))) t u to_t to_u
    by (inl may) (inr dead) = none_orderly s f (λ x. dead)
    by (inr never) other = none_orderly s f (λ may. absurd (false≢true (sym never ∙ may)))

-- ---- its node has done something for itself

-- all else stays at rest
pub holds_on : {lives : Node → ℕ} {c : Call} {l : List Envelope} (more : List Envelope) (timers : List Timer) (events : List Event)
    (new : LiveView) (s t : SystemView) → Holds lives c true l s → Writes (unlocked s) c.node new
    → t ≡ record (with_node c.node new s) { messages = more; timers = timers; events = events } → Holds lives c true more t
holds_on more timers events new s t f writes is = record {
  waits = waits_on true more timers events new (unlocked s) (unlocked t) f.waits writes (λ never. absurd (false≢true (sym never)))
      (ap unlocked is);
  soon = ap (λ (x : SystemView). x.ends_soon) is ∙ f.soon;
}
