-- Live nodes where a call waits that can't go on by itself, with its lock, and its node's dist_ac keeps it until another node has started
-- the application, or has failed to, by which that one may have to go on to its end.
use Rattle.std.proofs.Common.{◌≡◌, ◌≢◌, ◌⊎◌, ◌+◌, ◌++◌, ◌^◌, ◌&&◌, ◌||◌, ℕ, Bool, true, false, not, cond, nat_lt, List, [], ◌∷◌, Some, refl, sym, ap, subst, ◌∙◌, inl, inr}
use Rattle.std.specs.Prelude.{All}
use Rattle.std.proofs.lemmas.Bool.{cases_Bool, cases_eq, false≢true}
use Rattle.std.proofs.lemmas.List.Elements.{All-nil}
use Rattle.rh_model.specs.declared.node.Node.{Node}
use Rattle.rh_otp_model.specs.declared.message.Message.{Message}
use Rattle.rh_otp_model.specs.declared.message.Message.TheVariants as message
use Rattle.rh_otp_model.specs.declared.output.Envelope.{Envelope}
use Rattle.rh_otp_model.specs.declared.output.Event.{Event}
use Rattle.rh_otp_model.specs.declared.output.Output.{Output}
use Rattle.rh_otp_model.specs.declared.process.Role.TheVariants as role
use Rattle.rh_otp_controller.specs.Ending.{stop_each}
use Rattle.rh_otp_controller.specs.State.{TurnView as ControllerTurn}
use Rattle.rh_otp_dist.specs.declared.outside.Need.TheVariants as need
use Rattle.rh_otp_dist.specs.declared.state.Stand.TheVariants as stand
use Rattle.rh_otp_dist.specs.Attempts.{has_app}
use Rattle.rh_otp_dist.specs.Outside.{with_message, idle_need}
use Rattle.rh_otp_dist.specs.Received as mail
use Rattle.rh_otp_dist.specs.State.{DistView, TurnView}
use Rattle.rh_otp_dist.specs.Views.{PermitWaitView}
use Rattle.rh_otp_net.specs.declared.timers.Timer.{Timer}
use Rattle.rh_otp_node.specs.declared.node.Phase.{Phase}
use Rattle.rh_otp_node.specs.Live.{LiveView, is_alive, is_down, is_ending}
use Rattle.rh_otp_node.specs.Turns.{terminated_by}
use Rattle.rh_otp_system.specs.declared.calls.Call.{Call}
use Rattle.rh_otp_system.specs.declared.calls.Stage.{Stage}
use Rattle.rh_otp_system.specs.declared.moves.Move.TheVariants as move
use Rattle.rh_otp_system.specs.Calls.{process_of}
use Rattle.rh_otp_system.specs.Ending.{ended, stopped}
use Rattle.rh_otp_system.specs.Moves.{Delivers, Reaches, IsAmong, here, behind_one, is_to_end, made}
use Rattle.rh_otp_system.specs.Sending.{after}
use Rattle.rh_otp_system.specs.State.{SystemView, live_at, node_at, with_node, is_alive_at, process_in}
use Rattle.rh_otp_system.specs.Working as working
use Rattle.rh_otp_laws.proofs.Nodes.{node_written, others_same, same_number, same_of_all}
use Rattle.rh_otp_orders.specs.Confluence.{IsOrderly}
use Rattle.rh_otp_crashes.specs.Crashes.{IsUnoccupied}
use Rattle.rh_otp_crashes.proofs.Carrying.{letters}
use Rattle.rh_otp_crashes.proofs.Crossing.{same_node}
use Rattle.rh_otp_crashes.proofs.Peace.{IsFree, is_free_at_ease, no_lock_at, no_place, without}
use Rattle.rh_otp_crashes.proofs.Turning.{own_in, turn, turned_by, weighing, idle, mailed_to, works_idle, works_on}
use Rattle.rh_otp_stops.proofs.Answering.{at_stage, CannotGoOn, cannot_call}
use Rattle.rh_otp_stops.proofs.Saying.{sights}
use Rattle.rh_otp_stops.proofs.Stop.{from_first, turn_at}
use Rattle.rh_otp_stops.proofs.Stopping.{there_is}
use Rattle.rh_otp_moves.specs.Moving.{NotesIt}
use Rattle.rh_otp_moves.proofs.Others.{IsOther}
use Rattle.rh_otp_starts.proofs.Turns.{IsSaid, Carried, carries_said, stops_each, timed_by}

-- the call waits at its node's dist_ac, which takes whatever comes, for the start of the application elsewhere
pub record IsHeldUp (c : Call) (d : DistView) : Type 0 where
  pub idle : d.stand ≡ stand.Idle
  pub mail : d.mail ≡ []
  pub parked : d.parked ≡ []
  pub started : has_app c.app d.started ≡ true
  pub wait : PermitWaitView
  pub caller : wait.caller ≡ process_of c
  pub rows : d.p_reqs ≡ (c.app, wait) ∷ []

-- all others do nothing
abbrev pub Stands : Call → Node → DistView → Type 0
Stands c n d = IsUnoccupied d ⊎ ((n.0 ≡ c.node.0) × IsHeldUp c d)

-- There is the one call, which can't go on by itself, and all else is at rest, but for the messages on their way, and that the node which
-- takes the application over (`m`) may have to go on to its end. The command doesn't wait for that. The others that are told take no part.
pub record Holding (lives : Node → ℕ) (c : Call) (m : Node) (told : List Node) (s : SystemView) : Type 0 where
  pub slow : s.slow ≡ []
  pub soon : s.ends_soon ≡ false
  pub dists : (n : Node) (d : DistView) → is_alive_at s n ≡ true → (node_at s n).dist ≡ Some d → Stands c n d
  pub ends : (n : Node) → is_alive_at s n ≡ true → n.0 ≢ m.0 → is_to_end n s ≡ false
  pub among : (n : Node) → IsAmong n s.alive → is_alive_at s n ≡ true
  pub same_lives : (n : Node) → (node_at s n).life ≡ lives n
  pub stage : Stage
  pub calls : s.calls ≡ at_stage c stage ∷ []
  pub waits : CannotGoOn stage
  pub life : c.life ≡ lives c.node
  pub tame : (j : Node) (d : DistView) → IsOther c m told j → is_alive_at s j ≡ true → (node_at s j).dist ≡ Some d
      → NotesIt (own_in s.files j) j c.app d

pub holding_left : {lives : Node → ℕ} {c : Call} {m : Node} {told : List Node} (s : SystemView) (left : List Envelope)
    → Holding lives c m told s
    → Holding lives c m told (without s left)
holding_left s left f = record {
  slow = f.slow;
  soon = f.soon;
  dists = f.dists;
  ends = f.ends;
  among = f.among;
  same_lives = f.same_lives;
  stage = f.stage;
  calls = f.calls;
  waits = f.waits;
  life = f.life;
  tame = f.tame;
}

-- ---- what moves

is_free : (c : Call) (n : Node) (d : DistView) → Stands c n d → IsFree d
is_free c n d (inl free) = is_free_at_ease d free
is_free c n d (inr held) = record { lock = ap working.lock_of held.1.idle; parked = held.1.parked }

-- where nothing is on its way, that node may go on to its end
last_moves : {lives : Node → ℕ} {c : Call} {m : Node} {told : List Node} (s t : SystemView) → Holding lives c m told s → s.messages ≡ []
    → Delivers s t
    → (is_alive_at s m ≡ true) × (is_to_end m s ≡ true) × (t ≡ made (move.End m) s)
last_moves s t f none (move.Deliver place, possible, is) = absurd (no_place s.messages place none possible)
last_moves s t f none (move.Slow place, possible, is) = absurd (no_place s.slow place f.slow possible.1)
last_moves {c = c} s t f none (move.Lock n, possible, is) =
    absurd (false≢true (sym (no_lock_at n s (node_at s n).dist (λ d has. is_free c n d (f.dists n d (f.among n possible.1) has)))
    ∙ possible.2))
last_moves {c = c} s t f none (move.Call place, possible, is) =
    absurd (false≢true (sym (cannot_call c f.stage s f.waits f.calls place possible.1.0 possible.1.1) ∙ possible.1.2))
last_moves {m = m} s t f none (move.End n, possible, is) =
    elim (cases_eq n.0 m.0) [
      | inl same ↦ let one : n ≡ m = same_node n m same in (
        ap (is_alive_at s) (sym one) ∙ f.among n possible.1,
        ap (λ (j : Node). is_to_end j s) (sym one) ∙ possible.2,
        is ∙ ap (λ (j : Node). made (move.End j) s) one,
      )
      | inr other ↦ absurd (false≢true (sym (f.ends n (f.among n possible.1) other) ∙ possible.2))
    ]

-- where it hasn't to, nothing moves
none_behind : {lives : Node → ℕ} {c : Call} {m : Node} {told : List Node} (s p t : SystemView) → Reaches s p → Holding lives c m told s
    → s.messages ≡ []
    → (is_alive_at s m ≡ true → is_to_end m s ≡ false) → Delivers p t → ⊥
none_behind _ _ t (here s) f none never one =
    let so = last_moves s t f none one in
    false≢true (sym (never so.0) ∙ so.1)
none_behind _ _ t (behind_one s q p first rest) f none never one =
    let so = last_moves s q f none first in
    false≢true (sym (never so.0) ∙ so.1)

none_orderly : {lives : Node → ℕ} {c : Call} {m : Node} {told : List Node} (s : SystemView) → Holding lives c m told s → s.messages ≡ []
    → (is_alive_at s m ≡ true → is_to_end m s ≡ false) → IsOrderly s
none_orderly s f none never p t u reaches to_t to_u = absurd (none_behind s p t reaches f none never to_t)

-- ---- a node does something for itself

-- It stands so behind it, in the same life. Only the one that takes the application over may have to end by it.
pub record Wrote (c : Call) (m : Node) (told : List Node) (j : Node) (s : SystemView) (new : LiveView) : Type 0 where
  pub there : live_at s j ≡ Some (node_at s j)
  pub life : new.life ≡ (node_at s j).life
  pub phase : new.phase ≡ (node_at s j).phase
  pub ending : j.0 ≢ m.0 → is_ending new ≡ is_ending (node_at s j)
  pub stopped : j.0 ≢ m.0 → new.is_stopped ≡ (node_at s j).is_stopped
  pub rest : (d : DistView) → new.dist ≡ Some d → Stands c j d
  pub tame : IsOther c m told j → (d : DistView) → new.dist ≡ Some d → NotesIt (own_in s.files j) j c.app d

pub awake : {c : Call} {m j : Node} {told : List Node} {new : LiveView} (s : SystemView) (k : Node) → Wrote c m told j s new
    → is_alive_at (with_node j new s) k ≡ is_alive_at s k
awake {j = j} {new} s k w = same_of_all is_alive s j k new (ap (λ (p : Phase). cond (is_down p) false true) w.phase)

pub holding_on : {lives : Node → ℕ} {c : Call} {m : Node} {told : List Node} (j : Node) (more : List Envelope) (timers : List Timer)
    (events : List Event)
    (new : LiveView) (s t : SystemView) → Holding lives c m told s → Wrote c m told j s new
    → t ≡ record (with_node j new s) { messages = more; timers = timers; events = events } → Holding lives c m told t
holding_on {lives} {c} {m} {told} j more timers events new s t f w is = subst (Holding lives c m told) (sym is) (record {
  slow = f.slow;
  soon = f.soon;
  dists = λ k d alive has. rests k d (sym (awake s k w) ∙ alive) has (cases_eq k.0 j.0);
  ends = λ k alive other. to_end k (sym (awake s k w) ∙ alive) other (cases_eq k.0 j.0);
  among = λ k is_in. awake s k w ∙ f.among k is_in;
  same_lives = λ k. same_of_all (λ (v : LiveView). v.life) s j k new w.life ∙ f.same_lives k;
  stage = f.stage;
  calls = f.calls;
  waits = f.waits;
  life = f.life;
  tame = λ k d other alive has. tames k d other (sym (awake s k w) ∙ alive) has (cases_eq k.0 j.0);
})
  where
    written : SystemView
    written = with_node j new s

    at_it : (k : Node) → k.0 ≡ j.0 → node_at written k ≡ new
    at_it k same = same_number written k j same ∙ node_written s j (node_at s j) new w.there

    stands : (k : Node) (d : DistView) → k.0 ≡ j.0 → Stands c j d → Stands c k d
    stands k d same (inl free) = inl free
    stands k d same (inr held) = inr (same ∙ held.0, held.1)

    rests : (k : Node) (d : DistView) → is_alive_at s k ≡ true → (node_at written k).dist ≡ Some d
        → (k.0 ≡ j.0) ⊎ (k.0 ≢ j.0) → Stands c k d
    rests k d alive has (inl same) = stands k d same (w.rest d (sym (ap (λ (v : LiveView). v.dist) (at_it k same)) ∙ has))
    rests k d alive has (inr apart) =
        f.dists k d alive (sym (ap (λ (v : LiveView). v.dist) (others_same s j k new apart)) ∙ has)

    tame_at : (k : Node) → j ≡ k → (d : DistView) → IsOther c m told k → (node_at written k).dist ≡ Some d
        → NotesIt (own_in s.files k) k c.app d
    tame_at k one = subst (λ (x : Node). (d : DistView) → IsOther c m told x → (node_at written x).dist ≡ Some d
        → NotesIt (own_in s.files x) x c.app d) one
        (λ d other has. w.tame other d (sym (ap (λ (v : LiveView). v.dist) (at_it j refl)) ∙ has))

    tames : (k : Node) (d : DistView) → IsOther c m told k → is_alive_at s k ≡ true → (node_at written k).dist ≡ Some d
        → (k.0 ≡ j.0) ⊎ (k.0 ≢ j.0) → NotesIt (own_in s.files k) k c.app d
    tames k d other alive has (inl same) = tame_at k (same_node j k (sym same)) d other has
    tames k d other alive has (inr apart) =
        f.tame k d other alive (sym (ap (λ (v : LiveView). v.dist) (others_same s j k new apart)) ∙ has)

    ends_in : LiveView → Bool
    ends_in v = is_ending v && (s.ends_soon || not v.is_stopped)

    to_end : (k : Node) → is_alive_at s k ≡ true → k.0 ≢ m.0 → (k.0 ≡ j.0) ⊎ (k.0 ≢ j.0) → is_to_end k written ≡ false
    to_end k alive other (inl same) =
        let apart : j.0 ≢ m.0 = λ one. other (same ∙ one) in
        ap ends_in (at_it k same)
        ∙ (λ i. w.ending apart i && (s.ends_soon || not (w.stopped apart i)))
        ∙ sym (ap ends_in (same_number s k j same))
        ∙ f.ends k alive other
    to_end k alive other (inr apart) = ap ends_in (others_same s j k new apart) ∙ f.ends k alive other

-- ---- where nothing is on its way

-- what came to its end is to end no more
never_twice : (s : SystemView) (v : LiveView) → s.ends_soon ≡ false → v.is_stopped ≡ true
    → (is_ending v && (s.ends_soon || not v.is_stopped)) ≡ false
never_twice s v soon stopped = (λ i. is_ending v && (soon i || not (stopped i))) ∙ by (is_ending v)
  where
    by : (b : Bool) → (b && false) ≡ false
    by true = refl
    by false = refl

-- all that runs at the node stops, and that is all for now
end_orderly : {lives : Node → ℕ} {c : Call} {m : Node} {told : List Node} (s : SystemView) → Holding lives c m told s → s.messages ≡ []
    → is_alive_at s m ≡ true
    → IsOrderly (made (move.End m) s)
unfolding made stopped terminated_by after
end_orderly {lives} {c} {m} {told} s f none alive =
    none_orderly next (holding_on m [] timers (s.events ++ sights outs) done.new s next f wrote is)
    (ap (λ (x : SystemView). x.messages) is)
    (λ up. ap (λ (x : SystemView). is_to_end m x) is
    ∙ ap (λ (v : LiveView). is_ending v && (s.ends_soon || not v.is_stopped)) (node_written s m old done.new there)
    ∙ never_twice s done.new f.soon done.stopped)
  where
    next : SystemView
    next = made (move.End m) s

    old : LiveView
    old = node_at s m

    there : live_at s m ≡ Some old
    there = there_is s m alive

    u : ControllerTurn
    u = stop_each old.controller.running (turn_at s m)

    outs : List Output
    outs = u.out

    words : All (IsSaid m) outs × (letters outs ≡ [])
    words = stops_each m old.controller.running (turn_at s m) refl (All-nil (IsSaid m))

    done : Carried m s (record old { controller = u.state; is_stopped = true }) outs
    done = carries_said m outs s old (record old { controller = u.state; is_stopped = true }) there words.0

    wrote : Wrote c m told m s done.new
    wrote = record {
      there = there;
      life = done.life;
      phase = done.phase;
      ending = λ other. absurd (other refl);
      stopped = λ other. absurd (other refl);
      rest = λ d has. f.dists m d alive (sym done.dist ∙ has);
      tame = λ other d has. absurd (other.0 refl);
    }

    over : SystemView
    over = record (with_node m done.new s) { messages = s.messages ++ letters outs; events = s.events ++ sights outs }

    later : SystemView → SystemView
    later x = after 1500 (process_in x m role.System) message.Ends x

    timers : List Timer
    timers = cond (nat_lt (s.clock + 1500) (2 ^ 64))
        (s.timers ++ record { due = s.clock + 1500; step = s.step; to = process_in over m role.System; message = message.Ends } ∷ [])
        s.timers

    silent : s.messages ++ letters outs ≡ []
    silent = ap (λ (l : List Envelope). l ++ letters outs) none ∙ words.1

    is : next ≡ record (with_node m done.new s) { messages = []; timers = timers; events = s.events ++ sights outs }
    is =
        ap (λ (b : Bool). cond b (ended m s) (stopped m s)) f.soon
        ∙ ap later done.is
        ∙ timed_by (nat_lt (s.clock + 1500) (2 ^ 64)) _ over
        ∙ (λ i. record over { messages = silent i; timers = timers })

pub quiet_orderly : {lives : Node → ℕ} {c : Call} {m : Node} {told : List Node} (s : SystemView) → Holding lives c m told s
    → s.messages ≡ [] → IsOrderly s
quiet_orderly {m = m} s f none = by (cases_Bool (is_alive_at s m)) (cases_Bool (is_to_end m s))
  where
    by : (is_alive_at s m ≡ true) ⊎ (is_alive_at s m ≡ false) → (is_to_end m s ≡ true) ⊎ (is_to_end m s ≡ false) → IsOrderly s
    by (inl alive) (inl ends) = λ p t u reaches to_t to_u.
        from_first s p reaches (made (move.End m) s) (λ q one. (last_moves s q f none one).2) (end_orderly s f none alive) t u to_t to_u
    by (inr dead) ends = none_orderly s f none (λ alive. absurd (false≢true (sym dead ∙ alive)))
    by (inl alive) (inr never) = none_orderly s f none (λ x. never)

-- ---- a dist_ac that takes whatever comes

-- what it comes to, though somebody waits at it
pub held_comes : (n : Node) (x : Message) (d : DistView) (over : TurnView) (life : ℕ) (s q : SystemView) (v : LiveView)
    → d.stand ≡ stand.Idle → d.mail ≡ [] → idle_need x (with_message x (idle d)) ≡ need.Nothing
    → ((w : ℕ) → mail.handled x (weighing w (turn s.cluster (own_in s.files n) n life d)) ≡ weighing w over)
    → live_at q n ≡ Some v → v.dist ≡ Some d → v.life ≡ life → q.cluster ≡ s.cluster → q.files ≡ s.files
    → working.mailed n x q ≡ turned_by n v over q
held_comes n x d over life s q v is none no_need closed there has same in_cluster in_files =
    let as_idle : v ≡ record v { dist = Some (idle d) } =
    (λ i. record v { dist = (has ∙ ap Some (λ j. record d { stand = is j; mail = none j })) i }) in
    works_on n x q v there
    ∙ ap (λ (y : LiveView). working.work n (mailed_to n x y q)) as_idle
    ∙ works_idle n x q v d over (there ∙ ap Some as_idle) no_need
    (λ w. (λ i. mail.handled x (weighing w (turn (in_cluster i) (own_in (in_files i) n) n (same i) d))) ∙ closed w)
