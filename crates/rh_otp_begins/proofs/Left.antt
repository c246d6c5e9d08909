-- A call that starts an application, where nodes were at rest and the node's dist_ac leaves it to another one.
use Rattle.std.proofs.Common.{◌≡◌, ◌≢◌, ◌⊎◌, ◌++◌, ◌&&◌, ◌||◌, ◌==◌, ℕ, Bool, true, false, not, cond, List, [], ◌∷◌, slice_get, Option, Some, None, refl, sym, ap, subst, ◌∙◌, inl, inr}
use Rattle.std.proofs.lemmas.Bool.{cases_Bool, cases_eq, ne_eqb, false≢true}
use Rattle.std.proofs.lemmas.Option.{none-some, same_Some}
use Rattle.rh_model.specs.declared.node.App.{App}
use Rattle.rh_model.specs.declared.node.Node.{Node}
use Rattle.rh_otp_model.specs.declared.message.Message.{Message}
use Rattle.rh_otp_model.specs.declared.message.Message.TheVariants as message
use Rattle.rh_otp_model.specs.declared.output.Envelope.{Envelope}
use Rattle.rh_otp_model.specs.declared.output.Output.{Output}
use Rattle.rh_otp_model.specs.declared.output.Output.TheVariants as output
use Rattle.rh_otp_model.specs.Own.{OwnView, controls}
use Rattle.rh_otp_controller.specs.declared.state.Starting.{Starting}
use Rattle.rh_otp_controller.specs.State.{TurnView as ControllerTurn}
use Rattle.rh_otp_dist.specs.declared.state.Stand.{Stand}
use Rattle.rh_otp_dist.specs.declared.state.Stand.TheVariants as stand
use Rattle.rh_otp_dist.specs.declared.state.Standing.{Standing}
use Rattle.rh_otp_dist.specs.declared.state.Standing.TheVariants as standing
use Rattle.rh_otp_dist.specs.Attempts.{runs_elsewhere}
use Rattle.rh_otp_dist.specs.Choosing.{places_of, candidates_of, remote, runs_at, is_node, runs_there, is_to_start, start_here, start_distributed, start_unless_local, start_appl, outside, wait}
use Rattle.rh_otp_dist.specs.Outside.{with_message, with_monitor}
use Rattle.rh_otp_dist.specs.Received as mail
use Rattle.rh_otp_dist.specs.Sending.{monitor}
use Rattle.rh_otp_dist.specs.State.{DistView, TurnView, standing_of, is_among}
use Rattle.rh_otp_dist.specs.Told.{is_local}
use Rattle.rh_otp_dist.specs.Views.{AttemptView}
use Rattle.rh_otp_net.specs.declared.locks.Held.{Held}
use Rattle.rh_otp_net.specs.Links.{are_linked}
use Rattle.rh_otp_node.specs.Live.{LiveView, is_alive, is_ending}
use Rattle.rh_otp_system.specs.declared.calls.Ask.TheVariants as ask
use Rattle.rh_otp_system.specs.declared.calls.Call.{Call}
use Rattle.rh_otp_system.specs.declared.moves.Move.TheVariants as move
use Rattle.rh_otp_system.specs.Delivering.{arrived}
use Rattle.rh_otp_system.specs.Doing.{called, call_of}
use Rattle.rh_otp_system.specs.Moves.{Delivers, Reaches, IsAmong, here, behind_one, is_to_end, can_call, can_go_on_at}
use Rattle.rh_otp_system.specs.Outputs.{all_carried_out}
use Rattle.rh_otp_system.specs.State.{SystemView, live_at, node_at, own_at, with_node, is_alive_at}
use Rattle.rh_otp_system.specs.Working as working
use Rattle.rh_otp_system.specs.Working.{lock_of}
use Rattle.rh_otp_laws.proofs.Nodes.{node_written, others_same, same_number, same_of_all}
use Rattle.rh_otp_orders.specs.Confluence.{IsOrderly}
use Rattle.rh_otp_crashes.specs.Crashes.{IsUnoccupied}
use Rattle.rh_otp_crashes.specs.Failovers.{first_of}
use Rattle.rh_otp_crashes.proofs.Peace.{IsFree, here_in, without, arrives_alive, is_free_at_ease, no_lock_at, no_place}
use Rattle.rh_otp_crashes.proofs.Turning.{own_in, turn, idle, none_on, waits_on, still_waits}
use Rattle.rh_otp_crashes.proofs.Waiting.{monitors_it}
use Rattle.rh_otp_locks.proofs.Locks.{none_at_rest}
use Rattle.rh_otp_stops.specs.Stops.{EndsAlike}
use Rattle.rh_otp_stops.proofs.Answering.{cannot_call}
use Rattle.rh_otp_stops.proofs.Stop.{turn_at}
use Rattle.rh_otp_stops.proofs.Stopping.{there_is}
use Rattle.rh_otp_starts.specs.Elsewhere.{asked_attempt, candidates_at}
use Rattle.rh_otp_starts.proofs.Alone.{Waits, taken_from, waits_on as goes_on, first_orderly}
use Rattle.rh_otp_starts.proofs.Asking.{asks_start, it_asks}
use Rattle.rh_otp_starts.proofs.Deciding.{Requesting, call_orderly}
use Rattle.rh_otp_starts.proofs.Requests.{asking, its_lock, request_comes, starts_first, starts_outside}
use Rattle.rh_otp_starts.proofs.Start.{over_before, asked_so, command_alike, starts_alike}
use Rattle.rh_otp_starts.proofs.Turns.{quiet_orderly}
use Rattle.rh_otp_begins.specs.Waiting.{IsLeftTo, StartsLeftEndAlike}

-- ---- where nothing moves

-- Nothing is on its way, no dist_ac of a node that is alive waits for a lock, and no node has to end; and no call goes on by itself.
record IsStill (s : SystemView) : Type 0 where
  messages : s.messages ≡ []
  slow : s.slow ≡ []
  dists : (n : Node) (d : DistView) → is_alive_at s n ≡ true → (node_at s n).dist ≡ Some d → IsFree d
  ends : (n : Node) → is_alive_at s n ≡ true → is_to_end n s ≡ false
  listed : (n : Node) → IsAmong n s.alive → is_alive_at s n ≡ true
  calls : (place : ℕ) (call : Call) → slice_get s.calls place ≡ Some call → can_call call s ≡ false

nothing_moves : (s t : SystemView) → IsStill s → Delivers s t → ⊥
nothing_moves s t f (move.Deliver place, possible, is) = no_place s.messages place f.messages possible
nothing_moves s t f (move.Slow place, possible, is) = no_place s.slow place f.slow possible.1
nothing_moves s t f (move.Lock n, possible, is) =
    let none : can_go_on_at n s ≡ false = no_lock_at n s (node_at s n).dist (λ d has. f.dists n d (f.listed n possible.1) has) in
    false≢true (sym none ∙ possible.2)
nothing_moves s t f (move.Call place, possible, is) = false≢true (sym (f.calls place possible.1.0 possible.1.1) ∙ possible.1.2)
nothing_moves s t f (move.End n, possible, is) = false≢true (sym (f.ends n (f.listed n possible.1)) ∙ possible.2)

from_there : (s p t : SystemView) → Reaches s p → IsStill s → Delivers p t → ⊥
from_there _ _ t (here s) f one = nothing_moves s t f one
from_there _ _ t (behind_one s q p first rest) f one = nothing_moves s q f first

still_orderly : (s : SystemView) → IsStill s → IsOrderly s
still_orderly s f p t u reaches to_t to_u = absurd (from_there s p t reaches f to_t)

-- ---- the dist_ac leaves it to another node

-- it waits for that one, or for any
abbrev waiting_at : Stand → DistView → DistView
waiting_at w d = record (idle d) { stand = w }

-- what it does at the request: how it stands then, and what it asks for
record LeftTo (n : Node) (a : App) (d : DistView) (s : SystemView) : Type 0 where
  stand : Stand
  no_lock : lock_of stand ≡ None
  outs : List Output
  starts : (w : ℕ) → start_distributed (asked_attempt d a) (asking w (turn s.cluster (own_in s.files n) n (node_at s n).life d))
      ≡ record (asking w (turn s.cluster (own_in s.files n) n (node_at s n).life d)) { state = waiting_at stand d; out = outs }
  monitored : (outs ≡ []) ⊎ ((m : Node) × (outs ≡ output.Monitor m ∷ []) × (n.0 ≢ m.0) × (is_alive_at s m ≡ true)
      × ((n.0 == m.0 || are_linked n m s.links) ≡ true))

waits_for_one : (a : App) (m : Node) (t : TurnView) → m.0 ≢ t.here.node.0
    → is_among t.here.node (candidates_of t.own (asked_attempt t.state a)) ≡ true
    → first_of (candidates_of t.own (asked_attempt t.state a)) (places_of t.own a) ≡ Some m → runs_there t.state a m ≡ false
    → start_distributed (asked_attempt t.state a) t
    ≡ record t { state = record t.state { stand = stand.ForStart (asked_attempt t.state a) m }; out = t.out ++ output.Monitor m ∷ [] }
unfolding is_to_start
waits_for_one a m t other among first not_yet =
    let attempt : AttemptView = asked_attempt t.state a in
    let waits : TurnView = wait (stand.ForStart attempt m) (monitor m t) in
    starts_first a m t among first
    ∙ ap (λ (b : Bool). cond b (runs_elsewhere attempt m t) (is_to_start attempt m t)) not_yet
    ∙ ap (λ (b : Bool). cond b (start_here attempt t) (cond (is_node m (runs_at (standing_of t.state a))) (runs_elsewhere attempt m t)
    waits))
    (ne_eqb m.0 t.here.node.0 other)
    ∙ ap (λ (b : Bool). cond b (runs_elsewhere attempt m t) waits)
    (neither (is_node m (runs_at (standing_of t.state a))) (is_node m (remote t.state a)) not_yet)
  where
    neither : (p q : Bool) → (p || q) ≡ false → p ≡ false
    neither true q is = is
    neither false q is = refl

waits_for_any : (a : App) (m : Node) (t : TurnView) → is_among t.here.node (candidates_of t.own (asked_attempt t.state a)) ≡ false
    → remote t.state a ≡ None → is_among m (candidates_of t.own (asked_attempt t.state a)) ≡ true
    → start_distributed (asked_attempt t.state a) t ≡ record t {
      state = record t.state
          { stand = stand.ForAnyStart (asked_attempt t.state a) };
    }
waits_for_any a m t not_among unknown somebody =
    let attempt : AttemptView = asked_attempt t.state a in
    starts_outside a t not_among
    ∙ ap (λ (o : Option Node). outside attempt (candidates_of t.own attempt) o t) unknown
    ∙ some (candidates_of t.own attempt) somebody
  where
    some : (candidates : List Node) → is_among m candidates ≡ true
        → outside (asked_attempt t.state a) candidates None t ≡ wait (stand.ForAnyStart (asked_attempt t.state a)) t
    some [] is = absurd (false≢true is)
    some (k ∷ candidates) is = refl

left_to : (n : Node) (a : App) (d : DistView) (s : SystemView) → IsLeftTo n a d s → LeftTo n a d s
left_to n a d s l = by l.found
  where
    t : ℕ → TurnView
    t w = asking w (turn s.cluster (own_in s.files n) n (node_at s n).life d)

    candidates : List Node
    candidates = candidates_at (own_in s.files n) a d

    by : ((is_among n candidates ≡ true) × (first_of candidates (places_of (own_in s.files n) a) ≡ Some l.at) ×
        (runs_there d a l.at ≡ false)
        × (is_alive_at s l.at ≡ true) × ((n.0 == l.at.0 || are_linked n l.at s.links) ≡ true))
        ⊎ ((is_among n candidates ≡ false) × (remote d a ≡ None) × (is_among l.at candidates ≡ true)) → LeftTo n a d s
    by (inl (among, first, not_yet, alive, sees)) = record {
      stand = stand.ForStart (asked_attempt d a) l.at;
      no_lock = refl;
      outs = output.Monitor l.at ∷ [];
      starts = λ w. waits_for_one a l.at (t w) l.other among first not_yet;
      monitored = inr (l.at, refl, (λ same. l.other (sym same)), alive, sees);
    }
    by (inr (not_among, unknown, somebody)) = record {
      stand = stand.ForAnyStart (asked_attempt d a);
      no_lock = refl;
      outs = [];
      starts = λ w. waits_for_any a l.at (t w) not_among unknown somebody;
      monitored = inl refl;
    }

-- so it does at the request, where the application doesn't run here
requested : (n : Node) (a : App) (d : DistView) (s : SystemView) → is_local (standing_of d a) ≡ false → (l : LeftTo n a d s) → (w : ℕ)
    → mail.handled (message.StartRequest a) (asking w (turn s.cluster (own_in s.files n) n (node_at s n).life d))
    ≡ asking w (record (turn s.cluster (own_in s.files n) n (node_at s n).life d) { state = waiting_at l.stand d; out = l.outs })
unfolding start_appl
requested n a d s not_here l w = by (standing_of d a) not_here ∙ l.starts w
  where
    t : TurnView
    t = asking w (turn s.cluster (own_in s.files n) n (node_at s n).life d)

    by : (st : Standing) → is_local st ≡ false
        → start_unless_local (asked_attempt d a) st t ≡ start_distributed (asked_attempt d a) t
    by standing.Local is = absurd (false≢true (sym is))
    by standing.Undefined is = refl
    by standing.RunWaiting is = refl
    by standing.Takeover is = refl
    by (standing.Failover m) is = refl
    by (standing.Distributed m) is = refl

-- ---- carried out

-- the lock of its node is taken, and it stands so
record Stood (n : Node) (a : App) (d : DistView) (s : SystemView) : Type 0 where
  next : DistView
  free : IsFree next
  comes : working.mailed n (message.StartRequest a) s
      ≡ record (with_node n (record (node_at s n) { dist = Some next }) s) { locks = its_lock n (node_at s n).life }

stood : (n : Node) (a : App) (d : DistView) (s : SystemView) → live_at s n ≡ Some (node_at s n) → (node_at s n).dist ≡ Some d
    → IsUnoccupied d → d.stand ≡ stand.Idle → s.locks ≡ [] → IsLeftTo n a d s → Stood n a d s
stood n a d s there has free is none left = by l.monitored
  where
    l : LeftTo n a d s
    l = left_to n a d s left

    v : LiveView
    v = node_at s n

    e : DistView
    e = waiting_at l.stand d

    q : SystemView
    q = record s { locks = its_lock n v.life }

    came : (outs : List Output) → l.outs ≡ outs
        → working.mailed n (message.StartRequest a) s
        ≡ all_carried_out n outs (with_node n (record v { dist = Some e }) q)
    came outs so =
        request_comes n a s v d (record (turn s.cluster (own_in s.files n) n v.life d) { state = e; out = l.outs }) there has free is none
        (requested n a d s left.not_here l)
        ∙ ap (λ (o : List Output). all_carried_out n o (with_node n (record v { dist = Some e }) q)) so

    by : (l.outs ≡ []) ⊎ ((m : Node) × (l.outs ≡ output.Monitor m ∷ []) × (n.0 ≢ m.0) × (is_alive_at s m ≡ true)
        × ((n.0 == m.0 || are_linked n m s.links) ≡ true)) → Stood n a d s
    by (inl so) = record {
      next = e;
      free = record { lock = l.no_lock; parked = free.parked };
      comes = came [] so;
    }
    by (inr (m, so, other, alive, sees)) = record {
      next = with_monitor m e;
      free = record { lock = l.no_lock; parked = free.parked };
      comes = came (output.Monitor m ∷ []) so ∙ monitors_it n m q v e there other alive sees;
    }

-- ---- the call stays open

stands_still : {lives : Node → ℕ} {c : Call} {l : List Envelope} (s : SystemView) (next : DistView) (locks : List Held)
    → Waits lives c true l s → is_alive_at s c.node ≡ true → (node_at s c.node).controller.is_ending ≡ false → IsFree next
    → IsStill (record (with_node c.node (record (node_at s c.node) { dist = Some next }) s) { messages = []; locks = locks })
stands_still {lives} {c} s next locks f alive not_ending free = record {
  messages = refl;
  slow = f.slow;
  dists = λ k d up has. frees k d (sym (awake k) ∙ up) has (cases_eq k.0 n.0);
  ends = λ k up. ends k (sym (awake k) ∙ up) (cases_eq k.0 n.0);
  listed = λ k among. awake k ∙ f.listed k among;
  calls = cannot_call c f.stage t f.waits f.calls;
}
  where
    n : Node
    n = c.node

    new : LiveView
    new = record (node_at s n) { dist = Some next }

    there : live_at s n ≡ Some (node_at s n)
    there = there_is s n alive

    written : SystemView
    written = with_node n new s

    t : SystemView
    t = record written { messages = []; locks = locks }

    awake : (k : Node) → is_alive_at written k ≡ is_alive_at s k
    awake k = same_of_all is_alive s n k new refl

    frees : (k : Node) (d : DistView) → is_alive_at s k ≡ true → (node_at written k).dist ≡ Some d → (k.0 ≡ n.0) ⊎ (k.0 ≢ n.0) → IsFree d
    frees k d up has (inl same) =
        subst IsFree
        (same_Some next d (sym (ap (λ (v : LiveView). v.dist) (same_number written k n same ∙ node_written s n (node_at s n) new there))
        ∙ has))
        free
    frees k d up has (inr other) =
        is_free_at_ease d (f.dists k d up (sym (ap (λ (v : LiveView). v.dist) (others_same s n k new other)) ∙ has))

    ends_in : LiveView → Bool
    ends_in v = is_ending v && (s.ends_soon || not v.is_stopped)

    ends : (k : Node) → is_alive_at s k ≡ true → (k.0 ≡ n.0) ⊎ (k.0 ≢ n.0) → is_to_end k t ≡ false
    ends k up (inl same) =
        ap ends_in (same_number written k n same ∙ node_written s n (node_at s n) new there)
        ∙ ap (λ (b : Bool). b && (s.ends_soon || not (node_at s n).is_stopped)) not_ending
    ends k up (inr other) = ap ends_in (others_same s n k new other) ∙ f.ends k up (λ may. other)

-- ---- the dist_ac is asked

-- it leaves it to that one as long as files, links and who is alive are the same
still_left : (n : Node) (a : App) (d : DistView) (s t : SystemView) → t.files ≡ s.files → t.links ≡ s.links
    → ((m : Node) → is_alive_at t m ≡ is_alive_at s m) → IsLeftTo n a d s → IsLeftTo n a d t
still_left n a d s t files links awake l = record { at = l.at; other = l.other; not_here = l.not_here; found = by l.found }
  where
    own : own_in s.files n ≡ own_in t.files n
    own = ap (λ f. own_in f n) (sym files)

    by : ((is_among n (candidates_at (own_in s.files n) a d) ≡ true)
        × (first_of (candidates_at (own_in s.files n) a d) (places_of (own_in s.files n) a) ≡ Some l.at) × (runs_there d a l.at ≡ false)
        × (is_alive_at s l.at ≡ true) × ((n.0 == l.at.0 || are_linked n l.at s.links) ≡ true))
        ⊎ ((is_among n (candidates_at (own_in s.files n) a d) ≡ false) × (remote d a ≡ None)
        × (is_among l.at (candidates_at (own_in s.files n) a d) ≡ true))
        → ((is_among n (candidates_at (own_in t.files n) a d) ≡ true)
        × (first_of (candidates_at (own_in t.files n) a d) (places_of (own_in t.files n) a) ≡ Some l.at) × (runs_there d a l.at ≡ false)
        × (is_alive_at t l.at ≡ true) × ((n.0 == l.at.0 || are_linked n l.at t.links) ≡ true))
        ⊎ ((is_among n (candidates_at (own_in t.files n) a d) ≡ false) × (remote d a ≡ None)
        × (is_among l.at (candidates_at (own_in t.files n) a d) ≡ true))
    by (inl (among, first, not_yet, alive, sees)) = inl (
      subst (λ (o : OwnView). is_among n (candidates_at o a d) ≡ true) own among,
      subst (λ (o : OwnView). first_of (candidates_at o a d) (places_of o a) ≡ Some l.at) own first,
      not_yet,
      awake l.at ∙ alive,
      ap (λ k. n.0 == l.at.0 || are_linked n l.at k) links ∙ sees,
    )
    by (inr (not_among, unknown, somebody)) = inr (
      subst (λ (o : OwnView). is_among n (candidates_at o a d) ≡ false) own not_among,
      unknown,
      subst (λ (o : OwnView). is_among l.at (candidates_at o a d) ≡ true) own somebody,
    )

-- a dist_ac that takes whatever comes leaves it to another node
abbrev LeavesIt : Call → SystemView → Type 0
LeavesIt c s = (d : DistView) → (node_at s c.node).dist ≡ Some d → d.stand ≡ stand.Idle → IsLeftTo c.node c.app d s

request_orderly : {lives : Node → ℕ} {c : Call} (s : SystemView) → Waits lives c true (it_asks (here_in lives c.node) c ∷ []) s
    → is_alive_at s c.node ≡ true → (node_at s c.node).controller.is_ending ≡ false → s.locks ≡ [] → LeavesIt c s → IsOrderly s
request_orderly {lives} {c} s f alive not_ending none leaves = first_orderly e s f (by (node_at s n).dist refl)
  where
    n : Node
    n = c.node

    e : Envelope
    e = it_asks (here_in lives n) c

    x : Message
    x = message.StartRequest c.app

    q : SystemView
    q = without s []

    v : LiveView
    v = node_at s n

    there : live_at q n ≡ Some v
    there = there_is s n alive

    t : SystemView
    t = arrived e.to x q

    comes : t ≡ working.mailed n x q
    comes = arrives_alive e.to x q alive (f.same_lives n)

    free : (d : DistView) → v.dist ≡ Some d → IsUnoccupied d
    free d has = f.dists n d alive has

    quiet : (o : Option DistView) → ((d : DistView) → o ≡ Some d → IsUnoccupied d)
        → working.mailed n x q ≡ with_node n (record v { dist = o }) q → IsOrderly t
    quiet o rest is =
        quiet_orderly t
        (goes_on true [] s.timers s.events (record v { dist = o }) q t (taken_from s f)
        (record { there = there; life = refl; phase = refl; rest = rest }) (λ never. absurd (false≢true (sym never))) (comes ∙ is))

    at : (d : DistView) → v.dist ≡ Some d → (d.stand ≡ stand.Idle) ⊎ (d.stand ≡ stand.ForGo) → IsOrderly t
    at d has (inl is) =
        let r : Stood n c.app d q = stood n c.app d q there has (free d has) is none
        (still_left n c.app d s q refl refl (λ m. refl) (leaves d has is)) in
        still_orderly t
        (subst IsStill (sym (comes ∙ r.comes))
        (stands_still q r.next (its_lock n v.life) (taken_from s f) alive not_ending r.free))
    at d has (inr is) =
        let waiting : DistView = with_message x d in
        quiet (Some waiting) (λ k same. subst IsUnoccupied (same_Some waiting k same) (still_waits x d (free d has) is refl))
        (waits_on n x q v d there has (free d has) is refl)

    by : (o : Option DistView) → v.dist ≡ o → IsOrderly t
    by None has = quiet None (λ d is. absurd (none-some d is)) (none_on n x q v there has)
    by (Some d) has = at d has (free d has).stand

-- ---- the law

told_left : {lives : Node → ℕ} {c : Call} (row : Starting) (s t : SystemView) → s.locks ≡ [] → LeavesIt c s → Requesting lives c row s t
    → IsOrderly t
told_left {lives} {c} row s t none leaves on =
    request_orderly t on.still on.alive (ap (λ (x : ControllerTurn). x.state.is_ending) on.turn ∙ on.not_ending) (on.locks ∙ none)
    (λ d has is. still_left c.node c.app d s t on.files on.links on.awake (leaves d (sym on.dist ∙ has) is))

pub left_alike : StartsLeftEndAlike
left_alike s n a restart reached rest soon leaves = by (cases_Bool (controls (own_at s n) a))
  where
    c : Call
    c = call_of (ask.Start restart) n a s

    -- nobody has a lock where all are at rest
    none : s.locks ≡ []
    none = none_at_rest s reached rest

    by : (controls (own_at s n) a ≡ true) ⊎ (controls (own_at s n) a ≡ false) → EndsAlike (called (ask.Start restart) n a s)
    by (inl controlled) =
        command_alike (ask.Start restart) s n a refl reached rest (over_before s soon)
        (λ answers f.
        call_orderly (asked_so answers c s) f (asks_start c restart (turn_at s n) controlled)
        (λ row t on. told_left row (asked_so answers c s) t none
        (λ d has is. still_left n a d s (asked_so answers c s) refl refl (λ m. refl) (leaves d has is)) on))
    by (inr local) = starts_alike s n a restart reached rest soon local
