-- Where all that came of a boot script has come, its node may go on to its end, and every order of what comes of that ends alike.
use Rattle.std.proofs.Common.{◌≡◌, ◌≢◌, ◌⊎◌, ◌++◌, ◌+◌, ◌^◌, ◌==◌, ◌&&◌, ◌||◌, ℕ, Bool, true, false, not, cond, nat_lt, List, [], ◌∷◌, slice_get, Some, refl, sym, ap, subst, ◌∙◌, inl, inr}
use Rattle.std.specs.Prelude.{All}
use Rattle.std.proofs.lemmas.Bool.{cases_Bool, cases_eq, eqb-false, not-true, false≢true}
use Rattle.std.proofs.lemmas.List.{append-nil}
use Rattle.std.proofs.lemmas.List.Elements.{All-nil}
use Rattle.std.proofs.lemmas.Option.{none-some}
use Rattle.rh_model.specs.declared.node.Node.{Node}
use Rattle.rh_otp_model.specs.declared.message.Message.TheVariants as message
use Rattle.rh_otp_model.specs.declared.output.Envelope.{Envelope}
use Rattle.rh_otp_model.specs.declared.process.Process.{Process}
use Rattle.rh_otp_model.specs.declared.process.Role.TheVariants as role
use Rattle.rh_otp_model.specs.declared.wait.OwnFile.{OwnFile}
use Rattle.rh_otp_model.specs.Processes.{process_at}
use Rattle.rh_otp_controller.specs.Ending.{stop_each}
use Rattle.rh_otp_controller.specs.State.{TurnView}
use Rattle.rh_otp_dist.specs.State.{DistView}
use Rattle.rh_otp_net.specs.declared.timers.Timer.{Timer}
use Rattle.rh_otp_node.specs.Live.{LiveView, is_alive, is_ending}
use Rattle.rh_otp_node.specs.Turns.{terminated_by}
use Rattle.rh_otp_system.specs.declared.calls.Call.{Call}
use Rattle.rh_otp_system.specs.declared.moves.Move.TheVariants as move
use Rattle.rh_otp_system.specs.Ending.{ended, stopped}
use Rattle.rh_otp_system.specs.Moves.{Delivers, Reaches, IsAmong, here, behind_one, is_to_end, can_go_on_at, made}
use Rattle.rh_otp_system.specs.Resting.{crashed}
use Rattle.rh_otp_system.specs.Sending.{after}
use Rattle.rh_otp_system.specs.State.{SystemView, live_at, node_at, with_node, is_alive_at, process_in}
use Rattle.rh_otp_laws.specs.Knowing.{EndsAlone}
use Rattle.rh_otp_laws.proofs.Crashing.{ends_alone}
use Rattle.rh_otp_laws.proofs.Lists.{filtered}
use Rattle.rh_otp_laws.proofs.Nodes.{same_number}
use Rattle.rh_otp_orders.specs.Confluence.{IsOrderly}
use Rattle.rh_otp_crashes.proofs.Carrying.{letters}
use Rattle.rh_otp_crashes.proofs.Crossing.{same_node}
use Rattle.rh_otp_crashes.proofs.Deeds.{AreLater}
use Rattle.rh_otp_crashes.proofs.Falling.{IsFallout, Fallout, orderly}
use Rattle.rh_otp_crashes.proofs.Peace.{IsFree, here_in, at_ease, is_free_at_ease, no_lock_at, no_place}
use Rattle.rh_otp_crashes.proofs.Turning.{own_in}
use Rattle.rh_otp_stops.proofs.Saying.{sights}
use Rattle.rh_otp_stops.proofs.Stop.{from_first, turn_at}
use Rattle.rh_otp_stops.proofs.Stopping.{there_is}
use Rattle.rh_otp_starts.proofs.Ending.{Told, IsAsItWas, kept, alive_kept, ending_kept, unoccupied, end_tells}
use Rattle.rh_otp_starts.proofs.Turns.{IsSaid, stops_each, never_both}
use Rattle.rh_otp_scripts.proofs.Running.{Stands}
use Rattle.rh_otp_scripts.proofs.Speaking.{kinds_behind, carries}
use Rattle.rh_otp_scripts.proofs.Underway.{Wrote, node_on, Calm, calm_own, itself, Underway, Thread, busy, done, hung, stands_so}
use Rattle.rh_otp_scripts.proofs.Words.{IsSide, HasMain}

-- ---- what moves then

-- a dist_ac that does nothing, or waits for another node, waits for no lock
is_free : (d : DistView) → Stands d → IsFree d
is_free d (inl free) = is_free_at_ease d free
is_free d (inr waits) = record { lock = waits.lock; parked = waits.parked }

no_lock : {lives : Node → ℕ} {n : Node} (s : SystemView) → Underway lives n s → (k : Node) → IsAmong k s.alive
    → can_go_on_at k s ≡ false
no_lock {lives} {n} s f k among = no_lock_at k s (node_at s k).dist (λ d has. by d has (cases_eq k.0 n.0))
  where
    by : (d : DistView) → (node_at s k).dist ≡ Some d → (k.0 ≡ n.0) ⊎ (k.0 ≢ n.0) → IsFree d
    by d has (inl same) =
        is_free d (stands_so s f.thread d (sym (ap (λ (v : LiveView). v.dist) (same_number s k n same)) ∙ has))
    by d has (inr other) = is_free_at_ease d (f.calm.others k d other (f.calm.listed k among) has)

-- the node alone goes on to its end
last_moves : {lives : Node → ℕ} {n : Node} (s t : SystemView) → Underway lives n s → s.messages ≡ [] → Delivers s t
    → (is_to_end n s ≡ true) × (t ≡ made (move.End n) s)
last_moves s t f none (move.Deliver place, possible, is) = absurd (no_place s.messages place none possible)
last_moves s t f none (move.Slow place, possible, is) = absurd (no_place s.slow place f.calm.slow possible.1)
last_moves s t f none (move.Lock k, possible, is) = absurd (false≢true (sym (no_lock s f k possible.1) ∙ possible.2))
last_moves s t f none (move.Call place, possible, is) =
    absurd (none-some possible.1.0 (sym (ap (λ (l : List Call). slice_get l place) f.calm.calls) ∙ possible.1.1))
last_moves {lives} {n} s t f none (move.End k, possible, is) = by (cases_eq k.0 n.0)
  where
    by : (k.0 ≡ n.0) ⊎ (k.0 ≢ n.0) → (is_to_end n s ≡ true) × (t ≡ made (move.End n) s)
    by (inl same) =
        let one : k ≡ n = same_node k n same in
        (ap (λ (x : Node). is_to_end x s) (sym one) ∙ possible.2, is ∙ ap (λ (x : Node). made (move.End x) s) one)
    by (inr other) = absurd (false≢true (sym (f.calm.ends k other (f.calm.listed k possible.1)) ∙ possible.2))

-- ---- the node ends at once

falls_out : {lives : Node → ℕ} {n : Node} (s : SystemView) → Calm lives n s → s.messages ≡ [] → s.ends_soon ≡ true
    → Fallout lives (process_at (here_in lives n) role.DistAc) (crashed n s)
falls_out {lives} {n} s f none soon = record {
  peace = record {
    messages = subst (All (IsFallout lives gone)) (sym (told_it.behind ∙ ap (λ (l : List Envelope). l ++ told_it.more) none)) told_it.each;
    slow = alone.slow ∙ f.slow;
    calls = alone.calls ∙ f.calls;
    calm = at_ease;
    dists = λ m d alive has.
        unoccupied n (node_at s m) (node_at t m) d (was m alive) (λ e had. f.others m e (another m alive) (was_alive m alive) had) has;
    ends = λ m alive.
        ap (λ (soon : Bool). is_ending (node_at t m) && (soon || not (node_at t m).is_stopped)) told_it.soon
        ∙ kept (λ (v : LiveView). is_ending v && (s.ends_soon || not v.is_stopped)) n (node_at s m) (node_at t m)
        (ending_kept s.ends_soon n (node_at s m)) (was m alive)
        ∙ f.ends m (another m alive) (was_alive m alive);
    listed = λ m among. still m (filtered (is_other n) m s.alive (subst (IsAmong m) alone.alive among));
    same_lives = λ m. told_it.same_lives m ∙ f.same_lives m;
  };
  later = λ m. subst (λ (files : List OwnFile). AreLater (own_in files m)) (sym told_it.files) (f.later soon m);
}
  where
    t : SystemView
    t = crashed n s

    gone : Process
    gone = process_at (here_in lives n) role.DistAc

    alone : EndsAlone n s t
    alone = ends_alone s n

    told_it : Told lives gone s t
    told_it = end_tells n s f.same_lives

    is_other : Node → Node → Bool
    is_other k m = not (m.0 == k.0)

    another : (m : Node) → is_alive_at t m ≡ true → m.0 ≢ n.0
    another m alive one = false≢true (sym alone.itself ∙ sym (ap is_alive (same_number t m n one)) ∙ alive)

    was : (m : Node) → is_alive_at t m ≡ true → IsAsItWas n (node_at s m) (node_at t m)
    was m alive = alone.others m (another m alive)

    was_alive : (m : Node) → is_alive_at t m ≡ true → is_alive_at s m ≡ true
    was_alive m alive = sym (kept is_alive n (node_at s m) (node_at t m) (alive_kept n (node_at s m)) (was m alive)) ∙ alive

    still : (m : Node) → IsAmong m s.alive × (is_other n m ≡ true) → is_alive_at t m ≡ true
    still m (among, other) =
        kept is_alive n (node_at s m) (node_at t m) (alive_kept n (node_at s m))
        (alone.others m (eqb-false m.0 n.0 (not-true (m.0 == n.0) other)))
        ∙ f.listed m among

-- ---- or some time later

-- at once what runs there stops, and a timer is set
stops_first : {lives : Node → ℕ} {n : Node} (s : SystemView) → Calm lives n s → Wrote n s.locks s (stopped n s)
unfolding stopped terminated_by after
stops_first {lives} {n} s f = record {
  new = new;
  there = there;
  more = letters u.out;
  set = cond later (timer ∷ []) [];
  seen = sights u.out;
  is = ap (λ (x : SystemView). after 1500 (process_in x n role.System) message.Ends x)
      (carries n u.out s old (record old { controller = u.state; is_stopped = true }) there words.0)
      ∙ timed later;
  life = refl;
  phase = refl;
}
  where
    old : LiveView
    old = node_at s n

    there : live_at s n ≡ Some old
    there = there_is s n f.alive

    u : TurnView
    u = stop_each old.controller.running (turn_at s n)

    words : All (IsSaid n) u.out × (letters u.out ≡ [])
    words = stops_each n old.controller.running (turn_at s n) refl (All-nil (IsSaid n))

    new : LiveView
    new = record old { controller = u.state; is_stopped = true; kinds = kinds_behind u.out old.kinds }

    over : SystemView
    over = record (with_node n new s) { messages = s.messages ++ letters u.out; events = s.events ++ sights u.out }

    later : Bool
    later = nat_lt (s.clock + 1500) (2 ^ 64)

    timer : Timer
    timer = record { due = s.clock + 1500; step = s.step; to = process_in over n role.System; message = message.Ends }

    timed : (b : Bool)
        → cond b (record over { timers = s.timers ++ timer ∷ [] }) over ≡ record over { timers = s.timers ++ cond b (timer ∷ []) [] }
    timed true = refl
    timed false = λ i. record over { timers = sym (append-nil s.timers) i }

-- where the node hasn't to end
none_behind : {lives : Node → ℕ} {n : Node} (s p t : SystemView) → Reaches s p → Underway lives n s → s.messages ≡ []
    → is_to_end n s ≡ false → Delivers p t → ⊥
none_behind _ _ t (here s) f none never one = false≢true (sym never ∙ (last_moves s t f none one).0)
none_behind _ _ t (behind_one s q p first rest) f none never one = false≢true (sym never ∙ (last_moves s q f none first).0)

-- then nothing moves any more
stopped_orderly : {lives : Node → ℕ} {n : Node} (s : SystemView) → Underway lives n s → s.messages ≡ [] → s.ends_soon ≡ false
    → IsOrderly (stopped n s)
unfolding stops_first
stopped_orderly {lives} {n} s f none later p t u reaches to_t to_u =
    absurd (none_behind (stopped n s) p t reaches still silent not_again to_t)
  where
    w : Wrote n s.locks s (stopped n s)
    w = stops_first s f.calm

    silent : (stopped n s).messages ≡ []
    silent =
        ap (λ (x : SystemView). x.messages) w.is ∙ ap (λ (l : List Envelope). l ++ w.more) none
        ∙ (stops_each n (node_at s n).controller.running (turn_at s n) refl (All-nil (IsSaid n))).1

    dist : (node_at (stopped n s) n).dist ≡ (node_at s n).dist
    dist = ap (λ (v : LiveView). v.dist) (node_on w)

    sides : All (IsSide lives n) (stopped n s).messages
    sides = subst (All (IsSide lives n)) (sym silent) (All-nil (IsSide lives n))

    thread : Thread lives n s → Thread lives n (stopped n s)
    thread (busy g fits has free_locks free) = absurd (subst (HasMain (IsSide lives n) g) none has)
    thread (done all free) = done sides (λ d is. free d (sym dist ∙ is))
    thread (hung all waits) = hung sides (λ d is. waits d (sym dist ∙ is))

    still : Underway lives n (stopped n s)
    still = record {
      calm = calm_own s (stopped n s) w f.calm (λ d is. itself d is);
      thread = thread f.thread;
    }

    soon : (stopped n s).ends_soon ≡ false
    soon = ap (λ (x : SystemView). x.ends_soon) w.is ∙ later

    not_again : is_to_end n (stopped n s) ≡ false
    not_again =
        (λ i. is_ending (node_on w i) && (soon i || not (node_on w i).is_stopped)) ∙ never_both (is_ending w.new)

-- ---- every order

pub quiet_orderly : {lives : Node → ℕ} {n : Node} (s : SystemView) → Underway lives n s → s.messages ≡ [] → IsOrderly s
unfolding made
quiet_orderly {lives} {n} s f none p t u reaches to_t to_u =
    from_first s p reaches (made (move.End n) s) (λ q one. (last_moves s q f none one).1) (by (cases_Bool s.ends_soon)) t u to_t to_u
  where
    by : (s.ends_soon ≡ true) ⊎ (s.ends_soon ≡ false) → IsOrderly (cond s.ends_soon (ended n s) (stopped n s))
    by (inl soon) =
        subst IsOrderly (sym (ap (λ (b : Bool). cond b (ended n s) (stopped n s)) soon))
        (orderly (crashed n s) (falls_out s f.calm none soon))
    by (inr later) =
        subst IsOrderly (sym (ap (λ (b : Bool). cond b (ended n s) (stopped n s)) later)) (stopped_orderly s f none later)
