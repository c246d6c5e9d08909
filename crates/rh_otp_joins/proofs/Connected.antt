-- In all that live nodes reach connections are between nodes that are alive: so none is left of a node that isn't.
use Rattle.std.proofs.Common.{◌≡◌, ◌≢◌, ◌⊎◌, ◌==◌, ◌&&◌, ◌||◌, ℕ, Bool, true, false, not, cond, List, [], ◌∷◌, Option, Some, None, slice_get, unwrap_or, refl, sym, ap, subst, ◌∙◌, inl, inr}
use Rattle.std.specs.List.{remove, cons_option}
use Rattle.std.specs.Prelude.{All}
use Rattle.std.proofs.lemmas.Bool.{and_parts, or_cases, or_right, eq-eqb, eqb-true, cases_eq, false≢true}
use Rattle.std.proofs.lemmas.List.Elements.{All-nil, All-cons, All-head, All-tail}
use Rattle.rh_model.specs.declared.node.Node.{Node}
use Rattle.rh_otp_model.specs.declared.message.Message.{Message}
use Rattle.rh_otp_model.specs.declared.message.Message.TheVariants as message
use Rattle.rh_otp_model.specs.declared.output.Envelope.{Envelope}
use Rattle.rh_otp_model.specs.declared.process.Process.{Process}
use Rattle.rh_otp_model.specs.declared.process.Role.{Role}
use Rattle.rh_otp_model.specs.declared.process.Role.TheVariants as role
use Rattle.rh_otp_model.specs.declared.wait.Wait.{Wait}
use Rattle.rh_otp_model.specs.declared.wait.Wait.TheVariants as wait
use Rattle.rh_otp_net.specs.declared.links.Link.{Link}
use Rattle.rh_otp_net.specs.Links as links
use Rattle.rh_otp_net.specs.Queue.{first_of_pair}
use Rattle.rh_otp_node.specs.Live.{LiveView, never_begun, is_alive, begun}
use Rattle.rh_otp_node.specs.Remote.{without_monitors}
use Rattle.rh_otp_node.specs.Turns.{controlled_by, terminated_by}
use Rattle.rh_otp_system.specs.declared.calls.Call.{Call}
use Rattle.rh_otp_system.specs.declared.moves.Move.{Move}
use Rattle.rh_otp_system.specs.declared.moves.Move.TheVariants as move
use Rattle.rh_otp_system.specs.declared.slow.Slow.{Slow}
use Rattle.rh_otp_system.specs.declared.slow.Slow.TheVariants as slow
use Rattle.rh_otp_system.specs.Calls.{is_takeover}
use Rattle.rh_otp_system.specs.Connecting as connecting
use Rattle.rh_otp_system.specs.Delivering as delivering
use Rattle.rh_otp_system.specs.Doing as doing
use Rattle.rh_otp_system.specs.Ending as ending
use Rattle.rh_otp_system.specs.Joining as joining
use Rattle.rh_otp_system.specs.Moves as moves_of
use Rattle.rh_otp_system.specs.Moves.{IsPossible}
use Rattle.rh_otp_system.specs.Resting.{crashed, rested, forgotten}
use Rattle.rh_otp_system.specs.State.{SystemView, live_at, node_at, own_at, wait_at, is_alive_at, is_up_at, lives}
use Rattle.rh_otp_system.specs.Working as working
use Rattle.rh_otp_laws.specs.Acting.{Acts, moves, begins, crashes, calls, Happens, acts, fires, passes, ticks, settles, rests, forgets, takes_up, taken_up, IsReached, new, later}
use Rattle.rh_otp_laws.specs.Knowing.{EndsAlone}
use Rattle.rh_otp_laws.proofs.Beginning.{begun_there}
use Rattle.rh_otp_laws.proofs.Crashing.{ends_alone}
use Rattle.rh_otp_laws.proofs.Listing.{alive_listed}
use Rattle.rh_otp_laws.proofs.Nodes.{others_same}
use Rattle.rh_otp_laws.proofs.Time.{due_fire}
use Rattle.rh_otp_laws.proofs.Working.{unmonitored_on, unparked_on, controlled_on, terminated_on}
use Rattle.rh_otp_crashes.proofs.Crossing.{same_node}
use Rattle.rh_otp_joins.proofs.Bound as bound
use Rattle.rh_otp_joins.proofs.Bound.{AreBound, Keeps}
use Rattle.rh_otp_joins.specs.Connections.{IsBound, ConnectedNodesAreAlive}

-- Connections are between nodes that are alive as before, and those stay that are between nodes that are alive still.
pub record Stay (s t : SystemView) : Type 0 where
  pub bound : AreBound s → AreBound t
  pub kept : (a b : Node) → is_alive_at t a ≡ true → is_alive_at t b ≡ true → links.are_linked a b s.links ≡ true
      → links.are_linked a b t.links ≡ true

keeps : {s t : SystemView} → Keeps s t → Stay s t
keeps one = record { bound = one.bound; kept = λ a b alive alive_too is. one.kept a b is }

stays_so : {s t : SystemView} → t.links ≡ s.links → (AreBound s → AreBound t) → Stay s t
stays_so same so = record { bound = so; kept = λ a b alive alive_too is. ap (links.are_linked a b) same ∙ is }

unchanged : (s : SystemView) → Stay s s
unchanged s = record { bound = λ so. so; kept = λ a b alive alive_too is. is }

and_then : {s t u : SystemView} → Keeps s t → Stay t u → Stay s u
and_then one more = record {
  bound = λ so. more.bound (one.bound so);
  kept = λ a b alive alive_too is. more.kept a b alive alive_too (one.kept a b is);
}

either : (b : Bool) (x y s : SystemView) → Stay s x → Stay s y → Stay s (cond b x y)
either true x y s p q = p
either false x y s p q = q

either_if : (b : Bool) (x y s : SystemView) → (b ≡ true → Stay s x) → Stay s y → Stay s (cond b x y)
either_if true x y s p q = p refl
either_if false x y s p q = q

-- ---- a node ends

alive_by : (n m : Node) (s t : SystemView) → (node_at t m ≡ node_at s m) ⊎ (node_at t m ≡ without_monitors n (node_at s m))
    → is_alive_at s m ≡ true → is_alive_at t m ≡ true
alive_by n m s t (inl same) alive = ap is_alive same ∙ alive
alive_by n m s t (inr is) alive = ap is_alive is ∙ (unmonitored_on n (node_at s m)).1 ∙ alive

left_bound : (n : Node) (s t : SystemView) → ((m : Node) → m.0 ≢ n.0 → is_alive_at s m ≡ true → is_alive_at t m ≡ true) → (rows : List Link)
    → All (IsBound s) rows → All (IsBound t) (links.without_node n rows)
left_bound n s t still [] so = All-nil (IsBound t)
left_bound n s t still (l ∷ rows) so =
    by (l.0.0 == n.0) refl (l.1.0 == n.0) refl (left_bound n s t still rows (All-tail (IsBound s) l rows so))
  where
    one : IsBound s l
    one = All-head (IsBound s) l rows so

    by : (c : Bool) → (l.0.0 == n.0) ≡ c → (d : Bool) → (l.1.0 == n.0) ≡ d → All (IsBound t) (links.without_node n rows)
        → All (IsBound t) (cond (not (c || d)) (l ∷ links.without_node n rows) (links.without_node n rows))
    by true is d is_too rest = rest
    by false is true is_too rest = rest
    by false is false is_too rest =
        All-cons (IsBound t) l (links.without_node n rows) (
          still l.0 (λ same. false≢true (sym is ∙ eq-eqb l.0.0 n.0 same)) one.0,
          still l.1 (λ same. false≢true (sym is_too ∙ eq-eqb l.1.0 n.0 same)) one.1,
        ) rest

left_linked : (n a b : Node) → a.0 ≢ n.0 → b.0 ≢ n.0 → (rows : List Link) → links.are_linked a b rows ≡ true
    → links.are_linked a b (links.without_node n rows) ≡ true
left_linked n a b apart apart_too [] is = absurd (false≢true is)
left_linked n a b apart apart_too (l ∷ rows) is =
    by (links.is_at n l) refl (links.is_between a b l) refl is (left_linked n a b apart apart_too rows)
  where
    either_end : (links.is_between a b l ≡ true) → (links.is_at n l ≡ true) → ⊥
    either_end between at = ends_at (or_cases _ _ between) (or_cases _ _ at)
      where
        ends_at : ((l.0.0 == a.0 && l.1.0 == b.0) ≡ true) ⊎ ((l.0.0 == b.0 && l.1.0 == a.0) ≡ true)
            → ((l.0.0 == n.0) ≡ true) ⊎ ((l.1.0 == n.0) ≡ true) → ⊥
        ends_at (inl is) (inl at) = apart (sym (eqb-true l.0.0 a.0 (and_parts _ _ is).0) ∙ eqb-true l.0.0 n.0 at)
        ends_at (inl is) (inr at) = apart_too (sym (eqb-true l.1.0 b.0 (and_parts _ _ is).1) ∙ eqb-true l.1.0 n.0 at)
        ends_at (inr is) (inl at) = apart_too (sym (eqb-true l.0.0 b.0 (and_parts _ _ is).0) ∙ eqb-true l.0.0 n.0 at)
        ends_at (inr is) (inr at) = apart (sym (eqb-true l.1.0 a.0 (and_parts _ _ is).1) ∙ eqb-true l.1.0 n.0 at)

    by : (c : Bool) → links.is_at n l ≡ c → (d : Bool) → links.is_between a b l ≡ d
        → (links.is_between a b l || links.are_linked a b rows) ≡ true
        → (links.are_linked a b rows ≡ true → links.are_linked a b (links.without_node n rows) ≡ true)
        → links.are_linked a b (cond (not c) (l ∷ links.without_node n rows) (links.without_node n rows)) ≡ true
    by true at true between is rest = absurd (either_end between at)
    by true at false between is rest = rest (subst (λ (x : Bool). (x || links.are_linked a b rows) ≡ true) between is)
    by false at true between is rest = ap (λ (x : Bool). x || links.are_linked a b (links.without_node n rows)) between
    by false at false between is rest =
        or_right (links.is_between a b l) (links.are_linked a b (links.without_node n rows))
        (rest (subst (λ (x : Bool). (x || links.are_linked a b rows) ≡ true) between is))

ends : (n : Node) (s : SystemView) → Stay s (ending.ended n s)
ends n s = record {
  bound = λ so.
      subst (All (IsBound t)) (sym over.links)
      (left_bound n s t (λ m apart alive. alive_by n m s t (over.others m apart) alive) s.links so);
  kept = λ a b alive alive_too is.
      ap (links.are_linked a b) over.links ∙ left_linked n a b (other a alive) (other b alive_too) s.links is;
}
  where
    t : SystemView
    t = ending.ended n s

    over : EndsAlone n s (crashed n s)
    over = ends_alone s n

    other : (m : Node) → is_alive_at t m ≡ true → m.0 ≢ n.0
    other m alive same = false≢true (sym over.itself ∙ ap (is_alive_at t) (sym (same_node m n same)) ∙ alive)

-- ---- a move

kernel_handles : (n : Node) (m : Message) (s : SystemView) → is_alive_at s n ≡ true → Stay s (joining.kernel_handled n m s)
kernel_handles n message.Timeout s alive = either (joining.lacks_mandatory n s) _ _ s (ends n s) (keeps (bound.joins n s alive))
kernel_handles n (message.NodeUp other) s alive = keeps (bound.sees n other s alive)
kernel_handles n m s alive = unchanged s

receives : (r : Role) (n : Node) (m : Message) (s : SystemView) → is_alive_at s n ≡ true → Stay s (delivering.received_in r n m s)
receives role.Controller n m s alive =
    keeps (bound.acts n (controlled_by s.cluster (own_at s n) n m (node_at s n)) s (controlled_on s.cluster (own_at s n) n m (node_at s n)) alive)
receives role.DistAc n m s alive = keeps (bound.gets_mail n m s alive)
receives role.KernelConfig n m s alive = either (is_up_at s n) _ _ s (unchanged s) (kernel_handles n m s alive)
receives role.Boot n m s alive = keeps (bound.boot_receives n m s)
receives role.System n m s alive = ends n s
receives (role.Call number) n m s alive = keeps (bound.call_receives number m s)
receives r n m s alive = unchanged s

arrives : (to : Process) (m : Message) (s : SystemView) → Stay s (delivering.arrived to m s)
arrives to m s =
    either_if (lives s to) _ _ s (λ there. receives to.role to.node m s (and_parts _ _ there).0) (unchanged s)

less : (s : SystemView) (messages : List Envelope) → Keeps s (record s { messages = messages })
less s messages = record { alive = λ m. refl; bound = λ so. so; kept = λ a b is. is }

arrives_at : (place : ℕ) (found : Option Envelope) (s : SystemView) → Stay s (delivering.arrived_at place found s)
arrives_at place None s = unchanged s
arrives_at place (Some e) s = and_then (less s (remove s.messages place)) (arrives e.to e.message (record s { messages = remove s.messages place }))

slows : (what : Slow) (s : SystemView) → Stay s (delivering.slowed what s)
unfolding delivering.slowed
slows (slow.Connect one two) s =
    either_if (is_alive_at s one && is_alive_at s two) _ _ s
    (λ both. keeps (bound.connects one two s (and_parts _ _ both).0 (and_parts _ _ both).1)) (unchanged s)
slows (slow.Boot m) s = either (is_alive_at s m) _ _ s (keeps (bound.boots_on m None s)) (unchanged s)

slow_moves : (place : ℕ) (found : Option Slow) (s : SystemView) → Stay s (moves_of.slow_done_if place found s)
slow_moves place None s = unchanged s
slow_moves place (Some what) s = and_then (bound.slowed s (remove s.slow place)) (slows what (record s { slow = remove s.slow place }))

locks : (n : Node) (s : SystemView) → is_alive_at s n ≡ true → Stay s (moves_of.locked n s)
locks n s alive = by (moves_of.can_take_lock n s)
  where
    by : (b : Bool) → Stay s (working.work n (cond b (working.take_lock n s) (moves_of.unparked n s)))
    by true =
        let one : Keeps s (working.take_lock n s) = bound.takes_lock n s alive in
        keeps (bound.both one (bound.works n (working.take_lock n s) (one.alive n ∙ alive)))
    by false =
        let one : Keeps s (moves_of.unparked n s) = bound.wrote n s _ (unparked_on (node_at s n)) in
        keeps (bound.both one (bound.works n (moves_of.unparked n s) (one.alive n ∙ alive)))

stops : (n : Node) (s : SystemView) → is_alive_at s n ≡ true → Stay s (ending.stopped n s)
unfolding ending.stopped
stops n s alive =
    keeps (bound.both
    (bound.acts n (terminated_by s.cluster (own_at s n) n (node_at s n)) s (terminated_on s.cluster (own_at s n) n (node_at s n)) alive)
    (bound.sets 1500 _ message.Ends _))

pub moved : (next : Move) (s : SystemView) → ((n : Node) → moves_of.IsAmong n s.alive → is_alive_at s n ≡ true) → IsPossible s next
    → Stay s (moves_of.made next s)
unfolding moves_of.made delivering.delivered
moved (move.Deliver place) s listed possible = arrives_at (first_of_pair s.messages place) _ s
moved (move.Slow place) s listed possible = slow_moves place (slice_get s.slow place) s
moved (move.Lock n) s listed possible = locks n s (listed n possible.1)
moved (move.Call place) s listed possible = keeps (bound.call_goes_on place s)
moved (move.End n) s listed possible = either s.ends_soon _ _ s (ends n s) (stops n s (listed n possible.1))

-- ---- a node begins

begins_bound : (s : SystemView) (n : Node) (v : LiveView) → live_at s n ≡ Some v → AreBound s → AreBound (doing.begun_at n s)
begins_bound s n v there so = still s.links so
  where
    t : SystemView
    t = doing.begun_at n s

    alive_still : (m : Node) → is_alive_at s m ≡ true → is_alive_at t m ≡ true
    alive_still m alive = by (cases_eq m.0 n.0)
      where
        by : (m.0 ≡ n.0) ⊎ (m.0 ≢ n.0) → is_alive_at t m ≡ true
        by (inl same) = ap (is_alive_at t) (same_node m n same) ∙ ap is_alive (begun_there s n v there)
        by (inr apart) = ap is_alive (others_same s n m (begun s.cluster (own_at s n) n (node_at s n)) apart) ∙ alive

    still : (rows : List Link) → All (IsBound s) rows → All (IsBound t) rows
    still rows bounds = bound.stay_alive s t alive_still rows bounds

sees_at_once : (n other : Node) (s : SystemView) → is_alive_at s n ≡ true → Keeps s (doing.seen_at_once n other s)
sees_at_once n other s alive =
    bound.either_if (is_alive_at s other) _ _ s
    (λ is. bound.then_put s (connecting.reach n other s) _ (bound.reaches n other s alive is)) (λ not. bound.nothing s)

sees_each : (n : Node) (others : List Node) (s : SystemView) → is_alive_at s n ≡ true → Keeps s (doing.all_seen n others s)
sees_each n [] s alive = bound.nothing s
sees_each n (other ∷ others) s alive =
    let one : Keeps s (doing.seen_at_once n other s) = sees_at_once n other s alive in
    bound.both one (sees_each n others (doing.seen_at_once n other s) (one.alive n ∙ alive))

waits_at_most : (n : Node) (time : Option ℕ) (s : SystemView) → Keeps s (doing.with_timeout n time s)
waits_at_most n None s = bound.nothing s
waits_at_most n (Some time) s = bound.sets time _ message.Timeout s

waits_for : (n : Node) (time : Option ℕ) (s : SystemView) → is_alive_at s n ≡ true → Stay s (doing.waited_for n time s)
unfolding doing.waited_for
waits_for n time s alive =
    let seen : SystemView = doing.all_seen n (node_at s n).mandatory s in
    let all : SystemView = doing.all_seen n (node_at s n).optional seen in
    let one : Keeps s seen = sees_each n (node_at s n).mandatory s alive in
    let two : Keeps s all = bound.both one (sees_each n (node_at s n).optional seen (one.alive n ∙ alive)) in
    let three : Keeps s (doing.with_timeout n time all) = bound.both two (waits_at_most n time all) in
    keeps (bound.both three (bound.goes_on n (doing.with_timeout n time all) (three.alive n ∙ alive)))

waits : (w : Wait) (n : Node) (s : SystemView) → is_alive_at s n ≡ true → Stay s (doing.waited w n s)
waits wait.Unset n s alive = keeps (bound.joins n s alive)
waits wait.Refused n s alive = ends n s
waits (wait.After time) n s alive = waits_for n (Some time) s alive
waits wait.Forever n s alive = waits_for n None s alive

boots : (s : SystemView) (n : Node) (v : LiveView) → live_at s n ≡ Some v → AreBound s → AreBound (doing.booted n s)
unfolding doing.booted
boots s n v there so =
    (waits (wait_at s n) n (doing.begun_at n s) (ap is_alive (begun_there s n v there))).bound (begins_bound s n v there so)

-- ---- whatever happens

begins_call : (place : ℕ) (call : Call) (s : SystemView) → Stay s (doing.first_done place call s)
begins_call place call s = either (is_takeover call.ask) _ _ s (keeps (bound.call_goes_on place s)) (stays_so refl (λ so. so))

acts_bound : (s t : SystemView) → IsReached s → Acts s t → AreBound s → AreBound t
unfolding doing.called
acts_bound _ _ reached (moves s next possible) so = (moved next s (λ n among. ((alive_listed s reached).exactly n).0 among) possible).bound so
acts_bound _ _ reached (begins s n there down) so = boots s n there.0 there.1 so
acts_bound _ _ reached (crashes s n) so = (ends n s).bound so
acts_bound _ _ reached (calls s a n app) so = (begins_call _ _ (doing.with_call (doing.call_of a n app s) s)).bound so

rested_bound : (s : SystemView) → AreBound s → AreBound (rested s)
unfolding rested
rested_bound s so = so

forgotten_bound : (s : SystemView) → AreBound s → AreBound (forgotten s)
unfolding forgotten
forgotten_bound s so = so

alive_too : (s t : SystemView) (n : Node) → (live_at t n ≡ live_at s n) ⊎ ((live_at t n ≡ None) × (is_alive_at s n ≡ false))
    → is_alive_at s n ≡ true → is_alive_at t n ≡ true
alive_too s t n (inl same) alive = ap (λ (o : Option LiveView). is_alive (unwrap_or o never_begun)) same ∙ alive
alive_too s t n (inr none) alive = absurd (false≢true (sym none.1 ∙ alive))

happens_bound : (s t : SystemView) → IsReached s → Happens s t → AreBound s → AreBound t
happens_bound _ _ reached (acts s t one) so = acts_bound s t reached one so
happens_bound _ _ reached (fires s due step next) so = subst AreBound (sym (due_fire s due)) so
happens_bound _ _ reached (passes s time on none) so = so
happens_bound _ _ reached (ticks s ticking) so = so
happens_bound _ _ reached (settles s) so = so
happens_bound _ _ reached (rests s) so = rested_bound s so
happens_bound _ _ reached (forgets s) so = forgotten_bound s so
happens_bound _ _ reached (takes_up s cells told ends_soon quiet same) so =
    bound.stay_alive s (taken_up s cells told ends_soon) (λ m alive. alive_too s (taken_up s cells told ends_soon) m (same m) alive) s.links so

pub all_bound : ConnectedNodesAreAlive
all_bound _ (new s is) = subst (All (IsBound s)) (sym is.links) (All-nil (IsBound s))
all_bound _ (later s t before one) = happens_bound s t before one (all_bound s before)

-- ---- so no connection is left of a node that isn't alive

none_seen : (n : Node) (s : SystemView) → is_alive_at s n ≡ false → (rows : List Link) → All (IsBound s) rows → links.linked_with n rows ≡ []
none_seen n s down [] so = refl
none_seen n s down (l ∷ rows) so =
    by (l.0.0 == n.0) refl (l.1.0 == n.0) refl (none_seen n s down rows (All-tail (IsBound s) l rows so))
  where
    one : IsBound s l
    one = All-head (IsBound s) l rows so

    by : (c : Bool) → (l.0.0 == n.0) ≡ c → (d : Bool) → (l.1.0 == n.0) ≡ d → links.linked_with n rows ≡ []
        → cons_option (cond c (Some l.1) (cond d (Some l.0) None)) (links.linked_with n rows) ≡ []
    by true is d is_too rest =
        absurd (false≢true (sym down ∙ ap (is_alive_at s) (sym (same_node l.0 n (eqb-true l.0.0 n.0 is))) ∙ one.0))
    by false is true is_too rest =
        absurd (false≢true (sym down ∙ ap (is_alive_at s) (sym (same_node l.1 n (eqb-true l.1.0 n.0 is_too))) ∙ one.1))
    by false is false is_too rest = rest

pub none_left_of : (n : Node) (s : SystemView) → IsReached s → is_alive_at s n ≡ false → links.linked_with n s.links ≡ []
none_left_of n s reached down = none_seen n s down s.links (all_bound s reached)
