-- What moves in two systems that differ in what no node reads alone moves in both, and leaves them so.
use Rattle.std.proofs.Common.{◌≡◌, ◌<◌, ◌&&◌, ◌||◌, ◌+◌, ◌-◌, ◌++◌, ◌^◌, min, not, ℕ, Bool, true, false, cond, List, [], ◌∷◌, length, slice_get, replicate, Option, Some, None, refl, sym, ap, subst, ◌∙◌, inl, inr, arith}
use Rattle.std.specs.List.{remove}
use Rattle.std.specs.Option.{option_map}
use Rattle.std.proofs.lemmas.Bool.{false≢true, and_parts}
use Rattle.rh_model.specs.declared.node.Node.{Node}
use Rattle.rh_otp_model.specs.declared.message.Message.{Message}
use Rattle.rh_otp_model.specs.declared.message.Message.TheVariants as message
use Rattle.rh_otp_model.specs.declared.output.Envelope.{Envelope}
use Rattle.rh_otp_model.specs.declared.output.Event.TheVariants as event
use Rattle.rh_otp_model.specs.declared.output.Requester.TheVariants.{Sync, Alone}
use Rattle.rh_otp_model.specs.declared.process.Process.{Process}
use Rattle.rh_otp_model.specs.declared.process.Role.{Role}
use Rattle.rh_otp_model.specs.declared.process.Role.TheVariants as role
use Rattle.rh_otp_dist.specs.State.{DistView}
use Rattle.rh_otp_net.specs.Links as links
use Rattle.rh_otp_net.specs.Locks as locks
use Rattle.rh_otp_net.specs.Queue.{first_of_pair}
use Rattle.rh_otp_node.specs.declared.node.Phase.TheVariants as phase
use Rattle.rh_otp_node.specs.Kernel.{without_node}
use Rattle.rh_otp_node.specs.Live.{LiveView, is_up, is_ending}
use Rattle.rh_otp_node.specs.Remote as remote
use Rattle.rh_otp_node.specs.Turns.{terminated_by}
use Rattle.rh_otp_system.specs.declared.calls.Call.{Call}
use Rattle.rh_otp_system.specs.declared.moves.Move.{Move}
use Rattle.rh_otp_system.specs.declared.moves.Move.TheVariants as move
use Rattle.rh_otp_system.specs.declared.slow.Slow.{Slow}
use Rattle.rh_otp_system.specs.declared.slow.Slow.TheVariants as slow
use Rattle.rh_otp_system.specs.Calls.{process_of}
use Rattle.rh_otp_system.specs.Delivering as delivering
use Rattle.rh_otp_system.specs.Ending as ending
use Rattle.rh_otp_system.specs.Moves as moves
use Rattle.rh_otp_system.specs.Sending.{told}
use Rattle.rh_otp_system.specs.State.{SystemView, node_at, with_node, own_at, has_dist_at, is_alive_at, lives, process_in}
use Rattle.rh_otp_system.specs.Working as working
use Rattle.rh_otp_laws.proofs.Working.{terminated_on, unparked_on}
use Rattle.rh_otp_orders.specs.Orders.{is_call}
use Rattle.rh_otp_orders.proofs.Changing.{either}
use Rattle.rh_otp_orders.proofs.Going.{went}
use Rattle.rh_otp_orders.proofs.Moving.{IsAliveListed}
use Rattle.rh_otp_orders.proofs.Receiving.{Comes, receives, boots_on}
use Rattle.rh_otp_orders.proofs.Same.{Same}
use Rattle.rh_otp_orders.proofs.Turns.{terminated_own}
use Rattle.rh_otp_orders.proofs.Working.{same_process_in, same_own, writes, afters, connects, acts, takes_lock, works, owns_itself}
use Rattle.rh_otp_rehearsals.proofs.Asking.{same_alive_of, same_lives, same_can_go_on, goes_on, receives_call}
use Rattle.rh_otp_rehearsals.proofs.Twins.{Twins, Between, between_of, twin_between, twin_node, twin_alive, twin_process, twins_by, twins_written, twins_begin, went_twins}

twins_if : (p q : Bool) (s t u v : SystemView) → p ≡ q → (p ≡ true → Twins s t) → Twins u v → Twins (cond p s u) (cond q t v)
twins_if p q s t u v same g h = subst (λ (r : Bool). Twins (cond p s u) (cond r t v)) same (by p refl)
  where
    by : (r : Bool) → p ≡ r → Twins (cond r s u) (cond r t v)
    by true is = g is
    by false is = h

same_messages : (s t : SystemView) → Twins s t → s.messages ≡ t.messages
same_messages s t g = ap (λ (x : Between). x.messages) (twin_between s t g)

-- ---- a node ends

falls : (n : Node) (s t : SystemView) → Twins s t → Twins (ending.taken_down n s) (ending.taken_down n t)
unfolding ending.taken_down told
falls n s t g =
    let over : LiveView → LiveView = λ v. record v { phase = phase.Down } in
    let h : Twins (with_node n (over (node_at s n)) s) (with_node n (over (node_at t n)) t) =
    twins_written n _ _ s t (ap over (twin_node s t n g)) g in
    twins_by (between_of (ending.taken_down n s)) (between_of (ending.taken_down n t)) (with_node n (over (node_at s n)) s)
    (with_node n (over (node_at t n)) t)
    (λ i. record (twin_between s t g i) {
      alive = without_node n (twin_between s t g i).alive;
      locks = locks.without_node n (twin_between s t g i).locks;
      events = (twin_between s t g i).events ++ event.Ended n ∷ [];
    }) h

same_downs : (n gone : Node) (s t : SystemView) → Twins s t → ending.downs_at n gone s ≡ ending.downs_at n gone t
same_downs n gone s t g =
    ap (λ (v : LiveView). cond (is_up v) (min (remote.monitor_count gone v + 1) (2 ^ 64 - 1)) (remote.monitor_count gone v))
    (twin_node s t n g)

tells_down : (gone n : Node) (s t : SystemView) → Twins s t → Twins (ending.told_down gone n s) (ending.told_down gone n t)
tells_down gone n s t g =
    let u : SystemView = with_node n (remote.without_monitors gone (node_at s n)) s in
    let v : SystemView = with_node n (remote.without_monitors gone (node_at t n)) t in
    let h : Twins u v = twins_written n _ _ s t (ap (remote.without_monitors gone) (twin_node s t n g)) g in
    twins_by (between_of (ending.told_down gone n s)) (between_of (ending.told_down gone n t)) u v
    (λ i. record (twin_between u v h i) {
      messages = (twin_between u v h i).messages ++ replicate (same_downs n gone s t g i) (record {
        from = twin_process u v gone role.DistAc h i;
        to = twin_process u v n role.DistAc h i;
        message = message.NodeDown gone;
      });
    }) h

down_told : (gone n : Node) (s t : SystemView) → Twins s t → Twins (ending.down_told gone n s) (ending.down_told gone n t)
unfolding ending.down_told
down_told gone n s t g =
    twins_if _ _ _ _ _ _ (sym (ap (λ (u : SystemView). has_dist_at u n && links.are_linked gone n u.links) g.is))
    (λ is. tells_down gone n s t g) g

downs_told : (gone : Node) (nodes : List Node) (s t : SystemView) → Twins s t
    → Twins (ending.downs_told gone nodes s) (ending.downs_told gone nodes t)
downs_told gone [] s t g = g
downs_told gone (n ∷ nodes) s t g = downs_told gone nodes _ _ (down_told gone n s t g)

unlinks : (n : Node) (s t : SystemView) → Twins s t → Twins (ending.unlinked n s) (ending.unlinked n t)
unlinks n s t g =
    twins_by (between_of (ending.unlinked n s)) (between_of (ending.unlinked n t)) s t
    (sym (ap (λ (u : SystemView). between_of (ending.unlinked n u)) g.is)) g

pub ends : (n : Node) (s t : SystemView) → Twins s t → Twins (ending.ended n s) (ending.ended n t)
unfolding ending.ended
ends n s t g =
    let u : SystemView = ending.taken_down n s in
    let v : SystemView = ending.taken_down n t in
    let h : Twins u v = falls n s t g in
    unlinks n _ _
    (subst (λ (nodes : List Node). Twins (ending.downs_told n u.alive u) (ending.downs_told n nodes v))
    (ap (λ (x : Between). x.alive) (twin_between u v h)) (downs_told n u.alive u v h))

-- ---- a message arrives

pub comes_twins : {n : Node} {called : Bool} {a b u v : SystemView} → Twins a b → Comes n called true 0 a b a b u v → Twins u v
comes_twins {n} {called} {a} {b} {u} {v} g (inl same) = went_twins n called a b u v g (went same)
comes_twins {n} {called} {a} {b} {u} {v} g (inr over) =
    subst (λ (x : SystemView). Twins x v) (sym over.0) (subst (Twins (ending.ended n a)) (sym over.1) (ends n a b g))

receives_so : (r : Role) (n : Node) (m : Message) (a b : SystemView) → Twins a b → is_alive_at a n ≡ true
    → Twins (delivering.received_in r n m a) (delivering.received_in r n m b)
receives_so (role.Call number) n m a b g alive = receives_call number m a b g
receives_so r n m a b g alive =
    comes_twins g (receives r m (λ place call there same. absurd (false≢true (ap is_call same))) (omega arith)
    (twins_begin n (is_call r) (working.mail_count_at a n + 1) a b g alive))

arrives : (to : Process) (m : Message) (a b : SystemView) → Twins a b → Twins (delivering.arrived to m a) (delivering.arrived to m b)
arrives to m a b g =
    twins_if (lives a to) (lives b to) _ _ _ _ (same_lives to a b g) (λ is. receives_so to.role to.node m a b g (and_parts _ _ is).0) g

delivers_at : (place : ℕ) (found : Option Envelope) (s t : SystemView) → Twins s t
    → Twins (delivering.arrived_at place found s) (delivering.arrived_at place found t)
delivers_at place None s t g = g
delivers_at place (Some e) s t g =
    arrives e.to e.message _ _
    (twins_by (between_of (record s { messages = remove s.messages place })) (between_of
    (record t { messages = remove t.messages place })) s t
    (sym (ap (λ (u : SystemView). between_of (record u { messages = remove u.messages place })) g.is)) g)

delivers : (place : ℕ) (s t : SystemView) → Twins s t → Twins (delivering.delivered place s) (delivering.delivered place t)
unfolding delivering.delivered
delivers place s t g =
    subst (λ (ms : List Envelope). Twins (delivering.delivered place s)
    (delivering.arrived_at (first_of_pair ms place) (slice_get ms (first_of_pair ms place)) t)) (same_messages s t g)
    (delivers_at (first_of_pair s.messages place) (slice_get s.messages (first_of_pair s.messages place)) s t g)

-- ---- something slow

slowed : (what : Slow) (a b : SystemView) → Twins a b → Twins (delivering.slowed what a) (delivering.slowed what b)
unfolding delivering.slowed
slowed (slow.Connect one two) a b g =
    twins_if _ _ _ _ _ _ (λ i. twin_alive a b one g i && twin_alive a b two g i)
    (λ is. went_twins one false a b _ _ g (went (connects one two (twins_begin one false 0 a b g (and_parts _ _ is).0)))) g
slowed (slow.Boot n) a b g =
    twins_if _ _ _ _ _ _ (twin_alive a b n g) (λ is. went_twins n false a b _ _ g (went (boots_on None (twins_begin n false 0 a b g is)))) g

slow_done : (place : ℕ) (found : Option Slow) (s t : SystemView) → Twins s t
    → Twins (moves.slow_done_if place found s) (moves.slow_done_if place found t)
slow_done place None s t g = g
slow_done place (Some what) s t g =
    slowed what _ _
    (twins_by (between_of (record s { slow = remove s.slow place })) (between_of (record t { slow = remove t.slow place })) s t
    (sym (ap (λ (u : SystemView). between_of (record u { slow = remove u.slow place })) g.is)) g)

slows : (place : ℕ) (s t : SystemView) → Twins s t → Twins (moves.slow_done place s) (moves.slow_done place t)
slows place s t g =
    subst (λ (found : Option Slow). Twins (moves.slow_done place s) (moves.slow_done_if place found t))
    (ap (λ (x : Between). slice_get x.slow place) (twin_between s t g)) (slow_done place (slice_get s.slow place) s t g)

-- ---- a lock

same_awake : (p : Process) (s t : SystemView) → Twins s t → moves.is_awake p s ≡ moves.is_awake p t
same_awake p s t g = sym (ap (moves.is_awake p) g.is)

same_sync : (n : Node) (nodes : Option (List Node)) (s t : SystemView) → Twins s t
    → moves.is_sync_free n nodes s ≡ moves.is_sync_free n nodes t
same_sync n None s t g = refl
same_sync n (Some nodes) s t g =
    (λ i. same_awake (process_in s n role.DistAc) s t g i && locks.is_free Sync nodes (twin_between s t g i).locks)
    ∙ ap (λ (p : Process). moves.is_awake p t && locks.is_free Sync nodes t.locks) (twin_process s t n role.DistAc g)

same_lock_nodes : (n : Node) (s t : SystemView) → Twins s t → working.lock_nodes n s ≡ working.lock_nodes n t
same_lock_nodes n s t g =
    λ i. option_map (λ (nodes : List Node). same_alive_of nodes s t g i) (working.lock_in (twin_node s t n g i).dist)

same_take_lock : (n : Node) (s t : SystemView) → Twins s t → moves.can_take_lock n s ≡ moves.can_take_lock n t
same_take_lock n s t g =
    same_sync n (working.lock_nodes n s) s t g
    ∙ ap (λ (nodes : Option (List Node)). moves.is_sync_free n nodes t) (same_lock_nodes n s t g)

same_unpark_in : (n : Node) (dist : Option DistView) (s t : SystemView) → Twins s t
    → moves.can_unpark_in n dist s ≡ moves.can_unpark_in n dist t
same_unpark_in n None s t g = refl
same_unpark_in n (Some d) s t g = λ i.
    moves.is_idle d.stand && moves.is_some_app d.parked
    && locks.is_free (Alone (twin_process s t n role.DistAc g i)) (n ∷ []) (twin_between s t g i).locks

same_unpark : (n : Node) (s t : SystemView) → Twins s t → moves.can_unpark n s ≡ moves.can_unpark n t
same_unpark n s t g =
    same_unpark_in n (node_at s n).dist s t g ∙ ap (λ (v : LiveView). moves.can_unpark_in n v.dist t) (twin_node s t n g)

locked : (n : Node) (a b : SystemView) → Twins a b → is_alive_at a n ≡ true → Twins (moves.locked n a) (moves.locked n b)
locked n a b g alive =
    let ready : SystemView → SystemView = λ s. cond (moves.can_take_lock n s) (working.take_lock n s) (moves.unparked n s) in
    let room : ℕ = working.mail_count_at (ready a) n in
    let start : Same n false true room a b a b = twins_begin n false room a b g alive in
    let both : Same n false true room a b (ready a) (ready b) =
    either (moves.can_take_lock n a) (moves.can_take_lock n b) (same_take_lock n a b g) (takes_lock start)
    (writes remote.unparked unparked_on start) in
    went_twins n false a b _ _ g (went (works (omega arith) both))

-- ---- an end

stops : (n : Node) (a b : SystemView) → Twins a b → is_alive_at a n ≡ true → Twins (ending.stopped n a) (ending.stopped n b)
unfolding ending.stopped
stops n a b g alive =
    let start : Same n false true 0 a b a b = twins_begin n false 0 a b g alive in
    let over : Same n false true 0 a b (working.behind n (terminated_by a.cluster (own_at a n) n (node_at a n)) a)
    (working.behind n (terminated_by b.cluster (own_at b n) n (node_at b n)) b) =
    acts (terminated_by a.cluster (own_at a n) n (node_at a n)) (terminated_by b.cluster (own_at b n) n (node_at b n))
    (λ i. terminated_by (start.files.0 i) (same_own n start i) n (twin_node a b n g i)) (terminated_on a.cluster (own_at a n) n
    (node_at a n))
    (terminated_own a.cluster (own_at a n) n (node_at a n)) start in
    went_twins n false a b _ _ g (went (afters 1500 _ _ message.Ends (same_process_in n role.System over) refl (owns_itself n) over))

to_end : (n : Node) (a b : SystemView) → Twins a b → is_alive_at a n ≡ true → Twins (moves.to_end n a) (moves.to_end n b)
to_end n a b g alive =
    twins_if a.ends_soon b.ends_soon _ _ _ _ (ap (λ (x : Between). x.ends_soon) (twin_between a b g)) (λ soon. ends n a b g)
    (stops n a b g alive)

-- ---- every move

pub moves_both : (next : Move) (s t : SystemView) → Twins s t → IsAliveListed s → moves.IsPossible s next
    → Twins (moves.made next s) (moves.made next t)
unfolding moves.made
moves_both (move.Deliver place) s t g listed possible = delivers place s t g
moves_both (move.Slow place) s t g listed possible = slows place s t g
moves_both (move.Lock n) s t g listed possible = locked n s t g (listed n possible.1)
moves_both (move.Call place) s t g listed possible = goes_on place s t g
moves_both (move.End n) s t g listed possible = to_end n s t g (listed n possible.1)

quiet_too : (s t : SystemView) → Twins s t → moves.IsQuiet s → moves.IsQuiet t
quiet_too s t g quiet = (
  sym (same_messages s t g) ∙ quiet.0,
  sym (ap (λ (x : Between). x.slow) (twin_between s t g)) ∙ quiet.1,
)

among_too : (n : Node) (s t : SystemView) → Twins s t → moves.IsAmong n s.alive → moves.IsAmong n t.alive
among_too n s t g among = subst (λ (x : Between). moves.IsAmong n x.alive) (twin_between s t g) among

-- what is possible in the one is possible in the other
pub possible_too : (next : Move) (s t : SystemView) → Twins s t → moves.IsPossible s next → moves.IsPossible t next
possible_too (move.Deliver place) s t g possible = subst (λ (x : Between). place < length x.messages) (twin_between s t g) possible
possible_too (move.Slow place) s t g possible = (
  sym (same_messages s t g) ∙ possible.0,
  subst (λ (x : Between). place < length x.slow) (twin_between s t g) possible.1,
)
possible_too (move.Lock n) s t g possible = (
  quiet_too s t g possible.0,
  among_too n s t g possible.1,
  (λ i. sym (same_take_lock n s t g) i || sym (same_unpark n s t g) i) ∙ possible.2,
)
possible_too (move.Call place) s t g possible =
    let call : Call = possible.1.0 in (
      quiet_too s t g possible.0,
      (
        call,
        sym (ap (λ (x : Between). slice_get x.calls place) (twin_between s t g)) ∙ possible.1.1,
        (λ i. sym (same_awake (process_of call) s t g) i && sym (same_can_go_on call s t g) i) ∙ possible.1.2,
      ),
    )
possible_too (move.End n) s t g possible = (
  quiet_too s t g possible.0,
  among_too n s t g possible.1,
  sym (λ i. is_ending (twin_node s t n g i) && ((twin_between s t g i).ends_soon || not (twin_node s t n g i).is_stopped)) ∙ possible.2,
)
