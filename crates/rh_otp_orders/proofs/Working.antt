-- Each rule of a live node goes the same way in two systems in which all is the same that it reads: what is sent and told, connected,
-- worked off and locked.
use Rattle.std.proofs.Common.{◌≡◌, ◌≤◌, ℕ, zero, suc, Bool, true, false, cond, ◌==◌, ◌+◌, ◌^◌, ◌++◌, nat_lt, nat_le, List, [], ◌∷◌, filter, slice_get, Option, Some, None, unwrap_or, refl, sym, ap, subst, ◌∙◌, inl, inr, length, arith}
use Rattle.std.specs.Option.{option_map, option_and_then}
use Rattle.std.proofs.lemmas.Bool.{eqb-true, eq-eqb, false≢true, lt-leb}
use Rattle.std.proofs.lemmas.List.{length-append}
use Rattle.std.proofs.lemmas.List.Elements.{All-nil, All-cons, All-head, All-tail}
use Rattle.rh_model.specs.declared.node.Node.{Node}
use Rattle.rh_otp_model.specs.declared.message.Message.{Message}
use Rattle.rh_otp_model.specs.declared.message.Message.TheVariants as message
use Rattle.rh_otp_model.specs.declared.output.Envelope.{Envelope}
use Rattle.rh_otp_model.specs.declared.output.Event.{Event}
use Rattle.rh_otp_model.specs.declared.output.Event.TheVariants as event
use Rattle.rh_otp_model.specs.declared.output.Output.{Output}
use Rattle.rh_otp_model.specs.declared.output.Output.TheVariants as output
use Rattle.rh_otp_model.specs.declared.output.Requester.TheVariants.{Sync, Alone}
use Rattle.rh_otp_model.specs.declared.process.Process.{Process}
use Rattle.rh_otp_model.specs.declared.process.Role.{Role}
use Rattle.rh_otp_model.specs.declared.process.Role.TheVariants as role
use Rattle.rh_otp_model.specs.declared.wait.OwnFile.{OwnFile}
use Rattle.rh_otp_model.specs.Own.{OwnView}
use Rattle.rh_otp_model.specs.Processes.{process_at}
use Rattle.rh_otp_dist.specs.declared.outside.Need.{Need}
use Rattle.rh_otp_dist.specs.declared.outside.Need.TheVariants as need
use Rattle.rh_otp_dist.specs.Outside as outside
use Rattle.rh_otp_dist.specs.State.{DistView}
use Rattle.rh_otp_net.specs.declared.links.Link.{Link}
use Rattle.rh_otp_net.specs.declared.timers.Timer.{Timer}
use Rattle.rh_otp_net.specs.Links as links
use Rattle.rh_otp_net.specs.Locks.{is_free, taken, freed}
use Rattle.rh_otp_node.specs.Live.{LiveView, with_kind}
use Rattle.rh_otp_node.specs.Remote as remote
use Rattle.rh_otp_node.specs.Turns.{weight_of, handled_by, introduced_by}
use Rattle.rh_otp_system.specs.declared.cell.Cell.{Cell}
use Rattle.rh_otp_system.specs.declared.slow.Slow.{Slow}
use Rattle.rh_otp_system.specs.declared.slow.Slow.TheVariants.{Connect}
use Rattle.rh_otp_system.specs.State.{SystemView, no_own, live_in, live_at, node_at, with_node, own_at, has_dist_at, is_alive_at, process_in}
use Rattle.rh_otp_system.specs.Sending.{sent, observed, told, after}
use Rattle.rh_otp_system.specs.Connecting as connecting
use Rattle.rh_otp_system.specs.Outputs.{carried_out, all_carried_out}
use Rattle.rh_otp_system.specs.Working as working
use Rattle.rh_otp_laws.proofs.Nodes.{node_written}
use Rattle.rh_otp_laws.proofs.Turn.{LivesOn}
use Rattle.rh_otp_laws.proofs.Working.{changed, handled_on, introduced_on, mailed_on}
use Rattle.rh_otp_orders.specs.Orders.{answers_of, node_of_timer, node_told}
use Rattle.rh_otp_orders.proofs.Own.{IsOwn, AreOwn}
use Rattle.rh_otp_orders.proofs.Changing.{wrote, puts, puts_any, sets, sees, slows_any, linked, locked, with_room, answers_it, either, either_if}
use Rattle.rh_otp_orders.proofs.Same.{Same, Any, IsOf, IsRoom, Near, Owns, Grew, adds, all_any, same_here, same_life, same_alive}
use Rattle.rh_otp_orders.proofs.Turns.{handled_own, introduced_own}

-- ---- Sending

pub same_process_in : {n : Node} {called strange : Bool} {room : ℕ} {a b s t : SystemView} (m : Node) (r : Role)
    → Same n called strange room a b s t → process_in s m r ≡ process_in t m r
same_process_in m r g = λ i. process_at (record { node = m; life = same_life m g i }) r

pub sends : {n : Node} {called strange : Bool} {room : ℕ} {a b s t : SystemView} (from from' to to' : Process) (m : Message) → from ≡ from'
    → to ≡ to'
    → IsOf n a (record { from = from; to = to; message = m }) → Same n called strange room a b s t
    → Same n called strange room a b (sent from to m s) (sent from' to' m t)
sends {n} {called} {strange} {room} {a} from from' to to' m is_from is_to of g =
    puts _ _ (λ i. record { from = is_from i; to = is_to i; message = m } ∷ [])
    (All-cons (IsOf n a) (record { from = from; to = to; message = m }) [] of (All-nil (IsOf n a))) g

-- of a process of the node to another one
pub sends_own : {n : Node} {called strange : Bool} {room : ℕ} {a b s t : SystemView} (r : Role) (to to' : Process) (m : Message) → to ≡ to'
    → Same n called strange room a b s t
    → Same n called strange room a b (sent (process_in s n r) to m s) (sent (process_in t n r) to' m t)
sends_own {n} r to to' m is g = sends _ _ to to' m (same_process_in n r g) is (g.awake, inl refl) g

notes : {n : Node} {called strange : Bool} {room : ℕ} {a b s t : SystemView} (m : Node) (f : LiveView → LiveView)
    → ((v : LiveView) → LivesOn v (f v)) → n ≡ m
    → Same n called strange room a b s t
    → Same n called strange room a b (with_node m (f (node_at s m)) s) (with_node m (f (node_at t m)) t)
notes {n} {called} {strange} {room} {a} {b} {s} {t} m f on is g =
    subst (λ (k : Node). Same n called strange room a b (with_node k (f (node_at s k)) s) (with_node k (f (node_at t k)) t)) is
    (wrote (f (node_at s n)) (f (node_at t n)) (ap f (same_here g)) (on (node_at s n)) g)

-- a process of the node writes the node
pub writes : {n : Node} {called strange : Bool} {room : ℕ} {a b s t : SystemView} (f : LiveView → LiveView)
    → ((v : LiveView) → LivesOn v (f v)) → Same n called strange room a b s t
    → Same n called strange room a b (with_node n (f (node_at s n)) s) (with_node n (f (node_at t n)) t)
writes {n} f on g = notes n f on refl g

observes : {n : Node} {called strange : Bool} {room : ℕ} {a b s t : SystemView} (e : Event) → Owns node_told n e
    → Same n called strange room a b s t → Same n called strange room a b (observed e s) (observed e t)
observes {n} (event.Started x m kind) own g =
    notes m (with_kind x kind) (λ v. (refl, refl)) (λ i. record { 0 = eqb-true n.0 m.0 own i }) g
observes e own g = g

pub tells : {n : Node} {called strange : Bool} {room : ℕ} {a b s t : SystemView} (e : Event) → Owns node_told n e
    → Same n called strange room a b s t → Same n called strange room a b (told e s) (told e t)
unfolding told
tells e own g = sees e (inl own) (observes e own g)

abbrev timer_at : ℕ → ℕ → Process → Message → Timer
timer_at due step to m = record { due = due; step = step; to = to; message = m }

sets_timer : {n : Node} {called strange : Bool} {room : ℕ} {a b s t : SystemView} (time : ℕ) (to to' : Process) (m : Message) → to ≡ to'
    → Owns node_of_timer n (timer_at 0 0 to m)
    → Same n called strange room a b s t
    → Same n called strange room a b (record s { timers = s.timers ++ timer_at (s.clock + time) s.step to m ∷ [] })
    (record t { timers = t.timers ++ timer_at (t.clock + time) t.step to' m ∷ [] })
sets_timer {n} {called} {strange} {room} {a} {b} {s} {t} time to to' m is own g =
    sets _ _ (λ i. timer_at (g.clock.0 i + time) (g.clock.1 i) (is i) m ∷ [])
    (All-cons (Owns node_of_timer n) (timer_at (s.clock + time) s.step to m) [] own (All-nil (Owns node_of_timer n))) g

pub afters : {n : Node} {called strange : Bool} {room : ℕ} {a b s t : SystemView} (time : ℕ) (to to' : Process) (m : Message) → to ≡ to'
    → to.node ≡ n
    → Owns node_of_timer n (timer_at 0 0 to m) → Same n called strange room a b s t
    → Same n called strange room a b (after time to m s) (after time to' m t)
unfolding after
afters {n} {called} {strange} {room} {a} {b} {s} {t} time to to' m is at own g =
    either (time == 0) (time == 0) refl
    (sends _ _ to to' m (λ i. record (is i) { role = role.Timer }) is (g.awake, inl (ap (λ (k : Node). k.0) at)) g)
    (either (nat_lt 4294967295 time) (nat_lt 4294967295 time) refl g
    (either (nat_lt (s.clock + time) (2 ^ 64)) (nat_lt (t.clock + time) (2 ^ 64)) (λ i. nat_lt (g.clock.0 i + time) (2 ^ 64))
    (sets_timer time to to' m is own g) g))

-- ---- Connecting

tells_up : {n : Node} {called strange : Bool} {room : ℕ} {a b s t : SystemView} (one two : Node) → Grew a s
    → Same n called strange room a b s t
    → Grew a (connecting.tell_up one two s) × Same n called strange room a b (connecting.tell_up one two s) (connecting.tell_up one two t)
tells_up {n} {called} {strange} {room} {a} {b} {s} {t} one two grew g =
    by (connecting.waits_in (node_at s one).phase) (connecting.waits_in (node_at t one).phase)
    (λ near. ap connecting.waits_in (g.phases near one))
  where
    up : SystemView → Envelope
    up x = record { from = process_in x one role.NetKernel; to = process_in x one role.KernelConfig; message = message.NodeUp two }

    same_up : up s ≡ up t
    same_up = λ i. record {
      from = same_process_in one role.NetKernel g i;
      to = same_process_in one role.KernelConfig g i;
      message = message.NodeUp two;
    }

    by : (p q : Bool) → (Near a b → p ≡ q) → Grew a (cond p (connecting.with_up one two s) s)
        × Same n called strange room a b (cond p (connecting.with_up one two s) s) (cond q (connecting.with_up one two t) t)
    by true true same = (
      grew,
      puts_any _ _ grew
          (λ near. adds Any a.messages b.messages s.messages t.messages (up s ∷ []) (up t ∷ []) (ap (λ (e : Envelope). e ∷ []) same_up)
          (all_any (up s ∷ [])) (g.sent.1 near)) g,
    )
    by true false same = (grew, puts_any _ t.messages grew (λ near. absurd (false≢true (sym (same near)))) g)
    by false true same = (grew, puts_any s.messages _ grew (λ near. absurd (false≢true (same near))) g)
    by false false same = (grew, g)

links_two : {n : Node} {called strange : Bool} {room : ℕ} {a b s t : SystemView} (one two : Node) → Same n called strange room a b s t
    → Grew a (connecting.link one two s) × Same n called strange room a b (connecting.link one two s) (connecting.link one two t)
links_two {n} {called} {strange} {room} {a} {b} {s} {t} one two g =
    let l : Link = links.link one two in
    let there : Grew a (record s { links = s.links ++ l ∷ [] })
    × Same n called strange room a b (record s { links = s.links ++ l ∷ [] }) (record t { links = t.links ++ l ∷ [] }) = linked l g in
    let up : Grew a (connecting.tell_up one two (record s { links = s.links ++ l ∷ [] }))
    × Same n called strange room a b (connecting.tell_up one two (record s { links = s.links ++ l ∷ [] }))
    (connecting.tell_up one two (record t { links = t.links ++ l ∷ [] })) = tells_up one two there.0 there.1 in
    tells_up two one up.0 up.1

slow_links : {n : Node} {called strange : Bool} {room : ℕ} {a b : SystemView} (more : List Link) (s t : SystemView) → Grew a s
    → Same n called strange room a b s t
    → Same n called strange room a b (connecting.with_slow_links more s) (connecting.with_slow_links more t)
slow_links [] s t grew g = g
slow_links {n} {called} {strange} {room} {a} {b} (l ∷ more) s t grew g =
    let what : Slow = Connect l.0 l.1 in
    slow_links more (connecting.with_slow what s) (connecting.with_slow what t) grew
    (slows_any _ _ grew (λ near. adds Any a.slow b.slow s.slow t.slow (what ∷ []) (what ∷ []) refl (all_any (what ∷ [])) (g.slow.1 near)) g)

pub connects : {n : Node} {called strange : Bool} {room : ℕ} {a b s t : SystemView} (one two : Node) → Same n called strange room a b s t
    → Same n called strange room a b (connecting.connect one two s) (connecting.connect one two t)
unfolding connecting.connect
connects {n} {called} {strange} {room} {a} {b} {s} {t} one two g =
    let both : Grew a (connecting.link one two s) × Same n called strange room a b (connecting.link one two s)
    (connecting.link one two t) = links_two one two g in
    either (links.are_linked one two s.links) (links.are_linked one two t.links) (ap (links.are_linked one two) g.links) g
    (subst (λ (more : List Link). Same n called strange room a b
    (connecting.with_slow_links (links.to_connect one two s.links) (connecting.link one two s))
    (connecting.with_slow_links more (connecting.link one two t))) (ap (links.to_connect one two) g.links)
    (slow_links (links.to_connect one two s.links) (connecting.link one two s) (connecting.link one two t) both.0 both.1))

pub reaches : {n : Node} {called strange : Bool} {room : ℕ} {a b s t : SystemView} (m other : Node) → Same n called strange room a b s t
    → Same n called strange room a b (connecting.reach m other s) (connecting.reach m other t)
reaches m other g = either (m.0 == other.0) (m.0 == other.0) refl g (connects m other g)

abbrev own_in : List OwnFile → Node → OwnView
own_in files n = unwrap_or (option_map (λ (f : OwnFile). f.own) (slice_get files n.0)) no_own

pub same_own : {n : Node} {called strange : Bool} {room : ℕ} {a b s t : SystemView} (m : Node) → Same n called strange room a b s t
    → own_at s m ≡ own_at t m
same_own m g = λ i. own_in (g.files.1 i) m

pub same_has_dist : {n : Node} {called strange : Bool} {room : ℕ} {a b s t : SystemView} (m : Node) → Same n called strange room a b s t
    → has_dist_at s m ≡ has_dist_at t m
same_has_dist m g = λ i. (same_own m g i).has_dist

sends_reached : {n : Node} {called strange : Bool} {room : ℕ} {a b s t : SystemView} (to : Node) (m : Message)
    → Same n called strange room a b s t
    → Same n called strange room a b (connecting.send_reached n to m s) (connecting.send_reached n to m t)
sends_reached {n} {called} {strange} {room} {a} {b} {s} {t} to m g =
    either (has_dist_at s to) (has_dist_at t to) (same_has_dist to g)
    (sends_own role.DistAc _ _ m (same_process_in to role.DistAc g) g) g

sends_to_dist : {n : Node} {called strange : Bool} {room : ℕ} {a b s t : SystemView} (to : Node) (m : Message)
    → Same n called strange room a b s t
    → Same n called strange room a b (connecting.send_to_dist n to m s) (connecting.send_to_dist n to m t)
sends_to_dist {n} {called} {strange} {room} {a} {b} {s} {t} to m g =
    either (is_alive_at s to) (is_alive_at t to) (same_alive to g) (sends_reached to m (reaches n to g)) g

-- ---- Outputs

monitors : {n : Node} {called strange : Bool} {room : ℕ} {a b s t : SystemView} (other : Node) → Same n called strange room a b s t
    → Same n called strange room a b (connecting.monitor n other s) (connecting.monitor n other t)
monitors {n} {called} {strange} {room} {a} {b} {s} {t} other g =
    either_if (is_alive_at s other) (is_alive_at t other) (same_alive other g)
    (λ alive. writes (remote.monitored other) (λ v. changed (outside.with_monitor other) v.dist v) (reaches n other g))
    (λ dead. sends _ _ _ _ (message.NodeDown other) (same_process_in other role.DistAc g) (same_process_in n role.DistAc g)
    (g.awake, inr (refl, sym (g.lives other).1 ∙ dead)) g)

pub owns_itself : (n : Node) → (n.0 == n.0) ≡ true
owns_itself n = eq-eqb n.0 n.0 refl

carries_out : {n : Node} {called strange : Bool} {room : ℕ} {a b s t : SystemView} (o : Output) → IsOwn n o
    → Same n called strange room a b s t → Same n called strange room a b (carried_out n o s) (carried_out n o t)
carries_out (output.Send e) own g =
    sends e.from e.from e.to e.to e.message refl refl (g.awake, inl (ap (λ (k : Node). k.0) own)) g
carries_out (output.Tell e) own g = tells e own g
carries_out (output.ToDist to m) own g = sends_to_dist to m g
carries_out (output.Monitor other) own g = monitors other g
carries_out (output.Free requester owner) own g = locked _ _ (ap (freed requester owner) g.locks) g
carries_out {n} (output.After time m) own g = afters time _ _ m (same_process_in n role.DistAc g) refl (owns_itself n) g

carries_all_out : {n : Node} {called strange : Bool} {room : ℕ} {a b : SystemView} (outputs : List Output) (s t : SystemView)
    → AreOwn n outputs
    → Same n called strange room a b s t
    → Same n called strange room a b (all_carried_out n outputs s) (all_carried_out n outputs t)
carries_all_out [] s t own g = g
carries_all_out {n} (o ∷ outputs) s t own g =
    carries_all_out outputs (carried_out n o s) (carried_out n o t) (All-tail (IsOwn n) o outputs own)
    (carries_out o (All-head (IsOwn n) o outputs own) g)

-- ---- Working

pub acts : {n : Node} {called strange : Bool} {room : ℕ} {a b s t : SystemView} (p q : LiveView × List Output) → p ≡ q
    → LivesOn (node_at s n) p.0 → AreOwn n p.1
    → Same n called strange room a b s t → Same n called strange room a b (working.behind n p s) (working.behind n q t)
acts {n} {called} {strange} {room} {a} {b} {s} {t} p q is on own g =
    subst (λ (outputs : List Output). Same n called strange room a b (all_carried_out n p.1 (with_node n p.0 s))
    (all_carried_out n outputs (with_node n q.0 t)))
    (ap (λ (x : LiveView × List Output). x.1) is)
    (carries_all_out p.1 _ _ own (wrote p.0 q.0 (ap (λ (x : LiveView × List Output). x.0) is) on g))

prepares : {n : Node} {called strange : Bool} {room : ℕ} {a b s t : SystemView} (w : Need) → Same n called strange (suc room) a b s t
    → Same n called strange room a b (working.prepared n w s) (working.prepared n w t)
prepares {n} {called} {strange} {room} need.OwnLock g =
    with_room room (omega arith)
    (locked _ _ (λ i. taken (Alone (same_process_in n role.DistAc g i)) (same_process_in n role.DistAc g i) (n ∷ []) (g.locks i)) g)
prepares (need.Answer other app) g = answers_it other app g
prepares {n} {called} {strange} {room} w g = with_room room (omega arith) g

abbrev dists_in : List OwnFile → List Node → List Node
dists_in files nodes = filter (λ (m : Node). (own_in files m).has_dist) nodes

introduces : {n : Node} {called strange : Bool} {room : ℕ} {a b s t : SystemView} → Same n called strange room a b s t
    → Same n called strange room a b (working.introduced n s) (working.introduced n t)
introduces {n} {called} {strange} {room} {a} {b} {s} {t} g =
    let others : List Node = working.dists_of s (links.linked_with n s.links) in
    acts (working.introduction n others s) (working.introduction n (working.dists_of t (links.linked_with n t.links)) t)
    (λ i. introduced_by (g.files.0 i) (same_own n g i) n (dists_in (g.files.1 i) (links.linked_with n (g.links i))) (same_here g i))
    (introduced_on s.cluster (own_at s n) n others (node_at s n)) (introduced_own s.cluster (own_at s n) n others (node_at s n)) g

takes_lock_at : {n : Node} {called strange : Bool} {room : ℕ} {a b s t : SystemView} (nodes : List Node)
    → Same n called strange room a b s t
    → Same n called strange room a b (working.take_lock_at n nodes s) (working.take_lock_at n nodes t)
takes_lock_at {n} {called} {strange} {room} {a} {b} {s} {t} nodes g =
    let locked_so : Same n called strange room a b (working.with_sync_lock n nodes s) (working.with_sync_lock n nodes t) =
    locked _ _ (λ i. taken Sync (same_process_in n role.DistAc g i) nodes (g.locks i)) g in
    either (is_free Sync nodes s.locks) (is_free Sync nodes t.locks) (ap (is_free Sync nodes) g.locks) (introduces locked_so) locked_so

takes_lock_of : {n : Node} {called strange : Bool} {room : ℕ} {a b s t : SystemView} (nodes : Option (List Node))
    → Same n called strange room a b s t
    → Same n called strange room a b (working.take_lock_of n nodes s) (working.take_lock_of n nodes t)
takes_lock_of None g = g
takes_lock_of (Some nodes) g = takes_lock_at nodes g

same_lock_nodes : {n : Node} {called strange : Bool} {room : ℕ} {a b s t : SystemView} → Same n called strange room a b s t
    → working.lock_nodes n s ≡ working.lock_nodes n t
same_lock_nodes {n} g =
    λ i. option_map (λ (nodes : List Node). filter (λ (m : Node). same_alive m g i) nodes) (working.lock_in (same_here g i).dist)

pub takes_lock : {n : Node} {called strange : Bool} {room : ℕ} {a b s t : SystemView} → Same n called strange room a b s t
    → Same n called strange room a b (working.take_lock n s) (working.take_lock n t)
unfolding working.take_lock
takes_lock {n} {called} {strange} {room} {a} {b} {s} {t} g =
    subst (λ (nodes : Option (List Node)). Same n called strange room a b (working.take_lock_of n (working.lock_nodes n s) s)
    (working.take_lock_of n nodes t))
    (same_lock_nodes g) (takes_lock_of (working.lock_nodes n s) g)

goes : {n : Node} {called strange : Bool} {room : ℕ} {a b s t : SystemView} → Same n called strange room a b s t
    → Same n called strange room a b (working.gone n s) (working.gone n t)
unfolding working.gone
goes {n} {called} {strange} {room} {a} {b} {s} {t} g =
    takes_lock (wrote _ _ (λ i. remote.waiting_for_lock (links.around n (g.links i)) (same_here g i))
    (changed (outside.at_lock (working.around s n)) (node_at s n).dist (node_at s n)) g)

goes_if : {n : Node} {called strange : Bool} {room : ℕ} {a b s t : SystemView} (w : Need) → Same n called strange room a b s t
    → Same n called strange room a b (working.gone_if n w s) (working.gone_if n w t)
goes_if need.Lock g = goes g
goes_if w g = g

turns : {n : Node} {called strange : Bool} {room : ℕ} {a b s t : SystemView} (has_lock burning : Bool) → Same n called strange room a b s t
    → Same n called strange room a b (working.behind_turn n has_lock burning s) (working.behind_turn n has_lock burning t)
turns {n} {called} {strange} {room} {a} {b} {s} {t} has_lock burning g =
    acts (working.turn_of n (working.asked_at n has_lock burning s) s) (working.turn_of n (working.asked_at n has_lock burning t) t)
    (λ i. handled_by (g.files.0 i) (same_own n g i) n
    (record { weight = weight_of (g.files.0 i) n (same_here g i); has_lock = has_lock; burns = burning }) (same_here g i))
    (handled_on s.cluster (own_at s n) n (working.asked_at n has_lock burning s) (node_at s n))
    (handled_own s.cluster (own_at s n) n (working.asked_at n has_lock burning s) (node_at s n)) g

handles_for : {n : Node} {called strange : Bool} {room : ℕ} {a b s t : SystemView} (w : Need) (told : Bool × Bool)
    → Same n called strange (suc room) a b s t
    → Same n called strange room a b (working.handled_for n w told s) (working.handled_for n w told t)
handles_for w told g = goes_if w (turns told.0 told.1 (prepares w g))

-- the bound is reached at both counts or at neither
same_bound : (room j k : ℕ) → IsRoom (suc room) j k → nat_le 20 j ≡ nat_le 20 k
same_bound room j k (inl same) = ap (nat_le 20) same
same_bound room j k (inr below) =
    let first : j + suc room ≤ 20 = below.0 in let second : k + suc room ≤ 20 = below.1 in
    lt-leb 20 j (omega (arith, first)) ∙ sym (lt-leb 20 k (omega (arith, second)))

same_asked : {n : Node} {called strange : Bool} {room : ℕ} {a b s t : SystemView} (w : Need) → Same n called strange (suc room) a b s t
    → working.asked_for n w s ≡ working.asked_for n w t
same_asked {n} need.OwnLock g = λ i. (is_free (Alone (same_process_in n role.DistAc g i)) (n ∷ []) (g.locks i), false)
same_asked {n} {called} {strange} {room} {a} {b} {s} {t} (need.Answer other app) g =
    ap (λ (burns : Bool). (false, burns)) (same_bound room (answers_of s n other app) (answers_of t n other app) (g.counts other app))
same_asked w g = refl

handles : {n : Node} {called strange : Bool} {room : ℕ} {a b s t : SystemView} → Same n called strange (suc room) a b s t
    → Same n called strange room a b (working.handled n s) (working.handled n t)
unfolding working.handled
handles {n} {called} {strange} {room} {a} {b} {s} {t} g =
    let w : Need = working.need_at s n in
    let asked : working.asked_for n w s ≡ working.asked_for n w t = same_asked w g in
    let needs : w ≡ working.need_at t n = ap remote.need_of (same_here g) in
    subst (λ (x : Need). Same n called strange room a b (working.handled_for n w (working.asked_for n w s) s)
    (working.handled_for n x (working.asked_for n x t) t))
    needs
    (subst (λ (told : Bool × Bool). Same n called strange room a b (working.handled_for n w (working.asked_for n w s) s)
    (working.handled_for n w told t)) asked
    (handles_for w (working.asked_for n w s) g))

works_for : {n : Node} {called strange : Bool} {a b : SystemView} (k : ℕ) (s t : SystemView) → Same n called strange k a b s t
    → Same n called strange 0 a b (working.work_for k n s) (working.work_for k n t)
works_for zero s t g = g
works_for {n} (suc k) s t g =
    either (working.has_next_at s n) (working.has_next_at t n) (ap remote.has_next (same_here g))
    (works_for k (working.handled n s) (working.handled n t) (handles g)) (with_room 0 (omega arith) g)

pub works : {n : Node} {called strange : Bool} {room : ℕ} {a b s t : SystemView} → working.mail_count_at s n ≤ room
    → Same n called strange room a b s t
    → Same n called strange 0 a b (working.work n s) (working.work n t)
unfolding working.work
works {n} {called} {strange} {room} {a} {b} {s} {t} enough g =
    subst (λ (k : ℕ). Same n called strange 0 a b (working.work_for (working.mail_count_at s n) n s) (working.work_for k n t))
    (ap remote.mail_count (same_here g)) (works_for (working.mail_count_at s n) s t (with_room (working.mail_count_at s n) enough g))

-- one message more in its mailbox, if it has a dist_ac
mailed_count : (m : Message) (v : LiveView) (o : Option DistView) → v.dist ≡ o
    → remote.mail_in (remote.with_change (outside.with_message m) o v).dist ≤ remote.mail_in o + 1
mailed_count m v None is = subst (λ (o : Option DistView). remote.mail_in o ≤ 1) (sym is) (omega arith)
mailed_count m v (Some d) is = let more : length (d.mail ++ m ∷ []) ≡ length d.mail + 1 = length-append d.mail (m ∷ []) in omega
    (arith, more)

pub gets_mail : {n : Node} {called strange : Bool} {room : ℕ} {a b s t : SystemView} (m : Message) → working.mail_count_at s n + 1 ≤ room
    → Same n called strange room a b s t
    → Same n called strange 0 a b (working.mailed n m s) (working.mailed n m t)
unfolding working.mailed
gets_mail {n} {called} {strange} {room} {a} {b} {s} {t} m enough g =
    let there : live_at s n ≡ Some g.here.0 = ap (λ (o : Option Cell). option_and_then live_in o) g.here.1 in
    let written : node_at (working.with_mail n m s) n ≡ remote.mailed m (node_at s n) =
    node_written s n g.here.0 (remote.mailed m (node_at s n)) there in
    let one_more : remote.mail_count (remote.mailed m (node_at s n)) ≤ working.mail_count_at s n + 1 =
    mailed_count m (node_at s n) (node_at s n).dist refl in
    let count : working.mail_count_at (working.with_mail n m s) n ≡ remote.mail_count
    (remote.mailed m (node_at s n)) = ap remote.mail_count written in
    works (omega (arith, count, one_more, enough)) (writes (remote.mailed m) (mailed_on m) g)
