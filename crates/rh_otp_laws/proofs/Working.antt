-- Each rule of a live node is a turn of it: what is sent and told, connected, worked off and locked.
use Rattle.std.proofs.Common.{◌≡◌, ◌<◌, ℕ, zero, suc, Bool, false, ◌==◌, ◌+◌, ◌^◌, nat_lt, List, [], ◌∷◌, Option, Some, None, refl, arith}
use Rattle.std.proofs.lemmas.Bool.{eqb-false}
use Rattle.rh_model.specs.ClusterView.{ClusterView}
use Rattle.rh_model.specs.declared.node.Node.{Node}
use Rattle.rh_otp_model.specs.declared.message.Message.{Message}
use Rattle.rh_otp_model.specs.declared.output.Event.{Event}
use Rattle.rh_otp_model.specs.declared.output.Event.TheVariants as event
use Rattle.rh_otp_model.specs.declared.output.Output.{Output}
use Rattle.rh_otp_model.specs.declared.output.Output.TheVariants as output
use Rattle.rh_otp_model.specs.declared.output.Requester.TheVariants.{Sync, Alone}
use Rattle.rh_otp_model.specs.declared.process.Process.{Process}
use Rattle.rh_otp_model.specs.declared.process.Role.TheVariants as role
use Rattle.rh_otp_model.specs.Own.{OwnView}
use Rattle.rh_otp_dist.specs.declared.outside.Need.{Need}
use Rattle.rh_otp_dist.specs.declared.outside.Need.TheVariants as need
use Rattle.rh_otp_dist.specs.declared.turn.Asked.{Asked}
use Rattle.rh_otp_dist.specs.Outside as outside
use Rattle.rh_otp_dist.specs.State.{DistView}
use Rattle.rh_otp_net.specs.declared.links.Link.{Link}
use Rattle.rh_otp_net.specs.Links as links
use Rattle.rh_otp_net.specs.Locks.{is_free}
use Rattle.rh_otp_node.specs.Live.{LiveView}
use Rattle.rh_otp_node.specs.Remote as remote
use Rattle.rh_otp_node.specs.Turns.{controlled_by, terminated_by, handled_by, handled_with, introduced_by, introduced_with}
use Rattle.rh_otp_system.specs.State.{SystemView, node_at, own_at, has_dist_at, is_alive_at, process_in}
use Rattle.rh_otp_system.specs.Sending.{observed, told, after}
use Rattle.rh_otp_system.specs.Connecting as connecting
use Rattle.rh_otp_system.specs.Outputs.{carried_out, all_carried_out}
use Rattle.rh_otp_system.specs.Working as working
use Rattle.rh_otp_laws.proofs.Turn.{LivesOn, Turn, nothing, wrote, noted, seen, put, set, linked, slowed, took, freed, answered, ◌then◌, either, either_if}

-- ---- Sending

observes : (n : Node) (e : Event) (s : SystemView) → Turn n s (observed e s)
observes n (event.Started a m kind) s = noted s m a kind
observes n e s = nothing s

pub tells : (n : Node) (e : Event) (s : SystemView) → Turn n s (told e s)
unfolding told
tells n e s = observes n e s then seen (observed e s) e

-- a time that isn't 0 is over later than now
later : (time clock : ℕ) → (time == 0) ≡ false → clock < clock + time
later time clock is = let some : time ≡ 0 → ⊥ = eqb-false time 0 is in omega arith

pub sets : (n : Node) (time : ℕ) (to : Process) (m : Message) (s : SystemView) → Turn n s (after time to m s)
unfolding after
sets n time to m s =
    either_if n (time == 0) _ _ s (λ at_once. put s _)
    (λ some. either n (nat_lt 4294967295 time) _ _ s (nothing s)
    (either n (nat_lt (s.clock + time) (2 ^ 64)) _ _ s (set s (s.clock + time) to m (later time s.clock some)) (nothing s)))

-- ---- Connecting

tells_up : (n one two : Node) (s : SystemView) → Turn n s (connecting.tell_up one two s)
tells_up n one two s = either n (connecting.waits_in (node_at s one).phase) _ _ s (put s _) (nothing s)

links_two : (n one two : Node) (s : SystemView) → Turn n s (connecting.link one two s)
links_two n one two s = linked s _ then tells_up n one two _ then tells_up n two one _

slow_links : (n : Node) (more : List Link) (s : SystemView) → Turn n s (connecting.with_slow_links more s)
slow_links n [] s = nothing s
slow_links n (l ∷ more) s = slowed s _ then slow_links n more _

pub connects : (n one two : Node) (s : SystemView) → Turn n s (connecting.connect one two s)
unfolding connecting.connect
connects n one two s =
    either n (links.are_linked one two s.links) _ _ s (nothing s)
    (links_two n one two s then slow_links n (links.to_connect one two s.links) _)

pub reaches : (n one two : Node) (s : SystemView) → Turn n s (connecting.reach one two s)
reaches n one two s = either n (one.0 == two.0) _ _ s (nothing s) (connects n one two s)

sends_reached : (n to : Node) (m : Message) (s : SystemView) → Turn n s (connecting.send_reached n to m s)
sends_reached n to m s = either n (has_dist_at s to) _ _ s (put s _) (nothing s)

sends_to_dist : (n to : Node) (m : Message) (s : SystemView) → Turn n s (connecting.send_to_dist n to m s)
sends_to_dist n to m s =
    either n (is_alive_at s to) _ _ s (reaches n n to s then sends_reached n to m (connecting.reach n to s)) (nothing s)

-- ---- what a node's own processes write

pub changed : (f : DistView → DistView) (o : Option DistView) (v : LiveView) → LivesOn v (remote.with_change f o v)
changed f None v = (refl, refl)
changed f (Some d) v = (refl, refl)

pub mailed_on : (m : Message) (v : LiveView) → LivesOn v (remote.mailed m v)
mailed_on m v = changed (outside.with_message m) v.dist v

pub unparked_on : (v : LiveView) → LivesOn v (remote.unparked v)
unparked_on v = changed outside.unparked v.dist v

pub unmonitored_on : (n : Node) (v : LiveView) → LivesOn v (remote.without_monitors n v)
unmonitored_on n v = changed (outside.without_monitors n) v.dist v

introduced_of : (c : ClusterView) (own : OwnView) (n : Node) (nodes : List Node) (v : LiveView) (o : Option DistView)
    → LivesOn v (introduced_with c own n nodes v o).0
introduced_of c own n nodes v None = (refl, refl)
introduced_of c own n nodes v (Some d) = (refl, refl)

pub introduced_on : (c : ClusterView) (own : OwnView) (n : Node) (nodes : List Node) (v : LiveView)
    → LivesOn v (introduced_by c own n nodes v).0
unfolding introduced_by
introduced_on c own n nodes v = introduced_of c own n nodes v v.dist

handled_of : (c : ClusterView) (own : OwnView) (n : Node) (asked : Asked) (v : LiveView) (o : Option DistView)
    → LivesOn v (handled_with c own n asked v o).0
handled_of c own n asked v None = (refl, refl)
handled_of c own n asked v (Some d) = (refl, refl)

pub handled_on : (c : ClusterView) (own : OwnView) (n : Node) (asked : Asked) (v : LiveView) → LivesOn v (handled_by c own n asked v).0
unfolding handled_by
handled_on c own n asked v = handled_of c own n asked v v.dist

pub controlled_on : (c : ClusterView) (own : OwnView) (n : Node) (m : Message) (v : LiveView) → LivesOn v (controlled_by c own n m v).0
unfolding controlled_by
controlled_on c own n m v = (refl, refl)

pub terminated_on : (c : ClusterView) (own : OwnView) (n : Node) (v : LiveView) → LivesOn v (terminated_by c own n v).0
unfolding terminated_by
terminated_on c own n v = (refl, refl)

-- ---- Outputs

monitors : (n other : Node) (s : SystemView) → Turn n s (connecting.monitor n other s)
monitors n other s =
    let near : SystemView = connecting.reach n other s in
    either n (is_alive_at s other) _ _ s
    (reaches n n other s then wrote near _ (changed (outside.with_monitor other) (node_at near n).dist (node_at near n))) (put s _)

carries_out : (n : Node) (o : Output) (s : SystemView) → Turn n s (carried_out n o s)
carries_out n (output.Send e) s = put s _
carries_out n (output.Tell e) s = tells n e s
carries_out n (output.ToDist to m) s = sends_to_dist n to m s
carries_out n (output.Monitor other) s = monitors n other s
carries_out n (output.Free requester owner) s = freed s requester owner
carries_out n (output.After time m) s = sets n time _ m s

carries_all_out : (n : Node) (outputs : List Output) (s : SystemView) → Turn n s (all_carried_out n outputs s)
carries_all_out n [] s = nothing s
carries_all_out n (o ∷ outputs) s = carries_out n o s then carries_all_out n outputs _

-- ---- Working

pub acts : (n : Node) (pair : LiveView × List Output) (s : SystemView) → LivesOn (node_at s n) pair.0 → Turn n s (working.behind n pair s)
acts n pair s on = wrote s pair.0 on then carries_all_out n pair.1 _

prepares : (n : Node) (w : Need) (s : SystemView) → Turn n s (working.prepared n w s)
prepares n need.OwnLock s = took s (Alone (process_in s n role.DistAc)) (process_in s n role.DistAc) (n ∷ [])
prepares n (need.Answer other a) s = answered s _
prepares n w s = nothing s

introduces : (n : Node) (s : SystemView) → Turn n s (working.introduced n s)
introduces n s =
    let others : List Node = working.dists_of s (links.linked_with n s.links) in
    acts n (working.introduction n others s) s (introduced_on s.cluster (own_at s n) n others (node_at s n))

takes_lock_at : (n : Node) (nodes : List Node) (s : SystemView) → Turn n s (working.take_lock_at n nodes s)
takes_lock_at n nodes s =
    either n (is_free Sync nodes s.locks) _ _ s (took s _ _ _ then introduces n (working.with_sync_lock n nodes s)) (took s _ _ _)

takes_lock_of : (n : Node) (nodes : Option (List Node)) (s : SystemView) → Turn n s (working.take_lock_of n nodes s)
takes_lock_of n None s = nothing s
takes_lock_of n (Some nodes) s = takes_lock_at n nodes s

pub takes_lock : (n : Node) (s : SystemView) → Turn n s (working.take_lock n s)
unfolding working.take_lock
takes_lock n s = takes_lock_of n (working.lock_nodes n s) s

waits_for_lock : (n : Node) (nodes : List Node) (s : SystemView) → Turn n s (working.waiting_at n nodes s)
waits_for_lock n nodes s = wrote s _ (changed (outside.at_lock nodes) (node_at s n).dist (node_at s n))

goes : (n : Node) (s : SystemView) → Turn n s (working.gone n s)
unfolding working.gone
goes n s = waits_for_lock n (working.around s n) s then takes_lock n _

goes_if : (n : Node) (w : Need) (s : SystemView) → Turn n s (working.gone_if n w s)
goes_if n need.Lock s = goes n s
goes_if n w s = nothing s

turns : (n : Node) (has_lock burning : Bool) (s : SystemView) → Turn n s (working.behind_turn n has_lock burning s)
turns n has_lock burning s =
    let asked : Asked = working.asked_at n has_lock burning s in
    acts n (working.turn_of n asked s) s (handled_on s.cluster (own_at s n) n asked (node_at s n))

handles_for : (n : Node) (w : Need) (told : Bool × Bool) (s : SystemView) → Turn n s (working.handled_for n w told s)
handles_for n w told s =
    let ready : SystemView = working.prepared n w s in
    prepares n w s then turns n told.0 told.1 ready then goes_if n w (working.behind_turn n told.0 told.1 ready)

handles : (n : Node) (s : SystemView) → Turn n s (working.handled n s)
unfolding working.handled
handles n s = handles_for n (working.need_at s n) (working.asked_for n (working.need_at s n) s) s

works_for : (k : ℕ) (n : Node) (s : SystemView) → Turn n s (working.work_for k n s)
works_for zero n s = nothing s
works_for (suc k) n s = either n (working.has_next_at s n) _ _ s (handles n s then works_for k n _) (nothing s)

pub works : (n : Node) (s : SystemView) → Turn n s (working.work n s)
unfolding working.work
works n s = works_for (working.mail_count_at s n) n s

pub gets_mail : (n : Node) (m : Message) (s : SystemView) → Turn n s (working.mailed n m s)
unfolding working.mailed
gets_mail n m s = wrote s _ (mailed_on m (node_at s n)) then works n _
