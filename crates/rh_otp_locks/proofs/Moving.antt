-- Each move, and what a command begins with, leaves no lock that is held for nothing.
use Rattle.std.proofs.Common.{◌≡◌, ◌≢◌, ◌==◌, ◌&&◌, ℕ, Bool, true, false, cond, not, List, [], ◌∷◌, Option, Some, None, slice_get, refl, sym, ap, subst, ◌∙◌}
use Rattle.std.specs.List.{remove}
use Rattle.std.proofs.lemmas.Bool.{false≢true, eqb-false, and_parts, not-true}
use Rattle.rh_model.specs.ClusterView.{is_in}
use Rattle.rh_model.specs.declared.node.App.{App}
use Rattle.rh_model.specs.declared.node.Node.{Node}
use Rattle.rh_model.specs.declared.settings.Restart.{Restart}
use Rattle.rh_otp_model.specs.declared.fault.Fault.{Fault}
use Rattle.rh_otp_model.specs.declared.message.Message.{Message}
use Rattle.rh_otp_model.specs.declared.message.Message.TheVariants as message
use Rattle.rh_otp_model.specs.declared.output.Envelope.{Envelope}
use Rattle.rh_otp_model.specs.declared.output.Event.TheVariants as event
use Rattle.rh_otp_model.specs.declared.process.Process.{Process}
use Rattle.rh_otp_model.specs.declared.process.Role.{Role}
use Rattle.rh_otp_model.specs.declared.process.Role.TheVariants as role
use Rattle.rh_otp_model.specs.declared.wait.Wait.{Wait}
use Rattle.rh_otp_model.specs.declared.wait.Wait.TheVariants as wait
use Rattle.rh_otp_dist.specs.Outside as outside
use Rattle.rh_otp_net.specs.declared.locks.Held.{Held}
use Rattle.rh_otp_net.specs.Links as links
use Rattle.rh_otp_net.specs.Locks as locks
use Rattle.rh_otp_net.specs.Queue.{first_of_pair}
use Rattle.rh_otp_node.specs.Kernel as kernel
use Rattle.rh_otp_node.specs.Live.{LiveView, is_alive, begun}
use Rattle.rh_otp_node.specs.Remote as remote
use Rattle.rh_otp_node.specs.Turns.{controlled_by, terminated_by}
use Rattle.rh_otp_system.specs.declared.moves.Move.{Move}
use Rattle.rh_otp_system.specs.declared.moves.Move.TheVariants as move
use Rattle.rh_otp_system.specs.declared.slow.Slow.{Slow}
use Rattle.rh_otp_system.specs.declared.slow.Slow.TheVariants as slow
use Rattle.rh_otp_system.specs.Delivering as delivering
use Rattle.rh_otp_system.specs.Doing as doing
use Rattle.rh_otp_system.specs.Ending as ending
use Rattle.rh_otp_system.specs.Joining as joining
use Rattle.rh_otp_system.specs.Moves as moves
use Rattle.rh_otp_system.specs.Sending.{told}
use Rattle.rh_otp_system.specs.State.{SystemView, live_at, node_at, with_node, own_at, wait_at, has_dist_at, is_alive_at, is_up_at, lives}
use Rattle.rh_otp_laws.proofs.Beginning.{begun_there}
use Rattle.rh_otp_laws.proofs.Lists.{IsAt, filtered}
use Rattle.rh_otp_laws.proofs.Lives.{others_stand}
use Rattle.rh_otp_laws.proofs.Nodes.{same_number, others_same, alive_written}
use Rattle.rh_otp_locks.specs.Holding.{IsHeldFor}
use Rattle.rh_otp_locks.proofs.Calling.{call_goes_on, call_receives}
use Rattle.rh_otp_locks.proofs.Keeping.{Holds, Keeps, stand_of, StandsOn, stands_still, held_still, keeps_held, nothing, ◌then◌, either, wrote, put, linked, slowed, tells, sets, connects, reaches, changed, acts}
use Rattle.rh_otp_locks.proofs.Working.{gets_mail, goes_on_locked}

-- ---- where another node alone changes

-- a process that is there is of a node that is alive
pub owner_alive : (s : SystemView) (p : Process) → lives s p ≡ true → is_alive_at s p.node ≡ true
owner_alive s p is = (and_parts (is_alive_at s p.node) _ is).0

-- all that a lock of another node's process is held for stays
held_apart : (n : Node) (s t : SystemView) (h : Held) → t.calls ≡ s.calls → ((m : Node) → m.0 ≢ n.0 → node_at t m ≡ node_at s m)
    → h.owner.node.0 ≢ n.0 → IsHeldFor s h → IsHeldFor t h
held_apart n s t h calls others other held =
    let same : node_at t h.owner.node ≡ node_at s h.owner.node = others h.owner.node other in
    held_still s t h calls (record { life = ap (λ (v : LiveView). v.life) same; alive = ap is_alive same; stand = ap stand_of same }) held

-- ---- Ending

fallen_calls : (n : Node) (s : SystemView) → (ending.taken_down n s).calls ≡ s.calls
unfolding ending.taken_down told
fallen_calls n s = refl

fallen_locks : (n : Node) (s : SystemView) → (ending.taken_down n s).locks ≡ locks.without_node n s.locks
unfolding ending.taken_down told
fallen_locks n s = refl

-- where a node ends nobody has a lock there, nor do its processes
fell : (n : Node) (s : SystemView) → Holds s → Holds (ending.taken_down n s)
fell n s holds h at =
    let in_s : IsAt h s.locks × ((not (h.node.0 == n.0) && not (h.owner.node.0 == n.0)) ≡ true) =
    filtered (λ (k : Held). not (k.node.0 == n.0) && not (k.owner.node.0 == n.0)) h s.locks
    (subst (λ (l : List Held). IsAt h l) (fallen_locks n s) at) in
    held_apart n s (ending.taken_down n s) h (fallen_calls n s) (λ m other. others_stand n m s other)
    (eqb-false h.owner.node.0 n.0 (not-true (h.owner.node.0 == n.0)
    (and_parts (not (h.node.0 == n.0)) (not (h.owner.node.0 == n.0)) in_s.1).1))
    (holds h in_s.0)

unmonitored : (n m : Node) (s : SystemView) → Keeps s (with_node m (remote.without_monitors n (node_at s m)) s)
unmonitored n m s = wrote s m _ (changed (outside.without_monitors n) (λ d. refl) (node_at s m).dist (node_at s m) refl)

tells_down : (n m : Node) (s : SystemView) → Keeps s (ending.down_told n m s)
unfolding ending.down_told
tells_down n m s =
    either (has_dist_at s m && links.are_linked n m s.links) _ _ s (unmonitored n m s then put _ _) (nothing s)

tells_downs : (n : Node) (nodes : List Node) (s : SystemView) → Keeps s (ending.downs_told n nodes s)
tells_downs n [] s = nothing s
tells_downs n (m ∷ nodes) s = tells_down n m s then tells_downs n nodes _

pub ends : (n : Node) (s : SystemView) → Holds s → Holds (ending.ended n s)
unfolding ending.ended
ends n s holds =
    let gone : SystemView = ending.taken_down n s in
    keeps_held gone _ (tells_downs n gone.alive gone then linked _ _) (fell n s holds)

stops : (n : Node) (s : SystemView) → Keeps s (ending.stopped n s)
unfolding ending.stopped terminated_by
stops n s =
    acts n (terminated_by s.cluster (own_at s n) n (node_at s n)) s (record { life = refl; alive = refl; stand = refl })
    then sets 1500 _ message.Ends _

-- ---- Joining

goes : (n : Node) (s : SystemView) → Keeps s (joining.with_go n s)
goes n s = either (has_dist_at s n) _ _ s (put s _) (nothing s)

joins : (n : Node) (s : SystemView) → is_alive_at s n ≡ true → Keeps s (joining.join n s)
unfolding joining.join
joins n s alive =
    let up : SystemView = joining.joined_at n s in
    wrote s n (kernel.joined (node_at s n)) (record { life = refl; alive = sym alive; stand = refl })
    then tells (event.Up n) up then goes n (told (event.Up n) up) then slowed _ _

goes_on : (n : Node) (s : SystemView) → is_alive_at s n ≡ true → Keeps s (joining.go_on n s)
goes_on n s alive = either (kernel.waits (node_at s n)) _ _ s (nothing s) (joins n s alive)

stands_if : (b : Bool) (v x y : LiveView) → StandsOn v x → StandsOn v y → StandsOn v (cond b x y)
stands_if true v x y p q = p
stands_if false v x y p q = q

seen_on : (other : Node) (v : LiveView) → StandsOn v (kernel.seen other v)
seen_on other v =
    stands_if (is_in other v.mandatory) v _ _ (record { life = refl; alive = refl; stand = refl })
    (record { life = refl; alive = refl; stand = refl })

sees : (n other : Node) (s : SystemView) → is_alive_at s n ≡ true → Keeps s (joining.has_seen n other s)
unfolding joining.has_seen
sees n other s alive =
    let w : LiveView = kernel.seen other (node_at s n) in
    wrote s n w (seen_on other (node_at s n))
    then goes_on n (joining.seen_at n other s) (alive_written s n w alive ((seen_on other (node_at s n)).alive ∙ alive))

holds_if : (b : Bool) (x y : SystemView) → Holds x → Holds y → Holds (cond b x y)
holds_if true x y one other = one
holds_if false x y one other = other

times_out : (n : Node) (s : SystemView) → is_alive_at s n ≡ true → Holds s → Holds (joining.timed_out n s)
times_out n s alive holds =
    holds_if (joining.lacks_mandatory n s) _ _ (ends n s holds) (keeps_held s _ (joins n s alive) holds)

kernel_handles : (n : Node) (m : Message) (s : SystemView) → is_alive_at s n ≡ true → Holds s → Holds (joining.kernel_handled n m s)
kernel_handles n message.Timeout s alive holds = times_out n s alive holds
kernel_handles n (message.NodeUp other) s alive holds = keeps_held s _ (sees n other s alive) holds
kernel_handles n m s alive holds = holds

kernel_receives : (n : Node) (m : Message) (s : SystemView) → is_alive_at s n ≡ true → Holds s → Holds (joining.kernel_received n m s)
kernel_receives n m s alive holds = holds_if (is_up_at s n) _ _ holds (kernel_handles n m s alive holds)

tells_failed : (n : Node) (fault : Option Fault) (entry : Option (App × Restart)) (s : SystemView)
    → Keeps s (joining.failed_at n fault entry s)
tells_failed n None entry s = nothing s
tells_failed n (Some fault) None s = nothing s
tells_failed n (Some fault) (Some entry) s = tells _ s

starts : (n : Node) (entry : Option (App × Restart)) (s : SystemView) → Keeps s (joining.start_entry n entry s)
starts n (Some entry) s = put s _
starts n None s = either (joining.is_boot_end n s) _ _ s (tells _ s) (nothing s)

boots_on : (n : Node) (fault : Option Fault) (s : SystemView) → Keeps s (joining.boot_next n fault s)
unfolding joining.boot_next
boots_on n fault s =
    let over : SystemView = joining.told_failed n fault s in
    tells_failed n fault (joining.boot_entry n s) s then starts n (joining.boot_coming n over) over
    then wrote _ n _ (record { life = refl; alive = refl; stand = refl })

boot_receives : (n : Node) (m : Message) (s : SystemView) → Keeps s (joining.boot_received n m s)
boot_receives n (message.Answer outcome) s = boots_on n _ s
boot_receives n m s = nothing s

-- ---- Delivering

controls : (n : Node) (m : Message) (s : SystemView) → Keeps s (delivering.controlled n m s)
unfolding controlled_by
controls n m s = acts n (controlled_by s.cluster (own_at s n) n m (node_at s n)) s (record { life = refl; alive = refl; stand = refl })

receives : (r : Role) (n : Node) (m : Message) (s : SystemView) → is_alive_at s n ≡ true → Holds s → Holds (delivering.received_in r n m s)
receives role.Controller n m s alive holds = keeps_held s _ (controls n m s) holds
receives role.DistAc n m s alive holds = (gets_mail n m s (record { alive = alive; holds = holds })).holds
receives role.KernelConfig n m s alive holds = kernel_receives n m s alive holds
receives role.Boot n m s alive holds = keeps_held s _ (boot_receives n m s) holds
receives role.System n m s alive holds = ends n s holds
receives (role.Call number) n m s alive holds = call_receives number m s holds
receives r n m s alive holds = holds

arrives_if : (b : Bool) (to : Process) (m : Message) (s : SystemView) → lives s to ≡ b → Holds s
    → Holds (cond b (delivering.received to m s) s)
arrives_if true to m s there holds = receives to.role to.node m s (owner_alive s to there) holds
arrives_if false to m s lost holds = holds

arrives : (to : Process) (m : Message) (s : SystemView) → Holds s → Holds (delivering.arrived to m s)
arrives to m s holds = arrives_if (lives s to) to m s refl holds

without_message : (s : SystemView) (messages : List Envelope) → Keeps s (record s { messages = messages })
without_message s messages = record { locks = λ h at. at; calls = refl; nodes = λ m. stands_still (node_at s m) }

arrives_at : (place : ℕ) (found : Option Envelope) (s : SystemView) → Holds s → Holds (delivering.arrived_at place found s)
arrives_at place None s holds = holds
arrives_at place (Some e) s holds =
    arrives e.to e.message _ (keeps_held s _ (without_message s (remove s.messages place)) holds)

slows : (what : Slow) (s : SystemView) → Keeps s (delivering.slowed what s)
unfolding delivering.slowed
slows (slow.Connect one two) s = either (is_alive_at s one && is_alive_at s two) _ _ s (connects one two s) (nothing s)
slows (slow.Boot n) s = either (is_alive_at s n) _ _ s (boots_on n None s) (nothing s)

slow_moves : (place : ℕ) (found : Option Slow) (s : SystemView) → Keeps s (moves.slow_done_if place found s)
slow_moves place None s = nothing s
slow_moves place (Some what) s = slowed s _ then slows what _

-- ---- Moves

to_end : (n : Node) (s : SystemView) → Holds s → Holds (moves.to_end n s)
to_end n s holds = holds_if s.ends_soon _ _ (ends n s holds) (keeps_held s _ (stops n s) holds)

-- a move, if a dist_ac that goes on with a lock is of a node that is alive
pub moves_on : (next : Move) (s : SystemView) → ((n : Node) → next ≡ move.Lock n → is_alive_at s n ≡ true) → Holds s
    → Holds (moves.made next s)
unfolding moves.made delivering.delivered
moves_on (move.Deliver place) s alive holds =
    arrives_at (first_of_pair s.messages place) (slice_get s.messages (first_of_pair s.messages place)) s holds
moves_on (move.Slow place) s alive holds = keeps_held s _ (slow_moves place (slice_get s.slow place) s) holds
moves_on (move.Lock n) s alive holds = (goes_on_locked n s (record { alive = alive n refl; holds = holds })).holds
moves_on (move.Call place) s alive holds = call_goes_on place s holds
moves_on (move.End n) s alive holds = to_end n s holds

-- ---- a node begins

-- it wasn't alive, so its processes had no lock
begins_at : (n : Node) (s : SystemView) → is_alive_at s n ≡ false → Holds s → Holds (doing.begun_at n s)
begins_at n s down holds h at =
    held_apart n s (doing.begun_at n s) h refl
    (λ m other. others_same s n m (begun s.cluster (own_at s n) n (node_at s n)) other)
    (λ here. false≢true (sym down ∙ sym (ap is_alive (same_number s h.owner.node n here)) ∙ owner_alive s h.owner (holds h at).there))
    (holds h at)

sees_at_once : (n other : Node) (s : SystemView) → Keeps s (doing.seen_at_once n other s)
sees_at_once n other s = either (is_alive_at s other) _ _ s (reaches n other s then put _ _) (nothing s)

sees_all : (n : Node) (others : List Node) (s : SystemView) → Keeps s (doing.all_seen n others s)
sees_all n [] s = nothing s
sees_all n (other ∷ others) s = sees_at_once n other s then sees_all n others _

waits_at_most : (n : Node) (time : Option ℕ) (s : SystemView) → Keeps s (doing.with_timeout n time s)
waits_at_most n None s = nothing s
waits_at_most n (Some time) s = sets time _ message.Timeout s

waits_for : (n : Node) (time : Option ℕ) (s : SystemView) → is_alive_at s n ≡ true → Keeps s (doing.waited_for n time s)
unfolding doing.waited_for
waits_for n time s alive =
    let seen : SystemView = doing.all_seen n (node_at s n).mandatory s in
    let all : SystemView = doing.all_seen n (node_at s n).optional seen in
    let keeps : Keeps s (doing.with_timeout n time all) =
    sees_all n (node_at s n).mandatory s then sees_all n (node_at s n).optional seen then waits_at_most n time all in
    keeps then goes_on n (doing.with_timeout n time all) ((keeps.nodes n).alive ∙ alive)

waits : (w : Wait) (n : Node) (s : SystemView) → is_alive_at s n ≡ true → Holds s → Holds (doing.waited w n s)
waits wait.Unset n s alive holds = keeps_held s _ (joins n s alive) holds
waits wait.Refused n s alive holds = ends n s holds
waits (wait.After time) n s alive holds = keeps_held s _ (waits_for n (Some time) s alive) holds
waits wait.Forever n s alive holds = keeps_held s _ (waits_for n None s alive) holds

pub boots : (n : Node) (s : SystemView) (v : LiveView) → live_at s n ≡ Some v → is_alive_at s n ≡ false → Holds s → Holds (doing.booted n s)
unfolding doing.booted
boots n s v there down holds =
    waits (wait_at s n) n (doing.begun_at n s) (ap is_alive (begun_there s n v there)) (begins_at n s down holds)
