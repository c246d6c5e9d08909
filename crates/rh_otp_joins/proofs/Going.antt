-- A node's wait for others is over, and its dist_ac takes the lock of all that synchronise, which is free, and introduces itself.
use Rattle.std.proofs.Common.{◌≡◌, ◌++◌, ℕ, Bool, true, false, not, cond, List, [], ◌∷◌, map, length, replicate, slice_get, unwrap_or, Some, refl, sym, ap, ◌∙◌}
use Rattle.std.specs.Option.{option_map}
use Rattle.std.specs.Prelude.{All}
use Rattle.std.proofs.lemmas.List.{append_assoc, append-nil}
use Rattle.std.proofs.lemmas.List.Elements.{All-nil, All-cons, All-head, All-tail}
use Rattle.rh_model.specs.declared.node.Node.{Node}
use Rattle.rh_otp_model.specs.declared.message.Message.{Message}
use Rattle.rh_otp_model.specs.declared.message.Message.TheVariants as message
use Rattle.rh_otp_model.specs.declared.output.Envelope.{Envelope}
use Rattle.rh_otp_model.specs.declared.output.Output.{Output}
use Rattle.rh_otp_model.specs.declared.output.Output.TheVariants as output
use Rattle.rh_otp_model.specs.declared.output.Requester.TheVariants.{Sync}
use Rattle.rh_otp_model.specs.declared.process.Process.{Process}
use Rattle.rh_otp_model.specs.declared.process.Role.TheVariants as role
use Rattle.rh_otp_model.specs.Processes.{process_at}
use Rattle.rh_otp_dist.specs.declared.state.Stand.{Stand}
use Rattle.rh_otp_dist.specs.declared.state.Stand.TheVariants as stand
use Rattle.rh_otp_dist.specs.declared.turn.Asked.{Asked}
use Rattle.rh_otp_dist.specs.Outside as outside
use Rattle.rh_otp_dist.specs.Outside.{introduction, introduced_to}
use Rattle.rh_otp_dist.specs.Received.{handle_next}
use Rattle.rh_otp_dist.specs.Sending.{send_to}
use Rattle.rh_otp_dist.specs.State.{DistView, TurnView}
use Rattle.rh_otp_dist.specs.Waiting.{introduce, wait_dacs}
use Rattle.rh_otp_net.specs.declared.locks.Held.{Held}
use Rattle.rh_otp_net.specs.Links.{linked_with}
use Rattle.rh_otp_net.specs.Locks.{freed, held_at, is_free, taken}
use Rattle.rh_otp_node.specs.Live.{LiveView, here_of, is_alive}
use Rattle.rh_otp_node.specs.Remote as remote
use Rattle.rh_otp_node.specs.Turns.{handled_by, introduced_by, behind_turn, dist_turn, weight_of}
use Rattle.rh_otp_system.specs.Outputs.{all_carried_out, carried_out}
use Rattle.rh_otp_system.specs.State.{SystemView, live_at, node_at, with_node, own_at, has_dist_at, process_in}
use Rattle.rh_otp_system.specs.Working as working
use Rattle.rh_otp_laws.proofs.Alike.{process_itself}
use Rattle.rh_otp_laws.proofs.Nodes.{node_written, others_same, same_of_all}
use Rattle.rh_otp_crashes.proofs.Turning.{written_twice, works_on, node_is}
use Rattle.rh_otp_joins.proofs.Answering.{sends_to}
use Rattle.rh_otp_joins.proofs.Introducing.{Learnt, unwatched, introducing, then_asks, carries, IsNear, near_next}

-- ---- what it does

-- to each of these
abbrev pub greetings : List Node → Message → List Output
greetings nodes m = map (λ (x : Node). output.ToDist x m) nodes

greets : (nodes : List Node) (m : Message) (t : TurnView) → introduce nodes m t ≡ record t { out = t.out ++ greetings nodes m }
greets [] m t = λ i. record t { out = sym (append-nil t.out) i }
greets (n ∷ nodes) m t =
    greets nodes m (send_to n m t) ∙ (λ i. record t { out = append_assoc t.out (output.ToDist n m ∷ []) (greetings nodes m) i })

-- what it knows then
abbrev pub known_first : Node → DistView → Learnt
known_first n d = record { known = n ∷ []; runs = []; may = d.may }

waits_for : (nodes : List Node) (t : TurnView)
    → wait_dacs nodes (t.here.node ∷ []) [] t
    ≡ record t {
      state = record (unwatched t.state (known_first t.here.node t.state) nodes t.state.mail) { monitored = t.state.monitored };
      out = t.out ++ then_asks t.here nodes;
    }
waits_for [] t = refl
waits_for (x ∷ xs) t = refl

pub opens : (nodes : List Node) (t : TurnView)
    → introduced_to nodes t
    ≡ record t {
      state = record (unwatched t.state (known_first t.here.node t.state) nodes t.state.mail) { monitored = t.state.monitored };
      out = (t.out ++ greetings nodes (introduction t)) ++ then_asks t.here nodes;
    }
unfolding introduced_to
opens nodes t =
    ap (wait_dacs nodes (t.here.node ∷ []) []) (greets nodes (introduction t) t)
    ∙ waits_for nodes (record t { out = t.out ++ greetings nodes (introduction t) })

-- ---- that it is carried out

pub carried_on : (n : Node) (xs ys : List Output) (s : SystemView) → all_carried_out n (xs ++ ys) s ≡ all_carried_out n ys (all_carried_out n xs s)
carried_on n [] ys s = refl
carried_on n (x ∷ xs) ys s = carried_on n xs ys (carried_out n x s)

-- the introduction on its way to a node
abbrev pub greeting : Node → Message → SystemView → Node → Envelope
greeting n m s x = record { from = process_in s n role.DistAc; to = process_in s x role.DistAc; message = m }

-- the node is there and has a dist_ac
abbrev pub CanHear : Node → SystemView → Node → Type 0
CanHear n s x = IsNear n s x × (has_dist_at s x ≡ true)

pub all_greeted : (n : Node) (m : Message) (nodes : List Node) (s : SystemView) → All (CanHear n s) nodes
    → all_carried_out n (greetings nodes m) s ≡ record s { messages = s.messages ++ map (greeting n m s) nodes }
all_greeted n m [] s can = λ i. record s { messages = sym (append-nil s.messages) i }
all_greeted n m (x ∷ nodes) s can =
    let first : CanHear n s x = All-head (CanHear n s) x nodes can in
    ap (all_carried_out n (greetings nodes m)) (sends_to n x m s first.0.1 first.1 first.0.2)
    ∙ all_greeted n m nodes (record s { messages = s.messages ++ greeting n m s x ∷ [] }) (All-tail (CanHear n s) x nodes can)
    ∙ (λ i. record s { messages = append_assoc s.messages (greeting n m s x ∷ []) (map (greeting n m s) nodes) i })

pub freed_all : (p : Process) (nodes : List Node) → freed Sync p (held_at Sync p nodes) ≡ []
freed_all p [] = refl
freed_all p (n ∷ nodes) =
    ap (λ (b : Bool). cond (not b) (record { node = n; requester = Sync; owner = p } ∷ freed Sync p (held_at Sync p nodes)) (freed Sync p (held_at Sync p nodes)))
    (process_itself p)
    ∙ freed_all p nodes

-- ---- the turn

-- a dist_ac that waits until its node's kernel has seen the others
abbrev pub going : DistView → DistView
going d = record d { stand = stand.ForGo; mail = []; monitored = [] }

-- where it stands then
abbrev pub at_stand : DistView → Stand → DistView
at_stand d w = record d { stand = w; mail = []; monitored = [] }

abbrev pub live_as : LiveView → DistView → LiveView
live_as v d = record v { dist = Some d }

-- those to whom it introduces itself
abbrev pub the_others : Node → SystemView → List Node
the_others n s = working.dists_of s (linked_with n s.links)

-- what it tells of itself
abbrev pub hello : Node → DistView → Message
hello n d = message.NewNode n (unwrap_or (slice_get d.may n.0) []) (replicate (length d.appls) false)

abbrev pub lock_around : Node → SystemView → List Node
lock_around n s = n ∷ linked_with n s.links

-- the lock that it takes, at itself and all that it sees and that are alive
abbrev pub lock_of : Node → LiveView → DistView → SystemView → List Held
lock_of n v d s =
    held_at Sync (process_at (here_of n v) role.DistAc)
    (working.alive_of (with_node n (live_as v (at_stand d (stand.ForLock (lock_around n s)))) s) (lock_around n s))

unwatched_still : (d : DistView) (w : Stand) (l : Learnt) (nodes : List Node)
    → record (unwatched (at_stand d w) l nodes []) { monitored = [] } ≡ unwatched d l nodes []
unwatched_still d w l [] = refl
unwatched_still d w l (x ∷ xs) = refl

abbrev pub told : ℕ → Asked
told weight = record { weight = weight; has_lock = false; burns = false }

-- at its message it asks for the lock
asks_lock : (n : Node) (s : SystemView) (v : LiveView) (d : DistView) → live_at s n ≡ Some (live_as v (going d))
    → working.mailed n message.Go s ≡ working.take_lock n (with_node n (live_as v (at_stand d (stand.ForLock (lock_around n s)))) s)
unfolding working.work working.handled handled_by handle_next working.gone
asks_lock n s v d there =
    let old : LiveView = live_as v (going d) in
    let x : LiveView = live_as v (outside.with_message message.Go (going d)) in
    let q : SystemView = with_node n x s in
    let here : node_at q n ≡ x = node_written s n old x there in
    let idle : LiveView = live_as v (at_stand d stand.Idle) in
    let r : SystemView = with_node n idle s in
    let locking : LiveView = live_as v (at_stand d (stand.ForLock (lock_around n s))) in
    works_on n message.Go s old there
    ∙ ap (λ (y : LiveView). working.work_for (remote.mail_count y) n q) here
    ∙ ap (λ (y : LiveView). cond (remote.has_next y) (working.handled_for n (working.need_at q n) (working.asked_for n (working.need_at q n) q) q) q) here
    ∙ ap (λ (y : LiveView). working.handled_for n (remote.need_of y) (working.asked_for n (remote.need_of y) q) q) here
    ∙ ap (λ (y : LiveView). working.gone n (working.behind n (handled_by s.cluster (own_at s n) n (told (weight_of s.cluster n y)) y) q)) here
    ∙ ap (working.gone n) (written_twice s n x idle)
    ∙ ap (λ (y : LiveView). working.take_lock n (with_node n (remote.waiting_for_lock (lock_around n s) y) r)) (node_written s n old idle there)
    ∙ ap (working.take_lock n) (written_twice s n idle locking)

-- the lock is free
takes_lock : (n : Node) (s : SystemView) (v : LiveView) (d : DistView) → live_at s n ≡ Some (live_as v (going d)) → s.locks ≡ []
    → working.take_lock n (with_node n (live_as v (at_stand d (stand.ForLock (lock_around n s)))) s)
    ≡ working.behind n (introduced_by s.cluster (own_at s n) n (the_others n s) (live_as v (at_stand d (stand.ForLock (lock_around n s)))))
    (with_node n (live_as v (at_stand d (stand.ForLock (lock_around n s)))) (record s { locks = lock_of n v d s }))
unfolding working.take_lock
takes_lock n s v d there none =
    let old : LiveView = live_as v (going d) in
    let locking : LiveView = live_as v (at_stand d (stand.ForLock (lock_around n s))) in
    let z : SystemView = with_node n locking s in
    let here : node_at z n ≡ locking = node_written s n old locking there in
    let at : List Node = working.alive_of z (lock_around n s) in
    let with_lock : LiveView → SystemView = λ y. record z { locks = held_at Sync (process_at (here_of n y) role.DistAc) at } in
    ap (λ (y : LiveView). working.take_lock_of n (option_map (working.alive_of z) (working.lock_in y.dist)) z) here
    ∙ ap (λ (l : List Held). cond (is_free Sync at l) (working.introduced n (record z { locks = taken Sync (process_in z n role.DistAc) at l }))
    (record z { locks = taken Sync (process_in z n role.DistAc) at l })) none
    ∙ ap (λ (y : LiveView). working.introduced n (with_lock y)) here
    ∙ ap (λ (y : LiveView). working.behind n (introduced_by s.cluster (own_at s n) n (the_others n s) y) (with_lock locking)) here

life_here : (s : SystemView) (n : Node) (v : LiveView) (d : DistView) → live_at s n ≡ Some (live_as v (going d)) → v.life ≡ (node_at s n).life
life_here s n v d there = sym (ap (λ (w : LiveView). w.life) (node_is s n (live_as v (going d)) there))

-- what it writes of itself is nothing to them
pub can_still : (n : Node) (s : SystemView) (w : LiveView) (held : List Held) (nodes : List Node) → All (CanHear n s) nodes
    → All (CanHear n (with_node n w (record s { locks = held }))) nodes
can_still n s w held [] can = All-nil (CanHear n (with_node n w (record s { locks = held })))
can_still n s w held (x ∷ nodes) can =
    let one : CanHear n s x = All-head (CanHear n s) x nodes can in
    All-cons (CanHear n (with_node n w (record s { locks = held }))) x nodes
    ((one.0.0, ap is_alive (others_same s n x w one.0.0) ∙ one.0.1, one.0.2), one.1)
    (can_still n s w held nodes (All-tail (CanHear n s) x nodes can))

pub near_first : (n : Node) (s : SystemView) (nodes : List Node) → All (CanHear n s) nodes → near_next n s nodes
near_first n s [] can = tt
near_first n s (x ∷ nodes) can = (All-head (CanHear n s) x nodes can).0

-- It introduces itself to all that it sees and that have a dist_ac, and waits for each of them.
pub goes : (n : Node) (s : SystemView) (v : LiveView) (d : DistView) → live_at s n ≡ Some (live_as v (going d)) → s.locks ≡ []
    → All (CanHear n s) (the_others n s)
    → working.mailed n message.Go s
    ≡ introducing n v d (lock_of n v d s) (known_first n d) (the_others n s) []
    (record s { messages = s.messages ++ map (greeting n (hello n d) s) (the_others n s) })
unfolding introduced_by
goes n s v d there none can =
    let old : LiveView = live_as v (going d) in
    let at : Stand = stand.ForLock (lock_around n s) in
    let locking : LiveView = live_as v (at_stand d at) in
    let others : List Node = the_others n s in
    let held : List Held = lock_of n v d s in
    let z : SystemView = with_node n locking (record s { locks = held }) in
    let t : TurnView = dist_turn s.cluster (own_at s n) n (told 0) locking (at_stand d at) in
    let outs : List Output = greetings others (hello n d) ++ then_asks (here_of n v) others in
    let over : LiveView = live_as v (unwatched d (known_first n d) others []) in
    let y : SystemView = with_node n over (record s { locks = held }) in
    let same : (x : Node) → greeting n (hello n d) y x ≡ greeting n (hello n d) s x =
    λ x. (λ i. record {
      from = process_at (record { node = n; life = same_of_all (λ (w : LiveView). w.life) s n n over (life_here s n v d there) i }) role.DistAc;
      to = process_at (record { node = x; life = same_of_all (λ (w : LiveView). w.life) s n x over (life_here s n v d there) i }) role.DistAc;
      message = hello n d;
    }) in
    asks_lock n s v d there
    ∙ takes_lock n s v d there none
    ∙ ap (λ (u : TurnView). working.behind n (behind_turn locking u) z) (opens others t)
    ∙ ap (λ (e : DistView). all_carried_out n outs (with_node n (live_as v e) z)) (unwatched_still d at (known_first n d) others)
    ∙ ap (all_carried_out n outs) (written_twice (record s { locks = held }) n locking over)
    ∙ carried_on n (greetings others (hello n d)) (then_asks (here_of n v) others) y
    ∙ ap (all_carried_out n (then_asks (here_of n v) others)) (all_greeted n (hello n d) others y (can_still n s over held others can))
    ∙ (λ i. all_carried_out n (then_asks (here_of n v) others) (record y { messages = s.messages ++ map (λ (x : Node). same x i) others }))
    ∙ carries n v d held (known_first n d) others [] (record s { messages = s.messages ++ map (greeting n (hello n d) s) others }) old there
    (near_first n s others can) (freed_all (process_at (here_of n v) role.DistAc) (working.alive_of (with_node n locking s) (lock_around n s)))
