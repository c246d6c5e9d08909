-- A dist_ac is told that its node's wait is over: it shares the lock of all that synchronise, introduces itself, and takes what has come before.
use Rattle.std.proofs.Common.{◌<◌, ◌&&◌, ◌||◌, ◌≡◌, ◌++◌, ℕ, Bool, true, not, cond, List, [], ◌∷◌, map, length, slice_get, Option, Some, refl, sym, ap, ◌∙◌, arith}
use Rattle.std.specs.Option.{option_map}
use Rattle.std.specs.Prelude.{All}
use Rattle.std.proofs.lemmas.List.Elements.{All-nil, All-cons, All-head, All-tail}
use Rattle.rh_model.specs.declared.node.Node.{Node}
use Rattle.rh_otp_model.specs.declared.message.Message.{Message}
use Rattle.rh_otp_model.specs.declared.message.Message.TheVariants as message
use Rattle.rh_otp_model.specs.declared.output.Output.{Output}
use Rattle.rh_otp_model.specs.declared.output.Requester.{Requester}
use Rattle.rh_otp_model.specs.declared.output.Requester.TheVariants.{Sync}
use Rattle.rh_otp_model.specs.declared.process.Process.{Process}
use Rattle.rh_otp_model.specs.declared.process.Role.TheVariants as role
use Rattle.rh_otp_model.specs.Processes.{process_at}
use Rattle.rh_otp_dist.specs.declared.state.Stand.{Stand}
use Rattle.rh_otp_dist.specs.declared.state.Stand.TheVariants as stand
use Rattle.rh_otp_dist.specs.Outside as outside
use Rattle.rh_otp_dist.specs.Received.{handle_next}
use Rattle.rh_otp_dist.specs.State.{DistView, TurnView}
use Rattle.rh_otp_net.specs.declared.locks.Held.{Held}
use Rattle.rh_otp_net.specs.Locks.{held_at, is_free}
use Rattle.rh_otp_node.specs.Live.{LiveView, here_of}
use Rattle.rh_otp_node.specs.Remote as remote
use Rattle.rh_otp_node.specs.Turns.{handled_by, introduced_by, behind_turn, dist_turn, weight_of}
use Rattle.rh_otp_system.specs.Outputs.{all_carried_out}
use Rattle.rh_otp_system.specs.State.{SystemView, live_at, node_at, with_node, own_at, process_in}
use Rattle.rh_otp_system.specs.Working as working
use Rattle.rh_otp_laws.proofs.Nodes.{node_written, same_of_all}
use Rattle.rh_otp_crashes.proofs.Turning.{written_twice, node_is}
use Rattle.rh_otp_joins.proofs.Introducing.{Learnt, unwatched, then_asks}
use Rattle.std.specs.List.{remove, position_or_len, list_any}
use Rattle.std.proofs.Math.Bool.{and-false}
use Rattle.rh_model.specs.ClusterView.{is_in}
use Rattle.rh_otp_net.specs.Alike.{is_requester}
use Rattle.rh_otp_net.specs.Locks.{is_others}
use Rattle.rh_otp_dist.specs.declared.outside.Need.{Need}
use Rattle.rh_otp_dist.specs.declared.outside.Need.TheVariants as need
use Rattle.rh_otp_dist.specs.Received.{resumed_if, taken_out}
use Rattle.rh_otp_node.specs.Turns.{handled_if}
use Rattle.rh_otp_dist.specs.Received.{next_mail}
use Rattle.rh_otp_dist.specs.Waiting.{is_go}
use Rattle.rh_otp_joins.proofs.Going.{greetings, greeting, CanHear, all_greeted, known_first, opens, carried_on, live_as, the_others, hello, lock_around, told, can_still, near_first}
use Rattle.rh_otp_joins.proofs.Introducing.{Told, word}
use Rattle.rh_otp_joins.proofs.Lists.{at_place}
use Rattle.rh_otp_joins.proofs.Mailing.{words}
use Rattle.rh_otp_gathers.proofs.Learning.{sharing, carries}

-- ---- locks by the name of all that synchronise

abbrev pub IsShared : Held → Type 0
IsShared h = h.requester ≡ Sync

pub shared_free : (nodes : List Node) (rows : List Held) → All IsShared rows → is_free Sync nodes rows ≡ true
shared_free nodes [] shared = refl
shared_free nodes (h ∷ rows) shared =
    let first : IsShared h = All-head IsShared h rows shared in
    ap (λ (r : Requester). not ((is_in h.node nodes && not (is_requester r Sync)) || list_any (is_others Sync nodes) rows)) first
    ∙ ap (λ (c : Bool). not (c || list_any (is_others Sync nodes) rows)) (and-false (is_in h.node nodes))
    ∙ shared_free nodes rows (All-tail IsShared h rows shared)

pub all_shared : (p : Process) (nodes : List Node) → All IsShared (held_at Sync p nodes)
all_shared p [] = All-nil IsShared
all_shared p (n ∷ nodes) = All-cons IsShared (record { node = n; requester = Sync; owner = p }) (held_at Sync p nodes) refl (all_shared p nodes)

-- ---- the turn

-- a dist_ac that waits until its node's kernel has seen the others, and has these in its mailbox
abbrev pub early : DistView → List Message → DistView
early d mail = record d { stand = stand.ForGo; mail = mail; monitored = [] }

abbrev pub at_stand : DistView → Stand → List Message → DistView
at_stand d w mail = record d { stand = w; mail = mail; monitored = [] }

-- all locks, with its own share of that of all that synchronise: at itself and all that it sees and that are alive
abbrev pub with_share : Node → LiveView → DistView → List Message → SystemView → List Held
with_share n v d mail s =
    s.locks ++ held_at Sync (process_at (here_of n v) role.DistAc)
    (working.alive_of (with_node n (live_as v (at_stand d (stand.ForLock (lock_around n s)) mail)) s) (lock_around n s))

-- where the message stands behind what others have told
go_behind : (o : Told) (nodes : List Node)
    → (position_or_len is_go (words o nodes ++ message.Go ∷ []) ≡ length nodes)
    × (slice_get (words o nodes ++ message.Go ∷ []) (length nodes) ≡ Some message.Go)
    × (remove (words o nodes ++ message.Go ∷ []) (length nodes) ≡ words o nodes)
    × (length nodes < length (words o nodes ++ message.Go ∷ []))
go_behind o [] = (refl, refl, refl, omega arith)
go_behind o (x ∷ nodes) =
    let rest : (position_or_len is_go (words o nodes ++ message.Go ∷ []) ≡ length nodes)
    × (slice_get (words o nodes ++ message.Go ∷ []) (length nodes) ≡ Some message.Go)
    × (remove (words o nodes ++ message.Go ∷ []) (length nodes) ≡ words o nodes)
    × (length nodes < length (words o nodes ++ message.Go ∷ [])) = go_behind o nodes in (
      (let first : position_or_len is_go (words o nodes ++ message.Go ∷ []) ≡ length nodes = rest.0 in omega (arith, first)),
      rest.1,
      ap (λ (l : List Message). word o x ∷ l) rest.2,
      (let less : length nodes < length (words o nodes ++ message.Go ∷ []) = rest.3 in omega (arith, less)),
    )

pub next_go : (o : Told) (d : DistView) (nodes : List Node) → next_mail (early d (words o nodes ++ message.Go ∷ [])) ≡ Some (length nodes)
next_go o d nodes =
    let at : (position_or_len is_go (words o nodes ++ message.Go ∷ []) ≡ length nodes)
    × (slice_get (words o nodes ++ message.Go ∷ []) (length nodes) ≡ Some message.Go)
    × (remove (words o nodes ++ message.Go ∷ []) (length nodes) ≡ words o nodes)
    × (length nodes < length (words o nodes ++ message.Go ∷ [])) = go_behind o nodes in
    at_place is_go (words o nodes ++ message.Go ∷ []) (length nodes) at.0 at.3

-- it asks for the lock
asks_lock : (o : Told) (n : Node) (s : SystemView) (v : LiveView) (d : DistView) (nodes : List Node) (w : LiveView) → live_at s n ≡ Some w
    → working.handled n (with_node n (live_as v (early d (words o nodes ++ message.Go ∷ []))) s)
    ≡ working.take_lock n (with_node n (live_as v (at_stand d (stand.ForLock (lock_around n s)) (words o nodes))) s)
unfolding working.handled handled_by handle_next working.gone
asks_lock o n s v d nodes w there =
    let mail : List Message = words o nodes ++ message.Go ∷ [] in
    let x : LiveView = live_as v (early d mail) in
    let q : SystemView = with_node n x s in
    let here : node_at q n ≡ x = node_written s n w x there in
    let at : (position_or_len is_go mail ≡ length nodes) × (slice_get mail (length nodes) ≡ Some message.Go)
    × (remove mail (length nodes) ≡ words o nodes) × (length nodes < length mail) = go_behind o nodes in
    let next : next_mail (early d mail) ≡ Some (length nodes) = next_go o d nodes in
    let idle : LiveView = live_as v (at_stand d stand.Idle (words o nodes)) in
    let r : SystemView = with_node n idle s in
    let locking : LiveView = live_as v (at_stand d (stand.ForLock (lock_around n s)) (words o nodes)) in
    let needs : remote.need_of x ≡ need.Lock =
    ap (λ (p : Option ℕ). remote.need_if p (early d mail)) next
    ∙ ap (λ (m : Option Message). outside.need_if m (early d mail)) at.1 in
    ap (λ (y : LiveView). working.handled_for n (remote.need_of y) (working.asked_for n (remote.need_of y) q) q) here
    ∙ ap (λ (y : Need). working.handled_for n y (working.asked_for n y q) q) needs
    ∙ ap (λ (y : LiveView). working.gone n (working.behind n (handled_by s.cluster (own_at s n) n (told (weight_of s.cluster n y)) y) q)) here
    ∙ ap (λ (p : Option ℕ). working.gone n (working.behind n (behind_turn x (handled_if p (dist_turn s.cluster (own_at s n) n (told (weight_of s.cluster n x)) x (early d mail)))) q)) next
    ∙ ap (λ (m : Option Message). working.gone n (working.behind n (behind_turn x (resumed_if stand.ForGo m (taken_out (length nodes) (dist_turn s.cluster (own_at s n) n (told (weight_of s.cluster n x)) x (early d mail))))) q)) at.1
    ∙ ap (λ (l : List Message). working.gone n (with_node n (live_as v (at_stand d stand.Idle l)) q)) at.2
    ∙ ap (working.gone n) (written_twice s n x idle)
    ∙ ap (λ (y : LiveView). working.take_lock n (with_node n (remote.waiting_for_lock (lock_around n s) y) r)) (node_written s n w idle there)
    ∙ ap (working.take_lock n) (written_twice s n idle locking)

-- nobody has it by another name
takes_lock : (n : Node) (s : SystemView) (v : LiveView) (d : DistView) (mail : List Message) (w : LiveView) → live_at s n ≡ Some w
    → All IsShared s.locks
    → working.take_lock n (with_node n (live_as v (at_stand d (stand.ForLock (lock_around n s)) mail)) s)
    ≡ working.behind n (introduced_by s.cluster (own_at s n) n (the_others n s) (live_as v (at_stand d (stand.ForLock (lock_around n s)) mail)))
    (with_node n (live_as v (at_stand d (stand.ForLock (lock_around n s)) mail)) (record s { locks = with_share n v d mail s }))
unfolding working.take_lock
takes_lock n s v d mail w there shared =
    let locking : LiveView = live_as v (at_stand d (stand.ForLock (lock_around n s)) mail) in
    let z : SystemView = with_node n locking s in
    let here : node_at z n ≡ locking = node_written s n w locking there in
    let at : List Node = working.alive_of z (lock_around n s) in
    let free : is_free Sync at s.locks ≡ true = shared_free at s.locks shared in
    let with_lock : LiveView → SystemView = λ y. record z { locks = s.locks ++ held_at Sync (process_at (here_of n y) role.DistAc) at } in
    ap (λ (y : LiveView). working.take_lock_of n (option_map (working.alive_of z) (working.lock_in y.dist)) z) here
    ∙ ap (λ (c : Bool). cond c (working.introduced n (record z { locks = cond c (s.locks ++ held_at Sync (process_in z n role.DistAc) at) s.locks }))
    (record z { locks = cond c (s.locks ++ held_at Sync (process_in z n role.DistAc) at) s.locks })) free
    ∙ ap (λ (y : LiveView). working.introduced n (with_lock y)) here
    ∙ ap (λ (y : LiveView). working.behind n (introduced_by s.cluster (own_at s n) n (the_others n s) y) (with_lock locking)) here

unwatched_still : (d : DistView) (w : Stand) (l : Learnt) (nodes : List Node) (mail : List Message)
    → record (unwatched (at_stand d w mail) l nodes mail) { monitored = [] } ≡ unwatched d l nodes mail
unwatched_still d w l [] mail = refl
unwatched_still d w l (x ∷ xs) mail = refl

-- It introduces itself to all that it sees and that have a dist_ac, and waits for each of them.
pub goes : (o : Told) (n : Node) (s : SystemView) (v : LiveView) (d : DistView) (left : List Node) (w : LiveView) → live_at s n ≡ Some w
    → w.life ≡ v.life → All IsShared s.locks → All (CanHear n s) (the_others n s)
    → working.handled n (with_node n (live_as v (early d (words o left ++ message.Go ∷ []))) s)
    ≡ sharing n v d (with_share n v d (words o left) s) (known_first n d) (the_others n s) (words o left)
    (record s { messages = s.messages ++ map (greeting n (hello n d) s) (the_others n s) })
unfolding introduced_by
goes o n s v d left w there same_life shared can =
    let mail : List Message = words o left in
    let at : Stand = stand.ForLock (lock_around n s) in
    let locking : LiveView = live_as v (at_stand d at mail) in
    let others : List Node = the_others n s in
    let held : List Held = with_share n v d mail s in
    let z : SystemView = with_node n locking (record s { locks = held }) in
    let t : TurnView = dist_turn s.cluster (own_at s n) n (told 0) locking (at_stand d at mail) in
    let outs : List Output = greetings others (hello n d) ++ then_asks (here_of n v) others in
    let over : LiveView = live_as v (unwatched d (known_first n d) others mail) in
    let y : SystemView = with_node n over (record s { locks = held }) in
    let life_here : v.life ≡ (node_at s n).life = sym (ap (λ (x : LiveView). x.life) (node_is s n w there) ∙ same_life) in
    let same : (x : Node) → greeting n (hello n d) y x ≡ greeting n (hello n d) s x =
    λ x. (λ i. record {
      from = process_at (record { node = n; life = same_of_all (λ (w : LiveView). w.life) s n n over life_here i }) role.DistAc;
      to = process_at (record { node = x; life = same_of_all (λ (w : LiveView). w.life) s n x over life_here i }) role.DistAc;
      message = hello n d;
    }) in
    asks_lock o n s v d left w there
    ∙ takes_lock n s v d mail w there shared
    ∙ ap (λ (u : TurnView). working.behind n (behind_turn locking u) z) (opens others t)
    ∙ ap (λ (e : DistView). all_carried_out n outs (with_node n (live_as v e) z)) (unwatched_still d at (known_first n d) others mail)
    ∙ ap (all_carried_out n outs) (written_twice (record s { locks = held }) n locking over)
    ∙ carried_on n (greetings others (hello n d)) (then_asks (here_of n v) others) y
    ∙ ap (all_carried_out n (then_asks (here_of n v) others)) (all_greeted n (hello n d) others y (can_still n s over held others can))
    ∙ (λ i. all_carried_out n (then_asks (here_of n v) others) (record y { messages = s.messages ++ map (λ (x : Node). same x i) others }))
    ∙ carries n v d held (known_first n d) others mail (record s { messages = s.messages ++ map (greeting n (hello n d) s) others }) w there
    (near_first n s others can)
