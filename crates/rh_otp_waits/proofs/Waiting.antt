-- Nodes that hear of others while they wait, and each of which waits for one more of which it doesn't hear: no wait ends.
use Rattle.std.proofs.Common.{◌≡◌, ◌≢◌, ◌⊎◌, ◌<◌, ◌==◌, ◌&&◌, ◌||◌, ℕ, suc, Bool, true, false, not, cond, List, [], ◌∷◌, length, take, drop, get_or, slice_get, Option, Some, refl, sym, ap, subst, ◌∙◌, inl, inr}
use Rattle.std.specs.List.{remove}
use Rattle.std.specs.Prelude.{All}
use Rattle.std.proofs.lemmas.Bool.{cases_Bool, cases_eq, cond-true, cond-false, or_cases, or_left, or_right, eqb-true, not_from_false, ne_eqb, false≢true}
use Rattle.std.proofs.lemmas.List.Elements.{All-append, All-take, All-drop}
use Rattle.std.proofs.lemmas.Option.{slice_get-get_or, none-some}
use Rattle.rh_model.specs.ClusterView.{is_in, numbered}
use Rattle.rh_model.specs.declared.node.Node.{Node}
use Rattle.rh_otp_model.specs.declared.message.Message.TheVariants as message
use Rattle.rh_otp_model.specs.declared.output.Envelope.{Envelope}
use Rattle.rh_otp_model.specs.declared.process.Role.TheVariants as role
use Rattle.rh_otp_model.specs.Processes.{process_at}
use Rattle.rh_otp_dist.specs.State.{DistView}
use Rattle.rh_otp_net.specs.Links.{are_linked, to_connect}
use Rattle.rh_otp_node.specs.Kernel as kernel
use Rattle.rh_otp_node.specs.Live.{LiveView, is_alive, is_up, is_ending}
use Rattle.rh_otp_system.specs.declared.calls.Call.{Call}
use Rattle.rh_otp_system.specs.declared.moves.Move.TheVariants as move
use Rattle.rh_otp_system.specs.declared.slow.Slow.{Slow}
use Rattle.rh_otp_system.specs.declared.slow.Slow.TheVariants as slow
use Rattle.rh_otp_system.specs.Connecting.{connect, link, with_slow_links}
use Rattle.rh_otp_system.specs.Delivering.{arrived, slowed}
use Rattle.rh_otp_system.specs.Joining.{kernel_received, has_seen, join}
use Rattle.rh_otp_system.specs.Moves as moves
use Rattle.rh_otp_system.specs.Moves.{IsAmong, is_to_end}
use Rattle.rh_otp_system.specs.State.{SystemView, live_at, node_at, with_node, is_alive_at, is_up_at}
use Rattle.rh_otp_laws.specs.Acting.{IsThere}
use Rattle.rh_otp_laws.specs.Messages.{ArrivesInOrder}
use Rattle.rh_otp_laws.proofs.Nodes.{alive_is_there, node_written, others_as_they_were, same_of_all, as_it_was_or_written}
use Rattle.rh_otp_laws.proofs.Order.{keeps_order}
use Rattle.rh_otp_orders.proofs.Taking.{Taken, arrives_so}
use Rattle.rh_otp_crashes.specs.Crashes.{IsUnoccupied}
use Rattle.rh_otp_crashes.proofs.Crash.{lives_of}
use Rattle.rh_otp_crashes.proofs.Crossing.{same_node}
use Rattle.rh_otp_crashes.proofs.Peace.{here_in, without, is_free_at_ease, arrives_alive, arrives_dead, taken_all, no_lock_at}
use Rattle.rh_otp_stops.proofs.Still.{Come}
use Rattle.rh_otp_waits.specs.Waits.{is_awaited}

-- ---- what is on its way

-- a node's net_kernel tells its kernel_config of another one
abbrev pub up_of : (Node → ℕ) → Node → Node → Envelope
up_of lives m x = record {
  from = process_at (here_in lives m) role.NetKernel;
  to = process_at (here_in lives m) role.KernelConfig;
  message = message.NodeUp x;
}

-- all messages are such, of those of which the node may hear
pub data IsUp (heard : Node → Node → Bool) (lives : Node → ℕ) : Envelope → Type 0 where
  hears : (m x : Node) → heard m x ≡ true → IsUp heard lives (up_of lives m x)

-- something slow that comes to nothing: a connection of nodes that see one another already, or that aren't both alive
abbrev pub IsIdle : SystemView → Slow → Type 0
IsIdle a (slow.Connect one two) = (is_alive_at a one && is_alive_at a two) ≡ true → are_linked one two a.links ≡ true
IsIdle a (slow.Boot n) = ⊥

-- the node waits for one of which it doesn't hear
pub record Lacks (heard : Node → Node → Bool) (m : Node) (v : LiveView) : Type 0 where
  pub lacked : Node
  pub unheard : heard m lacked ≡ false
  pub awaited : is_awaited v lacked ≡ true

-- a node without those that it waits for
abbrev pub unlisted : LiveView → LiveView
unlisted v = record v { mandatory = []; optional = [] }

-- all but the nodes and what is on its way
abbrev all_else : SystemView → SystemView → SystemView
all_else a s = record s { nodes = a.nodes; messages = []; slow = [] }

-- Since then (`a`) nodes have heard of others, and nothing else has changed; what is still on its way is no more than that, and things that
-- come to nothing. Each node that waits waited for one of which it doesn't hear, and it waits for all those still.
pub record HeardOnly (heard : Node → Node → Bool) (a s : SystemView) : Type 0 where
  pub else : all_else a s ≡ all_else a a
  pub nodes : (m : Node) → unlisted (node_at s m) ≡ unlisted (node_at a m)
  pub messages : All (IsUp heard (lives_of a)) s.messages
  pub slow : All (IsIdle a) s.slow
  pub there : (m : Node) → IsThere m s → IsThere m a
  pub lacks : (m : Node) → is_alive_at a m ≡ true → is_up_at a m ≡ false → Lacks heard m (node_at a m)
  pub awaits : (m k : Node) → heard m k ≡ false → is_awaited (node_at a m) k ≡ true → is_awaited (node_at s m) k ≡ true

-- there no call is open, and nobody does anything
pub record IsCalm (a : SystemView) : Type 0 where
  pub calls : a.calls ≡ []
  pub dists : (n : Node) (d : DistView) → is_alive_at a n ≡ true → (node_at a n).dist ≡ Some d → IsUnoccupied d
  pub ends : (n : Node) → is_alive_at a n ≡ true → is_to_end n a ≡ false
  pub listed : (n : Node) → IsAmong n a.alive → is_alive_at a n ≡ true

pub still_alive : {heard : Node → Node → Bool} {a : SystemView} (s : SystemView) (m : Node) → HeardOnly heard a s
    → is_alive_at s m ≡ is_alive_at a m
still_alive s m w = ap is_alive (w.nodes m)

same_links : {heard : Node → Node → Bool} {a : SystemView} (s : SystemView) → HeardOnly heard a s → s.links ≡ a.links
same_links s w = ap (λ (x : SystemView). x.links) w.else

-- ---- a node hears of another one

in_left : (x k : Node) (nodes : List Node) → k.0 ≢ x.0 → is_in k nodes ≡ true → is_in k (kernel.without_node x nodes) ≡ true
in_left x k [] apart among = among
in_left x k (m ∷ nodes) apart among =
    by (not (m.0 == x.0)) refl (or_cases (k.0 == m.0) (is_in k nodes) among) (in_left x k nodes apart)
  where
    left : List Node
    left = kernel.without_node x nodes

    by : (b : Bool) → not (m.0 == x.0) ≡ b → ((k.0 == m.0) ≡ true) ⊎ (is_in k nodes ≡ true)
        → (is_in k nodes ≡ true → is_in k left ≡ true) → is_in k (cond b (m ∷ left) left) ≡ true
    by true kept (inl here) rest = or_left (k.0 == m.0) (is_in k left) here
    by true kept (inr later) rest = or_right (k.0 == m.0) (is_in k left) (rest later)
    by false gone (inl here) rest =
        absurd (false≢true (sym gone ∙ not_from_false (m.0 == x.0) (ne_eqb m.0 x.0 (λ is. apart (eqb-true k.0 m.0 here ∙ is)))))
    by false gone (inr later) rest = rest later

-- it waits for the others still
still_awaited : (x k : Node) (v : LiveView) → k.0 ≢ x.0 → is_awaited v k ≡ true → is_awaited (kernel.seen x v) k ≡ true
still_awaited x k v apart awaited = by (is_in x v.mandatory) (or_cases (is_in k v.mandatory) (is_in k v.optional) awaited)
  where
    by : (b : Bool) → (is_in k v.mandatory ≡ true) ⊎ (is_in k v.optional ≡ true)
        → is_awaited (cond b (record v { mandatory = kernel.without_node x v.mandatory })
        (record v { optional = kernel.without_node x v.optional })) k ≡ true
    by true (inl first) =
        or_left (is_in k (kernel.without_node x v.mandatory)) (is_in k v.optional) (in_left x k v.mandatory apart first)
    by true (inr second) = or_right (is_in k (kernel.without_node x v.mandatory)) (is_in k v.optional) second
    by false (inl first) = or_left (is_in k v.mandatory) (is_in k (kernel.without_node x v.optional)) first
    by false (inr second) =
        or_right (is_in k v.mandatory) (is_in k (kernel.without_node x v.optional)) (in_left x k v.optional apart second)

some_node : (k : Node) (nodes : List Node) → is_in k nodes ≡ true → kernel.is_some_node nodes ≡ true
some_node k [] among = among
some_node k (m ∷ nodes) among = refl

-- whoever awaits a node waits
pub awaiting_waits : (k : Node) (v : LiveView) → is_awaited v k ≡ true → kernel.waits v ≡ true
awaiting_waits k v awaited = by (or_cases (is_in k v.mandatory) (is_in k v.optional) awaited)
  where
    by : (is_in k v.mandatory ≡ true) ⊎ (is_in k v.optional ≡ true) → kernel.waits v ≡ true
    by (inl first) = or_left (kernel.is_some_node v.mandatory) (kernel.is_some_node v.optional) (some_node k v.mandatory first)
    by (inr second) = or_right (kernel.is_some_node v.mandatory) (kernel.is_some_node v.optional) (some_node k v.optional second)

seen_unlisted : (x : Node) (v : LiveView) → unlisted (kernel.seen x v) ≡ unlisted v
seen_unlisted x v = by (is_in x v.mandatory)
  where
    by : (b : Bool)
        → unlisted (cond b (record v { mandatory = kernel.without_node x v.mandatory })
        (record v { optional = kernel.without_node x v.optional })) ≡ unlisted v
    by true = refl
    by false = refl

-- what is heard isn't what isn't
unheard_apart : (heard : Node → Node → Bool) (m k x : Node) → heard m k ≡ false → heard m x ≡ true → k.0 ≢ x.0
unheard_apart heard m k x not_heard is same =
    false≢true (sym not_heard ∙ ap (heard m) (same_node k x same) ∙ is)

-- where it lacks one it waits on
pub waits_on : {heard : Node → Node → Bool} {a : SystemView} (m x : Node) (q : SystemView) → heard m x ≡ true → is_alive_at q m ≡ true
    → is_up_at q m ≡ false → HeardOnly heard a q → has_seen m x q ≡ with_node m (kernel.seen x (node_at q m)) q
unfolding has_seen
waits_on {heard} {a} m x q is alive down w =
    let new : LiveView = kernel.seen x (node_at q m) in
    let next : SystemView = with_node m new q in
    let there : (v : LiveView) × (live_at q m ≡ Some v) = alive_is_there q m alive in
    let so : Lacks heard m (node_at a m) =
    w.lacks m (sym (ap is_alive (w.nodes m)) ∙ alive) (sym (ap is_up (w.nodes m)) ∙ down) in
    cond-true (kernel.waits (node_at next m)) next (join m next)
    (ap kernel.waits (node_written q m there.0 new there.1)
    ∙ awaiting_waits so.lacked new
    (still_awaited x so.lacked (node_at q m) (unheard_apart heard m so.lacked x so.unheard is)
    (w.awaits m so.lacked so.unheard so.awaited)))

-- a node that is written was there
there_before : (q : SystemView) (m k : Node) (new : LiveView) → is_alive_at q m ≡ true → IsThere k (with_node m new q) → IsThere k q
there_before q m k new alive there = by (cases_eq k.0 m.0)
  where
    by : (k.0 ≡ m.0) ⊎ (k.0 ≢ m.0) → IsThere k q
    by (inl here) = subst (λ (j : Node). IsThere j q) (same_node m k (sym here)) (alive_is_there q m alive)
    by (inr other) = (there.0, sym (others_as_they_were q m k new other) ∙ there.1)

heard_on : {heard : Node → Node → Bool} {a : SystemView} (m x : Node) (q : SystemView) → heard m x ≡ true → is_alive_at q m ≡ true
    → HeardOnly heard a q → HeardOnly heard a (with_node m (kernel.seen x (node_at q m)) q)
heard_on {heard} {a} m x q is alive w = record {
  else = w.else;
  nodes = λ k. same_of_all unlisted q m k new (seen_unlisted x (node_at q m)) ∙ w.nodes k;
  messages = w.messages;
  slow = w.slow;
  there = λ k there. w.there k (there_before q m k new alive there);
  lacks = w.lacks;
  awaits = λ j k not_heard awaited. by j k not_heard (w.awaits j k not_heard awaited) (as_it_was_or_written q m j new);
}
  where
    new : LiveView
    new = kernel.seen x (node_at q m)

    t : SystemView
    t = with_node m new q

    by : (j k : Node) → heard j k ≡ false → is_awaited (node_at q j) k ≡ true
        → (node_at t j ≡ node_at q j) ⊎ ((j.0 ≡ m.0) × (node_at t j ≡ new)) → is_awaited (node_at t j) k ≡ true
    by j k not_heard awaited (inl same) = ap (λ (v : LiveView). is_awaited v k) same ∙ awaited
    by j k not_heard awaited (inr here) =
        let it : j ≡ m = same_node j m here.0 in
        ap (λ (v : LiveView). is_awaited v k) here.1
        ∙ still_awaited x k (node_at q m)
        (unheard_apart heard m k x (ap (λ (i : Node). heard i k) (sym it) ∙ not_heard) is)
        (ap (λ (i : Node). is_awaited (node_at q i) k) (sym it) ∙ awaited)

pub taken_on : {heard : Node → Node → Bool} {a : SystemView} (s : SystemView) (left : List Envelope) → HeardOnly heard a s
    → All (IsUp heard (lives_of a)) left → HeardOnly heard a (without s left)
taken_on s left w all = record {
  else = w.else;
  nodes = w.nodes;
  messages = all;
  slow = w.slow;
  there = w.there;
  lacks = w.lacks;
  awaits = w.awaits;
}

received_on : {heard : Node → Node → Bool} {a : SystemView} (m x : Node) (q : SystemView) → heard m x ≡ true → is_alive_at q m ≡ true
    → HeardOnly heard a q → HeardOnly heard a (kernel_received m (message.NodeUp x) q)
received_on {heard} {a} m x q is alive w = by (cases_Bool (is_up_at q m))
  where
    by : (is_up_at q m ≡ true) ⊎ (is_up_at q m ≡ false) → HeardOnly heard a (kernel_received m (message.NodeUp x) q)
    by (inl up) = subst (HeardOnly heard a) (sym (cond-true (is_up_at q m) q (has_seen m x q) up)) w
    by (inr down) =
        subst (HeardOnly heard a)
        (sym (cond-false (is_up_at q m) q (has_seen m x q) down ∙ waits_on m x q is alive down w))
        (heard_on m x q is alive w)

arrived_on : {heard : Node → Node → Bool} {a : SystemView} (q : SystemView) (e : Envelope) → IsUp heard (lives_of a) e → HeardOnly heard a q
    → HeardOnly heard a (arrived e.to e.message q)
arrived_on {heard} {a} q _ (hears m x is) w = by (cases_Bool (is_alive_at q m))
  where
    e : Envelope
    e = up_of (lives_of a) m x

    by : (is_alive_at q m ≡ true) ⊎ (is_alive_at q m ≡ false) → HeardOnly heard a (arrived e.to e.message q)
    by (inl alive) =
        subst (HeardOnly heard a) (sym (arrives_alive e.to e.message q alive (ap (λ (v : LiveView). v.life) (w.nodes m))))
        (received_on m x q is alive w)
    by (inr dead) = subst (HeardOnly heard a) (sym (arrives_dead e.to e.message q dead)) w

-- a message has come
pub came_on : {heard : Node → Node → Bool} {a : SystemView} (s : SystemView) (e : Envelope) (left : List Envelope) → HeardOnly heard a s
    → Taken e s.messages left → HeardOnly heard a (arrived e.to e.message (without s left))
came_on {heard} {a} s e left w taken =
    let kinds : IsUp heard (lives_of a) e × All (IsUp heard (lives_of a)) left =
    taken_all (IsUp heard (lives_of a)) e s.messages left taken w.messages in
    arrived_on (without s left) e kinds.0 (taken_on s left w kinds.1)

-- ---- something slow comes to nothing

abbrev pub unslowed : SystemView → ℕ → SystemView
unslowed s place = record s { slow = remove s.slow place }

all_left : {A : Type 0} (P : A → Type 0) (xs : List A) (place : ℕ) → All P xs → All P (remove xs place)
all_left P xs place all =
    All-append P (take place xs) (drop (suc place) xs) (All-take P place xs all) (All-drop P (suc place) xs all)

comes_to_nothing : {heard : Node → Node → Bool} {a : SystemView} (q : SystemView) (what : Slow) → HeardOnly heard a q → IsIdle a what
    → slowed what q ≡ q
unfolding slowed connect
comes_to_nothing q (slow.Boot n) w idle = absurd idle
comes_to_nothing {heard} {a} q (slow.Connect one two) w idle = by (is_alive_at q one && is_alive_at q two) refl
  where
    more : SystemView
    more = with_slow_links (to_connect one two q.links) (link one two q)

    by : (b : Bool) → (is_alive_at q one && is_alive_at q two) ≡ b → cond b (cond (are_linked one two q.links) q more) q ≡ q
    by true alive =
        cond-true (are_linked one two q.links) q more
        (ap (are_linked one two) (same_links q w)
        ∙ idle ((λ i. sym (still_alive q one w) i && sym (still_alive q two w) i) ∙ alive))
    by false dead = refl

pub slow_on : {heard : Node → Node → Bool} {a : SystemView} (s : SystemView) (place : ℕ) → HeardOnly heard a s
    → HeardOnly heard a (unslowed s place)
slow_on {heard} {a} s place w = record {
  else = w.else;
  nodes = w.nodes;
  messages = w.messages;
  slow = all_left (IsIdle a) s.slow place w.slow;
  there = w.there;
  lacks = w.lacks;
  awaits = w.awaits;
}

pub slow_made : {heard : Node → Node → Bool} {a : SystemView} (s : SystemView) (place : ℕ) → HeardOnly heard a s → place < length s.slow
    → moves.made (move.Slow place) s ≡ unslowed s place
unfolding moves.made
slow_made s place w within =
    let none : Slow = slow.Boot (numbered 0) in
    ap (λ (o : Option Slow). moves.slow_done_if place o s) (slice_get-get_or s.slow place none within)
    ∙ comes_to_nothing (unslowed s place) (get_or s.slow place none) (slow_on s place w) (w.slow place none within)

-- ---- nothing else can move

-- something slow has come
pub record Passed (s t : SystemView) : Type 0 where
  pub place : ℕ
  pub within : place < length s.slow
  pub is : t ≡ unslowed s place

same_end : {heard : Node → Node → Bool} {a : SystemView} (s : SystemView) (n : Node) → HeardOnly heard a s → is_to_end n s ≡ is_to_end n a
same_end {heard} {a} s n w =
    λ i. is_ending (w.nodes n i) && ((ap (λ (x : SystemView). x.ends_soon) w.else) i || not (w.nodes n i).is_stopped)

pub step : {heard : Node → Node → Bool} {a : SystemView} (s t : SystemView) → IsCalm a → HeardOnly heard a s → moves.Delivers s t
    → Come s t ⊎ ((s.messages ≡ []) × Passed s t)
step s t calm w (move.Deliver place, possible, is) =
    let come : ArrivesInOrder place s (moves.made (move.Deliver place) s) = keeps_order s place possible in
    let e : Envelope = come.message in
    let so : (left : List Envelope) × Taken e s.messages left × (t ≡ arrived e.to e.message (without s left)) =
    arrives_so s t e (place, come.is_there, is) in
    inl (record { message = e; left = so.0; arrives = (place, come.is_there, is); taken = so.1; is = so.2 })
step s t calm w (move.Slow place, possible, is) =
    inr (possible.0, record { place = place; within = possible.1; is = is ∙ slow_made s place w possible.1 })
step {heard} {a} s t calm w (move.Lock n, possible, is) = absurd (false≢true (sym locked ∙ possible.2))
  where
    among : is_alive_at a n ≡ true
    among = calm.listed n (subst (λ (l : List Node). IsAmong n l) (ap (λ (x : SystemView). x.alive) w.else) possible.1)

    locked : moves.can_go_on_at n s ≡ false
    locked =
        no_lock_at n s (node_at s n).dist
        (λ d has. is_free_at_ease d (calm.dists n d among (sym (ap (λ (v : LiveView). v.dist) (w.nodes n)) ∙ has)))
step s t calm w (move.Call place, possible, is) =
    let none : s.calls ≡ [] = ap (λ (x : SystemView). x.calls) w.else ∙ calm.calls in
    absurd (none-some possible.1.0 (sym (ap (λ (l : List Call). slice_get l place) none) ∙ possible.1.1))
step s t calm w (move.End n, possible, is) =
    absurd (false≢true (sym (same_end s n w
    ∙ calm.ends n (calm.listed n (subst (λ (l : List Node). IsAmong n l) (ap (λ (x : SystemView). x.alive) w.else) possible.1)))
    ∙ possible.2))

pub goes_on : {heard : Node → Node → Bool} {a : SystemView} (s t : SystemView) → IsCalm a → HeardOnly heard a s → moves.Delivers s t
    → HeardOnly heard a t
goes_on {heard} {a} s t calm w one = by (step s t calm w one)
  where
    by : Come s t ⊎ ((s.messages ≡ []) × Passed s t) → HeardOnly heard a t
    by (inl come) = subst (HeardOnly heard a) (sym come.is) (came_on s come.message come.left w come.taken)
    by (inr passed) = subst (HeardOnly heard a) (sym passed.1.is) (slow_on s passed.1.place w)
