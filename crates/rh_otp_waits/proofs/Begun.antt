-- What is on its way where a node has begun that waits on.
use Rattle.std.proofs.Common.{◌≡◌, ◌≢◌, ◌<◌, ◌++◌, ◌==◌, ◌&&◌, ◌+◌, ◌^◌, nat_lt, ℕ, Bool, true, false, not, cond, List, [], ◌∷◌, filter, Option, Some, None, refl, sym, ap, subst, ◌∙◌, arith}
use Rattle.std.specs.List.{flat_map}
use Rattle.std.specs.Prelude.{All}
use Rattle.std.proofs.lemmas.Bool.{and_parts, cond-true, cond-false, eq-eqb, ne_eqb, eqb-false, not-true, true≢false}
use Rattle.std.proofs.lemmas.List.Elements.{All-nil, All-head, All-tail, All-append, All-push, All-map, All-weaker, filter_passes}
use Rattle.rh_model.specs.declared.node.Node.{Node}
use Rattle.rh_otp_model.specs.declared.message.Message.TheVariants as message
use Rattle.rh_otp_model.specs.declared.output.Envelope.{Envelope}
use Rattle.rh_otp_model.specs.declared.process.Role.TheVariants as role
use Rattle.rh_otp_model.specs.Processes.{process_at}
use Rattle.rh_otp_net.specs.declared.links.Link.{Link}
use Rattle.rh_otp_net.specs.Links.{link, are_linked, is_between, is_to_connect, joined, around, to_connect}
use Rattle.rh_otp_node.specs.Kernel as kernel
use Rattle.rh_otp_system.specs.declared.slow.Slow.{Slow}
use Rattle.rh_otp_system.specs.declared.slow.Slow.TheVariants as slow
use Rattle.rh_otp_system.specs.Connecting as connecting
use Rattle.rh_otp_system.specs.Doing.{seen_at_once, all_seen, with_timeout, waited_for}
use Rattle.rh_otp_system.specs.Joining.{join}
use Rattle.rh_otp_system.specs.Sending.{sent, after, with_timer}
use Rattle.rh_otp_system.specs.State.{SystemView, node_at, is_alive_at, process_in}
use Rattle.rh_otp_crashes.proofs.Crash.{lives_of}
use Rattle.rh_otp_waits.proofs.Seeing.{Bare}
use Rattle.rh_otp_waits.proofs.Waiting.{IsUp, hears, up_of}

-- ---- what global is to connect

-- something slow that connects two different nodes
abbrev pub Connects : Slow → Type 0
Connects (slow.Connect one two) = one.0 ≢ two.0
Connects (slow.Boot n) = ⊥

abbrev IsOfTwo : Link → Type 0
IsOfTwo l = l.0.0 ≢ l.1.0

joined_apart : (pair : Link) (links : List Link) (a : Node) (others : List Node) → All IsOfTwo (joined pair links a others)
joined_apart pair links a others =
    All-map IsOfTwo (link a) (filter test others)
    (All-weaker (λ (b : Node). test b ≡ true) (λ (b : Node). IsOfTwo (link a b)) apart (filter test others) (filter_passes test others))
  where
    test : Node → Bool
    test b = is_to_connect pair.0 pair.1 links a b

    apart : (b : Node) → test b ≡ true → a.0 ≢ b.0
    apart b is =
        eqb-false a.0 b.0
        (not-true (a.0 == b.0)
        (and_parts (not (a.0 == b.0)) (not (are_linked a b links))
        (and_parts (not (a.0 == b.0) && not (are_linked a b links)) (not (is_between pair.0 pair.1 (link a b))) is).0).0)

all_joined : (pair : Link) (links : List Link) (others nodes : List Node)
    → All IsOfTwo (flat_map (λ (a : Node). joined pair links a others) nodes)
all_joined pair links others [] = All-nil IsOfTwo
all_joined pair links others (a ∷ nodes) =
    All-append IsOfTwo (joined pair links a others) (flat_map (λ (b : Node). joined pair links b others) nodes)
    (joined_apart pair links a others) (all_joined pair links others nodes)

to_connect_apart : (one two : Node) (links : List Link) → All IsOfTwo (to_connect one two links)
unfolding to_connect
to_connect_apart one two links = all_joined (link one two) links (around two links) (around one links)

-- ---- what is told

-- the node itself hears of those that are alive, and all others of the node
abbrev pub heard_of : SystemView → Node → Node → Node → Bool
heard_of b n m x = cond (m.0 == n.0) (is_alive_at b x) (x.0 == n.0)

it_hears : (b : SystemView) (n x : Node) → is_alive_at b x ≡ true → heard_of b n n x ≡ true
it_hears b n x alive = cond-true (n.0 == n.0) (is_alive_at b x) (x.0 == n.0) (eq-eqb n.0 n.0 refl) ∙ alive

others_hear : (b : SystemView) (n m : Node) → m.0 ≢ n.0 → heard_of b n m n ≡ true
others_hear b n m other =
    cond-false (m.0 == n.0) (is_alive_at b n) (n.0 == n.0) (ne_eqb m.0 n.0 other) ∙ eq-eqb n.0 n.0 refl

pub dead_unheard : (b : SystemView) (n m k : Node) → m.0 ≡ n.0 → is_alive_at b k ≡ false → heard_of b n m k ≡ false
dead_unheard b n m k it dead = cond-true (m.0 == n.0) (is_alive_at b k) (k.0 == n.0) (eq-eqb m.0 n.0 it) ∙ dead

pub others_unheard : (b : SystemView) (n m k : Node) → m.0 ≢ n.0 → k.0 ≢ n.0 → heard_of b n m k ≡ false
others_unheard b n m k other another =
    cond-false (m.0 == n.0) (is_alive_at b k) (k.0 == n.0) (ne_eqb m.0 n.0 other) ∙ ne_eqb k.0 n.0 another

-- Since the node has begun (`b`) nothing else has changed but connections and timers, and what is on its way is such.
pub record Tells (b : SystemView) (n : Node) (s : SystemView) : Type 0 where
  pub same : Bare b s
  pub messages : All (IsUp (heard_of b n) (lives_of b)) s.messages
  pub slow : All Connects s.slow

tells_up : (b : SystemView) (n m x : Node) (s : SystemView) → heard_of b n m x ≡ true → Tells b n s → Tells b n (connecting.with_up m x s)
tells_up b n m x s is t = record {
  same = t.same;
  messages = All-push (IsUp (heard_of b n) (lives_of b)) s.messages _ t.messages
      (subst (λ (e : Envelope). IsUp (heard_of b n) (lives_of b) e) so (hears m x is));
  slow = t.slow;
}
  where
    life : lives_of b m ≡ (node_at s m).life
    life = sym (ap (λ (y : SystemView). (node_at y m).life) t.same)

    so : up_of (lives_of b) m x
        ≡ record { from = process_in s m role.NetKernel; to = process_in s m role.KernelConfig; message = message.NodeUp x }
    so = λ i. record {
      from = process_at (record { node = m; life = life i }) role.NetKernel;
      to = process_at (record { node = m; life = life i }) role.KernelConfig;
      message = message.NodeUp x;
    }

tells_either : (b : SystemView) (n : Node) (p : Bool) (x y : SystemView) → Tells b n x → Tells b n y → Tells b n (cond p x y)
tells_either b n true x y p q = p
tells_either b n false x y p q = q

tells_waiting : (b : SystemView) (n m x : Node) (s : SystemView) → heard_of b n m x ≡ true → Tells b n s
    → Tells b n (connecting.tell_up m x s)
tells_waiting b n m x s is t = tells_either b n (connecting.waits_in (node_at s m).phase) _ _ (tells_up b n m x s is t) t

tells_slow : (b : SystemView) (n : Node) (more : List Link) (s : SystemView) → All IsOfTwo more → Tells b n s
    → Tells b n (connecting.with_slow_links more s)
tells_slow b n [] s apart t = t
tells_slow b n (l ∷ more) s apart t =
    tells_slow b n more (connecting.with_slow (slow.Connect l.0 l.1) s) (All-tail IsOfTwo l more apart) (record {
      same = t.same;
      messages = t.messages;
      slow = All-push Connects s.slow (slow.Connect l.0 l.1) t.slow (All-head IsOfTwo l more apart);
    })

tells_connected : (b : SystemView) (n other : Node) (s : SystemView) → other.0 ≢ n.0 → is_alive_at b other ≡ true → Tells b n s
    → Tells b n (connecting.connect n other s)
unfolding connecting.connect
tells_connected b n other s apart alive t =
    let added : SystemView = record s { links = s.links ++ link n other ∷ [] } in
    let first : SystemView = connecting.tell_up n other added in
    tells_either b n (are_linked n other s.links) _ _ t
    (tells_slow b n (to_connect n other s.links) (connecting.tell_up other n first) (to_connect_apart n other s.links)
    (tells_waiting b n other n first (others_hear b n other apart)
    (tells_waiting b n n other added (it_hears b n other alive) (record { same = t.same; messages = t.messages; slow = t.slow }))))

tells_reached : (b : SystemView) (n other : Node) (s : SystemView) → is_alive_at b other ≡ true → Tells b n s
    → Tells b n (connecting.reach n other s)
tells_reached b n other s alive t = by (n.0 == other.0) refl
  where
    by : (p : Bool) → (n.0 == other.0) ≡ p → Tells b n (cond p s (connecting.connect n other s))
    by true itself = t
    by false apart = tells_connected b n other s (λ is. eqb-false n.0 other.0 apart (sym is)) alive t

tells_seen : (b : SystemView) (n other : Node) (s : SystemView) → Tells b n s → Tells b n (seen_at_once n other s)
tells_seen b n other s t = by (is_alive_at s other) refl
  where
    by : (p : Bool) → is_alive_at s other ≡ p → Tells b n (cond p (connecting.with_up n other (connecting.reach n other s)) s)
    by true is =
        let alive : is_alive_at b other ≡ true = sym (ap (λ (y : SystemView). is_alive_at y other) t.same) ∙ is in
        tells_up b n n other (connecting.reach n other s) (it_hears b n other alive) (tells_reached b n other s alive t)
    by false dead = t

tells_all_seen : (b : SystemView) (n : Node) (others : List Node) (s : SystemView) → Tells b n s → Tells b n (all_seen n others s)
tells_all_seen b n [] s t = t
tells_all_seen b n (other ∷ others) s t = tells_all_seen b n others (seen_at_once n other s) (tells_seen b n other s t)

-- a wait that has no end, or some time
abbrev pub IsSome : Option ℕ → Type 0
IsSome None = Unit {0}
IsSome (Some time) = 0 < time

tells_timer : (b : SystemView) (n : Node) (time : ℕ) (s : SystemView) → 0 < time → Tells b n s → Tells b n (with_timeout n (Some time) s)
unfolding after
tells_timer b n time s some t = by (time == 0) (ne_eqb time 0 (λ is. omega (arith, some, is)))
  where
    by : (p : Bool) → p ≡ false → Tells b n (cond p
        (sent (record (process_in s n role.KernelConfig) { role = role.Timer }) (process_in s n role.KernelConfig) message.Timeout s)
        (cond (nat_lt 4294967295 time) s
        (cond (nat_lt (s.clock + time) (2 ^ 64)) (with_timer (s.clock + time) (process_in s n role.KernelConfig) message.Timeout s) s)))
    by true is = absurd (true≢false is)
    by false is =
        tells_either b n (nat_lt 4294967295 time) _ _ t
        (tells_either b n (nat_lt (s.clock + time) (2 ^ 64)) _ _
        (record { same = t.same; messages = t.messages; slow = t.slow }) t)

tells_timeout : (b : SystemView) (n : Node) (time : Option ℕ) (s : SystemView) → IsSome time → Tells b n s
    → Tells b n (with_timeout n time s)
tells_timeout b n None s some t = t
tells_timeout b n (Some time) s some t = tells_timer b n time s some t

-- it waits on, by its lists
pub tells_waited : (b : SystemView) (n : Node) (time : Option ℕ) → IsSome time → kernel.waits (node_at b n) ≡ true → b.messages ≡ []
    → b.slow ≡ [] → Tells b n (waited_for n time b)
unfolding waited_for
tells_waited b n time some waits no_messages no_slow =
    subst (Tells b n)
    (sym (cond-true (kernel.waits (node_at last n)) last (join n last)
    (ap (λ (y : SystemView). kernel.waits (node_at y n)) over.same ∙ waits)))
    over
  where
    first : SystemView
    first = all_seen n (node_at b n).mandatory b

    all : SystemView
    all = all_seen n (node_at b n).optional first

    last : SystemView
    last = with_timeout n time all

    begun : Tells b n b
    begun = record {
      same = refl;
      messages = subst (All (IsUp (heard_of b n) (lives_of b))) (sym no_messages) (All-nil (IsUp (heard_of b n) (lives_of b)));
      slow = subst (All Connects) (sym no_slow) (All-nil Connects);
    }

    over : Tells b n last
    over =
        tells_timeout b n time all some
        (tells_all_seen b n (node_at b n).optional first (tells_all_seen b n (node_at b n).mandatory b begun))
