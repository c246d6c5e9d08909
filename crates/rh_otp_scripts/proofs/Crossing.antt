-- While a boot script runs two messages cross: at the node what its dist_ac is told and what its controller or the script is, and the
-- request of its controller and what another node is told.
use Rattle.std.proofs.Common.{◌≡◌, ◌≢◌, ◌++◌, ℕ, true, false, List, [], Option, Some, refl, sym, ap, subst, ◌∙◌, inr}
use Rattle.std.specs.Prelude.{All}
use Rattle.std.proofs.lemmas.Bool.{and_parts, false≢true}
use Rattle.std.proofs.lemmas.List.{append-nil, set_comm}
use Rattle.std.proofs.lemmas.List.Elements.{All-nil, All-cons, All-weaker}
use Rattle.rh_model.specs.declared.node.App.{App}
use Rattle.rh_model.specs.declared.node.Node.{Node}
use Rattle.rh_model.specs.declared.settings.Dep.{Dep}
use Rattle.rh_otp_model.specs.declared.message.Message.TheVariants as message
use Rattle.rh_otp_model.specs.declared.output.Envelope.{Envelope}
use Rattle.rh_otp_model.specs.declared.output.Event.{Event}
use Rattle.rh_otp_model.specs.declared.process.Process.{Process}
use Rattle.rh_otp_model.specs.declared.process.Role.TheVariants as role
use Rattle.rh_otp_model.specs.Processes.{process_at}
use Rattle.rh_otp_dist.specs.State.{DistView}
use Rattle.rh_otp_net.specs.declared.locks.Held.{Held}
use Rattle.rh_otp_net.specs.declared.timers.Timer.{Timer}
use Rattle.rh_otp_net.specs.Alike.{is_process}
use Rattle.rh_otp_net.specs.Queue.{is_of_pair}
use Rattle.rh_otp_node.specs.Live.{LiveView, is_alive}
use Rattle.rh_otp_system.specs.declared.cell.Cell.TheVariants as cell
use Rattle.rh_otp_system.specs.Delivering.{arrived, received}
use Rattle.rh_otp_system.specs.State.{SystemView, live_at, node_at, with_node, is_alive_at}
use Rattle.rh_otp_laws.specs.Messages.{of_pair}
use Rattle.rh_otp_laws.proofs.Alike.{same_process}
use Rattle.rh_otp_laws.proofs.Nodes.{there_written, others_as_they_were, same_of_all}
use Rattle.rh_otp_orders.specs.Confluence.{Meet}
use Rattle.rh_otp_orders.specs.Orders.{Arrives, AreAlike}
use Rattle.rh_otp_orders.proofs.Apart.{in_either_order}
use Rattle.rh_otp_orders.proofs.Confluence.{alike_itself}
use Rattle.rh_otp_orders.proofs.Taking.{Taken, taken_arrives, taken_of_more, both_taken}
use Rattle.rh_otp_crashes.proofs.Carrying.{letters, alarms}
use Rattle.rh_otp_crashes.proofs.Peace.{here_in, without, arrives_alive, arrives_dead, turned_so, delivers}
use Rattle.rh_otp_crashes.proofs.Starting.{moves_elsewhere}
use Rattle.rh_otp_crashes.proofs.Turning.{Turned, Changed, node_is, written_twice}
use Rattle.rh_otp_stops.proofs.Stopping.{there_is}
use Rattle.rh_otp_starts.proofs.Requests.{its_reply}
use Rattle.rh_otp_scripts.proofs.Coming.{own_ran, heard_at, arrives_there}
use Rattle.rh_otp_scripts.proofs.Requesting.{Requested, Onward, replied, quiet, hangs}
use Rattle.rh_otp_scripts.proofs.Running.{Stands, Ran}
use Rattle.rh_otp_scripts.proofs.Speaking.{Spoken}
use Rattle.rh_otp_scripts.proofs.Underway.{Calm}
use Rattle.rh_otp_scripts.proofs.Words.{its_request, own_news, news, learned, is_dist, IsVoice}

-- ---- where messages of different pairs stand in another order

-- systems are alike that differ in that alone
swapped_alike : (p : SystemView) (xs ys : List Envelope) → ((pair : Envelope) → of_pair pair xs ≡ of_pair pair ys)
    → AreAlike (record p { messages = xs }) (record p { messages = ys })
swapped_alike p xs ys same = record {
  cluster = refl;
  files = refl;
  nodes = refl;
  clock = refl;
  step = refl;
  last_call = refl;
  alive = refl;
  links = refl;
  locks = refl;
  calls = refl;
  asleep = refl;
  told = refl;
  answers = λ pair. refl;
  is_ticking = refl;
  ends_soon = refl;
  messages = same;
  timers = λ o. refl;
  slow = λ o. refl;
  events = λ o. refl;
}

-- messages of one pair have one sender
one_sender : (p c d : Envelope) → is_of_pair p c ≡ true → is_of_pair p d ≡ true → c.from ≡ d.from
one_sender p c d is_c is_d =
    sym (same_process p.from c.from (and_parts (is_process p.from c.from) (is_process p.to c.to) is_c).0)
    ∙ same_process p.from d.from (and_parts (is_process p.from d.from) (is_process p.to d.to) is_d).0

-- ---- at the node: what its dist_ac is told, and its controller or its boot script

-- its dist_ac, and the rest of it
pub cross_own : {lives : Node → ℕ} {n : Node} (s : SystemView) (e g : Envelope) (a : App) (error : Option Dep)
    (left_e left_g : List Envelope) → Calm lives n s → ((d : DistView) → (node_at s n).dist ≡ Some d → Stands d)
    → e ≡ own_news (here_in lives n) a error → (g.to.node ≡ n) × (g.to.life ≡ lives n)
    → Spoken lives n s (λ (p : SystemView). received g.to g.message p)
    → Taken e s.messages left_e → Taken g s.messages left_g → is_of_pair e g ≡ false
    → Meet (arrived e.to e.message (without s left_e)) (arrived g.to g.message (without s left_g))
cross_own {lives} {n} s e g a error left_e left_g f stands is_e to sp taken_e taken_g apart =
    inr (
      v,
      w,
      delivers g t v (subst (λ (x : SystemView). Arrives g x v) (sym is_t)
          (taken_arrives later_t g (left ++ r.more) (taken_of_more g left_e left r.more both.1))),
      delivers e u w (subst (λ (x : SystemView). Arrives e x w) (sym is_u)
          (taken_arrives later_u e (left ++ sp.more) (taken_of_more e left_g left sp.more both.2))),
      subst (λ (x : SystemView). AreAlike x w) (sym is_v) (subst (AreAlike last_v) (sym is_w)
          (swapped_alike (record (with_node n last s) { events = s.events ++ sp.seen }) ((left ++ r.more) ++ sp.more)
          ((left ++ sp.more) ++ r.more)
          (λ pair. in_either_order (is_of_pair pair) (λ (x : Envelope). is_dist x.from.role ≡ true) IsVoice left r.more sp.more
          ((left ++ r.more) ++ sp.more) ((left ++ sp.more) ++ r.more)
          (λ c d is_c is_d from_dist voice.
          false≢true (sym voice ∙ ap (λ (x : Process). is_dist x.role) (sym (one_sender pair c d is_c is_d)) ∙ from_dist))
          r.of_dist sp.voices refl refl))),
    )
  where
    r : Ran lives n a error s
    r = own_ran a error s f stands

    both : (left : List Envelope) × Taken g left_e left × Taken e left_g left
    both = both_taken e g s.messages left_e left_g apart taken_e taken_g

    left : List Envelope
    left = both.0

    old : LiveView
    old = node_at s n

    there : live_at s n ≡ Some old
    there = there_is s n f.alive

    downed : LiveView
    downed = record old { dist = r.next }

    spoken : LiveView
    spoken = record old { controller = sp.next; kinds = sp.kinds old.kinds; place = sp.place }

    last : LiveView
    last = record spoken { dist = r.next }

    t : SystemView
    t = arrived e.to e.message (without s left_e)

    u : SystemView
    u = arrived g.to g.message (without s left_g)

    later_t : SystemView
    later_t = record (with_node n downed s) { messages = left_e ++ r.more }

    later_u : SystemView
    later_u = record (with_node n spoken s) { messages = left_g ++ sp.more; events = s.events ++ sp.seen }

    -- the news arrives where the node is in its life
    news_come : (q : SystemView) (x : LiveView) → live_at q n ≡ Some x → x.dist ≡ old.dist → is_alive_at q n ≡ true
        → ((k : Node) → (node_at q k).life ≡ lives k) → q.cluster ≡ s.cluster → q.files ≡ s.files → q.links ≡ s.links
        → ((k : Node) → is_alive_at q k ≡ is_alive_at s k)
        → arrived e.to e.message q ≡ record (with_node n (record x { dist = r.next }) q) { messages = q.messages ++ r.more }
    news_come q x has dist alive same in_cluster in_files links awake =
        (λ i. arrived (is_e i).to (is_e i).message q)
        ∙ arrives_alive (own_news (here_in lives n) a error).to (message.Run a error) q alive (same n)
        ∙ r.comes q x has dist same in_cluster in_files links awake

    is_t : t ≡ later_t
    is_t = news_come (without s left_e) old there refl f.alive f.same_lives refl refl refl (λ k. refl)

    is_u : u ≡ later_u
    is_u =
        arrives_there (without s left_g) g f.alive f.same_lives to
        ∙ sp.comes (without s left_g) old there refl refl (f.same_lives n) refl refl

    v : SystemView
    v = arrived g.to g.message (without later_t (left ++ r.more))

    w : SystemView
    w = arrived e.to e.message (without later_u (left ++ sp.more))

    last_v : SystemView
    last_v = record (with_node n last s) { messages = (left ++ r.more) ++ sp.more; events = s.events ++ sp.seen }

    lives_as : (x : LiveView) → x.life ≡ old.life → (k : Node) → (node_at (with_node n x s) k).life ≡ lives k
    lives_as x same k = same_of_all (λ (y : LiveView). y.life) s n k x same ∙ f.same_lives k

    awake_as : (x : LiveView) → is_alive x ≡ is_alive old → (k : Node) → is_alive_at (with_node n x s) k ≡ is_alive_at s k
    awake_as x same k = same_of_all is_alive s n k x same

    is_v : v ≡ last_v
    is_v =
        arrives_there (without later_t (left ++ r.more)) g (awake_as downed refl n ∙ f.alive) (lives_as downed refl) to
        ∙ sp.comes (without later_t (left ++ r.more)) downed (there_written s n old downed there) refl refl (f.same_lives n) refl refl
        ∙ ap (λ (x : SystemView). record x { messages = (left ++ r.more) ++ sp.more; events = s.events ++ sp.seen })
        (written_twice s n downed last)

    is_w : w ≡ record (with_node n last s) { messages = (left ++ sp.more) ++ r.more; events = s.events ++ sp.seen }
    is_w =
        news_come (without later_u (left ++ sp.more)) spoken (there_written s n old spoken there) refl (awake_as spoken refl n ∙ f.alive)
        (lives_as spoken refl) refl refl refl (awake_as spoken refl)
        ∙ ap (λ (x : SystemView). record x { messages = (left ++ sp.more) ++ r.more; events = s.events ++ sp.seen })
        (written_twice s n spoken last)

-- ---- the request, and what another node is told

-- What another node that is alive does at its message, whatever has come meanwhile elsewhere.
pub record There (m : Node) (e : Envelope) (s : SystemView) : Type 0 where
  new : LiveView
  more : List Envelope
  set : List Timer
  seen : List Event
  comes : (q : SystemView) → live_at q m ≡ Some (node_at s m) → q.cluster ≡ s.cluster → q.files ≡ s.files → q.clock ≡ s.clock
      → q.step ≡ s.step
      → arrived e.to e.message q
      ≡ record (with_node m new q) { messages = q.messages ++ more; timers = q.timers ++ set; events = q.events ++ seen }
  sent : All (λ (x : Envelope). x.from.node.0 ≡ m.0) more
  alive : is_alive new ≡ is_alive (node_at s m)

pub hears_there : {lives : Node → ℕ} {n : Node} (a : App) (error : Option Dep) (m : Node) (s : SystemView) → Calm lives n s → m.0 ≢ n.0
    → is_alive_at s m ≡ true → There m (news lives n a error m) s
hears_there {lives} {n} a error m s f apart alive =
    let K : Envelope → Type 0 = λ (x : Envelope). x ≡ learned lives n a m in
    let e : Envelope = news lives n a error m in
    let d : Turned K s.cluster s.files m (lives m) e.message (node_at s m).dist = heard_at a error m s f apart refl alive in
    let to : Process = process_at (here_in lives m) role.DistAc in
    let new : LiveView = record (node_at s m) { dist = d.next } in
    record {
      new = new;
      more = letters d.outs;
      set = alarms s.clock s.step to d.outs;
      seen = [];
      comes = λ q there in_cluster in_files clock step.
          let here : node_at q m ≡ node_at s m = node_is q m (node_at s m) there in
          arrives_alive e.to e.message q (ap is_alive here ∙ alive) (ap (λ (v : LiveView). v.life) here ∙ f.same_lives m)
          ∙ turned_so m e.message s q (node_at s m) (node_at s m).dist d there refl (f.same_lives m) in_cluster in_files
          ∙ (λ i. record (with_node m new q) {
            messages = q.messages ++ letters d.outs;
            timers = q.timers ++ alarms (clock i) (step i) to d.outs;
            events = sym (append-nil q.events) i;
          });
      sent = All-weaker K (λ (x : Envelope). x.from.node.0 ≡ m.0) (λ x is. ap (λ (y : Envelope). y.from.node.0) is) (letters d.outs)
          d.kinds;
      alive = refl;
    }

pub learns_there : {lives : Node → ℕ} {n : Node} (a : App) (m : Node) (s : SystemView) → Calm lives n s → is_alive_at s m ≡ true
    → There m (learned lives n a m) s
learns_there {lives} {n} a m s f alive =
    let e : Envelope = learned lives n a m in
    let ch : Changed s.cluster s.files m e.message = moves_elsewhere s.cluster s.files m a n in
    let new : LiveView = record (node_at s m) { controller = ch.next (node_at s m).controller } in
    record {
      new = new;
      more = [];
      set = [];
      seen = ch.seen (node_at s m).controller;
      comes = λ q there in_cluster in_files clock step.
          let here : node_at q m ≡ node_at s m = node_is q m (node_at s m) there in
          arrives_alive e.to e.message q (ap is_alive here ∙ alive) (ap (λ (v : LiveView). v.life) here ∙ f.same_lives m)
          ∙ ch.comes q (node_at s m) there in_cluster in_files
          ∙ (λ i. record (with_node m new q) {
            messages = sym (append-nil q.messages) i;
            timers = sym (append-nil q.timers) i;
            events = q.events ++ ch.seen (node_at s m).controller;
          });
      sent = All-nil (λ (x : Envelope). x.from.node.0 ≡ m.0);
      alive = refl;
    }

-- two nodes are written in either order
written_both : (s : SystemView) (n m : Node) (v w : LiveView) → n.0 ≢ m.0
    → with_node m w (with_node n v s) ≡ with_node n v (with_node m w s)
written_both s n m v w apart =
    λ i. record s { nodes = record s.nodes { cells = set_comm s.nodes.cells n.0 m.0 (cell.Node v) (cell.Node w) apart i } }

-- what the dist_ac sends at a request it sends from its node
sent_here : (lives : Node → ℕ) (n : Node) (a : App) (o : Option DistView) (more : List Envelope) (locks : List Held)
    → Onward (here_in lives n) a o more locks → All (λ (x : Envelope). x.from.node.0 ≡ n.0) more
sent_here lives n a _ _ _ (replied r o free) =
    All-cons (λ (x : Envelope). x.from.node.0 ≡ n.0) (its_reply (here_in lives n) a r) [] refl
    (All-nil (λ (x : Envelope). x.from.node.0 ≡ n.0))
sent_here lives n a _ _ _ (quiet o free) = All-nil (λ (x : Envelope). x.from.node.0 ≡ n.0)
sent_here lives n a _ _ _ (hangs d waits) = All-nil (λ (x : Envelope). x.from.node.0 ≡ n.0)

-- the dist_ac takes the request
request_taken : {lives : Node → ℕ} {n : Node} (a : App) (s q : SystemView) → Requested lives n a s → Type 0
request_taken {lives} {n} a s q r =
    arrived (its_request (here_in lives n) a).to (message.StartRequest a) q
    ≡ record (with_node n (record (node_at s n) { dist = r.next }) q) { messages = q.messages ++ r.more; locks = r.locks }

takes_request : {lives : Node → ℕ} {n : Node} (a : App) (s q : SystemView) → Calm lives n s → (r : Requested lives n a s)
    → live_at q n ≡ Some (node_at s n) → q.cluster ≡ s.cluster → q.files ≡ s.files → q.locks ≡ [] → q.links ≡ s.links
    → ((k : Node) → is_alive_at q k ≡ is_alive_at s k) → request_taken a s q r
unfolding request_taken
takes_request {lives} {n} a s q f r there in_cluster in_files none links awake =
    let g : Envelope = its_request (here_in lives n) a in
    arrives_alive g.to g.message q (awake n ∙ f.alive)
    (ap (λ (v : LiveView). v.life) (node_is q n (node_at s n) there) ∙ f.same_lives n)
    ∙ r.comes q (node_at s n) there refl (f.same_lives n) in_cluster in_files none links awake

-- where that one is alive
pub cross_request : {lives : Node → ℕ} {n : Node} (s : SystemView) (a : App) (m : Node) (e : Envelope) (left_g left_e left : List Envelope)
    → Calm lives n s → s.locks ≡ [] → Requested lives n a s → There m e s → n.0 ≢ m.0 → is_alive_at s m ≡ true
    → Taken e left_g left → Taken (its_request (here_in lives n) a) left_e left
    → Meet (arrived (its_request (here_in lives n) a).to (message.StartRequest a) (without s left_g))
    (arrived e.to e.message (without s left_e))
unfolding request_taken
cross_request {lives} {n} s a m e left_g left_e left f none r o apart alive taken_e taken_g =
    inr (
      v,
      w,
      delivers e t v (subst (λ (x : SystemView). Arrives e x v) (sym is_t)
          (taken_arrives later_t e (left ++ r.more) (taken_of_more e left_g left r.more taken_e))),
      delivers g u w (subst (λ (x : SystemView). Arrives g x w) (sym is_u)
          (taken_arrives later_u g (left ++ o.more) (taken_of_more g left_e left o.more taken_g))),
      subst (λ (x : SystemView). AreAlike x w) (sym is_v) (subst (AreAlike last_v) (sym is_w)
          (swapped_alike base ((left ++ r.more) ++ o.more) ((left ++ o.more) ++ r.more)
          (λ pair. in_either_order (is_of_pair pair) (λ (x : Envelope). x.from.node.0 ≡ n.0) (λ (x : Envelope). x.from.node.0 ≡ m.0) left
          r.more o.more ((left ++ r.more) ++ o.more) ((left ++ o.more) ++ r.more)
          (λ c d is_c is_d of_n of_m.
          apart (sym of_n ∙ ap (λ (x : Process). x.node.0) (one_sender pair c d is_c is_d) ∙ of_m))
          (sent_here lives n a r.next r.more r.locks r.then_on) o.sent refl refl))),
    )
  where
    g : Envelope
    g = its_request (here_in lives n) a

    old : LiveView
    old = node_at s n

    there : live_at s n ≡ Some old
    there = there_is s n f.alive

    new : LiveView
    new = record old { dist = r.next }

    t : SystemView
    t = arrived g.to g.message (without s left_g)

    u : SystemView
    u = arrived e.to e.message (without s left_e)

    later_t : SystemView
    later_t = record (with_node n new s) { messages = left_g ++ r.more; locks = r.locks }

    later_u : SystemView
    later_u = record (with_node m o.new s) {
      messages = left_e ++ o.more;
      timers = s.timers ++ o.set;
      events = s.events ++ o.seen;
    }

    base : SystemView
    base = record (with_node m o.new (with_node n new s)) {
      timers = s.timers ++ o.set;
      events = s.events ++ o.seen;
      locks = r.locks;
    }

    last_v : SystemView
    last_v = record base { messages = (left ++ r.more) ++ o.more }

    v : SystemView
    v = arrived e.to e.message (without later_t (left ++ r.more))

    w : SystemView
    w = arrived g.to g.message (without later_u (left ++ o.more))

    is_t : t ≡ later_t
    is_t = takes_request a s (without s left_g) f r there refl refl none refl (λ k. refl)

    is_u : u ≡ later_u
    is_u = o.comes (without s left_e) (there_is s m alive) refl refl refl refl

    is_v : v ≡ last_v
    is_v =
        o.comes (without later_t (left ++ r.more)) (others_as_they_were s n m new (λ same. apart (sym same)) ∙ there_is s m alive) refl refl
        refl refl

    is_w : w ≡ record base { messages = (left ++ o.more) ++ r.more }
    is_w =
        takes_request a s (without later_u (left ++ o.more)) f r (others_as_they_were s m n o.new apart ∙ there) refl refl none refl
        (λ k. same_of_all is_alive s m k o.new o.alive)
        ∙ ap (λ (x : SystemView). record x {
          messages = (left ++ o.more) ++ r.more;
          timers = s.timers ++ o.set;
          events = s.events ++ o.seen;
          locks = r.locks;
        }) (sym (written_both s n m new o.new apart))

-- where it isn't
pub cross_request_dead : {lives : Node → ℕ} {n : Node} (s : SystemView) (a : App) (e : Envelope) (left_g left_e left : List Envelope)
    → Calm lives n s → s.locks ≡ [] → Requested lives n a s → is_alive_at s e.to.node ≡ false
    → Taken e left_g left → Taken (its_request (here_in lives n) a) left_e left
    → Meet (arrived (its_request (here_in lives n) a).to (message.StartRequest a) (without s left_g))
    (arrived e.to e.message (without s left_e))
unfolding request_taken
cross_request_dead {lives} {n} s a e left_g left_e left f none r dead taken_e taken_g =
    inr (
      v,
      w,
      delivers e t v (subst (λ (x : SystemView). Arrives e x v) (sym is_t)
          (taken_arrives later_t e (left ++ r.more) (taken_of_more e left_g left r.more taken_e))),
      delivers g u w (subst (λ (x : SystemView). Arrives g x w) (sym (arrives_dead e.to e.message (without s left_e) dead))
          (taken_arrives (without s left_e) g left taken_g)),
      subst (AreAlike v) same (alike_itself v),
    )
  where
    g : Envelope
    g = its_request (here_in lives n) a

    there : live_at s n ≡ Some (node_at s n)
    there = there_is s n f.alive

    new : LiveView
    new = record (node_at s n) { dist = r.next }

    t : SystemView
    t = arrived g.to g.message (without s left_g)

    u : SystemView
    u = arrived e.to e.message (without s left_e)

    later_t : SystemView
    later_t = record (with_node n new s) { messages = left_g ++ r.more; locks = r.locks }

    v : SystemView
    v = arrived e.to e.message (without later_t (left ++ r.more))

    w : SystemView
    w = arrived g.to g.message (without s left)

    is_t : t ≡ later_t
    is_t = takes_request a s (without s left_g) f r there refl refl none refl (λ k. refl)

    same : v ≡ w
    same =
        arrives_dead e.to e.message (without later_t (left ++ r.more)) (same_of_all is_alive s n e.to.node new refl ∙ dead)
        ∙ sym (takes_request a s (without s left) f r there refl refl none refl (λ k. refl))
