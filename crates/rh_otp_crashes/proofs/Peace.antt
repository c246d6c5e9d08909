-- Live nodes where only messages move, each of which its node takes for itself: where any two of them meet again all orders end alike.
use Rattle.std.proofs.Common.{◌≡◌, ◌≢◌, ◌⊎◌, ◌<◌, ◌++◌, ◌==◌, ◌&&◌, ◌||◌, ℕ, Bool, true, false, not, cond, length, List, [], ◌∷◌, slice_get, Option, Some, None, refl, sym, ap, subst, ◌∙◌, inl, inr, arith}
use Rattle.std.specs.Option.{option_map}
use Rattle.std.specs.Prelude.{All}
use Rattle.std.proofs.lemmas.Bool.{cases_Bool, cases_eq, eq-eqb, false≢true}
use Rattle.std.proofs.lemmas.List.{append-nil}
use Rattle.std.proofs.lemmas.List.Elements.{All-nil, All-cons, All-head, All-tail, All-append}
use Rattle.std.proofs.lemmas.Option.{none-some}
use Rattle.rh_model.specs.declared.node.Node.{Node}
use Rattle.rh_otp_model.specs.declared.message.Message.{Message}
use Rattle.rh_otp_model.specs.declared.output.Envelope.{Envelope}
use Rattle.rh_otp_model.specs.declared.output.Event.{Event}
use Rattle.rh_otp_model.specs.declared.output.Requester.TheVariants.{Alone}
use Rattle.rh_otp_model.specs.declared.process.Here.{Here}
use Rattle.rh_otp_model.specs.declared.process.Process.{Process}
use Rattle.rh_otp_model.specs.declared.process.Role.TheVariants as role
use Rattle.rh_otp_model.specs.Processes.{process_at}
use Rattle.rh_otp_dist.specs.State.{DistView}
use Rattle.rh_otp_net.specs.declared.timers.Timer.{Timer}
use Rattle.rh_otp_net.specs.Locks.{is_free}
use Rattle.rh_otp_net.specs.Queue.{is_of_pair}
use Rattle.rh_otp_node.specs.declared.node.Phase.{Phase}
use Rattle.rh_otp_node.specs.Live.{LiveView, is_alive, is_down, is_ending}
use Rattle.rh_otp_system.specs.declared.calls.Call.{Call}
use Rattle.rh_otp_system.specs.declared.moves.Move.TheVariants as move
use Rattle.rh_otp_system.specs.Delivering.{arrived, received, controlled}
use Rattle.rh_otp_system.specs.Moves as moves
use Rattle.rh_otp_system.specs.Moves.{IsAmong, is_to_end}
use Rattle.rh_otp_system.specs.State.{SystemView, live_at, node_at, with_node, is_alive_at, process_in}
use Rattle.rh_otp_system.specs.Working.{mailed, alive_of, lock_of, lock_in}
use Rattle.rh_otp_laws.specs.Messages.{ArrivesInOrder}
use Rattle.rh_otp_laws.proofs.Nodes.{alive_is_there, node_written, same_of_all, as_it_was_or_written}
use Rattle.rh_otp_laws.proofs.Order.{pair_itself, same_pair, keeps_order}
use Rattle.rh_otp_orders.specs.Confluence.{Meet}
use Rattle.rh_otp_orders.specs.Orders.{Arrives, AreAlike, AreIndependent, LeavesAlone, is_call}
use Rattle.rh_otp_orders.proofs.Commuting.{messages_commute}
use Rattle.rh_otp_orders.proofs.Confluence.{alike_itself}
use Rattle.rh_otp_orders.proofs.Moving.{within}
use Rattle.rh_otp_orders.proofs.Taking.{Taken, arrives_so}
use Rattle.rh_otp_crashes.specs.Crashes.{IsUnoccupied}
use Rattle.rh_otp_crashes.proofs.Carrying.{letters, alarms, done, carries}
use Rattle.rh_otp_crashes.proofs.Turning.{Turned, Changed, node_is}

abbrev pub here_in : (Node → ℕ) → Node → Here
here_in lives n = record { node = n; life = lives n }

abbrev pub without : SystemView → List Envelope → SystemView
without s left = record s { messages = left }

-- A dist_ac waits for no lock, and no start request does.
pub record IsFree (d : DistView) : Type 0 where
  pub lock : lock_of d.stand ≡ None
  pub parked : d.parked ≡ []

-- How dist_acs are: those that do nothing are so, and those that are so are free.
pub record AreCalm (P : Node → DistView → Type 0) : Type 0 where
  pub ease : (n : Node) (d : DistView) → IsUnoccupied d → P n d
  pub free : (n : Node) (d : DistView) → P n d → IsFree d

-- each does nothing
abbrev pub AtEase : Node → DistView → Type 0
AtEase n d = IsUnoccupied d

pub is_free_at_ease : (d : DistView) → IsUnoccupied d → IsFree d
is_free_at_ease d free = record {
  lock = elim free.stand [ inl is ↦ ap lock_of is | inr is ↦ ap lock_of is ];
  parked = free.parked;
}

pub at_ease : AreCalm AtEase
at_ease = record { ease = λ n d free. free; free = λ n d free. is_free_at_ease d free }

-- All messages are of a kind, each node is in this life, each dist_ac is so, and all else is at rest.
pub record AtPeace (P : Node → DistView → Type 0) (K : Envelope → Type 0) (lives : Node → ℕ) (s : SystemView) : Type 0 where
  pub messages : All K s.messages
  pub slow : s.slow ≡ []
  pub calls : s.calls ≡ []
  pub calm : AreCalm P
  pub dists : (n : Node) (d : DistView) → is_alive_at s n ≡ true → (node_at s n).dist ≡ Some d → P n d
  pub ends : (n : Node) → is_alive_at s n ≡ true → is_to_end n s ≡ false
  pub listed : (n : Node) → IsAmong n s.alive → is_alive_at s n ≡ true
  pub same_lives : (n : Node) → (node_at s n).life ≡ lives n

-- a node that is alive has done something for itself
pub record Acted (P : Node → DistView → Type 0) (K : Envelope → Type 0) (n : Node) (s t : SystemView) : Type 0 where
  pub old : LiveView
  pub new : LiveView
  pub there : live_at s n ≡ Some old
  pub more : List Envelope
  pub set : List Timer
  pub seen : List Event
  pub is : t ≡ record (with_node n new s) { messages = s.messages ++ more; timers = s.timers ++ set; events = s.events ++ seen }
  pub life : new.life ≡ old.life
  pub phase : new.phase ≡ old.phase
  pub stopped : new.is_stopped ≡ old.is_stopped
  pub ending : is_ending new ≡ is_ending old
  pub rest : (d : DistView) → new.dist ≡ Some d → P n d
  pub kinds : All K more

-- or what came to it was lost
abbrev pub Came : (Node → DistView → Type 0) → (Envelope → Type 0) → Node → SystemView → SystemView → Type 0
Came P K n s t = Acted P K n s t ⊎ (t ≡ s)

-- ---- all else stays at rest

abbrev ends_by : Bool → LiveView → Bool
ends_by soon v = is_ending v && (soon || not v.is_stopped)

same_alive : (v w : LiveView) → v.phase ≡ w.phase → is_alive v ≡ is_alive w
same_alive v w is = ap (λ (p : Phase). cond (is_down p) false true) is

pub alive_on : {P : Node → DistView → Type 0} {K : Envelope → Type 0} (n k : Node) (s t : SystemView) (a : Acted P K n s t)
    → is_alive_at (with_node n a.new s) k ≡ is_alive_at s k
alive_on n k s t a =
    same_of_all is_alive s n k a.new (same_alive a.new a.old a.phase ∙ sym (ap is_alive (node_is s n a.old a.there)))

stays_at_peace : {P : Node → DistView → Type 0} {K : Envelope → Type 0} {lives : Node → ℕ} (n : Node) (s t : SystemView) → AtPeace P K lives s → (a : Acted P K n s t)
    → AtPeace P K lives (record (with_node n a.new s) { messages = s.messages ++ a.more; timers = s.timers ++ a.set; events = s.events ++ a.seen })
stays_at_peace {P} {K} n s t f a = record {
  messages = All-append K s.messages a.more f.messages a.kinds;
  slow = f.slow;
  calls = f.calls;
  calm = f.calm;
  dists = λ k d alive has. rest_at k d (sym (still k) ∙ alive) has (as_it_was_or_written s n k a.new);
  ends = λ k alive.
      same_of_all (ends_by s.ends_soon) s n k a.new
      ((λ i. a.ending i && (s.ends_soon || not (a.stopped i))) ∙ sym (ap (ends_by s.ends_soon) (node_is s n a.old a.there)))
      ∙ f.ends k (sym (still k) ∙ alive);
  listed = λ k among. still k ∙ f.listed k among;
  same_lives = λ k.
      same_of_all (λ (v : LiveView). v.life) s n k a.new (a.life ∙ sym (ap (λ (v : LiveView). v.life) (node_is s n a.old a.there)))
      ∙ f.same_lives k;
}
  where
    still : (k : Node) → is_alive_at (with_node n a.new s) k ≡ is_alive_at s k
    still k = alive_on n k s t a

    rest_at : (k : Node) (d : DistView) → is_alive_at s k ≡ true → (node_at (with_node n a.new s) k).dist ≡ Some d
        → (node_at (with_node n a.new s) k ≡ node_at s k) ⊎ ((k.0 ≡ n.0) × (node_at (with_node n a.new s) k ≡ a.new)) → P k d
    rest_at k d alive has (inl same) = f.dists k d alive (sym (ap (λ (v : LiveView). v.dist) same) ∙ has)
    rest_at k d alive has (inr here) =
        subst (λ (j : Node). P j d) (λ i. record { 0 = sym here.0 i }) (a.rest d (sym (ap (λ (v : LiveView). v.dist) here.1) ∙ has))

pub peace_on : {P : Node → DistView → Type 0} {K : Envelope → Type 0} {lives : Node → ℕ} (n : Node) (s t : SystemView) → AtPeace P K lives s → Came P K n s t → AtPeace P K lives t
peace_on {P} {K} {lives} n s t f (inl a) = subst (AtPeace P K lives) (sym a.is) (stays_at_peace n s t f a)
peace_on {P} {K} {lives} n s t f (inr same) = subst (AtPeace P K lives) (sym same) f

pub peace_left : {P : Node → DistView → Type 0} {K : Envelope → Type 0} {lives : Node → ℕ} (s : SystemView) (left : List Envelope) → AtPeace P K lives s → All K left
    → AtPeace P K lives (without s left)
peace_left s left f all = record {
  messages = all;
  slow = f.slow;
  calls = f.calls;
  calm = f.calm;
  dists = f.dists;
  ends = f.ends;
  listed = f.listed;
  same_lives = f.same_lives;
}

-- who has answered whom is nothing to it
pub peace_forgets : {P : Node → DistView → Type 0} {K : Envelope → Type 0} {lives : Node → ℕ} (s : SystemView) → AtPeace P K lives s → AtPeace P K lives (record s { answers = [] })
peace_forgets s f = record {
  messages = f.messages;
  slow = f.slow;
  calls = f.calls;
  calm = f.calm;
  dists = f.dists;
  ends = f.ends;
  listed = f.listed;
  same_lives = f.same_lives;
}

-- ---- a message arrives

pub arrives_alive : (to : Process) (m : Message) (s : SystemView) → is_alive_at s to.node ≡ true → (node_at s to.node).life ≡ to.life
    → arrived to m s ≡ received to m s
arrives_alive to m s alive same =
    ap (λ (b : Bool). cond b (received to m s) s)
    (ap (λ (b : Bool). b && (node_at s to.node).life == to.life) alive ∙ eq-eqb (node_at s to.node).life to.life same)

pub arrives_dead : (to : Process) (m : Message) (s : SystemView) → is_alive_at s to.node ≡ false → arrived to m s ≡ s
arrives_dead to m s dead =
    ap (λ (b : Bool). cond (b && (node_at s to.node).life == to.life) (received to m s) s) dead

-- what a dist_ac does, carried out
pub turned_so : {K : Envelope → Type 0} {life : ℕ} (n : Node) (m : Message) (s q : SystemView) (v : LiveView) (o : Option DistView)
    (d : Turned K s.cluster s.files n life m o) → live_at q n ≡ Some v → v.dist ≡ o → v.life ≡ life → q.cluster ≡ s.cluster
    → q.files ≡ s.files
    → mailed n m q ≡ done (process_at (record { node = n; life = life }) role.DistAc) d.outs (with_node n (record v { dist = d.next }) q)
turned_so {K} {life} n m s q v o d there has same in_cluster in_files =
    let new : LiveView = record v { dist = d.next } in
    d.comes q v there has same in_cluster in_files
    ∙ carries n (process_at (record { node = n; life = life }) role.DistAc) d.outs (with_node n new q)
    (λ i. process_at (record { node = n; life = (ap (λ (w : LiveView). w.life) (node_written q n v new there) ∙ same) i }) role.DistAc)
    d.plain

-- it is a dist_ac that has: it is so behind it, and has sent so much; its controller is as it was
pub record ActedAs (P : Node → DistView → Type 0) (K : Envelope → Type 0) (n : Node) (s t : SystemView) (next : Option DistView) (more : List Envelope) : Type 0 where
  pub acted : Acted P K n s t
  pub dist : acted.new.dist ≡ next
  pub controller : acted.new.controller ≡ acted.old.controller
  pub sent : acted.more ≡ more

pub acts_dist_as : {P : Node → DistView → Type 0} {K : Envelope → Type 0} {lives : Node → ℕ} (n : Node) (m : Message) (s : SystemView) → AtPeace P K lives s
    → is_alive_at s n ≡ true → (d : Turned K s.cluster s.files n (lives n) m (node_at s n).dist) → ActedAs P K n s (mailed n m s) d.next (letters d.outs)
acts_dist_as {P} {K} {lives} n m s f alive d =
    let at : (v : LiveView) × (live_at s n ≡ Some v) = alive_is_there s n alive in
    let here : node_at s n ≡ at.0 = node_is s n at.0 at.1 in
    let same : at.0.life ≡ lives n = sym (ap (λ (v : LiveView). v.life) here) ∙ f.same_lives n in
    record {
      acted = record {
        old = at.0;
        new = record at.0 { dist = d.next };
        there = at.1;
        more = letters d.outs;
        set = alarms s.clock s.step (process_at (here_in lives n) role.DistAc) d.outs;
        seen = [];
        is = turned_so n m s s at.0 (node_at s n).dist d at.1 (sym (ap (λ (v : LiveView). v.dist) here)) same refl refl
            ∙ (λ i. record (with_node n (record at.0 { dist = d.next }) s) {
              messages = s.messages ++ letters d.outs;
              timers = s.timers ++ alarms s.clock s.step (process_at (here_in lives n) role.DistAc) d.outs;
              events = sym (append-nil s.events) i;
            });
        life = refl;
        phase = refl;
        stopped = refl;
        ending = refl;
        rest = λ e has. f.calm.ease n e (d.rest e has);
        kinds = d.kinds;
      };
      dist = refl;
      controller = refl;
      sent = refl;
    }

pub acts_dist : {P : Node → DistView → Type 0} {K : Envelope → Type 0} {lives : Node → ℕ} (n : Node) (m : Message) (s : SystemView) → AtPeace P K lives s
    → is_alive_at s n ≡ true → Turned K s.cluster s.files n (lives n) m (node_at s n).dist → Acted P K n s (mailed n m s)
acts_dist n m s f alive d = (acts_dist_as n m s f alive d).acted

pub acts_controller_as : {P : Node → DistView → Type 0} {K : Envelope → Type 0} {lives : Node → ℕ} (n : Node) (m : Message) (s : SystemView) → AtPeace P K lives s
    → is_alive_at s n ≡ true → Changed s.cluster s.files n m
    → (a : Acted P K n s (controlled n m s)) × (a.more ≡ []) × (a.new.dist ≡ (node_at s n).dist)
acts_controller_as {P} {K} {lives} n m s f alive c =
    let at : (v : LiveView) × (live_at s n ≡ Some v) = alive_is_there s n alive in
    let here : node_at s n ≡ at.0 = node_is s n at.0 at.1 in
    let new : LiveView = record at.0 { controller = c.next at.0.controller } in
    let seen : List Event = c.seen at.0.controller in (
      record {
        old = at.0;
        new = new;
        there = at.1;
        more = [];
        set = [];
        seen = seen;
        is = c.comes s at.0 at.1 refl refl
            ∙ (λ i. record (with_node n new s) {
              messages = sym (append-nil s.messages) i;
              timers = sym (append-nil s.timers) i;
              events = s.events ++ seen;
            });
        life = refl;
        phase = refl;
        stopped = refl;
        ending = c.ending at.0.controller;
        rest = λ d has. f.dists n d alive (ap (λ (v : LiveView). v.dist) here ∙ has);
        kinds = All-nil K;
      },
      refl,
      sym (ap (λ (v : LiveView). v.dist) here),
    )

pub acts_controller : {P : Node → DistView → Type 0} {K : Envelope → Type 0} {lives : Node → ℕ} (n : Node) (m : Message) (s : SystemView) → AtPeace P K lives s
    → is_alive_at s n ≡ true → Changed s.cluster s.files n m → Acted P K n s (controlled n m s)
acts_controller n m s f alive c = (acts_controller_as n m s f alive c).0

-- ---- only messages move

pub taken_all : (P : Envelope → Type 0) (e : Envelope) (messages left : List Envelope) → Taken e messages left → All P messages → P e × All P left
taken_all P e [] left taken all = absurd taken
taken_all P e (m ∷ messages) left (inl here) all =
    (subst P here.0 (All-head P m messages all), subst (All P) (sym here.1) (All-tail P m messages all))
taken_all P e (m ∷ messages) left (inr later) all =
    let more : P e × All P later.1 = taken_all P e messages later.1 later.3 (All-tail P m messages all) in
    (more.0, subst (All P) (sym later.2) (All-cons P m later.1 (All-head P m messages all) more.1))

-- of one pair there is one first message
pub one_first : (e f : Envelope) (messages left_e left_f : List Envelope) → is_of_pair e f ≡ true → Taken e messages left_e
    → Taken f messages left_f → (e ≡ f) × (left_e ≡ left_f)
one_first e f [] left_e left_f same taken_e taken_f = absurd taken_e
one_first e f (m ∷ messages) left_e left_f same (inl here_e) (inl here_f) = (sym here_e.0 ∙ here_f.0, here_e.1 ∙ sym here_f.1)
one_first e f (m ∷ messages) left_e left_f same (inl here_e) (inr later_f) =
    absurd (false≢true (sym later_f.0 ∙ ap (is_of_pair f) here_e.0 ∙ same_pair e f e same ∙ pair_itself e))
one_first e f (m ∷ messages) left_e left_f same (inr later_e) (inl here_f) =
    absurd (false≢true (sym later_e.0 ∙ ap (is_of_pair e) here_f.0 ∙ same))
one_first e f (m ∷ messages) left_e left_f same (inr later_e) (inr later_f) =
    let more : (e ≡ f) × (later_e.1 ≡ later_f.1) = one_first e f messages later_e.1 later_f.1 same later_e.3 later_f.3 in
    (more.0, later_e.2 ∙ ap (λ (l : List Envelope). m ∷ l) more.1 ∙ sym later_f.2)

pub delivers : (e : Envelope) (s t : SystemView) → Arrives e s t → moves.Delivers s t
delivers e s t (place, is, made_so) = (move.Deliver place, within s place e is, made_so)

-- a message that arrives, what is left, and what it comes to
pub record Delivered (P : Node → DistView → Type 0) (K : Envelope → Type 0) (lives : Node → ℕ) (s t : SystemView) : Type 0 where
  pub message : Envelope
  pub left : List Envelope
  pub arrives : Arrives message s t
  pub taken : Taken message s.messages left
  pub is : t ≡ arrived message.to message.message (without s left)
  pub kind : K message
  pub still : AtPeace P K lives (without s left)

pub no_place : {A : Type 0} (xs : List A) (place : ℕ) → xs ≡ [] → place < length xs → ⊥
no_place xs place none within = let empty : length xs ≡ 0 = ap length none in omega (arith, empty, within)

nobody_parked : (b c : Bool) → (b && false && c) ≡ false
nobody_parked true c = refl
nobody_parked false c = refl

pub no_lock_at : (n : Node) (s : SystemView) (o : Option DistView) → ((d : DistView) → o ≡ Some d → IsFree d)
    → (moves.is_sync_free n (option_map (alive_of s) (lock_in o)) s || moves.can_unpark_in n o s) ≡ false
no_lock_at n s None free = refl
no_lock_at n s (Some d) free =
    let is_own_free : Bool = is_free (Alone (process_in s n role.DistAc)) (n ∷ []) s.locks in
    (λ i. moves.is_sync_free n (option_map (alive_of s) ((free d refl).lock i)) s
    || (moves.is_idle d.stand && moves.is_some_app ((free d refl).parked i) && is_own_free))
    ∙ nobody_parked (moves.is_idle d.stand) is_own_free

no_lock : {P : Node → DistView → Type 0} {K : Envelope → Type 0} {lives : Node → ℕ} (n : Node) (s : SystemView) → AtPeace P K lives s → is_alive_at s n ≡ true
    → moves.can_go_on_at n s ≡ false
no_lock n s f alive = no_lock_at n s (node_at s n).dist (λ d has. f.calm.free n d (f.dists n d alive has))

no_call_at : (s : SystemView) (place : ℕ) (call : Call) → s.calls ≡ [] → slice_get s.calls place ≡ Some call → ⊥
no_call_at s place call none there = none-some call (sym (ap (λ (l : List Call). slice_get l place) none) ∙ there)

pub only_messages : {P : Node → DistView → Type 0} {K : Envelope → Type 0} {lives : Node → ℕ} (s t : SystemView) → AtPeace P K lives s → moves.Delivers s t
    → Delivered P K lives s t
only_messages {P} {K} {lives} s t f (move.Deliver place, possible, is) =
    let come : ArrivesInOrder place s (moves.made (move.Deliver place) s) = keeps_order s place possible in
    let arrives : Arrives come.message s t = (place, come.is_there, is) in
    let so : (left : List Envelope) × Taken come.message s.messages left × (t ≡ arrived come.message.to come.message.message (without s left)) =
    arrives_so s t come.message arrives in
    let kinds : K come.message × All K so.0 = taken_all K come.message s.messages so.0 so.1 f.messages in
    record {
      message = come.message;
      left = so.0;
      arrives = arrives;
      taken = so.1;
      is = so.2;
      kind = kinds.0;
      still = peace_left s so.0 f kinds.1;
    }
only_messages s t f (move.Slow place, possible, is) = absurd (no_place s.slow place f.slow possible.1)
only_messages s t f (move.Lock n, possible, is) = absurd (false≢true (sym (no_lock n s f (f.listed n possible.1)) ∙ possible.2))
only_messages s t f (move.Call place, possible, is) = absurd (no_call_at s place possible.1.0 f.calls possible.1.1)
only_messages s t f (move.End n, possible, is) = absurd (false≢true (sym (f.ends n (f.listed n possible.1)) ∙ possible.2))

-- ---- at two nodes

leaves : {P : Node → DistView → Type 0} {K : Envelope → Type 0} (n m : Node) (s t : SystemView) (left : List Envelope) → Came P K m (without s left) t → LeavesAlone n s t
leaves n m s t left (inl acted) =
    subst (LeavesAlone n s) (sym acted.is) (record {
      links = refl;
      locks = refl;
      alive = λ k. alive_on m k (without s left) t acted;
      answers = λ k app. inl refl;
    })
leaves n m s t left (inr same) =
    subst (LeavesAlone n s) (sym same) (record { links = refl; locks = refl; alive = λ k. refl; answers = λ k app. inl refl })

apart_meet : {P : Node → DistView → Type 0} {K : Envelope → Type 0} {lives : Node → ℕ} → ((e : Envelope) → K e → is_call e.to.role ≡ false) → (s t u : SystemView)
    → AtPeace P K lives s → (d : Delivered P K lives s t) (e : Delivered P K lives s u) → Came P K d.message.to.node (without s d.left) t
    → Came P K e.message.to.node (without s e.left) u → d.message.to.node.0 ≢ e.message.to.node.0 → Meet t u
apart_meet no_call s t u f d e came_d came_e apart =
    let one : Envelope = d.message in
    let other : Envelope = e.message in
    let independent : AreIndependent s t u one other = record {
      one = d.arrives;
      other = e.arrives;
      two_nodes = apart;
      leaves_other = leaves other.to.node one.to.node s t d.left came_d;
      leaves_one = leaves one.to.node other.to.node s u e.left came_e;
      one_home = λ place call there is. absurd (no_call_at s place call f.calls there);
      other_home = λ place call there is. absurd (no_call_at s place call f.calls there);
      one_call = ap (λ (b : Bool). b && is_call other.to.role) (no_call one d.kind);
    } in
    let both = messages_commute s t u one other independent in
    inr (both.0, both.1, delivers other t both.0 both.2, delivers one u both.1 both.3, both.4)

-- ---- any two meet, where two of different pairs at one node do

abbrev pub MeetHere : (Envelope → Type 0) → SystemView → Type 0
MeetHere K s = (e f : Envelope) (left_e left_f : List Envelope) → K e → K f → Taken e s.messages left_e → Taken f s.messages left_f
    → is_of_pair e f ≡ false → e.to.node.0 ≡ f.to.node.0
    → Meet (arrived e.to e.message (without s left_e)) (arrived f.to f.message (without s left_f))

pub meets : {P : Node → DistView → Type 0} {K : Envelope → Type 0} {lives : Node → ℕ} → ((e : Envelope) → K e → is_call e.to.role ≡ false) → (s t u : SystemView)
    → AtPeace P K lives s
    → ((e : Envelope) (left : List Envelope) → K e → Taken e s.messages left
    → Came P K e.to.node (without s left) (arrived e.to e.message (without s left)))
    → MeetHere K s → moves.Delivers s t → moves.Delivers s u → Meet t u
meets {P} {K} {lives} no_call s t u f comes here to_t to_u = by (cases_Bool (is_of_pair d.message e.message))
  where
    d : Delivered P K lives s t
    d = only_messages s t f to_t

    e : Delivered P K lives s u
    e = only_messages s u f to_u

    same : (d.message ≡ e.message) × (d.left ≡ e.left) → t ≡ u
    same is = d.is ∙ (λ i. arrived (is.0 i).to (is.0 i).message (without s (is.1 i))) ∙ sym e.is

    came_d : Came P K d.message.to.node (without s d.left) t
    came_d = subst (Came P K d.message.to.node (without s d.left)) (sym d.is) (comes d.message d.left d.kind d.taken)

    came_e : Came P K e.message.to.node (without s e.left) u
    came_e = subst (Came P K e.message.to.node (without s e.left)) (sym e.is) (comes e.message e.left e.kind e.taken)

    by : (is_of_pair d.message e.message ≡ true) ⊎ (is_of_pair d.message e.message ≡ false) → Meet t u
    by (inl pair) =
        inl (subst (AreAlike t) (same (one_first d.message e.message s.messages d.left e.left pair d.taken e.taken)) (alike_itself t))
    by (inr apart) =
        elim (cases_eq d.message.to.node.0 e.message.to.node.0) [
          | inl one ↦ subst (λ (x : SystemView). Meet x u) (sym d.is)
              (subst (λ (x : SystemView). Meet (arrived d.message.to d.message.message (without s d.left)) x) (sym e.is)
              (here d.message e.message d.left e.left d.kind e.kind d.taken e.taken apart one))
          | inr other ↦ apart_meet no_call s t u f d e came_d came_e other
        ]
