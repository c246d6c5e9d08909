-- What each message comes to behind the end of an application.
use Rattle.std.proofs.Common.{◌≡◌, ◌≢◌, ◌⊎◌, ◌++◌, ◌==◌, ◌||◌, ℕ, Bool, true, false, List, [], ◌∷◌, Some, refl, sym, ap, subst, ◌∙◌, inl, inr}
use Rattle.std.proofs.lemmas.Bool.{cases_Bool}
use Rattle.std.proofs.lemmas.List.{append-nil}
use Rattle.rh_model.specs.declared.node.Node.{Node}
use Rattle.rh_otp_model.specs.declared.fault.Outcome.{Outcome}
use Rattle.rh_otp_model.specs.declared.message.Message.{Message}
use Rattle.rh_otp_model.specs.declared.message.Message.TheVariants as message
use Rattle.rh_otp_model.specs.declared.output.Envelope.{Envelope}
use Rattle.rh_otp_model.specs.declared.process.Role.TheVariants as role
use Rattle.rh_otp_model.specs.Processes.{process_at}
use Rattle.rh_otp_dist.specs.State.{DistView, is_among}
use Rattle.rh_otp_net.specs.Links.{are_linked}
use Rattle.rh_otp_node.specs.Live.{LiveView}
use Rattle.rh_otp_system.specs.declared.calls.Call.{Call}
use Rattle.rh_otp_system.specs.declared.calls.Stage.{Stage}
use Rattle.rh_otp_system.specs.declared.calls.Stage.TheVariants as stage
use Rattle.rh_otp_system.specs.Delivering.{arrived}
use Rattle.rh_otp_system.specs.Moves.{Delivers}
use Rattle.rh_otp_system.specs.State.{SystemView, live_at, node_at, with_node, is_alive_at}
use Rattle.rh_otp_system.specs.Working.{mailed}
use Rattle.rh_otp_laws.proofs.Nodes.{alive_is_there, node_written, others_same}
use Rattle.rh_otp_orders.specs.Orders.{LeavesAlone}
use Rattle.rh_otp_orders.proofs.Taking.{Taken}
use Rattle.rh_otp_crashes.proofs.Carrying.{letters, alarms}
use Rattle.rh_otp_crashes.proofs.Peace.{AtPeace, AtEase, Acted, here_in, without, alive_on, arrives_alive, arrives_dead, turned_so, peace_left, taken_all}
use Rattle.rh_otp_crashes.proofs.Turning.{Turned, node_is}
use Rattle.rh_otp_stops.proofs.Answering.{at_stage, CannotGoOn, NoneOfCalls, cannot_call, answered_in, answered_so}
use Rattle.rh_otp_stops.proofs.Ending.{Ended, Knows, ended, hears_of}
use Rattle.rh_otp_stops.proofs.Still.{Come, uncalled, only_come, peace_acted, acted_leaves}
use Rattle.rh_otp_stops.proofs.Words.{IsNews, ends, answers, tells, own_news, answer_of, news}

-- There is the one call, which can't go on by itself, and no call has a lock. Where its node's dist_ac is told, nobody waits at that, and
-- the node sees all that it knows.
pub record Stopping (lives : Node → ℕ) (c : Call) (told : Bool) (s : SystemView) : Type 0 where
  pub peace : AtPeace AtEase (IsNews lives c told) lives (uncalled s)
  pub stage : Stage
  pub calls : s.calls ≡ at_stage c stage ∷ []
  pub waits : CannotGoOn stage
  pub life : c.life ≡ lives c.node
  pub locks : NoneOfCalls s.locks
  pub knows : told ≡ true → (d : DistView) → (node_at s c.node).dist ≡ Some d → Knows (node_at s c.node).dist d
  pub sees : told ≡ true → (d : DistView) → (node_at s c.node).dist ≡ Some d → (m : Node) → is_among m d.known ≡ true
      → is_alive_at s m ≡ true → (c.node.0 == m.0 || are_linked c.node m s.links) ≡ true

pub stopping_left : {lives : Node → ℕ} {c : Call} {told : Bool} (s : SystemView) (e : Envelope) (left : List Envelope)
    → Stopping lives c told s
    → Taken e s.messages left → Stopping lives c told (without s left)
stopping_left {lives} {c} {told} s e left f taken = record {
  peace = peace_left (uncalled s) left f.peace (taken_all (IsNews lives c told) e s.messages left taken f.peace.messages).1;
  stage = f.stage;
  calls = f.calls;
  waits = f.waits;
  life = f.life;
  locks = f.locks;
  knows = f.knows;
  sees = f.sees;
}

pub come_of : {lives : Node → ℕ} {c : Call} {told : Bool} (s t : SystemView) → Stopping lives c told s → Delivers s t → Come s t
come_of {lives} {c} {told} s t f one = only_come s t f.peace (cannot_call c f.stage s f.waits f.calls) one

-- ---- a node has acted

pub stopping_on : {lives : Node → ℕ} {c : Call} {told : Bool} (m : Node) (s t : SystemView) → Stopping lives c told s
    → (acted : Acted AtEase (IsNews lives c told) m s t)
    → (told ≡ true → (d : DistView) → (node_at (with_node m acted.new s) c.node).dist ≡ Some d → Knows (node_at s c.node).dist d)
    → Stopping lives c told t
stopping_on {lives} {c} {told} m s t f acted knows =
    subst (Stopping lives c told) (sym acted.is) (record {
      peace = subst (λ (x : SystemView). AtPeace AtEase (IsNews lives c told) lives (uncalled x)) acted.is
          (peace_acted m s t f.peace acted);
      stage = f.stage;
      calls = f.calls;
      waits = f.waits;
      life = f.life;
      locks = f.locks;
      knows = λ is d has.
          let so : Knows (node_at s c.node).dist d = knows is d has in
          record { takeovers = so.takeovers; ends = so.ends; before = d; had = has; known = refl };
      sees = λ is d has k among alive.
          let so : Knows (node_at s c.node).dist d = knows is d has in
          f.sees is so.before so.had k (ap (is_among k) (sym so.known) ∙ among) (sym (alive_on m k s t acted) ∙ alive);
    })

-- another one's turn is nothing to the node
knows_still : {lives : Node → ℕ} {c : Call} {told : Bool} (m : Node) (s : SystemView) (v : LiveView) → Stopping lives c told s
    → m.0 ≢ c.node.0
    → told ≡ true → (d : DistView) → (node_at (with_node m v s) c.node).dist ≡ Some d → Knows (node_at s c.node).dist d
knows_still {c = c} m s v f other is d has =
    f.knows is d (sym (ap (λ (x : LiveView). x.dist) (others_same s m c.node v (λ one. other (sym one)))) ∙ has)

-- ---- what each message comes to

-- it has come, and leaves alone what nodes share
pub record CameOn (lives : Node → ℕ) (c : Call) (told : Bool) (s t : SystemView) : Type 0 where
  pub still : Stopping lives c told t
  pub leaves : (n : Node) → LeavesAlone n s t

is_lost : {lives : Node → ℕ} {c : Call} {told : Bool} (s t : SystemView) (left : List Envelope) → Stopping lives c told (without s left)
    → t ≡ without s left
    → CameOn lives c told s t
is_lost {lives} {c} {told} s t left f same = record {
  still = subst (Stopping lives c told) (sym same) f;
  leaves = λ n. subst (LeavesAlone n s) (sym same) (record { links = refl; locks = refl; alive = λ k. refl; answers = λ k app. inl refl });
}

has_acted : {lives : Node → ℕ} {c : Call} {told : Bool} (m : Node) (s t : SystemView) (left : List Envelope)
    → Stopping lives c told (without s left)
    → (acted : Acted AtEase (IsNews lives c told) m (without s left) t)
    → (told ≡ true → (d : DistView) → (node_at (with_node m acted.new (without s left)) c.node).dist ≡ Some d
    → Knows (node_at s c.node).dist d)
    → CameOn lives c told s t
has_acted m s t left f acted knows = record {
  still = stopping_on m (without s left) t f acted knows;
  leaves = λ n. acted_leaves n m s t left acted;
}

pub there_is : (s : SystemView) (n : Node) → is_alive_at s n ≡ true → live_at s n ≡ Some (node_at s n)
there_is s n alive =
    let at : (v : LiveView) × (live_at s n ≡ Some v) = alive_is_there s n alive in
    at.1 ∙ ap Some (sym (node_is s n at.0 at.1))

-- the node's own dist_ac is told
pub ended_at : {lives : Node → ℕ} {c : Call} {told : Bool} (s : SystemView) → Stopping lives c told s → told ≡ true
    → is_alive_at s c.node ≡ true → Ended lives c told s
ended_at {c = c} s f is alive =
    ended s f.peace.same_lives alive (λ d has. f.peace.dists c.node d alive has) (f.knows is) (f.sees is)

unfoldable pub ended_acts : {lives : Node → ℕ} {c : Call} {told : Bool} (s : SystemView) (left : List Envelope) → is_alive_at s c.node ≡ true
    → (e : Ended lives c told s)
    → Acted AtEase (IsNews lives c told) c.node (without s left) (mailed c.node (message.Stopped c.app) (without s left))
ended_acts {c = c} s left alive e = record {
  old = node_at s c.node;
  new = record (node_at s c.node) { dist = e.next };
  there = there_is s c.node alive;
  more = e.more;
  set = [];
  seen = [];
  is = e.comes left s.calls s.events
      ∙ (λ i. record (with_node c.node (record (node_at s c.node) { dist = e.next }) s) {
        messages = left ++ e.more;
        timers = sym (append-nil s.timers) i;
        events = sym (append-nil s.events) i;
      });
  life = refl;
  phase = refl;
  stopped = refl;
  ending = refl;
  rest = e.rest;
  kinds = e.kinds;
}

-- another one's is told
pub told_acts : {K : Envelope → Type 0} {lives : Node → ℕ} (m : Node) (x : Message) (s : SystemView)
    → ((k : Node) → (node_at s k).life ≡ lives k)
    → is_alive_at s m ≡ true → Turned K s.cluster s.files m (lives m) x (node_at s m).dist
    → Acted AtEase K m s (mailed m x s)
told_acts {K} {lives} m x s same_lives alive d =
    let old : LiveView = node_at s m in
    record {
      old = old;
      new = record old { dist = d.next };
      there = there_is s m alive;
      more = letters d.outs;
      set = alarms s.clock s.step (process_at (here_in lives m) role.DistAc) d.outs;
      seen = [];
      is = turned_so m x s s old old.dist d (there_is s m alive) refl (same_lives m) refl refl
          ∙ (λ i. record (with_node m (record old { dist = d.next }) s) {
            messages = s.messages ++ letters d.outs;
            timers = s.timers ++ alarms s.clock s.step (process_at (here_in lives m) role.DistAc) d.outs;
            events = sym (append-nil s.events) i;
          });
      life = refl;
      phase = refl;
      stopped = refl;
      ending = refl;
      rest = d.rest;
      kinds = d.kinds;
    }

-- the call was answered
answered_on : {lives : Node → ℕ} {c : Call} {told : Bool} (o : Outcome) (s : SystemView) (left : List Envelope)
    → Stopping lives c told (without s left)
    → CameOn lives c told s (answered_in c o (without s left))
answered_on {lives} {c} {told} o s left f = record {
  still = record {
    peace = record {
      messages = f.peace.messages;
      slow = f.peace.slow;
      calls = refl;
      calm = f.peace.calm;
      dists = f.peace.dists;
      ends = f.peace.ends;
      listed = f.peace.listed;
      same_lives = f.peace.same_lives;
    };
    stage = stage.Done o;
    calls = refl;
    waits = λ call q. refl;
    life = f.life;
    locks = f.locks;
    knows = f.knows;
    sees = f.sees;
  };
  leaves = λ n. record { links = refl; locks = refl; alive = λ k. refl; answers = λ k app. inl refl };
}

pub came_on : {lives : Node → ℕ} {c : Call} {told : Bool} (s : SystemView) (e : Envelope) (left : List Envelope) → Stopping lives c told s
    → Taken e s.messages left → IsNews lives c told e → CameOn lives c told s (arrived e.to e.message (without s left))
unfolding ended_acts
came_on {lives} {c} {told} s _ left f taken (ends is_told) = by (cases_Bool (is_alive_at s c.node))
  where
    e : Envelope
    e = own_news lives c

    g : Stopping lives c told (without s left)
    g = stopping_left s e left f taken

    by : (is_alive_at s c.node ≡ true) ⊎ (is_alive_at s c.node ≡ false) → CameOn lives c told s (arrived e.to e.message (without s left))
    by (inl alive) =
        let end : Ended lives c told s = ended_at s f is_told alive in
        let new : LiveView = record (node_at s c.node) { dist = end.next } in
        let is : node_at (with_node c.node new (without s left)) c.node ≡ new =
        node_written (without s left) c.node (node_at s c.node) new (there_is s c.node alive) in
        rw (arrives_alive e.to e.message (without s left) alive (g.peace.same_lives c.node))
        (has_acted c.node s _ left g (ended_acts s left alive end) (λ _ d has. end.knows d (sym (ap (λ (v : LiveView). v.dist) is) ∙ has)))
    by (inr dead) = is_lost s _ left g (arrives_dead e.to e.message (without s left) dead)
came_on {lives} {c} {told} s _ left f taken (answers o known) = by (cases_Bool (is_alive_at s c.node))
  where
    e : Envelope
    e = answer_of lives c o

    g : Stopping lives c told (without s left)
    g = stopping_left s e left f taken

    by : (is_alive_at s c.node ≡ true) ⊎ (is_alive_at s c.node ≡ false) → CameOn lives c told s (arrived e.to e.message (without s left))
    by (inl alive) =
        rw (answered_so c g.stage o (without s left) g.calls g.locks known alive (g.peace.same_lives c.node ∙ sym g.life))
        (answered_on o s left g)
    by (inr dead) = is_lost s _ left g (arrives_dead e.to e.message (without s left) dead)
came_on {lives} {c} {told} s _ left f taken (tells m other) = by (cases_Bool (is_alive_at s m))
  where
    e : Envelope
    e = news lives c m

    q : SystemView
    q = without s left

    g : Stopping lives c told q
    g = stopping_left s e left f taken

    by : (is_alive_at s m ≡ true) ⊎ (is_alive_at s m ≡ false) → CameOn lives c told s (arrived e.to e.message q)
    by (inl alive) =
        let acted : Acted AtEase (IsNews lives c told) m q (mailed m e.message q) =
        told_acts m e.message q g.peace.same_lives alive
        (hears_of (IsNews lives c told) q.cluster q.files m (lives m) c.app (node_at q m).dist (λ d has. g.peace.dists m d alive has)) in
        rw (arrives_alive e.to e.message q alive (g.peace.same_lives m))
        (has_acted m s _ left g acted (λ so d has. knows_still m q acted.new g other so d has))
    by (inr dead) = is_lost s _ left g (arrives_dead e.to e.message q dead)

pub goes_on : {lives : Node → ℕ} {c : Call} {told : Bool} (s t : SystemView) → Stopping lives c told s → Delivers s t
    → Stopping lives c told t
goes_on {lives} {c} {told} s t f one =
    let come : Come s t = come_of s t f one in
    let kind : IsNews lives c told come.message =
    (taken_all (IsNews lives c told) come.message s.messages come.left come.taken f.peace.messages).0 in
    subst (Stopping lives c told) (sym come.is) (came_on s come.message come.left f come.taken kind).still
