-- Behind a start at a node: the caller is answered, the node's dist_ac is told that the application runs and tells the others, and these
-- tell their controllers.
use Rattle.std.proofs.Common.{◌≡◌, ◌≢◌, ◌⊎◌, ◌++◌, ◌==◌, ◌||◌, ℕ, true, false, List, [], Option, Some, None, refl, sym, ap, subst, ◌∙◌, inl, inr}
use Rattle.std.specs.Prelude.{All}
use Rattle.std.proofs.lemmas.Bool.{cases_Bool}
use Rattle.std.proofs.lemmas.List.{append-nil}
use Rattle.std.proofs.lemmas.List.Elements.{All-nil, All-append}
use Rattle.std.proofs.lemmas.Option.{none-some, same_Some}
use Rattle.rh_model.specs.declared.node.Node.{Node}
use Rattle.rh_model.specs.declared.settings.Dep.{Dep}
use Rattle.rh_otp_model.specs.declared.fault.Outcome.{Outcome}
use Rattle.rh_otp_model.specs.declared.message.Change.TheVariants as change_of
use Rattle.rh_otp_model.specs.declared.message.Message.{Message}
use Rattle.rh_otp_model.specs.declared.message.Message.TheVariants as message
use Rattle.rh_otp_model.specs.declared.output.Envelope.{Envelope}
use Rattle.rh_otp_model.specs.declared.output.Event.{Event}
use Rattle.rh_otp_model.specs.declared.process.Role.TheVariants as role
use Rattle.rh_otp_model.specs.Processes.{process_at}
use Rattle.rh_otp_dist.specs.declared.state.Stand.TheVariants as stand
use Rattle.rh_otp_dist.specs.Outside.{with_message}
use Rattle.rh_otp_dist.specs.State.{DistView, TurnView, is_among}
use Rattle.rh_otp_dist.specs.Waiting.{takes}
use Rattle.rh_otp_net.specs.Links.{are_linked}
use Rattle.rh_otp_node.specs.Live.{LiveView, is_alive}
use Rattle.rh_otp_system.specs.declared.calls.Call.{Call}
use Rattle.rh_otp_system.specs.Calling.{is_known}
use Rattle.rh_otp_system.specs.Delivering.{arrived, controlled}
use Rattle.rh_otp_system.specs.Moves.{Delivers}
use Rattle.rh_otp_system.specs.State.{SystemView, live_at, node_at, with_node, is_alive_at}
use Rattle.rh_otp_system.specs.Working.{mailed}
use Rattle.rh_otp_laws.proofs.Nodes.{node_written, others_same, same_of_all}
use Rattle.rh_otp_orders.specs.Orders.{LeavesAlone}
use Rattle.rh_otp_orders.proofs.Taking.{Taken}
use Rattle.rh_otp_crashes.specs.Crashes.{IsUnoccupied}
use Rattle.rh_otp_crashes.proofs.Crossing.{for_dist, for_controller}
use Rattle.rh_otp_crashes.proofs.Peace.{AtEase, Acted, here_in, without, alive_on, arrives_alive, arrives_dead, taken_all}
use Rattle.rh_otp_crashes.proofs.Posting.{posted_to, mails, all_posted, all_mailed}
use Rattle.rh_otp_crashes.proofs.Starting.{moves_elsewhere}
use Rattle.rh_otp_crashes.proofs.Telling.{Knows, run_over, runs_so}
use Rattle.rh_otp_crashes.proofs.Turning.{Changed, own_in, turn, weighing, none_on, idle_comes, waits_on, still_waits}
use Rattle.rh_otp_stops.proofs.Answering.{answered_in, answered_so}
use Rattle.rh_otp_stops.proofs.Ending.{ComesTo, varied, with_dist}
use Rattle.rh_otp_stops.proofs.Still.{Come, acted_leaves}
use Rattle.rh_otp_stops.proofs.Stopping.{there_is, told_acts}
use Rattle.rh_otp_stops.proofs.Words.{answer_of}
use Rattle.rh_otp_starts.proofs.Alone.{Waits}
use Rattle.rh_otp_starts.proofs.Parting.{waits_left, waits_acted, waits_answered, message_comes}
use Rattle.rh_otp_begins.proofs.Hearing.{hears_any}

-- ---- the messages

-- the node's own dist_ac is told by its controller that the application runs, or what it lacks
abbrev pub own_news : (Node → ℕ) → Call → Option Dep → Envelope
own_news lives c error = for_dist lives c.node (process_at (here_in lives c.node) role.Controller) (message.Run c.app error)

-- another node's dist_ac is told by this one
abbrev pub news : (Node → ℕ) → Call → Option Dep → Node → Envelope
news lives c error m = posted_to lives c.node (message.AppStarted c.node c.app error) m

-- and its controller by that
abbrev pub learned : (Node → ℕ) → Call → Node → Envelope
learned lives c m =
    for_controller lives m (process_at (here_in lives m) role.DistAc) (message.Change c.app (change_of.Started c.node))

-- all messages are such
pub data IsNews (lives : Node → ℕ) (c : Call) (error : Option Dep) : Envelope → Type 0 where
  runs : IsNews lives c error (own_news lives c error)
  answers : (o : Outcome) → is_known o ≡ false → IsNews lives c error (answer_of lives c o)
  tells : (m : Node) → m.0 ≢ c.node.0 → IsNews lives c error (news lives c error m)
  moves : (m : Node) → m.0 ≢ c.node.0 → IsNews lives c error (learned lives c m)

-- All messages are such, and all else is at rest, but that the node may have to go on to its end. Nobody waits at its dist_ac for a
-- takeover, and it sees all that its dist_ac knows.
pub record Running (lives : Node → ℕ) (c : Call) (error : Option Dep) (s : SystemView) : Type 0 where
  pub still : Waits lives c true s.messages s
  pub kinds : All (IsNews lives c error) s.messages
  pub takeovers : (d : DistView) → (node_at s c.node).dist ≡ Some d → d.t_reqs ≡ []
  pub sees : (d : DistView) → (node_at s c.node).dist ≡ Some d → (m : Node) → is_among m d.known ≡ true
      → is_alive_at s m ≡ true → (c.node.0 == m.0 || are_linked c.node m s.links) ≡ true

running_left : {lives : Node → ℕ} {c : Call} {error : Option Dep} (s : SystemView) (e : Envelope) (left : List Envelope)
    → Running lives c error s → Taken e s.messages left → Running lives c error (without s left)
running_left {lives} {c} {error} s e left f taken = record {
  still = waits_left s left f.still;
  kinds = (taken_all (IsNews lives c error) e s.messages left taken f.kinds).1;
  takeovers = f.takeovers;
  sees = f.sees;
}

-- ---- the node's own dist_ac

-- what it does where it is told that the application runs
pub record Ran (lives : Node → ℕ) (c : Call) (error : Option Dep) (s : SystemView) : Type 0 where
  pub next : Option DistView
  pub more : List Envelope
  pub comes : ComesTo c.node (message.Run c.app error) next more s
  pub rest : (d : DistView) → next ≡ Some d → IsUnoccupied d
  pub kinds : All (IsNews lives c error) more
  pub knows : (d : DistView) → next ≡ Some d → Knows (node_at s c.node).dist d

-- it has none, or takes nothing yet
ran_plainly : {lives : Node → ℕ} {c : Call} {error : Option Dep} (s : SystemView) (next : Option DistView)
    → ((l : List Envelope) (calls : List Call) (events : List Event)
    → mailed c.node (message.Run c.app error) (varied s l calls events) ≡ with_dist c.node next s l calls events)
    → ((d : DistView) → next ≡ Some d → IsUnoccupied d) → ((d : DistView) → next ≡ Some d → Knows (node_at s c.node).dist d)
    → Ran lives c error s
ran_plainly {lives} {c} {error} s next comes rest knows = record {
  next = next;
  more = [];
  comes = λ l calls events. comes l calls events ∙ (λ i. with_dist c.node next s (sym (append-nil l) i) calls events);
  rest = rest;
  kinds = All-nil (IsNews lives c error);
  knows = knows;
}

ran_idle : {lives : Node → ℕ} {c : Call} {error : Option Dep} (s : SystemView) (d : DistView) → ((k : Node) → (node_at s k).life ≡ lives k)
    → live_at s c.node ≡ Some (node_at s c.node) → (node_at s c.node).dist ≡ Some d → IsUnoccupied d → d.stand ≡ stand.Idle
    → d.t_reqs ≡ []
    → ((m : Node) → is_among m d.known ≡ true → is_alive_at s m ≡ true → (c.node.0 == m.0 || are_linked c.node m s.links) ≡ true)
    → Ran lives c error s
ran_idle {lives} {c} {error} s d same_lives there has free is none sees = record {
  next = Some over.state;
  more = mails lives next n msg d.known;
  comes = λ l calls events.
      idle_comes s.cluster s.files n (lives n) (message.Run c.app error) d over free is refl (λ w. runs_so c.app error (weighing w t) none)
      (varied s l calls events) (node_at s n) there has (same_lives n) refl refl
      ∙ all_posted n msg d.known (with_dist n (Some over.state) s l calls events) lives_on
      (λ m among up. sees m among (sym (awake m) ∙ up));
  rest = λ e is_next. subst IsUnoccupied (same_Some over.state e is_next) (record {
    stand = inl refl;
    mail = All-nil (λ (x : Message). takes stand.Idle x ≡ false);
    permits = free.permits;
    parked = free.parked;
  });
  kinds = all_mailed lives (IsNews lives c error) next n msg d.known tells;
  knows = λ e is_next. subst (Knows (node_at s n).dist) (same_Some over.state e is_next)
      (record { takeovers = refl; before = d; had = has; known = refl });
}
  where
    n : Node
    n = c.node

    msg : Message
    msg = message.AppStarted n c.app error

    t : TurnView
    t = turn s.cluster (own_in s.files n) n (lives n) d

    over : TurnView
    over = run_over c.app error t

    new : LiveView
    new = record (node_at s n) { dist = Some over.state }

    next : SystemView
    next = with_node n new s

    lives_on : (k : Node) → (node_at next k).life ≡ lives k
    lives_on k = same_of_all (λ (v : LiveView). v.life) s n k new refl ∙ same_lives k

    awake : (k : Node) → is_alive_at next k ≡ is_alive_at s k
    awake k = same_of_all is_alive s n k new refl

pub ran : {lives : Node → ℕ} {c : Call} {error : Option Dep} (s : SystemView) → Running lives c error s → is_alive_at s c.node ≡ true
    → Ran lives c error s
ran {lives} {c} {error} s f alive = by (node_at s c.node).dist refl
  where
    x : Message
    x = message.Run c.app error

    there : live_at s c.node ≡ Some (node_at s c.node)
    there = there_is s c.node alive

    free : (d : DistView) → (node_at s c.node).dist ≡ Some d → IsUnoccupied d
    free d has = f.still.dists c.node d alive has

    at : (d : DistView) → (node_at s c.node).dist ≡ Some d → (d.stand ≡ stand.Idle) ⊎ (d.stand ≡ stand.ForGo) → Ran lives c error s
    at d has (inl is) = ran_idle s d f.still.same_lives there has (free d has) is (f.takeovers d has) (f.sees d has)
    at d has (inr is) =
        ran_plainly s (Some (with_message x d))
        (λ l calls events. waits_on c.node x (varied s l calls events) (node_at s c.node) d there has (free d has) is refl)
        (λ e is_next. subst IsUnoccupied (same_Some (with_message x d) e is_next) (still_waits x d (free d has) is refl))
        (λ e is_next. subst (Knows (node_at s c.node).dist) (same_Some (with_message x d) e is_next)
        (record { takeovers = f.takeovers d has; before = d; had = has; known = refl }))

    by : (o : Option DistView) → (node_at s c.node).dist ≡ o → Ran lives c error s
    by None has =
        ran_plainly s None (λ l calls events. none_on c.node x (varied s l calls events) (node_at s c.node) there has)
        (λ d is. absurd (none-some d is)) (λ d is. absurd (none-some d is))
    by (Some d) has = at d has (free d has).stand

ran_acts : {lives : Node → ℕ} {c : Call} {error : Option Dep} (s : SystemView) (left : List Envelope) → is_alive_at s c.node ≡ true
    → (r : Ran lives c error s)
    → Acted AtEase (IsNews lives c error) c.node (without s left) (mailed c.node (message.Run c.app error) (without s left))
ran_acts {c = c} {error} s left alive r = record {
  old = node_at s c.node;
  new = record (node_at s c.node) { dist = r.next };
  there = there_is s c.node alive;
  more = r.more;
  set = [];
  seen = [];
  is = r.comes left s.calls s.events
      ∙ (λ i. record (with_node c.node (record (node_at s c.node) { dist = r.next }) s) {
        messages = left ++ r.more;
        timers = sym (append-nil s.timers) i;
        events = sym (append-nil s.events) i;
      });
  life = refl;
  phase = refl;
  stopped = refl;
  ending = refl;
  rest = r.rest;
  kinds = r.kinds;
}

-- another one's controller is told
pub changed_acts : {K : Envelope → Type 0} (m : Node) (x : Message) (s : SystemView) → is_alive_at s m ≡ true
    → ((d : DistView) → (node_at s m).dist ≡ Some d → IsUnoccupied d) → Changed s.cluster s.files m x
    → Acted AtEase K m s (controlled m x s)
changed_acts {K} m x s alive rest ch =
    let old : LiveView = node_at s m in
    let new : LiveView = record old { controller = ch.next old.controller } in
    record {
      old = old;
      new = new;
      there = there_is s m alive;
      more = [];
      set = [];
      seen = ch.seen old.controller;
      is = ch.comes s old (there_is s m alive) refl refl
          ∙ (λ i. record (with_node m new s) {
            messages = sym (append-nil s.messages) i;
            timers = sym (append-nil s.timers) i;
            events = s.events ++ ch.seen old.controller;
          });
      life = refl;
      phase = refl;
      stopped = refl;
      ending = ch.ending old.controller;
      rest = rest;
      kinds = All-nil K;
    }

-- ---- a node has acted

running_on : {lives : Node → ℕ} {c : Call} {error : Option Dep} (m : Node) (s t : SystemView) → Running lives c error s
    → (acted : Acted AtEase (IsNews lives c error) m s t)
    → ((d : DistView) → (node_at (with_node m acted.new s) c.node).dist ≡ Some d → Knows (node_at s c.node).dist d)
    → Running lives c error t
running_on {lives} {c} {error} m s t f acted knows =
    subst (Running lives c error) (sym acted.is) (record {
      still = waits_acted m s t f.still acted;
      kinds = All-append (IsNews lives c error) s.messages acted.more f.kinds acted.kinds;
      takeovers = λ d has. (knows d has).takeovers;
      sees = λ d has k among alive.
          let so : Knows (node_at s c.node).dist d = knows d has in
          f.sees so.before so.had k (ap (is_among k) (sym so.known) ∙ among) (sym (alive_on m k s t acted) ∙ alive);
    })

-- another one's turn is nothing to the node
knows_still : {lives : Node → ℕ} {c : Call} {error : Option Dep} (m : Node) (s : SystemView) (v : LiveView) → Running lives c error s
    → m.0 ≢ c.node.0
    → (d : DistView) → (node_at (with_node m v s) c.node).dist ≡ Some d → Knows (node_at s c.node).dist d
knows_still {c = c} m s v f other d has =
    let had : (node_at s c.node).dist ≡ Some d =
    sym (ap (λ (x : LiveView). x.dist) (others_same s m c.node v (λ one. other (sym one)))) ∙ has in
    record { takeovers = f.takeovers d had; before = d; had = had; known = refl }

-- ---- what each message comes to

-- it has come, and leaves alone what nodes share
pub record CameOn (lives : Node → ℕ) (c : Call) (error : Option Dep) (s t : SystemView) : Type 0 where
  pub still : Running lives c error t
  pub leaves : (n : Node) → LeavesAlone n s t

is_lost : {lives : Node → ℕ} {c : Call} {error : Option Dep} (s t : SystemView) (left : List Envelope)
    → Running lives c error (without s left) → t ≡ without s left
    → CameOn lives c error s t
is_lost {lives} {c} {error} s t left f same = record {
  still = subst (Running lives c error) (sym same) f;
  leaves = λ n. subst (LeavesAlone n s) (sym same) (record { links = refl; locks = refl; alive = λ k. refl; answers = λ k app. inl refl });
}

has_acted : {lives : Node → ℕ} {c : Call} {error : Option Dep} (m : Node) (s t : SystemView) (left : List Envelope)
    → Running lives c error (without s left)
    → (acted : Acted AtEase (IsNews lives c error) m (without s left) t)
    → ((d : DistView) → (node_at (with_node m acted.new (without s left)) c.node).dist ≡ Some d → Knows (node_at s c.node).dist d)
    → CameOn lives c error s t
has_acted m s t left f acted knows = record {
  still = running_on m (without s left) t f acted knows;
  leaves = λ n. acted_leaves n m s t left acted;
}

-- the call was answered
answered_on : {lives : Node → ℕ} {c : Call} {error : Option Dep} (o : Outcome) (s : SystemView) (left : List Envelope)
    → Running lives c error (without s left)
    → CameOn lives c error s (answered_in c o (without s left))
answered_on {lives} {c} {error} o s left f = record {
  still = record { still = waits_answered o (without s left) f.still; kinds = f.kinds; takeovers = f.takeovers; sees = f.sees };
  leaves = λ n. record { links = refl; locks = refl; alive = λ k. refl; answers = λ k app. inl refl };
}

pub came_on : {lives : Node → ℕ} {c : Call} {error : Option Dep} (s : SystemView) (e : Envelope) (left : List Envelope)
    → Running lives c error s
    → Taken e s.messages left → IsNews lives c error e → CameOn lives c error s (arrived e.to e.message (without s left))
unfolding ran_acts
came_on {lives} {c} {error} s _ left f taken runs = by (cases_Bool (is_alive_at s c.node))
  where
    e : Envelope
    e = own_news lives c error

    g : Running lives c error (without s left)
    g = running_left s e left f taken

    by : (is_alive_at s c.node ≡ true) ⊎ (is_alive_at s c.node ≡ false) → CameOn lives c error s (arrived e.to e.message (without s left))
    by (inl alive) =
        let r : Ran lives c error s = ran s f alive in
        let new : LiveView = record (node_at s c.node) { dist = r.next } in
        let is : node_at (with_node c.node new (without s left)) c.node ≡ new =
        node_written (without s left) c.node (node_at s c.node) new (there_is s c.node alive) in
        rw (arrives_alive e.to e.message (without s left) alive (g.still.same_lives c.node))
        (has_acted c.node s _ left g (ran_acts s left alive r) (λ d has. r.knows d (sym (ap (λ (v : LiveView). v.dist) is) ∙ has)))
    by (inr dead) = is_lost s _ left g (arrives_dead e.to e.message (without s left) dead)
came_on {lives} {c} {error} s _ left f taken (answers o known) = by (cases_Bool (is_alive_at s c.node))
  where
    e : Envelope
    e = answer_of lives c o

    g : Running lives c error (without s left)
    g = running_left s e left f taken

    by : (is_alive_at s c.node ≡ true) ⊎ (is_alive_at s c.node ≡ false) → CameOn lives c error s (arrived e.to e.message (without s left))
    by (inl alive) =
        rw (answered_so c g.still.stage o (without s left) g.still.calls g.still.locks known alive
        (g.still.same_lives c.node ∙ sym g.still.life))
        (answered_on o s left g)
    by (inr dead) = is_lost s _ left g (arrives_dead e.to e.message (without s left) dead)
came_on {lives} {c} {error} s _ left f taken (tells m other) = by (cases_Bool (is_alive_at s m))
  where
    e : Envelope
    e = news lives c error m

    q : SystemView
    q = without s left

    g : Running lives c error q
    g = running_left s e left f taken

    by : (is_alive_at s m ≡ true) ⊎ (is_alive_at s m ≡ false) → CameOn lives c error s (arrived e.to e.message q)
    by (inl alive) =
        let acted : Acted AtEase (IsNews lives c error) m q (mailed m e.message q) =
        told_acts m e.message q g.still.same_lives alive
        (hears_any (IsNews lives c error) q.cluster q.files m (lives m) c.app c.node error (node_at q m).dist (moves m other)
        (λ d has. g.still.dists m d alive has)) in
        rw (arrives_alive e.to e.message q alive (g.still.same_lives m))
        (has_acted m s _ left g acted (λ d has. knows_still m q acted.new g other d has))
    by (inr dead) = is_lost s _ left g (arrives_dead e.to e.message q dead)
came_on {lives} {c} {error} s _ left f taken (moves m other) = by (cases_Bool (is_alive_at s m))
  where
    e : Envelope
    e = learned lives c m

    q : SystemView
    q = without s left

    g : Running lives c error q
    g = running_left s e left f taken

    by : (is_alive_at s m ≡ true) ⊎ (is_alive_at s m ≡ false) → CameOn lives c error s (arrived e.to e.message q)
    by (inl alive) =
        let acted : Acted AtEase (IsNews lives c error) m q (controlled m e.message q) =
        changed_acts m e.message q alive (λ d has. g.still.dists m d alive has) (moves_elsewhere q.cluster q.files m c.app c.node) in
        rw (arrives_alive e.to e.message q alive (g.still.same_lives m))
        (has_acted m s _ left g acted (λ d has. knows_still m q acted.new g other d has))
    by (inr dead) = is_lost s _ left g (arrives_dead e.to e.message q dead)

pub goes_on : {lives : Node → ℕ} {c : Call} {error : Option Dep} (s t : SystemView) → Running lives c error s → (s.messages ≡ [] → ⊥)
    → Delivers s t → Running lives c error t
goes_on {lives} {c} {error} s t f some one =
    let come : Come s t = message_comes s t some one in
    let kind : IsNews lives c error come.message =
    (taken_all (IsNews lives c error) come.message s.messages come.left come.taken f.kinds).0 in
    subst (Running lives c error) (sym come.is) (came_on s come.message come.left f come.taken kind).still
