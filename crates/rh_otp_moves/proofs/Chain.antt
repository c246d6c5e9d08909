-- What the processes of the call's own node tell one another, one message at a time, while others are on their way to other nodes.
use Rattle.std.proofs.Common.{◌≡◌, ◌⊎◌, ◌++◌, ◌==◌, ◌||◌, ℕ, true, false, cond, List, [], ◌∷◌, Option, Some, None, refl, sym, ap, subst, ◌∙◌, inl, inr}
use Rattle.std.specs.Prelude.{All}
use Rattle.std.proofs.lemmas.List.{append-nil}
use Rattle.std.proofs.lemmas.List.Elements.{All-head, All-tail, All-append, All-weaker}
use Rattle.std.proofs.lemmas.Option.{same_Some}
use Rattle.rh_model.specs.declared.node.App.{App}
use Rattle.rh_model.specs.declared.node.Node.{Node}
use Rattle.rh_model.specs.declared.settings.Dep.{Dep}
use Rattle.rh_otp_model.specs.declared.message.Change.{Change}
use Rattle.rh_otp_model.specs.declared.message.Change.TheVariants as change_of
use Rattle.rh_otp_model.specs.declared.message.Message.{Message}
use Rattle.rh_otp_model.specs.declared.message.Message.TheVariants as message
use Rattle.rh_otp_model.specs.declared.output.Envelope.{Envelope}
use Rattle.rh_otp_model.specs.declared.process.Here.{Here}
use Rattle.rh_otp_model.specs.declared.process.Process.{Process}
use Rattle.rh_otp_model.specs.declared.process.Role.TheVariants as role
use Rattle.rh_otp_model.specs.declared.wait.OwnFile.{OwnFile}
use Rattle.rh_otp_model.specs.Own.{controls}
use Rattle.rh_otp_model.specs.Processes.{process_at}
use Rattle.rh_otp_model.specs.Rows.{has_row}
use Rattle.rh_otp_controller.specs.Changes.{received}
use Rattle.rh_otp_controller.specs.State.{ControllerView}
use Rattle.rh_otp_controller.specs.State.{TurnView as ControllerTurn}
use Rattle.rh_otp_dist.specs.declared.outside.Need.TheVariants as need
use Rattle.rh_otp_dist.specs.declared.state.Stand.TheVariants as stand
use Rattle.rh_otp_dist.specs.declared.state.Standing.TheVariants as standing
use Rattle.rh_otp_dist.specs.Outside.{with_message, idle_need}
use Rattle.rh_otp_dist.specs.Received as mail
use Rattle.rh_otp_dist.specs.State.{DistView, TurnView, standing_of, is_among}
use Rattle.rh_otp_net.specs.declared.links.Link.{Link}
use Rattle.rh_otp_net.specs.Links.{are_linked}
use Rattle.rh_otp_net.specs.Queue.{is_of_pair}
use Rattle.rh_otp_node.specs.Live.{LiveView}
use Rattle.rh_otp_node.specs.Turns.{controlled_by}
use Rattle.rh_otp_system.specs.Calls.{process_of}
use Rattle.rh_otp_system.specs.Delivering.{arrived}
use Rattle.rh_otp_system.specs.Outputs.{all_carried_out}
use Rattle.rh_otp_system.specs.State.{SystemView, live_at, node_at, with_node, is_alive_at}
use Rattle.rh_otp_orders.specs.Orders.{LeavesAlone, is_call}
use Rattle.rh_otp_orders.proofs.Taking.{Taken, taken_of_more, both_taken, of_different_pairs}
use Rattle.rh_otp_crashes.specs.Crashes.{IsUnoccupied}
use Rattle.rh_otp_crashes.proofs.Carrying.{letters}
use Rattle.rh_otp_crashes.proofs.Peace.{here_in, without, arrives_alive, taken_all}
use Rattle.rh_otp_crashes.proofs.Turning.{own_in, turn, weighing, idle, idle_comes}
use Rattle.rh_otp_stops.proofs.Saying.{sights}
use Rattle.rh_otp_stops.proofs.Stop.{turn_at}
use Rattle.rh_otp_stops.proofs.Stopping.{there_is}
use Rattle.rh_otp_starts.proofs.Turns.{IsSaid, Carried, carries_said}
use Rattle.rh_otp_moves.proofs.Still.{Course, Did, is_new, did_leaves, lost_leaves}
use Rattle.rh_otp_moves.proofs.Telling.{Begins, IsAbroad}
use Rattle.rh_otp_moves.proofs.Abroad.{Going, going_left, going_on, Stepped, comes_abroad, abroad_other}
use Rattle.rh_otp_moves.proofs.Late.{IsLate, abroad, Over}

-- ---- the messages

abbrev pub home_of : Course → Here
home_of k = here_in k.lives k.call.node

-- the dist_ac tells its controller of a change
abbrev pub it_changes : Course → Change → Envelope
it_changes k what = record {
  from = process_at (home_of k) role.DistAc;
  to = process_at (home_of k) role.Controller;
  message = message.Change k.call.app what;
}

-- the controller tells it that the application doesn't run any more
abbrev pub it_has_stopped : Course → Envelope
it_has_stopped k = record {
  from = process_at (home_of k) role.Controller;
  to = process_at (home_of k) role.DistAc;
  message = message.NotRun k.call.app;
}

-- the starter reports
abbrev pub it_reports : Course → Option Dep → Envelope
it_reports k error = record {
  from = process_at (home_of k) (role.Starter k.call.app);
  to = process_at (home_of k) role.Controller;
  message = message.ApplicationStarted k.call.app error;
}

-- and the controller tells the dist_ac that it runs, or what it lacks
abbrev pub it_runs : Course → Option Dep → Envelope
it_runs k error = record {
  from = process_at (home_of k) role.Controller;
  to = process_at (home_of k) role.DistAc;
  message = message.Run k.call.app error;
}

-- a change by which it starts
pub data IsStart : Change → Type 0 where
  starts : IsStart change_of.StartIt
  takes_over : (m : Node) → IsStart (change_of.Takeover m None)
  fails_over : (m : Node) → IsStart (change_of.Failover m)

-- its dist_ac alone has asked the controller for the start
pub record AskedAlone (a : App) (x : ControllerView) : Type 0 where
  pub rows : List (App × Option Process)
  pub first : x.start_req ≡ (a, None) ∷ rows
  pub nobody : has_row a rows ≡ false

-- one of these
pub data IsLink (k : Course) (x : ControllerView) : Envelope → Type 0 where
  stop : k.allow ≡ false → IsLink k x (it_changes k change_of.StopIt)
  stopped : k.allow ≡ false → IsLink k x (it_has_stopped k)
  start : Begins k → (what : Change) → IsStart what → IsLink k x (it_changes k what)
  report : Begins k → (error : Option Dep) → AskedAlone k.call.app x → IsLink k x (it_reports k error)
  run : Begins k → (error : Option Dep) → IsLink k x (it_runs k error)

-- each is for the node itself, and none for a call
pub link_home : (k : Course) (x : ControllerView) (e : Envelope) → IsLink k x e → e.to.node ≡ k.call.node
link_home k x _ (stop forbidden) = refl
link_home k x _ (stopped forbidden) = refl
link_home k x _ (start allowed what is) = refl
link_home k x _ (report allowed error asked) = refl
link_home k x _ (run allowed error) = refl

pub link_no_call : (k : Course) (x : ControllerView) (e : Envelope) → IsLink k x e → is_call e.to.role ≡ false
link_no_call k x _ (stop forbidden) = refl
link_no_call k x _ (stopped forbidden) = refl
link_no_call k x _ (start allowed what is) = refl
link_no_call k x _ (report allowed error asked) = refl
link_no_call k x _ (run allowed error) = refl

-- ---- who waits

-- The call waits at the node's dist_ac, which takes whatever comes: behind a permit for the start, behind a forbid for the end of the
-- application. And the node sees all that its dist_ac knows.
pub record Waiting (k : Course) (s : SystemView) : Type 0 where
  pub dist : DistView
  pub has : (node_at s k.call.node).dist ≡ Some dist
  pub idle : dist.stand ≡ stand.Idle
  pub takeovers : dist.t_reqs ≡ cond k.allow ((k.call.app, process_of k.call) ∷ []) []
  pub ends : k.allow ≡ false → (dist.s_reqs ≡ (k.call.app, process_of k.call) ∷ []) × (standing_of dist k.call.app ≡ standing.Local)
  pub listed : controls (own_in s.files k.call.node) k.call.app ≡ true
  pub sees : (m : Node) → is_among m dist.known ≡ true → is_alive_at s m ≡ true
      → (k.call.node.0 == m.0 || are_linked k.call.node m s.links) ≡ true

-- a system in which as much is so
pub waiting_on : (k : Course) (s t : SystemView) → Waiting k s → (node_at t k.call.node).dist ≡ (node_at s k.call.node).dist
    → ((n : Node) → LeavesAlone n s t) → t.files ≡ s.files → Waiting k t
waiting_on k s t f same leaves files = record {
  dist = f.dist;
  has = same ∙ f.has;
  idle = f.idle;
  takeovers = f.takeovers;
  ends = f.ends;
  listed = ap (λ (l : List OwnFile). controls (own_in l k.call.node) k.call.app) files ∙ f.listed;
  sees = λ m among alive.
      ap (λ (l : List Link). k.call.node.0 == m.0 || are_linked k.call.node m l) (leaves k.call.node).links
      ∙ f.sees m among (sym ((leaves k.call.node).alive m) ∙ alive);
}

-- one message of the node itself, and others to other nodes
pub record Chained (k : Course) (s : SystemView) : Type 0 where
  pub going : Going k s
  pub waiting : Waiting k s
  pub message : Envelope
  pub rest : List Envelope
  pub taken : Taken message s.messages rest
  pub kinds : All (IsAbroad k) rest
  pub link : IsLink k (node_at s k.call.node).controller message

-- or that is over
pub data Moving (k : Course) (s : SystemView) : Type 0 where
  chained : Chained k s → Moving k s
  at_end : Over k s → Moving k s

-- what comes of a message, which leaves alone what nodes share
pub record Advanced (k : Course) (s t : SystemView) : Type 0 where
  pub moving : Moving k t
  pub leaves : (n : Node) → LeavesAlone n s t

-- ---- a message to another node comes

pub apart_pair : (k : Course) (x : ControllerView) (e f : Envelope) → IsAbroad k e → IsLink k x f → is_of_pair e f ≡ false
apart_pair k x e f kind link =
    of_different_pairs e f (λ one. abroad_other k e kind (one ∙ ap (λ (n : Node). n.0) (link_home k x f link)))

pub abroad_first : (k : Course) (s : SystemView) (e : Envelope) (left : List Envelope) → Chained k s → IsAbroad k e
    → Taken e s.messages left → Advanced k s (arrived e.to e.message (without s left))
abroad_first k s e left f kind taken =
    let t : SystemView = arrived e.to e.message (without s left) in
    let step : Stepped k s t left = comes_abroad k s e left f.going kind in
    let x : ControllerView = (node_at s k.call.node).controller in
    let both : (l : List Envelope) × Taken f.message left l × Taken e f.rest l =
    both_taken e f.message s.messages left f.rest (apart_pair k x e f.message kind f.link) taken f.taken in
    record {
      moving = chained (record {
        going = step.going;
        waiting = waiting_on k s t f.waiting (ap (λ (v : LiveView). v.dist) step.home) step.leaves step.files;
        message = f.message;
        rest = both.0 ++ step.more;
        taken = subst (λ (l : List Envelope). Taken f.message l (both.0 ++ step.more)) (sym step.sent)
            (taken_of_more f.message left both.0 step.more both.1);
        kinds = All-append (IsAbroad k) both.0 step.more (taken_all (IsAbroad k) e f.rest both.0 both.2 f.kinds).1 step.kinds;
        link = subst (λ (v : LiveView). IsLink k v.controller f.message) (sym step.home) f.link;
      });
      leaves = step.leaves;
    }

-- ---- the node itself goes on

all_late : (k : Course) (l : List Envelope) → All (IsAbroad k) l → All (IsLate k) l
all_late k l kinds = All-weaker (IsAbroad k) (IsLate k) abroad l kinds

-- where it is down its message is lost
pub advanced_lost : (k : Course) (s t : SystemView) (rest : List Envelope) → Going k s → All (IsAbroad k) rest → t ≡ without s rest
    → Advanced k s t
advanced_lost k s t rest f kinds same = record {
  moving = at_end (subst (Over k) (sym same) (record { going = going_left k s rest f; kinds = all_late k rest kinds }));
  leaves = λ n. lost_leaves n s t rest same;
}

pub going_home : (k : Course) (s t : SystemView) (rest : List Envelope) → Going k s → Did k k.call.node (without s rest) t → Going k t
going_home k s t rest f did =
    going_on k k.call.node (without s rest) t (going_left k s rest f) did (λ other. absurd (other refl))

-- it has sent such messages, and that is over
pub advanced_over : (k : Course) (s t : SystemView) (rest more : List Envelope) → Going k s → All (IsAbroad k) rest
    → (did : Did k k.call.node (without s rest) t) → did.more ≡ more → All (IsLate k) more → Advanced k s t
advanced_over k s t rest more f kinds did sent late = record {
  moving = at_end (record {
    going = going_home k s t rest f did;
    kinds = subst (All (IsLate k)) (sym (ap (λ (x : SystemView). x.messages) did.is ∙ ap (λ (l : List Envelope). rest ++ l) sent))
        (All-append (IsLate k) rest more (all_late k rest kinds) late);
  });
  leaves = λ n. did_leaves k n k.call.node s t rest did;
}

-- behind all others
pub taken_last : (e : Envelope) (rest : List Envelope) → All (λ (m : Envelope). is_of_pair e m ≡ false) rest → Taken e (rest ++ e ∷ []) rest
taken_last e [] apart = inl (refl, refl)
taken_last e (m ∷ rest) apart =
    let P : Envelope → Type 0 = λ (x : Envelope). is_of_pair e x ≡ false in
    inr (All-head P m rest apart, rest, refl, taken_last e rest (All-tail P m rest apart))

-- it has sent the next one
pub advanced_next : (k : Course) (s t : SystemView) (rest : List Envelope) (next : Envelope) → Going k s → All (IsAbroad k) rest
    → (did : Did k k.call.node (without s rest) t) → did.more ≡ next ∷ [] → Waiting k s → did.new.dist ≡ (node_at s k.call.node).dist
    → IsLink k did.new.controller next → Advanced k s t
advanced_next k s t rest next f kinds did sent waits same link =
    let new : node_at t k.call.node ≡ did.new = is_new k k.call.node (without s rest) t did in
    let leaves : (n : Node) → LeavesAlone n s t = λ n. did_leaves k n k.call.node s t rest did in
    record {
      moving = chained (record {
        going = going_home k s t rest f did;
        waiting = waiting_on k s t waits (ap (λ (v : LiveView). v.dist) new ∙ same) leaves (ap (λ (x : SystemView). x.files) did.is);
        message = next;
        rest = rest;
        taken = subst (λ (l : List Envelope). Taken next l rest)
            (sym (ap (λ (x : SystemView). x.messages) did.is ∙ ap (λ (l : List Envelope). rest ++ l) sent))
            (taken_last next rest (All-weaker (IsAbroad k) (λ (m : Envelope). is_of_pair next m ≡ false)
            (λ m kind. of_different_pairs next m
            (λ one. abroad_other k m kind (sym one ∙ ap (λ (n : Node). n.0) (link_home k did.new.controller next link)))) rest kinds));
        kinds = kinds;
        link = subst (λ (v : LiveView). IsLink k v.controller next) (sym new) link;
      });
      leaves = leaves;
    }

-- its controller's turn, carried out
pub record Controlled (k : Course) (u : ControllerTurn) (s t : SystemView) : Type 0 where
  pub did : Did k k.call.node s t
  pub controller : did.new.controller ≡ u.state
  pub dist : did.new.dist ≡ (node_at s k.call.node).dist
  pub sent : did.more ≡ letters u.out

pub controls_home : (k : Course) (s : SystemView) (x : Message) → Going k s → is_alive_at s k.call.node ≡ true
    → All (IsSaid k.call.node) (received x (turn_at s k.call.node)).out
    → (k.starts ≡ true) ⊎ ((received x (turn_at s k.call.node)).state.is_ending ≡ (node_at s k.call.node).controller.is_ending)
    → Controlled k (received x (turn_at s k.call.node)) s (arrived (process_at (home_of k) role.Controller) x s)
unfolding controlled_by
controls_home k s x f alive said ending =
    let n : Node = k.call.node in
    let u : ControllerTurn = received x (turn_at s n) in
    let old : LiveView = node_at s n in
    let there : live_at s n ≡ Some old = there_is s n alive in
    let done : Carried n s (record old { controller = u.state }) u.out =
    carries_said n u.out s old (record old { controller = u.state }) there said in
    record {
      did = record {
        new = done.new;
        there = there;
        more = letters u.out;
        set = [];
        seen = sights u.out;
        is = arrives_alive (process_at (home_of k) role.Controller) x s alive (f.still.same_lives n) ∙ done.is
            ∙ (λ i. record (with_node n done.new s) {
              messages = s.messages ++ letters u.out;
              timers = sym (append-nil s.timers) i;
              events = s.events ++ sights u.out;
            });
        life = done.life;
        phase = done.phase;
        ending = elim ending [
          | inl allowed ↦ inl (refl, allowed)
          | inr same ↦ inr (ap (λ (y : ControllerView). y.is_ending) done.controller ∙ same, done.stopped)
        ];
        rest = λ d has. f.still.dists n d alive (sym done.dist ∙ has);
      };
      controller = done.controller;
      dist = done.dist;
      sent = refl;
    }

-- its dist_ac's turn, carried out
pub record Handled (k : Course) (more : List Envelope) (s t : SystemView) : Type 0 where
  pub did : Did k k.call.node s t
  pub sent : did.more ≡ more

pub handles_home : (k : Course) (s : SystemView) (rest more : List Envelope) (x : Message) (d : DistView) (over : TurnView) → Going k s
    → is_alive_at s k.call.node ≡ true → (node_at s k.call.node).dist ≡ Some d → d.stand ≡ stand.Idle
    → idle_need x (with_message x (idle d)) ≡ need.Nothing
    → ((w : ℕ) → mail.handled x (weighing w (turn s.cluster (own_in s.files k.call.node) k.call.node (k.lives k.call.node) d))
    ≡ weighing w over)
    → (all_carried_out k.call.node over.out
    (with_node k.call.node (record (node_at s k.call.node) { dist = Some over.state }) (without s rest))
    ≡ with_node k.call.node (record (node_at s k.call.node) { dist = Some over.state }) (without s (rest ++ more)))
    → IsUnoccupied over.state
    → Handled k more (without s rest) (arrived (process_at (home_of k) role.DistAc) x (without s rest))
handles_home k s rest more x d over f alive has is no_need closed posted unoccupied =
    let n : Node = k.call.node in
    let old : LiveView = node_at s n in
    let new : LiveView = record old { dist = Some over.state } in
    let q : SystemView = without s rest in
    record {
      did = record {
        new = new;
        there = there_is s n alive;
        more = more;
        set = [];
        seen = [];
        is = arrives_alive (process_at (home_of k) role.DistAc) x q alive (f.still.same_lives n)
            ∙ idle_comes s.cluster s.files n (k.lives n) x d over (f.still.dists n d alive has) is no_need closed q old
            (there_is s n alive) has (f.still.same_lives n) refl refl
            ∙ posted
            ∙ (λ i. record (with_node n new s) {
              messages = rest ++ more;
              timers = sym (append-nil s.timers) i;
              events = sym (append-nil s.events) i;
            });
        life = refl;
        phase = refl;
        ending = inr (refl, refl);
        rest = λ e is_next. subst IsUnoccupied (same_Some over.state e is_next) unoccupied;
      };
      sent = refl;
    }
