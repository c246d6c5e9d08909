-- Another node takes the application over, or fails to: its own processes tell one another one message at a time, while the others that are
-- told note the permission.
use Rattle.std.proofs.Common.{◌≡◌, ◌≢◌, ◌⊎◌, ◌++◌, ◌==◌, ◌||◌, ℕ, true, false, List, [], ◌∷◌, Option, Some, None, refl, sym, ap, subst, ◌∙◌, inl, inr}
use Rattle.std.specs.Prelude.{All}
use Rattle.std.proofs.lemmas.Bool.{cases_Bool}
use Rattle.std.proofs.lemmas.List.{append-nil}
use Rattle.std.proofs.lemmas.List.Elements.{All-weaker}
use Rattle.rh_model.specs.declared.node.App.{App}
use Rattle.rh_model.specs.declared.node.Node.{Node}
use Rattle.rh_model.specs.declared.settings.Dep.{Dep}
use Rattle.rh_otp_model.specs.declared.message.Change.{Change}
use Rattle.rh_otp_model.specs.declared.message.Message.TheVariants as message
use Rattle.rh_otp_model.specs.declared.output.Envelope.{Envelope}
use Rattle.rh_otp_model.specs.declared.output.Event.{Event}
use Rattle.rh_otp_model.specs.declared.process.Process.{Process}
use Rattle.rh_otp_model.specs.declared.process.Role.TheVariants as role
use Rattle.rh_otp_model.specs.declared.wait.OwnFile.{OwnFile}
use Rattle.rh_otp_model.specs.Own.{controls}
use Rattle.rh_otp_model.specs.Processes.{process_at}
use Rattle.rh_otp_dist.specs.declared.state.Stand.TheVariants as stand
use Rattle.rh_otp_dist.specs.State.{DistView, is_among, may_run}
use Rattle.rh_otp_net.specs.declared.links.Link.{Link}
use Rattle.rh_otp_net.specs.declared.timers.Timer.{Timer}
use Rattle.rh_otp_net.specs.Links.{are_linked}
use Rattle.rh_otp_net.specs.Queue.{is_of_pair}
use Rattle.rh_otp_node.specs.Live.{LiveView}
use Rattle.rh_otp_system.specs.declared.calls.Call.{Call}
use Rattle.rh_otp_system.specs.Delivering.{arrived}
use Rattle.rh_otp_system.specs.State.{SystemView, node_at, with_node, is_alive_at}
use Rattle.rh_otp_laws.proofs.Nodes.{others_same}
use Rattle.rh_otp_orders.specs.Orders.{LeavesAlone, is_call}
use Rattle.rh_otp_orders.proofs.Taking.{Taken, of_different_pairs}
use Rattle.rh_otp_crashes.specs.Crashes.{IsUnoccupied}
use Rattle.rh_otp_crashes.proofs.Carrying.{alarms, letters}
use Rattle.rh_otp_crashes.proofs.Crossing.{for_dist}
use Rattle.rh_otp_crashes.proofs.Peace.{here_in, without, arrives_alive, arrives_dead, turned_so}
use Rattle.rh_otp_crashes.proofs.Turning.{own_in}
use Rattle.rh_otp_stops.proofs.Stopping.{there_is}
use Rattle.rh_otp_moves.specs.Moving.{TakesIt}
use Rattle.rh_otp_moves.proofs.Still.{lost_leaves}
use Rattle.rh_otp_moves.proofs.Chain.{IsStart, AskedAlone, taken_last}
use Rattle.rh_otp_moves.proofs.Others.{IsOther}
use Rattle.rh_otp_moves.proofs.Holding.{Stands, Holding, Wrote, awake, holding_left, holding_on}
use Rattle.rh_otp_moves.proofs.Passing.{IsPassed, IsQuiet, Passing, hears, note, noted_at, notes}

-- ---- what is so all the while

-- the call's node is alive, and has the application in its own `distributed`
pub record Handed (lives : Node → ℕ) (c : Call) (m : Node) (told : List Node) (s : SystemView) : Type 0 where
  pub hold : Holding lives c m told s
  pub listed : controls (own_in s.files c.node) c.app ≡ true
  pub alive : is_alive_at s c.node ≡ true
  pub other : m.0 ≢ c.node.0

-- the other node's dist_ac takes it, if it takes whatever comes and knows that it may run it; nobody waits there for a takeover, and the
-- node sees all that its dist_ac knows
pub record Ready (c : Call) (m : Node) (s : SystemView) : Type 0 where
  pub takes : (d : DistView) → (node_at s m).dist ≡ Some d → d.stand ≡ stand.Idle → may_run d m c.app ≡ true
      → TakesIt (own_in s.files m) c.node m c.app d
  pub takeovers : (d : DistView) → (node_at s m).dist ≡ Some d → d.t_reqs ≡ []
  pub sees : (d : DistView) → (node_at s m).dist ≡ Some d → (j : Node) → is_among j d.known ≡ true → is_alive_at s j ≡ true
      → (m.0 == j.0 || are_linked m j s.links) ≡ true

-- it has the application in its own `distributed`, and its dist_ac takes whatever comes
pub record Taker (c : Call) (m : Node) (s : SystemView) : Type 0 where
  pub dist : DistView
  pub has : (node_at s m).dist ≡ Some dist
  pub idle : dist.stand ≡ stand.Idle
  pub takeovers : dist.t_reqs ≡ []
  pub listed : controls (own_in s.files m) c.app ≡ true
  pub up : is_alive_at s m ≡ true
  pub sees : (j : Node) → is_among j dist.known ≡ true → is_alive_at s j ≡ true → (m.0 == j.0 || are_linked m j s.links) ≡ true

pub free_at : {lives : Node → ℕ} {c : Call} {m : Node} {told : List Node} (s : SystemView) (d : DistView) → Handed lives c m told s
    → is_alive_at s m ≡ true → (node_at s m).dist ≡ Some d → IsUnoccupied d
free_at {c = c} {m = m} s d f alive has = by (f.hold.dists m d alive has)
  where
    by : Stands c m d → IsUnoccupied d
    by (inl free) = free
    by (inr held) = absurd (f.other held.0)

-- ---- the messages

-- the other nodes are told of the permission
abbrev pub its_note : (Node → ℕ) → Call → Node → Envelope
its_note lives c j = for_dist lives j (process_at (here_in lives c.node) role.DistAc) (note c)

pub data IsNote (lives : Node → ℕ) (c : Call) (m : Node) (told : List Node) : Envelope → Type 0 where
  tells : (j : Node) → IsOther c m told j → IsNote lives c m told (its_note lives c j)

-- its dist_ac tells its controller to start it
abbrev pub it_changes : (Node → ℕ) → Call → Node → Change → Envelope
it_changes lives c m what = record {
  from = process_at (here_in lives m) role.DistAc;
  to = process_at (here_in lives m) role.Controller;
  message = message.Change c.app what;
}

-- the starter reports
abbrev pub it_reports : Node → App → Option Dep → ℕ → Envelope
it_reports m a error life = record {
  from = process_at (record { node = m; life = life }) (role.Starter a);
  to = process_at (record { node = m; life = life }) role.Controller;
  message = message.ApplicationStarted a error;
}

-- and the controller tells the dist_ac that it runs, or what it lacks
abbrev pub it_runs : Node → App → Option Dep → ℕ → Envelope
it_runs m a error life = record {
  from = process_at (record { node = m; life = life }) role.Controller;
  to = process_at (record { node = m; life = life }) role.DistAc;
  message = message.Run a error;
}

-- one of these, and the first is the news of the permission
pub data IsLink (lives : Node → ℕ) (c : Call) (m : Node) (s : SystemView) : Envelope → Type 0 where
  news : Ready c m s → IsLink lives c m s (its_note lives c m)
  change : (what : Change) → IsStart what → Taker c m s → IsLink lives c m s (it_changes lives c m what)
  report : (error : Option Dep) → AskedAlone c.app (node_at s m).controller → Taker c m s
      → IsLink lives c m s (it_reports m c.app error (lives m))
  run : (error : Option Dep) → Taker c m s → IsLink lives c m s (it_runs m c.app error (lives m))

-- each is for that node, and none for a call
pub link_home : (lives : Node → ℕ) (c : Call) (m : Node) (s : SystemView) (e : Envelope) → IsLink lives c m s e → e.to.node ≡ m
link_home lives c m s _ (news ready) = refl
link_home lives c m s _ (change what is taker) = refl
link_home lives c m s _ (report error asked taker) = refl
link_home lives c m s _ (run error taker) = refl

pub link_no_call : (lives : Node → ℕ) (c : Call) (m : Node) (s : SystemView) (e : Envelope) → IsLink lives c m s e
    → is_call e.to.role ≡ false
link_no_call lives c m s _ (news ready) = refl
link_no_call lives c m s _ (change what is taker) = refl
link_no_call lives c m s _ (report error asked taker) = refl
link_no_call lives c m s _ (run error taker) = refl

-- ---- how it goes on

-- one message for that node, and notes to others
pub record Linked (lives : Node → ℕ) (c : Call) (m : Node) (told : List Node) (s : SystemView) : Type 0 where
  pub handed : Handed lives c m told s
  pub message : Envelope
  pub link : IsLink lives c m s message
  pub rest : List Envelope
  pub taken : Taken message s.messages rest
  pub kinds : All (IsNote lives c m told) rest

-- or that is over
pub data Moving (lives : Node → ℕ) (c : Call) (m : Node) (told : List Node) (s : SystemView) : Type 0 where
  linked : Linked lives c m told s → Moving lives c m told s
  passed : (error : Option Dep) → Passing lives c m told error s → Moving lives c m told s

-- what comes of a message, which leaves alone what nodes share
pub record Advanced (lives : Node → ℕ) (c : Call) (m : Node) (told : List Node) (s t : SystemView) : Type 0 where
  pub moving : Moving lives c m told t
  pub leaves : (n : Node) → LeavesAlone n s t

pub all_passed : {lives : Node → ℕ} {c : Call} {m : Node} {told : List Node} (error : Option Dep) (l : List Envelope)
    → All (IsNote lives c m told) l → All (IsPassed lives c m told error) l
all_passed {lives} {c} {m} {told} error l kinds =
    All-weaker (IsNote lives c m told) (IsPassed lives c m told error) (λ e kind. by e kind) l kinds
  where
    by : (e : Envelope) → IsNote lives c m told e → IsPassed lives c m told error e
    by _ (tells j other) = hears j (process_at (here_in lives c.node) role.DistAc) (note c) (notes other)

-- nothing more comes of it at that node
pub at_end : {lives : Node → ℕ} {c : Call} {m : Node} {told : List Node} (t : SystemView) (rest : List Envelope) → Handed lives c m told t
    → t.messages ≡ rest → All (IsNote lives c m told) rest → Moving lives c m told t
at_end {lives} {c} {m} {told} t rest f is kinds = passed None (record {
  hold = f.hold;
  kinds = subst (All (IsPassed lives c m told None)) (sym is) (all_passed None rest kinds);
  listed = f.listed;
  alive = f.alive;
})

-- the next message comes
pub goes_on : {lives : Node → ℕ} {c : Call} {m : Node} {told : List Node} (t : SystemView) (rest : List Envelope) (e : Envelope)
    → Handed lives c m told t → t.messages ≡ rest ++ e ∷ [] → IsLink lives c m t e → All (IsNote lives c m told) rest
    → Moving lives c m told t
goes_on {lives} {c} {m} {told} t rest e f is link kinds = linked (record {
  handed = f;
  message = e;
  link = link;
  rest = rest;
  taken = subst (λ (l : List Envelope). Taken e l rest) (sym is) (taken_last e rest (All-weaker (IsNote lives c m told)
      (λ (x : Envelope). is_of_pair e x ≡ false) (λ x kind. apart x kind) rest kinds));
  kinds = kinds;
})
  where
    apart : (x : Envelope) → IsNote lives c m told x → is_of_pair e x ≡ false
    apart _ (tells j other) =
        of_different_pairs e (its_note lives c j)
        (λ one. other.0 (sym one ∙ ap (λ (n : Node). n.0) (link_home lives c m t e link)))

-- ---- a node has written its state

-- so much is as it was
pub record Stepped (lives : Node → ℕ) (c : Call) (m : Node) (told : List Node) (s t : SystemView) : Type 0 where
  pub handed : Handed lives c m told t
  pub leaves : (n : Node) → LeavesAlone n s t
  pub files : t.files ≡ s.files
  pub links : t.links ≡ s.links
  pub stays : (j : Node) → is_alive_at t j ≡ is_alive_at s j

pub stepped : {lives : Node → ℕ} {c : Call} {m : Node} {told : List Node} (j : Node) (s t : SystemView) (left more : List Envelope)
    (timers : List Timer) (events : List Event) (new : LiveView) → Handed lives c m told s → Wrote c m told j (without s left) new
    → t ≡ record (with_node j new (without s left)) { messages = more; timers = timers; events = events } → Stepped lives c m told s t
stepped {lives} {c} {m} {told} j s t left more timers events new f w is = record {
  handed = record {
    hold = holding_on j more timers events new (without s left) t (holding_left s left f.hold) w is;
    listed = ap (λ (x : SystemView). controls (own_in x.files c.node) c.app) is ∙ f.listed;
    alive = stays c.node ∙ f.alive;
    other = f.other;
  };
  leaves = λ n. subst (LeavesAlone n s) (sym is)
      (record { links = refl; locks = refl; alive = λ i. awake (without s left) i w; answers = λ i app. inl refl });
  files = ap (λ (x : SystemView). x.files) is;
  links = ap (λ (x : SystemView). x.links) is;
  stays = stays;
}
  where
    stays : (i : Node) → is_alive_at t i ≡ is_alive_at s i
    stays i = ap (λ (x : SystemView). is_alive_at x i) is ∙ awake (without s left) i w

-- its message was lost
lost : {lives : Node → ℕ} {c : Call} {m : Node} {told : List Node} (s t : SystemView) (left : List Envelope) → Handed lives c m told s
    → t ≡ without s left → Stepped lives c m told s t
lost {lives} {c} {m} {told} s t left f same = record {
  handed = subst (Handed lives c m told) (sym same)
      (record { hold = holding_left s left f.hold; listed = f.listed; alive = f.alive; other = f.other });
  leaves = λ n. lost_leaves n s t left same;
  files = ap (λ (x : SystemView). x.files) same;
  links = ap (λ (x : SystemView). x.links) same;
  stays = λ j. ap (λ (x : SystemView). is_alive_at x j) same;
}

pub advanced_lost : {lives : Node → ℕ} {c : Call} {m : Node} {told : List Node} (s t : SystemView) (rest : List Envelope)
    → Handed lives c m told s → All (IsNote lives c m told) rest → t ≡ without s rest → Advanced lives c m told s t
advanced_lost s t rest f kinds same =
    let so = lost s t rest f same in
    record { moving = at_end t rest so.handed (ap (λ (x : SystemView). x.messages) same) kinds; leaves = so.leaves }

-- the taker is as it was
pub taker_on : {lives : Node → ℕ} {c : Call} {m : Node} {told : List Node} (s t : SystemView) → Stepped lives c m told s t
    → (node_at t m).dist ≡ (node_at s m).dist → Taker c m s → Taker c m t
taker_on {c = c} {m = m} s t so same g = record {
  dist = g.dist;
  has = same ∙ g.has;
  idle = g.idle;
  takeovers = g.takeovers;
  listed = ap (λ (files : List OwnFile). controls (own_in files m) c.app) so.files ∙ g.listed;
  up = so.stays m ∙ g.up;
  sees = λ j among up.
      ap (λ (links : List Link). m.0 == j.0 || are_linked m j links) so.links ∙ g.sees j among (sym (so.stays j) ∙ up);
}

-- ---- another node notes the permission

pub link_on : {lives : Node → ℕ} {c : Call} {m : Node} {told : List Node} (s t : SystemView) (e : Envelope) → Stepped lives c m told s t
    → node_at t m ≡ node_at s m → IsLink lives c m s e → IsLink lives c m t e
link_on {c = c} {m = m} s t _ so same (news ready) = news (record {
  takes = λ d has idle may.
      subst (λ (files : List OwnFile). TakesIt (own_in files m) c.node m c.app d) (sym so.files) (ready.takes d (before d has) idle may);
  takeovers = λ d has. ready.takeovers d (before d has);
  sees = λ d has j among up.
      ap (λ (links : List Link). m.0 == j.0 || are_linked m j links) so.links
      ∙ ready.sees d (before d has) j among (sym (so.stays j) ∙ up);
})
  where
    before : (d : DistView) → (node_at t m).dist ≡ Some d → (node_at s m).dist ≡ Some d
    before d has = sym (ap (λ (v : LiveView). v.dist) same) ∙ has
link_on s t _ so same (change what is taker) = change what is (taker_on s t so (ap (λ (v : LiveView). v.dist) same) taker)
link_on {c = c} s t _ so same (report error asked taker) =
    report error (subst (λ (v : LiveView). AskedAlone c.app v.controller) (sym same) asked)
    (taker_on s t so (ap (λ (v : LiveView). v.dist) same) taker)
link_on s t _ so same (run error taker) = run error (taker_on s t so (ap (λ (v : LiveView). v.dist) same) taker)

-- so much is left, and that node is as it was
pub record Noted (lives : Node → ℕ) (c : Call) (m : Node) (told : List Node) (s t : SystemView) (left : List Envelope) : Type 0 where
  pub step : Stepped lives c m told s t
  pub messages : t.messages ≡ left
  pub same : node_at t m ≡ node_at s m

pub note_comes : {lives : Node → ℕ} {c : Call} {m : Node} {told : List Node} (s : SystemView) (j : Node) (left : List Envelope)
    → Handed lives c m told s → IsOther c m told j
    → Noted lives c m told s (arrived (its_note lives c j).to (note c) (without s left)) left
note_comes {lives} {c} {m} {told} s j left f other = by (cases_Bool (is_alive_at s j))
  where
    to : Process
    to = process_at (here_in lives j) role.DistAc

    q : SystemView
    q = without s left

    t : SystemView
    t = arrived to (note c) q

    by : (is_alive_at s j ≡ true) ⊎ (is_alive_at s j ≡ false) → Noted lives c m told s t left
    by (inl up) =
        let quiet : IsQuiet lives c m told None s j (node_at s j).dist = noted_at s j f.hold other up in
        let d = quiet.0.turned in
        let old : LiveView = node_at s j in
        let new : LiveView = record old { dist = d.next } in
        let timers : List Timer = s.timers ++ alarms s.clock s.step to d.outs in
        let is : t ≡ record (with_node j new q) { messages = left ++ letters d.outs; timers = timers } =
        arrives_alive to (note c) q up (f.hold.same_lives j)
        ∙ turned_so j (note c) s q old old.dist d (there_is s j up) refl (f.hold.same_lives j) refl refl in
        record {
          step = stepped j s t left (left ++ letters d.outs) timers s.events new f
              (record {
                there = there_is s j up;
                life = refl;
                phase = refl;
                ending = λ apart. refl;
                stopped = λ apart. refl;
                rest = λ y has. inl (d.rest y has);
                tame = quiet.0.tame;
              })
              is;
          messages = ap (λ (x : SystemView). x.messages) is ∙ (λ i. left ++ letters (quiet.1 i)) ∙ append-nil left;
          same = ap (λ (x : SystemView). node_at x m) is ∙ others_same q j m new (λ one. other.0 (sym one));
        }
    by (inr dead) =
        let same : t ≡ q = arrives_dead to (note c) q dead in
        record {
          step = lost s t left f same;
          messages = ap (λ (x : SystemView). x.messages) same;
          same = ap (λ (x : SystemView). node_at x m) same;
        }
