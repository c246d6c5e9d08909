-- What the node's controller and its boot script do, carried out. The node's dist_ac is nothing to it.
use Rattle.std.proofs.Common.{◌≡◌, ◌+◌, ◌-◌, ◌^◌, ◌++◌, ℕ, min, Bool, true, false, cond, List, [], ◌∷◌, Option, Some, None, refl, sym, ap, ◌∙◌}
use Rattle.std.specs.Prelude.{All}
use Rattle.std.specs.Option.{option_and_then}
use Rattle.std.proofs.lemmas.List.{append_assoc, append-nil}
use Rattle.std.proofs.lemmas.List.Elements.{All-nil, All-cons, All-head, All-tail}
use Rattle.rh_model.specs.ClusterView.{ClusterView}
use Rattle.rh_model.specs.declared.node.App.{App}
use Rattle.rh_model.specs.declared.node.Node.{Node}
use Rattle.rh_model.specs.declared.settings.Restart.{Restart}
use Rattle.rh_otp_model.specs.declared.fault.Fault.{Fault}
use Rattle.rh_otp_model.specs.declared.message.Message.{Message}
use Rattle.rh_otp_model.specs.declared.output.Envelope.{Envelope}
use Rattle.rh_otp_model.specs.declared.output.Event.{Event}
use Rattle.rh_otp_model.specs.declared.output.Event.TheVariants as event
use Rattle.rh_otp_model.specs.declared.output.Output.{Output}
use Rattle.rh_otp_model.specs.declared.output.Output.TheVariants as output
use Rattle.rh_otp_model.specs.declared.process.Here.{Here}
use Rattle.rh_otp_model.specs.declared.process.Role.TheVariants as role
use Rattle.rh_otp_model.specs.declared.process.StartType.{StartType}
use Rattle.rh_otp_model.specs.Own.{OwnView}
use Rattle.rh_otp_model.specs.Processes.{process_at}
use Rattle.rh_otp_model.specs.Rows.{keystore}
use Rattle.rh_otp_controller.specs.Changes.{received as heard_by}
use Rattle.rh_otp_controller.specs.State.{ControllerView, TurnView}
use Rattle.rh_otp_node.specs.Boot.{entry_at, entry_before, is_end, with_next}
use Rattle.rh_otp_node.specs.Live.{LiveView, here_of, with_kind}
use Rattle.rh_otp_node.specs.Turns.{controlled_by}
use Rattle.rh_otp_system.specs.Delivering.{received}
use Rattle.rh_otp_system.specs.Joining.{boot_next, counted, failed_at, start_entry, start_next, is_boot_end, is_end_of}
use Rattle.rh_otp_system.specs.Outputs.{all_carried_out}
use Rattle.rh_otp_system.specs.Sending.{told}
use Rattle.rh_otp_system.specs.State.{SystemView, live_at, node_at, with_node}
use Rattle.rh_otp_system.specs.Working.{behind}
use Rattle.rh_otp_laws.proofs.Nodes.{node_written}
use Rattle.rh_otp_crashes.proofs.Carrying.{letters}
use Rattle.rh_otp_crashes.proofs.Peace.{here_in}
use Rattle.rh_otp_crashes.proofs.Turning.{own_in, node_is, written_twice}
use Rattle.rh_otp_stops.proofs.Saying.{sights}
use Rattle.rh_otp_starts.proofs.Turns.{IsSaid, sends, shows, stops}
use Rattle.rh_otp_scripts.proofs.Controlling.{turn_with, Heard}
use Rattle.rh_otp_scripts.proofs.Words.{IsBooted, its_start, starts, IsVoice, Next, over, goes}

-- ---- a turn of the controller, carried out

-- of which kind starts were, as an observer sees
abbrev pub kinds_behind : List Output → List (App × StartType) → List (App × StartType)
kinds_behind [] kinds = kinds
kinds_behind (output.Tell (event.Started a m kind) ∷ outs) kinds = kinds_behind outs (keystore a kind kinds)
kinds_behind (o ∷ outs) kinds = kinds_behind outs kinds

pub carries : (n : Node) (outs : List Output) (q : SystemView) (u v : LiveView) → live_at q n ≡ Some u → All (IsSaid n) outs
    → all_carried_out n outs (with_node n v q)
    ≡ record (with_node n (record v { kinds = kinds_behind outs v.kinds }) q) {
      messages = q.messages ++ letters outs;
      events = q.events ++ sights outs;
    }
unfolding told
carries n [] q u v there said =
    λ i. record (with_node n v q) { messages = sym (append-nil q.messages) i; events = sym (append-nil q.events) i }
carries n (o ∷ outs) q u v there said =
    by o (All-head (IsSaid n) o outs said) (λ p w is. carries n outs p u w is (All-tail (IsSaid n) o outs said))
  where
    seen : Event → SystemView
    seen e = record q { events = q.events ++ e ∷ [] }

    by : (x : Output) → IsSaid n x
        → ((p : SystemView) (w : LiveView) → live_at p n ≡ Some u → all_carried_out n outs (with_node n w p)
        ≡ record (with_node n (record w { kinds = kinds_behind outs w.kinds }) p) {
          messages = p.messages ++ letters outs;
          events = p.events ++ sights outs;
        })
        → all_carried_out n (x ∷ outs) (with_node n v q)
        ≡ record (with_node n (record v { kinds = kinds_behind (x ∷ outs) v.kinds }) q) {
          messages = q.messages ++ letters (x ∷ outs);
          events = q.events ++ sights (x ∷ outs);
        }
    by _ (sends e) rest =
        rest (record q { messages = q.messages ++ e ∷ [] }) v there
        ∙ (λ i. record (with_node n (record v { kinds = kinds_behind outs v.kinds }) q) {
          messages = append_assoc q.messages (e ∷ []) (letters outs) i;
          events = q.events ++ sights outs;
        })
    by _ (shows a kind) rest =
        let e : Event = event.Started a n kind in
        let w : LiveView = with_kind a kind v in
        ap (λ (x : LiveView). all_carried_out n outs (with_node n (with_kind a kind x) (with_node n v (seen e))))
        (node_written q n u v there)
        ∙ ap (all_carried_out n outs) (written_twice (seen e) n v w) ∙ rest (seen e) w there
        ∙ (λ i. record (with_node n (record w { kinds = kinds_behind outs w.kinds }) q) {
          messages = q.messages ++ letters outs;
          events = append_assoc q.events (e ∷ []) (sights outs) i;
        })
    by _ (stops a) rest =
        let e : Event = event.Stopped a n in
        rest (seen e) v there
        ∙ (λ i. record (with_node n (record v { kinds = kinds_behind outs v.kinds }) q) {
          messages = q.messages ++ letters outs;
          events = append_assoc q.events (e ∷ []) (sights outs) i;
        })

-- ---- what they do

-- The controller or the boot script takes a message: how the node stands behind it, what is sent, and what an observer sees, whatever its
-- dist_ac has done meanwhile.
pub record Spoken (lives : Node → ℕ) (n : Node) (s : SystemView) (does : SystemView → SystemView) : Type 0 where
  pub next : ControllerView
  pub kinds : List (App × StartType) → List (App × StartType)
  pub place : ℕ
  pub more : List Envelope
  pub seen : List Event
  pub comes : (q : SystemView) (v : LiveView) → live_at q n ≡ Some v → v.controller ≡ (node_at s n).controller
      → v.place ≡ (node_at s n).place → v.life ≡ lives n → q.cluster ≡ s.cluster → q.files ≡ s.files
      → does q ≡ record (with_node n (record v { controller = next; kinds = kinds v.kinds; place = place }) q) {
        messages = q.messages ++ more;
        events = q.events ++ seen;
      }
  pub then_on : Next (here_in lives n) (IsBooted s.cluster n) next more
  pub voices : All IsVoice more

pub speaks : (lives : Node → ℕ) (n : Node) (m : Message) (s : SystemView)
    → Heard (here_in lives n) (IsBooted s.cluster n)
    (heard_by m (turn_with s.cluster (own_in s.files n) (here_in lives n) (node_at s n).controller))
    → Spoken lives n s (λ (q : SystemView). received (process_at (here_in lives n) role.Controller) m q)
unfolding controlled_by
speaks lives n m s heard = record {
  next = u.state;
  kinds = kinds_behind u.out;
  place = (node_at s n).place;
  more = heard.more;
  seen = sights u.out;
  comes = λ q v there controller place life in_cluster in_files.
      ap (λ (w : LiveView). behind n (controlled_by q.cluster (own_in q.files n) n m w) q) (node_is q n v there)
      ∙ (λ i. all_carried_out n (turned (in_cluster i) (own_in (in_files i) n) (life i) (controller i)).out
      (with_node n (record v { controller = (turned (in_cluster i) (own_in (in_files i) n) (life i) (controller i)).state }) q))
      ∙ carries n u.out q v (record v { controller = u.state }) there heard.turn.said
      ∙ (λ i. record (with_node n (record v { controller = u.state; kinds = kinds_behind u.out v.kinds; place = place i }) q) {
        messages = q.messages ++ heard.turn.sent i;
        events = q.events ++ sights u.out;
      });
  then_on = heard.next;
  voices = heard.voices;
}
  where
    turned : ClusterView → OwnView → ℕ → ControllerView → TurnView
    turned c own life x = heard_by m (turn_with c own (record { node = n; life = life }) x)

    u : TurnView
    u = turned s.cluster (own_in s.files n) (lives n) (node_at s n).controller

-- ---- the boot script goes on

-- an error of what it was starting is told
abbrev failed_seen : Node → Option Fault → Option (App × Restart) → List Event
failed_seen n (Some fault) (Some entry) = event.Failed entry.0 n fault ∷ []
failed_seen n fault entry = []

fails : (n : Node) (fault : Option Fault) (entry : Option (App × Restart)) (q : SystemView)
    → failed_at n fault entry q ≡ record q { events = q.events ++ failed_seen n fault entry }
unfolding told
fails n None entry q = λ i. record q { events = sym (append-nil q.events) i }
fails n (Some fault) None q = λ i. record q { events = sym (append-nil q.events) i }
fails n (Some fault) (Some entry) q = refl

-- the next start is asked for
abbrev asked_by : Here → Option (App × Restart) → List Envelope
asked_by h None = []
asked_by h (Some entry) = its_start h entry.0 entry.1 ∷ []

-- or the script is at its end
abbrev ended_seen : Node → Bool → Option (App × Restart) → List Event
ended_seen n ends (Some entry) = []
ended_seen n true None = event.Booted n ∷ []
ended_seen n false None = []

-- what it does at the next entry, or where there is none
begins : (n : Node) (h : Here) (entry : Option (App × Restart)) (ends : Bool) (q : SystemView) → here_of n (node_at q n) ≡ h
    → is_boot_end n q ≡ ends
    → start_entry n entry q ≡ record q { messages = q.messages ++ asked_by h entry; events = q.events ++ ended_seen n ends entry }
unfolding told
begins n h (Some entry) ends q is at_end =
    λ i. record q { messages = q.messages ++ its_start (is i) entry.0 entry.1 ∷ []; events = sym (append-nil q.events) i }
begins n h None ends q is at_end = ap (λ (b : Bool). cond b (told (event.Booted n) q) q) at_end ∙ by ends
  where
    by : (b : Bool)
        → cond b (told (event.Booted n) q) q ≡ record q { messages = q.messages ++ []; events = q.events ++ ended_seen n b None }
    by true = λ i. record q { messages = sym (append-nil q.messages) i; events = q.events ++ event.Booted n ∷ [] }
    by false = λ i. record q { messages = sym (append-nil q.messages) i; events = sym (append-nil q.events) i }

pub goes_on : (lives : Node → ℕ) (n : Node) (fault : Option Fault) (s : SystemView)
    → (node_at s n).controller.start_req ≡ [] → Spoken lives n s (boot_next n fault)
unfolding boot_next
goes_on lives n fault s none = record {
  next = old.controller;
  kinds = λ kinds. kinds;
  place = min (old.place + 1) (2 ^ 64 - 1);
  more = asked_by h coming;
  seen = failed ++ ended;
  comes = comes;
  then_on = on coming refl;
  voices = voiced coming;
}
  where
    old : LiveView
    old = node_at s n

    h : Here
    h = here_in lives n

    coming : Option (App × Restart)
    coming = entry_at s.cluster n old.place

    failed : List Event
    failed = failed_seen n fault (entry_before s.cluster n old.place)

    ended : List Event
    ended = ended_seen n (is_end s.cluster n old.place) coming

    on : (entry : Option (App × Restart)) → entry_at s.cluster n old.place ≡ entry
        → Next h (IsBooted s.cluster n) old.controller (asked_by h entry)
    on None is = over
    on (Some entry) is =
        goes (its_start h entry.0 entry.1)
        (starts entry.0 entry.1 (old.place, entry.1, is) none)

    voiced : (entry : Option (App × Restart)) → All IsVoice (asked_by h entry)
    voiced None = All-nil IsVoice
    voiced (Some entry) = All-cons IsVoice (its_start h entry.0 entry.1) [] refl (All-nil IsVoice)

    comes : (q : SystemView) (v : LiveView) → live_at q n ≡ Some v → v.controller ≡ old.controller → v.place ≡ old.place
        → v.life ≡ lives n → q.cluster ≡ s.cluster → q.files ≡ s.files
        → boot_next n fault q
        ≡ record (with_node n (record v { controller = old.controller; place = min (old.place + 1) (2 ^ 64 - 1) }) q) {
          messages = q.messages ++ asked_by h coming;
          events = q.events ++ (failed ++ ended);
        }
    comes q v there controller place life in_cluster in_files =
        let here : node_at q n ≡ v = node_is q n v there in
        let q1 : SystemView = record q { events = q.events ++ failed } in
        let q2 : SystemView = record q1 { messages = q.messages ++ asked_by h coming; events = (q.events ++ failed) ++ ended } in
        ap (λ (x : SystemView). counted n (start_next n x))
        (ap (λ (w : LiveView). failed_at n fault (entry_before q.cluster n w.place) q) here
        ∙ (λ i. failed_at n fault (entry_before (in_cluster i) n (place i)) q)
        ∙ fails n fault (entry_before s.cluster n old.place) q)
        ∙ ap (counted n)
        (ap (λ (o : Option LiveView). start_entry n (option_and_then (λ (w : LiveView). entry_at q.cluster n w.place) o) q1) there
        ∙ (λ i. start_entry n (entry_at (in_cluster i) n (place i)) q1)
        ∙ begins n h coming (is_end s.cluster n old.place) q1
        (ap (here_of n) here ∙ (λ i. record { node = n; life = life i }))
        (ap (λ (o : Option LiveView). is_end_of n o q1) there ∙ (λ i. is_end (in_cluster i) n (place i))))
        ∙ ap (λ (w : LiveView). with_node n (with_next w) q2) here
        ∙ (λ i. record (with_node n (record v { controller = controller i; place = min (place i + 1) (2 ^ 64 - 1) }) q) {
          messages = q.messages ++ asked_by h coming;
          events = append_assoc q.events failed ended i;
        })
