-- What a controller sends and shows, carried out; and how a node goes on to its end.
use Rattle.std.proofs.Common.{◌≡◌, ◌⊎◌, ◌++◌, ◌+◌, ◌^◌, ◌&&◌, ◌||◌, ℕ, Bool, true, false, not, cond, nat_lt, List, [], ◌∷◌, Some, refl, sym, ap, subst, ◌∙◌, inl, inr}
use Rattle.std.specs.Prelude.{All}
use Rattle.std.proofs.lemmas.Bool.{cases_Bool, false≢true}
use Rattle.std.proofs.lemmas.List.{append_assoc, append-nil}
use Rattle.std.proofs.lemmas.List.Elements.{All-nil, All-cons, All-head, All-tail, All-append}
use Rattle.rh_model.specs.declared.node.App.{App}
use Rattle.rh_model.specs.declared.node.Node.{Node}
use Rattle.rh_otp_model.specs.declared.message.Message.{Message}
use Rattle.rh_otp_model.specs.declared.message.Message.TheVariants as message
use Rattle.rh_otp_model.specs.declared.output.Envelope.{Envelope}
use Rattle.rh_otp_model.specs.declared.output.Event.{Event}
use Rattle.rh_otp_model.specs.declared.output.Event.TheVariants as event
use Rattle.rh_otp_model.specs.declared.output.Output.{Output}
use Rattle.rh_otp_model.specs.declared.output.Output.TheVariants as output
use Rattle.rh_otp_model.specs.declared.process.Process.{Process}
use Rattle.rh_otp_model.specs.declared.process.Role.TheVariants as role
use Rattle.rh_otp_model.specs.declared.process.StartType.{StartType}
use Rattle.rh_otp_controller.specs.declared.state.Place.{Place}
use Rattle.rh_otp_controller.specs.declared.state.Place.TheVariants as place_of
use Rattle.rh_otp_controller.specs.Changes.{received}
use Rattle.rh_otp_controller.specs.Ending.{stop_each}
use Rattle.rh_otp_controller.specs.State.{TurnView}
use Rattle.rh_otp_net.specs.declared.timers.Timer.{Timer}
use Rattle.rh_otp_node.specs.Live.{LiveView, with_kind, is_ending}
use Rattle.rh_otp_node.specs.Turns.{controller_turn, controlled_by, terminated_by}
use Rattle.rh_otp_system.specs.declared.calls.Call.{Call}
use Rattle.rh_otp_system.specs.declared.moves.Move.TheVariants as move
use Rattle.rh_otp_system.specs.Delivering.{arrived}
use Rattle.rh_otp_system.specs.Ending.{ended, stopped}
use Rattle.rh_otp_system.specs.Moves.{made}
use Rattle.rh_otp_system.specs.Outputs.{all_carried_out}
use Rattle.rh_otp_system.specs.Sending.{told, after}
use Rattle.rh_otp_system.specs.State.{SystemView, live_at, node_at, with_node, is_alive_at, process_in}
use Rattle.rh_otp_laws.proofs.Nodes.{node_written}
use Rattle.rh_otp_orders.specs.Confluence.{IsOrderly}
use Rattle.rh_otp_crashes.proofs.Carrying.{letters}
use Rattle.rh_otp_crashes.proofs.Peace.{without, arrives_alive}
use Rattle.rh_otp_crashes.proofs.Turning.{own_in, written_twice}
use Rattle.rh_otp_stops.proofs.Saying.{sights}
use Rattle.rh_otp_stops.proofs.Stop.{turn_at}
use Rattle.rh_otp_stops.proofs.Stopping.{there_is}
use Rattle.rh_otp_starts.proofs.Ending.{fall_orderly}
use Rattle.rh_otp_starts.proofs.Alone.{Waits, Writes, taken_from, waits_on, alive_still, none_orderly, end_orderly}

-- ---- a controller's turn

-- it sends, or an observer sees an application start here, or stop
pub data IsSaid (n : Node) : Output → Type 0 where
  sends : (e : Envelope) → IsSaid n (output.Send e)
  shows : (a : App) (kind : StartType) → IsSaid n (output.Tell (event.Started a n kind))
  stops : (a : App) → IsSaid n (output.Tell (event.Stopped a n))

-- Carried out, that is all; and an observer keeps of which kind a start was.
pub record Carried (n : Node) (s : SystemView) (v : LiveView) (outs : List Output) : Type 0 where
  pub new : LiveView
  pub is : all_carried_out n outs (with_node n v s)
      ≡ record (with_node n new s) { messages = s.messages ++ letters outs; events = s.events ++ sights outs }
  pub life : new.life ≡ v.life
  pub phase : new.phase ≡ v.phase
  pub stopped : new.is_stopped ≡ v.is_stopped
  pub controller : new.controller ≡ v.controller
  pub dist : new.dist ≡ v.dist

pub carries_said : (n : Node) (outs : List Output) (s : SystemView) (u v : LiveView) → live_at s n ≡ Some u → All (IsSaid n) outs
    → Carried n s v outs
unfolding told
carries_said n [] s u v there said = record {
  new = v;
  is = λ i. record (with_node n v s) { messages = sym (append-nil s.messages) i; events = sym (append-nil s.events) i };
  life = refl;
  phase = refl;
  stopped = refl;
  controller = refl;
  dist = refl;
}
carries_said n (o ∷ outs) s u v there said =
    by o (All-head (IsSaid n) o outs said) (λ q w is. carries_said n outs q u w is (All-tail (IsSaid n) o outs said))
  where
    seen : Event → SystemView
    seen e = record s { events = s.events ++ e ∷ [] }

    by : (x : Output) → IsSaid n x → ((q : SystemView) (w : LiveView) → live_at q n ≡ Some u → Carried n q w outs) → Carried n s v (x ∷ outs)
    by _ (sends e) rest =
        let more : Carried n (record s { messages = s.messages ++ e ∷ [] }) v outs =
        rest (record s { messages = s.messages ++ e ∷ [] }) v there in
        record {
          new = more.new;
          is = more.is
              ∙ (λ i. record (with_node n more.new s) {
                messages = append_assoc s.messages (e ∷ []) (letters outs) i;
                events = s.events ++ sights outs;
              });
          life = more.life;
          phase = more.phase;
          stopped = more.stopped;
          controller = more.controller;
          dist = more.dist;
        }
    by _ (shows a kind) rest =
        let e : Event = event.Started a n kind in
        let w : LiveView = with_kind a kind v in
        let more : Carried n (seen e) w outs = rest (seen e) w there in
        record {
          new = more.new;
          is = ap (λ (x : LiveView). all_carried_out n outs (with_node n (with_kind a kind x) (with_node n v (seen e)))) (node_written s n u v there)
              ∙ ap (all_carried_out n outs) (written_twice (seen e) n v w) ∙ more.is
              ∙ (λ i. record (with_node n more.new s) {
                messages = s.messages ++ letters outs;
                events = append_assoc s.events (e ∷ []) (sights outs) i;
              });
          life = more.life;
          phase = more.phase;
          stopped = more.stopped;
          controller = more.controller;
          dist = more.dist;
        }
    by _ (stops a) rest =
        let e : Event = event.Stopped a n in
        let more : Carried n (seen e) v outs = rest (seen e) v there in
        record {
          new = more.new;
          is = more.is
              ∙ (λ i. record (with_node n more.new s) {
                messages = s.messages ++ letters outs;
                events = append_assoc s.events (e ∷ []) (sights outs) i;
              });
          life = more.life;
          phase = more.phase;
          stopped = more.stopped;
          controller = more.controller;
          dist = more.dist;
        }

-- behind a turn these messages are on their way
pub record Turn (n : Node) (u : TurnView) (l : List Envelope) : Type 0 where
  pub said : All (IsSaid n) u.out
  pub sent : letters u.out ≡ l

abbrev pub controller_of : Node → ℕ → Process
controller_of n life = record { role = role.Controller; node = n; life = life }

-- what it comes to: so the controller stands behind it, and these messages are on their way
pub record Behind (lives : Node → ℕ) (c : Call) (u : TurnView) (l : List Envelope) (t s : SystemView) : Type 0 where
  pub still : Waits lives c true l t
  pub alive : is_alive_at t c.node ≡ true
  pub turn : turn_at t c.node ≡ record (turn_at s c.node) { state = u.state }
  pub dist : (node_at t c.node).dist ≡ (node_at s c.node).dist
  pub files : t.files ≡ s.files
  pub links : t.links ≡ s.links
  pub locks : t.locks ≡ s.locks
  pub calls : t.calls ≡ s.calls
  pub awake : (n : Node) → is_alive_at t n ≡ is_alive_at s n

pub takes_turn : {lives : Node → ℕ} {c : Call} {l more : List Envelope} (life : ℕ) (m : Message) (s : SystemView)
    → Waits lives c true l s → lives c.node ≡ life → is_alive_at s c.node ≡ true
    → Turn c.node (received m (turn_at s c.node)) more
    → Behind lives c (received m (turn_at s c.node)) more (arrived (controller_of c.node life) m (without s [])) s
unfolding controlled_by
takes_turn {lives} {c} {l} {more} life m s f same alive turn = record {
  still = subst (λ (x : List Envelope). Waits lives c true x t) turn.sent
      (waits_on true (letters u.out) s.timers (s.events ++ sights u.out) done.new q t (taken_from s f) writes (λ never. absurd (false≢true (sym never))) is);
  alive = ap (λ (x : SystemView). is_alive_at x n) is ∙ alive_still q n writes ∙ alive;
  turn = ap (λ (x : SystemView). turn_at x n) is
      ∙ ap (λ (v : LiveView). controller_turn s.cluster (own_in s.files n) n v) (node_written q n old done.new there)
      ∙ (λ i. record (turn_at s n) { here = record { node = n; life = done.life i }; state = done.controller i });
  dist = ap (λ (x : SystemView). (node_at x n).dist) is ∙ ap (λ (v : LiveView). v.dist) (node_written q n old done.new there) ∙ done.dist;
  files = ap (λ (x : SystemView). x.files) is;
  links = ap (λ (x : SystemView). x.links) is;
  locks = ap (λ (x : SystemView). x.locks) is;
  calls = ap (λ (x : SystemView). x.calls) is;
  awake = λ k. ap (λ (x : SystemView). is_alive_at x k) is ∙ alive_still q k writes;
}
  where
    n : Node
    n = c.node

    q : SystemView
    q = without s []

    u : TurnView
    u = received m (turn_at s n)

    old : LiveView
    old = node_at s n

    there : live_at q n ≡ Some old
    there = there_is s n alive

    done : Carried n q (record old { controller = u.state }) u.out
    done = carries_said n u.out q old (record old { controller = u.state }) there turn.said

    t : SystemView
    t = arrived (controller_of n life) m q

    is : t ≡ record (with_node n done.new q) { messages = letters u.out; timers = s.timers; events = s.events ++ sights u.out }
    is = arrives_alive (controller_of n life) m q alive (f.same_lives n ∙ same) ∙ done.is

    writes : Writes q n done.new
    writes = record { there = there; life = done.life; phase = done.phase; rest = λ d has. f.dists n d alive (sym done.dist ∙ has) }

-- ---- a node goes on to its end

letters_behind : (outs : List Output) (e : Event) → letters (outs ++ output.Tell e ∷ []) ≡ letters outs
letters_behind [] e = refl
letters_behind (output.Send m ∷ outs) e = ap (λ (l : List Envelope). m ∷ l) (letters_behind outs e)
letters_behind (output.Tell x ∷ outs) e = letters_behind outs e
letters_behind (output.ToDist n m ∷ outs) e = letters_behind outs e
letters_behind (output.Monitor n ∷ outs) e = letters_behind outs e
letters_behind (output.Free r p ∷ outs) e = letters_behind outs e
letters_behind (output.After time m ∷ outs) e = letters_behind outs e

-- what runs here stops, and no message is sent
pub stops_each : (n : Node) (rows : List (App × Place)) (t : TurnView) → t.here.node ≡ n → All (IsSaid n) t.out
    → All (IsSaid n) (stop_each rows t).out × (letters (stop_each rows t).out ≡ letters t.out)
stops_each n [] t of_node said = (said, refl)
stops_each n ((a, place_of.Here) ∷ rows) t of_node said =
    let e : Event = event.Stopped a t.here.node in
    let o : Output = output.Tell e in
    let word : IsSaid n o = subst (λ (k : Node). IsSaid n (output.Tell (event.Stopped a k))) (sym of_node) (stops a) in
    let more : All (IsSaid n) (stop_each rows (record t { out = t.out ++ o ∷ [] })).out
    × (letters (stop_each rows (record t { out = t.out ++ o ∷ [] })).out ≡ letters (t.out ++ o ∷ [])) =
    stops_each n rows (record t { out = t.out ++ o ∷ [] }) of_node
    (All-append (IsSaid n) t.out (o ∷ []) said (All-cons (IsSaid n) o [] word (All-nil (IsSaid n)))) in
    (more.0, more.1 ∙ letters_behind t.out e)
stops_each n ((a, place_of.At m) ∷ rows) t of_node said = stops_each n rows t of_node said
stops_each n ((a, place_of.Nowhere) ∷ rows) t of_node said = stops_each n rows t of_node said

pub timed_by : (b : Bool) (timers : List Timer) (s : SystemView) → cond b (record s { timers = timers }) s ≡ record s { timers = cond b timers s.timers }
timed_by true timers s = refl
timed_by false timers s = refl

pub never_both : (b : Bool) → (b && false) ≡ false
never_both true = refl
never_both false = refl

-- all that runs there stops, and that is all for now
pub stopped_waits : {lives : Node → ℕ} {c : Call} {may_end : Bool} (s : SystemView) → Waits lives c may_end [] s → may_end ≡ true
    → is_alive_at s c.node ≡ true → s.ends_soon ≡ false → Waits lives c false [] (made (move.End c.node) s)
unfolding made stopped terminated_by after
stopped_waits {lives} {c} {may_end} s f may alive soon =
    waits_on false [] timers (s.events ++ sights outs) done.new s (made (move.End c.node) s) f writes
    (λ x. (λ i. is_ending done.new && (soon i || not (done.stopped i))) ∙ never_both (is_ending done.new)) is
  where
    n : Node
    n = c.node

    old : LiveView
    old = node_at s n

    there : live_at s n ≡ Some old
    there = there_is s n alive

    u : TurnView
    u = stop_each old.controller.running (turn_at s n)

    outs : List Output
    outs = u.out

    words : All (IsSaid n) outs × (letters outs ≡ [])
    words = stops_each n old.controller.running (turn_at s n) refl (All-nil (IsSaid n))

    done : Carried n s (record old { controller = u.state; is_stopped = true }) outs
    done = carries_said n outs s old (record old { controller = u.state; is_stopped = true }) there words.0

    writes : Writes s n done.new
    writes = record { there = there; life = done.life; phase = done.phase; rest = λ d has. f.dists n d alive (sym done.dist ∙ has) }

    over : SystemView
    over = record (with_node n done.new s) { messages = s.messages ++ letters outs; events = s.events ++ sights outs }

    later : SystemView → SystemView
    later x = after 1500 (process_in x n role.System) message.Ends x

    timers : List Timer
    timers = cond (nat_lt (s.clock + 1500) (2 ^ 64))
        (s.timers ++ record { due = s.clock + 1500; step = s.step; to = process_in over n role.System; message = message.Ends } ∷ []) s.timers

    silent : s.messages ++ letters outs ≡ []
    silent = ap (λ (l : List Envelope). l ++ letters outs) f.messages ∙ words.1

    is : made (move.End n) s ≡ record (with_node n done.new s) { messages = []; timers = timers; events = s.events ++ sights outs }
    is =
        ap (λ (b : Bool). cond b (ended n s) (stopped n s)) soon
        ∙ ap later done.is
        ∙ timed_by (nat_lt (s.clock + 1500) (2 ^ 64)) _ over
        ∙ (λ i. record over { messages = silent i; timers = timers })

-- where nothing is on its way, its node may go on to its end, at once or some time later
end_follows : {lives : Node → ℕ} {c : Call} {may_end : Bool} (s : SystemView) → Waits lives c may_end [] s → may_end ≡ true
    → is_alive_at s c.node ≡ true → (s.ends_soon ≡ true) ⊎ (s.ends_soon ≡ false) → IsOrderly (made (move.End c.node) s)
unfolding made
end_follows {c = c} s f may alive (inl soon) =
    subst IsOrderly (sym (ap (λ (b : Bool). cond b (ended c.node s) (stopped c.node s)) soon)) (fall_orderly s f (f.later soon))
end_follows {c = c} s f may alive (inr later) =
    none_orderly (made (move.End c.node) s) (stopped_waits s f may alive later) (λ x. absurd (false≢true x))

pub quiet_orderly : {lives : Node → ℕ} {c : Call} {may_end : Bool} (s : SystemView) → Waits lives c may_end [] s → IsOrderly s
quiet_orderly {lives} {c} {may_end} s f = by (cases_Bool may_end) (cases_Bool (is_alive_at s c.node))
  where
    by : (may_end ≡ true) ⊎ (may_end ≡ false) → (is_alive_at s c.node ≡ true) ⊎ (is_alive_at s c.node ≡ false) → IsOrderly s
    by (inl may) (inl alive) = end_orderly s f (end_follows s f may alive (cases_Bool s.ends_soon))
    by (inl may) (inr dead) = none_orderly s f (λ x. dead)
    by (inr never) other = none_orderly s f (λ may. absurd (false≢true (sym never ∙ may)))
