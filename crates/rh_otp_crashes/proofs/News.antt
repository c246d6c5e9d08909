-- What there is on its way while an application is started at one node, and what each of these messages comes to.
use Rattle.std.proofs.Common.{◌≡◌, ◌≢◌, ◌≤◌, ◌+◌, ◌++◌, ◌==◌, ◌&&◌, ℕ, Bool, true, false, cond, length, filter, List, [], ◌∷◌, Some, None, refl, sym, ap, subst, ◌∙◌, inl, inr, arith}
use Rattle.std.specs.Prelude.{All}
use Rattle.std.proofs.lemmas.Bool.{eq-eqb, ne_eqb, false≢true}
use Rattle.std.proofs.lemmas.List.{append-nil}
use Rattle.std.proofs.lemmas.List.Elements.{All-nil, All-cons, All-head, All-tail}
use Rattle.rh_model.specs.declared.node.App.{App}
use Rattle.rh_model.specs.declared.node.Node.{Node}
use Rattle.rh_otp_model.specs.declared.message.Change.TheVariants as change_of
use Rattle.rh_otp_model.specs.declared.message.Message.{Message}
use Rattle.rh_otp_model.specs.declared.message.Message.TheVariants as message
use Rattle.rh_otp_model.specs.declared.output.Envelope.{Envelope}
use Rattle.rh_otp_model.specs.declared.output.Event.{Event}
use Rattle.rh_otp_model.specs.declared.output.Event.TheVariants as event
use Rattle.rh_otp_model.specs.declared.output.Output.{Output}
use Rattle.rh_otp_model.specs.declared.process.Here.{Here}
use Rattle.rh_otp_model.specs.declared.process.Role.TheVariants as role
use Rattle.rh_otp_model.specs.Processes.{process_at}
use Rattle.rh_otp_controller.specs.Changes.{received}
use Rattle.rh_otp_controller.specs.State.{TurnView}
use Rattle.rh_otp_node.specs.Live.{LiveView, with_kind}
use Rattle.rh_otp_node.specs.Turns.{controller_turn, controlled_by}
use Rattle.rh_otp_system.specs.Delivering.{controlled}
use Rattle.rh_otp_system.specs.Outputs.{all_carried_out}
use Rattle.rh_otp_system.specs.Sending.{told}
use Rattle.rh_otp_system.specs.State.{SystemView, live_at, node_at, with_node, is_alive_at}
use Rattle.rh_otp_laws.proofs.Nodes.{alive_is_there, node_written}
use Rattle.rh_otp_orders.specs.Orders.{is_call}
use Rattle.rh_otp_orders.proofs.Taking.{Taken}
use Rattle.rh_otp_crashes.proofs.Begun.{Words, silent, runs, begins, Said, AreNobodys}
use Rattle.rh_otp_crashes.proofs.Carrying.{letters}
use Rattle.rh_otp_crashes.proofs.Peace.{AtPeace, Acted, here_in}
use Rattle.rh_otp_crashes.proofs.Turning.{own_in, node_is, written_twice}
use Rattle.rh_otp_crashes.proofs.Waiting.{Behaves}

-- ---- the messages

abbrev pub it_runs : (Node → ℕ) → Node → App → Envelope
it_runs lives n a = record {
  from = process_at (here_in lives n) role.Controller;
  to = process_at (here_in lives n) role.DistAc;
  message = message.Run a None;
}

abbrev pub it_started : (Node → ℕ) → Node → App → Envelope
it_started lives n a = record {
  from = process_at (here_in lives n) (role.Starter a);
  to = process_at (here_in lives n) role.Controller;
  message = message.ApplicationStarted a None;
}

abbrev pub it_is_lost : (Node → ℕ) → Node → App → ℕ → Envelope
it_is_lost lives n a loss = record {
  from = process_at (here_in lives n) role.Timer;
  to = process_at (here_in lives n) role.DistAc;
  message = message.RestartAppl a loss;
}

abbrev pub it_fails_over : (Node → ℕ) → Node → App → Node → Envelope
it_fails_over lives n a gone = record {
  from = process_at (here_in lives n) role.DistAc;
  to = process_at (here_in lives n) role.Controller;
  message = message.Change a (change_of.Failover gone);
}

abbrev pub news : (Node → ℕ) → Node → App → Node → Envelope
news lives n a m = record {
  from = process_at (here_in lives n) role.DistAc;
  to = process_at (here_in lives m) role.DistAc;
  message = message.AppStarted n a None;
}

abbrev pub runs_there : (Node → ℕ) → Node → App → Node → Envelope
runs_there lives n a m = record {
  from = process_at (here_in lives m) role.DistAc;
  to = process_at (here_in lives m) role.Controller;
  message = message.Change a (change_of.Started n);
}

-- the timer has fired; the controller is told to start it; it has started; it runs; other nodes hear of it; and timers of theirs have fired
pub data IsNews (lives : Node → ℕ) (n : Node) (a : App) : Envelope → Type 0 where
  fires : (loss : ℕ) → IsNews lives n a (it_is_lost lives n a loss)
  starts : (gone : Node) → IsNews lives n a (it_fails_over lives n a gone)
  started : IsNews lives n a (it_started lives n a)
  running : IsNews lives n a (it_runs lives n a)
  tells : (m : Node) → m.0 ≢ n.0 → IsNews lives n a (news lives n a m)
  moves : (m : Node) → m.0 ≢ n.0 → IsNews lives n a (runs_there lives n a m)
  wakes : (m : Node) → m.0 ≢ n.0 → (loss : ℕ) → IsNews lives n a (it_is_lost lives m a loss)

-- is it for the node that starts it?
abbrev pub is_to : Node → Envelope → Bool
is_to n e = e.to.node.0 == n.0

-- it is for another one
pub data IsAbroad (lives : Node → ℕ) (n : Node) (a : App) : Envelope → Type 0 where
  hears : (m : Node) → m.0 ≢ n.0 → IsAbroad lives n a (news lives n a m)
  learns : (m : Node) → m.0 ≢ n.0 → IsAbroad lives n a (runs_there lives n a m)
  wakens : (m : Node) → m.0 ≢ n.0 → (loss : ℕ) → IsAbroad lives n a (it_is_lost lives m a loss)

to_itself : (n : Node) → (n.0 == n.0) ≡ true
to_itself n = eq-eqb n.0 n.0 refl

pub abroad : {lives : Node → ℕ} {n : Node} {a : App} (e : Envelope) → IsNews lives n a e → is_to n e ≡ false → IsAbroad lives n a e
abroad {n = n} _ (fires loss) away = absurd (false≢true (sym away ∙ to_itself n))
abroad {n = n} _ (starts gone) away = absurd (false≢true (sym away ∙ to_itself n))
abroad {n = n} _ started away = absurd (false≢true (sym away ∙ to_itself n))
abroad {n = n} _ running away = absurd (false≢true (sym away ∙ to_itself n))
abroad _ (tells m other) away = hears m other
abroad _ (moves m other) away = learns m other
abroad _ (wakes m other loss) away = wakens m other loss

pub no_call : {lives : Node → ℕ} {n : Node} {a : App} (e : Envelope) → IsNews lives n a e → is_call e.to.role ≡ false
no_call _ (fires loss) = refl
no_call _ (starts gone) = refl
no_call _ started = refl
no_call _ running = refl
no_call _ (tells m other) = refl
no_call _ (moves m other) = refl
no_call _ (wakes m other loss) = refl

-- ---- what has been said

abbrev pub is_fired : Message → Bool
is_fired (message.RestartAppl a loss) = true
is_fired m = false

abbrev pub is_asked : Message → Bool
is_asked (message.RestartAppl a loss) = true
is_asked (message.Change a (change_of.Failover gone)) = true
is_asked m = false

abbrev pub is_moved : Message → Bool
is_moved (message.Change a (change_of.Started n)) = true
is_moved m = false

-- the node's timer; and what tells its controller where the application runs
abbrev pub is_timer : Node → Envelope → Bool
is_timer m e = is_fired e.message && is_to m e

abbrev pub is_learned : Node → Envelope → Bool
is_learned m e = is_moved e.message && is_to m e

-- behind the node's timer; and behind what its controller is told
abbrev pub IsLater : Node → Envelope → Type 0
IsLater n e = is_timer n e ≡ false

abbrev pub IsLast : Node → Envelope → Type 0
IsLast n e = (is_asked e.message && is_to n e) ≡ false

-- its controller isn't told where it runs
abbrev pub IsUnmoved : Node → Envelope → Type 0
IsUnmoved m e = is_learned m e ≡ false

-- neither of these, at whichever node
pub record IsFresh (e : Envelope) : Type 0 where
  pub fired : is_fired e.message ≡ false
  pub moved : is_moved e.message ≡ false

pub fresh_later : (m : Node) (e : Envelope) → IsFresh e → IsLater m e
fresh_later m e fresh = ap (λ (b : Bool). b && is_to m e) fresh.fired

pub fresh_unmoved : (m : Node) (e : Envelope) → IsFresh e → IsUnmoved m e
fresh_unmoved m e fresh = ap (λ (b : Bool). b && is_to m e) fresh.moved

pub abroad_later : {lives : Node → ℕ} {n : Node} {a : App} (e : Envelope) → IsAbroad lives n a e
    → IsLater n e × IsLast n e × (is_to n e ≡ false)
abroad_later {n = n} _ (hears m other) = (refl, refl, ne_eqb m.0 n.0 other)
abroad_later {n = n} _ (learns m other) = (refl, refl, ne_eqb m.0 n.0 other)
abroad_later {n = n} _ (wakens m other loss) = (ne_eqb m.0 n.0 other, ne_eqb m.0 n.0 other, ne_eqb m.0 n.0 other)

-- what another node's dist_ac tells its controller
abbrev pub IsHis : (Node → ℕ) → Node → App → Node → Envelope → Type 0
IsHis lives n a m e = e ≡ runs_there lives n a m

pub his_abroad : {lives : Node → ℕ} {n : Node} {a : App} (m : Node) → m.0 ≢ n.0 → (e : Envelope) → IsHis lives n a m e → IsAbroad lives n a e
his_abroad {lives} {n} {a} m other e is = subst (IsAbroad lives n a) (sym is) (learns m other)

pub his_later : (lives : Node → ℕ) (n : Node) (a : App) (m k : Node) (e : Envelope) → IsHis lives n a m e → IsLater k e
his_later lives n a m k e is = subst (IsLater k) (sym is) refl

pub his_unmoved : (lives : Node → ℕ) (n : Node) (a : App) (m k : Node) → m.0 ≢ k.0 → (e : Envelope) → IsHis lives n a m e → IsUnmoved k e
his_unmoved lives n a m k other e is = subst (IsUnmoved k) (sym is) (ne_eqb m.0 k.0 other)

-- ---- counting

pub count_taken : (q : Envelope → Bool) (e : Envelope) (messages left : List Envelope) → Taken e messages left
    → length (filter q messages) ≡ cond (q e) 1 0 + length (filter q left)
count_taken q e [] left taken = absurd taken
count_taken q e (m ∷ messages) left (inl here) =
    by (q m) ∙ (λ i. cond (q (here.0 i)) 1 0 + length (filter q (sym here.1 i)))
  where
    by : (b : Bool) → length (cond b (m ∷ filter q messages) (filter q messages)) ≡ cond b 1 0 + length (filter q messages)
    by true = omega arith
    by false = omega arith
count_taken q e (m ∷ messages) left (inr later) =
    by (q m) (count_taken q e messages later.1 later.3)
    ∙ ap (λ (l : List Envelope). cond (q e) 1 0 + length (filter q l)) (sym later.2)
  where
    by : (b : Bool) → length (filter q messages) ≡ cond (q e) 1 0 + length (filter q later.1)
        → length (cond b (m ∷ filter q messages) (filter q messages))
        ≡ cond (q e) 1 0 + length (cond b (m ∷ filter q later.1) (filter q later.1))
    by true same = omega (arith, same)
    by false same = same

none_by : (q : Envelope → Bool) (m : Envelope) (messages : List Envelope) (b : Bool) → q m ≡ b
    → (length (filter q messages) ≡ 0 → All (λ (e : Envelope). q e ≡ false) messages)
    → length (cond b (m ∷ filter q messages) (filter q messages)) ≡ 0 → All (λ (e : Envelope). q e ≡ false) (m ∷ messages)
none_by q m messages true is rest none = absurd (omega (arith, none))
none_by q m messages false is rest none = All-cons (λ (e : Envelope). q e ≡ false) m messages is (rest none)

pub none_passes : (q : Envelope → Bool) (messages : List Envelope) → length (filter q messages) ≡ 0 → All (λ (e : Envelope). q e ≡ false) messages
none_passes q [] none = All-nil (λ (e : Envelope). q e ≡ false)
none_passes q (m ∷ messages) none = none_by q m messages (q m) refl (λ zero. none_passes q messages zero) none

pub all_pass : (q : Envelope → Bool) (messages : List Envelope) → All (λ (e : Envelope). q e ≡ false) messages → length (filter q messages) ≡ 0
all_pass q [] none = refl
all_pass q (m ∷ messages) none =
    ap (λ (b : Bool). length (cond b (m ∷ filter q messages) (filter q messages))) (All-head (λ (e : Envelope). q e ≡ false) m messages none)
    ∙ all_pass q messages (All-tail (λ (e : Envelope). q e ≡ false) m messages none)

-- ---- what a controller has said, carried out

record Carried (n : Node) (s : SystemView) (v : LiveView) (outs : List Output) : Type 0 where
  new : LiveView
  seen : List Event
  is : all_carried_out n outs (with_node n v s)
      ≡ record (with_node n new s) { messages = s.messages ++ letters outs; events = s.events ++ seen }
  life : new.life ≡ v.life
  phase : new.phase ≡ v.phase
  stopped : new.is_stopped ≡ v.is_stopped
  controller : new.controller ≡ v.controller
  dist : new.dist ≡ v.dist

carries_words : (h : Here) (a : App) (s : SystemView) (u v : LiveView) (outs : List Output) → live_at s h.node ≡ Some u → Words h a outs
    → Carried h.node s v outs
unfolding told
carries_words h a s u v _ there silent = record {
  new = v;
  seen = [];
  is = λ i. record (with_node h.node v s) { messages = sym (append-nil s.messages) i; events = sym (append-nil s.events) i };
  life = refl;
  phase = refl;
  stopped = refl;
  controller = refl;
  dist = refl;
}
carries_words h a s u v _ there runs = record {
  new = v;
  seen = [];
  is = λ i. record (with_node h.node v s) {
    messages = s.messages ++ record {
      from = process_at h role.Controller;
      to = process_at h role.DistAc;
      message = message.Run a None;
    } ∷ [];
    events = sym (append-nil s.events) i;
  };
  life = refl;
  phase = refl;
  stopped = refl;
  controller = refl;
  dist = refl;
}
carries_words h a s u v _ there (begins kind) =
    let new : LiveView = with_kind a kind v in
    let over : SystemView → SystemView =
    λ (x : SystemView). record x {
      messages = s.messages ++ record {
        from = process_at h (role.Starter a);
        to = process_at h role.Controller;
        message = message.ApplicationStarted a None;
      } ∷ [];
      events = s.events ++ event.Started a h.node kind ∷ [];
    } in
    record {
      new = new;
      seen = event.Started a h.node kind ∷ [];
      is = ap (λ (x : LiveView). over (with_node h.node (with_kind a kind x) (with_node h.node v s))) (node_written s h.node u v there)
          ∙ ap over (written_twice s h.node v new);
      life = refl;
      phase = refl;
      stopped = refl;
      controller = refl;
      dist = refl;
    }

words_kinds : (P : Envelope → Type 0) (h : Here) (a : App) (outs : List Output)
    → P (record { from = process_at h role.Controller; to = process_at h role.DistAc; message = message.Run a None })
    → P (record { from = process_at h (role.Starter a); to = process_at h role.Controller; message = message.ApplicationStarted a None })
    → Words h a outs → All P (letters outs)
words_kinds P h a _ run start silent = All-nil P
words_kinds P h a _ run start runs = All-cons P _ [] run (All-nil P)
words_kinds P h a _ run start (begins kind) = All-cons P _ [] start (All-nil P)

words_few : (h : Here) (a : App) (outs : List Output) → Words h a outs → length (letters outs) ≤ 1
words_few h a _ silent = omega arith
words_few h a _ runs = omega arith
words_few h a _ (begins kind) = omega arith

-- A controller at work on a start: its node's dist_ac is as it was, and no more than one message is on its way for it.
pub record Spoke (lives : Node → ℕ) (n : Node) (a : App) (s t : SystemView) : Type 0 where
  pub acted : Acted (Behaves n a) (IsNews lives n a) n s t
  pub last : All (IsLast n) acted.more
  pub fresh : All IsFresh acted.more
  pub few : length acted.more ≤ 1
  pub requests : AreNobodys acted.new.controller.start_req
  pub dist : acted.new.dist ≡ (node_at s n).dist

abbrev turn_at : SystemView → Node → LiveView → TurnView
turn_at s n v = controller_turn s.cluster (own_in s.files n) n v

pub speaks : {lives : Node → ℕ} {n : Node} {a : App} (m : Message) (s : SystemView) → AtPeace (Behaves n a) (IsNews lives n a) lives s
    → is_alive_at s n ≡ true → Said a (turn_at s n (node_at s n)) (received m (turn_at s n (node_at s n)))
    → Spoke lives n a s (controlled n m s)
unfolding controlled_by
speaks {lives} {n} {a} m s f alive said =
    let at : (v : LiveView) × (live_at s n ≡ Some v) = alive_is_there s n alive in
    let old : LiveView = node_at s n in
    let here : old ≡ at.0 = node_is s n at.0 at.1 in
    let there : live_at s n ≡ Some old = at.1 ∙ ap Some (sym here) in
    let u : TurnView = received m (turn_at s n old) in
    let h : Here = record { node = n; life = old.life } in
    let v : LiveView = record old { controller = u.state } in
    let done : Carried n s v u.out = carries_words h a s old v u.out there said.words in
    let kinds : (P : Envelope → Type 0) → P (it_runs lives n a) → P (it_started lives n a) → All P (letters u.out) =
    λ P run start. words_kinds P h a u.out
    (subst (λ (k : ℕ). P (record {
      from = process_at (record { node = n; life = k }) role.Controller;
      to = process_at (record { node = n; life = k }) role.DistAc;
      message = message.Run a None;
    })) (sym (f.same_lives n)) run)
    (subst (λ (k : ℕ). P (record {
      from = process_at (record { node = n; life = k }) (role.Starter a);
      to = process_at (record { node = n; life = k }) role.Controller;
      message = message.ApplicationStarted a None;
    })) (sym (f.same_lives n)) start) said.words in
    record {
      acted = record {
        old = old;
        new = done.new;
        there = there;
        more = letters u.out;
        set = [];
        seen = done.seen;
        is = done.is ∙ (λ i. record (with_node n done.new s) {
          messages = s.messages ++ letters u.out;
          timers = sym (append-nil s.timers) i;
          events = s.events ++ done.seen;
        });
        life = done.life;
        phase = done.phase;
        stopped = done.stopped;
        ending = ap (λ c. c.is_ending) done.controller ∙ said.ending;
        rest = λ d has. f.dists n d alive (sym done.dist ∙ has);
        kinds = kinds (IsNews lives n a) running started;
      };
      last = kinds (IsLast n) refl refl;
      fresh = kinds IsFresh (record { fired = refl; moved = refl }) (record { fired = refl; moved = refl });
      few = words_few h a u.out said.words;
      requests = subst (λ c. AreNobodys c.start_req) (sym done.controller) said.requests;
      dist = done.dist;
    }
