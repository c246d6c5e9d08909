-- Behind the end of an application that may end its node: the caller is answered, the node's dist_ac is told and tells the others; and
-- when all that has come the node may go on to its end.
use Rattle.std.proofs.Common.{◌≡◌, ◌≢◌, ◌⊎◌, ◌++◌, ◌&&◌, ◌||◌, ◌==◌, ℕ, Bool, true, false, not, List, [], ◌∷◌, Some, refl, sym, ap, subst, ◌∙◌, inl, inr}
use Rattle.std.specs.Prelude.{All}
use Rattle.std.proofs.lemmas.Bool.{cases_Bool, false≢true}
use Rattle.std.proofs.lemmas.List.Elements.{All-append}
use Rattle.rh_model.specs.declared.node.Node.{Node}
use Rattle.rh_otp_model.specs.declared.fault.Outcome.{Outcome}
use Rattle.rh_otp_model.specs.declared.output.Envelope.{Envelope}
use Rattle.rh_otp_dist.specs.State.{DistView, is_among}
use Rattle.rh_otp_net.specs.Links.{are_linked}
use Rattle.rh_otp_node.specs.Live.{LiveView, is_ending}
use Rattle.rh_otp_system.specs.declared.calls.Call.{Call}
use Rattle.rh_otp_system.specs.declared.calls.Stage.TheVariants as stage
use Rattle.rh_otp_system.specs.declared.moves.Move.TheVariants as move
use Rattle.rh_otp_system.specs.Delivering.{arrived}
use Rattle.rh_otp_system.specs.Moves.{Delivers, Reaches, here, behind_one, made}
use Rattle.rh_otp_system.specs.State.{SystemView, node_at, with_node, is_alive_at}
use Rattle.rh_otp_system.specs.Working.{mailed}
use Rattle.rh_otp_laws.specs.Messages.{ArrivesInOrder}
use Rattle.rh_otp_laws.proofs.Nodes.{node_written, others_same, same_of_all, as_it_was_or_written}
use Rattle.rh_otp_laws.proofs.Order.{keeps_order}
use Rattle.rh_otp_orders.specs.Confluence.{Meet, IsOrderly}
use Rattle.rh_otp_orders.specs.Orders.{Arrives, LeavesAlone}
use Rattle.rh_otp_orders.proofs.Taking.{Taken, arrives_so}
use Rattle.rh_otp_crashes.specs.Crashes.{IsUnoccupied}
use Rattle.rh_otp_crashes.proofs.Peace.{AtEase, Acted, without, alive_on, arrives_alive, arrives_dead, taken_all}
use Rattle.rh_otp_crashes.proofs.Turning.{node_is}
use Rattle.rh_otp_stops.proofs.Answering.{answered_in, answered_so}
use Rattle.rh_otp_stops.proofs.Ending.{Ended, Knows, ended, hears_of}
use Rattle.rh_otp_stops.proofs.Meeting.{OneCall, TurnsAt, meet_here, at_home, not_two_answers, any_meet}
use Rattle.rh_otp_stops.proofs.Still.{Come, acted_leaves}
use Rattle.rh_otp_stops.proofs.Stopping.{there_is, ended_acts, told_acts}
use Rattle.rh_otp_stops.proofs.Words.{IsNews, ends, answers, tells, own_news, answer_of, news}
use Rattle.rh_otp_starts.proofs.Alone.{Waits}
use Rattle.rh_otp_starts.proofs.Turns.{quiet_orderly}

-- All messages are such, and all else is at rest, but that the node may have to go on to its end. Where its dist_ac is told, nobody
-- waits at that, and the node sees all that it knows.
pub record Parting (lives : Node → ℕ) (c : Call) (told : Bool) (s : SystemView) : Type 0 where
  pub still : Waits lives c true s.messages s
  pub kinds : All (IsNews lives c told) s.messages
  pub knows : told ≡ true → (d : DistView) → (node_at s c.node).dist ≡ Some d → Knows (node_at s c.node).dist d
  pub sees : told ≡ true → (d : DistView) → (node_at s c.node).dist ≡ Some d → (m : Node) → is_among m d.known ≡ true
      → is_alive_at s m ≡ true → (c.node.0 == m.0 || are_linked c.node m s.links) ≡ true

-- where one has been taken
pub waits_left : {lives : Node → ℕ} {c : Call} {l : List Envelope} (s : SystemView) (left : List Envelope) → Waits lives c true l s
    → Waits lives c true left (without s left)
waits_left s left f = record {
  messages = refl;
  slow = f.slow;
  dists = f.dists;
  ends = f.ends;
  later = f.later;
  listed = f.listed;
  same_lives = f.same_lives;
  stage = f.stage;
  calls = f.calls;
  waits = f.waits;
  life = f.life;
  locks = f.locks;
}

parting_left : {lives : Node → ℕ} {c : Call} {told : Bool} (s : SystemView) (e : Envelope) (left : List Envelope)
    → Parting lives c told s → Taken e s.messages left → Parting lives c told (without s left)
parting_left {lives} {c} {told} s e left f taken = record {
  still = waits_left s left f.still;
  kinds = (taken_all (IsNews lives c told) e s.messages left taken f.kinds).1;
  knows = f.knows;
  sees = f.sees;
}

-- ---- a node has acted

abbrev pub ends_by : Bool → LiveView → Bool
ends_by soon v = is_ending v && (soon || not v.is_stopped)

pub waits_acted : {lives : Node → ℕ} {c : Call} {l : List Envelope} {K : Envelope → Type 0} (m : Node) (s t : SystemView)
    → Waits lives c true l s → (acted : Acted AtEase K m s t)
    → Waits lives c true (s.messages ++ acted.more)
    (record (with_node m acted.new s) {
      messages = s.messages ++ acted.more;
      timers = s.timers ++ acted.set;
      events = s.events ++
          acted.seen;
    })
waits_acted m s t f acted = record {
  messages = refl;
  slow = f.slow;
  dists = λ k d alive has. rest_at k d (sym (awake k) ∙ alive) has (as_it_was_or_written s m k acted.new);
  ends = λ k alive other.
      same_of_all (ends_by s.ends_soon) s m k acted.new
      ((λ i. acted.ending i && (s.ends_soon || not (acted.stopped i)))
      ∙ sym (ap (ends_by s.ends_soon) (node_is s m acted.old acted.there)))
      ∙ f.ends k (sym (awake k) ∙ alive) other;
  later = f.later;
  listed = λ k among. awake k ∙ f.listed k among;
  same_lives = λ k.
      same_of_all (λ (v : LiveView). v.life) s m k acted.new
      (acted.life ∙ sym (ap (λ (v : LiveView). v.life) (node_is s m acted.old acted.there)))
      ∙ f.same_lives k;
  stage = f.stage;
  calls = f.calls;
  waits = f.waits;
  life = f.life;
  locks = f.locks;
}
  where
    awake : (k : Node) → is_alive_at (with_node m acted.new s) k ≡ is_alive_at s k
    awake k = alive_on m k s t acted

    rest_at : (k : Node) (d : DistView) → is_alive_at s k ≡ true → (node_at (with_node m acted.new s) k).dist ≡ Some d
        → (node_at (with_node m acted.new s) k ≡ node_at s k) ⊎ ((k.0 ≡ m.0) × (node_at (with_node m acted.new s) k ≡ acted.new))
        → IsUnoccupied d
    rest_at k d alive has (inl same) = f.dists k d alive (sym (ap (λ (v : LiveView). v.dist) same) ∙ has)
    rest_at k d alive has (inr there) = acted.rest d (sym (ap (λ (v : LiveView). v.dist) there.1) ∙ has)

parting_on : {lives : Node → ℕ} {c : Call} {told : Bool} (m : Node) (s t : SystemView) → Parting lives c told s
    → (acted : Acted AtEase (IsNews lives c told) m s t)
    → (told ≡ true → (d : DistView) → (node_at (with_node m acted.new s) c.node).dist ≡ Some d → Knows (node_at s c.node).dist d)
    → Parting lives c told t
parting_on {lives} {c} {told} m s t f acted knows =
    subst (Parting lives c told) (sym acted.is) (record {
      still = waits_acted m s t f.still acted;
      kinds = All-append (IsNews lives c told) s.messages acted.more f.kinds acted.kinds;
      knows = λ is d has.
          let so : Knows (node_at s c.node).dist d = knows is d has in
          record { takeovers = so.takeovers; ends = so.ends; before = d; had = has; known = refl };
      sees = λ is d has k among alive.
          let so : Knows (node_at s c.node).dist d = knows is d has in
          f.sees is so.before so.had k (ap (is_among k) (sym so.known) ∙ among) (sym (alive_on m k s t acted) ∙ alive);
    })

-- another one's turn is nothing to the node
knows_still : {lives : Node → ℕ} {c : Call} {told : Bool} (m : Node) (s : SystemView) (v : LiveView) → Parting lives c told s
    → m.0 ≢ c.node.0
    → told ≡ true → (d : DistView) → (node_at (with_node m v s) c.node).dist ≡ Some d → Knows (node_at s c.node).dist d
knows_still {c = c} m s v f other is d has =
    f.knows is d (sym (ap (λ (x : LiveView). x.dist) (others_same s m c.node v (λ one. other (sym one)))) ∙ has)

-- ---- what each message comes to

-- it has come, and leaves alone what nodes share
record CameOn (lives : Node → ℕ) (c : Call) (told : Bool) (s t : SystemView) : Type 0 where
  still : Parting lives c told t
  leaves : (n : Node) → LeavesAlone n s t

is_lost : {lives : Node → ℕ} {c : Call} {told : Bool} (s t : SystemView) (left : List Envelope) → Parting lives c told (without s left)
    → t ≡ without s left → CameOn lives c told s t
is_lost {lives} {c} {told} s t left f same = record {
  still = subst (Parting lives c told) (sym same) f;
  leaves = λ n. subst (LeavesAlone n s) (sym same) (record { links = refl; locks = refl; alive = λ k. refl; answers = λ k app. inl refl });
}

has_acted : {lives : Node → ℕ} {c : Call} {told : Bool} (m : Node) (s t : SystemView) (left : List Envelope)
    → Parting lives c told (without s left) → (acted : Acted AtEase (IsNews lives c told) m (without s left) t)
    → (told ≡ true → (d : DistView) → (node_at (with_node m acted.new (without s left)) c.node).dist ≡ Some d
    → Knows (node_at s c.node).dist d)
    → CameOn lives c told s t
has_acted m s t left f acted knows = record {
  still = parting_on m (without s left) t f acted knows;
  leaves = λ n. acted_leaves n m s t left acted;
}

-- the call was answered
pub waits_answered : {lives : Node → ℕ} {c : Call} (o : Outcome) (s : SystemView) → Waits lives c true s.messages s
    → Waits lives c true s.messages (answered_in c o s)
waits_answered o s f = record {
  messages = refl;
  slow = f.slow;
  dists = f.dists;
  ends = f.ends;
  later = f.later;
  listed = f.listed;
  same_lives = f.same_lives;
  stage = stage.Done o;
  calls = refl;
  waits = λ call q. refl;
  life = f.life;
  locks = f.locks;
}

answered_on : {lives : Node → ℕ} {c : Call} {told : Bool} (o : Outcome) (s : SystemView) (left : List Envelope)
    → Parting lives c told (without s left) → CameOn lives c told s (answered_in c o (without s left))
answered_on o s left f = record {
  still = record { still = waits_answered o (without s left) f.still; kinds = f.kinds; knows = f.knows; sees = f.sees };
  leaves = λ n. record { links = refl; locks = refl; alive = λ k. refl; answers = λ k app. inl refl };
}

-- the node's own dist_ac is told
ended_at : {lives : Node → ℕ} {c : Call} {told : Bool} (s : SystemView) → Parting lives c told s → told ≡ true
    → is_alive_at s c.node ≡ true → Ended lives c told s
ended_at {c = c} s f is alive =
    ended s f.still.same_lives alive (λ d has. f.still.dists c.node d alive has) (f.knows is) (f.sees is)

came_on : {lives : Node → ℕ} {c : Call} {told : Bool} (s : SystemView) (e : Envelope) (left : List Envelope) → Parting lives c told s
    → Taken e s.messages left → IsNews lives c told e → CameOn lives c told s (arrived e.to e.message (without s left))
unfolding ended_acts
came_on {lives} {c} {told} s _ left f taken (ends is_told) = by (cases_Bool (is_alive_at s c.node))
  where
    e : Envelope
    e = own_news lives c

    g : Parting lives c told (without s left)
    g = parting_left s e left f taken

    by : (is_alive_at s c.node ≡ true) ⊎ (is_alive_at s c.node ≡ false) → CameOn lives c told s (arrived e.to e.message (without s left))
    by (inl alive) =
        let end : Ended lives c told s = ended_at s f is_told alive in
        let new : LiveView = record (node_at s c.node) { dist = end.next } in
        let is : node_at (with_node c.node new (without s left)) c.node ≡ new =
        node_written (without s left) c.node (node_at s c.node) new (there_is s c.node alive) in
        rw (arrives_alive e.to e.message (without s left) alive (g.still.same_lives c.node))
        (has_acted c.node s _ left g (ended_acts s left alive end) (λ _ d has. end.knows d (sym (ap (λ (v : LiveView). v.dist) is) ∙ has)))
    by (inr dead) = is_lost s _ left g (arrives_dead e.to e.message (without s left) dead)
came_on {lives} {c} {told} s _ left f taken (answers o known) = by (cases_Bool (is_alive_at s c.node))
  where
    e : Envelope
    e = answer_of lives c o

    g : Parting lives c told (without s left)
    g = parting_left s e left f taken

    by : (is_alive_at s c.node ≡ true) ⊎ (is_alive_at s c.node ≡ false) → CameOn lives c told s (arrived e.to e.message (without s left))
    by (inl alive) =
        rw (answered_so c g.still.stage o (without s left) g.still.calls g.still.locks known alive
        (g.still.same_lives c.node ∙ sym g.still.life))
        (answered_on o s left g)
    by (inr dead) = is_lost s _ left g (arrives_dead e.to e.message (without s left) dead)
came_on {lives} {c} {told} s _ left f taken (tells m other) = by (cases_Bool (is_alive_at s m))
  where
    e : Envelope
    e = news lives c m

    q : SystemView
    q = without s left

    g : Parting lives c told q
    g = parting_left s e left f taken

    by : (is_alive_at s m ≡ true) ⊎ (is_alive_at s m ≡ false) → CameOn lives c told s (arrived e.to e.message q)
    by (inl alive) =
        let acted : Acted AtEase (IsNews lives c told) m q (mailed m e.message q) =
        told_acts m e.message q g.still.same_lives alive
        (hears_of (IsNews lives c told) q.cluster q.files m (lives m) c.app (node_at q m).dist (λ d has. g.still.dists m d alive has)) in
        rw (arrives_alive e.to e.message q alive (g.still.same_lives m))
        (has_acted m s _ left g acted (λ so d has. knows_still m q acted.new g other so d has))
    by (inr dead) = is_lost s _ left g (arrives_dead e.to e.message q dead)

-- ---- any two meet

-- as long as a message is on its way nothing else moves
pub message_comes : (s t : SystemView) → (s.messages ≡ [] → ⊥) → Delivers s t → Come s t
message_comes s t some (move.Deliver place, possible, is) =
    let come : ArrivesInOrder place s (made (move.Deliver place) s) = keeps_order s place possible in
    let arrives : Arrives come.message s t = (place, come.is_there, is) in
    let g : Envelope = come.message in
    let so : (left : List Envelope) × Taken g s.messages left × (t ≡ arrived g.to g.message (without s left)) = arrives_so s t g arrives in
    record { message = g; left = so.0; arrives = arrives; taken = so.1; is = so.2 }
message_comes s t some (move.Slow place, possible, is) = absurd (some possible.0)
message_comes s t some (move.Lock n, possible, is) = absurd (some possible.0.0)
message_comes s t some (move.Call place, possible, is) = absurd (some possible.0.0)
message_comes s t some (move.End n, possible, is) = absurd (some possible.0.0)

goes_on : {lives : Node → ℕ} {c : Call} {told : Bool} (s t : SystemView) → Parting lives c told s → (s.messages ≡ [] → ⊥) → Delivers s t
    → Parting lives c told t
goes_on {lives} {c} {told} s t f some one =
    let come : Come s t = message_comes s t some one in
    let kind : IsNews lives c told come.message =
    (taken_all (IsNews lives c told) come.message s.messages come.left come.taken f.kinds).0 in
    subst (Parting lives c told) (sym come.is) (came_on s come.message come.left f come.taken kind).still

one_call : {lives : Node → ℕ} {c : Call} {told : Bool} (s : SystemView) → Parting lives c told s → OneCall lives c s
one_call s f = record {
  same_lives = f.still.same_lives;
  stage = f.still.stage;
  calls = f.still.calls;
  life = f.still.life;
  locks = f.still.locks;
}

turns : {lives : Node → ℕ} {c : Call} {told : Bool} (s : SystemView) → Parting lives c told s → TurnsAt c told s
turns s f is_told alive =
    let end = ended_at s f is_told alive in
    record { next = end.next; more = end.more; comes = end.comes }

meets : {lives : Node → ℕ} {c : Call} {told : Bool} (s t u : SystemView) → Parting lives c told s → (s.messages ≡ [] → ⊥) → Delivers s t
    → Delivers s u → Meet t u
meets {lives} {c} {told} s t u f some =
    any_meet s t u f.kinds (λ x one. message_comes s x some one) (λ e left n kind taken. (came_on s e left f taken kind).leaves n)
    (λ e kind. at_home s f.still.stage e f.still.calls kind) not_two_answers (meet_here s (one_call s f) (turns s f))

-- ---- every order

abbrev is_none : List Envelope → Bool
is_none [] = true
is_none (e ∷ l) = false

none_or_some : (l : List Envelope) → (l ≡ []) ⊎ (l ≡ [] → ⊥)
none_or_some [] = inl refl
none_or_some (e ∷ l) = inr (λ is. false≢true (ap is_none is))

-- what is so as long as messages come is orderly, where it is behind them, and any two of them meet
pub by_messages : (F : SystemView → Type 0) → ((s : SystemView) → F s → s.messages ≡ [] → IsOrderly s)
    → ((s t : SystemView) → F s → (s.messages ≡ [] → ⊥) → Delivers s t → F t)
    → ((s t u : SystemView) → F s → (s.messages ≡ [] → ⊥) → Delivers s t → Delivers s u → Meet t u) → (s : SystemView) → F s
    → IsOrderly s
by_messages F quiet goes_on meets s f p t u reaches to_t to_u = by s p reaches f to_t to_u
  where
    by : (s p : SystemView) → Reaches s p → F s → Delivers p t → Delivers p u → Meet t u
    by _ _ (here s) f to_t to_u =
        elim (none_or_some s.messages) [
          | inl none ↦ quiet s f none s t u (here s) to_t to_u
          | inr some ↦ meets s t u f some to_t to_u
        ]
    by _ _ (behind_one s q p one rest) f to_t to_u =
        elim (none_or_some s.messages) [
          | inl none ↦ quiet s f none p t u (behind_one s q p one rest) to_t to_u
          | inr some ↦ by q p rest (goes_on s q f some one) to_t to_u
        ]

pub orderly : {lives : Node → ℕ} {c : Call} {told : Bool} (s : SystemView) → Parting lives c told s → IsOrderly s
orderly {lives} {c} {told} s f =
    by_messages (Parting lives c told)
    (λ s f none. quiet_orderly s (subst (λ (l : List Envelope). Waits lives c true l s) none f.still)) goes_on meets s f
