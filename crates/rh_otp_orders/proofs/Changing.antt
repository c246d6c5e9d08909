-- What one change after the other makes of two systems in which a turn goes the same way.
use Rattle.std.proofs.Common.{◌≡◌, ◌≢◌, ◌⊎◌, ◌<◌, ◌≤◌, ◌+◌, ◌++◌, ℕ, zero, suc, Bool, true, false, cond, List, [], ◌∷◌, length, All, Option, Some, slice_get, slice_set, filter, refl, sym, ap, subst, ◌∙◌, inl, inr, arith}
use Rattle.std.specs.Option.{option_and_then}
use Rattle.std.proofs.lemmas.Bool.{cases_eq}
use Rattle.std.proofs.lemmas.List.{length-append}
use Rattle.std.proofs.lemmas.List.Elements.{All-nil, All-cons}
use Rattle.std.proofs.lemmas.Option.{none-some}
use Rattle.rh_model.specs.declared.node.App.{App}
use Rattle.rh_model.specs.declared.node.Node.{Node}
use Rattle.rh_otp_model.specs.declared.output.Envelope.{Envelope}
use Rattle.rh_otp_model.specs.declared.output.Event.{Event}
use Rattle.rh_otp_net.specs.declared.links.Link.{Link}
use Rattle.rh_otp_net.specs.declared.locks.Held.{Held}
use Rattle.rh_otp_net.specs.declared.timers.Timer.{Timer}
use Rattle.rh_otp_node.specs.Live.{LiveView}
use Rattle.rh_otp_system.specs.declared.calls.Call.{Call}
use Rattle.rh_otp_system.specs.declared.cell.Cell.{Cell}
use Rattle.rh_otp_system.specs.declared.cell.Cell.TheVariants as cell
use Rattle.rh_otp_system.specs.declared.slow.Answered.{Answered}
use Rattle.rh_otp_system.specs.declared.slow.Slow.{Slow}
use Rattle.rh_otp_system.specs.Sending.{with_event}
use Rattle.rh_otp_system.specs.State.{SystemView, live_in, node_at, with_node}
use Rattle.rh_otp_system.specs.Working.{pair_of, is_answer, answered}
use Rattle.rh_otp_laws.specs.Turns.{node_of_slow}
use Rattle.rh_otp_laws.proofs.Lives.{all_live_on}
use Rattle.rh_otp_laws.proofs.Nodes.{written_elsewhere, node_written, others_same, same_number}
use Rattle.rh_otp_laws.proofs.Turn.{LivesOn}
use Rattle.rh_otp_orders.specs.Orders.{node_of_timer}
use Rattle.rh_otp_orders.proofs.Same.{on_and_on, on_back, on_same, Added, adds, IsOf, Owns, IsToldBy, Grew, cell_at, IsRoom, Near, Any, all_any, AddedBy, adds_by, Same}

-- what is written where something stands stands there
pub set_there : {A : Type 0} (xs : List A) (k : ℕ) (x y : A) → slice_get xs k ≡ Some x → slice_get (slice_set xs k y) k ≡ Some y
set_there [] k x y is = absurd (none-some x is)
set_there (z ∷ xs) zero x y is = refl
set_there (z ∷ xs) (suc k) x y is = set_there xs k x y is

abbrev pub live_of : Option Cell → Option LiveView
live_of o = option_and_then live_in o

phases_written : (n m : Node) (s t : SystemView) (v w x : LiveView) → cell_at s n.0 ≡ Some (cell.Node x)
    → cell_at t n.0 ≡ Some (cell.Node x)
    → v ≡ w → (node_at s m).phase ≡ (node_at t m).phase
    → (node_at (with_node n v s) m).phase ≡ (node_at (with_node n w t) m).phase
phases_written n m s t v w x there there' is before = by (cases_eq m.0 n.0)
  where
    by : (m.0 ≡ n.0) ⊎ (m.0 ≢ n.0) → (node_at (with_node n v s) m).phase ≡ (node_at (with_node n w t) m).phase
    by (inl here) =
        ap (λ (y : LiveView). y.phase) (same_number (with_node n v s) m n here ∙ node_written s n x v (ap live_of there) ∙ is
        ∙ sym (node_written t n x w (ap live_of there')) ∙ sym (same_number (with_node n w t) m n here))
    by (inr other) =
        ap (λ (y : LiveView). y.phase) (others_same s n m v other) ∙ before ∙ sym
        (ap (λ (y : LiveView). y.phase) (others_same t n m w other))

pub wrote : {n : Node} {called strange : Bool} {room : ℕ} {a b s t : SystemView} (v w : LiveView) → v ≡ w → LivesOn (node_at s n) v
    → Same n called strange room a b s t
    → Same n called strange room a b (with_node n v s) (with_node n w t)
wrote {n} {called} {strange} {room} {a} {b} {s} {t} v w is on g =
    let on' : LivesOn (node_at t n) w =
    on_and_on (node_at t n) (node_at s n) w (on_back (node_at s n) (node_at t n) (g.alike n))
    (on_and_on (node_at s n) v w on (on_same is)) in
    record {
      files = g.files;
      clock = g.clock;
      links = g.links;
      locks = g.locks;
      counts = g.counts;
      here = (
        v,
        set_there s.nodes.cells n.0 (cell.Node g.here.0) (cell.Node v) g.here.1,
        set_there t.nodes.cells n.0 (cell.Node g.here.0) (cell.Node w) g.here.2 ∙ ap (λ (x : LiveView). Some (cell.Node x)) (sym is),
      );
      awake = g.awake;
      alike = λ m. on_and_on (node_at (with_node n v s) m) (node_at s m) (node_at (with_node n w t) m)
          (on_back (node_at s m) (node_at (with_node n v s) m) (all_live_on s n m v on))
          (on_and_on (node_at s m) (node_at t m) (node_at (with_node n w t) m) (g.alike m) (all_live_on t n m w on'));
      lives = λ m. on_and_on (node_at a m) (node_at s m) (node_at (with_node n v s) m) (g.lives m) (all_live_on s n m v on);
      phases = λ near m. phases_written n m s t v w g.here.0 g.here.1 g.here.2 is (g.phases near m);
      others = λ k other. (
        written_elsewhere s.nodes.cells n.0 k (cell.Node v) other ∙ (g.others k other).0,
        written_elsewhere t.nodes.cells n.0 k (cell.Node w) other ∙ (g.others k other).1,
      );
      kept = g.kept;
      calls = g.calls;
      grown = g.grown;
      sent = g.sent;
      timers = g.timers;
      events = g.events;
      slow = g.slow;
      answers = g.answers;
    }

puts_by : {n : Node} {called strange : Bool} {room : ℕ} {a b s t : SystemView} (ms ns : List Envelope) → Same n called strange room a b s t
    → AddedBy strange (IsOf n a) a b s a.messages b.messages ms ns
    → Same n called strange room a b (record s { messages = ms }) (record t { messages = ns })
puts_by ms ns g sent = record {
  files = g.files;
  clock = g.clock;
  links = g.links;
  locks = g.locks;
  counts = g.counts;
  here = g.here;
  awake = g.awake;
  alike = g.alike;
  lives = g.lives;
  phases = g.phases;
  others = g.others;
  kept = g.kept;
  calls = g.calls;
  grown = g.grown;
  sent = sent;
  timers = g.timers;
  events = g.events;
  slow = g.slow;
  answers = g.answers;
}

-- where nodes were connected anything may be sent
pub puts_any : {n : Node} {called strange : Bool} {room : ℕ} {a b s t : SystemView} (ms ns : List Envelope) → Grew a s
    → (Near a b → Added Any a.messages b.messages ms ns) → Same n called strange room a b s t
    → Same n called strange room a b (record s { messages = ms }) (record t { messages = ns })
puts_any ms ns grew near g = puts_by ms ns g (inl (inl grew), near)

pub puts : {n : Node} {called strange : Bool} {room : ℕ} {a b s t : SystemView} (more more' : List Envelope) → more ≡ more'
    → All (IsOf n a) more
    → Same n called strange room a b s t
    → Same n called strange room a b (record s { messages = s.messages ++ more }) (record t { messages = t.messages ++ more' })
puts {n} {called} {strange} {room} {a} {b} {s} {t} more more' is each g =
    puts_by _ _ g (adds_by strange (IsOf n a) a b s a.messages b.messages s.messages t.messages more more' is each g.sent)

-- and so it may where a process of another node is at work
pub puts_strange : {n : Node} {called strange : Bool} {room : ℕ} {a b s t : SystemView} (more : List Envelope) → strange ≡ true
    → Same n called strange room a b s t
    → Same n called strange room a b (record s { messages = s.messages ++ more }) (record t { messages = t.messages ++ more })
puts_strange {n} {called} {strange} {room} {a} {b} {s} {t} more is g =
    puts_by _ _ g (inl (inr is), λ near. adds Any a.messages b.messages s.messages t.messages more more refl (all_any more) (g.sent.1 near))

pub sets : {n : Node} {called strange : Bool} {room : ℕ} {a b s t : SystemView} (more more' : List Timer) → more ≡ more'
    → All (Owns node_of_timer n) more → Same n called strange room a b s t
    → Same n called strange room a b (record s { timers = s.timers ++ more }) (record t { timers = t.timers ++ more' })
sets {n} {called} {strange} {room} {a} {b} {s} {t} more more' is each g = record {
  files = g.files;
  clock = g.clock;
  links = g.links;
  locks = g.locks;
  counts = g.counts;
  here = g.here;
  awake = g.awake;
  alike = g.alike;
  lives = g.lives;
  phases = g.phases;
  others = g.others;
  kept = g.kept;
  calls = g.calls;
  grown = g.grown;
  sent = g.sent;
  timers = adds (Owns node_of_timer n) a.timers b.timers s.timers t.timers more more' is each g.timers;
  events = g.events;
  slow = g.slow;
  answers = g.answers;
}

pub sees : {n : Node} {called strange : Bool} {room : ℕ} {a b s t : SystemView} (e : Event) → IsToldBy called n e
    → Same n called strange room a b s t → Same n called strange room a b (with_event e s) (with_event e t)
sees {n} {called} {strange} {room} {a} {b} {s} {t} e own g = record {
  files = g.files;
  clock = g.clock;
  links = g.links;
  locks = g.locks;
  counts = g.counts;
  here = g.here;
  awake = g.awake;
  alike = g.alike;
  lives = g.lives;
  phases = g.phases;
  others = g.others;
  kept = g.kept;
  calls = g.calls;
  grown = g.grown;
  sent = g.sent;
  timers = g.timers;
  events = adds (IsToldBy called n) a.events b.events s.events t.events (e ∷ []) (e ∷ []) refl
      (All-cons (IsToldBy called n) e [] own (All-nil (IsToldBy called n))) g.events;
  slow = g.slow;
  answers = g.answers;
}

slows_by : {n : Node} {called strange : Bool} {room : ℕ} {a b s t : SystemView} (xs ys : List Slow) → Same n called strange room a b s t
    → AddedBy strange (Owns node_of_slow n) a b s a.slow b.slow xs ys
    → Same n called strange room a b (record s { slow = xs }) (record t { slow = ys })
slows_by xs ys g slow = record {
  files = g.files;
  clock = g.clock;
  links = g.links;
  locks = g.locks;
  counts = g.counts;
  here = g.here;
  awake = g.awake;
  alike = g.alike;
  lives = g.lives;
  phases = g.phases;
  others = g.others;
  kept = g.kept;
  calls = g.calls;
  grown = g.grown;
  sent = g.sent;
  timers = g.timers;
  events = g.events;
  slow = slow;
  answers = g.answers;
}

pub slows_any : {n : Node} {called strange : Bool} {room : ℕ} {a b s t : SystemView} (xs ys : List Slow) → Grew a s
    → (Near a b → Added Any a.slow b.slow xs ys) → Same n called strange room a b s t
    → Same n called strange room a b (record s { slow = xs }) (record t { slow = ys })
slows_any xs ys grew near g = slows_by xs ys g (inl (inl grew), near)

pub slows : {n : Node} {called strange : Bool} {room : ℕ} {a b s t : SystemView} (what : Slow) → Owns node_of_slow n what
    → Same n called strange room a b s t
    → Same n called strange room a b (record s { slow = s.slow ++ what ∷ [] }) (record t { slow = t.slow ++ what ∷ [] })
slows {n} {called} {strange} {room} {a} {b} {s} {t} what own g =
    slows_by _ _ g (adds_by strange (Owns node_of_slow n) a b s a.slow b.slow s.slow t.slow (what ∷ []) (what ∷ []) refl
    (All-cons (Owns node_of_slow n) what [] own (All-nil (Owns node_of_slow n))) g.slow)

-- two nodes are connected
pub linked : {n : Node} {called strange : Bool} {room : ℕ} {a b s t : SystemView} (l : Link) → Same n called strange room a b s t
    → Grew a (record s { links = s.links ++ l ∷ [] })
    × Same n called strange room a b (record s { links = s.links ++ l ∷ [] }) (record t { links = t.links ++ l ∷ [] })
linked {n} {called} {strange} {room} {a} {b} {s} {t} l g =
    let more : length (s.links ++ l ∷ []) ≡ length s.links + 1 = length-append s.links (l ∷ []) in
    let before : length a.links ≤ length s.links = g.grown in
    let grew : length a.links < length (s.links ++ l ∷ []) = omega (arith, more, before) in (
      grew,
      record {
        files = g.files;
        clock = g.clock;
        links = ap (λ (links : List Link). links ++ l ∷ []) g.links;
        locks = g.locks;
        counts = g.counts;
        here = g.here;
        awake = g.awake;
        alike = g.alike;
        lives = g.lives;
        phases = g.phases;
        others = g.others;
        kept = g.kept;
        calls = g.calls;
        grown = omega (arith, grew);
        sent = (inl (inl grew), g.sent.1);
        timers = g.timers;
        events = g.events;
        slow = (inl (inl grew), g.slow.1);
        answers = g.answers;
      },
    )

pub locked : {n : Node} {called strange : Bool} {room : ℕ} {a b s t : SystemView} (xs ys : List Held) → xs ≡ ys
    → Same n called strange room a b s t
    → Same n called strange room a b (record s { locks = xs }) (record t { locks = ys })
locked xs ys is g = record {
  files = g.files;
  clock = g.clock;
  links = g.links;
  locks = is;
  counts = g.counts;
  here = g.here;
  awake = g.awake;
  alike = g.alike;
  lives = g.lives;
  phases = g.phases;
  others = g.others;
  kept = g.kept;
  calls = g.calls;
  grown = g.grown;
  sent = g.sent;
  timers = g.timers;
  events = g.events;
  slow = g.slow;
  answers = g.answers;
}

pub has_calls : {n : Node} {strange : Bool} {room : ℕ} {a b s t : SystemView} (xs ys : List Call) → xs ≡ ys
    → Same n true strange room a b s t
    → Same n true strange room a b (record s { calls = xs }) (record t { calls = ys })
has_calls xs ys is g = record {
  files = g.files;
  clock = g.clock;
  links = g.links;
  locks = g.locks;
  counts = g.counts;
  here = g.here;
  awake = g.awake;
  alike = g.alike;
  lives = g.lives;
  phases = g.phases;
  others = g.others;
  kept = g.kept;
  calls = is;
  grown = g.grown;
  sent = g.sent;
  timers = g.timers;
  events = g.events;
  slow = g.slow;
  answers = g.answers;
}

-- fewer answers have room, too
pub with_room : {n : Node} {called strange : Bool} {room : ℕ} {a b s t : SystemView} (few : ℕ) → few ≤ room
    → Same n called strange room a b s t → Same n called strange few a b s t
with_room {n} {called} {strange} {room} few within g = record {
  files = g.files;
  clock = g.clock;
  links = g.links;
  locks = g.locks;
  counts = λ other app. fewer _ _ (g.counts other app);
  here = g.here;
  awake = g.awake;
  alike = g.alike;
  lives = g.lives;
  phases = g.phases;
  others = g.others;
  kept = g.kept;
  calls = g.calls;
  grown = g.grown;
  sent = g.sent;
  timers = g.timers;
  events = g.events;
  slow = g.slow;
  answers = g.answers;
}
  where
    fewer : (j k : ℕ) → IsRoom room j k → IsRoom few j k
    fewer j k (inl same) = inl same
    fewer j k (inr below) =
        let first : j + room ≤ 20 = below.0 in let second : k + room ≤ 20 = below.1 in
        inr (omega (arith, first, within), omega (arith, second, within))

counted : (room : ℕ) (is : Bool) (x : Answered) (xs ys : List Answered) → IsRoom (suc room) (length xs) (length ys)
    → IsRoom room (length (cond is (x ∷ xs) xs)) (length (cond is (x ∷ ys) ys))
counted room true x xs ys (inl same) = inl (ap suc same)
counted room false x xs ys (inl same) = inl same
counted room true x xs ys (inr below) =
    let first : length xs + suc room ≤ 20 = below.0 in let second : length ys + suc room ≤ 20 = below.1 in
    inr (omega (arith, first), omega (arith, second))
counted room false x xs ys (inr below) =
    let first : length xs + suc room ≤ 20 = below.0 in let second : length ys + suc room ≤ 20 = below.1 in
    inr (omega (arith, first), omega (arith, second))

-- the node answers another one
pub answers_it : {n : Node} {called strange : Bool} {room : ℕ} {a b s t : SystemView} (other : Node) (app : Option App)
    → Same n called strange (suc room) a b s t
    → Same n called strange room a b (answered (pair_of n other app) s) (answered (pair_of n other app) t)
answers_it {n} {called} {strange} {room} {a} {b} {s} {t} other app g =
    let pair : Answered = pair_of n other app in
    record {
      files = g.files;
      clock = g.clock;
      links = g.links;
      locks = g.locks;
      counts = λ o p. counted room (is_answer pair (pair_of n o p)) pair (filter (λ x. is_answer x (pair_of n o p)) s.answers)
          (filter (λ x. is_answer x (pair_of n o p)) t.answers) (g.counts o p);
      here = g.here;
      awake = g.awake;
      alike = g.alike;
      lives = g.lives;
      phases = g.phases;
      others = g.others;
      kept = g.kept;
      calls = g.calls;
      grown = g.grown;
      sent = g.sent;
      timers = g.timers;
      events = g.events;
      slow = g.slow;
      answers = (
        pair ∷ g.answers.0,
        ap (λ (l : List Answered). pair ∷ l) g.answers.1,
        ap (λ (l : List Answered). pair ∷ l) g.answers.2,
      );
    }

-- ---- tests that tell the same in both

pub either_if : {n : Node} {called strange : Bool} {room : ℕ} {a b s t x y : SystemView} (p q : Bool) → p ≡ q
    → (p ≡ true → Same n called strange room a b s t) → (p ≡ false → Same n called strange room a b x y)
    → Same n called strange room a b (cond p s x) (cond q t y)
either_if {n} {called} {strange} {room} {a} {b} {s} {t} {x} {y} p q is then_so else_so = subst
    (λ (r : Bool). Same n called strange room a b (cond p s x) (cond r t y)) is (by p refl)
  where
    by : (r : Bool) → p ≡ r → Same n called strange room a b (cond r s x) (cond r t y)
    by true so = then_so so
    by false so = else_so so

pub either : {n : Node} {called strange : Bool} {room : ℕ} {a b s t x y : SystemView} (p q : Bool) → p ≡ q
    → Same n called strange room a b s t → Same n called strange room a b x y
    → Same n called strange room a b (cond p s x) (cond q t y)
either p q is then_so else_so = either_if p q is (λ so. then_so) (λ so. else_so)
