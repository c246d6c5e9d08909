-- Two systems that differ in what no node reads alone: in the cell of what is between the nodes, as it was when a command began, and in
-- what an observer was told.
use Rattle.std.proofs.Common.{◌≡◌, ◌≢◌, ◌⊎◌, ◌++◌, ℕ, zero, suc, Bool, true, false, cond, List, [], ◌∷◌, slice_get, slice_set, Option, Some, unwrap_or, refl, sym, ap, subst, ◌∙◌, inl, inr, arith}
use Rattle.std.specs.Option.{option_map}
use Rattle.std.proofs.lemmas.Bool.{cases_eq}
use Rattle.std.proofs.lemmas.Option.{same_Some}
use Rattle.rh_history.specs.Draft.{DraftView}
use Rattle.rh_model.specs.declared.node.App.{App}
use Rattle.rh_model.specs.declared.node.Node.{Node}
use Rattle.rh_otp_model.specs.declared.output.Envelope.{Envelope}
use Rattle.rh_otp_model.specs.declared.output.Event.{Event}
use Rattle.rh_otp_model.specs.declared.process.Process.{Process}
use Rattle.rh_otp_model.specs.declared.process.Role.{Role}
use Rattle.rh_otp_model.specs.Processes.{process_at}
use Rattle.rh_otp_net.specs.declared.links.Link.{Link}
use Rattle.rh_otp_net.specs.declared.locks.Held.{Held}
use Rattle.rh_otp_net.specs.declared.timers.Timer.{Timer}
use Rattle.rh_otp_node.specs.Live.{LiveView, never_begun, here_of, is_alive}
use Rattle.rh_otp_system.specs.declared.calls.Call.{Call}
use Rattle.rh_otp_system.specs.declared.cell.Cell.{Cell}
use Rattle.rh_otp_system.specs.declared.cell.Cell.TheVariants as cell
use Rattle.rh_otp_system.specs.declared.slow.Answered.{Answered}
use Rattle.rh_otp_system.specs.declared.slow.Slow.{Slow}
use Rattle.rh_otp_system.specs.State.{SystemView, live_at, node_at, with_node, is_alive_at, process_in}
use Rattle.rh_otp_system.specs.Views.{NetView}
use Rattle.rh_otp_system.specs.Working.{pair_of, answer_count}
use Rattle.rh_otp_laws.specs.Turns.{node_of_slow}
use Rattle.rh_otp_laws.proofs.Nodes.{written_elsewhere}
use Rattle.rh_otp_orders.specs.Orders.{node_of_timer}
use Rattle.rh_otp_orders.proofs.Changing.{live_of}
use Rattle.rh_otp_orders.proofs.Going.{Went, nothing_kept, there_by}
use Rattle.rh_otp_orders.proofs.Same.{Same, Added, Any, Near, IsOf, IsToldBy, KeptCalls, Owns, cell_at, node_in, none_added, none_added_by, on_itself, on_same}

-- the same cell, or in both that of what is between the nodes
abbrev pub SameCell : Option Cell → Option Cell → Type 0
SameCell c d = (c ≡ d) ⊎ ((m : NetView) × (n : NetView) × (c ≡ Some (cell.Net m)) × (d ≡ Some (cell.Net n)))

-- the system with other cells, of which an observer was told otherwise
abbrev pub dressed : DraftView Cell → List (App × Node) → SystemView → SystemView
dressed nodes told s = record s { nodes = nodes; told = told }

pub record Twins (s t : SystemView) : Type 0 where
  pub cells : (k : ℕ) → SameCell (cell_at s k) (cell_at t k)
  pub is : t ≡ dressed t.nodes t.told s

-- ---- what is read

same_live : (c d : Option Cell) → SameCell c d → live_of c ≡ live_of d
same_live c d (inl same) = ap live_of same
same_live c d (inr both) = ap live_of both.2 ∙ sym (ap live_of both.3)

pub twin_live : (s t : SystemView) (n : Node) → Twins s t → live_at s n ≡ live_at t n
twin_live s t n g = same_live (cell_at s n.0) (cell_at t n.0) (g.cells n.0)

pub twin_node : (s t : SystemView) (n : Node) → Twins s t → node_at s n ≡ node_at t n
twin_node s t n g = ap (λ (o : Option LiveView). unwrap_or o never_begun) (twin_live s t n g)

pub twin_alive : (s t : SystemView) (n : Node) → Twins s t → is_alive_at s n ≡ is_alive_at t n
twin_alive s t n g = ap is_alive (twin_node s t n g)

pub twin_process : (s t : SystemView) (n : Node) (r : Role) → Twins s t → process_in s n r ≡ process_in t n r
twin_process s t n r g = ap (λ (v : LiveView). process_at (here_of n v) r) (twin_node s t n g)

-- ---- what is neither cells nor told

pub record Between : Type 0 where
  pub clock : ℕ
  pub step : ℕ
  pub last_call : ℕ
  pub alive : List Node
  pub links : List Link
  pub locks : List Held
  pub timers : List Timer
  pub calls : List Call
  pub asleep : List Process
  pub messages : List Envelope
  pub slow : List Slow
  pub answers : List Answered
  pub events : List Event
  pub is_ticking : Bool
  pub ends_soon : Bool

abbrev pub between_of : SystemView → Between
between_of s = record {
  clock = s.clock;
  step = s.step;
  last_call = s.last_call;
  alive = s.alive;
  links = s.links;
  locks = s.locks;
  timers = s.timers;
  calls = s.calls;
  asleep = s.asleep;
  messages = s.messages;
  slow = s.slow;
  answers = s.answers;
  events = s.events;
  is_ticking = s.is_ticking;
  ends_soon = s.ends_soon;
}

abbrev pub with_between : Between → SystemView → SystemView
with_between x s = record s {
  clock = x.clock;
  step = x.step;
  last_call = x.last_call;
  alive = x.alive;
  links = x.links;
  locks = x.locks;
  timers = x.timers;
  calls = x.calls;
  asleep = x.asleep;
  messages = x.messages;
  slow = x.slow;
  answers = x.answers;
  events = x.events;
  is_ticking = x.is_ticking;
  ends_soon = x.ends_soon;
}

pub twin_between : (s t : SystemView) → Twins s t → between_of s ≡ between_of t
twin_between s t g = sym (ap between_of g.is)

-- the same is written between the nodes
pub twins_by : (x y : Between) (s t : SystemView) → x ≡ y → Twins s t → Twins (with_between x s) (with_between y t)
twins_by x y s t same g = record { cells = g.cells; is = λ i. with_between (sym same i) (g.is i) }

pub twins_if : (p q : Bool) (s t u v : SystemView) → p ≡ q → Twins s t → Twins u v → Twins (cond p s u) (cond q t v)
twins_if p q s t u v same g h = subst (λ (r : Bool). Twins (cond p s u) (cond r t v)) same (by p)
  where
    by : (r : Bool) → Twins (cond r s u) (cond r t v)
    by true = g
    by false = h

-- ---- a node is written

set_at : (cells : List Cell) (k : ℕ) (c : Cell) → slice_get (slice_set cells k c) k ≡ option_map (λ (d : Cell). c) (slice_get cells k)
set_at [] k c = refl
set_at (d ∷ cells) zero c = refl
set_at (d ∷ cells) (suc k) c = set_at cells k c

same_set : (c : Cell) (o p : Option Cell) → SameCell o p → option_map (λ (d : Cell). c) o ≡ option_map (λ (d : Cell). c) p
same_set c o p (inl same) = ap (option_map (λ (d : Cell). c)) same
same_set c o p (inr both) = ap (option_map (λ (d : Cell). c)) both.2 ∙ sym (ap (option_map (λ (d : Cell). c)) both.3)

pub twins_written : (n : Node) (v w : LiveView) (s t : SystemView) → v ≡ w → Twins s t → Twins (with_node n v s) (with_node n w t)
twins_written n v w s t same g =
    record { cells = λ k. by k (cases_eq k n.0); is = λ i. record (g.is i) { nodes = (with_node n w t).nodes } }
  where
    here : cell_at (with_node n v s) n.0 ≡ cell_at (with_node n w t) n.0
    here =
        set_at s.nodes.cells n.0 (cell.Node v) ∙ same_set (cell.Node v) (cell_at s n.0) (cell_at t n.0) (g.cells n.0)
        ∙ ap (λ (x : LiveView). option_map (λ (d : Cell). cell.Node x) (cell_at t n.0)) same ∙ sym (set_at t.nodes.cells n.0 (cell.Node w))

    by : (k : ℕ) → (k ≡ n.0) ⊎ (k ≢ n.0) → SameCell (cell_at (with_node n v s) k) (cell_at (with_node n w t) k)
    by k (inl at) = inl (subst (λ (j : ℕ). cell_at (with_node n v s) j ≡ cell_at (with_node n w t) j) (sym at) here)
    by k (inr other) =
        subst (λ (c : Option Cell). SameCell c (cell_at (with_node n w t) k)) (sym (written_elsewhere s.nodes.cells n.0 k
        (cell.Node v) other))
        (subst (SameCell (cell_at s k)) (sym (written_elsewhere t.nodes.cells n.0 k (cell.Node w) other)) (g.cells k))

-- ---- a turn of a node that is alive

same_node_cell : (c d : Option Cell) (v : LiveView) → c ≡ Some (cell.Node v) → is_alive (node_in d) ≡ true → live_of c ≡ live_of d
    → d ≡ Some (cell.Node v)
same_node_cell c d v is alive same =
    let there : (w : LiveView) × (d ≡ Some (cell.Node w)) = there_by d alive in
    let one : v ≡ there.0 = same_Some v there.0 (sym (ap live_of is) ∙ same ∙ ap live_of there.1) in
    there.1 ∙ ap (λ (w : LiveView). Some (cell.Node w)) (sym one)

pub twins_begin : (n : Node) (called : Bool) (room : ℕ) (a b : SystemView) → Twins a b → is_alive_at a n ≡ true
    → Same n called true room a b a b
twins_begin n called room a b g alive =
    let there : (v : LiveView) × (cell_at a n.0 ≡ Some (cell.Node v)) = there_by (cell_at a n.0) alive in
    let same : between_of a ≡ between_of b = twin_between a b g in
    record {
      files = (sym (ap (λ (s : SystemView). s.cluster) g.is), sym (ap (λ (s : SystemView). s.files) g.is));
      clock = (ap (λ (x : Between). x.clock) same, ap (λ (x : Between). x.step) same);
      links = ap (λ (x : Between). x.links) same;
      locks = ap (λ (x : Between). x.locks) same;
      counts = λ other app. inl (ap (λ (x : Between). answer_count x.answers (pair_of n other app)) same);
      here = (
        there.0,
        there.1,
        same_node_cell (cell_at a n.0) (cell_at b n.0) there.0 there.1 (sym (twin_alive a b n g) ∙ alive) (twin_live a b n g),
      );
      awake = alive;
      alike = λ m. on_same (twin_node a b m g);
      lives = λ m. on_itself (node_at a m);
      phases = λ near. near;
      others = λ k other. (refl, refl);
      kept = (nothing_kept a, nothing_kept b);
      calls = kept_calls called (ap (λ (x : Between). x.calls) same);
      grown = omega arith;
      sent = none_added_by true (IsOf n a) a b a a.messages b.messages;
      timers = none_added (Owns node_of_timer n) a.timers b.timers;
      events = none_added (IsToldBy called n) a.events b.events;
      slow = none_added_by true (Owns node_of_slow n) a b a a.slow b.slow;
      answers = ([], refl, refl);
    }
  where
    kept_calls : (called : Bool) → a.calls ≡ b.calls → KeptCalls called a.calls b.calls a.calls b.calls
    kept_calls true same = same
    kept_calls false same = (refl, refl)

-- over what both have begun with
over : {A : Type 0} {s a b t : A} → s ≡ a → a ≡ b → t ≡ b → s ≡ t
over to_a same to_b = to_a ∙ same ∙ sym to_b

same_calls : (called : Bool) (a b s t : List Call) → KeptCalls called a b s t → a ≡ b → s ≡ t
same_calls true a b s t kept same = kept
same_calls false a b s t kept same = over kept.0 same kept.1

behind_both : {A : Type 0} (xs ys xs' ys' : List A) → Added Any xs ys xs' ys' → xs ≡ ys → xs' ≡ ys'
behind_both {A} xs ys xs' ys' more same = over more.1 (ap (λ (l : List A). l ++ more.0) same) more.2

pub went_twins : (n : Node) (called : Bool) (a b s t : SystemView) → Twins a b → Went n called true a b s t → Twins s t
went_twins n called a b s t g went =
    let same : between_of a ≡ between_of b = twin_between a b g in
    let near : Near a b = λ m. ap (λ (v : LiveView). v.phase) (twin_node a b m g) in
    record {
      cells = λ k. by k (cases_eq k n.0);
      is = λ i. record {
        cluster = over went.kept.1.0 (ap (λ (x : SystemView). x.cluster) g.is) went.kept.0.0 i;
        files = over went.kept.1.1 (ap (λ (x : SystemView). x.files) g.is) went.kept.0.1 i;
        nodes = t.nodes;
        clock = over went.kept.1.3 (ap (λ (x : Between). x.clock) (sym same)) went.kept.0.3 i;
        step = over went.kept.1.4 (ap (λ (x : Between). x.step) (sym same)) went.kept.0.4 i;
        last_call = over went.kept.1.5 (ap (λ (x : Between). x.last_call) (sym same)) went.kept.0.5 i;
        alive = over went.kept.1.6 (ap (λ (x : Between). x.alive) (sym same)) went.kept.0.6 i;
        links = sym went.links i;
        locks = sym went.locks i;
        timers = timers_same (ap (λ (x : Between). x.timers) same) i;
        calls = sym (same_calls called a.calls b.calls s.calls t.calls went.calls (ap (λ (x : Between). x.calls) same)) i;
        asleep = over went.kept.1.7 (ap (λ (x : Between). x.asleep) (sym same)) went.kept.0.7 i;
        told = t.told;
        messages = sym (behind_both a.messages b.messages s.messages t.messages (went.sent.1 near) (ap (λ
            (x : Between). x.messages) same)) i;
        slow = sym (behind_both a.slow b.slow s.slow t.slow (went.slow.1 near) (ap (λ (x : Between). x.slow) same)) i;
        answers = over went.answers.2 (ap (λ (x : Between). went.answers.0 ++ x.answers) (sym same)) went.answers.1 i;
        events = events_same (ap (λ (x : Between). x.events) same) i;
        is_ticking = over went.kept.1.9 (ap (λ (x : Between). x.is_ticking) (sym same)) went.kept.0.9 i;
        ends_soon = over went.kept.1.10 (ap (λ (x : Between). x.ends_soon) (sym same)) went.kept.0.10 i;
      };
    }
  where
    timers_same : a.timers ≡ b.timers → t.timers ≡ s.timers
    timers_same same = over went.timers.2 (ap (λ (l : List Timer). l ++ went.timers.0) (sym same)) went.timers.1

    events_same : a.events ≡ b.events → t.events ≡ s.events
    events_same same = over went.events.2 (ap (λ (l : List Event). l ++ went.events.0) (sym same)) went.events.1

    by : (k : ℕ) → (k ≡ n.0) ⊎ (k ≢ n.0) → SameCell (cell_at s k) (cell_at t k)
    by k (inl at) = inl (subst (λ (j : ℕ). cell_at s j ≡ cell_at t j) (sym at) went.here)
    by k (inr other) =
        subst (λ (c : Option Cell). SameCell c (cell_at t k)) (sym (went.others k other).0)
        (subst (SameCell (cell_at a k)) (sym (went.others k other).1) (g.cells k))
