-- A message that arrives is handled the same way in two systems in which all is the same that its node reads.
use Rattle.std.proofs.Common.{◌≡◌, ◌≢◌, ◌⊎◌, ◌&&◌, ◌==◌, ◌++◌, ◌+◌, ℕ, Bool, true, false, cond, List, [], Option, Some, None, refl, sym, ◌∙◌, inr, arith, inl, ap}
use Rattle.std.proofs.lemmas.Bool.{false≢true, and_parts}
use Rattle.rh_model.specs.declared.node.App.{App}
use Rattle.rh_model.specs.declared.node.Node.{Node}
use Rattle.rh_otp_model.specs.declared.message.Message.{Message}
use Rattle.rh_otp_model.specs.declared.process.Process.{Process}
use Rattle.rh_otp_node.specs.Live.{LiveView, is_alive}
use Rattle.rh_otp_system.specs.declared.cell.Cell.{Cell}
use Rattle.rh_otp_system.specs.declared.cell.Cell.TheVariants as cell
use Rattle.rh_otp_system.specs.Delivering.{arrived, received}
use Rattle.rh_otp_system.specs.Ending.{ended}
use Rattle.rh_otp_system.specs.State.{SystemView, node_at, is_alive_at, lives}
use Rattle.rh_otp_system.specs.declared.slow.Answered.{Answered}
use Rattle.rh_otp_system.specs.Working.{mail_count_at}
use Rattle.rh_otp_laws.specs.Turns.{node_of_slow}
use Rattle.rh_otp_laws.proofs.Crashing.{ends_alone}
use Rattle.rh_otp_laws.proofs.Turn.{LivesOn}
use Rattle.rh_otp_orders.specs.Orders.{answers_of, is_call, node_of_timer}
use Rattle.rh_otp_orders.proofs.Receiving.{IsMadeAt, Comes, receives}
use Rattle.rh_otp_orders.proofs.Same.{Same, Added, AddedBy, none_added_by, IsOf, IsRoom, IsToldBy, Owns, Kept, KeptCalls, cell_at, none_added, same_cell, on_itself, node_in}

-- all that a turn of the node reads is the same in both
pub record Agree (n : Node) (called : Bool) (a b : SystemView) : Type 0 where
  pub files : (a.cluster ≡ b.cluster) × (a.files ≡ b.files)
  pub clock : (a.clock ≡ b.clock) × (a.step ≡ b.step)
  pub links : a.links ≡ b.links
  pub locks : a.locks ≡ b.locks
  pub counts : (other : Node) (app : Option App) → IsRoom (mail_count_at a n + 1) (answers_of a n other app) (answers_of b n other app)
  pub here : cell_at a n.0 ≡ cell_at b n.0
  pub alike : (m : Node) → LivesOn (node_at a m) (node_at b m)
  pub calls : called ≡ true → a.calls ≡ b.calls

-- what a turn has made of both
pub record Went (n : Node) (called strange : Bool) (a b s t : SystemView) : Type 0 where
  pub links : s.links ≡ t.links
  pub locks : s.locks ≡ t.locks
  pub here : cell_at s n.0 ≡ cell_at t n.0
  pub lives : (m : Node) → LivesOn (node_at a m) (node_at s m)
  pub others : (k : ℕ) → k ≢ n.0 → (cell_at s k ≡ cell_at a k) × (cell_at t k ≡ cell_at b k)
  pub kept : Kept a s × Kept b t
  pub calls : KeptCalls called a.calls b.calls s.calls t.calls
  pub sent : AddedBy strange (IsOf n a) a b s a.messages b.messages s.messages t.messages
  pub timers : Added (Owns node_of_timer n) a.timers b.timers s.timers t.timers
  pub events : Added (IsToldBy called n) a.events b.events s.events t.events
  pub slow : AddedBy strange (Owns node_of_slow n) a b s a.slow b.slow s.slow t.slow
  pub answers : (more : List Answered) × (s.answers ≡ more ++ a.answers) × (t.answers ≡ more ++ b.answers)

pub nothing_kept : (a : SystemView) → Kept a a
nothing_kept a = (refl, refl, refl, refl, refl, refl, refl, refl, refl, refl, refl)

calls_kept : (called : Bool) (a b : SystemView) → (called ≡ true → a.calls ≡ b.calls) → KeptCalls called a.calls b.calls a.calls b.calls
calls_kept true a b same = same refl
calls_kept false a b same = (refl, refl)

pub went : {n : Node} {called strange : Bool} {room : ℕ} {a b s t : SystemView} → Same n called strange room a b s t
    → Went n called strange a b s t
went g = record {
  links = g.links;
  locks = g.locks;
  here = same_cell g;
  lives = g.lives;
  others = g.others;
  kept = g.kept;
  calls = g.calls;
  sent = g.sent;
  timers = g.timers;
  events = g.events;
  slow = g.slow;
  answers = g.answers;
}

-- nothing was done
stood : (n : Node) (called strange : Bool) (a b : SystemView) → Agree n called a b → Went n called strange a b a b
stood n called strange a b g = record {
  links = g.links;
  locks = g.locks;
  here = g.here;
  lives = λ m. on_itself (node_at a m);
  others = λ k other. (refl, refl);
  kept = (nothing_kept a, nothing_kept b);
  calls = calls_kept called a b g.calls;
  sent = none_added_by strange (IsOf n a) a b a a.messages b.messages;
  timers = none_added (Owns node_of_timer n) a.timers b.timers;
  events = none_added (IsToldBy called n) a.events b.events;
  slow = none_added_by strange (Owns node_of_slow n) a b a a.slow b.slow;
  answers = ([], refl, refl);
}

pub there_by : (o : Option Cell) → is_alive (node_in o) ≡ true → (v : LiveView) × (o ≡ Some (cell.Node v))
there_by None alive = absurd (false≢true alive)
there_by (Some (cell.Net net)) alive = absurd (false≢true alive)
there_by (Some (cell.Node v)) alive = (v, refl)

begins : (n : Node) (called strange : Bool) (a b : SystemView) → Agree n called a b → is_alive_at a n ≡ true
    → Same n called strange (mail_count_at a n + 1) a b a b
begins n called strange a b g alive =
    let there : (v : LiveView) × (cell_at a n.0 ≡ Some (cell.Node v)) = there_by (cell_at a n.0) alive in
    record {
      files = g.files;
      clock = g.clock;
      links = g.links;
      locks = g.locks;
      counts = g.counts;
      here = (there.0, there.1, sym g.here ∙ there.1);
      awake = alive;
      alike = g.alike;
      lives = λ m. on_itself (node_at a m);
      phases = λ near. near;
      others = λ k other. (refl, refl);
      kept = (nothing_kept a, nothing_kept b);
      calls = calls_kept called a b g.calls;
      grown = omega arith;
      sent = none_added_by strange (IsOf n a) a b a a.messages b.messages;
      timers = none_added (Owns node_of_timer n) a.timers b.timers;
      events = none_added (IsToldBy called n) a.events b.events;
      slow = none_added_by strange (Owns node_of_slow n) a b a a.slow b.slow;
      answers = ([], refl, refl);
    }

-- the node, which is alive, ends in both
abbrev pub EndBoth : Node → SystemView → SystemView → SystemView → SystemView → Type 0
EndBoth n a b s t = (is_alive_at a n ≡ true) × (s ≡ ended n a) × (t ≡ ended n b)

-- a message arrives in both, and a turn goes the same way, or the node ends
pub comes : (strange : Bool) (to : Process) (m : Message) (a b : SystemView) → IsMadeAt to.node strange a b to.role a
    → Agree to.node (is_call to.role) a b
    → Went to.node (is_call to.role) strange a b (arrived to m a) (arrived to m b) ⊎ EndBoth to.node a b (arrived to m a) (arrived to m b)
comes strange to m a b home g = by (lives a to) (lives b to) refl there
  where
    there : lives a to ≡ lives b to
    there = λ i. sym (g.alike to.node).1 i && sym (g.alike to.node).0 i == to.life

    taken : is_alive_at a to.node ≡ true → Comes to.node (is_call to.role) strange 0 a b a b (received to m a) (received to m b)
        → Went to.node (is_call to.role) strange a b (received to m a) (received to m b) ⊎ EndBoth to.node a b (received to m a)
        (received to m b)
    taken alive (inl same) = inl (went same)
    taken alive (inr ends) = inr (alive, ends.0, ends.1)

    by : (p q : Bool) → lives a to ≡ p → p ≡ q
        → Went to.node (is_call to.role) strange a b (cond p (received to m a) a) (cond q (received to m b) b)
        ⊎ EndBoth to.node a b (cond p (received to m a) a) (cond q (received to m b) b)
    by true true is same =
        let alive : is_alive_at a to.node ≡ true = (and_parts _ _ is).0 in
        taken alive (receives to.role m home (omega arith) (begins to.node (is_call to.role) strange a b g alive))
    by false false is same = inl (stood to.node (is_call to.role) strange a b g)
    by true false is same = absurd (false≢true (sym same))
    by false true is same = absurd (false≢true same)

-- the same, where the node is alive still if it was
pub arrives : (to : Process) (m : Message) (a b : SystemView) → IsMadeAt to.node false a b to.role a → Agree to.node (is_call to.role) a b
    → is_alive_at (arrived to m a) to.node ≡ is_alive_at a to.node
    → Went to.node (is_call to.role) false a b (arrived to m a) (arrived to m b)
arrives to m a b home g stays = by (comes false to m a b home g)
  where
    by : Went to.node (is_call to.role) false a b (arrived to m a) (arrived to m b) ⊎ EndBoth to.node a b (arrived to m a) (arrived to m b)
        → Went to.node (is_call to.role) false a b (arrived to m a) (arrived to m b)
    by (inl so) = so
    by (inr ends) =
        absurd (false≢true (sym (ends_alone a to.node).itself ∙ sym (ap (λ (s : SystemView). is_alive_at s to.node) ends.1) ∙ stays
        ∙ ends.0))
