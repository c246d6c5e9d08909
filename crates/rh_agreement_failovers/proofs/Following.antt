-- What comes of the timers of a loss, whichever message arrives first: nodes are as far as they were, the node that starts the application
-- goes on by one message at a time, and each that waits for it is told. How a message that comes to another node leaves all that so.
use Rattle.std.proofs.Common.{◌≡◌, ◌≢◌, ◌⊎◌, ◌<◌, ◌+◌, ◌++◌, ℕ, Bool, true, false, cond, List, [], ◌∷◌, length, refl, sym, ap, subst, ◌∙◌, inl, inr, arith}
use Rattle.std.specs.Prelude.{All}
use Rattle.std.proofs.lemmas.Bool.{cases_eq, false≢true, ne_eqb}
use Rattle.std.proofs.lemmas.List.{length-set}
use Rattle.std.proofs.lemmas.List.Elements.{All-nil, All-cons, All-head, All-tail, All-append, All-weaker}
use Rattle.rh_model.specs.declared.node.App.{App}
use Rattle.rh_model.specs.declared.node.Node.{Node}
use Rattle.rh_otp_controller.specs.Calls.{is_here}
use Rattle.rh_otp_model.specs.declared.output.Envelope.{Envelope}
use Rattle.rh_otp_model.specs.declared.output.Event.{Event}
use Rattle.rh_otp_model.specs.Rows.{keyfind}
use Rattle.rh_otp_dist.specs.State.{is_among}
use Rattle.rh_otp_node.specs.declared.node.Phase.{Phase}
use Rattle.rh_otp_node.specs.Live.{LiveView, is_down}
use Rattle.rh_otp_system.specs.declared.cell.Cell.TheVariants as cell
use Rattle.rh_otp_system.specs.Delivering.{arrived}
use Rattle.rh_otp_system.specs.State.{SystemView, node_at, with_node, is_alive_at}
use Rattle.rh_otp_laws.proofs.Nodes.{same_of_all}
use Rattle.rh_otp_orders.proofs.Taking.{Taken}
use Rattle.rh_otp_crashes.proofs.Coming.{came_on}
use Rattle.rh_otp_crashes.proofs.Crossing.{same_node}
use Rattle.rh_otp_crashes.proofs.News.{IsNews, IsLater, is_to, it_is_lost, it_fails_over, it_started, it_runs, count_taken, all_pass}
use Rattle.rh_otp_crashes.proofs.Peace.{without, taken_all}
use Rattle.rh_otp_crashes.proofs.Turning.{own_in}
use Rattle.rh_otp_crashes.proofs.Underway.{Underway}
use Rattle.rh_agreement_spread.proofs.Summing.{sum_of, sum_behind, sum_taken}
use Rattle.rh_agreement_failovers.proofs.Costs.{cost, count, count_more, IsOnly, is_news_for, and_false, put_back}
use Rattle.rh_agreement_failovers.proofs.Hearing.{IsSafe, safe_on}
use Rattle.rh_agreement_failovers.proofs.Starting.{CanStartIt}
use Rattle.rh_agreement_failovers.proofs.Starting as starting

-- All of this is as it was: nodes are as far, and no timer was set.
pub record Keeps (s t : SystemView) : Type 0 where
  pub cluster : t.cluster ≡ s.cluster
  pub files : t.files ≡ s.files
  pub soon : t.ends_soon ≡ s.ends_soon
  pub clock : t.clock ≡ s.clock
  pub timers : t.timers ≡ s.timers
  pub cells : length t.nodes.cells ≡ length s.nodes.cells
  pub phases : (k : Node) → (node_at t k).phase ≡ (node_at s k).phase

pub keeps_on : (s t u : SystemView) → Keeps s t → Keeps t u → Keeps s u
keeps_on s t u one other = record {
  cluster = other.cluster ∙ one.cluster;
  files = other.files ∙ one.files;
  soon = other.soon ∙ one.soon;
  clock = other.clock ∙ one.clock;
  timers = other.timers ∙ one.timers;
  cells = other.cells ∙ one.cells;
  phases = λ k. other.phases k ∙ one.phases k;
}

pub keeps_itself : (s : SystemView) → Keeps s s
keeps_itself s = record { cluster = refl; files = refl; soon = refl; clock = refl; timers = refl; cells = refl; phases = λ k. refl }

-- so it is where a node did something for itself
pub keeps_node : (m : Node) (new : LiveView) (more : List Envelope) (seen : List Event) (q : SystemView) → new.phase ≡ (node_at q m).phase
    → Keeps q (record (with_node m new q) { messages = more; events = seen })
keeps_node m new more seen q phase = record {
  cluster = refl;
  files = refl;
  soon = refl;
  clock = refl;
  timers = refl;
  cells = length-set q.nodes.cells m.0 (cell.Node new);
  phases = λ k. same_of_all (λ (v : LiveView). v.phase) q m k new phase;
}

-- messages are nothing to it
pub keeps_left : (s : SystemView) (left : List Envelope) → Keeps s (without s left)
keeps_left s left = record { cluster = refl; files = refl; soon = refl; clock = refl; timers = refl; cells = refl; phases = λ k. refl }

-- what is so of all is so of the first ones
pub first_part : (left more : List Envelope) (P : Envelope → Type 0) → All P (left ++ more) → All P left
first_part [] more P all = All-nil P
first_part (e ∷ left) more P all =
    All-cons P e left (All-head P e (left ++ more) all) (first_part left more P (All-tail P e (left ++ more) all))

-- and of the others
pub second_part : (left more : List Envelope) (P : Envelope → Type 0) → All P (left ++ more) → All P more
second_part [] more P all = all
second_part (e ∷ left) more P all = second_part left more P (All-tail P e (left ++ more) all)

pub alive_kept : (s t : SystemView) → Keeps s t → (k : Node) → is_alive_at t k ≡ is_alive_at s k
alive_kept s t keeps k = ap (λ (p : Phase). cond (is_down p) false true) (keeps.phases k)

module _ (lives : Node → ℕ) (n : Node) (a : App) (most : ℕ) (base : SystemView) (can : CanStartIt lives n a base) where
  -- ---- how far the node is that starts it

  -- the one message for it, how it is meanwhile, and what was seen so far
  pub data Stage : Envelope → LiveView → List Event → Type 0 where
    waits : (loss : ℕ) → Stage (it_is_lost lives n a loss) (starting.v lives n a base can) []
    told : Stage (it_fails_over lives n a (starting.gone lives n a base can)) (starting.told_node lives n a base can) []
    begun : Stage (it_started lives n a) (starting.seen_node lives n a base can) (starting.start_seen lives n a base can)
    runs : Stage (it_runs lives n a) (starting.kept_node lives n a base can) (starting.start_seen lives n a base can)

  -- the node's dist_ac is to tell it
  abbrev pub IsKnown : Node → Type 0
  IsKnown k = (is_among k (starting.d lives n a base can).known ≡ true) × ((own_in base.files k).has_dist ≡ true)

  -- One message is for the node, of this stage. Each other node that is alive is safe, or the node's dist_ac is to tell it.
  pub record IsPending (s : SystemView) : Type 0 where
    pub message : Envelope
    pub view : LiveView
    pub seen : List Event
    pub stage : Stage message view seen
    pub there : node_at s n ≡ view
    pub events : s.events ≡ seen
    pub one : count n s.messages ≡ 1
    pub only : All (IsOnly n message) s.messages
    pub hopes : (k : Node) → k.0 ≢ n.0 → is_alive_at s k ≡ true → IsSafe k a s ⊎ IsKnown k

  -- No message is for the node any more. Each other node that is alive is safe where no news is on its way for it.
  pub record IsToldOf (s : SystemView) : Type 0 where
    pub none : All (λ (e : Envelope). is_to n e ≡ false) s.messages
    pub events : s.events ≡ starting.start_seen lives n a base can
    pub served : (k : Node) → k.0 ≢ n.0 → is_alive_at s k ≡ true → All (λ (e : Envelope). is_news_for k e ≡ false) s.messages → IsSafe k a s

  -- the application doesn't run at the node
  abbrev pub RunsNot : SystemView → Node → Type 0
  RunsNot s k = is_here (keyfind a (node_at s k).controller.running) ≡ false

  pub record Follows (s : SystemView) : Type 0 where
    pub still : Underway lives n a s
    pub keeps : Keeps base s
    pub nowhere : (k : Node) → k.0 ≢ n.0 → is_alive_at s k ≡ true → RunsNot s k
    pub far : IsPending s ⊎ IsToldOf s

  -- it has come, and something was used up
  pub record ComesOn (s t : SystemView) : Type 0 where
    pub then : Follows t
    pub less : sum_of (cost most n) t.messages < sum_of (cost most n) s.messages

  module _ (s : SystemView) (e : Envelope) (left : List Envelope) (f : Follows s) (taken : Taken e s.messages left)
      (kind : IsNews lives n a e) where
    abbrev pub q : SystemView
    q = without s left

    abbrev pub then : SystemView
    then = arrived e.to e.message q

    pub still_then : Underway lives n a then
    still_then = (came_on s e left f.still taken kind).1

    pub costs : sum_of (cost most n) s.messages ≡ cost most n e + sum_of (cost most n) left
    costs = sum_taken (cost most n) e s.messages left taken

    pub left_all : (P : Envelope → Type 0) → All P s.messages → All P left
    left_all P all = (taken_all P e s.messages left taken all).1

    pub left_count : count n s.messages ≡ cond (is_to n e) 1 0 + count n left
    left_count = count_taken (is_to n) e s.messages left taken

    -- ---- it came to another node

    module _ (m : Node) (other : m.0 ≢ n.0) (to : e.to.node.0 ≡ m.0) where
      away_so : is_to n e ≡ false
      away_so = ne_eqb e.to.node.0 n.0 (λ is. other (sym to ∙ is))

      no_news_so : (k : Node) → k.0 ≢ m.0 → is_news_for k e ≡ false
      no_news_so k apart = and_false _ (is_to k e) (ne_eqb e.to.node.0 k.0 (λ is. apart (sym is ∙ to)))

      -- what is sent, and how the others are behind it
      module _ (t : SystemView) (more : List Envelope) (keeps : Keeps q t) (messages : t.messages ≡ left ++ more)
          (events : t.events ≡ s.events) (others : (k : Node) → k.0 ≢ m.0 → node_at t k ≡ node_at q k)
          (away : All (λ (x : Envelope). is_to n x ≡ false) more) (later : (k : Node) → All (IsLater k) more)
          (runs_not : is_alive_at s m ≡ true → RunsNot s m → RunsNot t m)
          (safe : is_alive_at s m ≡ true → IsSafe m a t ⊎ ((is_news_for m e ≡ false) × (IsSafe m a s → IsSafe m a t))) where
        here_kept : node_at t n ≡ node_at s n
        here_kept = others n (λ is. other (sym is))

        up_so : (k : Node) → is_alive_at t k ≡ true → is_alive_at s k ≡ true
        up_so k up = sym (alive_kept q t keeps k) ∙ up

        later_so : (k : Node) → All (IsLater k) s.messages → All (IsLater k) t.messages
        later_so k all =
            subst (All (IsLater k)) (sym messages) (All-append (IsLater k) left more (left_all (IsLater k) all) (later k))

        -- what is so of this node and of each other one is so of all
        by_node : (P : Node → Type 0) (k : Node) → (k.0 ≢ m.0 → P k) → P m → P k
        by_node P k apart here = elim (cases_eq k.0 m.0) [
          | inl one ↦ subst P (same_node m k (sym one)) here
          | inr is ↦ apart is
        ]

        safe_still : (k : Node) → k.0 ≢ m.0 → IsSafe k a s → IsSafe k a t
        safe_still k apart = safe_on k a s t (ap (λ (v : LiveView). v.dist) (others k apart)) (later_so k)

        pending_on : IsPending s → IsPending t
        pending_on p = record {
          message = p.message;
          view = p.view;
          seen = p.seen;
          stage = p.stage;
          there = here_kept ∙ p.there;
          events = events ∙ p.events;
          one =
              let all : count n s.messages ≡ count n left =
              left_count ∙ ap (λ (b : Bool). cond b 1 0 + count n left) away_so ∙ omega arith in
              let sum : count n t.messages ≡ count n left + count n more = ap (count n) messages ∙ count_more n left more in
              let none : count n more ≡ 0 = all_pass (is_to n) more away in
              let one : count n s.messages ≡ 1 = p.one in
              omega (arith, all, sum, none, one);
          only = subst (All (IsOnly n p.message)) (sym messages)
              (All-append (IsOnly n p.message) left more (left_all (IsOnly n p.message) p.only)
              (All-weaker (λ (x : Envelope). is_to n x ≡ false) (IsOnly n p.message) (λ x is is_too. absurd (false≢true (sym is
              ∙ is_too))) more away));
          hopes = λ k apart up. by_hope k (up_so k up) (p.hopes k apart (up_so k up));
        }
          where
            by_hope : (k : Node) → is_alive_at s k ≡ true → IsSafe k a s ⊎ IsKnown k → IsSafe k a t ⊎ IsKnown k
            by_hope k up (inr known) = inr known
            by_hope k up (inl was) =
                inl (by_node (λ (j : Node). is_alive_at s j ≡ true → IsSafe j a s → IsSafe j a t) k (λ apart up_too. safe_still k apart)
                (λ up_too. here_safe (safe up_too)) up was)
              where
                here_safe : IsSafe m a t ⊎ ((is_news_for m e ≡ false) × (IsSafe m a s → IsSafe m a t)) → IsSafe m a s → IsSafe m a t
                here_safe (inl is) before = is
                here_safe (inr on) before = on.1 before

        told_on : IsToldOf s → IsToldOf t
        told_on o = record {
          none = subst (All (λ (x : Envelope). is_to n x ≡ false)) (sym messages)
              (All-append (λ (x : Envelope). is_to n x ≡ false) left more (left_all (λ (x : Envelope). is_to n x ≡ false) o.none) away);
          events = events ∙ o.events;
          served = λ k apart up none.
              by_node (λ (j : Node). j.0 ≢ n.0 → is_alive_at s j ≡ true → All (λ (x : Envelope). is_news_for j x ≡ false) t.messages
              → IsSafe j a t) k
              (λ far_off apart_too up_too none_too. safe_still k far_off
              (o.served k apart_too up_too (back k (no_news_so k far_off) none_too)))
              (λ apart_too up_too none_too. here_safe apart_too up_too none_too (safe up_too)) apart (up_so k up) none;
        }
          where
            back : (k : Node) → is_news_for k e ≡ false → All (λ (x : Envelope). is_news_for k x ≡ false) t.messages
                → All (λ (x : Envelope). is_news_for k x ≡ false) s.messages
            back k none_it none =
                put_back (λ (x : Envelope). is_news_for k x ≡ false) e s.messages left taken none_it
                (first_part left more (λ (x : Envelope). is_news_for k x ≡ false)
                (subst (All (λ (x : Envelope). is_news_for k x ≡ false)) messages none))

            here_safe : m.0 ≢ n.0 → is_alive_at s m ≡ true → All (λ (x : Envelope). is_news_for m x ≡ false) t.messages
                → IsSafe m a t ⊎ ((is_news_for m e ≡ false) × (IsSafe m a s → IsSafe m a t)) → IsSafe m a t
            here_safe apart up none (inl is) = is
            here_safe apart up none (inr on) = on.1 (o.served m apart up (back m on.0 none))

        far_on : IsPending s ⊎ IsToldOf s → IsPending t ⊎ IsToldOf t
        far_on (inl p) = inl (pending_on p)
        far_on (inr o) = inr (told_on o)

        nowhere_on : (k : Node) → k.0 ≢ n.0 → is_alive_at t k ≡ true → RunsNot t k
        nowhere_on k apart up =
            by_node (λ (j : Node). is_alive_at s j ≡ true → RunsNot s j → RunsNot t j) k
            (λ far_off up_too was. ap (λ (v : LiveView). is_here (keyfind a v.controller.running)) (others k far_off) ∙ was) runs_not
            (up_so k up) (f.nowhere k apart (up_so k up))

        pub elsewhere : then ≡ t → sum_of (cost most n) more < cost most n e → ComesOn s then
        elsewhere same spent = record {
          then = record {
            still = still_then;
            keeps = subst (Keeps base) (sym same) (keeps_on base q t (keeps_on base s q f.keeps (keeps_left s left)) keeps);
            nowhere = subst (λ (u : SystemView). (k : Node) → k.0 ≢ n.0 → is_alive_at u k ≡ true → RunsNot u k) (sym same) nowhere_on;
            far = subst (λ (u : SystemView). IsPending u ⊎ IsToldOf u) (sym same) (far_on f.far);
          };
          less =
              let is : sum_of (cost most n) then.messages ≡ sum_of (cost most n) left + sum_of (cost most n) more =
              ap (λ (u : SystemView). sum_of (cost most n) u.messages) same ∙ ap (sum_of (cost most n)) messages
              ∙ sum_behind (cost most n) left more in
              omega (arith, is, costs, spent);
        }
