-- A start at the first node that is underway, and that it is so behind whatever a node does.
use Rattle.std.proofs.Common.{◌≡◌, ◌≢◌, ◌⊎◌, ◌≤◌, ◌+◌, ◌++◌, ◌==◌, ◌||◌, ℕ, Bool, true, false, cond, length, filter, List, [], ◌∷◌, Some, sym, ap, subst, ◌∙◌, inl, inr, arith}
use Rattle.std.specs.Prelude.{All}
use Rattle.std.proofs.lemmas.Bool.{cases_eq}
use Rattle.std.proofs.lemmas.List.{length-append}
use Rattle.std.proofs.lemmas.List.Elements.{All-nil, All-cons, All-head, All-tail, All-append, All-weaker, filter-append}
use Rattle.rh_model.specs.declared.node.App.{App}
use Rattle.rh_model.specs.declared.node.Node.{Node}
use Rattle.rh_otp_model.specs.declared.output.Envelope.{Envelope}
use Rattle.rh_otp_model.specs.declared.output.Event.{Event}
use Rattle.rh_otp_dist.specs.State.{DistView, is_among}
use Rattle.rh_otp_net.specs.declared.timers.Timer.{Timer}
use Rattle.rh_otp_net.specs.Links.{are_linked}
use Rattle.rh_otp_node.specs.Live.{LiveView}
use Rattle.rh_otp_system.specs.State.{SystemView, node_at, with_node, is_alive_at}
use Rattle.rh_otp_laws.proofs.Nodes.{node_written, others_same}
use Rattle.rh_otp_orders.proofs.Taking.{Taken}
use Rattle.rh_otp_crashes.specs.Failovers.{IsFirst, IsAble}
use Rattle.rh_otp_crashes.proofs.Begun.{AreNobodys}
use Rattle.rh_otp_crashes.proofs.Crossing.{same_node}
use Rattle.rh_otp_crashes.proofs.News.{IsNews, IsAbroad, IsHis, IsLater, IsLast, IsUnmoved, IsFresh, is_to, is_timer, abroad, abroad_later, fresh_later, fresh_unmoved, his_abroad, his_later, his_unmoved, count_taken, none_passes, all_pass}
use Rattle.rh_otp_crashes.proofs.Peace.{AtPeace, Acted, without, peace_on, peace_left, alive_on, taken_all}
use Rattle.rh_otp_crashes.proofs.Phases.{Phase, over, told, ready, phase_on}
use Rattle.rh_otp_crashes.proofs.Telling.{Knows}
use Rattle.rh_otp_crashes.proofs.Turning.{own_in}
use Rattle.rh_otp_crashes.proofs.Waiting.{Behaves}

-- The first node's messages come one by one; as long as its timer's is there its dist_ac finds it to be first, and as long as its controller
-- hasn't begun it can. Nobody waits, and it sees all that its dist_ac knows. Each other node gets a timer's message at most, and is so far.
pub record Underway (lives : Node → ℕ) (n : Node) (a : App) (s : SystemView) : Type 0 where
  pub peace : AtPeace (Behaves n a) (IsNews lives n a) lives s
  pub lone : length (filter (is_to n) s.messages) ≤ 1
  pub early : All (IsLater n) s.messages ⊎ IsFirst (own_in s.files n) n a (node_at s n)
  pub able : All (IsLast n) s.messages ⊎ IsAble s.cluster (own_in s.files n) n a (node_at s n)
  pub requests : AreNobodys (node_at s n).controller.start_req
  pub takeovers : (d : DistView) → (node_at s n).dist ≡ Some d → d.t_reqs ≡ []
  pub sees : (d : DistView) → (node_at s n).dist ≡ Some d → (m : Node) → is_among m d.known ≡ true → is_alive_at s m ≡ true
      → (n.0 == m.0 || are_linked n m s.links) ≡ true
  pub once : (m : Node) → length (filter (is_timer m) s.messages) ≤ 1
  pub phases : (m : Node) → m.0 ≢ n.0 → is_alive_at s m ≡ true → Phase n a m s

-- ---- a message is taken

fewer : (q : Envelope → Bool) (e : Envelope) (messages left : List Envelope) → Taken e messages left → length (filter q messages) ≤ 1
    → length (filter q left) ≤ 1
fewer q e messages left taken few = by (q e) (count_taken q e messages left taken)
  where
    by : (b : Bool) → length (filter q messages) ≡ cond b 1 0 + length (filter q left) → length (filter q left) ≤ 1
    by true same = omega (arith, same, few)
    by false same = omega (arith, same, few)

either_left : (P : Envelope → Type 0) {X : Type 0} (e : Envelope) (messages left : List Envelope) → Taken e messages left → All P messages ⊎ X
    → All P left ⊎ X
either_left P e messages left taken (inl all) = inl (taken_all P e messages left taken all).1
either_left P e messages left taken (inr x) = inr x

phase_left : {n : Node} {a : App} (m : Node) (s : SystemView) (e : Envelope) (left : List Envelope) → Taken e s.messages left
    → Phase n a m s → Phase n a m (without s left)
phase_left m s e left taken (over all) = over (taken_all (IsLater m) e s.messages left taken all).1
phase_left m s e left taken (told so) = told so
phase_left m s e left taken (ready standby free alive sees none) =
    ready standby free alive sees (taken_all (IsUnmoved m) e s.messages left taken none).1

pub left_underway : {lives : Node → ℕ} {n : Node} {a : App} (s : SystemView) (e : Envelope) (left : List Envelope) → Underway lives n a s
    → Taken e s.messages left → Underway lives n a (without s left)
left_underway {lives} {n} {a} s e left f taken = record {
  peace = peace_left s left f.peace (taken_all (IsNews lives n a) e s.messages left taken f.peace.messages).1;
  lone = fewer (is_to n) e s.messages left taken f.lone;
  early = either_left (IsLater n) e s.messages left taken f.early;
  able = either_left (IsLast n) e s.messages left taken f.able;
  requests = f.requests;
  takeovers = f.takeovers;
  sees = f.sees;
  once = λ m. fewer (is_timer m) e s.messages left taken (f.once m);
  phases = λ m other alive. phase_left m s e left taken (f.phases m other alive);
}

all_abroad : {lives : Node → ℕ} {n : Node} {a : App} (l : List Envelope) → All (IsNews lives n a) l
    → All (λ (e : Envelope). is_to n e ≡ false) l → All (IsAbroad lives n a) l
all_abroad {lives} {n} {a} [] kinds away = All-nil (IsAbroad lives n a)
all_abroad {lives} {n} {a} (e ∷ l) kinds away =
    All-cons (IsAbroad lives n a) e l
    (abroad e (All-head (IsNews lives n a) e l kinds) (All-head (λ (e : Envelope). is_to n e ≡ false) e l away))
    (all_abroad l (All-tail (IsNews lives n a) e l kinds) (All-tail (λ (e : Envelope). is_to n e ≡ false) e l away))

-- behind one for the node none is left for it
pub none_left : {lives : Node → ℕ} {n : Node} {a : App} (s : SystemView) (e : Envelope) (left : List Envelope) → Underway lives n a s
    → Taken e s.messages left → is_to n e ≡ true → All (IsAbroad lives n a) left
none_left {lives} {n} {a} s e left f taken is =
    let same : length (filter (is_to n) s.messages) ≡ 1 + length (filter (is_to n) left) =
    count_taken (is_to n) e s.messages left taken ∙ ap (λ (b : Bool). cond b 1 0 + length (filter (is_to n) left)) is in
    let few : length (filter (is_to n) s.messages) ≤ 1 = f.lone in
    all_abroad left (taken_all (IsNews lives n a) e s.messages left taken f.peace.messages).1
    (none_passes (is_to n) left (omega (arith, same, few)))

-- behind its timer's none is left
pub no_timer_left : {lives : Node → ℕ} {n : Node} {a : App} (m : Node) (s : SystemView) (e : Envelope) (left : List Envelope)
    → Underway lives n a s → Taken e s.messages left → is_timer m e ≡ true → All (IsLater m) left
no_timer_left m s e left f taken is =
    let same : length (filter (is_timer m) s.messages) ≡ 1 + length (filter (is_timer m) left) =
    count_taken (is_timer m) e s.messages left taken ∙ ap (λ (b : Bool). cond b 1 0 + length (filter (is_timer m) left)) is in
    let few : length (filter (is_timer m) s.messages) ≤ 1 = f.once m in
    none_passes (is_timer m) left (omega (arith, same, few))

-- ---- the node has acted, and nothing else is for it

pub later_all : {lives : Node → ℕ} {n : Node} {a : App} (l : List Envelope) → All (IsAbroad lives n a) l → All (IsLater n) l
later_all {lives} {n} {a} l away = All-weaker (IsAbroad lives n a) (IsLater n) (λ e is. (abroad_later e is).0) l away

pub last_all : {lives : Node → ℕ} {n : Node} {a : App} (l : List Envelope) → All (IsAbroad lives n a) l → All (IsLast n) l
last_all {lives} {n} {a} l away = All-weaker (IsAbroad lives n a) (IsLast n) (λ e is. (abroad_later e is).1) l away

pub away_all : {lives : Node → ℕ} {n : Node} {a : App} (l : List Envelope) → All (IsAbroad lives n a) l → All (λ (e : Envelope). is_to n e ≡ false) l
away_all {lives} {n} {a} l away =
    All-weaker (IsAbroad lives n a) (λ (e : Envelope). is_to n e ≡ false) (λ e is. (abroad_later e is).2) l away

count_more : (q : Envelope → Bool) (left more : List Envelope) → length (filter q left) ≡ 0
    → length (filter q (left ++ more)) ≡ length (filter q more)
count_more q left more none =
    ap length (filter-append q left more) ∙ length-append (filter q left) (filter q more)
    ∙ (λ i. none i + length (filter q more)) ∙ omega arith

-- where what is sent more are no timers' messages a node gets one at most still
once_more : (m : Node) (messages more : List Envelope) → All (IsLater m) more → length (filter (is_timer m) messages) ≤ 1
    → length (filter (is_timer m) (messages ++ more)) ≤ 1
once_more m messages more none few =
    let same : length (filter (is_timer m) (messages ++ more)) ≡ length (filter (is_timer m) messages) =
    ap length (filter-append (is_timer m) messages more)
    ∙ length-append (filter (is_timer m) messages) (filter (is_timer m) more)
    ∙ (λ i. length (filter (is_timer m) messages) + all_pass (is_timer m) more none i) ∙ omega arith in
    omega (arith, same, few)

-- what has become of the node
pub record Becomes (lives : Node → ℕ) (n : Node) (a : App) (s t : SystemView) : Type 0 where
  pub acted : Acted (Behaves n a) (IsNews lives n a) n s t
  pub fresh : All IsFresh acted.more
  pub few : length (filter (is_to n) acted.more) ≤ 1
  pub able : All (IsLast n) acted.more ⊎ IsAble s.cluster (own_in s.files n) n a acted.new
  pub requests : AreNobodys acted.new.controller.start_req
  pub knows : (d : DistView) → acted.new.dist ≡ Some d → Knows (node_at s n).dist d

pub here_on : {lives : Node → ℕ} {n : Node} {a : App} (s t : SystemView) → Underway lives n a s → All (IsAbroad lives n a) s.messages
    → Becomes lives n a s t → Underway lives n a t
here_on {lives} {n} {a} s t f away b =
    subst (Underway lives n a) (sym b.acted.is) (record {
      peace = subst (AtPeace (Behaves n a) (IsNews lives n a) lives) b.acted.is (peace_on n s t f.peace (inl b.acted));
      lone = subst (λ (k : ℕ). k ≤ 1)
          (sym (count_more (is_to n) s.messages b.acted.more (all_pass (is_to n) s.messages (away_all s.messages away)))) b.few;
      early = inl (All-append (IsLater n) s.messages b.acted.more (later_all s.messages away)
          (All-weaker IsFresh (IsLater n) (fresh_later n) b.acted.more b.fresh));
      able = able_by b.able;
      requests = subst (λ (v : LiveView). AreNobodys v.controller.start_req) (sym new_is) b.requests;
      takeovers = λ d has. (b.knows d (sym (ap (λ (v : LiveView). v.dist) new_is) ∙ has)).takeovers;
      sees = λ d has m among alive.
          let k : Knows (node_at s n).dist d = b.knows d (sym (ap (λ (v : LiveView). v.dist) new_is) ∙ has) in
          f.sees k.before k.had m (ap (is_among m) (sym k.known) ∙ among) (sym (alive_on n m s t b.acted) ∙ alive);
      once = λ m. once_more m s.messages b.acted.more (All-weaker IsFresh (IsLater m) (fresh_later m) b.acted.more b.fresh) (f.once m);
      phases = λ m other alive.
          phase_on m n s b.acted.new b.acted.more b.acted.set b.acted.seen
          (ap (λ (v : LiveView). v.dist) (others_same s n m b.acted.new other)) (alive_on n n s t b.acted)
          (All-weaker IsFresh (IsLater m) (fresh_later m) b.acted.more b.fresh)
          (All-weaker IsFresh (IsUnmoved m) (fresh_unmoved m) b.acted.more b.fresh)
          (f.phases m other (sym (alive_on n m s t b.acted) ∙ alive));
    })
  where
    new_is : node_at (with_node n b.acted.new s) n ≡ b.acted.new
    new_is = node_written s n b.acted.old b.acted.new b.acted.there

    able_by : All (IsLast n) b.acted.more ⊎ IsAble s.cluster (own_in s.files n) n a b.acted.new
        → All (IsLast n) (s.messages ++ b.acted.more) ⊎ IsAble s.cluster (own_in s.files n) n a (node_at (with_node n b.acted.new s) n)
    able_by (inl last) = inl (All-append (IsLast n) s.messages b.acted.more (last_all s.messages away) last)
    able_by (inr able) = inr (subst (IsAble s.cluster (own_in s.files n) n a) (sym new_is) able)

-- ---- another node has acted

-- what it has done to the system
abbrev pub acted_on : Node → LiveView → List Envelope → List Timer → List Event → SystemView → SystemView
acted_on m v more set seen s =
    record (with_node m v s) { messages = s.messages ++ more; timers = s.timers ++ set; events = s.events ++ seen }

pub abroad_on : {lives : Node → ℕ} {n : Node} {a : App} (m : Node) (s t : SystemView) → Underway lives n a s → m.0 ≢ n.0
    → (acted : Acted (Behaves n a) (IsNews lives n a) m s t) → All (IsHis lives n a m) acted.more
    → Phase n a m (acted_on m acted.new acted.more acted.set acted.seen s) → Underway lives n a t
abroad_on {lives} {n} {a} m s t f other acted his mine =
    subst (Underway lives n a) (sym acted.is) (record {
      peace = subst (AtPeace (Behaves n a) (IsNews lives n a) lives) acted.is (peace_on m s t f.peace (inl acted));
      lone = subst (λ (k : ℕ). k ≤ 1) (sym same) f.lone;
      early = early_by f.early;
      able = able_by f.able;
      requests = subst (λ (v : LiveView). AreNobodys v.controller.start_req) (sym still) f.requests;
      takeovers = λ d has. f.takeovers d (sym (ap (λ (v : LiveView). v.dist) still) ∙ has);
      sees = λ d has k among alive.
          f.sees d (sym (ap (λ (v : LiveView). v.dist) still) ∙ has) k among (sym (alive_on m k s t acted) ∙ alive);
      once = λ k. once_more k s.messages acted.more (All-weaker (IsHis lives n a m) (IsLater k) (his_later lives n a m k) acted.more his) (f.once k);
      phases = λ k apart alive. phase_at k apart (sym (alive_on m k s t acted) ∙ alive) (cases_eq k.0 m.0);
    })
  where
    away : All (IsAbroad lives n a) acted.more
    away = All-weaker (IsHis lives n a m) (IsAbroad lives n a) (his_abroad m other) acted.more his

    phase_at : (k : Node) → k.0 ≢ n.0 → is_alive_at s k ≡ true → (k.0 ≡ m.0) ⊎ (k.0 ≢ m.0)
        → Phase n a k (acted_on m acted.new acted.more acted.set acted.seen s)
    phase_at k apart alive (inl one) =
        subst (λ (j : Node). Phase n a j (acted_on m acted.new acted.more acted.set acted.seen s)) (same_node m k (sym one)) mine
    phase_at k apart alive (inr another) =
        phase_on k m s acted.new acted.more acted.set acted.seen (ap (λ (v : LiveView). v.dist) (others_same s m k acted.new another))
        (alive_on m n s t acted) (All-weaker (IsHis lives n a m) (IsLater k) (his_later lives n a m k) acted.more his)
        (All-weaker (IsHis lives n a m) (IsUnmoved k) (his_unmoved lives n a m k (λ one. another (sym one))) acted.more his) (f.phases k apart alive)

    still : node_at (with_node m acted.new s) n ≡ node_at s n
    still = others_same s m n acted.new (λ one. other (sym one))

    same : length (filter (is_to n) (s.messages ++ acted.more)) ≡ length (filter (is_to n) s.messages)
    same =
        ap length (filter-append (is_to n) s.messages acted.more)
        ∙ length-append (filter (is_to n) s.messages) (filter (is_to n) acted.more)
        ∙ (λ i. length (filter (is_to n) s.messages) + all_pass (is_to n) acted.more (away_all acted.more away) i) ∙ omega arith

    early_by : All (IsLater n) s.messages ⊎ IsFirst (own_in s.files n) n a (node_at s n)
        → All (IsLater n) (s.messages ++ acted.more) ⊎ IsFirst (own_in s.files n) n a (node_at (with_node m acted.new s) n)
    early_by (inl all) = inl (All-append (IsLater n) s.messages acted.more all (later_all acted.more away))
    early_by (inr first) = inr (subst (IsFirst (own_in s.files n) n a) (sym still) first)

    able_by : All (IsLast n) s.messages ⊎ IsAble s.cluster (own_in s.files n) n a (node_at s n)
        → All (IsLast n) (s.messages ++ acted.more) ⊎ IsAble s.cluster (own_in s.files n) n a (node_at (with_node m acted.new s) n)
    able_by (inl all) = inl (All-append (IsLast n) s.messages acted.more all (last_all acted.more away))
    able_by (inr able) = inr (subst (IsAble s.cluster (own_in s.files n) n a) (sym still) able)
