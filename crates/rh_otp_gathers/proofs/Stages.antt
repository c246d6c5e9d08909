-- How far nodes are that gather: of each, what of the others has come to it; and what is on its way.
use Rattle.std.proofs.Common.{◌≡◌, ◌≢◌, ◌≤◌, ◌⊎◌, ◌+◌, ◌++◌, ℕ, zero, suc, Bool, true, false, List, [], ◌∷◌, map, length, replicate, Option, Some, None, refl, sym, ap, subst, ◌∙◌, inl, inr, arith}
use Rattle.std.specs.Option.{option_map}
use Rattle.std.specs.Prelude.{All, if◌then◌else◌}
use Rattle.std.proofs.lemmas.Bool.{cases_eq}
use Rattle.std.proofs.lemmas.List.Elements.{All-cons, All-head, All-tail}
use Rattle.rh_model.specs.ClusterView.{is_in}
use Rattle.rh_otp_crashes.proofs.Crossing.{same_node}
use Rattle.rh_model.specs.declared.node.Node.{Node}
use Rattle.rh_otp_model.specs.declared.message.Message.{Message}
use Rattle.rh_otp_model.specs.declared.output.Envelope.{Envelope}
use Rattle.rh_otp_model.specs.declared.output.Event.TheVariants as event
use Rattle.rh_otp_model.specs.declared.output.Requester.TheVariants.{Sync}
use Rattle.rh_otp_model.specs.declared.process.Role.TheVariants as role
use Rattle.rh_otp_dist.specs.State.{DistView}
use Rattle.rh_otp_net.specs.declared.locks.Held.{Held}
use Rattle.rh_otp_node.specs.declared.node.Phase.{Phase}
use Rattle.rh_otp_node.specs.declared.node.Phase.TheVariants as phase
use Rattle.rh_otp_node.specs.Kernel as kernel
use Rattle.rh_otp_node.specs.Live.{LiveView, is_alive, is_down}
use Rattle.rh_otp_system.specs.declared.cell.Cell.{Cell}
use Rattle.rh_otp_system.specs.declared.cell.Cell.TheVariants as cell
use Rattle.rh_otp_system.specs.declared.slow.Slow.TheVariants as slow
use Rattle.rh_otp_system.specs.State.{SystemView, live_at, node_at, has_dist_at, process_in}
use Rattle.rh_otp_orders.proofs.Same.{cell_at}
use Rattle.rh_otp_joins.proofs.Going.{CanHear, greeting, known_first, the_others}
use Rattle.rh_otp_joins.proofs.Introducing.{Told, word, Learnt, learn_all, live_waiting}
use Rattle.rh_otp_joins.proofs.Lists.{more_if, count_of}
use Rattle.rh_otp_joins.proofs.Mailing.{words, Unmet}
use Rattle.rh_otp_joins.proofs.Opened.{up_letter, go_letter}
use Rattle.rh_otp_joins.proofs.Stages.{allow_in}
use Rattle.rh_otp_joins.proofs.Waiting.{waiter}
use Rattle.rh_otp_gathers.proofs.Going.{early}
use Rattle.rh_otp_gathers.proofs.Tokens.{Token, up, go, hi, up_of, go_of, hi_of, node_of, total, Drawn}

-- ---- what each node tells

abbrev pub none_in : Option DistView → List Bool
none_in None = []
none_in (Some d) = replicate (length d.appls) false

abbrev pub told_in : SystemView → Told
told_in b = record { allow = λ m. allow_in m (node_at b m).dist; flags = λ m. none_in (node_at b m).dist }

-- those to whom it introduces itself, where it has a dist_ac
abbrev pub friends : SystemView → Node → List Node
friends b m = if has_dist_at b m then the_others m b else []

abbrev pub letter : SystemView → Token → Envelope
letter b (up m x) = up_letter m b x
letter b (go m) = go_letter m b
letter b (hi k m) = greeting k (word (told_in b) k) b m

-- ---- where it begins

-- These nodes wait, and each sees all of them; the dist_acs wait for that, and nobody has a lock.
pub record Gathering (b : SystemView) : Type 0 where
  pub nodes : List Node
  pub single : (m : Node) → count_of m nodes ≤ 1
  pub there : (m : Node) → 1 ≤ count_of m nodes → live_at b m ≡ Some (node_at b m)
  pub waits : (m : Node) → 1 ≤ count_of m nodes → (node_at b m).phase ≡ phase.Waiting
  pub dist : (m : Node) → 1 ≤ count_of m nodes → has_dist_at b m ≡ true → (d : DistView) × ((node_at b m).dist ≡ Some (early d []))
  pub none : (m : Node) → 1 ≤ count_of m nodes → has_dist_at b m ≡ false → (node_at b m).dist ≡ None
  pub sees : (m x : Node) → 1 ≤ count_of m nodes → 1 ≤ count_of x (the_others m b) → CanHear m b x × (1 ≤ count_of x nodes)
  pub once : (m x : Node) → 1 ≤ count_of m nodes → count_of x (the_others m b) ≤ 1
  pub both_ways : (k m : Node) → 1 ≤ count_of k nodes → 1 ≤ count_of m nodes → has_dist_at b k ≡ true
      → count_of m (the_others k b) ≡ count_of k (friends b m)

-- ---- how far a node is

-- the node with these messages in the mailbox of its dist_ac, if it has one
abbrev pub with_early : LiveView → List Message → LiveView
with_early v mail = record v { dist = option_map (λ (d : DistView). early d mail) v.dist }

-- the node, whose wait is over
abbrev pub joined : LiveView → LiveView
joined v = record v { mandatory = []; optional = []; phase = phase.Up }

-- what stands of a node: how often it has joined, its dist_ac was told so, and it has a share of the lock; how often that is on its way;
-- and how often tellings of others and introductions of others are
pub record Marks : Type 0 where
  pub ups : ℕ
  pub gone : ℕ
  pub holds : ℕ
  pub going : ℕ
  pub hears : Node → ℕ
  pub sent : Node → ℕ

-- it waits for these still, and is told of each
pub record Waits (b : SystemView) (m : Node) (left later : List Node) (c : Option Cell) (k : Marks) : Type 0 where
  pub ms : List Node
  pub os : List Node
  pub waits : kernel.waits (waiter (node_at b m) ms os) ≡ true
  pub covers : (x : Node) → more_if (is_in x ms) 0 + more_if (is_in x os) 0 ≤ k.hears x
  pub here : c ≡ Some (cell.Node (with_early (waiter (node_at b m) ms os) (words (told_in b) left)))
  pub all : later ≡ friends b m
  pub ups : k.ups ≡ 0
  pub gone : k.gone ≡ 0
  pub holds : k.holds ≡ 0
  pub going : k.going ≡ 0

abbrev pub one_if : Bool → ℕ
one_if c = if c then 1 else 0

-- its wait is over, and its dist_ac isn't told yet
pub record Joined (b : SystemView) (m : Node) (left later : List Node) (c : Option Cell) (k : Marks) : Type 0 where
  pub here : c ≡ Some (cell.Node (with_early (joined (node_at b m)) (words (told_in b) left)))
  pub all : later ≡ friends b m
  pub ups : k.ups ≡ 1
  pub gone : k.gone ≡ 0
  pub holds : k.holds ≡ 0
  pub going : k.going ≡ one_if (has_dist_at b m)

-- its dist_ac has introduced itself, and waits for the later ones, or for nobody any more
pub record Gone (b : SystemView) (m : Node) (left later : List Node) (c : Option Cell) (k : Marks) : Type 0 where
  pub dist : DistView
  pub has_dist : has_dist_at b m ≡ true
  pub has : (node_at b m).dist ≡ Some (early dist [])
  pub learnt : Learnt
  pub leads : learn_all (told_in b) later learnt ≡ learn_all (told_in b) (the_others m b) (known_first m dist)
  pub unmet : Unmet later left
  pub here : c ≡ Some (cell.Node (live_waiting (joined (node_at b m)) dist learnt later (words (told_in b) left)))
  pub ups : k.ups ≡ 1
  pub gone : k.gone ≡ 1
  pub holds : later ≡ [] → k.holds ≡ 0
  pub going : k.going ≡ 0

-- what has come to its mailbox before its turn, and whom it waits for behind that
pub record At (b : SystemView) (m : Node) (c : Option Cell) (k : Marks) : Type 0 where
  pub left : List Node
  pub later : List Node
  pub counts : (x : Node) → k.sent x + count_of x left ≡ count_of x later
  pub within : (x : Node) → count_of x later ≤ count_of x (friends b m)
  pub how : Waits b m left later c k ⊎ (Joined b m left later c k ⊎ Gone b m left later c k)

-- ---- how far all are

-- as long as it isn't gone it is to introduce itself to each of its friends
abbrev pub unsent : ℕ → ℕ → ℕ
unsent zero c = c
unsent (suc k) c = 0

abbrev pub marks : SystemView → List Token → List Node → List Node → List Node → Node → Marks
marks b tokens ups gone holders m = record {
  ups = count_of m ups;
  gone = count_of m gone;
  holds = count_of m holders;
  going = total (go_of m) tokens;
  hears = λ x. total (up_of m x) tokens;
  sent = λ x. total (hi_of x m) tokens + unsent (count_of x gone) (count_of x (friends b m));
}

-- the lock is held by one of these
abbrev pub IsOwned : SystemView → List Node → Held → Type 0
IsOwned b holders h = (h.requester ≡ Sync) × (m : Node) × (h.owner ≡ process_in b m role.DistAc) × (1 ≤ count_of m holders)

-- with so many messages more that come of it
abbrev pub later_weight : SystemView → Node → ℕ
later_weight b m = if has_dist_at b m then suc (length (the_others m b)) else 0

abbrev pub weight_of : SystemView → Token → ℕ
weight_of b (up m x) = 1
weight_of b (go m) = suc (length (the_others m b))
weight_of b (hi k m) = 1

abbrev pub IsOf : List Node → Token → Type 0
IsOf nodes t = 1 ≤ count_of (node_of t) nodes

pub record Stage {b : SystemView} (g : Gathering b) (weight : ℕ) (u : SystemView) : Type 0 where
  pub tokens : List Token
  pub waiting : List Node
  pub ups : List Node
  pub gone : List Node
  pub holders : List Node
  pub weighs : total (weight_of b) tokens + total (later_weight b) waiting ≡ weight
  pub same : u ≡ record b {
    nodes = u.nodes;
    messages = map (letter b) tokens;
    locks = u.locks;
    slow = b.slow ++ map slow.Boot ups;
    events = b.events ++ map event.Up ups;
  }
  pub base : u.nodes.base ≡ b.nodes.base
  pub known : All (IsOf g.nodes) tokens
  pub each : (m : Node) → count_of m waiting + count_of m ups ≡ count_of m g.nodes
  pub held : (m : Node) → 1 ≤ count_of m holders → 1 ≤ count_of m g.nodes
  pub owned : All (IsOwned b holders) u.locks
  pub others : (m : Node) → count_of m g.nodes ≡ 0 → cell_at u m.0 ≡ cell_at b m.0
  pub at : (m : Node) → 1 ≤ count_of m g.nodes → At b m (cell_at u m.0) (marks b tokens ups gone holders m)

-- ---- what is seen of it

-- a node of them is there and alive, in the same life
pub record Seen (b : SystemView) (m : Node) (c : Option Cell) : Type 0 where
  pub live : LiveView
  pub here : c ≡ Some (cell.Node live)
  pub alive : is_alive live ≡ true
  pub life : live.life ≡ (node_at b m).life

pub seen_at : (b : SystemView) (m : Node) (c : Option Cell) (k : Marks) → (node_at b m).phase ≡ phase.Waiting → At b m c k → Seen b m c
seen_at b m c k waits at = by at.how
  where
    by : Waits b m at.left at.later c k ⊎ (Joined b m at.left at.later c k ⊎ Gone b m at.left at.later c k) → Seen b m c
    by (inl w) = record {
      live = with_early (waiter (node_at b m) w.ms w.os) (words (told_in b) at.left);
      here = w.here;
      alive = ap (λ (p : Phase). if is_down p then false else true) waits;
      life = refl;
    }
    by (inr (inl j)) = record {
      live = with_early (joined (node_at b m)) (words (told_in b) at.left);
      here = j.here;
      alive = refl;
      life = refl;
    }
    by (inr (inr o)) = record {
      live = live_waiting (joined (node_at b m)) o.dist o.learnt at.later (words (told_in b) at.left);
      here = o.here;
      alive = refl;
      life = refl;
    }

pub same_at : (b : SystemView) (m : Node) (c d : Option Cell) (k l : Marks) → c ≡ d → k ≡ l → At b m c k → At b m d l
same_at b m c d k l cells same at = subst (λ (x : Option Cell). At b m x l) cells (subst (λ (x : Marks). At b m c x) same at)

-- what is so of all is so of one that is drawn, and of the rest
pub drawn_all : {A : Type 0} (P : A → Type 0) (t : A) (tokens rest : List A) → All P tokens → Drawn t tokens rest → P t × All P rest
drawn_all P t [] rest all drawn = absurd drawn
drawn_all P t (x ∷ tokens) rest all (inl (is, same)) =
    (subst P is (All-head P x tokens all), subst (All P) (sym same) (All-tail P x tokens all))
drawn_all {A} P t (x ∷ tokens) rest all (inr (more, is, drawn)) =
    let on : P t × All P more = drawn_all P t tokens more (All-tail P x tokens all) drawn in
    (on.0, subst (All P) (sym is) (All-cons P x more (All-head P x tokens all) on.1))

-- ---- one step of a node

-- A message has come to this node, and all is as before elsewhere.
pub record Step {b : SystemView} {g : Gathering b} {weight : ℕ} {u : SystemView} (f : Stage g (suc weight) u) (m : Node) (v : SystemView) : Type 0 where
  pub tokens : List Token
  pub waiting : List Node
  pub ups : List Node
  pub gone : List Node
  pub holders : List Node
  pub weighs : total (weight_of b) tokens + total (later_weight b) waiting ≡ weight
  pub same : v ≡ record b {
    nodes = v.nodes;
    messages = map (letter b) tokens;
    locks = v.locks;
    slow = b.slow ++ map slow.Boot ups;
    events = b.events ++ map event.Up ups;
  }
  pub base : v.nodes.base ≡ b.nodes.base
  pub known : All (IsOf g.nodes) tokens
  pub each : (k : Node) → count_of k waiting + count_of k ups ≡ count_of k g.nodes
  pub held : (k : Node) → 1 ≤ count_of k holders → 1 ≤ count_of k g.nodes
  pub owned : All (IsOwned b holders) v.locks
  pub elsewhere : (k : Node) → k.0 ≢ m.0 → cell_at v k.0 ≡ cell_at u k.0
  pub still : (k : Node) → 1 ≤ count_of k g.nodes → k.0 ≢ m.0 → marks b f.tokens f.ups f.gone f.holders k ≡ marks b tokens ups gone holders k
  pub here : At b m (cell_at v m.0) (marks b tokens ups gone holders m)

pub stepped : {b : SystemView} {g : Gathering b} {weight : ℕ} {u : SystemView} (f : Stage g (suc weight) u) (m : Node) (v : SystemView)
    → 1 ≤ count_of m g.nodes → Step f m v → Stage g weight v
stepped {b} {g} {weight} {u} f m v among s = record {
  tokens = s.tokens;
  waiting = s.waiting;
  ups = s.ups;
  gone = s.gone;
  holders = s.holders;
  weighs = s.weighs;
  same = s.same;
  base = s.base;
  known = s.known;
  each = s.each;
  held = s.held;
  owned = s.owned;
  others = λ k none. s.elsewhere k (λ is. apart k none is) ∙ f.others k none;
  at = λ k within. by k within (cases_eq k.0 m.0);
}
  where
    apart : (k : Node) → count_of k g.nodes ≡ 0 → k.0 ≡ m.0 → ⊥
    apart k none is =
        let no : count_of m g.nodes ≡ 0 = ap (λ (x : Node). count_of x g.nodes) (sym (same_node k m is)) ∙ none in
        (let some : 1 ≤ count_of m g.nodes = among in omega (arith, no, some))

    by : (k : Node) → 1 ≤ count_of k g.nodes → (k.0 ≡ m.0) ⊎ (k.0 ≢ m.0)
        → At b k (cell_at v k.0) (marks b s.tokens s.ups s.gone s.holders k)
    by k within (inl is) =
        subst (λ (x : Node). At b x (cell_at v x.0) (marks b s.tokens s.ups s.gone s.holders x)) (sym (same_node k m is)) s.here
    by k within (inr other) =
        same_at b k (cell_at u k.0) (cell_at v k.0) (marks b f.tokens f.ups f.gone f.holders k) (marks b s.tokens s.ups s.gone s.holders k)
        (sym (s.elsewhere k other)) (s.still k within other) (f.at k within)
