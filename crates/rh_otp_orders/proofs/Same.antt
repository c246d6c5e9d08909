-- Two systems in which a turn of one node goes the same way.
use Rattle.std.proofs.Common.{◌≡◌, ◌≢◌, ◌⊎◌, ◌<◌, ◌≤◌, ◌+◌, ◌++◌, ℕ, Bool, true, false, List, [], length, All, Option, Some, None, slice_get, unwrap_or, refl, sym, ap, subst, ◌∙◌, inl, inr}
use Rattle.std.specs.Option.{option_and_then}
use Rattle.std.proofs.lemmas.Bool.{cases_eq}
use Rattle.std.proofs.lemmas.List.{append_assoc, append-nil}
use Rattle.std.proofs.lemmas.List.Elements.{All-nil, All-append}
use Rattle.rh_model.specs.declared.node.App.{App}
use Rattle.rh_model.specs.declared.node.Node.{Node}
use Rattle.rh_otp_model.specs.declared.output.Envelope.{Envelope}
use Rattle.rh_otp_model.specs.declared.output.Event.{Event}
use Rattle.rh_otp_node.specs.Live.{LiveView, never_begun, is_alive}
use Rattle.rh_otp_system.specs.declared.calls.Call.{Call}
use Rattle.rh_otp_system.specs.declared.cell.Cell.{Cell}
use Rattle.rh_otp_system.specs.declared.cell.Cell.TheVariants as cell
use Rattle.rh_otp_system.specs.declared.slow.Answered.{Answered}
use Rattle.rh_otp_system.specs.State.{SystemView, live_in, node_at, is_alive_at}
use Rattle.rh_otp_laws.specs.Turns.{node_of_slow}
use Rattle.rh_otp_laws.proofs.Turn.{LivesOn}
use Rattle.rh_otp_orders.specs.Orders.{answers_of, is_owner, node_of_timer, node_told}

-- ---- lives

pub on_itself : (v : LiveView) → LivesOn v v
on_itself v = (refl, refl)

pub on_and_on : (u v w : LiveView) → LivesOn u v → LivesOn v w → LivesOn u w
on_and_on u v w p q = (q.0 ∙ p.0, q.1 ∙ p.1)

pub on_back : (v w : LiveView) → LivesOn v w → LivesOn w v
on_back v w p = (sym p.0, sym p.1)

pub on_same : {v w : LiveView} → v ≡ w → LivesOn v w
on_same is = (ap (λ (x : LiveView). x.life) (sym is), ap is_alive (sym is))

-- ---- what a turn adds

-- the same stands behind either of two lists, and each of it is so
abbrev pub Added : {A : Type 0} → (A → Type 0) → List A → List A → List A → List A → Type 0
Added {A} P xs ys xs' ys' = (more : List A) × (xs' ≡ xs ++ more) × (ys' ≡ ys ++ more) × All P more

pub none_added : {A : Type 0} (P : A → Type 0) (xs ys : List A) → Added P xs ys xs ys
none_added P xs ys = ([], sym (append-nil xs), sym (append-nil ys), All-nil P)

pub adds : {A : Type 0} (P : A → Type 0) (xs ys xs' ys' more more' : List A) → more ≡ more' → All P more → Added P xs ys xs' ys'
    → Added P xs ys (xs' ++ more) (ys' ++ more')
adds {A} P xs ys xs' ys' more more' is each so =
    let behind : ys' ++ more ≡ ys ++ (so.0 ++ more) = ap (λ (l : List A). l ++ more) so.2 ∙ append_assoc ys so.0 more in (
      so.0 ++ more,
      ap (λ (l : List A). l ++ more) so.1 ∙ append_assoc xs so.0 more,
      ap (λ (l : List A). ys' ++ l) (sym is) ∙ behind,
      All-append P so.0 more so.3 each,
    )

-- A message of a turn of a node that is alive: it is sent from there, or tells it of the end of a node that isn't alive.
abbrev pub IsOf : Node → SystemView → Envelope → Type 0
IsOf n a e = (is_alive_at a n ≡ true) × ((e.from.node.0 ≡ n.0) ⊎ ((e.to.node.0 ≡ n.0) × (is_alive_at a e.from.node ≡ false)))

-- it is this node's
abbrev pub Owns : {A : Type 0} → (A → Option Node) → Node → A → Type 0
Owns owner n x = is_owner (Some n) (owner x) ≡ true

-- what no turn that we speak of changes
abbrev pub Kept : SystemView → SystemView → Type 0
Kept a s = (s.cluster ≡ a.cluster) × (s.files ≡ a.files) × (s.nodes.base ≡ a.nodes.base) × (s.clock ≡ a.clock) × (s.step ≡ a.step)
    × (s.last_call ≡ a.last_call) × (s.alive ≡ a.alive) × (s.asleep ≡ a.asleep) × (s.told ≡ a.told)
    × (s.is_ticking ≡ a.is_ticking) × (s.ends_soon ≡ a.ends_soon)

-- the calls are the same in both in the turn of a call, and else as they were
abbrev pub KeptCalls : Bool → List Call → List Call → List Call → List Call → Type 0
KeptCalls true a b s t = s ≡ t
KeptCalls false a b s t = (s ≡ a) × (t ≡ b)

-- it is told of this node, or in the turn of a call that one has its answer
abbrev pub IsToldBy : Bool → Node → Event → Type 0
IsToldBy called n e = Owns node_told n e ⊎ ((called ≡ true) × (node_told e ≡ None))

-- nodes were connected
abbrev pub Grew : SystemView → SystemView → Type 0
Grew a s = length a.links < length s.links

abbrev pub cell_at : SystemView → ℕ → Option Cell
cell_at s k = slice_get s.nodes.cells k

-- Two counts are the same, or have room for so many more answers below the bound of twenty.
abbrev pub IsRoom : ℕ → ℕ → ℕ → Type 0
IsRoom room j k = (j ≡ k) ⊎ ((j + room ≤ 20) × (k + room ≤ 20))

-- each node is as far in both
abbrev pub Near : SystemView → SystemView → Type 0
Near s t = (m : Node) → (node_at s m).phase ≡ (node_at t m).phase

-- it is of any kind
abbrev pub Any : {A : Type 0} → A → Type 0
Any x = Unit {0}

pub all_any : {A : Type 0} (xs : List A) → All Any xs
all_any xs = λ k d within. tt

-- The same is added, and of any kind, where each node is as far in both. Else it is where no nodes were connected, and then of this kind,
-- unless a process of another node is at work (`strange`).
abbrev pub AddedBy : Bool → {A : Type 0} → (A → Type 0) → SystemView → SystemView → SystemView → List A → List A → List A → List A → Type 0
AddedBy strange P a b s xs ys xs' ys' = ((Grew a s ⊎ (strange ≡ true)) ⊎ Added P xs ys xs' ys') × (Near a b → Added Any xs ys xs' ys')

pub none_added_by : (strange : Bool) {A : Type 0} (P : A → Type 0) (a b s : SystemView) (xs ys : List A)
    → AddedBy strange P a b s xs ys xs ys
none_added_by strange P a b s xs ys = (inr (none_added P xs ys), λ near. none_added Any xs ys)

pub adds_by : (strange : Bool) {A : Type 0} (P : A → Type 0) (a b s : SystemView) (xs ys xs' ys' more more' : List A) → more ≡ more'
    → All P more
    → AddedBy strange P a b s xs ys xs' ys' → AddedBy strange P a b s xs ys (xs' ++ more) (ys' ++ more')
adds_by strange P a b s xs ys xs' ys' more more' is each so =
    (by so.0, λ near. adds Any xs ys xs' ys' more more' is (all_any more) (so.1 near))
  where
    by : (Grew a s ⊎ (strange ≡ true)) ⊎ Added P xs ys xs' ys' → (Grew a s ⊎ (strange ≡ true)) ⊎ Added P xs ys (xs' ++ more) (ys' ++ more')
    by (inl any) = inl any
    by (inr added) = inr (adds P xs ys xs' ys' more more' is each added)

-- A turn of a node has begun in two systems, `a` and `b`, and is as far as `s` in the one and `t` in the other. All that it reads is the
-- same in both, it has added the same behind what was there, and the other nodes are as they were. (What is sent where nodes are connected
-- depends on how far they are.) It is the turn of a call, or not (`called`), and can answer so often still (`room`) without coming to the
-- bound of twenty.
pub record Same (n : Node) (called strange : Bool) (room : ℕ) (a b s t : SystemView) : Type 0 where
  pub files : (s.cluster ≡ t.cluster) × (s.files ≡ t.files)
  pub clock : (s.clock ≡ t.clock) × (s.step ≡ t.step)
  pub links : s.links ≡ t.links
  pub locks : s.locks ≡ t.locks
  pub counts : (other : Node) (app : Option App) → IsRoom room (answers_of s n other app) (answers_of t n other app)
  pub here : (v : LiveView) × (cell_at s n.0 ≡ Some (cell.Node v)) × (cell_at t n.0 ≡ Some (cell.Node v))
  pub awake : is_alive_at a n ≡ true
  pub alike : (m : Node) → LivesOn (node_at s m) (node_at t m)
  pub lives : (m : Node) → LivesOn (node_at a m) (node_at s m)
  pub phases : Near a b → Near s t
  pub others : (k : ℕ) → k ≢ n.0 → (cell_at s k ≡ cell_at a k) × (cell_at t k ≡ cell_at b k)
  pub kept : Kept a s × Kept b t
  pub calls : KeptCalls called a.calls b.calls s.calls t.calls
  pub grown : length a.links ≤ length s.links
  pub sent : AddedBy strange (IsOf n a) a b s a.messages b.messages s.messages t.messages
  pub timers : Added (Owns node_of_timer n) a.timers b.timers s.timers t.timers
  pub events : Added (IsToldBy called n) a.events b.events s.events t.events
  pub slow : AddedBy strange (Owns node_of_slow n) a b s a.slow b.slow s.slow t.slow
  pub answers : (more : List Answered) × (s.answers ≡ more ++ a.answers) × (t.answers ≡ more ++ b.answers)

-- ---- what is read

abbrev pub node_in : Option Cell → LiveView
node_in o = unwrap_or (option_and_then live_in o) never_begun

pub same_cell : {n : Node} {called strange : Bool} {room : ℕ} {a b s t : SystemView} → Same n called strange room a b s t
    → cell_at s n.0 ≡ cell_at t n.0
same_cell g = g.here.1 ∙ sym g.here.2

pub same_here : {n : Node} {called strange : Bool} {room : ℕ} {a b s t : SystemView} → Same n called strange room a b s t
    → node_at s n ≡ node_at t n
same_here g = ap node_in (same_cell g)

pub same_life : {n : Node} {called strange : Bool} {room : ℕ} {a b s t : SystemView} (m : Node) → Same n called strange room a b s t
    → (node_at s m).life ≡ (node_at t m).life
same_life m g = sym (g.alike m).0

pub same_alive : {n : Node} {called strange : Bool} {room : ℕ} {a b s t : SystemView} (m : Node) → Same n called strange room a b s t
    → is_alive_at s m ≡ is_alive_at t m
same_alive m g = sym (g.alike m).1

-- where all nodes were the same in both they are
pub same_node : {n : Node} {called strange : Bool} {room : ℕ} {a b s t : SystemView} (m : Node) → ((k : ℕ) → cell_at a k ≡ cell_at b k)
    → Same n called strange room a b s t
    → node_at s m ≡ node_at t m
same_node {n} {called} {strange} {room} {a} {b} {s} {t} m all g = ap node_in (by (cases_eq m.0 n.0))
  where
    by : (m.0 ≡ n.0) ⊎ (m.0 ≢ n.0) → cell_at s m.0 ≡ cell_at t m.0
    by (inl here) = subst (λ (k : ℕ). cell_at s k ≡ cell_at t k) (sym here) (same_cell g)
    by (inr other) = (g.others m.0 other).0 ∙ all m.0 ∙ sym (g.others m.0 other).1
