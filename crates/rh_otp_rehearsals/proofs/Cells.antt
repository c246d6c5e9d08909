-- Cells of two simulations that are alike, and the systems in which a command begins with them.
use Rattle.std.proofs.Common.{◌≡◌, ◌≢◌, ◌⊎◌, ◌<◌, ◌≤◌, ◌+◌, ◌++◌, nat_lt, ℕ, zero, suc, Bool, true, false, List, [], ◌∷◌, length, take, slice_get, slice_set, Option, Some, None, refl, sym, ap, subst, ◌∙◌, inl, inr, arith}
use Rattle.std.specs.Prelude.{slice_index_or}
use Rattle.std.proofs.lemmas.Bool.{cases_eq, ltb-true, ltb-false}
use Rattle.std.proofs.lemmas.Option.{none-some, same_Some, slice_get_past}
use Rattle.rh_history.specs.Draft.{draft_of}
use Rattle.rh_model.specs.ClusterView.{ClusterView, node_count, numbered}
use Rattle.rh_model.specs.declared.node.Node.{Node}
use Rattle.rh_otp_model.specs.declared.wait.OwnFile.{OwnFile}
use Rattle.rh_otp_node.specs.Live.{LiveView}
use Rattle.rh_otp_system.specs.declared.cell.Cell.{Cell}
use Rattle.rh_otp_system.specs.declared.cell.Cell.TheVariants as cell
use Rattle.rh_otp_system.specs.State.{SystemView, system_of, live_at}
use Rattle.rh_otp_system.specs.Views.{NetView}
use Rattle.rh_otp_laws.proofs.Nodes.{written_elsewhere}
use Rattle.rh_otp_orders.proofs.Changing.{live_of}
use Rattle.rh_otp_sim.specs.Sim.{net_of_cell}
use Rattle.rh_otp_reached.proofs.Held.{AreHeld, written_net}
use Rattle.rh_otp_rehearsals.specs.Alike.{NetsAlike}
use Rattle.rh_otp_rehearsals.proofs.Resembling.{Resembles}
use Rattle.rh_otp_rehearsals.proofs.Twins.{SameCell, dressed}

-- what is between the nodes, of these cells
abbrev pub net_in : ClusterView → List Cell → NetView
net_in c cells = net_of_cell (slice_get cells (node_count c))

-- each node is the same in both, and what is between them is alike
pub record CellsAlike (c : ClusterView) (xs ys : List Cell) : Type 0 where
  pub nodes : (n : Node) → live_of (slice_get xs n.0) ≡ live_of (slice_get ys n.0)
  pub net : NetsAlike (net_in c xs) (net_in c ys)

pub alike_with_itself : (c : ClusterView) (xs : List Cell) → CellsAlike c xs xs
alike_with_itself c xs = record {
  nodes = λ n. refl;
  net = record {
    clock = refl;
    step = refl;
    last_call = refl;
    alive = refl;
    links = refl;
    locks = refl;
    calls = refl;
    asleep = refl;
    timers = λ o. refl;
    told = λ o. refl;
  };
}

-- ---- the cells behind each number of steps

abbrev pub AllAlike : ClusterView → List (List Cell) → List (List Cell) → Type 0
AllAlike c [] [] = Unit {0}
AllAlike c [] (y ∷ ys) = ⊥
AllAlike c (x ∷ xs) [] = ⊥
AllAlike c (x ∷ xs) (y ∷ ys) = CellsAlike c x y × AllAlike c xs ys

pub as_many : (c : ClusterView) (xs ys : List (List Cell)) → AllAlike c xs ys → length xs ≡ length ys
as_many c [] [] all = refl
as_many c [] (y ∷ ys) all = absurd all
as_many c (x ∷ xs) [] all = absurd all
as_many c (x ∷ xs) (y ∷ ys) all = ap suc (as_many c xs ys all.1)

pub each_of : (c : ClusterView) (xs ys : List (List Cell)) (k : ℕ) → AllAlike c xs ys → k < length xs
    → CellsAlike c (slice_index_or xs k []) (slice_index_or ys k [])
each_of c [] ys k all within = absurd (omega (arith, within))
each_of c (x ∷ xs) [] k all within = absurd all
each_of c (x ∷ xs) (y ∷ ys) zero all within = all.0
each_of c (x ∷ xs) (y ∷ ys) (suc k) all within = each_of c xs ys k all.1 (omega (arith, within))

pub one_more : (c : ClusterView) (k : ℕ) (xs ys : List (List Cell)) (x y : List Cell) → AllAlike c xs ys → CellsAlike c x y
    → AllAlike c (take k xs ++ x ∷ []) (take k ys ++ y ∷ [])
one_more c zero xs ys x y all more = (more, tt)
one_more c (suc k) [] [] x y all more = (more, tt)
one_more c (suc k) [] (z ∷ ys) x y all more = absurd all
one_more c (suc k) (w ∷ xs) [] x y all more = absurd all
one_more c (suc k) (w ∷ xs) (z ∷ ys) x y all more = (all.0, one_more c k xs ys x y all.1 more)

-- ---- a command begins

node_cell : (o : Option Cell) (v : LiveView) → live_of o ≡ Some v → o ≡ Some (cell.Node v)
node_cell None v is = absurd (none-some v is)
node_cell (Some (cell.Net net)) v is = absurd (none-some v is)
node_cell (Some (cell.Node w)) v is = ap (λ (x : LiveView). Some (cell.Node x)) (same_Some w v is)

same_cells : (c : ClusterView) (files : List OwnFile) (xs ys : List Cell) → AreHeld c files xs → AreHeld c files ys → CellsAlike c xs ys
    → (k : ℕ) → SameCell (slice_get xs k) (slice_get ys k)
same_cells c files xs ys held held_too g k = by (cases_eq k (node_count c))
  where
    past : (cells : List Cell) → length cells ≡ node_count c + 1 → k ≢ node_count c → node_count c ≤ k → slice_get cells k ≡ None
    past cells long other late = slice_get_past cells k (omega (arith, long, late, other))

    by_side : (b : Bool) → nat_lt k (node_count c) ≡ b → k ≢ node_count c → SameCell (slice_get xs k) (slice_get ys k)
    by_side true is other =
        let there : (v : LiveView) × (live_of (slice_get xs k) ≡ Some v) = held.are.nodes (numbered k) (ltb-true k (node_count c) is) in
        inl (node_cell (slice_get xs k) there.0 there.1
        ∙ sym (node_cell (slice_get ys k) there.0 (sym (g.nodes (numbered k)) ∙ there.1)))
    by_side false is other =
        inl (past xs held.are.long other (ltb-false k (node_count c) is) ∙ sym (past ys held_too.are.long other (ltb-false k
        (node_count c) is)))

    by : (k ≡ node_count c) ⊎ (k ≢ node_count c) → SameCell (slice_get xs k) (slice_get ys k)
    by (inl at) =
        inr (held.net.0, held_too.net.0, ap (slice_get xs) at ∙ held.net.1, ap (slice_get ys) at ∙ held_too.net.1)
    by (inr other) = by_side (nat_lt k (node_count c)) refl other

pub resembles_first : (c : ClusterView) (files : List OwnFile) (xs ys : List Cell) (ends_soon : Bool) → AreHeld c files xs
    → AreHeld c files ys
    → CellsAlike c xs ys → Resembles (system_of c files xs (net_in c xs) ends_soon) (system_of c files ys (net_in c ys) ends_soon)
resembles_first c files xs ys ends_soon held held_too g = (
  dressed (draft_of xs) (net_in c xs).told (system_of c files ys (net_in c ys) ends_soon),
  record {
    cluster = refl;
    files = refl;
    nodes = refl;
    clock = g.net.clock;
    step = g.net.step;
    last_call = g.net.last_call;
    alive = g.net.alive;
    links = g.net.links;
    locks = g.net.locks;
    calls = g.net.calls;
    asleep = g.net.asleep;
    told = refl;
    answers = λ pair. refl;
    is_ticking = refl;
    ends_soon = refl;
    messages = λ pair. refl;
    timers = g.net.timers;
    slow = λ o. refl;
    events = λ o. refl;
  },
  record { cells = same_cells c files xs ys held held_too g; is = refl },
)

-- ---- and is over

-- there is no node in the cell of what is between them
no_node : (cells : List Cell) (k : ℕ) (net : NetView) → live_of (slice_get (slice_set cells k (cell.Net net)) k) ≡ None
no_node [] k net = refl
no_node (d ∷ cells) zero net = refl
no_node (d ∷ cells) (suc k) net = no_node cells k net

pub alike_behind : (c : ClusterView) (s t : SystemView) (m n : NetView) → ((k : Node) → live_at s k ≡ live_at t k) → NetsAlike m n
    → node_count c < length s.nodes.cells → node_count c < length t.nodes.cells
    → CellsAlike c (slice_set s.nodes.cells (node_count c) (cell.Net m)) (slice_set t.nodes.cells (node_count c) (cell.Net n))
alike_behind c s t m n same nets within within_too = record { nodes = λ k. by k (cases_eq k.0 (node_count c)); net = net }
  where
    place : ℕ
    place = node_count c

    xs : List Cell
    xs = slice_set s.nodes.cells place (cell.Net m)

    ys : List Cell
    ys = slice_set t.nodes.cells place (cell.Net n)

    none : (cells : List Cell) (net : NetView) (k : ℕ) → k ≡ place → live_of (slice_get (slice_set cells place (cell.Net net)) k) ≡ None
    none cells net k at =
        ap (λ (j : ℕ). live_of (slice_get (slice_set cells place (cell.Net net)) j)) at ∙ no_node cells place net

    by : (k : Node) → (k.0 ≡ place) ⊎ (k.0 ≢ place) → live_of (slice_get xs k.0) ≡ live_of (slice_get ys k.0)
    by k (inl at) = none s.nodes.cells m k.0 at ∙ sym (none t.nodes.cells n k.0 at)
    by k (inr other) =
        ap live_of (written_elsewhere s.nodes.cells place k.0 (cell.Net m) other) ∙ same k
        ∙ sym (ap live_of (written_elsewhere t.nodes.cells place k.0 (cell.Net n) other))

    net : NetsAlike (net_in c xs) (net_in c ys)
    net =
        subst (λ (o : Option Cell). NetsAlike (net_of_cell o) (net_in c ys)) (sym (written_net s.nodes.cells place (cell.Net m) within))
        (subst (λ (o : Option Cell). NetsAlike m (net_of_cell o)) (sym (written_net t.nodes.cells place (cell.Net n) within_too)) nets)
