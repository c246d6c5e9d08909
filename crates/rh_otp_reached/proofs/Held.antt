-- Cells that a simulation holds between two commands: a command begins with them, and ends with such.
use Rattle.std.proofs.Common.{◌≡◌, ◌≢◌, ◌<◌, ◌⊎◌, ℕ, zero, suc, Bool, false, List, [], ◌∷◌, length, slice_get, slice_set, Option, Some, None, refl, sym, ap, subst, ◌∙◌, inl, inr, arith}
use Rattle.std.specs.Option.{option_and_then}
use Rattle.std.proofs.lemmas.Bool.{cases_eq}
use Rattle.std.proofs.lemmas.List.{length-set}
use Rattle.rh_model.specs.ClusterView.{ClusterView, node_count, numbered}
use Rattle.rh_model.specs.declared.node.App.{App}
use Rattle.rh_model.specs.declared.node.Node.{Node}
use Rattle.rh_otp_model.specs.declared.wait.OwnFile.{OwnFile}
use Rattle.rh_otp_system.specs.declared.cell.Cell.{Cell}
use Rattle.rh_otp_system.specs.declared.cell.Cell.TheVariants as cell
use Rattle.rh_otp_system.specs.Moves.{IsQuiet}
use Rattle.rh_otp_system.specs.State.{SystemView, system_of, net_of, live_in, live_at, is_alive_at}
use Rattle.rh_otp_system.specs.Views.{NetView}
use Rattle.rh_otp_laws.specs.Acting.{takes_up, taken_up, HasNodesOf, IsReached, later}
use Rattle.rh_otp_laws.proofs.Nodes.{written_elsewhere}
use Rattle.rh_otp_laws.proofs.Reached.{alive_in}
use Rattle.rh_otp_sim.specs.Sim.{net_of_cell}
use Rattle.rh_otp_reached.proofs.Cells.{AreCells}
use Rattle.rh_otp_reached.proofs.Standing.{Stands}

-- the state of these cells between two commands
abbrev pub held : ClusterView → List OwnFile → List Cell → SystemView
held c files cells = system_of c files cells (net_of_cell (slice_get cells (node_count c))) false

-- cells that a simulation holds between two commands
pub record AreHeld (c : ClusterView) (files : List OwnFile) (cells : List Cell) : Type 0 where
  pub reached : IsReached (held c files cells)
  pub are : AreCells (node_count c) cells
  pub net : (net : NetView) × (slice_get cells (node_count c) ≡ Some (cell.Net net))

-- ---- a command begins

no_node : (cells : List Cell) (k : ℕ) (net : NetView) → slice_get cells k ≡ Some (cell.Net net)
    → option_and_then live_in (slice_get cells k) ≡ None
no_node cells k net is = ap (option_and_then live_in) is

pub taken_stands : (c : ClusterView) (files : List OwnFile) (cells : List Cell) (ends_soon : Bool) → AreHeld c files cells
    → Stands c files (taken_up (held c files cells) cells (net_of_cell (slice_get cells (node_count c))).told ends_soon)
taken_stands c files cells ends_soon is =
    let s : SystemView = held c files cells in
    let t : SystemView = taken_up s cells s.told ends_soon in
    record {
      reached = later s t is.reached (takes_up s cells s.told ends_soon (refl, refl) (λ n. inl refl));
      whole = (refl, refl, is.are);
      none_beyond = ap alive_in (no_node cells (node_count c) is.net.0 is.net.1);
    }

-- ---- what is between the nodes is written

pub written_net : (cells : List Cell) (k : ℕ) (c : Cell) → k < length cells → slice_get (slice_set cells k c) k ≡ Some c
written_net [] k c within = absurd (omega (arith, within))
written_net (d ∷ cells) zero c within = refl
written_net (d ∷ cells) (suc k) c within = written_net cells k c (omega (arith, within))

nodes_kept : (cells : List Cell) (k : ℕ) (net : NetView) (j : ℕ) → j ≢ k
    → option_and_then live_in (slice_get (slice_set cells k (cell.Net net)) j) ≡ option_and_then live_in (slice_get cells j)
nodes_kept cells k net j other = ap (option_and_then live_in) (written_elsewhere cells k j (cell.Net net) other)

are_cells : (count : ℕ) (cells : List Cell) (net : NetView) → AreCells count cells → AreCells count (slice_set cells count (cell.Net net))
are_cells count cells net are = record {
  long = length-set cells count (cell.Net net) ∙ are.long;
  nodes = λ n within. (
    (are.nodes n within).0,
    nodes_kept cells count net n.0 (λ same. absurd (omega (arith, same, within))) ∙ (are.nodes n within).1,
  );
}

has_nodes : (c : ClusterView) (files : List OwnFile) (s : SystemView) (net : NetView) (told : List (App × Node)) → Stands c files s
    → HasNodesOf s (taken_up s (slice_set s.nodes.cells (node_count c) (cell.Net net)) told false)
has_nodes c files s net told p n = go (cases_eq n.0 (node_count c))
  where
    cells : List Cell
    cells = slice_set s.nodes.cells (node_count c) (cell.Net net)

    t : SystemView
    t = taken_up s cells told false

    there : slice_get cells (node_count c) ≡ Some (cell.Net net)
    there = written_net s.nodes.cells (node_count c) (cell.Net net) (omega (arith, p.whole.2.long))

    none : n.0 ≡ node_count c → live_at t n ≡ None
    none here = ap (λ (k : ℕ). option_and_then live_in (slice_get cells k)) here ∙ no_node cells (node_count c) net there

    down : n.0 ≡ node_count c → is_alive_at s n ≡ false
    down here = ap (λ (k : ℕ). is_alive_at s (numbered k)) here ∙ p.none_beyond

    go : (n.0 ≡ node_count c) ⊎ (n.0 ≡ node_count c → ⊥) → (live_at t n ≡ live_at s n) ⊎ ((live_at t n ≡ None) × (is_alive_at s n ≡ false))
    go (inl here) = inr (none here, down here)
    go (inr other) = inl (nodes_kept s.nodes.cells (node_count c) net n.0 other)

-- it stands, and nothing is on its way
abbrev pub IsOver : ClusterView → List OwnFile → SystemView → Type 0
IsOver c files s = Stands c files s × IsQuiet s

-- what is between the nodes of a system, where an observer was told so much
abbrev between : List (App × Node) → SystemView → NetView
between told s = record (net_of s) { told = told }

-- the cells behind a command
abbrev behind : ClusterView → List (App × Node) → SystemView → List Cell
behind c told s = slice_set s.nodes.cells (node_count c) (cell.Net (between told s))

written_reached : (c : ClusterView) (files : List OwnFile) (told : List (App × Node)) (s : SystemView) → IsOver c files s
    → IsReached (system_of c files (behind c told s) (between told s) false)
written_reached c files told s p =
    let t : SystemView = taken_up s (behind c told s) told false in
    let reached : IsReached t =
    later s t p.0.reached (takes_up s (behind c told s) told false p.1 (has_nodes c files s (between told s) told p.0)) in
    subst IsReached (λ i. system_of (p.0.whole.0 i) (p.0.whole.1 i) (behind c told s) (between told s) false) reached

pub written_held : (c : ClusterView) (files : List OwnFile) (told : List (App × Node)) (s : SystemView) → IsOver c files s
    → AreHeld c files (behind c told s)
written_held c files told s p =
    let are : AreCells (node_count c) s.nodes.cells = p.0.whole.2 in
    let there : slice_get (behind c told s) (node_count c) ≡ Some (cell.Net (between told s)) =
    written_net s.nodes.cells (node_count c) (cell.Net (between told s)) (omega (arith, are.long)) in
    record {
      reached =
          subst (λ (o : Option Cell). IsReached (system_of c files (behind c told s) (net_of_cell o) false)) (sym there)
          (written_reached c files told s p);
      are = are_cells (node_count c) s.nodes.cells (between told s) are;
      net = (between told s, there);
    }
