-- The cells of a simulation: one for each node, and one more. What a rule writes leaves each node one.
use Rattle.std.proofs.Common.{◌≡◌, ◌<◌, ◌⊎◌, ◌+◌, ℕ, List, length, slice_get, Option, Some, sym, ap, ◌∙◌, inl, inr}
use Rattle.std.specs.Option.{option_and_then}
use Rattle.std.proofs.lemmas.Bool.{cases_eq}
use Rattle.std.proofs.lemmas.List.{length-set}
use Rattle.rh_model.specs.ClusterView.{ClusterView, node_count}
use Rattle.rh_model.specs.declared.node.Node.{Node}
use Rattle.rh_otp_model.specs.declared.wait.OwnFile.{OwnFile}
use Rattle.rh_otp_node.specs.Live.{LiveView, with_kind}
use Rattle.rh_otp_node.specs.declared.node.Phase.TheVariants as phase
use Rattle.rh_otp_node.specs.Remote.{without_monitors}
use Rattle.rh_otp_system.specs.declared.cell.Cell.{Cell}
use Rattle.rh_otp_system.specs.declared.cell.Cell.TheVariants as cell
use Rattle.rh_otp_system.specs.Ending.{taken_down}
use Rattle.rh_otp_system.specs.Sending.{told}
use Rattle.rh_otp_system.specs.State.{SystemView, live_in, live_at, node_at, with_node}
use Rattle.rh_otp_laws.proofs.Nodes.{there_written, others_as_they_were}
use Rattle.rh_otp_laws.proofs.Turn.{Turn, nothing, both, wrote, noted, seen, put, set, linked, slowed, took, freed, called, answered, fell, unmonitored}

-- the node in the cell of this number
abbrev pub node_in : List Cell → ℕ → Option LiveView
node_in cells k = option_and_then live_in (slice_get cells k)

-- so many nodes have a cell, and there is one more
pub record AreCells (count : ℕ) (cells : List Cell) : Type 0 where
  pub long : length cells ≡ count + 1
  pub nodes : (n : Node) → n.0 < count → (v : LiveView) × (node_in cells n.0 ≡ Some v)

node_written : (count : ℕ) (s : SystemView) (n m : Node) (w : LiveView) → AreCells count s.nodes.cells → m.0 < count
    → (v : LiveView) × (live_at (with_node n w s) m ≡ Some v)
node_written count s n m w are within = go (cases_eq m.0 n.0)
  where
    there : (v : LiveView) × (live_at s m ≡ Some v)
    there = are.nodes m within

    go : (m.0 ≡ n.0) ⊎ (m.0 ≡ n.0 → ⊥) → (v : LiveView) × (live_at (with_node n w s) m ≡ Some v)
    go (inl here) =
        let behind : SystemView = with_node n w s in
        let was : live_at s n ≡ Some there.0 = ap (node_in s.nodes.cells) (sym here) ∙ there.1 in
        (w, ap (node_in behind.nodes.cells) here ∙ there_written s n there.0 w was)
    go (inr other) = (there.0, others_as_they_were s n m w other ∙ there.1)

cells_written : (count : ℕ) (s : SystemView) (n : Node) (w : LiveView) → AreCells count s.nodes.cells
    → AreCells count (with_node n w s).nodes.cells
cells_written count s n w are = record {
  long = length-set s.nodes.cells n.0 (cell.Node w) ∙ are.long;
  nodes = λ m within. node_written count s n m w are within;
}

-- a system of this cluster and of these files, in which each node has its cell
abbrev pub IsOf : ClusterView → List OwnFile → SystemView → Type 0
IsOf c files s = (s.cluster ≡ c) × (s.files ≡ files) × AreCells (node_count c) s.nodes.cells

pub of_written : (c : ClusterView) (files : List OwnFile) (s : SystemView) (n : Node) (w : LiveView) → IsOf c files s
    → IsOf c files (with_node n w s)
of_written c files s n w is = (is.0, is.1, cells_written (node_count c) s n w is.2)

of_fallen : (c : ClusterView) (files : List OwnFile) (s : SystemView) (n : Node) → IsOf c files s → IsOf c files (taken_down n s)
unfolding taken_down told
of_fallen c files s n is = of_written c files s n (record (node_at s n) { phase = phase.Down }) is

pub of_turn : (c : ClusterView) (files : List OwnFile) (n : Node) (s t : SystemView) → Turn n s t → IsOf c files s → IsOf c files t
of_turn c files n _ _ (nothing s) is = is
of_turn c files n _ _ (both s t u p q) is = of_turn c files n t u q (of_turn c files n s t p is)
of_turn c files n _ _ (wrote s v on) is = of_written c files s n v is
of_turn c files n _ _ (noted s m a kind) is = of_written c files s m (with_kind a kind (node_at s m)) is
of_turn c files n _ _ (seen s e) is = is
of_turn c files n _ _ (put s more) is = is
of_turn c files n _ _ (set s due to m later) is = is
of_turn c files n _ _ (linked s links) is = is
of_turn c files n _ _ (slowed s slow) is = is
of_turn c files n _ _ (took s r p nodes) is = is
of_turn c files n _ _ (freed s r p) is = is
of_turn c files n _ _ (called s calls last) is = is
of_turn c files n _ _ (answered s answers) is = is
of_turn c files n _ _ (fell s) is = of_fallen c files s n is
of_turn c files n _ _ (unmonitored s m) is = of_written c files s m (without_monitors n (node_at s m)) is
