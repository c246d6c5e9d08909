-- A node that is written, and the others.
use Rattle.std.proofs.Common.{◌≡◌, ◌⊎◌, ℕ, zero, suc, true, List, [], ◌∷◌, Option, Some, None, slice_get, slice_set, unwrap_or, refl, sym, ap, ◌∙◌, inl, inr}
use Rattle.std.specs.Option.{option_and_then}
use Rattle.std.proofs.lemmas.Bool.{false≢true, cases_eq}
use Rattle.std.proofs.lemmas.Option.{none-some}
use Rattle.rh_model.specs.declared.node.Node.{Node}
use Rattle.rh_otp_node.specs.Live.{LiveView, never_begun, is_alive}
use Rattle.rh_otp_system.specs.declared.cell.Cell.{Cell}
use Rattle.rh_otp_system.specs.declared.cell.Cell.TheVariants as cell
use Rattle.rh_otp_system.specs.State.{SystemView, live_in, live_at, node_at, with_node, is_alive_at}

abbrev live_of : List Cell → ℕ → Option LiveView
live_of cells k = option_and_then live_in (slice_get cells k)

written_there : (cells : List Cell) (k : ℕ) (v w : LiveView) → live_of cells k ≡ Some v
    → live_of (slice_set cells k (cell.Node w)) k ≡ Some w
written_there [] k v w is = absurd (none-some v is)
written_there (c ∷ cells) zero v w is = refl
written_there (c ∷ cells) (suc k) v w is = written_there cells k v w is

pub written_elsewhere : (cells : List Cell) (k j : ℕ) (c : Cell) → (j ≡ k → ⊥) → slice_get (slice_set cells k c) j ≡ slice_get cells j
written_elsewhere [] k j c other = refl
written_elsewhere (d ∷ cells) zero zero c other = absurd (other refl)
written_elsewhere (d ∷ cells) zero (suc j) c other = refl
written_elsewhere (d ∷ cells) (suc k) zero c other = refl
written_elsewhere (d ∷ cells) (suc k) (suc j) c other = written_elsewhere cells k j c (λ same. other (ap suc same))

-- a node that is there is as it was written
pub node_written : (s : SystemView) (n : Node) (v w : LiveView) → live_at s n ≡ Some v → node_at (with_node n w s) n ≡ w
node_written s n v w is = ap (λ (o : Option LiveView). unwrap_or o never_begun) (written_there s.nodes.cells n.0 v w is)

pub there_written : (s : SystemView) (n : Node) (v w : LiveView) → live_at s n ≡ Some v → live_at (with_node n w s) n ≡ Some w
there_written s n v w is = written_there s.nodes.cells n.0 v w is

-- the others are as they were
pub others_as_they_were : (s : SystemView) (n m : Node) (w : LiveView) → (m.0 ≡ n.0 → ⊥) → live_at (with_node n w s) m ≡ live_at s m
others_as_they_were s n m w other =
    ap (λ (o : Option Cell). option_and_then live_in o) (written_elsewhere s.nodes.cells n.0 m.0 (cell.Node w) other)

pub others_same : (s : SystemView) (n m : Node) (w : LiveView) → (m.0 ≡ n.0 → ⊥) → node_at (with_node n w s) m ≡ node_at s m
others_same s n m w other = ap (λ (o : Option LiveView). unwrap_or o never_begun) (others_as_they_were s n m w other)

there_by : (o : Option LiveView) → is_alive (unwrap_or o never_begun) ≡ true → (v : LiveView) × (o ≡ Some v)
there_by None alive = absurd (false≢true alive)
there_by (Some v) alive = (v, refl)

-- a node that is alive is there
pub alive_is_there : (s : SystemView) (n : Node) → is_alive_at s n ≡ true → (v : LiveView) × (live_at s n ≡ Some v)
alive_is_there s n alive = there_by (live_at s n) alive

-- a node that is alive is alive behind what was written of it, if that is
pub alive_written : (s : SystemView) (n : Node) (w : LiveView) → is_alive_at s n ≡ true → is_alive w ≡ true
    → is_alive_at (with_node n w s) n ≡ true
alive_written s n w alive is =
    let there : (v : LiveView) × (live_at s n ≡ Some v) = alive_is_there s n alive in
    ap is_alive (node_written s n there.0 w there.1) ∙ is

-- a node is as it was written, or there is none of this number
cells_written : (cells : List Cell) (k : ℕ) (w : LiveView)
    → (live_of (slice_set cells k (cell.Node w)) k ≡ Some w) ⊎ ((live_of (slice_set cells k (cell.Node w)) k ≡ None) × (live_of cells k ≡ None))
cells_written [] k w = inr (refl, refl)
cells_written (c ∷ cells) zero w = inl refl
cells_written (c ∷ cells) (suc k) w = cells_written cells k w

abbrev or_never : Option LiveView → LiveView
or_never o = unwrap_or o never_begun

pub written_or_never : (s : SystemView) (n : Node) (w : LiveView)
    → (node_at (with_node n w s) n ≡ w) ⊎ ((node_at (with_node n w s) n ≡ never_begun) × (node_at s n ≡ never_begun))
written_or_never s n w =
    elim (cells_written s.nodes.cells n.0 w) [
      | inl is ↦ inl (ap or_never is)
      | inr none ↦ inr (ap or_never none.0, ap or_never none.1)
    ]

-- a node is its number
pub same_number : (s : SystemView) (m n : Node) → m.0 ≡ n.0 → node_at s m ≡ node_at s n
same_number s m n is = ap (λ (k : ℕ). or_never (live_of s.nodes.cells k)) is

-- what is the same of a node as it is written is so of all nodes
pub same_of_all : {A : Type 0} (f : LiveView → A) (s : SystemView) (n m : Node) (w : LiveView) → f w ≡ f (node_at s n)
    → f (node_at (with_node n w s) m) ≡ f (node_at s m)
same_of_all f s n m w same =
    elim (cases_eq m.0 n.0) [
      | inl here ↦ ap f (same_number (with_node n w s) m n here) ∙ go (written_or_never s n w) ∙ sym (ap f (same_number s m n here))
      | inr other ↦ ap f (others_same s n m w other)
    ]
  where
    go : (node_at (with_node n w s) n ≡ w) ⊎ ((node_at (with_node n w s) n ≡ never_begun) × (node_at s n ≡ never_begun))
        → f (node_at (with_node n w s) n) ≡ f (node_at s n)
    go (inl is) = ap f is ∙ same
    go (inr never) = ap f (never.0 ∙ sym never.1)

-- any node is as it was, or it is the one that is written, and so
pub as_it_was_or_written : (s : SystemView) (n m : Node) (w : LiveView)
    → (node_at (with_node n w s) m ≡ node_at s m) ⊎ ((m.0 ≡ n.0) × (node_at (with_node n w s) m ≡ w))
as_it_was_or_written s n m w =
    elim (cases_eq m.0 n.0) [
      | inl here ↦ go here (written_or_never s n w)
      | inr other ↦ inl (others_same s n m w other)
    ]
  where
    go : m.0 ≡ n.0 → (node_at (with_node n w s) n ≡ w) ⊎ ((node_at (with_node n w s) n ≡ never_begun) × (node_at s n ≡ never_begun))
        → (node_at (with_node n w s) m ≡ node_at s m) ⊎ ((m.0 ≡ n.0) × (node_at (with_node n w s) m ≡ w))
    go here (inl is) = inr (here, same_number (with_node n w s) m n here ∙ is)
    go here (inr never) = inl (same_number (with_node n w s) m n here ∙ never.0 ∙ sym never.1 ∙ sym (same_number s m n here))
