-- A list for each node.
use Rattle.std.proofs.Common.{◌≡◌, ◌≢◌, ◌<◌, ◌≤◌, ℕ, List, [], length, map, get_or, All, ap, sym, ◌∙◌, inl, inr, arith}
use Rattle.std.proofs.Math.ListN.{set}
use Rattle.std.specs.List.{range_with_len}
use Rattle.std.proofs.lemmas.Bool.{cases_eq}
use Rattle.std.proofs.lemmas.Grind.{get_or-set_at}
use Rattle.std.proofs.lemmas.List.{get_or-map, get_or-set_other, get_or_past, length-map, length-set, same_lists}
use Rattle.std.proofs.lemmas.List.Elements.{All-set}
use Rattle.std.proofs.lemmas.List.FromFn.{get_or-map-range_with_len, length-map-range_with_len}
use Rattle.std.proofs.lemmas.Option.{unwrap_or-slice_get}
use Rattle.rh_model.specs.ClusterView.{ClusterView, node_count, numbered}
use Rattle.rh_model.specs.declared.node.App.{App}
use Rattle.rh_model.specs.declared.node.Node.{Node}
use Rattle.rh_state.specs.Numbers.{nodes_of}
use Rattle.rh_state.specs.Shape.{IsShaped, IsNodeOf, IsAppOf}
use Rattle.rh_state.specs.StateView.{StateView}
use Rattle.rh_state.specs.Tables.{row}

pub length-by_node : {X : Type 0} (f : Node → X) (c : ClusterView) → length (map f (nodes_of c)) ≡ node_count c
unfolding nodes_of
length-by_node f c = length-map (map numbered (range_with_len 0 (node_count c))) f ∙ length-map-range_with_len numbered 0 (node_count c)

-- that of one node
pub get_or-by_node : {X : Type 0} (f : Node → X) (c : ClusterView) (k : ℕ) (d : X) → k < node_count c → get_or (map f (nodes_of c)) k d ≡ f (numbered k)
unfolding nodes_of
get_or-by_node f c k d within =
    let all = length-map-range_with_len numbered 0 (node_count c) in
    get_or-map f (map numbered (range_with_len 0 (node_count c))) k (numbered k) d (omega (arith, all, within))
    ∙ ap f (get_or-map-range_with_len numbered 0 (node_count c) k k (numbered k) within (omega arith))

pub row-by_node : {X : Type 0} (f : Node → List X) (c : ClusterView) (n : Node) → IsNodeOf c n → row (map f (nodes_of c)) n.0 ≡ f n
row-by_node f c n within = unwrap_or-slice_get (map f (nodes_of c)) n.0 [] ∙ get_or-by_node f c n.0 [] within

pub row_past : {X : Type 0} (f : Node → List X) (c : ClusterView) (n : Node) → node_count c ≤ n.0 → row (map f (nodes_of c)) n.0 ≡ []
row_past f c n past =
    unwrap_or-slice_get (map f (nodes_of c)) n.0 [] ∙ get_or_past (map f (nodes_of c)) n.0 [] (omega (arith, past, length-by_node f c))

-- where all are kept
pub same-by_node : {X : Type 0} (f g : Node → X) (c : ClusterView) → ((m : Node) → IsNodeOf c m → g m ≡ f m) → map g (nodes_of c) ≡ map f (nodes_of c)
same-by_node f g c kept =
    same_lists _ _ (length-by_node g c ∙ sym (length-by_node f c)) (λ k d within.
    let below : k < node_count c = omega (arith, within, length-by_node g c) in
    get_or-by_node g c k d below ∙ kept (numbered k) below ∙ sym (get_or-by_node f c k d below))

-- where all are kept but that of one node
pub set-by_node : {X : Type 0} (f g : Node → X) (c : ClusterView) (n : Node) → ((m : Node) → IsNodeOf c m → m.0 ≢ n.0 → g m ≡ f m)
    → map g (nodes_of c) ≡ set (map f (nodes_of c)) n.0 (g n)
set-by_node f g c n kept =
    same_lists _ _ (length-by_node g c ∙ sym (length-set (map f (nodes_of c)) n.0 (g n) ∙ length-by_node f c)) (λ k d within.
    let below : k < node_count c = omega (arith, within, length-by_node g c) in
    get_or-by_node g c k d below ∙ elim (cases_eq k n.0) [
      | inl e ↦ ap (λ (j : ℕ). g (numbered j)) e
          ∙ sym (get_or-set_at (map f (nodes_of c)) n.0 k (g n) d e (omega (arith, below, e, length-by_node f c)))
      | inr e ↦ kept (numbered k) below e ∙ sym (get_or-by_node f c k d below) ∙ sym (get_or-set_other (map f (nodes_of c)) n.0 k (g n) d e)
    ])

-- a state in which the lists of a node are others
pub IsShaped-running : (s : StateView) (n : ℕ) (apps : List App) → IsShaped s → All (IsAppOf s.cluster) apps
    → IsShaped (record s { running = set s.running n apps })
IsShaped-running s n apps shape all = record {
  time = shape.time;
  modes = shape.modes;
  incarnations = shape.incarnations;
  limited = shape.limited;
  running = length-set s.running n apps ∙ shape.running;
  waiting = shape.waiting;
  running_apps = All-set (λ (apps : List App). All (IsAppOf s.cluster) apps) s.running n apps all shape.running_apps;
  waiting_apps = shape.waiting_apps;
  restarts = shape.restarts;
  restart_rows = shape.restart_rows;
  kinds = shape.kinds;
  kind_rows = shape.kind_rows;
  kind_nodes = shape.kind_nodes;
  allowed = shape.allowed;
  allowed_rows = shape.allowed_rows;
  standings = shape.standings;
  standing_nodes = shape.standing_nodes;
}

pub IsShaped-waiting : (s : StateView) (n : ℕ) (apps : List App) → IsShaped s → All (IsAppOf s.cluster) apps
    → IsShaped (record s { waiting = set s.waiting n apps })
IsShaped-waiting s n apps shape all = record {
  time = shape.time;
  modes = shape.modes;
  incarnations = shape.incarnations;
  limited = shape.limited;
  running = shape.running;
  waiting = length-set s.waiting n apps ∙ shape.waiting;
  running_apps = shape.running_apps;
  waiting_apps = All-set (λ (apps : List App). All (IsAppOf s.cluster) apps) s.waiting n apps all shape.waiting_apps;
  restarts = shape.restarts;
  restart_rows = shape.restart_rows;
  kinds = shape.kinds;
  kind_rows = shape.kind_rows;
  kind_nodes = shape.kind_nodes;
  allowed = shape.allowed;
  allowed_rows = shape.allowed_rows;
  standings = shape.standings;
  standing_nodes = shape.standing_nodes;
}
