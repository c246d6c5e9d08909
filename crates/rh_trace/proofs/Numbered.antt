-- The nodes and the applications of a cluster, by their numbers.
use Rattle.std.proofs.Common.{◌≡◌, ℕ, ◌+◌, ◌<◌, List, [], ◌∷◌, map, refl, ap, ◌∙◌, get_or, length, arith, zero, suc}
use Rattle.std.specs.List.{range_with_len}
use Rattle.std.proofs.lemmas.List.{length-map}
use Rattle.std.proofs.lemmas.List.FromFn.{get_or-range_with_len, length-range_with_len}
use Rattle.rh_model.specs.ClusterView.{ClusterView, node_count, app_count, numbered, app_numbered}
use Rattle.rh_model.specs.declared.node.Node.{Node}
use Rattle.rh_model.specs.declared.node.App.{App}
use Rattle.rh_state.specs.Numbers.{nodes_of, apps_of}

get_or-map_here : {A B : Type 0} (f : A → B) (xs : List A) (i : ℕ) (d : A) (e : B) → i < length xs → get_or (map f xs) i e ≡ f (get_or xs i d)
get_or-map_here f [] i d e h = absurd (omega arith)
get_or-map_here f (x ∷ xs) zero d e h = refl
get_or-map_here f (x ∷ xs) (suc i) d e h = get_or-map_here f xs i d e (omega arith)

pub length_nodes : (c : ClusterView) → length (nodes_of c) ≡ node_count c
unfolding nodes_of
length_nodes c = length-map (range_with_len 0 (node_count c)) numbered ∙ length-range_with_len 0 (node_count c)

pub length_apps : (c : ClusterView) → length (apps_of c) ≡ app_count c
unfolding apps_of
length_apps c = length-map (range_with_len 0 (app_count c)) app_numbered ∙ length-range_with_len 0 (app_count c)

pub node_there : (c : ClusterView) (i : ℕ) (d : Node) → i < node_count c → get_or (nodes_of c) i d ≡ numbered i
unfolding nodes_of
node_there c i d lt =
    let l : i < length (range_with_len 0 (node_count c)) = (let e = length-range_with_len 0 (node_count c) in omega arith) in
    get_or-map_here numbered (range_with_len 0 (node_count c)) i 0 d l ∙ ap numbered (get_or-range_with_len 0 (node_count c) i 0 lt ∙ plus i)
  where
    plus : (i : ℕ) → 0 + i ≡ i
    plus i = omega arith

pub app_there : (c : ClusterView) (i : ℕ) (d : App) → i < app_count c → get_or (apps_of c) i d ≡ app_numbered i
unfolding apps_of
app_there c i d lt =
    let l : i < length (range_with_len 0 (app_count c)) = (let e = length-range_with_len 0 (app_count c) in omega arith) in
    get_or-map_here app_numbered (range_with_len 0 (app_count c)) i 0 d l ∙ ap app_numbered (get_or-range_with_len 0 (app_count c) i 0 lt ∙ plus i)
  where
    plus : (i : ℕ) → 0 + i ≡ i
    plus i = omega arith
