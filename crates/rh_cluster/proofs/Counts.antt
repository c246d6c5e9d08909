-- There is a part for each name.
use Rattle.std.proofs.Common.{◌≡◌, ℕ, List, length, sym, ◌∙◌}
use Rattle.std.proofs.lemmas.List.{length-map}
use Rattle.rh_base.specs.Tree.{Tree}
use Rattle.rh_cluster.specs.declared.shares.Share.{Share}
use Rattle.rh_model.specs.Names.{NamesView}
use Rattle.rh_cluster.specs.Headers.{nodes_in, apps_in, node_names, app_names}
use Rattle.rh_cluster.specs.Values.{node_view, shares_in, app_view}
use Rattle.rh_cluster.specs.ClusterOf.{names_of, node_views, all_shares, app_views}

pub length-node_views : (names : NamesView) (ts : List Tree) → length (node_views names ts) ≡ length (names_of ts).nodes
unfolding node_views names_of node_names
length-node_views names ts = length-map (nodes_in ts) (λ (n : List ℕ × Tree). node_view names n.1) ∙ sym (length-map (nodes_in ts) (λ (n : List ℕ × Tree). n.0))

pub length-all_shares : (names : NamesView) (ts : List Tree) → length (all_shares names ts) ≡ length (names_of ts).nodes
unfolding all_shares names_of node_names
length-all_shares names ts = length-map (nodes_in ts) (λ (n : List ℕ × Tree). shares_in names n.1) ∙ sym (length-map (nodes_in ts) (λ (n : List ℕ × Tree). n.0))

pub length-app_views : (names : NamesView) (shares : List Share) (ts : List Tree) → length (app_views names shares ts) ≡ length (names_of ts).apps
unfolding app_views names_of app_names
length-app_views names shares ts =
    length-map (apps_in ts) (λ (a : List ℕ × Tree). app_view names shares a.0 a.1) ∙ sym (length-map (apps_in ts) (λ (a : List ℕ × Tree). a.0))
