-- The cluster that a text describes, or its first fault (ours; kernel(6) and app(4) for what the terms mean).
use Rattle.std.specs.Prelude.{ℕ, List, ◌++◌, map, Result, Ok, Err}
use Rattle.rh_base.specs.Tree.{Tree, Trees, list_of_trees}
use Rattle.rh_terms.specs.Grammar.{terms_of}
use Rattle.rh_terms.specs.declared.fault.TermFault.{TermFault}
use Rattle.rh_cluster.specs.declared.fault.ClusterFault.{ClusterFault}
use Rattle.rh_cluster.specs.declared.fault.ClusterFault.TheVariants as fault
use Rattle.rh_cluster.specs.declared.shares.Share.{Share}
use Rattle.rh_model.specs.ClusterView.{ClusterView, NodeView, AppView}
use Rattle.rh_cluster.specs.Faults.{unless}
use Rattle.rh_model.specs.Names.{NamesView}
use Rattle.rh_cluster.specs.Headers.{nodes_in, apps_in, node_names, app_names, headers_stage}
use Rattle.rh_cluster.specs.Profile.{profile_of, behind_profile}
use Rattle.rh_cluster.specs.Sections.{parts_stage}
use Rattle.rh_cluster.specs.Values.{platforms_in, node_view, shares_in, app_view}
use Rattle.rh_cluster.specs.Agreement.{agreed_shares, agreement_stage}

-- the names of these terms
unfoldable pub names_of : List Tree → NamesView
names_of ts = record { nodes = node_names ts; apps = app_names ts; platforms = (platforms_in ts).first }

-- what the terms say of each node
unfoldable pub node_views : NamesView → List Tree → List NodeView
node_views names ts = map (λ (n : List ℕ × Tree). node_view names n.1) (nodes_in ts)

-- the `distributed` of each node
unfoldable pub all_shares : NamesView → List Tree → List (List Share)
all_shares names ts = map (λ (n : List ℕ × Tree). shares_in names n.1) (nodes_in ts)

-- what they say of each application
unfoldable pub app_views : NamesView → List Share → List Tree → List AppView
app_views names shares ts = map (λ (a : List ℕ × Tree). app_view names shares a.0 a.1) (apps_in ts)

-- the faults of the third and the fourth stage
unfoldable pub faults_behind_headers : List Tree → List ClusterFault
faults_behind_headers ts =
    parts_stage (names_of ts) (platforms_in ts).known ts
    ++ agreement_stage (names_of ts).nodes (node_views (names_of ts) ts) (all_shares (names_of ts) ts)

-- the faults of the second, the third and the fourth stage, in this order, in a file of this profile
unfoldable pub faults_in : ℕ → List Tree → List ClusterFault
faults_in profile ts = headers_stage profile ts ++ faults_behind_headers ts

-- the cluster of this profile, of terms that have no fault
unfoldable pub cluster_view : ℕ → List Tree → ClusterView
cluster_view profile ts = record {
  profile = profile;
  node_names = node_names ts;
  app_names = app_names ts;
  platform_names = (platforms_in ts).first;
  nodes = node_views (names_of ts) ts;
  apps = app_views (names_of ts) (agreed_shares (all_shares (names_of ts) ts)) ts;
}

-- the cluster of the terms of a file, or the first fault
unfoldable pub cluster_of_terms : List Tree → Result ClusterView ClusterFault
cluster_of_terms ts =
    unless (faults_in (profile_of ts) (behind_profile ts)) (cluster_view (profile_of ts) (behind_profile ts))

-- the cluster of terms that were read, or the first fault
abbrev pub cluster_in : Result Trees TermFault → Result ClusterView ClusterFault
cluster_in (Ok ts) = cluster_of_terms (list_of_trees ts)
cluster_in (Err f) = Err (fault.Term f)

-- the first stage reads the terms, of which the first may name the profile; then the first fault of the stages over the terms
-- counts, and without one this is the cluster
unfoldable pub cluster_of : List ℕ → Result ClusterView ClusterFault
cluster_of bytes = cluster_in (terms_of bytes)
