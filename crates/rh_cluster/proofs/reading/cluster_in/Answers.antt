use Rattle.std.proofs.Common.{◌≡◌, ◌∙◌, length, map, sym, ap, subst}
use Rattle.std.proofs.lemmas.Result.{err_from_is_err_and}
use Rattle.rh_base.specs.Tree.{tree_of}
use Rattle.rh_model.specs.ClusterView.{IsWithin}
use Rattle.rh_model.specs.Names.{NamesView}
use Rattle.rh_cluster.specs.Agreement.{agreed_shares}
use Rattle.rh_cluster.specs.ClusterOf.{names_of, all_shares, faults_in, cluster_view}
use Rattle.rh_cluster.proofs.Counts.{length-node_views, length-app_views}
use Rattle.rh_cluster.proofs.InTurn.{first-none}
use Rattle.rh_cluster.proofs.Within.{view_is_within}
use Rattle.rh_cluster.proofs.reading.cluster_in.Goals as goal

pub returns-in_err-nodes-clause-faults : goal.returns-in_err-nodes-clause-faults
unfolding faults_in
returns-in_err-nodes-clause-faults c =
    let p = err_from_is_err_and c.from_residual-in_err-nodes.result c.from_residual-in_err-nodes.ensures.1 in
    rw (p.1, p.2) (λ n. first-none _ _ c.in_err-nodes.field-0.0 c.in_ok-names.ensures.faults (c.in_err-nodes.ensures.faults n))

pub of-requires-clause-nodes : goal.of-requires-clause-nodes
of-requires-clause-nodes c =
    let ts = map tree_of c.args.terms.now in
    ap length c.in_ok-nodes.ensures.nodes ∙ length-node_views (names_of ts) ts ∙ sym (ap (λ (n : NamesView). length n.nodes) c.in_ok-names.ensures.names)

pub of-requires-clause-apps : goal.of-requires-clause-apps
of-requires-clause-apps c =
    let ts = map tree_of c.args.terms.now in
    ap length c.in_ok-nodes.ensures.apps ∙ length-app_views (names_of ts) (agreed_shares (all_shares (names_of ts) ts)) ts
    ∙ sym (ap (λ (n : NamesView). length n.apps) c.in_ok-names.ensures.names)

pub returns-clause-cluster : goal.returns-clause-cluster
unfolding cluster_view names_of
returns-clause-cluster c =
    c.in_ok-cluster.ensures ∙ (λ i. record {
      profile = c.args.profile;
      node_names = (c.in_ok-names.ensures.names i).nodes;
      app_names = (c.in_ok-names.ensures.names i).apps;
      platform_names = (c.in_ok-names.ensures.names i).platforms;
      nodes = c.in_ok-nodes.ensures.nodes i;
      apps = c.in_ok-nodes.ensures.apps i;
    })

pub of-requires-clause-within : goal.of-requires-clause-within
unfolding cluster_view names_of
of-requires-clause-within c =
    let ts = map tree_of c.args.terms.now in
    let names = sym c.in_ok-names.ensures.names in
    let nodes = sym c.in_ok-nodes.ensures.nodes in
    let apps = sym c.in_ok-nodes.ensures.apps in
    let is : cluster_view c.args.profile ts ≡ record {
      profile = c.args.profile;
      node_names = c.in_ok-names.names.nodes;
      app_names = c.in_ok-names.names.apps;
      platform_names = c.in_ok-names.names.platforms;
      nodes = c.in_ok-nodes.nodes.items;
      apps = c.in_ok-nodes.apps.items;
    } = λ i. record { profile = c.args.profile; node_names = (names i).nodes; app_names = (names i).apps; platform_names = (names i).platforms; nodes = nodes i; apps = apps i } in
    subst IsWithin is (view_is_within ts c.args.profile c.requires c.in_ok-names.ensures.faults c.in_ok-nodes.ensures.faults)
