use Rattle.std.proofs.Common.{◌≡◌, ◌∙◌, length, map, sym, ap, arith}
use Rattle.rh_base.specs.Tree.{tree_of}
use Rattle.rh_model.specs.Names.{NamesView}
use Rattle.rh_cluster.proofs.Counts.{length-node_views, length-all_shares}
use Rattle.rh_cluster.proofs.reading.apps_checked.Goals as goal

pub check_agreement-requires-clause-named : goal.check_agreement-requires-clause-named
check_agreement-requires-clause-named c =
    ap length c.nodes.ensures.names ∙ ap (λ (n : NamesView). length n.nodes) c.requires.names
    ∙ sym (ap length c.in_ok-all.ensures ∙ length-all_shares c.args.names.now (map tree_of c.args.terms.now))

pub check_agreement-requires-clause-few : goal.check_agreement-requires-clause-few
check_agreement-requires-clause-few c =
    let all =
    ap length c.in_ok-all.ensures ∙ length-all_shares c.args.names.now (map tree_of c.args.terms.now)
    ∙ sym (ap length c.nodes.ensures.names ∙ ap (λ (n : NamesView). length n.nodes) c.requires.names) in
    omega (arith, c.nodes.ensures.few)

pub check_agreement-requires-clause-few_nodes : goal.check_agreement-requires-clause-few_nodes
check_agreement-requires-clause-few_nodes c =
    let nodes : length c.args.nodes.now ≡ length c.nodes.result.now =
    ap length c.requires.nodes ∙ length-node_views c.args.names.now (map tree_of c.args.terms.now)
    ∙ sym (ap length c.nodes.ensures.names ∙ ap (λ (n : NamesView). length n.nodes) c.requires.names) in
    omega (arith, c.nodes.ensures.few)

pub agreed_shares-requires : goal.agreed_shares-requires
agreed_shares-requires c =
    let all =
    ap length c.in_ok-all.ensures ∙ length-all_shares c.args.names.now (map tree_of c.args.terms.now)
    ∙ sym (ap length c.nodes.ensures.names ∙ ap (λ (n : NamesView). length n.nodes) c.requires.names) in
    omega (arith, c.nodes.ensures.few)
