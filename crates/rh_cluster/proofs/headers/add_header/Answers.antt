use Rattle.std.proofs.Common.{◌≡◌, ◌∙◌, ◌++◌, List, ℕ, sym, ap, subst, append-nil}
use Rattle.std.specs.Prelude.{OnOk}
use Rattle.rh_cluster.proofs.OneHeader.{on_ok, node_names_one, node_names_none, app_names_one, app_names_none, no_app}
use Rattle.rh_cluster.proofs.headers.add_header.Goals as goal

pub returns-in-Some-clause-nodes : goal.returns-in-Some-clause-nodes
returns-in-Some-clause-nodes c =
    subst (λ (ns : List (List ℕ)). OnOk c.add_name.result (c.add_name.new.names ≡ c.args.nodes.now ++ ns))
    (sym (node_names_one _ _ (sym c.in-Some.ensures))) c.add_name.ensures.added

pub returns-in-Some-clause-apps : goal.returns-in-Some-clause-apps
returns-in-Some-clause-apps c =
    on_ok c.add_name.result (sym (ap (λ (ns : List (List ℕ)). c.args.apps.now ++ ns) (app_names_none _ (no_app _ _ (sym c.in-Some.ensures)))
    ∙ append-nil c.args.apps.now))

pub returns-in-Some-app-clause-nodes : goal.returns-in-Some-app-clause-nodes
returns-in-Some-app-clause-nodes c =
    on_ok c.add_name-in-Some-app.result (sym (ap (λ (ns : List (List ℕ)). c.args.nodes.now ++ ns) (node_names_none _ (sym c.in_default.ensures))
    ∙ append-nil c.args.nodes.now))

pub returns-in-Some-app-clause-apps : goal.returns-in-Some-app-clause-apps
returns-in-Some-app-clause-apps c =
    subst (λ (ns : List (List ℕ)). OnOk c.add_name-in-Some-app.result (c.add_name-in-Some-app.new.names ≡ c.args.apps.now ++ ns))
    (sym (app_names_one _ _ (sym c.in-Some-app.ensures))) c.add_name-in-Some-app.ensures.added
