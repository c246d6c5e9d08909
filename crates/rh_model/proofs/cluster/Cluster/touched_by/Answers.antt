use Rattle.std.proofs.Common.{◌<◌, ◌≤◌, ◌∙◌, length, arith, ap}
use Rattle.rh_model.specs.declared.limits.TheConstants.{MAX_APPS}
use Rattle.rh_model.specs.ClusterView.{app_count}
use Rattle.rh_model.specs.Needs.{needed_apps}
use Rattle.rh_model.proofs.cluster.Cluster.touched_by.Goals as goal

pub returns-clause-marks : goal.returns-clause-marks
unfolding needed_apps
returns-clause-marks c =
    let names = ap length c.apps-few_apps.ensures.names ∙ ap app_count c.self.view_is in
    let few : c.args.app.0 < MAX_APPS = (let r = c.requires in let e = c.apps-few_apps.ensures.few in omega (arith, r, e, names)) in
    rw (← c.self.view_is) (λ a of.
    let inside : a.0 < length c.self.inside.apps.items = (let e = c.self.invariant.1 in omega (arith, e, of)) in
    c.of.ensures a ∙ c.self.invariant.4.these c.args.app a few inside)

pub returns-clause-others : goal.returns-clause-others
returns-clause-others c =
    let names = ap length c.apps-few_apps.ensures.names ∙ ap app_count c.self.view_is in
    let few : c.args.app.0 < MAX_APPS = (let r = c.requires in let e = c.apps-few_apps.ensures.few in omega (arith, r, e, names)) in
    rw (← c.self.view_is) (λ a behind.
    let outside : length c.self.inside.apps.items ≤ a.0 = (let e = c.self.invariant.1 in omega (arith, e, behind)) in
    c.of.ensures a ∙ c.self.invariant.4.others c.args.app a few outside)
