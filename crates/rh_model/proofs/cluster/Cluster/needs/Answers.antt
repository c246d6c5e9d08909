use Rattle.std.proofs.Common.{◌<◌, ◌∙◌, sym, subst, All}
use Rattle.rh_model.specs.declared.node.App.{App}
use Rattle.rh_model.specs.ClusterView.{app_count, deps_of}
use Rattle.rh_model.specs.Needs.{needed_apps}
use Rattle.rh_model.proofs.NeedsKept.{apps_kept, known_apps}
use Rattle.rh_model.proofs.cluster.Cluster.needs.Goals as goal

pub returns-clause-apps : goal.returns-clause-apps
returns-clause-apps c = c.apps.ensures ∙ apps_kept c.args.self.now c.args.app c.needs_of.result.now c.needs_of.ensures

pub returns-clause-numbers : goal.returns-clause-numbers
unfolding needed_apps
returns-clause-numbers c = subst (All (λ (b : App). b.0 < app_count c.args.self.now))
    (sym (c.apps.ensures ∙ apps_kept c.args.self.now c.args.app c.needs_of.result.now c.needs_of.ensures))
    (known_apps c.args.self.now (deps_of c.args.self.now c.args.app) (c.is_within.ensures.deps c.args.app))
