use Rattle.std.proofs.Common.{sym, ap, ◌∙◌, arith}
use Rattle.rh_model.specs.ClusterView.{ClusterView, app_count}
use Rattle.rh_state.specs.Stored.{read}
use Rattle.rh_explore.proofs.Asked.{no_such_app}
use Rattle.rh_explore.proofs.asking.runs_at.Goals as goal

pub returns-then-app-apps : goal.returns-then-app-apps
returns-then-app-apps c =
    let count = c.app_count-apps.ensures.count ∙ ap (λ (k : ClusterView). app_count k) c.cluster-cluster.ensures in
    let past = c.if-app-apps.true in
    sym (no_such_app (read c.args.state.now) c.args.node c.args.app c.formed.ensures.shape (omega (arith, count, past)))
