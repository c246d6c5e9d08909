use Rattle.std.proofs.Common.{◌≡◌, ◌<◌, refl, ap, ◌∙◌, arith}
use Rattle.rh_model.specs.ClusterView.{ClusterView, app_count, app_numbered, is_permitted}
use Rattle.rh_state.specs.StateView.{StateView}
use Rattle.rh_state.specs.Setters.{with_allowed}
use Rattle.rh_state.specs.Stored.{read}
use Rattle.rh_trace.proofs.Ways.{silent_more, goes_none, goes_more}
use Rattle.rh_events.proofs.Configuring.{already_configured, with_first, none_written, one_written, all_written}
use Rattle.rh_events.proofs.ending.configure.Goals as goal

pub apps-init : goal.apps-init
apps-init c = record { cluster = refl; written = none_written (read c.args.state.now) c.args.node; silent = record { notices = refl; marked = refl; freed = refl }; way = goes_none _ _; few = omega arith }

pub apps-preserved : goal.apps-preserved
apps-preserved c =
    let s = read c.args.state.now in
    let n = c.args.node in
    let i = c.apps.number in
    let count = c.app_count-count.ensures.count ∙ ap (λ (k : ClusterView). app_count k) c.cluster.ensures in
    let lt : i < app_count s.cluster = omega (arith, count, c.apps-test.true) in
    record {
      cluster = ap (λ (t : StateView). t.cluster) c.in_ok-configure_app.ensures.part ∙ c.apps.invariant.cluster;
      written = c.in_ok-configure_app.ensures.part
          ∙ ap (λ (t : StateView). with_allowed t n (app_numbered i) (is_permitted t.cluster n (app_numbered i))) c.apps.invariant.written
          ∙ one_written s n c.formed.ensures.shape c.requires i lt;
      silent = silent_more _ _ _ c.apps.invariant.silent c.in_ok-configure_app.ensures.silent;
      way = goes_more _ _ _ _ _ _ c.apps.invariant.way c.in_ok-configure_app.ensures.way;
      few = omega (arith, c.apps.invariant.few, c.in_ok-configure_app.ensures.few);
    }

pub returns-clause-part : goal.returns-clause-part
returns-clause-part c =
    let s = read c.args.state.now in
    let count = c.app_count-count.ensures.count ∙ ap (λ (k : ClusterView). app_count k) c.cluster.ensures in
    let last : c.apps.number ≡ app_count s.cluster = omega (arith, count, c.apps-test.false, c.apps.auto.number-end) in
    c.apps.invariant.written ∙ ap (with_first s c.args.node) last ∙ all_written s c.args.node c.formed.ensures.shape c.requires

pub returns-clause-few : goal.returns-clause-few
returns-clause-few c =
    let count = c.app_count-count.ensures.count ∙ ap (λ (k : ClusterView). app_count k) c.cluster.ensures in
    omega (arith, count, c.apps.auto.number-end, c.apps.invariant.few)

pub returns-then-is_configured-clause-part : goal.returns-then-is_configured-clause-part
returns-then-is_configured-clause-part c = already_configured (read c.args.state.now) c.args.node (c.is_configured.ensures.0 c.if-is_configured.true)
