use Rattle.std.proofs.Common.{◌+◌, ◌*◌, ap, ◌∙◌, arith}
use Rattle.rh_model.specs.ClusterView.{ClusterView, app_count}
use Rattle.rh_state.specs.Stored.{read}
use Rattle.rh_trace.specs.Counts.{FewEdits}
use Rattle.rh_trace.proofs.Counts.{on_ok_any}
use Rattle.rh_trace.proofs.Ways.{goes_more, goes_cluster}
use Rattle.rh_events.proofs.ending.clear.Goals as goal

pub returns-clause-way : goal.returns-clause-way
returns-clause-way c =
    goes_more _ _ _ _ _ _ c.in_ok-cancel_if_set.ensures.way
    (goes_more _ _ _ _ _ _ c.in_ok-empty.ensures.way (goes_more _ _ _ _ _ _ c.in_ok-configure.ensures.way c.set_mode.ensures.way))

pub returns-clause-few : goal.returns-clause-few
returns-clause-few c =
    let once = goes_cluster _ _ _ _ c.in_ok-cancel_if_set.ensures.way in
    let twice = goes_cluster _ _ _ _ c.in_ok-empty.ensures.way ∙ once in
    let emptied = ap (λ (v : ClusterView). app_count v) once in
    let configured = ap (λ (v : ClusterView). app_count v) twice in
    let few : FewEdits (2 + 2 * app_count (read c.args.state.now).cluster) c.args.trace.now c.set_mode.new.trace = omega (
      arith,
      emptied,
      configured,
      c.in_ok-cancel_if_set.ensures.few,
      c.in_ok-empty.ensures.few,
      c.in_ok-configure.ensures.few,
      c.set_mode.ensures.few,
    ) in
    on_ok_any c.set_mode.result few
