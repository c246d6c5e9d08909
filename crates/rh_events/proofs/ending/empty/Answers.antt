use Rattle.std.proofs.Common.{◌<◌, sym, ap, ◌∙◌, subst, arith}
use Rattle.rh_state.specs.StateView.{StateView}
use Rattle.rh_state.specs.Stored.{read}
use Rattle.rh_trace.proofs.Ways.{silent_more, goes_more}
use Rattle.rh_rules.specs.NodesEnd.{emptied}
use Rattle.rh_events.proofs.Emptying.{how_many, one_less, emptied_unlisted, empty_already, started_some, none_of_default}
use Rattle.rh_trace.proofs.FewStarted.{few_started}
use Rattle.rh_events.proofs.ending.empty.Goals as goal

pub started-smaller : goal.started-smaller
started-smaller c =
    let s = read c.started.state in
    subst (λ (t : StateView). how_many t c.args.node < how_many s c.args.node) (sym c.in_ok-unlink.ensures.part)
    (one_less s c.args.node c.in-Some.app (started_some s c.args.node c.first_started.result c.in-Some.app c.first_started.ensures.started c.in-Some.is))

pub started-preserved : goal.started-preserved
started-preserved c =
    let s = read c.started.state in
    let left = ap (λ (t : StateView). how_many t c.args.node) c.in_ok-unlink.ensures.part in
    let less = one_less s c.args.node c.in-Some.app
    (started_some s c.args.node c.first_started.result c.in-Some.app c.first_started.ensures.started c.in-Some.is) in
    record {
      emptied = ap (λ s. emptied s c.args.node) c.in_ok-unlink.ensures.part
          ∙ emptied_unlisted (read c.started.state) c.args.node c.in-Some.app ∙ c.started.invariant.emptied;
      cluster = ap (λ (s : StateView). s.cluster) c.in_ok-unlink.ensures.part ∙ c.started.invariant.cluster;
      silent = silent_more _ _ _ c.started.invariant.silent c.in_ok-unlink.ensures.silent;
      way = goes_more _ _ _ _ _ _ c.started.invariant.way c.in_ok-unlink.ensures.way;
      few = omega (arith, left, less, c.started.invariant.few, c.in_ok-unlink.ensures.few);
    }

pub returns-clause-part : goal.returns-clause-part
returns-clause-part c =
    let none = c.first_started.ensures.none.0 (none_of_default c.first_started.result c.in_default.not-Some) in
    sym (empty_already (read c.started.state) c.args.node none.0 none.1) ∙ c.started.invariant.emptied

pub returns-clause-few : goal.returns-clause-few
returns-clause-few c =
    let most = few_started (read c.args.state.now) c.args.node c.formed.ensures.shape c.formed.ensures.once in
    omega (arith, most, c.started.invariant.few)
