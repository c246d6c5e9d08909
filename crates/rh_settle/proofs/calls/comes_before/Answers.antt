use Rattle.std.proofs.Common.{sym, ap, ◌∙◌}
use Rattle.std.specs.List.{list_any}
use Rattle.std.proofs.lemmas.List.{take_all}
use Rattle.rh_model.specs.ClusterView.{is_in}
use Rattle.rh_settle.proofs.Callers.{comes_first}
use Rattle.rh_settle.proofs.GroupWalks.{before_here, before_none}
use Rattle.rh_settle.proofs.calls.comes_before.Goals as goal

pub returns-then-is_in : goal.returns-then-is_in
returns-then-is_in c =
    let here = ap (is_in c.args.other) (sym c.group-item.is ∙ sym c.as_slice.ensures) ∙ sym c.is_in.ensures ∙ c.if-is_in.true in
    sym (before_here (is_in c.args.node) (is_in c.args.other) c.args.groups.now c.groups.group-index c.group-item.result c.groups-test.true c.groups.invariant.other here
    ∙ c.groups.invariant.node)

pub returns-then-is_in-2 : goal.returns-then-is_in-2
returns-then-is_in-2 c =
    let other = ap (is_in c.args.other) (sym c.group-item.is ∙ sym c.as_slice.ensures) ∙ sym c.is_in.ensures ∙ c.if-is_in.false in
    let here = ap (is_in c.args.node) (sym c.group-item.is ∙ sym c.as_slice-in-groups.ensures) ∙ sym c.is_in-in-groups.ensures ∙ c.if-is_in-2.true in
    sym (comes_first (is_in c.args.node) (is_in c.args.other) c.args.groups.now c.groups.group-index c.group-item.result c.groups-test.true
    c.groups.invariant.other other here)

pub returns : goal.returns
returns c =
    let all = take_all c.groups.group-index c.args.groups.now c.groups-test.false in
    sym (before_none (is_in c.args.node) (is_in c.args.other) c.args.groups.now (sym (ap (list_any (is_in c.args.other)) all) ∙ c.groups.invariant.other)
    ∙ sym (ap (list_any (is_in c.args.node)) all) ∙ c.groups.invariant.node)
