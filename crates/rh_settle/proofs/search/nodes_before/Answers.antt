use Rattle.std.proofs.Common.{sym, ap, ◌∙◌, refl}
use Rattle.std.specs.List.{list_any}
use Rattle.std.proofs.lemmas.List.{take_all}
use Rattle.rh_model.specs.ClusterView.{is_in}
use Rattle.rh_settle.proofs.GroupWalks.{before_here, before_none}
use Rattle.rh_settle.proofs.search.nodes_before.Goals as goal

pub returns-in-None : goal.returns-in-None
returns-in-None c = λ n.
    let here = ap (is_in c.args.from) (sym c.group-item.is ∙ sym c.as_slice.ensures) ∙ c.in-None.ensures.here refl in
    c.groups.invariant.nodes n
    ∙ sym (before_here (is_in n) (is_in c.args.from) c.args.groups.now c.groups.group-index c.group-item.result c.groups-test.true c.groups.invariant.apart here)

pub returns : goal.returns
returns c = λ n.
    let all = take_all c.groups.group-index c.args.groups.now c.groups-test.false in
    c.groups.invariant.nodes n ∙ ap (list_any (is_in n)) all
    ∙ sym (before_none (is_in n) (is_in c.args.from) c.args.groups.now (sym (ap (list_any (is_in c.args.from)) all) ∙ c.groups.invariant.apart))
