use Rattle.std.proofs.Common.{sym, ap, ◌∙◌}
use Rattle.rh_cluster.specs.Shapes.{atoms}
use Rattle.rh_model.specs.Names.{is_among}
use Rattle.rh_cluster.proofs.MemberNames.{named_here, named_later}
use Rattle.rh_cluster.proofs.descriptions.repeats_member.Goals as goal

pub returns-then-repeats_atom : goal.returns-then-repeats_atom
returns-then-repeats_atom c =
    let here = ap (λ ts. is_among (atoms ts) c.args.name.now) (sym c.members.ensures) ∙ sym c.if-repeats_atom.ensures in
    sym (sym c.loop-group.invariant
    ∙ named_here c.args.groups.now c.loop-group.group-index c.group-item.result c.args.name.now c.loop-group-test.true c.group-item.is here)

pub loop-group-preserved : goal.loop-group-preserved
loop-group-preserved c =
    let here = ap (λ ts. is_among (atoms ts) c.args.name.now) (sym c.members.ensures) ∙ sym c.if-repeats_atom.ensures in
    named_later c.args.groups.now c.loop-group.group-index c.group-item.result c.args.name.now c.loop-group-test.true c.group-item.is here
    ∙ c.loop-group.invariant
