use Rattle.std.proofs.Common.{◌++◌, List, All, sym, ap, ◌∙◌, subst, arith}
use Rattle.std.proofs.lemmas.List.Elements.{All-cons}
use Rattle.rh_explore.specs.declared.families.Family.{Family}
use Rattle.rh_explore.specs.Families.{children, waiting_in, IsFamily}
use Rattle.rh_explore.proofs.FrontLists.{first_part, other_part, parts_wait}
use Rattle.rh_explore.proofs.families.Front.first_of.Goals as goal

pub returns-clause-part : goal.returns-clause-part
returns-clause-part c =
    first_part c.args.family c.requires.family c.args.most c.split_off.new.self c.in_ok-rest.ensures.items c.requires.most

pub returns-clause-waiting : goal.returns-clause-waiting
returns-clause-waiting c = λ pick.
    let family : Family = c.args.family in
    let rest = waiting_in pick c.args.self.now.families.items in
    parts_wait family c.requires.family c.args.most pick c.split_off.new.self.items c.in_ok-rest.rest.items c.in_ok-other.other.value rest c.in_ok-rest.ensures.items
    c.in_ok-rest.ensures.tail (c.in_ok-other.ensures.ok ∙ c.in_ok-copy.ensures ∙ c.deref.ensures)
    ∙ ap (λ (fs : List Family). children pick (record { state = family.state; events = c.split_off.new.self }) ++ waiting_in pick fs) (sym c.in_ok-push_front.ensures.items)

pub returns-clause-families : goal.returns-clause-families
returns-clause-families c =
    let family : Family = c.args.family in
    let other : Family = record { state = c.in_ok-other.other; events = c.in_ok-rest.rest } in
    subst (All IsFamily) (sym c.in_ok-push_front.ensures.items)
    (All-cons IsFamily other c.args.self.now.families.items
    (other_part family c.requires.family c.args.most c.in_ok-other.other c.in_ok-rest.rest (c.in_ok-other.ensures.ok ∙ c.in_ok-copy.ensures ∙ c.deref.ensures) c.in_ok-rest.ensures.tail
    (omega (arith, c.if-len-most.false, c.len.ensures)))
    c.requires.families)
