use Rattle.std.proofs.Common.{◌++◌, List, length, drop, All, inl, inr, refl, sym, ap, ◌∙◌, subst, arith}
use Rattle.std.proofs.lemmas.Bool.{cases_lt}
use Rattle.std.proofs.lemmas.List.{length_push}
use Rattle.std.proofs.lemmas.List.Elements.{All-nil, All-push, All-head, All-tail}
use Rattle.rh_state.specs.StateView.{StateView}
use Rattle.rh_explore.specs.declared.families.Family.{Family}
use Rattle.rh_explore.specs.Families.{children, waiting_in, IsFamily}
use Rattle.rh_explore.proofs.FrontLists.{flat_on}
use Rattle.rh_explore.proofs.Popped.{first_is, none_left}
use Rattle.rh_explore.proofs.families.Front.take_piece.Goals as goal

pub families-init : goal.families-init
families-init c =
    let none = c.new-piece.ensures.items in
    record {
      piece = subst (All IsFamily) (sym none) (All-nil IsFamily);
      families = c.requires.families;
      next = refl;
      waiting = λ pick. ap (λ (fs : List Family). waiting_in pick fs ++ waiting_in pick c.args.self.now.families.items) (sym none);
      room = omega arith;
      begun = λ same. refl;
      some = λ less. absurd (omega (arith, less));
    }

pub first_of-requires-clause-family : goal.first_of-requires-clause-family
first_of-requires-clause-family c =
    let left = c.pop_front.new.self.items in
    let first = first_is c.families.self.families.items left c.pop_front.result c.in-Some.family c.pop_front.ensures.items c.in-Some.is in
    All-head IsFamily c.in-Some.family left (subst (All IsFamily) first c.families.invariant.families)

pub first_of-requires-clause-families : goal.first_of-requires-clause-families
first_of-requires-clause-families c =
    let left = c.pop_front.new.self.items in
    let first = first_is c.families.self.families.items left c.pop_front.result c.in-Some.family c.pop_front.ensures.items c.in-Some.is in
    All-tail IsFamily c.in-Some.family left (subst (All IsFamily) first c.families.invariant.families)

pub families-preserved : goal.families-preserved
families-preserved c =
    let i = c.families.invariant in
    let left = c.pop_front.new.self.items in
    let first = first_is c.families.self.families.items left c.pop_front.result c.in-Some.family c.pop_front.ensures.items c.in-Some.is in
    let old : List Family = c.families.piece.items in
    let part : Family = c.in_ok-part.part in
    let more = c.in_ok-push_back.ensures.items in
    let some = c.in_ok-part.ensures.part.some in
    let most = c.in_ok-part.ensures.most in
    record {
      piece = subst (All IsFamily) (sym more) (All-push IsFamily old part i.piece c.in_ok-part.ensures.part);
      families = c.in_ok-part.ensures.families;
      next = c.in_ok-part.ensures.next ∙ i.next;
      waiting = λ pick.
          let rest = waiting_in pick c.first_of.new.self.families.items in
          i.waiting pick
          ∙ ap (λ (l : List StateView). waiting_in pick old ++ l) (ap (waiting_in pick) first ∙ c.in_ok-part.ensures.waiting pick)
          ∙ flat_on (children pick) old part rest
          ∙ ap (λ (fs : List Family). waiting_in pick fs ++ rest) (sym more);
      room = omega (arith, i.room);
      begun = λ same. absurd (omega (arith, same, i.room, some, most, c.len-room.ensures));
      some = λ less. omega (arith, ap (λ (fs : List Family). length fs) more, length_push old part);
    }

pub families-smaller : goal.families-smaller
families-smaller c = omega (arith, c.in_ok-part.ensures.part.some, c.in_ok-part.ensures.most, c.len-room.ensures)

pub returns-in_default-clause-some : goal.returns-in_default-clause-some
returns-in_default-clause-some c = λ some.
    let i = c.families.invariant in
    let none = none_left c.families.self.families.items c.pop_front.new.self.items c.pop_front.result c.pop_front.ensures.items c.pop_front.ensures.rest c.in_default.is in
    elim (cases_lt c.families.room c.args.most) [
      | inl l ↦ i.some l
      | inr l ↦
          let same = i.begun (omega (arith, l, i.room)) in
          absurd (omega (arith, some, ap (λ (fs : List Family). length fs) (sym same ∙ none)))
    ]

pub returns-in_default-clause-waiting : goal.returns-in_default-clause-waiting
returns-in_default-clause-waiting c = λ pick.
    let none = none_left c.families.self.families.items c.pop_front.new.self.items c.pop_front.result c.pop_front.ensures.items c.pop_front.ensures.rest c.in_default.is in
    c.families.invariant.waiting pick
    ∙ ap (λ (fs : List Family). waiting_in pick c.families.piece.items ++ waiting_in pick fs) (none ∙ sym (c.pop_front.ensures.rest ∙ ap (drop 1) none))

pub returns-in_default-clause-families : goal.returns-in_default-clause-families
returns-in_default-clause-families c =
    let none = none_left c.families.self.families.items c.pop_front.new.self.items c.pop_front.result c.pop_front.ensures.items c.pop_front.ensures.rest c.in_default.is in
    subst (All IsFamily) (sym (c.pop_front.ensures.rest ∙ ap (drop 1) none)) (All-nil IsFamily)

pub returns-clause-some : goal.returns-clause-some
returns-clause-some c = λ some. c.families.invariant.some (omega (arith, c.families-test.false, c.requires.most))
