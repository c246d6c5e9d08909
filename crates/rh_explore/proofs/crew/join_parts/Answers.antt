use Rattle.std.proofs.Common.{◌≡◌, ◌++◌, ◌∷◌, [], List, Result, IsOk, is_ok, All, Global, sym, ap, ◌∙◌, subst}
use Rattle.std.specs.List.{flat_map}
use Rattle.std.specs.declared.collections.VecDeque.{VecDeque}
use Rattle.std.proofs.lemmas.List.{append_assoc, append-nil}
use Rattle.std.proofs.lemmas.List.Elements.{All-nil, All-push}
use Rattle.rh_base.specs.declared.memory.OutOfMemory.{OutOfMemory}
use Rattle.rh_explore.specs.declared.leads.Expansion.{Expansion}
use Rattle.rh_explore.specs.Families.{part_items}
use Rattle.rh_explore.proofs.FrontLists.{flat_push}
use Rattle.rh_explore.proofs.Popped.{first_is, none_left}
use Rattle.rh_explore.proofs.crew.join_parts.Goals as goal

abbrev Part : Type 0
Part = Result (VecDeque Expansion Global) OutOfMemory

pub parts-init : goal.parts-init
parts-init c = ([], sym c.from-rest.ensures.0, All-nil (λ (r : Part). IsOk r), c.new-all.ensures.items)

pub parts-preserved : goal.parts-preserved
parts-preserved c =
    let part : Part = c.in-Some.part in
    let left = c.pop_front.new.self.items in
    let is = first_is c.parts.rest.items left c.pop_front.result part c.pop_front.ensures.items c.in-Some.is in
    let done = c.parts.invariant in
    let more = c.in_ok-expansions.expansions.items in
    let was = c.in_ok-expansions.was in (
      done.0 ++ part ∷ [],
      done.1 ∙ ap (λ (ps : List Part). done.0 ++ ps) is ∙ sym (append_assoc done.0 (part ∷ []) left),
      All-push (λ (r : Part). IsOk r) done.0 part done.2 (ap (λ (r : Part). is_ok r) was),
      c.in_ok-append.ensures.items
          ∙ ap (λ (xs : List Expansion). xs ++ more) done.3
          ∙ ap (λ (xs : List Expansion). flat_map part_items done.0 ++ xs) (sym (ap part_items was))
          ∙ sym (flat_push part_items done.0 part),
    )

pub returns-clause-whole : goal.returns-clause-whole
returns-clause-whole c =
    let none = none_left c.parts.rest.items c.pop_front.new.self.items c.pop_front.result c.pop_front.ensures.items c.pop_front.ensures.rest c.in_default.is in
    let done = c.parts.invariant in
    let all : c.args.parts.items ≡ done.0 = done.1 ∙ ap (λ (ps : List Part). done.0 ++ ps) none ∙ append-nil done.0 in
    subst (λ (ps : List Part). All IsOk ps) (sym all) done.2

pub returns-clause-all : goal.returns-clause-all
returns-clause-all c =
    let none = none_left c.parts.rest.items c.pop_front.new.self.items c.pop_front.result c.pop_front.ensures.items c.pop_front.ensures.rest c.in_default.is in
    let done = c.parts.invariant in
    let all : c.args.parts.items ≡ done.0 = done.1 ∙ ap (λ (ps : List Part). done.0 ++ ps) none ∙ append-nil done.0 in
    done.3 ∙ ap (flat_map part_items) (sym all)
