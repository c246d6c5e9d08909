use Rattle.std.proofs.Common.{◌≡◌, ◌++◌, ◌∷◌, [], List, All, refl, sym, ap, ◌∙◌, subst}
use Rattle.std.specs.List.{AllZip}
use Rattle.std.proofs.lemmas.List.{append_assoc, append-nil}
use Rattle.std.proofs.lemmas.List.Elements.{All-head, All-tail}
use Rattle.rh_state.specs.StateView.{StateView}
use Rattle.rh_explore.specs.declared.families.Family.{Family}
use Rattle.rh_explore.specs.declared.leads.Expansion.{Expansion}
use Rattle.rh_explore.specs.Exploring.{scope_of}
use Rattle.rh_explore.specs.Families.{knowing, children, waiting_in, IsFamily, ExpandsSo}
use Rattle.rh_explore.proofs.FrontLists.{flat_push}
use Rattle.rh_explore.proofs.Popped.{first_is, none_left}
use Rattle.rh_explore.proofs.Zips.{zip_append}
use Rattle.rh_explore.proofs.worker.expand_piece.Goals as goal

pub families-init : goal.families-init
families-init c =
    let s = c.args.search.now in
    let R = ExpandsSo (scope_of s) s.asks.now (knowing c.args.known.now) in
    record {
      idle = c.of-worker.ensures.idle;
      entered = c.of-worker.ensures.entered;
      families = c.requires.piece;
      done = ([], refl, subst (λ (xs : List Expansion). AllZip R [] xs) (sym c.new-expansions.ensures.items) tt);
    }

pub expand_family-requires-clause-family : goal.expand_family-requires-clause-family
expand_family-requires-clause-family c =
    let left = c.pop_front.new.self.items in
    let is = first_is c.families.rest.items left c.pop_front.result c.in-Some.family c.pop_front.ensures.items c.in-Some.is in
    All-head IsFamily c.in-Some.family left (subst (All IsFamily) is c.families.invariant.families)

pub families-preserved : goal.families-preserved
families-preserved c =
    let s = c.args.search.now in
    let R = ExpandsSo (scope_of s) s.asks.now (knowing c.args.known.now) in
    let family : Family = c.in-Some.family in
    let left = c.pop_front.new.self.items in
    let is = first_is c.families.rest.items left c.pop_front.result family c.pop_front.ensures.items c.in-Some.is in
    let done = c.families.invariant.done in
    let more = c.in_ok-expand_family.ensures.expansions in
    record {
      idle = c.in_ok-expand_family.ensures.idle;
      entered = c.in_ok-expand_family.ensures.entered;
      families = All-tail IsFamily family left (subst (All IsFamily) is c.families.invariant.families);
      done = (
        done.0 ++ family ∷ [],
        done.1 ∙ ap (λ (fs : List Family). done.0 ++ fs) is ∙ sym (append_assoc done.0 (family ∷ []) left),
        subst (λ (ss : List StateView). AllZip R ss c.expand_family.new.expansions.items) (sym (flat_push (children s.pick) done.0 family))
            (subst (λ (xs : List Expansion). AllZip R (waiting_in s.pick done.0 ++ children s.pick family) xs) (sym more.1)
            (zip_append R (waiting_in s.pick done.0) (children s.pick family) c.families.expansions.items more.0 done.2 more.2)),
      );
    }

pub returns : goal.returns
returns c =
    let s = c.args.search.now in
    let R = ExpandsSo (scope_of s) s.asks.now (knowing c.args.known.now) in
    let none = none_left c.families.rest.items c.pop_front.new.self.items c.pop_front.result c.pop_front.ensures.items c.pop_front.ensures.rest c.in_default.is in
    let done = c.families.invariant.done in
    let all : c.args.piece.items ≡ done.0 = done.1 ∙ ap (λ (fs : List Family). done.0 ++ fs) none ∙ append-nil done.0 in
    subst (λ (fs : List Family). AllZip R (waiting_in s.pick fs) c.families.expansions.items) (sym all) done.2
