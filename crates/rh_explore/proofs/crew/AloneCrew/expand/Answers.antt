use Rattle.std.proofs.Common.{◌≡◌, ◌++◌, ◌∷◌, [], List, Global, sym, ap, ◌∙◌, subst}
use Rattle.std.specs.List.{AllZip, flat_map}
use Rattle.std.specs.declared.collections.VecDeque.{VecDeque}
use Rattle.std.proofs.lemmas.List.{append_assoc, append-nil}
use Rattle.std.proofs.lemmas.List.Elements.{All-head, All-tail}
use Rattle.rh_state.specs.StateView.{StateView}
use Rattle.rh_explore.specs.declared.families.Family.{Family}
use Rattle.rh_explore.specs.declared.leads.Expansion.{Expansion}
use Rattle.rh_explore.specs.Exploring.{scope_of}
use Rattle.rh_explore.specs.Families.{knowing, piece_waiting, IsPiece, ArePieces, ExpandsSo}
use Rattle.rh_explore.proofs.FrontLists.{flat_push}
use Rattle.rh_explore.proofs.Popped.{first_is, none_left}
use Rattle.rh_explore.proofs.Zips.{zip_append}
use Rattle.rh_explore.proofs.crew.AloneCrew.expand.Goals as goal

abbrev Pieces : Type 0
Pieces = List (VecDeque Family Global)

pub pieces-init : goal.pieces-init
pieces-init c =
    let s = c.args.search.now in
    let R = ExpandsSo (scope_of s) s.asks.now (knowing c.args.known.now) in
    record {
      pieces = subst ArePieces (sym c.from-rest.ensures.0) c.requires.pieces;
      done = ([], sym c.from-rest.ensures.0, subst (λ (xs : List Expansion). AllZip R [] xs) (sym c.new-all.ensures.items) tt);
    }

pub expand_piece-requires-clause-piece : goal.expand_piece-requires-clause-piece
expand_piece-requires-clause-piece c =
    let left = c.pop_front.new.self.items in
    let is = first_is c.pieces.rest.items left c.pop_front.result c.in-Some.piece c.pop_front.ensures.items c.in-Some.is in
    All-head IsPiece c.in-Some.piece left (subst ArePieces is c.pieces.invariant.pieces)

pub pieces-preserved : goal.pieces-preserved
pieces-preserved c =
    let s = c.args.search.now in
    let R = ExpandsSo (scope_of s) s.asks.now (knowing c.args.known.now) in
    let piece : VecDeque Family Global = c.in-Some.piece in
    let left = c.pop_front.new.self.items in
    let is = first_is c.pieces.rest.items left c.pop_front.result piece c.pop_front.ensures.items c.in-Some.is in
    let done = c.pieces.invariant.done in
    let f = piece_waiting s.pick in
    let more = c.in_ok-expansions.expansions.items in
    record {
      pieces = All-tail IsPiece piece left (subst ArePieces is c.pieces.invariant.pieces);
      done = (
        done.0 ++ piece ∷ [],
        done.1 ∙ ap (λ (ps : Pieces). done.0 ++ ps) is ∙ sym (append_assoc done.0 (piece ∷ []) left),
        subst (λ (ss : List StateView). AllZip R ss c.append.new.self.items) (sym (flat_push f done.0 piece))
            (subst (λ (xs : List Expansion). AllZip R (flat_map f done.0 ++ f piece) xs) (sym c.in_ok-append.ensures.items)
            (zip_append R (flat_map f done.0) (f piece) c.pieces.all.items more done.2 c.in_ok-expansions.ensures)),
      );
    }

pub returns : goal.returns
returns c =
    let s = c.args.search.now in
    let R = ExpandsSo (scope_of s) s.asks.now (knowing c.args.known.now) in
    let none = none_left c.pieces.rest.items c.pop_front.new.self.items c.pop_front.result c.pop_front.ensures.items c.pop_front.ensures.rest c.in_default.is in
    let done = c.pieces.invariant.done in
    let all : c.args.pieces.items ≡ done.0 = done.1 ∙ ap (λ (ps : Pieces). done.0 ++ ps) none ∙ append-nil done.0 in
    subst (λ (ps : Pieces). AllZip R (flat_map (piece_waiting s.pick) ps) c.pieces.all.items) (sym all) done.2
