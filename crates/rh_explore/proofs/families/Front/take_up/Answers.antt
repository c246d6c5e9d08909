use Rattle.std.proofs.Common.{◌++◌, List, length, inl, inr, refl, sym, ap, ◌∙◌, subst, arith, Global}
use Rattle.std.specs.List.{flat_map}
use Rattle.std.specs.declared.collections.VecDeque.{VecDeque}
use Rattle.std.proofs.lemmas.Bool.{cases_lt}
use Rattle.std.proofs.lemmas.List.Elements.{All-nil, All-push}
use Rattle.rh_state.specs.StateView.{StateView}
use Rattle.rh_explore.specs.declared.families.Family.{Family}
use Rattle.rh_explore.specs.Families.{waiting_in, piece_waiting, IsPiece, ArePieces}
use Rattle.rh_explore.proofs.FrontLists.{flat_on, flat_long, some_wait}
use Rattle.rh_explore.proofs.families.Front.take_up.Goals as goal

abbrev Pieces : Type 0
Pieces = List (VecDeque Family Global)

pub pieces-init : goal.pieces-init
pieces-init c =
    let none = c.in_ok-pieces.ensures.items in
    record {
      pieces = subst ArePieces (sym none) (All-nil IsPiece);
      families = c.requires.families;
      next = refl;
      waiting = λ pick. ap (λ (ps : Pieces). flat_map (piece_waiting pick) ps ++ waiting_in pick c.args.self.now.families.items) (sym none);
      begun = λ zero. refl;
      some = λ some. absurd (omega (arith, some));
    }

pub pieces-preserved : goal.pieces-preserved
pieces-preserved c =
    let old : Pieces = c.pieces.pieces.items in
    let piece : VecDeque Family Global = c.in_ok-piece.piece in
    let i = c.pieces.invariant in
    let more = c.in_ok-push.ensures.items in
    record {
      pieces = subst ArePieces (sym more) (All-push IsPiece old piece i.pieces c.in_ok-piece.ensures.piece);
      families = c.in_ok-piece.ensures.families;
      next = c.in_ok-piece.ensures.next ∙ i.next;
      waiting = λ pick.
          let left = waiting_in pick c.take_piece.new.self.families.items in
          i.waiting pick
          ∙ ap (λ (l : List StateView). flat_map (piece_waiting pick) old ++ l) (c.in_ok-piece.ensures.waiting pick)
          ∙ flat_on (piece_waiting pick) old piece left
          ∙ ap (λ (ps : Pieces). flat_map (piece_waiting pick) ps ++ left) (sym more);
      begun = λ zero. absurd (omega (arith, zero));
      some = λ next pick.
          let long = flat_long (piece_waiting pick) old piece in
          let all = ap (λ (ps : Pieces). length (flat_map (piece_waiting pick) ps)) more in
          elim (cases_lt 0 c.pieces._number) [
            | inl l ↦ omega (arith, i.some l pick, long, all)
            | inr l ↦
                let first = ap (λ (fs : List Family). length fs) (i.begun (omega (arith, l))) in
                let some = c.in_ok-piece.ensures.some (omega (arith, first, c.requires.some)) in
                omega (arith, some_wait pick piece.items c.in_ok-piece.ensures.piece some, long, all)
          ];
    }

pub returns-clause-some : goal.returns-clause-some
returns-clause-some c = c.pieces.invariant.some (omega (arith, c.requires.count, c.pieces-test.false))
