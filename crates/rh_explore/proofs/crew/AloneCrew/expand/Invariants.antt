use Rattle.std.proofs.Common.{◌≡◌, ◌++◌, List, Global, deque_len}
use Rattle.std.specs.List.{AllZip, flat_map}
use Rattle.std.specs.declared.collections.VecDeque.{VecDeque}
use Rattle.rh_explore.specs.declared.families.Family.{Family}
use Rattle.rh_explore.specs.Exploring.{scope_of}
use Rattle.rh_explore.specs.Families.{knowing, piece_waiting, ArePieces, ExpandsSo}
use Rattle.rh_explore.proofs.crew.AloneCrew.expand.Given as goal

abbrev pub invariant-pieces : goal.invariant-pieces
invariant-pieces l = record {
  pieces : ArePieces l.rest.items;
  done : (done : List (VecDeque Family Global)) × (l.fn.pieces.items ≡ done ++ l.rest.items)
      × AllZip (ExpandsSo (scope_of l.search) l.search.asks.now (knowing l.known)) (flat_map (piece_waiting l.search.pick) done) l.all.items;
}

abbrev pub decreases-pieces : goal.decreases-pieces
decreases-pieces l = deque_len l.rest
