use Rattle.std.proofs.Common.{◌≡◌, ◌++◌, [], List, All, deque_len}
use Rattle.std.specs.List.{AllZip}
use Rattle.rh_explore.specs.declared.families.Family.{Family}
use Rattle.rh_explore.specs.Exploring.{scope_of}
use Rattle.rh_explore.specs.Families.{knowing, waiting_in, IsFamily, ExpandsSo}
use Rattle.rh_explore.specs.Workers.{IsIdle}
use Rattle.rh_explore.proofs.worker.expand_piece.Given as goal

abbrev pub invariant-families : goal.invariant-families
invariant-families l = record {
  idle : IsIdle l.worker;
  entered : l.worker.entered.edits.items ≡ [];
  families : All IsFamily l.rest.items;
  done : (done : List Family) × (l.fn.piece.items ≡ done ++ l.rest.items)
      × AllZip (ExpandsSo (scope_of l.search) l.search.asks.now (knowing l.known)) (waiting_in l.search.pick done) l.expansions.items;
}

abbrev pub decreases-families : goal.decreases-families
decreases-families l = deque_len l.rest
