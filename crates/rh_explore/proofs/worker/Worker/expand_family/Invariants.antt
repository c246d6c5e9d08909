use Rattle.std.proofs.Common.{◌≡◌, [], take}
use Rattle.rh_explore.specs.Exploring.{scope_of}
use Rattle.rh_explore.specs.Families.{knowing, ExpandsSo}
use Rattle.rh_explore.specs.Workers.{IsIdle}
use Rattle.rh_explore.proofs.Leading.{AreExpanded}
use Rattle.rh_explore.proofs.worker.Worker.expand_family.Given as goal

abbrev pub invariant-events : goal.invariant-events
invariant-events l = record {
  same : l.event-items ≡ l.fn.family.events.items;
  state : l.state ≡ l.fn.family.state.value;
  idle : IsIdle l.self;
  entered : l.self.entered.edits.items ≡ [];
  expanded : AreExpanded (ExpandsSo (scope_of l.search) l.search.asks.now (knowing l.known)) l.search.pick l.fn.family.state.value
      (take l.event-index l.fn.family.events.items) l.fn.expansions.items l.expansions.items;
}
