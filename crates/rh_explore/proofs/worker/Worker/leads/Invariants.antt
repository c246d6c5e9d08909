use Rattle.std.proofs.Common.{◌≡◌, take}
use Rattle.rh_state.specs.Stored.{read}
use Rattle.rh_explore.specs.Exploring.{scope_of}
use Rattle.rh_explore.specs.Families.{knowing, LeadsSo, AreLeads}
use Rattle.rh_explore.specs.Workers.{IsIdle}
use Rattle.rh_explore.proofs.worker.Worker.leads.Given as goal

abbrev pub invariant-moves : goal.invariant-moves
invariant-moves l = record {
  state : l.state ≡ l.fn.state;
  idle : IsIdle l.self;
  entered : l.self.entered ≡ l.fn.self.entered;
  leads : AreLeads (LeadsSo (scope_of l.search) l.search.asks.now (knowing l.known) (read l.fn.state)) (take l.one-index l.search.moves.now) l.leads.items;
}
