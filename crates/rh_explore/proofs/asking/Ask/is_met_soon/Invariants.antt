use Rattle.std.proofs.Common.{◌≡◌, [], false, take}
use Rattle.std.specs.List.{list_any}
use Rattle.rh_state.specs.Stored.{read}
use Rattle.rh_explore.specs.Asking.{is_met_at}
use Rattle.rh_explore.proofs.asking.Ask.is_met_soon.Given as goal

abbrev pub invariant-timers : goal.invariant-timers
invariant-timers l = record {
  state : l.state ≡ l.fn.state;
  none : l.trial.edits.items ≡ [];
  unmet : list_any (is_met_at l.pick l.self l.ms (read l.fn.state)) (take l.entry-index l.entry-items) ≡ false;
  same : l.entry-items ≡ (read l.fn.state).timers;
}
