use Rattle.std.proofs.Common.{◌≡◌, ◌++◌, [], length}
use Rattle.std.specs.List.{flat_map}
use Rattle.rh_state.specs.Records.{Grows}
use Rattle.rh_state.specs.Stored.{read}
use Rattle.rh_state.specs.Formed.{IsFormed}
use Rattle.rh_keys.specs.Codes.{code}
use Rattle.rh_keys.specs.Keys.{timer_numbers}
use Rattle.rh_keys.proofs.TimersOff.{IsOnce}
use Rattle.rh_keys.proofs.making.push_timers.Given as goal

abbrev pub invariant-timers : goal.invariant-timers
invariant-timers l = record {
  grown : Grows l.fn.state [] l.state l.taken.items;
  formed : IsFormed l.state;
  once : IsOnce (read l.state).timers;
  told : l.key.items ++ code (flat_map (timer_numbers l.now) (read l.state).timers) ≡ l.fn.key.items ++ code (flat_map (timer_numbers l.now) (read l.fn.state).timers);
}

abbrev pub decreases-timers : goal.decreases-timers
decreases-timers l = length (read l.state).timers
