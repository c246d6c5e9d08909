use Rattle.rh_wheel.proofs.Slots.{listed-empty}
use Rattle.rh_wheel.specs.Stored.{timer_count}
use Rattle.std.proofs.Common.{rules}
use Rattle.rh_wheel.proofs.wheel.Wheel.new.Goals as goal

pub returns-clause-count : goal.returns-clause-count
unfolding timer_count
returns-clause-count c = search rules

pub returns-clause-unarmed : goal.returns-clause-unarmed
returns-clause-unarmed c = listed-empty _ c.in_ok-slots.ensures.empty
