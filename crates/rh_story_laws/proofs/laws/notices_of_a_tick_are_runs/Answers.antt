use Rattle.rh_story_laws.proofs.Ticks.{notices_of_a_tick_are_runs}
use Rattle.rh_story_laws.proofs.laws.notices_of_a_tick_are_runs.Goals as goal

pub returns : goal.returns
returns c = notices_of_a_tick_are_runs
