use Rattle.rh_story_laws.proofs.Whole.{story_answers_are_runs}
use Rattle.rh_story_laws.proofs.laws.story_answers_are_runs.Goals as goal

pub returns : goal.returns
returns c = story_answers_are_runs
