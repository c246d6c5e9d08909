use Rattle.rh_story_laws.proofs.HeadAgain.{story_of_a_story_is_itself}
use Rattle.rh_story_laws.proofs.laws.story_of_a_story_is_itself.Goals as goal

pub returns : goal.returns
returns c = story_of_a_story_is_itself
