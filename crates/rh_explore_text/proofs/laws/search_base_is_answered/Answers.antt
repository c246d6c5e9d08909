use Rattle.rh_explore_text.proofs.SearchBase.{search_base_is_answered}
use Rattle.rh_explore_text.proofs.laws.search_base_is_answered.Goals as goal

pub returns : goal.returns
returns c = search_base_is_answered
