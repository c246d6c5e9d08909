use Rattle.rh_story_laws.proofs.Verified.{whole_stories_hold, only_reports_differ}
use Rattle.rh_story_laws.proofs.laws.whole_stories_hold.Goals as goal

pub returns-clause-hold : goal.returns-clause-hold
returns-clause-hold _ = whole_stories_hold

pub returns-clause-reports : goal.returns-clause-reports
returns-clause-reports _ = only_reports_differ
