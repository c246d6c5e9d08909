use Rattle.std.proofs.Common.{rules}
use Rattle.rh_cluster.specs.Sections.{entry_faults}
use Rattle.rh_cluster.proofs.entries.check_entries.Goals as goal

pub returns-clause-finds : goal.returns-clause-finds
returns-clause-finds g c reads faults tells finds = c.check_list.ensures.finds (entry_faults reads faults) (search rules)
