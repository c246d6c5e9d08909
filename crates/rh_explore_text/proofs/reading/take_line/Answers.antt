use Rattle.rh_explore_text.specs.SearchReading.{search_view}
use Rattle.rh_explore_text.proofs.SearchRead.{plain_taken}
use Rattle.rh_explore_text.proofs.reading.take_line.Goals as goal

pub returns-in-Plain-clause-taken : goal.returns-in-Plain-clause-taken
returns-in-Plain-clause-taken c =
    plain_taken c.take_plain.result c.args.cluster.now (search_view c.args.search.now) (search_view c.take_plain.new.search) c.args.asked c.in-Plain.line
    c.in-Plain.is c.take_plain.ensures.taken
