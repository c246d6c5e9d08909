use Rattle.std.proofs.Common.{map}
use Rattle.rh_script.specs.Lines.{raw_lines, content}
use Rattle.rh_explore_text.specs.SearchLines.{search_lines_asked, bad_search_line}
use Rattle.rh_explore_text.specs.SearchReading.{search_view}
use Rattle.rh_explore_text.proofs.Finding.{lines_told}
use Rattle.rh_explore_text.proofs.exploring.answer_script.Goals as goal

pub returns-in-Search : goal.returns-in-Search
returns-in-Search g c =
    let lines = search_lines_asked c.args.cluster (map content (raw_lines c.args.script.now)) in
    let read = rw c.in-Search.is at c.in_ok-number.ensures in
    lines_told c.answer_search.result c.args.cluster c.args.pick c.args.room lines (bad_search_line lines) (search_view c.in-Search.search)
    read.0 read.1 c.answer_search.ensures
