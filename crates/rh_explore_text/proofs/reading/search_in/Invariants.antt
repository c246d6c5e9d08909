use Rattle.std.proofs.Common.{◌≡◌, ◌≤◌, ◌+◌, length, map, false}
use Rattle.rh_script.specs.Lines.{raw_lines, content}
use Rattle.rh_script.specs.Fitting.{first_unfit}
use Rattle.rh_explore_text.specs.SearchLines.{search_lines_asked, fits_search, begun_by, search_of}
use Rattle.rh_explore_text.specs.SearchReading.{search_view, read_on}
use Rattle.rh_explore_text.proofs.reading.search_in.Given as goal

abbrev pub invariant-lines : goal.invariant-lines
invariant-lines l = record {
  fit : first_unfit fits_search begun_by 1 false (search_lines_asked l.cluster (map content (raw_lines l.script)))
      ≡ first_unfit fits_search begun_by l.number l.search.begun (search_lines_asked l.cluster (map content (raw_lines l.rest)));
  read : search_of l.cluster (search_lines_asked l.cluster (map content (raw_lines l.script)))
      ≡ read_on l.cluster (search_view l.search) (search_lines_asked l.cluster (map content (raw_lines l.rest)));
  count : l.number + length l.rest ≤ length l.script + 1;
}

abbrev pub decreases-lines : goal.decreases-lines
decreases-lines l = length l.rest
