use Rattle.std.proofs.Common.{◌∙◌, List, ℕ, Ok, sym, ap}
use Rattle.rh_script.specs.Lines.{script_lines}
use Rattle.rh_explore_text.specs.SearchLines.{search_lines_asked, bad_search_line, search_of}
use Rattle.rh_explore_text.specs.SearchReading.{search_view}
use Rattle.rh_explore_text.proofs.KnownTold.{bad_told, search_told}
use Rattle.rh_explore_text.proofs.searching.finding_in.Goals as goal

pub returns-in-BadLine-clause-may : goal.returns-in-BadLine-clause-may
returns-in-BadLine-clause-may g c =
    let cluster = c.args.cluster in
    let bytes = c.args.input.now in
    let read = rw c.in-BadLine.is at c.in_ok-number.ensures in
    let is = ap (λ (ls : List (List ℕ)). bad_search_line (search_lines_asked cluster ls)) (sym c.cut.ensures.script) ∙ read in
    bad_told cluster c.args.pick c.args.room bytes (bad_search_line (search_lines_asked cluster (script_lines bytes))) c.in-BadLine.number c.requires.cluster is

pub returns-in_ok-searched-in-Search-clause-may : goal.returns-in_ok-searched-in-Search-clause-may
returns-in_ok-searched-in-Search-clause-may g c =
    let cluster = c.args.cluster in
    let bytes = c.args.input.now in
    let it = c.in_ok-searched-in-Search.searched in
    let read = rw c.in-Search.is at c.in_ok-number.ensures in
    let same = ap (search_lines_asked cluster) c.cut.ensures.script in
    let none = ap bad_search_line (sym same) ∙ read.0 in
    search_told cluster c.args.pick c.args.room bytes (bad_search_line (search_lines_asked cluster (script_lines bytes))) it none
    (ap search_view c.in_ok-searched-in-Search.ensures.search ∙ read.1 ∙ ap (search_of cluster) same) c.in_ok-searched-in-Search.ensures.base c.in_ok-searched-in-Search.ensures.cluster
    c.in_ok-searched-in-Search.ensures.found

pub returns-in_ok-searched-in-Search-clause-told : goal.returns-in_ok-searched-in-Search-clause-told
returns-in_ok-searched-in-Search-clause-told g c =
    (c.requires.cluster ∙ ap Ok (sym c.in_ok-searched-in-Search.ensures.cluster), c.in_ok-searched-in-Search.ensures.come)
