use Rattle.std.proofs.Common.{◌≡◌, ◌++◌, ℕ, List, None, map, subst, ap, ◌∙◌}
use Rattle.rh_model.specs.ClusterView.{ClusterView}
use Rattle.rh_script.specs.Lines.{raw_lines, content}
use Rattle.rh_otp_sim.specs.Laws.{behind}
use Rattle.rh_otp_sim.specs.Sim.{LiveSimView, opened}
use Rattle.rh_explore_text.specs.SearchLines.{search_lines_asked, bad_search_line, search_of}
use Rattle.rh_explore_text.specs.SearchReading.{search_view}
use Rattle.rh_otp_explore_text.specs.LiveExplore.{cluster_told, base_told}
use Rattle.rh_otp_explore_text.proofs.Searched.{lines_told}
use Rattle.rh_otp_explore_text.proofs.exploring.answer_script.Goals as goal

pub returns : goal.returns
returns c =
    let lines = map content (raw_lines c.args.script.now) in
    let sim : LiveSimView = opened c.args.cluster c.args.files.items c.args.order in
    let q = search_view c.in-Search.search in
    let calls = c.in-Search.search.base.items in
    let read = rw c.in-Search.is at c.in_ok-number.ensures in
    let same : c.cluster-2.result.now ≡ c.args.cluster =
    c.cluster-2.ensures ∙ ap (λ (s : LiveSimView). s.cluster) c.in_ok-sim.ensures in
    let fits : bad_search_line (search_lines_asked c.args.cluster lines) ≡ None =
    subst (λ (k : ClusterView). bad_search_line (search_lines_asked k lines) ≡ None) same read.0 in
    let asks : q ≡ search_of c.args.cluster (search_lines_asked c.args.cluster lines) =
    subst (λ (k : ClusterView). q ≡ search_of k (search_lines_asked k lines)) same read.1 in
    lines_told c.answer_search.result c.args.json c.args.lists sim c.answer_base.new.sim lines
    (bad_search_line (search_lines_asked c.args.cluster lines)) q c.answer_base.new.text.items fits asks
    (c.in_ok-answer_base-in-Search.ensures.sim ∙ ap (λ (s : LiveSimView). behind calls s) c.in_ok-sim.ensures)
    (c.in_ok-answer_base-in-Search.ensures.text
    ∙ ap (λ (t : List ℕ). t ++ base_told c.args.json c.in_ok-sim.sim lines calls) c.in_ok-text.ensures
    ∙ ap (λ (s : LiveSimView). cluster_told c.args.json c.args.cluster ++ base_told c.args.json s lines calls) c.in_ok-sim.ensures)
    c.answer_search.ensures
