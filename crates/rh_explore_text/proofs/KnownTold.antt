-- What is known of an input is what may be told of it as JSON.
use Rattle.std.proofs.Common.{◌≡◌, ◌++◌, ℕ, List, Option, Some, None, Ok, refl, ap, subst}
use Rattle.rh_model.specs.ClusterView.{ClusterView}
use Rattle.rh_cluster.specs.ClusterOf.{cluster_of}
use Rattle.rh_rules.specs.declared.pick.Pick.{Pick}
use Rattle.rh_trail.specs.SimView.{state_of}
use Rattle.rh_script.specs.Lines.{cluster_text, script_lines}
use Rattle.rh_asked.specs.declared.manner.SearchRoom.{SearchRoom}
use Rattle.rh_json_lines.specs.AnswerLines.{bad_json}
use Rattle.rh_json.specs.SweepJson.{base_json}
use Rattle.rh_json.proofs.Texts.{check_is}
use Rattle.rh_explore_text.specs.declared.searching.Searched.{Searched}
use Rattle.rh_explore_text.specs.declared.searching.Finding.TheVariants as finding
use Rattle.rh_explore_text.specs.SearchLines.{SearchView, search_lines_asked, search_of}
use Rattle.rh_explore_text.specs.SearchReading.{search_view}
use Rattle.rh_explore_text.specs.FoundLines.{found_json}
use Rattle.rh_explore_text.specs.ExploreText.{IsFound, MayFind, base_of, scope_in}
use Rattle.rh_explore_text.specs.ExploreJson.{explored_json, MayTellJson}
use Rattle.rh_explore_text.specs.Findings.{finding_json, finding_end}

module _ (c : ClusterView) (pick : Pick) (room : SearchRoom) (bytes : List ℕ) (bad : Option ℕ) where
  -- a bad line alone
  pub bad_told : (k : ℕ) → cluster_of (cluster_text bytes) ≡ Ok c → bad ≡ Some k
      → MayTellJson c pick room (script_lines bytes) bad (finding_json pick bytes (finding.BadLine k)) (finding_end (finding.BadLine k))
  bad_told k is at = rw at (ap (λ (t : List ℕ). t ++ bad_json k) (check_is c bytes is), refl)

  -- a search
  module _ (it : Searched) where
    abbrev q : SearchView
    q = search_view it.search

    abbrev told : List ℕ
    told = finding_json pick bytes (finding.Search it)

    text_is : it.sim.seen ≡ base_of c pick q → it.sim.seen.cluster ≡ c → told ≡ explored_json c pick (script_lines bytes) q it.found
    text_is base same = λ i. base_json (same i) pick (script_lines bytes) ++ found_json (same i) pick (state_of (base i)) q.down q.steps it.found

    pub search_told : bad ≡ None → q ≡ search_of c (search_lines_asked c (script_lines bytes)) → it.sim.seen ≡ base_of c pick q → it.sim.seen.cluster ≡ c
        → IsFound (scope_in c pick q) it.search.steps room it.search.asks.items it.found
        → MayTellJson c pick room (script_lines bytes) bad told (finding_end (finding.Search it))
    search_told none read base same is =
        let lines = script_lines bytes in
        let owed = finding_end (finding.Search it) in
        let found : MayFind c pick room q (explored_json c pick lines q) told owed =
        (it.search.asks.items, it.found, refl, is, text_is base same, refl) in
        rw none (subst (λ (v : SearchView). MayFind c pick room v (explored_json c pick lines v) told owed) read found)
