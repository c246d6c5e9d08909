-- What was found is told of the lines that were read.
use Rattle.std.proofs.Common.{◌≡◌, ◌++◌, ℕ, List, Bool, Option, None, Result, Ok, Err, sym, subst}
use Rattle.std.specs.Prelude.{IfOk}
use Rattle.rh_explore_text.specs.SearchLines.{SearchView, search_lines_asked, search_of}
use Rattle.rh_otp_sim.specs.Laws.{behind}
use Rattle.rh_otp_sim.specs.Sim.{LiveSimView}
use Rattle.rh_otp_explore_text.specs.declared.exploring.Answer.{Answer}
use Rattle.rh_otp_explore_text.specs.LiveExplore.{cluster_told, base_told, MayFind, MayTellSearch, MayTellLines}

-- all lines fit
pub lines_told : {E : Type 0} (r : Result Answer E) (json : Bool) (lists : ℕ) (sim start : LiveSimView) (lines : List (List ℕ)) (bad : Option ℕ)
    (q : SearchView) (before : List ℕ) → bad ≡ None → q ≡ search_of sim.cluster (search_lines_asked sim.cluster lines)
    → start ≡ behind q.base sim → before ≡ cluster_told json sim.cluster ++ base_told json sim lines q.base
    → IfOk r (λ a. MayFind json lists start q before a.text.items a.end)
    → IfOk r (λ a. MayTellLines json lists sim lines bad a.text.items a.end)
lines_told (Ok a) json lists sim start lines bad q before none is led told may =
    let from_base : MayFind json lists (behind q.base sim) q before a.text.items a.end =
    subst (λ (s : LiveSimView). MayFind json lists s q before a.text.items a.end) led may in
    let behind_base : MayTellSearch json lists sim lines q a.text.items a.end =
    subst (λ (t : List ℕ). MayFind json lists (behind q.base sim) q t a.text.items a.end) told from_base in
    let found : MayTellSearch json lists sim lines (search_of sim.cluster (search_lines_asked sim.cluster lines)) a.text.items a.end =
    subst (λ (v : SearchView). MayTellSearch json lists sim lines v a.text.items a.end) is behind_base in
    subst (λ b. MayTellLines json lists sim lines b a.text.items a.end) (sym none) found
lines_told (Err e) json lists sim start lines bad q before none is led told may = tt
