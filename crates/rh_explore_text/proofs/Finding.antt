-- What was found is told of the scope, the questions and the lines that were read.
use Rattle.std.proofs.Common.{◌≡◌, ℕ, List, Option, None, Result, Ok, Err, subst, sym}
use Rattle.std.specs.Prelude.{IfOk}
use Rattle.rh_model.specs.ClusterView.{ClusterView}
use Rattle.rh_rules.specs.declared.pick.Pick.{Pick}
use Rattle.rh_asked.specs.declared.manner.SearchRoom.{SearchRoom}
use Rattle.rh_explore.specs.declared.answers.Explored.{Explored}
use Rattle.rh_explore.specs.declared.asking.Ask.{Ask}
use Rattle.rh_explore.specs.Reaching.{Scope}
use Rattle.rh_explore_text.specs.declared.exploring.Answer.{Answer}
use Rattle.rh_explore_text.specs.declared.lines.SearchLine.{SearchLine}
use Rattle.rh_explore_text.specs.SearchLines.{SearchView, search_of}
use Rattle.rh_explore_text.specs.ExploreText.{explored_text, IsFound, MayFind, MayTellLines}

pub is_found : (w v : Scope) (steps : ℕ) (room : SearchRoom) (given asks : List Ask) (x : Explored) → w ≡ v → given ≡ asks
    → IsFound w steps room given x → IsFound v steps room asks x
is_found w v steps room given asks x same alike found =
    subst (λ qs. IsFound v steps room qs x) alike (subst (λ s. IsFound s steps room given x) same found)

-- all lines fit
pub lines_told : {E : Type 0} (r : Result Answer E) (c : ClusterView) (pick : Pick) (room : SearchRoom) (lines : List SearchLine) (bad : Option ℕ) (q : SearchView)
    → bad ≡ None → q ≡ search_of c lines → IfOk r (λ a. MayFind c pick room q (explored_text c pick q) a.text.items a.end)
    → IfOk r (λ a. MayTellLines c pick room lines bad a.text.items a.end)
lines_told (Ok a) c pick room lines bad q none is may =
    let found : MayFind c pick room (search_of c lines) (explored_text c pick (search_of c lines)) a.text.items a.end =
    subst (λ v. MayFind c pick room v (explored_text c pick v) a.text.items a.end) is may in
    subst (λ b. MayTellLines c pick room lines b a.text.items a.end) (sym none) found
lines_told (Err e) c pick room lines bad q none is may = tt
