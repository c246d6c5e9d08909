-- That a hint tells what `run` answers (ours).
use Rattle.std.specs.Prelude.{◌≡◌, ◌++◌, ℕ, List, codes, MatchOption}
use Rattle.rh_model.specs.ClusterView.{ClusterView}
use Rattle.rh_calls.specs.declared.call.Reply.{Reply}
use Rattle.rh_script.specs.Answers.{answer_text}
use Rattle.rh_script_lint.specs.Refused.{why_refused}

-- `run` answers "refused" and what is told, and where nothing is told "ok"
abbrev pub TellsTheAnswer : Type 0
TellsTheAnswer =
    (c : ClusterView) (r : Reply)
    → MatchOption (why_refused c r) ((rest : List ℕ) × (answer_text c r ≡ codes "ok" ++ rest)) (λ why. answer_text c r ≡ codes "refused " ++ why ++ codes "\n")
