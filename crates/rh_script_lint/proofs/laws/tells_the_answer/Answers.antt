use Rattle.std.proofs.Common.{◌≡◌, ◌++◌, List, ℕ, MatchOption, refl}
use Rattle.std.specs.Prelude.{codes}
use Rattle.std.specs.List.{flat_map}
use Rattle.std.specs.Fmt.{decimal}
use Rattle.rh_model.specs.ClusterView.{ClusterView}
use Rattle.rh_calls.specs.declared.call.Reply.{Reply}
use Rattle.rh_calls.specs.declared.call.Reply.TheVariants as reply
use Rattle.rh_script.specs.Answers.{answer_text, notice_line}
use Rattle.rh_script_lint.specs.Refused.{why_refused}
use Rattle.rh_script_lint.proofs.laws.tells_the_answer.Goals as goal

told : (c : ClusterView) (r : Reply)
    → MatchOption (why_refused c r) ((rest : List ℕ) × (answer_text c r ≡ codes "ok" ++ rest)) (λ why. answer_text c r ≡ codes "refused " ++ why ++ codes "\n")
unfolding answer_text
told c (reply.Done notices) = (codes "\n" ++ flat_map (notice_line c) notices, refl)
told c (reply.Refused refusal) = refl
told c reply.Undone = (codes "\n", refl)
told c reply.Redone = (codes "\n", refl)
told c reply.AtStart = refl
told c reply.AtEnd = refl
told c (reply.Moved count) = (codes " " ++ decimal count ++ codes "\n", refl)
told c (reply.Seen cursor trail text) = (codes "\n" ++ text, refl)

pub returns : goal.returns
returns c = told
