-- What ties the lines of a run to what a run prints (ours).
use Rattle.std.specs.Prelude.{◌≡◌, ℕ, List, map, Option}
use Rattle.rh_model.specs.ClusterView.{ClusterView}
use Rattle.rh_rules.specs.declared.notice.Notice.{Notice}
use Rattle.rh_calls.specs.declared.call.Call.{Call}
use Rattle.rh_calls.specs.declared.call.Reply.TheVariants as reply
use Rattle.rh_trail.specs.SimView.{SimView}
use Rattle.rh_trail.specs.Lone.{served}
use Rattle.rh_script.specs.Commands.{calls_of}
use Rattle.rh_run.specs.RunText.{lines_asked}
use Rattle.rh_json_lines.specs.Notices.{fired_by, timed_notices}
use Rattle.rh_json.specs.RunJson.{Asked, asked_in}

-- the commands that have lines are those that are answered: so the answers that the lines tell are the first lines of those that a run
-- prints, one for each
abbrev pub CommandsAreAnswered : Type 0
CommandsAreAnswered =
    (c : ClusterView) (number : ℕ) (lines : List (List ℕ)) → map (λ (a : Asked). a.call) (asked_in c number lines) ≡ calls_of (lines_asked c lines)

-- the notices that a line tells of a step are those of its reply, in their order
abbrev pub NoticesAreReplied : SimView → Type 0
NoticesAreReplied sim =
    (call : Call) (notices : List Notice) → (served sim call).reply ≡ reply.Done notices
    → map (λ (told : Option ℕ × Notice). told.1) (timed_notices notices (fired_by sim call)) ≡ notices
