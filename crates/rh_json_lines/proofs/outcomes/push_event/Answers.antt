use Rattle.std.proofs.Common.{◌+◌, ◌++◌, ◌∙◌, List, ℕ, ap, codes, append_assoc}
use Rattle.rh_calls.specs.declared.call.Reply.TheVariants as reply
use Rattle.rh_script.specs.Answers.{answer_text}
use Rattle.rh_json_text.specs.Json.{json_string}
use Rattle.rh_json_lines.specs.AnswerLines.{first_line}
use Rattle.rh_json_text.proofs.Arrays.{rest_behind_front}
use Rattle.rh_json_lines.specs.OutcomeLines.{count_json, event_json}
use Rattle.rh_json_lines.proofs.outcomes.push_event.Goals as goal

pub returns : goal.returns
unfolding event_json
returns c =
    let begun = c.args.out.now.items in
    let place = count_json (codes ",\"refused\":{\"event\":") (c.args.place + 1) in
    let key = codes ",\"answer\":" in
    let answer = json_string (first_line (answer_text c.args.cluster.now (reply.Refused c.args.refusal))) in
    let is = c.before_first.ensures ∙ ap first_line (c.as_slice.ensures.value ∙ c.in_ok-answer.ensures) in
    let with_key = c.in_ok-push_text.ensures ∙ ap (λ (t : List ℕ). t ++ key) c.in_ok-push_count.ensures ∙ append_assoc begun place key in
    let with_answer = c.in_ok-push_string.ensures ∙ ap (λ (t : List ℕ). c.push_text.new.out.items ++ json_string t) is
    ∙ ap (λ (t : List ℕ). t ++ answer) with_key ∙ append_assoc begun (place ++ key) answer in
    rest_behind_front c.push_text-2.result begun ((place ++ key) ++ answer) (codes "}") c.push_string.new.out.items c.push_text-2.new.out.items
    with_answer c.push_text-2.ensures
