use Rattle.std.proofs.Common.{◌++◌, ℕ, List, codes, ap, ◌∙◌, append_assoc}
use Rattle.std.specs.String.{string_bytes}
use Rattle.rh_calls.specs.Report.{forbidden_line}
use Rattle.rh_otp_text.proofs.nodes.push_forbidden_line.Goals as goal

pub returns : goal.returns
unfolding forbidden_line
returns c =
    let text = string_bytes c.args.text.now in
    let front = codes "  forbidden " in
    let name = c.app_word.result.now in
    let end = codes "\n" in
    c.in_ok-push_str-3.ensures.bytes
    ∙ ap (λ (t : List ℕ). t ++ end) (c.in_ok-push_str-2.ensures.bytes ∙ ap (λ (t : List ℕ). t ++ name) c.in_ok-push_str.ensures.bytes)
    ∙ append_assoc (text ++ front) name end
    ∙ append_assoc text front (name ++ end)
    ∙ ap (λ (word : List ℕ). text ++ (front ++ (word ++ end))) c.app_word.ensures
