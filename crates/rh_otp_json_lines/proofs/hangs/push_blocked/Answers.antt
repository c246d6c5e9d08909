use Rattle.std.proofs.Common.{◌∙◌, ◌++◌, ℕ, List, ap, codes, append_assoc}
use Rattle.rh_json_text.proofs.Arrays.{rest_behind_front}
use Rattle.rh_otp_json_lines.specs.Nodes.{waited_json, blocked_json}
use Rattle.rh_otp_json_lines.proofs.hangs.push_blocked.Goals as goal

pub returns : goal.returns
unfolding blocked_json
returns c =
    let begun : List ℕ = c.args.out.now.items in
    let waited : List ℕ = waited_json c.args.cluster.now c.args.block in
    rest_behind_front c.push_text-2.result begun (codes ",\"dist_ac\":{\"for\":" ++ waited) (codes "}")
    c.push_waited.new.out.items c.push_text-2.new.out.items
    (c.in_ok-push_waited.ensures ∙ ap (λ (t : List ℕ). t ++ waited) c.in_ok-push_text.ensures
    ∙ append_assoc begun (codes ",\"dist_ac\":{\"for\":") waited)
    c.push_text-2.ensures
