use Rattle.std.proofs.Common.{ℕ, ◌+◌, ◌++◌, List, take, refl, sym, ap, ◌∙◌, arith}
use Rattle.rh_model.specs.ClusterView.{ClusterView, node_count}
use Rattle.rh_state.specs.Stored.{read}
use Rattle.rh_state.specs.declared.status.Standing.{Standing}
use Rattle.rh_keys.specs.Codes.{code}
use Rattle.rh_keys.specs.Keys.{standing_numbers, app_numbers}
use Rattle.rh_keys.proofs.KeyCells.{two_put, standing_code}
use Rattle.rh_keys.proofs.parts.put_standing.Goals as goal

pub returns-clause-bytes : goal.returns-clause-bytes
unfolding app_numbers
returns-clause-bytes c =
    let s = read c.args.state.now in
    let head : List ℕ = take c.args.at c.args.cells.now in
    let room = c.requires.room in
    let nodes = c.node_count-nodes.ensures.count ∙ ap (λ (d : ClusterView). node_count d) c.cluster.ensures in
    let limit = c.node_count-nodes.ensures.limit in
    two_put c.args.cells.now c.args.at (c.args.at + 2) c.standing_bytes-tag.result.0 c.standing_bytes-tag.result.1 refl (omega (arith, room))
    ∙ ap (λ (l : List ℕ). head ++ l)
    (c.standing_bytes-tag.ensures ∙ sym (standing_code s.cluster c.standing.result (omega (arith, nodes, limit)) c.standing.ensures.number))
    ∙ ap (λ (st : Standing). head ++ code (standing_numbers st)) c.standing.ensures.standing
