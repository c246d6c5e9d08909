use Rattle.std.proofs.Common.{◌==◌, ap, ◌∙◌, List, ℕ}
use Rattle.std.specs.List.{filter}
use Rattle.rh_model.specs.declared.node.Node.{Node}
use Rattle.rh_model.specs.ClusterView.{is_in}
use Rattle.rh_state.specs.StateView.{running_count}
use Rattle.rh_state.specs.Stored.{read}
use Rattle.rh_base.specs.Lists.{lightest}
use Rattle.rh_rules.specs.Placing.{best, candidates}
use Rattle.rh_place.specs.Sets.{has}
use Rattle.rh_place.proofs.choosing.candidates.Goals as goal

pub returns : goal.returns
unfolding candidates best
returns c = λ n.
    let w = running_count (read c.args.state.now) in
    let all : List Node = filter (has c.operational_nodes-able.result) c.first_group-group.result.now in
    c.lightest.ensures n
    ∙ ap (λ (k : ℕ). is_in n (filter (λ (m : Node). w m == k) all)) c.least_count-count.ensures
    ∙ ap (λ (xs : List Node). is_in n (lightest w xs)) c.first_group-group.ensures.first
    ∙ (λ i. is_in n (best (read c.args.state.now) c.args.app (λ m. c.operational_nodes-able.ensures m i)))
