use Rattle.std.proofs.Common.{◌≡◌, ◌==◌, ap, ◌∙◌, List, ℕ}
use Rattle.std.specs.List.{filter}
use Rattle.rh_model.specs.declared.node.Node.{Node}
use Rattle.rh_state.specs.StateView.{running_count}
use Rattle.rh_state.specs.Stored.{read}
use Rattle.rh_base.specs.Lists.{lightest}
use Rattle.rh_rules.specs.Placing.{picked, best}
use Rattle.rh_place.specs.Sets.{has}
use Rattle.rh_place.proofs.Nowhere.{none_chosen}
use Rattle.rh_place.proofs.choosing.best.Goals as goal

choice : (c : goal.After-one_of_lightest) → c.one_of_lightest.result ≡ picked c.args.pick (best (read c.args.state.now) c.args.app (has c.args.set))
unfolding best
choice c =
    let w = running_count (read c.args.state.now) in
    let all : List Node = filter (has c.args.set) c.first_group-group.result.now in
    c.one_of_lightest.ensures.choice
    ∙ ap (λ (k : ℕ). picked c.args.pick (filter (λ (m : Node). w m == k) all)) c.least_count-count.ensures
    ∙ ap (λ (xs : List Node). picked c.args.pick (lightest w xs)) c.first_group-group.ensures.first

pub returns-clause-none : goal.returns-clause-none
returns-clause-none c = rw (choice c) (none_chosen (read c.args.state.now) c.args.app c.args.pick (has c.args.set))
