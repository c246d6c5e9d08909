use Rattle.std.proofs.Common.{◌≡◌, ◌∙◌}
use Rattle.rh_state.specs.Stored.{read}
use Rattle.rh_rules.specs.Placing.{picked, best, candidates, is_operational}
use Rattle.rh_place.proofs.Nowhere.{none_chosen}
use Rattle.rh_place.proofs.choosing.choose.Goals as goal

choice : (c : goal.After-best) → c.best.result ≡ picked c.args.pick (candidates (read c.args.state.now) c.args.app)
unfolding candidates
choice c = c.best.ensures.choice ∙ (λ i. picked c.args.pick (best (read c.args.state.now) c.args.app (λ n. c.operational_nodes.ensures n i)))

pub returns-clause-none : goal.returns-clause-none
unfolding candidates
returns-clause-none c = rw (choice c) (none_chosen (read c.args.state.now) c.args.app c.args.pick (is_operational (read c.args.state.now) c.args.app))
