use Rattle.rh_history.specs.States.{states_of, seen}
use Rattle.rh_history.proofs.history.History.new.Goals as goal

pub returns : goal.returns
unfolding states_of
returns g c = λ i. seen c.args.cells.items (c.new.ensures i) (c.new-2.ensures.items i) 0
