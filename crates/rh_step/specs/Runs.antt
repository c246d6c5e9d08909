-- The state after a list of events (ours).
use Rattle.std.specs.Prelude.{List, fold}
use Rattle.rh_model.specs.ClusterView.{ClusterView}
use Rattle.rh_rules.specs.declared.event.Event.{Event}
use Rattle.rh_rules.specs.declared.pick.Pick.{Pick}
use Rattle.rh_state.specs.First.{first}
use Rattle.rh_state.specs.StateView.{StateView}
use Rattle.rh_rules.specs.Steps.{next}

unfoldable pub step : Pick → StateView → Event → StateView
step pick s e = (next s e pick).state

-- the first state, and then the next one for each event
abbrev pub after : ClusterView → Pick → List Event → StateView
after c pick events = fold (step pick) (first c) events
