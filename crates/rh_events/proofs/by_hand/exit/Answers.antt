use Rattle.rh_state.specs.Stored.{read}
use Rattle.rh_trace.proofs.Counts.{weighed, on_ok_any}
use Rattle.rh_events.proofs.Losing.{unset_running}
use Rattle.rh_events.proofs.by_hand.exit.Goals as goal

pub end-requires-clause-unset : goal.end-requires-clause-unset
end-requires-clause-unset c = unset_running (read c.args.state.now) c.args.node c.requires.sound.timers

pub returns-else-ends_node-clause-few : goal.returns-else-ends_node-clause-few
returns-else-ends_node-clause-few c =
    on_ok_any c.stop_running.result
    (weighed (read c.args.state.now).cluster 0 c.args.trace.now c.stop_running.new.trace c.stop_running.ensures.way.notices c.stop_running.ensures.few)
