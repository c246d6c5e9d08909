use Rattle.std.proofs.Common.{sym, ap, ◌∙◌}
use Rattle.std.proofs.lemmas.Result.{on_ok_weaker}
use Rattle.rh_state.specs.Stored.{read}
use Rattle.rh_trace.specs.Traces.{course}
use Rattle.rh_trace.proofs.Counts.{on_ok_any}
use Rattle.rh_rules.specs.declared.event.Event.TheVariants.{Boot, Crash, Start, Stop, Permit, Takeover, Exit, StartAll, StopAll}
use Rattle.rh_rules.specs.Steps.{change}
use Rattle.rh_rules.specs.Refusals.{refused}
use Rattle.rh_refusals.proofs.Accepted.{accepted_boot, accepted_crash, accepted_start, accepted_stop, accepted_permit, accepted_takeover, accepted_exit}
use Rattle.rh_refusals.proofs.Accepted.{accepted_start_all, accepted_stop_all}
use Rattle.rh_events.proofs.Counts.{of_event, of_event_ok}
use Rattle.rh_events.proofs.Requirements.{unset_sync, unset_failover, off_to_start, on_to_stop, runs_elsewhere}
use Rattle.rh_events.proofs.changing.change.Goals as goal

pub boot-requires-clause-node : goal.boot-requires-clause-node
boot-requires-clause-node c = (accepted_boot _ _ (sym (ap (refused (read c.args.state.now)) c.in-Boot.is) ∙ c.requires.accepted)).node

pub boot-requires-clause-incarnation : goal.boot-requires-clause-incarnation
boot-requires-clause-incarnation c = (accepted_boot _ _ (sym (ap (refused (read c.args.state.now)) c.in-Boot.is) ∙ c.requires.accepted)).incarnation

pub boot-requires-clause-unset : goal.boot-requires-clause-unset
boot-requires-clause-unset c = unset_sync _ _ c.requires.sound (sym (ap (refused (read c.args.state.now)) c.in-Boot.is) ∙ c.requires.accepted)

pub end-requires-clause-node : goal.end-requires-clause-node
end-requires-clause-node c = (accepted_crash _ _ (sym (ap (refused (read c.args.state.now)) c.in-Crash.is) ∙ c.requires.accepted)).node

pub end-requires-clause-unset : goal.end-requires-clause-unset
end-requires-clause-unset c = unset_failover (read c.args.state.now) c.in-Crash.node c.requires.sound

pub mark-requires-clause-node : goal.mark-requires-clause-node
mark-requires-clause-node c = (accepted_start _ _ _ _ (sym (ap (refused (read c.args.state.now)) c.in-Start.is) ∙ c.requires.accepted)).hand.node

pub mark-requires-clause-app : goal.mark-requires-clause-app
mark-requires-clause-app c = (accepted_start _ _ _ _ (sym (ap (refused (read c.args.state.now)) c.in-Start.is) ∙ c.requires.accepted)).hand.app

pub mark-requires-clause-off : goal.mark-requires-clause-off
mark-requires-clause-off c = off_to_start _ _ _ _ (sym (ap (refused (read c.args.state.now)) c.in-Start.is) ∙ c.requires.accepted)

pub stop-requires-clause-node : goal.stop-requires-clause-node
stop-requires-clause-node c = (accepted_stop _ _ _ (sym (ap (refused (read c.args.state.now)) c.in-Stop.is) ∙ c.requires.accepted)).hand.node

pub stop-requires-clause-app : goal.stop-requires-clause-app
stop-requires-clause-app c = (accepted_stop _ _ _ (sym (ap (refused (read c.args.state.now)) c.in-Stop.is) ∙ c.requires.accepted)).hand.app

pub stop-requires-clause-started : goal.stop-requires-clause-started
stop-requires-clause-started c = on_to_stop _ _ _ (sym (ap (refused (read c.args.state.now)) c.in-Stop.is) ∙ c.requires.accepted)

pub permit-requires-clause-node : goal.permit-requires-clause-node
permit-requires-clause-node c = (accepted_permit _ _ _ _ (sym (ap (refused (read c.args.state.now)) c.in-Permit.is) ∙ c.requires.accepted)).node

pub permit-requires-clause-app : goal.permit-requires-clause-app
permit-requires-clause-app c = (accepted_permit _ _ _ _ (sym (ap (refused (read c.args.state.now)) c.in-Permit.is) ∙ c.requires.accepted)).app

pub take_over-requires-clause-node : goal.take_over-requires-clause-node
take_over-requires-clause-node c = (accepted_takeover _ _ _ _ (sym (ap (refused (read c.args.state.now)) c.in-Takeover.is) ∙ c.requires.accepted)).hand.node

pub take_over-requires-clause-app : goal.take_over-requires-clause-app
take_over-requires-clause-app c = (accepted_takeover _ _ _ _ (sym (ap (refused (read c.args.state.now)) c.in-Takeover.is) ∙ c.requires.accepted)).hand.app

pub take_over-requires-clause-elsewhere : goal.take_over-requires-clause-elsewhere
take_over-requires-clause-elsewhere c = runs_elsewhere _ _ _ _ (sym (ap (refused (read c.args.state.now)) c.in-Takeover.is) ∙ c.requires.accepted)

pub exit-requires-clause-node : goal.exit-requires-clause-node
exit-requires-clause-node c = (accepted_exit _ _ _ _ (sym (ap (refused (read c.args.state.now)) c.in-Exit.is) ∙ c.requires.accepted)).hand.node

pub exit-requires-clause-app : goal.exit-requires-clause-app
exit-requires-clause-app c = (accepted_exit _ _ _ _ (sym (ap (refused (read c.args.state.now)) c.in-Exit.is) ∙ c.requires.accepted)).hand.app

pub exit-requires-clause-runs : goal.exit-requires-clause-runs
exit-requires-clause-runs c = (accepted_exit _ _ _ _ (sym (ap (refused (read c.args.state.now)) c.in-Exit.is) ∙ c.requires.accepted)).runs

pub returns-in-Start-clause-course : goal.returns-in-Start-clause-course
returns-in-Start-clause-course c =
    on_ok_weaker c.mark.result (λ made. made ∙ ap (change (course (read c.args.state.now) c.args.trace.now)) (sym c.in-Start.is)) c.mark.ensures.course

pub start_all-requires : goal.start_all-requires
start_all-requires c =
    record { app = (accepted_start_all _ _ _ (sym (ap (refused (read c.args.state.now)) c.in-StartAll.is) ∙ c.requires.accepted)).app }

pub stop_all-requires : goal.stop_all-requires
stop_all-requires c =
    record { app = (accepted_stop_all _ _ (sym (ap (refused (read c.args.state.now)) c.in-StopAll.is) ∙ c.requires.accepted)).app }

pub returns-in-Boot-clause-few : goal.returns-in-Boot-clause-few
returns-in-Boot-clause-few c =
    on_ok_any c.boot.result
    (of_event (read c.args.state.now).cluster c.args.event.now (Boot c.in-Boot.node)
    c.args.trace.now c.boot.new.trace c.in-Boot.is c.boot.ensures.way.notices c.boot.ensures.few)

pub returns-in-Start-clause-few : goal.returns-in-Start-clause-few
returns-in-Start-clause-few c =
    on_ok_any c.mark.result
    (of_event (read c.args.state.now).cluster c.args.event.now (Start c.in-Start.node c.in-Start.app c.in-Start.restart)
    c.args.trace.now c.mark.new.trace c.in-Start.is c.mark.ensures.way.notices c.mark.ensures.few)

pub returns-in-Stop-clause-few : goal.returns-in-Stop-clause-few
returns-in-Stop-clause-few c =
    on_ok_any c.stop.result
    (of_event (read c.args.state.now).cluster c.args.event.now (Stop c.in-Stop.node c.in-Stop.app)
    c.args.trace.now c.stop.new.trace c.in-Stop.is c.stop.ensures.way.notices c.stop.ensures.few)

pub returns-in-Permit-clause-few : goal.returns-in-Permit-clause-few
returns-in-Permit-clause-few c =
    on_ok_any c.permit.result
    (of_event (read c.args.state.now).cluster c.args.event.now (Permit c.in-Permit.node c.in-Permit.app c.in-Permit.allow)
    c.args.trace.now c.permit.new.trace c.in-Permit.is c.permit.ensures.way.notices c.permit.ensures.few)

pub returns-in-Takeover-clause-few : goal.returns-in-Takeover-clause-few
returns-in-Takeover-clause-few c =
    on_ok_any c.take_over.result
    (of_event (read c.args.state.now).cluster c.args.event.now (Takeover c.in-Takeover.node c.in-Takeover.app c.in-Takeover.restart)
    c.args.trace.now c.take_over.new.trace c.in-Takeover.is c.take_over.ensures.way.notices c.take_over.ensures.few)

pub returns-in-Crash-clause-few : goal.returns-in-Crash-clause-few
returns-in-Crash-clause-few c =
    of_event_ok (read c.args.state.now).cluster c.args.event.now (Crash c.in-Crash.node)
    c.args.trace.now c.end.new.trace c.end.result c.in-Crash.is c.end.ensures.few

pub returns-in-Exit-clause-few : goal.returns-in-Exit-clause-few
returns-in-Exit-clause-few c =
    of_event_ok (read c.args.state.now).cluster c.args.event.now (Exit c.in-Exit.node c.in-Exit.app c.in-Exit.normal)
    c.args.trace.now c.exit.new.trace c.exit.result c.in-Exit.is c.exit.ensures.few

pub returns-in-StartAll-clause-few : goal.returns-in-StartAll-clause-few
returns-in-StartAll-clause-few c =
    on_ok_weaker c.start_all.result
    (λ few. of_event (read c.args.state.now).cluster c.args.event.now (StartAll c.in-StartAll.app c.in-StartAll.restart)
    c.args.trace.now c.start_all.new.trace c.in-StartAll.is c.start_all.ensures.way.notices few)
    c.start_all.ensures.few

pub returns-in-StopAll-clause-few : goal.returns-in-StopAll-clause-few
returns-in-StopAll-clause-few c =
    on_ok_weaker c.stop_all.result
    (λ few. of_event (read c.args.state.now).cluster c.args.event.now (StopAll c.in-StopAll.app)
    c.args.trace.now c.stop_all.new.trace c.in-StopAll.is c.stop_all.ensures.way.notices few)
    c.stop_all.ensures.few
