use Rattle.std.proofs.Common.{◌≡◌, List, ℕ, All, subst, sym}
use Rattle.std.proofs.lemmas.Result.{err_from_is_err_and}
use Rattle.rh_state.specs.StateView.{StateView}
use Rattle.rh_state.specs.Stored.{read}
use Rattle.rh_trail.specs.SimView.{state_of}
use Rattle.rh_devices.proofs.Passing.{fault_before}
use Rattle.rh_run.specs.RunText.{Broke}
use Rattle.rh_run.proofs.Pieces.{broke_behind}
use Rattle.rh_explore.specs.declared.answers.Verdict.{Verdict}
use Rattle.rh_explore_text.specs.FoundText.{CanCome}
use Rattle.rh_explore_text.specs.FoundLines.{search_line, verdict_lines}
use Rattle.rh_explore_text.proofs.json.write_searched.Goals as goal

pub write_verdicts-requires-clause-come : goal.write_verdicts-requires-clause-come
write_verdicts-requires-clause-come g c =
    let pick = c.args.pick in
    subst (λ (s : StateView). All (CanCome pick s) c.as_slice-verdicts.result.now) (sym c.state.ensures.state)
    (subst (λ (vs : List Verdict). All (CanCome pick (state_of c.args.it.now.sim.seen)) vs) (sym c.as_slice-verdicts.ensures.value) c.requires.come)

pub returns-in_err-write_search : goal.returns-in_err-write_search
returns-in_err-write_search g c =
    let it = c.args.it.now in
    let k = it.sim.seen.cluster in
    let p = err_from_is_err_and c.from_residual.result c.from_residual.ensures.1 in
    rw (p.1, p.2)
    (fault_before g.K.Sink.takes g.K.Sink.fails c.in_err-write_search.field-0.0 c.args.writer.now c.write_search.new.writer
    (search_line k it.search.down it.search.steps it.found) (verdict_lines k c.args.pick (state_of it.sim.seen) 1 it.found.verdicts.items)
    c.in_err-write_search.ensures)

pub returns : goal.returns
returns g c =
    let it = c.args.it.now in
    let pick = c.args.pick in
    let k = it.sim.seen.cluster in
    let same : verdict_lines c.cluster.result.now pick (read c.state.result.now) 1 c.as_slice-verdicts.result.now
    ≡ verdict_lines k pick (state_of it.sim.seen) 1 it.found.verdicts.items =
    λ i. verdict_lines (c.cluster.ensures i) pick (c.state.ensures.state i) 1 (c.as_slice-verdicts.ensures.value i) in
    broke_behind g.K.Sink.takes g.K.Sink.fails c.write_verdicts.result c.args.writer.now c.write_search.new.writer c.write_verdicts.new.writer
    (search_line k it.search.down it.search.steps it.found) (verdict_lines k pick (state_of it.sim.seen) 1 it.found.verdicts.items)
    c.in_ok-write_search.ensures.0
    (subst (λ (t : List ℕ). Broke g.K.Sink.takes g.K.Sink.fails c.write_verdicts.result t c.write_search.new.writer c.write_verdicts.new.writer) same
    c.write_verdicts.ensures)
