use Rattle.std.proofs.Common.{◌≡◌, ◌+◌, Bool, true, false, cond, not, List, length, ap, refl, sym, ◌∙◌, arith}
use Rattle.rh_model.specs.ClusterView.{ClusterView, node_count}
use Rattle.rh_history.specs.Draft.{written}
use Rattle.rh_history.specs.HistoryView.{HistoryView, committed}
use Rattle.rh_otp_system.specs.declared.cell.Cell.{Cell}
use Rattle.rh_otp_system.specs.State.{SystemView}
use Rattle.rh_otp_system.specs.Views.{NetView}
use Rattle.rh_otp_sim.specs.declared.stepping.Outcome.{Outcome}
use Rattle.rh_otp_sim.specs.declared.stepping.Outcome.TheVariants.{Done, Endless}
use Rattle.rh_otp_sim.specs.Sim.{LiveSimView}
use Rattle.rh_otp_sim.specs.Stepping.{begun, run, is_quiet, happened, cells_behind, system_with, ends_with, with_step, outcome_with, stepped_with}
use Rattle.rh_otp_sim.specs.Views.{HappenedView}
use Rattle.rh_otp_sim.proofs.Kept.{run_base}
use Rattle.rh_otp_sim.proofs.Steps.{outcome_done, step_done}
use Rattle.rh_otp_sim.proofs.sim.LiveSim.carry_out.Goals as goal

pub make-requires-clause-places : goal.make-requires-clause-places
make-requires-clause-places c k d inside =
    let behind : c.run.new.system ≡ system_with c.args.net.now c.args.event c.args.self.now =
    c.in_ok-run.ensures.state
    ∙ ap (run c.args.event c.args.self.now)
    (c.in_ok-system.ensures ∙ ap (λ (n : NetView). begun n c.args.event c.args.self.now) c.in_ok-copy.ensures) in
    omega (
      arith,
      c.in_ok-happened.ensures.places k d inside,
      ap (λ (s : SystemView). length s.nodes.base) behind,
      ap length (run_base c.args.net.now c.args.event c.args.self.now),
      ap (λ (s : LiveSimView). length s.history.now) c.self.view_is,
    )

pub returns-clause-outcome : goal.returns-clause-outcome
returns-clause-outcome c =
    let opened : c.in_ok-system.system ≡ begun c.args.net.now c.args.event c.args.self.now =
    c.in_ok-system.ensures ∙ ap (λ (n : NetView). begun n c.args.event c.args.self.now) c.in_ok-copy.ensures in
    let behind : c.run.new.system ≡ system_with c.args.net.now c.args.event c.args.self.now =
    c.in_ok-run.ensures.state ∙ ap (run c.args.event c.args.self.now) opened in
    let quiet : c.in_ok-run.field-0 ≡ ends_with c.args.net.now c.args.event c.args.self.now =
    c.in_ok-run.ensures.is_quiet ∙ ap (is_quiet c.args.event c.args.self.now) opened in
    ap (λ (h : HappenedView). Done h) (c.in_ok-happened.ensures.happened ∙ ap (happened c.args.net.now) behind)
    ∙ sym (outcome_done c.args.net.now c.args.event c.args.self.now (sym quiet ∙ c.if-not-branch.false))

pub returns-clause-state : goal.returns-clause-state
returns-clause-state c =
    let opened : c.in_ok-system.system ≡ begun c.args.net.now c.args.event c.args.self.now =
    c.in_ok-system.ensures ∙ ap (λ (n : NetView). begun n c.args.event c.args.self.now) c.in_ok-copy.ensures in
    let behind : c.run.new.system ≡ system_with c.args.net.now c.args.event c.args.self.now =
    c.in_ok-run.ensures.state ∙ ap (run c.args.event c.args.self.now) opened in
    let quiet : c.in_ok-run.field-0 ≡ ends_with c.args.net.now c.args.event c.args.self.now =
    c.in_ok-run.ensures.is_quiet ∙ ap (is_quiet c.args.event c.args.self.now) opened in
    let base : c.run.new.system.nodes.base ≡ c.self.inside.history.now =
    ap (λ (s : SystemView). s.nodes.base) behind ∙ run_base c.args.net.now c.args.event c.args.self.now
    ∙ ap (λ (s : LiveSimView). s.history.now) (sym c.self.view_is) in
    let count : c.node_count-place.result ≡ node_count c.args.self.now.cluster =
    c.node_count-place.ensures.count ∙ ap (λ (s : LiveSimView). node_count s.cluster) c.self.view_is in
    let cells : written c.self.inside.history.now c.in_ok-happened.writes.items
    ≡ cells_behind c.args.net.now (node_count c.args.self.now.cluster) (system_with c.args.net.now c.args.event c.args.self.now) =
    ap (λ (b : List Cell). written b c.in_ok-happened.writes.items) (sym base)
    ∙ c.in_ok-happened.ensures.cells
    ∙ (λ i. cells_behind c.args.net.now (count i) (behind i)) in
    (λ i. record {
      cluster = c.self.inside.cluster;
      files = c.self.inside.files.value.items;
      order = c.self.inside.order;
      history = (c.in_ok-make.ensures.ok ∙ (λ j. committed (record c.self.inside.history { now = cells j }))) i;
    })
    ∙ (λ i. with_step (cells_behind c.args.net.now (node_count c.args.self.now.cluster) (system_with c.args.net.now c.args.event c.args.self.now))
    (c.self.view_is i))
    ∙ sym (step_done c.args.net.now c.args.event c.args.self.now (sym quiet ∙ c.if-not-branch.false))
