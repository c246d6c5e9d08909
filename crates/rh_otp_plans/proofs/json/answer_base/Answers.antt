use Rattle.std.proofs.Common.{◌≡◌, List, ℕ, map, OnOk, ap, subst}
use Rattle.rh_calls.specs.declared.call.Call.{Call}
use Rattle.rh_otp_sim.specs.Laws.{behind}
use Rattle.rh_otp_sim.specs.Sim.{LiveSimView}
use Rattle.rh_script.specs.Lines.{raw_lines, content}
use Rattle.rh_otp_plans.proofs.json.answer_base.Goals as goal

-- the commands that have lines are those of the base
pub returns-clause-sim : goal.returns-clause-sim
returns-clause-sim g c =
    let lines = map content (raw_lines c.args.script.now) in
    let same = c.base_is_answered.ensures c.args.sim.now.cluster 1 lines c.requires.fits in
    subst (λ (s : LiveSimView). OnOk c.answer_lines.result (c.answer_lines.new.sim ≡ s))
    (ap (λ (calls : List Call). behind calls c.args.sim.now) same) c.answer_lines.ensures.sim
