use Rattle.std.proofs.Common.{◌≡◌, List, ℕ, Option, IfSome, ap, subst, ◌∙◌}
use Rattle.rh_state.specs.Stored.{read}
use Rattle.rh_trail.specs.SimView.{state_of}
use Rattle.rh_calls.specs.Report.{report_text}
use Rattle.rh_trail.proofs.Chains.{chain_reads}
use Rattle.rh_trail.proofs.sim.Sim.kept_report.Goals as goal

pub returns-in-Some : goal.returns-in-Some
returns-in-Some c =
    let s = c.self.inside in
    subst (λ (o : Option (List ℕ)). IfSome o (λ text. text ≡ report_text (read s.state))) c.in-Some.is c.self.invariant.shown
    ∙ ap report_text (chain_reads s.state.cluster s.pick s.trail.items s.state s.records s.cursor c.self.invariant.chain ∙ (λ i. state_of (c.self.view_is i).seen))
