use Rattle.std.proofs.Common.{◌≡◌, ◌++◌, ◌∙◌, ℕ, List, ap, sym, refl, append_assoc}
use Rattle.rh_model.specs.ClusterView.{ClusterView}
use Rattle.rh_calls.specs.declared.call.Call.{Call}
use Rattle.rh_calls.specs.declared.call.Reply.{Reply}
use Rattle.rh_trail.specs.SimView.{SimView}
use Rattle.rh_trail.specs.Lone.{Served, served, answered}
use Rattle.rh_trail.proofs.Bases.{base-served}
use Rattle.rh_step_findings.specs.declared.finding.StepFinding.{StepFinding}
use Rattle.rh_findings.specs.declared.finding.Finding.{Finding}
use Rattle.rh_script_lint.specs.Refused.{of_reply}
use Rattle.rh_script_lint.specs.Steps.{of_steps, of_call, findings_of}
use Rattle.rh_script_lint.proofs.steps.take_call.Goals as goal

-- what is added before a call and what is added behind it, where the call leaves the cluster, is what is found of it
call_told : (s t : SimView) (x : Call) (k : ℕ) (c d : ClusterView) (fs gs : List StepFinding) (q r : Reply) (old before new : List Finding)
    → c ≡ s.cluster → fs ≡ findings_of s x → gs ≡ findings_of s x → served s x ≡ answered q t → r ≡ q → d ≡ t.cluster
    → before ≡ old ++ of_steps c k fs → new ≡ before ++ of_reply d k x gs r → new ≡ old ++ of_call s k x
call_told s t x k c d fs gs q r old before new here found kept by told there first last =
    let same : d ≡ s.cluster = there ∙ (sym (ap (λ (v : Served). v.sim.cluster) by) ∙ ap (λ (v : SimView). v.cluster) (base-served s x)) in
    let reply : r ≡ (served s x).reply = told ∙ sym (ap (λ (v : Served). v.reply) by) in
    rw (last, first, append_assoc, here, found, same, kept, reply) refl

pub returns-clause-found : goal.returns-clause-found
returns-clause-found c = call_told c.args.sim.now.seen c.answer.new.self.seen c.args.call c.args.number _ _ _ _ _ _ _ _ _
    c.cluster.ensures (c.as_slice.ensures.value ∙ c.in_ok-findings.ensures)
    (c.as_slice-told.ensures.value ∙ c.in_ok-findings.ensures) c.in_ok-answer.ensures.ok c.into_one-reply.ensures c.cluster-2.ensures
    c.in_ok-ends.ensures.found c.in_ok-push_reply.ensures
