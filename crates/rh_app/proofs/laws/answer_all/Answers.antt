use Rattle.std.proofs.Common.{◌≡◌, ◌≤◌, ◌+◌, ◌++◌, ◌∷◌, [], take, get_or, sym, ap, subst, ◌∙◌, arith}
use Rattle.std.proofs.lemmas.List.{take_all, take_more}
use Rattle.rh_rules.specs.declared.event.Event.TheVariants.{Boot}
use Rattle.rh_model.specs.ClusterView.{numbered}
use Rattle.rh_calls.specs.declared.call.Call.{Call}
use Rattle.rh_calls.specs.declared.call.Call.TheVariants.{Step}
use Rattle.rh_trail.specs.Chain.{kept_to}
use Rattle.rh_trail.specs.Laws.{next_sim}
use Rattle.rh_trail.specs.Lone.{Served, sim_after}
use Rattle.rh_trail.specs.SimView.{Held, SimView}
use Rattle.rh_app.specs.Laws.{KeepsTo}
use Rattle.rh_app.proofs.Words.{after_more, keeps_more, same_place}
use Rattle.rh_app.proofs.laws.answer_all.Goals as goal

pub loop-call-preserved : goal.loop-call-preserved
loop-call-preserved c =
    let s : Held = c.args.sim.now in
    let calls = c.args.calls.now in
    let i = c.loop-call.call-index in
    let first : Call = Step (Boot (numbered 0)) in
    let x : Call = get_or calls i first in
    let more : take (i + 1) calls ≡ take i calls ++ x ∷ [] = take_more calls i first (omega arith) in
    let before = c.loop-call.invariant in
    let answer = c.in_ok-answer.ensures in
    record {
      seen = sym (ap (λ (a : Served). a.sim) answer.ok) ∙ ap (λ (v : SimView). next_sim v x) before.seen ∙ sym (after_more s.seen (take i calls) x)
          ∙ ap (λ cs. sim_after s.seen cs) (sym more);
      chain = λ k keeps.
          let both = keeps_more s.seen (take i calls) x k (subst (λ cs. KeepsTo s.seen cs k) more keeps) in
          answer.chain k (subst (λ (v : SimView). k ≤ kept_to v x) (sym before.seen) both.1) ∙ before.chain k both.0;
    }

pub returns-clause-words : goal.returns-clause-words
returns-clause-words c = λ keeps at.
    let s : Held = c.args.sim.now in
    let all : take c.loop-call.call-index c.args.calls.now ≡ c.args.calls.now = take_all c.loop-call.call-index c.args.calls.now (omega arith) in
    same_place s c.loop-call.sim c.is_chained.ensures c.is_chained-2.ensures
    (c.loop-call.invariant.chain s.seen.cursor (subst (λ cs. KeepsTo s.seen cs s.seen.cursor) (sym all) keeps)) at
