use Rattle.std.proofs.Common.{◌≡◌, ◌≤◌, ◌∙◌, length, take, ap, sym, subst, arith}
use Rattle.std.proofs.lemmas.List.{take_all}
use Rattle.rh_trail.specs.Chain.{chain}
use Rattle.rh_trail.specs.Lone.{cut}
use Rattle.rh_trail.specs.SimView.{SimView, Held}
use Rattle.rh_plans.specs.declared.plan.Outcome.{Outcome}
use Rattle.rh_outcomes.specs.Outcomes.{outcome_in}
use Rattle.rh_outcomes.specs.Sweeping.{HasRoomFor}
use Rattle.rh_sweep.proofs.Chained.{chain_here}
use Rattle.rh_sweep.proofs.Trying.{went-nowhere, if-ok}
use Rattle.rh_sweep.proofs.trial.try_plan.Goals as goal

pub try_events-outcome-requires : goal.try_events-outcome-requires
try_events-outcome-requires c =
    let s : Held = c.args.sim.now in
    (s, s.seen, went-nowhere s c.requires.end, subst (HasRoomFor s.seen) (sym c.as_slice.ensures.value) c.requires.room)

pub returns-clause-outcome : goal.returns-clause-outcome
returns-clause-outcome c =
    let s : Held = c.args.sim.now in
    let events = c.args.plan.now.events.items in
    let same : c.as_slice.result.now ≡ events = c.as_slice.ensures.value in
    if-ok c.try_events-outcome.result _ (λ (o : Outcome). o ≡ outcome_in s.seen events)
    (λ o is. is s s.seen (went-nowhere s c.requires.end) (subst (HasRoomFor s.seen) (sym same) c.requires.room) ∙ ap (outcome_in s.seen) same)
    c.try_events-outcome.ensures.outcome

pub returns-clause-kept : goal.returns-clause-kept
returns-clause-kept c =
    let s : Held = c.args.sim.now in
    let t : Held = c.try_events-outcome.new.steps in
    let u : Held = c.go_back.new.sim in
    let v : Held = c.cut_redo.new.self in
    let on = c.try_events-outcome.ensures.ahead s s.seen (went-nowhere s c.requires.end)
    (subst (HasRoomFor s.seen) (sym c.as_slice.ensures.value) c.requires.room) in
    let a = on.1.ahead in
    let start : c.cursor-start.result ≡ s.seen.cursor = c.cursor-start.ensures.cursor in
    let back : u.seen ≡ record t.seen { cursor = s.seen.cursor } = c.go_back.ensures.seen ∙ ap (λ n. record t.seen { cursor = n }) start in
    let seen : v.seen ≡ s.seen =
    c.cut_redo.ensures.cut ∙ ap cut back
    ∙ (λ j. record { cluster = a.cluster j; pick = a.pick j; trail = a.begins j; cursor = s.seen.cursor }) in
    let words : v.words ≡ s.words =
    c.cut_redo.ensures.words ∙ c.go_back.ensures.words ∙ ap (chain t) start ∙ a.chain s.seen.cursor (omega arith) ∙ chain_here s in
    let all : length s.records ≤ s.seen.cursor = omega (arith, c.is_chained.ensures.count, c.requires.end) in
    let records : v.records ≡ s.records =
    c.cut_redo.ensures.records
    ∙ ap (λ (w : SimView). take w.cursor u.records) back
    ∙ subst (λ n. take n u.records ≡ take n t.records) start c.go_back.ensures.records
    ∙ a.records
    ∙ take_all s.seen.cursor s.records all in
    λ j. record { seen = seen j; words = words j; records = records j }
