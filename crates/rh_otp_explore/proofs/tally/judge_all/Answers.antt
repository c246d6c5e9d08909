use Rattle.std.proofs.Common.{◌<◌, length, set, sym, ap, ◌∙◌, arith}
use Rattle.std.proofs.lemmas.List.Edits.{map_over_more}
use Rattle.rh_otp_explore.specs.Listing.{Behind}
use Rattle.rh_otp_explore.specs.Tallying.{AskedView, judged}
use Rattle.rh_otp_explore.proofs.tally.judge_all.Goals as goal

pub loop-one-preserved : goal.loop-one-preserved
loop-one-preserved c =
    let i = c.loop-one.one-index in
    let here : Behind = record { events = c.args.events.now; sim = c.args.stand.now } in
    let inside : i < length c.args.asked.now = omega (arith, c.loop-one.auto.asked, c.loop-one-test.true) in
    ap (λ (q : AskedView). set c.loop-one.asked i q) c.in_ok-judge.ensures
    ∙ ap (λ (q : AskedView). set c.loop-one.asked i (judged here q)) (sym c.one-item.is)
    ∙ map_over_more (judged here) c.args.asked.now c.loop-one.asked i c.one-item.result inside c.loop-one.invariant c.one-item.is
