use Rattle.std.proofs.Common.{◌≡◌, ◌++◌, map, take, drop}
use Rattle.rh_otp_explore.specs.Tallying.{judged}
use Rattle.rh_otp_explore.proofs.tally.judge_all.Given as goal

abbrev pub invariant-loop-one : goal.invariant-loop-one
invariant-loop-one l =
    l.asked ≡ map (judged (record { events = l.events; sim = l.stand })) (take l.one-index l.fn.asked) ++ drop l.one-index l.fn.asked
