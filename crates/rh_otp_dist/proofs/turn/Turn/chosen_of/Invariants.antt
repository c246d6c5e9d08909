use Rattle.std.proofs.Common.{◌≡◌, None, drop, filter}
use Rattle.rh_otp_dist.specs.Choosing.{is_eligible, lightest_of}
use Rattle.rh_otp_dist.proofs.turn.Turn.chosen_of.Given as goal

abbrev pub invariant-loop-answer : goal.invariant-loop-answer
invariant-loop-answer l =
    lightest_of l.self.cluster l.best (filter (is_eligible l.self.state l.group) (drop l.answer-index l.answers))
    ≡ lightest_of l.self.cluster None (filter (is_eligible l.self.state l.group) l.answers)
