use Rattle.std.proofs.Common.{◌≡◌, take, count_by}
use Rattle.rh_outcomes.specs.Outcomes.{is_takeover}
use Rattle.rh_sweep.proofs.trial.takeovers_in.Given as goal

abbrev pub invariant-loop-notice : goal.invariant-loop-notice
invariant-loop-notice l = l.found ≡ count_by is_takeover (take l.notice-index l.notices)
