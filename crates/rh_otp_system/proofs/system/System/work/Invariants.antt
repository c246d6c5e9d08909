use Rattle.std.proofs.Common.{◌≡◌, ◌-◌}
use Rattle.rh_otp_system.specs.Working.{work_for, mail_count_at}
use Rattle.rh_otp_system.proofs.system.System.work.Given as goal

abbrev pub invariant-loop-number : goal.invariant-loop-number
invariant-loop-number l =
    work_for (mail_count_at l.fn.self l.node - l.number) l.node l.self ≡ work_for (mail_count_at l.fn.self l.node) l.node l.fn.self
