use Rattle.std.proofs.Common.{◌≡◌, ◌<◌, true, sym, ◌∙◌, arith}
use Rattle.rh_otp_system.specs.Working.{has_next_at, mail_count_at}
use Rattle.rh_otp_system.proofs.Counting.{worked_on}
use Rattle.rh_otp_system.proofs.system.System.work.Goals as goal

pub loop-number-preserved : goal.loop-number-preserved
loop-number-preserved c =
    let within : c.loop-number.number < mail_count_at c.args.self.now c.args.node = omega (arith, c.mail_count-number-end.ensures) in
    let has : has_next_at c.loop-number.self c.args.node ≡ true = sym c.has_next.ensures ∙ c.if-not-has_next.false in
    worked_on c.args.node (mail_count_at c.args.self.now c.args.node) c.loop-number.number c.loop-number.self c.handle.new.self _ within
    c.loop-number.invariant has c.in_ok-handle.ensures
