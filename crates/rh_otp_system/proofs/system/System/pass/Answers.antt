use Rattle.std.proofs.Common.{◌≡◌, ◌<◌, Some, true, sym, ◌∙◌, arith}
use Rattle.rh_otp_system.specs.Moves.{is_settled_by}
use Rattle.rh_otp_system.specs.Doing.{fired_next, next_until}
use Rattle.rh_otp_system.proofs.Counting.{passed_on, past_on}
use Rattle.rh_otp_system.proofs.system.System.pass.Goals as goal

pub loop-number-preserved : goal.loop-number-preserved
loop-number-preserved c =
    let within : c.loop-number.number < c.args.most = omega arith in
    let found : next_until c.args.end c.loop-number.self ≡ Some c.in-Some.due = sym c.next_due.ensures ∙ c.in-Some.is in
    let quiet : is_settled_by c.args.most c.args.order (fired_next c.in-Some.due c.loop-number.self) ≡ true =
    sym c.in_ok-fire_next.ensures.is_quiet ∙ c.if-not-branch.false in
    record {
      state = passed_on c.args.most c.args.end c.args.most c.loop-number.number c.args.order c.loop-number.self c.fire_next.new.self _ c.in-Some.due within
          c.loop-number.invariant.state found quiet c.in_ok-fire_next.ensures.state;
      is_quiet = past_on c.args.most c.args.end c.args.most c.loop-number.number c.args.order c.loop-number.self c.fire_next.new.self _ c.in-Some.due within
          c.loop-number.invariant.is_quiet found quiet c.in_ok-fire_next.ensures.state;
    }
