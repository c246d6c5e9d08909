use Rattle.std.proofs.Common.{◌≡◌, ◌<◌, Some, sym, ◌∙◌, arith}
use Rattle.rh_otp_system.specs.Moves.{next_move}
use Rattle.rh_otp_system.proofs.Counting.{moved_on, quiet_on}
use Rattle.rh_otp_system.proofs.system.System.move_on.Goals as goal

pub loop-number-preserved : goal.loop-number-preserved
loop-number-preserved c =
    let within : c.loop-number.number < c.args.most = omega arith in
    let found : next_move c.loop-number.order c.loop-number.self ≡ Some c.in-Some.next = sym c.in_ok-next.ensures ∙ c.in-Some.is in
    record {
      state = moved_on c.args.most c.loop-number.number c.loop-number.order _ c.loop-number.self c.make.new.self _ c.in-Some.next within
          c.loop-number.invariant.state found c.next_order-order.ensures c.in_ok-make.ensures;
      is_quiet = quiet_on c.args.most c.loop-number.number c.loop-number.order _ c.loop-number.self c.make.new.self _ c.in-Some.next within
          c.loop-number.invariant.is_quiet found c.next_order-order.ensures c.in_ok-make.ensures;
    }
