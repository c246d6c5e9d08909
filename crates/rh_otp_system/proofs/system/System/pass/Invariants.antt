use Rattle.std.proofs.Common.{◌≡◌, ◌-◌}
use Rattle.rh_otp_system.specs.Doing.{passed, is_past}
use Rattle.rh_otp_system.proofs.system.System.pass.Given as goal

abbrev pub invariant-loop-number : goal.invariant-loop-number
invariant-loop-number l = record {
  state : passed (l.most - l.number) l.end l.most l.order l.self ≡ passed l.most l.end l.most l.order l.fn.self;
  is_quiet : is_past (l.most - l.number) l.end l.most l.order l.self ≡ is_past l.most l.end l.most l.order l.fn.self;
}
