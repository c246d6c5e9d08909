use Rattle.std.proofs.Common.{◌≡◌, ◌-◌}
use Rattle.rh_otp_system.specs.Moves.{moved, is_quiet_behind}
use Rattle.rh_otp_system.proofs.system.System.move_on.Given as goal

abbrev pub invariant-loop-number : goal.invariant-loop-number
invariant-loop-number l = record {
  state : moved (l.most - l.number) l.order l.self ≡ moved l.most l.fn.first l.fn.self;
  is_quiet : is_quiet_behind (l.most - l.number) l.order l.self ≡ is_quiet_behind l.most l.fn.first l.fn.self;
}
