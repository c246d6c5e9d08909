use Rattle.std.proofs.Common.{refl}
use Rattle.rh_room.proofs.closing.are_all.Goals as goal

pub returns-then-are_known : goal.returns-then-are_known
returns-then-are_known c = (λ once. record { known = c.if-are_known.ensures.0 refl; once = c.are_once.ensures.0 once }, λ all. c.are_once.ensures.1 all.once)
