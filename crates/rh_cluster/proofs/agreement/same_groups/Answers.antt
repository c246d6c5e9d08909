use Rattle.rh_cluster.proofs.Agreed.{other_lengths}
use Rattle.rh_cluster.proofs.agreement.same_groups.Goals as goal

pub returns-then-these-those : goal.returns-then-these-those
returns-then-these-those c = other_lengths c.args.these.now c.args.those.now c.if-these-those.true
