use Rattle.std.proofs.Common.{◌<◌, ◌^◌, sym, ap, ◌∙◌, arith}
use Rattle.rh_place.specs.Sets.{has}
use Rattle.rh_place.specs.declared.node_set.TheConstants.NodeSet.{LIMIT}
use Rattle.rh_place.proofs.Bits.{has_none_above, has_by_mask, is_above}
use Rattle.rh_place.proofs.node_set.NodeSet.has.Goals as goal

pub returns-then-node-lt-LIMIT : goal.returns-then-node-lt-LIMIT
returns-then-node-lt-LIMIT c = has_by_mask c.self.inside.bits c.args.node c.if-node-lt-LIMIT.true ∙ ap (λ s. has s c.args.node) c.self.view_is

pub returns-else-node-lt-LIMIT : goal.returns-else-node-lt-LIMIT
returns-else-node-lt-LIMIT c =
    let small : c.self.inside.bits < 2 ^ 64 = omega arith in
    is_above c.args.node.0 LIMIT c.if-node-lt-LIMIT.false
    ∙ sym (has_none_above (record { bits = c.self.inside.bits }) c.args.node small c.if-node-lt-LIMIT.false)
    ∙ ap (λ s. has s c.args.node) c.self.view_is
