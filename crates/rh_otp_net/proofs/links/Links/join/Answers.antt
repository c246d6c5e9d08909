use Rattle.std.proofs.Common.{◌≡◌, ◌∙◌, ◌++◌, IfSome, Option, ap, subst, sym, rules}
use Rattle.std.proofs.lemmas.List.{append-nil}
use Rattle.rh_model.specs.ClusterView.{is_in}
use Rattle.rh_model.specs.declared.node.Node.{Node}
use Rattle.rh_place.specs.Sets.{NodeBits}
use Rattle.rh_otp_net.specs.Matrix.{is_held}
use Rattle.rh_otp_net.proofs.Seen.{none_joined}
use Rattle.rh_otp_net.proofs.links.Links.join.Goals as goal

-- it sees them all
pub returns-then-sees_all : goal.returns-then-sees_all
returns-then-sees_all c =
    let held : (n : Node) → is_held c.in-Some.set n ≡ is_in n c.args.others.now =
    subst (λ (o : Option NodeBits). IfSome o (λ set. (n : Node) → is_held set n ≡ is_in n c.args.others.now)) c.in-Some.is c.requires.set in
    sym (ap (λ links. c.args.found.now.items ++ links)
    (none_joined c.args.pair c.args.self.now c.args.node c.args.others.now (λ b within. c.if-sees_all.ensures (search rules) b (held b ∙ within)))
    ∙ append-nil c.args.found.now.items)
