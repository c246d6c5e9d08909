use Rattle.std.proofs.Common.{◌≡◌, drop}
use Rattle.rh_model.specs.Names.{is_among}
use Rattle.rh_cluster.proofs.MemberNames.{names_of}
use Rattle.rh_cluster.proofs.descriptions.repeats_member.Given as goal

abbrev pub invariant-loop-group : goal.invariant-loop-group
invariant-loop-group l = is_among (names_of (drop l.group-index l.groups)) l.name ≡ is_among (names_of l.groups) l.name
