use Rattle.std.proofs.Common.{rules, subst}
use Rattle.rh_base.specs.Tree.{tree_of}
use Rattle.rh_cluster.specs.Faults.{FindsFirst}
use Rattle.rh_cluster.specs.Sections.{section_key}
use Rattle.rh_cluster.specs.Common.{section_faults_left}
use Rattle.rh_cluster.proofs.Left.{same_sections}
use Rattle.rh_cluster.proofs.sections.check_sections.Goals as goal

pub returns : goal.returns
returns c =
    let left = section_faults_left c.args.has_passed c.args.names.now in
    subst (FindsFirst c.check_entries.result) (same_sections c.args.has_passed c.args.names.now (tree_of c.args.value.now) c.requires)
    (c.check_entries.ensures.exact section_key left (search rules) (search rules))
