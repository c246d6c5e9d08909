use Rattle.std.proofs.Common.{◌≡◌, map, take}
use Rattle.rh_base.specs.Tree.{tree_of}
use Rattle.rh_otp_file.specs.Files.{config_of, file_by}
use Rattle.rh_otp_file.proofs.files.files_of.Given as goal

abbrev pub invariant-loop-index : goal.invariant-loop-index
invariant-loop-index l = l.files.items ≡ map (λ name. file_by l.cluster (config_of name (map tree_of l.terms))) (take l.index l.cluster.node_names)
