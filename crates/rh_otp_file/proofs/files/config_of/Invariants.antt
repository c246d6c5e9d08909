use Rattle.std.proofs.Common.{◌≡◌, map, drop}
use Rattle.rh_base.specs.Tree.{tree_of}
use Rattle.rh_otp_file.specs.Files.{config_of}
use Rattle.rh_otp_file.proofs.files.config_of.Given as goal

abbrev pub invariant-loop-term : goal.invariant-loop-term
invariant-loop-term l = config_of l.name (map tree_of (drop l.term-index l.terms)) ≡ config_of l.name (map tree_of l.terms)
