use Rattle.std.proofs.Common.{◌≡◌, drop}
use Rattle.rh_term_lint.specs.Meant.{is_read}
use Rattle.rh_term_lint.proofs.meant.is_read.Given as goal

abbrev pub invariant-loop-name : goal.invariant-loop-name
invariant-loop-name l = is_read (drop l.name-index l.names) l.word ≡ is_read l.names l.word
