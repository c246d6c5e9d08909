use Rattle.std.proofs.Common.{◌≡◌, drop, find}
use Rattle.rh_term_lint.specs.Near.{is_near}
use Rattle.rh_term_lint.specs.Meant.{word_of}
use Rattle.rh_term_lint.proofs.meant.near_name.Given as goal

abbrev pub invariant-loop-name : goal.invariant-loop-name
invariant-loop-name l =
    find (λ name. is_near l.word (word_of name)) (drop l.name-index l.names) ≡ find (λ name. is_near l.word (word_of name)) l.names
