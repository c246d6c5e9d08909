use Rattle.std.proofs.Common.{◌≡◌, map, take, List, ℕ}
use Rattle.std.specs.Borrow.{Bor}
use Rattle.rh_script.specs.Forms.{word_of}
use Rattle.rh_line_lint.proofs.commands.command_words.Given as goal

abbrev pub invariant-loop-verb : goal.invariant-loop-verb
invariant-loop-verb l = map (λ (word : Bor (List ℕ)). word.now) l.words.items ≡ map word_of (take l.verb-index l.verb-items)
