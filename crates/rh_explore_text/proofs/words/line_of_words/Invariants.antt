use Rattle.std.proofs.Common.{◌≡◌, take, map}
use Rattle.std.specs.List.{flat_map}
use Rattle.rh_explore_text.specs.Words.{spaced_word}
use Rattle.rh_explore_text.proofs.words.line_of_words.Given as goal

abbrev pub invariant-loop-word : goal.invariant-loop-word
invariant-loop-word l = l.line.items ≡ flat_map spaced_word (map (λ word. word.now) (take l.word-index l.words))
