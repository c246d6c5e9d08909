-- Sentences in which names stand (ours).
use Rattle.std.specs.Prelude.{ℕ, List, ◌++◌}
use Rattle.rh_findings.specs.declared.sentences.Words.{Words}
use Rattle.rh_findings.specs.declared.sentences.Names.{Names}

-- the words: the first ones, and those behind each name
pub record WordsView : Type 0 where
  pub begin : List ℕ
  pub first : List ℕ
  pub second : List ℕ
  pub third : List ℕ

-- three names
pub record NamesView : Type 0 where
  pub first : List ℕ
  pub second : List ℕ
  pub third : List ℕ

-- a sentence
unfoldable pub sentence : WordsView → NamesView → List ℕ
sentence words names =
    words.begin ++ (names.first ++ (words.first ++ (names.second ++ (words.second ++ (names.third ++ words.third)))))

-- both as callers see them
abbrev pub words_seen : Words → WordsView
words_seen w = record { begin = w.begin.now; first = w.first.now; second = w.second.now; third = w.third.now }

abbrev pub names_seen : Names → NamesView
names_seen n = record { first = n.first.now; second = n.second.now; third = n.third.now }
