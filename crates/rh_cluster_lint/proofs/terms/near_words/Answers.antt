use Rattle.std.proofs.Common.{◌≡◌, [], codes, subst, ◌∙◌, IfOk}
use Rattle.rh_findings.specs.Sentences.{NamesView, sentence}
use Rattle.rh_cluster_lint.specs.FileWords.{words, names}
use Rattle.rh_cluster_lint.specs.Terms.{near_words}
use Rattle.rh_cluster_lint.proofs.terms.near_words.Goals as goal

pub returns : goal.returns
unfolding near_words
returns c =
    subst (λ (n : NamesView). IfOk c.sentence.result (λ text. text ≡ sentence (words (codes "near_name: ") (codes " is skipped; ") (codes " is near") []) n))
    (c.names.ensures ∙ λ i. names (c.as_str.ensures i) (c.word.ensures i) []) c.sentence.ensures
