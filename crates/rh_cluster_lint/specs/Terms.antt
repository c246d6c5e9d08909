-- How the findings of terms are told (ours).
use Rattle.std.specs.Prelude.{ℕ, List, [], codes, None}
use Rattle.rh_term_lint.specs.declared.names.ReadName.{ReadName}
use Rattle.rh_term_lint.specs.declared.finding.TermFinding.{TermFinding}
use Rattle.rh_term_lint.specs.declared.finding.TermFinding.TheVariants.{NoProfile, NearSection, NearParameter, UndefinedWritten, NearKey}
use Rattle.rh_term_lint.specs.Meant.{word_of}
use Rattle.rh_findings.specs.declared.finding.Kind.TheVariants.{Warning, Hint}
use Rattle.rh_findings.specs.declared.finding.Finding.{Finding}
use Rattle.rh_findings.specs.Sentences.{sentence}
use Rattle.rh_cluster_lint.specs.Lines.{LinesView, line_at, word_line}
use Rattle.rh_cluster_lint.specs.FileWords.{words, names}

-- a skipped name, and the one that is near
unfoldable pub near_words : List ℕ → ReadName → List ℕ
near_words written meant = sentence (words (codes "near_name: ") (codes " is skipped; ") (codes " is near") []) (names written (word_of meant) [])

unfoldable pub near_found : LinesView → ℕ → List ℕ → ReadName → Finding
near_found l term written meant = record { line = word_line l term written; kind = Warning; text = near_words written meant; path = None }

-- a finding of the terms; names that were meant otherwise, and what ends a live node, are warnings
unfoldable pub term_found : LinesView → TermFinding → Finding
term_found l NoProfile = record {
  line = None;
  kind = Hint;
  text = codes "no_profile: no term is {profile, N}: in profile 1 a permission that is given back moves nothing, as in no live OTP";
  path = None;
}
term_found l (UndefinedWritten term) = record {
  line = line_at l term;
  kind = Warning;
  text = codes "undefined_written: {sync_nodes_timeout, undefined} ends a live node; leave the parameter out";
  path = None;
}
term_found l (NearSection term written meant) = near_found l term written meant
term_found l (NearParameter term written meant) = near_found l term written meant
term_found l (NearKey term written meant) = near_found l term written meant
