-- How the findings of a file are told, with their lines (ours).
use Rattle.std.specs.Prelude.{None, if◌then◌else◌}
use Rattle.rh_model.specs.ClusterView.{ClusterView}
use Rattle.rh_file_lint.specs.declared.finding.FileFinding.{FileFinding}
use Rattle.rh_findings.specs.declared.finding.Kind.TheVariants.{Warning, Hint}
use Rattle.rh_findings.specs.declared.finding.Finding.{Finding}
use Rattle.rh_findings.specs.Sentences.{sentence}
use Rattle.rh_cluster_lint.specs.Lines.{LinesView}
use Rattle.rh_cluster_lint.specs.FileWords.{words_of, names_of, is_warning, file_line}

unfoldable pub file_found : LinesView → ClusterView → FileFinding → Finding
file_found l c f = record {
  line = file_line l f;
  kind = if is_warning f then Warning else Hint;
  text = sentence (words_of f) (names_of c f);
  path = None;
}
