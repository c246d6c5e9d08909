-- How a fault is told with its place (ours).
use Rattle.std.specs.Prelude.{ℕ, ◌-◌, List, [], ◌++◌, codes, fold, length, take, slice_get, nat_lt, ◌&&◌, ◌==◌, Option, Some, None, if◌then◌else◌}
use Rattle.std.specs.List.{before_first}
use Rattle.std.specs.Str.{trim}
use Rattle.rh_cluster.specs.declared.fault.ClusterFault.{ClusterFault}
use Rattle.rh_cluster.specs.declared.fault.ClusterFault.TheVariants as fault
use Rattle.rh_findings.specs.declared.finding.Finding.{Finding}
use Rattle.rh_cluster_lint.specs.declared.blame.Step.{Step}
use Rattle.rh_cluster_lint.specs.declared.telling.TheConstants.{MOST_SHOWN}
use Rattle.rh_cluster_lint.specs.Expected.{expected}
use Rattle.rh_cluster_lint.specs.Hints.{hint_words, line_at}
use Rattle.rh_cluster_lint.specs.Spans.{span}
use Rattle.rh_cluster_lint.specs.Ways.{is_named, way}
use Rattle.rh_cluster_lint.specs.Words.{words_of, first_word}

-- what is shown of the bytes of a part: their first line, cut where it is long, and dots behind it where that isn't all
abbrev pub front : List ℕ → List ℕ
front bytes = take MOST_SHOWN (before_first (λ b. b == 10) bytes)

abbrev pub dots : List ℕ → List ℕ
dots bytes = if nat_lt (length (front bytes)) (length bytes) then codes ".." else []

abbrev pub shown : List ℕ → List ℕ
shown bytes = words_of (front bytes) ++ dots bytes

-- what stands before it, where there is something to show: of bytes that aren't UTF-8 there is nothing
abbrev pub colon : List ℕ → List ℕ → List ℕ
colon words dots = if (length words == 0) && (length dots == 0) then [] else codes ": "

-- what is said of what stands in a section, a key or a parameter
abbrev pub expected_in : List ℕ → Step → List ℕ
expected_in text s = if nat_lt 0 s.part.depth && is_named text s then expected (first_word (span text s.part)) else []

-- of the last of these of which something is said
abbrev pub or_before : List ℕ → List ℕ → List ℕ
or_before told more = if length more == 0 then told else more

abbrev pub expected_on : List ℕ → List Step → List ℕ
expected_on text steps = fold (λ told s. or_before told (expected_in text s)) [] steps

-- where something else stands there
abbrev pub takes : List ℕ → ClusterFault → List Step → List ℕ
takes text fault.BadValue steps = expected_on text steps
takes text _ steps = []

-- what stands on the line of a fault, where it has one, without the blanks round it
abbrev pub on_line : List ℕ → Option ℕ → List ℕ
on_line text None = []
on_line text (Some k) = trim (words_of (line_at text k))

-- a finding with what may have been meant, and what stands on its line
unfoldable pub hinted : List ℕ → ClusterFault → Finding → Finding
hinted text fault f = record {
  line = f.line;
  kind = f.kind;
  text = f.text
      ++ (hint_words text fault f.line ++ (colon (words_of (front (on_line text f.line))) (dots (on_line text f.line)) ++ shown (on_line text f.line)));
  path = None;
}

-- a finding with the place of the part at the end of the way, and the way there
abbrev pub placed_at : List ℕ → ClusterFault → Finding → List Step → Option Step → Finding
placed_at text fault f steps None = f
placed_at text fault f steps (Some s) = record {
  line = Some s.part.line;
  kind = f.kind;
  text = f.text ++ (colon (words_of (front (span text s.part))) (dots (span text s.part)) ++ (shown (span text s.part) ++ takes text fault steps));
  path = Some (way text steps);
}

unfoldable pub placed : List ℕ → ClusterFault → Finding → List Step → Finding
placed text fault f steps = placed_at text fault f steps (slice_get steps (length steps - 1))
