-- What hangs, by the report of live nodes, and what newly hangs (ours).
use Rattle.std.specs.Prelude.{ℕ, List, [], ◌++◌, Bool, nat_eq, drop, codes, if◌then◌else◌}
use Rattle.std.specs.List.{flat_map, list_any, starts_with}
use Rattle.std.specs.Str.{bytes_eq}
use Rattle.rh_calls.specs.Report.{node_word}
use Rattle.rh_model.specs.ClusterView.{ClusterView}
use Rattle.rh_script.specs.declared.notes.Kind.TheVariants.{Reason}
use Rattle.rh_script.specs.Lines.{raw_lines}
use Rattle.rh_script.specs.Notes.{mark}
use Rattle.rh_otp_report.specs.Views.{NodeReportView, ReportView}
use Rattle.rh_otp_text.specs.Nodes.{node_lines}

-- ---- in one report

-- a line of a report tells for what a dist_ac or a boot script waits
abbrev pub is_blocked : List ℕ → Bool
is_blocked line = starts_with nat_eq line (codes "  blocked ")

-- such a line behind a name; nothing where it is another line
abbrev pub blocked_line : List ℕ → List ℕ → List ℕ
blocked_line name line = if is_blocked line then name ++ drop 1 line else []

-- what hangs at a node: those of its lines, behind its name
abbrev pub node_blocks : ClusterView → NodeReportView → List ℕ
node_blocks c r = flat_map (blocked_line (node_word c r.node)) (raw_lines (node_lines c r))

-- what hangs at each node, in the order of the report
abbrev pub hanging_text : ClusterView → ReportView → List ℕ
hanging_text c r = flat_map (node_blocks c) r.nodes

-- ---- newly

abbrev pub has_line : List ℕ → List ℕ → Bool
has_line text line = list_any (λ other. bytes_eq other line) (raw_lines text)

-- a line behind the mark of reasons, unless it was there before
abbrev pub new_line : List ℕ → List ℕ → List ℕ
new_line before line = if has_line before line then [] else mark Reason ++ line

-- the lines that weren't there before
abbrev pub new_lines : List ℕ → List ℕ → List ℕ
new_lines before after = flat_map (new_line before) (raw_lines after)
