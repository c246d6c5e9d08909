-- How many edits a part of a step keeps (ours).
use Rattle.std.specs.Prelude.{ℕ, ◌+◌, ◌*◌, ◌≤◌, List, length}
use Rattle.std.specs.List.{sum_by}
use Rattle.rh_model.specs.ClusterView.{ClusterView, app_count, boot_of}
use Rattle.rh_rules.specs.declared.notice.Notice.{Notice}
use Rattle.rh_rules.specs.declared.notice.Notice.TheVariants.{Up, Ended}
use Rattle.rh_trace.specs.Traces.{TraceView}

-- from one trace to a later one: four for each notice that was told between them, and so many more, at most
abbrev pub FewEdits : ℕ → TraceView → TraceView → Type 0
FewEdits more old new = length new.edits + 4 * length old.notices ≤ length old.edits + (4 * length new.notices + more)

-- what a notice stands for: a node that comes up for each entry of its boot list too, one that ends for each application
abbrev pub weight : ClusterView → Notice → ℕ
weight c (Up n) = 1 + length (boot_of c n)
weight c (Ended n) = 1 + app_count c
weight c _ = 1

unfoldable pub weights : ClusterView → List Notice → ℕ
weights c notices = sum_by (weight c) notices

-- the same with the notices weighed: four for each unit of their weight, and so many more, at most
abbrev pub FewWeighed : ClusterView → ℕ → TraceView → TraceView → Type 0
FewWeighed c more old new = length new.edits + 4 * weights c old.notices ≤ length old.edits + (4 * weights c new.notices + more)
