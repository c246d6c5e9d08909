-- A trace as contracts see it, and a state seen with the trace that led to it, which is a course of the rules (ours).
use Rattle.std.specs.Prelude.{List}
use Rattle.rh_model.specs.ClusterView.{ClusterView}
use Rattle.rh_state.specs.Shape.{IsNodeOf, IsAppOf}
use Rattle.rh_state.specs.StateView.{StateView}
use Rattle.rh_state.specs.declared.edit.Edit.{Edit}
use Rattle.rh_rules.specs.declared.notice.Notice.{Notice}
use Rattle.rh_rules.specs.declared.notice.Pair.{Pair}
use Rattle.rh_rules.specs.Course.{Course}

-- what was told, which pairs were marked, which a permission given back made fresh, and what was changed
pub record TraceView : Type 0 where
  pub notices : List Notice
  pub marked : List Pair
  pub freed : List Pair
  pub edits : List Edit

abbrev pub trace_of : List Notice → List Pair → List Pair → List Edit → TraceView
trace_of notices marked freed edits = record { notices = notices; marked = marked; freed = freed; edits = edits }

-- a state, seen with the trace that led to it
abbrev pub course : StateView → TraceView → Course
course s trace = record { state = s; notices = trace.notices; marked = trace.marked; freed = trace.freed }

-- the node and the application of a pair are the cluster's
pub record IsPairOf (c : ClusterView) (p : Pair) : Type 0 where
  pub node : IsNodeOf c p.node
  pub app : IsAppOf c p.app
