use Rattle.std.proofs.Common.{◌≡◌, map, filter, not}
use Rattle.std.specs.List.{range_with_len}
use Rattle.rh_model.specs.ClusterView.{app_numbered}
use Rattle.rh_rules.specs.Course.{is_local}
use Rattle.rh_courses.specs.Working.{not_run, AreOf}
use Rattle.rh_courses.proofs.walk.none_ran.Given as goal

abbrev pub invariant-loop-number : goal.invariant-loop-number
invariant-loop-number l = record {
  courses : l.courses.items ≡ map not_run (filter (λ a. not (is_local l.fn.cluster a)) (map app_numbered (range_with_len 0 l.number)));
  apps : AreOf l.fn.cluster l.courses.items;
}
