use Rattle.std.proofs.Common.{◌++◌, ◌∷◌, [], List, map, filter, not, ap, sym, ◌∙◌, arith}
use Rattle.std.specs.List.{range_with_len}
use Rattle.std.proofs.lemmas.List.{map-append}
use Rattle.std.proofs.lemmas.List.Elements.{filter-append}
use Rattle.std.proofs.lemmas.List.FromFn.{map-range_with_len_more}
use Rattle.rh_model.specs.ClusterView.{app_numbered}
use Rattle.rh_model.specs.declared.node.App.{App}
use Rattle.rh_rules.specs.Course.{is_local}
use Rattle.rh_courses.specs.Courses.{CourseView}
use Rattle.rh_courses.specs.Working.{not_run}
use Rattle.rh_courses.proofs.walk.none_ran.Goals as goal

pub loop-number-preserved : goal.loop-number-preserved
loop-number-preserved c =
    let i = c.loop-number.number in
    let p = λ (a : App). not (is_local c.args.cluster.now a) in
    let before = map app_numbered (range_with_len 0 i) in
    record {
      courses = c.in_ok-push_if_distributed.ensures.courses
          ∙ ap (λ (cs : List CourseView). cs ++ map not_run (filter p (app_numbered i ∷ []))) c.loop-number.invariant.courses
          ∙ sym (map-append not_run (filter p before) (filter p (app_numbered i ∷ [])))
          ∙ ap (map not_run) (sym (filter-append p before (app_numbered i ∷ [])))
          ∙ ap (λ (apps : List App). map not_run (filter p apps)) (sym (map-range_with_len_more app_numbered 0 i i (omega arith)));
      apps = c.in_ok-push_if_distributed.ensures.apps;
    }
