use Rattle.std.proofs.Common.{◌∙◌, ◌||◌, ◌&&◌, ◌==◌, List, get_or, ap}
use Rattle.std.proofs.lemmas.List.{take_all}
use Rattle.std.specs.List.{list_any}
use Rattle.std.specs.Option.{option_to_list}
use Rattle.rh_model.specs.declared.node.App.{App}
use Rattle.rh_model.specs.declared.settings.Dep.{Dep}
use Rattle.rh_model.specs.declared.settings.Dep.TheVariants.{Listed}
use Rattle.rh_model.specs.Needs.{listed}
use Rattle.rh_model.specs.Marks.{is_marked_in, is_touched_by}
use Rattle.rh_model.proofs.MarksKept.{need_more, own_row}
use Rattle.rh_model.proofs.kept_marks.mark_touched.Goals as goal

pub deps-init : goal.deps-init
deps-init c = λ b a few. c.mark.ensures b a ∙ own_row (is_marked_in c.args.rows.now b a) b a c.args.app

pub deps-preserved : goal.deps-preserved
deps-preserved c = λ b a few. c.mark_need.ensures b a few
    ∙ ap (λ p. p || (a.0 == c.args.app.0 && list_any (λ (x : App). b.0 == x.0) (option_to_list (listed (get_or c.args.deps.now c.deps.dep-index (Listed (record { 0 = 0 })))))))
    (c.deps.invariant b a few)
    ∙ need_more (is_marked_in c.args.rows.now b a) (a.0 == c.args.app.0) (a.0 == b.0) b c.args.deps.now c.deps.dep-index (Listed (record { 0 = 0 })) c.deps-test.true

pub returns : goal.returns
returns c = λ b a few. c.deps.invariant b a few
    ∙ ap (λ (deps : List Dep). is_marked_in c.args.rows.now b a || (a.0 == c.args.app.0 && is_touched_by b a deps))
    (take_all c.deps.dep-index c.args.deps.now c.deps-test.false)
