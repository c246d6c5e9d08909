use Rattle.std.proofs.Common.{◌+◌, ◌*◌, ◌%◌, ◌^◌, ap, ◌∙◌}
use Rattle.rh_model.specs.Marks.{is_marked, marks_of}
use Rattle.rh_model.proofs.Marks.{moved_first, moved_other}
use Rattle.rh_model.proofs.app_marks.with_mark_in_front.Goals as goal

pub returns-clause-first : goal.returns-clause-first
returns-clause-first c = λ a first. ap (λ m. is_marked (marks_of (c.args.marks * 2 ^ 1 % 2 ^ 64 + m)) a) c.from.ensures
    ∙ moved_first c.args.marks c.args.mark a first

pub returns-clause-others : goal.returns-clause-others
returns-clause-others c = λ a b next few. ap (λ m. is_marked (marks_of (c.args.marks * 2 ^ 1 % 2 ^ 64 + m)) b) c.from.ensures
    ∙ moved_other c.args.marks c.args.mark a b next few
