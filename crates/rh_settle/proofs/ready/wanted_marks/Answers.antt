use Rattle.std.proofs.Common.{◌∙◌, ap, sym}
use Rattle.std.specs.List.{list_any}
use Rattle.rh_state.specs.Stored.{read}
use Rattle.rh_settle.specs.Boards.{is_wanted}
use Rattle.rh_settle.proofs.Starts.{none_wanted}
use Rattle.rh_settle.proofs.ready.wanted_marks.Goals as goal

pub returns-else-has_wanted : goal.returns-else-has_wanted
returns-else-has_wanted c = λ a of. c.empty.ensures a
    ∙ sym (none_wanted (read c.args.state.now) (ap (list_any is_wanted) (sym c.standings.ensures) ∙ sym c.has_wanted.ensures ∙ c.if-has_wanted.false) a)
