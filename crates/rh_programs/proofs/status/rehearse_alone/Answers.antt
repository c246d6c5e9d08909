use Rattle.rh_programs.proofs.Statuses.{is_done}
use Rattle.rh_programs.proofs.status.rehearse_alone.Goals as goal

pub returns-clause-ends : goal.returns-clause-ends
returns-clause-ends g c = (c.ended_alone-ended.result, c.ended_alone-ended.new.writer, c.ended_alone-ended.ensures, c.flush_and_answer.ensures)

pub returns-clause-done : goal.returns-clause-done
returns-clause-done g c =
    is_done g.S.Source.gives g.S.Source.fails g.K.Sink.takes g.K.Sink.flushes g.K.Sink.fails _ _ _ _ _ _
    (c.ended_alone-ended.result, c.ended_alone-ended.new.writer, c.ended_alone-ended.ensures, c.flush_and_answer.ensures)
