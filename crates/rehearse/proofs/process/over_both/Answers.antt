use Rattle.rehearse.proofs.Ends.{ends_over}
use Rattle.rehearse.proofs.process.over_both.Goals as goal

pub returns-then-is_alone : goal.returns-then-is_alone
returns-then-is_alone g c =
    ends_over g.S.Source.gives g.S.Source.fails g.K.Sink.takes g.K.Sink.flushes g.K.Sink.fails _ _ _ _ _ _ _ _ c.new-reader.ensures c.new-writer.ensures
    c.rehearse_alone.ensures.ends c.rehearse_alone.ensures.done

pub returns : goal.returns
returns g c =
    ends_over g.S.Source.gives g.S.Source.fails g.K.Sink.takes g.K.Sink.flushes g.K.Sink.fails _ _ _ _ _ _ _ _ c.new-reader.ensures c.new-writer.ensures
    c.rehearse.ensures.ends c.rehearse.ensures.done
