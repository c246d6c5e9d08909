use Rattle.std.proofs.Common.{Some, map, sym, ap, ◌∙◌}
use Rattle.std.proofs.lemmas.Iterator.Adapters.{YieldsList-from_vec}
use Rattle.std.proofs.lemmas.Iterator.Consumers.{YieldsList-end}
use Rattle.std.proofs.lemmas.List.{map-id}
use Rattle.rh_sweep.specs.Working.{given}
use Rattle.rh_sweep.proofs.Turns.{more-alike}
use Rattle.rh_sweep.proofs.shares.turns_of.Goals as goal

pub loop-part-preserved : goal.loop-part-preserved
loop-part-preserved c =
    more-alike (λ turn. Some turn.items) given c.loop-part.turns.items c.push_back.new.self.items c.loop-part.yielded c.from.result c.in-Some.part
    c.in_ok-push_back.ensures.items c.loop-part.invariant (ap (λ os. Some os) c.from.ensures.0 ∙ sym (ap given c.in_ok-part.was))

pub returns : goal.returns
returns c =
    let gives = c.into_iter-part-iterator.ensures.into_iter_gives in
    let all = YieldsList-end (YieldsList-from_vec {s = c.into_iter-part-iterator.result} c.args.parts.items gives.0 (gives.1 ∙ c.args.parts.ok.0))
    c.loop-part.yielded c.loop-part.part-iterator c.loop-part.yielded_by c.next.result c.next.new.self c.in-None.is c.next.ensures.steps in
    c.loop-part.invariant ∙ ap (map given) (sym (map-id c.loop-part.yielded) ∙ all.0)
