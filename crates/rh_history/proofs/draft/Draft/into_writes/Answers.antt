use Rattle.std.proofs.Common.{◌≡◌, rules, tests, ◌∙◌}
use Rattle.std.proofs.lemmas.Iterator.{items_from_collect}
use Rattle.std.proofs.lemmas.Iterator.Adapters.{YieldsList-from_vec}
use Rattle.std.proofs.lemmas.Iterator.Consumers.{YieldsList-from_enumerate, YieldsList-from_filter_map, YieldsList-at}
use Rattle.std.proofs.lemmas.Result.{IfOk-at_ok}
use Rattle.std.specs.List.{filter_map, enumerate_from}
use Rattle.rh_history.proofs.Overlays.{own_write, writes_give, writes_within}
use Rattle.rh_history.proofs.draft.Draft.into_writes.Given.{Over}
use Rattle.rh_history.proofs.draft.Draft.into_writes.Goals as goal

-- what the chain collects
writes_are : (g : Over) (c : goal.In_ok-collect g) → c.in_ok-collect.field-0.items ≡ filter_map own_write (enumerate_from 0 c.self.inside.own.items)
writes_are g c =
    let own = c.self.inside.own in
    IfOk-at_ok (λ v. v.items ≡ filter_map own_write (enumerate_from 0 own.items)) c.in_ok-collect.was
    (items_from_collect c.collect.result c.collect.ensures.ran
    (YieldsList-from_filter_map _ own_write
    (YieldsList-at c.filter_map-writes.ensures.source
    (YieldsList-from_enumerate
    (YieldsList-at c.enumerate.ensures.source (YieldsList-from_vec own.items c.into_iter.ensures.rest (c.into_iter.ensures.len ∙ own.ok.0)))
    c.enumerate.ensures.count))
    c.filter_map-writes.ensures.closure (λ x r q k. search (rules, tests))))

pub returns-clause-cells : goal.returns-clause-cells
returns-clause-cells g c =
    let d = c.self.inside in
    writes_give d.base.now d.own.items c.args.self c.self.invariant c.self.view_is c.in_ok-collect.field-0.items (writes_are g c)

pub returns-clause-places : goal.returns-clause-places
returns-clause-places g c =
    let d = c.self.inside in
    writes_within d.base.now d.own.items c.args.self c.self.invariant c.self.view_is c.in_ok-collect.field-0.items (writes_are g c)
