use Rattle.std.proofs.Common.{◌≡◌, List, Option, None, map, rules, tests, ap, ◌∙◌}
use Rattle.std.proofs.lemmas.Iterator.{items_from_collect, YieldsList-from_slice, YieldsList-from_map}
use Rattle.std.proofs.lemmas.Result.{IfOk-at_ok}
use Rattle.rh_history.specs.Draft.{overlaid}
use Rattle.rh_history.proofs.Overlays.{overlaid_none}
use Rattle.rh_history.proofs.draft.Draft.of.Goals as goal

pub returns : goal.returns
returns g c =
    let T : Type 0 = g.row.T.Denot in
    let cells : List T = c.args.cells.now in
    let none : T → Option T = λ _. None in
    let own : c.in_ok-own.own.items ≡ map none cells =
    IfOk-at_ok (λ v. v.items ≡ map none cells) c.in_ok-own.was
    (items_from_collect c.collect.result c.collect.ensures.ran
    (YieldsList-from_map _ none (YieldsList-from_slice cells cc) c.map.ensures.closure (λ x r q k. search (rules, tests)))) in
    λ i. record { base = cells; cells = (ap (overlaid cells) own ∙ overlaid_none cells) i }
