use Rattle.std.proofs.Common.{◌||◌, Option, List, sym, ap, ◌∙◌, is_some}
use Rattle.std.specs.List.{position}
use Rattle.std.specs.Option.{option_and_then}
use Rattle.rh_model.specs.ClusterView.{is_in}
use Rattle.rh_model.specs.declared.node.Node.{Node}
use Rattle.rh_model.specs.declared.settings.Spread.{Spread}
use Rattle.rh_base.proofs.Lists.{place_any}
use Rattle.rh_place.specs.Sets.{has}
use Rattle.rh_settle.proofs.board.with_list.Goals as goal

pub returns-in-Some : goal.returns-in-Some
returns-in-Some c = λ n.
    c.with_groups.ensures n
    ∙ ap (λ b. has c.args.set n || b) (sym (place_any (is_in n) c.as_slice.result.now)
    ∙ ap (λ (groups : List (List Node)). is_some (position (is_in n) groups)) c.as_slice.ensures
    ∙ ap (λ (o : Option Spread). is_some (option_and_then (λ (v : Spread). position (is_in n) v.groups) o)) c.in-Some.ensures)
