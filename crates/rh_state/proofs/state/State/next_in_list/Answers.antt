use Rattle.std.proofs.Common.{◌≡◌, ℕ, Some, ap, sym, ◌∙◌}
use Rattle.std.specs.Option.{option_map}
use Rattle.rh_arena.specs.Words.{owner_of}
use Rattle.rh_arena.specs.Lists.{listed, after}
use Rattle.rh_state.specs.Pairs.{pair_number, IsPairOfNode, app_of_pair}
use Rattle.rh_state.specs.Shape.{IsNodeOf, IsAppOf}
use Rattle.rh_state.specs.Stored.{read}
use Rattle.rh_state.proofs.PairLists.{IfSome-after}
use Rattle.rh_state.proofs.Links.{AreOfPairs-list, list_of_pair}
use Rattle.rh_state.proofs.Places.{next_unowned, next_owned}
use Rattle.rh_state.proofs.state.State.next_in_list.Goals as goal

pub app_at-requires : goal.app_at-requires
unfolding read
app_at-requires c =
    let cluster = c.self.inside.cluster.value in
    let words = c.self.inside.links in
    let node : IsNodeOf cluster c.args.node = rw (← c.self.view_is) at c.requires.node in
    let app : IsAppOf cluster c.args.app = rw (← c.self.view_is) at c.requires.app in
    let number : c.pair-pair.result ≡ pair_number cluster c.args.node c.args.app = rw (← c.self.view_is) at c.pair-pair.ensures.pair in
    let owner : owner_of words c.pair-pair.result ≡ Some c.in-Some.field-0 = sym c.list_of.ensures.word ∙ c.in-Some.is in
    let own = list_of_pair cluster words c.args.node c.args.app c.in-Some.field-0 c.self.invariant.links app (rw number at owner) in
    let all = AreOfPairs-list cluster words c.args.node c.in-Some.field-0 c.self.invariant.links node own in
    rw (← c.self.view_is, c.next.ensures.behind c.in-Some.field-0 owner)
    (IfSome-after (IsPairOfNode cluster c.args.node) c.pair-pair.result (listed words c.in-Some.field-0) all)

pub returns-in-None-clause-next : goal.returns-in-None-clause-next
unfolding read
returns-in-None-clause-next c =
    let node = rw (← c.self.view_is) at c.requires.node in
    let number = rw (← c.self.view_is) at c.pair-pair.ensures.pair in
    let owner = rw number at (sym c.list_of.ensures.word ∙ c.in-None.is) in
    rw (← c.self.view_is) (sym (next_unowned _ _ _ _ c.self.invariant.links node owner))

pub returns-in-Some-clause-next : goal.returns-in-Some-clause-next
unfolding read
returns-in-Some-clause-next c =
    let cluster = c.self.inside.cluster.value in
    let words = c.self.inside.links in
    let node : IsNodeOf cluster c.args.node = rw (← c.self.view_is) at c.requires.node in
    let app : IsAppOf cluster c.args.app = rw (← c.self.view_is) at c.requires.app in
    let number : c.pair-pair.result ≡ pair_number cluster c.args.node c.args.app = rw (← c.self.view_is) at c.pair-pair.ensures.pair in
    let owner : owner_of words c.pair-pair.result ≡ Some c.in-Some.field-0 = sym c.list_of.ensures.word ∙ c.in-Some.is in
    let result = rw (← c.self.view_is) at c.app_at.ensures.app in
    let next : c.next.result ≡ after (pair_number cluster c.args.node c.args.app) (listed words c.in-Some.field-0) =
    c.next.ensures.behind c.in-Some.field-0 owner ∙ ap (λ (p : ℕ). after p (listed words c.in-Some.field-0)) number in
    rw (← c.self.view_is)
    (result ∙ ap (option_map (app_of_pair cluster c.args.node)) next
    ∙ sym (next_owned cluster words c.args.node c.args.app c.in-Some.field-0 c.self.invariant.links node app (rw number at owner)))
