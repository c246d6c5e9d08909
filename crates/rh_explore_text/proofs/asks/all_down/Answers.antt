use Rattle.std.proofs.Common.{ℕ, List, [], ◌∷◌, ◌++◌, map, take, sym, ap, ◌∙◌}
use Rattle.std.specs.Borrow.{Bor}
use Rattle.rh_explore.specs.declared.asking.Condition.{Condition}
use Rattle.rh_explore_text.specs.Asks.{down_at}
use Rattle.rh_explore_text.proofs.Named.{one_more}
use Rattle.rh_explore_text.proofs.asks.all_down.Goals as goal

pub names-preserved : goal.names-preserved
names-preserved c =
    let f = down_at c.args.cluster.now in
    let names = c.args.names.now in
    let i = c.names.name-index in
    let so_far = map f (map (λ (w : Bor (List ℕ)). w.now) (take i names)) in
    c.in_ok-push.ensures.items
    ∙ ap (λ (cs : List Condition). cs ++ c.down_at.result ∷ []) c.names.invariant
    ∙ ap (λ (one : Condition). so_far ++ one ∷ []) c.down_at.ensures
    ∙ sym (one_more f names i _ c.names-test.true)
