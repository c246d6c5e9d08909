use Rattle.std.proofs.Common.{◌≡◌, ◌*◌, ℕ, List, Bool, length, map, ap, sym, ◌∙◌, arith}
use Rattle.std.specs.List.{range_with_len, flat_map}
use Rattle.std.proofs.lemmas.List.FromFn.{length-map-range_with_len}
use Rattle.rh_model.specs.ClusterView.{ClusterView, node_count, app_count, numbered}
use Rattle.rh_state.specs.Cut.{cut}
use Rattle.rh_state.specs.First.{configured}
use Rattle.rh_state.specs.Numbers.{nodes_of}
use Rattle.rh_state.proofs.Cut.{cut-flat_map, length-flat_map_rows}
use Rattle.rh_state.proofs.FirstStates.{length-configured}
use Rattle.rh_state.proofs.state.permissions_of.Goals as goal

-- the permissions of all nodes, one behind the other
length-rows : (c : ClusterView) (n a : ℕ) (xs : List Bool) → n ≡ node_count c → a ≡ app_count c
    → xs ≡ flat_map (configured c) (map numbered (range_with_len 0 n)) → length xs ≡ n * a
length-rows c n a xs nodes apps is =
    ap length is ∙ length-flat_map_rows (configured c) (app_count c) (map numbered (range_with_len 0 n)) (length-configured c)
    ∙ (λ k. length-map-range_with_len numbered 0 n k * sym apps k)

rows-are : (c : ClusterView) (n a : ℕ) (xs : List Bool) → n ≡ node_count c → a ≡ app_count c
    → xs ≡ flat_map (configured c) (map numbered (range_with_len 0 n)) → cut n a xs ≡ map (configured c) (nodes_of c)
unfolding nodes_of
rows-are c n a xs nodes apps is =
    (λ k. cut (sym (length-map-range_with_len numbered 0 n) k) (apps k) (is k))
    ∙ cut-flat_map (configured c) (app_count c) (map numbered (range_with_len 0 n)) (length-configured c)
    ∙ ap (λ (m : ℕ). map (configured c) (map numbered (range_with_len 0 m))) nodes

pub of-requires : goal.of-requires
of-requires c =
    let end : c.loop-number.number ≡ c.node_count-nodes.result = omega (arith, c.loop-number.auto.number-end, c.loop-number-test.false) in
    length-rows c.args.cluster.now c.node_count-nodes.result c.app_count-apps.result c.loop-number.permissions.items c.node_count-nodes.ensures.count
    c.app_count-apps.ensures.count
    (c.loop-number.invariant ∙ ap (λ (n : ℕ). flat_map (configured c.args.cluster.now) (map numbered (range_with_len 0 n))) end)

pub returns : goal.returns
returns c =
    let end : c.loop-number.number ≡ c.node_count-nodes.result = omega (arith, c.loop-number.auto.number-end, c.loop-number-test.false) in
    c.of.ensures
    ∙ rows-are c.args.cluster.now c.node_count-nodes.result c.app_count-apps.result c.loop-number.permissions.items c.node_count-nodes.ensures.count
    c.app_count-apps.ensures.count
    (c.loop-number.invariant ∙ ap (λ (n : ℕ). flat_map (configured c.args.cluster.now) (map numbered (range_with_len 0 n))) end)
