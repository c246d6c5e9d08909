use Rattle.std.proofs.Common.{◌≡◌, true, ◌&&◌, map, nat_lt, sym, ◌∙◌}
use Rattle.std.specs.List.{list_any}
use Rattle.rh_model.specs.ClusterView.{spread_of}
use Rattle.rh_state.specs.Numbers.{nodes_of}
use Rattle.rh_file_lint.specs.Losses.{place_of, has_rival, is_timed_pair, are_lost_together}
use Rattle.rh_file_lint.specs.Rows.{place_by}
use Rattle.rh_file_lint.proofs.PlacesTold.{places_so, both_spread}
use Rattle.rh_file_lint.proofs.losses.are_lost_together.Goals as goal

pub returns : goal.returns
unfolding are_lost_together
returns c =
    let cluster = c.args.cluster.now in
    let timed : is_timed_pair cluster c.args.app c.args.other ≡ true = sym c.is_timed_pair.ensures ∙ c.if-not-is_timed_pair.false in
    let spread = both_spread (nat_lt c.args.app.0 c.args.other.0) (spread_of cluster c.args.app) (spread_of cluster c.args.other) timed in
    let places : c.as_slice.result.now ≡ map (place_of cluster c.args.app c.args.other) (nodes_of cluster) =
    c.as_slice.ensures.value
    ∙ c.in_ok-set_places.ensures
    ∙ (λ i. map (place_by (c.row_at.ensures i) (c.row_at-2.ensures i)) (nodes_of cluster))
    ∙ places_so cluster (map (λ row. row.items) c.args.rows.now) c.args.app c.args.other c.requires.rows c.requires.app c.requires.other spread.0 spread.1 in
    c.have_rivals.ensures
    ∙ (λ i. list_any (has_rival (places i)) (places i))
    ∙ (λ i. sym timed i && list_any (has_rival (map (place_of cluster c.args.app c.args.other) (nodes_of cluster))) (map (place_of cluster c.args.app c.args.other) (nodes_of cluster)))
