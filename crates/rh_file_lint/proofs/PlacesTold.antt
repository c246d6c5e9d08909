-- The places that the rows tell are so.
use Rattle.std.proofs.Common.{◌≡◌, ℕ, zero, suc, ◌+◌, ◌<◌, Bool, true, false, ◌&&◌, cond, is_some, List, [], ◌∷◌, map, unwrap_or, Option, Some, None, refl, ap, ◌∙◌, arith}
use Rattle.std.specs.List.{range_with_len}
use Rattle.std.specs.Option.{option_map}
use Rattle.std.proofs.lemmas.Option.{slice_get-map, slice_get-get_or}
use Rattle.std.proofs.lemmas.List.FromFn.{length-map-range_with_len, get_or-map-range_with_len}
use Rattle.rh_model.specs.declared.node.Node.{Node}
use Rattle.rh_model.specs.declared.node.App.{App}
use Rattle.rh_model.specs.declared.settings.Spread.{Spread}
use Rattle.rh_model.specs.ClusterView.{ClusterView, node_count, app_count, numbered, app_numbered}
use Rattle.rh_state.specs.Numbers.{nodes_of, apps_of}
use Rattle.rh_file_lint.specs.declared.rows.RowKind.{RowKind}
use Rattle.rh_file_lint.specs.declared.rows.RowKind.TheVariants.{BootPlaces, Groups}
use Rattle.rh_file_lint.specs.declared.losses.Place.{Place}
use Rattle.rh_file_lint.specs.Cluster.{is_distributed, comes_before, boots_before}
use Rattle.rh_file_lint.specs.Losses.{are_timed_alike, place_of}
use Rattle.rh_file_lint.specs.Findings.{crossed_orders}
use Rattle.rh_file_lint.specs.Rows.{place_in, places_in, row_of, row_at, place_at, place_by}

-- where no node boots the later one first nothing is told
pub none_crosses : (a b : App) (o : Option Node) → crossed_orders a b o None ≡ []
none_crosses a b (Some n) = refl
none_crosses a b None = refl

-- the place of a node is what it was given
place_given : (g : Node → Option ℕ) (k : ℕ) (n : Node) → n.0 < k → place_at (map g (map numbered (range_with_len 0 k))) n ≡ g n
place_given g k n lt =
    let long = length-map-range_with_len numbered 0 k in
    ap (λ o. unwrap_or o None) (slice_get-map g (map numbered (range_with_len 0 k)) n.0)
    ∙ ap (λ o. unwrap_or (option_map g o) None) (slice_get-get_or (map numbered (range_with_len 0 k)) n.0 n (omega arith))
    ∙ ap g (get_or-map-range_with_len numbered 0 k n.0 n.0 n lt (plus n.0))
  where
    plus : (i : ℕ) → 0 + i ≡ i
    plus i = omega arith

-- the row of an application is what it was given
row_given : (g : App → List (Option ℕ)) (k : ℕ) (a : App) → a.0 < k → row_at (map g (map app_numbered (range_with_len 0 k))) a ≡ g a
unfolding row_at
row_given g k a lt =
    let long = length-map-range_with_len app_numbered 0 k in
    ap (λ o. unwrap_or o []) (slice_get-map g (map app_numbered (range_with_len 0 k)) a.0)
    ∙ ap (λ o. unwrap_or (option_map g o) []) (slice_get-get_or (map app_numbered (range_with_len 0 k)) a.0 a (omega arith))
    ∙ ap g (get_or-map-range_with_len app_numbered 0 k a.0 a.0 a lt (plus a.0))
  where
    plus : (i : ℕ) → 0 + i ≡ i
    plus i = omega arith

-- that of a distributed application has its places
row_known : (c : ClusterView) (kind : RowKind) (rows : List (List (Option ℕ))) (a : App) → rows ≡ map (row_of c kind) (apps_of c) → a.0 < app_count c
    → is_distributed c a ≡ true → row_at rows a ≡ places_in c kind a
unfolding apps_of row_of
row_known c kind rows a is lt spread =
    ap (λ rs. row_at rs a) is
    ∙ row_given (row_of c kind) (app_count c) a lt
    ∙ ap (λ b. cond b (places_in c kind a) []) spread

place_known : (c : ClusterView) (kind : RowKind) (rows : List (List (Option ℕ))) (a : App) (n : Node) → rows ≡ map (row_of c kind) (apps_of c)
    → a.0 < app_count c → is_distributed c a ≡ true → n.0 < node_count c → place_at (row_at rows a) n ≡ place_in c kind a n
unfolding nodes_of
place_known c kind rows a n is lt spread less =
    ap (λ row. place_at row n) (row_known c kind rows a is lt spread)
    ∙ place_given (place_in c kind a) (node_count c) n less

-- a node boots one application before another one exactly if the rows have it so
pub boots_so : (c : ClusterView) (rows : List (List (Option ℕ))) (a b : App) (n : Node) → rows ≡ map (row_of c BootPlaces) (apps_of c)
    → a.0 < app_count c → b.0 < app_count c → is_distributed c a ≡ true → is_distributed c b ≡ true → n.0 < node_count c
    → comes_before (place_at (row_at rows a) n) (place_at (row_at rows b) n) ≡ boots_before c n a b
boots_so c rows a b n is lt less spread other here =
    λ i. comes_before (place_known c BootPlaces rows a n is lt spread here i) (place_known c BootPlaces rows b n is less other here i)

-- what agrees on all nodes makes the same list of them
same_map : (f g : Node → Place) (from k : ℕ) → ((n : Node) → n.0 < from + k → f n ≡ g n) → map f (map numbered (range_with_len from k)) ≡ map g (map numbered (range_with_len from k))
same_map f g from zero each = refl
same_map f g from (suc k) each = λ i. each (numbered from) (omega arith) i ∷ same_map f g (from + 1) k (λ n lt. each n (omega arith)) i

-- the places of all nodes by the rows are their places
pub places_so : (c : ClusterView) (rows : List (List (Option ℕ))) (a b : App) → rows ≡ map (row_of c Groups) (apps_of c)
    → a.0 < app_count c → b.0 < app_count c → is_distributed c a ≡ true → is_distributed c b ≡ true
    → map (place_by (row_at rows a) (row_at rows b)) (nodes_of c) ≡ map (place_of c a b) (nodes_of c)
unfolding nodes_of
places_so c rows a b is lt less spread other =
    same_map (place_by (row_at rows a) (row_at rows b)) (place_of c a b) 0 (node_count c)
    (λ n here i. record { node = n; first = place_known c Groups rows a n is lt spread (omega arith) i; second = place_known c Groups rows b n is less other (omega arith) i })

-- applications of one timeout are distributed
pub both_spread : (x : Bool) (o p : Option Spread) → (x && are_timed_alike o p) ≡ true → (is_some o ≡ true) × (is_some p ≡ true)
both_spread true (Some s) (Some t) h = (refl, refl)
both_spread true (Some s) None h = cc
both_spread true None (Some t) h = cc
both_spread true None None h = cc
both_spread false o p h = cc
