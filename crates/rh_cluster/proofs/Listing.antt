-- Where no stage finds a fault, each application that a node boots is local, or its list has the node.
use Rattle.std.proofs.Common.{◌≡◌, ◌≢◌, ◌<◌, ◌≤◌, ◌||◌, ℕ, Bool, true, false, List, [], ◌∷◌, map, length, get_or}
use Rattle.std.proofs.Common.{Option, Some, None, is_some, is_none, option_map, option_and_then, unwrap_or, slice_get}
use Rattle.std.proofs.Common.{position, refl, sym, ap, ◌∙◌, subst, arith}
use Rattle.std.specs.Prelude.{All, AllPairs}
use Rattle.std.specs.List.{list_any, filter_map, cons_option, position_or_len}
use Rattle.std.specs.Str.{bytes_eq}
use Rattle.std.proofs.Math.Logic.{⊎_elim}
use Rattle.std.proofs.lemmas.Bool.{cases_lt, false_from_ne_true, not-false}
use Rattle.std.proofs.lemmas.Slice.Eq.{bytes_eq-Decides}
use Rattle.std.proofs.lemmas.List.Elements.{All-nil, All-weaker}
use Rattle.std.proofs.lemmas.List.Sums.{position_or_len_is}
use Rattle.std.proofs.lemmas.Option.{same_Some, slice_get-map, slice_get_within, slice_get_past, get_or_from_slice_get}
use Rattle.rh_base.specs.Tree.{Tree}
use Rattle.rh_model.specs.declared.node.Node.{Node}
use Rattle.rh_model.specs.declared.node.App.{App}
use Rattle.rh_model.specs.declared.settings.Restart.{Restart}
use Rattle.rh_model.specs.declared.settings.Spread.{Spread}
use Rattle.rh_model.specs.ClusterView.{NodeView, AppView, app_numbered, is_in, is_listed_at}
use Rattle.rh_model.specs.Limits.{app_limit}
use Rattle.rh_model.specs.Names.{is_among}
use Rattle.rh_model.proofs.Texts.{position-map}
use Rattle.rh_cluster.specs.declared.fault.ClusterFault.TheVariants as fault
use Rattle.rh_cluster.specs.Shapes.{as_node, as_app, ◌>>=◌}
use Rattle.rh_cluster.specs.declared.shares.Share.{Share}
use Rattle.rh_cluster.specs.Headers.{every_platform, apps_in, node_names, app_names, new_name_faults, header_faults, header_faults_by, headers_stage}
use Rattle.rh_cluster.specs.Values.{app_view, spread_for, spread_named}
use Rattle.rh_cluster.specs.Agreement.{is_elsewhere, boot_at, boot_entry_faults, boot_list_faults, agreed_shares, agreement_stage}
use Rattle.rh_cluster.specs.ClusterOf.{names_of, all_shares, app_views, cluster_view}
use Rattle.rh_base.proofs.Elements.{none_left, none_right, none_each, none_below, or_false, cons_option-map, placed}
use Rattle.rh_base.proofs.Lists.{place_any}
use Rattle.rh_cluster.proofs.NoFaults.{not_when, each_once}
use Rattle.rh_cluster.proofs.OneHeader.{no_node}

-- ---- the names of applications

abbrev app_name_of : Tree → Option (List ℕ)
app_name_of t = option_map (λ (a : List ℕ × Tree). a.0) (as_app t)

app_names_are : (ts : List Tree) → filter_map app_name_of ts ≡ app_names ts
unfolding app_names
app_names_are [] = refl
app_names_are (t ∷ ts) = ap (cons_option (app_name_of t)) (app_names_are ts) ∙ cons_option-map (λ (a : List ℕ × Tree). a.0) (as_app t) (apps_in ts)

new_name : (most : ℕ) (reserved : Bool) (earlier : List (List ℕ)) (name : List ℕ) → new_name_faults most reserved earlier name ≡ []
    → is_among earlier name ≡ false
unfolding new_name_faults
new_name most reserved earlier name none =
    or_false reserved (is_among earlier name) (not_when (reserved || is_among earlier name) fault.DuplicateName (none_right _ _ (none_left _ _ none)))

new_by : (p : ℕ) (nodes apps : List (List ℕ)) (n a : Option (List ℕ × Tree)) (m : List ℕ) → ((x : List ℕ × Tree) → a ≡ Some x → n ≡ None)
    → header_faults_by p nodes apps n a ≡ [] → option_map (λ (x : List ℕ × Tree). x.0) a ≡ Some m
    → is_among apps m ≡ false
new_by p nodes apps n None m one none h = cc
new_by p nodes apps n (Some x) m one none h =
    ap (is_among apps) (sym (same_Some x.0 m h))
    ∙ new_name (app_limit p) (is_among every_platform x.0) apps x.0 (ap (λ o. header_faults_by p nodes apps o (Some x)) (sym (one x refl)) ∙ none)

new_app : (p : ℕ) (earlier : List Tree) (t : Tree) (m : List ℕ) → header_faults p (node_names earlier) (app_names earlier) t ≡ [] → app_name_of t ≡ Some m
    → is_among (filter_map app_name_of earlier) m ≡ false
unfolding header_faults
new_app p earlier t m none h =
    ap (λ ns. is_among ns m) (app_names_are earlier) ∙ new_by p (node_names earlier) (app_names earlier) (as_node t) (as_app t) m (no_node t) none h

-- the names of two applications differ
apps_differ : (p : ℕ) (ts : List Tree) → headers_stage p ts ≡ [] → AllPairs (λ (a b : List ℕ × Tree). a.0 ≢ b.0) (apps_in ts)
unfolding headers_stage
apps_differ p ts none =
    each_once (λ earlier t. header_faults p (node_names earlier) (app_names earlier) t) app_name_of (new_app p) as_app (λ m a. a.0 ≡ m)
    (λ (a b : List ℕ × Tree). a.0 ≢ b.0)
    (λ t a h. (a.0, ap (option_map (λ (a : List ℕ × Tree). a.0)) h, refl)) (λ m n a b p q differ same. differ (sym p ∙ same ∙ q)) [] ts (none_left _ _ none)

-- an application is found by its name
place_of_name : (apps : List (List ℕ × Tree)) → AllPairs (λ (a b : List ℕ × Tree). a.0 ≢ b.0) apps → (k : ℕ) (x : List ℕ × Tree) → slice_get apps k ≡ Some x
    → position (bytes_eq x.0) (map (λ (a : List ℕ × Tree). a.0) apps) ≡ Some k
place_of_name apps differ k x h =
    let inside : k < length apps = slice_get_within apps k x h in
    let here : get_or apps k x ≡ x = get_or_from_slice_get apps k x x h in
    let test = (λ (y : List ℕ × Tree). bytes_eq x.0 y.0) in
    position-map (bytes_eq x.0) (λ (a : List ℕ × Tree). a.0) apps
    ∙ placed (position_or_len test apps) (length apps) k
    (position_or_len_is test apps k x (omega arith)
    (λ j less. false_from_ne_true (test (get_or apps j x)) (λ same. differ j k x less inside
    (sym ((bytes_eq-Decides x.0 (get_or apps j x).0).0 same) ∙ ap (λ (y : List ℕ × Tree). y.0) (sym here))))
    (λ _. (bytes_eq-Decides x.0 (get_or apps k x).0).1 (ap (λ (y : List ℕ × Tree). y.0) (sym here))))
    inside

-- ---- where an application may run

abbrev listed_by : Node → Option Spread → Bool
listed_by n o = is_none o || is_some (option_and_then (λ (s : Spread). position (is_in n) s.groups) o)

-- one that isn't elsewhere is listed
listed : (n : Node) (o : Option Spread) → is_elsewhere n.0 o ≡ false → listed_by n o ≡ true
listed n None h = refl
listed n (Some s) h = place_any (is_in n) s.groups ∙ not-false (list_any (is_in n) s.groups) h

module _ (p : ℕ) (ts : List Tree) (headers : headers_stage p ts ≡ []) where
  abbrev shares : List Share
  shares = agreed_shares (all_shares (names_of ts) ts)

  abbrev app_at : (List ℕ × Tree) → AppView
  app_at a = app_view (names_of ts) shares a.0 a.1

  -- what the application of a name says is what that of a number says
  spread_here : (a : App) (x : List ℕ × Tree) → slice_get (apps_in ts) a.0 ≡ Some x → spread_named (names_of ts) shares x.0 ≡ spread_for shares a
  unfolding names_of app_names
  spread_here a x h = ap (λ (o : Option ℕ). option_map app_numbered o >>= spread_for shares) (place_of_name (apps_in ts) (apps_differ p ts headers) a.0 x h)

  listed_app : (n : Node) (a : App) → is_elsewhere n.0 (spread_for shares a) ≡ false → is_listed_at (cluster_view p ts) a n ≡ true
  unfolding cluster_view app_views app_view
  listed_app n a h =
      ap (λ o. listed_by n (option_and_then (λ (v : AppView). v.spread) o)) (slice_get-map app_at (apps_in ts) a.0) ∙ by (slice_get (apps_in ts) a.0) refl
    where
      by : (o : Option (List ℕ × Tree)) → slice_get (apps_in ts) a.0 ≡ o
          → listed_by n (option_and_then (λ (v : AppView). v.spread) (option_map app_at o)) ≡ true
      by None e = refl
      by (Some x) e = ap (listed_by n) (spread_here a x e) ∙ listed n (spread_for shares a) h

  listed_entry : (n : Node) (e : App × Restart) → boot_entry_faults shares n.0 e.0 ≡ [] → is_listed_at (cluster_view p ts) e.0 n ≡ true
  unfolding boot_entry_faults
  listed_entry n e none = listed_app n e.0 (not_when (is_elsewhere n.0 (spread_for shares e.0)) fault.BootNotListed none)

  listed_entries : (n : Node) (nodes : List NodeView) → boot_list_faults shares nodes n.0 ≡ []
      → All (λ (e : App × Restart). is_listed_at (cluster_view p ts) e.0 n ≡ true) (boot_at nodes n.0)
  unfolding boot_list_faults
  listed_entries n nodes none =
      All-weaker (λ (e : App × Restart). boot_entry_faults shares n.0 e.0 ≡ []) (λ (e : App × Restart). is_listed_at (cluster_view p ts) e.0 n ≡ true)
      (listed_entry n) (boot_at nodes n.0)
      (none_each (λ (e : App × Restart). boot_entry_faults shares n.0 e.0) (boot_at nodes n.0) none)

  no_boots : (n : Node) (nodes : List NodeView) → length nodes ≤ n.0
      → All (λ (e : App × Restart). is_listed_at (cluster_view p ts) e.0 n ≡ true) (boot_at nodes n.0)
  no_boots n nodes past =
      subst (λ o. All (λ (e : App × Restart). is_listed_at (cluster_view p ts) e.0 n ≡ true) (unwrap_or (option_map (λ (v : NodeView). v.boot) o) []))
      (sym (slice_get_past nodes n.0 past))
      (All-nil (λ (e : App × Restart). is_listed_at (cluster_view p ts) e.0 n ≡ true))

  pub boots_listed : (nodes : List NodeView) → agreement_stage (names_of ts).nodes nodes (all_shares (names_of ts) ts) ≡ [] → (n : Node)
      → All (λ (e : App × Restart). is_listed_at (cluster_view p ts) e.0 n ≡ true) (boot_at nodes n.0)
  unfolding agreement_stage
  boots_listed nodes none n =
      ⊎_elim
      (λ inside. listed_entries n nodes (none_below (boot_list_faults shares nodes) (length nodes) n.0 (none_right _ _ none) inside))
      (λ past. no_boots n nodes past)
      (cases_lt n.0 (length nodes))
