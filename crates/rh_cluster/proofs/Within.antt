-- What the terms of a file say of nodes and of applications is within the cluster.
use Rattle.std.proofs.Common.{true, ◌≡◌, ◌≢◌, ◌<◌, ◌≤◌, ℕ, List, [], ◌∷◌, length, map, position, Option, Some, None, refl}
use Rattle.std.proofs.Common.{sym, ap, ◌∙◌, subst, slice_get, codes, ◌||◌, arith}
use Rattle.std.specs.Prelude.{All, AllPairs, IsSome, unwrap_or, not, ◌==◌}
use Rattle.std.specs.List.{filter_map, list_any}
use Rattle.std.specs.Option.{option_map, option_and_then}
use Rattle.std.specs.Str.{bytes_eq}
use Rattle.std.proofs.lemmas.List.{length-map}
use Rattle.std.proofs.lemmas.List.Elements.{All-nil, All-cons, All-head, All-tail}
use Rattle.std.proofs.lemmas.List.Quantifiers.{position-Some}
use Rattle.std.proofs.lemmas.Option.{slice_get-map, same_Some}
use Rattle.rh_base.specs.Tree.{Tree}
use Rattle.rh_model.specs.declared.node.Node.{Node}
use Rattle.rh_model.specs.declared.node.App.{App}
use Rattle.rh_model.specs.declared.settings.Dep.{Dep}
use Rattle.rh_model.specs.declared.settings.Dep.TheVariants.{Listed, Platform}
use Rattle.rh_model.specs.declared.settings.Restart.{Restart}
use Rattle.rh_model.specs.declared.settings.Spread.{Spread}
use Rattle.rh_model.specs.ClusterView.{NodeView, AppView, IsWithin, numbered, app_numbered, dep_name}
use Rattle.rh_model.specs.Names.{NamesView, is_among}
use Rattle.rh_model.specs.Limits.{is_profile, timeout_limit, IsWithinLimit}
use Rattle.rh_model.specs.declared.settings.SyncWait.TheVariants.{Unset}
use Rattle.rh_cluster.specs.Shapes.{as_atom, as_pair, atoms, ◌>>=◌}
use Rattle.rh_cluster.specs.Sections.{as_share, as_restart, members, parts_stage}
use Rattle.rh_cluster.specs.declared.shares.Share.{Share}
use Rattle.rh_cluster.specs.Headers.{every_platform, nodes_in, apps_in, headers_stage}
use Rattle.rh_cluster.specs.Values.{node_named, app_named, boot_entry, dep_named, dep_by, elements, value_under, elements_under}
use Rattle.rh_cluster.specs.Values.{kernel_of, rehearse_of, node_view, app_view, group_in, share_of, shares_in}
use Rattle.rh_cluster.specs.Values.{spread_for, spread_named, permissions_in, platforms_of, forbids, time_or_zero}
use Rattle.rh_cluster.specs.Values.{platforms_in}
use Rattle.rh_cluster.specs.Agreement.{shares_at, first_involved, agreed_shares}
use Rattle.rh_cluster.specs.ClusterOf.{names_of, node_views, all_shares, app_views, faults_behind_headers, cluster_view}
use Rattle.rh_cluster.proofs.Counts.{length-node_views, length-app_views}
use Rattle.rh_base.proofs.Elements.{none_left, none_right, All-filter_map, at_position, at_mapped, in_mapped, at_place, some_inside, one_of}
use Rattle.rh_cluster.proofs.Timeouts.{time_within, wait_within}
use Rattle.rh_cluster.proofs.NamesOnce.{headers_few, platforms_few, some_node}
use Rattle.rh_cluster.proofs.BootLists.{IsInOrder, boot_once_in, in_order}
use Rattle.rh_cluster.proofs.Listing.{boots_listed}

-- ---- options

-- what holds of each value that g gives holds of what it gives for the value of o
at_value : {A B : Type 0} (o : Option A) (g : A → Option B) (P : B → Type 0) → ((a : A) (b : B) → o ≡ Some a → g a ≡ Some b → P b) → (b : B)
    → (o >>= g) ≡ Some b → P b
at_value None g P each b h = cc
at_value (Some a) g P each b h = each a b refl h

-- ---- names

node_within : (names : NamesView) (t : Tree) (n : Node) → node_named names t ≡ Some n → n.0 < length names.nodes
unfolding node_named
node_within names t n h =
    at_value (as_atom t) (λ name. option_map numbered (position (bytes_eq name) names.nodes)) (λ m. m.0 < length names.nodes)
    (λ name m _ k. at_position (bytes_eq name) names.nodes [] numbered (λ m. m.0 < length names.nodes) (λ i inside. inside)
    (position (bytes_eq name) names.nodes) refl m k) n h

app_within : (names : NamesView) (t : Tree) (a : App) → app_named names t ≡ Some a → a.0 < length names.apps
unfolding app_named
app_within names t a h =
    at_value (as_atom t) (λ name. option_map app_numbered (position (bytes_eq name) names.apps)) (λ b. b.0 < length names.apps)
    (λ name b _ k. at_position (bytes_eq name) names.apps [] app_numbered (λ b. b.0 < length names.apps) (λ i inside. inside)
    (position (bytes_eq name) names.apps) refl b k) a h

-- ---- what applications depend on

module _ (names : NamesView) (P : Dep → Type 0) (each_app : (i : ℕ) → i < length names.apps → P (Listed (app_numbered i)))
    (each_platform : (i : ℕ) → i < length names.platforms → P (Platform i)) where
  dep_by_within : (name : List ℕ) (a : Option ℕ) → position (bytes_eq name) names.apps ≡ a → (p : Option ℕ)
      → position (bytes_eq name) names.platforms ≡ p → (d : Dep) → dep_by a p ≡ Some d → P d
  dep_by_within name (Some a) e p f d h = subst P (same_Some (Listed (app_numbered a)) d h) (each_app a (position-Some (bytes_eq name) names.apps a [] e).0)
  dep_by_within name None e (Some p) f d h = subst P (same_Some (Platform p) d h) (each_platform p (position-Some (bytes_eq name) names.platforms p [] f).0)
  dep_by_within name None e None f d h = cc

  dep_within : (t : Tree) (d : Dep) → dep_named names t ≡ Some d → P d
  unfolding dep_named
  dep_within t d h =
      at_value (as_atom t) (λ name. dep_by (position (bytes_eq name) names.apps) (position (bytes_eq name) names.platforms)) P
      (λ name d _ k. dep_by_within name (position (bytes_eq name) names.apps) refl (position (bytes_eq name) names.platforms) refl d k) d h

-- ---- entries

boot_within : (names : NamesView) (t : Tree) (e : App × Restart) → boot_entry names t ≡ Some e → e.0.0 < length names.apps
unfolding boot_entry
boot_within names t e h =
    at_value (as_pair t) (λ p. app_named names p.0 >>= λ app. as_restart p.1 >>= λ restart. Some (app, restart))
    (λ (e : App × Restart). e.0.0 < length names.apps)
    (λ p e _ k. at_value (app_named names p.0) (λ app. as_restart p.1 >>= λ restart. Some (app, restart)) (λ (e : App × Restart). e.0.0 < length names.apps)
    (λ app e named k. at_value (as_restart p.1) (λ restart. Some (app, restart)) (λ (e : App × Restart). e.0.0 < length names.apps)
    (λ restart e _ k. subst (λ (e : App × Restart). e.0.0 < length names.apps) (same_Some (app, restart) e k) (app_within names p.0 app named)) e k) e k) e h

abbrev AreNodes : NamesView → List Node → Type 0
AreNodes names ns = All (λ (n : Node). n.0 < length names.nodes) ns

nodes_within : (names : NamesView) (ts : List Tree) → AreNodes names (filter_map (node_named names) ts)
nodes_within names ts = All-filter_map (λ (n : Node). n.0 < length names.nodes) (node_named names) (node_within names) ts

abbrev AreGroups : NamesView → List (List Node) → Type 0
AreGroups names gs = All (AreNodes names) gs

groups_within : (names : NamesView) (ts : List Tree) → AreGroups names (map (group_in names) ts)
unfolding group_in
groups_within names [] = All-nil (AreNodes names)
groups_within names (t ∷ ts) = All-cons (AreNodes names) (group_in names t) (map (group_in names) ts) (nodes_within names (members t)) (groups_within names ts)

-- the nodes of a spread are among the names, and its timeout is within the limit
abbrev IsSpread : NamesView → Spread → Type 0
IsSpread names s = AreGroups names s.groups × (s.timeout ≤ timeout_limit)

abbrev IsShare : NamesView → Share → Type 0
IsShare names s = IsSpread names s.spread

abbrev share_made : NamesView → (Tree × Option Tree × Tree) → App → Share
share_made names p app = record { app = app; spread = record { timeout = time_or_zero p.1; groups = map (group_in names) (elements p.2) } }

share_within : (names : NamesView) (t : Tree) (s : Share) → share_of names t ≡ Some s → IsShare names s
unfolding share_of
share_within names t s h =
    at_value (as_share t) (λ p. app_named names p.0 >>= λ app. Some (share_made names p app)) (IsShare names)
    (λ p s _ k. at_value (app_named names p.0) (λ app. Some (share_made names p app)) (IsShare names)
    (λ app s _ k. subst (IsShare names) (same_Some (share_made names p app) s k) (groups_within names (elements p.2), time_within p.1)) s k) s h

shares_in_within : (names : NamesView) (config : Tree) → All (IsShare names) (shares_in names config)
unfolding shares_in
shares_in_within names config = All-filter_map (IsShare names) (share_of names) (share_within names) (elements_under (codes "distributed") (kernel_of config))

shares_at_within : (names : NamesView) (ns : List (List ℕ × Tree)) (i : ℕ)
    → All (IsShare names) (unwrap_or (slice_get (map (λ (n : List ℕ × Tree). shares_in names n.1) ns) i) [])
shares_at_within names ns i =
    subst (λ o. All (IsShare names) (unwrap_or o [])) (sym (slice_get-map (λ (n : List ℕ × Tree). shares_in names n.1) ns i)) (by (slice_get ns i))
  where
    by : (o : Option (List ℕ × Tree)) → All (IsShare names) (unwrap_or (option_map (λ (n : List ℕ × Tree). shares_in names n.1) o) [])
    by None = All-nil (IsShare names)
    by (Some n) = shares_in_within names n.1

agreed_within : (names : NamesView) (ts : List Tree) → All (IsShare names) (agreed_shares (all_shares names ts))
unfolding agreed_shares all_shares
agreed_within names ts = by (first_involved (all_shares names ts))
  where
    by : (o : Option ℕ) → All (IsShare names) (unwrap_or (option_map (shares_at (all_shares names ts)) o) [])
    by None = All-nil (IsShare names)
    by (Some n) = shares_at_within names (nodes_in ts) n

spread_for_within : (names : NamesView) (shares : List Share) → All (IsShare names) shares → (a : App) (s : Spread) → spread_for shares a ≡ Some s
    → IsSpread names s
spread_for_within names [] all a s h = cc
spread_for_within names (x ∷ xs) all a s h =
    one_of (x.app.0 == a.0) x.spread (spread_for xs a) s (IsSpread names) (All-head (IsShare names) x xs all)
    (spread_for_within names xs (All-tail (IsShare names) x xs all) a s) h

spread_within : (names : NamesView) (shares : List Share) → All (IsShare names) shares → (name : List ℕ) (s : Spread)
    → spread_named names shares name ≡ Some s → IsSpread names s
spread_within names shares all name s h =
    at_value (option_map app_numbered (position (bytes_eq name) names.apps)) (spread_for shares) (IsSpread names)
    (λ a s _ k. spread_for_within names shares all a s k) s h

-- ---- the cluster

length-permissions : (names : NamesView) (entries : List Tree) → length (permissions_in names entries) ≡ length names.apps
unfolding permissions_in
length-permissions names entries = length-map names.apps (λ name. not (list_any (forbids name) entries))

length-platforms : (names : NamesView) (items : List Tree) → length (platforms_of names items) ≡ length names.platforms
unfolding platforms_of
length-platforms names items = length-map names.platforms (λ name. is_among every_platform name || is_among (atoms items) name)

module _ (ts : List Tree) where
  abbrev node_at : (List ℕ × Tree) → NodeView
  node_at n = node_view (names_of ts) n.1

  abbrev app_at : (List ℕ × Tree) → AppView
  app_at a = app_view (names_of ts) (agreed_shares (all_shares (names_of ts) ts)) a.0 a.1

  mandatory_within : (n : ℕ) → AreNodes (names_of ts) (unwrap_or (option_map (λ (v : NodeView). v.mandatory) (slice_get (map node_at (nodes_in ts)) n)) [])
  unfolding node_view
  mandatory_within n = in_mapped node_at (λ (v : NodeView). v.mandatory) (λ (m : Node). m.0 < length (names_of ts).nodes)
      (λ x. nodes_within (names_of ts) (elements_under (codes "sync_nodes_mandatory") (kernel_of x.1))) (nodes_in ts) n

  optional_within : (n : ℕ) → AreNodes (names_of ts) (unwrap_or (option_map (λ (v : NodeView). v.optional) (slice_get (map node_at (nodes_in ts)) n)) [])
  unfolding node_view
  optional_within n = in_mapped node_at (λ (v : NodeView). v.optional) (λ (m : Node). m.0 < length (names_of ts).nodes)
      (λ x. nodes_within (names_of ts) (elements_under (codes "sync_nodes_optional") (kernel_of x.1))) (nodes_in ts) n

  waits_within : (n : ℕ) → IsWithinLimit (unwrap_or (option_map (λ (v : NodeView). v.sync_wait) (slice_get (map node_at (nodes_in ts)) n)) Unset)
  unfolding node_view
  waits_within n =
      subst (λ o. IsWithinLimit (unwrap_or (option_map (λ (v : NodeView). v.sync_wait) o) Unset)) (sym (slice_get-map node_at (nodes_in ts) n))
      (by (slice_get (nodes_in ts) n))
    where
      by : (o : Option (List ℕ × Tree)) → IsWithinLimit (unwrap_or (option_map (λ (v : NodeView). v.sync_wait) (option_map node_at o)) Unset)
      by None = tt
      by (Some x) = wait_within (value_under (codes "sync_nodes_timeout") (kernel_of x.1))

  boots_within : (n : ℕ) → All (λ (e : App × Restart). e.0.0 < length (names_of ts).apps)
      (unwrap_or (option_map (λ (v : NodeView). v.boot) (slice_get (map node_at (nodes_in ts)) n)) [])
  unfolding node_view
  boots_within n = in_mapped node_at (λ (v : NodeView). v.boot) (λ (e : App × Restart). e.0.0 < length (names_of ts).apps)
      (λ x. All-filter_map (λ (e : App × Restart). e.0.0 < length (names_of ts).apps) (boot_entry (names_of ts)) (boot_within (names_of ts))
      (elements_under (codes "boot") (rehearse_of x.1))) (nodes_in ts) n

  permissions_within : (n : ℕ) (v : NodeView) → slice_get (map node_at (nodes_in ts)) n ≡ Some v → length v.permissions ≡ length (names_of ts).apps
  unfolding node_view
  permissions_within n v h = at_mapped node_at (λ (v : NodeView). length v.permissions ≡ length (names_of ts).apps)
      (λ x. length-permissions (names_of ts) (elements_under (codes "permissions") (kernel_of x.1))) (slice_get (nodes_in ts) n) v
      (sym (slice_get-map node_at (nodes_in ts) n) ∙ h)

  platforms_within : (n : ℕ) (v : NodeView) → slice_get (map node_at (nodes_in ts)) n ≡ Some v → length v.platforms ≡ length (names_of ts).platforms
  unfolding node_view
  platforms_within n v h = at_mapped node_at (λ (v : NodeView). length v.platforms ≡ length (names_of ts).platforms)
      (λ x. length-platforms (names_of ts) (elements_under (codes "platform") (rehearse_of x.1))) (slice_get (nodes_in ts) n) v
      (sym (slice_get-map node_at (nodes_in ts) n) ∙ h)

  deps_within : (p a : ℕ) → All (λ d. IsSome (dep_name (cluster_view p ts) d))
      (unwrap_or (option_map (λ (v : AppView). v.deps) (slice_get (map app_at (apps_in ts)) a)) [])
  unfolding app_view cluster_view names_of
  deps_within p a = in_mapped app_at (λ (v : AppView). v.deps) (λ d. IsSome (dep_name (cluster_view p ts) d))
      (λ x. All-filter_map (λ d. IsSome (dep_name (cluster_view p ts) d)) (dep_named (names_of ts))
      (dep_within (names_of ts) (λ d. IsSome (dep_name (cluster_view p ts) d)) (λ i. some_inside (names_of ts).apps i [])
      (λ i. some_inside (names_of ts).platforms i [])) (elements_under (codes "applications") (elements x.1))) (apps_in ts) a

  spreads_within : (a : ℕ) (s : Spread) → option_and_then (λ (v : AppView). v.spread) (slice_get (map app_at (apps_in ts)) a) ≡ Some s
      → IsSpread (names_of ts) s
  unfolding app_view
  spreads_within a s h = by (slice_get (apps_in ts) a) (sym (ap (option_and_then (λ (v : AppView). v.spread)) (slice_get-map app_at (apps_in ts) a)) ∙ h)
    where
      by : (o : Option (List ℕ × Tree)) → option_and_then (λ (v : AppView). v.spread) (option_map app_at o) ≡ Some s → IsSpread (names_of ts) s
      by None k = cc
      by (Some x) k = spread_within (names_of ts) (agreed_shares (all_shares (names_of ts) ts)) (agreed_within (names_of ts) ts) x.0 s k

  boots_once : parts_stage (names_of ts) (platforms_in ts).known ts ≡ [] → (n : ℕ)
      → AllPairs (λ (e later : App × Restart). e.0.0 ≢ later.0.0)
      (unwrap_or (option_map (λ (v : NodeView). v.boot) (slice_get (map node_at (nodes_in ts)) n)) [])
  unfolding node_view
  boots_once none n =
      at_place (IsInOrder (names_of ts)) node_at (λ (v : NodeView). v.boot) (AllPairs (λ (e later : App × Restart). e.0.0 ≢ later.0.0))
      (λ i j d l k. absurd (omega arith))
      (boot_once_in (names_of ts)) (nodes_in ts) (in_order (names_of ts) (platforms_in ts).known ts none) n

  -- terms in which no stage finds a fault
  pub view_is_within : (p : ℕ) → is_profile p ≡ true → headers_stage p ts ≡ [] → faults_behind_headers ts ≡ [] → IsWithin (cluster_view p ts)
  unfolding cluster_view names_of node_views app_views faults_behind_headers
  view_is_within p known headers behind = record {
    profile = known;
    some_node = some_node p ts headers;
    few_nodes = (headers_few p ts headers).0.0;
    few_apps = (headers_few p ts headers).1.0;
    few_platforms = (platforms_few ts).0;
    node_names = (headers_few p ts headers).0.1;
    app_names = (headers_few p ts headers).1.1;
    platform_names = (platforms_few ts).1;
    nodes = length-node_views (names_of ts) ts;
    apps = length-app_views (names_of ts) (agreed_shares (all_shares (names_of ts) ts)) ts;
    mandatory = λ n. mandatory_within n.0;
    optional = λ n. optional_within n.0;
    sync_wait = λ n. waits_within n.0;
    boot = λ n. boots_within n.0;
    boot_once = λ n. boots_once (none_left _ _ behind) n.0;
    boot_listed = boots_listed p ts headers (node_views (names_of ts) ts) (none_right _ _ behind);
    permissions = permissions_within;
    platforms = platforms_within;
    deps = λ a. deps_within p a.0;
    groups = λ a s h. (spreads_within a.0 s h).0;
    timeouts = λ a s h. (spreads_within a.0 s h).1;
  }
