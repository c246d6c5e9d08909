-- The cluster of a file's terms is that of what is kept of them.
use Rattle.std.proofs.Common.{◌≡◌, ℕ, List, [], ◌∷◌, ◌++◌, Bool, true, false, cond, map, Option, Some, None, is_some, drop, length, refl, sym, ap, ◌∙◌, codes}
use Rattle.std.specs.Prelude.{◌==◌, fold, flat_map, filter_map, option_map, unwrap_or}
use Rattle.rh_base.specs.Tree.{Tree, Trees, list_of_trees}
use Rattle.rh_model.specs.ClusterView.{NodeView, AppView}
use Rattle.rh_model.specs.Names.{NamesView}
use Rattle.rh_model.specs.declared.platforms.Platforms.{Platforms}
use Rattle.rh_cluster.specs.declared.fault.ClusterFault.{ClusterFault}
use Rattle.rh_cluster.specs.declared.fault.ClusterFault.TheVariants as fault
use Rattle.rh_cluster.specs.declared.kept.Part.{Part}
use Rattle.rh_cluster.specs.declared.kept.Part.TheVariants as part
use Rattle.rh_cluster.specs.declared.shares.Share.{Share}
use Rattle.rh_cluster.specs.Agreement.{agreed_shares, agreement_stage}
use Rattle.rh_cluster.specs.ClusterOf.{names_of, node_views, all_shares, app_views, faults_behind_headers, faults_in, cluster_view, cluster_of_terms}
use Rattle.rh_cluster.specs.Faults.{when, in_turn, unless}
use Rattle.rh_cluster.specs.Headers.{every_platform, nodes_in, apps_in, node_names, app_names, header_faults, header_faults_by, headers_stage}
use Rattle.rh_cluster.specs.Kept.{kept_terms}
use Rattle.rh_cluster.specs.Profile.{profile_named, profile_of, behind_profile}
use Rattle.rh_cluster.specs.Sections.{parts_stage}
use Rattle.rh_cluster.specs.Shapes.{as_node, as_app, as_profile}
use Rattle.rh_cluster.specs.Values.{elements, value_if, value_under, elements_under, platform_in_entry, platform_in_section, platform_in_term}
use Rattle.rh_cluster.specs.Values.{with_platforms, platforms_in, node_named, kernel_of, rehearse_of, wait_in, boot_entry, permissions_in, platforms_of}
use Rattle.rh_cluster.specs.Values.{node_view, share_of, shares_in, dep_named, start_in, start_view, is_list_there, spread_named, app_view}
use Rattle.rh_cluster.proofs.SkippedShapes.{kept, kept_value, value_is, kept_list, elements_kept, value_if_kept, value_under_kept, node_kept, app_kept, profile_kept}
use Rattle.rh_cluster.proofs.SkippedParts.{in_turn_kept, parts_stage_same}

abbrev Named : Type 0
Named = List ℕ × Tree

-- ---- values that are read

option_same : (o : Option Tree) → option_map (kept part.Value) o ≡ o
option_same None = refl
option_same (Some v) = ap Some (value_is v)

-- behind a key that is read
abbrev IsRead : Part → List ℕ → Type 0
IsRead p key = (v : Tree) → kept_value p key v ≡ v

read_value : (p : Part) (key : List ℕ) → IsRead p key → (ts : List Tree) → value_under key (map (kept p) ts) ≡ value_under key ts
read_value p key same ts = value_under_kept p key ts ∙ by_value (value_under key ts)
  where
    by_value : (o : Option Tree) → option_map (kept_value p key) o ≡ o
    by_value None = refl
    by_value (Some v) = ap Some (same v)

read_elements : (p : Part) (key : List ℕ) → IsRead p key → (ts : List Tree) → elements_under key (map (kept p) ts) ≡ elements_under key ts
unfolding elements_under
read_elements p key same ts = ap (λ o. unwrap_or (option_map elements o) []) (read_value p key same ts)

-- ---- a node

kernel_kept : (config : Tree) → kernel_of (kept part.Node config) ≡ map (kept part.Kernel) (kernel_of config)
unfolding elements_under
kernel_kept config =
    ap (λ (ts : List Tree). unwrap_or (option_map elements (value_under (codes "kernel") ts)) []) (elements_kept part.Node config)
    ∙ ap (λ o. unwrap_or (option_map elements o) []) (value_under_kept part.Node (codes "kernel") (elements config))
    ∙ by_value (value_under (codes "kernel") (elements config))
  where
    by_value : (o : Option Tree) → unwrap_or (option_map elements (option_map (kept part.Kernel) o)) [] ≡ map (kept part.Kernel) (unwrap_or (option_map elements o) [])
    by_value None = refl
    by_value (Some v) = elements_kept part.Kernel v

rehearse_kept : (config : Tree) → rehearse_of (kept part.Node config) ≡ rehearse_of config
rehearse_kept config =
    ap (λ (ts : List Tree). elements_under (codes "rehearse") ts) (elements_kept part.Node config)
    ∙ read_elements part.Node (codes "rehearse") value_is (elements config)

kernel_elements : (key : List ℕ) → IsRead part.Kernel key → (config : Tree)
    → elements_under key (kernel_of (kept part.Node config)) ≡ elements_under key (kernel_of config)
kernel_elements key same config =
    ap (λ (ts : List Tree). elements_under key ts) (kernel_kept config) ∙ read_elements part.Kernel key same (kernel_of config)

kernel_value : (key : List ℕ) → IsRead part.Kernel key → (config : Tree)
    → value_under key (kernel_of (kept part.Node config)) ≡ value_under key (kernel_of config)
kernel_value key same config =
    ap (λ (ts : List Tree). value_under key ts) (kernel_kept config) ∙ read_value part.Kernel key same (kernel_of config)

node_view_same : (names : NamesView) (config : Tree) → node_view names (kept part.Node config) ≡ node_view names config
unfolding node_view
node_view_same names config = λ i. record {
  mandatory = filter_map (node_named names) (kernel_elements (codes "sync_nodes_mandatory") value_is config i);
  optional = filter_map (node_named names) (kernel_elements (codes "sync_nodes_optional") value_is config i);
  sync_wait = wait_in (kernel_value (codes "sync_nodes_timeout") value_is config i);
  boot = filter_map (boot_entry names) (elements_under (codes "boot") (rehearse_kept config i));
  permissions = permissions_in names (kernel_elements (codes "permissions") value_is config i);
  platforms = platforms_of names (elements_under (codes "platform") (rehearse_kept config i));
}

shares_same : (names : NamesView) (config : Tree) → shares_in names (kept part.Node config) ≡ shares_in names config
unfolding shares_in
shares_same names config = ap (filter_map (share_of names)) (kernel_elements (codes "distributed") value_is config)

-- ---- an application

app_value : (key : List ℕ) → IsRead part.App key → (keys : Tree) → value_under key (elements (kept part.App keys)) ≡ value_under key (elements keys)
app_value key same keys =
    ap (λ (ts : List Tree). value_under key ts) (elements_kept part.App keys) ∙ read_value part.App key same (elements keys)

app_view_same : (names : NamesView) (shares : List Share) (name : List ℕ) (keys : Tree) → app_view names shares name (kept part.App keys) ≡ app_view names shares name keys
unfolding app_view elements_under
app_view_same names shares name keys = λ i. record {
  deps = filter_map (dep_named names) (unwrap_or (option_map elements (app_value (codes "applications") value_is keys i)) []);
  start_arg = start_view (start_in (app_value (codes "mod") value_is keys i));
  phases = is_list_there (app_value (codes "start_phases") value_is keys i);
  spread = spread_named names shares name;
}

-- ---- nodes and applications

abbrev with_part : Part → Named → Named
with_part p x = (x.0, kept p x.1)

abbrev front : Option Named → List Named → List Named
front None xs = xs
front (Some x) xs = x ∷ xs

front_map : (f : Named → Named) (o : Option Named) (xs : List Named) → front (option_map f o) (map f xs) ≡ map f (front o xs)
front_map f None xs = refl
front_map f (Some x) xs = refl

filter_front : (f : Tree → Option Named) (t : Tree) (ts : List Tree) → filter_map f (t ∷ ts) ≡ front (f t) (filter_map f ts)
filter_front f t ts = by_first (f t) refl
  where
    by_first : (o : Option Named) → f t ≡ o → filter_map f (t ∷ ts) ≡ front o (filter_map f ts)
    by_first None e = rw e refl
    by_first (Some x) e = rw e refl

filtered : (f : Tree → Option Named) (p : Part) → ((t : Tree) → f (kept part.File t) ≡ option_map (with_part p) (f t)) → (ts : List Tree)
    → filter_map f (map (kept part.File) ts) ≡ map (with_part p) (filter_map f ts)
filtered f p same [] = refl
filtered f p same (t ∷ ts) =
    filter_front f (kept part.File t) (map (kept part.File) ts)
    ∙ (λ i. front (same t i) (filtered f p same ts i))
    ∙ front_map (with_part p) (f t) (filter_map f ts)
    ∙ ap (map (with_part p)) (sym (filter_front f t ts))

nodes_kept : (ts : List Tree) → nodes_in (map (kept part.File) ts) ≡ map (with_part part.Node) (nodes_in ts)
nodes_kept ts = filtered as_node part.Node node_kept ts

apps_kept : (ts : List Tree) → apps_in (map (kept part.File) ts) ≡ map (with_part part.App) (apps_in ts)
apps_kept ts = filtered as_app part.App app_kept ts

map_same : {B : Type 0} (p : Part) (g : Named → B) → ((x : Named) → g (with_part p x) ≡ g x) → (xs : List Named) → map g (map (with_part p) xs) ≡ map g xs
map_same p g same [] = refl
map_same p g same (x ∷ xs) = λ i. same x i ∷ map_same p g same xs i

node_names_same : (ts : List Tree) → node_names (map (kept part.File) ts) ≡ node_names ts
unfolding node_names
node_names_same ts =
    ap (map (λ (n : Named). n.0)) (nodes_kept ts) ∙ map_same part.Node (λ (n : Named). n.0) (λ x. refl) (nodes_in ts)

app_names_same : (ts : List Tree) → app_names (map (kept part.File) ts) ≡ app_names ts
unfolding app_names
app_names_same ts = ap (map (λ (a : Named). a.0)) (apps_kept ts) ∙ map_same part.App (λ (a : Named). a.0) (λ x. refl) (apps_in ts)

node_views_same : (names : NamesView) (ts : List Tree) → node_views names (map (kept part.File) ts) ≡ node_views names ts
unfolding node_views
node_views_same names ts =
    ap (map (λ (n : Named). node_view names n.1)) (nodes_kept ts)
    ∙ map_same part.Node (λ (n : Named). node_view names n.1) (λ x. node_view_same names x.1) (nodes_in ts)

all_shares_same : (names : NamesView) (ts : List Tree) → all_shares names (map (kept part.File) ts) ≡ all_shares names ts
unfolding all_shares
all_shares_same names ts =
    ap (map (λ (n : Named). shares_in names n.1)) (nodes_kept ts)
    ∙ map_same part.Node (λ (n : Named). shares_in names n.1) (λ x. shares_same names x.1) (nodes_in ts)

app_views_same : (names : NamesView) (shares : List Share) (ts : List Tree) → app_views names shares (map (kept part.File) ts) ≡ app_views names shares ts
unfolding app_views
app_views_same names shares ts =
    ap (map (λ (a : Named). app_view names shares a.0 a.1)) (apps_kept ts)
    ∙ map_same part.App (λ (a : Named). app_view names shares a.0 a.1) (λ x. app_view_same names shares x.0 x.1) (apps_in ts)

-- ---- platform names

flat_same : {B : Type 0} (p : Part) (f : Tree → List B) → ((t : Tree) → f (kept p t) ≡ f t) → (ts : List Tree) → flat_map f (map (kept p) ts) ≡ flat_map f ts
flat_same p f same [] = refl
flat_same p f same (t ∷ ts) = λ i. same t i ++ flat_same p f same ts i

section_names_same : (t : Tree) → platform_in_section (kept part.Node t) ≡ platform_in_section t
unfolding platform_in_section
section_names_same t =
    ap (λ o. flat_map platform_in_entry (unwrap_or (option_map elements o) []))
    (value_if_kept part.Node (codes "rehearse") t ∙ option_same (value_if (codes "rehearse") t))

term_names_same : (t : Tree) → platform_in_term (kept part.File t) ≡ platform_in_term t
unfolding platform_in_term
term_names_same t =
    ap (λ (o : Option Named). flat_map platform_in_section (unwrap_or (option_map (λ n. elements n.1) o) [])) (node_kept t) ∙ by_node (as_node t)
  where
    by_node : (o : Option Named) → flat_map platform_in_section (unwrap_or (option_map (λ n. elements n.1) (option_map (with_part part.Node) o)) [])
        ≡ flat_map platform_in_section (unwrap_or (option_map (λ n. elements n.1) o) [])
    by_node None = refl
    by_node (Some x) =
        ap (flat_map platform_in_section) (elements_kept part.Node x.1) ∙ flat_same part.Node platform_in_section section_names_same (elements x.1)

platforms_same : (ts : List Tree) → platforms_in (map (kept part.File) ts) ≡ platforms_in ts
unfolding platforms_in
platforms_same ts =
    ap (fold with_platforms (record { first = every_platform; known = every_platform })) (flat_same part.File platform_in_term term_names_same ts)

-- ---- the stages

header_by : (profile : ℕ) (nodes apps : List (List ℕ)) (node app : Option Named)
    → header_faults_by profile nodes apps (option_map (with_part part.Node) node) (option_map (with_part part.App) app)
    ≡ header_faults_by profile nodes apps node app
header_by profile nodes apps (Some node) app = refl
header_by profile nodes apps None (Some app) = refl
header_by profile nodes apps None None = refl

header_same : (profile : ℕ) (e : List Tree) (t : Tree)
    → header_faults profile (node_names (map (kept part.File) e)) (app_names (map (kept part.File) e)) (kept part.File t)
    ≡ header_faults profile (node_names e) (app_names e) t
unfolding header_faults
header_same profile e t =
    (λ i. header_faults_by profile (node_names_same e i) (app_names_same e i) (node_kept t i) (app_kept t i))
    ∙ header_by profile (node_names e) (app_names e) (as_node t) (as_app t)

headers_same : (profile : ℕ) (ts : List Tree) → headers_stage profile (map (kept part.File) ts) ≡ headers_stage profile ts
unfolding headers_stage
headers_same profile ts =
    let each = in_turn_kept part.File (λ e t. header_faults profile (node_names e) (app_names e) t) (λ e t. header_same profile e t) [] ts in
    λ i. each i ++ when (length (node_names_same ts i) == 0) fault.NoNodes

names_same : (ts : List Tree) → names_of (map (kept part.File) ts) ≡ names_of ts
unfolding names_of
names_same ts = λ i. record { nodes = node_names_same ts i; apps = app_names_same ts i; platforms = (platforms_same ts i).first }

views_same : (ts : List Tree) → node_views (names_of (map (kept part.File) ts)) (map (kept part.File) ts) ≡ node_views (names_of ts) ts
views_same ts = ap (λ names. node_views names (map (kept part.File) ts)) (names_same ts) ∙ node_views_same (names_of ts) ts

shares_all_same : (ts : List Tree) → all_shares (names_of (map (kept part.File) ts)) (map (kept part.File) ts) ≡ all_shares (names_of ts) ts
shares_all_same ts = ap (λ names. all_shares names (map (kept part.File) ts)) (names_same ts) ∙ all_shares_same (names_of ts) ts

behind_headers_same : (ts : List Tree) → faults_behind_headers (map (kept part.File) ts) ≡ faults_behind_headers ts
unfolding faults_behind_headers
behind_headers_same ts =
    let parts = (λ i. parts_stage (names_same ts i) (platforms_same ts i).known (map (kept part.File) ts))
    ∙ parts_stage_same (names_of ts) (platforms_in ts).known ts in
    λ i. parts i ++ agreement_stage (names_same ts i).nodes (views_same ts i) (shares_all_same ts i)

faults_same : (profile : ℕ) (ts : List Tree) → faults_in profile (map (kept part.File) ts) ≡ faults_in profile ts
unfolding faults_in
faults_same profile ts = λ i. headers_same profile ts i ++ behind_headers_same ts i

cluster_same : (profile : ℕ) (ts : List Tree) → cluster_view profile (map (kept part.File) ts) ≡ cluster_view profile ts
unfolding cluster_view
cluster_same profile ts =
    let apps = (λ i. app_views (names_same ts i) (agreed_shares (shares_all_same ts i)) (map (kept part.File) ts))
    ∙ app_views_same (names_of ts) (agreed_shares (all_shares (names_of ts) ts)) ts in
    λ i. record {
      profile = profile;
      node_names = node_names_same ts i;
      app_names = app_names_same ts i;
      platform_names = (platforms_same ts i).first;
      nodes = views_same ts i;
      apps = apps i;
    }

-- ---- the profile

named_same : (ts : List Tree) → profile_named (map (kept part.File) ts) ≡ profile_named ts
named_same [] = refl
named_same (t ∷ ts) = profile_kept t

profile_same : (ts : List Tree) → profile_of (map (kept part.File) ts) ≡ profile_of ts
unfolding profile_of
profile_same ts = ap (λ o. unwrap_or o 1) (named_same ts)

drop_map : (b : Bool) (ts : List Tree)
    → cond b (drop 1 (map (kept part.File) ts)) (map (kept part.File) ts) ≡ map (kept part.File) (cond b (drop 1 ts) ts)
drop_map false ts = refl
drop_map true [] = refl
drop_map true (t ∷ ts) = refl

behind_same : (ts : List Tree) → behind_profile (map (kept part.File) ts) ≡ map (kept part.File) (behind_profile ts)
unfolding behind_profile
behind_same ts =
    ap (λ o. cond (is_some o) (drop 1 (map (kept part.File) ts)) (map (kept part.File) ts)) (named_same ts) ∙ drop_map (is_some (profile_named ts)) ts

-- ---- the law

terms_same : (ts : List Tree) → cluster_of_terms (map (kept part.File) ts) ≡ cluster_of_terms ts
unfolding cluster_of_terms
terms_same ts =
    let behind = behind_profile ts in
    (λ i. unless (faults_in (profile_same ts i) (behind_same ts i)) (cluster_view (profile_same ts i) (behind_same ts i)))
    ∙ (λ i. unless (faults_same (profile_of ts) behind i) (cluster_same (profile_of ts) behind i))

pub skipped_tells_nothing : (ts : Trees) → cluster_of_terms (list_of_trees (kept_terms ts)) ≡ cluster_of_terms (list_of_trees ts)
skipped_tells_nothing ts = ap cluster_of_terms (kept_list part.File ts) ∙ terms_same (list_of_trees ts)
