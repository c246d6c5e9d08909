-- Worked rows: what a cluster file says of its nodes and its applications.
use Rattle.std.proofs.Common.{◌≡◌, [], ◌∷◌, true, false, Some, None, Ok, codes, refl, ℕ, List, ◌++◌, map, pos}
use Rattle.std.specs.Option.{option_map}
use Rattle.std.specs.Result.{result_ok}
use Rattle.std.specs.Str.{is_utf8, chars}
use lib.Utf8.{encode}
use Rattle.rh_terms.specs.Bytes.{past}
use Rattle.rh_terms.specs.Tokens.{digits_at, integer_at, name_at, quoted, quoted_atom_at}
use Rattle.rh_terms.specs.Grammar.{terms_of, dotted, dot_at, inside, terms_up_to, some_terms, next_at, term_by, word_at}
use Rattle.rh_model.specs.declared.settings.Dep.TheVariants.{Listed, Platform}
use Rattle.rh_model.specs.declared.settings.SyncWait.TheVariants.{Unset}
use Rattle.rh_model.specs.ClusterView.{ClusterView, NodeView, AppView, app_numbered}
use Rattle.rh_model.specs.declared.node.Node.{Node}
use Rattle.rh_model.specs.declared.node.App.{App}
use Rattle.rh_cluster.specs.NameRule.{is_name}
use Rattle.rh_cluster.specs.Shapes.{as_atom, as_list, as_tuple, as_int, as_pair, as_triple, as_entry, as_headed, as_profile, as_time}
use Rattle.rh_cluster.specs.Faults.{list_faults}
use Rattle.rh_cluster.specs.Sections.{has_key, entry_faults, word_faults, name_faults, node_name_faults, app_in}
use Rattle.rh_cluster.specs.Sections.{app_name_faults, members, desc_faults, as_share, share_faults, as_sync_wait}
use Rattle.rh_cluster.specs.Sections.{kernel_faults, as_restart, boot_faults, rehearse_faults, section_faults, dep_faults}
use Rattle.rh_cluster.specs.Sections.{key_faults, parts_faults, parts_stage}
use Rattle.rh_cluster.specs.Headers.{node_names, app_names, new_name_faults, header_faults, headers_stage}
use Rattle.rh_cluster.specs.Values.{elements, value_if, elements_under, platform_in_entry, platform_in_section}
use Rattle.rh_cluster.specs.Values.{platform_in_term, with_name, with_first_name, with_platforms, platforms_in}
use Rattle.rh_cluster.specs.Values.{node_named, app_named, boot_entry, forbids, permissions_in, platforms_of, node_view}
use Rattle.rh_cluster.specs.Values.{dep_named, group_in, share_of, shares_in, app_view}
use Rattle.rh_cluster.specs.Agreement.{same_group, same_share, same_shares, is_involved, first_involved, agreed_shares}
use Rattle.rh_cluster.specs.Agreement.{agree, mismatch_faults, mismatches, boot_entry_faults, boot_list_faults}
use Rattle.rh_cluster.specs.Agreement.{agreement_stage}
use Rattle.rh_cluster.specs.ClusterOf.{names_of, node_views, all_shares, app_views, faults_behind_headers, faults_in, cluster_view, cluster_of_terms, cluster_of}
use Rattle.rh_cluster.specs.Profile.{profile_of, behind_profile}
use Rattle.rh_terms.specs.Tokens.{text_at}
use Rattle.rh_cluster.specs.Sections.{permission_faults, as_truth, platform_faults, is_start, are_phases}
use Rattle.rh_model.specs.declared.settings.Restart.TheVariants.{Permanent, Transient}
use Rattle.rh_model.specs.declared.settings.SyncWait.TheVariants.{After, Forever}
use Rattle.rh_model.specs.ClusterView.{numbered, node_of, app_of, dep_name, is_permitted, is_platform, group_of, is_listed_at}
use Rattle.rh_model.proofs.PlainNode.{plain_node}
use Rattle.rh_model.specs.TermSymbols.{an_atom, an_int, a_text, list_of, tuple_of}

-- two nodes and two applications, of which one is distributed
abbrev file : List ℕ
file = codes "{node, n1, [{kernel, [{distributed, [{svc, 1000, [n2, {n3, n1}]}]}, {sync_nodes_mandatory, [n2]}, {sync_nodes_optional, [n3, n2]}, " ++
    codes "{sync_nodes_timeout, 700}, {permissions, [{svc, false}, {log, true}]}]}, {sasl, []}, {rehearse, [{platform, [sasl, kernel]}, " ++
    codes "{boot, [{log, permanent}, {svc, transient}]}]}]}. {application, svc, [{vsn, 1}, {start_phases, [{go, []}]}, " ++
    codes "{mod, {svc_app, [x, {1, \"t\"}]}}, {applications, [sasl, log, stdlib]}]}. {application, log, [{start_phases, undefined}, {mod, []}]}. " ++
    codes "{node, n2, [{kernel, [{sync_nodes_timeout, 700}, {distributed, [{svc, 1000, [n2, {n1, n3}]}]}]}]}. " ++
    codes "{node, n3, [{kernel, [{distributed, [{svc, 1000, [{n2}, {n3, n1}]}]}, {sync_nodes_timeout, 700}]}, {rehearse, [{platform, [tools]}]}]}."

abbrev n1 : Node
n1 = numbered 0

abbrev n2 : Node
n2 = numbered 1

abbrev n3 : Node
n3 = numbered 2

abbrev svc : App
svc = app_numbered 0

abbrev log : App
log = app_numbered 1

-- its cluster; a group of several is written as the first involved node writes it
abbrev view : ClusterView
view = record {
  profile = 1;
  node_names = codes "n1" ∷ codes "n2" ∷ codes "n3" ∷ [];
  app_names = codes "svc" ∷ codes "log" ∷ [];
  platform_names = codes "kernel" ∷ codes "stdlib" ∷ codes "sasl" ∷ codes "tools" ∷ [];
  nodes = record plain_node {
    mandatory = n2 ∷ [];
    optional = n3 ∷ n2 ∷ [];
    sync_wait = After 700;
    boot = (log, Permanent) ∷ (svc, Transient) ∷ [];
    permissions = false ∷ true ∷ [];
    platforms = true ∷ true ∷ true ∷ false ∷ [];
  } ∷ record plain_node {
    sync_wait = After 700;
    permissions = true ∷ true ∷ [];
    platforms = true ∷ true ∷ false ∷ false ∷ [];
  } ∷ record plain_node {
    sync_wait = After 700;
    permissions = true ∷ true ∷ [];
    platforms = true ∷ true ∷ false ∷ true ∷ [];
  } ∷ [];
  apps = record {
    deps = Platform 2 ∷ Listed log ∷ Platform 1 ∷ [];
    start_arg = Some (codes "svc_app", list_of 2 ∷ an_atom (codes "x") ∷ tuple_of 2 ∷ an_int (pos 1) ∷ a_text (codes "t") ∷ []);
    phases = true;
    spread = Some (record { timeout = 1000; groups = (n2 ∷ []) ∷ (n3 ∷ n1 ∷ []) ∷ [] });
  } ∷ record { deps = []; start_arg = None; phases = false; spread = None } ∷ [];
}

whole_file_row : cluster_of file ≡ Ok view
unfolding is_utf8 chars encode terms_of dotted dot_at inside terms_up_to some_terms next_at term_by word_at name_at past quoted quoted_atom_at text_at
    integer_at digits_at cluster_of cluster_of_terms profile_of behind_profile as_profile faults_in headers_stage header_faults new_name_faults node_names app_names as_headed as_triple as_tuple as_atom is_name
    faults_behind_headers names_of parts_stage parts_faults section_faults entry_faults has_key list_faults as_list as_entry as_pair kernel_faults share_faults
    app_name_faults app_in node_name_faults name_faults word_faults as_share desc_faults members permission_faults as_truth as_sync_wait as_time as_int
    rehearse_faults boot_faults as_restart platform_faults key_faults dep_faults is_start are_phases node_views all_shares node_view shares_in share_of group_in
    elements value_if elements_under node_named app_named boot_entry permissions_in forbids platforms_of platforms_in platform_in_term platform_in_section
    platform_in_entry with_platforms with_first_name with_name agreement_stage mismatches is_involved first_involved agreed_shares mismatch_faults agree
    same_shares same_share same_group boot_list_faults boot_entry_faults cluster_view app_views app_view dep_named
whole_file_row = refl

-- without `sync_nodes_timeout`, without an end of the wait, and with an empty list of start phases
waits_row : map (λ text. option_map (λ (c : ClusterView). map (λ (v : NodeView). v.sync_wait) c.nodes) (result_ok (cluster_of text)))
    (codes "{node, a, []}. {node, b, [{kernel, [{sync_nodes_timeout, undefined}]}]}. {node, c, [{kernel, [{sync_nodes_timeout, infinity}]}]}." ∷ [])
    ≡ Some (Unset ∷ Unset ∷ Forever ∷ []) ∷ []
unfolding is_utf8 chars encode terms_of dotted dot_at inside terms_up_to some_terms next_at term_by word_at name_at past quoted quoted_atom_at text_at
    integer_at digits_at cluster_of cluster_of_terms profile_of behind_profile as_profile faults_in headers_stage header_faults new_name_faults node_names app_names as_headed as_triple as_tuple as_atom is_name
    faults_behind_headers names_of parts_stage parts_faults section_faults entry_faults has_key list_faults as_list as_entry as_pair kernel_faults share_faults
    app_name_faults app_in node_name_faults name_faults word_faults as_share desc_faults members permission_faults as_truth as_sync_wait as_time as_int
    rehearse_faults boot_faults as_restart platform_faults key_faults dep_faults is_start are_phases node_views all_shares node_view shares_in share_of group_in
    elements value_if elements_under node_named app_named boot_entry permissions_in forbids platforms_of platforms_in platform_in_term platform_in_section
    platform_in_entry with_platforms with_first_name with_name agreement_stage mismatches is_involved first_involved agreed_shares mismatch_faults agree
    same_shares same_share same_group boot_list_faults boot_entry_faults cluster_view app_views app_view dep_named
waits_row = refl

phases_row : option_map (λ (c : ClusterView). map (λ (v : AppView). v.phases) c.apps)
    (result_ok (cluster_of (codes "{node, a, []}. {application, p, [{start_phases, []}]}. {application, q, [{start_phases, undefined}]}. {application, r, []}.")))
    ≡ Some (true ∷ false ∷ false ∷ [])
unfolding is_utf8 chars encode terms_of dotted dot_at inside terms_up_to some_terms next_at term_by word_at name_at past quoted quoted_atom_at text_at
    integer_at digits_at cluster_of cluster_of_terms profile_of behind_profile as_profile faults_in headers_stage header_faults new_name_faults node_names app_names as_headed as_triple as_tuple as_atom is_name
    faults_behind_headers names_of parts_stage parts_faults section_faults entry_faults has_key list_faults as_list as_entry as_pair kernel_faults share_faults
    app_name_faults app_in node_name_faults name_faults word_faults as_share desc_faults members permission_faults as_truth as_sync_wait as_time as_int
    rehearse_faults boot_faults as_restart platform_faults key_faults dep_faults is_start are_phases node_views all_shares node_view shares_in share_of group_in
    elements value_if elements_under node_named app_named boot_entry permissions_in forbids platforms_of platforms_in platform_in_term platform_in_section
    platform_in_entry with_platforms with_first_name with_name agreement_stage mismatches is_involved first_involved agreed_shares mismatch_faults agree
    same_shares same_share same_group boot_list_faults boot_entry_faults cluster_view app_views app_view dep_named
phases_row = refl

-- ---- its readers

names_row : (node_of view (codes "n3") ≡ Some n3) × (node_of view (codes "svc") ≡ None) × (app_of view (codes "log") ≡ Some log) × (app_of view (codes "n1") ≡ None)
    × (map (dep_name view) (Listed log ∷ Platform 2 ∷ Listed (app_numbered 2) ∷ Platform 4 ∷ []) ≡ Some (codes "log") ∷ Some (codes "sasl") ∷ None ∷ None ∷ [])
names_row = (refl, refl, refl, refl, refl)

groups_row : (map (group_of view svc) (n1 ∷ n2 ∷ n3 ∷ numbered 3 ∷ []) ≡ Some 1 ∷ Some 0 ∷ Some 1 ∷ None ∷ []) × (group_of view log n1 ≡ None)
    × (is_listed_at view svc n1 ≡ true) × (is_listed_at view svc (numbered 3) ≡ false) × (is_listed_at view log n2 ≡ true)
groups_row = (refl, refl, refl, refl, refl)

permitted_row : (is_permitted view n1 svc ≡ false) × (is_permitted view n1 log ≡ true) × (is_permitted view n2 svc ≡ true)
    × (is_platform view n1 2 ≡ true) × (is_platform view n2 2 ≡ false)
permitted_row = (refl, refl, refl, refl, refl)
