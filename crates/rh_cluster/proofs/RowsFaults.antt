-- Worked rows: each fault of a cluster file, where it comes.
use Rattle.std.proofs.Common.{◌≡◌, [], ◌∷◌, Some, None, codes, refl, ℕ, List, ◌++◌, Option, map, replicate}
use Rattle.std.specs.Str.{is_utf8, chars}
use lib.Utf8.{encode}
use Rattle.rh_terms.specs.Bytes.{past}
use Rattle.rh_terms.specs.Tokens.{digits_at, integer_at, name_at, quoted, quoted_atom_at}
use Rattle.rh_terms.specs.Grammar.{terms_of, dotted, dot_at, inside, terms_up_to, some_terms, next_at, term_by, word_at}
use Rattle.rh_cluster.specs.NameRule.{is_name}
use Rattle.rh_cluster.specs.Shapes.{as_atom, as_list, as_tuple, as_int, as_pair, as_triple, as_entry, as_headed, as_profile, as_time}
use Rattle.rh_cluster.specs.Faults.{list_faults}
use Rattle.rh_cluster.specs.Sections.{has_key, entry_faults, word_faults, name_faults, node_name_faults, app_in}
use Rattle.rh_cluster.specs.Sections.{app_name_faults, members, desc_faults, as_share, share_faults, as_sync_wait}
use Rattle.rh_cluster.specs.Sections.{kernel_faults, as_restart, boot_faults, rehearse_faults, section_faults, dep_faults}
use Rattle.rh_cluster.specs.Sections.{key_faults, parts_faults, parts_stage}
use Rattle.rh_cluster.specs.Headers.{node_names, app_names, new_name_faults, header_faults, headers_stage}
use Rattle.rh_cluster.specs.Values.{elements, value_if, elements_under, platform_in_entry, platform_in_section}
use Rattle.rh_cluster.specs.Values.{platform_in_term, with_name, with_first_name, with_platforms, platforms_in}
use Rattle.rh_cluster.specs.Values.{node_named, app_named, boot_entry, forbids, permissions_in, platforms_of, node_view}
use Rattle.rh_cluster.specs.Values.{dep_named, group_in, share_of, shares_in, app_view}
use Rattle.rh_cluster.specs.Agreement.{same_group, same_share, same_shares, is_involved, first_involved, agreed_shares}
use Rattle.rh_cluster.specs.Agreement.{agree, mismatch_faults, mismatches, boot_entry_faults, boot_list_faults}
use Rattle.rh_cluster.specs.Agreement.{agreement_stage}
use Rattle.rh_cluster.specs.ClusterOf.{names_of, node_views, all_shares, app_views, faults_behind_headers, faults_in, cluster_view, cluster_of_terms, cluster_of}
use Rattle.rh_cluster.specs.Profile.{profile_of, behind_profile}
use Rattle.rh_terms.specs.Tokens.{text_at}
use Rattle.rh_cluster.specs.Sections.{permission_faults, as_truth, platform_faults, is_start, are_phases}
use Rattle.std.specs.Result.{result_err}
use Rattle.rh_cluster.specs.declared.fault.ClusterFault.{ClusterFault}
use Rattle.rh_cluster.specs.declared.fault.ClusterFault.TheVariants.{NoNodes, DuplicateName, UnknownName, DuplicateInList, DuplicateParameter, BadValue, BadName}

-- the fault of a text, if it has one
abbrev fault_of : List ℕ → Option ClusterFault
fault_of text = result_err (cluster_of text)

-- a node with these sections, with these kernel parameters, with these parameters of `rehearse`; and an application with these keys
abbrev sections : List ℕ → List ℕ
sections text = codes "{node, a, [" ++ text ++ codes "]}. {application, p, []}. {application, q, []}."

abbrev kernel : List ℕ → List ℕ
kernel text = sections (codes "{kernel, [" ++ text ++ codes "]}")

abbrev rehearse : List ℕ → List ℕ
rehearse text = sections (codes "{rehearse, [" ++ text ++ codes "]}")

abbrev keys : List ℕ → List ℕ
keys text = codes "{node, a, []}. {application, q, []}. {application, p, [" ++ text ++ codes "]}."

-- ---- terms

-- a term is `{node, Name, SysConfig}` or `{application, Name, Keys}`
term_shapes_row : map fault_of (
    codes "x." ∷ codes "{node, a}." ∷ codes "{node, a, [], []}." ∷ codes "{peer, a, []}." ∷ codes "{\"node\", a, []}." ∷ codes "[node, a, []]." ∷
    codes "{node, 1, []}." ∷ codes "{application, \"p\", []}." ∷ [])
    ≡ replicate 8 (Some BadValue)
unfolding is_utf8 chars encode terms_of dotted dot_at inside terms_up_to some_terms next_at term_by word_at name_at past quoted quoted_atom_at text_at
    integer_at digits_at cluster_of cluster_of_terms profile_of behind_profile as_profile faults_in headers_stage header_faults new_name_faults node_names app_names as_headed as_triple as_tuple as_atom is_name
    faults_behind_headers names_of parts_stage parts_faults section_faults entry_faults has_key list_faults as_list as_entry as_pair kernel_faults share_faults
    app_name_faults app_in node_name_faults name_faults word_faults as_share desc_faults members permission_faults as_truth as_sync_wait as_time as_int
    rehearse_faults boot_faults as_restart platform_faults key_faults dep_faults is_start are_phases node_views all_shares node_view shares_in share_of group_in
    elements value_if elements_under node_named app_named boot_entry permissions_in forbids platforms_of platforms_in platform_in_term platform_in_section
    platform_in_entry with_platforms with_first_name with_name agreement_stage mismatches is_involved first_involved agreed_shares mismatch_faults agree
    same_shares same_share same_group boot_list_faults boot_entry_faults cluster_view app_views app_view dep_named
term_shapes_row = refl

-- each name of a term follows the rule
names_row : map fault_of (
    codes "{node, '', []}." ∷ codes "{node, 'a\\tb', []}." ∷ codes "{node, a, []}. {application, 'p q', []}." ∷ [])
    ≡ replicate 3 (Some BadName)
unfolding is_utf8 chars encode terms_of dotted dot_at inside terms_up_to some_terms next_at term_by word_at name_at past quoted quoted_atom_at text_at
    integer_at digits_at cluster_of cluster_of_terms profile_of behind_profile as_profile faults_in headers_stage header_faults new_name_faults node_names app_names as_headed as_triple as_tuple as_atom is_name
    faults_behind_headers names_of parts_stage parts_faults section_faults entry_faults has_key list_faults as_list as_entry as_pair kernel_faults share_faults
    app_name_faults app_in node_name_faults name_faults word_faults as_share desc_faults members permission_faults as_truth as_sync_wait as_time as_int
    rehearse_faults boot_faults as_restart platform_faults key_faults dep_faults is_start are_phases node_views all_shares node_view shares_in share_of group_in
    elements value_if elements_under node_named app_named boot_entry permissions_in forbids platforms_of platforms_in platform_in_term platform_in_section
    platform_in_entry with_platforms with_first_name with_name agreement_stage mismatches is_involved first_involved agreed_shares mismatch_faults agree
    same_shares same_share same_group boot_list_faults boot_entry_faults cluster_view app_views app_view dep_named
names_row = refl

-- no name twice among applications, and none of the platform
names_once_row : map fault_of (
    codes "{node, a, []}. {application, p, []}. {application, p, [x]}." ∷ codes "{node, a, []}. {application, kernel, []}." ∷
    codes "{node, a, []}. {application, stdlib, []}." ∷ [])
    ≡ replicate 3 (Some DuplicateName)
unfolding is_utf8 chars encode terms_of dotted dot_at inside terms_up_to some_terms next_at term_by word_at name_at past quoted quoted_atom_at text_at
    integer_at digits_at cluster_of cluster_of_terms profile_of behind_profile as_profile faults_in headers_stage header_faults new_name_faults node_names app_names as_headed as_triple as_tuple as_atom is_name
    faults_behind_headers names_of parts_stage parts_faults section_faults entry_faults has_key list_faults as_list as_entry as_pair kernel_faults share_faults
    app_name_faults app_in node_name_faults name_faults word_faults as_share desc_faults members permission_faults as_truth as_sync_wait as_time as_int
    rehearse_faults boot_faults as_restart platform_faults key_faults dep_faults is_start are_phases node_views all_shares node_view shares_in share_of group_in
    elements value_if elements_under node_named app_named boot_entry permissions_in forbids platforms_of platforms_in platform_in_term platform_in_section
    platform_in_entry with_platforms with_first_name with_name agreement_stage mismatches is_involved first_involved agreed_shares mismatch_faults agree
    same_shares same_share same_group boot_list_faults boot_entry_faults cluster_view app_views app_view dep_named
names_once_row = refl

-- a node and an application may have one name
names_of_two_kinds_row : map fault_of (
    codes "{node, kernel, []}. {node, q, []}. {application, q, []}." ∷ codes "{node, 'A.b@c-d', []}." ∷ [])
    ≡ replicate 2 None
unfolding is_utf8 chars encode terms_of dotted dot_at inside terms_up_to some_terms next_at term_by word_at name_at past quoted quoted_atom_at text_at
    integer_at digits_at cluster_of cluster_of_terms profile_of behind_profile as_profile faults_in headers_stage header_faults new_name_faults node_names app_names as_headed as_triple as_tuple as_atom is_name
    faults_behind_headers names_of parts_stage parts_faults section_faults entry_faults has_key list_faults as_list as_entry as_pair kernel_faults share_faults
    app_name_faults app_in node_name_faults name_faults word_faults as_share desc_faults members permission_faults as_truth as_sync_wait as_time as_int
    rehearse_faults boot_faults as_restart platform_faults key_faults dep_faults is_start are_phases node_views all_shares node_view shares_in share_of group_in
    elements value_if elements_under node_named app_named boot_entry permissions_in forbids platforms_of platforms_in platform_in_term platform_in_section
    platform_in_entry with_platforms with_first_name with_name agreement_stage mismatches is_involved first_involved agreed_shares mismatch_faults agree
    same_shares same_share same_group boot_list_faults boot_entry_faults cluster_view app_views app_view dep_named
names_of_two_kinds_row = refl

-- there is a node
no_node_among_terms_row : map fault_of (
    codes "{application, p, []}." ∷ [])
    ≡ Some NoNodes ∷ []
unfolding is_utf8 chars encode terms_of dotted dot_at inside terms_up_to some_terms next_at term_by word_at name_at past quoted quoted_atom_at text_at
    integer_at digits_at cluster_of cluster_of_terms profile_of behind_profile as_profile faults_in headers_stage header_faults new_name_faults node_names app_names as_headed as_triple as_tuple as_atom is_name
    faults_behind_headers names_of parts_stage parts_faults section_faults entry_faults has_key list_faults as_list as_entry as_pair kernel_faults share_faults
    app_name_faults app_in node_name_faults name_faults word_faults as_share desc_faults members permission_faults as_truth as_sync_wait as_time as_int
    rehearse_faults boot_faults as_restart platform_faults key_faults dep_faults is_start are_phases node_views all_shares node_view shares_in share_of group_in
    elements value_if elements_under node_named app_named boot_entry permissions_in forbids platforms_of platforms_in platform_in_term platform_in_section
    platform_in_entry with_platforms with_first_name with_name agreement_stage mismatches is_involved first_involved agreed_shares mismatch_faults agree
    same_shares same_share same_group boot_list_faults boot_entry_faults cluster_view app_views app_view dep_named
no_node_among_terms_row = refl

-- ---- the sections of a node

-- a SysConfig is a list of `{Atom, List}`, and one that is not read is skipped, whatever stands in its list
sections_row : map fault_of (
    codes "{node, a, x}." ∷ codes "{node, a, [\"x.config\"]}." ∷ codes "{node, a, [{sasl, x}]}." ∷ codes "{node, a, [{\"sasl\", []}]}." ∷
    codes "{node, a, [{kernel, x}]}." ∷ codes "{node, a, [{rehearse, x}]}." ∷ codes "{node, a, [{kernel, [x]}]}." ∷
    codes "{node, a, [{sasl, [x]}, {kernel, [{logger_level, info}]}, {sasl, []}]}." ∷ [])
    ≡ replicate 7 (Some BadValue) ++ None ∷ []
unfolding is_utf8 chars encode terms_of dotted dot_at inside terms_up_to some_terms next_at term_by word_at name_at past quoted quoted_atom_at text_at
    integer_at digits_at cluster_of cluster_of_terms profile_of behind_profile as_profile faults_in headers_stage header_faults new_name_faults node_names app_names as_headed as_triple as_tuple as_atom is_name
    faults_behind_headers names_of parts_stage parts_faults section_faults entry_faults has_key list_faults as_list as_entry as_pair kernel_faults share_faults
    app_name_faults app_in node_name_faults name_faults word_faults as_share desc_faults members permission_faults as_truth as_sync_wait as_time as_int
    rehearse_faults boot_faults as_restart platform_faults key_faults dep_faults is_start are_phases node_views all_shares node_view shares_in share_of group_in
    elements value_if elements_under node_named app_named boot_entry permissions_in forbids platforms_of platforms_in platform_in_term platform_in_section
    platform_in_entry with_platforms with_first_name with_name agreement_stage mismatches is_involved first_involved agreed_shares mismatch_faults agree
    same_shares same_share same_group boot_list_faults boot_entry_faults cluster_view app_views app_view dep_named
sections_row = refl

-- what is read comes once, and a second one is not looked at; what is skipped comes often
parameter_twice_row : map fault_of (
    sections (codes "{kernel, []}, {kernel, x}") ∷ sections (codes "{rehearse, []}, {rehearse, x}") ∷
    sections (codes "{kernel, [{distributed, []}, {distributed, x}]}") ∷
    sections (codes "{kernel, [{sync_nodes_mandatory, []}, {sync_nodes_mandatory, x}]}") ∷
    sections (codes "{kernel, [{sync_nodes_optional, []}, {sync_nodes_optional, x}]}") ∷
    sections (codes "{kernel, [{sync_nodes_timeout, 1}, {sync_nodes_timeout, x}]}") ∷
    sections (codes "{kernel, [{permissions, []}, {permissions, x}]}") ∷ sections (codes "{rehearse, [{boot, []}, {boot, x}]}") ∷
    sections (codes "{rehearse, [{platform, []}, {platform, x}]}") ∷ sections (codes "{kernel, [{logger_level, info}, {logger_level, 1}]}") ∷ [])
    ≡ replicate 9 (Some DuplicateParameter) ++ None ∷ []
unfolding is_utf8 chars encode terms_of dotted dot_at inside terms_up_to some_terms next_at term_by word_at name_at past quoted quoted_atom_at text_at
    integer_at digits_at cluster_of cluster_of_terms profile_of behind_profile as_profile faults_in headers_stage header_faults new_name_faults node_names app_names as_headed as_triple as_tuple as_atom is_name
    faults_behind_headers names_of parts_stage parts_faults section_faults entry_faults has_key list_faults as_list as_entry as_pair kernel_faults share_faults
    app_name_faults app_in node_name_faults name_faults word_faults as_share desc_faults members permission_faults as_truth as_sync_wait as_time as_int
    rehearse_faults boot_faults as_restart platform_faults key_faults dep_faults is_start are_phases node_views all_shares node_view shares_in share_of group_in
    elements value_if elements_under node_named app_named boot_entry permissions_in forbids platforms_of platforms_in platform_in_term platform_in_section
    platform_in_entry with_platforms with_first_name with_name agreement_stage mismatches is_involved first_involved agreed_shares mismatch_faults agree
    same_shares same_share same_group boot_list_faults boot_entry_faults cluster_view app_views app_view dep_named
parameter_twice_row = refl

-- ---- kernel parameters

-- an entry is `{App, NodeDesc}` or `{App, Timeout, NodeDesc}`, and a NodeDesc has one group or more, of one node or more
distributed_row : map fault_of (
    kernel (codes "{distributed, [{p, [a]}, {q, 1000000000000, [{a}]}]}") ∷ kernel (codes "{distributed, x}") ∷
    kernel (codes "{distributed, [p]}") ∷ kernel (codes "{distributed, [{p}]}") ∷ kernel (codes "{distributed, [{p, 0, [a], x}]}") ∷
    kernel (codes "{distributed, [{1, [a]}]}") ∷ kernel (codes "{distributed, [{p, a}]}") ∷ kernel (codes "{distributed, [{p, []}]}") ∷
    kernel (codes "{distributed, [{p, [{}]}]}") ∷ kernel (codes "{distributed, [{p, [[a]]}]}") ∷ kernel (codes "{distributed, [{p, -1, [a]}]}") ∷
    kernel (codes "{distributed, [{p, 1000000000001, [a]}]}") ∷ kernel (codes "{distributed, [{p, infinity, [a]}]}") ∷
    kernel (codes "{distributed, [{'', [a]}]}") ∷ kernel (codes "{distributed, [{r, [a]}]}") ∷ kernel (codes "{distributed, [{p, [a, b]}]}") ∷
    kernel (codes "{distributed, [{p, [a]}, {p, [a]}]}") ∷ kernel (codes "{distributed, [{p, [a, {a}]}]}") ∷ [])
    ≡ None ∷ [] ++ replicate 12 (Some BadValue) ++ (Some BadName) ∷ [] ++ replicate 2 (Some UnknownName) ++ replicate 2 (Some DuplicateInList)
unfolding is_utf8 chars encode terms_of dotted dot_at inside terms_up_to some_terms next_at term_by word_at name_at past quoted quoted_atom_at text_at
    integer_at digits_at cluster_of cluster_of_terms profile_of behind_profile as_profile faults_in headers_stage header_faults new_name_faults node_names app_names as_headed as_triple as_tuple as_atom is_name
    faults_behind_headers names_of parts_stage parts_faults section_faults entry_faults has_key list_faults as_list as_entry as_pair kernel_faults share_faults
    app_name_faults app_in node_name_faults name_faults word_faults as_share desc_faults members permission_faults as_truth as_sync_wait as_time as_int
    rehearse_faults boot_faults as_restart platform_faults key_faults dep_faults is_start are_phases node_views all_shares node_view shares_in share_of group_in
    elements value_if elements_under node_named app_named boot_entry permissions_in forbids platforms_of platforms_in platform_in_term platform_in_section
    platform_in_entry with_platforms with_first_name with_name agreement_stage mismatches is_involved first_involved agreed_shares mismatch_faults agree
    same_shares same_share same_group boot_list_faults boot_entry_faults cluster_view app_views app_view dep_named
distributed_row = refl

-- the nodes that a node waits for, and how long
sync_nodes_row : map fault_of (
    kernel (codes "{sync_nodes_mandatory, [a]}, {sync_nodes_optional, [a]}") ∷ kernel (codes "{sync_nodes_timeout, 0}") ∷
    kernel (codes "{sync_nodes_timeout, 1000000000000}") ∷ kernel (codes "{sync_nodes_timeout, infinity}") ∷
    kernel (codes "{sync_nodes_timeout, undefined}") ∷ kernel (codes "{sync_nodes_mandatory, a}") ∷ kernel (codes "{sync_nodes_optional, [1]}") ∷
    kernel (codes "{sync_nodes_timeout, -1}") ∷ kernel (codes "{sync_nodes_timeout, 1000000000001}") ∷ kernel (codes "{sync_nodes_timeout, soon}") ∷
    kernel (codes "{sync_nodes_timeout, \"1\"}") ∷ kernel (codes "{sync_nodes_mandatory, ['']}") ∷ kernel (codes "{sync_nodes_mandatory, [b]}") ∷
    kernel (codes "{sync_nodes_optional, [p]}") ∷ kernel (codes "{sync_nodes_mandatory, [a, a]}") ∷ kernel (codes "{sync_nodes_optional, [a, a]}") ∷ [])
    ≡ replicate 5 None ++ replicate 6 (Some BadValue) ++ (Some BadName) ∷ [] ++ replicate 2 (Some UnknownName) ++ replicate 2 (Some DuplicateInList)
unfolding is_utf8 chars encode terms_of dotted dot_at inside terms_up_to some_terms next_at term_by word_at name_at past quoted quoted_atom_at text_at
    integer_at digits_at cluster_of cluster_of_terms profile_of behind_profile as_profile faults_in headers_stage header_faults new_name_faults node_names app_names as_headed as_triple as_tuple as_atom is_name
    faults_behind_headers names_of parts_stage parts_faults section_faults entry_faults has_key list_faults as_list as_entry as_pair kernel_faults share_faults
    app_name_faults app_in node_name_faults name_faults word_faults as_share desc_faults members permission_faults as_truth as_sync_wait as_time as_int
    rehearse_faults boot_faults as_restart platform_faults key_faults dep_faults is_start are_phases node_views all_shares node_view shares_in share_of group_in
    elements value_if elements_under node_named app_named boot_entry permissions_in forbids platforms_of platforms_in platform_in_term platform_in_section
    platform_in_entry with_platforms with_first_name with_name agreement_stage mismatches is_involved first_involved agreed_shares mismatch_faults agree
    same_shares same_share same_group boot_list_faults boot_entry_faults cluster_view app_views app_view dep_named
sync_nodes_row = refl

-- an entry is `{App, true}` or `{App, false}`
permissions_row : map fault_of (
    kernel (codes "{permissions, [{p, true}, {q, false}]}") ∷ kernel (codes "{permissions, p}") ∷ kernel (codes "{permissions, [p]}") ∷
    kernel (codes "{permissions, [{p, yes}]}") ∷ kernel (codes "{permissions, [{p, true, true}]}") ∷ kernel (codes "{permissions, [{1, true}]}") ∷
    kernel (codes "{permissions, [{'', true}]}") ∷ kernel (codes "{permissions, [{a, true}]}") ∷
    kernel (codes "{permissions, [{p, true}, {p, false}]}") ∷ [])
    ≡ None ∷ [] ++ replicate 5 (Some BadValue) ++ (Some BadName) ∷ [] ++ (Some UnknownName) ∷ [] ++ (Some DuplicateInList) ∷ []
unfolding is_utf8 chars encode terms_of dotted dot_at inside terms_up_to some_terms next_at term_by word_at name_at past quoted quoted_atom_at text_at
    integer_at digits_at cluster_of cluster_of_terms profile_of behind_profile as_profile faults_in headers_stage header_faults new_name_faults node_names app_names as_headed as_triple as_tuple as_atom is_name
    faults_behind_headers names_of parts_stage parts_faults section_faults entry_faults has_key list_faults as_list as_entry as_pair kernel_faults share_faults
    app_name_faults app_in node_name_faults name_faults word_faults as_share desc_faults members permission_faults as_truth as_sync_wait as_time as_int
    rehearse_faults boot_faults as_restart platform_faults key_faults dep_faults is_start are_phases node_views all_shares node_view shares_in share_of group_in
    elements value_if elements_under node_named app_named boot_entry permissions_in forbids platforms_of platforms_in platform_in_term platform_in_section
    platform_in_entry with_platforms with_first_name with_name agreement_stage mismatches is_involved first_involved agreed_shares mismatch_faults agree
    same_shares same_share same_group boot_list_faults boot_entry_faults cluster_view app_views app_view dep_named
permissions_row = refl

-- ---- parameters of `rehearse`

-- an entry is `{App, Type}` with one of three types
boot_row : map fault_of (
    rehearse (codes "{boot, [{p, permanent}, {q, transient}]}") ∷ rehearse (codes "{boot, [{p, temporary}]}") ∷ rehearse (codes "x") ∷
    rehearse (codes "{nodes, []}") ∷ rehearse (codes "{boot, p}") ∷ rehearse (codes "{boot, [p]}") ∷ rehearse (codes "{boot, [{p, always}]}") ∷
    rehearse (codes "{boot, [{1, permanent}]}") ∷ rehearse (codes "{boot, [{'', permanent}]}") ∷ rehearse (codes "{boot, [{kernel, permanent}]}") ∷
    rehearse (codes "{boot, [{p, permanent}, {p, permanent}]}") ∷ [])
    ≡ replicate 2 None ++ replicate 6 (Some BadValue) ++ (Some BadName) ∷ [] ++ (Some UnknownName) ∷ [] ++ (Some DuplicateInList) ∷ []
unfolding is_utf8 chars encode terms_of dotted dot_at inside terms_up_to some_terms next_at term_by word_at name_at past quoted quoted_atom_at text_at
    integer_at digits_at cluster_of cluster_of_terms profile_of behind_profile as_profile faults_in headers_stage header_faults new_name_faults node_names app_names as_headed as_triple as_tuple as_atom is_name
    faults_behind_headers names_of parts_stage parts_faults section_faults entry_faults has_key list_faults as_list as_entry as_pair kernel_faults share_faults
    app_name_faults app_in node_name_faults name_faults word_faults as_share desc_faults members permission_faults as_truth as_sync_wait as_time as_int
    rehearse_faults boot_faults as_restart platform_faults key_faults dep_faults is_start are_phases node_views all_shares node_view shares_in share_of group_in
    elements value_if elements_under node_named app_named boot_entry permissions_in forbids platforms_of platforms_in platform_in_term platform_in_section
    platform_in_entry with_platforms with_first_name with_name agreement_stage mismatches is_involved first_involved agreed_shares mismatch_faults agree
    same_shares same_share same_group boot_list_faults boot_entry_faults cluster_view app_views app_view dep_named
boot_row = refl

-- any name, but none of an application
platform_row : map fault_of (
    rehearse (codes "{platform, [a, kernel, sasl]}") ∷ rehearse (codes "{platform, sasl}") ∷ rehearse (codes "{platform, [1]}") ∷
    rehearse (codes "{platform, ['']}") ∷ rehearse (codes "{platform, [sasl, sasl]}") ∷ rehearse (codes "{platform, [sasl, p]}") ∷ [])
    ≡ None ∷ [] ++ replicate 2 (Some BadValue) ++ (Some BadName) ∷ [] ++ (Some DuplicateInList) ∷ [] ++ (Some DuplicateName) ∷ []
unfolding is_utf8 chars encode terms_of dotted dot_at inside terms_up_to some_terms next_at term_by word_at name_at past quoted quoted_atom_at text_at
    integer_at digits_at cluster_of cluster_of_terms profile_of behind_profile as_profile faults_in headers_stage header_faults new_name_faults node_names app_names as_headed as_triple as_tuple as_atom is_name
    faults_behind_headers names_of parts_stage parts_faults section_faults entry_faults has_key list_faults as_list as_entry as_pair kernel_faults share_faults
    app_name_faults app_in node_name_faults name_faults word_faults as_share desc_faults members permission_faults as_truth as_sync_wait as_time as_int
    rehearse_faults boot_faults as_restart platform_faults key_faults dep_faults is_start are_phases node_views all_shares node_view shares_in share_of group_in
    elements value_if elements_under node_named app_named boot_entry permissions_in forbids platforms_of platforms_in platform_in_term platform_in_section
    platform_in_entry with_platforms with_first_name with_name agreement_stage mismatches is_involved first_involved agreed_shares mismatch_faults agree
    same_shares same_share same_group boot_list_faults boot_entry_faults cluster_view app_views app_view dep_named
platform_row = refl

-- ---- the keys of an application

-- what is read comes once, and a second one is not looked at; what is skipped comes often
keys_row : map fault_of (
    keys (codes "{applications, []}, {applications, x}") ∷ keys (codes "{mod, []}, {mod, x}") ∷
    keys (codes "{start_phases, []}, {start_phases, x}") ∷ keys (codes "{vsn, \"1\"}, {vsn, x}") ∷ keys (codes "{vsn}") ∷
    keys (codes "{\"vsn\", x}") ∷ keys (codes "vsn") ∷ [])
    ≡ replicate 3 (Some DuplicateParameter) ++ None ∷ [] ++ replicate 3 (Some BadValue)
unfolding is_utf8 chars encode terms_of dotted dot_at inside terms_up_to some_terms next_at term_by word_at name_at past quoted quoted_atom_at text_at
    integer_at digits_at cluster_of cluster_of_terms profile_of behind_profile as_profile faults_in headers_stage header_faults new_name_faults node_names app_names as_headed as_triple as_tuple as_atom is_name
    faults_behind_headers names_of parts_stage parts_faults section_faults entry_faults has_key list_faults as_list as_entry as_pair kernel_faults share_faults
    app_name_faults app_in node_name_faults name_faults word_faults as_share desc_faults members permission_faults as_truth as_sync_wait as_time as_int
    rehearse_faults boot_faults as_restart platform_faults key_faults dep_faults is_start are_phases node_views all_shares node_view shares_in share_of group_in
    elements value_if elements_under node_named app_named boot_entry permissions_in forbids platforms_of platforms_in platform_in_term platform_in_section
    platform_in_entry with_platforms with_first_name with_name agreement_stage mismatches is_involved first_involved agreed_shares mismatch_faults agree
    same_shares same_share same_group boot_list_faults boot_entry_faults cluster_view app_views app_view dep_named
keys_row = refl

-- an application needs applications and names of the platform, and not itself
applications_row : map fault_of (
    keys (codes "{applications, [kernel, q, stdlib]}") ∷ keys (codes "{applications, q}") ∷ keys (codes "{applications, [1]}") ∷
    keys (codes "{applications, [p]}") ∷ keys (codes "{applications, ['']}") ∷ keys (codes "{applications, [sasl]}") ∷
    keys (codes "{applications, [a]}") ∷ keys (codes "{applications, [q, q]}") ∷ [])
    ≡ None ∷ [] ++ replicate 3 (Some BadValue) ++ (Some BadName) ∷ [] ++ replicate 2 (Some UnknownName) ++ (Some DuplicateInList) ∷ []
unfolding is_utf8 chars encode terms_of dotted dot_at inside terms_up_to some_terms next_at term_by word_at name_at past quoted quoted_atom_at text_at
    integer_at digits_at cluster_of cluster_of_terms profile_of behind_profile as_profile faults_in headers_stage header_faults new_name_faults node_names app_names as_headed as_triple as_tuple as_atom is_name
    faults_behind_headers names_of parts_stage parts_faults section_faults entry_faults has_key list_faults as_list as_entry as_pair kernel_faults share_faults
    app_name_faults app_in node_name_faults name_faults word_faults as_share desc_faults members permission_faults as_truth as_sync_wait as_time as_int
    rehearse_faults boot_faults as_restart platform_faults key_faults dep_faults is_start are_phases node_views all_shares node_view shares_in share_of group_in
    elements value_if elements_under node_named app_named boot_entry permissions_in forbids platforms_of platforms_in platform_in_term platform_in_section
    platform_in_entry with_platforms with_first_name with_name agreement_stage mismatches is_involved first_involved agreed_shares mismatch_faults agree
    same_shares same_share same_group boot_list_faults boot_entry_faults cluster_view app_views app_view dep_named
applications_row = refl

-- `{Module, StartArg}` or `[]`, of which the module need not follow the rule of names; and `undefined` or a list of `{Atom, Value}`
mod_row : map fault_of (
    keys (codes "{mod, {'', [x]}}") ∷ keys (codes "{mod, []}, {start_phases, undefined}") ∷ keys (codes "{start_phases, [{go, []}, {go, 1}]}") ∷
    keys (codes "{mod, x}") ∷ keys (codes "{mod, {m}}") ∷ keys (codes "{mod, {1, x}}") ∷ keys (codes "{mod, [x]}") ∷
    keys (codes "{start_phases, x}") ∷ keys (codes "{start_phases, [x]}") ∷ keys (codes "{start_phases, [{1, x}]}") ∷ [])
    ≡ replicate 3 None ++ replicate 7 (Some BadValue)
unfolding is_utf8 chars encode terms_of dotted dot_at inside terms_up_to some_terms next_at term_by word_at name_at past quoted quoted_atom_at text_at
    integer_at digits_at cluster_of cluster_of_terms profile_of behind_profile as_profile faults_in headers_stage header_faults new_name_faults node_names app_names as_headed as_triple as_tuple as_atom is_name
    faults_behind_headers names_of parts_stage parts_faults section_faults entry_faults has_key list_faults as_list as_entry as_pair kernel_faults share_faults
    app_name_faults app_in node_name_faults name_faults word_faults as_share desc_faults members permission_faults as_truth as_sync_wait as_time as_int
    rehearse_faults boot_faults as_restart platform_faults key_faults dep_faults is_start are_phases node_views all_shares node_view shares_in share_of group_in
    elements value_if elements_under node_named app_named boot_entry permissions_in forbids platforms_of platforms_in platform_in_term platform_in_section
    platform_in_entry with_platforms with_first_name with_name agreement_stage mismatches is_involved first_involved agreed_shares mismatch_faults agree
    same_shares same_share same_group boot_list_faults boot_entry_faults cluster_view app_views app_view dep_named
mod_row = refl

-- ---- names of the platform

-- each list of them that holds atoms alone is known, wherever it stands; one that does not is not
known_platforms_row : map fault_of (
    codes "{application, p, [{applications, [r]}]}. {node, a, []}. {node, b, [{rehearse, [{platform, [r]}]}]}." ∷
    codes "{application, p, [{applications, [r]}]}. {node, a, [{rehearse, []}, {rehearse, [{platform, [r]}]}]}." ∷
    codes "{application, p, [{applications, [r]}]}. {node, a, [{rehearse, [{platform, [r, 1]}]}]}." ∷ [])
    ≡ None ∷ [] ++ (Some DuplicateParameter) ∷ [] ++ (Some UnknownName) ∷ []
unfolding is_utf8 chars encode terms_of dotted dot_at inside terms_up_to some_terms next_at term_by word_at name_at past quoted quoted_atom_at text_at
    integer_at digits_at cluster_of cluster_of_terms profile_of behind_profile as_profile faults_in headers_stage header_faults new_name_faults node_names app_names as_headed as_triple as_tuple as_atom is_name
    faults_behind_headers names_of parts_stage parts_faults section_faults entry_faults has_key list_faults as_list as_entry as_pair kernel_faults share_faults
    app_name_faults app_in node_name_faults name_faults word_faults as_share desc_faults members permission_faults as_truth as_sync_wait as_time as_int
    rehearse_faults boot_faults as_restart platform_faults key_faults dep_faults is_start are_phases node_views all_shares node_view shares_in share_of group_in
    elements value_if elements_under node_named app_named boot_entry permissions_in forbids platforms_of platforms_in platform_in_term platform_in_section
    platform_in_entry with_platforms with_first_name with_name agreement_stage mismatches is_involved first_involved agreed_shares mismatch_faults agree
    same_shares same_share same_group boot_list_faults boot_entry_faults cluster_view app_views app_view dep_named
known_platforms_row = refl
