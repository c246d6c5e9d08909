-- Worked rows: which fault of a cluster file comes before which, and what its nodes agree on.
use Rattle.std.proofs.Common.{◌≡◌, ◌+◌, [], ◌∷◌, true, false, Some, None, codes, refl, ℕ, List, ◌++◌, Option, map, replicate, length}
use Rattle.std.specs.Str.{is_utf8, chars}
use lib.Utf8.{encode}
use Rattle.rh_terms.specs.Bytes.{past}
use Rattle.rh_terms.specs.Tokens.{digits_at, integer_at, name_at, quoted, quoted_atom_at}
use Rattle.rh_terms.specs.Grammar.{terms_of, dotted, dot_at, inside, terms_up_to, some_terms, next_at, term_by, word_at}
use Rattle.rh_cluster.specs.NameRule.{is_name}
use Rattle.rh_cluster.specs.Shapes.{as_atom, as_list, as_tuple, as_int, as_pair, as_triple, as_entry, as_headed, as_profile, as_time}
use Rattle.rh_cluster.specs.Faults.{list_faults}
use Rattle.rh_cluster.specs.Sections.{has_key, entry_faults, word_faults, name_faults, node_name_faults, app_in}
use Rattle.rh_cluster.specs.Sections.{app_name_faults, members, desc_faults, as_share, share_faults, as_sync_wait}
use Rattle.rh_cluster.specs.Sections.{kernel_faults, as_restart, boot_faults, rehearse_faults, section_faults, dep_faults}
use Rattle.rh_cluster.specs.Sections.{key_faults, parts_faults, parts_stage}
use Rattle.rh_cluster.specs.Headers.{node_names, app_names, new_name_faults, header_faults, headers_stage}
use Rattle.rh_cluster.specs.Values.{elements, value_if, elements_under, platform_in_entry, platform_in_section}
use Rattle.rh_cluster.specs.Values.{platform_in_term, with_name, with_first_name, with_platforms, platforms_in}
use Rattle.rh_cluster.specs.Values.{node_named, app_named, boot_entry, forbids, permissions_in, platforms_of, node_view}
use Rattle.rh_cluster.specs.Values.{dep_named, group_in, share_of, shares_in, app_view}
use Rattle.rh_cluster.specs.Agreement.{same_group, same_share, same_shares, is_involved, first_involved, agreed_shares}
use Rattle.rh_cluster.specs.Agreement.{agree, mismatch_faults, mismatches, boot_entry_faults, boot_list_faults}
use Rattle.rh_cluster.specs.Agreement.{agreement_stage}
use Rattle.rh_cluster.specs.ClusterOf.{names_of, node_views, all_shares, app_views, faults_behind_headers, faults_in, cluster_view, cluster_of_terms, cluster_of}
use Rattle.rh_cluster.specs.Profile.{profile_of, behind_profile}
use Rattle.rh_terms.specs.Tokens.{text_at}
use Rattle.rh_cluster.specs.Sections.{permission_faults, as_truth, platform_faults, is_start, are_phases}
use Rattle.std.specs.Result.{result_err}
use Rattle.rh_cluster.specs.declared.fault.ClusterFault.{ClusterFault}
use Rattle.rh_cluster.specs.declared.fault.ClusterFault.TheVariants.{NoNodes, TooMany, DuplicateName, UnknownName, DuplicateInList, Mismatch, BootNotListed, BadValue, BadName}
use Rattle.rh_terms.specs.declared.fault.TermFault.TheVariants.{Syntax}
use Rattle.rh_cluster.specs.declared.fault.ClusterFault.TheVariants.{Term}
use Rattle.rh_base.specs.Tree.{Tree, atom, list, tuple, none, more}
use Rattle.rh_model.specs.Limits.{node_limit, app_limit}
use Rattle.std.specs.List.{range_with_len}

-- the fault of a text, if it has one
abbrev fault_of : List ℕ → Option ClusterFault
fault_of text = result_err (cluster_of text)

-- a node with these sections, and two applications
abbrev sections : List ℕ → List ℕ
sections text = codes "{node, a, [" ++ text ++ codes "]}. {application, p, []}. {application, q, []}."

-- three nodes, of which the first two have these sections, and two applications
abbrev nodes : List ℕ × List ℕ → List ℕ
nodes texts = codes "{node, a, [" ++ texts.0 ++ codes "]}. {node, b, [" ++ texts.1 ++ codes "]}. {node, c, []}. {application, p, []}. {application, q, []}."

-- ---- the order of the stages, and of terms

-- the terms are read before any of them is looked at; then their shapes and names, whether there is a node, their parts, and at last what the nodes agree on
stages_row : map fault_of (
    codes "x. {node, a, [}." ∷ codes "{node, a, [{kernel, x}]}. {node, a, []}." ∷
    codes "{node, a, [{kernel, []}, {kernel, []}]}. {application, '', []}." ∷ codes "{application, p, [{applications, [q]}]}." ∷
    codes "{node, a, [{kernel, [{distributed, [{p, [a, b]}]}]}]}. {node, b, []}. {application, p, [{applications, [q]}]}." ∷ [])
    ≡ (Some (Term (Syntax 1))) ∷ [] ++ (Some DuplicateName) ∷ [] ++ (Some BadName) ∷ [] ++ (Some NoNodes) ∷ [] ++ (Some UnknownName) ∷ []
unfolding is_utf8 chars encode terms_of dotted dot_at inside terms_up_to some_terms next_at term_by word_at name_at past quoted quoted_atom_at text_at
    integer_at digits_at cluster_of cluster_of_terms profile_of behind_profile as_profile faults_in headers_stage header_faults new_name_faults node_names app_names as_headed as_triple as_tuple as_atom is_name
    faults_behind_headers names_of parts_stage parts_faults section_faults entry_faults has_key list_faults as_list as_entry as_pair kernel_faults share_faults
    app_name_faults app_in node_name_faults name_faults word_faults as_share desc_faults members permission_faults as_truth as_sync_wait as_time as_int
    rehearse_faults boot_faults as_restart platform_faults key_faults dep_faults is_start are_phases node_views all_shares node_view shares_in share_of group_in
    elements value_if elements_under node_named app_named boot_entry permissions_in forbids platforms_of platforms_in platform_in_term platform_in_section
    platform_in_entry with_platforms with_first_name with_name agreement_stage mismatches is_involved first_involved agreed_shares mismatch_faults agree
    same_shares same_share same_group boot_list_faults boot_entry_faults cluster_view app_views app_view dep_named
stages_row = refl

-- of one stage, the first term that has a fault
terms_in_order_row : map fault_of (
    codes "x. {node, '', []}." ∷ codes "{node, a, [{sasl, x}]}. {application, p, [{applications, [q]}]}." ∷ codes "{node, '', []}. x." ∷
    codes "{application, p, [{applications, [q]}]}. {node, a, [{sasl, x}]}." ∷ [])
    ≡ replicate 2 (Some BadValue) ++ (Some BadName) ∷ [] ++ (Some UnknownName) ∷ []
unfolding is_utf8 chars encode terms_of dotted dot_at inside terms_up_to some_terms next_at term_by word_at name_at past quoted quoted_atom_at text_at
    integer_at digits_at cluster_of cluster_of_terms profile_of behind_profile as_profile faults_in headers_stage header_faults new_name_faults node_names app_names as_headed as_triple as_tuple as_atom is_name
    faults_behind_headers names_of parts_stage parts_faults section_faults entry_faults has_key list_faults as_list as_entry as_pair kernel_faults share_faults
    app_name_faults app_in node_name_faults name_faults word_faults as_share desc_faults members permission_faults as_truth as_sync_wait as_time as_int
    rehearse_faults boot_faults as_restart platform_faults key_faults dep_faults is_start are_phases node_views all_shares node_view shares_in share_of group_in
    elements value_if elements_under node_named app_named boot_entry permissions_in forbids platforms_of platforms_in platform_in_term platform_in_section
    platform_in_entry with_platforms with_first_name with_name agreement_stage mismatches is_involved first_involved agreed_shares mismatch_faults agree
    same_shares same_share same_group boot_list_faults boot_entry_faults cluster_view app_views app_view dep_named
terms_in_order_row = refl

-- ---- the order within a term

-- a name that breaks the rule and is unknown: the rule comes first
bad_before_unknown_row : map fault_of (
    sections (codes "{kernel, [{sync_nodes_optional, ['x y']}]}") ∷ sections (codes "{kernel, [{distributed, [{'x y', [a]}]}]}") ∷
    sections (codes "{kernel, [{distributed, [{p, ['x y']}]}]}") ∷ sections (codes "{kernel, [{permissions, [{'x y', true}]}]}") ∷
    sections (codes "{rehearse, [{boot, [{'x y', permanent}]}]}") ∷ [])
    ≡ replicate 5 (Some BadName)
unfolding is_utf8 chars encode terms_of dotted dot_at inside terms_up_to some_terms next_at term_by word_at name_at past quoted quoted_atom_at text_at
    integer_at digits_at cluster_of cluster_of_terms profile_of behind_profile as_profile faults_in headers_stage header_faults new_name_faults node_names app_names as_headed as_triple as_tuple as_atom is_name
    faults_behind_headers names_of parts_stage parts_faults section_faults entry_faults has_key list_faults as_list as_entry as_pair kernel_faults share_faults
    app_name_faults app_in node_name_faults name_faults word_faults as_share desc_faults members permission_faults as_truth as_sync_wait as_time as_int
    rehearse_faults boot_faults as_restart platform_faults key_faults dep_faults is_start are_phases node_views all_shares node_view shares_in share_of group_in
    elements value_if elements_under node_named app_named boot_entry permissions_in forbids platforms_of platforms_in platform_in_term platform_in_section
    platform_in_entry with_platforms with_first_name with_name agreement_stage mismatches is_involved first_involved agreed_shares mismatch_faults agree
    same_shares same_share same_group boot_list_faults boot_entry_faults cluster_view app_views app_view dep_named
bad_before_unknown_row = refl

-- the parts of a term from left to right; of an entry its shape, then its name, then what follows the name
left_to_right_row : map fault_of (
    sections (codes "{kernel, [{sync_nodes_optional, [b]}]}, {sasl, x}") ∷ sections (codes "{kernel, [{distributed, [{r, -1, x}]}]}") ∷
    sections (codes "{kernel, [{permissions, [{r, x}]}]}") ∷ sections (codes "{rehearse, [{boot, [{r, x}]}]}") ∷
    sections (codes "{sasl, x}, {kernel, [{sync_nodes_optional, [b]}]}") ∷ sections (codes "{kernel, [{distributed, [{p, -1, [b]}]}]}") ∷
    sections (codes "{kernel, [{distributed, [{r, -1, [b], x}]}]}") ∷ sections (codes "{kernel, [{permissions, [{r}]}]}") ∷
    sections (codes "{kernel, [{permissions, [{p, true}, {p, x}]}]}") ∷ [])
    ≡ replicate 4 (Some UnknownName) ++ replicate 4 (Some BadValue) ++ (Some DuplicateInList) ∷ []
unfolding is_utf8 chars encode terms_of dotted dot_at inside terms_up_to some_terms next_at term_by word_at name_at past quoted quoted_atom_at text_at
    integer_at digits_at cluster_of cluster_of_terms profile_of behind_profile as_profile faults_in headers_stage header_faults new_name_faults node_names app_names as_headed as_triple as_tuple as_atom is_name
    faults_behind_headers names_of parts_stage parts_faults section_faults entry_faults has_key list_faults as_list as_entry as_pair kernel_faults share_faults
    app_name_faults app_in node_name_faults name_faults word_faults as_share desc_faults members permission_faults as_truth as_sync_wait as_time as_int
    rehearse_faults boot_faults as_restart platform_faults key_faults dep_faults is_start are_phases node_views all_shares node_view shares_in share_of group_in
    elements value_if elements_under node_named app_named boot_entry permissions_in forbids platforms_of platforms_in platform_in_term platform_in_section
    platform_in_entry with_platforms with_first_name with_name agreement_stage mismatches is_involved first_involved agreed_shares mismatch_faults agree
    same_shares same_share same_group boot_list_faults boot_entry_faults cluster_view app_views app_view dep_named
left_to_right_row = refl

-- the same of what an application needs
bad_dependency_row : map fault_of (
    codes "{node, a, []}. {application, p, [{applications, ['x y']}]}." ∷ [])
    ≡ (Some BadName) ∷ []
unfolding is_utf8 chars encode terms_of dotted dot_at inside terms_up_to some_terms next_at term_by word_at name_at past quoted quoted_atom_at text_at
    integer_at digits_at cluster_of cluster_of_terms profile_of behind_profile as_profile faults_in headers_stage header_faults new_name_faults node_names app_names as_headed as_triple as_tuple as_atom is_name
    faults_behind_headers names_of parts_stage parts_faults section_faults entry_faults has_key list_faults as_list as_entry as_pair kernel_faults share_faults
    app_name_faults app_in node_name_faults name_faults word_faults as_share desc_faults members permission_faults as_truth as_sync_wait as_time as_int
    rehearse_faults boot_faults as_restart platform_faults key_faults dep_faults is_start are_phases node_views all_shares node_view shares_in share_of group_in
    elements value_if elements_under node_named app_named boot_entry permissions_in forbids platforms_of platforms_in platform_in_term platform_in_section
    platform_in_entry with_platforms with_first_name with_name agreement_stage mismatches is_involved first_involved agreed_shares mismatch_faults agree
    same_shares same_share same_group boot_list_faults boot_entry_faults cluster_view app_views app_view dep_named
bad_dependency_row = refl

-- of the name of a term: the rule, a name that is taken, one too many
new_name_row : (new_name_faults 1 false (codes "x y" ∷ []) (codes "x y") ≡ BadName ∷ DuplicateName ∷ TooMany ∷ [])
    × (new_name_faults 1 true [] (codes "kernel") ≡ DuplicateName ∷ []) × (new_name_faults 1 false [] (codes "x") ≡ [])
unfolding new_name_faults is_name
new_name_row = (refl, refl, refl)

-- ---- limits

-- a node or an application for each name of one letter
abbrev named : List ℕ → List ℕ → List Tree
named word letters = map (λ letter. tuple (more (atom word) (more (atom (letter ∷ [])) (more (list none) none)))) letters

most_terms_row : (headers_stage 1 (named (codes "node") (range_with_len 65 (node_limit 1))) ≡ []) × (headers_stage 1 (named (codes "node") (range_with_len 65 (node_limit 1 + 1))) ≡ TooMany ∷ [])
    × (headers_stage 1 (named (codes "node") (65 ∷ []) ++ named (codes "application") (range_with_len 128 (app_limit 1))) ≡ [])
    × (headers_stage 1 (named (codes "node") (65 ∷ []) ++ named (codes "application") (range_with_len 128 (app_limit 1 + 1))) ≡ TooMany ∷ [])
unfolding headers_stage header_faults new_name_faults node_names app_names as_headed as_triple as_tuple as_atom is_name
most_terms_row = (refl, refl, refl, refl)

-- as many names of the platform are told apart, and the one behind them isn't known as one of them
most_platforms_row : (length (with_first_name (replicate 255 []) (codes "x")) ≡ 256) × (length (with_first_name (replicate 256 []) (codes "x")) ≡ 256)
    × (platforms_in [] ≡ record { first = codes "kernel" ∷ codes "stdlib" ∷ []; known = codes "kernel" ∷ codes "stdlib" ∷ [] })
unfolding with_first_name with_name platforms_in
most_platforms_row = (refl, refl, refl)

-- ---- what the nodes agree on

-- involved nodes, here two, have the same applications in any order, with the same timeouts and the same groups, each in any order
agreement_row : map fault_of (
    nodes (codes "{kernel, [{distributed, [{p, 5, [{a, b}]}, {q, [a, b]}]}]}", codes "{kernel, [{distributed, [{q, 0, [a, b]}, {p, 5, [{b, a}]}]}]}") ∷
    nodes (codes "{kernel, [{distributed, [{p, [a, b]}]}]}", codes "") ∷
    nodes (codes "{kernel, [{distributed, [{p, [a, b]}]}]}", codes "{kernel, [{distributed, [{q, [a, b]}]}]}") ∷
    nodes (codes "{kernel, [{distributed, [{p, [a, b]}]}]}", codes "{kernel, [{distributed, [{p, [b, a]}]}]}") ∷
    nodes (codes "{kernel, [{distributed, [{p, [a, b]}]}]}", codes "{kernel, [{distributed, [{p, [{a, b}]}]}]}") ∷
    nodes (codes "{kernel, [{distributed, [{p, [a, b]}]}]}", codes "{kernel, [{distributed, [{p, 1, [a, b]}]}]}") ∷
    nodes (codes "{kernel, [{distributed, [{p, [a, b]}]}]}", codes "{kernel, [{distributed, [{p, [a, b]}, {q, [a, b]}]}]}") ∷
    nodes (codes "{kernel, [{distributed, [{p, [a, b]}]}]}", codes "{kernel, [{distributed, [{p, [b]}]}]}") ∷ [])
    ≡ None ∷ [] ++ replicate 7 (Some (Mismatch (codes "b")))
unfolding is_utf8 chars encode terms_of dotted dot_at inside terms_up_to some_terms next_at term_by word_at name_at past quoted quoted_atom_at text_at
    integer_at digits_at cluster_of cluster_of_terms profile_of behind_profile as_profile faults_in headers_stage header_faults new_name_faults node_names app_names as_headed as_triple as_tuple as_atom is_name
    faults_behind_headers names_of parts_stage parts_faults section_faults entry_faults has_key list_faults as_list as_entry as_pair kernel_faults share_faults
    app_name_faults app_in node_name_faults name_faults word_faults as_share desc_faults members permission_faults as_truth as_sync_wait as_time as_int
    rehearse_faults boot_faults as_restart platform_faults key_faults dep_faults is_start are_phases node_views all_shares node_view shares_in share_of group_in
    elements value_if elements_under node_named app_named boot_entry permissions_in forbids platforms_of platforms_in platform_in_term platform_in_section
    platform_in_entry with_platforms with_first_name with_name agreement_stage mismatches is_involved first_involved agreed_shares mismatch_faults agree
    same_shares same_share same_group boot_list_faults boot_entry_faults cluster_view app_views app_view dep_named
agreement_row = refl

-- and the same `sync_nodes_timeout`, where none is as `undefined`
equal_waits_row : map fault_of (
    nodes (codes "{kernel, [{distributed, [{p, [a, b]}]}, {sync_nodes_timeout, undefined}]}", codes "{kernel, [{distributed, [{p, [a, b]}]}]}") ∷
    nodes (codes "{kernel, [{distributed, [{p, [a, b]}]}, {sync_nodes_timeout, infinity}]}", codes "{kernel, [{distributed, [{p, [a, b]}]}, {sync_nodes_timeout, infinity}]}") ∷
    nodes (codes "{kernel, [{distributed, [{p, [a, b]}]}, {sync_nodes_timeout, 5}]}", codes "{kernel, [{distributed, [{p, [a, b]}]}, {sync_nodes_timeout, 5}]}") ∷
    nodes (codes "{kernel, [{distributed, [{p, [a, b]}]}, {sync_nodes_timeout, 5}]}", codes "{kernel, [{distributed, [{p, [a, b]}]}, {sync_nodes_timeout, 4}]}") ∷
    nodes (codes "{kernel, [{distributed, [{p, [a, b]}]}, {sync_nodes_timeout, 5}]}", codes "{kernel, [{distributed, [{p, [a, b]}]}, {sync_nodes_timeout, infinity}]}") ∷
    nodes (codes "{kernel, [{distributed, [{p, [a, b]}]}, {sync_nodes_timeout, infinity}]}", codes "{kernel, [{distributed, [{p, [a, b]}]}]}") ∷
    nodes (codes "{kernel, [{distributed, [{p, [a, b]}]}, {sync_nodes_timeout, 0}]}", codes "{kernel, [{distributed, [{p, [a, b]}]}, {sync_nodes_timeout, undefined}]}") ∷ [])
    ≡ replicate 3 None ++ replicate 4 (Some (Mismatch (codes "b")))
unfolding is_utf8 chars encode terms_of dotted dot_at inside terms_up_to some_terms next_at term_by word_at name_at past quoted quoted_atom_at text_at
    integer_at digits_at cluster_of cluster_of_terms profile_of behind_profile as_profile faults_in headers_stage header_faults new_name_faults node_names app_names as_headed as_triple as_tuple as_atom is_name
    faults_behind_headers names_of parts_stage parts_faults section_faults entry_faults has_key list_faults as_list as_entry as_pair kernel_faults share_faults
    app_name_faults app_in node_name_faults name_faults word_faults as_share desc_faults members permission_faults as_truth as_sync_wait as_time as_int
    rehearse_faults boot_faults as_restart platform_faults key_faults dep_faults is_start are_phases node_views all_shares node_view shares_in share_of group_in
    elements value_if elements_under node_named app_named boot_entry permissions_in forbids platforms_of platforms_in platform_in_term platform_in_section
    platform_in_entry with_platforms with_first_name with_name agreement_stage mismatches is_involved first_involved agreed_shares mismatch_faults agree
    same_shares same_share same_group boot_list_faults boot_entry_faults cluster_view app_views app_view dep_named
equal_waits_row = refl

-- a node that no list names and that has none may differ; the first involved node that differs from the first one is told, also where it is only named
involved_row : map fault_of (
    nodes (codes "{kernel, [{sync_nodes_timeout, 5}]}", codes "{kernel, [{distributed, [{p, [b]}]}]}") ∷
    nodes (codes "{kernel, [{distributed, [{p, [a]}]}]}", codes "{kernel, [{sync_nodes_timeout, 5}]}") ∷
    nodes (codes "{kernel, [{distributed, [{p, [a, b, c]}]}]}", codes "{kernel, [{distributed, [{p, [a, b, c]}]}]}") ∷
    nodes (codes "{kernel, [{sync_nodes_timeout, 5}]}", codes "{kernel, [{distributed, [{p, [b, c]}]}]}") ∷
    nodes (codes "{kernel, [{distributed, [{p, [a, c]}]}]}", codes "") ∷
    nodes (codes "{kernel, [{distributed, [{p, [a, b, c]}]}]}", codes "") ∷
    nodes (codes "{kernel, [{distributed, []}]}", codes "{kernel, [{distributed, [{p, [a]}]}]}") ∷ [])
    ≡ replicate 2 None ++ replicate 3 (Some (Mismatch (codes "c"))) ++ replicate 2 (Some (Mismatch (codes "b")))
unfolding is_utf8 chars encode terms_of dotted dot_at inside terms_up_to some_terms next_at term_by word_at name_at past quoted quoted_atom_at text_at
    integer_at digits_at cluster_of cluster_of_terms profile_of behind_profile as_profile faults_in headers_stage header_faults new_name_faults node_names app_names as_headed as_triple as_tuple as_atom is_name
    faults_behind_headers names_of parts_stage parts_faults section_faults entry_faults has_key list_faults as_list as_entry as_pair kernel_faults share_faults
    app_name_faults app_in node_name_faults name_faults word_faults as_share desc_faults members permission_faults as_truth as_sync_wait as_time as_int
    rehearse_faults boot_faults as_restart platform_faults key_faults dep_faults is_start are_phases node_views all_shares node_view shares_in share_of group_in
    elements value_if elements_under node_named app_named boot_entry permissions_in forbids platforms_of platforms_in platform_in_term platform_in_section
    platform_in_entry with_platforms with_first_name with_name agreement_stage mismatches is_involved first_involved agreed_shares mismatch_faults agree
    same_shares same_share same_group boot_list_faults boot_entry_faults cluster_view app_views app_view dep_named
involved_row = refl

-- a node boots what lists it, or is local; that the nodes agree comes first
boot_lists_row : map fault_of (
    nodes (codes "{kernel, [{distributed, [{p, [a]}]}]}, {rehearse, [{boot, [{p, permanent}]}]}", codes "") ∷
    nodes (codes "{kernel, [{distributed, [{p, [a]}]}]}", codes "{rehearse, [{boot, [{q, permanent}]}]}") ∷
    nodes (codes "{kernel, [{distributed, [{p, [a]}]}]}", codes "{rehearse, [{boot, [{p, permanent}]}]}") ∷
    nodes (codes "{kernel, [{distributed, [{p, [a, c]}]}]}", codes "{rehearse, [{boot, [{p, permanent}]}]}") ∷ [])
    ≡ replicate 2 None ++ (Some BootNotListed) ∷ [] ++ (Some (Mismatch (codes "c"))) ∷ []
unfolding is_utf8 chars encode terms_of dotted dot_at inside terms_up_to some_terms next_at term_by word_at name_at past quoted quoted_atom_at text_at
    integer_at digits_at cluster_of cluster_of_terms profile_of behind_profile as_profile faults_in headers_stage header_faults new_name_faults node_names app_names as_headed as_triple as_tuple as_atom is_name
    faults_behind_headers names_of parts_stage parts_faults section_faults entry_faults has_key list_faults as_list as_entry as_pair kernel_faults share_faults
    app_name_faults app_in node_name_faults name_faults word_faults as_share desc_faults members permission_faults as_truth as_sync_wait as_time as_int
    rehearse_faults boot_faults as_restart platform_faults key_faults dep_faults is_start are_phases node_views all_shares node_view shares_in share_of group_in
    elements value_if elements_under node_named app_named boot_entry permissions_in forbids platforms_of platforms_in platform_in_term platform_in_section
    platform_in_entry with_platforms with_first_name with_name agreement_stage mismatches is_involved first_involved agreed_shares mismatch_faults agree
    same_shares same_share same_group boot_list_faults boot_entry_faults cluster_view app_views app_view dep_named
boot_lists_row = refl
