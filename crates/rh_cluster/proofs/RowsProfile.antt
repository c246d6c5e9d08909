-- Worked rows: the profile of a cluster file, and what depends on it.
use Rattle.std.proofs.Common.{◌≡◌, ◌+◌, [], ◌∷◌, Some, None, codes, refl, ℕ, List, ◌++◌, Option, map, replicate, pos}
use Rattle.std.specs.Str.{is_utf8, chars}
use lib.Utf8.{encode}
use Rattle.rh_terms.specs.Bytes.{past}
use Rattle.rh_terms.specs.Tokens.{digits_at, integer_at, name_at, quoted, quoted_atom_at}
use Rattle.rh_terms.specs.Grammar.{terms_of, dotted, dot_at, inside, terms_up_to, some_terms, next_at, term_by, word_at}
use Rattle.rh_cluster.specs.NameRule.{is_name}
use Rattle.rh_cluster.specs.Shapes.{as_atom, as_list, as_tuple, as_int, as_pair, as_triple, as_entry, as_headed, as_profile, as_time}
use Rattle.rh_cluster.specs.Faults.{list_faults}
use Rattle.rh_cluster.specs.Sections.{has_key, entry_faults, word_faults, name_faults, node_name_faults, app_in}
use Rattle.rh_cluster.specs.Sections.{app_name_faults, members, desc_faults, as_share, share_faults, as_sync_wait}
use Rattle.rh_cluster.specs.Sections.{kernel_faults, as_restart, boot_faults, rehearse_faults, section_faults, dep_faults}
use Rattle.rh_cluster.specs.Sections.{key_faults, parts_faults, parts_stage}
use Rattle.rh_cluster.specs.Headers.{node_names, app_names, new_name_faults, header_faults, headers_stage}
use Rattle.rh_cluster.specs.Values.{elements, value_if, elements_under, platform_in_entry, platform_in_section}
use Rattle.rh_cluster.specs.Values.{platform_in_term, with_name, with_first_name, with_platforms, platforms_in}
use Rattle.rh_cluster.specs.Values.{node_named, app_named, boot_entry, forbids, permissions_in, platforms_of, node_view}
use Rattle.rh_cluster.specs.Values.{dep_named, group_in, share_of, shares_in, app_view}
use Rattle.rh_cluster.specs.Agreement.{same_group, same_share, same_shares, is_involved, first_involved, agreed_shares}
use Rattle.rh_cluster.specs.Agreement.{agree, mismatch_faults, mismatches, boot_entry_faults, boot_list_faults}
use Rattle.rh_cluster.specs.Agreement.{agreement_stage}
use Rattle.rh_cluster.specs.ClusterOf.{names_of, node_views, all_shares, app_views, faults_behind_headers, faults_in, cluster_view, cluster_of_terms, cluster_of}
use Rattle.rh_cluster.specs.Profile.{profile_of, behind_profile}
use Rattle.rh_terms.specs.Tokens.{text_at}
use Rattle.rh_cluster.specs.Sections.{permission_faults, as_truth, platform_faults, is_start, are_phases}
use Rattle.std.specs.Result.{result_ok, result_err}
use Rattle.std.specs.Option.{option_map}
use Rattle.rh_model.specs.ClusterView.{ClusterView}
use Rattle.rh_model.specs.Limits.{node_limit, app_limit}
use Rattle.rh_cluster.specs.declared.fault.ClusterFault.{ClusterFault}
use Rattle.rh_cluster.specs.declared.fault.ClusterFault.TheVariants.{NoNodes, TooMany, DuplicateName, UnknownName, BadValue, BadName}
use Rattle.rh_terms.specs.declared.fault.TermFault.TheVariants.{Syntax}
use Rattle.rh_cluster.specs.declared.fault.ClusterFault.TheVariants.{Term}
use Rattle.rh_base.specs.Tree.{Tree, atom, int, list, tuple, none, more}
use Rattle.std.specs.List.{range_with_len}

-- the fault of a text, if it has one
abbrev fault_of : List ℕ → Option ClusterFault
fault_of text = result_err (cluster_of text)

-- the profile of a text's cluster
abbrev profile_in : List ℕ → Option ℕ
profile_in text = option_map (λ (c : ClusterView). c.profile) (result_ok (cluster_of text))

-- the first profile, unless the first term names the second
profiles_row : map profile_in (
    codes "{node, a, []}." ∷ codes "{profile, 1}. {node, a, []}." ∷ codes "{profile, 2}. {node, a, []}." ∷
    codes "{ 'profile',2 } .\n{application, p, []}. {node, a, []}." ∷ [])
    ≡ Some 1 ∷ Some 1 ∷ Some 2 ∷ Some 2 ∷ []
unfolding is_utf8 chars encode terms_of dotted dot_at inside terms_up_to some_terms next_at term_by word_at name_at past quoted quoted_atom_at text_at
    integer_at digits_at cluster_of cluster_of_terms profile_of behind_profile as_profile faults_in headers_stage header_faults new_name_faults node_names app_names as_headed as_triple as_tuple as_atom is_name
    faults_behind_headers names_of parts_stage parts_faults section_faults entry_faults has_key list_faults as_list as_entry as_pair kernel_faults share_faults
    app_name_faults app_in node_name_faults name_faults word_faults as_share desc_faults members permission_faults as_truth as_sync_wait as_time as_int
    rehearse_faults boot_faults as_restart platform_faults key_faults dep_faults is_start are_phases node_views all_shares node_view shares_in share_of group_in
    elements value_if elements_under node_named app_named boot_entry permissions_in forbids platforms_of platforms_in platform_in_term platform_in_section
    platform_in_entry with_platforms with_first_name with_name agreement_stage mismatches is_involved first_involved agreed_shares mismatch_faults agree
    same_shares same_share same_group boot_list_faults boot_entry_faults cluster_view app_views app_view dep_named
profiles_row = refl

-- a term of another profile, or of another shape, is of no kind; so is one that stands behind another term
bad_profile_row : map fault_of (
    codes "{profile, 3}. {node, a, []}." ∷ codes "{profile, 0}. {node, a, []}." ∷ codes "{profile, -1}. {node, a, []}." ∷
    codes "{profile, 258}. {node, a, []}." ∷ codes "{profile, two}. {node, a, []}." ∷ codes "{profile, \"2\"}. {node, a, []}." ∷
    codes "{profile}. {node, a, []}." ∷ codes "{profile, 2, []}. {node, a, []}." ∷ codes "{\"profile\", 2}. {node, a, []}." ∷
    codes "[profile, 2]. {node, a, []}." ∷ codes "{profiles, 2}. {node, a, []}." ∷ codes "profile. {node, a, []}." ∷
    codes "{node, a, []}. {profile, 2}." ∷ codes "{node, a, []}. {profile, 1}. {node, b, []}." ∷
    codes "{profile, 2}. {profile, 2}. {node, a, []}." ∷ codes "{profile, 1}. {node, a, []}. {profile, 1}." ∷ [])
    ≡ replicate 16 (Some BadValue)
unfolding is_utf8 chars encode terms_of dotted dot_at inside terms_up_to some_terms next_at term_by word_at name_at past quoted quoted_atom_at text_at
    integer_at digits_at cluster_of cluster_of_terms profile_of behind_profile as_profile faults_in headers_stage header_faults new_name_faults node_names app_names as_headed as_triple as_tuple as_atom is_name
    faults_behind_headers names_of parts_stage parts_faults section_faults entry_faults has_key list_faults as_list as_entry as_pair kernel_faults share_faults
    app_name_faults app_in node_name_faults name_faults word_faults as_share desc_faults members permission_faults as_truth as_sync_wait as_time as_int
    rehearse_faults boot_faults as_restart platform_faults key_faults dep_faults is_start are_phases node_views all_shares node_view shares_in share_of group_in
    elements value_if elements_under node_named app_named boot_entry permissions_in forbids platforms_of platforms_in platform_in_term platform_in_section
    platform_in_entry with_platforms with_first_name with_name agreement_stage mismatches is_involved first_involved agreed_shares mismatch_faults agree
    same_shares same_share same_group boot_list_faults boot_entry_faults cluster_view app_views app_view dep_named
bad_profile_row = refl

-- behind the profile there must be a node; and the other stages come behind it, as without it
behind_profile_row : map fault_of (
    codes "{profile, 2}." ∷ codes "{profile, 1}." ∷ codes "{profile, 2}. {application, p, []}." ∷ codes "{profile, 2}. {node, a, []}. {node, a, []}." ∷
    codes "{profile, 2}. {node, '', []}." ∷ codes "{profile, 2}. {node, a, []}. {application, p, [{applications, [q]}]}." ∷ codes "{profile, 2}. {node, a, [}." ∷
    codes "{profile, 3}. {node, a, [}." ∷ [])
    ≡ replicate 3 (Some NoNodes) ++ (Some DuplicateName) ∷ (Some BadName) ∷ (Some UnknownName) ∷ (Some (Term (Syntax 1))) ∷ (Some (Term (Syntax 1))) ∷ []
unfolding is_utf8 chars encode terms_of dotted dot_at inside terms_up_to some_terms next_at term_by word_at name_at past quoted quoted_atom_at text_at
    integer_at digits_at cluster_of cluster_of_terms profile_of behind_profile as_profile faults_in headers_stage header_faults new_name_faults node_names app_names as_headed as_triple as_tuple as_atom is_name
    faults_behind_headers names_of parts_stage parts_faults section_faults entry_faults has_key list_faults as_list as_entry as_pair kernel_faults share_faults
    app_name_faults app_in node_name_faults name_faults word_faults as_share desc_faults members permission_faults as_truth as_sync_wait as_time as_int
    rehearse_faults boot_faults as_restart platform_faults key_faults dep_faults is_start are_phases node_views all_shares node_view shares_in share_of group_in
    elements value_if elements_under node_named app_named boot_entry permissions_in forbids platforms_of platforms_in platform_in_term platform_in_section
    platform_in_entry with_platforms with_first_name with_name agreement_stage mismatches is_involved first_involved agreed_shares mismatch_faults agree
    same_shares same_share same_group boot_list_faults boot_entry_faults cluster_view app_views app_view dep_named
behind_profile_row = refl

-- ---- limits

-- a node or an application for each name of one letter
abbrev named : List ℕ → List ℕ → List Tree
named word letters = map (λ letter. tuple (more (atom word) (more (atom (letter ∷ [])) (more (list none) none)))) letters

-- the term of a profile, before so many nodes and so many applications
abbrev file_of : ℕ → ℕ → ℕ → List Tree
file_of profile nodes apps =
    tuple (more (atom (codes "profile")) (more (int (pos profile)) none)) ∷ named (codes "node") (range_with_len 128 nodes)
    ++ named (codes "application") (range_with_len 128 apps)

-- the faults of the second stage in such a file
abbrev header_faults_in : List Tree → List ClusterFault
header_faults_in ts = headers_stage (profile_of ts) (behind_profile ts)

most_of_second_row : (header_faults_in (file_of 2 (node_limit 2) (app_limit 2)) ≡ []) × (header_faults_in (file_of 2 (node_limit 2 + 1) 0) ≡ TooMany ∷ [])
    × (header_faults_in (file_of 2 1 (app_limit 2 + 1)) ≡ TooMany ∷ [])
unfolding profile_of behind_profile as_profile as_entry as_pair as_int headers_stage header_faults new_name_faults node_names app_names as_headed as_triple
    as_tuple as_atom is_name
most_of_second_row = (refl, refl, refl)

most_of_first_row : (header_faults_in (file_of 1 (node_limit 1) (app_limit 1)) ≡ []) × (header_faults_in (file_of 1 (node_limit 1 + 1) 0) ≡ TooMany ∷ [])
    × (header_faults_in (file_of 1 1 (app_limit 1 + 1)) ≡ TooMany ∷ [])
unfolding profile_of behind_profile as_profile as_entry as_pair as_int headers_stage header_faults new_name_faults node_names app_names as_headed as_triple
    as_tuple as_atom is_name
most_of_first_row = (refl, refl, refl)

-- so many are accepted, and one more isn't
accepted_row : (result_err (cluster_of_terms (file_of 2 (node_limit 2) (app_limit 2))) ≡ None) × (result_err (cluster_of_terms (file_of 2 (node_limit 2 + 1) (app_limit 2))) ≡ Some TooMany)
    × (result_err (cluster_of_terms (file_of 1 (node_limit 1 + 1) 0)) ≡ Some TooMany)
unfolding is_utf8 chars encode terms_of dotted dot_at inside terms_up_to some_terms next_at term_by word_at name_at past quoted quoted_atom_at text_at
    integer_at digits_at cluster_of cluster_of_terms profile_of behind_profile as_profile faults_in headers_stage header_faults new_name_faults node_names app_names as_headed as_triple as_tuple as_atom is_name
    faults_behind_headers names_of parts_stage parts_faults section_faults entry_faults has_key list_faults as_list as_entry as_pair kernel_faults share_faults
    app_name_faults app_in node_name_faults name_faults word_faults as_share desc_faults members permission_faults as_truth as_sync_wait as_time as_int
    rehearse_faults boot_faults as_restart platform_faults key_faults dep_faults is_start are_phases node_views all_shares node_view shares_in share_of group_in
    elements value_if elements_under node_named app_named boot_entry permissions_in forbids platforms_of platforms_in platform_in_term platform_in_section
    platform_in_entry with_platforms with_first_name with_name agreement_stage mismatches is_involved first_involved agreed_shares mismatch_faults agree
    same_shares same_share same_group boot_list_faults boot_entry_faults cluster_view app_views app_view dep_named
accepted_row = (refl, refl, refl)
