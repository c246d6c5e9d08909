-- Worked rows: what the definition computes for small texts.
use Rattle.std.proofs.Common.{◌≡◌, [], ◌∷◌, true, false, Some, None, Ok, Err, codes, refl}
use Rattle.std.specs.Option.{option_map}
use Rattle.std.specs.Result.{result_ok}
use Rattle.std.specs.Str.{is_utf8, chars}
use lib.Utf8.{encode}
use Rattle.rh_terms.specs.declared.fault.TermFault.TheVariants as terms
use Rattle.rh_terms.specs.declared.nest.TheConstants.{MAX_DEPTH}
use Rattle.rh_terms.specs.Bytes.{past}
use Rattle.rh_terms.specs.Tokens.{digits_at, integer_at, name_at, quoted, quoted_atom_at}
use Rattle.rh_terms.specs.Grammar.{terms_of, dotted, dot_at, inside, terms_up_to, some_terms, next_at, term_by, word_at}
use Rattle.rh_model.specs.declared.settings.Dep.TheVariants.{Listed, Platform}
use Rattle.rh_model.specs.declared.settings.Restart.TheVariants.{Temporary}
use Rattle.rh_model.specs.ClusterView.{ClusterView, AppView, app_numbered, deps_of}
use Rattle.rh_model.proofs.PlainNode.{plain_node}
use Rattle.rh_model.specs.Limits.{node_limit, app_limit, timeout_limit}
use Rattle.rh_model.specs.declared.limits.TheConstants.{MAX_PLATFORMS}
use Rattle.rh_cluster.specs.declared.fault.ClusterFault.TheVariants as fault
use Rattle.rh_cluster.specs.NameRule.{is_name}
use Rattle.rh_cluster.specs.declared.name_rule.TheConstants.{LONGEST_NAME}
use Rattle.rh_cluster.specs.Shapes.{as_atom, as_list, as_tuple, as_int, as_pair, as_triple, as_entry, as_headed, as_profile, as_time}
use Rattle.rh_cluster.specs.Faults.{list_faults}
use Rattle.rh_cluster.specs.Sections.{has_key, entry_faults, word_faults, name_faults, node_name_faults, app_in}
use Rattle.rh_cluster.specs.Sections.{app_name_faults, members, desc_faults, as_share, share_faults, as_sync_wait}
use Rattle.rh_cluster.specs.Sections.{kernel_faults, as_restart, boot_faults, rehearse_faults, section_faults, dep_faults}
use Rattle.rh_cluster.specs.Sections.{key_faults, parts_faults, parts_stage}
use Rattle.rh_cluster.specs.Headers.{node_names, app_names, new_name_faults, header_faults, headers_stage}
use Rattle.rh_cluster.specs.Values.{elements, value_if, elements_under, platform_in_entry, platform_in_section}
use Rattle.rh_cluster.specs.Values.{platform_in_term, with_name, with_first_name, with_platforms, platforms_in}
use Rattle.rh_cluster.specs.Values.{node_named, app_named, boot_entry, forbids, permissions_in, platforms_of, node_view}
use Rattle.rh_cluster.specs.Values.{dep_named, group_in, share_of, shares_in, app_view}
use Rattle.rh_cluster.specs.Agreement.{same_group, same_share, same_shares, is_involved, first_involved, agreed_shares}
use Rattle.rh_cluster.specs.Agreement.{agree, mismatch_faults, mismatches, boot_entry_faults, boot_list_faults}
use Rattle.rh_cluster.specs.Agreement.{agreement_stage}
use Rattle.rh_cluster.specs.ClusterOf.{names_of, node_views, all_shares, app_views, faults_behind_headers, faults_in, cluster_view, cluster_of_terms, cluster_of}
use Rattle.rh_cluster.specs.Profile.{profile_of, behind_profile}

-- an application whose keys are empty
abbrev bare : AppView
bare = record { deps = []; start_arg = None; phases = false; spread = None }

-- the limits of a file: nestings, nodes and applications of either profile, names of the platform, bytes of a name, milliseconds of a timeout
limits_row : (MAX_DEPTH ≡ 64) × (node_limit 1 ≡ 32) × (app_limit 1 ≡ 64) × (node_limit 2 ≡ 64) × (app_limit 2 ≡ 128)
    × (MAX_PLATFORMS ≡ 256) × (LONGEST_NAME ≡ 255) × (timeout_limit ≡ 1000000000000)
limits_row = (refl, refl, refl, refl, refl, refl, refl, refl)

no_node_row : cluster_of [] ≡ Err fault.NoNodes
unfolding is_utf8 chars encode terms_of dotted past cluster_of cluster_of_terms profile_of behind_profile as_profile as_pair as_entry as_tuple faults_in headers_stage node_names
no_node_row = refl

cut_row : cluster_of (codes "a") ≡ Err (fault.Term (terms.Syntax 1))
unfolding is_utf8 chars encode terms_of dotted dot_at inside terms_up_to some_terms next_at term_by word_at name_at past cluster_of
cut_row = refl

float_row : cluster_of (codes "1.5.") ≡ Err (fault.Term (terms.Unsupported 1))
unfolding is_utf8 chars encode terms_of dotted dot_at inside terms_up_to some_terms next_at term_by word_at name_at past integer_at digits_at cluster_of
float_row = refl

bytes_row : cluster_of (255 ∷ []) ≡ Err (fault.Term terms.NotUtf8)
unfolding is_utf8 chars encode terms_of cluster_of
bytes_row = refl

same_name_row : cluster_of (codes "{node, a, []}. {node, a, []}.") ≡ Err fault.DuplicateName
unfolding is_utf8 chars encode terms_of dotted dot_at inside terms_up_to some_terms next_at term_by word_at name_at past
    cluster_of cluster_of_terms profile_of behind_profile as_profile as_pair as_entry faults_in headers_stage header_faults new_name_faults node_names app_names as_headed as_triple as_tuple
    as_atom is_name
same_name_row = refl

space_row : cluster_of (codes "{node, 'a b', []}.") ≡ Err fault.BadName
unfolding is_utf8 chars encode terms_of dotted dot_at inside terms_up_to some_terms next_at term_by word_at name_at past
    quoted_atom_at quoted cluster_of cluster_of_terms profile_of behind_profile as_profile as_pair as_entry faults_in headers_stage header_faults new_name_faults node_names app_names as_headed
    as_triple as_tuple as_atom is_name
space_row = refl

unknown_name_row : cluster_of (codes "{node, a, [{kernel, [{sync_nodes_optional, [b]}]}]}.") ≡ Err fault.UnknownName
unfolding is_utf8 chars encode terms_of dotted dot_at inside terms_up_to some_terms next_at term_by word_at name_at past
    cluster_of cluster_of_terms profile_of behind_profile as_profile faults_in headers_stage header_faults new_name_faults node_names app_names as_headed as_triple as_tuple
    as_atom is_name faults_behind_headers names_of parts_stage parts_faults section_faults entry_faults has_key
    list_faults as_list as_entry as_pair kernel_faults node_name_faults name_faults word_faults
unknown_name_row = refl

twice_in_list_row : cluster_of (codes "{node, a, [{kernel, [{sync_nodes_optional, [a, a]}]}]}.") ≡ Err fault.DuplicateInList
unfolding is_utf8 chars encode terms_of dotted dot_at inside terms_up_to some_terms next_at term_by word_at name_at past
    cluster_of cluster_of_terms profile_of behind_profile as_profile faults_in headers_stage header_faults new_name_faults node_names app_names as_headed as_triple as_tuple
    as_atom is_name faults_behind_headers names_of parts_stage parts_faults section_faults entry_faults has_key
    list_faults as_list as_entry as_pair kernel_faults node_name_faults name_faults word_faults
twice_in_list_row = refl

twice_a_parameter_row : cluster_of (codes "{node, a, [{kernel, [{permissions, []}, {permissions, []}]}]}.") ≡ Err fault.DuplicateParameter
unfolding is_utf8 chars encode terms_of dotted dot_at inside terms_up_to some_terms next_at term_by word_at name_at past
    cluster_of cluster_of_terms profile_of behind_profile as_profile faults_in headers_stage header_faults new_name_faults node_names app_names as_headed as_triple as_tuple
    as_atom is_name faults_behind_headers names_of parts_stage parts_faults section_faults entry_faults has_key
    list_faults as_list as_entry as_pair kernel_faults
twice_a_parameter_row = refl

negative_time_row : cluster_of (codes "{node, a, [{kernel, [{sync_nodes_timeout, -1}]}]}.") ≡ Err fault.BadValue
unfolding is_utf8 chars encode terms_of dotted dot_at inside terms_up_to some_terms next_at term_by word_at name_at past
    integer_at digits_at cluster_of cluster_of_terms profile_of behind_profile as_profile faults_in headers_stage header_faults new_name_faults node_names app_names as_headed
    as_triple as_tuple as_atom is_name faults_behind_headers names_of parts_stage parts_faults section_faults
    entry_faults has_key list_faults as_list as_entry as_pair kernel_faults as_sync_wait as_time as_int
negative_time_row = refl

unlisted_boot_row : cluster_of (codes
    "{node, a, [{kernel, [{distributed, [{p, [a]}]}]}]}. {node, b, [{rehearse, [{boot, [{p, temporary}]}]}]}. {application, p, []}.") ≡ Err fault.BootNotListed
unfolding is_utf8 chars encode terms_of dotted dot_at inside terms_up_to some_terms next_at term_by word_at name_at past
    cluster_of cluster_of_terms profile_of behind_profile as_profile faults_in headers_stage header_faults new_name_faults node_names app_names as_headed as_triple as_tuple
    as_atom is_name faults_behind_headers names_of parts_stage parts_faults section_faults entry_faults has_key
    list_faults as_list as_entry as_pair kernel_faults share_faults app_name_faults app_in node_name_faults name_faults
    word_faults as_share desc_faults members rehearse_faults boot_faults as_restart key_faults node_views all_shares
    node_view shares_in share_of group_in elements value_if elements_under node_named app_named boot_entry
    permissions_in forbids platforms_of platforms_in platform_in_term platform_in_section platform_in_entry
    with_platforms with_first_name with_name agreement_stage mismatches is_involved first_involved agreed_shares
    mismatch_faults agree same_shares same_share same_group boot_list_faults boot_entry_faults
unlisted_boot_row = refl

-- one node, three applications, of which it starts each
three_apps_row : cluster_of (codes
    "{node, one@lab, [{rehearse,\n  [{boot, [{a, temporary}, {b, temporary}, {c, temporary}]}]}]}.\n{application, a, []}. {application, b, []}. {application, c, []}.\n") ≡ Ok (record {
      profile = 1;
      node_names = codes "one@lab" ∷ [];
      app_names = codes "a" ∷ codes "b" ∷ codes "c" ∷ [];
      platform_names = codes "kernel" ∷ codes "stdlib" ∷ [];
      nodes = record plain_node {
        boot = (app_numbered 0, Temporary) ∷ (app_numbered 1, Temporary) ∷ (app_numbered 2, Temporary) ∷ [];
        permissions = true ∷ true ∷ true ∷ [];
        platforms = true ∷ true ∷ [];
      } ∷ [];
      apps = bare ∷ bare ∷ bare ∷ [];
    })
unfolding is_utf8 chars encode terms_of dotted dot_at inside terms_up_to some_terms next_at term_by word_at name_at past
    cluster_of cluster_of_terms profile_of behind_profile as_profile faults_in headers_stage header_faults new_name_faults node_names app_names as_headed as_triple as_tuple
    as_atom is_name faults_behind_headers names_of parts_stage parts_faults section_faults entry_faults has_key
    list_faults as_list as_entry as_pair kernel_faults share_faults app_name_faults app_in node_name_faults name_faults
    word_faults as_share desc_faults members rehearse_faults boot_faults as_restart key_faults node_views all_shares
    node_view shares_in share_of group_in elements value_if elements_under node_named app_named boot_entry
    permissions_in forbids platforms_of platforms_in platform_in_term platform_in_section platform_in_entry
    with_platforms with_first_name with_name agreement_stage mismatches is_involved first_involved agreed_shares
    mismatch_faults agree same_shares same_share same_group boot_list_faults boot_entry_faults cluster_view app_views
    app_view dep_named
three_apps_row = refl

-- an application that depends on the platform and on two others
deps_row : option_map (λ (c : ClusterView). deps_of c (app_numbered 0))
    (result_ok (cluster_of (codes "{node, v@lab, []}.\n{application, x, [{applications, [kernel, d1, d2]}]}.\n{application, d1, []}. {application, d2, []}.\n")))
    ≡ Some (Platform 0 ∷ Listed (app_numbered 1) ∷ Listed (app_numbered 2) ∷ [])
unfolding is_utf8 chars encode terms_of dotted dot_at inside terms_up_to some_terms next_at term_by word_at name_at past
    cluster_of cluster_of_terms profile_of behind_profile as_profile faults_in headers_stage header_faults new_name_faults node_names app_names as_headed as_triple as_tuple
    as_atom is_name faults_behind_headers names_of parts_stage parts_faults section_faults entry_faults has_key
    list_faults as_list as_entry as_pair kernel_faults share_faults app_name_faults app_in node_name_faults name_faults
    word_faults as_share desc_faults members rehearse_faults boot_faults as_restart key_faults node_views all_shares
    node_view shares_in share_of group_in elements value_if elements_under node_named app_named boot_entry
    permissions_in forbids platforms_of platforms_in platform_in_term platform_in_section platform_in_entry
    with_platforms with_first_name with_name agreement_stage mismatches is_involved first_involved agreed_shares
    mismatch_faults agree same_shares same_share same_group boot_list_faults boot_entry_faults cluster_view app_views
    app_view dep_named dep_faults
deps_row = refl
