-- Worked rows: whole inputs that meet what the laws of texts ask, computed from the definitions.
use Rattle.std.proofs.Common.{◌≡◌, ℕ, List, [], ◌∷◌, ◌++◌, None, Some, Ok, codes, true, refl}
use Rattle.std.specs.Str.{is_utf8, chars}
use lib.Utf8.{encode}
use Rattle.std.proofs.lemmas.List.Elements.{All-cons, All-nil}
use Rattle.rh_terms.specs.Bytes.{past}
use Rattle.rh_terms.specs.Tokens.{digits_at, integer_at, name_at, quoted, quoted_atom_at}
use Rattle.rh_terms.specs.Grammar.{terms_of, dotted, dot_at, inside, terms_up_to, some_terms, next_at, term_by, word_at}
use Rattle.rh_cluster.specs.NameRule.{is_name}
use Rattle.rh_cluster.specs.Shapes.{as_atom, as_list, as_tuple, as_int, as_pair, as_triple, as_entry, as_headed, as_profile, as_time}
use Rattle.rh_cluster.specs.Faults.{list_faults}
use Rattle.rh_cluster.specs.Sections.{has_key, entry_faults, word_faults, name_faults, node_name_faults, app_in}
use Rattle.rh_cluster.specs.Sections.{app_name_faults, members, desc_faults, as_share, share_faults, as_sync_wait}
use Rattle.rh_cluster.specs.Sections.{kernel_faults, as_restart, boot_faults, rehearse_faults, section_faults, dep_faults}
use Rattle.rh_cluster.specs.Sections.{key_faults, parts_faults, parts_stage}
use Rattle.rh_cluster.specs.Headers.{node_names, app_names, new_name_faults, header_faults, headers_stage}
use Rattle.rh_cluster.specs.Values.{elements, value_if, elements_under, platform_in_entry, platform_in_section}
use Rattle.rh_cluster.specs.Values.{platform_in_term, with_name, with_first_name, with_platforms, platforms_in}
use Rattle.rh_cluster.specs.Values.{node_named, app_named, boot_entry, forbids, permissions_in, platforms_of, node_view}
use Rattle.rh_cluster.specs.Values.{dep_named, group_in, share_of, shares_in, app_view}
use Rattle.rh_cluster.specs.Agreement.{same_group, same_share, same_shares, is_involved, first_involved, agreed_shares}
use Rattle.rh_cluster.specs.Agreement.{agree, mismatch_faults, mismatches, boot_entry_faults, boot_list_faults}
use Rattle.rh_cluster.specs.Agreement.{agreement_stage}
use Rattle.rh_cluster.specs.ClusterOf.{names_of, node_views, all_shares, app_views, faults_behind_headers, faults_in, cluster_view, cluster_of_terms, cluster_of}
use Rattle.rh_cluster.specs.Profile.{profile_of, behind_profile}
use Rattle.rh_terms.specs.Tokens.{text_at}
use Rattle.rh_cluster.specs.Sections.{permission_faults, as_truth, platform_faults, is_start, are_phases}
use Rattle.rh_model.specs.ClusterView.{ClusterView, numbered}
use Rattle.rh_model.proofs.PlainNode.{plain_node}
use Rattle.rh_rules.specs.declared.pick.Pick.TheVariants.{First}
use Rattle.rh_state.specs.Numbers.{nodes_of, apps_of}
use Rattle.rh_state.specs.First.{configured}
use Rattle.rh_rules.specs.Settling.{moved_by, all_moved}
use Rattle.rh_rules.specs.NodesStart.{all_alive, is_ready, come_up, come_up_if_ready, ready_come_up, booted}
use Rattle.rh_rules.specs.declared.notice.Notice.TheVariants.{Ended}
use Rattle.rh_rules.specs.declared.event.Event.TheVariants.{Boot, Crash}
use Rattle.rh_rules.specs.declared.refusal.Refusal.TheVariants.{NotAlive}
use Rattle.rh_rules.specs.Marking.{mark_all}
use Rattle.rh_rules.specs.Refusals.{refused}
use Rattle.rh_rules.specs.Steps.{followed, next}
use Rattle.rh_step.specs.Runs.{step}
use Rattle.rh_script.specs.Lines.{content, script_lines}
use Rattle.rh_script.specs.Forms.{verb_named}
use Rattle.rh_script.specs.Commands.{line_of}
use Rattle.rh_script.specs.SweepLines.{PlanText, plan_events, sweep_line_of, sweep_lines_asked, plans_of}
use Rattle.rh_run.specs.RunText.{run_end}
use Rattle.rh_run.specs.SweepText.{sweep_end}
use Rattle.rh_trail.specs.Lone.{opened}
use Rattle.rh_outcomes.specs.Outcomes.{steps}
use Rattle.rh_text_laws.specs.Plans.{AnswersView, events_answered}
use Rattle.rh_text_laws.specs.Profiles.{NoneGivesBack}
use Rattle.rh_text_laws.specs.ProfileTexts.{calls_in, NoPlanGivesBack}
use Rattle.rh_text_laws.specs.PlanLines.{is_of_base, is_of_plan, IsCopied}
use Rattle.rh_text_laws.specs.PlanTexts.{base_calls, base_of, AsksForPlan}

-- a file of one node; behind it stand the base and a plan of a sweep, or the commands of a run
abbrev file : List ℕ
file = codes "{node, a, []}.\n"

abbrev swept : List ℕ
swept = file ++ codes "===\nboot a\nplan p\ncrash a\ncrash a\nboot a\n"

abbrev run : List ℕ
run = file ++ codes "===\nboot a\ncrash a\ncrash a\nshow\n"

-- the node ends, and then it can't end again; the boot behind that isn't made
abbrev plan : PlanText
plan = record { name = codes "p"; events = Crash (numbered 0) ∷ Crash (numbered 0) ∷ Boot (numbered 0) ∷ [] }

abbrev answers : AnswersView
answers = record { told = (Ended (numbered 0) ∷ []) ∷ []; why = Some NotAlive }

abbrev one : ClusterView
one = record {
  profile = 1;
  node_names = codes "a" ∷ [];
  app_names = [];
  platform_names = codes "kernel" ∷ codes "stdlib" ∷ [];
  nodes = record plain_node { platforms = true ∷ true ∷ [] } ∷ [];
  apps = [];
}

file_row : cluster_of file ≡ Ok one
unfolding is_utf8 chars encode terms_of dotted dot_at inside terms_up_to some_terms next_at term_by word_at name_at past quoted quoted_atom_at text_at
    integer_at digits_at cluster_of cluster_of_terms profile_of behind_profile as_profile faults_in headers_stage header_faults new_name_faults
    node_names app_names as_headed as_triple as_tuple as_atom is_name faults_behind_headers names_of parts_stage parts_faults section_faults
    entry_faults has_key list_faults as_list as_entry as_pair kernel_faults share_faults app_name_faults app_in node_name_faults name_faults
    word_faults as_share desc_faults members permission_faults as_truth as_sync_wait as_time as_int rehearse_faults boot_faults as_restart
    platform_faults key_faults dep_faults is_start are_phases node_views all_shares node_view shares_in share_of group_in elements value_if
    elements_under node_named app_named boot_entry permissions_in forbids platforms_of platforms_in platform_in_term platform_in_section
    platform_in_entry with_platforms with_first_name with_name agreement_stage mismatches is_involved first_involved agreed_shares
    mismatch_faults agree same_shares same_share same_group boot_list_faults boot_entry_faults cluster_view app_views app_view dep_named
file_row = refl

plan_row : plans_of (sweep_lines_asked one (script_lines swept)) ≡ plan ∷ []
unfolding content sweep_line_of verb_named is_utf8 chars encode
plan_row = refl

swept_row : sweep_end swept First ≡ None
unfolding sweep_end content sweep_line_of verb_named nodes_of apps_of configured moved_by all_moved all_alive is_ready mark_all come_up come_up_if_ready ready_come_up
    booted followed refused next step is_utf8 chars encode terms_of dotted dot_at inside terms_up_to some_terms next_at term_by word_at name_at past quoted quoted_atom_at text_at
    integer_at digits_at cluster_of cluster_of_terms profile_of behind_profile as_profile faults_in headers_stage header_faults new_name_faults
    node_names app_names as_headed as_triple as_tuple as_atom is_name faults_behind_headers names_of parts_stage parts_faults section_faults
    entry_faults has_key list_faults as_list as_entry as_pair kernel_faults share_faults app_name_faults app_in node_name_faults name_faults
    word_faults as_share desc_faults members permission_faults as_truth as_sync_wait as_time as_int rehearse_faults boot_faults as_restart
    platform_faults key_faults dep_faults is_start are_phases node_views all_shares node_view shares_in share_of group_in elements value_if
    elements_under node_named app_named boot_entry permissions_in forbids platforms_of platforms_in platform_in_term platform_in_section
    platform_in_entry with_platforms with_first_name with_name agreement_stage mismatches is_involved first_involved agreed_shares
    mismatch_faults agree same_shares same_share same_group boot_list_faults boot_entry_faults cluster_view app_views app_view dep_named
swept_row = refl

asks_row : AsksForPlan one (base_calls one swept) plan.events answers run
unfolding run_end content line_of sweep_line_of verb_named is_utf8 chars encode terms_of dotted dot_at inside terms_up_to some_terms next_at term_by word_at name_at past quoted quoted_atom_at text_at
    integer_at digits_at cluster_of cluster_of_terms profile_of behind_profile as_profile faults_in headers_stage header_faults new_name_faults
    node_names app_names as_headed as_triple as_tuple as_atom is_name faults_behind_headers names_of parts_stage parts_faults section_faults
    entry_faults has_key list_faults as_list as_entry as_pair kernel_faults share_faults app_name_faults app_in node_name_faults name_faults
    word_faults as_share desc_faults members permission_faults as_truth as_sync_wait as_time as_int rehearse_faults boot_faults as_restart
    platform_faults key_faults dep_faults is_start are_phases node_views all_shares node_view shares_in share_of group_in elements value_if
    elements_under node_named app_named boot_entry permissions_in forbids platforms_of platforms_in platform_in_term platform_in_section
    platform_in_entry with_platforms with_first_name with_name agreement_stage mismatches is_involved first_involved agreed_shares
    mismatch_faults agree same_shares same_share same_group boot_list_faults boot_entry_faults cluster_view app_views app_view dep_named
asks_row = record { cluster = refl; ends = refl; asks = refl }

-- its lines are copied from those of the sweep
abbrev OfBase : List ℕ → Type 0
OfBase line = is_of_base (sweep_line_of one line) ≡ true

abbrev OfPlan : List ℕ → Type 0
OfPlan line = is_of_plan (sweep_line_of one line) ≡ true

abbrev copied : List (List ℕ)
copied = codes "crash a" ∷ codes "crash a" ∷ []

copied_row : IsCopied one swept run copied
unfolding content sweep_line_of verb_named is_utf8 chars encode
copied_row = record {
  base = codes "boot a" ∷ [];
  first = codes "plan p";
  others = codes "crash a" ∷ codes "crash a" ∷ codes "boot a" ∷ [];
  swept = refl;
  begins = refl;
  of_base = All-cons OfBase (codes "boot a") [] refl (All-nil OfBase);
  of_plan = All-cons OfPlan (codes "crash a") (codes "crash a" ∷ []) refl (All-cons OfPlan (codes "crash a") [] refl (All-nil OfPlan));
  run = refl;
}

copied_asks_row : plan_events (sweep_lines_asked one copied) ≡ events_answered answers plan.events
unfolding sweep_line_of verb_named is_utf8 chars encode
copied_asks_row = refl

-- and no command of the run gives a permission back
none_given_row : NoneGivesBack (opened one First) (calls_in one run)
unfolding content line_of verb_named is_utf8 chars encode
none_given_row = (refl, (refl, (refl, (refl, tt))))

-- nor does the base of the sweep, or its plan
abbrev Gives : PlanText → Type 0
Gives p = NoneGivesBack (base_of one First swept) (steps p.events)

base_row : NoneGivesBack (opened one First) (base_calls one swept)
unfolding content sweep_line_of verb_named is_utf8 chars encode
base_row = (refl, tt)

plans_row : NoPlanGivesBack (base_of one First swept) (plans_of (sweep_lines_asked one (script_lines swept)))
unfolding content sweep_line_of verb_named is_utf8 chars encode
plans_row = All-cons Gives plan [] (refl, (refl, (refl, tt))) (All-nil Gives)
