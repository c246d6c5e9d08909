-- Worked rows: the definitions of the texts compute to what an operator sees.
use Rattle.std.proofs.Common.{◌≡◌, true, false, [], ◌∷◌, Some, codes, refl}
use Rattle.std.specs.Fmt.{digits}
use Rattle.std.specs.Str.{is_utf8, chars}
use lib.Utf8.{encode}
use Rattle.rh_model.specs.ClusterView.{ClusterView, numbered, app_numbered}
use Rattle.rh_model.specs.declared.settings.Dep.TheVariants.{Listed, Platform}
use Rattle.rh_model.specs.declared.settings.Restart.TheVariants.{Permanent, Transient, Temporary}
use Rattle.rh_state.specs.declared.status.Kind.TheVariants as kind
use Rattle.rh_rules.specs.declared.notice.Notice.TheVariants.{Started, Stopped, Waits}
use Rattle.rh_rules.specs.declared.event.Event.TheVariants.{Boot, Tick, Start, Stop, Permit, Takeover, Exit, StartAll, StopAll}
use Rattle.rh_rules.specs.declared.refusal.Refusal.TheVariants.{DependencyNotStarted}
use Rattle.rh_calls.specs.declared.call.Call.TheVariants.{Step, Undo, Look}
use Rattle.rh_calls.specs.declared.call.Reply.TheVariants.{Refused}
use Rattle.rh_script.specs.declared.script.TheConstants.{NO_NODE, NO_APP}
use Rattle.rh_script.specs.declared.script.Line.TheVariants.{Nothing, Asks, Bad}
use Rattle.rh_script.specs.Lines.{content, cluster_text, script_lines}
use Rattle.rh_script.specs.Forms.{verb_named}
use Rattle.rh_script.specs.Commands.{milliseconds, line_of}
use Rattle.rh_script.specs.declared.session_lines.SessionLine.TheVariants as line
use Rattle.rh_script.specs.SessionLines.{command, session_line_of}
use Rattle.rh_script.specs.Answers.{notice_line, answer_text, fault_text}
use Rattle.rh_script.specs.CommandWords.{command_words}
use Rattle.rh_cluster.specs.declared.fault.ClusterFault.TheVariants.{Mismatch, Term}
use Rattle.rh_terms.specs.declared.fault.TermFault.TheVariants.{Syntax}

abbrev one_node : ClusterView
one_node = record { profile = 1; node_names = codes "a" ∷ []; app_names = []; platform_names = []; nodes = []; apps = [] }

abbrev one_app : ClusterView
one_app = record { profile = 1; node_names = codes "a" ∷ codes "b" ∷ []; app_names = codes "w" ∷ []; platform_names = codes "kernel" ∷ []; nodes = []; apps = [] }

boot_row : line_of one_node (codes "  boot   a ") ≡ Asks (Step (Boot (numbered 0)))
unfolding line_of verb_named is_utf8 chars encode
boot_row = refl

unknown_name_row : line_of one_node (codes "boot b") ≡ Asks (Step (Boot NO_NODE))
unfolding line_of verb_named is_utf8 chars encode
unknown_name_row = refl

tick_row : line_of one_node (codes "tick 18446744073709551615") ≡ Asks (Step (Tick 18446744073709551615))
unfolding line_of verb_named milliseconds is_utf8 chars encode
tick_row = refl

tick_beyond_row : line_of one_node (codes "tick 18446744073709551616") ≡ Bad
unfolding line_of verb_named milliseconds is_utf8 chars encode
tick_beyond_row = refl

tick_with_plus_row : line_of one_node (codes "tick +5") ≡ Bad
unfolding line_of verb_named milliseconds is_utf8 chars encode
tick_with_plus_row = refl

tick_with_minus_row : line_of one_node (codes "tick -1") ≡ Bad
unfolding line_of verb_named milliseconds is_utf8 chars encode
tick_with_minus_row = refl

tick_with_zeros_row : line_of one_node (codes "tick 007") ≡ Asks (Step (Tick 7))
unfolding line_of verb_named milliseconds is_utf8 chars encode
tick_with_zeros_row = refl

start_row : line_of one_app (codes "start b w transient") ≡ Asks (Step (Start (numbered 1) (app_numbered 0) Transient))
unfolding line_of verb_named is_utf8 chars encode
start_row = refl

stop_row : line_of one_app (codes "stop b w") ≡ Asks (Step (Stop (numbered 1) (app_numbered 0)))
unfolding line_of verb_named is_utf8 chars encode
stop_row = refl

permit_row : line_of one_app (codes "permit b w true") ≡ Asks (Step (Permit (numbered 1) (app_numbered 0) true))
unfolding line_of verb_named is_utf8 chars encode
permit_row = refl

forbid_row : line_of one_app (codes "permit b w false") ≡ Asks (Step (Permit (numbered 1) (app_numbered 0) false))
unfolding line_of verb_named is_utf8 chars encode
forbid_row = refl

takeover_row : line_of one_app (codes "takeover b w temporary") ≡ Asks (Step (Takeover (numbered 1) (app_numbered 0) Temporary))
unfolding line_of verb_named is_utf8 chars encode
takeover_row = refl

exit_row : line_of one_app (codes "exit b w normal") ≡ Asks (Step (Exit (numbered 1) (app_numbered 0) true))
unfolding line_of verb_named is_utf8 chars encode
exit_row = refl

abnormal_exit_row : line_of one_app (codes "exit b w abnormal") ≡ Asks (Step (Exit (numbered 1) (app_numbered 0) false))
unfolding line_of verb_named is_utf8 chars encode
abnormal_exit_row = refl

start_all_row : line_of one_app (codes "start_all w transient") ≡ Asks (Step (StartAll (app_numbered 0) Transient))
unfolding line_of verb_named is_utf8 chars encode
start_all_row = refl

stop_all_row : line_of one_app (codes "stop_all w") ≡ Asks (Step (StopAll (app_numbered 0)))
unfolding line_of verb_named is_utf8 chars encode
stop_all_row = refl

stop_all_with_node_row : line_of one_app (codes "stop_all b w") ≡ Bad
unfolding line_of verb_named is_utf8 chars encode
stop_all_with_node_row = refl

unknown_app_row : line_of one_app (codes "start w b permanent") ≡ Asks (Step (Start NO_NODE NO_APP Permanent))
unfolding line_of verb_named is_utf8 chars encode
unknown_app_row = refl

start_without_type_row : line_of one_app (codes "start b w") ≡ Bad
unfolding line_of verb_named is_utf8 chars encode
start_without_type_row = refl

unknown_type_row : line_of one_app (codes "start b w permanently") ≡ Bad
unfolding line_of verb_named is_utf8 chars encode
unknown_type_row = refl

neither_true_nor_false_row : line_of one_app (codes "permit b w yes") ≡ Bad
unfolding line_of verb_named is_utf8 chars encode
neither_true_nor_false_row = refl

stop_with_option_row : line_of one_app (codes "stop b w normal") ≡ Bad
unfolding line_of verb_named is_utf8 chars encode
stop_with_option_row = refl

failover_row : notice_line one_app (Started (app_numbered 0) (numbered 1) (kind.Failover (numbered 0)) (Some (numbered 0))) ≡ codes "started w b failover a\n"
unfolding notice_line
failover_row = refl

normal_start_row : notice_line one_app (Started (app_numbered 0) (numbered 1) kind.Normal (Some (numbered 0))) ≡ codes "started w b normal\n"
unfolding notice_line
normal_start_row = refl

stopped_row : notice_line one_app (Stopped (app_numbered 0) (numbered 1)) ≡ codes "stopped w b\n"
unfolding notice_line
stopped_row = refl

waits_row : notice_line one_app (Waits (app_numbered 0) (numbered 0)) ≡ codes "waits w a\n"
unfolding notice_line
waits_row = refl

missing_application_row : answer_text one_app (Refused (DependencyNotStarted (Listed (app_numbered 0)))) ≡ codes "refused S17 dependency_not_started w\n"
unfolding answer_text
missing_application_row = refl

missing_platform_row : answer_text one_app (Refused (DependencyNotStarted (Platform 0))) ≡ codes "refused S17 dependency_not_started kernel\n"
unfolding answer_text
missing_platform_row = refl

blank_row : line_of one_node (codes "   ") ≡ Nothing
unfolding line_of verb_named is_utf8 chars encode
blank_row = refl

comment_row : line_of one_node (codes "# boot a") ≡ Nothing
unfolding line_of verb_named is_utf8 chars encode
comment_row = refl

blank_before_comment_row : line_of one_node (codes " # boot a") ≡ Bad
unfolding line_of verb_named is_utf8 chars encode
blank_before_comment_row = refl

too_many_words_row : line_of one_node (codes "boot a a") ≡ Bad
unfolding line_of verb_named is_utf8 chars encode
too_many_words_row = refl

cut_row : cluster_text (codes "a\n===\nb\n") ≡ codes "a\n"
unfolding content
cut_row = refl

carriage_return_row : script_lines (codes "a\r\n===\r\nundo\r\nredo\r") ≡ codes "undo" ∷ codes "redo\r" ∷ []
unfolding content
carriage_return_row = refl

fault_row : fault_text (Mismatch (codes "n2@lab")) ≡ codes "cluster refused C8 mismatch n2@lab\n"
unfolding fault_text
fault_row = refl

line_row : fault_text (Term (Syntax 12)) ≡ codes "cluster refused C1 T1 syntax line 12\n"
unfolding fault_text digits
line_row = refl

session_row : session_line_of one_node (codes "  1  undo ") ≡ line.Asks (command 1 Undo)
unfolding session_line_of verb_named is_utf8 chars encode
session_row = refl

last_session_row : session_line_of one_node (codes "8 boot a") ≡ line.Asks (command 8 (Step (Boot (numbered 0))))
unfolding session_line_of verb_named is_utf8 chars encode
last_session_row = refl

ninth_session_row : session_line_of one_node (codes "9 boot a@x") ≡ line.Bad
unfolding session_line_of verb_named is_utf8 chars encode
ninth_session_row = refl

session_with_two_digits_row : session_line_of one_node (codes "11 undo") ≡ line.Bad
unfolding session_line_of verb_named is_utf8 chars encode
session_with_two_digits_row = refl

session_alone_row : session_line_of one_node (codes "1") ≡ line.Bad
unfolding session_line_of verb_named is_utf8 chars encode
session_alone_row = refl

command_without_session_row : session_line_of one_node (codes "undo") ≡ line.Bad
unfolding session_line_of verb_named is_utf8 chars encode
command_without_session_row = refl

session_comment_row : session_line_of one_node (codes "# x") ≡ line.Nothing
unfolding session_line_of verb_named is_utf8 chars encode
session_comment_row = refl

unknown_node_words_row : command_words one_node (Step (Boot NO_NODE)) ≡ codes "boot ?"
unfolding command_words
unknown_node_words_row = refl

tick_words_row : command_words one_node (Step (Tick 5)) ≡ codes "tick 5"
unfolding command_words digits
tick_words_row = refl

forbid_words_row : command_words one_app (Step (Permit (numbered 1) (app_numbered 0) false)) ≡ codes "permit b w false"
unfolding command_words
forbid_words_row = refl

start_words_row : command_words one_app (Step (Start (numbered 1) NO_APP Transient)) ≡ codes "start b ? transient"
unfolding command_words
start_words_row = refl

look_words_row : command_words one_app Look ≡ codes "show"
unfolding command_words
look_words_row = refl

-- ---- words that are read again

takeover_again_row :
    line_of one_app (command_words one_app (Step (Takeover (numbered 1) (app_numbered 0) Temporary)))
    ≡ Asks (Step (Takeover (numbered 1) (app_numbered 0) Temporary))
unfolding line_of verb_named command_words is_utf8 chars encode
takeover_again_row = refl

exit_again_row :
    line_of one_app (command_words one_app (Step (Exit (numbered 0) (app_numbered 0) false))) ≡ Asks (Step (Exit (numbered 0) (app_numbered 0) false))
unfolding line_of verb_named command_words is_utf8 chars encode
exit_again_row = refl

start_all_again_row :
    line_of one_app (command_words one_app (Step (StartAll (app_numbered 0) Permanent))) ≡ Asks (Step (StartAll (app_numbered 0) Permanent))
unfolding line_of verb_named command_words is_utf8 chars encode
start_all_again_row = refl

stop_all_again_row : line_of one_app (command_words one_app (Step (StopAll NO_APP))) ≡ Asks (Step (StopAll NO_APP))
unfolding line_of verb_named command_words is_utf8 chars encode
stop_all_again_row = refl

unknown_again_row : line_of one_app (command_words one_app (Step (Stop NO_NODE NO_APP))) ≡ Asks (Step (Stop NO_NODE NO_APP))
unfolding line_of verb_named command_words is_utf8 chars encode
unknown_again_row = refl

-- what the law asks of names is needed: none is `?`, none is parted by a space, and no two are one
abbrev odd_names : ClusterView
odd_names = record { profile = 1; node_names = codes "?" ∷ codes "a b" ∷ codes "?" ∷ []; app_names = []; platform_names = []; nodes = []; apps = [] }

named_as_unknown_row : line_of odd_names (command_words odd_names (Step (Boot NO_NODE))) ≡ Asks (Step (Boot (numbered 0)))
unfolding line_of verb_named command_words is_utf8 chars encode
named_as_unknown_row = refl

parted_name_row : line_of odd_names (command_words odd_names (Step (Boot (numbered 1)))) ≡ Bad
unfolding line_of verb_named command_words is_utf8 chars encode
parted_name_row = refl

name_twice_row : line_of odd_names (command_words odd_names (Step (Boot (numbered 2)))) ≡ Asks (Step (Boot (numbered 0)))
unfolding line_of verb_named command_words is_utf8 chars encode
name_twice_row = refl
