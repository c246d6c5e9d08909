-- The texts of answers (ours).
use Rattle.std.specs.Prelude.{ℕ, List, [], ◌++◌, codes}
use Rattle.std.specs.List.{flat_map}
use Rattle.std.specs.Fmt.{decimal}
use Rattle.rh_model.specs.ClusterView.{ClusterView}
use Rattle.rh_model.specs.declared.node.Node.{Node}
use Rattle.rh_model.specs.declared.node.App.{App}
use Rattle.rh_cluster.specs.FaultTexts.{cluster_fault_text}
use Rattle.rh_cluster.specs.declared.fault.ClusterFault.{ClusterFault}
use Rattle.rh_rules.specs.declared.notice.Notice.{Notice}
use Rattle.rh_rules.specs.declared.notice.Notice.TheVariants.{Up, Ended, Started, Stopped, Waits}
use Rattle.rh_rules.specs.declared.refusal.Refusal.{Refusal}
use Rattle.rh_rules.specs.declared.refusal.Refusal.TheVariants.{DependencyNotStarted}
use Rattle.rh_calls.specs.declared.call.Reply.{Reply}
use Rattle.rh_calls.specs.declared.call.Reply.TheVariants as reply
use Rattle.rh_calls.specs.Report.{node_word, app_word, dep_word, kind_words}
use Rattle.rh_rules.specs.Refusals.{refusal_words}

-- an application, and a node
abbrev pub pair_words : ClusterView → App → Node → List ℕ
pair_words c a n = app_word c a ++ codes " " ++ node_word c n

-- what followed from a step
unfoldable pub notice_line : ClusterView → Notice → List ℕ
notice_line c (Up n) = codes "up " ++ node_word c n ++ codes "\n"
notice_line c (Ended n) = codes "ended " ++ node_word c n ++ codes "\n"
notice_line c (Started a n kind lost) = codes "started " ++ pair_words c a n ++ codes " " ++ kind_words c kind ++ codes "\n"
notice_line c (Stopped a n) = codes "stopped " ++ pair_words c a n ++ codes "\n"
notice_line c (Waits a n) = codes "waits " ++ pair_words c a n ++ codes "\n"

-- a dependency that isn't started is named
abbrev pub reason_words : ClusterView → Refusal → List ℕ
reason_words c (DependencyNotStarted dep) = codes " " ++ dep_word c dep
reason_words c other = []

-- why a step was refused
abbrev pub refusal_line : ClusterView → Refusal → List ℕ
refusal_line c refusal = codes "refused " ++ refusal_words refusal ++ reason_words c refusal ++ codes "\n"

-- the answer to a call
unfoldable pub answer_text : ClusterView → Reply → List ℕ
answer_text c (reply.Done notices) = codes "ok\n" ++ flat_map (notice_line c) notices
answer_text c (reply.Refused refusal) = refusal_line c refusal
answer_text c reply.Undone = codes "ok\n"
answer_text c reply.Redone = codes "ok\n"
answer_text c reply.AtStart = codes "refused at_start\n"
answer_text c reply.AtEnd = codes "refused at_end\n"
answer_text c (reply.Moved count) = codes "ok " ++ decimal count ++ codes "\n"
answer_text c (reply.Seen cursor trail text) = codes "ok\n" ++ text

-- why a text is no cluster file
unfoldable pub fault_text : ClusterFault → List ℕ
fault_text f = codes "cluster refused " ++ cluster_fault_text f ++ codes "\n"

-- the line of this number is no command
unfoldable pub bad_text : ℕ → List ℕ
bad_text k = codes "bad line " ++ decimal k ++ codes "\n"
