-- What newly hangs at a node, by the reports of live nodes before a step and behind it (ours).
use Rattle.std.specs.Prelude.{ℕ, List, [], ◌∷◌, ◌++◌, codes, length, ◌==◌, Option, Some, None, if◌then◌else◌}
use Rattle.std.specs.List.{flat_map}
use Rattle.std.specs.Str.{bytes_eq}
use Rattle.rh_model.specs.ClusterView.{ClusterView}
use Rattle.rh_model.specs.declared.node.App.{App}
use Rattle.rh_model.specs.declared.node.Node.{Node}
use Rattle.rh_state.specs.Numbers.{same_node}
use Rattle.rh_calls.specs.Report.{node_word, app_word}
use Rattle.rh_findings.specs.declared.finding.Finding.{Finding}
use Rattle.rh_findings.specs.declared.finding.Kind.TheVariants.{Warning}
use Rattle.rh_otp_report.specs.declared.block.Block.{Block}
use Rattle.rh_otp_report.specs.Views.{NodeReportView}
use Rattle.rh_otp_text.specs.Nodes.{block_words}
use Rattle.rh_otp_lint.specs.declared.hanging.Hang.{Hang}

-- ---- in one report

-- for what the dist_ac of a node waits, and its boot script
abbrev pub hang_of : NodeReportView → Hang
hang_of r = record { block = r.block; boot = r.boot }

-- at the node of this number, by these reports
abbrev pub hang_at : List NodeReportView → Node → Hang
hang_at [] n = record { block = None; boot = None }
hang_at (r ∷ nodes) n = if same_node r.node n then hang_of r else hang_at nodes n

-- for what a dist_ac waits, in the words of the report; nothing where it waits for nothing
abbrev pub dist_ac_words : ClusterView → Option Block → List ℕ
dist_ac_words c None = []
dist_ac_words c (Some b) = codes ", blocked dist_ac " ++ block_words c b

-- for which application's start a boot script waits, likewise
abbrev pub boot_words : ClusterView → Option App → List ℕ
boot_words c None = []
boot_words c (Some a) = codes ", blocked boot " ++ app_word c a

-- ---- newly

-- the words behind a step, unless they were these before it
abbrev pub new_words : List ℕ → List ℕ → List ℕ
new_words before after = if bytes_eq before after then [] else after

-- what hangs behind a step, and didn't so before it
abbrev pub hang_words : ClusterView → Hang → Hang → List ℕ
hang_words c before after =
    new_words (dist_ac_words c before.block) (dist_ac_words c after.block) ++ new_words (boot_words c before.boot) (boot_words c after.boot)

-- the warning on line k: the node, and for what its processes wait
unfoldable pub hangs : ℕ → List ℕ → List ℕ → Finding
hangs k node words = record { line = Some k; kind = Warning; text = codes "hangs: at " ++ (node ++ words); path = None }

-- where there are such words
abbrev pub hang_if : ℕ → List ℕ → List ℕ → List Finding
hang_if k node words = if length words == 0 then [] else hangs k node words ∷ []

-- of a node, by the reports before the step and its own behind it
abbrev pub new_hang : ClusterView → ℕ → List NodeReportView → NodeReportView → List Finding
new_hang c k before r = hang_if k (node_word c r.node) (hang_words c (hang_at before r.node) (hang_of r))

-- of each node
abbrev pub new_hangs : ClusterView → ℕ → List NodeReportView → List NodeReportView → List Finding
new_hangs c k before after = flat_map (new_hang c k before) after
