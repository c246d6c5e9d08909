-- Reasons in words, without a line end (ours).
use Rattle.std.specs.Prelude.{ℕ, List, [], ◌++◌, codes, Option, Some, None}
use Rattle.std.specs.List.{flat_map}
use Rattle.std.specs.Fmt.{decimal}
use Rattle.rh_model.specs.ClusterView.{ClusterView}
use Rattle.rh_model.specs.declared.node.Node.{Node}
use Rattle.rh_calls.specs.Report.{node_word, dep_word}
use Rattle.rh_why.specs.declared.reason.Reason.{Reason}
use Rattle.rh_why.specs.declared.reason.Reason.TheVariants.{Needs, Forbidden, RunsAt, LostWith, Quiet}

-- why an application waits
unfoldable pub reason_text : ClusterView → Reason → List ℕ
reason_text c (Needs dep) = codes "needs " ++ dep_word c dep
reason_text c Forbidden = codes "forbidden"
reason_text c (RunsAt m) = codes "runs at " ++ node_word c m
reason_text c (LostWith m due) = codes "lost with " ++ node_word c m ++ codes " until " ++ decimal due
reason_text c Quiet = codes "quiet"

-- one of several nodes
abbrev pub one_word : ClusterView → Node → List ℕ
one_word c n = codes " " ++ node_word c n

-- until when a node waits
abbrev pub until_text : Option ℕ → List ℕ
until_text None = []
until_text (Some due) = codes " until " ++ decimal due

-- for whom a node waits, and until when
unfoldable pub awaited_text : ClusterView → List Node → Option ℕ → List ℕ
awaited_text c nodes until = codes "waits for" ++ flat_map (one_word c) nodes ++ until_text until
