-- How an application was started (ours).
use Rattle.std.specs.Prelude.{ℕ, List, [], ◌++◌, ◌==◌, codes}
use Rattle.std.specs.List.{before_first}
use Rattle.rh_model.specs.ClusterView.{ClusterView}
use Rattle.rh_state.specs.declared.status.Kind.{Kind}
use Rattle.rh_state.specs.declared.status.Kind.TheVariants as kind
use Rattle.rh_calls.specs.Report.{kind_words}
use Rattle.rh_json_text.specs.Json.{json_string}
use Rattle.rh_json_lines.specs.ClusterLines.{node_json}

-- the first word of a text
abbrev pub first_word : List ℕ → List ℕ
first_word text = before_first (λ b. b == 32) text

-- the node that an application came from, if it came from one
abbrev pub from_json : ClusterView → Kind → List ℕ
from_json c kind.Normal = []
from_json c (kind.Failover m) = codes ",\"from\":" ++ node_json c m
from_json c (kind.Takeover m) = codes ",\"from\":" ++ node_json c m

-- how an application was started: the first of the words that a report has, and the node
unfoldable pub start_json : ClusterView → Kind → List ℕ
start_json c kind = codes ",\"start\":" ++ json_string (first_word (kind_words c kind)) ++ from_json c kind
