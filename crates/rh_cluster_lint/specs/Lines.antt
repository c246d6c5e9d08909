-- The lines of terms (ours).
use Rattle.std.specs.Prelude.{ℕ, ◌+◌, List, [], ◌∷◌, ◌++◌, codes, drop, Option, is_some, unwrap_or, slice_get, if◌then◌else◌}
use Rattle.std.specs.Option.{option_map, option_and_then}
use Rattle.rh_base.specs.Tree.{Tree}
use Rattle.rh_model.specs.declared.node.Node.{Node}
use Rattle.rh_model.specs.declared.node.App.{App}
use Rattle.rh_cluster.specs.Shapes.{as_headed}
use Rattle.rh_findings.specs.declared.starts.Start.{Start}
use Rattle.rh_findings.specs.Starts.{term_starts}
use Rattle.rh_findings.specs.Words.{line_of_word}
use Rattle.rh_cluster_lint.specs.declared.lines.Lines.{Lines}

-- where the terms of a text stand: where each begins, and which describe nodes, and which applications
pub record LinesView : Type 0 where
  pub text : List ℕ
  pub starts : List Start
  pub nodes : List ℕ
  pub apps : List ℕ

-- the places of the terms {Word, Name, Part} among these, of which the first has this place
abbrev pub place_here : List ℕ → ℕ → Tree → List ℕ
place_here word place t = if is_some (as_headed word t) then place ∷ [] else []

abbrev pub places_of : List ℕ → ℕ → List Tree → List ℕ
places_of word place [] = []
places_of word place (t ∷ ts) = place_here word place t ++ places_of word (place + 1) ts

-- those of a text with these terms
abbrev pub lines_of : List ℕ → List Tree → LinesView
lines_of bytes ts = record {
  text = bytes;
  starts = term_starts bytes;
  nodes = places_of (codes "node") 0 ts;
  apps = places_of (codes "application") 0 ts;
}

-- as a function is given them
abbrev pub lines_seen : Lines → LinesView
lines_seen l = record { text = l.text.now; starts = l.starts.now; nodes = l.nodes.now; apps = l.apps.now }

-- the line on which a term begins: that at a place, that of a node, and that of an application
abbrev pub line_at : LinesView → ℕ → Option ℕ
line_at l place = option_map (λ (s : Start). s.line) (slice_get l.starts place)

abbrev pub node_line : LinesView → Node → Option ℕ
node_line l n = option_and_then (line_at l) (slice_get l.nodes n.0)

abbrev pub app_line : LinesView → App → Option ℕ
app_line l a = option_and_then (line_at l) (slice_get l.apps a.0)

-- the line of a word in the term at a place: the first from the term's own on where it stands as a word, and else the term's
abbrev pub word_line : LinesView → ℕ → List ℕ → Option ℕ
word_line l place word =
    option_map (λ (s : Start). unwrap_or (line_of_word s.line word (drop s.at l.text)) s.line) (slice_get l.starts place)
