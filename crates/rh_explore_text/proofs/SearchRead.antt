-- Lines of a search that are read one after the other.
use Rattle.std.proofs.Common.{◌≡◌, List, [], ◌∷◌, Bool, IsTrue, Result, Ok, Err, refl, sym, ap, ◌∙◌, append-nil, append_assoc}
use Rattle.std.specs.List.{flat_map}
use Rattle.std.specs.Prelude.{IfOk}
use Rattle.rh_model.specs.ClusterView.{ClusterView}
use Rattle.rh_script.specs.declared.script.Line.{Line}
use Rattle.rh_script.specs.declared.script.Line.TheVariants as line
use Rattle.rh_explore.specs.declared.moves.Move.TheVariants.{Wait}
use Rattle.rh_explore_text.specs.declared.lines.SearchLine.{SearchLine}
use Rattle.rh_explore_text.specs.declared.lines.SearchLine.TheVariants as asks
use Rattle.rh_explore_text.specs.OpenEvents.{each_move}
use Rattle.rh_explore_text.specs.SearchLines.{SearchView, calls_in, moves_in, asks_in}
use Rattle.rh_explore_text.specs.SearchReading.{with_line, read_on}

-- all lines were read
pub read_all : (c : ClusterView) (v : SearchView) → read_on c v [] ≡ v
read_all c v = λ i. record {
  base = append-nil v.base i;
  moves = append-nil v.moves i;
  down = v.down;
  steps = v.steps;
  asks = append-nil v.asks i;
}

-- one more was
pub reads_on : (c : ClusterView) (v : SearchView) (asked : SearchLine) (lines : List SearchLine)
    → read_on c v (asked ∷ lines) ≡ read_on c (with_line c v asked) lines
reads_on c v (asks.Plain line.Nothing) lines = refl
reads_on c v (asks.Plain (line.Asks call)) lines = λ i. record (read_on c v lines) { base = sym (append_assoc v.base (call ∷ []) (flat_map calls_in lines)) i }
reads_on c v (asks.Plain line.Bad) lines = refl
reads_on c v (asks.May event) lines = λ i. record (read_on c v lines) { moves = sym (append_assoc v.moves (each_move c event) (flat_map (moves_in c) lines)) i }
reads_on c v asks.MayWait lines = λ i. record (read_on c v lines) { moves = sym (append_assoc v.moves (Wait ∷ []) (flat_map (moves_in c) lines)) i }
reads_on c v (asks.Down k) lines = refl
reads_on c v (asks.Steps k) lines = refl
reads_on c v (asks.Asks question) lines = λ i. record (read_on c v lines) { asks = sym (append_assoc v.asks (question ∷ []) (flat_map asks_in lines)) i }

-- a line as any script has it was taken, whatever the cluster
pub plain_taken : {E : Type 0} (r : Result Bool E) (c : ClusterView) (v w : SearchView) (asked : SearchLine) (read : Line) → asked ≡ asks.Plain read
    → IfOk r (λ taken. IsTrue taken → (k : ClusterView) → w ≡ with_line k v (asks.Plain read)) → IfOk r (λ taken. IsTrue taken → w ≡ with_line c v asked)
plain_taken (Ok taken) c v w asked read is h = λ yes. h yes c ∙ ap (with_line c v) (sym is)
plain_taken (Err e) c v w asked read is h = tt
