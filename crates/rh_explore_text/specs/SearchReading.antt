-- What is said within the reading of a search, where some lines are left (ours).
use Rattle.std.specs.Prelude.{◌≡◌, List, [], ◌∷◌, ◌++◌, map, Some, None}
use Rattle.std.specs.List.{flat_map}
use Rattle.rh_model.specs.ClusterView.{ClusterView, node_count}
use Rattle.rh_script.specs.declared.script.Line.TheVariants as line
use Rattle.rh_explore.specs.declared.moves.Move.TheVariants.{Wait}
use Rattle.rh_explore_text.specs.declared.lines.SearchLine.{SearchLine}
use Rattle.rh_explore_text.specs.declared.lines.SearchLine.TheVariants as asks
use Rattle.rh_explore_text.specs.declared.reading.Search.{Search}
use Rattle.rh_explore_text.specs.declared.reading.SearchScript.{SearchScript}
use Rattle.rh_explore_text.specs.declared.reading.SearchScript.TheVariants as script
use Rattle.rh_explore_text.specs.Asks.{ask_view}
use Rattle.rh_explore_text.specs.OpenEvents.{each_move}
use Rattle.rh_explore_text.specs.SearchLines.{SearchView, calls_in, moves_in, down_in, steps_in, asks_in, last_or, most_steps, search_of, bad_search_line}

abbrev pub search_view : Search → SearchView
search_view s = record { base = s.base.items; moves = s.moves.items; down = s.down; steps = s.steps; asks = map ask_view s.asks.items }

-- before the first line
abbrev pub nothing_asked : ClusterView → SearchView
nothing_asked c = record { base = []; moves = []; down = node_count c; steps = most_steps; asks = [] }

-- what was read, with one line more
abbrev pub with_line : ClusterView → SearchView → SearchLine → SearchView
with_line c v (asks.Plain line.Nothing) = v
with_line c v (asks.Plain (line.Asks call)) = record v { base = v.base ++ call ∷ [] }
with_line c v (asks.Plain line.Bad) = v
with_line c v (asks.May event) = record v { moves = v.moves ++ each_move c event }
with_line c v asks.MayWait = record v { moves = v.moves ++ Wait ∷ [] }
with_line c v (asks.Down k) = record v { down = k }
with_line c v (asks.Steps k) = record v { steps = k }
with_line c v (asks.Asks question) = record v { asks = v.asks ++ question ∷ [] }

-- and with all of these
abbrev pub read_on : ClusterView → SearchView → List SearchLine → SearchView
read_on c v lines = record {
  base = v.base ++ flat_map calls_in lines;
  moves = v.moves ++ flat_map (moves_in c) lines;
  down = last_or v.down (flat_map down_in lines);
  steps = last_or v.steps (flat_map steps_in lines);
  asks = v.asks ++ flat_map asks_in lines;
}

-- all lines fit, and this is what they ask; or this is the number of the first that doesn't
abbrev pub IsSearchOf : ClusterView → List SearchLine → SearchScript → Type 0
IsSearchOf c lines (script.Search s) = (bad_search_line lines ≡ None) × (search_view s ≡ search_of c lines)
IsSearchOf c lines (script.BadLine k) = bad_search_line lines ≡ Some k
