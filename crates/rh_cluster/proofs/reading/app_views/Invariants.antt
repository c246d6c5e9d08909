use Rattle.std.proofs.Common.{◌≡◌, ℕ, List, map, take}
use Rattle.rh_base.specs.Tree.{Tree, tree_of}
use Rattle.rh_cluster.specs.Headers.{apps_in}
use Rattle.rh_cluster.specs.Values.{app_view}
use Rattle.rh_cluster.proofs.reading.app_views.Given as goal

abbrev pub invariant-loop-term : goal.invariant-loop-term
invariant-loop-term l = l.apps.items ≡ map (λ (a : List ℕ × Tree). app_view l.names l.shares a.0 a.1) (apps_in (map tree_of (take l.term-index l.terms)))
