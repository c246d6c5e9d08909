-- The best group of an application behind a step, by its place alone (ours).
use Rattle.std.specs.Prelude.{ℕ, Bool, List, [], Option, position, unwrap_or, not, ◌&&◌}
use Rattle.std.specs.Option.{option_map}
use Rattle.std.specs.List.{list_any}
use Rattle.rh_model.specs.ClusterView.{ClusterView, spread_of}
use Rattle.rh_model.specs.declared.settings.Spread.{Spread}
use Rattle.rh_rules.specs.Prelude.{App, Node, StateView}
use Rattle.rh_rules.specs.declared.event.Event.{Event}
use Rattle.rh_step_findings.specs.After.{is_up_after, is_started_after, is_permitted_after}

-- a node is up and permitted behind the step, listed or not
abbrev pub is_free : StateView → Event → App → Node → Bool
is_free s e a m = is_up_after s e m && is_permitted_after s e m a

-- the groups of an application's list
abbrev pub groups_at : ClusterView → App → List (List Node)
groups_at c a = unwrap_or (option_map (λ (v : Spread). v.groups) (spread_of c a)) []

-- the place of the first of them that has such a node
unfoldable pub best_place : StateView → Event → App → Option ℕ
best_place s e a = position (list_any (is_free s e a)) (groups_at s.cluster a)

-- such a node hasn't started the application behind the step
abbrev pub is_spare : StateView → Event → App → Node → Bool
is_spare s e a m = is_free s e a m && not (is_started_after s e m a)

-- one of the application's list hasn't
unfoldable pub has_spare : StateView → Event → App → Bool
has_spare s e a = list_any (list_any (is_spare s e a)) (groups_at s.cluster a)
