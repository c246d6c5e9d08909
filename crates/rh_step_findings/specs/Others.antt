-- How another node stands to a node and an application at a step.
use Rattle.std.specs.Prelude.{Bool, not, Option, find, is_some, is_none, ◌&&◌}
use Rattle.rh_rules.specs.Prelude.{group_of, App, Node, same_node, nodes_of, StateView, mode_of, is_up, is_started, is_allowed}
use Rattle.rh_rules.specs.declared.event.Event.{Event}
use Rattle.rh_step_findings.specs.declared.relation.Relation.{Relation}
use Rattle.rh_step_findings.specs.declared.relation.Relation.TheVariants.{BetterIdle, TupleIdle, WorseIdle, Idle, Ready, Unlisted, Companion, Bystander, Holder}
use Rattle.rh_step_findings.specs.After.{is_up_after, starts_now}
use Rattle.rh_step_findings.specs.Candidates.{ranks_before, share_group, takes_part, is_available, is_best, is_idle, holds_up}

-- it holds the application ready before the step, and may run it
abbrev pub is_holder : StateView → App → Node → Bool
is_holder s a m = is_up (mode_of s m) && (is_allowed s m a && is_started s m a)

-- it stands so
unfoldable pub stands_so : StateView → Event → Relation → Node → App → Node → Bool
stands_so s e BetterIdle n a m = ranks_before s.cluster a m n && holds_up s e n a m
stands_so s e TupleIdle n a m = share_group s.cluster a n m && holds_up s e n a m
stands_so s e WorseIdle n a m = ranks_before s.cluster a n m && holds_up s e n a m
stands_so s e Idle n a m = is_idle s e n a m
stands_so s e Ready n a m = not (same_node n m) && (is_available s e a m && is_started s m a)
stands_so s e Unlisted n a m = not (same_node n m) && (is_none (group_of s.cluster a m) && (is_up_after s e m && takes_part s.cluster m))
stands_so s e Companion n a m = not (same_node n m) && is_best s e a m
stands_so s e Bystander n a m = not (same_node n m) && (is_best s e a m && not (starts_now s e m a))
stands_so s e Holder n a m = not (same_node n m)
    && (is_some (group_of s.cluster a m) && (not (ranks_before s.cluster a n m) && is_holder s a m))

-- the first node that does, in the order of the cluster file, if there is one
unfoldable pub other_so : StateView → Event → Relation → Node → App → Option Node
other_so s e relation n a = find (stands_so s e relation n a) (nodes_of s.cluster)
