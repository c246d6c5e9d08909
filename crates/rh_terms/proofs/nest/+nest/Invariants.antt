use Rattle.std.proofs.Common.{◌≡◌, ◌+◌, ◌*◌, ◌≤◌, length, take, drop}
use Rattle.std.specs.Str.{IsUtf8}
use Rattle.rh_base.specs.Tree.{trees_of}
use Rattle.rh_terms.specs.Faults.{under}
use Rattle.rh_terms.specs.Kept.{kept_trees, elements_at, with_trees}
use Rattle.rh_terms.specs.Repeated.{IsRead}
use Rattle.rh_terms.proofs.nest.+nest.Given as goal

abbrev pub decreases-term_of : goal.decreases-term_of
decreases-term_of g l = 7 * l.room + 3

abbrev pub decreases-list_of : goal.decreases-list_of
decreases-list_of g l = 7 * l.room + 2

abbrev pub decreases-outermost_list_of : goal.decreases-outermost_list_of
decreases-outermost_list_of g l = 7 * l.room + 1

abbrev pub decreases-terms_inside : goal.decreases-terms_inside
decreases-terms_inside g l = 7 * l.room

abbrev pub decreases-elements_of : goal.decreases-elements_of
decreases-elements_of g l = 7 * l.room + 6

abbrev pub decreases-further_elements_of : goal.decreases-further_elements_of
decreases-further_elements_of g l = 7 * l.room + 5

abbrev pub decreases-next_term : goal.decreases-next_term
decreases-next_term g l = 7 * l.room + 4

-- the elements are what lies on the stack above what lay there before
abbrev pub invariant-elements_of-elements : goal.invariant-elements_of-elements
invariant-elements_of-elements g l = record {
  so_far : with_trees (trees_of (drop l.below l.stack.items)) (under (kept_trees g.K.Keep.behind_key l.next) (elements_at l.room l.close l.rest)) ≡ under
      (kept_trees g.K.Keep.behind_key l.fn.next) (elements_at l.room l.close l.bytes);
  text : IsUtf8 l.rest;
  known : IsRead l.again;
  below : take l.below l.stack.items ≡ l.fn.stack.items;
  above : l.below ≤ length l.stack.items;
}

abbrev pub decreases-elements_of-elements : goal.decreases-elements_of-elements
decreases-elements_of-elements g l = length l.rest

abbrev pub invariant-further_elements_of-elements : goal.invariant-further_elements_of-elements
invariant-further_elements_of-elements g l = record {
  so_far : with_trees (trees_of l.items.items) (under (kept_trees g.K.Keep.behind_key l.next) (elements_at l.room l.close l.rest)) ≡ with_trees
      (trees_of l.fn.items.items) (under (kept_trees g.K.Keep.behind_key l.fn.next) (elements_at l.room l.close l.bytes));
  text : IsUtf8 l.rest;
  known : IsRead l.again;
  stack : l.stack.items ≡ l.fn.stack.items;
}

abbrev pub decreases-further_elements_of-elements : goal.decreases-further_elements_of-elements
decreases-further_elements_of-elements g l = length l.rest
