-- Worked rows of lists of nodes that may run an application.
use Rattle.std.proofs.Common.{◌≡◌, [], ◌∷◌, None, refl, codes}
use Rattle.rh_model.specs.ClusterView.{numbered}
use Rattle.rh_state.specs.Numbers.{apps_of}
use Rattle.rh_file_lint.specs.declared.finding.FileFinding.TheVariants.{TupleNotInOrder, TwoTuples}
use Rattle.rh_file_lint.specs.NodeLists.{has_unsorted_tuple, has_two_tuples}
use Rattle.rh_file_lint.specs.Findings.{tuple_not_in_order, two_tuples, of_node_lists}
use Rattle.rh_file_lint.proofs.Samples.{n1, n2, n3, a, c, app, at, with_apps}

-- a tuple in the order of its names, and groups of one node in any order
in_order : of_node_lists (with_apps (app [] (at 0 ((n1 ∷ []) ∷ (n2 ∷ n3 ∷ []) ∷ [])) ∷ app [] (at 0 ((n3 ∷ []) ∷ (n2 ∷ []) ∷ (n1 ∷ []) ∷ [])) ∷ app [] None ∷ [])) ≡ []
unfolding of_node_lists tuple_not_in_order two_tuples has_unsorted_tuple has_two_tuples apps_of
in_order = refl

not_in_order : of_node_lists (with_apps (app [] (at 0 ((n1 ∷ []) ∷ (n3 ∷ n2 ∷ []) ∷ [])) ∷ app [] (at 0 ((n1 ∷ n2 ∷ n3 ∷ []) ∷ [])) ∷ app [] (at 0 ((n1 ∷ n3 ∷ n2 ∷ []) ∷ [])) ∷ []))
    ≡ TupleNotInOrder a ∷ TupleNotInOrder c ∷ []
unfolding of_node_lists tuple_not_in_order two_tuples has_unsorted_tuple has_two_tuples apps_of
not_in_order = refl

-- it goes by names, and not by the order of the file; a name that begins another one comes before it
by_names : of_node_lists (record (with_apps (app [] (at 0 ((n2 ∷ n1 ∷ []) ∷ [])) ∷ app [] (at 0 ((n1 ∷ n3 ∷ []) ∷ [])) ∷ app [] (at 0 ((n3 ∷ n1 ∷ []) ∷ [])) ∷ []))
    { node_names = codes "n2" ∷ codes "n1" ∷ codes "n20" ∷ [] }) ≡ TupleNotInOrder c ∷ []
unfolding of_node_lists tuple_not_in_order two_tuples has_unsorted_tuple has_two_tuples apps_of
by_names = refl

-- two tuples of two; groups of one beside a tuple don't count
two_of_two : of_node_lists (record (with_apps (app [] (at 0 ((n1 ∷ n2 ∷ []) ∷ (n3 ∷ numbered 3 ∷ []) ∷ [])) ∷ app [] (at 0 ((n1 ∷ []) ∷ (n2 ∷ []) ∷ (n3 ∷ numbered 3 ∷ []) ∷ [])) ∷ app [] None ∷ []))
    { node_names = codes "n1" ∷ codes "n2" ∷ codes "n3" ∷ codes "n4" ∷ [] }) ≡ TwoTuples a ∷ []
unfolding of_node_lists tuple_not_in_order two_tuples has_unsorted_tuple has_two_tuples apps_of
two_of_two = refl
