-- Worked rows of applications that depend on themselves, or that are lost together.
use Rattle.std.proofs.Common.{◌≡◌, [], ◌∷◌, None, refl}
use Rattle.rh_model.specs.declared.settings.Dep.TheVariants.{Listed, Platform}
use Rattle.rh_model.specs.Needs.{needed_apps}
use Rattle.rh_state.specs.Numbers.{nodes_of, apps_of}
use Rattle.rh_file_lint.specs.declared.finding.FileFinding.TheVariants.{DependencyCircle, LostTogether}
use Rattle.rh_file_lint.specs.Circles.{depends_within, is_in_circle}
use Rattle.rh_file_lint.specs.Losses.{has_rival, can_contend, is_standby_of, can_be_lost_to, are_lost_together}
use Rattle.rh_file_lint.specs.Findings.{dependency_circle, lost_together, of_several_apps}
use Rattle.rh_file_lint.proofs.Samples.{n1, n2, n3, a, b, c, app, at, plain, with_apps}

-- ---- circles
-- a chain has none, and b is needed by two
chain : of_several_apps (with_apps (app (Listed b ∷ Listed c ∷ []) None ∷ app (Listed c ∷ Platform 0 ∷ []) None ∷ app [] None ∷ [])) ≡ []
unfolding of_several_apps dependency_circle lost_together is_in_circle depends_within needed_apps are_lost_together nodes_of apps_of
chain = refl

-- a circle of all three
three : of_several_apps (with_apps (app (Listed b ∷ []) None ∷ app (Listed c ∷ []) None ∷ app (Listed a ∷ []) None ∷ [])) ≡ DependencyCircle a ∷ DependencyCircle b ∷ DependencyCircle c ∷ []
unfolding of_several_apps dependency_circle lost_together is_in_circle depends_within needed_apps are_lost_together nodes_of apps_of
three = refl

-- one that leads into a circle isn't in it
leads_in : of_several_apps (with_apps (app (Listed b ∷ []) None ∷ app (Listed c ∷ []) None ∷ app (Platform 0 ∷ Listed b ∷ []) None ∷ [])) ≡ DependencyCircle b ∷ DependencyCircle c ∷ []
unfolding of_several_apps dependency_circle lost_together is_in_circle depends_within needed_apps are_lost_together nodes_of apps_of
leads_in = refl

-- ---- lost together
-- lost with n1 to the tuple of n2 and n3
tuple_of_standbys : of_several_apps (with_apps (app [] (at 1000 ((n1 ∷ []) ∷ (n2 ∷ n3 ∷ []) ∷ [])) ∷ app [] (at 1000 ((n1 ∷ []) ∷ (n2 ∷ n3 ∷ []) ∷ [])) ∷ app [] None ∷ []))
    ≡ LostTogether a b ∷ []
unfolding of_several_apps dependency_circle lost_together is_in_circle depends_within needed_apps are_lost_together has_rival can_be_lost_to can_contend is_standby_of nodes_of apps_of
tuple_of_standbys = refl

-- another timeout, and none where b isn't distributed
other_timeouts : of_several_apps (with_apps (app [] (at 1000 ((n1 ∷ []) ∷ (n2 ∷ n3 ∷ []) ∷ [])) ∷ app [] (at 2000 ((n1 ∷ []) ∷ (n2 ∷ n3 ∷ []) ∷ [])) ∷ app [] None ∷ [])) ≡ []
unfolding of_several_apps dependency_circle lost_together is_in_circle depends_within needed_apps are_lost_together has_rival can_be_lost_to can_contend is_standby_of nodes_of apps_of
other_timeouts = refl

-- lists that cross behind the node with which both are lost
crossed_lists : of_several_apps (with_apps (app [] None ∷ app [] (at 0 ((n3 ∷ []) ∷ (n1 ∷ []) ∷ (n2 ∷ []) ∷ [])) ∷ app [] (at 0 ((n3 ∷ []) ∷ (n2 ∷ []) ∷ (n1 ∷ []) ∷ [])) ∷ []))
    ≡ LostTogether b c ∷ []
unfolding of_several_apps dependency_circle lost_together is_in_circle depends_within needed_apps are_lost_together has_rival can_be_lost_to can_contend is_standby_of nodes_of apps_of
crossed_lists = refl

-- plain lists of one order
one_order : of_several_apps (with_apps (app [] (at 0 plain) ∷ app [] (at 0 plain) ∷ app [] (at 0 plain) ∷ [])) ≡ []
unfolding of_several_apps dependency_circle lost_together is_in_circle depends_within needed_apps are_lost_together has_rival can_be_lost_to can_contend is_standby_of nodes_of apps_of
one_order = refl

-- a tuple first: where n1 is lost, n2 is the one standby of its group
tuple_first : of_several_apps (with_apps (app [] (at 0 ((n1 ∷ n2 ∷ []) ∷ (n3 ∷ []) ∷ [])) ∷ app [] (at 0 ((n1 ∷ n2 ∷ []) ∷ (n3 ∷ []) ∷ [])) ∷ app [] None ∷ [])) ≡ []
unfolding of_several_apps dependency_circle lost_together is_in_circle depends_within needed_apps are_lost_together has_rival can_be_lost_to can_contend is_standby_of nodes_of apps_of
tuple_first = refl

-- a tuple of all three: two are left
tuple_of_three : of_several_apps (with_apps (app [] (at 0 ((n1 ∷ n2 ∷ n3 ∷ []) ∷ [])) ∷ app [] (at 0 plain) ∷ app [] None ∷ [])) ≡ LostTogether a b ∷ []
unfolding of_several_apps dependency_circle lost_together is_in_circle depends_within needed_apps are_lost_together has_rival can_be_lost_to can_contend is_standby_of nodes_of apps_of
tuple_of_three = refl
