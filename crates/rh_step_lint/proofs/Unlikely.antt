-- A kind that may not speak of a node and an application finds nothing there.
use Rattle.std.proofs.Common.{◌≡◌, ◌∙◌, ◌&&◌, ◌||◌, ◌==◌, ◌∷◌, [], ℕ, not, List, Bool, true, false, Option, Some, None, cond, length, get_or, position, is_some, is_none, unwrap_or, find, All, refl, ap, sym, subst, inl, inr, arith, ne_eqb}
use Rattle.std.specs.List.{list_any, flat_map}
use Rattle.std.specs.Option.{option_and_then, option_map, option_to_list}
use Rattle.std.proofs.lemmas.Bool.{true≢false, false≢true, and_cases, and_parts, and_right, and_from, cases_Bool, false_from_ne_true, not_from_false}
use Rattle.std.proofs.lemmas.List.Quantifiers.{position-Some}
use Rattle.std.proofs.lemmas.List.Folds.{list_any_at}
use Rattle.std.proofs.lemmas.List.Elements.{All-nil, All-cons, All-append}
use Rattle.rh_model.specs.Needs.{needed_apps}
use Rattle.rh_model.specs.ClusterView.{is_in, group_of, spread_of}
use Rattle.rh_model.specs.declared.node.Node.{Node}
use Rattle.rh_model.specs.declared.node.App.{App}
use Rattle.rh_model.specs.declared.settings.Spread.{Spread}
use Rattle.rh_state.specs.Numbers.{same_node, nodes_of, apps_of}
use Rattle.rh_state.specs.StateView.{StateView}
use Rattle.rh_rules.specs.declared.event.Event.{Event}
use Rattle.rh_step_findings.specs.After.{is_up_after, is_started_after, is_permitted_after}
use Rattle.rh_step_findings.specs.Candidates.{ranks_before, share_group, are_linked, is_available, is_outranked, is_best, asks_all, is_idle, holds_up}
use Rattle.rh_step_findings.specs.Tries.{runner, tries, is_open_from, asks_others}
use Rattle.rh_step_findings.specs.Others.{stands_so, other_so}
use Rattle.rh_step_findings.specs.Lacks.{lacks_so, lacking_so}
use Rattle.rh_step_findings.specs.Pairs.{found, is_behind, is_regained, starts_forbidden, starts_below, takes_back, is_behind_tuple, is_placed_behind_tuple, boots_now, boots_to_run, goes_to, permits_quiet, forbids_runner, forbids_last, forbids_twice}
use Rattle.rh_step_findings.specs.Ranked.{is_free, is_spare, has_spare}
use Rattle.rh_step_findings.specs.Touched.{has_needs, trial_of, touch_of, may_speak, found_in, is_touched, touched_with, touched_at, all_touched}
use Rattle.rh_step_findings.specs.declared.code.Code.{Code}
use Rattle.rh_step_findings.specs.declared.code.Code.TheVariants as code
use Rattle.rh_step_findings.specs.declared.lack.Lack.{Lack}
use Rattle.rh_step_findings.specs.declared.lack.Lack.TheVariants.{Forbidden, Later, Elsewhere, Gone}
use Rattle.rh_step_findings.specs.declared.touch.Touch.{Touch}
use Rattle.rh_step_findings.specs.declared.relation.Relation.TheVariants.{BetterIdle, TupleIdle, WorseIdle}
use Rattle.rh_step_lint.proofs.Ranks.{member}
use Rattle.rh_step_lint.proofs.Untouched.{permits_not, forbids_not, stops_not, moves_not, ends_not}

-- ---- lists
find_not : (p : Node → Bool) (xs : List Node) → ((m : Node) → p m ≡ false) → find p xs ≡ None
find_not p [] fails = refl
find_not p (m ∷ xs) fails = rw (fails m) (find_not p xs fails)

find_in_none : (p : App → Bool) (xs : List App) → not (length xs == 0) ≡ false → find p xs ≡ None
find_in_none p [] fails = refl
find_in_none p (a ∷ xs) fails = absurd (true≢false (sym (not_from_false (length (a ∷ xs) == 0) (ne_eqb (length (a ∷ xs)) 0 (λ e. omega (arith, e)))) ∙ fails))

either : {X : Type 0} (b : Bool) (x : X) → cond b x x ≡ x
either true x = refl
either false x = refl

-- a node that stands in some group, and passes
in_group : (groups : List (List Node)) (p : Node → Bool) (m : Node) (place : Option ℕ) → position (is_in m) groups ≡ place → is_some place ≡ true → p m ≡ true
    → list_any (list_any p) groups ≡ true
in_group groups p m None is listed passes = absurd (false≢true listed)
in_group groups p m (Some i) is listed passes =
    let here = position-Some (is_in m) groups i [] is in
    list_any_at (list_any p) groups i [] here.0 (member m p (get_or groups i []) here.1 passes)

place_in : (o : Option Spread) (p : Node → Bool) (m : Node) → is_some (option_and_then (λ (v : Spread). position (is_in m) v.groups) o) ≡ true → p m ≡ true
    → list_any (list_any p) (unwrap_or (option_map (λ (v : Spread). v.groups) o) []) ≡ true
place_in None p m listed passes = absurd (false≢true listed)
place_in (Some v) p m listed passes = in_group v.groups p m (position (is_in m) v.groups) refl listed passes

-- ---- the others that a node waits for
module _ (s : StateView) (e : Event) (n : Node) (a : App) where
  idle_is_spare : (m : Node) → is_idle s e n a m ≡ true → has_spare s e a ≡ true
  unfolding is_idle is_available has_spare
  idle_is_spare m idle =
      let other = (and_parts (not (same_node n m)) (is_available s e a m && (not (is_started_after s e m a) && are_linked s.cluster n m)) idle).1 in
      let there = and_parts (is_available s e a m) (not (is_started_after s e m a) && are_linked s.cluster n m) other in
      let unstarted = (and_parts (not (is_started_after s e m a)) (are_linked s.cluster n m) there.1).0 in
      let listed = and_parts (is_some (group_of s.cluster a m)) (is_free s e a m) there.0 in
      place_in (spread_of s.cluster a) (is_spare s e a) m listed.0 (and_from (is_free s e a m) (not (is_started_after s e m a)) listed.1 unstarted)

  module _ (fails : has_spare s e a ≡ false) where
    holds_not : (m : Node) → holds_up s e n a m ≡ false
    unfolding holds_up
    holds_not m = false_from_ne_true (holds_up s e n a m) (λ holds. true≢false
        (sym (idle_is_spare m (and_parts (is_idle s e n a m) (is_best s e a m || asks_all s e a) holds).0) ∙ fails))

    better_not : other_so s e BetterIdle n a ≡ None
    unfolding other_so stands_so
    better_not = find_not (λ m. ranks_before s.cluster a m n && holds_up s e n a m) (nodes_of s.cluster)
        (λ m. and_right (ranks_before s.cluster a m n) (holds_up s e n a m) (holds_not m))

    tuple_not : other_so s e TupleIdle n a ≡ None
    unfolding other_so stands_so
    tuple_not = find_not (λ m. share_group s.cluster a n m && holds_up s e n a m) (nodes_of s.cluster)
        (λ m. and_right (share_group s.cluster a n m) (holds_up s e n a m) (holds_not m))

    worse_not : other_so s e WorseIdle n a ≡ None
    unfolding other_so stands_so
    worse_not = find_not (λ m. ranks_before s.cluster a n m && holds_up s e n a m) (nodes_of s.cluster)
        (λ m. and_right (ranks_before s.cluster a n m) (holds_up s e n a m) (holds_not m))

  lacking_not : (lack : Lack) → has_needs s a ≡ false → lacking_so s e lack n a ≡ None
  unfolding lacking_so
  lacking_not lack fails = find_in_none (lacks_so s e lack n a) (needed_apps s.cluster a) fails

  -- ---- each kind
  pub unlikely : (kind : Code) → may_speak kind (touch_of s e n a) ≡ false → found s e kind n a ≡ None
  unfolding found permits_quiet forbids_runner forbids_last forbids_twice boots_to_run
  unlikely code.BetterNodeNotStarted fails = elim (and_cases (asks_others s e n a) (has_spare s e a) fails) [
    | inl asks ↦ rw asks
    | inr spare ↦ rw (better_not spare) (either (asks_others s e n a) None)
  ]
  unlikely code.TupleMemberNotStarted fails = elim (and_cases (asks_others s e n a) (has_spare s e a) fails) [
    | inl asks ↦ rw asks
    | inr spare ↦ rw (tuple_not spare) (either (asks_others s e n a) None)
  ]
  unlikely code.WorseNodeNotStarted fails = elim (and_cases (asks_others s e n a) (has_spare s e a) fails) [
    | inl asks ↦ rw asks
    | inr spare ↦ rw (worse_not spare) (either (asks_others s e n a) None)
  ]
  unlikely code.ForbiddenStartWaits fails = rw fails
  unlikely code.RunsAtAWorseNode fails = rw fails
  unlikely code.TupleTakeover fails = rw fails
  unlikely code.BetterNodeWaitsQuiet fails = rw fails
  unlikely code.PermitStartsQuiet fails = rw (permits_not s e n a fails)
  unlikely code.DependencyForbiddenAtStart fails = elim (and_cases (has_needs s a) (boots_now s e n a) fails) [
    | inl needs ↦ rw (lacking_not Forbidden needs) (either (boots_now s e n a) None)
    | inr boots ↦ rw boots
  ]
  unlikely code.BeforeDependency fails = elim (and_cases (has_needs s a) (boots_now s e n a) fails) [
    | inl needs ↦ rw (lacking_not Later needs) (either (boots_now s e n a) None)
    | inr boots ↦ rw boots
  ]
  unlikely code.ForbidMoves fails = rw (forbids_not e n a fails)
  unlikely code.ForbidOtherNotStarted fails = rw (forbids_not e n a fails)
  unlikely code.StartWithinTime fails = rw fails
  unlikely code.NobodySawTheLoss fails = rw fails
  unlikely code.WeightsForEver fails = rw fails
  unlikely code.OwnEnd fails = rw (ends_not s e n a fails)
  unlikely code.KindAfterLoss fails = rw fails
  unlikely code.DependencyGone fails = elim (and_cases (has_needs s a) (goes_to s e n a) fails) [
    | inl needs ↦ rw (lacking_not Gone needs) (either (goes_to s e n a) None)
    | inr goes ↦ rw goes
  ]
  unlikely code.NeedsADistributedOne fails = elim (and_cases (has_needs s a) (boots_now s e n a) fails) [
    | inl needs ↦ rw (lacking_not Elsewhere needs) (either (boots_to_run s e n a) None)
    | inr boots ↦ rw boots
  ]
  unlikely code.ForbidWithUnlistedNodes fails = rw (forbids_not e n a fails)
  unlikely code.TakeoverNotStarted fails = rw (moves_not s e n a fails)
  unlikely code.LocalForbiddenTwice fails = rw (forbids_not e n a fails)
  unlikely code.LocalStopWhileForbidden fails = rw (stops_not s e n a fails)

-- ---- what comes of a trial
module _ (s : StateView) (e : Event) (n : Node) (a : App) where
  pub no_trial : tries s e n a ≡ false
      → trial_of s e n a ≡ record { waits = false; forbidden = false; below = false; back = false; weighs = false }
  unfolding asks_others starts_forbidden starts_below takes_back is_placed_behind_tuple
  no_trial fails = rw fails

  open_is : (at : Option Node) → is_open_from s e n a at ≡ (is_none at || (is_best s e a n && is_behind s e a at))
  unfolding is_behind
  open_is None = refl
  open_is (Some r) = refl

  permitted_there : is_available s e a n ≡ true → is_permitted_after s e n a ≡ true
  unfolding is_available
  permitted_there there =
      let free = (and_parts (is_some (group_of s.cluster a n)) (is_free s e a n) there).1 in
      (and_parts (is_up_after s e n) (is_permitted_after s e n a) free).1

  -- at a node that may run it
  pub trial_there_is : tries s e n a ≡ true → is_available s e a n ≡ true → trial_of s e n a ≡ record {
    waits = (is_none (runner s e a) || (not (is_outranked s e a n) && is_behind s e a (runner s e a))) && has_spare s e a;
    forbidden = false;
    below = not (not (is_outranked s e a n)) && (is_behind s e a (runner s e a) && not (is_regained s e a));
    back = not (is_outranked s e a n) && is_behind s e a (runner s e a);
    weighs = not (is_outranked s e a n) && (is_none (runner s e a) && is_behind_tuple s a n);
  }
  unfolding asks_others starts_forbidden starts_below takes_back is_placed_behind_tuple is_best
  trial_there_is holds there = rw (holds, open_is (runner s e a), there, permitted_there there)

  -- and at one that may not
  pub trial_nowhere_is : tries s e n a ≡ true → is_available s e a n ≡ false → trial_of s e n a ≡ record {
    waits = false;
    forbidden = starts_forbidden s e n a;
    below = false;
    back = false;
    weighs = false;
  }
  unfolding asks_others starts_forbidden starts_below takes_back is_placed_behind_tuple is_best
  trial_nowhere_is holds fails = rw (holds, fails)

-- ---- each of those that are touched is as it is told
module _ (s : StateView) (e : Event) where
  abbrev Told : Touch → Type 0
  Told t = t ≡ touch_of s e t.node t.app

  told_with : (n : Node) (a : App) → All Told (touched_with s e n a)
  told_with n a = elim (cases_Bool (is_touched s e n a)) [
    | inl holds ↦ rw holds (All-cons Told (touch_of s e n a) [] refl (All-nil Told))
    | inr fails ↦ rw fails (All-nil Told)
  ]

  told_at : (n : Node) (apps : List App) → All Told (flat_map (touched_with s e n) apps)
  told_at n [] = All-nil Told
  told_at n (a ∷ apps) = All-append Told (touched_with s e n a) (flat_map (touched_with s e n) apps) (told_with n a) (told_at n apps)

  told_among : (nodes : List Node) → All Told (flat_map (touched_at s e) nodes)
  unfolding touched_at
  told_among [] = All-nil Told
  told_among (n ∷ nodes) = All-append Told (touched_at s e n) (flat_map (touched_at s e) nodes) (told_at n (apps_of s.cluster)) (told_among nodes)

  pub told_in : (touched : List Touch) → touched ≡ all_touched s e → All Told touched
  unfolding all_touched
  told_in touched are = subst (All Told) (sym are) (told_among (nodes_of s.cluster))

-- of one that is told, in the list of what is found
pub unlikely_in : (s : StateView) (e : Event) (kind : Code) (t : Touch) → t ≡ touch_of s e t.node t.app → may_speak kind t ≡ false → found_in s e kind t ≡ []
unlikely_in s e kind t told fails = ap option_to_list (unlikely s e t.node t.app kind (ap (may_speak kind) (sym told) ∙ fails))
