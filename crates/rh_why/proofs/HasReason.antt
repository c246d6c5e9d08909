-- Before and behind each event an application that waits has a reason.
use Rattle.std.proofs.Common.{◌≡◌, ◌≢◌, ◌&&◌, ◌++◌, ◌⊎◌, inl, inr, nat_lt, ℕ, Bool, true, false, cond, not, find, List, [], ◌∷◌, length, Option, Some, None, IsSome, is_some, is_none, unwrap_or, refl, sym, ap, ◌∙◌, arith}
use Rattle.std.specs.Option.{option_map, option_to_list}
use Rattle.std.proofs.lemmas.Option.{slice_get_past}
use Rattle.rh_model.specs.declared.node.Node.{Node}
use Rattle.rh_model.specs.declared.node.App.{App}
use Rattle.rh_model.specs.declared.settings.Dep.{Dep}
use Rattle.rh_model.specs.ClusterView.{spread_of, group_of, deps_of}
use Rattle.rh_state.specs.declared.status.Standing.{Standing}
use Rattle.rh_state.specs.declared.status.Standing.TheVariants.{Quiet, Wanted, Running, Lost}
use Rattle.rh_state.specs.declared.status.Timer.TheVariants.{Failover}
use Rattle.rh_state.specs.Lists.{has_app}
use Rattle.rh_state.specs.Standings.{is_lost}
use Rattle.rh_state.specs.Shape.{IsShaped, IsNodeOf, IsAppOf}
use Rattle.rh_state.specs.StateView.{StateView, mode_of, is_up, runs_at, waits_at, is_allowed, standing_of, due_of}
use Rattle.rh_rules.specs.Course.{is_local}
use Rattle.rh_rules.specs.Placing.{dep_runs, deps_run, missing_dep, is_operational}
use Rattle.rh_base.proofs.Lists.{cases, all_pass}
use Rattle.rh_trace.specs.Validity.{IsSound, IsValid}
use Rattle.rh_base.proofs.Truths.{or_right, both}
use Rattle.rh_trace.proofs.Entries.{either, is_above, is_below, row_there}
use Rattle.rh_settle.proofs.FieldLaws.{never_left_wanted, waits_for_a_reason}
use Rattle.rh_why.specs.declared.reason.Reason.TheVariants as reason
use Rattle.rh_why.specs.Reasons.{lacking, forbidding, standing_reason, by_standing, reasons}

-- ---- lists of reasons without one
left_empty : {A : Type 0} (xs ys : List A) → xs ++ ys ≡ [] → xs ≡ []
left_empty [] ys e = refl
left_empty (x ∷ xs) ys e = cc

right_empty : {A : Type 0} (xs ys : List A) → xs ++ ys ≡ [] → ys ≡ []
right_empty [] ys e = e
right_empty (x ∷ xs) ys e = cc

-- all dependencies run
no_dep : (s : StateView) (a : App) (n : Node) → lacking s a n ≡ [] → deps_run s n a ≡ true
unfolding missing_dep deps_run
no_dep s a n e = sym (all_pass (dep_runs s n) (deps_of s.cluster a)) ∙ none (find (λ (d : Dep). not (dep_runs s n d)) (deps_of s.cluster a)) e
  where
    none : (o : Option Dep) → option_to_list (option_map reason.Needs o) ≡ [] → is_none o ≡ true
    none None h = refl
    none (Some d) h = cc

-- it may run
not_forbidden : (s : StateView) (a : App) (n : Node) → forbidding s a n ≡ [] → is_allowed s n a ≡ true
not_forbidden s a n = by (is_allowed s n a)
  where
    by : (b : Bool) → cond b [] (reason.Forbidden ∷ []) ≡ [] → b ≡ true
    by true e = refl
    by false e = cc

-- ---- a pair that waits
pub waits_node : (s : StateView) (n : Node) (a : App) → IsShaped s → waits_at s n a ≡ true → IsNodeOf s.cluster n
waits_node s n a shape w = let l = row_there s.waiting n.0 a w in let e = shape.waiting in omega (arith, l, e)

waits_up : (s : StateView) (n : Node) (a : App) → IsSound s → waits_at s n a ≡ true → is_up (mode_of s n) ≡ true
waits_up s n a sound w = cases (is_up (mode_of s n))
    (λ t. t)
    (λ f. both (waits_at s n a) w (ap (λ (apps : List App). has_app apps a) (sound.idle.waiting n f)))

waits_listed : (s : StateView) (n : Node) (a : App) → IsSound s → is_local s.cluster a ≡ false → waits_at s n a ≡ true → IsSome (group_of s.cluster a n)
waits_listed s n a sound far w =
    either (is_none (spread_of s.cluster a)) (is_some (group_of s.cluster a n)) (sound.standing.listed n a (or_right (runs_at s n a) (waits_at s n a) w))
    (λ local. both (is_local s.cluster a) local far)
    (λ listed. listed)

-- it can run there where nothing forbids it
able : (s : StateView) (n : Node) (a : App) → IsSound s → waits_at s n a ≡ true → is_allowed s n a ≡ true → deps_run s n a ≡ true → is_operational s a n ≡ true
unfolding is_operational
able s n a sound w allowed deps = λ i. waits_up s n a sound w i && (or_right (runs_at s n a) (waits_at s n a) w i && (allowed i && deps i))

-- only an application of the cluster is wanted
wanted_app : (s : StateView) (a : App) (from : Option Node) → IsShaped s → standing_of s a ≡ Wanted from → IsAppOf s.cluster a
wanted_app s a from shape at = cases (nat_lt a.0 (length s.standings))
    (λ t. let l = is_below a.0 (length s.standings) t in let e = shape.standings in omega (arith, l, e))
    (λ f. absurd (other from (sym (ap (λ (o : Option Standing). unwrap_or o Quiet) (slice_get_past s.standings a.0 (is_above a.0 (length s.standings) f))) ∙ at)))
  where
    other : (k : Option Node) → Quiet ≡ Wanted k → ⊥
    other k e = cc

-- ---- so it has a reason
-- a distributed one that can run there is wanted nowhere
stands : (s : StateView) (a : App) (n : Node) (st : Standing) → IsValid s → IsSome (group_of s.cluster a n) → is_operational s a n ≡ true
    → standing_of s a ≡ st → standing_reason s a st ≡ [] → ⊥
stands s a n Quiet valid listed able at e = cc
stands s a n (Running m) valid listed able at e = cc
stands s a n (Wanted from) valid listed able at e =
    both (is_operational s a n) able (never_left_wanted s a from valid.still (wanted_app s a from valid.sound.shaped at) at n listed)
stands s a n (Lost m) valid listed able at e =
    none (due_of s (Failover a)) (valid.sound.timers.failover a ∙ ap is_lost at) e
  where
    none : (o : Option ℕ) → is_some o ≡ true → option_to_list (option_map (reason.LostWith m) o) ≡ [] → ⊥
    none None set h = cc
    none (Some due) set h = cc

far_reason : (s : StateView) (a : App) → is_local s.cluster a ≡ false → by_standing s a ≡ standing_reason s a (standing_of s a)
far_reason s a far = ap (λ b. cond b [] (standing_reason s a (standing_of s a))) far

pub waiting_reasons : (s : StateView) (a : App) (n : Node) → waits_at s n a ≡ true → reasons s a n ≡ lacking s a n ++ forbidding s a n ++ by_standing s a
unfolding reasons
waiting_reasons s a n w = ap (λ b. cond b (lacking s a n ++ forbidding s a n ++ by_standing s a) []) w

pub waiting_has_reason : (s : StateView) (a : App) (n : Node) → IsValid s → waits_at s n a ≡ true → reasons s a n ≢ []
waiting_has_reason s a n valid w none =
    let all = sym (waiting_reasons s a n w) ∙ none in
    let first = left_empty (lacking s a n ++ forbidding s a n) (by_standing s a) all in
    let deps = no_dep s a n (left_empty (lacking s a n) (forbidding s a n) first) in
    let allowed = not_forbidden s a n (right_empty (lacking s a n) (forbidding s a n) first) in
    let sound = valid.sound in
    cases (is_local s.cluster a)
    (λ local. here (waits_for_a_reason s n a valid.still (waits_node s n a sound.shaped w) local w) allowed deps)
    (λ far. stands s a n (standing_of s a) valid (waits_listed s n a sound far w) (able s n a sound w allowed deps) refl
    (sym (far_reason s a far) ∙ right_empty (lacking s a n ++ forbidding s a n) (by_standing s a) all))
  where
    here : (is_allowed s n a ≡ false) ⊎ (deps_run s n a ≡ false) → is_allowed s n a ≡ true → deps_run s n a ≡ true → ⊥
    here (inl f) allowed deps = both (is_allowed s n a) allowed f
    here (inr f) allowed deps = both (deps_run s n a) deps f
