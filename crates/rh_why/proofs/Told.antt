-- Each reason that is told is so.
use Rattle.std.proofs.Common.{◌≡◌, ◌≢◌, ◌≤◌, ◌++◌, ◌⊎◌, inl, inr, ℕ, Bool, true, false, cond, not, find, List, [], ◌∷◌, Option, Some, None, refl, sym, ap, ◌∙◌, arith, subst}
use Rattle.std.specs.List.{Contains}
use Rattle.std.specs.Option.{option_map, option_to_list}
use Rattle.std.proofs.lemmas.List.Elements.{All-contains, Contains-append_cases}
use Rattle.rh_model.specs.declared.node.Node.{Node}
use Rattle.rh_model.specs.declared.node.App.{App}
use Rattle.rh_model.specs.declared.settings.Dep.{Dep}
use Rattle.rh_model.specs.ClusterView.{deps_of}
use Rattle.rh_state.specs.declared.status.Standing.{Standing}
use Rattle.rh_state.specs.declared.status.Standing.TheVariants.{Quiet, Wanted, Running, Lost}
use Rattle.rh_state.specs.declared.status.Timer.{Timer}
use Rattle.rh_state.specs.declared.status.Timer.TheVariants.{Failover}
use Rattle.rh_state.specs.Timers.{same_timer}
use Rattle.rh_state.specs.StateView.{StateView, runs_at, waits_at, is_allowed, standing_of, due_of}
use Rattle.rh_rules.specs.Course.{is_local}
use Rattle.rh_rules.specs.Placing.{dep_runs, missing_dep}
use Rattle.rh_base.proofs.Lists.{cases}
use Rattle.rh_trace.specs.Validity.{IsSound, IsValid}
use Rattle.rh_base.proofs.Truths.{both}
use Rattle.rh_trace.proofs.Firsts.{In, in_contained, contained_in}
use Rattle.rh_why.specs.declared.reason.Reason.{Reason}
use Rattle.rh_why.specs.declared.reason.Reason.TheVariants as reason
use Rattle.rh_why.specs.Reasons.{lacking, forbidding, standing_reason, by_standing, reasons}
use Rattle.rh_why.specs.Laws.{IsSo}
use Rattle.rh_why.proofs.HasReason.{waiting_reasons}

-- ---- what a list contains
nothing : {A P : Type 0} (x : A) → Contains [] x → P
nothing x c = absurd (in_contained [] c.0 x c.1 c.2)

only : {A : Type 0} (y x : A) → Contains (y ∷ []) x → y ≡ x
only y x c = by (in_contained (y ∷ []) c.0 x c.1 c.2)
  where
    by : In x (y ∷ []) → y ≡ x
    by (inl e) = e
    by (inr h) = absurd h

-- what is found is there, and passes
pub found : {A : Type 0} (p : A → Bool) (xs : List A) (x : A) → find p xs ≡ Some x → In x xs × (p x ≡ true)
found p [] x h = cc
found {A} p (y ∷ ys) x h = by (p y) refl h (found p ys x)
  where
    same : Some y ≡ Some x → y ≡ x
    same e = cc e

    by : (b : Bool) → p y ≡ b → cond b (Some y) (find p ys) ≡ Some x → (find p ys ≡ Some x → In x ys × (p x ≡ true)) → In x (y ∷ ys) × (p x ≡ true)
    by true e is rest = (inl (same is), ap p (sym (same is)) ∙ e)
    by false e is rest = let r = rest is in (inr r.0, r.1)

-- a test that is denied is false
denied : (b : Bool) → not b ≡ true → b ≡ false
denied true h = cc
denied false h = refl

-- ---- a dependency
lacks : (s : StateView) (a : App) (n : Node) (r : Reason) → Contains (lacking s a n) r → IsSo s a n r
unfolding missing_dep
lacks s a n r c = by (find (λ (d : Dep). not (dep_runs s n d)) (deps_of s.cluster a)) refl c
  where
    by : (o : Option Dep) → find (λ (d : Dep). not (dep_runs s n d)) (deps_of s.cluster a) ≡ o → Contains (option_to_list (option_map reason.Needs o)) r → IsSo s a n r
    by None e h = nothing r h
    by (Some d) e h =
        let there = found (λ (k : Dep). not (dep_runs s n k)) (deps_of s.cluster a) d e in
        subst (IsSo s a n) (only (reason.Needs d) r h) (contained_in (deps_of s.cluster a) d there.0, denied (dep_runs s n d) there.1)

-- ---- a permission
forbids : (s : StateView) (a : App) (n : Node) (r : Reason) → Contains (forbidding s a n) r → IsSo s a n r
forbids s a n r c = by (is_allowed s n a) refl c
  where
    by : (b : Bool) → is_allowed s n a ≡ b → Contains (cond b [] (reason.Forbidden ∷ [])) r → IsSo s a n r
    by true e h = nothing r h
    by false e h = subst (IsSo s a n) (only reason.Forbidden r h) e

-- ---- a standing
-- a timer is due no earlier than now
due_later : (s : StateView) (a : App) (due : ℕ) → IsSound s → due_of s (Failover a) ≡ Some due → s.time ≤ due
due_later s a due sound set = by (find (λ (entry : ℕ × Timer). same_timer (Failover a) entry.1) s.timers) refl set
  where
    same : (i j : ℕ) → Some i ≡ Some j → i ≡ j
    same i j e = cc e

    by : (o : Option (ℕ × Timer)) → find (λ (entry : ℕ × Timer). same_timer (Failover a) entry.1) s.timers ≡ o
        → option_map (λ (entry : ℕ × Timer). entry.0) o ≡ Some due → s.time ≤ due
    by None e h = cc
    by (Some entry) e h =
        let there = found (λ (k : ℕ × Timer). same_timer (Failover a) k.1) s.timers entry e in
        let late = All-contains (λ (k : ℕ × Timer). s.time ≤ k.0) s.timers entry sound.timers.due (contained_in s.timers entry there.0) in
        let is = same entry.0 due h in omega (arith, late, is)

-- a distributed one that isn't to run runs nowhere
runs_nowhere : (s : StateView) (a : App) (m : Node) → IsSound s → is_local s.cluster a ≡ false → standing_of s a ≡ Quiet → runs_at s m a ≡ false
runs_nowhere s a m sound far at = cases (runs_at s m a)
    (λ t. absurd (other m (sym at ∙ sound.standing.stands m a far t)))
    (λ f. f)
  where
    other : (k : Node) → Quiet ≡ Running k → ⊥
    other k e = cc

-- one that runs at a node doesn't wait there
elsewhere : (s : StateView) (a : App) (m n : Node) → IsSound s → waits_at s n a ≡ true → runs_at s m a ≡ true → m ≢ n
elsewhere s a m n sound w t e =
    both (runs_at s n a) (subst (λ (k : Node). runs_at s k a ≡ true) e t) (sound.once.apart n a w)

stood : (s : StateView) (a : App) (n : Node) (st : Standing) (r : Reason) → IsSound s → waits_at s n a ≡ true → is_local s.cluster a ≡ false
    → standing_of s a ≡ st → Contains (standing_reason s a st) r → IsSo s a n r
stood s a n (Wanted from) r sound w far at c = nothing r c
stood s a n Quiet r sound w far at c =
    subst (IsSo s a n) (only reason.Quiet r c) (far, at, λ m. runs_nowhere s a m sound far at)
stood s a n (Running m) r sound w far at c =
    let t = sound.runs.runs a m at in
    subst (IsSo s a n) (only (reason.RunsAt m) r c) (t, elsewhere s a m n sound w t)
stood s a n (Lost m) r sound w far at c = by (due_of s (Failover a)) refl c
  where
    by : (o : Option ℕ) → due_of s (Failover a) ≡ o → Contains (option_to_list (option_map (reason.LostWith m) o)) r → IsSo s a n r
    by None e h = nothing r h
    by (Some due) e h = subst (IsSo s a n) (only (reason.LostWith m due) r h) (at, e, due_later s a due sound e)

stands_so : (s : StateView) (a : App) (n : Node) (r : Reason) → IsSound s → waits_at s n a ≡ true → Contains (by_standing s a) r → IsSo s a n r
stands_so s a n r sound w c = by (is_local s.cluster a) refl c
  where
    by : (b : Bool) → is_local s.cluster a ≡ b → Contains (cond b [] (standing_reason s a (standing_of s a))) r → IsSo s a n r
    by true e h = nothing r h
    by false e h = stood s a n (standing_of s a) r sound w e refl h

-- ---- all of them
so_if_waits : (s : StateView) (a : App) (n : Node) (r : Reason) → IsSound s → waits_at s n a ≡ true → Contains (reasons s a n) r → IsSo s a n r
so_if_waits s a n r sound w c =
    by (Contains-append_cases (lacking s a n ++ forbidding s a n) (by_standing s a) r
    (subst (λ (rs : List Reason). Contains rs r) (waiting_reasons s a n w) c))
  where
    first : Contains (lacking s a n) r ⊎ Contains (forbidding s a n) r → IsSo s a n r
    first (inl h) = lacks s a n r h
    first (inr h) = forbids s a n r h

    by : Contains (lacking s a n ++ forbidding s a n) r ⊎ Contains (by_standing s a) r → IsSo s a n r
    by (inl h) = first (Contains-append_cases (lacking s a n) (forbidding s a n) r h)
    by (inr h) = stands_so s a n r sound w h

none_told : (s : StateView) (a : App) (n : Node) → waits_at s n a ≡ false → reasons s a n ≡ []
unfolding reasons
none_told s a n f = ap (λ b. cond b (lacking s a n ++ forbidding s a n ++ by_standing s a) []) f

pub reasons_are_so : (s : StateView) (a : App) (n : Node) (r : Reason) → IsValid s → Contains (reasons s a n) r → (waits_at s n a ≡ true) × IsSo s a n r
reasons_are_so s a n r valid c = cases (waits_at s n a)
    (λ w. (w, so_if_waits s a n r valid.sound w c))
    (λ f. nothing r (subst (λ (rs : List Reason). Contains rs r) (none_told s a n f) c))
