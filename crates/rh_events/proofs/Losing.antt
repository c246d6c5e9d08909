-- Applications that are lost, one after the other.
use Rattle.std.proofs.Common.{◌≡◌, ◌≢◌, ◌≤◌, ◌+◌, ◌==◌, ℕ, suc, Bool, true, false, cond, not, List, [], ◌∷◌, map, fold, find, Option, Some, None, IsNone}
use Rattle.std.proofs.Common.{is_some, refl, sym, ap, ◌∙◌, subst, arith, nat_le}
use Rattle.std.specs.List.{range_with_len}
use Rattle.std.specs.Option.{option_map}
use Rattle.std.proofs.lemmas.List.FromFn.{map-range_with_len_more}
use Rattle.std.proofs.lemmas.List.Sums.{fold_push}
use Rattle.rh_model.specs.ClusterView.{app_numbered}
use Rattle.rh_model.specs.declared.node.Node.{Node}
use Rattle.rh_model.specs.declared.node.App.{App}
use Rattle.rh_wheel.specs.Firing.{behind}
use Rattle.rh_state.specs.declared.status.Standing.{Standing}
use Rattle.rh_state.specs.declared.status.Standing.TheVariants.{Quiet, Wanted, Running, Lost}
use Rattle.rh_state.specs.declared.status.Timer.{Timer}
use Rattle.rh_state.specs.declared.status.Timer.TheVariants.{Sync, Failover}
use Rattle.rh_state.specs.Numbers.{same_node}
use Rattle.rh_state.specs.StateView.{StateView, standing_of, due_of}
use Rattle.rh_state.specs.Setters.{with_standing, with_timer}
use Rattle.rh_state.specs.Timers.{same_timer, due_among, without_timer}
use Rattle.rh_trace.specs.Validity.{TimersFit}
use Rattle.rh_state.specs.Standings.{is_lost}
use Rattle.rh_trace.proofs.Places.{at_set_there}
use Rattle.rh_events.proofs.Tables.{differ}
use Rattle.rh_rules.specs.NodesEnd.{timeout_of, cleared, lost_at, lost_from, lost_if_ran}

-- ---- the first i applications, each if it ran at the node
abbrev pub lost_below : StateView → Node → ℕ → StateView
lost_below s n i = fold (lost_if_ran n) s (map app_numbered (range_with_len 0 i))

pub lost_more : (s : StateView) (n : Node) (i : ℕ) → lost_below s n (i + 1) ≡ lost_if_ran n (lost_below s n i) (app_numbered i)
lost_more s n i =
    ap (λ xs. fold (lost_if_ran n) s xs) (map-range_with_len_more app_numbered 0 i i (omega arith))
    ∙ fold_push (lost_if_ran n) s (map app_numbered (range_with_len 0 i)) (app_numbered i)

-- ---- timers
-- when another timer is due doesn't change
pub due_behind : (t : Timer) (new : ℕ × Timer) (xs : List (ℕ × Timer)) → same_timer t new.1 ≡ false → due_among t (behind new xs) ≡ due_among t xs
due_behind t new [] differs = ap (λ b. option_map (λ (e : ℕ × Timer). e.0) (cond b (Some new) None)) differs
due_behind t new (x ∷ xs) differs = by (nat_le x.0 new.0) (due_behind t new xs differs)
  where
    past : (b : Bool) (p q : Option (ℕ × Timer)) → option_map (λ (e : ℕ × Timer). e.0) p ≡ option_map (λ (e : ℕ × Timer). e.0) q
        → option_map (λ (e : ℕ × Timer). e.0) (cond b (Some x) p) ≡ option_map (λ (e : ℕ × Timer). e.0) (cond b (Some x) q)
    past true p q h = refl
    past false p q h = h

    by : (b : Bool) → due_among t (behind new xs) ≡ due_among t xs → due_among t (cond b (x ∷ behind new xs) (new ∷ x ∷ xs)) ≡ due_among t (x ∷ xs)
    by true later = past (same_timer t x.1) (find (λ e. same_timer t e.1) (behind new xs)) (find (λ e. same_timer t e.1) xs) later
    by false later = ap (λ b. option_map (λ (e : ℕ × Timer). e.0) (cond b (Some new) (find (λ e. same_timer t e.1) (x ∷ xs)))) differs

-- that of an application isn't a node's
pub due_without_sync : (a : App) (n : Node) (xs : List (ℕ × Timer)) → due_among (Failover a) (without_timer (Sync n) xs) ≡ due_among (Failover a) xs
due_without_sync a n [] = refl
due_without_sync a n ((due, Sync m) ∷ xs) = by (same_node n m) (due_without_sync a n xs)
  where
    by : (b : Bool) → due_among (Failover a) (without_timer (Sync n) xs) ≡ due_among (Failover a) xs
        → due_among (Failover a) (cond (not b) ((due, Sync m) ∷ without_timer (Sync n) xs) (without_timer (Sync n) xs)) ≡ due_among (Failover a) xs
    by true h = h
    by false h = h
due_without_sync a n ((due, Failover b) ∷ xs) = by (same_timer (Failover a) (Failover b)) (due_without_sync a n xs)
  where
    by : (p : Bool) → due_among (Failover a) (without_timer (Sync n) xs) ≡ due_among (Failover a) xs
        → option_map (λ (e : ℕ × Timer). e.0) (cond p (Some (due, Failover b)) (find (λ e. same_timer (Failover a) e.1) (without_timer (Sync n) xs)))
        ≡ option_map (λ (e : ℕ × Timer). e.0) (cond p (Some (due, Failover b)) (find (λ e. same_timer (Failover a) e.1) xs))
    by true h = refl
    by false h = h

-- ---- of the others nothing changes
-- s and t agree about an application
pub record Agree (s t : StateView) (a : App) : Type 0 where
  pub standing : standing_of t a ≡ standing_of s a
  pub due : due_of t (Failover a) ≡ due_of s (Failover a)
  pub cluster : t.cluster ≡ s.cluster

agree_self : (s : StateView) (a : App) → Agree s s a
agree_self s a = record { standing = refl; due = refl; cluster = refl }

lost_at_others : (s : StateView) (n : Node) (a b : App) → b.0 ≢ a.0 → Agree s (lost_at s n a) b
lost_at_others s n a b other = by (timeout_of s.cluster a == 0)
  where
    by : (p : Bool) → Agree s (cond p (with_standing s a (Wanted (Some n)))
        (with_timer (with_standing s a (Lost n)) (s.time + timeout_of s.cluster a) (Failover a))) b
    by true = record { standing = at_set_there s.standings a.0 b.0 (Wanted (Some n)) Quiet other; due = refl; cluster = refl }
    by false = record {
      standing = at_set_there s.standings a.0 b.0 (Lost n) Quiet other;
      due = due_behind (Failover b) (s.time + timeout_of s.cluster a, Failover a) s.timers (differ b.0 a.0 other);
      cluster = refl;
    }

pub lost_others : (s : StateView) (n : Node) (a b : App) → b.0 ≢ a.0 → Agree s (lost_if_ran n s a) b
unfolding lost_if_ran
lost_others s n a b other = by (standing_of s a)
  where
    if_same : (p : Bool) → Agree s (cond p (lost_at s n a) s) b
    if_same true = lost_at_others s n a b other
    if_same false = agree_self s b

    by : (st : Standing) → Agree s (lost_from s n a st) b
    by (Running m) = if_same (same_node m n)
    by _ = agree_self s b

pub lost_cluster : (s : StateView) (n : Node) (a : App) → (lost_if_ran n s a).cluster ≡ s.cluster
lost_cluster s n a = (lost_others s n a (app_numbered (suc a.0)) (λ e. absurd (omega (arith, e)))).cluster

-- ---- an application that runs has no timer
-- none of those from i on that stand as running at the node
abbrev pub UnsetFrom : StateView → Node → ℕ → Type 0
UnsetFrom s n i = (a : App) → i ≤ a.0 → standing_of s a ≡ Running n → IsNone (due_of s (Failover a))

pub unset_later : (s : StateView) (n : Node) (i : ℕ) → UnsetFrom s n i → UnsetFrom (lost_if_ran n s (app_numbered i)) n (i + 1)
unset_later s n i unset a from runs =
    let agree = lost_others s n (app_numbered i) a (λ e. absurd (omega (arith, e, from))) in
    subst (λ o. IsNone o) (sym agree.due) (unset a (omega (arith, from)) (sym agree.standing ∙ runs))

pub unset_cleared : (s : StateView) (n : Node) → ((a : App) → standing_of s a ≡ Running n → IsNone (due_of s (Failover a)))
    → (a : App) → standing_of (cleared s n) a ≡ Running n → IsNone (due_of (cleared s n) (Failover a))
unfolding cleared
unset_cleared s n unset a runs = ap is_some (due_without_sync a n s.timers) ∙ unset a runs

-- in a sound state no application that runs has a failover timer
pub unset_running : (s : StateView) (n : Node) → TimersFit s → (a : App) → standing_of s a ≡ Running n → IsNone (due_of s (Failover a))
unset_running s n fit a runs = fit.failover a ∙ ap is_lost runs
