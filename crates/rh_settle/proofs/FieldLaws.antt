-- What settling means in the field's words: where an application runs, where it is placed, and why it waits.
use Rattle.std.proofs.Common.{◌≡◌, ◌⊎◌, ◌&&◌, inl, inr, ℕ, Bool, true, false, List, [], ◌∷◌, Option, Some, None, IsSome, IsNone, is_none, refl, sym, ◌∙◌}
use Rattle.std.specs.List.{Contains, position}
use Rattle.std.specs.Option.{option_and_then}
use Rattle.rh_model.specs.declared.node.Node.{Node}
use Rattle.rh_model.specs.declared.node.App.{App}
use Rattle.rh_model.specs.declared.settings.Spread.{Spread}
use Rattle.rh_model.specs.ClusterView.{ClusterView, is_in, spread_of, group_of}
use Rattle.rh_state.specs.declared.status.Standing.TheVariants.{Wanted}
use Rattle.rh_state.specs.Shape.{IsNodeOf, IsAppOf}
use Rattle.rh_state.specs.StateView.{StateView, runs_at, waits_at, is_allowed, standing_of}
use Rattle.rh_rules.specs.declared.pick.Pick.TheVariants.{First}
use Rattle.rh_rules.specs.Placing.{picked, is_operational, best, deps_run}
use Rattle.rh_base.proofs.Lists.{cases}
use Rattle.rh_place.proofs.Nowhere.{none_chosen}
use Rattle.rh_rules.specs.declared.notice.Move.TheVariants.{Local, Placement, Takeover}
use Rattle.rh_rules.specs.declared.notice.Pair.{Pair}
use Rattle.rh_rules.specs.Course.{is_fresh, is_local}
use Rattle.rh_rules.specs.Moves.{comes_before, calls_away}
use Rattle.rh_rules.specs.Settling.{next_moves, IsBest, NoneEnabled}
use Rattle.rh_trace.specs.Validity.{IsSound}
use Rattle.rh_trace.proofs.Entries.{is_false}
use Rattle.rh_trace.proofs.Kept.{same_running}
use Rattle.rh_trace.proofs.Firsts.{every_in, empty_of}
use Rattle.rh_trace.proofs.Best.{each_best}
use Rattle.rh_trace.proofs.NextMoves.{all_called}
use Rattle.rh_trace.proofs.NextFirsts.{next_are_first}

-- ---- at one node
pub runs_at_one_node : (s : StateView) (a : App) (m n : Node) → IsSound s → is_local s.cluster a ≡ false → runs_at s m a ≡ true → runs_at s n a ≡ true → m ≡ n
runs_at_one_node s a m n sound far r t = same_running m n (sym (sound.standing.stands m a far r) ∙ sound.standing.stands n a far t)

-- ---- what is known of the next moves
pub taken_over_by_earlier_groups : (s : StateView) (fresh : List Pair) (a : App) (m n : Node) → Contains (next_moves s fresh) (Takeover a m n)
    → (comes_before (group_of s.cluster a n) (group_of s.cluster a m) ≡ true) × (is_fresh fresh n a ≡ true) × (is_operational s a n ≡ true)
taken_over_by_earlier_groups s fresh a m n h = all_called s fresh a m n ((next_are_first s fresh (Takeover a m n)).0 h).enabled.2.passes

pub placed_in_first_group : (s : StateView) (fresh : List Pair) (a : App) (from : Option Node) (n : Node) → Contains (next_moves s fresh) (Placement a from n)
    → IsBest s a (is_operational s a) n
placed_in_first_group s fresh a from n h = ((next_are_first s fresh (Placement a from n)).0 h).enabled.2

-- ---- where nothing moves
-- an application that is to run can run nowhere
none_best : (s : StateView) (a : App) (test : Node → Bool) → ((n : Node) → IsBest s a test n → ⊥) → best s a test ≡ []
none_best s a test none = empty_of (best s a test) (λ n i. none n (every_in (IsBest s a test) (best s a test) n (each_best s a test) i))

no_first : (xs : List Node) → xs ≡ [] → IsNone (picked First xs)
no_first [] e = refl
no_first (x ∷ xs) e = cc

not_some : {A P : Type 0} (o : Option A) → IsSome o → IsNone o → P
not_some None h k = cc
not_some (Some x) h k = cc

-- so no listed node passes
none_passes : (s : StateView) (a : App) (test : Node → Bool) (n : Node) → ((k : Node) → IsBest s a test k → ⊥) → IsSome (group_of s.cluster a n) → test n ≡ false
none_passes s a test n none listed = cases (test n)
    (λ t. not_some (group_of s.cluster a n) listed ((none_chosen s a First test).0 (no_first (best s a test) (none_best s a test none)) n t))
    (λ f. f)

pub never_left_wanted : (s : StateView) (a : App) (from : Option Node) → NoneEnabled s [] → IsAppOf s.cluster a → standing_of s a ≡ Wanted from
    → (n : Node) → IsSome (group_of s.cluster a n) → is_operational s a n ≡ false
never_left_wanted s a from h at e n listed = none_passes s a (is_operational s a) n (λ k b. h (Placement a from k) (at, e, b)) listed

-- one that runs does so at no node of a group behind that of a node that calls it away
first_is_some : (place other : Option ℕ) → comes_before place other ≡ true → IsSome place
first_is_some None other h = cc
first_is_some (Some i) other h = refl

far_of : (c : ClusterView) (a : App) (n : Node) → IsSome (group_of c a n) → is_local c a ≡ false
far_of c a n = by (spread_of c a)
  where
    by : (o : Option Spread) → IsSome (option_and_then (λ (v : Spread). position (is_in n) v.groups) o) → is_none o ≡ false
    by None h = cc
    by (Some v) h = refl

called_away : (s : StateView) (fresh : List Pair) (a : App) (m n : Node) → comes_before (group_of s.cluster a n) (group_of s.cluster a m) ≡ true
    → is_fresh fresh n a ≡ true → is_operational s a n ≡ true → calls_away s fresh a m n ≡ true
unfolding calls_away
called_away s fresh a m n before new able = λ i. before i && (new i && able i)

pub never_behind : (s : StateView) (fresh : List Pair) (a : App) (m n : Node) → IsSound s → NoneEnabled s fresh → IsAppOf s.cluster a
    → comes_before (group_of s.cluster a n) (group_of s.cluster a m) ≡ true → is_fresh fresh n a ≡ true → is_operational s a n ≡ true
    → runs_at s m a ≡ false
never_behind s fresh a m n sound h at before new able =
    let listed = first_is_some (group_of s.cluster a n) (group_of s.cluster a m) before in
    is_false (runs_at s m a) (λ r.
    let stands = sound.standing.stands m a (far_of s.cluster a n listed) r in
    clash (sym (called_away s fresh a m n before new able) ∙ none_passes s a (calls_away s fresh a m) n (λ k b. h (Takeover a m k) (at, stands, b)) listed))
  where
    clash : true ≡ false → ⊥
    clash e = cc

-- a local application that waits has a reason
pub waits_for_a_reason : (s : StateView) (n : Node) (a : App) → NoneEnabled s [] → IsNodeOf s.cluster n → is_local s.cluster a ≡ true
    → waits_at s n a ≡ true
    → (is_allowed s n a ≡ false) ⊎ (deps_run s n a ≡ false)
waits_for_a_reason s n a h at l w =
    cases (is_allowed s n a)
    (λ t. cases (deps_run s n a)
    (λ u. absurd (h (Local n a) (at, l, w, t, u)))
    (λ f. inr f))
    (λ f. inl f)
