-- Two states that are alike accept the same events, where no limit of starts or of time refuses one.
use Rattle.std.proofs.Common.{◌≡◌, ◌+◌, ◌==◌, ◌&&◌, Bool, true, false, not, [], ◌∷◌, map, None, nat_lt, refl, sym, ap, ◌∙◌}
use Rattle.rh_model.specs.ClusterView.{is_listed_at}
use Rattle.rh_state.specs.Limits.{time_limit, incarnation_limit}
use Rattle.rh_state.specs.Standings.{is_running, is_running_at}
use Rattle.rh_state.specs.StateView.{StateView, incarnation_of, is_alive, is_allowed, is_started, mode_of, standing_of}
use Rattle.rh_rules.specs.declared.event.Event.{Event}
use Rattle.rh_rules.specs.declared.event.Event.TheVariants.{Boot, Tick, Start, Takeover, StartAll}
use Rattle.rh_rules.specs.declared.refusal.Refusal.TheVariants.{UnknownNode, UnknownApp, NodeNotUp, AlreadyAlive, AlreadyStarted, IncarnationLimit, ZeroTick, TimeLimit, NotDistributed, NotListed, NotRunning, RunsHere, NotPermitted}
use Rattle.rh_rules.specs.Course.{is_local}
use Rattle.rh_rules.specs.ByHand.{is_started_anywhere}
use Rattle.rh_rules.specs.Everywhere.{has_host, has_target, missing_at_targets}
use Rattle.rh_rules.specs.Placing.{missing_dep}
use Rattle.rh_model.specs.declared.node.Node.{Node}
use Rattle.rh_model.specs.declared.node.App.{App}
use Rattle.rh_rules.specs.Refusals.{is_unknown, is_unknown_app, dep_tests, tests_by_hand, tests, first_that_applies, refused}
use Rattle.rh_keys.specs.Shifts.{seen_from, timeless, Alike}
use Rattle.rh_keys.specs.ShiftLaws.{is_limit, AlikeAcceptAlike}
use Rattle.rh_keys.proofs.Reading.{missing_same, missing_at_same}

-- ---- tests that hang on no limit are those of the timeless state
missing_timeless : (s : StateView) (n : Node) (a : App) → missing_dep (timeless s) n a ≡ missing_dep s n a
missing_timeless s n a = missing_same s 0 [] [] (map (seen_from s.time) s.timers) n a

missing_at_timeless : (s : StateView) (a : App) → missing_at_targets (timeless s) a ≡ missing_at_targets s a
missing_at_timeless s a = missing_at_same s 0 [] [] (map (seen_from s.time) s.timers) a

-- a list of tests is the same for all states that are alike, if it is that of the timeless one
by_timeless : (e : Event) (s t : StateView) → ((u : StateView) → tests (timeless u) e ≡ tests u e) → Alike s t → refused s e ≡ None → refused t e ≡ None
unfolding refused
by_timeless e s t each alike fine =
    ap first_that_applies (sym (each t)) ∙ ap (λ (u : StateView). first_that_applies (tests u e)) (sym alike)
    ∙ ap first_that_applies (each s) ∙ fine

-- ---- those that do
boot_accepted : (a b c d : Bool) → first_that_applies ((a, UnknownNode) ∷ (b, AlreadyAlive) ∷ (c, IncarnationLimit) ∷ []) ≡ None
    → is_limit (first_that_applies ((a, UnknownNode) ∷ (b, AlreadyAlive) ∷ (d, IncarnationLimit) ∷ [])) ≡ false
    → first_that_applies ((a, UnknownNode) ∷ (b, AlreadyAlive) ∷ (d, IncarnationLimit) ∷ []) ≡ None
boot_accepted true b c d fine below = absurd (cc fine)
boot_accepted false true c d fine below = absurd (cc fine)
boot_accepted false false c true fine below = absurd (cc below)
boot_accepted false false c false fine below = refl

tick_accepted : (a b c : Bool) → first_that_applies ((a, ZeroTick) ∷ (b, TimeLimit) ∷ []) ≡ None
    → is_limit (first_that_applies ((a, ZeroTick) ∷ (c, TimeLimit) ∷ [])) ≡ false
    → first_that_applies ((a, ZeroTick) ∷ (c, TimeLimit) ∷ []) ≡ None
tick_accepted true b c fine below = absurd (cc fine)
tick_accepted false b true fine below = absurd (cc below)
tick_accepted false b false fine below = refl

pub alike_accept_alike : AlikeAcceptAlike
unfolding refused has_host has_target is_started_anywhere
alike_accept_alike s t (Boot n) alike fine below =
    boot_accepted (is_unknown t n) (is_alive (mode_of t n)) (incarnation_of s n == incarnation_limit) (incarnation_of t n == incarnation_limit)
    (ap (λ (u : StateView). first_that_applies ((is_unknown u n, UnknownNode) ∷ (is_alive (mode_of u n), AlreadyAlive)
    ∷ (incarnation_of s n == incarnation_limit, IncarnationLimit) ∷ [])) (sym alike) ∙ fine)
    below
alike_accept_alike s t (Tick ms) alike fine below =
    tick_accepted (ms == 0) (nat_lt time_limit (s.time + ms)) (nat_lt time_limit (t.time + ms)) fine below
alike_accept_alike s t (Start n a r) alike fine below = by_timeless (Start n a r) s t
    (λ u. ap (λ d. tests_by_hand u n a ((not (is_listed_at u.cluster a n), NotListed) ∷ (is_started u n a, AlreadyStarted) ∷ dep_tests d))
    (missing_timeless u n a)) alike fine
alike_accept_alike s t (Takeover n a r) alike fine below = by_timeless (Takeover n a r) s t
    (λ u. ap (λ d. tests_by_hand u n a ((is_local u.cluster a, NotDistributed) ∷ (not (is_listed_at u.cluster a n), NotListed)
    ∷ (not (is_running (standing_of u a)), NotRunning) ∷ (is_running_at n (standing_of u a), RunsHere)
    ∷ (not (is_allowed u n a), NotPermitted) ∷ dep_tests d))
    (missing_timeless u n a)) alike fine
alike_accept_alike s t (StartAll a r) alike fine below = by_timeless (StartAll a r) s t
    (λ u. ap (λ d. (is_unknown_app u a, UnknownApp) ∷ (not (is_local u.cluster a) && not (has_host u a), NodeNotUp) ∷ (is_local u.cluster a, NotDistributed)
    ∷ (not (has_target u a), AlreadyStarted) ∷ dep_tests d)
    (missing_at_timeless u a)) alike fine
alike_accept_alike s t e alike fine below = by_timeless e s t (λ u. refl) alike fine
