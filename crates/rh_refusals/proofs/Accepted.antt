-- What it says of a state that an event isn't refused.
use Rattle.std.proofs.Common.{◌≡◌, ◌≢◌, ◌<◌, ◌≤◌, ◌+◌, ◌==◌, ℕ, Bool, true, false, cond, not, nat_lt, List, [], ◌∷◌, Option, Some, None, refl, sym, ap, ◌∙◌}
use Rattle.std.proofs.Common.{arith}
use Rattle.std.proofs.lemmas.Bool.Decides.{nat_tests}
use Rattle.rh_model.specs.ClusterView.{is_listed_at}
use Rattle.rh_model.specs.declared.node.Node.{Node}
use Rattle.rh_model.specs.declared.node.App.{App}
use Rattle.rh_model.specs.declared.settings.Dep.{Dep}
use Rattle.rh_model.specs.declared.settings.Restart.{Restart}
use Rattle.rh_state.specs.declared.status.Standing.{Standing}
use Rattle.rh_state.specs.declared.status.Standing.TheVariants.{Running}
use Rattle.rh_state.specs.Limits.{time_limit, incarnation_limit}
use Rattle.rh_state.specs.Numbers.{same_node}
use Rattle.rh_state.specs.Shape.{IsNodeOf, IsAppOf}
use Rattle.rh_state.specs.StateView.{StateView, mode_of, incarnation_of, is_alive, is_up, is_started, is_allowed, runs_at, standing_of}
use Rattle.rh_rules.specs.Placing.{missing_dep}
use Rattle.rh_rules.specs.Course.{is_local}
use Rattle.rh_rules.specs.declared.event.Event.TheVariants.{Boot, Crash, Tick, Start, Stop, Permit, Takeover, Exit, StartAll, StopAll}
use Rattle.rh_rules.specs.declared.refusal.Refusal.{Refusal}
use Rattle.rh_rules.specs.declared.refusal.Refusal.TheVariants.{NotListed, AlreadyStarted, NeverStarted, NotRunningHere}
use Rattle.rh_rules.specs.Refusals.{refused, tests, tests_by_hand, first_that_applies, dep_tests}
use Rattle.rh_state.specs.Standings.{is_running, is_running_at}

-- ---- no test applied
abbrev NoneApplies : List (Bool × Refusal) → Type 0
NoneApplies [] = Unit {0}
NoneApplies (test ∷ others) = (test.0 ≡ false) × NoneApplies others

one_more : (b : Bool) (refusal : Refusal) (others : Option Refusal) (P : Type 0) → (others ≡ None → P) → cond b (Some refusal) others ≡ None → (b ≡ false) × P
one_more true refusal others P rest e = absurd (cc e)
one_more false refusal others P rest e = (refl, rest e)

none_applies : (ts : List (Bool × Refusal)) → first_that_applies ts ≡ None → NoneApplies ts
none_applies [] e = tt
none_applies (test ∷ others) e = one_more test.0 test.1 (first_that_applies others) (NoneApplies others) (none_applies others) e

no_dep : (d : Option Dep) → NoneApplies (dep_tests d) → d ≡ None
no_dep None h = refl
no_dep (Some d) h = absurd (cc h.0)

holds : (b : Bool) → not b ≡ false → b ≡ true
holds true e = refl
holds false e = absurd (cc e)

known : (k count : ℕ) → not (nat_lt k count) ≡ false → k < count
known k count e = grind (arith, nat_tests)

within : (k most : ℕ) → nat_lt most k ≡ false → k ≤ most
within k most e = grind (arith, nat_tests)

positive : (k : ℕ) → k == 0 ≡ false → 0 < k
positive k e = grind (arith, nat_tests)

pub differs : (k l : ℕ) → k == l ≡ false → k ≢ l
differs k l e = λ same. clash (sym e ∙ ap (λ j. j == l) same ∙ equal l)
  where
    equal : (l : ℕ) → l == l ≡ true
    equal l = grind (arith, nat_tests)

    clash : false ≡ true → ⊥
    clash e = cc

pub same_standing : (m k : Node) → Running m ≡ Running k → m ≡ k
same_standing m k e = cc

stands_at : (standing : Standing) → is_running standing ≡ true → (m : Node) × (standing ≡ Running m)
stands_at (Running m) e = (m, refl)
stands_at _ e = absurd (cc e)

-- ---- a node boots
pub record CanBoot (s : StateView) (n : Node) : Type 0 where
  pub node : IsNodeOf s.cluster n
  pub down : is_alive (mode_of s n) ≡ false
  pub incarnation : incarnation_of s n ≢ incarnation_limit

pub accepted_boot : (s : StateView) (n : Node) → refused s (Boot n) ≡ None → CanBoot s n
unfolding refused
accepted_boot s n e =
    let h = none_applies (tests s (Boot n)) e in
    record { node = known _ _ h.0; down = h.1.0; incarnation = differs _ _ h.1.1.0 }

-- ---- a node crashes
pub record CanCrash (s : StateView) (n : Node) : Type 0 where
  pub node : IsNodeOf s.cluster n
  pub alive : is_alive (mode_of s n) ≡ true

pub accepted_crash : (s : StateView) (n : Node) → refused s (Crash n) ≡ None → CanCrash s n
unfolding refused
accepted_crash s n e =
    let h = none_applies (tests s (Crash n)) e in
    record { node = known _ _ h.0; alive = holds _ h.1.0 }

-- ---- time passes
pub record CanPass (s : StateView) (ms : ℕ) : Type 0 where
  pub some : 0 < ms
  pub limit : s.time + ms ≤ time_limit

pub accepted_tick : (s : StateView) (ms : ℕ) → refused s (Tick ms) ≡ None → CanPass s ms
unfolding refused
accepted_tick s ms e =
    let h = none_applies (tests s (Tick ms)) e in
    record { some = positive ms h.0; limit = within (s.time + ms) time_limit h.1.0 }

-- ---- by hand
pub record ByHand (s : StateView) (n : Node) (a : App) : Type 0 where
  pub node : IsNodeOf s.cluster n
  pub app : IsAppOf s.cluster a
  pub up : is_up (mode_of s n) ≡ true

by_hand : (s : StateView) (n : Node) (a : App) (others : List (Bool × Refusal)) → NoneApplies (tests_by_hand s n a others) → ByHand s n a
by_hand s n a others h = record { node = known _ _ h.0; app = known _ _ h.1.0; up = holds _ h.1.1.0 }

pub record CanStart (s : StateView) (n : Node) (a : App) : Type 0 where
  pub hand : ByHand s n a
  pub listed : is_listed_at s.cluster a n ≡ true
  pub unstarted : is_started s n a ≡ false
  pub deps : missing_dep s n a ≡ None

pub accepted_start : (s : StateView) (n : Node) (a : App) (r : Restart) → refused s (Start n a r) ≡ None → CanStart s n a
unfolding refused
accepted_start s n a r e =
    let h = none_applies (tests s (Start n a r)) e in
    let own = h.1.1.1 in
    record {
      hand = by_hand s n a ((not (is_listed_at s.cluster a n), NotListed) ∷ (is_started s n a, AlreadyStarted) ∷ dep_tests (missing_dep s n a)) h;
      listed = holds _ own.0;
      unstarted = own.1.0;
      deps = no_dep _ own.1.1;
    }

pub record CanStop (s : StateView) (n : Node) (a : App) : Type 0 where
  pub hand : ByHand s n a
  pub started : is_started s n a ≡ true

pub accepted_stop : (s : StateView) (n : Node) (a : App) → refused s (Stop n a) ≡ None → CanStop s n a
unfolding refused
accepted_stop s n a e =
    let h = none_applies (tests s (Stop n a)) e in
    record { hand = by_hand s n a ((not (is_started s n a), NeverStarted) ∷ []) h; started = holds _ h.1.1.1.0 }

pub accepted_permit : (s : StateView) (n : Node) (a : App) (allow : Bool) → refused s (Permit n a allow) ≡ None → ByHand s n a
unfolding refused
accepted_permit s n a allow e = by_hand s n a [] (none_applies (tests s (Permit n a allow)) e)

pub record CanTakeOver (s : StateView) (n : Node) (a : App) : Type 0 where
  pub hand : ByHand s n a
  pub distributed : is_local s.cluster a ≡ false
  pub listed : is_listed_at s.cluster a n ≡ true
  -- it runs elsewhere
  pub from : Node
  pub stands : standing_of s a ≡ Running from
  pub elsewhere : same_node from n ≡ false
  pub allowed : is_allowed s n a ≡ true
  pub deps : missing_dep s n a ≡ None

pub accepted_takeover : (s : StateView) (n : Node) (a : App) (r : Restart) → refused s (Takeover n a r) ≡ None → CanTakeOver s n a
unfolding refused
accepted_takeover s n a r e =
    let h = none_applies (tests s (Takeover n a r)) e in
    let own = h.1.1.1 in
    let at = stands_at (standing_of s a) (holds _ own.1.1.0) in
    record {
      hand = record { node = known _ _ h.0; app = known _ _ h.1.0; up = holds _ h.1.1.0 };
      distributed = own.0;
      listed = holds _ own.1.0;
      from = at.0;
      stands = at.1;
      elsewhere = sym (ap (is_running_at n) at.1) ∙ own.1.1.1.0;
      allowed = holds _ own.1.1.1.1.0;
      deps = no_dep _ own.1.1.1.1.1;
    }

pub record CanExit (s : StateView) (n : Node) (a : App) : Type 0 where
  pub hand : ByHand s n a
  pub runs : runs_at s n a ≡ true

pub accepted_exit : (s : StateView) (n : Node) (a : App) (normal : Bool) → refused s (Exit n a normal) ≡ None → CanExit s n a
unfolding refused
accepted_exit s n a normal e =
    let h = none_applies (tests s (Exit n a normal)) e in
    record { hand = by_hand s n a ((not (runs_at s n a), NotRunningHere) ∷ []) h; runs = holds _ h.1.1.1.0 }

-- ---- at all nodes
pub record OfDistributed (s : StateView) (a : App) : Type 0 where
  pub app : IsAppOf s.cluster a
  pub distributed : is_local s.cluster a ≡ false

pub accepted_start_all : (s : StateView) (a : App) (r : Restart) → refused s (StartAll a r) ≡ None → OfDistributed s a
unfolding refused
accepted_start_all s a r e =
    let h = none_applies (tests s (StartAll a r)) e in
    record { app = known _ _ h.0; distributed = h.1.1.0 }

pub accepted_stop_all : (s : StateView) (a : App) → refused s (StopAll a) ≡ None → OfDistributed s a
unfolding refused
accepted_stop_all s a e =
    let h = none_applies (tests s (StopAll a)) e in
    record { app = known _ _ h.0; distributed = h.1.0 }
