-- What no event is refused for.
use Rattle.std.proofs.Common.{◌≡◌, ◌&&◌, Bool, true, false, not, cond, List, [], ◌∷◌, Option, Some, None, IfSome, refl, subst}
use Rattle.std.specs.List.{list_all}
use Rattle.rh_model.specs.declared.settings.Dep.{Dep}
use Rattle.rh_state.specs.StateView.{StateView}
use Rattle.rh_rules.specs.Placing.{missing_dep}
use Rattle.rh_rules.specs.declared.event.Event.{Event}
use Rattle.rh_rules.specs.declared.event.Event.TheVariants.{Start, Takeover, StartAll}
use Rattle.rh_rules.specs.declared.refusal.Refusal.{Refusal}
use Rattle.rh_rules.specs.declared.refusal.Refusal.TheVariants.{OutOfMemory}
use Rattle.rh_rules.specs.Everywhere.{missing_at_targets}
use Rattle.rh_rules.specs.Refusals.{refused, tests, dep_tests, first_that_applies}

abbrev pub is_memory : Refusal → Bool
is_memory OutOfMemory = true
is_memory _ = false

-- none of these tests is for want of memory
abbrev without_memory : List (Bool × Refusal) → Bool
without_memory ts = list_all (λ (t : Bool × Refusal). not (is_memory t.1)) ts

first_is_other : (ts : List (Bool × Refusal)) → without_memory ts ≡ true → IfSome (first_that_applies ts) (λ r. is_memory r ≡ false)
first_is_other [] h = tt
first_is_other (t ∷ ts) h = by t.0 (first_is_other ts (right (is_memory t.1) (without_memory ts) h))
  where
    left : (b c : Bool) → (not b && c) ≡ true → b ≡ false
    left false c e = refl
    left true c e = absurd (cc e)

    right : (b c : Bool) → (not b && c) ≡ true → c ≡ true
    right false c e = e
    right true c e = absurd (cc e)

    by : (b : Bool) → IfSome (first_that_applies ts) (λ r. is_memory r ≡ false) → IfSome (cond b (Some t.1) (first_that_applies ts)) (λ r. is_memory r ≡ false)
    by true rest = left (is_memory t.1) (without_memory ts) h
    by false rest = rest

deps_without : (o : Option Dep) → without_memory (dep_tests o) ≡ true
deps_without None = refl
deps_without (Some dep) = refl

tests_without : (s : StateView) (e : Event) → without_memory (tests s e) ≡ true
tests_without s (Start n a r) = deps_without (missing_dep s n a)
tests_without s (Takeover n a r) = deps_without (missing_dep s n a)
tests_without s (StartAll a r) = deps_without (missing_at_targets s a)
tests_without s _ = refl

-- no event is refused for want of memory
pub never_memory : (s : StateView) (e : Event) (r : Refusal) → refused s e ≡ Some r → is_memory r ≡ false
unfolding refused
never_memory s e r is = subst (λ (o : Option Refusal). IfSome o (λ x. is_memory x ≡ false)) is (first_is_other (tests s e) (tests_without s e))
