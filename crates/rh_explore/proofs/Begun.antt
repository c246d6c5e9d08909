-- A search that has the base alone, and how its steps go on.
use Rattle.std.proofs.Common.{◌≡◌, ◌≤◌, ◌+◌, ℕ, zero, suc, Bool, true, false, List, [], ◌∷◌, sum_by, length, slice_get, Option, Some, None, All, refl, sym, ap, ◌∙◌, subst, arith}
use Rattle.std.specs.Prelude.{MatchBool, IfSome, IfNone}
use Rattle.std.proofs.lemmas.List.Elements.{All-nil, All-cons}
use Rattle.std.proofs.lemmas.Option.{same_Some, none-some, slice_get_within}
use Rattle.rh_state.specs.StateView.{StateView}
use Rattle.rh_rules.specs.declared.event.Event.{Event}
use Rattle.rh_explore.specs.declared.asking.Ask.{Ask}
use Rattle.rh_explore.specs.declared.bounds.Bounds.{Bounds}
use Rattle.rh_explore.specs.declared.space.Found.{Found}
use Rattle.rh_explore.specs.declared.space.Space.{Space}
use Rattle.rh_explore.specs.Exploring.{key_of, key_length, HadRoom}
use Rattle.rh_explore.specs.Failures.{AreFirsts}
use Rattle.rh_explore.specs.Kept.{seen_of, codes_of, bytes_of, AreLinked, IsKept}
use Rattle.rh_explore.specs.Reaching.{Scope}
use Rattle.rh_explore.specs.Spaces.{Seen, states_of, IsNear, AreInTurn}

-- how the base was found
abbrev pub first : Found
first = record { last = None; depth = 0 }

base_linked : AreLinked (first ∷ [])
base_linked = record { depths = refl; earlier = λ k f from e at last. absurd (none k f from e at last) }
  where
    none : (k : ℕ) (f : Found) (from : ℕ) (e : Event) → slice_get (first ∷ []) k ≡ Some f → f.last ≡ Some (from, e) → ⊥
    none zero f from e at last = none-some (from, e) (ap (λ (g : Found). g.last) (same_Some first f at) ∙ last)
    none (suc k) f from e at last = none-some f at

-- the base is kept alone
pub kept_first : (w : Scope) (bounds : Bounds) (asks : List Ask) (space : Space) → space.found.items ≡ first ∷ [] → bytes_of space ≡ key_of w.base ∷ []
    → AreFirsts w.pick space.firsts.items asks (w.base ∷ []) → space.bytes ≡ key_length w.base → IsKept w bounds asks space
kept_first w bounds asks space found bytes firsts long =
    let base : Seen = record { path = []; state = w.base } in
    let is : seen_of w space.found.items ≡ base ∷ [] = ap (seen_of w) found in
    let alone : key_length w.base ≡ 0 + key_length w.base = omega arith in
    record {
      linked = subst AreLinked (sym found) base_linked;
      codes = bytes ∙ ap codes_of (sym is);
      firsts = subst (λ (s : List Seen). AreFirsts w.pick space.firsts.items asks (states_of s)) (sym is) firsts;
      bytes = long ∙ alone ∙ sym (ap (λ (s : List Seen). sum_by key_length (states_of s)) is);
      in_turn = subst (AreInTurn w) (sym is) (λ k y some at. absurd (omega (arith, some, slice_get_within (base ∷ []) k y at)));
      room = subst (λ (s : List Seen). HadRoom bounds (states_of s)) (sym is) (λ k some l. absurd (omega (arith, some, l)));
    }

pub base_near : (s : StateView) → IsNear (record { path = []; state = s } ∷ []) 0
base_near s = λ x here.
    All-cons (λ (y : Seen). length y.path ≤ length x.path + 1) (record { path = []; state = s }) [] (omega arith)
    (All-nil (λ (y : Seen). length y.path ≤ length x.path + 1))

pub base_few : (s : StateView) (steps : ℕ) → All (λ (x : Seen). length x.path ≤ steps) (record { path = []; state = s } ∷ [])
base_few s steps =
    All-cons (λ (x : Seen). length x.path ≤ steps) (record { path = []; state = s }) [] (omega arith) (All-nil (λ (x : Seen). length x.path ≤ steps))

-- what is said of an answer, where it is known
pub at_true : (b : Bool) (P Q : Type 0) → b ≡ true → MatchBool b P Q → P
at_true true P Q e h = h
at_true false P Q e h = absurd (cc e)

pub at_false : (b : Bool) (P Q : Type 0) → b ≡ false → MatchBool b P Q → Q
at_false true P Q e h = absurd (cc e)
at_false false P Q e h = h

pub at_none : {A : Type 0} (o : Option A) (P : Type 0) → o ≡ None → IfNone o P → P
at_none None P e h = h
at_none (Some x) P e h = absurd (none-some x (sym e))

pub at_some : {A : Type 0} (o : Option A) (Q : A → Type 0) (x : A) → o ≡ Some x → IfSome o Q → Q x
at_some None Q x e h = absurd (none-some x e)
at_some (Some y) Q x e h = subst Q (same_Some y x e) h
