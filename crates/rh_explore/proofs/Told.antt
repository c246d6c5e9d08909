-- What a verdict tells, by the first state in which what is asked doesn't hold.
use Rattle.std.proofs.Common.{◌≡◌, ◌<◌, ℕ, zero, suc, true, List, [], ◌∷◌, length, slice_get, Option, Some, None, All, refl, sym, ap, ◌∙◌, arith}
use Rattle.std.specs.Option.{option_map}
use Rattle.std.proofs.lemmas.List.{length-map, get_or-map}
use Rattle.std.proofs.lemmas.Option.{same_Some, slice_get-map, slice_get_within}
use Rattle.rh_state.specs.StateView.{StateView}
use Rattle.rh_rules.specs.declared.pick.Pick.{Pick}
use Rattle.rh_explore.specs.declared.answers.Verdict.{Verdict}
use Rattle.rh_explore.specs.declared.answers.Verdict.TheVariants.{Holds, Fails}
use Rattle.rh_explore.specs.declared.asking.Ask.{Ask}
use Rattle.rh_explore.specs.declared.space.Found.{Found}
use Rattle.rh_explore.specs.Asking.{holds_in}
use Rattle.rh_explore.specs.Failures.{AreFirsts}
use Rattle.rh_explore.specs.Kept.{paths_of, seen_by, seen_of}
use Rattle.rh_explore.specs.Reaching.{Scope}
use Rattle.rh_explore.specs.Spaces.{Seen, states_of, FirstFails}
use Rattle.rh_explore.specs.Tellings.{IsTold}

-- some element stands at a place within
pub inside : {A : Type 0} (xs : List A) (k : ℕ) → k < length xs → (x : A) × (slice_get xs k ≡ Some x)
inside [] k l = absurd (omega (arith, l))
inside (x ∷ xs) zero l = (x, refl)
inside (x ∷ xs) (suc k) l = inside xs k (omega (arith, l))

abbrev state_in : Seen → StateView
state_in x = x.state

module _ (pick : Pick) (firsts : List (Option ℕ)) (asks : List Ask) (seen : List Seen) (so : AreFirsts pick firsts asks (states_of seen)) where
  -- the first state in which an ask doesn't hold was found
  pub failure_within : (j i : ℕ) → slice_get firsts j ≡ Some (Some i) → i < length seen
  failure_within j i at =
      let ask = inside asks j (omega (arith, slice_get_within firsts j (Some i) at, so.count)) in
      let f = so.known j i ask.0 at ask.1 in
      omega (arith, slice_get_within (states_of seen) i f.fails.0 f.fails.1, length-map seen state_in)

  -- an ask that has none holds in all
  pub holds_everywhere : (j : ℕ) (ask : Ask) → slice_get firsts j ≡ Some None → slice_get asks j ≡ Some ask → All (λ (x : Seen). holds_in pick ask x.state ≡ true) seen
  holds_everywhere j ask at there =
      let all = so.unknown j ask at there in
      λ k d l. ap (holds_in pick ask) (sym (get_or-map state_in seen k d d.state l)) ∙ all k d.state (omega (arith, l, length-map seen state_in))

pub told_first : (w : Scope) (found : List Found) (firsts : List (Option ℕ)) (asks : List Ask)
    → AreFirsts w.pick firsts asks (states_of (seen_of w found)) → (j : ℕ) (first : Option ℕ) (ask : Ask) (v : Verdict)
    → slice_get firsts j ≡ Some first → slice_get asks j ≡ Some ask → IsTold found first v → FirstFails w.pick (seen_of w found) ask v
told_first w found firsts asks so j None ask Holds at there told = holds_everywhere w.pick firsts asks (seen_of w found) so j ask at there
told_first w found firsts asks so j None ask (Fails es) at there told = absurd told
told_first w found firsts asks so j (Some i) ask Holds at there told = absurd told
told_first w found firsts asks so j (Some i) ask (Fails es) at there told =
    let seen = seen_of w found in
    let f = so.known j i ask at there in
    let x : Seen = seen_by w es.items in
    let here : slice_get seen i ≡ Some x = slice_get-map (seen_by w) (paths_of found) i ∙ ap (option_map (seen_by w)) told in
    let state_is : f.fails.0 ≡ x.state = same_Some f.fails.0 x.state (sym f.fails.1 ∙ slice_get-map state_in seen i ∙ ap (option_map state_in) here) in (
      i,
      x,
      here,
      refl,
      ap (holds_in w.pick ask) (sym state_is) ∙ f.fails.2,
      λ k y l that. f.earlier k y.state l (slice_get-map state_in seen k ∙ ap (option_map state_in) that),
    )
