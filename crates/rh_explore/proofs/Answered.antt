-- What is answered of the states that were found.
use Rattle.std.proofs.Common.{[], ◌≡◌, ◌<◌, ◌≤◌, ℕ, true, false, List, length, take, get_or, slice_get, Some, All, sym, ap, ◌∙◌, subst, arith}
use Rattle.std.specs.Option.{option_map}
use Rattle.std.proofs.lemmas.List.{length-map, get_or-map}
use Rattle.std.proofs.lemmas.List.Elements.{All-map}
use Rattle.std.proofs.lemmas.Option.{same_Some, slice_get-map, slice_get_within, slice_get-get_or, get_or_from_slice_get}
use Rattle.rh_state.specs.StateView.{StateView}
use Rattle.rh_keys.proofs.Places.{at_of}
use Rattle.rh_explore.specs.declared.answers.Verdict.{Verdict}
use Rattle.rh_explore.specs.declared.answers.Verdict.TheVariants.{Holds, Fails}
use Rattle.rh_explore.specs.declared.asking.Ask.{Ask}
use Rattle.rh_explore.specs.declared.bounds.Covered.{Covered}
use Rattle.rh_explore.specs.Asking.{holds_in}
use Rattle.rh_explore.specs.Reaching.{Scope, behind}
use Rattle.rh_explore.specs.Exploring.{IsFirst, IsVerdict, IsNext}
use Rattle.rh_explore.specs.Spaces.{Seen, states_of, IsSeen, IsSearched, IsEnd, AreInTurn, FirstFails}
use Rattle.rh_explore.proofs.InTurn.{at_take, earlier_of}
use Rattle.rh_explore.proofs.Searched.{holds_behind, holds_within}

abbrev state_in : Seen → StateView
state_in y = y.state

module _ (w : Scope) (seen : List Seen) (done : ℕ) (so : IsSearched w seen done) (turns : AreInTurn w seen) where
  -- ---- they stand in the order of the lists that lead to them
  pub next_in_order : (k : ℕ) (s : StateView) → slice_get (states_of seen) k ≡ Some s → IsNext w (take k (states_of seen)) s
  next_in_order k s at =
      let inside : k < length seen = omega (arith, slice_get_within (states_of seen) k s at, length-map seen state_in) in
      let y = get_or seen k (record { path = []; state = w.base }) in
      let there : slice_get seen k ≡ Some y = slice_get-get_or seen k (record { path = []; state = w.base }) inside in
      let is = at_of (IsSeen w) seen k y so.each there in
      let s_is : y.state ≡ s = same_Some y.state s (sym (slice_get-map state_in seen k ∙ ap (option_map state_in) there) ∙ at) in
      record {
        events = y.path;
        may_come = is.may_come;
        leads = is.leads ∙ s_is;
        first = λ other may before.
            let e = earlier_of w seen so.begins turns k y there other may before in
            let x = e.1 in
            let found : slice_get (take k (states_of seen)) e.0 ≡ Some x.state =
            at_take (states_of seen) k e.0 e.2 ∙ slice_get-map state_in seen e.0 ∙ ap (option_map state_in) e.3 in (
              e.0,
              x.state,
              slice_get_within (take k (states_of seen)) e.0 x.state found,
              get_or_from_slice_get (take k (states_of seen)) e.0 x.state x.state found,
              e.4,
            );
      }

  -- ---- the verdict on an ask
  fails_first : (i : ℕ) (x : Seen) → slice_get seen i ≡ Some x → (steps : ℕ) (ask : Ask) → length x.path ≤ steps → holds_in w.pick ask x.state ≡ false
      → ((k : ℕ) (y : Seen) → k < i → slice_get seen k ≡ Some y → holds_in w.pick ask y.state ≡ true) → IsFirst w steps ask x.path
  fails_first i x here steps ask few fails earlier =
      let is = at_of (IsSeen w) seen i x so.each here in
      record {
        may_come = is.may_come;
        few = few;
        fails = ap (holds_in w.pick ask) is.leads ∙ fails;
        first = λ other may before wait.
            let e = earlier_of w seen so.begins turns i x here other may before in
            holds_behind w seen done so ask other may wait e.0 e.1 e.3 e.4 (earlier e.0 e.1 e.2 e.3);
      }

  pub verdict_so : (steps : ℕ) → All (λ (x : Seen). length x.path ≤ steps) seen → (covered : Covered) → IsEnd seen done covered
      → (ask : Ask) (v : Verdict) → FirstFails w.pick seen ask v → IsVerdict w steps covered (states_of seen) ask v
  verdict_so steps few covered end ask Holds all =
      (holds_within w seen done so ask covered end all, All-map (λ s. holds_in w.pick ask s ≡ true) state_in seen all)
  verdict_so steps few covered end ask (Fails es) first =
      let i = first.0 in
      let x = first.1 in
      let here = first.2 in
      let is = at_of (IsSeen w) seen i x so.each here in
      let to : behind w w.base es.items ≡ x.state = ap (behind w w.base) first.3 ∙ is.leads in
      let inside = slice_get_within seen i x here in (
        subst (IsFirst w steps ask) (sym first.3) (fails_first i x here steps ask (at_of (λ (x : Seen). length x.path ≤ steps) seen i x few here) first.4 first.5),
        (
          i,
          omega (arith, inside, length-map seen state_in),
          get_or-map state_in seen i x (behind w w.base es.items) inside ∙ ap state_in (get_or_from_slice_get seen i x x here) ∙ sym to,
        ),
      )
