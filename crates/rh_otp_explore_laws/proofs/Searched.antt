-- What a search tells is so of runs.
use Rattle.std.proofs.Common.{◌≡◌, ◌≤◌, ◌<◌, ◌+◌, ◌⊎◌, inl, inr, ℕ, zero, suc, Bool, true, false, not, List, [], ◌∷◌, length, take, get_or, Option, Some, None, option_map, refl, sym, ap, ◌∙◌, subst, arith}
use Rattle.std.specs.Prelude.{All, IfSome}
use Rattle.std.specs.List.{Contains, find}
use Rattle.std.proofs.lemmas.Bool.{cases_lt}
use Rattle.std.proofs.lemmas.List.{length-take-le}
use Rattle.std.proofs.lemmas.List.Elements.{All-map, All-take, All-contains, Contains-append_left, Contains-append_right}
use Rattle.rh_rules.specs.declared.event.Event.{Event}
use Rattle.rh_explore.specs.declared.bounds.Covered.{Covered}
use Rattle.rh_explore.specs.declared.bounds.Covered.TheVariants as covered
use Rattle.rh_explore_text.specs.Asks.{AskView}
use Rattle.rh_otp_report.specs.Report.{report_of}
use Rattle.rh_otp_sim.specs.Sim.{LiveSimView}
use Rattle.rh_otp_sim.specs.Stepping.{stepped}
use Rattle.rh_otp_sweep.specs.declared.sharing.TheConstants.{STEP_LIMIT}
use Rattle.rh_otp_explore.specs.Asking.{holds_in}
use Rattle.rh_otp_explore.specs.Listing.{Scope, Behind, level, below, up_to}
use Rattle.rh_otp_explore.specs.Searching.{LiveExploredView, IsCovered, at_base, tried, asked_of, first_failing, fails_behind}
use Rattle.rh_otp_explore.specs.Tallying.{AskedView, failure_of}
use Rattle.rh_otp_explore.proofs.Lists.{first_below}
use Rattle.rh_otp_explore_laws.specs.Searches.{MayCome, behind_all, FailsInRun, FailuresAreRuns, AreCovered, HoldsInRuns, RunsAreSearched}
use Rattle.rh_otp_explore_laws.proofs.Alike.{report_same, holds_same}
use Rattle.rh_otp_explore_laws.proofs.Elements.{among_more, none_passes, found_passes}
use Rattle.rh_otp_explore_laws.proofs.Lists.{InRunBelow, are_all_in_run, IsTried, is_tried}

not_false : (b : Bool) → not b ≡ false → b ≡ true
not_false true is = refl
not_false false is = cc

not_true : (b : Bool) → not b ≡ true → b ≡ false
not_true true is = cc
not_true false is = refl

-- ---- what fails

module _ (w : Scope) (base : LiveSimView) (steps : ℕ) (x : LiveExploredView) (room : base.history.cursor + steps ≤ STEP_LIMIT) where
  abbrev in_run : Behind → Type 0
  in_run = InRunBelow w [] base (suc steps)

  all_in_run : All in_run (tried w steps (at_base base) x)
  all_in_run =
      All-take in_run x.lists (up_to w steps (at_base base))
      (are_all_in_run w (suc steps) (at_base base) base refl (omega (arith, room)))

  fails_so : (q : AskView) (b : Behind) → in_run b → fails_behind q b ≡ true → FailsInRun w base steps q (failure_of b)
  fails_so q b (n, few, at) fails =
      record {
        few = let long : length b.events ≡ n = ap (λ (es : List Event). length es) at.are ∙ at.many in omega (arith, long, few);
        comes = subst (λ (es : List Event). MayCome w es base) (sym at.are) at.comes;
        told =
            report_same b.sim (behind_all at.events base) at.same
            ∙ ap (λ (es : List Event). report_of (behind_all es base)) (sym at.are);
        fails =
            ap (λ (es : List Event). holds_in q (behind_all es base)) at.are
            ∙ sym (holds_same q b.sim (behind_all at.events base) at.same)
            ∙ not_true (holds_in q b.sim) fails;
      }

  fails_if : (q : AskView) (o : Option Behind) → find (fails_behind q) (tried w steps (at_base base) x) ≡ o
      → IfSome (option_map failure_of o) (FailsInRun w base steps q)
  fails_if q None is = tt
  fails_if q (Some b) is =
      let found = found_passes (fails_behind q) (tried w steps (at_base base) x) b is in
      fails_so q b (All-contains in_run (tried w steps (at_base base) x) b all_in_run found.0) found.1

pub fail_in_runs : FailuresAreRuns
fail_in_runs w base steps states asks x room answer =
    subst (All (λ (q : AskedView). IfSome q.first (FailsInRun w base steps q.ask))) (sym answer.asked)
    (All-map (λ (q : AskedView). IfSome q.first (FailsInRun w base steps q.ask)) (asked_of (tried w steps (at_base base) x)) asks
    (λ k d l. fails_if w base steps x room (get_or asks k d) (find (fails_behind (get_or asks k d)) (tried w steps (at_base base) x)) refl))

-- ---- what holds

first_come : (w : Scope) (n : ℕ) (events : List Event) (run : LiveSimView) → MayCome w events run → MayCome w (take n events) run
first_come w zero events run may = tt
first_come w (suc n) [] run may = tt
first_come w (suc n) (e ∷ events) run (move, made, few, later) = (move, made, few, first_come w n events (stepped e run) later)

none_failed : (o : Option Behind) → option_map failure_of o ≡ None → o ≡ None
none_failed None is = refl
none_failed (Some b) is = cc

module _ (w : Scope) (base : LiveSimView) (steps : ℕ) (x : LiveExploredView) (room : base.history.cursor + steps ≤ STEP_LIMIT) where
  abbrev b : Behind
  b = at_base base

  -- lists of fewer events than those of which all were tried were tried
  were_tried : (n k : ℕ) (c : Behind) → k ≤ n → n ≤ steps → length (up_to w n b) ≤ x.lists → Contains (level w k b) c
      → Contains (tried w steps b x) c
  were_tried n k c short within enough there =
      let more = first_below w (suc n) (suc steps) b (omega (arith, within)) in
      let longer = first_below w (suc k) (suc n) b (omega (arith, short)) in
      let here : Contains (below w (suc k) b) c = Contains-append_right (below w k b) (level w k b) c there in
      let at : Contains (up_to w n b) c =
      subst (λ l. Contains l c) (sym longer.1) (Contains-append_left (below w (suc k) b) longer.0 c here) in
      subst (λ (l : List Behind). Contains (take x.lists l) c) (sym more.1) (among_more (up_to w n b) more.0 x.lists c enough at)

  holds_if : (q : AskView) (events : List Event) (n : ℕ) → first_failing q (tried w steps b x) ≡ None → length events ≤ n → n ≤ steps
      → length (up_to w n b) ≤ x.lists → MayCome w events base → holds_in q (behind_all events base) ≡ true
  holds_if q events n none short within enough may =
      let t : IsTried w b base events = is_tried w events b base refl (omega (arith, room, short, within)) may in
      let passes : not (holds_in q t.list.sim) ≡ false =
      none_passes (fails_behind q) (tried w steps b x) (none_failed (find (fails_behind q) (tried w steps b x)) none) t.list
      (were_tried n (length events) t.list short within enough t.there) in
      sym (holds_same q t.list.sim (behind_all events base) t.same) ∙ not_false (holds_in q t.list.sim) passes

  -- where no list has so many events, no more may come
  not_longer : (n : ℕ) (events : List Event) → n ≤ steps → level w n b ≡ [] → n ≤ length events → MayCome w events base → ⊥
  not_longer n events within none long may =
      let many : length (take n events) ≡ n = length-take-le n events long in
      let t : IsTried w b base (take n events) =
      is_tried w (take n events) b base refl (omega (arith, room, many, within)) (first_come w n events base may) in
      let there : Contains (level w n b) t.list = subst (λ (k : ℕ). Contains (level w k b) t.list) many t.there in
      let empty : List Behind = [] in
      let nowhere : Contains empty t.list = subst (λ (l : List Behind). Contains l t.list) none there in
      absurd (omega (arith, nowhere.1))

  holds_by : (q : AskView) (v : Covered) → IsCovered w steps b x.lists v → first_failing q (tried w steps b x) ≡ None
      → (events : List Event) → AreCovered v events → MayCome w events base → holds_in q (behind_all events base) ≡ true
  holds_by q (covered.UpTo n) (within, enough, most) none events short may = holds_if q events n none short within enough may
  holds_by q covered.All (n, within, end, enough) none events any may = by (cases_lt (length events) n)
    where
      by : (length events < n) ⊎ (n ≤ length events) → holds_in q (behind_all events base) ≡ true
      by (inl short) = holds_if q events n none (omega (arith, short)) within enough may
      by (inr long) = absurd (not_longer n events within end long may)

pub hold_in_runs : RunsAreSearched
hold_in_runs w base steps states asks x room answer =
    subst (All (HoldsInRuns w base x.covered)) (sym answer.asked)
    (All-map (HoldsInRuns w base x.covered) (asked_of (tried w steps (at_base base) x)) asks
    (λ k d l none events covers may. holds_by w base steps x room (get_or asks k d) x.covered answer.covered none events covers may))
