-- The lists that a search tries are those of events that may come in a run.
use Rattle.std.proofs.Common.{◌≡◌, ◌≤◌, ◌<◌, ◌+◌, ◌++◌, ℕ, zero, suc, Bool, true, false, nat_le, ◌&&◌, List, [], ◌∷◌, length, Option, Some, None, option_map, refl, sym, ap, ◌∙◌, subst, arith, append_assoc, append-nil}
use Rattle.std.specs.Prelude.{All}
use Rattle.std.specs.List.{Contains}
use Rattle.std.proofs.lemmas.Bool.{and_parts}
use Rattle.std.proofs.lemmas.Bool.Decides.{nat_tests}
use Rattle.std.proofs.lemmas.List.Elements.{All-nil, All-cons, All-append, All-weaker, All-contains_itself}
use Rattle.std.proofs.lemmas.Option.{none-some, same_Some}
use Rattle.rh_rules.specs.declared.event.Event.{Event}
use Rattle.rh_explore.specs.declared.moves.Move.{Move}
use Rattle.rh_otp_report.specs.Report.{report_of}
use Rattle.rh_otp_report.specs.Views.{ReportView}
use Rattle.rh_otp_sim.specs.Sim.{LiveSimView}
use Rattle.rh_otp_sim.specs.Stepping.{stepped, outcome_of}
use Rattle.rh_otp_sweep.specs.declared.sharing.TheConstants.{STEP_LIMIT}
use Rattle.rh_otp_sweep_laws.proofs.Bare.{one_more}
use Rattle.rh_otp_explore.specs.Coming.{after, is_made, made_if, not_up_count, comes}
use Rattle.rh_otp_explore.specs.Due.{event_in}
use Rattle.rh_otp_explore.specs.Listing.{Scope, Behind, with_event, next_by, next, nexts, level, below}
use Rattle.rh_otp_explore_laws.specs.Searches.{IsMove, MayCome, behind_all}
use Rattle.rh_otp_explore_laws.proofs.Alike.{SameNow, report_same, behind_same, comes_same}
use Rattle.rh_otp_explore_laws.proofs.Elements.{all_of_each, all_that_come, among_each, among_values}

module _ (w : Scope) where
  -- ---- one event more

  -- a list is longer by an event, which may come in the run
  record IsNext (b : Behind) (run : LiveSimView) (c : Behind) : Type 0 where
    event : Event
    move : IsMove w.moves run event
    made : is_made (outcome_of event run) ≡ true
    few : not_up_count (report_of (stepped event run)).nodes ≤ w.down
    events : c.events ≡ b.events ++ event ∷ []
    same : SameNow c.sim (stepped event run)

  module _ (b : Behind) (run : LiveSimView) (same : SameNow b.sim run) (room : run.history.cursor < STEP_LIMIT) where
    made_next : (m : Move) (c : Behind) (e : Event) → Contains w.moves m → event_in (report_of b.sim) m ≡ Some e
        → comes w.down e b.sim ≡ true → with_event b (e, after e b.sim) ≡ c → IsNext b run c
    made_next m c e there is able came =
        let both = and_parts _ _ (sym (comes_same e b.sim run same room w.down) ∙ able) in
        let fits : nat_le (not_up_count (report_of (stepped e run)).nodes) w.down ≡ true = both.1 in
        record {
          event = e;
          move = (m, there, ap (λ (r : ReportView). event_in r m) (sym (report_same b.sim run same)) ∙ is);
          made = both.0;
          few = grind (arith, nat_tests, fits);
          events = ap (λ (d : Behind). d.events) (sym came);
          same = subst (λ (d : Behind). SameNow d.sim (stepped e run)) came (behind_same e b.sim run same room);
        }

    by_event : (m : Move) (c : Behind) (e : Event) → Contains w.moves m → event_in (report_of b.sim) m ≡ Some e
        → (t : Bool) → comes w.down e b.sim ≡ t
        → option_map (with_event b) (option_map (λ (later : LiveSimView). (e, later)) (made_if t e b.sim)) ≡ Some c → IsNext b run c
    by_event m c e there is true able came = made_next m c e there is able (same_Some (with_event b (e, after e b.sim)) c came)
    by_event m c e there is false unable came = absurd (none-some c came)

    by_move : (m : Move) (c : Behind) → Contains w.moves m → (o : Option Event) → event_in (report_of b.sim) m ≡ o
        → option_map (with_event b) (next_by w.down b.sim o) ≡ Some c → IsNext b run c
    by_move m c there None is came = absurd (none-some c came)
    by_move m c there (Some e) is came = by_event m c e there is (comes w.down e b.sim) refl came

    are_next : All (IsNext b run) (nexts w b)
    are_next =
        all_that_come (Contains w.moves) (IsNext b run) (next w b) (λ m c there came. by_move m c there (event_in (report_of b.sim) m) refl came)
        w.moves (All-contains_itself w.moves)

    -- the other way round: an event that may come makes a list longer
    pub has_next : (e : Event) → (move : IsMove w.moves run e) → is_made (outcome_of e run) ≡ true
        → not_up_count (report_of (stepped e run)).nodes ≤ w.down → Contains (nexts w b) (with_event b (e, after e b.sim))
    has_next e move made few =
        let m : Move = move.0 in
        let is : event_in (report_of b.sim) m ≡ Some e = ap (λ (r : ReportView). event_in r m) (report_same b.sim run same) ∙ move.2 in
        let fits : nat_le (not_up_count (report_of (stepped e run)).nodes) w.down ≡ true = grind (arith, nat_tests, few) in
        let able : comes w.down e b.sim ≡ true = comes_same e b.sim run same room w.down ∙ (λ i. made i && fits i) in
        among_values (next w b) w.moves m (with_event b (e, after e b.sim)) move.1
        (ap (λ (o : Option Event). option_map (with_event b) (next_by w.down b.sim o)) is
        ∙ ap (λ (t : Bool). option_map (with_event b) (option_map (λ (later : LiveSimView). (e, later)) (made_if t e b.sim))) able)

  -- ---- lists that are tried may come in a run

  -- the list is another one with so many events more, which may come in the run, and leads to the same live nodes but for their past
  pub record InRun (before : List Event) (run : LiveSimView) (n : ℕ) (b : Behind) : Type 0 where
    pub events : List Event
    pub many : length events ≡ n
    pub are : b.events ≡ before ++ events
    pub comes : MayCome w events run
    pub same : SameNow b.sim (behind_all events run)

  with_first : (n : ℕ) (b c d : Behind) (run : LiveSimView) (first : IsNext b run c) → InRun c.events (stepped first.event run) n d
      → InRun b.events run (suc n) d
  with_first n b c d run first later =
      record {
        events = first.event ∷ later.events;
        many = ap suc later.many;
        are =
            later.are ∙ ap (λ (es : List Event). es ++ later.events) first.events
            ∙ append_assoc b.events (first.event ∷ []) later.events;
        comes = (first.move, first.made, first.few, later.comes);
        same = later.same;
      }

  pub are_in_run : (n : ℕ) (b : Behind) (run : LiveSimView) → SameNow b.sim run → run.history.cursor + n ≤ STEP_LIMIT
      → All (InRun b.events run n) (level w n b)
  are_in_run zero b run same room =
      All-cons (InRun b.events run zero) b []
      (record { events = []; many = refl; are = sym (append-nil b.events); comes = tt; same = same }) (All-nil (InRun b.events run zero))
  are_in_run (suc n) b run same room =
      all_of_each (InRun b.events run (suc n)) (level w n) (nexts w b)
      (All-weaker (IsNext b run) (λ c. All (InRun b.events run (suc n)) (level w n c))
      (λ c first. All-weaker (InRun c.events (stepped first.event run) n) (InRun b.events run (suc n)) (λ d later. with_first n b c d run first later)
      (level w n c)
      (are_in_run n c (stepped first.event run) first.same (omega (arith, room, one_more first.event run))))
      (nexts w b) (are_next b run same (omega (arith, room))))

  -- with fewer events than so many more
  abbrev pub InRunBelow : List Event → LiveSimView → ℕ → Behind → Type 0
  InRunBelow before run k b = (n : ℕ) × (n < k) × InRun before run n b

  pub are_all_in_run : (k : ℕ) (b : Behind) (run : LiveSimView) → SameNow b.sim run → run.history.cursor + k ≤ STEP_LIMIT + 1
      → All (InRunBelow b.events run k) (below w k b)
  are_all_in_run zero b run same room = All-nil (InRunBelow b.events run zero)
  are_all_in_run (suc n) b run same room =
      All-append (InRunBelow b.events run (suc n)) (below w n b) (level w n b)
      (All-weaker (InRunBelow b.events run n) (InRunBelow b.events run (suc n)) (λ c at. (at.0, omega (arith, at.1), at.2)) (below w n b)
      (are_all_in_run n b run same (omega (arith, room))))
      (All-weaker (InRun b.events run n) (InRunBelow b.events run (suc n)) (λ c at. (n, omega arith, at)) (level w n b)
      (are_in_run n b run same (omega (arith, room))))

  -- ---- events that may come in a run are tried

  -- a list with as many events more leads to the same live nodes but for their past
  pub record IsTried (b : Behind) (run : LiveSimView) (events : List Event) : Type 0 where
    pub list : Behind
    pub there : Contains (level w (length events) b) list
    pub same : SameNow list.sim (behind_all events run)

  pub is_tried : (events : List Event) (b : Behind) (run : LiveSimView) → SameNow b.sim run → run.history.cursor + length events ≤ STEP_LIMIT
      → MayCome w events run → IsTried b run events
  is_tried [] b run same room may = record { list = b; there = (0, omega arith, refl); same = same }
  is_tried (e ∷ events) b run same room (move, made, few, later) =
      let one : run.history.cursor < STEP_LIMIT = omega (arith, room) in
      let c : Behind = with_event b (e, after e b.sim) in
      let rest : IsTried c (stepped e run) events =
      is_tried events c (stepped e run) (behind_same e b.sim run same one) (omega (arith, room, one_more e run)) later in
      record {
        list = rest.list;
        there = among_each (level w (length events)) (nexts w b) c rest.list (has_next b run same one e move made few) rest.there;
        same = rest.same;
      }
