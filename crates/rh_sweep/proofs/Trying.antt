-- The events of a plan, made one after the other.
use Rattle.std.proofs.Common.{◌≡◌, ℕ, suc, ◌+◌, ◌<◌, ◌≤◌, Bool, cond, List, [], ◌∷◌, ◌++◌, length, take, drop, count_by, get_or, slice_get}
use Rattle.std.proofs.Common.{Some, None, Result, Ok, Err, IfOk, refl, sym, ap, subst, ◌∙◌, zero-add, add-zero, arith}
use Rattle.std.specs.List.{flat_map, prefix_len}
use Rattle.std.proofs.lemmas.List.{length-take-le, length_push, take-append-le, take-take, take_all, drop_all}
use Rattle.std.proofs.lemmas.List.Concat.{flat_map-cons}
use Rattle.std.proofs.lemmas.List.Sums.{sum_by-append}
use Rattle.std.proofs.Math.Seq.{drop-cons}
use Rattle.rh_rules.specs.declared.notice.Notice.{Notice}
use Rattle.rh_rules.specs.declared.event.Event.{Event}
use Rattle.rh_rules.specs.declared.refusal.Refusal.{Refusal}
use Rattle.rh_calls.specs.declared.call.Call.{Call}
use Rattle.rh_calls.specs.declared.call.Call.TheVariants.{Step}
use Rattle.rh_calls.specs.declared.call.Reply.{Reply}
use Rattle.rh_calls.specs.declared.call.Reply.TheVariants.{Done, Refused}
use Rattle.rh_trail.specs.Chain.{chain}
use Rattle.rh_trail.specs.SimView.{SimView, Held, state_of}
use Rattle.rh_trail.specs.Lone.{Served, answered, served, replies, sim_after, with_event}
use Rattle.rh_trail.proofs.Reversals.{accepted}
use Rattle.rh_plans.specs.declared.plan.Outcome.{Outcome}
use Rattle.rh_outcomes.specs.Outcomes.{is_done, told, refusal_at, is_failover, is_takeover, standings_in, steps, outcome_in}
use Rattle.rh_outcomes.specs.Sweeping.{IsAtEnd}
use Rattle.rh_sweep.specs.Working.{IsAhead, WentOn, ended}

pub if-ok : {X E : Type 0} (r : Result X E) (P Q : X → Type 0) → ((x : X) → P x → Q x) → IfOk r P → IfOk r Q
if-ok (Ok x) P Q then is = then x is
if-ok (Err e) P Q then is = tt

-- ---- where the simulation is

-- the simulation after an accepted event
pub made-event : (t u : SimView) (e : Event) (ns : List Notice) → served t (Step e) ≡ answered (Done ns) u → u ≡ with_event t e
made-event t u e ns is = sym (ap (λ (v : Served). v.sim) is) ∙ (accepted t e ns (ap (λ (v : Served). v.reply) is)).sim

pub ahead-event : (s t u : Held) (e : Event) → IsAtEnd t.seen → IsAhead s t → u.seen ≡ with_event t.seen e
    → ((k : ℕ) → k ≤ t.seen.cursor → chain u k ≡ chain t k) → take t.seen.cursor u.records ≡ take t.seen.cursor t.records → IsAhead s u
ahead-event s t u e end a made chains records = record {
  cluster = ap (λ (v : SimView). v.cluster) made ∙ a.cluster;
  pick = ap (λ (v : SimView). v.pick) made ∙ a.pick;
  begins = ap (λ (v : SimView). take s.seen.cursor v.trail) made
      ∙ take-append-le s.seen.cursor (take t.seen.cursor t.seen.trail) (e ∷ [])
      (omega (arith, a.further, length-take-le t.seen.cursor t.seen.trail (omega (arith, end))))
      ∙ take-take s.seen.cursor t.seen.cursor t.seen.trail a.further
      ∙ a.begins;
  further = let cursor : u.seen.cursor ≡ t.seen.cursor + 1 = ap (λ (v : SimView). v.cursor) made in omega (arith, cursor, a.further);
  chain = λ k within. chains k (omega (arith, within, a.further)) ∙ a.chain k within;
  records = sym (take-take s.seen.cursor t.seen.cursor u.records a.further)
      ∙ ap (take s.seen.cursor) records
      ∙ take-take s.seen.cursor t.seen.cursor t.records a.further
      ∙ a.records;
}

pub end-event : (t : SimView) (e : Event) → IsAtEnd t → IsAtEnd (with_event t e)
end-event t e end = omega (arith, end, length_push (take t.cursor t.trail) e, length-take-le t.cursor t.trail (omega (arith, end)))

-- a simulation at its end has gone nowhere yet
pub went-nowhere : (s : Held) → IsAtEnd s.seen → WentOn s s s.seen
went-nowhere s end = record {
  seen = refl;
  end = end;
  ahead = record {
    cluster = refl;
    pick = refl;
    begins = take_all s.seen.cursor s.seen.trail (omega (arith, end));
    further = omega arith;
    chain = λ k within. refl;
    records = refl;
  };
}

-- one more event
pub went-further : (base t u : Held) (s : SimView) (e : Event) (ns : List Notice) → WentOn t base s → served t.seen (Step e) ≡ answered (Done ns) u.seen
    → ((k : ℕ) → k ≤ t.seen.cursor → chain u k ≡ chain t k) → take t.seen.cursor u.records ≡ take t.seen.cursor t.records
    → WentOn u base (with_event s e)
went-further base t u s e ns on is chains records =
    let made : u.seen ≡ with_event t.seen e = made-event t.seen u.seen e ns is in
    let end : IsAtEnd t.seen = subst IsAtEnd (sym on.seen) on.end in
    record {
      seen = made ∙ ap (λ (v : SimView). with_event v e) on.seen;
      end = end-event s e on.end;
      ahead = ahead-event base t u e end on.ahead made chains records;
    }

-- and what it was answered, told of where it is
pub told-there : (base t u : Held) (s : SimView) (e : Event) (ns : List Notice) → WentOn t base s → served t.seen (Step e) ≡ answered (Done ns) u.seen
    → served s (Step e) ≡ answered (Done ns) (with_event s e)
told-there base t u s e ns on is =
    ap (λ (v : SimView). served v (Step e)) (sym on.seen)
    ∙ is
    ∙ ap (answered (Done ns)) (made-event t.seen u.seen e ns is ∙ ap (λ (v : SimView). with_event v e) on.seen)

-- ---- what comes of the events that are left, after i accepted ones with f failovers and k takeovers

abbrev outcome_from : ℕ → ℕ → ℕ → SimView → List Call → List Reply → ℕ → Outcome
outcome_from i f k t calls answers made = record {
  accepted = i + made;
  refused = refusal_at (i + made) (slice_get answers made);
  standings = standings_in (state_of (sim_after t (take made calls)));
  failovers = f + count_by is_failover (flat_map told (take made answers));
  takeovers = k + count_by is_takeover (flat_map told (take made answers));
}

abbrev pub rest_of : ℕ → ℕ → ℕ → SimView → List Event → Outcome
rest_of i f k t es = outcome_from i f k t (steps es) (replies t (steps es)) (prefix_len is_done (replies t (steps es)))

count-more : (p : Notice → Bool) (n : ℕ) (ns ms : List Notice) → n + count_by p (ns ++ ms) ≡ n + count_by p ns + count_by p ms
count-more p n ns ms = omega (arith, sum_by-append (λ x. cond (p x) 1 0) ns ms)

module _ (i f k : ℕ) (t u : SimView) (e : Event) (es : List Event) where
  abbrev answers : List Reply
  answers = replies t (steps (e ∷ es))

  abbrev made : ℕ
  made = prefix_len is_done answers

  -- an accepted event
  pub rest-accepted : (ns : List Notice) → served t (Step e) ≡ answered (Done ns) u
      → rest_of i f k t (e ∷ es) ≡ rest_of (i + 1) (f + count_by is_failover ns) (k + count_by is_takeover ns) u es
  rest-accepted ns is =
      let later = replies u (steps es) in
      let m = prefix_len is_done later in
      let answers_are : answers ≡ Done ns ∷ later = ap (λ (v : Served). v.reply ∷ replies v.sim (steps es)) is in
      let one_more : made ≡ suc m = ap (prefix_len is_done) answers_are ∙ omega arith in
      let number : i + made ≡ i + 1 + m = omega (arith, one_more) in
      let counted : (p : Notice → Bool) (n : ℕ)
      → n + count_by p (flat_map told (take made answers)) ≡ n + count_by p ns + count_by p (flat_map told (take m later)) =
      λ p n.
      (λ j. n + count_by p (flat_map told (take (one_more j) (answers_are j))))
      ∙ ap (λ (ms : List Notice). n + count_by p ms) (flat_map-cons told (Done ns) (take m later))
      ∙ count-more p n ns (flat_map told (take m later)) in
      let stands : standings_in (state_of (sim_after t (take made (steps (e ∷ es))))) ≡ standings_in (state_of (sim_after u (take m (steps es)))) =
      ap (λ n. standings_in (state_of (sim_after t (take n (steps (e ∷ es)))))) one_more
      ∙ ap (λ (v : Served). standings_in (state_of (sim_after v.sim (take m (steps es))))) is in
      λ j. record {
        accepted = number j;
        refused = refusal_at (number j) (slice_get (answers_are j) (one_more j));
        standings = stands j;
        failovers = counted is_failover f j;
        takeovers = counted is_takeover k j;
      }

-- the events that are left begin with the next one
pub next-event : (es : List Event) (i : ℕ) (d : Event) → i < length es → drop i es ≡ get_or es i d ∷ drop (i + 1) es
next-event es i d at = let one : suc i ≡ i + 1 = omega arith in drop-cons es i d at ∙ ap (λ n. get_or es i d ∷ drop n es) one

-- ---- a plan that is tried: where it is behind i events, of which it was told f failovers and k takeovers

pub record Along (stands : SimView → Type 0) (s : SimView) (es : List Event) (i f k : ℕ) : Type 0 where
  pub here : SimView
  pub there : stands here
  pub cursor : here.cursor ≡ s.cursor + i
  pub rest : rest_of i f k here (drop i es) ≡ outcome_in s es

pub along-start : (stands : SimView → Type 0) (s : SimView) (es : List Event) → stands s → Along stands s es 0 0 0
along-start stands s es at =
    let answers = replies s (steps es) in
    let m : ℕ = prefix_len is_done answers in
    record {
      here = s;
      there = at;
      cursor = omega arith;
      rest = λ j. record {
        accepted = zero-add m j;
        refused = refusal_at (zero-add m j) (slice_get answers m);
        standings = standings_in (state_of (sim_after s (take m (steps es))));
        failovers = zero-add (count_by is_failover (flat_map told (take m answers))) j;
        takeovers = zero-add (count_by is_takeover (flat_map told (take m answers))) j;
      };
    }

module _ (s : SimView) (es : List Event) (i f k : ℕ) where
  -- the next event, if there is one
  abbrev at : Event → Event
  at d = get_or es i d

  pub along-more : (before behind : SimView → Type 0) (a : Along before s es i f k) (d : Event) (ns : List Notice) → i < length es
      → served a.here (Step (at d)) ≡ answered (Done ns) (with_event a.here (at d)) → behind (with_event a.here (at d))
      → Along behind s es (i + 1) (f + count_by is_failover ns) (k + count_by is_takeover ns)
  along-more before behind a d ns inside is there = record {
    here = with_event a.here (at d);
    there = there;
    cursor = omega (arith, a.cursor);
    rest = sym (rest-accepted i f k a.here (with_event a.here (at d)) (at d) (drop (i + 1) es) ns is)
        ∙ ap (rest_of i f k a.here) (sym (next-event es i d inside))
        ∙ a.rest;
  }

  -- the last event was made
  pub along-end : (stands : SimView → Type 0) (a : Along stands s es i f k) (n : ℕ) → n ≡ i → length es ≤ i → ended (state_of a.here) n None f k ≡ outcome_in s es
  along-end stands a n all-made all =
      (λ j. record {
        accepted = (all-made ∙ sym (add-zero i)) j;
        refused = None;
        standings = standings_in (state_of a.here);
        failovers = sym (add-zero f) j;
        takeovers = sym (add-zero k) j;
      })
      ∙ ap (rest_of i f k a.here) (sym (drop_all i es all))
      ∙ a.rest

  -- the next one was refused
  pub along-refused : (stands : SimView → Type 0) (a : Along stands s es i f k) (d : Event) (r : Refusal) → i < length es
      → served a.here (Step (at d)) ≡ answered (Refused r) a.here → ended (state_of a.here) i (Some (i, r)) f k ≡ outcome_in s es
  along-refused stands a d r inside is =
      (λ j. record {
        accepted = sym (add-zero i) j;
        refused = Some (sym (add-zero i) j, r);
        standings = standings_in (state_of a.here);
        failovers = sym (add-zero f) j;
        takeovers = sym (add-zero k) j;
      })
      ∙ ap (λ (v : Served). let answers = v.reply ∷ replies v.sim (steps (drop (i + 1) es)) in
      outcome_from i f k a.here (steps (at d ∷ drop (i + 1) es)) answers (prefix_len is_done answers)) (sym is)
      ∙ ap (rest_of i f k a.here) (sym (next-event es i d inside))
      ∙ a.rest
