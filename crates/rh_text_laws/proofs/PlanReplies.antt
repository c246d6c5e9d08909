-- The outcome of a plan is read off the replies to its events up to the first refused one.
use Rattle.std.proofs.Common.{◌≡◌, ℕ, suc, ◌+◌, ◌==◌, Bool, true, false, cond, List, [], ◌∷◌, ◌++◌, length, take, map, count_by, slice_get, Option, Some, None, refl, sym, ap, subst, ◌∙◌}
use Rattle.std.proofs.Common.{◌⊎◌, inl, inr, arith}
use Rattle.std.specs.List.{flat_map, prefix_len}
use Rattle.std.specs.Option.{option_map}
use Rattle.rh_model.specs.ClusterView.{ClusterView}
use Rattle.rh_rules.specs.declared.pick.Pick.{Pick}
use Rattle.rh_rules.specs.declared.notice.Notice.{Notice}
use Rattle.rh_rules.specs.declared.event.Event.{Event}
use Rattle.rh_rules.specs.declared.refusal.Refusal.{Refusal}
use Rattle.rh_rules.specs.declared.refusal.Refusal.TheVariants.{TrailFull}
use Rattle.rh_rules.specs.Refusals.{refused}
use Rattle.rh_rules.specs.Steps.{next}
use Rattle.rh_calls.specs.declared.call.Call.{Call}
use Rattle.rh_calls.specs.declared.call.Call.TheVariants.{Step}
use Rattle.rh_calls.specs.declared.call.Reply.{Reply}
use Rattle.rh_calls.specs.declared.call.Reply.TheVariants.{Done, Refused, Undone, Redone, AtStart, AtEnd, Moved, Seen}
use Rattle.rh_trail.specs.SimView.{SimView, state_of}
use Rattle.rh_trail.specs.Lone.{Served, answered, stepped, served, with_event, opened, replies, sim_after, trail_limit}
use Rattle.rh_outcomes.specs.Outcomes.{is_done, told as told_by, refusal_at, is_failover, is_takeover, standings_in, steps, outcome_in}
use Rattle.rh_text_laws.specs.Plans.{AnswersView, refused_with, replies_of, events_answered, outcome_read, IsAnswered, PlanIsRun}

-- ---- calls that are made one part after the other
pub replies-append : (s : SimView) (xs ys : List Call) → replies s (xs ++ ys) ≡ replies s xs ++ replies (sim_after s xs) ys
replies-append s [] ys = refl
replies-append s (x ∷ xs) ys = ap (λ rs. (served s x).reply ∷ rs) (replies-append (served s x).sim xs ys)

pub after-append : (s : SimView) (xs ys : List Call) → sim_after s (xs ++ ys) ≡ sim_after (sim_after s xs) ys
after-append s [] ys = refl
after-append s (x ∷ xs) ys = after-append (served s x).sim xs ys

-- ---- an event is accepted or refused
abbrev IsAnswer : SimView → Event → Served → Type 0
IsAnswer s e v = ((ns : List Notice) × (v ≡ answered (Done ns) (with_event s e))) ⊎ ((why : Refusal) × (v ≡ answered (Refused why) s))

step_answered : (s : SimView) (e : Event) → IsAnswer s e (served s (Step e))
step_answered s e = by (refused (state_of s) e)
  where
    room : (b : Bool) → IsAnswer s e (cond b (answered (Refused TrailFull) s) (answered (Done (next (state_of s) e s.pick).notices) (with_event s e)))
    room true = inr (TrailFull, refl)
    room false = inl ((next (state_of s) e s.pick).notices, refl)

    by : (o : Option Refusal) → IsAnswer s e (stepped s e o)
    by (Some why) = inr (why, refl)
    by None = room (s.cursor == trail_limit)

-- ---- the events of a plan, of which the first m are accepted

-- why a call was refused, if it was
abbrev pub why_of : Option Reply → Option Refusal
why_of (Some (Refused why)) = Some why
why_of _ = None

pub record IsRead (s : SimView) (events : List Event) (rs : List Reply) (m : ℕ) : Type 0 where
  pub told : List (List Notice)
  pub many : length told ≡ m
  pub notices : flat_map told_by (take m rs) ≡ flat_map (λ ns. ns) told
  pub answers : replies s (steps (take (suc m) events)) ≡ map (λ ns. Done ns) told ++ refused_with (why_of (slice_get rs m))
  pub whole : why_of (slice_get rs m) ≡ None → m ≡ length events
  pub behind : sim_after s (steps (take (suc m) events)) ≡ sim_after s (take m (steps events))

read_accepted : (s u : SimView) (e : Event) (es : List Event) (ns : List Notice) (m : ℕ) → served s (Step e) ≡ answered (Done ns) u
    → IsRead u es (replies u (steps es)) m → IsRead s (e ∷ es) (Done ns ∷ replies u (steps es)) (suc m)
read_accepted s u e es ns m is rest = record {
  told = ns ∷ rest.told;
  many = ap (λ n. suc n) rest.many;
  notices = ap (λ ms. ns ++ ms) rest.notices;
  answers = ap (λ (v : Served). v.reply ∷ replies v.sim (steps (take (suc m) es))) is ∙ ap (λ rs. Done ns ∷ rs) rest.answers;
  whole = λ none. ap (λ n. suc n) (rest.whole none);
  behind = ap (λ (v : Served). sim_after v.sim (steps (take (suc m) es))) is
      ∙ rest.behind
      ∙ ap (λ (v : Served). sim_after v.sim (take m (steps es))) (sym is);
}

read_refused : (s : SimView) (e : Event) (es : List Event) (why : Refusal) (later : List Reply) → served s (Step e) ≡ answered (Refused why) s
    → IsRead s (e ∷ es) (Refused why ∷ later) 0
read_refused s e es why later is = record {
  told = [];
  many = refl;
  notices = refl;
  answers = ap (λ (v : Served). v.reply ∷ []) is;
  whole = λ none. absurd (cc none);
  behind = ap (λ (v : Served). v.sim) is;
}

-- so it is with any plan
pub plan_read : (s : SimView) (events : List Event)
    → IsRead s events (replies s (steps events)) (prefix_len is_done (replies s (steps events)))
plan_read s [] = record { told = []; many = refl; notices = refl; answers = refl; whole = λ none. refl; behind = refl }
plan_read s (e ∷ es) = elim (step_answered s e) [
  | inl h ↦
      let later = replies (with_event s e) (steps es) in
      let one : suc (prefix_len is_done later) ≡ 1 + prefix_len is_done later = omega arith in
      subst (λ rs. IsRead s (e ∷ es) rs (prefix_len is_done rs)) (sym (ap (λ (v : Served). v.reply ∷ replies v.sim (steps es)) h.1))
      (subst (IsRead s (e ∷ es) (Done h.0 ∷ later)) one
      (read_accepted s (with_event s e) e es h.0 (prefix_len is_done later) h.1 (plan_read (with_event s e) es)))
  | inr h ↦
      subst (λ rs. IsRead s (e ∷ es) rs (prefix_len is_done rs)) (sym (ap (λ (v : Served). v.reply ∷ replies v.sim (steps es)) h.1))
      (read_refused s e es h.0 (replies s (steps es)) h.1)
]

-- ---- the outcome
why_is : (m : ℕ) (r : Option Reply) → refusal_at m r ≡ option_map (λ why. (m, why)) (why_of r)
why_is m None = refl
why_is m (Some (Done ns)) = refl
why_is m (Some (Refused why)) = refl
why_is m (Some Undone) = refl
why_is m (Some Redone) = refl
why_is m (Some AtStart) = refl
why_is m (Some AtEnd) = refl
why_is m (Some (Moved count)) = refl
why_is m (Some (Seen cursor trail text)) = refl

module _ (base : SimView) (events : List Event) where
  abbrev pub found : List Reply
  found = replies base (steps events)

  abbrev pub accepted : ℕ
  accepted = prefix_len is_done found

  abbrev pub read : IsRead base events found accepted
  read = plan_read base events

  abbrev pub answers_to : AnswersView
  answers_to = record { told = read.told; why = why_of (slice_get found accepted) }

  made_is : take (suc accepted) events ≡ events_answered answers_to events
  made_is = let more : suc accepted ≡ length read.told + 1 = omega (arith, read.many) in ap (λ n. take n events) more

  pub answered_so : replies base (steps (events_answered answers_to events)) ≡ replies_of answers_to
  answered_so = ap (λ es. replies base (steps es)) (sym made_is) ∙ read.answers

  pub all_answered : answers_to.why ≡ None → length answers_to.told ≡ length events
  all_answered none = read.many ∙ read.whole none

  pub read_off : outcome_in base events ≡ outcome_read answers_to (state_of (sim_after base (steps (events_answered answers_to events))))
  read_off = λ i. record {
    accepted = sym read.many i;
    refused = (why_is accepted (slice_get found accepted) ∙ ap (λ n. option_map (λ why. (n, why)) (why_of (slice_get found accepted))) (sym read.many)) i;
    standings = standings_in (state_of ((sym read.behind ∙ ap (λ es. sim_after base (steps es)) made_is) i));
    failovers = count_by is_failover (read.notices i);
    takeovers = count_by is_takeover (read.notices i);
  }

-- so one caller is answered who made the calls of a base before
pub is_answered : (c : ClusterView) (pick : Pick) (calls : List Call) (events : List Event)
    → let base = sim_after (opened c pick) calls in
    let a = answers_to base events in
    IsAnswered c pick calls events a (state_of (sim_after base (steps (events_answered a events))))
is_answered c pick calls events =
    let base = sim_after (opened c pick) calls in
    let made = steps (events_answered (answers_to base events) events) in
    record {
      replies = replies-append (opened c pick) calls made ∙ ap (λ rs. replies (opened c pick) calls ++ rs) (answered_so base events);
      whole = all_answered base events;
      state = ap (λ (s : SimView). state_of s) (sym (after-append (opened c pick) calls made));
    }

pub plan_is_run : PlanIsRun
plan_is_run c pick calls plan =
    let base = sim_after (opened c pick) calls in
    let events = plan.events.items in
    record {
      answers = answers_to base events;
      state = state_of (sim_after base (steps (events_answered (answers_to base events) events)));
      answered = is_answered c pick calls events;
      outcome = read_off base events;
    }
