-- Where the trail has room for a plan, its refused event is refused by the rules.
use Rattle.std.proofs.Common.{◌≡◌, ℕ, suc, ◌+◌, ◌≤◌, ◌==◌, false, cond, List, [], ◌∷◌, length, take, slice_get, Option, Some, None, refl, sym, ap, subst, ◌∙◌, arith}
use Rattle.std.specs.List.{prefix_len}
use Rattle.std.proofs.lemmas.Bool.Decides.{nat_tests}
use Rattle.rh_rules.specs.declared.event.Event.{Event}
use Rattle.rh_rules.specs.declared.refusal.Refusal.{Refusal}
use Rattle.rh_rules.specs.declared.refusal.Refusal.TheVariants.{TrailFull}
use Rattle.rh_rules.specs.Refusals.{refused}
use Rattle.rh_rules.specs.Steps.{next}
use Rattle.rh_calls.specs.declared.call.Call.TheVariants.{Step}
use Rattle.rh_calls.specs.declared.call.Reply.{Reply}
use Rattle.rh_calls.specs.declared.call.Reply.TheVariants.{Done, Refused, Undone, Redone, AtStart, AtEnd, Moved, Seen}
use Rattle.rh_trail.specs.SimView.{SimView, state_of}
use Rattle.rh_trail.specs.Lone.{Served, answered, stepped, served, with_event, replies, sim_after, trail_limit}
use Rattle.rh_outcomes.specs.Outcomes.{is_done, refusal_at, steps}
use Rattle.rh_text_laws.specs.Plans.{IsRefusedAt, PlanRefusedByRules}
use Rattle.rh_text_laws.proofs.PlanReplies.{why_of}

module _ (why : Refusal) where
  -- what is to be shown of the replies to a plan's events, of which m are accepted
  abbrev Claim : SimView → List Event → List Reply → ℕ → Type 0
  Claim s events rs m = why_of (slice_get rs m) ≡ Some why → IsRefusedAt s events m why

  claim_refused : (s : SimView) (e : Event) (es : List Event) (r : Refusal) (later : List Reply) → refused (state_of s) e ≡ Some r
      → Claim s (e ∷ es) (Refused r ∷ later) 0
  claim_refused s e es r later at is = record { event = e; there = refl; by_rules = at ∙ is }

  claim_done : (s : SimView) (e : Event) (es : List Event) (reply : Reply) (m : ℕ) → served s (Step e) ≡ answered reply (with_event s e)
      → Claim (with_event s e) es (replies (with_event s e) (steps es)) m
      → Claim s (e ∷ es) (reply ∷ replies (with_event s e) (steps es)) (suc m)
  claim_done s e es reply m made rest is =
      let found = rest is in
      record {
        event = found.event;
        there = found.there;
        by_rules = ap (λ (v : Served). refused (state_of (sim_after v.sim (steps (take m es)))) found.event) made ∙ found.by_rules;
      }

  claim : (events : List Event) (s : SimView) → s.cursor + length events ≤ trail_limit
      → Claim s events (replies s (steps events)) (prefix_len is_done (replies s (steps events)))
  claim [] s room = λ is. absurd (cc is)
  claim (e ∷ es) s room =
      let room_behind : s.cursor + 1 + length es ≤ trail_limit = omega arith in
      by (refused (state_of s) e) refl (claim es (with_event s e) room_behind)
    where
      later : List Reply
      later = replies (with_event s e) (steps es)

      by : (o : Option Refusal) → refused (state_of s) e ≡ o → Claim (with_event s e) es later (prefix_len is_done later)
          → Claim s (e ∷ es) (replies s (steps (e ∷ es))) (prefix_len is_done (replies s (steps (e ∷ es))))
      by (Some r) at rest =
          let made : served s (Step e) ≡ answered (Refused r) s = ap (stepped s e) at in
          subst (λ rs. Claim s (e ∷ es) rs (prefix_len is_done rs)) (sym (ap (λ (v : Served). v.reply ∷ replies v.sim (steps es)) made))
          (claim_refused s e es r (replies s (steps es)) at)
      by None at rest =
          let some : (s.cursor == trail_limit) ≡ false = grind (arith, nat_tests, room) in
          let told = Done (next (state_of s) e s.pick).notices in
          let made : served s (Step e) ≡ answered told (with_event s e) =
          ap (stepped s e) at ∙ ap (λ b. cond b (answered (Refused TrailFull) s) (answered told (with_event s e))) some in
          let one : suc (prefix_len is_done later) ≡ 1 + prefix_len is_done later = omega arith in
          subst (λ rs. Claim s (e ∷ es) rs (prefix_len is_done rs)) (sym (ap (λ (v : Served). v.reply ∷ replies v.sim (steps es)) made))
          (subst (Claim s (e ∷ es) (told ∷ later)) one (claim_done s e es told (prefix_len is_done later) made rest))

-- a refusal with its place
record IsPlaced (m : ℕ) (r : Option Reply) (place : ℕ) (why : Refusal) : Type 0 where
  at : m ≡ place
  is : why_of r ≡ Some why

placed : (m : ℕ) (r : Option Reply) (place : ℕ) (why : Refusal) → refusal_at m r ≡ Some (place, why) → IsPlaced m r place why
placed m None place why e = absurd (cc e)
placed m (Some (Done ns)) place why e = absurd (cc e)
placed m (Some (Refused r)) place why e =
    let pair : (m, r) ≡ (place, why) = cc e in
    record { at = ap (λ (x : ℕ × Refusal). x.0) pair; is = ap (λ (x : ℕ × Refusal). Some x.1) pair }
placed m (Some Undone) place why e = absurd (cc e)
placed m (Some Redone) place why e = absurd (cc e)
placed m (Some AtStart) place why e = absurd (cc e)
placed m (Some AtEnd) place why e = absurd (cc e)
placed m (Some (Moved count)) place why e = absurd (cc e)
placed m (Some (Seen cursor trail text)) place why e = absurd (cc e)

pub plan_refused_by_rules : PlanRefusedByRules
plan_refused_by_rules base plan place why room refused =
    let found = replies base (steps plan.events.items) in
    let m = prefix_len is_done found in
    let so = placed m (slice_get found m) place why refused in
    subst (λ n. IsRefusedAt base plan.events.items n why) so.at (claim why plan.events.items base room so.is)
