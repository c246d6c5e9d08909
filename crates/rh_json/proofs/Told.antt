-- The notices of a step, with their times.
use Rattle.std.proofs.Common.{◌≡◌, ℕ, List, [], ◌∷◌, ◌++◌, map, Option, Some, None, is_none, if◌then◌else◌, refl, sym, ap, ◌∙◌}
use Rattle.std.specs.List.{flat_map}
use Rattle.std.proofs.lemmas.List.{map-append}
use Rattle.rh_rules.specs.declared.event.Event.{Event}
use Rattle.rh_rules.specs.declared.event.Event.TheVariants.{Tick}
use Rattle.rh_rules.specs.declared.notice.Notice.{Notice}
use Rattle.rh_rules.specs.declared.refusal.Refusal.{Refusal}
use Rattle.rh_rules.specs.Refusals.{refused}
use Rattle.rh_trace.specs.Validity.{IsValid}
use Rattle.rh_step.specs.Firings.{FiringView, firings, told_by}
use Rattle.rh_step.proofs.FiringsTold.{firings_tell_the_tick}
use Rattle.rh_calls.specs.declared.call.Call.{Call}
use Rattle.rh_calls.specs.declared.call.Call.TheVariants as call
use Rattle.rh_calls.specs.declared.call.Reply.TheVariants as reply
use Rattle.rh_trail.specs.SimView.{SimView, state_of}
use Rattle.rh_trail.specs.Lone.{served}
use Rattle.rh_trail.proofs.Reversals.{accepted}
use Rattle.rh_json_lines.specs.Notices.{timed, timed_notices, fired_by}
use Rattle.rh_json.specs.Laws.{NoticesAreReplied}

untimed : (time : Option ℕ) (notices : List Notice)
    → map (λ (told : Option ℕ × Notice). told.1) (map (λ (n : Notice). (time, n)) notices) ≡ notices
untimed time [] = refl
untimed time (n ∷ notices) = ap (λ (ns : List Notice). n ∷ ns) (untimed time notices)

untimed_firings : (fired : List FiringView) → map (λ (told : Option ℕ × Notice). told.1) (flat_map timed fired) ≡ told_by fired
untimed_firings [] = refl
untimed_firings (f ∷ fired) =
    map-append (λ (told : Option ℕ × Notice). told.1) (timed f) (flat_map timed fired)
    ∙ (λ i. untimed (Some f.due) f.told i ++ untimed_firings fired i)

ticks_replied : (sim : SimView) → IsValid (state_of sim) → (ms : ℕ) (notices : List Notice) → (served sim (call.Step (Tick ms))).reply ≡ reply.Done notices
    → map (λ (told : Option ℕ × Notice). told.1) (timed_notices notices (fired_by sim (call.Step (Tick ms)))) ≡ notices
ticks_replied sim valid ms notices is =
    let fine = accepted sim (Tick ms) notices is in
    let fired = firings (state_of sim) ms sim.pick in
    ap (λ (o : Option Refusal). map (λ (told : Option ℕ × Notice). told.1) (timed_notices notices (if is_none o then Some fired else None))) fine.fine
    ∙ untimed_firings fired
    ∙ (firings_tell_the_tick (state_of sim) ms sim.pick valid fine.fine).0
    ∙ sym fine.told

pub notices_are_replied : (sim : SimView) → IsValid (state_of sim) → NoticesAreReplied sim
notices_are_replied sim valid (call.Step (Tick ms)) notices is = ticks_replied sim valid ms notices is
notices_are_replied sim valid _ notices is = untimed None notices
