-- A copy of the state in which timers fire, and the event in which they do.
use Rattle.std.proofs.Common.{◌≡◌, ◌+◌, ℕ, List, [], length, Option, Some, None, IfSome, MatchOption, sym, ap, subst, ◌∙◌}
use Rattle.std.proofs.lemmas.List.Sums.{fold_push}
use Rattle.rh_state.specs.StateView.{StateView}
use Rattle.rh_state.specs.Stored.{Stored, read}
use Rattle.rh_trace.specs.Validity.{IsSound}
use Rattle.rh_rules.specs.declared.event.Event.{Event}
use Rattle.rh_rules.specs.declared.event.Event.TheVariants.{Tick}
use Rattle.rh_rules.specs.declared.pick.Pick.{Pick}
use Rattle.rh_step.specs.Runs.{step}
use Rattle.rh_courses.specs.Moments.{behind_timers, behind_firings, passed_in}
use Rattle.rh_courses.specs.Courses.{CourseView}
use Rattle.rh_courses.specs.Working.{all_noted, noted_along, behind_in, AreOf}
use Rattle.rh_courses.proofs.Passing.{tick_end, tick_firings}

-- it is there where a timer fires in the event
abbrev pub IsCopy : Stored → Event → Option Stored → Type 0
IsCopy w e found = MatchOption found ((pick : Pick) → behind_firings pick (read w) e ≡ []) (λ copy. (ms : ℕ) × (e ≡ Tick ms) × (copy ≡ w))

pub copy_sound : (w : Stored) (e : Event) (found : Option Stored) → IsCopy w e found → IsSound (read w) → IfSome found (λ s. IsSound (read s))
copy_sound w e None is sound = tt
copy_sound w e (Some copy) is sound = subst (λ v. IsSound (read v)) (sym is.2) sound

pub copy_apps : (w : Stored) (e : Event) (found : Option Stored) (cs : List CourseView) → IsCopy w e found → AreOf (read w).cluster cs
    → IfSome found (λ s. AreOf (read s).cluster cs)
copy_apps w e None cs is are = tt
copy_apps w e (Some copy) cs is are = subst (λ v. AreOf (read v).cluster cs) (sym is.2) are

-- what fires in it by the time behind the event are the event's firings
pub behind_is : (pick : Pick) (w : Stored) (e : Event) (limit : ℕ) (found : Option Stored) → IsCopy w e found → limit ≡ (step pick (read w) e).time
    → behind_in pick limit found ≡ behind_firings pick (read w) e
behind_is pick w e limit None is end = sym (is pick)
behind_is pick w e limit (Some copy) is end =
    let until : limit ≡ (read w).time + is.0 = end ∙ ap (λ (x : Event). (step pick (read w) x).time) is.1 ∙ tick_end pick (read w) is.0 in
    ap (λ v. behind_timers pick (length (read v).timers) limit (read v)) is.2
    ∙ ap (λ l. behind_timers pick (length (read w).timers) l (read w)) until
    ∙ sym (tick_firings pick (read w) is.0)
    ∙ sym (ap (behind_firings pick (read w)) is.1)

-- what is noted in the event
pub noted_in_event : (pick : Pick) (w : Stored) (e : Event) (limit : ℕ) (found : Option Stored) (cs ds es : List CourseView) (t : StateView)
    → IsCopy w e found → limit ≡ (step pick (read w) e).time → t ≡ step pick (read w) e
    → ds ≡ noted_along cs (behind_in pick limit found) → es ≡ all_noted ds t → es ≡ noted_along cs (passed_in pick (read w) e)
noted_in_event pick w e limit found cs ds es t is end there inside last =
    last
    ∙ ap (all_noted ds) there
    ∙ ap (λ ks. all_noted ks (step pick (read w) e)) (inside ∙ ap (noted_along cs) (behind_is pick w e limit found is end))
    ∙ sym (fold_push all_noted cs (behind_firings pick (read w) e) (step pick (read w) e))
