-- A branch of a base: where it is, and how it goes back.
use Rattle.std.proofs.Common.{◌≡◌, ◌<◌, List, Vec, Global, false, take, None, Some, refl, sym, ap, subst, ◌∙◌, arith}
use Rattle.std.proofs.lemmas.List.{length-take-le, length_push}
use Rattle.rh_base.specs.Exchanges.{back, AllBack}
use Rattle.rh_base.proofs.Exchanges.{back-append, AllBack-append}
use Rattle.rh_rules.specs.declared.event.Event.{Event}
use Rattle.rh_rules.specs.declared.refusal.Refusal.{Refusal}
use Rattle.rh_rules.specs.Refusals.{refused}
use Rattle.rh_rules.specs.declared.notice.Notice.{Notice}
use Rattle.rh_trace.specs.Validity.{IsValid}
use Rattle.rh_state.specs.declared.edit.Edit.{Edit}
use Rattle.rh_state.specs.Edits.{exchange}
use Rattle.rh_state.specs.Records.{CanGoBack, LedBy, Grows}
use Rattle.rh_state.specs.StateView.{StateView}
use Rattle.rh_state.specs.Stored.{Stored, read}
use Rattle.rh_rules.specs.Steps.{next}
use Rattle.rh_calls.specs.declared.call.Call.TheVariants as call
use Rattle.rh_calls.specs.declared.call.Reply.TheVariants as reply
use Rattle.rh_trail.specs.Chain.{IsChain}
use Rattle.rh_trail.specs.Lone.{served, stepped, answered, with_event, trail_limit}
use Rattle.rh_step.specs.Runs.{step}
use Rattle.rh_trail.specs.SimView.{SimView, Held, state_of}
use Rattle.rh_trail.proofs.Moves.{step_served}
use Rattle.rh_trail.proofs.Reversals.{state_of-with_event}
use Rattle.rh_sweep.specs.declared.branch.Branch.{Branch}
use Rattle.rh_sweep.specs.Working.{IsAtBase, IsBranch}
use Rattle.rh_sweep.proofs.Chained.{chain_here}

-- edits that were added to others lead back from where they led to
pub led-further : (v w x : Stored) (old new : List Edit) → LedBy v old w → Grows w old x new → LedBy v new x
led-further v w x old new led grows =
    subst (λ (es : List Edit). LedBy v es x) (sym grows.is)
    record {
      all = AllBack-append exchange CanGoBack x old grows.added grows.led.all
          (subst (λ (y : Stored). AllBack exchange CanGoBack y old) (sym grows.led.back) led.all);
      back = back-append exchange x old grows.added ∙ ap (λ (y : Stored). back exchange y old) grows.led.back ∙ led.back;
    }

-- the state of a simulation is what its words say
base-state : (s : Held) → IsChain s → read s.words ≡ state_of s.seen
base-state s chained = ap read (sym (chain_here s)) ∙ chained.each s.seen.cursor chained.within

pub begins : (b : Branch) (base : Held) → IsChain base → IsAtBase b base → IsBranch b base base.seen
begins b base chained at =
    let state : read b.state ≡ state_of base.seen = ap read at.words ∙ base-state base chained in
    record {
      pick = at.pick;
      same = refl;
      within = chained.within;
      state = state;
      valid = subst IsValid (sym state) (chained.valid base.seen.cursor chained.within);
      led = λ kept. subst (λ (es : List Edit). LedBy base.words es b.state) (sym at.none) record { all = tt; back = at.words };
    }

-- what stands in the list that is kept for its room says nothing of where a branch is
pub kept_for_room : (b : Branch) (base : Held) (s : SimView) (notices : Vec Notice Global) → IsBranch b base s
    → IsBranch (record b { notices = notices }) base s
kept_for_room b base s notices at = record {
  pick = at.pick;
  same = at.same;
  within = at.within;
  state = at.state;
  valid = at.valid;
  led = at.led;
}

-- ---- a branch at which an event is made
module _ (b : Branch) (base : Held) (s : SimView) (at : IsBranch b base s) (e : Event) where
  pub refused-there : (r : Refusal) → refused (read b.state) e ≡ Some r → served s (call.Step e) ≡ answered (reply.Refused r) s
  refused-there r is = ap (stepped s e) (ap (λ (v : StateView). refused v e) (sym at.state) ∙ is)

  module _ (fine : refused (read b.state) e ≡ None) where
    pub done-there : (ns : List Notice) → s.cursor < trail_limit → ns ≡ (next (read b.state) e b.pick).notices
        → served s (call.Step e) ≡ answered (reply.Done ns) (with_event s e)
    done-there ns room told = step_served s e ns s.cluster (ap (λ (v : StateView). refused v e) (sym at.state) ∙ fine) room
        (told ∙ (λ j. (next (at.state j) e ((at.pick ∙ sym at.same) j)).notices)) refl

    pub branch-further : (c : Branch) → c.pick ≡ b.pick → read c.state ≡ (next (read b.state) e b.pick).state → IsValid (read c.state)
        → (c.dropped ≡ false → LedBy base.words c.edits.items c.state) → IsBranch c base (with_event s e)
    unfolding step
    branch-further c pick state valid led = record {
      pick = pick ∙ at.pick;
      same = at.same;
      within = omega (arith, length_push (take s.cursor s.trail) e, length-take-le s.cursor s.trail at.within);
      state = state ∙ (λ j. (next (at.state j) e ((at.pick ∙ sym at.same) j)).state) ∙ sym (state_of-with_event s e at.within);
      valid = valid;
      led = led;
    }
