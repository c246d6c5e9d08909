-- In each profile one caller who gives no permission back has the same replies.
use Rattle.std.proofs.Common.{◌≡◌, ℕ, zero, suc, ◌+◌, ◌-◌, ◌≤◌, ◌==◌, ◌&&◌, not, Bool, true, false, cond, List, [], ◌∷◌, ◌++◌, length, take, Option, Some, None, refl, sym, ap, subst, ◌∙◌, inl, inr, arith}
use Rattle.std.proofs.lemmas.Bool.{cases_lt}
use Rattle.std.proofs.lemmas.Bool.Decides.{nat_tests}
use Rattle.std.proofs.lemmas.List.{length-take-le, length_push}
use Rattle.std.proofs.lemmas.List.Elements.{All-head, All-tail}
use Rattle.rh_model.specs.ClusterView.{ClusterView}
use Rattle.rh_rules.specs.declared.pick.Pick.{Pick}
use Rattle.rh_state.specs.First.{configured}
use Rattle.rh_state.specs.Numbers.{nodes_of, apps_of}
use Rattle.rh_state.specs.StateView.{StateView, is_started, is_allowed}
use Rattle.rh_rules.specs.declared.event.Event.{Event}
use Rattle.rh_rules.specs.declared.event.Event.TheVariants.{Permit}
use Rattle.rh_rules.specs.declared.refusal.Refusal.{Refusal}
use Rattle.rh_rules.specs.declared.refusal.Refusal.TheVariants.{TrailFull}
use Rattle.rh_rules.specs.Refusals.{refused}
use Rattle.rh_rules.specs.Steps.{Outcome, next}
use Rattle.rh_calls.specs.declared.call.Call.{Call}
use Rattle.rh_calls.specs.declared.call.Call.TheVariants as call
use Rattle.rh_calls.specs.declared.call.Reply.TheVariants as reply
use Rattle.rh_step.specs.Runs.{step, after}
use Rattle.rh_trail.specs.SimView.{SimView, state_of}
use Rattle.rh_trail.specs.Lone.{Served, answered, stepped, served, with_event, opened, replies, trail_limit}
use Rattle.rh_calls.specs.Report.{report_text, node_line, running_line, waiting_line, forbidden_line, line_if_forbidden, standing_line, app_line, timer_line, node_lines}
use Rattle.rh_trail.proofs.Histories.{state_earlier, state_last}
use Rattle.rh_text_laws.specs.Profiles.{in_profile, state_in, gives_back, call_gives_back, NoneGivesBack, RepliesSameUnderProfiles, permits, NonePermitsNoneGivesBack}
use Rattle.rh_text_laws.proofs.ProfileMoves.{swap}
use Rattle.rh_text_laws.proofs.Profiles.{same_under_profiles}

module _ (profile : ℕ) where
  -- the same simulation in the profile, and what it answers
  abbrev pub there : SimView → SimView
  there s = record s { cluster = in_profile profile s.cluster }

  abbrev pub served_there : Served → Served
  served_there v = answered v.reply (there v.sim)

  report_alike : (s : StateView) → report_text (state_in profile s) ≡ report_text s
  unfolding nodes_of apps_of node_line running_line waiting_line forbidden_line line_if_forbidden standing_line app_line timer_line node_lines
  report_alike s = refl

  -- behind each number of events of its trail it is in the same state
  pub record IsAlike (s : SimView) : Type 0 where
    pub within : s.cursor ≤ length s.trail
    pub each : (k : ℕ) → k ≤ length s.trail
        → after (in_profile profile s.cluster) s.pick (take k s.trail) ≡ state_in profile (after s.cluster s.pick (take k s.trail))

  pub state_alike : (s : SimView) → IsAlike s → state_of (there s) ≡ state_in profile (state_of s)
  state_alike s alike = alike.each s.cursor alike.within

  -- ---- what is answered
  step_alike : (s : SimView) (e : Event) → IsAlike s → gives_back (state_of s) e ≡ false
      → served (there s) (call.Step e) ≡ served_there (served s (call.Step e))
  step_alike s e alike none =
      ap (stepped (there s) e)
      (ap (λ (t : StateView). refused t e) (state_alike s alike) ∙ (same_under_profiles profile (state_of s) e s.pick).0)
      ∙ by (refused (state_of s) e)
    where
      told : (next (state_of (there s)) e s.pick).notices ≡ (next (state_of s) e s.pick).notices
      told =
          ap (λ (t : StateView). (next t e s.pick).notices) (state_alike s alike)
          ∙ ap (λ (p : Outcome). p.notices) ((same_under_profiles profile (state_of s) e s.pick).1 none)

      by : (o : Option Refusal) → stepped (there s) e o ≡ served_there (stepped s e o)
      by (Some r) = refl
      by None =
          ap (λ ns. cond (s.cursor == trail_limit) (answered (reply.Refused TrailFull) (there s)) (answered (reply.Done ns) (with_event (there s) e))) told
          ∙ swap served_there (s.cursor == trail_limit) (answered (reply.Refused TrailFull) s)
          (answered (reply.Done (next (state_of s) e s.pick).notices) (with_event s e))

  pub served_alike : (s : SimView) (asked : Call) → IsAlike s → call_gives_back s asked ≡ false → served (there s) asked ≡ served_there (served s asked)
  served_alike s (call.Step e) alike none = step_alike s e alike none
  served_alike s call.Undo alike none =
      swap served_there (s.cursor == 0) (answered reply.AtStart s) (answered reply.Undone (record s { cursor = s.cursor - 1 }))
  served_alike s call.Redo alike none =
      swap served_there (s.cursor == length s.trail) (answered reply.AtEnd s) (answered reply.Redone (record s { cursor = s.cursor + 1 }))
  served_alike s call.UndoAll alike none = refl
  served_alike s call.RedoAll alike none = refl
  served_alike s call.Look alike none =
      ap (λ text. answered (reply.Seen s.cursor (length s.trail) text) (there s)) (ap report_text (state_alike s alike) ∙ report_alike (state_of s))

  -- ---- what the simulation is behind it
  event_alike : (s : SimView) (e : Event) → IsAlike s → gives_back (state_of s) e ≡ false → IsAlike (with_event s e)
  unfolding step
  event_alike s e alike none =
      let kept = length-take-le s.cursor s.trail alike.within in
      let pushed = length_push (take s.cursor s.trail) e in
      record {
        within = omega (arith, kept, pushed);
        each = λ k bound. elim (cases_lt s.cursor k) [
          | inl above ↦ subst (λ j. after (in_profile profile s.cluster) s.pick (take j more) ≡ state_in profile (after s.cluster s.pick (take j more)))
              (omega (arith, bound, above, kept, pushed)) last
          | inr below ↦ state_earlier (in_profile profile s.cluster) s.pick s.trail s.cursor e alike.within k below
              ∙ alike.each k (omega (arith, below, alike.within))
              ∙ ap (state_in profile) (sym (state_earlier s.cluster s.pick s.trail s.cursor e alike.within k below))
        ];
      }
    where
      more : List Event
      more = take s.cursor s.trail ++ e ∷ []

      last : after (in_profile profile s.cluster) s.pick (take (s.cursor + 1) more) ≡ state_in profile (after s.cluster s.pick (take (s.cursor + 1) more))
      last =
          state_last (in_profile profile s.cluster) s.pick s.trail s.cursor e alike.within
          ∙ ap (λ (t : StateView). (next t e s.pick).state) (state_alike s alike)
          ∙ ap (λ (p : Outcome). p.state) ((same_under_profiles profile (state_of s) e s.pick).1 none)
          ∙ ap (state_in profile) (sym (state_last s.cluster s.pick s.trail s.cursor e alike.within))

  stepped_alike : (s : SimView) (e : Event) (o : Option Refusal) → IsAlike s → gives_back (state_of s) e ≡ false → IsAlike (stepped s e o).sim
  stepped_alike s e (Some r) alike none = alike
  stepped_alike s e None alike none = by (s.cursor == trail_limit)
    where
      by : (b : Bool) → IsAlike (cond b (answered (reply.Refused TrailFull) s) (answered (reply.Done (next (state_of s) e s.pick).notices) (with_event s e))).sim
      by true = alike
      by false = event_alike s e alike none

  pub sim_alike : (s : SimView) (asked : Call) → IsAlike s → call_gives_back s asked ≡ false → IsAlike (served s asked).sim
  sim_alike s (call.Step e) alike none = stepped_alike s e (refused (state_of s) e) alike none
  sim_alike s call.Undo alike none = by (s.cursor == 0)
    where
      by : (b : Bool) → IsAlike (cond b (answered reply.AtStart s) (answered reply.Undone (record s { cursor = s.cursor - 1 }))).sim
      by true = alike
      by false = record { within = omega (arith, alike.within); each = alike.each }
  sim_alike s call.Redo alike none = by (s.cursor == length s.trail) refl
    where
      by : (b : Bool) → (s.cursor == length s.trail) ≡ b
          → IsAlike (cond b (answered reply.AtEnd s) (answered reply.Redone (record s { cursor = s.cursor + 1 }))).sim
      by true _ = alike
      by false more = record { within = grind (arith, nat_tests, alike.within); each = alike.each }
  sim_alike s call.UndoAll alike none = record { within = omega arith; each = alike.each }
  sim_alike s call.RedoAll alike none = record { within = omega arith; each = alike.each }
  sim_alike s call.Look alike none = alike

  -- ---- all calls
  pub replies_alike : (s : SimView) (calls : List Call) → IsAlike s → NoneGivesBack s calls → replies (there s) calls ≡ replies s calls
  replies_alike s [] alike none = refl
  replies_alike s (asked ∷ calls) alike none =
      ap (λ (v : Served). v.reply ∷ replies v.sim calls) (served_alike s asked alike none.0)
      ∙ ap (λ rs. (served s asked).reply ∷ rs) (replies_alike (served s asked).sim calls (sim_alike s asked alike none.0) none.1)

  pub opened_alike : (c : ClusterView) (pick : Pick) → IsAlike (opened c pick)
  unfolding nodes_of apps_of configured
  opened_alike c pick = record { within = omega arith; each = λ k bound. by k }
    where
      by : (k : ℕ) → after (in_profile profile c) pick (take k []) ≡ state_in profile (after c pick (take k []))
      by zero = refl
      by (suc k) = refl

pub replies_same_under_profiles : RepliesSameUnderProfiles
replies_same_under_profiles profile c pick calls none = replies_alike profile (opened c pick) calls (opened_alike profile c pick) none

-- ---- calls that permit nothing
permits_back : (s : SimView) (asked : Call) → permits asked ≡ false → call_gives_back s asked ≡ false
permits_back s (call.Step (Permit n a allow)) none = ap (λ b. b && (not (is_allowed (state_of s) n a) && is_started (state_of s) n a)) none
permits_back s _ none = refl

pub none_permits_none_gives_back : NonePermitsNoneGivesBack
none_permits_none_gives_back s [] none = tt
none_permits_none_gives_back s (asked ∷ calls) none = (
  permits_back s asked (All-head (λ a. permits a ≡ false) asked calls none),
  none_permits_none_gives_back (served s asked).sim calls (All-tail (λ a. permits a ≡ false) asked calls none),
)
