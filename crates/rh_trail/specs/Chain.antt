-- The words that undo and redo lead to, without a replay (ours).
use Rattle.std.specs.Prelude.{◌≡◌, ◌≤◌, ◌-◌, ℕ, List, length, take, drop, slice_get, Some, nat_le, if◌then◌else◌}
use Rattle.rh_base.specs.Exchanges.{back, forth, AllBack, AllForth}
use Rattle.rh_state.specs.declared.edit.Edit.{Edit}
use Rattle.rh_state.specs.Edits.{exchange}
use Rattle.rh_state.specs.First.{first_words}
use Rattle.rh_state.specs.Records.{CanGoBack, CanGoForth}
use Rattle.rh_state.specs.Stored.{Stored, read}
use Rattle.rh_trace.specs.Validity.{IsValid}
use Rattle.rh_rules.specs.declared.event.Event.{Event}
use Rattle.rh_step.specs.Counts.{most_edits}
use Rattle.rh_rules.specs.Steps.{next}
use Rattle.rh_step.specs.Runs.{after}
use Rattle.rh_trail.specs.SimView.{SimView, Held, record_at}
use Rattle.rh_calls.specs.declared.call.Call.{Call}
use Rattle.rh_calls.specs.declared.call.Call.TheVariants as call
use Rattle.rh_trail.specs.declared.sim.TheConstants.Sim.{TRAIL_LIMIT}

-- the words after records are exchanged from the last to the first, each from its last edit to its first
abbrev pub backs : Stored → List (List Edit) → Stored
backs w records = back (back exchange) w records

-- and from the first to the last, each from its first edit to its last
abbrev pub forths : Stored → List (List Edit) → Stored
forths w records = forth (forth exchange) w records

-- the words behind k events, from the words behind c of them
unfoldable pub chain_at : Stored → List (List Edit) → ℕ → ℕ → Stored
chain_at w records c k = if nat_le k c then backs w (drop k (take c records)) else forths w (take (k - c) (drop c records))

-- the words behind k events, from those that are kept
abbrev pub chain : Held → ℕ → Stored
chain s k = chain_at s.words s.records s.seen.cursor k

-- how far the words stay that undo and redo lead to: a step keeps those up to the cursor, each other call all of them
abbrev pub kept_to : SimView → Call → ℕ
kept_to s (call.Step e) = s.cursor
kept_to s call.Undo = length s.trail
kept_to s call.Redo = length s.trail
kept_to s call.UndoAll = length s.trail
kept_to s call.RedoAll = length s.trail
kept_to s call.Look = length s.trail

-- so many edits are no more than the event that comes behind k others may keep
abbrev pub IsSmall : SimView → ℕ → ℕ → Type 0
IsSmall s k count = (e : Event) → slice_get s.trail k ≡ Some e
    → count ≤ most_edits (after s.cluster s.pick (take k s.trail)) e (next (after s.cluster s.pick (take k s.trail)) e s.pick)

-- undo and redo lead to the state behind each number of events of the trail, over words that are well formed before and
-- after each single exchange; and back to the words of the first state
pub record IsChain (s : Held) : Type 0 where
  pub count : length s.records ≡ length s.seen.trail
  pub within : s.seen.cursor ≤ length s.seen.trail
  pub limited : length s.seen.trail ≤ TRAIL_LIMIT
  pub below : AllBack (back exchange) (AllBack exchange CanGoBack) s.words (take s.seen.cursor s.records)
  pub above : AllForth (forth exchange) (AllForth exchange CanGoForth) s.words (drop s.seen.cursor s.records)
  pub first : chain s 0 ≡ first_words s.seen.cluster
  pub each : (k : ℕ) → k ≤ length s.seen.trail → read (chain s k) ≡ after s.seen.cluster s.seen.pick (take k s.seen.trail)
  -- and each of these states is one that a cluster reaches
  pub valid : (k : ℕ) → k ≤ length s.seen.trail → IsValid (after s.seen.cluster s.seen.pick (take k s.seen.trail))
  -- and what each event changed is no more than it may keep
  pub small : (k : ℕ) → IsSmall s.seen k (length (record_at s k))
