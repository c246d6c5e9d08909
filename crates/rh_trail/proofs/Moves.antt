-- What a simulation serves where a step is taken back, made again or added.
use Rattle.std.proofs.Common.{◌≡◌, ◌≢◌, ℕ, ◌+◌, ◌-◌, ◌<◌, ◌≤◌, ◌==◌, List, [], ◌∷◌, ◌++◌, length, take, Result, Ok, Err, OnOk, Bool, true, false, cond}
use Rattle.std.proofs.Common.{None, refl, sym, ap, subst, ◌∙◌, arith}
use Rattle.std.proofs.lemmas.Bool.Decides.{nat_tests}
use Rattle.rh_model.specs.ClusterView.{ClusterView}
use Rattle.rh_rules.specs.declared.event.Event.{Event}
use Rattle.rh_rules.specs.declared.refusal.Refusal.TheVariants.{TrailFull}
use Rattle.rh_rules.specs.Refusals.{refused}
use Rattle.rh_rules.specs.declared.pick.Pick.{Pick}
use Rattle.rh_rules.specs.declared.notice.Notice.{Notice}
use Rattle.rh_step.specs.Counts.{most_edits}
use Rattle.rh_rules.specs.Steps.{next}
use Rattle.rh_calls.specs.declared.call.Call.TheVariants as call
use Rattle.rh_calls.specs.declared.call.Reply.TheVariants as reply
use Rattle.rh_state.specs.declared.edit.Edit.{Edit}
use Rattle.rh_state.specs.Records.{LedBy, Grows}
use Rattle.rh_state.specs.StateView.{StateView}
use Rattle.rh_state.specs.Stored.{Stored, read}
use Rattle.rh_trace.specs.Validity.{IsValid}
use Rattle.rh_trail.specs.declared.sim.AtStart.{AtStart}
use Rattle.rh_trail.specs.declared.sim.AtEnd.{AtEnd}
use Rattle.rh_calls.specs.declared.call.Reply.{Reply}
use Rattle.rh_trail.specs.Chain.{chain_at}
use Rattle.rh_step.specs.Runs.{step, after}
use Rattle.rh_trail.specs.SimView.{SimView, state_of}
use Rattle.rh_trail.specs.Lone.{Served, served, stepped, answered, with_event, undo_reply, redo_reply, trail_limit}
use Rattle.rh_trail.proofs.Small.{limit}
use Rattle.rh_trace.proofs.Ways.{back_cluster}
use Rattle.rh_trail.proofs.Chains.{Chained, chain_reads, stepped as chain_stepped, push_chain}

pub undo_served : (s : SimView) (cl : ClusterView) → s.cursor ≢ 0 → cl ≡ s.cluster
    → served s call.Undo ≡ answered reply.Undone (record { cluster = cl; pick = s.pick; trail = s.trail; cursor = s.cursor - 1 })
undo_served s cl some same =
    let no : (s.cursor == 0) ≡ false = grind (arith, nat_tests, some) in
    ap (λ (b : Bool). cond b (answered reply.AtStart s) (answered reply.Undone (record s { cursor = s.cursor - 1 }))) no
    ∙ ap (λ (v : ClusterView). answered reply.Undone (record { cluster = v; pick = s.pick; trail = s.trail; cursor = s.cursor - 1 })) (sym same)

pub redo_served : (s : SimView) (cl : ClusterView) → s.cursor ≢ length s.trail → cl ≡ s.cluster
    → served s call.Redo ≡ answered reply.Redone (record { cluster = cl; pick = s.pick; trail = s.trail; cursor = s.cursor + 1 })
redo_served s cl some same =
    let no : (s.cursor == length s.trail) ≡ false = grind (arith, nat_tests, some) in
    ap (λ (b : Bool). cond b (answered reply.AtEnd s) (answered reply.Redone (record s { cursor = s.cursor + 1 }))) no
    ∙ ap (λ (v : ClusterView). answered reply.Redone (record { cluster = v; pick = s.pick; trail = s.trail; cursor = s.cursor + 1 })) (sym same)

pub step_served : (s : SimView) (e : Event) (ns : List Notice) (cl : ClusterView) → refused (state_of s) e ≡ None → s.cursor < trail_limit
    → ns ≡ (next (state_of s) e s.pick).notices → cl ≡ s.cluster
    → served s (call.Step e) ≡ answered (reply.Done ns) (record { cluster = cl; pick = s.pick; trail = take s.cursor s.trail ++ e ∷ []; cursor = s.cursor + 1 })
step_served s e ns cl fine room told same =
    let no : (s.cursor == trail_limit) ≡ false = grind (arith, nat_tests, room) in
    ap (stepped s e) fine
    ∙ ap (λ (b : Bool). cond b (answered (reply.Refused TrailFull) s) (answered (reply.Done (next (state_of s) e s.pick).notices) (with_event s e))) no
    ∙ (λ i. answered (reply.Done (sym told i)) (record { cluster = sym same i; pick = s.pick; trail = take s.cursor s.trail ++ e ∷ []; cursor = s.cursor + 1 }))

-- edits that were added to none
pub led_by : (v w : Stored) (es fs : List Edit) → es ≡ [] → Grows v es w fs → LedBy v fs w
led_by v w es fs none g = subst (λ (r : List Edit). LedBy v r w) (sym (g.is ∙ ap (λ (xs : List Edit). xs ++ g.added) none)) g.led

-- a step that was made and kept: n is the cursor before, v and w the words before and behind it, and r its edits
module _ (pick : Pick) (trail more : List Event) (v w : Stored) (rs rows : List (List Edit)) (n : ℕ) (e : Event) (r : List Edit)
    (h : Chained v.cluster pick trail v rs n)
    (room : n < trail_limit) (led : LedBy v r w) (reads : read w ≡ (next (read v) e pick).state) (valid : IsValid (read w))
    (few : length r ≤ most_edits (read v) e (next (read v) e pick))
    (trail_is : more ≡ take n trail ++ e ∷ []) (rs_is : rows ≡ take n rs ++ r ∷ []) where
  pub made_cluster : w.cluster ≡ v.cluster
  made_cluster = sym (back_cluster w r) ∙ ap (λ (x : Stored). x.cluster) led.back

  made_reads : read w ≡ step pick (after v.cluster pick (take n trail)) e
  unfolding step
  made_reads = reads ∙ ap (λ (s : StateView). (next s e pick).state) (chain_reads v.cluster pick trail v rs n h)

  made_small : length r ≤ limit v.cluster pick (take n trail) e
  made_small =
      subst (λ (s : StateView). length r ≤ most_edits s e (next s e pick)) (chain_reads v.cluster pick trail v rs n h) few

  pub made_keeps : Chained w.cluster pick more w rows (n + 1)
  made_keeps =
      subst (λ (cl : ClusterView). Chained cl pick more w rows (n + 1)) (sym made_cluster)
      (subst (λ (es : List Event). Chained v.cluster pick es w rows (n + 1)) (sym trail_is)
      (subst (λ (xs : List (List Edit)). Chained v.cluster pick (take n trail ++ e ∷ []) w xs (n + 1)) (sym rs_is)
      (chain_stepped v w rs n r (omega (arith, h.count, h.within)) led v.cluster pick trail e h room made_reads valid made_small)))

  pub made_chains : (k : ℕ) → k ≤ n → chain_at w rows (n + 1) k ≡ chain_at v rs n k
  made_chains k below = ap (λ (xs : List (List Edit)). chain_at w xs (n + 1) k) rs_is ∙ push_chain v w rs n r (omega (arith, h.count, h.within)) led k below

  pub made_serves : (ns : List Notice) → refused (read v) e ≡ None → ns ≡ (next (read v) e pick).notices
      → served (record { cluster = v.cluster; pick = pick; trail = trail; cursor = n }) (call.Step e)
      ≡ answered (reply.Done ns) (record { cluster = w.cluster; pick = pick; trail = more; cursor = n + 1 })
  made_serves ns fine told =
      let is : read v ≡ after v.cluster pick (take n trail) = chain_reads v.cluster pick trail v rs n h in
      step_served (record { cluster = v.cluster; pick = pick; trail = trail; cursor = n }) e ns w.cluster
      (ap (λ (s : StateView). refused s e) (sym is) ∙ fine) room (told ∙ ap (λ (s : StateView). (next s e pick).notices) is) made_cluster
      ∙ ap (λ (es : List Event). answered (reply.Done ns) (record { cluster = w.cluster; pick = pick; trail = es; cursor = n + 1 })) (sym trail_is)

-- ---- undo where there is a step to take back, and redo where there is one to make again
abbrev is_moved : Reply → Bool
is_moved reply.Undone = true
is_moved reply.Redone = true
is_moved _ = false

pub went_back : (s t : SimView) (r : Result ℕ AtStart) (P : Type 0) → s.cursor ≢ 0 → served s call.Undo ≡ answered (undo_reply r) t → OnOk r P → P
went_back s t (Ok n) P some is h = h
went_back s t (Err x) P some is h =
    let other : true ≡ false = ap (λ (a : Served). is_moved a.reply) (sym (undo_served s s.cluster some refl) ∙ is) in
    absurd (cc other)

pub back_to : (s t : SimView) (r : Result ℕ AtStart) → s.cursor ≢ 0 → served s call.Undo ≡ answered (undo_reply r) t → t ≡ record s { cursor = s.cursor - 1 }
back_to s t r some is = ap (λ (a : Served). a.sim) (sym is ∙ undo_served s s.cluster some refl)

pub went_forth : (s t : SimView) (r : Result ℕ AtEnd) (P : Type 0) → s.cursor ≢ length s.trail → served s call.Redo ≡ answered (redo_reply r) t → OnOk r P → P
went_forth s t (Ok n) P some is h = h
went_forth s t (Err x) P some is h =
    let other : true ≡ false = ap (λ (a : Served). is_moved a.reply) (sym (redo_served s s.cluster some refl) ∙ is) in
    absurd (cc other)

pub forth_to : (s t : SimView) (r : Result ℕ AtEnd) → s.cursor ≢ length s.trail → served s call.Redo ≡ answered (redo_reply r) t
    → t ≡ record s { cursor = s.cursor + 1 }
forth_to s t r some is = ap (λ (a : Served). a.sim) (sym is ∙ redo_served s s.cluster some refl)
