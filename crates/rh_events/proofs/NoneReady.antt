-- After the ready nodes have come up none is ready: a node that comes up readies no other, since it was alive before.
use Rattle.std.proofs.Common.{◌≡◌, ◌<◌, ◌≤◌, ◌&&◌, ◌++◌, ℕ, zero, suc, Bool, true, false, cond, List, [], ◌∷◌, length, fold, get_or, slice_get, unwrap_or, refl}
use Rattle.std.proofs.Common.{sym, ap, ◌∙◌, subst, inl, inr, arith, nat_eq}
use Rattle.std.specs.List.{list_all}
use Rattle.std.proofs.lemmas.Bool.{and_left}
use Rattle.std.proofs.lemmas.Bool.Decides.{leb_tells}
use Rattle.std.proofs.lemmas.Option.{slice_get_past}
use Rattle.std.proofs.lemmas.List.FromFn.{length-map-range_with_len, get_or-map-range_with_len}
use Rattle.rh_model.specs.ClusterView.{node_count, mandatory_of, optional_of, sync_wait_of, numbered, boot_of}
use Rattle.rh_model.specs.declared.node.Node.{Node}
use Rattle.rh_model.specs.declared.node.App.{App}
use Rattle.rh_model.specs.declared.settings.Restart.{Restart}
use Rattle.rh_model.specs.declared.settings.SyncWait.{SyncWait}
use Rattle.rh_model.specs.declared.settings.SyncWait.TheVariants.{Unset, After, Forever}
use Rattle.rh_state.specs.declared.status.Mode.{Mode}
use Rattle.rh_state.specs.declared.status.Mode.TheVariants.{Down, Waiting, Up}
use Rattle.rh_state.specs.declared.status.Standing.{Standing}
use Rattle.rh_state.specs.declared.status.Timer.{Timer}
use Rattle.rh_state.specs.Numbers.{nodes_of}
use Rattle.rh_state.specs.StateView.{StateView, mode_of, is_alive, is_waiting}
use Rattle.rh_base.proofs.Lists.{cases}
use Rattle.rh_rules.specs.declared.notice.Notice.TheVariants as notice
use Rattle.rh_rules.specs.Course.{Course, told, now_in}
use Rattle.rh_trace.proofs.Places.{at_set_here, at_set_there}
use Rattle.rh_rules.specs.NodesStart.{all_alive, has_others, is_ready, come_up, come_up_if_ready, ready_come_up}
use Rattle.rh_rules.specs.Marking.{mark_all}
use Rattle.rh_base.proofs.Truths.{same_number}
use Rattle.rh_trace.proofs.Entries.{other_number}
use Rattle.rh_events.proofs.Marks.{remade, marks_any}
use Rattle.rh_events.proofs.SoundComingUp.{up, waits_where_ready}

-- a node that isn't down is one of those that have a mode
pub within_modes : (s : StateView) (n : Node) → is_alive (mode_of s n) ≡ true → n.0 < length s.modes
within_modes s n = by s.modes n.0
  where
    by : (modes : List Mode) (k : ℕ) → is_alive (unwrap_or (slice_get modes k) Down) ≡ true → k < length modes
    by [] k h = absurd (cc)
    by (m ∷ ms) zero h = omega arith
    by (m ∷ ms) (suc k) h = let l = by ms k h in omega arith

alive_from_waiting : (mode : Mode) → is_waiting mode ≡ true → is_alive mode ≡ true
alive_from_waiting Down h = absurd (cc)
alive_from_waiting Waiting h = refl
alive_from_waiting Up h = refl

-- ---- marks change no mode
others_remade : (s : StateView) (w : List (List App)) (r : List (List Restart)) (st : List Standing) (ts : List (ℕ × Timer)) (m : Node) (wait : SyncWait)
    → has_others (remade s w r st ts) m wait ≡ has_others s m wait
unfolding all_alive
others_remade s w r st ts m Unset = refl
others_remade s w r st ts m (After ms) = refl
others_remade s w r st ts m Forever = refl

ready_remade : (s : StateView) (w : List (List App)) (r : List (List Restart)) (st : List Standing) (ts : List (ℕ × Timer)) (m : Node)
    → is_ready (remade s w r st ts) m ≡ is_ready s m
unfolding is_ready
ready_remade s w r st ts m = ap (λ b. is_waiting (mode_of s m) && b) (others_remade s w r st ts m (sync_wait_of s.cluster m))

ready_come_up_is : (o : Course) (n m : Node) → is_ready (come_up o n).state m ≡ is_ready (up o.state n) m
unfolding come_up mark_all
ready_come_up_is o n m = marks_any (λ s. is_ready s m ≡ is_ready (up o.state n) m) (told (now_in o (up o.state n)) (notice.Up n)) n (boot_of o.state.cluster n)
    (λ w r st ts. ready_remade (up o.state n) w r st ts m)

-- ---- one node comes up
module _ (s : StateView) (n : Node) (waits : is_waiting (mode_of s n) ≡ true) where
  up_here : (m : Node) → m.0 ≡ n.0 → mode_of (up s n) m ≡ Up
  up_here m e = ap (λ k. mode_of (up s n) (numbered k)) e ∙ at_set_here s.modes n.0 Up Down (within_modes s n (alive_from_waiting (mode_of s n) waits))

  alive_kept : (m : Node) → is_alive (mode_of (up s n) m) ≡ is_alive (mode_of s m)
  alive_kept m = cases (nat_eq m.0 n.0)
      (λ t. let e = same_number m.0 n.0 t in
      ap is_alive (up_here m e) ∙ sym (ap (λ k. is_alive (mode_of s (numbered k))) e ∙ alive_from_waiting (mode_of s n) waits))
      (λ f. ap is_alive (at_set_there s.modes n.0 m.0 Up Down (other_number m.0 n.0 f)))

  all_alive_kept : (ms : List Node) → all_alive (up s n) ms ≡ all_alive s ms
  unfolding all_alive
  all_alive_kept ms = λ i. list_all (λ m. alive_kept m i) ms

  others_kept : (m : Node) (wait : SyncWait) → has_others (up s n) m wait ≡ has_others s m wait
  others_kept m Unset = refl
  others_kept m (After ms) = all_alive_kept (mandatory_of s.cluster m ++ optional_of s.cluster m)
  others_kept m Forever = all_alive_kept (mandatory_of s.cluster m ++ optional_of s.cluster m)

  up_not_ready : (m : Node) → m.0 ≡ n.0 → is_ready (up s n) m ≡ false
  unfolding is_ready
  up_not_ready m e = and_left _ _ (ap is_waiting (up_here m e))

  none_readied : (m : Node) → is_ready s m ≡ false → is_ready (up s n) m ≡ false
  unfolding is_ready
  none_readied m not_ready = cases (nat_eq m.0 n.0)
      (λ t. up_not_ready m (same_number m.0 n.0 t))
      (λ f. ap (λ (mode : Mode). is_waiting mode && has_others (up s n) m (sync_wait_of s.cluster m))
      (at_set_there s.modes n.0 m.0 Up Down (other_number m.0 n.0 f))
      ∙ ap (λ b. is_waiting (mode_of s m) && b) (others_kept m (sync_wait_of s.cluster m))
      ∙ not_ready)

-- ---- one node after the other
step_readies_none : (o : Course) (n m : Node) → is_ready o.state m ≡ false → is_ready (come_up_if_ready o n).state m ≡ false
unfolding come_up_if_ready
step_readies_none o n m h = by (is_ready o.state n) refl
  where
    by : (b : Bool) → is_ready o.state n ≡ b → is_ready (cond b (come_up o n) o).state m ≡ false
    by true e = ready_come_up_is o n m ∙ none_readied o.state n (waits_where_ready o.state n e) m h
    by false e = h

step_settles : (o : Course) (n : Node) → is_ready (come_up_if_ready o n).state n ≡ false
unfolding come_up_if_ready
step_settles o n = by (is_ready o.state n) refl
  where
    by : (b : Bool) → is_ready o.state n ≡ b → is_ready (cond b (come_up o n) o).state n ≡ false
    by true e = ready_come_up_is o n n ∙ up_not_ready o.state n (waits_where_ready o.state n e) n refl
    by false e = e

steps_ready_none : (ns : List Node) (o : Course) (m : Node) → is_ready o.state m ≡ false → is_ready (fold come_up_if_ready o ns).state m ≡ false
steps_ready_none [] o m h = h
steps_ready_none (n ∷ ns) o m h = steps_ready_none ns (come_up_if_ready o n) m (step_readies_none o n m h)

steps_settle : (ns : List Node) (o : Course) (k : ℕ) (m : Node) → k < length ns → get_or ns k m ≡ m → is_ready (fold come_up_if_ready o ns).state m ≡ false
steps_settle [] o k m l e = absurd (omega arith)
steps_settle (n ∷ ns) o zero m l e = steps_ready_none ns (come_up_if_ready o n) m
    (subst (λ (x : Node). is_ready (come_up_if_ready o n).state x ≡ false) e (step_settles o n))
steps_settle (n ∷ ns) o (suc k) m l e = steps_settle ns (come_up_if_ready o n) k m (omega arith) e

-- a node that the cluster doesn't have waits for nothing
past_not_ready : (s : StateView) (m : Node) → length s.modes ≤ m.0 → is_ready s m ≡ false
unfolding is_ready
past_not_ready s m l = and_left _ _ (ap (λ o. is_waiting (unwrap_or o Down)) (slice_get_past s.modes m.0 l))

pub none_ready : (o : Course) (m : Node) → length o.state.modes ≡ node_count o.state.cluster → is_ready (ready_come_up o).state m ≡ false
unfolding ready_come_up nodes_of
none_ready o m e = elim (leb_tells (node_count o.state.cluster) m.0) [
  | inl a ↦ steps_ready_none (nodes_of o.state.cluster) o m (past_not_ready o.state m (omega (arith, e, a.1)))
  | inr a ↦ steps_settle (nodes_of o.state.cluster) o m.0 m
      (let l = length-map-range_with_len numbered 0 (node_count o.state.cluster) in omega (arith, l, a.1))
      (get_or-map-range_with_len numbered 0 (node_count o.state.cluster) m.0 m.0 m a.1 (omega arith))
]
