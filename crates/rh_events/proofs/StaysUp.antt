-- A node that is up stays up through what an event changes of itself, unless its end is told.
use Rattle.std.proofs.Common.{◌≡◌, ◌≢◌, ◌⊎◌, ℕ, ◌<◌, Bool, true, false, cond, List, [], ◌∷◌, ◌++◌, length, Contains, None, unwrap_or, slice_get, slice_set, sym}
use Rattle.std.proofs.Common.{ap, subst, ◌∙◌, inl, inr, arith, append-nil}
use Rattle.std.proofs.lemmas.Option.{slice_get_past}
use Rattle.std.proofs.lemmas.List.Elements.{Contains-append_left, Contains-append_right}
use Rattle.std.proofs.lemmas.Bool.{cases_lt}
use Rattle.rh_model.specs.declared.node.Node.{Node}
use Rattle.rh_model.specs.declared.node.App.{App}
use Rattle.rh_state.specs.declared.status.Mode.{Mode}
use Rattle.rh_state.specs.declared.status.Mode.TheVariants.{Down, Waiting, Up}
use Rattle.rh_state.specs.StateView.{StateView, mode_of, runs_at, restart_of, is_alive, is_up}
use Rattle.rh_rules.specs.declared.notice.Notice.{Notice}
use Rattle.rh_rules.specs.declared.notice.Notice.TheVariants as notice
use Rattle.rh_rules.specs.Course.{Course}
use Rattle.rh_trace.proofs.Places.{at_set}
use Rattle.rh_rules.specs.declared.event.Event.TheVariants.{Boot, Stop, Exit}
use Rattle.rh_rules.specs.NodesStart.{come_up, booted}
use Rattle.rh_rules.specs.NodesEnd.{ended}
use Rattle.rh_rules.specs.ByHand.{stopped, left_waiting, ends_node, exited}
use Rattle.rh_rules.specs.Steps.{change}
use Rattle.rh_rules.specs.Refusals.{refused}
use Rattle.rh_trace.proofs.Behind.{after_notices}
use Rattle.rh_events.proofs.Notices.{come_up_after, ended_after}
use Rattle.rh_events.proofs.Fields.{ended_modes, stopped_same, left_waiting_same}
use Rattle.rh_refusals.proofs.Accepted.{accepted_boot}
use Rattle.rh_events.proofs.ModesKept.{come_up_modes, booted_modes}

-- it is up, or its end was told
abbrev pub StaysUp : Node → Course → Type 0
StaysUp n o = (mode_of o.state n ≡ Up) ⊎ Contains o.notices (notice.Ended n)

abbrev pub mode_in : List Mode → Node → Mode
mode_in modes n = unwrap_or (slice_get modes n.0) Down

-- where earlier notices change nothing, what was told is told still
pub told_still : (F : Course → Course) → ((base : List Notice) (o : Course) → F (after_notices base o) ≡ after_notices base (F o))
    → (o : Course) (x : Notice) → Contains o.notices x → Contains (F o).notices x
told_still F after o x has =
    let none : Course = record o { notices = [] } in
    let extends : (F o).notices ≡ o.notices ++ (F none).notices =
    ap (λ notices. (F (record o { notices = notices })).notices) (sym (append-nil o.notices)) ∙ ap (λ (p : Course). p.notices) (after o.notices none) in
    subst (λ notices. Contains notices x) (sym extends) (Contains-append_left o.notices (F none).notices x has)

-- a node that is up is one of the list
within : (modes : List Mode) (i : ℕ) → unwrap_or (slice_get modes i) Down ≡ Up → i < length modes
within modes i up = elim (cases_lt i (length modes)) [
  | inl below ↦ below
  | inr above ↦ absurd (cc (ap is_up (sym up ∙ ap (λ o. unwrap_or o Down) (slice_get_past modes i above))))
]

up_kept : (modes : List Mode) (m n : Node) → mode_in modes n ≡ Up → mode_in (slice_set modes m.0 Up) n ≡ Up
up_kept modes m n up = at_set modes m.0 n.0 Up Down (λ same. same ∙ up) (λ here is. is)

pub come_up_stays : (n m : Node) (o : Course) → StaysUp n o → StaysUp n (come_up o m)
come_up_stays n m o (inl up) = inl (ap (λ modes. mode_in modes n) (come_up_modes o m) ∙ up_kept o.state.modes m n up)
come_up_stays n m o (inr has) = inr (told_still (λ p. come_up p m) (λ base p. come_up_after base p m) o (notice.Ended n) has)

ends_told : (n m : Node) (o : Course) → n.0 ≡ m.0 → Contains (ended o m).notices (notice.Ended n)
unfolding ended
ends_told n m o equal = Contains-append_right o.notices (notice.Ended m ∷ []) (notice.Ended n)
    (0, omega arith, ap (λ k. notice.Ended (record { 0 = k })) (sym equal))

pub ended_stays : (n m : Node) (o : Course) → StaysUp n o → StaysUp n (ended o m)
ended_stays n m o (inl up) = at_set o.state.modes m.0 n.0 Down Down
    (λ same. inl (ap (λ modes. mode_in modes n) (ended_modes o m) ∙ same ∙ up))
    (λ here is. inr (ends_told n m o here))
ended_stays n m o (inr has) = inr (told_still (λ p. ended p m) (λ base p. ended_after base p m) o (notice.Ended n) has)

-- ---- what an event changes of itself
boots_another : (s : StateView) (m n : Node) → refused s (Boot m) ≡ None → mode_of s n ≡ Up → n.0 ≢ m.0
boots_another s m n fine up equal =
    let there : mode_of s m ≡ Up = ap (λ k. unwrap_or (slice_get s.modes k) Down) (sym equal) ∙ up in
    clash (sym (accepted_boot s m fine).down ∙ ap is_alive there)
  where
    clash : false ≡ true → ⊥
    clash e = cc e

pub booted_stays : (s : StateView) (m n : Node) → refused s (Boot m) ≡ None → mode_of s n ≡ Up → mode_of (booted s m) n ≡ Up
booted_stays s m n fine up =
    ap (λ modes. mode_in modes n) (booted_modes s m)
    ∙ at_set s.modes m.0 n.0 Waiting Down (λ same. same ∙ up) (λ here is. absurd (boots_another s m n fine up here))

pub still_up : (n : Node) (o p : Course) → mode_of o.state n ≡ Up → p.state.modes ≡ o.state.modes → StaysUp n p
still_up n o p up same = inl (ap (λ modes. mode_in modes n) same ∙ up)

pub stopped_stays : (n m : Node) (a : App) (o : Course) → mode_of o.state n ≡ Up → StaysUp n (change o (Stop m a))
stopped_stays n m a o up = by (runs_at o.state m a)
  where
    by : (b : Bool) → StaysUp n (cond b (stopped o m a) (left_waiting o m a))
    by true = still_up n o (stopped o m a) up (stopped_same o m a).modes
    by false = still_up n o (left_waiting o m a) up (left_waiting_same o m a).modes

pub exited_stays : (n m : Node) (a : App) (normal : Bool) (o : Course) → mode_of o.state n ≡ Up → StaysUp n (change o (Exit m a normal))
unfolding exited
exited_stays n m a normal o up = by (ends_node (restart_of o.state m a) normal)
  where
    by : (b : Bool) → StaysUp n (cond b (ended o m) (stopped o m a))
    by true = ended_stays n m o (inl up)
    by false = still_up n o (stopped o m a) up (stopped_same o m a).modes
