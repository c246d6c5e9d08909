-- A node whose wait ends without one of its mandatory nodes ends.
use Rattle.std.proofs.Common.{◌≡◌, ℕ, zero, suc, Bool, true, false, cond, List, [], ◌∷◌, fold, refl, sym, ap, subst, ◌∙◌, arith, inl, inr, slice_get, slice_set, unwrap_or}
use Rattle.std.specs.List.{Contains}
use Rattle.std.proofs.lemmas.Bool.{and_left}
use Rattle.std.proofs.lemmas.List.Elements.{All-contains, Contains-append_right}
use Rattle.std.proofs.lemmas.List.Sums.{AllPass-from_list_all}
use Rattle.rh_model.specs.ClusterView.{mandatory_of}
use Rattle.rh_model.specs.declared.node.Node.{Node}
use Rattle.rh_state.specs.declared.status.Mode.{Mode}
use Rattle.rh_state.specs.declared.status.Mode.TheVariants.{Down, Up}
use Rattle.rh_state.specs.declared.status.Timer.TheVariants.{Sync}
use Rattle.rh_state.specs.Numbers.{nodes_of}
use Rattle.rh_state.specs.StateView.{StateView, mode_of, is_alive, is_up, is_waiting}
use Rattle.rh_rules.specs.declared.pick.Pick.{Pick}
use Rattle.rh_rules.specs.declared.notice.Notice.TheVariants as notice
use Rattle.rh_rules.specs.Course.{Course}
use Rattle.rh_rules.specs.NodesStart.{all_alive, is_ready, come_up, come_up_if_ready, ready_come_up}
use Rattle.rh_rules.specs.Settling.{settled}
use Rattle.rh_rules.specs.NodesEnd.{ended}
use Rattle.rh_rules.specs.Time.{taken_off, fired}
use Rattle.rh_step_laws.specs.Laws.{EndsWithoutMandatory}
use Rattle.rh_base.proofs.Truths.{both}
use Rattle.rh_trace.proofs.Entries.{is_false}
use Rattle.rh_trace.proofs.Places.{at_set}
use Rattle.rh_settle.proofs.Unchanged.{settled_modes}
use Rattle.rh_events.proofs.Fields.{ended_modes}
use Rattle.rh_events.proofs.ModesKept.{come_up_modes}
use Rattle.rh_events.proofs.StaysUp.{mode_in}
use Rattle.rh_step_laws.proofs.StayUp.{rest_stays}

one_missing : (s : StateView) (nodes : List Node) (m : Node) → Contains nodes m → is_alive (mode_of s m) ≡ false → all_alive s nodes ≡ false
unfolding all_alive
one_missing s nodes m has dead = is_false (all_alive s nodes) (λ t. both (is_alive (mode_of s m))
    (All-contains (λ k. is_alive (mode_of s k) ≡ true) nodes m (AllPass-from_list_all (λ k. is_alive (mode_of s k)) nodes t) has) dead)

-- ---- a node that is down comes up with no others
set_down : (modes : List Mode) (i : ℕ) → unwrap_or (slice_get (slice_set modes i Down) i) Down ≡ Down
set_down [] i = refl
set_down (x ∷ xs) zero = refl
set_down (x ∷ xs) (suc i) = set_down xs i

not_ready : (s : StateView) (n : Node) → mode_of s n ≡ Down → is_ready s n ≡ false
unfolding is_ready
not_ready s n down = and_left _ _ (ap is_waiting down)

one_rises : (n k : Node) (o : Course) → mode_of o.state n ≡ Down → mode_of (come_up_if_ready o k).state n ≡ Down
unfolding come_up_if_ready
one_rises n k o down = by (is_ready o.state k) refl
  where
    by : (b : Bool) → is_ready o.state k ≡ b → mode_of (cond b (come_up o k) o).state n ≡ Down
    by true e = ap (λ modes. mode_in modes n) (come_up_modes o k)
        ∙ at_set o.state.modes k.0 n.0 Up Down
        (λ same. same ∙ down)
        (λ here v. absurd (both (is_ready o.state k) e (not_ready o.state k (ap (λ i. unwrap_or (slice_get o.state.modes i) Down) (sym here) ∙ down))))
    by false e = down

each_rises : (n : Node) (ks : List Node) (o : Course) → mode_of o.state n ≡ Down → mode_of (fold come_up_if_ready o ks).state n ≡ Down
each_rises n [] o down = down
each_rises n (k ∷ ks) o down = each_rises n ks (come_up_if_ready o k) (one_rises n k o down)

rest_down : (n : Node) (pick : Pick) (o : Course) → mode_of o.state n ≡ Down → mode_of (settled pick (ready_come_up o)).state n ≡ Down
unfolding ready_come_up
rest_down n pick o down = ap (λ modes. mode_in modes n) (settled_modes pick (ready_come_up o)) ∙ each_rises n (nodes_of o.state.cluster) o down

-- ---- a node that ends
end_told : (o : Course) (n : Node) → Contains (ended o n).notices (notice.Ended n)
unfolding ended
end_told o n = Contains-append_right o.notices (notice.Ended n ∷ []) (notice.Ended n) (0, omega arith, refl)

end_down : (o : Course) (n : Node) → mode_of (ended o n).state n ≡ Down
end_down o n = ap (λ modes. mode_in modes n) (ended_modes o n) ∙ set_down o.state.modes n.0

-- and all that follows
follows : (pick : Pick) (o : Course) (n : Node)
    → (mode_of (settled pick (ready_come_up (ended o n))).state n ≡ Down) × Contains (settled pick (ready_come_up (ended o n))).notices (notice.Ended n)
follows pick o n =
    let down = rest_down n pick (ended o n) (end_down o n) in (
      down,
      elim (rest_stays n pick (ended o n) (inr (end_told o n))) [
        | inl up ↦ absurd (both (is_up (mode_of (settled pick (ready_come_up (ended o n))).state n)) (ap is_up up) (ap is_up down))
        | inr has ↦ has
      ],
    )

fired_is : (pick : Pick) (o : Course) (due : ℕ) (n m : Node) → Contains (mandatory_of o.state.cluster n) m → is_alive (mode_of o.state m) ≡ false
    → settled pick (ready_come_up (ended (taken_off o (due, Sync n)) n)) ≡ fired pick o (due, Sync n)
unfolding fired
fired_is pick o due n m has dead =
    sym (ap (λ b. settled pick (ready_come_up (cond b (come_up (taken_off o (due, Sync n)) n) (ended (taken_off o (due, Sync n)) n))))
    (one_missing (taken_off o (due, Sync n)).state (mandatory_of o.state.cluster n) m has dead))

pub ends_without_mandatory : EndsWithoutMandatory
ends_without_mandatory pick o due n m has dead =
    let is = fired_is pick o due n m has dead in
    let all = follows pick (taken_off o (due, Sync n)) n in
    (ap (λ (p : Course). mode_of p.state n) (sym is) ∙ all.0, subst (λ (p : Course). Contains p.notices (notice.Ended n)) is all.1)
