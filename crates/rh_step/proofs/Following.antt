-- What settling asks of a state, behind an event's own change and once the ready nodes have come up.
use Rattle.std.proofs.Common.{◌≡◌, ℕ, All, None, sym, arith, subst}
use Rattle.rh_model.specs.ClusterView.{ClusterView}
use Rattle.rh_rules.specs.declared.event.Event.{Event}
use Rattle.rh_rules.specs.Course.{Course}
use Rattle.rh_rules.specs.NodesStart.{ready_come_up}
use Rattle.rh_rules.specs.Refusals.{refused}
use Rattle.rh_rules.specs.Steps.{change}
use Rattle.rh_trace.specs.Counts.{FewWeighed}
use Rattle.rh_trace.specs.Traces.{TraceView, IsPairOf}
use Rattle.rh_trace.specs.Validity.{RunsWhereItStands, IsSound}
use Rattle.rh_events.proofs.EachEvent.{change_cluster, sound_changed, marked_changed}
use Rattle.rh_events.proofs.SoundComingUp.{sound_ready_come_up, ready_come_up_cluster}
use Rattle.rh_events.proofs.Marked.{marked_ready_come_up}

-- ---- an event's own change was made
pub changed_sound : (o p : Course) (e : Event) → p ≡ change o e → IsSound o.state → refused o.state e ≡ None → IsSound p.state
changed_sound o p e made sound fine = subst (λ (q : Course). IsSound q.state) (sym made) (sound_changed o e sound fine)

pub changed_pairs : (o p : Course) (e : Event) → p ≡ change o e → refused o.state e ≡ None → All (IsPairOf o.state.cluster) o.marked
    → All (IsPairOf p.state.cluster) p.marked
changed_pairs o p e made fine pairs =
    subst (λ (q : Course). All (IsPairOf q.state.cluster) q.marked) (sym made)
    (subst (λ (c : ClusterView). All (IsPairOf c) (change o e).marked) (sym (change_cluster o e)) (marked_changed o e fine pairs))

-- what follows keeps no edits beside those for what it tells
pub few_followed : (c d : ClusterView) (more : ℕ) (s t u : TraceView) → d ≡ c → FewWeighed c more s t → FewWeighed d 0 t u → FewWeighed c more s u
few_followed c d more s t u same own rest =
    let followed = subst (λ (v : ClusterView). FewWeighed v 0 t u) same rest in
    omega (arith, own, followed)

-- ---- the ready nodes have come up
pub risen_pairs : (o p : Course) → p ≡ ready_come_up o → IsSound o.state → All (IsPairOf o.state.cluster) o.marked → All (IsPairOf p.state.cluster) p.marked
risen_pairs o p made sound pairs =
    subst (λ (q : Course). All (IsPairOf q.state.cluster) q.marked) (sym made)
    (subst (λ (c : ClusterView). All (IsPairOf c) (ready_come_up o).marked) (sym (ready_come_up_cluster o)) (marked_ready_come_up o sound.within pairs))

pub risen_runs : (o p : Course) → p ≡ ready_come_up o → IsSound o.state → RunsWhereItStands p.state
risen_runs o p made sound = subst (λ (q : Course). RunsWhereItStands q.state) (sym made) (sound_ready_come_up o sound).runs
