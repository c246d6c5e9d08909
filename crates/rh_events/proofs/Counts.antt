-- How many edits an event keeps.
use Rattle.std.proofs.Common.{◌≡◌, ◌≤◌, ◌+◌, ◌*◌, ℕ, List, [], ◌∷◌, ◌++◌, length, fold, Result, Ok, Err, OnOk, refl, sym, ap, subst, ◌∙◌, arith}
use Rattle.rh_model.specs.ClusterView.{ClusterView}
use Rattle.rh_model.specs.declared.node.Node.{Node}
use Rattle.rh_model.specs.declared.node.App.{App}
use Rattle.rh_model.specs.declared.settings.Restart.{Restart}
use Rattle.rh_rules.specs.declared.notice.Notice.{Notice}
use Rattle.rh_trace.specs.Counts.{FewEdits, FewWeighed, weight, weights}
use Rattle.rh_rules.specs.Course.{Course}
use Rattle.rh_trace.specs.Traces.{TraceView}
use Rattle.rh_trace.specs.Ways.{Tells}
use Rattle.rh_trace.proofs.Counts.{weights_told, weighed}
use Rattle.rh_rules.specs.declared.event.Event.{Event}
use Rattle.rh_events.specs.Counts.{own_edits}
use Rattle.rh_rules.specs.Marking.{mark_booted, mark_all}

-- where one notice was told, its weight pays for the edits
pub told_once : (c : ClusterView) (n : Notice) (old new : TraceView) → new.notices ≡ old.notices ++ n ∷ []
    → length new.edits ≤ length old.edits + 4 * weight c n → FewWeighed c 0 old new
told_once c n old new told few =
    let all = ap (weights c) told in
    let one = weights_told c old.notices n in omega (arith, all, one, few)

-- marks tell nothing
marks_tell : (o : Course) (n : Node) (boot : List (App × Restart)) → (fold (mark_booted n) o boot).notices ≡ o.notices
marks_tell o n [] = refl
marks_tell o n (b ∷ boot) = marks_tell (mark_booted n o b) n boot

pub mark_all_tells : (o : Course) (n : Node) (boot : List (App × Restart)) → (mark_all o n boot).notices ≡ o.notices
unfolding mark_all
mark_all_tells o n boot = marks_tell o n boot

-- two facts of one answer
pub on_ok_two : {T E P Q R : Type 0} (r : Result T E) → (P → Q → R) → OnOk r P → OnOk r Q → OnOk r R
on_ok_two (Ok x) f p q = f p q
on_ok_two (Err e) f p q = tt

-- an event that is of this kind
pub of_event : (c : ClusterView) (e made : Event) (old new : TraceView) → e ≡ made → Tells old.notices new.notices
    → FewEdits (own_edits c made) old new → FewWeighed c (own_edits c e) old new
of_event c e made old new is tells few =
    subst (λ (f : Event). FewWeighed c (own_edits c f) old new) (sym is) (weighed c (own_edits c made) old new tells few)

pub of_event_ok : {T E : Type 0} (c : ClusterView) (e made : Event) (old new : TraceView) (r : Result T E) → e ≡ made
    → OnOk r (FewWeighed c (own_edits c made) old new) → OnOk r (FewWeighed c (own_edits c e) old new)
of_event_ok c e made old new r is = subst (λ (f : Event). OnOk r (FewWeighed c (own_edits c f) old new)) (sym is)
