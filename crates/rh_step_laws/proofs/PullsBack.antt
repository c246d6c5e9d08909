-- In the second profile a permission that is given back takes an application back from nodes of later groups.
use Rattle.std.proofs.Common.{◌≡◌, ◌&&◌, ◌||◌, ◌++◌, not, true, false, cond, [], ◌∷◌, None, refl, sym, ap, ◌∙◌, subst}
use Rattle.rh_model.specs.ClusterView.{ClusterView, group_of}
use Rattle.rh_model.specs.declared.node.Node.{Node}
use Rattle.rh_model.specs.declared.node.App.{App}
use Rattle.rh_state.specs.Shape.{IsAppOf}
use Rattle.rh_state.specs.StateView.{StateView, is_started, is_allowed}
use Rattle.rh_rules.specs.declared.pick.Pick.{Pick}
use Rattle.rh_rules.specs.Course.{Course, course_of, fresh_of, is_fresh}
use Rattle.rh_rules.specs.Moves.{comes_before}
use Rattle.rh_rules.specs.Settling.{NoneEnabled, settled}
use Rattle.rh_trace.specs.Validity.{IsValid}
use Rattle.rh_rules.specs.declared.event.Event.TheVariants.{Permit}
use Rattle.rh_rules.specs.Marking.{pair}
use Rattle.rh_rules.specs.ByHand.{pulls_back, frees, permission_set, permitted}
use Rattle.rh_rules.specs.Refusals.{refused}
use Rattle.rh_rules.specs.Steps.{followed, next}
use Rattle.rh_step_laws.specs.Laws.{PermissionPullsBack}
use Rattle.rh_settle.proofs.FieldLaws.{never_behind}
use Rattle.rh_base.proofs.Truths.{same_refl}
use Rattle.rh_settle.proofs.Still.{settled_still}
use Rattle.rh_settle.proofs.Unchanged.{settled_cluster}
use Rattle.rh_refusals.proofs.Accepted.{accepted_permit}
use Rattle.rh_events.proofs.EachEvent.{sound_changed}
use Rattle.rh_step.proofs.AnyTime.{ready_alike}
use Rattle.rh_step_laws.proofs.Stops.{none_rises}
use Rattle.rh_step.proofs.Validity.{next_valid}

module _ (s : StateView) (n : Node) (a : App) (pick : Pick) (valid : IsValid s) (fine : refused s (Permit n a true) ≡ None) where
  -- behind the change, and behind the settling that follows at once
  abbrev given : Course
  given = permission_set (course_of s [] []) n a true

  abbrev last : Course
  last = settled pick given

  followed_is : followed pick (course_of s [] []) (Permit n a true) ≡ last
  unfolding followed permitted
  followed_is = ap (settled pick) (none_rises given (λ m. ready_alike s given.state m refl refl ∙ valid.settled m))

  -- its pair is fresh
  module _ (second : pulls_back s.cluster.profile ≡ true) (started : is_started s n a ≡ true) (forbidden : is_allowed s n a ≡ false) where
    frees_it : frees s n a true ≡ true
    frees_it = λ i. second i && (true && (not (forbidden i) && started i))

    freed_is : fresh_of given ≡ pair n a ∷ []
    freed_is = ap (λ b. cond b (pair n a ∷ []) [] ++ []) frees_it

    fresh : is_fresh (fresh_of given) n a ≡ true
    fresh = ap (λ ps. is_fresh ps n a) freed_is ∙ (λ i. (same_refl n.0 i && same_refl a.0 i) || false)

  -- nothing moves behind it
  still : NoneEnabled last.state (fresh_of given)
  unfolding permitted
  still = settled_still pick given (sound_changed (course_of s [] []) (Permit n a true) valid.sound fine).shaped

pub permission_pulls_back : PermissionPullsBack
unfolding next
permission_pulls_back s n m a pick valid fine second started forbidden able before =
    let same = ap (λ (o : Course). o.state) (followed_is s n a pick valid fine) in
    let cluster = ap (λ (t : StateView). t.cluster) same ∙ settled_cluster pick (given s n a pick valid fine) in
    let after : StateView = (followed pick (course_of s [] []) (Permit n a true)).state in
    never_behind after (fresh_of (given s n a pick valid fine)) a m n
    (next_valid s (Permit n a true) pick valid fine).sound
    (subst (λ t. NoneEnabled t (fresh_of (given s n a pick valid fine))) (sym same) (still s n a pick valid fine))
    (subst (λ (c : ClusterView). IsAppOf c a) (sym cluster) (accepted_permit s n a true fine).app)
    (subst (λ (c : ClusterView). comes_before (group_of c a n) (group_of c a m) ≡ true) (sym cluster) before)
    (fresh s n a pick valid fine second started forbidden)
    able
