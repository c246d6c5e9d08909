-- Calls that are answered, and events that are made, one after the other.
use Rattle.std.proofs.Common.{◌≡◌, ◌+◌, ◌<◌, ℕ, suc, List, ◌∷◌, ◌++◌, length, drop, fold, get_or, None, sym, ap, subst, ◌∙◌, append_assoc, arith}
use Rattle.std.proofs.Math.Seq.{drop-cons}
use Rattle.rh_model.specs.ClusterView.{ClusterView}
use Rattle.rh_state.specs.StateView.{StateView}
use Rattle.rh_rules.specs.declared.event.Event.{Event}
use Rattle.rh_rules.specs.declared.pick.Pick.{Pick}
use Rattle.rh_rules.specs.Refusals.{refused}
use Rattle.rh_step.specs.Runs.{step}
use Rattle.rh_calls.specs.declared.call.Call.{Call}
use Rattle.rh_trail.specs.SimView.{SimView}
use Rattle.rh_trail.specs.Lone.{served}
use Rattle.rh_script.specs.Answers.{answer_text}
use Rattle.rh_run.specs.RunText.{answers_text}
use Rattle.rh_explore_text.specs.FoundText.{AllAccepted}

pub next_of : {A : Type 0} (xs : List A) (i : ℕ) (d : A) → i < length xs → drop i xs ≡ get_or xs i d ∷ drop (i + 1) xs
next_of xs i d at = let one : suc i ≡ i + 1 = omega arith in drop-cons xs i d at ∙ ap (λ n. get_or xs i d ∷ drop n xs) one

-- before this call the simulation is now, and behind it next
pub text_goes_on : (c : ClusterView) (start now next : SimView) (calls : List Call) (i : ℕ) (call : Call) → drop i calls ≡ call ∷ drop (i + 1) calls
    → next ≡ (served now call).sim → (told more : List ℕ) → more ≡ told ++ answer_text c (served now call).reply
    → answers_text c start calls ≡ told ++ answers_text c now (drop i calls)
    → answers_text c start calls ≡ more ++ answers_text c next (drop (i + 1) calls)
text_goes_on c start now next calls i call at is told more grown so_far =
    so_far ∙ ap (λ cs. told ++ answers_text c now cs) at
    ∙ ap (λ s. told ++ (answer_text c (served now call).reply ++ answers_text c s (drop (i + 1) calls))) (sym is)
    ∙ sym (append_assoc told (answer_text c (served now call).reply) (answers_text c next (drop (i + 1) calls)))
    ∙ ap (λ t. t ++ answers_text c next (drop (i + 1) calls)) (sym grown)

-- before this event the state is s, and behind it t
module _ (pick : Pick) (s t : StateView) (events : List Event) (i : ℕ) (event : Event) (at : drop i events ≡ event ∷ drop (i + 1) events) where
  pub accepted_here : AllAccepted pick s (drop i events) → refused s event ≡ None
  accepted_here all = let here = subst (AllAccepted pick s) at all in here.0

  pub leads_on : t ≡ step pick s event → fold (step pick) t (drop (i + 1) events) ≡ fold (step pick) s (drop i events)
  leads_on is = ap (λ u. fold (step pick) u (drop (i + 1) events)) is ∙ sym (ap (fold (step pick) s) at)

  pub accepted_on : t ≡ step pick s event → AllAccepted pick s (drop i events) → AllAccepted pick t (drop (i + 1) events)
  accepted_on is all =
      let here = subst (AllAccepted pick s) at all in
      subst (λ u. AllAccepted pick u (drop (i + 1) events)) (sym is) here.1
