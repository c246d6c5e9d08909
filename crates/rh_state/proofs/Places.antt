-- Where a pair stands, by the word of its owner.
use Rattle.std.proofs.Common.{◌≡◌, ◌≢◌, ℕ, Bool, false, cond, Option, Some, None, IsSome, refl, ap, sym, ◌∙◌, inl, inr, arith}
use Rattle.std.specs.List.{Contains}
use Rattle.std.specs.Option.{option_map}
use Rattle.std.proofs.lemmas.Bool.{eq-eqb, ne_eqb}
use Rattle.rh_model.specs.ClusterView.{ClusterView}
use Rattle.rh_model.specs.declared.node.Node.{Node}
use Rattle.rh_model.specs.declared.node.App.{App}
use Rattle.rh_arena.specs.Words.{Words, owner_of}
use Rattle.rh_arena.specs.Lists.{listed, after}
use Rattle.rh_state.specs.declared.status.Place.{Place}
use Rattle.rh_state.specs.declared.status.Place.TheVariants.{Off, InRunning, InWaiting}
use Rattle.rh_state.specs.Lists.{has_app, next_app}
use Rattle.rh_state.specs.Shape.{IsNodeOf, IsAppOf}
use Rattle.rh_state.specs.Tables.{row}
use Rattle.rh_state.specs.Pairs.{pair_number, app_of_pair, running_list, waiting_list, running_in, waiting_in}
use Rattle.rh_state.specs.Formed.{AreOfPairs}
use Rattle.rh_state.proofs.PairLists.{next_pair, after_absent, is_in}
use Rattle.rh_state.proofs.Links.{list_of_pair, running_listed, waiting_listed, runs_by_owner, waits_by_owner}

abbrev place_in : Bool → Bool → Place
place_in runs waits = cond runs InRunning (cond waits InWaiting Off)

-- where a pair stands
abbrev pub place_among : ClusterView → Words → Node → App → Place
place_among c w n a = cond (has_app (row (running_in c w) n.0) a) InRunning (cond (has_app (row (waiting_in c w) n.0) a) InWaiting Off)

by_owner : (c : ClusterView) (w : Words) (n : Node) (a : App) (o : Option ℕ) → AreOfPairs c w → IsNodeOf c n → owner_of w (pair_number c n a) ≡ o
    → place_among c w n a ≡ place_in (is_in o (running_list n)) (is_in o (waiting_list c n))
by_owner c w n a o are node owner = rw (runs_by_owner c w n a are node, waits_by_owner c w n a are node, owner) refl

-- the word says no list
pub off_unowned : (c : ClusterView) (w : Words) (n : Node) (a : App) → AreOfPairs c w → IsNodeOf c n → owner_of w (pair_number c n a) ≡ None
    → place_among c w n a ≡ Off
off_unowned c w n a are node owner = by_owner c w n a None are node owner

-- the word says the list of what runs
pub running_owned : (c : ClusterView) (w : Words) (n : Node) (a : App) (l : ℕ) → AreOfPairs c w → IsNodeOf c n → owner_of w (pair_number c n a) ≡ Some l
    → l ≡ running_list n → place_among c w n a ≡ InRunning
running_owned c w n a l are node owner is =
    by_owner c w n a (Some l) are node owner ∙ ap (λ t. place_in t (is_in (Some l) (waiting_list c n))) (eq-eqb l (running_list n) is)

-- the word says another list
pub waiting_owned : (c : ClusterView) (w : Words) (n : Node) (a : App) (l : ℕ) → AreOfPairs c w → IsNodeOf c n → IsAppOf c a
    → owner_of w (pair_number c n a) ≡ Some l → l ≢ running_list n → place_among c w n a ≡ InWaiting
waiting_owned c w n a l are node app owner apart = elim (list_of_pair c w n a l are app owner) [
  | inl e ↦ absurd (apart e)
  | inr e ↦ by_owner c w n a (Some l) are node owner
      ∙ ap (λ t. place_in t (is_in (Some l) (waiting_list c n))) (ne_eqb l (running_list n) apart)
      ∙ ap (λ t. place_in false t) (eq-eqb l (waiting_list c n) e)
]

-- a pair that isn't started is in no list
pub unowned_off : (c : ClusterView) (w : Words) (n : Node) (a : App) → AreOfPairs c w → IsNodeOf c n → IsAppOf c a → place_among c w n a ≡ Off
    → owner_of w (pair_number c n a) ≡ None
unowned_off c w n a are node app off = by (owner_of w (pair_number c n a)) refl
  where
    by : (o : Option ℕ) → owner_of w (pair_number c n a) ≡ o → o ≡ None
    by None owner = refl
    by (Some l) owner = elim (list_of_pair c w n a l are app owner) [
      | inl e ↦ (let on = sym (running_owned c w n a l are node owner e) ∙ off in absurd (cc))
      | inr e ↦ (
          let apart : l ≢ running_list n = λ f. omega (arith, e, f, node) in
          let on = sym (waiting_owned c w n a l are node app owner apart) ∙ off in
          absurd (cc))
    ]

-- one that is started is in a list
pub IsSome-owner : (c : ClusterView) (w : Words) (n : Node) (a : App) → AreOfPairs c w → IsNodeOf c n → place_among c w n a ≢ Off
    → IsSome (owner_of w (pair_number c n a))
IsSome-owner c w n a are node on = by (owner_of w (pair_number c n a)) refl
  where
    by : (o : Option ℕ) → owner_of w (pair_number c n a) ≡ o → IsSome o
    by None owner = absurd (on (off_unowned c w n a are node owner))
    by (Some l) owner = refl

-- what stands behind a pair in its list
abbrev pub next_among : ClusterView → Words → Node → App → Option App
next_among c w n a =
    cond (has_app (row (running_in c w) n.0) a) (next_app (row (running_in c w) n.0) a) (next_app (row (waiting_in c w) n.0) a)

next_by_owner : (c : ClusterView) (w : Words) (n : Node) (a : App) (o : Option ℕ) → AreOfPairs c w → IsNodeOf c n
    → owner_of w (pair_number c n a) ≡ o
    → next_among c w n a ≡ cond (is_in o (running_list n))
    (option_map (app_of_pair c n) (after (pair_number c n a) (listed w (running_list n))))
    (option_map (app_of_pair c n) (after (pair_number c n a) (listed w (waiting_list c n))))
next_by_owner c w n a o are node owner =
    rw (runs_by_owner c w n a are node, running_listed c w n node, waiting_listed c w n node, owner)
    (rw (next_pair c n a (listed w (running_list n)) (are.running n node), next_pair c n a (listed w (waiting_list c n)) (are.waiting n node)) refl)

-- nothing where it is in no list
pub next_unowned : (c : ClusterView) (w : Words) (n : Node) (a : App) → AreOfPairs c w → IsNodeOf c n → owner_of w (pair_number c n a) ≡ None
    → next_among c w n a ≡ None
next_unowned c w n a are node owner =
    let p = pair_number c n a in
    let absent : Contains (listed w (waiting_list c n)) p → ⊥ =
    λ member. (let e = sym owner ∙ (are.formed.owners p (waiting_list c n)).1 member in absurd (cc)) in
    next_by_owner c w n a None are node owner ∙ ap (option_map (app_of_pair c n)) (after_absent p (listed w (waiting_list c n)) absent)

-- the application of the pair behind it in its list
pub next_owned : (c : ClusterView) (w : Words) (n : Node) (a : App) (l : ℕ) → AreOfPairs c w → IsNodeOf c n → IsAppOf c a
    → owner_of w (pair_number c n a) ≡ Some l → next_among c w n a ≡ option_map (app_of_pair c n) (after (pair_number c n a) (listed w l))
next_owned c w n a l are node app owner =
    let p = pair_number c n a in
    let behind : ℕ → Option App = λ k. option_map (app_of_pair c n) (after p (listed w k)) in
    elim (list_of_pair c w n a l are app owner) [
      | inl e ↦ next_by_owner c w n a (Some l) are node owner
          ∙ ap (λ t. cond t (behind (running_list n)) (behind (waiting_list c n))) (eq-eqb l (running_list n) e) ∙ ap behind (sym e)
      | inr e ↦ (
          let apart : l ≢ running_list n = λ f. omega (arith, e, f, node) in
          next_by_owner c w n a (Some l) are node owner
          ∙ ap (λ t. cond t (behind (running_list n)) (behind (waiting_list c n))) (ne_eqb l (running_list n) apart) ∙ ap behind (sym e))
    ]
