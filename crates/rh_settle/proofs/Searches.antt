-- A search for the first that is given.
use Rattle.std.proofs.Common.{◌≡◌, ℕ, ◌+◌, ◌<◌, ◌≤◌, List, [], ◌∷◌, map, Option, Some, None, refl, sym, ap, ◌∙◌, drop, get_or, length, arith, zero, suc}
use Rattle.std.proofs.Common.{is_some, inl, inr}
use Rattle.std.proofs.lemmas.Bool.{cases_lt}
use Rattle.std.specs.List.{Contains, last_or}
use Rattle.std.specs.Option.{option_map}
use Rattle.rh_rules.specs.declared.pick.Pick.{Pick}
use Rattle.rh_rules.specs.declared.pick.Pick.TheVariants.{First, Last}
use Rattle.rh_base.specs.Lists.{or_else, first_given}
use Rattle.rh_rules.specs.Placing.{picked}
use Rattle.rh_place.proofs.Picks.{picked_none}
use Rattle.std.proofs.lemmas.List.{at_drop_more, at_drop_all}
use Rattle.rh_state.specs.Numbers.{nodes_of, apps_of}
use Rattle.rh_model.specs.declared.node.Node.{Node}
use Rattle.rh_model.specs.declared.node.App.{App}
use Rattle.rh_base.proofs.Truths.{same_some}
use Rattle.rh_model.specs.ClusterView.{ClusterView, node_count, app_count, numbered, app_numbered}
use Rattle.rh_trace.proofs.Numbered.{length_nodes, length_apps, node_there, app_there}

pub none_of_none : {A : Type 0} (pick : Pick) → None ≡ picked {A = A} pick []
none_of_none First = refl
none_of_none Last = refl

given_more : {A B : Type 0} (f : A → List B) (xs : List A) (i : ℕ) (d : A) → i < length xs
    → first_given f (drop i xs) ≡ or_else (f (get_or xs i d)) (first_given f (drop (i + 1) xs))
given_more f xs i d h = at_drop_more (first_given f) xs i d h

given_all : {A B : Type 0} (f : A → List B) (xs : List A) (i : ℕ) → length xs ≤ i → first_given f (drop i xs) ≡ []
given_all f xs i h = at_drop_all (first_given f) xs i h

-- the pick takes none only of an empty list
pub none_picked : {A : Type 0} (pick : Pick) (xs : List A) → picked pick xs ≡ None → xs ≡ []
none_picked pick xs h = (picked_none pick xs).0 (ap is_some h)

pub some_picked : {A : Type 0} (pick : Pick) (xs ys : List A) (o : A) → picked pick xs ≡ Some o → or_else xs ys ≡ xs
some_picked pick (x ∷ xs) ys o h = refl
some_picked pick [] ys o h = clash pick o h
  where
    clash : {A P : Type 0} (pick : Pick) (y : A) → picked pick [] ≡ Some y → P
    clash First y e = cc
    clash Last y e = cc

module _ {A B : Type 0} (pick : Pick) (f : A → List B) (items all : List A) (i : ℕ) (so_far : first_given f (drop i items) ≡ first_given f all) where
  pub found : (d : A) (o : B) → i < length items → Some o ≡ picked pick (f (get_or items i d)) → Some o ≡ picked pick (first_given f all)
  found d o lt h = h ∙ ap (picked pick)
      (sym (some_picked pick (f (get_or items i d)) (first_given f (drop (i + 1) items)) o (sym h))
      ∙ sym (given_more f items i d lt) ∙ so_far)

  pub later : (d : A) → i < length items → None ≡ picked pick (f (get_or items i d)) → first_given f (drop (i + 1) items) ≡ first_given f all
  later d lt h =
      ap (λ xs. or_else xs (first_given f (drop (i + 1) items))) (sym (none_picked pick (f (get_or items i d)) (sym h)))
      ∙ sym (given_more f items i d lt) ∙ so_far

  pub none : length items ≤ i → None ≡ picked pick (first_given f all)
  none ge = none_of_none pick ∙ ap (picked pick) (sym (given_all f items i ge) ∙ so_far)

-- the pick of moves to several nodes
pub picked_map : {A B : Type 0} (pick : Pick) (f : A → B) (xs : List A) → picked pick (map f xs) ≡ option_map f (picked pick xs)
picked_map First f [] = refl
picked_map First f (x ∷ xs) = refl
picked_map Last f xs = last f xs None
  where
    last : {A B : Type 0} (f : A → B) (xs : List A) (before : Option A) → last_or (option_map f before) (map f xs) ≡ option_map f (last_or before xs)
    last f [] before = refl
    last f (x ∷ xs) before = last f xs (Some x)

module _ {B : Type 0} (pick : Pick) (c : ClusterView) (f : Node → List B) (i : ℕ)
    (so_far : first_given f (drop i (nodes_of c)) ≡ first_given f (nodes_of c)) where
  no_such : Node
  no_such = numbered 0

  pub found_node : (o : B) → i < node_count c → Some o ≡ picked pick (f (numbered i)) → Some o ≡ picked pick (first_given f (nodes_of c))
  found_node o lt h = let l = length_nodes c in found pick f (nodes_of c) (nodes_of c) i so_far no_such o (omega arith)
      (h ∙ ap (λ n. picked pick (f n)) (sym (node_there c i no_such lt)))

  pub later_node : i < node_count c → None ≡ picked pick (f (numbered i)) → first_given f (drop (i + 1) (nodes_of c)) ≡ first_given f (nodes_of c)
  later_node lt h = let l = length_nodes c in later pick f (nodes_of c) (nodes_of c) i so_far no_such (omega arith)
      (h ∙ ap (λ n. picked pick (f n)) (sym (node_there c i no_such lt)))

  pub no_node_left : node_count c ≤ i → None ≡ picked pick (first_given f (nodes_of c))
  no_node_left ge = let l = length_nodes c in none pick f (nodes_of c) (nodes_of c) i so_far (omega arith)

module _ {B : Type 0} (pick : Pick) (c : ClusterView) (f : App → List B) (i : ℕ) (so_far : first_given f (drop i (apps_of c)) ≡ first_given f (apps_of c)) where
  no_such_app : App
  no_such_app = app_numbered 0

  pub found_app : (o : B) → i < app_count c → Some o ≡ picked pick (f (app_numbered i)) → Some o ≡ picked pick (first_given f (apps_of c))
  found_app o lt h = let l = length_apps c in found pick f (apps_of c) (apps_of c) i so_far no_such_app o (omega arith)
      (h ∙ ap (λ n. picked pick (f n)) (sym (app_there c i no_such_app lt)))

  pub later_app : i < app_count c → None ≡ picked pick (f (app_numbered i)) → first_given f (drop (i + 1) (apps_of c)) ≡ first_given f (apps_of c)
  later_app lt h = let l = length_apps c in later pick f (apps_of c) (apps_of c) i so_far no_such_app (omega arith)
      (h ∙ ap (λ n. picked pick (f n)) (sym (app_there c i no_such_app lt)))

  pub no_app_left : app_count c ≤ i → None ≡ picked pick (first_given f (apps_of c))
  no_app_left ge = let l = length_apps c in none pick f (apps_of c) (apps_of c) i so_far (omega arith)

-- ---- a walk over some of the applications
-- nothing is given below a place
given_past : {A B : Type 0} (f : A → List B) (xs : List A) (i : ℕ) (d : A) → i ≤ length xs → ((j : ℕ) → j < i → f (get_or xs j d) ≡ [])
    → first_given f (drop i xs) ≡ first_given f xs
given_past f xs zero d le none = refl
given_past f [] (suc i) d le none = absurd (omega arith)
given_past f (x ∷ xs) (suc i) d le none =
    given_past f xs i d (omega arith) (λ j lt. none (suc j) (omega arith))
    ∙ sym (ap (λ ys. or_else ys (first_given f xs)) (none 0 (omega arith)))

module _ {B : Type 0} (pick : Pick) (c : ClusterView) (f : App → List B) where
  past : (i : ℕ) → i ≤ app_count c → ((a : App) → a.0 < app_count c → a.0 < i → f a ≡ []) → first_given f (drop i (apps_of c)) ≡ first_given f (apps_of c)
  past i le none =
      let d : App = app_numbered 0 in
      given_past f (apps_of c) i d (let l = length_apps c in omega arith)
      (λ j lt. ap f (app_there c j d (omega arith)) ∙ none (app_numbered j) (omega arith) lt)

  pub found_behind : (a : App) (o : B) → a.0 < app_count c → ((b : App) → b.0 < app_count c → b.0 < a.0 → f b ≡ []) → Some o ≡ picked pick (f a)
      → Some o ≡ picked pick (first_given f (apps_of c))
  found_behind a o lt none h = found_app pick c f a.0 (past a.0 (omega arith) none) o lt h

  pub none_behind : ((a : App) → a.0 < app_count c → f a ≡ []) → None ≡ picked pick (first_given f (apps_of c))
  none_behind none = no_app_left pick c f (app_count c) (past (app_count c) (omega arith) (λ a of lt. none a of)) (omega arith)

-- a number is below another, or isn't
pub up_to : {P : Type 0} (i j : ℕ) → (j < i → P) → (i ≤ j → P) → P
up_to i j below from = elim (cases_lt j i) [
  | inl lt ↦ below lt
  | inr ge ↦ from ge
]

pub either_some : {A : Type 0} (pick : Pick) (xs ys : List A) (o : A) → Some o ≡ picked pick xs → Some o ≡ picked pick (or_else xs ys)
either_some pick xs ys o h = h ∙ ap (picked pick) (sym (some_picked pick xs ys o (sym h)))

pub either_none : {A : Type 0} (pick : Pick) (xs ys : List A) (r : Option A) → None ≡ picked pick xs → r ≡ picked pick ys → r ≡ picked pick (or_else xs ys)
either_none pick xs ys r h k = k ∙ ap (λ zs. picked pick (or_else zs ys)) (sym (none_picked pick xs (sym h)))

-- what the pick takes is in the list
no_pick : {A P : Type 0} (y : A) → None ≡ Some y → P
no_pick y e = cc

-- the last is there before, or is in the list
last_contained : {A P : Type 0} (xs : List A) (before : Option A) (y : A) → last_or before xs ≡ Some y → (before ≡ Some y → P) → (Contains xs y → P) → P
last_contained [] before y e earlier here = earlier e
last_contained (x ∷ xs) before y e earlier here =
    last_contained xs (Some x) y e (λ s. here (0, omega arith, same_some x y s)) (λ c. here (suc c.0, (let l = c.1 in omega arith), c.2))

pub contains_picked : {A : Type 0} (pick : Pick) (xs : List A) (y : A) → picked pick xs ≡ Some y → Contains xs y
contains_picked First [] y e = no_pick y e
contains_picked First (x ∷ xs) y e = (0, omega arith, same_some x y e)
contains_picked Last xs y e = last_contained xs None y e (λ h. no_pick y h) (λ c. c)
