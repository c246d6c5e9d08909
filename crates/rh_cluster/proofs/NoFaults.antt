-- What follows where a stage finds no fault.
use Rattle.std.proofs.Common.{◌≡◌, ◌≢◌, ◌||◌, ◌&&◌, ℕ, Bool, true, false, cond, List, [], ◌∷◌, ◌++◌, Option, Some, None}
use Rattle.std.proofs.Common.{is_some, unwrap_or, option_map, refl, sym, ap, ◌∙◌, arith}
use Rattle.std.specs.Prelude.{All, AllPairs}
use Rattle.std.specs.List.{list_any, filter_map, cons_option}
use Rattle.std.specs.Str.{bytes_eq}
use Rattle.std.proofs.lemmas.Slice.Eq.{bytes_eq-Decides}
use Rattle.std.proofs.lemmas.List.Elements.{All-nil, filter_map-append}
use Rattle.std.proofs.lemmas.List.Folds.{list_any-append}
use Rattle.std.proofs.lemmas.Option.{cond_some}
use Rattle.rh_base.specs.Tree.{Tree}
use Rattle.rh_cluster.specs.declared.fault.ClusterFault.{ClusterFault}
use Rattle.rh_cluster.specs.declared.fault.ClusterFault.TheVariants as fault
use Rattle.rh_cluster.specs.Shapes.{as_list, ◌>>=◌}
use Rattle.rh_cluster.specs.Faults.{when, in_turn, in_turn_if_list, list_faults}
use Rattle.rh_cluster.specs.Sections.{has_key, entry_faults, entry_faults_by}
use Rattle.rh_model.specs.Names.{is_among}
use Rattle.rh_cluster.specs.Values.{elements, elements_under, value_if, value_under}
use Rattle.rh_base.proofs.Elements.{none_left, none_right, from_either, or_true, All-cons_option, AllPairs-cons_option}

-- ---- parts of a list of faults

-- a test that gives no fault doesn't apply
pub not_when : (b : Bool) (f : ClusterFault) → when b f ≡ [] → b ≡ false
not_when true f h = cc
not_when false f h = refl

-- ---- lists of terms

-- the elements of a list
pub list_none : (f : List Tree → Tree → List ClusterFault) (t : Tree) → list_faults f t ≡ [] → in_turn f [] (elements t) ≡ []
unfolding list_faults elements
list_none f t h = by (as_list t) h
  where
    by : (o : Option (List Tree)) → in_turn_if_list f o ≡ [] → in_turn f [] (unwrap_or o []) ≡ []
    by None k = refl
    by (Some ts) k = k

otherwise : (b : Bool) (f : ClusterFault) (fs : List ClusterFault) → cond b (f ∷ []) fs ≡ [] → fs ≡ []
otherwise true f fs h = cc
otherwise false f fs h = h

module _ {K : Type 0} (key_of : List ℕ → Option K) (value_faults : Option K → Tree → List ClusterFault) where
  entry_none : (earlier : List Tree) (key : List ℕ) (v : Tree) (o : Option (List ℕ × Tree)) → entry_faults_by key_of value_faults earlier o ≡ []
      → (o >>= λ e. cond (bytes_eq e.0 key) (Some e.1) None) ≡ Some v → value_faults (key_of key) v ≡ []
  entry_none earlier key v None none h = cc
  entry_none earlier key v (Some e) none h =
      let same = cond_some (bytes_eq e.0 key) e.1 v h in
      let named : e.0 ≡ key = (bytes_eq-Decides e.0 key).0 same.0 in
      (λ i. value_faults (key_of (sym named i)) (sym same.1 i))
      ∙ otherwise (is_some (key_of e.0) && list_any (has_key e.0) earlier) fault.DuplicateParameter (value_faults (key_of e.0) e.1) none

  -- the value of a key
  pub value_none : (earlier ts : List Tree) (key : List ℕ) (v : Tree) → in_turn (entry_faults key_of value_faults) earlier ts ≡ []
      → value_under key ts ≡ Some v → value_faults (key_of key) v ≡ []
  unfolding entry_faults value_if
  value_none earlier [] key v none h = cc
  value_none earlier (t ∷ ts) key v none h =
      from_either (value_if key t) (value_under key ts) v
      (entry_none earlier key v _ (none_left _ _ none))
      (value_none (earlier ++ t ∷ []) ts key v (none_right _ _ none)) h

  -- the elements of that value
  pub under_none : (f : List Tree → Tree → List ClusterFault) (key : List ℕ) (ts : List Tree) → ((v : Tree) → value_faults (key_of key) v ≡ [] → list_faults f v ≡ [])
      → in_turn (entry_faults key_of value_faults) [] ts ≡ [] → in_turn f [] (elements_under key ts) ≡ []
  unfolding elements_under
  under_none f key ts lists none = by (value_under key ts) refl
    where
      by : (o : Option Tree) → value_under key ts ≡ o → in_turn f [] (unwrap_or (option_map elements o) []) ≡ []
      by None e = refl
      by (Some v) e = list_none f v (lists v (value_none [] ts key v none e))

-- ---- names that come once

-- Terms in turn are tested so that the name of each, by key, isn't that of an earlier one. What g gives of them, each with its name, comes once.
module _ (f : List Tree → Tree → List ClusterFault) (key : Tree → Option (List ℕ))
    (fresh : (earlier : List Tree) (t : Tree) (m : List ℕ) → f earlier t ≡ [] → key t ≡ Some m → is_among (filter_map key earlier) m ≡ false)
    {Y : Type 0} (g : Tree → Option Y) (Of : List ℕ → Y → Type 0) (R : Y → Y → Type 0)
    (named : (t : Tree) (y : Y) → g t ≡ Some y → (m : List ℕ) × (key t ≡ Some m) × Of m y)
    (apart : (m n : List ℕ) (x y : Y) → Of m x → Of n y → m ≢ n → R x y) where
  among_more : (earlier : List Tree) (t : Tree) (m : List ℕ)
      → is_among (filter_map key (earlier ++ t ∷ [])) m ≡ (is_among (filter_map key earlier) m || is_among (cons_option (key t) []) m)
  among_more earlier t m =
      ap (list_any (bytes_eq m)) (filter_map-append key earlier (t ∷ [])) ∙ list_any-append (bytes_eq m) (filter_map key earlier) (cons_option (key t) [])

  still_among : (earlier : List Tree) (t : Tree) (m : List ℕ) → is_among (filter_map key earlier) m ≡ true
      → is_among (filter_map key (earlier ++ t ∷ [])) m ≡ true
  still_among earlier t m h = among_more earlier t m ∙ ap (λ b. b || is_among (cons_option (key t) []) m) h

  itself_among : (earlier : List Tree) (t : Tree) (m : List ℕ) → key t ≡ Some m → is_among (filter_map key (earlier ++ t ∷ [])) m ≡ true
  itself_among earlier t m h =
      among_more earlier t m
      ∙ or_true (is_among (filter_map key earlier) m) (is_among (cons_option (key t) []) m)
      (ap (λ o. is_among (cons_option o []) m) h ∙ ap (λ b. b || false) ((bytes_eq-Decides m m).1 refl))

  other_name : (earlier : List Tree) (m n : List ℕ) → is_among (filter_map key earlier) m ≡ true → is_among (filter_map key earlier) n ≡ false → m ≢ n
  other_name earlier m n here there same = let no : true ≡ false = sym here ∙ ap (is_among (filter_map key earlier)) same ∙ there in cc

  later_apart : (earlier ts : List Tree) (m : List ℕ) (x : Y) → Of m x → is_among (filter_map key earlier) m ≡ true → in_turn f earlier ts ≡ []
      → All (R x) (filter_map g ts)
  later_apart earlier [] m x is here none = All-nil (R x)
  later_apart earlier (t ∷ ts) m x is here none =
      All-cons_option (R x) (g t) (filter_map g ts)
      (λ y found. let n = named t y found in apart m n.0 x y is n.2 (other_name earlier m n.0 here (fresh earlier t n.0 (none_left _ _ none) n.1)))
      (later_apart (earlier ++ t ∷ []) ts m x is (still_among earlier t m here) (none_right _ _ none))

  pub each_once : (earlier ts : List Tree) → in_turn f earlier ts ≡ [] → AllPairs R (filter_map g ts)
  each_once earlier [] none = λ i j d l k. absurd (omega arith)
  each_once earlier (t ∷ ts) none =
      let rest : in_turn f (earlier ++ t ∷ []) ts ≡ [] = none_right _ _ none in
      AllPairs-cons_option R (g t) (filter_map g ts)
      (λ x found. let n = named t x found in later_apart (earlier ++ t ∷ []) ts n.0 x n.2 (itself_among earlier t n.0 n.1) rest)
      (each_once (earlier ++ t ∷ []) ts rest)
