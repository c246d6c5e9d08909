-- Terms that are tested in turn, each behind those before it.
use Rattle.std.proofs.Common.{◌≡◌, ℕ, ◌+◌, ◌<◌, List, [], ◌∷◌, ◌++◌, length, map, take, drop, get_or, Some, refl, sym, ap, ◌∙◌, append_assoc, append-nil}
use Rattle.std.specs.Prelude.{flat_map}
use Rattle.std.proofs.lemmas.List.Concat.{flat_map-append}
use Rattle.rh_base.specs.declared.term.Term.{Term}
use Rattle.rh_base.specs.Tree.{Tree, tree_of}
use Rattle.rh_cluster.specs.declared.fault.ClusterFault.{ClusterFault}
use Rattle.rh_cluster.specs.Faults.{in_turn, in_turn_if_list, list_faults, first}
use Rattle.rh_cluster.specs.Shapes.{as_list}
use Rattle.rh_base.proofs.Elements.{map-take_more, map-around}

-- the faults of a term behind earlier ones
abbrev pub FaultsOfEach : Type 0
FaultsOfEach = List Tree → Tree → List ClusterFault

-- ---- lists one after the other

pub in_turn-append : (f : FaultsOfEach) (e xs ys : List Tree) → in_turn f e (xs ++ ys) ≡ in_turn f e xs ++ in_turn f (e ++ xs) ys
in_turn-append f e [] ys = ap (λ b. in_turn f b ys) (sym (append-nil e))
in_turn-append f e (x ∷ xs) ys =
    ap (λ r. f e x ++ r) (in_turn-append f (e ++ x ∷ []) xs ys
    ∙ ap (λ b. in_turn f (e ++ x ∷ []) xs ++ in_turn f b ys) (append_assoc e (x ∷ []) xs))
    ∙ sym (append_assoc (f e x) (in_turn f (e ++ x ∷ []) xs) (in_turn f (e ++ x ∷ xs) ys))

behind : (f : FaultsOfEach) (e b ts : List Tree) → in_turn (λ b t. f (e ++ b) t) b ts ≡ in_turn f (e ++ b) ts
behind f e b [] = refl
behind f e b (t ∷ ts) = ap (λ r. f (e ++ b) t ++ r) (behind f e (b ++ t ∷ []) ts ∙ ap (λ d. in_turn f d ts) (sym (append_assoc e b (t ∷ []))))

-- a test that sees the trees e before all others
pub in_turn-behind : (f : FaultsOfEach) (e ts : List Tree) → in_turn (λ b t. f (e ++ b) t) [] ts ≡ in_turn f e ts
in_turn-behind f e ts = behind f e [] ts ∙ ap (λ d. in_turn f d ts) (append-nil e)

-- the members of groups, one group after the other
pub in_turn-groups : (f : FaultsOfEach) (m : Tree → List Tree) (b gs : List Tree)
    → in_turn (λ b g. in_turn f (flat_map m b) (m g)) b gs ≡ in_turn f (flat_map m b) (flat_map m gs)
in_turn-groups f m b [] = refl
in_turn-groups f m b (g ∷ gs) =
    ap (λ r. in_turn f (flat_map m b) (m g) ++ r) (in_turn-groups f m (b ++ g ∷ []) gs
    ∙ ap (λ d. in_turn f d (flat_map m gs)) (flat_map-append m b (g ∷ []) ∙ ap (λ us. flat_map m b ++ us) (append-nil (m g))))
    ∙ sym (in_turn-append f (flat_map m b) (m g) (flat_map m gs))

-- ---- the first fault

-- the first of a list and more is the first of the list
pub first-append : (fs gs : List ClusterFault) (f : ClusterFault) → first fs ≡ Some f → first (fs ++ gs) ≡ Some f
first-append [] gs f h = cc
first-append (x ∷ fs) gs f h = h

-- nothing before: the first is that of the rest
pub first-none : (fs gs : List ClusterFault) (f : ClusterFault) → fs ≡ [] → first gs ≡ Some f → first (fs ++ gs) ≡ Some f
first-none fs gs f none h = ap (λ xs. first (xs ++ gs)) none ∙ h

-- ---- one more term

-- where the term at i is t
module _ (f : FaultsOfEach) (e : List Tree) (ts : List Term) (i : ℕ) (t : Term) (inside : i < length ts) (is : t ≡ get_or ts i t) where
  pub trees_more : map tree_of (take (i + 1) ts) ≡ map tree_of (take i ts) ++ tree_of t ∷ []
  trees_more = map-take_more tree_of ts i t inside is

module _ (f : FaultsOfEach) (ts : List Term) (i : ℕ) (t : Term) (inside : i < length ts) (is : t ≡ get_or ts i t) where
  abbrev before : List Tree
  before = map tree_of (take i ts)

  -- the term has no fault
  pub passes : in_turn f [] (map tree_of (take i ts)) ≡ [] → f (map tree_of (take i ts)) (tree_of t) ≡ []
      → in_turn f [] (map tree_of (take (i + 1) ts)) ≡ []
  passes none here =
      ap (in_turn f []) (map-take_more tree_of ts i t inside is) ∙ in_turn-append f [] before (tree_of t ∷ [])
      ∙ (λ j. none j ++ (here j ++ []))

  -- the term has this first fault
  pub fails : (x : ClusterFault) → in_turn f [] (map tree_of (take i ts)) ≡ [] → first (f (map tree_of (take i ts)) (tree_of t)) ≡ Some x
      → first (in_turn f [] (map tree_of ts)) ≡ Some x
  fails x none here =
      ap (λ us. first (in_turn f [] us)) (map-around tree_of ts i t inside is)
      ∙ ap first (in_turn-append f [] before (tree_of t ∷ map tree_of (drop (i + 1) ts)))
      ∙ first-none _ _ x none (first-append (f before (tree_of t)) _ x here)

  -- the same in a value that is a list
  pub list_fails : (v : Tree) (x : ClusterFault) → Some (map tree_of ts) ≡ as_list v → in_turn f [] (map tree_of (take i ts)) ≡ []
      → first (f (map tree_of (take i ts)) (tree_of t)) ≡ Some x → first (list_faults f v) ≡ Some x
  unfolding list_faults
  list_fails v x list none here = ap (λ o. first (in_turn_if_list f o)) (sym list) ∙ fails x none here
