-- The names of groups, one group after the other.
use Rattle.std.proofs.Common.{◌≡◌, ℕ, ◌+◌, ◌<◌, ◌||◌, ◌==◌, Bool, true, false, List, [], ◌∷◌, ◌++◌, length, map, drop, get_or, Some, sym, ap, ◌∙◌}
use Rattle.std.specs.Prelude.{flat_map}
use Rattle.std.specs.List.{list_any}
use Rattle.std.specs.Str.{bytes_eq}
use Rattle.std.proofs.lemmas.List.{drop_more}
use Rattle.std.proofs.lemmas.List.Elements.{filter_map-append}
use Rattle.std.proofs.lemmas.List.Folds.{list_any-append}
use Rattle.rh_base.specs.declared.term.Term.{Term}
use Rattle.rh_base.specs.Tree.{Tree, tree_of}
use Rattle.rh_cluster.specs.Faults.{in_turn}
use Rattle.rh_cluster.specs.Shapes.{as_atom, as_list, atoms}
use Rattle.rh_model.specs.Names.{is_among, NamesView}
use Rattle.rh_cluster.specs.Sections.{members, node_name_faults, desc_faults, desc_faults_by}

-- a name is among the names of two lists if it is among those of one
pub is_among_both : (xs ys : List Tree) (name : List ℕ) → is_among (atoms (xs ++ ys)) name ≡ (is_among (atoms xs) name || is_among (atoms ys) name)
is_among_both xs ys name = ap (list_any (bytes_eq name)) (filter_map-append as_atom xs ys) ∙ list_any-append (bytes_eq name) (atoms xs) (atoms ys)

-- the names of groups
abbrev pub names_of : List Term → List (List ℕ)
names_of gs = atoms (flat_map members (map tree_of gs))

-- where the group at i is g
module _ (gs : List Term) (i : ℕ) (g : Term) (name : List ℕ) (inside : i < length gs) (is : g ≡ get_or gs i g) where
  abbrev is_here : Bool
  is_here = is_among (atoms (members (tree_of g))) name

  from_here : is_among (names_of (drop i gs)) name ≡ (is_here || is_among (names_of (drop (i + 1) gs)) name)
  from_here =
      ap (λ us. is_among (names_of us) name) (drop_more gs i g inside)
      ∙ ap (λ u. is_among (atoms (members (tree_of u) ++ flat_map members (map tree_of (drop (i + 1) gs)))) name) (sym is)
      ∙ is_among_both (members (tree_of g)) (flat_map members (map tree_of (drop (i + 1) gs))) name

  pub named_here : is_here ≡ true → is_among (names_of (drop i gs)) name ≡ true
  named_here h = from_here ∙ ap (λ b. b || is_among (names_of (drop (i + 1) gs)) name) h

  pub named_later : is_here ≡ false → is_among (names_of (drop (i + 1) gs)) name ≡ is_among (names_of (drop i gs)) name
  named_later h = sym (from_here ∙ ap (λ b. b || is_among (names_of (drop (i + 1) gs)) name) h)

-- a list of one or more groups
pub desc_faults-groups : (names : NamesView) (v : Tree) (gs : List Term) → (length gs == 0) ≡ false → Some (map tree_of gs) ≡ as_list v
    → in_turn (node_name_faults names) [] (flat_map members (map tree_of gs)) ≡ desc_faults names v
unfolding desc_faults
desc_faults-groups names v [] some list = cc
desc_faults-groups names v (g ∷ gs) some list = ap (desc_faults_by names) list
