-- A boot list without faults has each application once.
use Rattle.std.proofs.Common.{◌≡◌, ◌≢◌, ℕ, false, List, [], ◌∷◌, ◌++◌, get_or, Option, Some, None, option_map, position, codes, is_some, refl, sym, ap, ◌∙◌}
use Rattle.std.specs.Prelude.{All, AllPairs}
use Rattle.std.specs.List.{filter_map}
use Rattle.std.specs.Str.{bytes_eq}
use Rattle.std.proofs.lemmas.Slice.Eq.{bytes_eq-Decides}
use Rattle.std.proofs.lemmas.List.Elements.{All-nil}
use Rattle.std.proofs.lemmas.List.Quantifiers.{position-Some}
use Rattle.std.proofs.lemmas.Option.{same_Some}
use Rattle.rh_base.specs.Tree.{Tree}
use Rattle.rh_model.specs.declared.node.App.{App}
use Rattle.rh_model.specs.declared.settings.Restart.{Restart}
use Rattle.rh_model.specs.ClusterView.{app_numbered}
use Rattle.rh_model.specs.Names.{NamesView, is_among}
use Rattle.rh_cluster.specs.Shapes.{as_atom, as_pair, as_tuple, as_node, as_app, pair_in, ◌>>=◌}
use Rattle.rh_cluster.specs.Faults.{in_turn, list_faults}
use Rattle.rh_cluster.specs.Sections.{app_in, first_atom, atom_faults, name_faults, app_name_faults, pair_faults_by}
use Rattle.rh_cluster.specs.Sections.{boot_faults, as_restart, entry_faults, rehearse_key, rehearse_faults, section_key}
use Rattle.rh_cluster.specs.Sections.{section_faults, parts_faults, parts_faults_by, parts_stage}
use Rattle.rh_cluster.proofs.Unrepeated.{not_repeated}
use Rattle.rh_cluster.specs.Headers.{nodes_in}
use Rattle.rh_cluster.specs.Values.{app_named, boot_entry, elements, elements_under, rehearse_of}
use Rattle.rh_base.proofs.Elements.{none_left, none_right, All-cons_option}
use Rattle.rh_cluster.proofs.NoFaults.{list_none, under_none, each_once}

module _ (names : NamesView) where
  -- ---- one entry

  new_name : (earlier : List (List ℕ)) (o : Option (List ℕ)) (m : List ℕ) → atom_faults (is_among names.apps) earlier o ≡ [] → o ≡ Some m
      → is_among earlier m ≡ false
  new_name earlier None m none h = cc
  new_name earlier (Some s) m none h = ap (is_among earlier) (sym (same_Some s m h)) ∙ not_repeated s (is_among names.apps s) (is_among earlier s) none

  new_in_tuple : (earlier : List Tree) (o : Option (List Tree)) (m : List ℕ)
      → pair_faults_by names (λ v. is_some (as_restart v)) earlier (o >>= pair_in) ≡ [] → (o >>= first_atom) ≡ Some m
      → is_among (filter_map app_in earlier) m ≡ false
  unfolding app_name_faults name_faults
  new_in_tuple earlier None m none h = cc
  new_in_tuple earlier (Some []) m none h = cc
  new_in_tuple earlier (Some (a ∷ [])) m none h = cc
  new_in_tuple earlier (Some (a ∷ b ∷ [])) m none h = new_name (filter_map app_in earlier) (as_atom a) m (none_left _ _ none) h
  new_in_tuple earlier (Some (a ∷ b ∷ c ∷ ts)) m none h = cc

  new_entry : (earlier : List Tree) (t : Tree) (m : List ℕ) → boot_faults names earlier t ≡ [] → app_in t ≡ Some m
      → is_among (filter_map app_in earlier) m ≡ false
  unfolding boot_faults as_pair app_in
  new_entry earlier t m none h = new_in_tuple earlier (as_tuple t) m none h

  -- ---- its name

  abbrev Of : List ℕ → (App × Restart) → Type 0
  Of m e = position (bytes_eq m) names.apps ≡ Some e.0.0

  abbrev with_restart : Tree → App → Option (App × Restart)
  with_restart v app = as_restart v >>= λ restart. Some (app, restart)

  by_restart : (k : ℕ) (o : Option Restart) (e : App × Restart) → (o >>= λ restart. Some (app_numbered k, restart)) ≡ Some e
      → ◌≡◌ {A = Option ℕ} (Some k) (Some e.0.0)
  by_restart k None e h = cc
  by_restart k (Some r) e h = ap (λ (x : App × Restart). Some x.0.0) (same_Some {A = App × Restart} (app_numbered k, r) e h)

  by_place : (v : Tree) (p : Option ℕ) (e : App × Restart) → (option_map app_numbered p >>= with_restart v) ≡ Some e → p ≡ Some e.0.0
  by_place v None e h = cc
  by_place v (Some k) e h = by_restart k (as_restart v) e h

  by_name : (v : Tree) (o : Option (List ℕ)) (e : App × Restart)
      → ((o >>= λ name. option_map app_numbered (position (bytes_eq name) names.apps)) >>= with_restart v) ≡ Some e
      → (m : List ℕ) × (o ≡ Some m) × Of m e
  by_name v None e h = cc
  by_name v (Some m) e h = (m, refl, by_place v (position (bytes_eq m) names.apps) e h)

  by_tuple : (o : Option (List Tree)) (e : App × Restart) → ((o >>= pair_in) >>= λ p. app_named names p.0 >>= with_restart p.1) ≡ Some e
      → (m : List ℕ) × ((o >>= first_atom) ≡ Some m) × Of m e
  unfolding app_named
  by_tuple None e h = cc
  by_tuple (Some []) e h = cc
  by_tuple (Some (a ∷ [])) e h = cc
  by_tuple (Some (a ∷ b ∷ [])) e h = by_name b (as_atom a) e h
  by_tuple (Some (a ∷ b ∷ c ∷ ts)) e h = cc

  entry_named : (t : Tree) (e : App × Restart) → boot_entry names t ≡ Some e → (m : List ℕ) × (app_in t ≡ Some m) × Of m e
  unfolding boot_entry as_pair app_in
  entry_named t e h = by_tuple (as_tuple t) e h

  -- the name at a place
  name_there : (m : List ℕ) (e : App × Restart) → Of m e → m ≡ get_or names.apps e.0.0 []
  name_there m e h = (bytes_eq-Decides m (get_or names.apps e.0.0 [])).0 (position-Some (bytes_eq m) names.apps e.0.0 [] h).1

  other_app : (m n : List ℕ) (e later : App × Restart) → Of m e → Of n later → m ≢ n → e.0.0 ≢ later.0.0
  other_app m n e later p q differ same = differ (name_there m e p ∙ ap (λ k. get_or names.apps k []) same ∙ sym (name_there n later q))

  -- ---- the list

  pub entries_once : (ts : List Tree) → in_turn (boot_faults names) [] ts ≡ []
      → AllPairs (λ (e later : App × Restart). e.0.0 ≢ later.0.0) (filter_map (boot_entry names) ts)
  entries_once ts none =
      each_once (boot_faults names) app_in new_entry (boot_entry names) Of (λ (e later : App × Restart). e.0.0 ≢ later.0.0) entry_named other_app [] ts none

  -- the parts of a SysConfig are in order
  abbrev pub IsInOrder : (List ℕ × Tree) → Type 0
  IsInOrder n = list_faults (entry_faults section_key (section_faults names)) n.1 ≡ []

  boot_none : (config : Tree) → list_faults (entry_faults section_key (section_faults names)) config ≡ []
      → in_turn (boot_faults names) [] (elements_under (codes "boot") (rehearse_of config)) ≡ []
  unfolding section_faults rehearse_faults
  boot_none config none =
      under_none rehearse_key (rehearse_faults names) (boot_faults names) (codes "boot") (rehearse_of config) (λ v k. k)
      (under_none section_key (section_faults names) (entry_faults rehearse_key (rehearse_faults names)) (codes "rehearse")
      (elements config) (λ v k. k)
      (list_none (entry_faults section_key (section_faults names)) config none))

  pub boot_once_in : (n : List ℕ × Tree) → IsInOrder n
      → AllPairs (λ (e later : App × Restart). e.0.0 ≢ later.0.0) (filter_map (boot_entry names) (elements_under (codes "boot") (rehearse_of n.1)))
  boot_once_in n none = entries_once (elements_under (codes "boot") (rehearse_of n.1)) (boot_none n.1 none)

  -- ---- each node

  node_none : (platforms : List (List ℕ)) (t : Tree) (n : List ℕ × Tree) → parts_faults names platforms t ≡ [] → as_node t ≡ Some n → IsInOrder n
  unfolding parts_faults
  node_none platforms t n none h = ap (λ o. parts_faults_by names platforms o (as_app t)) (sym h) ∙ none

  nodes_none : (platforms : List (List ℕ)) (earlier ts : List Tree) → in_turn (λ _ t. parts_faults names platforms t) earlier ts ≡ []
      → All IsInOrder (nodes_in ts)
  nodes_none platforms earlier [] none = All-nil IsInOrder
  nodes_none platforms earlier (t ∷ ts) none =
      All-cons_option IsInOrder (as_node t) (nodes_in ts) (λ n h. node_none platforms t n (none_left _ _ none) h)
      (nodes_none platforms (earlier ++ t ∷ []) ts (none_right _ _ none))

  pub in_order : (platforms : List (List ℕ)) (ts : List Tree) → parts_stage names platforms ts ≡ [] → All IsInOrder (nodes_in ts)
  unfolding parts_stage
  in_order platforms ts none = nodes_none platforms [] ts none
