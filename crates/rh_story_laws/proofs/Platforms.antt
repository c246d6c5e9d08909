-- No line ends in the name of a platform.
use Rattle.std.proofs.Common.{◌≡◌, ◌≢◌, ◌<◌, ◌==◌, ◌&&◌, ℕ, codes, not, Bool, true, false, cond, List, [], ◌∷◌, ◌++◌, length, nat_le, nat_lt, Option, Some, None, unwrap_or, option_map, fold, Result, Ok, Err}
use Rattle.std.proofs.Common.{refl, ap, ◌∙◌, subst, append-nil, arith}
use Rattle.std.specs.Prelude.{All}
use Rattle.std.specs.List.{flat_map, list_all}
use Rattle.std.specs.Option.{option_or, option_to_list}
use Rattle.std.proofs.lemmas.Bool.Decides.{nat_tests}
use Rattle.std.proofs.lemmas.List.Elements.{All-nil, All-cons, All-head, All-tail, All-append}
use Rattle.std.proofs.lemmas.Option.{same_Some}
use Rattle.rh_base.specs.Tree.{Tree, Trees, list_of_trees}
use Rattle.rh_base.proofs.Elements.{none_left, none_right, All-cons_option}
use Rattle.rh_terms.specs.Grammar.{terms_of}
use Rattle.rh_terms.specs.declared.fault.TermFault.{TermFault}
use Rattle.rh_model.specs.ClusterView.{ClusterView}
use Rattle.rh_model.specs.Names.{NamesView, is_among}
use Rattle.rh_model.specs.declared.limits.TheConstants.{MAX_PLATFORMS}
use Rattle.rh_model.specs.declared.platforms.Platforms.{Platforms}
use Rattle.rh_cluster.specs.declared.fault.ClusterFault.{ClusterFault}
use Rattle.rh_cluster.specs.declared.fault.ClusterFault.TheVariants as fault
use Rattle.rh_cluster.specs.declared.name_rule.TheConstants.{LONGEST_NAME}
use Rattle.rh_cluster.specs.NameRule.{is_name, is_name_byte}
use Rattle.rh_cluster.specs.Shapes.{as_atom, as_node, as_app, atoms}
use Rattle.rh_cluster.specs.Faults.{unless, in_turn}
use Rattle.rh_cluster.specs.Headers.{every_platform, headers_stage}
use Rattle.rh_cluster.specs.Sections.{entry_faults, word_faults, atom_faults, name_faults, platform_faults, rehearse_key, rehearse_faults, section_key, section_faults, parts_faults, parts_faults_by, parts_stage}
use Rattle.rh_cluster.specs.Values.{elements, value_if, platform_in_entry, platform_in_section, platform_in_term, with_name, with_first_name, with_platforms, platforms_in}
use Rattle.rh_cluster.specs.ClusterOf.{names_of, faults_behind_headers, faults_in, cluster_view, cluster_of_terms, cluster_in, cluster_of}
use Rattle.rh_cluster.specs.Profile.{profile_of, behind_profile}
use Rattle.rh_cluster.proofs.NoFaults.{not_when, list_none, value_none}
use Rattle.rh_script.specs.Laws.{IsUnbroken}
use Rattle.rh_script.proofs.Words.{each_passes}

-- ---- by the rule of names
both : (a b : Bool) → (a && b) ≡ true → (a ≡ true) × (b ≡ true)
both true b h = (refl, h)
both false b h = cc

is_set : (b : Bool) → not b ≡ false → b ≡ true
is_set true h = refl
is_set false h = cc

above_space : (b : ℕ) → is_name_byte b ≡ true → 32 < b
above_space b h = let above : nat_lt 32 b ≡ true = (both (nat_lt 32 b) (not (b == 127)) h).0 in grind (arith, nat_tests, above)

no_end : (b : ℕ) → is_name_byte b ≡ true → (b ≢ 10) × (b ≢ 13)
no_end b h = (λ e. absurd (omega (arith, e, above_space b h)), λ e. absurd (omega (arith, e, above_space b h)))

by_rule : (name : List ℕ) → is_name name ≡ true → IsUnbroken name
unfolding is_name
by_rule name rule =
    each_passes is_name_byte (λ b. (b ≢ 10) × (b ≢ 13)) no_end name
    (both (not (length name == 0) && nat_le (length name) LONGEST_NAME) (list_all is_name_byte name) rule).1

-- ---- lists of which each holds such names
abbrev Plain : List (List ℕ) → Type 0
Plain names = All IsUnbroken names

abbrev EachPlain : List Tree → Type 0
EachPlain [] = Unit {0}
EachPlain (v ∷ vs) = Plain (atoms (elements v)) × EachPlain vs

plain_append : (xs ys : List Tree) → EachPlain xs → EachPlain ys → EachPlain (xs ++ ys)
plain_append [] ys a b = b
plain_append (v ∷ xs) ys a b = (a.0, plain_append xs ys a.1 b)

module _ (names : NamesView) where
  -- ---- those of a list without faults
  atom_plain : (earlier : List (List ℕ)) (o : Option (List ℕ)) (name : List ℕ) → atom_faults (λ _. true) earlier o ≡ [] → o ≡ Some name → IsUnbroken name
  unfolding word_faults
  atom_plain earlier None name none h = cc
  atom_plain earlier (Some s) name none h =
      subst IsUnbroken (same_Some s name h)
      (by_rule s (is_set (is_name s) (not_when (not (is_name s)) fault.BadName (none_left _ _ (none_left _ _ none)))))

  name_plain : (earlier : List Tree) (t : Tree) (name : List ℕ) → platform_faults names earlier t ≡ [] → as_atom t ≡ Some name → IsUnbroken name
  unfolding platform_faults name_faults
  name_plain earlier t name none h = atom_plain (atoms earlier) (as_atom t) name (none_left _ _ (none_left _ _ none)) h

  list_plain : (earlier ts : List Tree) → in_turn (platform_faults names) earlier ts ≡ [] → Plain (atoms ts)
  list_plain earlier [] none = All-nil IsUnbroken
  list_plain earlier (t ∷ ts) none =
      All-cons_option IsUnbroken (as_atom t) (atoms ts) (λ name h. name_plain earlier t name (none_left _ _ none) h)
      (list_plain (earlier ++ t ∷ []) ts (none_right _ _ none))

  -- ---- those of a section, and of a term
  entry_plain : (earlier : List Tree) (t : Tree) → entry_faults rehearse_key (rehearse_faults names) earlier t ≡ [] → EachPlain (platform_in_entry t)
  unfolding platform_in_entry rehearse_faults
  entry_plain earlier t none = by (value_if (codes "platform") t) refl
    where
      by : (o : Option Tree) → value_if (codes "platform") t ≡ o → EachPlain (option_to_list o)
      by None is = tt
      by (Some v) is = (
        list_plain [] (elements v) (list_none (platform_faults names) v
            (value_none rehearse_key (rehearse_faults names) earlier (t ∷ []) (codes "platform") v
            (append-nil (entry_faults rehearse_key (rehearse_faults names) earlier t) ∙ none) (ap (λ (o : Option Tree). option_or o None) is))),
        tt,
      )

  entries_plain : (earlier ts : List Tree) → in_turn (entry_faults rehearse_key (rehearse_faults names)) earlier ts ≡ [] → EachPlain (flat_map platform_in_entry ts)
  entries_plain earlier [] none = tt
  entries_plain earlier (t ∷ ts) none =
      plain_append (platform_in_entry t) (flat_map platform_in_entry ts) (entry_plain earlier t (none_left _ _ none))
      (entries_plain (earlier ++ t ∷ []) ts (none_right _ _ none))

  section_plain : (earlier : List Tree) (t : Tree) → entry_faults section_key (section_faults names) earlier t ≡ [] → EachPlain (platform_in_section t)
  unfolding platform_in_section section_faults
  section_plain earlier t none = by (value_if (codes "rehearse") t) refl
    where
      by : (o : Option Tree) → value_if (codes "rehearse") t ≡ o → EachPlain (flat_map platform_in_entry (unwrap_or (option_map elements o) []))
      by None is = tt
      by (Some v) is =
          entries_plain [] (elements v) (list_none (entry_faults rehearse_key (rehearse_faults names)) v
          (value_none section_key (section_faults names) earlier (t ∷ []) (codes "rehearse") v
          (append-nil (entry_faults section_key (section_faults names) earlier t) ∙ none) (ap (λ (o : Option Tree). option_or o None) is)))

  sections_plain : (earlier ts : List Tree) → in_turn (entry_faults section_key (section_faults names)) earlier ts ≡ [] → EachPlain (flat_map platform_in_section ts)
  sections_plain earlier [] none = tt
  sections_plain earlier (t ∷ ts) none =
      plain_append (platform_in_section t) (flat_map platform_in_section ts) (section_plain earlier t (none_left _ _ none))
      (sections_plain (earlier ++ t ∷ []) ts (none_right _ _ none))

  term_plain : (platforms : List (List ℕ)) (t : Tree) → parts_faults names platforms t ≡ [] → EachPlain (platform_in_term t)
  unfolding parts_faults platform_in_term
  term_plain platforms t none = by (as_node t) none
    where
      by : (o : Option (List ℕ × Tree)) → parts_faults_by names platforms o (as_app t) ≡ []
          → EachPlain (flat_map platform_in_section (unwrap_or (option_map (λ (n : List ℕ × Tree). elements n.1) o) []))
      by None h = tt
      by (Some n) h = sections_plain [] (elements n.1) (list_none (entry_faults section_key (section_faults names)) n.1 h)

  terms_plain : (platforms : List (List ℕ)) (earlier ts : List Tree) → in_turn (λ _ t. parts_faults names platforms t) earlier ts ≡ []
      → EachPlain (flat_map platform_in_term ts)
  terms_plain platforms earlier [] none = tt
  terms_plain platforms earlier (t ∷ ts) none =
      plain_append (platform_in_term t) (flat_map platform_in_term ts) (term_plain platforms t (none_left _ _ none))
      (terms_plain platforms (earlier ++ t ∷ []) ts (none_right _ _ none))

-- ---- the first names of all lists
first_plain : (found : List (List ℕ)) (name : List ℕ) → Plain found → IsUnbroken name → Plain (with_first_name found name)
unfolding with_first_name with_name
first_plain found name h k = by (nat_le MAX_PLATFORMS (length found)) (is_among found name)
  where
    by : (full there : Bool) → Plain (cond full found (cond there found (found ++ name ∷ [])))
    by true there = h
    by false true = h
    by false false = All-append IsUnbroken found (name ∷ []) h (All-cons IsUnbroken name [] k (All-nil IsUnbroken))

list_keeps : (found more : List (List ℕ)) → Plain more → Plain found → Plain (fold with_first_name found more)
list_keeps found [] k h = h
list_keeps found (name ∷ more) k h =
    list_keeps (with_first_name found name) more (All-tail IsUnbroken name more k) (first_plain found name h (All-head IsUnbroken name more k))

lists_keep : (p : Platforms) (vs : List Tree) → EachPlain vs → Plain p.first → Plain (fold with_platforms p vs).first
unfolding with_platforms
lists_keep p [] each h = h
lists_keep p (v ∷ vs) each h = lists_keep (with_platforms p v) vs each.1 (list_keeps p.first (atoms (elements v)) each.0 h)

every_plain : Plain every_platform
unfolding is_name
every_plain =
    All-cons IsUnbroken (codes "kernel") (codes "stdlib" ∷ []) (by_rule (codes "kernel") refl)
    (All-cons IsUnbroken (codes "stdlib") [] (by_rule (codes "stdlib") refl) (All-nil IsUnbroken))

platforms_plain : (names : NamesView) (known : List (List ℕ)) (ts : List Tree) → parts_stage names known ts ≡ [] → Plain (platforms_in ts).first
unfolding parts_stage platforms_in
platforms_plain names known ts none =
    lists_keep (record { first = every_platform; known = every_platform }) (flat_map platform_in_term ts) (terms_plain names known [] ts none) every_plain

-- ---- the cluster of a text
view_plain : (p : ℕ) (ts : List Tree) → faults_in p ts ≡ [] → Plain (cluster_view p ts).platform_names
unfolding faults_in faults_behind_headers cluster_view
view_plain p ts none =
    platforms_plain (names_of ts) (platforms_in ts).known ts
    (none_left (parts_stage (names_of ts) (platforms_in ts).known ts) _ (none_right (headers_stage p ts) (faults_behind_headers ts) none))

abbrev read_as : ClusterView → Result ClusterView ClusterFault
read_as v = Ok v

same_ok : (v c : ClusterView) → read_as v ≡ read_as c → v ≡ c
same_ok v c e = cc

unless_plain : (p : ℕ) (ts : List Tree) (c : ClusterView) (faults : List ClusterFault) → faults_in p ts ≡ faults
    → unless faults (cluster_view p ts) ≡ Ok c → Plain c.platform_names
unless_plain p ts c [] none read = subst (λ (v : ClusterView). Plain v.platform_names) (same_ok (cluster_view p ts) c read) (view_plain p ts none)
unless_plain p ts c (f ∷ fs) some read = cc

read_plain : (r : Result Trees TermFault) (c : ClusterView) → cluster_in r ≡ Ok c → Plain c.platform_names
unfolding cluster_of_terms
read_plain (Ok us) c read =
    let ts = list_of_trees us in
    unless_plain (profile_of ts) (behind_profile ts) c (faults_in (profile_of ts) (behind_profile ts)) refl read
read_plain (Err f) c read = cc

pub platforms_unbroken : (bytes : List ℕ) (c : ClusterView) → cluster_of bytes ≡ Ok c → All IsUnbroken c.platform_names
unfolding cluster_of
platforms_unbroken bytes c read = read_plain (terms_of bytes) c read
