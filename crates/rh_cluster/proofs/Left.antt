-- Where the `distributed` of a node has passed, what is left to test has the same faults as all of it.
use Rattle.std.proofs.Common.{◌≡◌, ◌||◌, ◌&&◌, ◌++◌, ℕ, Bool, true, false, cond, List, [], ◌∷◌, Option, Some, None, codes}
use Rattle.std.proofs.Common.{is_some, unwrap_or, option_map, refl, sym, ap, ◌∙◌, subst}
use Rattle.std.specs.List.{list_any}
use Rattle.std.specs.Option.{option_map_or, option_or}
use Rattle.std.specs.Str.{bytes_eq}
use Rattle.std.proofs.lemmas.Slice.Eq.{bytes_eq-Decides}
use Rattle.std.proofs.lemmas.List.Folds.{list_any-append}
use Rattle.rh_base.specs.Tree.{Tree}
use Rattle.rh_model.specs.Names.{NamesView}
use Rattle.rh_cluster.specs.declared.fault.ClusterFault.{ClusterFault}
use Rattle.rh_cluster.specs.declared.fault.ClusterFault.TheVariants as fault
use Rattle.rh_cluster.specs.declared.kernel.KernelKey.{KernelKey}
use Rattle.rh_cluster.specs.declared.kernel.KernelKey.TheVariants.{Distributed, Mandatory, Optional, Timeout, Permissions}
use Rattle.rh_cluster.specs.declared.sections.SectionKey.{SectionKey}
use Rattle.rh_cluster.specs.declared.sections.SectionKey.TheVariants.{Kernel, Rehearse}
use Rattle.rh_cluster.specs.Shapes.{as_entry, as_list, ◌>>=◌}
use Rattle.rh_cluster.specs.Faults.{in_turn, in_turn_if_list, list_faults}
use Rattle.rh_cluster.specs.Sections.{has_key, entry_faults, entry_faults_by, entries_faults, share_faults, IsFaultless}
use Rattle.rh_cluster.specs.Sections.{kernel_key, kernel_faults, section_key, section_faults}
use Rattle.rh_cluster.specs.Values.{elements, elements_under, value_if, value_under, distributed_in}
use Rattle.rh_cluster.specs.Common.{is_distributed, kernel_faults_left, section_faults_left}

-- ---- the first entry of a key

-- an entry of another key has no value under this one
no_value : (key : List ℕ) (t : Tree) → has_key key t ≡ false → value_if key t ≡ None
unfolding has_key value_if
no_value key t h = by (as_entry t) h
  where
    by : (o : Option (List ℕ × Tree)) → option_map_or (λ e. bytes_eq e.0 key) o false ≡ false
        → (o >>= λ e. cond (bytes_eq e.0 key) (Some e.1) None) ≡ None
    by None k = refl
    by (Some e) k = ap (λ b. cond b (Some e.1) None) k

-- an entry has its value under its key
own_value : (e : List ℕ × Tree) (t : Tree) → as_entry t ≡ Some e → value_if e.0 t ≡ Some e.1
unfolding value_if
own_value e t is =
    ap (λ (o : Option (List ℕ × Tree)). o >>= λ x. cond (bytes_eq x.0 e.0) (Some x.1) None) is
    ∙ ap (λ b. cond b (Some e.1) None) ((bytes_eq-Decides e.0 e.0).1 refl)

neither : (a b : Bool) → (a || (b || false)) ≡ false → (a ≡ false) × (b ≡ false)
neither true b h = cc
neither false true h = cc
neither false false h = (refl, refl)

not_among : (key : List ℕ) (earlier : List Tree) (t : Tree) → list_any (has_key key) (earlier ++ t ∷ []) ≡ false
    → (list_any (has_key key) earlier ≡ false) × (has_key key t ≡ false)
not_among key earlier t h =
    neither (list_any (has_key key) earlier) (has_key key t) (sym (list_any-append (has_key key) earlier (t ∷ [])) ∙ h)

-- ---- two tests of values that find the same under each key

module _ {K : Type 0} (key_of : List ℕ → Option K) (f g : Option K → Tree → List ClusterFault) (skipped : (v : Tree) → f None v ≡ g None v) where
  same_by : (earlier : List Tree) (o : Option (List ℕ × Tree))
      → ((e : List ℕ × Tree) → o ≡ Some e → list_any (has_key e.0) earlier ≡ false → f (key_of e.0) e.1 ≡ g (key_of e.0) e.1)
      → entry_faults_by key_of f earlier o ≡ entry_faults_by key_of g earlier o
  same_by earlier None firsts = refl
  same_by earlier (Some e) firsts = by (key_of e.0) (list_any (has_key e.0) earlier) (firsts e refl)
    where
      by : (k : Option K) (b : Bool) → (b ≡ false → f k e.1 ≡ g k e.1)
          → cond (is_some k && b) (fault.DuplicateParameter ∷ []) (f k e.1) ≡ cond (is_some k && b) (fault.DuplicateParameter ∷ []) (g k e.1)
      by None b h = skipped e.1
      by (Some k) true h = refl
      by (Some k) false h = h refl

  same_in_turn : (earlier ts : List Tree)
      → ((key : List ℕ) (v : Tree) → list_any (has_key key) earlier ≡ false → value_under key ts ≡ Some v → f (key_of key) v ≡ g (key_of key) v)
      → in_turn (entry_faults key_of f) earlier ts ≡ in_turn (entry_faults key_of g) earlier ts
  unfolding entry_faults
  same_in_turn earlier [] firsts = refl
  same_in_turn earlier (t ∷ ts) firsts =
      let head : entry_faults key_of f earlier t ≡ entry_faults key_of g earlier t =
      same_by earlier (as_entry t) (λ e is new. firsts e.0 e.1 new (ap (λ o. option_or o (value_under e.0 ts)) (own_value e t is))) in
      let rest : in_turn (entry_faults key_of f) (earlier ++ t ∷ []) ts ≡ in_turn (entry_faults key_of g) (earlier ++ t ∷ []) ts =
      same_in_turn (earlier ++ t ∷ []) ts
      (λ key v new is. let n = not_among key earlier t new in
      firsts key v n.0 (ap (λ o. option_or o (value_under key ts)) (no_value key t n.1) ∙ is)) in
      λ i. head i ++ rest i

  same_entries : (v : Tree) → ((key : List ℕ) (w : Tree) → value_under key (elements v) ≡ Some w → f (key_of key) w ≡ g (key_of key) w)
      → entries_faults key_of f v ≡ entries_faults key_of g v
  unfolding list_faults elements
  same_entries v firsts = by (as_list v) firsts
    where
      by : (o : Option (List Tree)) → ((key : List ℕ) (w : Tree) → value_under key (unwrap_or o []) ≡ Some w → f (key_of key) w ≡ g (key_of key) w)
          → in_turn_if_list (entry_faults key_of f) o ≡ in_turn_if_list (entry_faults key_of g) o
      by None h = refl
      by (Some ts) h = same_in_turn [] ts (λ key w new is. h key w is)

-- ---- the keys that matter

first_of_five : (a b c d e : Bool)
    → is_distributed (cond a (Some Distributed) (cond b (Some Mandatory) (cond c (Some Optional) (cond d (Some Timeout) (cond e (Some Permissions) None)))))
    ≡ true → a ≡ true
first_of_five true b c d e h = refl
first_of_five false true c d e h = cc
first_of_five false false true d e h = cc
first_of_five false false false true e h = cc
first_of_five false false false false true h = cc
first_of_five false false false false false h = cc

distributed_key : (key : List ℕ) → is_distributed (kernel_key key) ≡ true → key ≡ codes "distributed"
distributed_key key h = (bytes_eq-Decides key (codes "distributed")).0 (first_of_five _ _ _ _ _ h)

first_of_two : (a b : Bool) → cond a (Some Kernel) (cond b (Some Rehearse) None) ≡ Some Kernel → a ≡ true
first_of_two true b h = refl
first_of_two false true h = cc
first_of_two false false h = cc

section_of_kernel : (key : List ℕ) → section_key key ≡ Some Kernel → key ≡ codes "kernel"
section_of_kernel key h = (bytes_eq-Decides key (codes "kernel")).0 (first_of_two _ _ h)

-- ---- a node

module _ (has_passed : Bool) (names : NamesView) where
  same_parameter : (key : Option KernelKey) (w : Tree) → (has_passed ≡ true → is_distributed key ≡ true → list_faults (share_faults names) w ≡ [])
      → kernel_faults_left has_passed names key w ≡ kernel_faults names key w
  unfolding kernel_faults_left kernel_faults
  same_parameter None w h = refl
  same_parameter (Some Distributed) w h = by has_passed (λ p. h p refl)
    where
      by : (b : Bool) → (b ≡ true → list_faults (share_faults names) w ≡ [])
          → cond b [] (list_faults (share_faults names) w) ≡ list_faults (share_faults names) w
      by true k = sym (k refl)
      by false k = refl
  same_parameter (Some Mandatory) w h = refl
  same_parameter (Some Optional) w h = refl
  same_parameter (Some Timeout) w h = refl
  same_parameter (Some Permissions) w h = refl

  same_kernel : (v : Tree) → (has_passed ≡ true → IsFaultless names (value_under (codes "distributed") (elements v)))
      → entries_faults kernel_key (kernel_faults_left has_passed names) v ≡ entries_faults kernel_key (kernel_faults names) v
  same_kernel v passes =
      same_entries kernel_key (kernel_faults_left has_passed names) (kernel_faults names)
      (λ w. same_parameter None w (λ p d. cc)) v
      (λ key w is. same_parameter (kernel_key key) w
      (λ p d. subst (IsFaultless names) (ap (λ k. value_under k (elements v)) (sym (distributed_key key d)) ∙ is) (passes p)))

  same_section : (key : Option SectionKey) (w : Tree)
      → (key ≡ Some Kernel → has_passed ≡ true → IsFaultless names (value_under (codes "distributed") (elements w)))
      → section_faults_left has_passed names key w ≡ section_faults names key w
  unfolding section_faults_left section_faults
  same_section None w h = refl
  same_section (Some Rehearse) w h = refl
  same_section (Some Kernel) w h = same_kernel w (h refl)

  pub same_sections : (config : Tree) → (has_passed ≡ true → IsFaultless names (distributed_in config))
      → entries_faults section_key (section_faults_left has_passed names) config ≡ entries_faults section_key (section_faults names) config
  unfolding elements_under
  same_sections config passes =
      same_entries section_key (section_faults_left has_passed names) (section_faults names)
      (λ w. same_section None w (λ k p. cc)) config
      (λ key w is. same_section (section_key key) w
      (λ k p. subst (IsFaultless names)
      (ap (λ (o : Option Tree). value_under (codes "distributed") (unwrap_or (option_map elements o) []))
      (ap (λ k. value_under k (elements config)) (sym (section_of_kernel key k)) ∙ is))
      (passes p)))
