-- Where the headers have no fault, names are few and each comes once.
use Rattle.std.proofs.Common.{◌≡◌, ◌≢◌, ◌+◌, ◌≤◌, ◌||◌, ◌==◌, ℕ, zero, suc, codes, not, Bool, true, false, cond, List, [], ◌∷◌, ◌++◌, length, Option, Some, None}
use Rattle.std.proofs.Common.{nat_le, refl, sym, ap, ◌∙◌, subst, arith, append_assoc, append-nil, length-append}
use Rattle.std.specs.Prelude.{AllPairs, flat_map}
use Rattle.std.specs.List.{fold}
use Rattle.std.specs.Str.{bytes_eq}
use Rattle.std.proofs.lemmas.Bool.Decides.{nat_tests}
use Rattle.std.proofs.lemmas.Slice.Eq.{bytes_eq-Decides}
use Rattle.std.proofs.lemmas.List.Folds.{list_any_at}
use Rattle.std.proofs.lemmas.List.Quantifiers.{all_pairs_push}
use Rattle.rh_base.specs.Tree.{Tree}
use Rattle.rh_model.specs.declared.limits.TheConstants.{MAX_PLATFORMS}
use Rattle.rh_model.specs.Limits.{node_limit, app_limit}
use Rattle.rh_model.specs.declared.platforms.Platforms.{Platforms}
use Rattle.rh_model.specs.Names.{is_among}
use Rattle.rh_cluster.specs.declared.fault.ClusterFault.TheVariants as fault
use Rattle.rh_cluster.specs.NameRule.{is_name}
use Rattle.rh_cluster.specs.Shapes.{as_node, as_app, atoms}
use Rattle.rh_cluster.specs.Faults.{in_turn, when}
use Rattle.rh_cluster.specs.Headers.{every_platform, new_name_faults, header_faults, header_faults_by, headers_stage, node_names, app_names}
use Rattle.rh_cluster.specs.Values.{with_name, with_first_name, with_platforms, platforms_in, platform_in_term, elements}
use Rattle.rh_base.proofs.Elements.{none_left, none_right}
use Rattle.rh_cluster.proofs.NoFaults.{not_when}
use Rattle.rh_cluster.proofs.OneHeader.{node_names_one, node_names_none, app_names_one, app_names_none, node_names-append, app_names-append, no_app}

-- ---- one more name

abbrev pub IsOnce : List (List ℕ) → Type 0
IsOnce names = AllPairs (λ (a b : List ℕ). a ≢ b) names

once_more : (names : List (List ℕ)) (name : List ℕ) → is_among names name ≡ false → IsOnce names → IsOnce (names ++ name ∷ [])
once_more names name absent once =
    all_pairs_push (λ (a b : List ℕ). a ≢ b) names name once (λ k d inside same.
    let found : is_among names name ≡ true = list_any_at (bytes_eq name) names k d inside ((bytes_eq-Decides name _).1 (sym same)) in
    let no : true ≡ false = sym found ∙ absent in cc)

-- so many at most, each once
abbrev pub AreFew : ℕ → List (List ℕ) → Type 0
AreFew most names = (length names ≤ most) × IsOnce names

few_more : (most : ℕ) (names : List (List ℕ)) (name : List ℕ) → nat_le most (length names) ≡ false → is_among names name ≡ false → AreFew most names
    → AreFew most (names ++ name ∷ [])
few_more most names name room absent few = (subst (λ k. k ≤ most) (sym (length-append names (name ∷ []))) (below room), once_more names name absent few.1)
  where
    below : nat_le most (length names) ≡ false → length names + 1 ≤ most
    below e = grind (arith, nat_tests)

-- a name without a fault
few_named : (most : ℕ) (reserved : Bool) (names : List (List ℕ)) (name : List ℕ) → new_name_faults most reserved names name ≡ [] → AreFew most names
    → AreFew most (names ++ name ∷ [])
unfolding new_name_faults
few_named most reserved names name none few =
    let bad = when (not (is_name name)) fault.BadName in
    let taken = when (reserved || is_among names name) fault.DuplicateName in
    let many = when (nat_le most (length names)) fault.TooMany in
    let absent = not_when (reserved || is_among names name) fault.DuplicateName (none_right bad taken (none_left (bad ++ taken) many none)) in
    few_more most names name (not_when (nat_le most (length names)) fault.TooMany (none_right (bad ++ taken) many none))
    (right_false reserved (is_among names name) absent) few
  where
    right_false : (a b : Bool) → (a || b) ≡ false → b ≡ false
    right_false false b h = h
    right_false true b h = cc

-- ---- the headers

abbrev HaveFew : ℕ → List Tree → Type 0
HaveFew p ts = AreFew (node_limit p) (node_names ts) × AreFew (app_limit p) (app_names ts)

module _ (p : ℕ) (e : List Tree) (t : Tree) where
  one_more : (n a : Option (List ℕ × Tree)) → as_node t ≡ n → as_app t ≡ a → header_faults_by p (node_names e) (app_names e) n a ≡ [] → HaveFew p e
      → HaveFew p (e ++ t ∷ [])
  one_more (Some x) a node app none few = (
    subst (AreFew (node_limit p)) (sym (node_names-append e t ∙ ap (λ ns. node_names e ++ ns) (node_names_one t x node)))
        (few_named (node_limit p) false (node_names e) x.0 none few.0),
    subst (AreFew (app_limit p)) (sym (app_names-append e t ∙ ap (λ ns. app_names e ++ ns) (app_names_none t (no_app t x node)) ∙ append-nil (app_names e)))
        few.1,
  )
  one_more None (Some x) node app none few = (
    subst (AreFew (node_limit p)) (sym (node_names-append e t ∙ ap (λ ns. node_names e ++ ns) (node_names_none t node) ∙ append-nil (node_names e))) few.0,
    subst (AreFew (app_limit p)) (sym (app_names-append e t ∙ ap (λ ns. app_names e ++ ns) (app_names_one t x app)))
        (few_named (app_limit p) (is_among every_platform x.0) (app_names e) x.0 none few.1),
  )
  one_more None None node app none few = cc

all_more : (p : ℕ) (e ts : List Tree) → in_turn (λ earlier t. header_faults p (node_names earlier) (app_names earlier) t) e ts ≡ [] → HaveFew p e → HaveFew p (e ++ ts)
unfolding header_faults
all_more p e [] none few = subst (HaveFew p) (sym (append-nil e)) few
all_more p e (t ∷ ts) none few =
    subst (HaveFew p) (append_assoc e (t ∷ []) ts)
    (all_more p (e ++ t ∷ []) ts (none_right _ _ none) (one_more p e t (as_node t) (as_app t) refl refl (none_left _ _ none) few))

no_names : (most : ℕ) → AreFew most []
no_names most = (omega arith, λ i j d l k. absurd (omega arith))

pub headers_few : (p : ℕ) (ts : List Tree) → headers_stage p ts ≡ [] → HaveFew p ts
unfolding headers_stage node_names app_names
headers_few p ts none = all_more p [] ts (none_left _ _ none) (no_names (node_limit p), no_names (app_limit p))

pub some_node : (p : ℕ) (ts : List Tree) → headers_stage p ts ≡ [] → 1 ≤ length (node_names ts)
unfolding headers_stage
some_node p ts none = by (length (node_names ts)) (not_when _ _ (none_right _ _ none))
  where
    by : (n : ℕ) → (n == 0) ≡ false → 1 ≤ n
    by zero h = cc
    by (suc n) h = omega arith

-- ---- the platform names

first_few : (names : List (List ℕ)) (name : List ℕ) → AreFew MAX_PLATFORMS names → AreFew MAX_PLATFORMS (with_first_name names name)
unfolding with_first_name with_name
first_few names name few = by (nat_le MAX_PLATFORMS (length names)) (is_among names name) refl refl
  where
    by : (full there : Bool) → nat_le MAX_PLATFORMS (length names) ≡ full → is_among names name ≡ there
        → AreFew MAX_PLATFORMS (cond full names (cond there names (names ++ name ∷ [])))
    by true there room absent = few
    by false true room absent = few
    by false false room absent = few_more MAX_PLATFORMS names name room absent few

fold_keeps : {A B : Type 0} (f : B → A → B) (P : B → Type 0) → ((b : B) (x : A) → P b → P (f b x)) → (b : B) (xs : List A) → P b → P (fold f b xs)
fold_keeps f P step b [] holds = holds
fold_keeps f P step b (x ∷ xs) holds = fold_keeps f P step (f b x) xs (step b x holds)

list_few : (p : Platforms) (v : Tree) → AreFew MAX_PLATFORMS p.first → AreFew MAX_PLATFORMS (with_platforms p v).first
unfolding with_platforms
list_few p v few = fold_keeps with_first_name (AreFew MAX_PLATFORMS) first_few p.first (atoms (elements v)) few

every_few : AreFew MAX_PLATFORMS every_platform
every_few =
    few_more MAX_PLATFORMS (codes "kernel" ∷ []) (codes "stdlib") refl refl
    (few_more MAX_PLATFORMS [] (codes "kernel") refl refl (no_names MAX_PLATFORMS))

pub platforms_few : (ts : List Tree) → AreFew MAX_PLATFORMS (platforms_in ts).first
unfolding platforms_in
platforms_few ts =
    fold_keeps with_platforms (λ (p : Platforms). AreFew MAX_PLATFORMS p.first) list_few (record { first = every_platform; known = every_platform })
    (flat_map platform_in_term ts) every_few
