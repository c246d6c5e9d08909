-- Each node of a text's cluster has the file that its own term says.
use Rattle.std.proofs.Common.{◌≡◌, ◌≢◌, ◌<◌, ℕ, suc, Bool, true, false, cond, List, [], ◌∷◌, map, length, get_or, Option, Some, None, is_some, Result, Ok, Err, refl, sym, ap, subst, ◌∙◌, drop, arith}
use Rattle.std.specs.Prelude.{AllPairs}
use Rattle.std.specs.List.{cons_option}
use Rattle.std.specs.Option.{option_or}
use Rattle.std.specs.Str.{bytes_eq}
use Rattle.std.proofs.lemmas.Bool.{false_from_ne_true}
use Rattle.std.proofs.lemmas.Slice.Eq.{bytes_eq-Decides}
use Rattle.rh_base.specs.Tree.{Tree, Trees, atom, int, text, list, tuple, none, more, list_of_trees}
use Rattle.rh_terms.specs.Grammar.{terms_of}
use Rattle.rh_terms.specs.declared.fault.TermFault.{TermFault}
use Rattle.rh_model.specs.ClusterView.{ClusterView, IsWithin}
use Rattle.rh_cluster.specs.declared.fault.ClusterFault.{ClusterFault}
use Rattle.rh_cluster.specs.Shapes.{as_tuple, as_pair, as_triple, as_entry, as_headed, as_node, as_profile, ◌>>=◌}
use Rattle.rh_cluster.specs.Faults.{unless}
use Rattle.rh_cluster.specs.Headers.{nodes_in, node_names}
use Rattle.rh_cluster.specs.Profile.{profile_of, behind_profile}
use Rattle.rh_cluster.specs.ClusterOf.{faults_in, cluster_view, cluster_of_terms, cluster_in, cluster_of}
use Rattle.rh_cluster.proofs.ReadWithin.{clusters_within}
use Rattle.rh_otp_model.specs.declared.wait.OwnFile.{OwnFile}
use Rattle.rh_otp_file.specs.Files.{config_if, config_of, file_in, file_by, files_of, terms_in, own_files}
use Rattle.rh_otp_file.specs.Laws.{EachNodeHasItsOwn}

abbrev Named : Type 0
Named = List ℕ × Tree

-- ---- a node by its name

abbrev found : List ℕ → List Named → Option Tree
found name [] = None
found name (x ∷ xs) = cond (bytes_eq x.0 name) (Some x.1) (found name xs)

found_first : (name : List ℕ) (o : Option Named) (rest : Option Tree) (xs : List Named) → rest ≡ found name xs
    → option_or (o >>= λ n. cond (bytes_eq n.0 name) (Some n.1) None) rest ≡ found name (cons_option o xs)
found_first name None rest xs h = h
found_first name (Some x) rest xs h = by (bytes_eq x.0 name)
  where
    by : (b : Bool) → option_or (cond b (Some x.1) None) rest ≡ cond b (Some x.1) (found name xs)
    by true = refl
    by false = h

config_found : (name : List ℕ) (ts : List Tree) → config_of name ts ≡ found name (nodes_in ts)
unfolding config_if
config_found name [] = refl
config_found name (t ∷ ts) = found_first name (as_node t) (config_of name ts) (nodes_in ts) (config_found name ts)

-- ---- names that differ

module _ (c : ClusterView) where
  abbrev file_of : List Named → List ℕ → OwnFile
  file_of xs name = file_by c (found name xs)

  abbrev Differ : List ℕ → List (List ℕ) → Type 0
  Differ name names = (k : ℕ) (d : List ℕ) → k < length names → name ≢ get_or names k d

  behind_first : (x : Named) (xs : List Named) (names : List (List ℕ)) → Differ x.0 names → map (file_of (x ∷ xs)) names ≡ map (file_of xs) names
  behind_first x xs [] other = refl
  behind_first x xs (m ∷ names) other =
      let differs : bytes_eq x.0 m ≡ false = false_from_ne_true _ (λ same. other 0 [] (omega arith) ((bytes_eq-Decides x.0 m).0 same)) in
      let rest : map (file_of (x ∷ xs)) names ≡ map (file_of xs) names = behind_first x xs names (λ k d within. other (suc k) d (omega arith)) in
      λ i. file_by c (cond (differs i) (Some x.1) (found m xs)) ∷ rest i

  each_found : (xs : List Named) → AllPairs (λ (name later : List ℕ). name ≢ later) (map (λ (x : Named). x.0) xs)
      → map (file_of xs) (map (λ (x : Named). x.0) xs) ≡ map (λ (x : Named). file_in c x.1) xs
  each_found [] once = refl
  each_found (x ∷ xs) once =
      let itself : bytes_eq x.0 x.0 ≡ true = (bytes_eq-Decides x.0 x.0).1 refl in
      let others = behind_first x xs (map (λ (y : Named). y.0) xs) (λ k d within. once 0 (suc k) d (omega arith) (omega arith)) in
      let rest = each_found xs (λ i j d before within. once (suc i) (suc j) d (omega arith) (omega arith)) in
      λ i. file_by c (cond (itself i) (Some x.1) (found x.0 xs)) ∷ (others ∙ rest) i

-- ---- the term that names the profile

no_node : (t : Tree) (p : ℕ) → as_profile t ≡ Some p → as_node t ≡ None
unfolding as_profile as_entry as_pair as_headed as_triple as_tuple
no_node (atom s) p h = refl
no_node (int n) p h = refl
no_node (text s) p h = refl
no_node (list ts) p h = refl
no_node (tuple none) p h = refl
no_node (tuple (more t none)) p h = refl
no_node (tuple (more t (more u none))) p h = refl
no_node (tuple (more t (more u (more v none)))) p h = cc
no_node (tuple (more t (more u (more v (more w ws))))) p h = refl

nodes_behind : (ts : List Tree) → nodes_in (behind_profile ts) ≡ nodes_in ts
unfolding behind_profile
nodes_behind [] = refl
nodes_behind (t ∷ ts) = by (as_profile t) refl
  where
    by : (o : Option ℕ) → as_profile t ≡ o → nodes_in (cond (is_some o) (drop 1 (t ∷ ts)) (t ∷ ts)) ≡ nodes_in (t ∷ ts)
    by None is = refl
    by (Some p) is = ap (λ (n : Option Named). cons_option n (nodes_in ts)) (sym (no_node t p is))

-- ---- the law

abbrev read_as : ClusterView → Result ClusterView ClusterFault
read_as v = Ok v

names_by : (p : ℕ) (ts : List Tree) (c : ClusterView) (faults : List ClusterFault) → unless faults (cluster_view p ts) ≡ Ok c → c.node_names ≡ node_names ts
unfolding cluster_view
names_by p ts c [] read = let same : cluster_view p ts ≡ c = cc in sym (ap (λ (v : ClusterView). v.node_names) same)
names_by p ts c (f ∷ fs) read = cc

names_are : (us : List Tree) (c : ClusterView) → cluster_of_terms us ≡ Ok c → c.node_names ≡ map (λ (x : Named). x.0) (nodes_in us)
unfolding cluster_of_terms node_names
names_are us c read =
    names_by (profile_of us) (behind_profile us) c (faults_in (profile_of us) (behind_profile us)) read
    ∙ ap (map (λ (x : Named). x.0)) (nodes_behind us)

files_are : (us : List Tree) (c : ClusterView) → IsWithin c → cluster_of_terms us ≡ Ok c → files_of c us ≡ map (λ (x : Named). file_in c x.1) (nodes_in us)
unfolding files_of
files_are us c within read =
    let names = names_are us c read in
    (λ i. map (λ name. file_by c (config_found name us i)) (names i))
    ∙ each_found c (nodes_in us) (subst (AllPairs (λ (name later : List ℕ). name ≢ later)) names within.node_names)

files_read : (r : Result Trees TermFault) (c : ClusterView) → IsWithin c → cluster_in r ≡ Ok c
    → files_of c (terms_in r) ≡ map (λ (x : Named). file_in c x.1) (nodes_in (terms_in r))
files_read (Ok ts) c within read = files_are (list_of_trees ts) c within read
files_read (Err f) c within read = cc

pub each_node_has_its_own : EachNodeHasItsOwn
unfolding cluster_of own_files
each_node_has_its_own bytes c read = files_read (terms_of bytes) c (clusters_within bytes c read) read
