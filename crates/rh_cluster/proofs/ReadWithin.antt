-- The cluster of a text is one whose lists fit together.
use Rattle.std.proofs.Common.{◌≡◌, ℕ, ℤ, pos, List, [], ◌∷◌, Ok, Err, Bool, true, false, cond, Option, Some, None, unwrap_or, codes, refl, subst}
use Rattle.std.specs.Prelude.{Result}
use Rattle.rh_base.specs.Tree.{Tree, Trees, list_of_trees}
use Rattle.rh_terms.specs.Grammar.{terms_of}
use Rattle.rh_terms.specs.declared.fault.TermFault.{TermFault}
use Rattle.rh_model.specs.ClusterView.{ClusterView, IsWithin}
use Rattle.rh_cluster.specs.declared.fault.ClusterFault.{ClusterFault}
use Rattle.rh_cluster.specs.Faults.{unless}
use Rattle.rh_cluster.specs.Headers.{headers_stage}
use Rattle.rh_cluster.specs.ClusterOf.{faults_behind_headers, faults_in, cluster_view, cluster_of_terms, cluster_in, cluster_of}
use Rattle.rh_cluster.specs.Profile.{profile_named, profile_of, behind_profile}
use Rattle.rh_model.specs.Limits.{is_profile}
use Rattle.rh_cluster.specs.Shapes.{as_entry, as_int, if_profile, as_profile, ◌>>=◌}
use Rattle.std.specs.Str.{bytes_eq}
use Rattle.std.proofs.lemmas.Option.{same_Some}
use Rattle.rh_cluster.specs.Laws.{ClustersAreWithin}
use Rattle.rh_base.proofs.Elements.{none_left, none_right}
use Rattle.rh_cluster.proofs.Within.{view_is_within}

abbrev read_as : ClusterView → Result ClusterView ClusterFault
read_as v = Ok v

same_ok : (v c : ClusterView) → read_as v ≡ read_as c → v ≡ c
same_ok v c e = cc

faultless : (p : ℕ) (ts : List Tree) → is_profile p ≡ true → faults_in p ts ≡ [] → IsWithin (cluster_view p ts)
unfolding faults_in
faultless p ts known none =
    view_is_within ts p known (none_left (headers_stage p ts) (faults_behind_headers ts) none)
    (none_right (headers_stage p ts) (faults_behind_headers ts) none)

within_unless : (p : ℕ) (ts : List Tree) (c : ClusterView) (faults : List ClusterFault) → is_profile p ≡ true → faults_in p ts ≡ faults
    → unless faults (cluster_view p ts) ≡ Ok c → IsWithin c
within_unless p ts c [] known none read = subst IsWithin (same_ok (cluster_view p ts) c read) (faultless p ts known none)
within_unless p ts c (f ∷ fs) known some read = cc

if_known : (n q : ℕ) (b : Bool) → is_profile n ≡ b → cond b (Some n) None ≡ Some q → is_profile q ≡ true
if_known n q true is e = subst (λ m. is_profile m ≡ true) (same_Some n q e) is
if_known n q false is e = cc

if_known_int : (z : ℤ) (q : ℕ) → if_profile z ≡ Some q → is_profile q ≡ true
if_known_int (pos n) q e = if_known n q (is_profile n) refl e
if_known_int z q e = cc

-- the profile of a term is known
known : (t : Tree) (q : ℕ) → as_profile t ≡ Some q → is_profile q ≡ true
unfolding as_profile
known t q e = by (as_entry t) e
  where
    number : (o : Option ℤ) → (o >>= if_profile) ≡ Some q → is_profile q ≡ true
    number None h = cc
    number (Some z) h = if_known_int z q h

    word : (b : Bool) (value : Tree) → cond b (as_int value >>= if_profile) None ≡ Some q → is_profile q ≡ true
    word true value h = number (as_int value) h
    word false value h = cc

    by : (o : Option (List ℕ × Tree)) → (o >>= λ p. cond (bytes_eq p.0 (codes "profile")) (as_int p.1 >>= if_profile) None) ≡ Some q → is_profile q ≡ true
    by None h = cc
    by (Some p) h = word (bytes_eq p.0 (codes "profile")) p.1 h

-- and so is that of a file
known_of : (ts : List Tree) → is_profile (profile_of ts) ≡ true
unfolding profile_of
known_of ts = by (profile_named ts) (named ts)
  where
    named : (ts : List Tree) (q : ℕ) → profile_named ts ≡ Some q → is_profile q ≡ true
    named [] q e = cc
    named (t ∷ ts) q e = known t q e

    by : (o : Option ℕ) → ((q : ℕ) → o ≡ Some q → is_profile q ≡ true) → is_profile (unwrap_or o 1) ≡ true
    by None all = refl
    by (Some q) all = all q refl

within_read : (r : Result Trees TermFault) (c : ClusterView) → cluster_in r ≡ Ok c → IsWithin c
unfolding cluster_of_terms
within_read (Ok us) c read =
    let ts = list_of_trees us in
    within_unless (profile_of ts) (behind_profile ts) c (faults_in (profile_of ts) (behind_profile ts)) (known_of ts) refl read
within_read (Err f) c read = cc

pub clusters_within : ClustersAreWithin
unfolding cluster_of
clusters_within bytes c read = within_read (terms_of bytes) c read
