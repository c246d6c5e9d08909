-- From the faults and the value of a list of terms to what the definition says of the text.
use Rattle.std.proofs.Common.{◌≡◌, ◌≢◌, ℕ, List, [], ◌∷◌, Result, Ok, Err, Some, refl, sym, ap, ◌∙◌}
use Rattle.std.specs.Prelude.{IfOk}
use Rattle.rh_base.specs.Tree.{Tree, Trees, trees_from}
use Rattle.rh_terms.specs.Grammar.{terms_of, FaultIs}
use Rattle.rh_terms.specs.Kept.{kept_of}
use Rattle.rh_terms.specs.declared.fault.TermFault.{TermFault}
use Rattle.rh_terms.specs.declared.fault.TermFault.TheVariants as terms
use Rattle.rh_cluster.specs.declared.fault.ClusterFault.{ClusterFault}
use Rattle.rh_cluster.specs.declared.fault.ClusterFault.TheVariants as fault
use Rattle.rh_model.specs.ClusterView.{ClusterView}
use Rattle.rh_cluster.specs.Faults.{Finds, Gives, first, unless}
use Rattle.rh_cluster.specs.ClusterOf.{faults_in, cluster_view, cluster_of_terms, cluster_in, cluster_of}
use Rattle.rh_cluster.specs.Profile.{profile_of, behind_profile}
use Rattle.rh_base.proofs.Trees.{list_of_trees-trees_from}
use Rattle.rh_cluster.specs.declared.kept.Part.TheVariants as part
use Rattle.rh_cluster.specs.Kept.{read_behind}
use Rattle.rh_cluster.proofs.Skipped.{skipped_tells_nothing}

unless_err : {A : Type 0} (fs : List ClusterFault) (v : A) (f : ClusterFault) → first fs ≡ Some f → unless fs v ≡ Err f
unless_err [] v f h = cc
unless_err (g ∷ fs) v f h = cc

gives : (r : Result ClusterView ClusterFault) (fs : List ClusterFault) (v : ClusterView) (read : Result ClusterView ClusterFault) → read ≡ unless fs v
    → Finds r fs → IfOk r (λ c. c ≡ v)
    → Gives (λ c. c) r read
gives (Ok x) [] v read e h is = e ∙ ap Ok (sym is)
gives (Ok x) (f ∷ fs) v read e h is = cc
gives (Err f) fs v read e h is = λ n m. e ∙ unless_err fs v f (h n)

-- what is kept of the terms of a text
abbrev pub kept_text : List ℕ → Result Trees TermFault
kept_text bytes = kept_of read_behind part.File (terms_of bytes)

kept_cluster : (read : Result Trees TermFault) → cluster_in (kept_of read_behind part.File read) ≡ cluster_in read
kept_cluster (Ok ts) = skipped_tells_nothing ts
kept_cluster (Err f) = refl

cluster_of_kept : (bytes : List ℕ) → cluster_of bytes ≡ cluster_in (kept_text bytes)
unfolding cluster_of
cluster_of_kept bytes = sym (kept_cluster (terms_of bytes))

read_terms : (bytes : List ℕ) (ts : List Tree) → kept_text bytes ≡ Ok (trees_from ts) → cluster_of bytes ≡ cluster_of_terms ts
read_terms bytes ts h = cluster_of_kept bytes ∙ ap cluster_in h ∙ ap cluster_of_terms (list_of_trees-trees_from ts)

-- what is kept of the text is a list of these terms, of which those behind the profile are these
pub read_gives : (bytes : List ℕ) (ts behind : List Tree) (p : ℕ) (r : Result ClusterView ClusterFault) → kept_text bytes ≡ Ok (trees_from ts)
    → p ≡ profile_of ts → behind ≡ behind_profile ts → Finds r (faults_in p behind) → IfOk r (λ c. c ≡ cluster_view p behind)
    → Gives (λ c. c) r (cluster_of bytes)
unfolding cluster_of_terms
read_gives bytes ts behind p r h profile rest finds is =
    gives r (faults_in p behind) (cluster_view p behind) (cluster_of bytes)
    (read_terms bytes ts h ∙ sym (λ i. unless (faults_in (profile i) (rest i)) (cluster_view (profile i) (rest i)))) finds is

-- the text is none
pub no_terms : (bytes : List ℕ) (e : TermFault) → FaultIs e (kept_text bytes) → fault.Term e ≢ fault.Term terms.OutOfMemory
    → cluster_of bytes ≡ Err (fault.Term e)
no_terms bytes terms.OutOfMemory h n = absurd (n refl)
no_terms bytes (terms.Syntax line) h n = cluster_of_kept bytes ∙ ap cluster_in h
no_terms bytes (terms.Unsupported line) h n = cluster_of_kept bytes ∙ ap cluster_in h
no_terms bytes terms.NotUtf8 h n = cluster_of_kept bytes ∙ ap cluster_in h
no_terms bytes terms.TooDeep h n = cluster_of_kept bytes ∙ ap cluster_in h
no_terms bytes terms.IntRange h n = cluster_of_kept bytes ∙ ap cluster_in h
