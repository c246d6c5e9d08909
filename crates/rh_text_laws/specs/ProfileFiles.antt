-- A file in the second profile (ours).
use Rattle.std.specs.Prelude.{◌≡◌, ℕ, List, ◌++◌, None, Ok, codes}
use Rattle.rh_base.specs.Tree.{Trees, list_of_trees}
use Rattle.rh_terms.specs.Grammar.{terms_of}
use Rattle.rh_model.specs.ClusterView.{ClusterView}
use Rattle.rh_cluster.specs.Profile.{profile_named}
use Rattle.rh_cluster.specs.ClusterOf.{cluster_of}
use Rattle.rh_text_laws.specs.Profiles.{in_profile}

-- the line that puts a file into the second profile
abbrev pub second_line : List ℕ
second_line = codes "{profile, 2}.\n"

-- the first term of a file names no profile
abbrev pub NamesNoProfile : List ℕ → Type 0
NamesNoProfile text = (ts : Trees) → terms_of text ≡ Ok ts → profile_named (list_of_trees ts) ≡ None

-- behind that line such a file describes the same cluster, in the second profile
abbrev pub SecondProfileReadsSame : Type 0
SecondProfileReadsSame =
    (text : List ℕ) (c : ClusterView) → NamesNoProfile text → cluster_of text ≡ Ok c
    → cluster_of (second_line ++ text) ≡ Ok (in_profile 2 c)
