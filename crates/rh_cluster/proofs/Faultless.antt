-- The `distributed` of a term without faults has none.
use Rattle.std.proofs.Common.{◌≡◌, ℕ, List, [], Option, Some, None, codes, refl}
use Rattle.std.specs.Option.{option_or}
use Rattle.rh_base.specs.Tree.{Tree}
use Rattle.rh_cluster.specs.Shapes.{as_node, as_app, ◌>>=◌}
use Rattle.rh_cluster.specs.Faults.{list_faults}
use Rattle.rh_cluster.specs.Sections.{IsFaultless, share_faults, entry_faults, kernel_key, kernel_faults, section_key, section_faults}
use Rattle.rh_cluster.specs.Sections.{entries_faults, parts_faults, parts_faults_by}
use Rattle.rh_model.specs.Names.{NamesView}
use Rattle.rh_cluster.specs.Values.{elements, kernel_of, distributed_in, distributed_of}
use Rattle.rh_cluster.proofs.NoFaults.{list_none, under_none, value_none}

module _ (names : NamesView) where
  in_kernel : (config v : Tree) → entries_faults section_key (section_faults names) config ≡ [] → distributed_in config ≡ Some v
      → list_faults (share_faults names) v ≡ []
  unfolding section_faults kernel_faults
  in_kernel config v none is =
      value_none kernel_key (kernel_faults names) [] (kernel_of config) (codes "distributed") v
      (under_none section_key (section_faults names) (entry_faults kernel_key (kernel_faults names)) (codes "kernel") (elements config) (λ _ h. h)
      (list_none (entry_faults section_key (section_faults names)) config none)) is

  in_config : (config : Tree) (o : Option Tree) → entries_faults section_key (section_faults names) config ≡ [] → distributed_in config ≡ o
      → IsFaultless names o
  in_config config None none is = tt
  in_config config (Some v) none is = in_kernel config v none is

  -- so the latest one has none
  pub latest : (platforms : List (List ℕ)) (t : Tree) (earlier : Option Tree) → parts_faults names platforms t ≡ [] → IsFaultless names earlier
      → IsFaultless names (option_or (distributed_of t) earlier)
  unfolding parts_faults
  latest platforms t earlier none before = by (as_node t) none
    where
      either : (o : Option Tree) → IsFaultless names o → IsFaultless names (option_or o earlier)
      either None h = before
      either (Some v) h = h

      by : (o : Option (List ℕ × Tree)) → parts_faults_by names platforms o (as_app t) ≡ []
          → IsFaultless names (option_or (o >>= λ n. distributed_in n.1) earlier)
      by None k = before
      by (Some n) k = either (distributed_in n.1) (in_config n.1 (distributed_in n.1) k refl)
