-- What a node's own file says, beside what a cluster keeps of it (ours).
use Rattle.std.specs.Prelude.{◌≡◌, ℕ, List, map, Some, Ok, ◌==◌, if◌then◌else◌}
use Rattle.rh_base.specs.Tree.{Tree}
use Rattle.rh_terms.specs.Grammar.{terms_of}
use Rattle.rh_model.specs.ClusterView.{ClusterView}
use Rattle.rh_model.specs.Names.{NamesView}
use Rattle.rh_model.specs.declared.settings.SyncWait.{SyncWait}
use Rattle.rh_model.specs.declared.settings.SyncWait.TheVariants as kept
use Rattle.rh_cluster.specs.declared.shares.Share.{Share}
use Rattle.rh_cluster.specs.ClusterOf.{cluster_of}
use Rattle.rh_cluster.specs.Headers.{nodes_in}
use Rattle.rh_cluster.specs.Sections.{as_sync_wait}
use Rattle.rh_cluster.specs.Values.{distributed_in, shares_in}
use Rattle.rh_otp_model.specs.Own.{WrittenView, EntryView}
use Rattle.rh_otp_model.specs.declared.wait.Wait.{Wait}
use Rattle.rh_otp_model.specs.declared.wait.Wait.TheVariants.{Refused, After, Forever}
use Rattle.rh_otp_file.specs.Distributed.{own_in}
use Rattle.rh_otp_file.specs.Files.{file_in, terms_in, own_files}
use Rattle.rh_otp_file.specs.Waits.{wait_of}

-- each node of the cluster of a text has the file that its own term says
abbrev pub EachNodeHasItsOwn : Type 0
EachNodeHasItsOwn = (text : List ℕ) (c : ClusterView) → cluster_of text ≡ Ok c
    → own_files c text ≡ map (λ (n : List ℕ × Tree). file_in c n.1) (nodes_in (terms_in (terms_of text)))

-- the names of a cluster
abbrev pub names_in : ClusterView → NamesView
names_in c = record { nodes = c.node_names; apps = c.app_names; platforms = c.platform_names }

-- what a cluster's reader keeps of an entry: of each place its nodes alone
abbrev pub kept_entry : EntryView → Share
kept_entry e = record {
  app = e.app;
  spread = record { timeout = e.timeout; groups = map (λ (place : WrittenView). place.nodes) e.places };
}

-- a cluster's reader keeps of a `distributed` the entries that the node's own file has, in their order
abbrev pub EntriesAreKept : Type 0
EntriesAreKept = (c : ClusterView) (config : Tree)
    → shares_in (names_in c) config ≡ map kept_entry (own_in c (distributed_in config)).entries

-- what a wait that a cluster's reader accepts means to a live node
abbrev pub meaning_of : SyncWait → Wait
meaning_of kept.Unset = Refused
meaning_of (kept.After n) = if n == 0 then Refused else After n
meaning_of kept.Forever = Forever

-- a node's own file says of a wait that is accepted what is meant
abbrev pub WaitsAreMeant : Type 0
WaitsAreMeant = (value : Tree) (wait : SyncWait) → as_sync_wait value ≡ Some wait → wait_of value ≡ meaning_of wait
