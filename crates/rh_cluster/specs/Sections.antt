-- The third stage: the sections of each term (kernel(6), app(4), ours).
use Rattle.std.specs.Prelude.{◌≡◌, ℕ, List, [], ◌∷◌, ◌++◌, length, filter_map, flat_map, Bool, true, false, not, ◌&&◌}
use Rattle.std.specs.Prelude.{◌||◌, ◌==◌, is_some, is_none, Option, Some, None, option_map, codes, if◌then◌else◌}
use Rattle.std.specs.List.{list_any, list_all}
use Rattle.std.specs.Option.{option_map_or}
use Rattle.std.specs.Str.{bytes_eq}
use Rattle.rh_base.specs.Tree.{Tree}
use Rattle.rh_cluster.specs.declared.fault.ClusterFault.{ClusterFault}
use Rattle.rh_cluster.specs.declared.fault.ClusterFault.TheVariants as fault
use Rattle.rh_model.specs.declared.settings.Restart.{Restart}
use Rattle.rh_model.specs.declared.settings.Restart.TheVariants.{Permanent, Transient, Temporary}
use Rattle.rh_model.specs.declared.settings.SyncWait.{SyncWait}
use Rattle.rh_model.specs.declared.settings.SyncWait.TheVariants.{Unset, After, Forever}
use Rattle.rh_cluster.specs.declared.kernel.KernelKey.{KernelKey}
use Rattle.rh_cluster.specs.declared.kernel.KernelKey.TheVariants.{Distributed, Mandatory, Optional, Timeout, Permissions}
use Rattle.rh_cluster.specs.declared.rehearse.RehearseKey.{RehearseKey}
use Rattle.rh_cluster.specs.declared.rehearse.RehearseKey.TheVariants.{Boot, Platform}
use Rattle.rh_cluster.specs.declared.sections.SectionKey.{SectionKey}
use Rattle.rh_cluster.specs.declared.sections.SectionKey.TheVariants.{Kernel, Rehearse}
use Rattle.rh_cluster.specs.declared.keys.AppKey.{AppKey}
use Rattle.rh_cluster.specs.declared.keys.AppKey.TheVariants.{Applications, Mod, StartPhases}
use Rattle.rh_cluster.specs.Shapes.{as_atom, as_list, as_tuple, as_pair, as_entry, as_node, as_app, as_time}
use Rattle.rh_cluster.specs.Shapes.{atoms, ◌>>=◌}
use Rattle.rh_cluster.specs.Faults.{when, in_turn, list_faults}
use Rattle.rh_cluster.specs.NameRule.{is_name}
use Rattle.rh_model.specs.Names.{is_among, NamesView}

-- ---- entries {Atom, Value} (config(4))

-- is this an entry of this key?
unfoldable pub has_key : List ℕ → Tree → Bool
has_key key t = option_map_or (λ e. bytes_eq e.0 key) (as_entry t) false

abbrev pub entry_faults_by : {K : Type 0} → (List ℕ → Option K) → (Option K → Tree → List ClusterFault) → List Tree
    → Option (List ℕ × Tree) → List ClusterFault
entry_faults_by key_of value_faults earlier None = fault.BadValue ∷ []
entry_faults_by key_of value_faults earlier (Some e) =
    if is_some (key_of e.0) && list_any (has_key e.0) earlier then fault.DuplicateParameter ∷ []
    else value_faults (key_of e.0) e.1

-- An entry: it is one, a key that is read doesn't come twice, and the value is in order. A key is read if the table names what
-- stands under it.
unfoldable pub entry_faults : {K : Type 0} → (List ℕ → Option K) → (Option K → Tree → List ClusterFault) → List Tree → Tree
    → List ClusterFault
entry_faults key_of value_faults earlier t = entry_faults_by key_of value_faults earlier (as_entry t)

-- a list of entries
abbrev pub entries_faults : {K : Type 0} → (List ℕ → Option K) → (Option K → Tree → List ClusterFault) → Tree
    → List ClusterFault
entries_faults key_of value_faults v = list_faults (entry_faults key_of value_faults) v

-- ---- names in values (ours)

-- a name of a value: the rule, that it is known, that it isn't there before
unfoldable pub word_faults : List ℕ → Bool → Bool → List ClusterFault
word_faults name is_known is_repeated =
    when (not (is_name name)) fault.BadName ++ when (not is_known) fault.UnknownName
    ++ when is_repeated fault.DuplicateInList

abbrev pub atom_faults : (List ℕ → Bool) → List (List ℕ) → Option (List ℕ) → List ClusterFault
atom_faults is_known earlier None = fault.BadValue ∷ []
atom_faults is_known earlier (Some name) = word_faults name (is_known name) (is_among earlier name)

-- a name: it is an atom, follows the rule, is known, and isn't among the earlier ones
unfoldable pub name_faults : (List ℕ → Bool) → List (List ℕ) → Tree → List ClusterFault
name_faults is_known earlier t = atom_faults is_known earlier (as_atom t)

-- a node's name in a list of them
unfoldable pub node_name_faults : NamesView → List Tree → Tree → List ClusterFault
node_name_faults names earlier t = name_faults (is_among names.nodes) (atoms earlier) t

-- the application that a tuple begins with
abbrev pub first_atom : List Tree → Option (List ℕ)
first_atom [] = None
first_atom (t ∷ ts) = as_atom t

unfoldable pub app_in : Tree → Option (List ℕ)
app_in t = as_tuple t >>= first_atom

-- an application's name at the front of an entry, behind earlier entries
unfoldable pub app_name_faults : NamesView → List Tree → Tree → List ClusterFault
app_name_faults names earlier t = name_faults (is_among names.apps) (filter_map app_in earlier) t

-- ---- kernel parameters (kernel(6))

abbrev pub members_by : Tree → Option (List Tree) → List Tree
members_by t (Some (x ∷ xs)) = x ∷ xs
members_by t o = t ∷ []

-- the group that an element of a NodeDesc is: the names of a tuple, or one name
unfoldable pub members : Tree → List Tree
members t = members_by t (as_tuple t)

abbrev pub desc_faults_by : NamesView → Option (List Tree) → List ClusterFault
desc_faults_by names (Some (x ∷ xs)) = in_turn (node_name_faults names) [] (flat_map members (x ∷ xs))
desc_faults_by names o = fault.BadValue ∷ []

-- a NodeDesc: a list of one or more groups, no node twice in the whole of it
unfoldable pub desc_faults : NamesView → Tree → List ClusterFault
desc_faults names t = desc_faults_by names (as_list t)

abbrev pub share_in : List Tree → Option (Tree × Option Tree × Tree)
share_in (app ∷ (desc ∷ [])) = Some (app, None, desc)
share_in (app ∷ (time ∷ (desc ∷ []))) = Some (app, Some time, desc)
share_in ts = None

-- the parts of {App, NodeDesc} or {App, Timeout, NodeDesc}
unfoldable pub as_share : Tree → Option (Tree × Option Tree × Tree)
as_share t = as_tuple t >>= share_in

-- a timeout, if there is one
abbrev pub time_faults : Option Tree → List ClusterFault
time_faults o = option_map_or (λ t. when (is_none (as_time t)) fault.BadValue) o []

abbrev pub share_faults_by : NamesView → List Tree → Option (Tree × Option Tree × Tree) → List ClusterFault
share_faults_by names earlier None = fault.BadValue ∷ []
share_faults_by names earlier (Some s) =
    app_name_faults names earlier s.0 ++ time_faults s.1 ++ desc_faults names s.2

-- an entry of `distributed`
unfoldable pub share_faults : NamesView → List Tree → Tree → List ClusterFault
share_faults names earlier t = share_faults_by names earlier (as_share t)

-- a `distributed` in which there is no fault, or none at all
abbrev pub IsFaultless : NamesView → Option Tree → Type 0
IsFaultless names None = Unit {0}
IsFaultless names (Some v) = list_faults (share_faults names) v ≡ []

abbrev pub pair_faults_by : NamesView → (Tree → Bool) → List Tree → Option (Tree × Tree) → List ClusterFault
pair_faults_by names is_value earlier None = fault.BadValue ∷ []
pair_faults_by names is_value earlier (Some e) =
    app_name_faults names earlier e.0 ++ when (not (is_value e.1)) fault.BadValue

-- an entry {App, Value}
abbrev pub pair_faults : NamesView → (Tree → Bool) → List Tree → Tree → List ClusterFault
pair_faults names is_value earlier t = pair_faults_by names is_value earlier (as_pair t)

abbrev pub truth_of : List ℕ → Option Bool
truth_of s =
    if bytes_eq s (codes "true") then Some true
    else if bytes_eq s (codes "false") then Some false
    else None

-- `true` or `false`
unfoldable pub as_truth : Tree → Option Bool
as_truth t = as_atom t >>= truth_of

-- an entry of `permissions`
unfoldable pub permission_faults : NamesView → List Tree → Tree → List ClusterFault
permission_faults names earlier t = pair_faults names (λ v. is_some (as_truth v)) earlier t

abbrev pub wait_word : List ℕ → Option SyncWait
wait_word s =
    if bytes_eq s (codes "undefined") then Some Unset
    else if bytes_eq s (codes "infinity") then Some Forever
    else None

abbrev pub wait_by : Option (List ℕ) → Option ℕ → Option SyncWait
wait_by (Some s) o = wait_word s
wait_by None o = option_map After o

-- `undefined`, `infinity`, or a time
unfoldable pub as_sync_wait : Tree → Option SyncWait
as_sync_wait t = wait_by (as_atom t) (as_time t)

-- the kernel parameter of a key, if it is read
abbrev pub kernel_key : List ℕ → Option KernelKey
kernel_key key =
    if bytes_eq key (codes "distributed") then Some Distributed
    else if bytes_eq key (codes "sync_nodes_mandatory") then Some Mandatory
    else if bytes_eq key (codes "sync_nodes_optional") then Some Optional
    else if bytes_eq key (codes "sync_nodes_timeout") then Some Timeout
    else if bytes_eq key (codes "permissions") then Some Permissions
    else None

-- the value of a kernel parameter
unfoldable pub kernel_faults : NamesView → Option KernelKey → Tree → List ClusterFault
kernel_faults names (Some Distributed) v = list_faults (share_faults names) v
kernel_faults names (Some Mandatory) v = list_faults (node_name_faults names) v
kernel_faults names (Some Optional) v = list_faults (node_name_faults names) v
kernel_faults names (Some Timeout) v = when (is_none (as_sync_wait v)) fault.BadValue
kernel_faults names (Some Permissions) v = list_faults (permission_faults names) v
kernel_faults names None v = []

-- ---- parameters of `rehearse` (ours)

abbrev pub restart_of : List ℕ → Option Restart
restart_of s =
    if bytes_eq s (codes "permanent") then Some Permanent
    else if bytes_eq s (codes "transient") then Some Transient
    else if bytes_eq s (codes "temporary") then Some Temporary
    else None

-- a restart type (application(3))
unfoldable pub as_restart : Tree → Option Restart
as_restart t = as_atom t >>= restart_of

-- an entry of `boot`
unfoldable pub boot_faults : NamesView → List Tree → Tree → List ClusterFault
boot_faults names earlier t = pair_faults names (λ v. is_some (as_restart v)) earlier t

-- is there a name that passes the test?
abbrev pub atom_is : (List ℕ → Bool) → Option (List ℕ) → Bool
atom_is test o = option_map_or test o false

-- a platform name: any name, but no application's, and no more than 256 different ones in the file
unfoldable pub platform_faults : NamesView → List Tree → Tree → List ClusterFault
platform_faults names earlier t =
    name_faults (λ _. true) (atoms earlier) t
    ++ when (atom_is (is_among names.apps) (as_atom t)) fault.DuplicateName
    ++ when (not (atom_is (is_among names.platforms) (as_atom t))) fault.TooMany

-- its parameter of a key
abbrev pub rehearse_key : List ℕ → Option RehearseKey
rehearse_key key =
    if bytes_eq key (codes "boot") then Some Boot
    else if bytes_eq key (codes "platform") then Some Platform
    else None

-- the value of a parameter of `rehearse`; there are no others
unfoldable pub rehearse_faults : NamesView → Option RehearseKey → Tree → List ClusterFault
rehearse_faults names (Some Boot) v = list_faults (boot_faults names) v
rehearse_faults names (Some Platform) v = list_faults (platform_faults names) v
rehearse_faults names None v = fault.BadValue ∷ []

-- ---- sections of a SysConfig (config(4))

-- the section of a key, if it is read
abbrev pub section_key : List ℕ → Option SectionKey
section_key key =
    if bytes_eq key (codes "kernel") then Some Kernel
    else if bytes_eq key (codes "rehearse") then Some Rehearse
    else None

-- the list of a section; of other sections than the two only that there is one
unfoldable pub section_faults : NamesView → Option SectionKey → Tree → List ClusterFault
section_faults names (Some Kernel) v = entries_faults kernel_key (kernel_faults names) v
section_faults names (Some Rehearse) v = entries_faults rehearse_key (rehearse_faults names) v
section_faults names None v = when (is_none (as_list v)) fault.BadValue

-- ---- the keys of an application (app(4))

-- what an application depends on: an application or a platform name, and not itself
unfoldable pub dep_faults : NamesView → List (List ℕ) → List ℕ → List (List ℕ) → Tree → List ClusterFault
dep_faults names platforms own earlier t =
    name_faults (λ name. is_among names.apps name || is_among platforms name) earlier t
    ++ when (atom_is (bytes_eq own) (as_atom t)) fault.BadValue

-- the names of `applications`
abbrev pub deps_faults : NamesView → List (List ℕ) → List ℕ → Tree → List ClusterFault
deps_faults names platforms own v = list_faults (λ earlier t. dep_faults names platforms own (atoms earlier) t) v

-- {Module, StartArg}, or []
unfoldable pub is_start : Tree → Bool
is_start t = is_some (as_entry t) || option_map_or (λ ts. length ts == 0) (as_list t) false

abbrev pub are_entries : Option (List Tree) → Bool
are_entries o = option_map_or (list_all (λ t. is_some (as_entry t))) o false

-- `undefined`, or a list of {Atom, Value}
unfoldable pub are_phases : Tree → Bool
are_phases t = atom_is (λ s. bytes_eq s (codes "undefined")) (as_atom t) || are_entries (as_list t)

-- what is read under a key of an application, if it is
abbrev pub app_key : List ℕ → Option AppKey
app_key key =
    if bytes_eq key (codes "applications") then Some Applications
    else if bytes_eq key (codes "mod") then Some Mod
    else if bytes_eq key (codes "start_phases") then Some StartPhases
    else None

-- the value of a key of an application
unfoldable pub key_faults : NamesView → List (List ℕ) → List ℕ → Option AppKey → Tree → List ClusterFault
key_faults names platforms own (Some Applications) v = deps_faults names platforms own v
key_faults names platforms own (Some Mod) v = when (not (is_start v)) fault.BadValue
key_faults names platforms own (Some StartPhases) v = when (not (are_phases v)) fault.BadValue
key_faults names platforms own None v = []

-- ---- terms (ours)

abbrev pub parts_faults_by : NamesView → List (List ℕ) → Option (List ℕ × Tree) → Option (List ℕ × Tree)
    → List ClusterFault
parts_faults_by names platforms (Some node) app = entries_faults section_key (section_faults names) node.1
parts_faults_by names platforms None (Some app) = entries_faults app_key (key_faults names platforms app.0) app.1
parts_faults_by names platforms None None = []

-- the parts of a term from left to right
unfoldable pub parts_faults : NamesView → List (List ℕ) → Tree → List ClusterFault
parts_faults names platforms t = parts_faults_by names platforms (as_node t) (as_app t)

-- the third stage: each term in order
unfoldable pub parts_stage : NamesView → List (List ℕ) → List Tree → List ClusterFault
parts_stage names platforms ts = in_turn (λ _ t. parts_faults names platforms t) [] ts
