-- A cluster's reader keeps what a node's own file says, but for how it is written.
use Rattle.std.proofs.Common.{◌≡◌, ◌==◌, ℕ, pos, negsuc, Bool, true, false, cond, List, [], ◌∷◌, map, Option, Some, None, unwrap_or, option_map, nat_le, codes, refl, ap, ◌∙◌}
use Rattle.std.specs.List.{filter_map, cons_option}
use Rattle.std.specs.Option.{option_to_list}
use Rattle.std.specs.Str.{bytes_eq}
use Rattle.std.proofs.lemmas.Slice.Eq.{bytes_eq-Decides}
use Rattle.rh_base.specs.Tree.{Tree, atom, int, text, list, tuple, none, more}
use Rattle.rh_base.proofs.Elements.{cons_option-map}
use Rattle.rh_model.specs.ClusterView.{ClusterView}
use Rattle.rh_model.specs.Limits.{timeout_limit}
use Rattle.rh_model.specs.declared.node.App.{App}
use Rattle.rh_model.specs.declared.node.Node.{Node}
use Rattle.rh_model.specs.declared.settings.SyncWait.{SyncWait}
use Rattle.rh_model.specs.declared.settings.SyncWait.TheVariants as kept
use Rattle.rh_cluster.specs.declared.shares.Share.{Share}
use Rattle.rh_cluster.specs.Shapes.{as_atom, as_tuple, as_int, as_time, ◌>>=◌}
use Rattle.rh_cluster.specs.Sections.{as_share, as_sync_wait, members}
use Rattle.rh_cluster.specs.Values as read
use Rattle.rh_cluster.specs.Values.{elements, elements_under, group_in, share_of, shares_in, distributed_in, time_or_zero}
use Rattle.rh_otp_model.specs.Own.{WrittenView, EntryView}
use Rattle.rh_otp_model.specs.declared.wait.Wait.{Wait}
use Rattle.rh_otp_model.specs.declared.wait.Wait.TheVariants.{Refused, After, Forever}
use Rattle.rh_otp_file.specs.Distributed.{node_by_name, app_by_name, place_of, entry_of, own_in}
use Rattle.rh_otp_file.specs.Waits.{wait_of, wait_word}
use Rattle.rh_otp_file.specs.Laws.{names_in, kept_entry, meaning_of, EntriesAreKept, WaitsAreMeant}

-- ---- entries

module _ (c : ClusterView) where
  named_alone : (o : Option Node) → cons_option o [] ≡ option_to_list o
  named_alone None = refl
  named_alone (Some n) = refl

  place_kept : (t : Tree) → group_in (names_in c) t ≡ (place_of c t).nodes
  unfolding group_in members place_of node_by_name read.node_named as_atom as_tuple
  place_kept (atom s) = named_alone (node_by_name c (atom s))
  place_kept (int n) = refl
  place_kept (text s) = refl
  place_kept (list ts) = refl
  place_kept (tuple none) = refl
  place_kept (tuple (more t ts)) = refl

  places_kept : (ts : List Tree) → map (group_in (names_in c)) ts ≡ map (λ (place : WrittenView). place.nodes) (map (place_of c) ts)
  places_kept [] = refl
  places_kept (t ∷ ts) = λ i. place_kept t i ∷ places_kept ts i

  abbrev Parts : Type 0
  Parts = Tree × Option Tree × Tree

  abbrev share_with : Parts → App → Share
  share_with s app = record { app = app; spread = record { timeout = time_or_zero s.1; groups = map (group_in (names_in c)) (elements s.2) } }

  abbrev entry_with : Parts → App → EntryView
  entry_with s app = record { app = app; timeout = time_or_zero s.1; places = map (place_of c) (elements s.2) }

  of_app : (s : Parts) (o : Option App) → (o >>= λ app. Some (share_with s app)) ≡ option_map kept_entry (o >>= λ app. Some (entry_with s app))
  of_app s None = refl
  of_app s (Some app) = λ i. Some (record { app = app; spread = record { timeout = time_or_zero s.1; groups = places_kept (elements s.2) i } })

  of_parts : (o : Option Parts) → (o >>= λ s. read.app_named (names_in c) s.0 >>= λ app. Some (share_with s app))
      ≡ option_map kept_entry (o >>= λ s. app_by_name c s.0 >>= λ app. Some (entry_with s app))
  unfolding app_by_name read.app_named
  of_parts None = refl
  of_parts (Some s) = of_app s (app_by_name c s.0)

  entry_kept : (t : Tree) → share_of (names_in c) t ≡ option_map kept_entry (entry_of c t)
  unfolding share_of entry_of
  entry_kept t = of_parts (as_share t)

  entries_kept : (ts : List Tree) → filter_map (share_of (names_in c)) ts ≡ map kept_entry (filter_map (entry_of c) ts)
  entries_kept [] = refl
  entries_kept (t ∷ ts) =
      (λ i. cons_option (entry_kept t i) (entries_kept ts i)) ∙ cons_option-map kept_entry (entry_of c t) (filter_map (entry_of c) ts)

  value_kept : (o : Option Tree) → filter_map (share_of (names_in c)) (unwrap_or (option_map elements o) []) ≡ map kept_entry (own_in c o).entries
  value_kept None = refl
  value_kept (Some v) = entries_kept (elements v)

pub entries_are_kept : EntriesAreKept
unfolding shares_in elements_under
entries_are_kept c config = value_kept c (distributed_in config)

-- ---- waits

of_time : (n : ℕ) (b : Bool) (w : SyncWait) → option_map kept.After (cond b (Some n) None) ≡ Some w → cond (n == 0) Refused (After n) ≡ meaning_of w
of_time n true w h = ap meant h
  where
    meant : Option SyncWait → Wait
    meant (Some v) = meaning_of v
    meant None = Refused
of_time n false w h = cc

pub waits_are_meant : WaitsAreMeant
unfolding wait_of as_sync_wait as_atom as_time as_int
waits_are_meant (atom s) w h = by_undefined (bytes_eq s (codes "undefined")) refl h
  where
    meant : Option SyncWait → Wait
    meant (Some v) = meaning_of v
    meant None = Refused

    by_infinity : (b : Bool) → cond b (Some kept.Forever) None ≡ Some w → cond b Forever Refused ≡ meaning_of w
    by_infinity true k = ap meant k
    by_infinity false k = cc

    by_undefined : (b : Bool) → bytes_eq s (codes "undefined") ≡ b
        → cond b (Some kept.Unset) (cond (bytes_eq s (codes "infinity")) (Some kept.Forever) None) ≡ Some w → wait_word s ≡ meaning_of w
    by_undefined true is k = ap wait_word ((bytes_eq-Decides s (codes "undefined")).0 is) ∙ ap meant k
    by_undefined false is k = by_infinity (bytes_eq s (codes "infinity")) k
waits_are_meant (int (pos n)) w h = of_time n (nat_le n timeout_limit) w h
waits_are_meant (int (negsuc n)) w h = cc
waits_are_meant (text s) w h = cc
waits_are_meant (list ts) w h = cc
waits_are_meant (tuple ts) w h = cc
