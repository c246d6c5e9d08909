-- What is told at the end of settling: of each pair that was marked and waits, in the order of marks.
use Rattle.std.proofs.Common.{◌≡◌, ◌<◌, ◌++◌, Bool, true, false, cond, not, List, [], ◌∷◌, map, fold, refl, sym, ap, ◌∙◌, append_assoc, append-nil}
use Rattle.std.specs.List.{filter, flat_map}
use Rattle.std.specs.Prelude.{All}
use Rattle.std.proofs.lemmas.List.{map-append}
use Rattle.std.proofs.lemmas.List.Elements.{All-head, All-tail, filter-append}
use Rattle.rh_model.specs.ClusterView.{ClusterView, node_count, boot_of}
use Rattle.rh_model.specs.declared.node.App.{App}
use Rattle.rh_model.specs.declared.node.Node.{Node}
use Rattle.rh_model.specs.declared.settings.Restart.{Restart}
use Rattle.rh_state.specs.StateView.{StateView, waits_at}
use Rattle.rh_rules.specs.declared.notice.Notice.{Notice}
use Rattle.rh_rules.specs.declared.notice.Notice.TheVariants as notice
use Rattle.rh_rules.specs.declared.notice.Pair.{Pair}
use Rattle.rh_rules.specs.Course.{Course, told}
use Rattle.rh_rules.specs.Marking.{pair}
use Rattle.rh_rules.specs.Settling.{tell_waiting}
use Rattle.rh_start_laws.specs.Starts.{starts_at, waits_told_at}
use Rattle.rh_start_laws.proofs.Marks.{apps_in}
use Rattle.rh_start_laws.proofs.Rising.{pairs_at}

waits_word : Pair → Notice
waits_word p = notice.Waits p.app p.node

-- what is told of some pairs
pub waits_of : StateView → List Pair → List Notice
waits_of s ps = map waits_word (filter (λ (p : Pair). waits_at s p.node p.app) ps)

pub tells : (ps : List Pair) (o : Course) → (fold tell_waiting o ps).notices ≡ o.notices ++ waits_of o.state ps
unfolding waits_of waits_word
tells [] o = sym (append-nil o.notices)
tells (p ∷ ps) o = by (waits_at o.state p.node p.app) (tells ps)
  where
    by : (b : Bool) → ((q : Course) → (fold tell_waiting q ps).notices ≡ q.notices ++ waits_of q.state ps)
        → (fold tell_waiting (cond b (told o (notice.Waits p.app p.node)) o) ps).notices
        ≡ o.notices ++ map waits_word (cond b (p ∷ filter (λ (q : Pair). waits_at o.state q.node q.app) ps)
        (filter (λ (q : Pair). waits_at o.state q.node q.app) ps))
    by true rest = rest (told o (notice.Waits p.app p.node)) ∙ append_assoc o.notices (notice.Waits p.app p.node ∷ []) (waits_of o.state ps)
    by false rest = rest o

module _ (s : StateView) (c : ClusterView) (at : App → Node) where
  -- those of a boot list wait there that don't start there
  abbrev pub WaitOn : Node → Type 0
  WaitOn m = All (λ (r : App × Restart). waits_at s m r.0 ≡ not (starts_at c at m r.0)) (boot_of c m)

  rows_told : (m : Node) (rows : List (App × Restart)) → All (λ (r : App × Restart). waits_at s m r.0 ≡ not (starts_at c at m r.0)) rows
      → waits_of s (map (pair m) (apps_in rows))
      ≡ map (λ (r : App × Restart). notice.Waits r.0 m) (filter (λ (r : App × Restart). not (starts_at c at m r.0)) rows)
  unfolding waits_of waits_word
  rows_told m [] all = refl
  rows_told m (r ∷ rows) all =
      ap (λ (b : Bool). map waits_word (cond b (pair m r.0 ∷ pairs) pairs))
      (All-head (λ (x : App × Restart). waits_at s m x.0 ≡ not (starts_at c at m x.0)) r rows all)
      ∙ by (not (starts_at c at m r.0))
      (rows_told m rows (All-tail (λ (x : App × Restart). waits_at s m x.0 ≡ not (starts_at c at m x.0)) r rows all))
    where
      pairs : List Pair
      pairs = filter (λ (p : Pair). waits_at s p.node p.app) (map (pair m) (apps_in rows))

      others : List (App × Restart)
      others = filter (λ (x : App × Restart). not (starts_at c at m x.0)) rows

      by : (b : Bool) → map waits_word pairs ≡ map (λ (x : App × Restart). notice.Waits x.0 m) others
          → map waits_word (cond b (pair m r.0 ∷ pairs) pairs) ≡ map (λ (x : App × Restart). notice.Waits x.0 m)
          (cond b (r ∷ others) others)
      by true rest = ap (λ (ns : List Notice). notice.Waits r.0 m ∷ ns) rest
      by false rest = rest

  pub nodes_told : (ms : List Node) → All (λ (m : Node). m.0 < node_count c) ms → ((m : Node) → m.0 < node_count c → WaitOn m)
      → waits_of s (flat_map (pairs_at c) ms) ≡ flat_map (waits_told_at c at) ms
  unfolding waits_of waits_word
  nodes_told [] all wait = refl
  nodes_told (m ∷ ms) all wait =
      ap (map waits_word) (filter-append (λ (p : Pair). waits_at s p.node p.app) (pairs_at c m) (flat_map (pairs_at c) ms))
      ∙ map-append waits_word (filter (λ (p : Pair). waits_at s p.node p.app) (pairs_at c m))
      (filter (λ (p : Pair). waits_at s p.node p.app) (flat_map (pairs_at c) ms))
      ∙ ap (λ (ns : List Notice). ns ++ waits_of s (flat_map (pairs_at c) ms))
      (rows_told m (boot_of c m) (wait m (All-head (λ (k : Node). k.0 < node_count c) m ms all)))
      ∙ ap (λ (ns : List Notice). waits_told_at c at m ++ ns) (nodes_told ms (All-tail (λ (k : Node). k.0 < node_count c) m ms all) wait)
