-- Two states of one cluster are alike exactly if their keys are equal.
use Rattle.std.proofs.Common.{◌≡◌, ◌<◌, ◌++◌, ℕ, List, [], length, slice_get, unwrap_or, map, flat_map, All, sym, ap, ◌∙◌, subst, append_assoc, arith}
use Rattle.std.proofs.lemmas.List.{ext_get_or}
use Rattle.std.proofs.lemmas.Option.{unwrap_or-slice_get}
use Rattle.rh_model.specs.ClusterView.{ClusterView, node_count, app_count, numbered, app_numbered}
use Rattle.rh_model.specs.declared.node.Node.{Node}
use Rattle.rh_model.specs.declared.node.App.{App}
use Rattle.rh_model.specs.declared.settings.Restart.TheVariants.{Temporary}
use Rattle.rh_state.specs.declared.status.Mode.TheVariants.{Down}
use Rattle.rh_state.specs.declared.status.Standing.TheVariants.{Quiet}
use Rattle.std.proofs.Common.{false}
use Rattle.rh_state.specs.Numbers.{nodes_of, apps_of}
use Rattle.rh_state.specs.Shape.{IsShaped}
use Rattle.rh_state.specs.StateView.{StateView, standing_of}
use Rattle.rh_state.specs.Tables.{row, cell}
use Rattle.rh_trace.proofs.Numbered.{length_nodes, length_apps, node_there, app_there}
use Rattle.rh_keys.specs.Keys.{timer_numbers, pair_numbers, node_numbers, app_numbers, key_of}
use Rattle.rh_keys.specs.Packed.{packed_pair, packed_node, packed_key}
use Rattle.rh_keys.proofs.KeyParts.{each_split, node_split, packed_node_split, app_split, timers_same, timers_seen, SameNode, SamePair}
use Rattle.rh_keys.specs.Shifts.{seen_from, timeless, Alike}

-- ---- lists and tables with equal elements
column : {A : Type 0} (d : A) (xs ys : List A) → length xs ≡ length ys
    → ((k : ℕ) → k < length xs → unwrap_or (slice_get xs k) d ≡ unwrap_or (slice_get ys k) d) → xs ≡ ys
column d xs ys long each = ext_get_or d xs ys long (λ k l. sym (unwrap_or-slice_get xs k d) ∙ each k l ∙ unwrap_or-slice_get ys k d)

row_length : {A : Type 0} (xs : List (List A)) (k m : ℕ) → k < length xs → All (λ cells. length cells ≡ m) xs → length (row xs k) ≡ m
row_length xs k m l all = ap length (unwrap_or-slice_get xs k []) ∙ all k [] l

table : {A : Type 0} (d : A) (xs ys : List (List A)) (n m : ℕ) → length xs ≡ n → length ys ≡ n
    → All (λ cells. length cells ≡ m) xs → All (λ cells. length cells ≡ m) ys
    → ((k j : ℕ) → k < n → j < m → cell xs k j d ≡ cell ys k j d) → xs ≡ ys
table d xs ys n m long_x long_y rows_x rows_y each = column [] xs ys (long_x ∙ sym long_y)
    (λ k l. let in_x = row_length xs k m l rows_x in
    let in_y = row_length ys k m (omega (arith, l, long_x, long_y)) rows_y in
    column d (row xs k) (row ys k) (in_x ∙ sym in_y) (λ j h. each k j (omega (arith, l, long_x)) (omega (arith, h, in_x))))

-- ---- what holds of all nodes, or of all applications, by number
node_of_all : (c : ClusterView) (P : Node → Type 0) → All P (nodes_of c) → (k : ℕ) → k < node_count c → P (numbered k)
node_of_all c P all k l = let long = length_nodes c in subst P (node_there c k (numbered k) l) (all k (numbered k) (omega (arith, long, l)))

app_of_all : (c : ClusterView) (P : App → Type 0) → All P (apps_of c) → (k : ℕ) → k < app_count c → P (app_numbered k)
app_of_all c P all k l = let long = length_apps c in subst P (app_there c k (app_numbered k) l) (all k (app_numbered k) (omega (arith, long, l)))

-- ---- a key, whatever numbers tell what is said of a node
abbrev key_by : StateView → (Node → List ℕ) → List ℕ
key_by s node = flat_map node (nodes_of s.cluster) ++ flat_map (app_numbers s) (apps_of s.cluster) ++ flat_map (timer_numbers s.time) s.timers

-- ---- states with equal parts
module _ (s t : StateView) (shaped_s : IsShaped s) (shaped_t : IsShaped t) (c : t.cluster ≡ s.cluster) where
  nodes_same : node_count t.cluster ≡ node_count s.cluster
  nodes_same = ap node_count c

  apps_same : app_count t.cluster ≡ app_count s.cluster
  apps_same = ap app_count c

  rows_t : {A : Type 0} (xs : List (List A)) → All (λ cells. length cells ≡ app_count t.cluster) xs → All (λ cells. length cells ≡ app_count s.cluster) xs
  rows_t xs all = λ k d l. all k d l ∙ apps_same

  same_parts : All (SameNode s t) (nodes_of s.cluster) → All (λ a. standing_of s a ≡ standing_of t a) (apps_of s.cluster)
      → map (seen_from s.time) s.timers ≡ map (seen_from t.time) t.timers → Alike s t
  same_parts nodes apps timers =
      let node = node_of_all s.cluster (SameNode s t) nodes in
      let app = app_of_all s.cluster (λ a. standing_of s a ≡ standing_of t a) apps in
      let pair = λ (k j : ℕ) (l : k < node_count s.cluster) (m : j < app_count s.cluster).
      app_of_all s.cluster (SamePair s t (numbered k)) (node k l).pairs j m in
      let long_modes = shaped_s.modes in
      let long_running = shaped_s.running in
      let long_waiting = shaped_s.waiting in
      let long_standings = shaped_s.standings in
      let modes = column Down s.modes t.modes (long_modes ∙ sym nodes_same ∙ sym shaped_t.modes) (λ k l. (node k (omega (arith, l, long_modes))).mode) in
      let running = column [] s.running t.running (long_running ∙ sym nodes_same ∙ sym shaped_t.running) (λ k l. (node k (omega (arith, l, long_running))).running) in
      let waiting = column [] s.waiting t.waiting (long_waiting ∙ sym nodes_same ∙ sym shaped_t.waiting) (λ k l. (node k (omega (arith, l, long_waiting))).waiting) in
      let restarts = table Temporary s.restarts t.restarts (node_count s.cluster) (app_count s.cluster) shaped_s.restarts (shaped_t.restarts ∙ nodes_same)
      shaped_s.restart_rows (rows_t t.restarts shaped_t.restart_rows) (λ k j l m. (pair k j l m).restart) in
      let allowed = table false s.allowed t.allowed (node_count s.cluster) (app_count s.cluster) shaped_s.allowed (shaped_t.allowed ∙ nodes_same)
      shaped_s.allowed_rows (rows_t t.allowed shaped_t.allowed_rows) (λ k j l m. (pair k j l m).permission) in
      let standings = column Quiet s.standings t.standings (long_standings ∙ sym apps_same ∙ sym shaped_t.standings) (λ k l. app k (omega (arith, l, long_standings))) in
      let cluster : s.cluster ≡ t.cluster = sym c in
      λ i. record {
        cluster = cluster i;
        time = 0;
        modes = modes i;
        incarnations = [];
        running = running i;
        waiting = waiting i;
        restarts = restarts i;
        kinds = [];
        allowed = allowed i;
        standings = standings i;
        timers = timers i;
      }

  -- whatever numbers tell what is said of a node
  apart_by : (node_s node_t : Node → List ℕ) → ((n : Node) (r q : List ℕ) → node_s n ++ r ≡ node_t n ++ q → SameNode s t n × (r ≡ q))
      → key_by s node_s ≡ key_by t node_t → Alike s t
  apart_by node_s node_t one e =
      let apps_s = flat_map (app_numbers s) (apps_of s.cluster) in
      let apps_t = flat_map (app_numbers t) (apps_of t.cluster) in
      let timers_s = flat_map (timer_numbers s.time) s.timers in
      let timers_t = flat_map (timer_numbers t.time) t.timers in
      let nodes_s = flat_map node_s (nodes_of s.cluster) in
      let nodes_t = flat_map node_t (nodes_of t.cluster) in
      let rest = sym (append_assoc nodes_s apps_s timers_s) ∙ e ∙ append_assoc nodes_t apps_t timers_t in
      let nodes = each_split node_s node_t (SameNode s t) (nodes_of s.cluster) one (apps_s ++ timers_s) (apps_t ++ timers_t)
      (rest ∙ ap (λ (d : ClusterView). flat_map node_t (nodes_of d) ++ (apps_t ++ timers_t)) c) in
      let apps = each_split (app_numbers s) (app_numbers t) (λ a. standing_of s a ≡ standing_of t a) (apps_of s.cluster) (app_split s t) timers_s timers_t
      (nodes.1 ∙ ap (λ (d : ClusterView). flat_map (app_numbers t) (apps_of d) ++ timers_t) c) in
      same_parts nodes.0 apps.0 (timers_same s.time t.time s.timers t.timers apps.1)

  pub keys_apart : key_of s ≡ key_of t → Alike s t
  unfolding key_of
  keys_apart e = apart_by (node_numbers s) (node_numbers t) (node_split s t c) e

  pub packed_apart : packed_key s ≡ packed_key t → Alike s t
  unfolding packed_key
  packed_apart e = apart_by (packed_node s) (packed_node t) (packed_node_split s t c) e

-- ---- and states that are alike have one key
key_timeless : (s : StateView) → key_of (timeless s) ≡ key_of s
unfolding key_of node_numbers pair_numbers app_numbers
key_timeless s = ap (λ (l : List ℕ). flat_map (node_numbers s) (nodes_of s.cluster) ++ flat_map (app_numbers s) (apps_of s.cluster) ++ l) (timers_seen s.time s.timers)

pub keys_alike : (s t : StateView) → Alike s t → key_of s ≡ key_of t
keys_alike s t alike = sym (key_timeless s) ∙ ap key_of alike ∙ key_timeless t

packed_timeless : (s : StateView) → packed_key (timeless s) ≡ packed_key s
unfolding packed_key packed_node packed_pair app_numbers
packed_timeless s = ap (λ (l : List ℕ). flat_map (packed_node s) (nodes_of s.cluster) ++ flat_map (app_numbers s) (apps_of s.cluster) ++ l) (timers_seen s.time s.timers)

pub packed_alike : (s t : StateView) → Alike s t → packed_key s ≡ packed_key t
packed_alike s t alike = sym (packed_timeless s) ∙ ap packed_key alike ∙ packed_timeless t
