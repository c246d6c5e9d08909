-- The state before any event.
use Rattle.std.proofs.Common.{◌≡◌, ◌<◌, ◌≤◌, ◌+◌, ◌*◌, ℕ, List, [], ◌∷◌, ◌++◌, length, map, replicate, All, None, refl, ap, sym, ◌∙◌, arith}
use Rattle.std.specs.List.{range_with_len, flat_map}
use Rattle.std.proofs.lemmas.List.{get_or-replicate, length-map, length-replicate, map_push, flat_map_more, same_lists}
use Rattle.std.proofs.lemmas.List.Elements.{All-map, All-nil, All-replicate}
use Rattle.std.proofs.lemmas.List.FromFn.{length-range_with_len, map-range_with_len_more}
use Rattle.rh_model.specs.ClusterView.{ClusterView, node_count, app_count, numbered}
use Rattle.rh_model.specs.declared.node.App.{App}
use Rattle.rh_model.specs.declared.node.Node.{Node}
use Rattle.rh_arena.specs.Words.{Words, entry_count, list_count}
use Rattle.rh_arena.specs.Lists.{listed}
use Rattle.rh_arena.specs.WellFormed.{IsWellFormed}
use Rattle.rh_wheel.specs.Formed.{IsFormed as IsFormedWheel}
use Rattle.rh_wheel.specs.Stored.{timer_count}
use Rattle.rh_wheel.proofs.Slots.{listed-empty}
use Rattle.rh_arena.proofs.Unlinked.{unlinked_formed, unlinked_listed}
use Rattle.rh_state.specs.declared.status.Kind.{Kind}
use Rattle.rh_state.specs.First.{first, first_words, configured}
use Rattle.rh_state.specs.Limits.{incarnation_limit}
use Rattle.rh_state.specs.Numbers.{nodes_of, apps_of}
use Rattle.rh_state.specs.Shape.{IsShaped, IsAppOf, IsKindOf, IsStandingOf}
use Rattle.rh_state.specs.Pairs.{IsPairOfNode, app_of_pair, running_list, waiting_list, apps_in, running_in, waiting_in}
use Rattle.rh_state.specs.Stored.{read, timers_of}
use Rattle.rh_state.specs.Formed.{AreOfPairs, IsFormed}
use Rattle.rh_state.proofs.Listings.{length-by_node, get_or-by_node}
use Rattle.rh_state.proofs.Links.{by_node}

-- one number more
pub map_numbered_more : {X Y : Type 0} (f : X → Y) (g : ℕ → X) (n : ℕ) → map f (map g (range_with_len 0 (n + 1)))
    ≡ map f (map g (range_with_len 0 n)) ++ f (g n) ∷ []
map_numbered_more f g n = rw (map-range_with_len_more g 0 n n (omega arith)) (map_push f _ _)

pub flat_map_numbered_more : {X Y : Type 0} (f : X → List Y) (g : ℕ → X) (n : ℕ) → flat_map f (map g (range_with_len 0 (n + 1)))
    ≡ flat_map f (map g (range_with_len 0 n)) ++ f (g n)
flat_map_numbered_more f g n = rw (map-range_with_len_more g 0 n n (omega arith)) (sym (flat_map_more f [] (map g (range_with_len 0 n)) (g n)))

pub length-configured : (c : ClusterView) (n : Node) → length (configured c n) ≡ app_count c
unfolding configured apps_of
length-configured c n = simp length-map (length-range_with_len 0 (app_count c))

pub IsShaped-first : (c : ClusterView) → IsShaped (first c)
unfolding nodes_of
IsShaped-first c = record {
  time = omega arith;
  modes = length-replicate _ _;
  incarnations = length-replicate _ _;
  limited = All-replicate (λ n. n ≤ incarnation_limit) (node_count c) 0 (omega arith);
  running = length-replicate _ _;
  waiting = length-replicate _ _;
  running_apps = All-replicate (λ (apps : List App). All (IsAppOf c) apps) (node_count c) [] (λ k d l. absurd (omega arith));
  waiting_apps = All-replicate (λ (apps : List App). All (IsAppOf c) apps) (node_count c) [] (λ k d l. absurd (omega arith));
  restarts = length-replicate _ _;
  restart_rows = All-replicate (λ cells. length cells ≡ app_count c) _ _ (length-replicate _ _);
  kinds = length-replicate _ _;
  kind_rows = All-replicate (λ cells. length cells ≡ app_count c) _ _ (length-replicate _ _);
  kind_nodes = All-replicate (λ (cells : List Kind). All (IsKindOf c) cells) _ _ (All-replicate (IsKindOf c) _ _ tt);
  allowed = simp length-map (length-range_with_len 0 (node_count c));
  allowed_rows = All-map (λ cells. length cells ≡ app_count c) (configured c) (nodes_of c) (λ k d l. length-configured c _);
  standings = length-replicate _ _;
  standing_nodes = All-replicate (IsStandingOf c) _ _ tt;
}

-- words whose lists are empty
AreOfPairs-empty : (c : ClusterView) (w : Words) → IsWellFormed w → entry_count w ≡ node_count c * app_count c → list_count w ≡ 2 * node_count c
    → ((l : ℕ) → listed w l ≡ []) → AreOfPairs c w
AreOfPairs-empty c w formed entries lists empty = record {
  formed = formed;
  entries = entries;
  lists = lists;
  running = λ n node. rw (empty (running_list n)) (All-nil (IsPairOfNode c n));
  waiting = λ n node. rw (empty (waiting_list c n)) (All-nil (IsPairOfNode c n));
}

by_node-empty : (c : ClusterView) (w : Words) (list : Node → ℕ) → ((l : ℕ) → listed w l ≡ []) → by_node c w list ≡ replicate (node_count c) []
by_node-empty c w list empty =
    let f : Node → List App = λ n. apps_in c w n (list n) in
    same_lists _ _ (length-by_node f c ∙ sym (length-replicate (node_count c) [])) (λ k d within.
    let below : k < node_count c = omega (arith, within, length-by_node f c) in
    get_or-by_node f c k d below ∙ ap (map (app_of_pair c (numbered k))) (empty (list (numbered k)))
    ∙ sym (get_or-replicate (node_count c) k [] d below))

pub running-empty : (c : ClusterView) (w : Words) → ((l : ℕ) → listed w l ≡ []) → running_in c w ≡ replicate (node_count c) []
unfolding running_in
running-empty c w empty = by_node-empty c w running_list empty

pub waiting-empty : (c : ClusterView) (w : Words) → ((l : ℕ) → listed w l ≡ []) → waiting_in c w ≡ replicate (node_count c) []
unfolding waiting_in
waiting-empty c w empty = by_node-empty c w (waiting_list c) empty

pub IsFormed-first : (c : ClusterView) → IsFormedWheel (first_words c).wheel → IsFormed (first_words c)
unfolding nodes_of timer_count
IsFormed-first c wheel =
    let links : Words = (first_words c).links in
    let entries : entry_count links ≡ node_count c * app_count c = length-replicate (node_count c * app_count c) None in
    let lists : list_count links ≡ 2 * node_count c = length-replicate (2 * node_count c) None in
    record {
      time = omega arith;
      modes = length-replicate _ _;
      incarnations = length-replicate _ _;
      limited = All-replicate (λ n. n ≤ incarnation_limit) (node_count c) 0 (omega arith);
      links = AreOfPairs-empty c links (unlinked_formed _ _) entries lists (unlinked_listed _ _);
      restarts = length-replicate _ _;
      restart_rows = All-replicate (λ cells. length cells ≡ app_count c) _ _ (length-replicate _ _);
      kinds = length-replicate _ _;
      kind_rows = All-replicate (λ cells. length cells ≡ app_count c) _ _ (length-replicate _ _);
      kind_nodes = All-replicate (λ (cells : List Kind). All (IsKindOf c) cells) _ _ (All-replicate (IsKindOf c) _ _ tt);
      allowed = simp length-map (length-range_with_len 0 (node_count c));
      allowed_rows = All-map (λ cells. length cells ≡ app_count c) (configured c) (nodes_of c) (λ k d l. length-configured c _);
      standings = length-replicate _ _;
      standing_nodes = All-replicate (IsStandingOf c) _ _ tt;
      wheel = wheel;
      timers = length-replicate _ _;
    }

-- what the first state keeps is read as the first state
pub read_first : (c : ClusterView) → read (first_words c) ≡ first c
unfolding read timers_of
read_first c =
    let empty : (l : ℕ) → listed (first_words c).links l ≡ [] = unlinked_listed (node_count c * app_count c) (2 * node_count c) in
    let armed : (k : ℕ) → listed (first_words c).wheel.links k ≡ [] = unlinked_listed (node_count c + app_count c) 64 in
    rw (
      running-empty c (first_words c).links empty,
      waiting-empty c (first_words c).links empty,
      listed-empty (first_words c).wheel armed,
    ) refl
