-- The lists of a node, among those of all nodes.
use Rattle.std.proofs.Common.{◌≡◌, ◌≢◌, ◌<◌, ◌≤◌, ◌-◌, ◌⊎◌, ℕ, Option, Some, None, List, [], ◌∷◌, ◌++◌, length, map, All, refl, ap, sym, ◌∙◌, inl, inr, arith}
use Rattle.std.proofs.Math.ListN.{set}
use Rattle.std.specs.List.{Contains}
use Rattle.std.proofs.lemmas.Bool.{cases_eq, cases_lt}
use Rattle.std.proofs.lemmas.List.{get_or_past, map_push}
use Rattle.std.proofs.lemmas.List.Elements.{All-contains, All-filter, All-push, All-same}
use Rattle.std.proofs.lemmas.Option.{same_Some}
use Rattle.rh_model.specs.ClusterView.{ClusterView, node_count, numbered}
use Rattle.rh_model.specs.declared.node.Node.{Node}
use Rattle.rh_model.specs.declared.node.App.{App}
use Rattle.rh_arena.specs.Words.{Words, entry_count, list_count, owner_of}
use Rattle.rh_arena.specs.Lists.{listed, without}
use Rattle.rh_arena.specs.WellFormed.{IsWellFormed}
use Rattle.rh_state.specs.Lists.{has_app, without_app}
use Rattle.rh_state.specs.Numbers.{nodes_of}
use Rattle.rh_state.specs.Shape.{IsNodeOf, IsAppOf}
use Rattle.rh_state.specs.Tables.{row}
use Rattle.rh_state.specs.Pairs.{pair_number, IsPairOfNode, app_of_pair, running_list, waiting_list, apps_in, running_in, waiting_in}
use Rattle.rh_state.specs.Formed.{AreOfPairs}
use Rattle.rh_state.proofs.Pairs.{IsPairOfNode-number, app_of_number, one_node}
use Rattle.rh_state.proofs.PairLists.{without_pair, without_absent, has_by_owner, is_in}
use Rattle.rh_state.proofs.Listings.{row-by_node, same-by_node, set-by_node}

-- a list of a node
abbrev pub IsListOf : ClusterView → Node → ℕ → Type 0
IsListOf c n l = (l ≡ running_list n) ⊎ (l ≡ waiting_list c n)

-- it has pairs of the node
pub AreOfPairs-list : (c : ClusterView) (w : Words) (n : Node) (l : ℕ) → AreOfPairs c w → IsNodeOf c n → IsListOf c n l → All (IsPairOfNode c n) (listed w l)
AreOfPairs-list c w n l are node (inl e) = rw e (are.running n node)
AreOfPairs-list c w n l are node (inr e) = rw e (are.waiting n node)

-- and is that of no other
list_of_one : (c : ClusterView) (n m : Node) (l : ℕ) → IsNodeOf c n → IsNodeOf c m → IsListOf c n l → IsListOf c m l → n.0 ≡ m.0
list_of_one c n m l p q (inl d) (inl e) = omega (arith, d, e)
list_of_one c n m l p q (inl d) (inr e) = absurd (omega (arith, d, e))
list_of_one c n m l p q (inr d) (inl e) = absurd (omega (arith, d, e))
list_of_one c n m l p q (inr d) (inr e) = omega (arith, d, e)

-- what runs at a node, and what waits there
pub running_listed : (c : ClusterView) (w : Words) (n : Node) → IsNodeOf c n → row (running_in c w) n.0 ≡ apps_in c w n (running_list n)
unfolding running_in
running_listed c w n node = row-by_node (λ m. apps_in c w m (running_list m)) c n node

pub waiting_listed : (c : ClusterView) (w : Words) (n : Node) → IsNodeOf c n → row (waiting_in c w) n.0 ≡ apps_in c w n (waiting_list c n)
unfolding waiting_in
waiting_listed c w n node = row-by_node (λ m. apps_in c w m (waiting_list c m)) c n node

listed_past : (w : Words) (l : ℕ) → IsWellFormed w → list_count w ≤ l → listed w l ≡ []
unfolding listed
listed_past w l formed past = let none = get_or_past w.count l 0 (omega (arith, past, formed.count)) in rw none refl

within_lists : (w : Words) (l p : ℕ) → IsWellFormed w → Contains (listed w l) p → l < list_count w
within_lists w l p formed member = elim (cases_lt l (list_count w)) [
  | inl e ↦ e
  | inr e ↦ (let empty = ap length (listed_past w l formed e) in absurd (omega (arith, empty, member.1)))
]

-- a pair stands in no list but those of its node
pub list_of_pair : (c : ClusterView) (w : Words) (n : Node) (a : App) (l : ℕ) → AreOfPairs c w → IsAppOf c a → owner_of w (pair_number c n a) ≡ Some l
    → IsListOf c n l
list_of_pair c w n a l are app owner =
    let p = pair_number c n a in
    let own = IsPairOfNode-number c n a app in
    let member : Contains (listed w l) p = (are.formed.owners p l).0 owner in
    let within = within_lists w l p are.formed member in
    elim (cases_lt l (node_count c)) [
      | inl e ↦ inl (sym (one_node c n (numbered l) p own (All-contains (IsPairOfNode c (numbered l)) (listed w l) p (are.running (numbered l) e) member)))
      | inr e ↦ (
          let m = numbered (l - node_count c) in
          let node : IsNodeOf c m = omega (arith, within, e, are.lists) in
          let is : l ≡ waiting_list c m = omega (arith, e) in
          let same = one_node c n m p own (All-contains (IsPairOfNode c m) (listed w l) p (AreOfPairs-list c w m l are node (inr is)) member) in
          inr (omega (arith, is, same)))
    ]

-- an application is in the list that its pair's word of the owner says
pub runs_by_owner : (c : ClusterView) (w : Words) (n : Node) (a : App) → AreOfPairs c w → IsNodeOf c n
    → has_app (row (running_in c w) n.0) a ≡ is_in (owner_of w (pair_number c n a)) (running_list n)
runs_by_owner c w n a are node =
    ap (λ (apps : List App). has_app apps a) (running_listed c w n node) ∙ has_by_owner c w n a (running_list n) are.formed (are.running n node)

pub waits_by_owner : (c : ClusterView) (w : Words) (n : Node) (a : App) → AreOfPairs c w → IsNodeOf c n
    → has_app (row (waiting_in c w) n.0) a ≡ is_in (owner_of w (pair_number c n a)) (waiting_list c n)
waits_by_owner c w n a are node =
    ap (λ (apps : List App). has_app apps a) (waiting_listed c w n node) ∙ has_by_owner c w n a (waiting_list c n) are.formed (are.waiting n node)

-- lists of applications, one for each node
abbrev pub by_node : ClusterView → Words → (Node → ℕ) → List (List App)
by_node c w list = map (λ n. apps_in c w n (list n)) (nodes_of c)

pub kept_by_node : (c : ClusterView) (v w : Words) (list : Node → ℕ) → ((m : Node) → IsNodeOf c m → listed w (list m) ≡ listed v (list m))
    → by_node c w list ≡ by_node c v list
kept_by_node c v w list kept = same-by_node _ _ c (λ m within. ap (map (app_of_pair c m)) (kept m within))

-- a pair more at the end of one
pub pushed_by_node : (c : ClusterView) (v w : Words) (list : Node → ℕ) (n : Node) (a : App) → IsNodeOf c n
    → listed w (list n) ≡ listed v (list n) ++ pair_number c n a ∷ []
    → ((m : Node) → IsNodeOf c m → m.0 ≢ n.0 → listed w (list m) ≡ listed v (list m))
    → by_node c w list ≡ set (by_node c v list) n.0 (row (by_node c v list) n.0 ++ a ∷ [])
pushed_by_node c v w list n a node pushed kept =
    let f : Node → List App = λ m. apps_in c v m (list m) in
    let g : Node → List App = λ m. apps_in c w m (list m) in
    let more : g n ≡ row (map f (nodes_of c)) n.0 ++ a ∷ [] =
    ap (map (app_of_pair c n)) pushed
    ∙ map_push (app_of_pair c n) (listed v (list n)) (pair_number c n a)
    ∙ ap (λ (b : App). f n ++ b ∷ []) (app_of_number c n a)
    ∙ ap (λ (apps : List App). apps ++ a ∷ []) (sym (row-by_node f c n node)) in
    set-by_node f g c n (λ m within other. ap (map (app_of_pair c m)) (kept m within other))
    ∙ ap (set (map f (nodes_of c)) n.0) more

-- a pair taken out of one, if it is there
pub removed_by_node : (c : ClusterView) (v w : Words) (list : Node → ℕ) (n : Node) (a : App) → IsNodeOf c n
    → All (IsPairOfNode c n) (listed v (list n))
    → listed w (list n) ≡ without (pair_number c n a) (listed v (list n))
    → ((m : Node) → IsNodeOf c m → m.0 ≢ n.0 → listed w (list m) ≡ listed v (list m))
    → by_node c w list ≡ set (by_node c v list) n.0 (without_app (row (by_node c v list) n.0) a)
removed_by_node c v w list n a node own removed kept =
    let f : Node → List App = λ m. apps_in c v m (list m) in
    let g : Node → List App = λ m. apps_in c w m (list m) in
    let less : g n ≡ without_app (row (map f (nodes_of c)) n.0) a =
    ap (map (app_of_pair c n)) removed
    ∙ sym (without_pair c n a (listed v (list n)) own)
    ∙ ap (λ (apps : List App). without_app apps a) (sym (row-by_node f c n node)) in
    set-by_node f g c n (λ m within other. ap (map (app_of_pair c m)) (kept m within other))
    ∙ ap (set (map f (nodes_of c)) n.0) less

-- the words after a pair was put at the end of a list of its node
pub record IsPushed (v w : Words) (l p : ℕ) : Type 0 where
  pub formed : IsWellFormed w
  pub list : listed w l ≡ listed v l ++ p ∷ []
  pub others : (k : ℕ) → k ≢ l → listed w k ≡ listed v k
  pub entries : entry_count w ≡ entry_count v
  pub lists : list_count w ≡ list_count v

each_is : (c : ClusterView) (v w : Words) → AreOfPairs c v → IsWellFormed w → entry_count w ≡ entry_count v → list_count w ≡ list_count v
    → ((n : Node) (l : ℕ) → IsNodeOf c n → IsListOf c n l → All (IsPairOfNode c n) (listed w l)) → AreOfPairs c w
each_is c v w are formed entries lists each = record {
  formed = formed;
  entries = entries ∙ are.entries;
  lists = lists ∙ are.lists;
  running = λ n node. each n (running_list n) node (inl refl);
  waiting = λ n node. each n (waiting_list c n) node (inr refl);
}

pub AreOfPairs-pushed : (c : ClusterView) (v w : Words) (n : Node) (a : App) (l : ℕ) → AreOfPairs c v → IsNodeOf c n → IsAppOf c a → IsListOf c n l
    → IsPushed v w l (pair_number c n a) → AreOfPairs c w
AreOfPairs-pushed c v w n a l are node app own pushed =
    each_is c v w are pushed.formed pushed.entries pushed.lists (λ m k within owns.
    let before = AreOfPairs-list c v m k are within owns in
    elim (cases_eq k l) [
      | inl e ↦ (
          let same : n.0 ≡ m.0 = list_of_one c n m l node within own (rw (← e) owns) in
          let number : IsPairOfNode c m (pair_number c n a) = rw (← ap numbered same) (IsPairOfNode-number c n a app) in
          let more : listed w k ≡ listed v k ++ pair_number c n a ∷ [] = rw e pushed.list in
          All-same (IsPairOfNode c m) _ _ more (All-push (IsPairOfNode c m) (listed v k) (pair_number c n a) before number))
      | inr e ↦ All-same (IsPairOfNode c m) _ _ (pushed.others k e) before
    ])

pub running-pushed : (c : ClusterView) (v w : Words) (n : Node) (a : App) → IsNodeOf c n → IsPushed v w (running_list n) (pair_number c n a)
    → running_in c w ≡ set (running_in c v) n.0 (row (running_in c v) n.0 ++ a ∷ [])
unfolding running_in
running-pushed c v w n a node pushed = pushed_by_node c v w running_list n a node pushed.list (λ m within other. pushed.others (running_list m) other)

pub waiting-pushed : (c : ClusterView) (v w : Words) (n : Node) (a : App) → IsNodeOf c n → IsPushed v w (waiting_list c n) (pair_number c n a)
    → waiting_in c w ≡ set (waiting_in c v) n.0 (row (waiting_in c v) n.0 ++ a ∷ [])
unfolding waiting_in
waiting-pushed c v w n a node pushed =
    pushed_by_node c v w (waiting_list c) n a node pushed.list (λ m within other. pushed.others (waiting_list c m) (λ e. other (omega (arith, e))))

-- the other lists are kept
pub running-kept : (c : ClusterView) (v w : Words) (n : Node) (p : ℕ) → IsPushed v w (waiting_list c n) p → running_in c w ≡ running_in c v
unfolding running_in
running-kept c v w n p pushed = kept_by_node c v w running_list (λ m within. pushed.others (running_list m) (λ e. omega (arith, e, within)))

pub waiting-kept : (c : ClusterView) (v w : Words) (n : Node) (p : ℕ) → IsNodeOf c n → IsPushed v w (running_list n) p → waiting_in c w ≡ waiting_in c v
unfolding waiting_in
waiting-kept c v w n p node pushed = kept_by_node c v w (waiting_list c) (λ m within. pushed.others (waiting_list c m) (λ e. omega (arith, e, node)))

-- the words after a pair was taken out of its list
pub record IsRemoved (v w : Words) (p : ℕ) : Type 0 where
  pub formed : IsWellFormed w
  pub each : (l : ℕ) → listed w l ≡ without p (listed v l)
  pub entries : entry_count w ≡ entry_count v
  pub lists : list_count w ≡ list_count v

-- the lists without the pair are as they were
pub without_each : (v w : Words) (p : ℕ) → IsWellFormed v → ((l : ℕ) → owner_of v p ≡ Some l → listed w l ≡ without p (listed v l))
    → ((l : ℕ) → owner_of v p ≢ Some l → listed w l ≡ listed v l) → (l : ℕ) → listed w l ≡ without p (listed v l)
without_each v w p formed list others l = by (owner_of v p) refl
  where
    absent : owner_of v p ≢ Some l → without p (listed v l) ≡ listed v l
    absent other = without_absent p (listed v l) (λ member. other ((formed.owners p l).1 member))

    by : (o : Option ℕ) → owner_of v p ≡ o → listed w l ≡ without p (listed v l)
    by None owner = (let other : owner_of v p ≢ Some l = λ e. (let f = sym owner ∙ e in absurd (cc)) in others l other ∙ sym (absent other))
    by (Some k) owner = elim (cases_eq k l) [
      | inl e ↦ list l (owner ∙ ap Some e)
      | inr e ↦ (let other : owner_of v p ≢ Some l = λ f. e (same_Some k l (sym owner ∙ f)) in others l other ∙ sym (absent other))
    ]

pub AreOfPairs-removed : (c : ClusterView) (v w : Words) (p : ℕ) → AreOfPairs c v → IsRemoved v w p → AreOfPairs c w
AreOfPairs-removed c v w p are removed =
    each_is c v w are removed.formed removed.entries removed.lists (λ m k within owns.
    All-same (IsPairOfNode c m) _ _ (removed.each k) (All-filter _ (IsPairOfNode c m) (listed v k) (AreOfPairs-list c v m k are within owns)))

-- the lists of another node are as they were
elsewhere : (c : ClusterView) (v w : Words) (n m : Node) (a : App) (l : ℕ) → AreOfPairs c v → IsNodeOf c m → IsAppOf c a → IsListOf c m l → m.0 ≢ n.0
    → IsRemoved v w (pair_number c n a) → listed w l ≡ listed v l
elsewhere c v w n m a l are node app own other removed =
    let p = pair_number c n a in
    removed.each l ∙ without_absent p (listed v l) (λ member.
    other (one_node c m n p (All-contains (IsPairOfNode c m) (listed v l) p (AreOfPairs-list c v m l are node own) member) (IsPairOfNode-number c n a app)))

pub running-removed : (c : ClusterView) (v w : Words) (n : Node) (a : App) → AreOfPairs c v → IsNodeOf c n → IsAppOf c a
    → IsRemoved v w (pair_number c n a) → running_in c w ≡ set (running_in c v) n.0 (without_app (row (running_in c v) n.0) a)
unfolding running_in
running-removed c v w n a are node app removed =
    removed_by_node c v w running_list n a node (are.running n node) (removed.each (running_list n))
    (λ m within other. elsewhere c v w n m a (running_list m) are within app (inl refl) other removed)

pub waiting-removed : (c : ClusterView) (v w : Words) (n : Node) (a : App) → AreOfPairs c v → IsNodeOf c n → IsAppOf c a
    → IsRemoved v w (pair_number c n a) → waiting_in c w ≡ set (waiting_in c v) n.0 (without_app (row (waiting_in c v) n.0) a)
unfolding waiting_in
waiting-removed c v w n a are node app removed =
    removed_by_node c v w (waiting_list c) n a node (are.waiting n node) (removed.each (waiting_list c n))
    (λ m within other. elsewhere c v w n m a (waiting_list c m) are within app (inr refl) other removed)
