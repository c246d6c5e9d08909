-- What follows from what holds of all that a state keeps.
use Rattle.std.proofs.Common.{◌≡◌, ◌≢◌, ◌<◌, ◌-◌, ◌*◌, ℕ, true, Option, Some, None, List}
use Rattle.std.proofs.Common.{length, map, get_or, All, AllPairs, refl, ap, sym, ◌∙◌, inl, inr, arith}
use Rattle.std.proofs.lemmas.Bool.{eqb-true, false_from_ne_true, cases_lt}
use Rattle.std.proofs.lemmas.List.{get_or-map, length-map}
use Rattle.std.proofs.lemmas.List.Elements.{All-map, All-weaker}
use Rattle.rh_model.specs.ClusterView.{ClusterView, node_count, app_count, numbered}
use Rattle.rh_model.specs.declared.node.Node.{Node}
use Rattle.rh_model.specs.declared.node.App.{App}
use Rattle.rh_arena.specs.Words.{Words, list_count, owner_of}
use Rattle.rh_arena.specs.Lists.{listed}
use Rattle.rh_state.specs.Lists.{has_app}
use Rattle.rh_state.specs.Shape.{IsNodeOf, IsAppOf, IsShaped, OnceAtEachNode}
use Rattle.rh_state.specs.Tables.{row}
use Rattle.rh_state.specs.Pairs.{pair_number, IsPairOfNode, app_of_pair, running_list, waiting_list, apps_in, running_in, waiting_in}
use Rattle.rh_state.specs.Stored.{Stored, read}
use Rattle.rh_state.specs.Formed.{AreOfPairs, IsFormed}
use Rattle.rh_state.proofs.AppLists.{AreOnce}
use Rattle.rh_state.proofs.Pairs.{IsAppOf-pair}
use Rattle.rh_state.proofs.PairLists.{is_in}
use Rattle.rh_state.proofs.Listings.{length-by_node, get_or-by_node, row-by_node, row_past}
use Rattle.rh_state.proofs.Links.{IsListOf, AreOfPairs-list, by_node, runs_by_owner, waits_by_owner}

-- the applications in a node's list
pub IsAppOf-list : (c : ClusterView) (w : Words) (n : Node) (l : ℕ) → AreOfPairs c w → IsNodeOf c n → IsListOf c n l → All (IsAppOf c) (apps_in c w n l)
IsAppOf-list c w n l are node own =
    All-map (IsAppOf c) (app_of_pair c n) (listed w l)
    (All-weaker (IsPairOfNode c n) (λ p. IsAppOf c (app_of_pair c n p)) (IsAppOf-pair c n) (listed w l) (AreOfPairs-list c w n l are node own))

IsAppOf-by_node : (c : ClusterView) (w : Words) (list : Node → ℕ) → AreOfPairs c w → ((n : Node) → IsListOf c n (list n))
    → All (λ (apps : List App). All (IsAppOf c) apps) (by_node c w list)
IsAppOf-by_node c w list are own k d within =
    let f : Node → List App = λ n. apps_in c w n (list n) in
    let below : k < node_count c = omega (arith, within, length-by_node f c) in
    rw (get_or-by_node f c k d below) (IsAppOf-list c w (numbered k) (list (numbered k)) are below (own (numbered k)))

-- each number is one of the cluster's, and each list and table has its size
pub IsShaped-formed : (w : Stored) → IsFormed w → IsShaped (read w)
unfolding read running_in waiting_in
IsShaped-formed w formed = record {
  time = formed.time;
  modes = formed.modes;
  incarnations = formed.incarnations;
  limited = formed.limited;
  running = length-by_node (λ n. apps_in w.cluster w.links n (running_list n)) w.cluster;
  waiting = length-by_node (λ n. apps_in w.cluster w.links n (waiting_list w.cluster n)) w.cluster;
  running_apps = IsAppOf-by_node w.cluster w.links running_list formed.links (λ n. inl refl);
  waiting_apps = IsAppOf-by_node w.cluster w.links (waiting_list w.cluster) formed.links (λ n. inr refl);
  restarts = formed.restarts;
  restart_rows = formed.restart_rows;
  kinds = formed.kinds;
  kind_rows = formed.kind_rows;
  kind_nodes = formed.kind_nodes;
  allowed = formed.allowed;
  allowed_rows = formed.allowed_rows;
  standings = formed.standings;
  standing_nodes = formed.standing_nodes;
}

-- other lists under the same tables
pub IsFormed-links : (w : Stored) (links : Words) → IsFormed w → AreOfPairs w.cluster links → IsFormed (record w { links = links })
IsFormed-links w links formed are = record {
  time = formed.time;
  modes = formed.modes;
  incarnations = formed.incarnations;
  limited = formed.limited;
  links = are;
  restarts = formed.restarts;
  restart_rows = formed.restart_rows;
  kinds = formed.kinds;
  kind_rows = formed.kind_rows;
  kind_nodes = formed.kind_nodes;
  allowed = formed.allowed;
  allowed_rows = formed.allowed_rows;
  standings = formed.standings;
  standing_nodes = formed.standing_nodes;
  wheel = formed.wheel;
  timers = formed.timers;
}

AreOnce-pairs : (c : ClusterView) (n : Node) (ps : List ℕ) → All (IsPairOfNode c n) ps → AllPairs (λ (p q : ℕ). p ≢ q) ps → AreOnce (map (app_of_pair c n) ps)
AreOnce-pairs c n ps all different i j d before within same =
    let f = app_of_pair c n in
    let size = length-map ps f in
    let later : j < length ps = omega (arith, within, size) in
    let sooner : i < length ps = omega (arith, before, later) in
    let p = all i 0 sooner in
    let q = all j 0 later in
    let first : get_or (map f ps) i d ≡ f (get_or ps i 0) = get_or-map f ps i 0 d sooner in
    let second : get_or (map f ps) j d ≡ f (get_or ps j 0) = get_or-map f ps j 0 d later in
    let e : get_or ps i 0 - n.0 * app_count c ≡ get_or ps j 0 - n.0 * app_count c = ap (λ (a : App). a.0) (sym first) ∙ same ∙ ap (λ (a : App). a.0) second in
    different i j 0 before later (omega (arith, e, p.0, q.0))

AreOnce-by_node : (c : ClusterView) (w : Words) (list : Node → ℕ) → AreOfPairs c w → ((m : Node) → IsNodeOf c m → list m < list_count w)
    → ((m : Node) → IsListOf c m (list m)) → (n : Node) → AreOnce (row (by_node c w list) n.0)
AreOnce-by_node c w list are within own n =
    let f : Node → List App = λ m. apps_in c w m (list m) in
    elim (cases_lt n.0 (node_count c)) [
      | inl e ↦ rw (row-by_node f c n e)
          (AreOnce-pairs c n (listed w (list n)) (AreOfPairs-list c w n (list n) are e (own n)) (are.formed.lists (list n) (within n e)).different)
      | inr e ↦ rw (row_past f c n e) (λ i j d before last. absurd (omega (arith, last)))
    ]

-- an application that a node has
has_node : (c : ClusterView) (w : Words) (list : Node → ℕ) (n : Node) (a : App) → has_app (row (by_node c w list) n.0) a ≡ true → IsNodeOf c n
has_node c w list n a has = elim (cases_lt n.0 (node_count c)) [
  | inl e ↦ e
  | inr e ↦ (let none = ap (λ (apps : List App). has_app apps a) (sym (row_past (λ m. apps_in c w m (list m)) c n e)) ∙ has in absurd (cc))
]

one_list : (o : Option ℕ) (k l : ℕ) → k ≢ l → is_in o l ≡ true → is_in o k ≡ true → ⊥
one_list None k l apart h g = absurd (cc)
one_list (Some j) k l apart h g = apart (sym (eqb-true j k g) ∙ eqb-true j l h)

-- no application stands twice at a node
pub OnceAtEachNode-formed : (w : Stored) → IsFormed w → OnceAtEachNode (read w)
unfolding read running_in waiting_in
OnceAtEachNode-formed w formed =
    let c = w.cluster in
    let are = formed.links in
    record {
      running = AreOnce-by_node c w.links running_list are (λ m within. omega (arith, within, are.lists)) (λ m. inl refl);
      waiting = AreOnce-by_node c w.links (waiting_list c) are (λ m within. omega (arith, within, are.lists)) (λ m. inr refl);
      apart = λ n a waits. (
          let node = has_node c w.links (waiting_list c) n a waits in
          let word = owner_of w.links (pair_number c n a) in
          let wait : is_in word (waiting_list c n) ≡ true = sym (waits_by_owner c w.links n a are node) ∙ waits in
          runs_by_owner c w.links n a are node
          ∙ false_from_ne_true _ (one_list word (running_list n) (waiting_list c n) (λ e. omega (arith, e, node)) wait));
    }
