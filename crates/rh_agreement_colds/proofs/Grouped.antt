-- What is told by the manual's rules of the last boot of a cold start, node by node: each comes up, starts what starts there, in the order
-- of its boot list, and is told what waits there.
use Rattle.std.proofs.Common.{◌≡◌, ◌<◌, ◌⊎◌, ◌==◌, ◌++◌, ◌&&◌, ℕ, suc, Bool, true, false, cond, not, List, [], ◌∷◌, filter, map, length, slice_get, Option, Some, None, refl, sym, ap, subst, ◌∙◌, append_assoc, inl, inr, arith}
use Rattle.std.specs.List.{flat_map, list_any}
use Rattle.std.specs.Option.{option_map}
use Rattle.std.specs.Prelude.{All, unwrap_or, if◌then◌else◌}
use Rattle.std.specs.List.Sorted.{IsPermutation}
use Rattle.std.proofs.lemmas.Bool.{cases_Bool, and_parts, false≢true, eqb-true}
use Rattle.std.proofs.lemmas.List.{map-append}
use Rattle.std.proofs.lemmas.List.Concat.{flat_map_single}
use Rattle.std.proofs.lemmas.List.Elements.{All-filter, All-weaker, filter_passes}
use Rattle.std.proofs.lemmas.Option.{slice_get_within}
use Rattle.std.proofs.lemmas.List.Sorted.{IsPermutation-sym, IsPermutation-trans, IsPermutation-cons, IsPermutation-map, IsPermutation-append_left, IsPermutation-append_right, IsPermutation-filter_both}
use Rattle.rh_base.specs.Lists.{first_given, or_else}
use Rattle.rh_model.specs.ClusterView.{ClusterView, NodeView, IsWithin, node_count, app_count, boot_of}
use Rattle.rh_model.specs.declared.node.App.{App}
use Rattle.rh_model.specs.declared.node.Node.{Node}
use Rattle.rh_model.specs.declared.settings.Restart.{Restart}
use Rattle.rh_state.specs.Numbers.{nodes_of, apps_of}
use Rattle.rh_rules.specs.Course.{is_local}
use Rattle.rh_rules.specs.Placing.{groups_of}
use Rattle.rh_start_laws.specs.Starts.{StartsInOrder, may_start, starts_at, is_booted}
use Rattle.rh_step_laws.specs.Laws.{boots}
use Rattle.rh_otp_crashes.proofs.Crossing.{same_node}
use Rattle.rh_otp_model.specs.declared.process.StartType.TheVariants.{Normal}
use Rattle.rh_otp_sim.specs.declared.lines.Line.{Line}
use Rattle.rh_otp_sim.specs.declared.lines.Line.TheVariants as line
use Rattle.rh_agreement_colds.proofs.Counting.{node_once_too, app_once, any_node, nodes_within, found, one_at_most}
use Rattle.rh_agreement_colds.proofs.Permuted.{map_passing, zipped, each_permuted, by_places, each_same, map_flat, flat_if, filter_same, filter_filter, passing}

-- ---- lines

abbrev pub started : Node → App × Restart → Line
started m row = line.Started row.0 m Normal

abbrev pub waits : Node → App × Restart → Line
waits m row = line.Waits row.0 m

-- those of a node, where this is what starts there
abbrev pub lines_at : ClusterView → (Node → App → Bool) → Node → List Line
lines_at c starts m = line.Up m ∷ (map (started m) (filter (λ (row : App × Restart). starts m row.0) (boot_of c m))
    ++ map (waits m) (filter (λ (row : App × Restart). not (starts m row.0)) (boot_of c m)))

-- of a node: what is local starts
abbrev pub locals_at : ClusterView → Node → List Line
locals_at c m = map (started m) (filter (λ (row : App × Restart). is_local c row.0) (boot_of c m))

-- what is distributed starts at its node
abbrev pub spread_lines : ClusterView → (App → Node) → List Line
spread_lines c at = map (λ (a : App). line.Started a (at a) Normal) (filter (λ (a : App). not (is_local c a) && is_booted c a) (apps_of c))

abbrev pub waits_at : ClusterView → (App → Node) → Node → List Line
waits_at c at m = map (waits m) (filter (λ (row : App × Restart). not (starts_at c at m row.0)) (boot_of c m))

-- all, as they are told by the manual's rules
abbrev pub manual_lines : ClusterView → (App → Node) → List Line
manual_lines c at =
    map line.Up (nodes_of c) ++ flat_map (locals_at c) (nodes_of c) ++ spread_lines c at ++ flat_map (waits_at c at) (nodes_of c)

-- ---- what the files say

-- a node without a part in the file boots nothing
boots_within : (c : ClusterView) → IsWithin c → (m : Node) (a : App) → boots c m a ≡ true → m.0 < node_count c
boots_within c within m a is = subst (λ (k : ℕ). m.0 < k) within.nodes (by (slice_get c.nodes m.0) refl is)
  where
    by : (o : Option NodeView) → slice_get c.nodes m.0 ≡ o
        → list_any (λ (e : App × Restart). a.0 == e.0.0) (unwrap_or (option_map (λ (v : NodeView). v.boot) o) []) ≡ true
        → m.0 < length c.nodes
    by None at any = absurd (false≢true any)
    by (Some v) at any = slice_get_within c.nodes m.0 v at

abbrev head_or : {A : Type 0} → A → List A → A
head_or d [] = d
head_or d (x ∷ xs) = x

no_head : {A : Type 0} (x : A) (xs : List A) → [] ≡ x ∷ xs → ⊥
no_head x xs same = let long : 0 ≡ suc (length xs) = ap length same in omega (arith, long)

-- the first of those that pass passes
first_passes : (p : Node → Bool) (x : Node) (xs ys : List Node) → filter p xs ≡ x ∷ ys → p x ≡ true
first_passes p x [] ys same = absurd (no_head x ys same)
first_passes p x (y ∷ xs) ys same = by (p y) refl same (first_passes p x xs ys)
  where
    by : (b : Bool) → p y ≡ b → cond b (y ∷ filter p xs) (filter p xs) ≡ x ∷ ys → (filter p xs ≡ x ∷ ys → p x ≡ true) → p x ≡ true
    by true is one rest = ap p (sym (ap (head_or y) one)) ∙ is
    by false fails is rest = rest is

first_of_groups : (p : Node → Bool) (x : Node) (groups : List (List Node)) → first_given (filter p) groups ≡ x ∷ [] → p x ≡ true
first_of_groups p x [] same = absurd (no_head x [] same)
first_of_groups p x (group ∷ groups) same = by (filter p group) refl same (first_of_groups p x groups)
  where
    by : (some : List Node) → filter p group ≡ some → or_else some (first_given (filter p) groups) ≡ x ∷ []
        → (first_given (filter p) groups ≡ x ∷ [] → p x ≡ true) → p x ≡ true
    by [] none is rest = rest is
    by (y ∷ some) is one rest = ap p (sym (ap (head_or y) one)) ∙ first_passes p y group some is

-- a test that holds wherever two others do is the same beside the second as beside the first
beside : (l t b p : Bool) → (l ≡ true → t ≡ true → b ≡ p) → ((l && b) && t) ≡ (p && (l && t))
beside true true true true same = refl
beside true true true false same = absurd (false≢true (sym (same refl refl)))
beside true true false true same = absurd (false≢true (same refl refl))
beside true true false false same = refl
beside true false true true same = refl
beside true false true false same = refl
beside true false false true same = refl
beside true false false false same = refl
beside false t b true same = refl
beside false t b false same = refl

local_first : (local there : Bool) → ((if local then true else there) && local) ≡ local
local_first true there = refl
local_first false true = refl
local_first false false = refl

spread_then : (local there : Bool) → ((if local then true else there) && not local) ≡ (not local && there)
spread_then true there = refl
spread_then false true = refl
spread_then false false = refl

not_local : (b : Bool) → not b ≡ true → b ≡ false
not_local true is = absurd (false≢true is)
not_local false is = refl

module _ (c : ClusterView) (within : IsWithin c) (order : StartsInOrder c) where
  abbrev at : App → Node
  at = order.at

  -- it is distributed, and starts at this node
  abbrev spreads_to : Node → App → Bool
  spreads_to m a = not (is_local c a) && (at a).0 == m.0

  abbrev spreads : App → Bool
  spreads a = not (is_local c a) && is_booted c a

  -- the node of a distributed application that some node boots boots it
  boots_there : (m : Node) (a : App) → is_local c a ≡ false → boots c m a ≡ true → boots c (at a) a ≡ true
  boots_there m a spread is =
      (and_parts (boots c (at a) a) _ (first_of_groups (may_start c a) (at a) (groups_of c a) (order.first m a is spread))).0

  place_within : (a : App) → spreads a ≡ true → (at a).0 < node_count c
  place_within a is =
      let parts : (not (is_local c a) ≡ true) × (is_booted c a ≡ true) = and_parts _ _ is in
      let some : (m : Node) × (boots c m a ≡ true) = found (λ (m : Node). boots c m a) (nodes_of c) parts.1 in
      boots_within c within (at a) a (boots_there some.0 a (not_local (is_local c a) parts.0) some.1)

  module _ (m : Node) (inside : m.0 < node_count c) where
    -- where it spreads to the node, that boots it if some does
    booted_here : (a : App) → not (is_local c a) ≡ true → ((at a).0 == m.0) ≡ true → is_booted c a ≡ boots c m a
    booted_here a spread place = by (cases_Bool (boots c m a)) (cases_Bool (is_booted c a))
      where
        same : at a ≡ m
        same = same_node (at a) m (eqb-true (at a).0 m.0 place)

        by : (boots c m a ≡ true) ⊎ (boots c m a ≡ false) → (is_booted c a ≡ true) ⊎ (is_booted c a ≡ false)
            → is_booted c a ≡ boots c m a
        by (inl here) some = any_node c (λ (x : Node). boots c x a) m inside here ∙ sym here
        by (inr not_here) (inr nowhere) = nowhere ∙ sym not_here
        by (inr not_here) (inl some) =
            let one : (x : Node) × (boots c x a ≡ true) = found (λ (x : Node). boots c x a) (nodes_of c) some in
            absurd (false≢true (sym not_here ∙ ap (λ (x : Node). boots c x a) (sym same)
            ∙ boots_there one.0 a (not_local (is_local c a) spread) one.1))

    abbrev rows : List (App × Restart)
    rows = boot_of c m

    -- what spreads to the node, in the order of applications, and in the order of its boot list
    abbrev by_app : List Line
    by_app = map (λ (a : App). line.Started a m Normal) (filter (λ (a : App). boots c m a && spreads_to m a) (apps_of c))

    abbrev kept : List (App × Restart)
    kept = filter (λ (row : App × Restart). spreads_to m row.0) rows

    known : All (λ (row : App × Restart). passing (λ (a : App). a.0 == row.0.0) (apps_of c) ≡ 1) kept
    known =
        All-filter (λ (row : App × Restart). spreads_to m row.0)
        (λ (row : App × Restart). passing (λ (a : App). a.0 == row.0.0) (apps_of c) ≡ 1) rows
        (All-weaker (λ (row : App × Restart). row.0.0 < app_count c)
        (λ (row : App × Restart). passing (λ (a : App). a.0 == row.0.0) (apps_of c) ≡ 1) (λ row some. app_once c row.0.0 some) rows
        (within.boot m))

    by_app_so : flat_map (λ (a : App). map (started m) (filter (λ (row : App × Restart). a.0 == row.0.0) kept)) (apps_of c) ≡ by_app
    by_app_so =
        each_same (λ (a : App). Unit {0}) _ (λ (a : App). cond (boots c m a && spreads_to m a) (line.Started a m Normal ∷ []) [])
        (λ a any. one_at_most (spreads_to m) (λ (b : App). line.Started b m Normal) a rows (within.boot_once m)) (apps_of c)
        (λ k d inside_apps. tt)
        ∙ flat_if (λ (a : App). boots c m a && spreads_to m a) (λ (a : App). line.Started a m Normal) (apps_of c)

    spread_rows : IsPermutation (map (started m) kept) by_app
    spread_rows =
        subst (IsPermutation (map (started m) kept))
        (map_flat (started m) (λ (a : App). filter (λ (row : App × Restart). a.0 == row.0.0) kept) (apps_of c) ∙ by_app_so)
        (IsPermutation-map (started m) kept _ (by_places (λ (a : App) (row : App × Restart). a.0 == row.0.0) (apps_of c) kept known))

    -- what starts there: what is local, and what spreads there
    abbrev starting : List (App × Restart)
    starting = filter (λ (row : App × Restart). starts_at c at m row.0) rows

    all_rows : All (λ (row : App × Restart). Unit {0}) rows
    all_rows = λ k d some. tt

    locals_so : filter (λ (row : App × Restart). is_local c row.0) starting ≡ filter (λ (row : App × Restart). is_local c row.0) rows
    locals_so =
        filter_filter (λ (row : App × Restart). starts_at c at m row.0) (λ (row : App × Restart). is_local c row.0) rows
        ∙ filter_same (λ (row : App × Restart). Unit {0}) _ _ (λ row any. local_first (is_local c row.0) ((at row.0).0 == m.0)) rows
        all_rows

    spread_so : filter (λ (row : App × Restart). not (is_local c row.0)) starting ≡ kept
    spread_so =
        filter_filter (λ (row : App × Restart). starts_at c at m row.0) (λ (row : App × Restart). not (is_local c row.0)) rows
        ∙ filter_same (λ (row : App × Restart). Unit {0}) _ _ (λ row any. spread_then (is_local c row.0) ((at row.0).0 == m.0)) rows
        all_rows

    starts_so : IsPermutation (map (started m) starting) (locals_at c m ++ map (started m) kept)
    starts_so =
        subst (IsPermutation (map (started m) starting))
        (map-append (started m) _ _ ∙ (λ i. map (started m) (locals_so i) ++ map (started m) (spread_so i)))
        (IsPermutation-map (started m) starting _
        (IsPermutation-filter_both (λ (row : App × Restart). is_local c row.0) (λ (row : App × Restart). not (is_local c row.0))
        (λ row. refl) starting))

    -- so the node's own lines
    one_node : IsPermutation (line.Up m ∷ (locals_at c m ++ (by_app ++ waits_at c at m))) (lines_at c (starts_at c at) m)
    one_node =
        IsPermutation-cons (line.Up m) _ _
        (subst (λ l. IsPermutation l (map (started m) starting ++ waits_at c at m)) (append_assoc (locals_at c m) by_app (waits_at c at m))
        (IsPermutation-append_left (waits_at c at m) (locals_at c m ++ by_app) (map (started m) starting)
        (IsPermutation-trans _ _ _
        (IsPermutation-append_right (locals_at c m) by_app (map (started m) kept) (IsPermutation-sym _ _ spread_rows))
        (IsPermutation-sym _ _ starts_so))))

    -- what all that spreads has of the node
    share : map (λ (a : App). line.Started a (at a) Normal) (filter (λ (a : App). (at a).0 == m.0) (filter spreads (apps_of c))) ≡ by_app
    share =
        ap (map (λ (a : App). line.Started a (at a) Normal))
        (filter_filter spreads (λ (a : App). (at a).0 == m.0) (apps_of c)
        ∙ filter_same (λ (a : App). Unit {0}) _ _
        (λ a any. beside (not (is_local c a)) ((at a).0 == m.0) (is_booted c a) (boots c m a) (booted_here a)) (apps_of c) (λ k d some. tt))
        ∙ map_passing (λ (a : App). boots c m a && spreads_to m a) (λ (a : App). line.Started a (at a) Normal)
        (λ (a : App). line.Started a m Normal)
        (λ a is. ap (λ (x : Node). line.Started a x Normal)
        (same_node (at a) m (eqb-true (at a).0 m.0 (and_parts _ _ (and_parts (boots c m a) _ is).1).1)))
        (apps_of c)

  -- ---- all nodes

  spread_known : All (λ (a : App). passing (λ (m : Node). (at a).0 == m.0) (nodes_of c) ≡ 1) (filter spreads (apps_of c))
  spread_known =
      All-weaker (λ (a : App). spreads a ≡ true) (λ (a : App). passing (λ (m : Node). (at a).0 == m.0) (nodes_of c) ≡ 1)
      (λ a is. node_once_too c (at a).0 (place_within a is)) (filter spreads (apps_of c)) (filter_passes spreads (apps_of c))

  abbrev spread_at : Node → List Line
  spread_at m = map (λ (a : App). line.Started a (at a) Normal) (filter (λ (a : App). (at a).0 == m.0) (filter spreads (apps_of c)))

  spread_by_node : IsPermutation (spread_lines c at) (flat_map spread_at (nodes_of c))
  spread_by_node =
      subst (IsPermutation (spread_lines c at))
      (map_flat (λ (a : App). line.Started a (at a) Normal)
      (λ (m : Node). filter (λ (a : App). (at a).0 == m.0) (filter spreads (apps_of c))) (nodes_of c))
      (IsPermutation-map (λ (a : App). line.Started a (at a) Normal) (filter spreads (apps_of c)) _
      (by_places (λ (m : Node) (a : App). (at a).0 == m.0) (nodes_of c) (filter spreads (apps_of c)) spread_known))

  pub grouped : IsPermutation (manual_lines c at) (flat_map (lines_at c (starts_at c at)) (nodes_of c))
  grouped =
      let nodes : List Node = nodes_of c in
      subst (λ l. IsPermutation l (flat_map (lines_at c (starts_at c at)) nodes))
      (sym (append_assoc (map line.Up nodes ++ flat_map (locals_at c) nodes) (spread_lines c at) (flat_map (waits_at c at) nodes)
      ∙ append_assoc (map line.Up nodes) (flat_map (locals_at c) nodes) (spread_lines c at ++ flat_map (waits_at c at) nodes)))
      (subst (λ l. IsPermutation (l ++ (flat_map (locals_at c) nodes ++ (spread_lines c at ++ flat_map (waits_at c at) nodes)))
      (flat_map (lines_at c (starts_at c at)) nodes)) (flat_map_single line.Up nodes)
      (IsPermutation-trans _ _ _
      (IsPermutation-append_right (flat_map (λ (m : Node). line.Up m ∷ []) nodes) _ _
      (IsPermutation-append_right (flat_map (locals_at c) nodes) _ _
      (IsPermutation-append_left (flat_map (waits_at c at) nodes) _ _ spread_by_node)))
      (IsPermutation-trans _ _ _
      (IsPermutation-append_right (flat_map (λ (m : Node). line.Up m ∷ []) nodes) _ _
      (IsPermutation-append_right (flat_map (locals_at c) nodes) _ _ (zipped spread_at (waits_at c at) nodes)))
      (IsPermutation-trans _ _ _
      (IsPermutation-append_right (flat_map (λ (m : Node). line.Up m ∷ []) nodes) _ _
      (zipped (locals_at c) (λ (m : Node). spread_at m ++ waits_at c at m) nodes))
      (IsPermutation-trans _ _ _
      (zipped (λ (m : Node). line.Up m ∷ []) (λ (m : Node). locals_at c m ++ (spread_at m ++ waits_at c at m)) nodes)
      (each_permuted (λ (m : Node). m.0 < node_count c) _ (lines_at c (starts_at c at))
      (λ m inside. subst (λ l. IsPermutation (line.Up m ∷ (locals_at c m ++ (l ++ waits_at c at m))) (lines_at c (starts_at c at) m))
      (sym (share m inside)) (one_node m inside)) nodes (nodes_within c)))))))
