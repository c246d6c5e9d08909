-- Equal lists of lines are of nodes that are alike.
use Rattle.std.proofs.Common.{◌≡◌, ◌≢◌, ℕ, List, [], ◌∷◌, ◌++◌, map, refl, sym, ap, ◌∙◌, arith}
use Rattle.rh_model.specs.ClusterView.{ClusterView, IsWithin}
use Rattle.rh_model.specs.declared.node.Node.{Node}
use Rattle.rh_model.specs.declared.node.App.{App}
use Rattle.rh_state.specs.Numbers.{apps_of}
use Rattle.rh_state.specs.Shape.{IsNodeOf, IsAppOf}
use Rattle.rh_state.specs.StateView.{StateView, mode_of, incarnation_of, running_at, waiting_at, restart_of, kind_of, is_allowed}
use Rattle.rh_trace.proofs.Every.{Every}
use Rattle.rh_laws.specs.Reports.{HasPlainNames}
use Rattle.rh_laws.proofs.Apart.{Apart}
use Rattle.rh_laws.proofs.Texts.{unless, head_same, tail_same, every_unless, mark_of, Opens, opens_append, split, same_elements, same_each, same_tests}
use Rattle.rh_laws.proofs.ReportLines.{node_bytes, forbidden_bytes, runs_line, waits_line, lines_from, Fits}
use Rattle.rh_laws.proofs.ShownParts.{same_node_line, same_running, same_waiting}

-- what is shown of a node is alike in two states
pub record SameNode (c : ClusterView) (s t : StateView) (n : Node) : Type 0 where
  pub mode : mode_of s n ≡ mode_of t n
  pub incarnation : incarnation_of s n ≡ incarnation_of t n
  pub running : running_at s n ≡ running_at t n
  pub ran : Every (λ (a : App). (restart_of s n a ≡ restart_of t n a) × (kind_of s n a ≡ kind_of t n a)) (running_at s n)
  pub waiting : waiting_at s n ≡ waiting_at t n
  pub waited : Every (λ (a : App). restart_of s n a ≡ restart_of t n a) (waiting_at s n)
  pub allowed : Every (λ (a : App). is_allowed s n a ≡ is_allowed t n a) (apps_of c)

-- no line of a node's applications stands first
pub record Outside (r : List (List ℕ)) : Type 0 where
  pub runs : Opens 117 r
  pub waits : Opens 97 r
  pub may_not : Opens 111 r

outside_from : (c : ClusterView) (s : StateView) (ns : List Node) (r : List (List ℕ)) → Outside r → Outside (lines_from c s ns r)
outside_from c s [] r o = o
outside_from c s (n ∷ ns) r o = record {
  runs = λ e. absurd (omega (arith, e));
  waits = λ e. absurd (omega (arith, e));
  may_not = λ e. absurd (omega (arith, e));
}

both_parts : {A : Type 0} (P Q : A → Type 0) (xs : List A) → Every P xs → Every Q xs → Every (λ (x : A). P x × Q x) xs
both_parts P Q [] h k = tt
both_parts P Q (x ∷ xs) h k = ((h.0, k.0), both_parts P Q xs h.1 k.1)

weaker_in : {A : Type 0} (P Q R : A → Type 0) (xs : List A) → ((x : A) → P x → Q x → R x) → Every P xs → Every Q xs → Every R xs
weaker_in P Q R [] each h k = tt
weaker_in P Q R (x ∷ xs) each h k = (each x h.0 k.0, weaker_in P Q R xs each h.1 k.1)

-- each line of a map is of one kind
pub marked : {A : Type 0} (P : List ℕ → Type 0) (f : A → List ℕ) (xs : List A) → ((x : A) → P (f x)) → Every P (map f xs)
marked P f [] each = tt
marked P f (x ∷ xs) each = (each x, marked P f xs each)

module _ (c : ClusterView) (within : IsWithin c) (names : HasPlainNames c) (s t : StateView) (fs : Fits c s) (ft : Fits c t)
    (apart : Apart (map (forbidden_bytes c) (apps_of c))) where
  -- what runs at a node
  runs_same : (n : Node) → IsNodeOf c n → map (runs_line c s n) (running_at s n) ≡ map (runs_line c t n) (running_at t n) → running_at s n ≡ running_at t n
  runs_same n h e = same_elements (IsAppOf c) (runs_line c s n) (runs_line c t n) (running_at s n) (running_at t n)
      (λ a b ah bh k. (same_running c within names a b (restart_of s n a) (restart_of t n b) (kind_of s n a) (kind_of t n b) ah bh
      (fs.kinds n a h ah) (ft.kinds n b h bh) k).0)
      (fs.running n h) (ft.running n h) e

  runs_alike : (n : Node) → IsNodeOf c n → running_at s n ≡ running_at t n → map (runs_line c s n) (running_at s n) ≡ map (runs_line c t n) (running_at t n)
      → Every (λ (a : App). (restart_of s n a ≡ restart_of t n a) × (kind_of s n a ≡ kind_of t n a)) (running_at s n)
  runs_alike n h same e = weaker_in (IsAppOf c) (λ (a : App). runs_line c s n a ≡ runs_line c t n a)
      (λ (a : App). (restart_of s n a ≡ restart_of t n a) × (kind_of s n a ≡ kind_of t n a)) (running_at s n)
      (λ a ah k. (let parts = same_running c within names a a (restart_of s n a) (restart_of t n a) (kind_of s n a) (kind_of t n a) ah ah
      (fs.kinds n a h ah) (ft.kinds n a h ah) k in (parts.1, parts.2)))
      (fs.running n h)
      (same_each (runs_line c s n) (runs_line c t n) (running_at s n) (e ∙ ap (map (runs_line c t n)) (sym same)))

  -- what waits there
  waits_same : (n : Node) → IsNodeOf c n → map (waits_line c s n) (waiting_at s n) ≡ map (waits_line c t n) (waiting_at t n) → waiting_at s n ≡ waiting_at t n
  waits_same n h e = same_elements (IsAppOf c) (waits_line c s n) (waits_line c t n) (waiting_at s n) (waiting_at t n)
      (λ a b ah bh k. (same_waiting c within names a b (restart_of s n a) (restart_of t n b) ah bh k).0)
      (fs.waiting n h) (ft.waiting n h) e

  waits_alike : (n : Node) → IsNodeOf c n → waiting_at s n ≡ waiting_at t n → map (waits_line c s n) (waiting_at s n) ≡ map (waits_line c t n) (waiting_at t n)
      → Every (λ (a : App). restart_of s n a ≡ restart_of t n a) (waiting_at s n)
  waits_alike n h same e = weaker_in (IsAppOf c) (λ (a : App). waits_line c s n a ≡ waits_line c t n a) (λ (a : App). restart_of s n a ≡ restart_of t n a)
      (waiting_at s n)
      (λ a ah k. (same_waiting c within names a a (restart_of s n a) (restart_of t n a) ah ah k).1)
      (fs.waiting n h)
      (same_each (waits_line c s n) (waits_line c t n) (waiting_at s n) (e ∙ ap (map (waits_line c t n)) (sym same)))

  -- the parts of a node's lines
  abbrev Runs : StateView → Node → List (List ℕ)
  Runs u n = map (runs_line c u n) (running_at u n)

  abbrev Waits : StateView → Node → List (List ℕ)
  Waits u n = map (waits_line c u n) (waiting_at u n)

  abbrev MayNot : StateView → Node → List (List ℕ)
  MayNot u n = unless (is_allowed u n) (forbidden_bytes c) (apps_of c)

  pub record Parts (n : Node) (r q : List (List ℕ)) : Type 0 where
    pub runs : Runs s n ≡ Runs t n
    pub waits : Waits s n ≡ Waits t n
    pub may_not : MayNot s n ≡ MayNot t n
    pub rest : r ≡ q

  waits_no : (u : StateView) (n : Node) → Every (λ (l : List ℕ). mark_of l ≢ 117) (Waits u n)
  waits_no u n = marked (λ (l : List ℕ). mark_of l ≢ 117) (waits_line c u n) (waiting_at u n) (λ a e. absurd (omega (arith, e)))

  may_not_of : (k : ℕ) → (k ≡ 111 → ⊥) → (u : StateView) (n : Node) → Every (λ (l : List ℕ). mark_of l ≢ k) (MayNot u n)
  may_not_of k other u n = every_unless (λ (l : List ℕ). mark_of l ≢ k) (is_allowed u n) (forbidden_bytes c) (apps_of c)
      (marked (λ (l : List ℕ). mark_of l ≢ k) (forbidden_bytes c) (apps_of c) (λ a e. other (sym e)))

  parts_of : (n : Node) (r q : List (List ℕ)) → Outside r → Outside q
      → Runs s n ++ (Waits s n ++ (MayNot s n ++ r)) ≡ Runs t n ++ (Waits t n ++ (MayNot t n ++ q)) → Parts n r q
  parts_of n r q o u e =
      let first = split 117 (Runs s n) (Runs t n) (Waits s n ++ (MayNot s n ++ r)) (Waits t n ++ (MayNot t n ++ q))
      (marked (λ (l : List ℕ). mark_of l ≡ 117) (runs_line c s n) (running_at s n) (λ a. refl))
      (marked (λ (l : List ℕ). mark_of l ≡ 117) (runs_line c t n) (running_at t n) (λ a. refl))
      (opens_append 117 (Waits s n) (MayNot s n ++ r) (waits_no s n)
      (opens_append 117 (MayNot s n) r (may_not_of 117 (λ k. absurd (omega (arith, k))) s n) o.runs))
      (opens_append 117 (Waits t n) (MayNot t n ++ q) (waits_no t n)
      (opens_append 117 (MayNot t n) q (may_not_of 117 (λ k. absurd (omega (arith, k))) t n) u.runs))
      e in
      let second = split 97 (Waits s n) (Waits t n) (MayNot s n ++ r) (MayNot t n ++ q)
      (marked (λ (l : List ℕ). mark_of l ≡ 97) (waits_line c s n) (waiting_at s n) (λ a. refl))
      (marked (λ (l : List ℕ). mark_of l ≡ 97) (waits_line c t n) (waiting_at t n) (λ a. refl))
      (opens_append 97 (MayNot s n) r (may_not_of 97 (λ k. absurd (omega (arith, k))) s n) o.waits)
      (opens_append 97 (MayNot t n) q (may_not_of 97 (λ k. absurd (omega (arith, k))) t n) u.waits)
      first.1 in
      let last = split 111 (MayNot s n) (MayNot t n) r q
      (every_unless (λ (l : List ℕ). mark_of l ≡ 111) (is_allowed s n) (forbidden_bytes c) (apps_of c)
      (marked (λ (l : List ℕ). mark_of l ≡ 111) (forbidden_bytes c) (apps_of c) (λ a. refl)))
      (every_unless (λ (l : List ℕ). mark_of l ≡ 111) (is_allowed t n) (forbidden_bytes c) (apps_of c)
      (marked (λ (l : List ℕ). mark_of l ≡ 111) (forbidden_bytes c) (apps_of c) (λ a. refl)))
      o.may_not u.may_not second.1 in
      record { runs = first.0; waits = second.0; may_not = last.0; rest = last.1 }

  same_node : (n : Node) (r q : List (List ℕ)) → IsNodeOf c n → node_bytes c s n ≡ node_bytes c t n → Parts n r q → SameNode c s t n
  same_node n r q h e parts =
      let line = same_node_line c within names n (mode_of s n) (mode_of t n) (incarnation_of s n) (incarnation_of t n)
      (fs.incarnations n h) (ft.incarnations n h) e in
      let running = runs_same n h parts.runs in
      let waiting = waits_same n h parts.waits in
      record {
        mode = line.0;
        incarnation = line.1;
        running = running;
        ran = runs_alike n h running parts.runs;
        waiting = waiting;
        waited = waits_alike n h waiting parts.waits;
        allowed = same_tests (forbidden_bytes c) (is_allowed s n) (is_allowed t n) (apps_of c) apart parts.may_not;
      }

  pub same_nodes : (ns : List Node) (r q : List (List ℕ)) → Every (IsNodeOf c) ns → Outside r → Outside q → lines_from c s ns r ≡ lines_from c t ns q
      → Every (SameNode c s t) ns × (r ≡ q)
  same_nodes [] r q h o u e = (tt, e)
  same_nodes (n ∷ ns) r q h o u e =
      let x : List (List ℕ) = lines_from c s ns r in
      let y : List (List ℕ) = lines_from c t ns q in
      let parts = parts_of n x y (outside_from c s ns r o) (outside_from c t ns q u)
      (tail_same (node_bytes c s n) (node_bytes c t n) (Runs s n ++ (Waits s n ++ (MayNot s n ++ x))) (Runs t n ++ (Waits t n ++ (MayNot t n ++ y))) e) in
      let first = head_same (node_bytes c s n) (node_bytes c t n) (Runs s n ++ (Waits s n ++ (MayNot s n ++ x))) (Runs t n ++ (Waits t n ++ (MayNot t n ++ y))) e in
      let rest = same_nodes ns r q h.1 o u parts.rest in
      ((same_node n x y h.0 first parts, rest.0), rest.1)
