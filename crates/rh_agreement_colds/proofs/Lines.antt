-- What is told of nodes that all come up at this command, one after the other or not: the same lines as node by node.
use Rattle.std.proofs.Common.{◌≡◌, ◌<◌, ◌≤◌, ◌++◌, ℕ, suc, Bool, true, false, cond, not, List, [], ◌∷◌, filter, map, length, Option, Some, None, refl, sym, ap, subst, ◌∙◌, inl, inr, arith}
use Rattle.std.specs.List.{flat_map, filter_map}
use Rattle.std.specs.Prelude.{All, AllPairs}
use Rattle.std.specs.List.Sorted.{IsPermutation}
use Rattle.std.proofs.lemmas.Bool.{eq-eqb, cases_lt}
use Rattle.std.proofs.lemmas.List.Elements.{All-nil, All-cons, All-weaker, filter-append}
use Rattle.rh_model.specs.ClusterView.{ClusterView, node_count, boot_of}
use Rattle.rh_model.specs.declared.node.App.{App}
use Rattle.rh_model.specs.declared.node.Node.{Node}
use Rattle.rh_model.specs.declared.settings.Restart.{Restart}
use Rattle.rh_state.specs.Numbers.{nodes_of}
use Rattle.rh_otp_model.specs.declared.output.Event.{Event}
use Rattle.rh_otp_model.specs.declared.output.Event.TheVariants as event
use Rattle.rh_otp_model.specs.declared.process.StartType.TheVariants.{Normal}
use Rattle.rh_otp_node.specs.Live.{LiveView, is_alive}
use Rattle.rh_otp_orders.specs.Orders.{is_owner, of_owner, node_told}
use Rattle.rh_otp_sim.specs.declared.lines.Answer.TheVariants.{Told as Answered}
use Rattle.rh_otp_sim.specs.declared.lines.Line.{Line}
use Rattle.rh_otp_sim.specs.declared.lines.Line.TheVariants as line
use Rattle.rh_otp_sim.specs.declared.verdict.Verdict.TheVariants as verdict
use Rattle.rh_otp_sim.specs.Stepping.{waiting_first, happened}
use Rattle.rh_otp_sim.specs.Telling.{answer_of, line_of}
use Rattle.rh_otp_sim.specs.Waiting.{WaitingView, still_told, events_asked, calls_asked}
use Rattle.rh_otp_system.specs.declared.calls.Call.{Call}
use Rattle.rh_otp_system.specs.State.{SystemView, live_at}
use Rattle.rh_otp_system.specs.Views.{NetView}
use Rattle.rh_otp_rehearsals.specs.Alike.{node_of_line}
use Rattle.rh_otp_rehearsals.proofs.Waiting.{as_it_was, events_of, itself, lines_of_owner, line_kept}
use Rattle.rh_agreement_colds.proofs.Asked.{HasLine, node_asked}
use Rattle.rh_agreement_colds.proofs.Counting.{Apart, node_once, nodes_within}
use Rattle.rh_agreement_colds.proofs.Grouped.{started, waits, lines_at}
use Rattle.rh_agreement_colds.proofs.Permuted.{by_places, each_same, passing}

-- what an observer saw of a node: it comes up, starts what starts there, and has booted
abbrev pub seen_at : ClusterView → (Node → App → Bool) → Node → List Event
seen_at c starts m = event.Up m ∷ (map (λ (row : App × Restart). event.Started row.0 m Normal)
    (filter (λ (row : App × Restart). starts m row.0) (boot_of c m)) ++ event.Booted m ∷ [])

-- The node is there and alive, and of each entry of its boot list a line is told if it doesn't start there.
pub record IsUp (starts : Node → App → Bool) (m : Node) (t : SystemView) : Type 0 where
  pub node : LiveView
  pub there : live_at t m ≡ Some node
  pub alive : is_alive node ≡ true
  pub lines : All (HasLine t t.events m node there alive (starts m)) (boot_of t.cluster m)

-- So is each, an observer saw that of it, and nothing of any other; and no call was made.
pub record AllUp (starts : Node → App → Bool) (t : SystemView) : Type 0 where
  pub seen : (m : Node) → m.0 < node_count t.cluster → of_owner node_told (Some m) t.events ≡ seen_at t.cluster starts m
  pub nobody : of_owner node_told None t.events ≡ []
  pub strangers : (m : Node) → node_count t.cluster ≤ m.0 → of_owner node_told (Some m) t.events ≡ []
  pub up : (m : Node) → m.0 < node_count t.cluster → IsUp starts m t
  pub calls : t.calls ≡ []

-- ---- of which nodes it is told

-- of one of so many
abbrev IsOf : ℕ → Option Node → Type 0
IsOf count None = ⊥
IsOf count (Some k) = k.0 < count

something : {A : Type 0} (x : A) (xs : List A) → x ∷ xs ≡ [] → ⊥
something x xs none = let long : suc (length xs) ≡ 0 = ap length none in omega (arith, long)

module _ (count : ℕ) where
  abbrev NoneOf : List Line → Type 0
  NoneOf xs = (of_owner node_of_line None xs ≡ []) × ((k : Node) → count ≤ k.0 → of_owner node_of_line (Some k) xs ≡ [])

  less : (o : Option Node) (x : Line) (xs : List Line) → of_owner node_of_line o (x ∷ xs) ≡ [] → of_owner node_of_line o xs ≡ []
  less o x xs none = by (is_owner o (node_of_line x)) none
    where
      by : (b : Bool) → cond b (x ∷ of_owner node_of_line o xs) (of_owner node_of_line o xs) ≡ [] → of_owner node_of_line o xs ≡ []
      by true some = absurd (something x (of_owner node_of_line o xs) some)
      by false is = is

  not_owned : (o : Option Node) (x : Line) (xs : List Line) → is_owner o (node_of_line x) ≡ true → of_owner node_of_line o (x ∷ xs) ≡ [] → ⊥
  not_owned o x xs owned none =
      something x (of_owner node_of_line o xs)
      (sym (ap (λ (b : Bool). cond b (x ∷ of_owner node_of_line o xs) (of_owner node_of_line o xs)) owned) ∙ none)

  first_of : (x : Line) (xs : List Line) (o : Option Node) → node_of_line x ≡ o → NoneOf (x ∷ xs) → IsOf count o
  first_of x xs None is none = not_owned None x xs (ap (is_owner None) is) none.0
  first_of x xs (Some k) is none = elim (cases_lt k.0 count) [
    | inl below ↦ below
    | inr above ↦ absurd (not_owned (Some k) x xs (ap (is_owner (Some k)) is ∙ eq-eqb k.0 k.0 refl) (none.1 k above))
  ]

  all_of : (xs : List Line) → NoneOf xs → All (λ (x : Line). IsOf count (node_of_line x)) xs
  all_of [] none = All-nil (λ (x : Line). IsOf count (node_of_line x))
  all_of (x ∷ xs) none =
      All-cons (λ (y : Line). IsOf count (node_of_line y)) x xs (first_of x xs (node_of_line x) refl none)
      (all_of xs (less None x xs none.0, λ k above. less (Some k) x xs (none.1 k above)))

of_one : (c : ClusterView) (o : Option Node) → IsOf (node_count c) o → passing (λ (m : Node). is_owner (Some m) o) (nodes_of c) ≡ 1
of_one c None is = absurd is
of_one c (Some k) is = node_once c k.0 is

-- ---- its lines

module _ (t : SystemView) (net : NetView) (starts : Node → App → Bool) (all : AllUp starts t) (untold : net.told ≡ [])
    (once : (m : Node) → AllPairs Apart (boot_of t.cluster m)) where
  abbrev es : List Event
  es = t.events

  abbrev first : WaitingView
  first = waiting_first net t

  abbrev line_here : Event → Option Line
  line_here = line_of es t.calls net.last_call

  abbrev lines : List Line
  lines = (events_asked t es es first).lines

  of_those : (o : Option Node)
      → of_owner node_of_line o lines ≡ of_owner node_of_line o (events_asked t es (of_owner node_told o es) first).lines
  of_those o = (events_of o t t es es es first first (itself t es) (as_it_was o first)).lines

  first_lines : (o : Option Node) → of_owner node_of_line o first.lines ≡ filter_map line_here (of_owner node_told o es)
  first_lines o = lines_of_owner o line_here (line_kept es t.calls net.last_call) es

  -- of whom nothing was seen nothing is told
  nothing_told : (o : Option Node) → of_owner node_told o es ≡ [] → of_owner node_of_line o lines ≡ []
  nothing_told o none =
      of_those o
      ∙ ap (λ (seen : List Event). of_owner node_of_line o (events_asked t es seen first).lines) none
      ∙ first_lines o
      ∙ ap (filter_map line_here) none

  waits_own : (m : Node) (rows : List (App × Restart)) → of_owner node_of_line (Some m) (map (waits m) rows) ≡ map (waits m) rows
  waits_own m [] = refl
  waits_own m (row ∷ rows) =
      ap (λ (b : Bool). cond b (waits m row ∷ of_owner node_of_line (Some m) (map (waits m) rows)) (of_owner node_of_line (Some m)
      (map (waits m) rows))) (eq-eqb m.0 m.0 refl)
      ∙ ap (λ (l : List Line). waits m row ∷ l) (waits_own m rows)

  starts_told : (m : Node) (rows : List (App × Restart))
      → filter_map line_here (map (λ (row : App × Restart). event.Started row.0 m Normal) rows ++ event.Booted m ∷ [])
      ≡ map (started m) rows
  starts_told m [] = refl
  starts_told m (row ∷ rows) = ap (λ (l : List Line). started m row ∷ l) (starts_told m rows)

  -- of a node that came up
  node_told_so : (m : Node) → m.0 < node_count t.cluster → of_owner node_of_line (Some m) lines ≡ lines_at t.cluster starts m
  node_told_so m within =
      of_those (Some m)
      ∙ ap (λ (seen : List Event). of_owner node_of_line (Some m) (events_asked t es seen first).lines) (all.seen m within)
      ∙ ap (of_owner node_of_line (Some m))
      (node_asked t es m (all.up m within).node (all.up m within).there (all.up m within).alive (starts m) here first (once m)
      (all.up m within).lines (ap (still_told es) untold) refl)
      ∙ filter-append (λ (x : Line). is_owner (Some m) (node_of_line x)) first.lines (map (waits m) elsewhere)
      ∙ (λ i. (first_lines (Some m) ∙ ap (filter_map line_here) (all.seen m within)) i ++ waits_own m elsewhere i)
      ∙ ap (λ (l : List Line). (line.Up m ∷ l) ++ map (waits m) elsewhere) (starts_told m here)
    where
      here : List (App × Restart)
      here = filter (λ (row : App × Restart). starts m row.0) (boot_of t.cluster m)

      elsewhere : List (App × Restart)
      elsewhere = filter (λ (row : App × Restart). not (starts m row.0)) (boot_of t.cluster m)

  known : All (λ (x : Line). passing (λ (m : Node). is_owner (Some m) (node_of_line x)) (nodes_of t.cluster) ≡ 1) lines
  known =
      All-weaker (λ (x : Line). IsOf (node_count t.cluster) (node_of_line x))
      (λ (x : Line). passing (λ (m : Node). is_owner (Some m) (node_of_line x)) (nodes_of t.cluster) ≡ 1)
      (λ x is. of_one t.cluster (node_of_line x) is) lines
      (all_of (node_count t.cluster) lines
      (nothing_told None all.nobody, λ k above. nothing_told (Some k) (all.strangers k above)))

  told_by_node : IsPermutation lines (flat_map (lines_at t.cluster starts) (nodes_of t.cluster))
  told_by_node =
      subst (IsPermutation lines)
      (each_same (λ (m : Node). m.0 < node_count t.cluster) _ (lines_at t.cluster starts) node_told_so (nodes_of t.cluster)
      (nodes_within t.cluster))
      (by_places (λ (m : Node) (x : Line). is_owner (Some m) (node_of_line x)) (nodes_of t.cluster) lines known)

  lines_so : (happened net t).lines ≡ lines
  lines_so =
      ap (λ (calls : List Call). (calls_asked t es net.last_call calls (events_asked t es es first)).lines) all.calls

  pub permuted : IsPermutation (happened net t).lines (flat_map (lines_at t.cluster starts) (nodes_of t.cluster))
  permuted =
      subst (λ (l : List Line). IsPermutation l (flat_map (lines_at t.cluster starts) (nodes_of t.cluster))) (sym lines_so) told_by_node

  pub is_well : (happened net t).answer ≡ Answered verdict.Done
  is_well = ap (answer_of net.last_call) all.calls
