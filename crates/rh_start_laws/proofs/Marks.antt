-- What the marks of a boot list make of a state: its applications wait behind the others, in its order, and those that are distributed are
-- wanted.
use Rattle.std.proofs.Common.{◌≡◌, ◌≢◌, ◌<◌, ◌++◌, ◌||◌, ◌&&◌, ℕ, Bool, true, false, cond, not, List, [], ◌∷◌, map, fold, length, unwrap_or, slice_get, get_or, subst, suc, None, Some, refl, sym, ap, ◌∙◌, arith, append_assoc, append-nil}
use Rattle.std.specs.List.{list_any}
use Rattle.std.specs.Prelude.{All, AllPairs}
use Rattle.std.proofs.lemmas.Bool.{and_parts}
use Rattle.std.proofs.lemmas.List.{length-set}
use Rattle.std.proofs.lemmas.List.Elements.{All-cons, All-tail}
use Rattle.rh_model.specs.ClusterView.{ClusterView, app_numbered}
use Rattle.rh_model.specs.declared.node.App.{App}
use Rattle.rh_model.specs.declared.node.Node.{Node}
use Rattle.rh_model.specs.declared.settings.Restart.{Restart}
use Rattle.rh_model.specs.declared.settings.Restart.TheVariants.{Temporary}
use Rattle.rh_state.specs.declared.status.Standing.{Standing}
use Rattle.rh_state.specs.declared.status.Standing.TheVariants.{Quiet, Wanted, Running, Lost}
use Rattle.rh_state.specs.declared.status.Timer.TheVariants.{Failover}
use Rattle.rh_state.specs.Numbers.{same_app, same_node}
use Rattle.rh_state.specs.Setters.{with_restart, with_waiting, with_standing, without_due}
use Rattle.rh_state.specs.StateView.{StateView, waiting_at, restart_of, standing_of}
use Rattle.rh_state.specs.Tables.{row, cell, with_cell}
use Rattle.rh_rules.specs.Course.{Course, is_local}
use Rattle.rh_rules.specs.Marking.{wanted_by_mark, with_mark, mark, mark_booted, pair}
use Rattle.rh_base.proofs.Lists.{cases}
use Rattle.rh_base.proofs.Truths.{same_number}
use Rattle.rh_trace.proofs.Entries.{put}
use Rattle.rh_trace.proofs.Places.{at_set_here, at_set_there}
use Rattle.rh_events.proofs.Marks.{wanted_any, mark_cluster}
use Rattle.rh_events.proofs.SoundEndingFits.{stands_here, stands_there}

-- an application is wanted, or quiet
abbrev pub wanted_if : Bool → Standing
wanted_if true = Wanted None
wanted_if false = Quiet

-- the applications of a boot list
abbrev pub apps_in : List (App × Restart) → List App
apps_in rows = map (λ (row : App × Restart). row.0) rows

-- a boot list has the application
abbrev pub has_row : List (App × Restart) → App → Bool
has_row rows a = list_any (λ (row : App × Restart). same_app a row.0) rows

-- ---- one mark

waiting_marked : (s : StateView) (n : Node) (a : App) (r : Restart) → (with_mark s n a r).waiting ≡ put s.waiting n.0 a
unfolding with_mark
waiting_marked s n a r =
    wanted_any (λ (t : StateView). t.waiting ≡ put s.waiting n.0 a) (with_restart (with_waiting s n a) n a r) n a (standing_of s a)
    (λ st ts. refl)

restarts_marked : (s : StateView) (n : Node) (a : App) (r : Restart) → (with_mark s n a r).restarts ≡ with_cell s.restarts n.0 a.0 r
unfolding with_mark
restarts_marked s n a r =
    wanted_any (λ (t : StateView). t.restarts ≡ with_cell s.restarts n.0 a.0 r) (with_restart (with_waiting s n a) n a r) n a
    (standing_of s a)
    (λ st ts. refl)

length_wanted : (t : StateView) (n : Node) (a : App) (st : Standing) → length (wanted_by_mark t n a st).standings ≡ length t.standings
length_wanted t n a Quiet = by (is_local t.cluster a)
  where
    by : (p : Bool) → length (cond p t (with_standing t a (Wanted None))).standings ≡ length t.standings
    by true = refl
    by false = length-set t.standings a.0 (Wanted None)
length_wanted t n a (Wanted from) = refl
length_wanted t n a (Running m) = refl
length_wanted t n a (Lost m) = by (same_node m n)
  where
    by : (p : Bool) → length (cond p (without_due (with_standing t a (Wanted (Some n))) (Failover a)) t).standings ≡ length t.standings
    by true = length-set t.standings a.0 (Wanted (Some n))
    by false = refl

length_marked : (s : StateView) (n : Node) (a : App) (r : Restart) → length (with_mark s n a r).standings ≡ length s.standings
unfolding with_mark
length_marked s n a r = length_wanted (with_restart (with_waiting s n a) n a r) n a (standing_of s a)

or_same : (p q : Bool) → (q ≡ true → p ≡ true) → p ≡ (p || q)
or_same true q h = refl
or_same false true h = h refl
or_same false false h = refl

or_true : (p : Bool) → true ≡ (p || true)
or_true true = refl
or_true false = refl

or_false : (p : Bool) → p ≡ (p || false)
or_false true = refl
or_false false = refl

and_false : (p : Bool) → false ≡ (p && false)
and_false true = refl
and_false false = refl

-- it is wanted then, if it is distributed; the others stand as they stood
standing_marked : (s : StateView) (n : Node) (a : App) (r : Restart) (w : App → Bool) → a.0 < length s.standings
    → ((b : App) → standing_of s b ≡ wanted_if (w b)) → (b : App)
    → standing_of (with_mark s n a r) b ≡ wanted_if (w b || (same_app b a && not (is_local s.cluster a)))
unfolding with_mark
standing_marked s n a r w there stands b =
    ap (λ (st : Standing). standing_of (wanted_by_mark t n a st) b) (stands a) ∙ by (w a) refl
  where
    t : StateView
    t = with_restart (with_waiting s n a) n a r

    same : same_app b a ≡ true → w b ≡ w a
    same is = ap (λ (k : ℕ). w (app_numbered k)) (same_number b.0 a.0 is)

    here : same_app b a ≡ true → Wanted None ≡ wanted_if (w b || (same_app b a && true))
    here is = ap wanted_if (or_true (w b) ∙ ap (λ (p : Bool). w b || (p && true)) (sym is))

    away : (q : Bool) → same_app b a ≡ false → wanted_if (w b) ≡ wanted_if (w b || (same_app b a && q))
    away q is = ap wanted_if (or_false (w b) ∙ ap (λ (p : Bool). w b || (p && q)) (sym is))

    by_local : (p : Bool) → standing_of (cond p t (with_standing t a (Wanted None))) b ≡ wanted_if (w b || (same_app b a && not p))
    by_local true = stands b ∙ ap wanted_if (or_false (w b) ∙ ap (λ (q : Bool). w b || q) (and_false (same_app b a)))
    by_local false = cases (same_app b a)
        (λ is. stands_here t a b (Wanted None) there is ∙ here is)
        (λ is. stands_there t a b (Wanted None) is ∙ stands b ∙ away true is)

    by : (p : Bool) → w a ≡ p → standing_of (wanted_by_mark t n a (wanted_if p)) b ≡ wanted_if
        (w b || (same_app b a && not (is_local s.cluster a)))
    by true is = stands b
        ∙ ap wanted_if (or_same (w b) _ (λ both. same (and_parts (same_app b a) (not (is_local s.cluster a)) both).0 ∙ is))
    by false is = by_local (is_local s.cluster a)

-- ---- all marks of a list

module _ (n : Node) where
  pub marks_waiting : (rows : List (App × Restart)) (o : Course) → n.0 < length o.state.waiting
      → waiting_at (fold (mark_booted n) o rows).state n ≡ waiting_at o.state n ++ apps_in rows
  marks_waiting [] o there = sym (append-nil (waiting_at o.state n))
  marks_waiting (b ∷ rows) o there =
      let one : (with_mark o.state n b.0 b.1).waiting ≡ put o.state.waiting n.0 b.0 = waiting_marked o.state n b.0 b.1 in
      let long : length (put o.state.waiting n.0 b.0) ≡ length o.state.waiting = length-set o.state.waiting n.0 _ in
      let more : length (with_mark o.state n b.0 b.1).waiting ≡ length (put o.state.waiting n.0 b.0) = ap length one in
      marks_waiting rows (mark o n b.0 b.1) (omega (arith, long, more, there))
      ∙ ap (λ (apps : List App). apps ++ apps_in rows)
      (ap (λ (table : List (List App)). row table n.0) one ∙ at_set_here o.state.waiting n.0 (row o.state.waiting n.0 ++ b.0 ∷ []) [] there)
      ∙ append_assoc (waiting_at o.state n) (b.0 ∷ []) (apps_in rows)

  pub marks_waiting_there : (rows : List (App × Restart)) (o : Course) (m : Node) → m.0 ≢ n.0
      → waiting_at (fold (mark_booted n) o rows).state m ≡ waiting_at o.state m
  marks_waiting_there [] o m other = refl
  marks_waiting_there (b ∷ rows) o m other =
      marks_waiting_there rows (mark o n b.0 b.1) m other
      ∙ ap (λ (table : List (List App)). row table m.0) (waiting_marked o.state n b.0 b.1)
      ∙ at_set_there o.state.waiting n.0 m.0 (row o.state.waiting n.0 ++ b.0 ∷ []) [] other

  pub marks_restart_there : (rows : List (App × Restart)) (o : Course) (m : Node) (a : App) → m.0 ≢ n.0
      → restart_of (fold (mark_booted n) o rows).state m a ≡ restart_of o.state m a
  marks_restart_there [] o m a other = refl
  marks_restart_there (b ∷ rows) o m a other =
      marks_restart_there rows (mark o n b.0 b.1) m a other
      ∙ ap (λ (table : List (List Restart)). cell table m.0 a.0 Temporary) (restarts_marked o.state n b.0 b.1)
      ∙ ap (λ (cells : List Restart). unwrap_or (slice_get cells a.0) Temporary)
      (at_set_there o.state.restarts n.0 m.0 _ [] other)

  -- a table is this large
  abbrev pub IsLarge : ℕ → List (List Restart) → Type 0
  IsLarge count table = (n.0 < length table) × (length (row table n.0) ≡ count)

  large_set : (count : ℕ) (table : List (List Restart)) (a : ℕ) (r : Restart) → IsLarge count table
      → IsLarge count (with_cell table n.0 a r)
  large_set count table a r large =
      let there : n.0 < length table = large.0 in
      let long : length (with_cell table n.0 a r) ≡ length table = length-set table n.0 _ in
      (omega (arith, there, long), ap length (at_set_here table n.0 _ [] there) ∙ length-set (row table n.0) a r ∙ large.1)

  large_on : (count : ℕ) (s : StateView) (a : App) (r : Restart) → IsLarge count s.restarts → IsLarge count (with_mark s n a r).restarts
  large_on count s a r large = subst (IsLarge count) (sym (restarts_marked s n a r)) (large_set count s.restarts a.0 r large)

  marks_restart_kept : (count : ℕ) (rows : List (App × Restart)) (o : Course) (a : App) → IsLarge count o.state.restarts
      → All (λ (later : App × Restart). a.0 ≢ later.0.0) rows → restart_of (fold (mark_booted n) o rows).state n a ≡ restart_of o.state n a
  marks_restart_kept count [] o a large apart = refl
  marks_restart_kept count (b ∷ rows) o a large apart =
      marks_restart_kept count rows (mark o n b.0 b.1) a (large_on count o.state b.0 b.1 large)
      (All-tail (λ (later : App × Restart). a.0 ≢ later.0.0) b rows apart)
      ∙ ap (λ (table : List (List Restart)). cell table n.0 a.0 Temporary) (restarts_marked o.state n b.0 b.1)
      ∙ ap (λ (cells : List Restart). unwrap_or (slice_get cells a.0) Temporary) (at_set_here o.state.restarts n.0 _ [] large.0)
      ∙ at_set_there (row o.state.restarts n.0) b.0.0 a.0 b.1 Temporary (apart 0 b (omega arith))

  pub marks_restarts : (count : ℕ) (rows : List (App × Restart)) (o : Course) → IsLarge count o.state.restarts
      → All (λ (e : App × Restart). e.0.0 < count) rows → AllPairs (λ (e later : App × Restart). e.0.0 ≢ later.0.0) rows
      → All (λ (e : App × Restart). restart_of (fold (mark_booted n) o rows).state n e.0 ≡ e.1) rows
  marks_restarts count [] o large within once = λ k d l. absurd (omega arith)
  marks_restarts count (b ∷ rows) o large within once =
      All-cons (λ (e : App × Restart). restart_of (fold (mark_booted n) (mark o n b.0 b.1) rows).state n e.0 ≡ e.1) b rows
      (marks_restart_kept count rows (mark o n b.0 b.1) b.0 (large_on count o.state b.0 b.1 large)
      (λ k d l. once 0 (suc k) d (omega arith) (omega arith))
      ∙ ap (λ (table : List (List Restart)). cell table n.0 b.0.0 Temporary) (restarts_marked o.state n b.0 b.1)
      ∙ ap (λ (cells : List Restart). unwrap_or (slice_get cells b.0.0) Temporary) (at_set_here o.state.restarts n.0 _ [] large.0)
      ∙ at_set_here (row o.state.restarts n.0) b.0.0 b.1 Temporary
      (let inside : b.0.0 < count = within 0 b (omega arith) in let long : length (row o.state.restarts n.0) ≡ count = large.1 in
      omega (arith, inside, long)))
      (marks_restarts count rows (mark o n b.0 b.1) (large_on count o.state b.0 b.1 large)
      (All-tail (λ (e : App × Restart). e.0.0 < count) b rows within) (λ i j d l m. once (suc i) (suc j) d (omega arith) (omega arith)))

  pub marks_marked : (rows : List (App × Restart)) (o : Course)
      → (fold (mark_booted n) o rows).marked ≡ o.marked ++ map (pair n) (apps_in rows)
  marks_marked [] o = sym (append-nil o.marked)
  marks_marked (b ∷ rows) o = marks_marked rows (mark o n b.0 b.1) ∙ append_assoc o.marked (pair n b.0 ∷ []) (map (pair n) (apps_in rows))

  pub marks_freed : (rows : List (App × Restart)) (o : Course) → (fold (mark_booted n) o rows).freed ≡ o.freed
  marks_freed [] o = refl
  marks_freed (b ∷ rows) o = marks_freed rows (mark o n b.0 b.1)

  wanted_or : (p s q la lb : Bool) → (s ≡ true → la ≡ lb) → ((p || (s && not la)) || (q && not lb)) ≡ (p || ((s || q) && not lb))
  wanted_or true s q la lb same = refl
  wanted_or false false q la lb same = refl
  wanted_or false true q la lb same = ap (λ (l : Bool). not l || (q && not lb)) (same refl) ∙ by q lb
    where
      by : (q l : Bool) → (not l || (q && not l)) ≡ not l
      by true true = refl
      by false true = refl
      by true false = refl
      by false false = refl

  -- those of the list that are distributed are wanted then
  pub marks_standings : (c : ClusterView) (rows : List (App × Restart)) (o : Course) (w : App → Bool) → o.state.cluster ≡ c
      → All (λ (e : App × Restart). e.0.0 < length o.state.standings) rows → ((b : App) → standing_of o.state b ≡ wanted_if (w b))
      → (b : App)
      → standing_of (fold (mark_booted n) o rows).state b ≡ wanted_if (w b || (has_row rows b && not (is_local c b)))
  marks_standings c [] o w cluster within stands b = stands b ∙ ap wanted_if (or_false (w b))
  marks_standings c (e ∷ rows) o w cluster within stands b =
      let long : length (with_mark o.state n e.0 e.1).standings ≡ length o.state.standings = length_marked o.state n e.0 e.1 in
      marks_standings c rows (mark o n e.0 e.1) (λ (x : App). w x || (same_app x e.0 && not (is_local c e.0)))
      (mark_cluster o.state n e.0 e.1 ∙ cluster)
      (λ k d l. let inside : (get_or rows k d).0.0 < length o.state.standings = within (suc k) d (omega arith) in
      omega (arith, inside, long))
      (λ x. standing_marked o.state n e.0 e.1 w (within 0 e (omega arith)) stands x
      ∙ ap (λ (d : ClusterView). wanted_if (w x || (same_app x e.0 && not (is_local d e.0)))) cluster) b
      ∙ ap wanted_if (wanted_or (w b) (same_app b e.0) (has_row rows b) (is_local c e.0) (is_local c b)
      (λ is. ap (λ (k : ℕ). is_local c (app_numbered k)) (sym (same_number b.0 e.0.0 is))))
