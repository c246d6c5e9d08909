-- A move keeps that no application stands twice at a node, and that each runs where it stands as running.
use Rattle.std.proofs.Common.{◌≡◌, ◌≢◌, ◌<◌, ℕ, zero, suc, true, false, List, [], ◌∷◌, ◌++◌, length, refl, sym, ap, ◌∙◌, arith, nat_eq, unwrap_or, slice_get}
use Rattle.std.proofs.Common.{slice_set, subst, Option, Some, None, All, IfSome}
use Rattle.std.proofs.lemmas.List.{length-set}
use Rattle.rh_model.specs.declared.node.Node.{Node}
use Rattle.rh_model.specs.declared.node.App.{App}
use Rattle.rh_model.specs.ClusterView.{node_count, app_count, numbered, app_numbered, group_of}
use Rattle.rh_state.specs.declared.status.Kind.{Kind}
use Rattle.rh_state.specs.declared.status.Kind.TheVariants.{Normal}
use Rattle.rh_state.specs.declared.status.Standing.{Standing}
use Rattle.rh_state.specs.declared.status.Standing.TheVariants.{Quiet, Wanted, Running}
use Rattle.rh_state.specs.Numbers.{same_app}
use Rattle.rh_state.specs.Tables.{row}
use Rattle.rh_state.specs.Lists.{without_app}
use Rattle.rh_state.specs.Shape.{IsShaped, IsNodeOf, IsStandingOf, OnceAtEachNode}
use Rattle.rh_state.specs.StateView.{StateView, runs_at, waits_at, standing_of}
use Rattle.rh_state.specs.Setters.{unlisted, with_running, with_waiting}
use Rattle.rh_base.proofs.Lists.{cases}
use Rattle.rh_rules.specs.declared.notice.Move.{Move}
use Rattle.rh_rules.specs.declared.notice.Move.TheVariants.{Local, Placement, Takeover}
use Rattle.rh_rules.specs.Moves.{comes_before, with_started, with_stopped, moved_state}
use Rattle.rh_trace.specs.Making.{CanBeMade}
use Rattle.rh_trace.specs.Validity.{RunsWhereItStands}
use Rattle.rh_base.proofs.Truths.{or_left, or_right, same_number, both}
use Rattle.rh_trace.proofs.Places.{at_set_here, at_set_there, started_on}
use Rattle.rh_trace.proofs.Entries.{other_number, is_false, taken, put, has, taken_has, taken_not, taken_keeps, there, put_has, put_keeps}
use Rattle.rh_trace.proofs.Entries.{put_gives, once_taken, once_put, row_there, length_taken, length_put}
use Rattle.rh_trace.proofs.Points.{not_before}
use Rattle.rh_trace.proofs.Falls.{Progresses}

-- ---- no application stands twice
once_unlisted : (s : StateView) (n : Node) (a : App) → OnceAtEachNode s → OnceAtEachNode (unlisted s n a)
once_unlisted s n a h = record {
  running = λ m. once_taken s.running n.0 m.0 a (h.running n) (h.running m);
  waiting = λ m. once_taken s.waiting n.0 m.0 a (h.waiting n) (h.waiting m);
  apart = λ m b w. is_false _ (λ r. both (runs_at s m b) (taken_has s.running n.0 m.0 a b r) (h.apart m b (taken_has s.waiting n.0 m.0 a b w)));
}

-- the pair (m, b) is (n, a)
pub at_pair : (table : List (List App)) (n m : ℕ) (a b : App) → m ≡ n → same_app b a ≡ true → has table m b ≡ has table n a
at_pair table n m a b e t = ap (λ k. has table k b) e ∙ ap (λ k. has table n (app_numbered k)) (same_number b.0 a.0 t)

once_running : (s : StateView) (n : Node) (a : App) → runs_at s n a ≡ false → waits_at s n a ≡ false → OnceAtEachNode s → OnceAtEachNode (with_running s n a)
once_running s n a r w h = record {
  running = λ m. once_put s.running n.0 m.0 a (h.running n) (h.running m) r;
  waiting = h.waiting;
  apart = λ m b waits. is_false _ (λ runs. put_has s.running n.0 m.0 a b runs
      (λ before. both (runs_at s m b) before (h.apart m b waits))
      (λ e t. both (waits_at s n a) (sym (at_pair s.waiting n.0 m.0 a b e t) ∙ waits) w));
}

pub once_waiting : (s : StateView) (n : Node) (a : App) → runs_at s n a ≡ false → waits_at s n a ≡ false → OnceAtEachNode s
    → OnceAtEachNode (with_waiting s n a)
once_waiting s n a r w h = record {
  running = h.running;
  waiting = λ m. once_put s.waiting n.0 m.0 a (h.waiting n) (h.waiting m) w;
  apart = λ m b waits. put_has s.waiting n.0 m.0 a b waits
      (λ before. h.apart m b before)
      (λ e t. at_pair s.running n.0 m.0 a b e t ∙ r);
}

once_started : (s : StateView) (n : Node) (a : App) (k : Kind) → n.0 < length s.running → n.0 < length s.waiting → OnceAtEachNode s
    → OnceAtEachNode (with_started s n a k)
once_started s n a k r w h =
    let o = once_running (unlisted s n a) n a (taken_not s.running n.0 a r) (taken_not s.waiting n.0 a w) (once_unlisted s n a h) in
    record { running = o.running; waiting = o.waiting; apart = o.apart }

once_stopped : (s : StateView) (n : Node) (a : App) → n.0 < length s.running → n.0 < length s.waiting → OnceAtEachNode s → OnceAtEachNode (with_stopped s n a)
once_stopped s n a r w h = once_waiting (unlisted s n a) n a (taken_not s.running n.0 a r) (taken_not s.waiting n.0 a w) (once_unlisted s n a h)

-- ---- where each runs
started_runs : (s : StateView) (n m : Node) (a b : App) (k : Kind) → n.0 < length s.running → runs_at s m b ≡ true → runs_at (with_started s n a k) m b ≡ true
started_runs s n m a b k lt h = cases (same_app b a)
    (λ t. cases (nat_eq m.0 n.0)
    (λ e. ap (λ i. has (put (taken s.running n.0 a) n.0 a) i b) (same_number m.0 n.0 e)
    ∙ put_gives (taken s.running n.0 a) n.0 a b (sized_taken s.running n.0 a lt) t)
    (λ d. there (taken s.running n.0 a) n.0 m.0 (row (taken s.running n.0 a) n.0 ++ a ∷ []) b (other_number m.0 n.0 d)
    ∙ there s.running n.0 m.0 (without_app (row s.running n.0) a) b (other_number m.0 n.0 d) ∙ h))
    (λ f. put_keeps (taken s.running n.0 a) n.0 m.0 a b (taken_keeps s.running n.0 m.0 a b f h))
  where
    sized_taken : (table : List (List App)) (n : ℕ) (a : App) → n < length table → n < length (taken table n a)
    sized_taken table n a lt = let e = length-set table n (without_app (row table n) a) in omega (arith, e)

started_here : (s : StateView) (n : Node) (a b : App) (k : Kind) → n.0 < length s.running → same_app b a ≡ true → runs_at (with_started s n a k) n b ≡ true
started_here s n a b k lt t = put_gives (taken s.running n.0 a) n.0 a b
    (let e = length-set s.running n.0 (without_app (row s.running n.0) a) in omega (arith, e)) t

pub same_running : (x y : Node) → Running x ≡ Running y → x ≡ y
same_running x y e = cc

-- the standings are those of s, but that a runs at n; it runs there, and what runs in s still runs, but for a
runs_after : (s t : StateView) (n : Node) (a : App) → t.standings ≡ slice_set s.standings a.0 (Running n) → a.0 < length s.standings
    → ((b : App) → same_app b a ≡ true → runs_at t n b ≡ true) → ((m : Node) (b : App) → same_app b a ≡ false → runs_at s m b ≡ true → runs_at t m b ≡ true)
    → RunsWhereItStands s → RunsWhereItStands t
runs_after s t n a is lt here others h = record {
  runs = λ b m e. cases (same_app b a)
      (λ f. let now : standing_of t b ≡ Running n =
      ap (λ (xs : List Standing). unwrap_or (slice_get xs b.0) Quiet) is
      ∙ ap (λ k. unwrap_or (slice_get (slice_set s.standings a.0 (Running n)) k) Quiet) (same_number b.0 a.0 f)
      ∙ at_set_here s.standings a.0 (Running n) Quiet lt in
      let at : n ≡ m = same_running n m (sym now ∙ e) in
      ap (λ (k : Node). runs_at t k b) (sym at) ∙ here b f)
      (λ d. let before : standing_of t b ≡ standing_of s b =
      ap (λ (xs : List Standing). unwrap_or (slice_get xs b.0) Quiet) is
      ∙ at_set_there s.standings a.0 b.0 (Running n) Quiet (other_number b.0 a.0 d) in
      others m b d (h.runs b m (sym before ∙ e)));
}

-- a group doesn't come before itself
pub elsewhere : (s : StateView) (a : App) (m n : Node) → comes_before (group_of s.cluster a n) (group_of s.cluster a m) ≡ true → m.0 ≢ n.0
elsewhere s a m n h e = both (comes_before (group_of s.cluster a n) (group_of s.cluster a n))
    (ap (λ k. comes_before (group_of s.cluster a n) (group_of s.cluster a (numbered k))) (sym e) ∙ h)
    (not_before (group_of s.cluster a n))

-- what is moved is of the cluster
module _ (s : StateView) (shape : IsShaped s) where
  stood : (a : App) (xs : List Standing) (i : ℕ) → All (IsStandingOf s.cluster) xs → IsStandingOf s.cluster (unwrap_or (slice_get xs i) Quiet)
  stood a [] i all = tt
  stood a (x ∷ xs) zero all = all 0 x (omega arith)
  stood a (x ∷ xs) (suc i) all = stood a xs i (λ k d l. all (suc k) d (omega arith))

  stands_within : (a : App) (st : Standing) → standing_of s a ≡ st → IsStandingOf s.cluster st
  stands_within a st e = subst (IsStandingOf s.cluster) e (stood a s.standings a.0 shape.standing_nodes)

  from_within : (a : App) (from : Option Node) → standing_of s a ≡ Wanted from → IfSome from (IsNodeOf s.cluster)
  from_within a None e = tt
  from_within a (Some m) e = stands_within a (Wanted (Some m)) e

  pub can_be_made : RunsWhereItStands s → (m : Move) → Progresses s m → CanBeMade s m
  can_be_made h (Local n a) p = record { node = p.0; app = p.1; started = started_on s n a (or_right (runs_at s n a) _ p.3) }
  can_be_made h (Placement a from n) p = (record { node = p.0; app = p.1; started = started_on s n a p.3 }, from_within a from p.2)
  can_be_made h (Takeover a m n) p = (
    record { node = p.0; app = p.1; started = started_on s n a p.5 },
    record { node = stands_within a (Running m) p.2; app = p.1; started = started_on s m a (or_left (runs_at s m a) _ (h.runs a m p.2)) },
    elsewhere s a m n p.3,
  )

-- a move keeps all of this
module _ (s : StateView) (shape : IsShaped s) where
  in_running : (n : Node) → n.0 < node_count s.cluster → n.0 < length s.running
  in_running n lt = let e = shape.running in omega (arith, e)

  in_waiting : (n : Node) → n.0 < node_count s.cluster → n.0 < length s.waiting
  in_waiting n lt = let e = shape.waiting in omega (arith, e)

  in_standings : (a : App) → a.0 < app_count s.cluster → a.0 < length s.standings
  in_standings a lt = let e = shape.standings in omega (arith, e)

  pub once_moved : RunsWhereItStands s → (m : Move) → Progresses s m → OnceAtEachNode s → OnceAtEachNode (moved_state s m)
  once_moved runs (Local n a) p h = once_started s n a Normal (in_running n p.0) (in_waiting n p.0) h
  once_moved runs (Placement a from n) p h =
      let o = once_started s n a Normal (in_running n p.0) (in_waiting n p.0) h in
      record { running = o.running; waiting = o.waiting; apart = o.apart }
  once_moved runs (Takeover a m n) p h =
      let t : StateView = with_started s n a Normal in
      let l : m.0 < length s.running = row_there s.running m.0 a (runs.runs a m p.2) in
      let r : m.0 < length t.running = (let e = length_put (taken s.running n.0 a) n.0 a in let f = length_taken s.running n.0 a in omega (arith, e, f, l)) in
      let w : m.0 < length t.waiting = (let e = length_taken s.waiting n.0 a in let f = shape.running in let g = shape.waiting in omega (arith, e, f, g, l)) in
      let o = once_stopped t m a r w (once_started s n a Normal (in_running n p.0) (in_waiting n p.0) h) in
      record { running = o.running; waiting = o.waiting; apart = o.apart }

  pub runs_moved : (m : Move) → Progresses s m → RunsWhereItStands s → RunsWhereItStands (moved_state s m)
  runs_moved (Local n a) p h = record { runs = λ b m e. started_runs s n m a b Normal (in_running n p.0) (h.runs b m e) }
  runs_moved (Placement a from n) p h =
      runs_after s (moved_state s (Placement a from n)) n a refl (in_standings a p.1)
      (λ b t. started_here s n a b Normal (in_running n p.0) t)
      (λ m b d r. started_runs s n m a b Normal (in_running n p.0) r) h
  runs_moved (Takeover a m n) p h =
      let t : StateView = with_started s n a Normal in
      runs_after s (moved_state s (Takeover a m n)) n a refl (in_standings a p.1)
      (λ b f. there t.running m.0 n.0 (without_app (row t.running m.0) a) b (λ e. elsewhere s a m n p.3 (sym e))
      ∙ started_here s n a b Normal (in_running n p.0) f)
      (λ k b d r. taken_keeps t.running m.0 k.0 a b d (started_runs s n k a b Normal (in_running n p.0) r)) h
