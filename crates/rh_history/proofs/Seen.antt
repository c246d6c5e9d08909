-- What is seen of a history, through each of its calls.
use Rattle.std.proofs.Common.{◌≡◌, ℕ, ◌+◌, ◌-◌, ◌<◌, ◌≤◌, List, [], ◌∷◌, ◌++◌, Some, length, take, drop, get_or, set, refl, sym, ap, subst, ◌∙◌, arith}
use Rattle.std.proofs.lemmas.List.{length-set}
use Rattle.std.proofs.lemmas.List.Elements.{All-nil, All-cons, All-append, All-set, All-get_or, All-head, All-tail}
use Rattle.std.proofs.lemmas.Option.{slice_get-get_or, get_or_from_slice_get}
use Rattle.std.specs.Prelude.{All}
use Rattle.rh_base.specs.Exchanges.{back, backed, forth, forthed}
use Rattle.rh_base.proofs.Exchanges.{back-append}
use Rattle.rh_history.specs.declared.change.Change.{Change}
use Rattle.rh_history.specs.Change.{put, had, IsAmong}
use Rattle.rh_history.specs.HistoryView.{HistoryView, IsHistory, IsClosed, at_step, committed}
use Rattle.rh_history.specs.States.{befores, behinds, states_of, seen, IsKept}
use Rattle.rh_history.proofs.States.{put_twice, length-back, length-forth, length-states, state_here, undo_states, redo_states, commit_states}

-- ---- changes that were turned are of the same cells
backed_among : {T : Type 0} (n : ℕ) (w : List T) (cs : List (Change T)) → All (IsAmong n) cs → All (IsAmong n) (backed put had w cs)
backed_among n w [] all = All-nil (IsAmong n)
backed_among n w (c ∷ cs) all =
    All-cons (IsAmong n) (had (back put w cs) c) (backed put had w cs) (All-head (IsAmong n) c cs all) (backed_among n w cs (All-tail (IsAmong n) c cs all))

forthed_among : {T : Type 0} (n : ℕ) (w : List T) (cs : List (Change T)) → All (IsAmong n) cs → All (IsAmong n) (forthed put had w cs)
forthed_among n w [] all = All-nil (IsAmong n)
forthed_among n w (c ∷ cs) all =
    All-cons (IsAmong n) (had w c) (forthed put had (put w c) cs) (All-head (IsAmong n) c cs all) (forthed_among n (put w c) cs (All-tail (IsAmong n) c cs all))

-- ---- behind each number of steps there are as many cells
length-backs : {T : Type 0} (w : List T) (rs : List (List (Change T))) → length (back (back put) w rs) ≡ length w
length-backs w [] = refl
length-backs w (r ∷ rs) = length-back (back (back put) w rs) r ∙ length-backs w rs

long_befores : {T : Type 0} (n : ℕ) (w : List T) (rs : List (List (Change T))) → length w ≡ n → All (λ v. length v ≡ n) (befores (back put) w rs)
long_befores {T} n w [] is = let P : List T → Type 0 = λ v. length v ≡ n in All-nil P
long_befores {T} n w (r ∷ rs) is =
    let P : List T → Type 0 = λ v. length v ≡ n in
    All-cons P (back (back put) w (r ∷ rs)) (befores (back put) w rs) (length-backs w (r ∷ rs) ∙ is) (long_befores n w rs is)

long_behinds : {T : Type 0} (n : ℕ) (w : List T) (rs : List (List (Change T))) → length w ≡ n → All (λ v. length v ≡ n) (behinds (forth put) w rs)
long_behinds {T} n w [] is = let P : List T → Type 0 = λ v. length v ≡ n in All-nil P
long_behinds {T} n w (r ∷ rs) is =
    let P : List T → Type 0 = λ v. length v ≡ n in
    let more : length (forth put w r) ≡ n = length-forth w r ∙ is in
    All-cons P (forth put w r) (behinds (forth put) (forth put w r) rs) more (long_behinds n (forth put w r) rs more)

long_states : {T : Type 0} (n : ℕ) (w : List T) (rs : List (List (Change T))) (c : ℕ) → length w ≡ n → All (λ v. length v ≡ n) (states_of w rs c)
unfolding states_of
long_states {T} n w rs c is =
    let P : List T → Type 0 = λ v. length v ≡ n in
    All-append P (befores (back put) w (take c rs)) (w ∷ behinds (forth put) w (drop c rs)) (long_befores n w (take c rs) is)
    (All-cons P w (behinds (forth put) w (drop c rs)) is (long_behinds n w (drop c rs) is))

module _ {T : Type 0} (w : List T) (rs : List (List (Change T))) (ps : List (Change T)) (c : ℕ) (within : c ≤ length rs) where
  -- the cells at the cursor
  abbrev base : List T
  base = back put w ps

  pub seen_states : length (states_of base rs c) ≡ length rs + 1
  seen_states = length-states base rs c within

  pub seen_is_history : IsHistory (seen w rs ps c)
  seen_is_history = record { within = omega (arith, seen_states, within); long = long_states (length w) base rs c (length-back w ps) }

  pub seen_closed : ps ≡ [] → IsClosed (seen w rs ps c)
  seen_closed none =
      slice_get-get_or (states_of base rs c) c w (omega (arith, seen_states, within))
      ∙ ap Some (state_here base rs c within w ∙ ap (back put w) none)

  pub seen_put : (d : Change T) → seen (put w d) rs (ps ++ had w d ∷ []) c ≡ record (seen w rs ps c) { now = put w d }
  seen_put d =
      let same : back put (put w d) (ps ++ had w d ∷ []) ≡ base = back-append put (put w d) ps (had w d ∷ []) ∙ ap (λ u. back put u ps) (put_twice w d) in
      λ i. record { now = put w d; states = states_of (same i) rs c; cursor = c }

  pub seen_roll_back : seen base rs [] c ≡ at_step (seen w rs ps c) c
  seen_roll_back = λ i. record { now = sym (state_here base rs c within []) i; states = states_of base rs c; cursor = c }

  pub seen_commit : seen w (take c rs ++ ps ∷ []) [] (c + 1) ≡ committed (seen w rs ps c)
  seen_commit = λ i. record { now = w; states = commit_states w rs c ps within i; cursor = c + 1 }

  -- no step is open
  module _ (closed : IsClosed (seen w rs ps c)) where
    base_is : base ≡ w
    base_is = sym (state_here base rs c within w) ∙ get_or_from_slice_get (states_of base rs c) c w w closed

    module _ (v : List T) (qs : List (List (Change T))) (k : ℕ) (reach : k ≤ length qs) (same : states_of v qs k ≡ states_of base rs c) where
      seen_move : seen v qs [] k ≡ at_step (seen w rs ps c) k
      seen_move =
          let now : v ≡ get_or (states_of base rs c) k [] = sym (state_here v qs k reach []) ∙ ap (λ us. get_or us k []) same in
          λ i. record { now = now i; states = same i; cursor = k }

    pub seen_undo : 0 < c → seen (back put w (get_or rs (c - 1) [])) (set rs (c - 1) (backed put had w (get_or rs (c - 1) []))) [] (c - 1)
        ≡ at_step (seen w rs ps c) (c - 1)
    seen_undo some =
        let r : List (Change T) = get_or rs (c - 1) [] in
        let inside : c - 1 < length rs = omega (arith, some, within) in
        let place : c - 1 + 1 ≡ c = omega (arith, some) in
        seen_move (back put w r) (set rs (c - 1) (backed put had w r)) (c - 1) (omega (arith, length-set rs (c - 1) (backed put had w r), inside))
        (undo_states w rs (c - 1) r inside refl ∙ (λ i. states_of (sym base_is i) rs (place i)))

    pub seen_redo : c < length rs → seen (forth put w (get_or rs c [])) (set rs c (forthed put had w (get_or rs c []))) [] (c + 1)
        ≡ at_step (seen w rs ps c) (c + 1)
    seen_redo inside =
        let r : List (Change T) = get_or rs c [] in
        seen_move (forth put w r) (set rs c (forthed put had w r)) (c + 1) (omega (arith, length-set rs c (forthed put had w r), inside))
        (redo_states w rs c r inside refl ∙ (λ i. states_of (sym base_is i) rs c))

-- ---- what is kept
module _ {T : Type 0} (w : List T) (rs : List (List (Change T))) (ps : List (Change T)) (c k : ℕ) (kept : IsKept w rs ps c) (inside : k < length rs) where
  each : All (IsAmong (length w)) (get_or rs k [])
  each = All-get_or (All (IsAmong (length w))) rs k [] inside kept.steps

  moved : (v : List T) (r : List (Change T)) (n : ℕ) → n ≤ length rs → length v ≡ length w → All (IsAmong (length w)) r → IsKept v (set rs k r) [] n
  moved v r n reach long all = record {
    within = omega (arith, reach, length-set rs k r);
    steps = subst (λ m. All (All (IsAmong m)) (set rs k r)) (sym long) (All-set (All (IsAmong (length w))) rs k r all kept.steps);
    open_step = All-nil (IsAmong (length v));
  }

  pub undo_kept : k ≤ length rs → IsKept (back put w (get_or rs k [])) (set rs k (backed put had w (get_or rs k []))) [] k
  undo_kept reach =
      moved (back put w (get_or rs k [])) (backed put had w (get_or rs k [])) k reach (length-back w (get_or rs k []))
      (backed_among (length w) w (get_or rs k []) each)

  pub redo_kept : IsKept (forth put w (get_or rs k [])) (set rs k (forthed put had w (get_or rs k []))) [] (k + 1)
  redo_kept =
      moved (forth put w (get_or rs k [])) (forthed put had w (get_or rs k [])) (k + 1) (omega (arith, inside)) (length-forth w (get_or rs k []))
      (forthed_among (length w) w (get_or rs k []) each)

-- ---- a history that stands behind a step
pub stands : {T : Type 0} (h o : HistoryView T) (k : ℕ) → h.states ≡ o.states → IsClosed h → h.cursor ≡ k → h ≡ at_step o k
stands h o k same closed at =
    let now : h.now ≡ get_or o.states k [] = sym (get_or_from_slice_get h.states h.cursor h.now [] closed) ∙ (λ i. get_or (same i) (at i) []) in
    λ i. record { now = now i; states = same i; cursor = at i }

pub at_step_closed : {T : Type 0} (h : HistoryView T) (k : ℕ) → k < length h.states → IsClosed (at_step h k)
at_step_closed h k inside = slice_get-get_or h.states k [] inside

-- ---- a history as its functions meet it
pub kept_same : {T : Type 0} (w v : List T) (rs qs : List (List (Change T))) (ps us : List (Change T)) (k : ℕ) → w ≡ v → rs ≡ qs → ps ≡ us
    → IsKept v qs us k → IsKept w rs ps k
kept_same w v rs qs ps us k cells records pending kept = subst (λ x. IsKept x rs ps k) (sym cells)
    (subst (λ xs. IsKept v xs ps k) (sym records) (subst (λ xs. IsKept v qs xs k) (sym pending) kept))

pub states_are : {T : Type 0} (w : List T) (rs : List (List (Change T))) (ps : List (Change T)) (c : ℕ) (h : HistoryView T) → c ≤ length rs → seen w rs ps c ≡ h
    → length h.states ≡ length rs + 1
states_are w rs ps c h within is = (λ i. length (sym is i).states) ∙ seen_states w rs ps c within
