-- Where no fresh pair can call an application away, none is taken over.
use Rattle.std.proofs.Common.{◌≡◌, ◌<◌, ◌==◌, ◌&&◌, ◌||◌, ℕ, zero, suc, Bool, true, false, List, [], ◌∷◌, ◌++◌, length, take, get_or, refl, sym, ap, ◌∙◌, arith}
use Rattle.std.specs.List.{list_any, position}
use Rattle.rh_model.specs.declared.node.Node.{Node}
use Rattle.rh_model.specs.declared.node.App.{App}
use Rattle.rh_model.specs.ClusterView.{group_of, numbered, app_numbered}
use Rattle.rh_state.specs.declared.status.Standing.{Standing}
use Rattle.rh_state.specs.declared.status.Standing.TheVariants.{Quiet, Wanted, Running, Lost}
use Rattle.rh_state.specs.StateView.{StateView, standing_of}
use Rattle.rh_base.proofs.Lists.{cases}
use Rattle.rh_rules.specs.Placing.{is_operational}
use Rattle.rh_rules.specs.declared.notice.Pair.{Pair}
use Rattle.rh_rules.specs.Course.{is_fresh}
use Rattle.rh_rules.specs.Moves.{comes_before, calls_away, takeovers, takeovers_from}
use Rattle.rh_settle.specs.Calls.{runs_behind, can_call}
use Rattle.rh_settle.proofs.Boards.{not_taken}
use Rattle.rh_base.proofs.Truths.{same_number}
use Rattle.rh_settle.proofs.GroupWalks.{neither, behind, passed}
use Rattle.rh_trace.proofs.NextMoves.{left_true, right_true}

-- ---- a walk to the first group that has either of two nodes
-- what is there first comes before
pub comes_first : {A : Type 0} (p q : A → Bool) (xs : List A) (i : ℕ) (d : A) → i < length xs → list_any q (take i xs) ≡ false
    → q (get_or xs i d) ≡ false → p (get_or xs i d) ≡ true → comes_before (position p xs) (position q xs) ≡ true
comes_first p q [] i d lt apart other here = absurd (omega arith)
comes_first p q (x ∷ xs) zero d lt apart other here =
    ap (comes_before (position p (x ∷ xs))) (passed q x xs other)
    ∙ behind p x xs (position q xs) (comes_before (position p xs) (position q xs)) refl
    ∙ ap (λ b. b || comes_before (position p xs) (position q xs)) here
comes_first p q (x ∷ xs) (suc i) d lt apart other here =
    let none = neither (q x) (list_any q (take i xs)) apart in
    ap (comes_before (position p (x ∷ xs))) (passed q x xs none.0)
    ∙ behind p x xs (position q xs) true (comes_first p q xs i d (omega arith) none.1 other here)
    ∙ or_yes (p x)
  where
    or_yes : (b : Bool) → b || true ≡ true
    or_yes true = refl
    or_yes false = refl

-- ---- where no pair can call
-- none in one list and none in the other
pub none_in_both : {A : Type 0} (p : A → Bool) (xs ys : List A) → list_any p xs ≡ false → list_any p ys ≡ false → list_any p (xs ++ ys) ≡ false
none_in_both p [] ys none others = others
none_in_both p (x ∷ xs) ys none others =
    let no = neither (p x) (list_any p xs) none in
    ap (λ b. b || list_any p (xs ++ ys)) no.0 ∙ none_in_both p xs ys no.1 others

-- of pairs of which none can, no node of a fresh pair can
none_can : (s : StateView) (fresh : List Pair) (n : Node) (a : App) → list_any (can_call s) fresh ≡ false → is_fresh fresh n a ≡ true
    → can_call s (record { node = n; app = a }) ≡ false
none_can s [] n a none here = cc
none_can s (p ∷ ps) n a none here =
    let no = neither (can_call s p) (list_any (can_call s) ps) none in
    cases ((n.0 == p.node.0) && (a.0 == p.app.0))
    (λ t. ap (λ (i : ℕ). can_call s (record { node = numbered i; app = a })) (same_number n.0 p.node.0 (left_true _ _ t))
    ∙ ap (λ (i : ℕ). can_call s (record { node = p.node; app = app_numbered i })) (same_number a.0 p.app.0 (right_true (n.0 == p.node.0) _ t))
    ∙ no.0)
    (λ f. none_can s ps n a no.1 (sym (ap (λ b. b || is_fresh ps n a) f) ∙ here))

-- so none does
none_does : (s : StateView) (fresh : List Pair) (a : App) (m n : Node) → list_any (can_call s) fresh ≡ false → standing_of s a ≡ Running m
    → calls_away s fresh a m n ≡ false
unfolding calls_away can_call
none_does s fresh a m n none stands = cases (is_fresh fresh n a)
    (λ t. ap (λ b. b && (is_fresh fresh n a && is_operational s a n))
    (sym (ap (runs_behind s.cluster a n) stands) ∙ none_can s fresh n a none t))
    (λ f. ap (λ b. comes_before (group_of s.cluster a n) (group_of s.cluster a m) && (b && is_operational s a n)) f ∙ and_no _)
  where
    and_no : (p : Bool) → p && false ≡ false
    and_no true = refl
    and_no false = refl

-- and none is taken over
pub uncalled_stays : (s : StateView) (fresh : List Pair) (a : App) → list_any (can_call s) fresh ≡ false → takeovers s fresh a ≡ []
unfolding takeovers
uncalled_stays s fresh a none = by (standing_of s a) refl
  where
    by : (st : Standing) → standing_of s a ≡ st → takeovers_from s fresh a st ≡ []
    by Quiet e = refl
    by (Wanted _) e = refl
    by (Lost _) e = refl
    by (Running m) e = not_taken s fresh a m (λ n. none_does s fresh a m n none e)
