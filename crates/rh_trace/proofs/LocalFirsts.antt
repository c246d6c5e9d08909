-- The next local moves are the enabled ones before which no other enabled one goes.
use Rattle.std.proofs.Common.{◌≡◌, ℕ, ◌<◌, inl, suc, Bool, true, false, cond, ◌&&◌, ◌||◌, List, [], ◌∷◌, nat_eq, nat_lt, Some, refl, sym, ap, ◌∙◌, arith, subst}
use Rattle.std.specs.List.{position}
use Rattle.std.specs.Option.{option_map}
use Rattle.std.proofs.lemmas.Bool.Decides.{nat_tests}
use Rattle.rh_model.specs.declared.node.Node.{Node}
use Rattle.rh_model.specs.declared.node.App.{App}
use Rattle.rh_model.specs.ClusterView.{numbered, app_numbered}
use Rattle.rh_state.specs.Numbers.{same_app}
use Rattle.rh_state.specs.Lists.{has_app}
use Rattle.rh_state.specs.StateView.{StateView, waiting_at}
use Rattle.rh_base.specs.Lists.{or_else, first_given}
use Rattle.rh_base.proofs.Lists.{cases}
use Rattle.rh_rules.specs.declared.notice.Move.{Move}
use Rattle.rh_rules.specs.declared.notice.Move.TheVariants.{Local}
use Rattle.rh_rules.specs.Moves.{comes_before, can_start, local_move, local_moves}
use Rattle.rh_rules.specs.Settling.{stands_before, goes_before}
use Rattle.rh_base.proofs.Truths.{same_refl, or_left, or_right, both, same_number}
use Rattle.rh_trace.proofs.Falls.{app_of}
use Rattle.rh_trace.proofs.InGroups.{position_cons, none_before, before_suc, first_before}
use Rattle.rh_trace.proofs.Firsts.{either_of, Firsts, firsts_nil, firsts_as}

-- ---- the local moves at a node, by their place in the list
abbrev pub InLine : StateView → Node → List App → Move → Type 0
InLine s n xs m = (m ≡ Local n (app_of m)) × (has_app xs (app_of m) ≡ true) × (can_start s n (app_of m) ≡ true)

abbrev line_before : List App → Move → Move → Bool
line_before xs m o = stands_before xs (app_of m) (app_of o)

place_here : (x : App) (xs : List App) (a : App) → same_app a x ≡ true → position (same_app a) (x ∷ xs) ≡ Some 0
place_here x xs a t = position_cons (same_app a) x xs ∙ ap (λ b. cond b (Some 0) (option_map suc (position (same_app a) xs))) t

place_later : (x : App) (xs : List App) (a : App) → same_app a x ≡ false → position (same_app a) (x ∷ xs) ≡ option_map suc (position (same_app a) xs)
place_later x xs a f = position_cons (same_app a) x xs ∙ ap (λ b. cond b (Some 0) (option_map suc (position (same_app a) xs))) f

same_start : (s : StateView) (n : Node) (x a : App) → same_app a x ≡ true → can_start s n a ≡ can_start s n x
same_start s n x a t = ap (λ k. can_start s n (app_numbered k)) (same_number a.0 x.0 t)

starts_here : (s : StateView) (n : Node) (x : App) (xs : List App) → can_start s n x ≡ true
    → Firsts (line_before (x ∷ xs)) (InLine s n (x ∷ xs)) (Local n x ∷ [])
starts_here s n x xs t =
    let at : position (same_app x) (x ∷ xs) ≡ Some 0 = place_here x xs x (same_refl x.0) in
    let e : InLine s n (x ∷ xs) (Local n x) = (refl, or_left (same_app x x) (has_app xs x) (same_refl x.0), t) in record {
      each = λ m i. either_of i
          (λ k. subst (λ m. InLine s n (x ∷ xs) m × ((o : Move) → InLine s n (x ∷ xs) o → line_before (x ∷ xs) o m ≡ false)) k
          (e, λ o l. ap (comes_before (position (same_app (app_of o)) (x ∷ xs))) at ∙ none_before (position (same_app (app_of o)) (x ∷ xs))))
          (λ k. absurd k);
      all = λ m l h. inl (cases (same_app (app_of m) x)
          (λ u. ap (λ k. Local n (app_numbered k)) (sym (same_number (app_of m).0 x.0 u)) ∙ sym l.0)
          (λ f. both (line_before (x ∷ xs) (Local n x) m)
          (ap (λ q. comes_before q (position (same_app (app_of m)) (x ∷ xs))) at ∙ ap (comes_before (Some 0)) (place_later x xs (app_of m) f)
          ∙ first_before (position (same_app (app_of m)) xs))
          (h (Local n x) e)));
      none = λ z m l. not_nil (Local n x) z;
    }
  where
    not_nil : (m : Move) → m ∷ [] ≡ [] → ⊥
    not_nil m z = cc

starts_later : (s : StateView) (n : Node) (x : App) (xs : List App) (ms : List Move) → can_start s n x ≡ false → Firsts (line_before xs) (InLine s n xs) ms
    → Firsts (line_before (x ∷ xs)) (InLine s n (x ∷ xs)) ms
starts_later s n x xs ms f r =
    let other : (a : App) → can_start s n a ≡ true → same_app a x ≡ false =
    λ a t. cases (same_app a x) (λ u. both (can_start s n x) (sym (same_start s n x a u) ∙ t) f) (λ v. v) in
    firsts_as (line_before xs) (line_before (x ∷ xs)) (InLine s n xs) (InLine s n (x ∷ xs)) ms
    (λ m l. (l.0, or_right (same_app (app_of m) x) (has_app xs (app_of m)) l.1, l.2))
    (λ m l. (l.0, sym (ap (λ b. b || has_app xs (app_of m)) (other (app_of m) l.2)) ∙ l.1, l.2))
    (λ m o l k. sym (ap (λ q. comes_before q (position (same_app (app_of o)) (x ∷ xs))) (place_later x xs (app_of m) (other (app_of m) l.2))
    ∙ ap (comes_before (option_map suc (position (same_app (app_of m)) xs))) (place_later x xs (app_of o) (other (app_of o) k.2))
    ∙ before_suc (position (same_app (app_of m)) xs) (position (same_app (app_of o)) xs)))
    r

in_line : (s : StateView) (n : Node) (xs : List App) → Firsts (line_before xs) (InLine s n xs) (first_given (local_move s n) xs)
in_line s n [] = firsts_nil (line_before []) (InLine s n []) (λ m l. both false l.1 refl)
in_line s n (x ∷ xs) =
    let rest = in_line s n xs in
    let ms : List Move = first_given (local_move s n) xs in
    cases (can_start s n x)
    (λ t. subst (Firsts (line_before (x ∷ xs)) (InLine s n (x ∷ xs))) (sym (ap (λ b. or_else (cond b (Local n x ∷ []) []) ms) t)) (starts_here s n x xs t))
    (λ f. subst (Firsts (line_before (x ∷ xs)) (InLine s n (x ∷ xs))) (sym (ap (λ b. or_else (cond b (Local n x ∷ []) []) ms) f))
    (starts_later s n x xs ms f rest))

-- ---- order of numbers
pub less : (i j : ℕ) → i < j → nat_lt i j ≡ true
less i j h = grind (arith, nat_tests)

pub not_less : (i j : ℕ) → i < j → nat_lt j i ≡ false
not_less i j h = grind (arith, nat_tests)

pub not_itself : (i : ℕ) → nat_lt i i ≡ false
not_itself i = grind (arith, nat_tests)

differ : (i j : ℕ) → i < j → nat_eq j i ≡ false
differ i j h = grind (arith, nat_tests)

-- ---- the local moves of all nodes
abbrev pub LocalAt : StateView → ℕ → Move → Type 0
LocalAt s k = InLine s (numbered k) (waiting_at s (numbered k))

pub before_is : (s : StateView) (m o p q : Move) → m ≡ p → o ≡ q → goes_before s m o ≡ goes_before s p q
before_is s m o p q e f = ap (λ r. goes_before s r o) e ∙ ap (goes_before s p) f

here_before : (i : ℕ) (b : Bool) → nat_lt i i || (nat_eq i i && b) ≡ b
here_before i b = rw (not_itself i, same_refl i) refl

pub locals_at : (s : StateView) (k : ℕ) → Firsts (goes_before s) (LocalAt s k) (local_moves s (numbered k))
unfolding local_moves
locals_at s k =
    firsts_as (line_before (waiting_at s (numbered k))) (goes_before s) (LocalAt s k) (LocalAt s k)
    (first_given (local_move s (numbered k)) (waiting_at s (numbered k)))
    (λ m l. l) (λ m l. l)
    (λ m o l h. sym (before_is s m o (Local (numbered k) (app_of m)) (Local (numbered k) (app_of o)) l.0 h.0
    ∙ here_before k (line_before (waiting_at s (numbered k)) m o)))
    (in_line s (numbered k) (waiting_at s (numbered k)))

pub locals_apart : (s : StateView) (i j : ℕ) → i < j → (m o : Move) → LocalAt s i m → LocalAt s j o → (goes_before s m o ≡ true) × (goes_before s o m ≡ false)
locals_apart s i j lt m o l h = (
  before_is s m o (Local (numbered i) (app_of m)) (Local (numbered j) (app_of o)) l.0 h.0
      ∙ ap (λ b. b || (nat_eq i j && line_before (waiting_at s (numbered i)) m o)) (less i j lt),
  before_is s o m (Local (numbered j) (app_of o)) (Local (numbered i) (app_of m)) h.0 l.0
      ∙ neither (nat_lt j i) (nat_eq j i) (line_before (waiting_at s (numbered j)) o m) (not_less i j lt) (differ i j lt),
)
  where
    neither : (p q r : Bool) → p ≡ false → q ≡ false → p || (q && r) ≡ false
    neither p q r e f = rw (e, f) refl
