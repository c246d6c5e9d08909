-- The moves of a set before which no other of it goes, and how a search for the first that is given finds them.
use Rattle.std.proofs.Common.{◌≡◌, ℕ, ◌+◌, ◌<◌, ◌≤◌, ◌⊎◌, inl, inr, zero, suc, Bool, true, false, List, [], ◌∷◌, map, length, get_or, nat_eq, refl, sym, ap}
use Rattle.std.proofs.Common.{◌∙◌, arith, subst}
use Rattle.std.specs.List.{Contains, range_with_len}
use Rattle.rh_base.specs.Lists.{or_else, first_given}
use Rattle.rh_base.proofs.Lists.{cases}
use Rattle.rh_rules.specs.declared.notice.Move.{Move}
use Rattle.rh_trace.proofs.Every.{Every}
use Rattle.rh_base.proofs.Truths.{both, same_number}
use Rattle.rh_trace.proofs.Entries.{other_number}

-- ---- the elements of a list
abbrev pub In : {A : Type 0} → A → List A → Type 0
In x [] = ⊥
In x (y ∷ ys) = (y ≡ x) ⊎ In x ys

pub in_contained : {A : Type 0} (xs : List A) (k : ℕ) (x : A) → k < length xs → get_or xs k x ≡ x → In x xs
in_contained [] k x lt e = absurd (omega arith)
in_contained (y ∷ ys) zero x lt e = inl e
in_contained (y ∷ ys) (suc k) x lt e = inr (in_contained ys k x (omega arith) e)

pub contained_in : {A : Type 0} (xs : List A) (x : A) → In x xs → Contains xs x
contained_in [] x h = absurd h
contained_in (y ∷ ys) x (inl e) = (0, omega arith, e)
contained_in (y ∷ ys) x (inr h) = let c = contained_in ys x h in (suc c.0, (let l = c.1 in omega arith), c.2)

pub every_in : {A : Type 0} (P : A → Type 0) (xs : List A) (x : A) → Every P xs → In x xs → P x
every_in P [] x h i = absurd i
every_in P (y ∷ ys) x h (inl e) = subst P e h.0
every_in P (y ∷ ys) x h (inr i) = every_in P ys x h.1 i

pub empty_of : {A : Type 0} (xs : List A) → ((x : A) → In x xs → ⊥) → xs ≡ []
empty_of [] none = refl
empty_of (x ∷ xs) none = absurd (none x (inl refl))

pub in_map : {A B : Type 0} (f : A → B) (xs : List A) (x : A) → In x xs → In (f x) (map f xs)
in_map f [] x h = h
in_map f (y ∷ ys) x (inl e) = inl (ap f e)
in_map f (y ∷ ys) x (inr h) = inr (in_map f ys x h)

pub of_map : {A B : Type 0} (f : A → B) (xs : List A) (y : B) → In y (map f xs) → (x : A) × In x xs × (f x ≡ y)
of_map f [] y h = absurd h
of_map f (x ∷ xs) y (inl e) = (x, inl refl, e)
of_map f (x ∷ xs) y (inr h) = let r = of_map f xs y h in (r.0, inr r.1, r.2)

pub either_of : {P Q R : Type 0} → P ⊎ Q → (P → R) → (Q → R) → R
either_of (inl p) left right = left p
either_of (inr q) left right = right q

-- ---- those before which none goes
-- a list of exactly these, which is empty only if there is none at all
pub record Firsts (before : Move → Move → Bool) (E : Move → Type 0) (xs : List Move) : Type 0 where
  pub each : (m : Move) → In m xs → E m × ((o : Move) → E o → before o m ≡ false)
  pub all : (m : Move) → E m → ((o : Move) → E o → before o m ≡ false) → In m xs
  pub none : xs ≡ [] → (m : Move) → E m → ⊥

-- none goes before another
pub firsts_flat : (before : Move → Move → Bool) (E : Move → Type 0) (xs : List Move) → ((m o : Move) → E m → E o → before m o ≡ false)
    → ((m : Move) → In m xs → E m) → ((m : Move) → E m → In m xs) → Firsts before E xs
firsts_flat before E xs flat each all = record {
  each = λ m i. let e = each m i in (e, λ o k. flat o m k e);
  all = λ m e h. all m e;
  none = λ z m e. subst (In m) z (all m e);
}

pub firsts_nil : (before : Move → Move → Bool) (E : Move → Type 0) → ((m : Move) → E m → ⊥) → Firsts before E []
firsts_nil before E none = firsts_flat before E [] (λ m o e k. absurd (none m e)) (λ m i. absurd i) none

-- the same set in the same order
pub firsts_as : (before after : Move → Move → Bool) (E F : Move → Type 0) (xs : List Move) → ((m : Move) → E m → F m) → ((m : Move) → F m → E m)
    → ((m o : Move) → E m → E o → before m o ≡ after m o) → Firsts before E xs → Firsts after F xs
firsts_as before after E F xs to from same f = record {
  each = λ m i. let r = f.each m i in (to m r.0, λ o k. sym (same o m (from o k) r.0) ∙ r.1 o (from o k));
  all = λ m e h. f.all m (from m e) (λ o k. same o m k (from m e) ∙ h o (to o k));
  none = λ z m e. f.none z m (from m e);
}

-- a set that goes before another as a whole
pub firsts_else : (before : Move → Move → Bool) (E F : Move → Type 0) (xs ys : List Move)
    → ((m o : Move) → E m → F o → (before m o ≡ true) × (before o m ≡ false)) → Firsts before E xs → Firsts before F ys
    → Firsts before (λ m. E m ⊎ F m) (or_else xs ys)
firsts_else before E F [] ys apart f g = record {
  each = λ m i. let r = g.each m i in (inr r.0, λ o e. either_of e (λ k. absurd (f.none refl o k)) (r.1 o));
  all = λ m e h. either_of e (λ k. absurd (f.none refl m k)) (λ k. g.all m k (λ o l. h o (inr l)));
  none = λ z m e. either_of e (f.none refl m) (g.none z m);
}
firsts_else before E F (x ∷ xs) ys apart f g = record {
  each = λ m i. let r = f.each m i in (inl r.0, λ o e. either_of e (r.1 o) (λ k. (apart m o r.0 k).1));
  all = λ m e h. either_of e
      (λ k. f.all m k (λ o l. h o (inl l)))
      (λ k. let r = f.each x (inl refl) in both (before x m) (apart x m r.0 k).0 (h x (inl r.0)));
  none = λ z m e. absurd (not_nil x xs z);
}
  where
    not_nil : (x : Move) (xs : List Move) → x ∷ xs ≡ [] → ⊥
    not_nil x xs z = cc

-- sets by number, of which each goes before the later ones as a whole
abbrev pub Numbered : (ℕ → Move → Type 0) → ℕ → ℕ → Move → Type 0
Numbered E start len m = (k : ℕ) × (start ≤ k) × (k < start + len) × E k m

pub firsts_range : {A : Type 0} (before : Move → Move → Bool) (g : ℕ → A) (f : A → List Move) (E : ℕ → Move → Type 0)
    → ((i j : ℕ) → i < j → (m o : Move) → E i m → E j o → (before m o ≡ true) × (before o m ≡ false))
    → ((i : ℕ) → Firsts before (E i) (f (g i)))
    → (start len : ℕ) → Firsts before (Numbered E start len) (first_given f (map g (range_with_len start len)))
firsts_range before g f E apart each start zero = firsts_nil before (Numbered E start zero) (λ m r. (let lo = r.1 in let hi = r.2 in absurd (omega arith)))
firsts_range before g f E apart each start (suc len) =
    firsts_as before before (λ m. E start m ⊎ Numbered E (start + 1) len m) (Numbered E start (suc len))
    (first_given f (map g (range_with_len start (suc len))))
    (λ m e. either_of e (λ k. (start, omega arith, omega arith, k)) (λ r. (r.0, (let lo = r.1 in omega arith), (let hi = r.2 in omega arith), r.3)))
    (λ m r. cases (nat_eq r.0 start)
    (λ t. inl (subst (λ k. E k m) (same_number r.0 start t) r.3))
    (λ t. let d = other_number r.0 start t in inr (r.0, up r.0 start r.1 d, (let hi = r.2 in omega arith), r.3)))
    (λ m o e k. refl)
    (firsts_else before (E start) (Numbered E (start + 1) len) (f (g start)) (first_given f (map g (range_with_len (start + 1) len)))
    (λ m o e r. apart start r.0 (let lo = r.1 in omega arith) m o e r.3) (each start) (firsts_range before g f E apart each (start + 1) len))
  where
    up : (k start : ℕ) → start ≤ k → (k ≡ start → ⊥) → start + 1 ≤ k
    up k start le d = grind (arith, d)
