-- Lists of applications, and tables of them, of which one leaves its list; and the first that is given.
use Rattle.std.proofs.Common.{◌≡◌, ◌<◌, ◌++◌, ◌||◌, ◌&&◌, ℕ, Bool, true, false, cond, not, List, [], ◌∷◌, length, nat_eq, refl, ap, ◌∙◌, arith}
use Rattle.std.specs.List.{filter, list_all}
use Rattle.std.specs.Prelude.{All}
use Rattle.std.proofs.lemmas.Bool.{and_from, or_parts, true≢false, false≢true}
use Rattle.std.proofs.lemmas.List.Elements.{All-head, All-tail}
use Rattle.rh_model.specs.ClusterView.{app_numbered}
use Rattle.rh_model.specs.declared.node.App.{App}
use Rattle.rh_state.specs.Lists.{has_app, without_app}
use Rattle.rh_state.specs.Numbers.{same_app}
use Rattle.rh_base.specs.Lists.{first_given, or_else}
use Rattle.rh_base.proofs.Lists.{cases}
use Rattle.rh_base.proofs.Truths.{same_number, same_refl, or_left, or_right}
use Rattle.rh_trace.proofs.Entries.{other_number, taken, put, has, taken_not, taken_apart, put_apart, put_gives, length_taken, there}
use Rattle.rh_trace.proofs.Every.{filter_no, filter_yes}

-- ---- a pair goes to the end of the other list of its node

both_gone : (x p q : Bool) → p ≡ true → q ≡ true → false ≡ (x && not (p && q))
both_gone true true true e f = refl
both_gone true true false e f = absurd (false≢true f)
both_gone true false q e f = absurd (false≢true e)
both_gone false p q e f = refl

stays_left : (x p q : Bool) → p ≡ false → x ≡ (x && not (p && q))
stays_left true true q e = absurd (true≢false e)
stays_left true false q e = refl
stays_left false p q e = refl

pub stays_right : (x p q : Bool) → q ≡ false → x ≡ (x && not (p && q))
stays_right true true true e = absurd (true≢false e)
stays_right true true false e = refl
stays_right true false q e = refl
stays_right false p q e = refl

both_come : (x p q : Bool) → p ≡ true → q ≡ true → true ≡ (x || (p && q))
both_come true p q e f = refl
both_come false true true e f = refl
both_come false true false e f = absurd (false≢true f)
both_come false false q e f = absurd (false≢true e)

none_left : (x p q : Bool) → p ≡ false → x ≡ (x || (p && q))
none_left true p q e = refl
none_left false true q e = absurd (true≢false e)
none_left false false q e = refl

pub none_right : (x p q : Bool) → q ≡ false → x ≡ (x || (p && q))
none_right true p q e = refl
none_right false true true e = absurd (true≢false e)
none_right false true false e = refl
none_right false false q e = refl

module _ (table : List (List App)) (n : ℕ) (a : App) (inside : n < length table) where
  pub gone : (m : ℕ) (b : App) → has (taken table n a) m b ≡ (has table m b && not (nat_eq m n && same_app b a))
  gone m b = cases (nat_eq m n)
      (λ e. cases (same_app b a)
      (λ t. ap (λ (k : ℕ). has (taken table n a) k b) (same_number m n e)
      ∙ ap (λ (k : ℕ). has (taken table n a) n (app_numbered k)) (same_number b.0 a.0 t)
      ∙ taken_not table n a inside ∙ both_gone (has table m b) (nat_eq m n) (same_app b a) e t)
      (λ f. taken_apart table n m a b f ∙ stays_right (has table m b) (nat_eq m n) (same_app b a) f))
      (λ d. there table n m _ b (other_number m n d) ∙ stays_left (has table m b) (nat_eq m n) (same_app b a) d)

  pub come : (m : ℕ) (b : App) → has (put (taken table n a) n a) m b ≡ (has table m b || (nat_eq m n && same_app b a))
  come m b = cases (nat_eq m n)
      (λ e. cases (same_app b a)
      (λ t. ap (λ (k : ℕ). has (put (taken table n a) n a) k b) (same_number m n e)
      ∙ put_gives (taken table n a) n a b
      (let long : length (taken table n a) ≡ length table = length_taken table n a in omega (arith, long, inside)) t
      ∙ both_come (has table m b) (nat_eq m n) (same_app b a) e t)
      (λ f. put_apart (taken table n a) n m a b f ∙ taken_apart table n m a b f ∙ none_right (has table m b) (nat_eq m n) (same_app b a) f))
      (λ d. there (taken table n a) n m _ b (other_number m n d) ∙ there table n m _ b (other_number m n d)
      ∙ none_left (has table m b) (nat_eq m n) (same_app b a) d)

-- ---- one that stands once in a list leaves it

without_absent : (apps : List App) (a : App) → has_app apps a ≡ false → without_app apps a ≡ apps
without_absent [] a absent = refl
without_absent (x ∷ apps) a absent =
    let parts : (same_app a x ≡ false) × (has_app apps a ≡ false) = or_parts (same_app a x) (has_app apps a) absent in
    filter_yes (λ (b : App). not (same_app a b)) x apps (ap not parts.0) ∙ ap (λ (ys : List App). x ∷ ys) (without_absent apps a parts.1)

pub without_middle : (front back : List App) (a : App) → has_app front a ≡ false → has_app back a ≡ false
    → without_app (front ++ a ∷ back) a ≡ front ++ back
without_middle [] back a apart absent =
    filter_no (λ (b : App). not (same_app a b)) a back (ap not (same_refl a.0)) ∙ without_absent back a absent
without_middle (x ∷ front) back a apart absent =
    let parts : (same_app a x ≡ false) × (has_app front a ≡ false) = or_parts (same_app a x) (has_app front a) apart in
    filter_yes (λ (b : App). not (same_app a b)) x (front ++ a ∷ back) (ap not parts.0)
    ∙ ap (λ (ys : List App). x ∷ ys) (without_middle front back a parts.1 absent)

pub has_middle : (front back : List App) (a : App) → has_app (front ++ a ∷ back) a ≡ true
has_middle [] back a = or_left (same_app a a) (has_app back a) (same_refl a.0)
has_middle (x ∷ front) back a = or_right (same_app a x) (has_app (front ++ a ∷ back) a) (has_middle front back a)

-- ---- the first that is given

pub none_given : {B : Type 0} (f : App → List B) (apps : List App) → ((a : App) → has_app apps a ≡ true → f a ≡ [])
    → first_given f apps ≡ []
none_given f [] none = refl
none_given f (x ∷ apps) none =
    ap (λ ys. or_else ys (first_given f apps)) (none x (or_left (same_app x x) (has_app apps x) (same_refl x.0)))
    ∙ none_given f apps (λ a there. none a (or_right (same_app a x) (has_app apps a) there))

pub given_middle : {B : Type 0} (f : App → List B) (front back : List App) (a : App) (y : B)
    → ((x : App) → has_app front x ≡ true → f x ≡ [])
    → f a ≡ y ∷ [] → first_given f (front ++ a ∷ back) ≡ y ∷ []
given_middle f [] back a y none is = ap (λ ys. or_else ys (first_given f back)) is
given_middle f (x ∷ front) back a y none is =
    ap (λ ys. or_else ys (first_given f (front ++ a ∷ back))) (none x (or_left (same_app x x) (has_app front x) (same_refl x.0)))
    ∙ given_middle f front back a y (λ b there. none b (or_right (same_app b x) (has_app front b) there)) is

-- ---- what holds of each element

pub all_true : {A : Type 0} (p : A → Bool) (xs : List A) → All (λ (x : A). p x ≡ true) xs → list_all p xs ≡ true
all_true p [] all = refl
all_true {A} p (x ∷ xs) all =
    and_from (p x) (list_all p xs) (All-head (λ (y : A). p y ≡ true) x xs all) (all_true p xs (All-tail (λ (y : A). p y ≡ true) x xs all))

pub filter_same : {A : Type 0} (p q : A → Bool) (xs : List A) → ((x : A) → p x ≡ q x) → filter p xs ≡ filter q xs
filter_same {A} p q [] same = refl
filter_same {A} p q (x ∷ xs) same =
    ap (λ (b : Bool). cond b (x ∷ filter p xs) (filter p xs)) (same x)
    ∙ ap (λ (ys : List A). cond (q x) (x ∷ ys) ys) (filter_same p q xs same)

pub given_same : {A : Type 0} (p q : A → Bool) (groups : List (List A)) → ((x : A) → p x ≡ q x)
    → first_given (filter p) groups ≡ first_given (filter q) groups
given_same p q [] same = refl
given_same {A} p q (g ∷ groups) same =
    ap (λ (ys : List A). or_else ys (first_given (filter p) groups)) (filter_same p q g same)
    ∙ ap (or_else (filter q g)) (given_same p q groups same)
