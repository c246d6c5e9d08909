-- What stands in the one of two lists that have the same of each stands in the other, and the same of each is left.
use Rattle.std.proofs.Common.{◌≡◌, ◌==◌, ℕ, zero, suc, Bool, true, false, cond, List, [], ◌∷◌, filter, slice_get, Option, Some, None, refl, sym, ap, ◌∙◌}
use Rattle.std.specs.List.{remove}
use Rattle.std.proofs.lemmas.Bool.{eqb-true, eq-eqb, false≢true}
use Rattle.std.proofs.lemmas.List.Elements.{filter_agree}
use Rattle.std.proofs.lemmas.Option.{none-some, same_Some}
use Rattle.rh_model.specs.declared.node.Node.{Node}
use Rattle.rh_otp_orders.specs.Orders.{is_owner, SameOfEach}

-- ---- which of those that pass it is

record IsPicked {A : Type 0} (q : A → Bool) (xs : List A) (i : ℕ) (x : A) : Type 0 where
  place : ℕ
  there : slice_get (filter q xs) place ≡ Some x
  left : filter q (remove xs i) ≡ remove (filter q xs) place

picked_by : {A : Type 0} (q : A → Bool) (y x : A) (xs : List A) (i : ℕ) (b : Bool) → q y ≡ b → IsPicked q xs i x
    → IsPicked q (y ∷ xs) (suc i) x
picked_by q y x xs i true is more = record {
  place = suc more.place;
  there = ap (λ (b : Bool). slice_get (cond b (y ∷ filter q xs) (filter q xs)) (suc more.place)) is ∙ more.there;
  left = ap (λ (b : Bool). cond b (y ∷ filter q (remove xs i)) (filter q (remove xs i))) is ∙ ap (λ l. y ∷ l) more.left
      ∙ ap (λ (b : Bool). remove (cond b (y ∷ filter q xs) (filter q xs)) (suc more.place)) (sym is);
}
picked_by q y x xs i false is more = record {
  place = more.place;
  there = ap (λ (b : Bool). slice_get (cond b (y ∷ filter q xs) (filter q xs)) more.place) is ∙ more.there;
  left = ap (λ (b : Bool). cond b (y ∷ filter q (remove xs i)) (filter q (remove xs i))) is ∙ more.left
      ∙ ap (λ (b : Bool). remove (cond b (y ∷ filter q xs) (filter q xs)) more.place) (sym is);
}

picked : {A : Type 0} (q : A → Bool) (xs : List A) (i : ℕ) (x : A) → slice_get xs i ≡ Some x → q x ≡ true → IsPicked q xs i x
picked q [] i x there passes = absurd (none-some x there)
picked q (y ∷ xs) zero x there passes =
    let is : q y ≡ true = ap q (same_Some y x there) ∙ passes in
    record {
      place = 0;
      there = ap (λ (b : Bool). slice_get (cond b (y ∷ filter q xs) (filter q xs)) 0) is ∙ there;
      left = ap (λ (b : Bool). remove (cond b (y ∷ filter q xs) (filter q xs)) 0) (sym is);
    }
picked q (y ∷ xs) (suc i) x there passes = picked_by q y x xs i (q y) refl (picked q xs i x there passes)

-- ---- and where it stands among all

record IsFoundAt {A : Type 0} (q : A → Bool) (xs : List A) (k : ℕ) (x : A) : Type 0 where
  place : ℕ
  there : slice_get xs place ≡ Some x
  left : filter q (remove xs place) ≡ remove (filter q xs) k

found_by : {A : Type 0} (q : A → Bool) (y x : A) (xs : List A) (k : ℕ) (b : Bool) → q y ≡ b
    → slice_get (cond b (y ∷ filter q xs) (filter q xs)) k ≡ Some x
    → ((j : ℕ) → slice_get (filter q xs) j ≡ Some x → IsFoundAt q xs j x)
    → IsFoundAt q (y ∷ xs) k x
found_by q y x xs zero true is there rest = record {
  place = 0;
  there = there;
  left = ap (λ (b : Bool). remove (cond b (y ∷ filter q xs) (filter q xs)) 0) (sym is);
}
found_by q y x xs (suc k) true is there rest =
    let more : IsFoundAt q xs k x = rest k there in
    record {
      place = suc more.place;
      there = more.there;
      left = ap (λ (b : Bool). cond b (y ∷ filter q (remove xs more.place)) (filter q (remove xs more.place))) is ∙ ap
          (λ l. y ∷ l) more.left
          ∙ ap (λ (b : Bool). remove (cond b (y ∷ filter q xs) (filter q xs)) (suc k)) (sym is);
    }
found_by q y x xs k false is there rest =
    let more : IsFoundAt q xs k x = rest k there in
    record {
      place = suc more.place;
      there = more.there;
      left = ap (λ (b : Bool). cond b (y ∷ filter q (remove xs more.place)) (filter q (remove xs more.place))) is ∙ more.left
          ∙ ap (λ (b : Bool). remove (cond b (y ∷ filter q xs) (filter q xs)) k) (sym is);
    }

found_at : {A : Type 0} (q : A → Bool) (xs : List A) (k : ℕ) (x : A) → slice_get (filter q xs) k ≡ Some x → IsFoundAt q xs k x
found_at q [] k x there = absurd (none-some x there)
found_at q (y ∷ xs) k x there = found_by q y x xs k (q y) refl there (λ j at. found_at q xs j x at)

-- what doesn't pass isn't missed
not_missed : {A : Type 0} (q : A → Bool) (xs : List A) (x : A) (i : ℕ) → slice_get xs i ≡ Some x → q x ≡ false
    → filter q (remove xs i) ≡ filter q xs
not_missed q [] x i there fails = absurd (none-some x there)
not_missed q (y ∷ xs) x zero there fails =
    sym (ap (λ (b : Bool). cond b (y ∷ filter q xs) (filter q xs)) (ap q (same_Some y x there) ∙ fails))
not_missed q (y ∷ xs) x (suc i) there fails = ap (λ l. cond (q y) (y ∷ l) l) (not_missed q xs x i there fails)

-- ---- owners

owner_itself : (o : Option Node) → is_owner o o ≡ true
owner_itself None = refl
owner_itself (Some n) = eq-eqb n.0 n.0 refl

pub same_owner : (o p r : Option Node) → is_owner o p ≡ true → is_owner o r ≡ is_owner p r
same_owner None None r is = refl
same_owner None (Some m) r is = absurd (false≢true is)
same_owner (Some n) None r is = absurd (false≢true is)
same_owner (Some n) (Some m) None is = refl
same_owner (Some n) (Some m) (Some k) is = ap (λ (j : ℕ). j == k.0) (eqb-true n.0 m.0 is)

pub record IsThereToo {A : Type 0} (owner : A → Option Node) (xs ys : List A) (i : ℕ) (x : A) : Type 0 where
  pub place : ℕ
  pub there : slice_get ys place ≡ Some x
  pub left : SameOfEach owner (remove xs i) (remove ys place)

pub there_too : {A : Type 0} (owner : A → Option Node) (xs ys : List A) (i : ℕ) (x : A) → SameOfEach owner xs ys
    → slice_get xs i ≡ Some x → IsThereToo owner xs ys i x
there_too {A} owner xs ys i x same there =
    let q : A → Bool = λ y. is_owner (owner x) (owner y) in
    let here : IsPicked q xs i x = picked q xs i x there (owner_itself (owner x)) in
    let at : IsFoundAt q ys here.place x =
    found_at q ys here.place x (ap (λ l. slice_get l here.place) (sym (same (owner x))) ∙ here.there) in
    let same_left : filter q (remove xs i) ≡ filter q (remove ys at.place) =
    here.left ∙ ap (λ l. remove l here.place) (same (owner x)) ∙ sym at.left in
    record { place = at.place; there = at.there; left = λ o. left at.place at.there same_left o (is_owner o (owner x)) refl }
  where
    left : (j : ℕ) → slice_get ys j ≡ Some x
        → filter (λ y. is_owner (owner x) (owner y)) (remove xs i) ≡ filter (λ y. is_owner (owner x) (owner y)) (remove ys j)
        → (o : Option Node) (b : Bool) → is_owner o (owner x) ≡ b
        → filter (λ y. is_owner o (owner y)) (remove xs i) ≡ filter (λ y. is_owner o (owner y)) (remove ys j)
    left j at same_left o true is =
        filter_agree _ _ (λ y. same_owner o (owner x) (owner y) is) (remove xs i) ∙ same_left
        ∙ sym (filter_agree _ _ (λ y. same_owner o (owner x) (owner y) is) (remove ys j))
    left j at same_left o false is =
        not_missed (λ y. is_owner o (owner y)) xs x i there is ∙ same o ∙ sym (not_missed (λ y. is_owner o (owner y)) ys x j at is)

-- and where the one has none the other has none
pub none_too : {A : Type 0} (owner : A → Option Node) (ys : List A) → SameOfEach owner [] ys → ys ≡ []
none_too owner [] same = refl
none_too {A} owner (y ∷ ys) same =
    absurd (none-some y (ap (λ l. slice_get l 0) (same (owner y) ∙ ap (λ (b : Bool). cond b (y ∷ rest) rest) (owner_itself (owner y)))))
  where
    rest : List A
    rest = filter (λ z. is_owner (owner y) (owner z)) ys
