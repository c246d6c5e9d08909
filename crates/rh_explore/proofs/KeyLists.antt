-- Keys that are kept in a set.
use Rattle.std.proofs.Common.{nat_eq, ◌≡◌, ◌||◌, ◌++◌, ℕ, zero, suc, Bool, true, false, cond, List, [], ◌∷◌, map, refl, sym, ap, ◌∙◌, arith}
use Rattle.std.specs.Prelude.{Contains}
use Rattle.std.specs.List.{list_any}
use Rattle.std.specs.Cmp.Lexicographic.{pointwise, bytes_decides}
use Rattle.std.proofs.lemmas.List.{map_push}
use Rattle.rh_base.proofs.Lists.{cases}
use Rattle.rh_base.proofs.Truths.{both}
use Rattle.rh_explore.specs.declared.space.Space.{Space}
use Rattle.rh_explore.specs.Kept.{bytes_of}

module _ {V K : Type 0} (items : V → K) (p : V → Bool) (q : K) where
  -- a test that passes the values with these items finds one where the items are in the list
  pub any_contains : ((k : V) → p k ≡ true → q ≡ items k) → (ks : List V) → list_any p ks ≡ true → Contains (map items ks) q
  any_contains is [] h = absurd (both false h refl)
  any_contains is (k ∷ ks) h = cases (p k)
      (λ t. (0, omega arith, sym (is k t)))
      (λ f. let rest = any_contains is ks (ap (λ b. b || list_any p ks) (sym f) ∙ h) in let l = rest.1 in (suc rest.0, omega (arith, l), rest.2))

  pub contains_any : ((k : V) → q ≡ items k → p k ≡ true) → (ks : List V) → Contains (map items ks) q → list_any p ks ≡ true
  contains_any is [] (k, l, at) = absurd (omega (arith, l))
  contains_any is (x ∷ xs) (zero, l, at) = ap (λ b. b || list_any p xs) (is x (sym at))
  contains_any is (x ∷ xs) (suc k, l, at) =
      let rest = contains_any is xs (k, omega (arith, l), at) in by (p x) rest
    where
      by : (b : Bool) → list_any p xs ≡ true → b || list_any p xs ≡ true
      by true r = refl
      by false r = r

  -- a value that isn't found goes last
  pub pushed : (ks : List V) (k : V) → (list_any p ks ≡ true → ⊥) → map items (cond (list_any p ks) ks (ks ++ k ∷ [])) ≡ map items ks ++ items k ∷ []
  pushed ks k not = cases (list_any p ks)
      (λ t. absurd (not t))
      (λ f. ap (λ b. map items (cond b ks (ks ++ k ∷ []))) f ∙ map_push items ks k)

  -- one that is found is there
  pub stayed : (ks : List V) (k : V) → list_any p ks ≡ true → map items (cond (list_any p ks) ks (ks ++ k ∷ [])) ≡ map items ks
  stayed ks k there = ap (λ b. map items (cond b ks (ks ++ k ∷ []))) there

-- a key is there or not
pub key_there : (space : Space) (q : List ℕ) → list_any (λ k. pointwise nat_eq q k.bytes.items) space.keys.keys ≡ true → Contains (bytes_of space) q
key_there space q t =
    any_contains (λ k. k.bytes.items) (λ k. pointwise nat_eq q k.bytes.items) q (λ k h. (bytes_decides q k.bytes.items).0 h) space.keys.keys t

pub key_not_there : (space : Space) (q : List ℕ) → list_any (λ k. pointwise nat_eq q k.bytes.items) space.keys.keys ≡ false → Contains (bytes_of space) q → ⊥
key_not_there space q not has =
    both (list_any (λ k. pointwise nat_eq q k.bytes.items) space.keys.keys)
    (contains_any (λ k. k.bytes.items) (λ k. pointwise nat_eq q k.bytes.items) q (λ k h. (bytes_decides q k.bytes.items).1 h) space.keys.keys has) not
