-- Text between quotes that has no escapes.
use Rattle.std.proofs.Common.{◌≡◌, ℕ, suc, List, [], ◌∷◌, Bool, true, false, Ok, take, drop, refl, arith}
use Rattle.std.specs.Prelude.{◌==◌}
use Rattle.std.specs.List.{prefix_len}
use Rattle.rh_terms.specs.Bytes.{begins}
use Rattle.rh_terms.specs.Tokens.{is_plain, quoted}

plain_cons : (quote b : ℕ) (bs : List ℕ) (is_quote is_slash : Bool) → (b == quote) ≡ is_quote → (b == 92) ≡ is_slash
    → (begins (λ x. x == quote) (drop (prefix_len (is_plain quote) bs) bs) ≡ true → quoted false quote bs ≡ Ok
    (take (prefix_len (is_plain quote) bs) bs, drop 1 (drop (prefix_len (is_plain quote) bs) bs)))
    → begins (λ x. x == quote) (drop (prefix_len (is_plain quote) (b ∷ bs)) (b ∷ bs)) ≡ true
    → quoted false quote (b ∷ bs) ≡ Ok (take (prefix_len (is_plain quote) (b ∷ bs)) (b ∷ bs), drop 1 (drop (prefix_len (is_plain quote) (b ∷ bs)) (b ∷ bs)))
unfolding quoted
plain_cons quote b bs true is_slash e s others ends =
    let n : prefix_len (is_plain quote) (b ∷ bs) ≡ 0 = rw e refl in
    rw (n, e) refl
plain_cons quote b bs false true e s others ends =
    let n : prefix_len (is_plain quote) (b ∷ bs) ≡ 0 = rw (e, s) refl in
    absurd (cc (rw n at ends))
plain_cons quote b bs false false e s others ends =
    let n : prefix_len (is_plain quote) (b ∷ bs) ≡ suc (prefix_len (is_plain quote) bs) = rw (e, s) (omega arith) in
    let read = others (rw n at ends) in
    rw (n, e, s, read) refl

-- they stand for themselves
pub quoted_plain : (quote : ℕ) (bs : List ℕ) → begins (λ x. x == quote) (drop (prefix_len (is_plain quote) bs) bs) ≡ true
    → quoted false quote bs ≡ Ok (take (prefix_len (is_plain quote) bs) bs, drop 1 (drop (prefix_len (is_plain quote) bs) bs))
unfolding quoted
quoted_plain quote [] ends = absurd cc
quoted_plain quote (b ∷ bs) ends = plain_cons quote b bs (b == quote) (b == 92) refl refl (λ h. quoted_plain quote bs h) ends
