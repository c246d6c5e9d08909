-- Bytes of a term that change nothing.
use Rattle.std.proofs.Common.{◌≡◌, ◌+◌, ◌||◌, ℕ, zero, suc, List, [], ◌∷◌, Bool, true, false, cond, take, drop, refl, ap, ◌∙◌, arith}
use Rattle.std.specs.Prelude.{◌==◌}
use Rattle.std.specs.List.{list_any}
use Rattle.std.proofs.Math.Seq.{take-add}
use Rattle.std.proofs.lemmas.List.Folds.{list_any-append}
use Rattle.rh_findings.specs.declared.scan.Standing.{Standing}
use Rattle.rh_findings.specs.declared.scan.Standing.TheVariants.{Between, Inside, InsideRemark, Quoted}
use Rattle.rh_findings.specs.Scan.{is_marked, behind_inside, line_behind}
use Rattle.rh_findings.specs.Starts.{starts_from}

first_false : (a b : Bool) → (a || b) ≡ false → a ≡ false
first_false true b h = h
first_false false b h = refl

rest_false : (a b : Bool) → (a || b) ≡ false → b ≡ false
rest_false true b h = cc
rest_false false b h = h

-- ---- one byte

stays_inside : (b : ℕ) → is_marked b ≡ false → behind_inside b ≡ Inside
stays_inside b plain = by (b == 46) (b == 37) (b == 34) (b == 39) (b == 10) plain
  where
    by : (dot remark text atom feed : Bool) → (dot || remark || text || atom || feed) ≡ false
        → cond dot Between (cond remark InsideRemark (cond (text || atom) (Quoted b) Inside)) ≡ Inside
    by true remark text atom feed h = cc
    by false true text atom feed h = cc
    by false false true atom feed h = cc
    by false false false true feed h = cc
    by false false false false feed h = refl

stays_on_line : (line b : ℕ) → is_marked b ≡ false → line_behind line b ≡ line
stays_on_line line b plain = by (b == 46) (b == 37) (b == 34) (b == 39) (b == 10) plain
  where
    by : (dot remark text atom feed : Bool) → (dot || remark || text || atom || feed) ≡ false → cond feed (line + 1) line ≡ line
    by true remark text atom feed h = cc
    by false true text atom feed h = cc
    by false false true atom feed h = cc
    by false false false true feed h = cc
    by false false false false true h = cc
    by false false false false false h = refl

-- ---- some

both_false : (a b : Bool) → a ≡ false → b ≡ false → (a || b) ≡ false
both_false true b h j = h
both_false false b h j = j

pub plain_more : (n m : ℕ) (bytes : List ℕ) → list_any is_marked (take n bytes) ≡ false → list_any is_marked (take m (drop n bytes)) ≡ false
    → list_any is_marked (take (n + m) bytes) ≡ false
plain_more n m bytes front rest =
    ap (list_any is_marked) (take-add n m bytes) ∙ list_any-append is_marked (take n bytes) (take m (drop n bytes))
    ∙ both_false (list_any is_marked (take n bytes)) (list_any is_marked (take m (drop n bytes))) front rest

pub plain_passed : (n : ℕ) (bytes : List ℕ) → list_any is_marked (take n bytes) ≡ false
    → (line at : ℕ) → starts_from Inside line at bytes ≡ starts_from Inside line (at + n) (drop n bytes)
plain_passed zero bytes plain line at = ap (λ k. starts_from Inside line k bytes) (omega arith)
plain_passed (suc n) [] plain line at = refl
plain_passed (suc n) (b ∷ bytes) plain line at =
    let first : is_marked b ≡ false = first_false (is_marked b) (list_any is_marked (take n bytes)) plain in
    ap (λ (s : Standing). starts_from s (line_behind line b) (at + 1) bytes) (stays_inside b first)
    ∙ ap (λ l. starts_from Inside l (at + 1) bytes) (stays_on_line line b first)
    ∙ plain_passed n bytes (rest_false (is_marked b) (list_any is_marked (take n bytes)) plain) line (at + 1)
    ∙ ap (λ k. starts_from Inside line k (drop n bytes)) (omega arith)
