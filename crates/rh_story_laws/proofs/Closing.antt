-- A line with its end: it is of the kind and has the content that it had without.
use Rattle.std.proofs.Common.{◌≡◌, ◌==◌, ℕ, List, [], ◌∷◌, ◌++◌, Bool, true, false, cond, codes, refl, sym, ap, ◌∙◌, append_assoc, append-nil}
use Rattle.std.specs.List.{onto_first}
use Rattle.rh_script.specs.Lines.{raw_lines, content, ends_with, without_last}
use Rattle.rh_story.specs.HeadText.{missing_end, closed}
use Rattle.rh_story_laws.proofs.Texts.{free, free_append, not_both}
use Rattle.rh_story_laws.proofs.Rows.{Last, empty, byte, last_of, ends_is, without_is, content_is, unended}
use Rattle.rh_story_laws.proofs.Marks.{kind_at, front_lf, front_crlf}

-- what a text may lack of its end
pub data Lack : List ℕ → Type 0 where
  whole : Lack []
  lf : Lack (10 ∷ [])
  crlf : Lack (13 ∷ 10 ∷ [])

pub missing_is : (line : List ℕ) → Lack (missing_end line)
missing_is line = by (ends_with 10 line) (ends_with 13 line)
  where
    by : (t u : Bool) → Lack (cond t [] (cond u (codes "\r\n") (codes "\n")))
    by true u = whole
    by false true = crlf
    by false false = lf

-- ---- a line that ends lacks nothing
pub closed_ended : (x : List ℕ) → closed (x ++ 10 ∷ []) ≡ x ++ 10 ∷ []
closed_ended x =
    ap (λ t. (x ++ 10 ∷ []) ++ cond t [] (cond (ends_with 13 (x ++ 10 ∷ [])) (codes "\r\n") (codes "\n"))) (ends_is x 10 10)
    ∙ append-nil (x ++ 10 ∷ [])

-- ---- one that doesn't end gets an end
pub record Closes (x y : List ℕ) : Type 0 where
  pub free : free y ≡ true
  pub is : closed x ≡ y ++ 10 ∷ []
  pub kind : kind_at (y ++ 10 ∷ []) ≡ kind_at x
  pub content : content (y ++ 10 ∷ []) ≡ x

bare_end : (x : List ℕ) (t : Bool) → free x ≡ true → ends_with 13 x ≡ t → closed x ≡ x ++ cond t (codes "\r\n") (codes "\n")
bare_end x t u is = ap (λ b. x ++ cond b [] (cond (ends_with 13 x) (codes "\r\n") (codes "\n"))) (unended x u) ∙ ap (λ b. x ++ cond b (codes "\r\n") (codes "\n")) is

kept_cr : (x : List ℕ) → ends_with 13 x ≡ false → without_last 13 x ≡ x
kept_cr x is = by x (last_of x) is
  where
    by : (y : List ℕ) → Last y → ends_with 13 y ≡ false → without_last 13 y ≡ y
    by _ empty h = refl
    by _ (byte y b) h = without_is y b 13 ∙ ap (λ t. cond t y (y ++ b ∷ [])) (sym (ends_is y b 13) ∙ h)

pub closes : (x : List ℕ) → free x ≡ true → (y : List ℕ) × Closes x y
closes x u = by (ends_with 13 x) refl
  where
    by : (t : Bool) → ends_with 13 x ≡ t → (y : List ℕ) × Closes x y
    by true is = (
      x ++ 13 ∷ [],
      record {
        free = free_append x (13 ∷ []) u refl;
        is = bare_end x true u is ∙ sym (append_assoc x (13 ∷ []) (10 ∷ []));
        kind = ap kind_at (append_assoc x (13 ∷ []) (10 ∷ [])) ∙ front_crlf x;
        content = content_is (x ++ 13 ∷ []) ∙ without_is x 13 13;
      },
    )
    by false is = (
      x,
      record {
        free = u;
        is = bare_end x false u is;
        kind = front_lf x;
        content = content_is x ∙ kept_cr x is;
      },
    )

-- ---- it is a line by itself
pub bare_line : (x : List ℕ) → free x ≡ true → (x ≡ [] → ⊥) → raw_lines x ≡ x ∷ []
bare_line [] u some = absurd (some refl)
bare_line (b ∷ []) u some = by (b == 10) u
  where
    by : (t : Bool) → cond t false true ≡ true → cond t ((b ∷ []) ∷ []) ((b ∷ []) ∷ []) ≡ (b ∷ []) ∷ []
    by true h = refl
    by false h = refl
bare_line (b ∷ c ∷ x) u some = by (b == 10) u (λ v. bare_line (c ∷ x) v (λ e. cc e))
  where
    by : (t : Bool) → cond t false (free (c ∷ x)) ≡ true → (free (c ∷ x) ≡ true → raw_lines (c ∷ x) ≡ (c ∷ x) ∷ [])
        → cond t ((b ∷ []) ∷ raw_lines (c ∷ x)) (onto_first b (raw_lines (c ∷ x))) ≡ (b ∷ c ∷ x) ∷ []
    by true h others = not_both h
    by false h others = ap (onto_first b) (others h)
