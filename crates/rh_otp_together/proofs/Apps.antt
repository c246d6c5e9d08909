-- How often an application stands in lists of applications, and rows by application.
use Rattle.std.proofs.Common.{◌≡◌, ◌≢◌, ◌≤◌, ◌⊎◌, ◌+◌, ◌++◌, ◌==◌, ◌||◌, ℕ, suc, Bool, true, false, not, cond, List, [], ◌∷◌, Some, None, refl, sym, ap, subst, ◌∙◌, inl, inr, arith}
use Rattle.std.specs.List.{remove, position_or_len}
use Rattle.std.specs.Option.{option_map}
use Rattle.std.specs.Prelude.{All, find}
use Rattle.std.proofs.lemmas.Bool.{cases_Bool, eq-eqb, eqb-true, ne_eqb}
use Rattle.std.proofs.lemmas.List.Elements.{All-cons, All-head, All-tail}
use Rattle.rh_model.specs.declared.node.App.{App}
use Rattle.rh_model.specs.declared.node.Node.{Node}
use Rattle.rh_otp_model.specs.Rows.{is_of, keyfind, keydelete}
use Rattle.rh_otp_dist.specs.Attempts.{has_app}
use Rattle.rh_otp_joins.proofs.Lists.{more_if}

pub same_app : (a b : App) → a.0 ≡ b.0 → a ≡ b
same_app a b same = λ i. record { 0 = same i }

-- it makes no difference which of two is counted first
pub swapped : (b d : Bool) (j : ℕ) → more_if b (more_if d j) ≡ more_if d (more_if b j)
swapped true true j = refl
swapped true false j = refl
swapped false d j = refl

-- how often the application stands in the list
abbrev pub tally : App → List App → ℕ
tally a [] = 0
tally a (b ∷ apps) = more_if (b.0 == a.0) (tally a apps)

-- and how many rows it has
abbrev pub tally_rows : {T : Type 0} → App → List (App × T) → ℕ
tally_rows a [] = 0
tally_rows a (row ∷ rows) = more_if (row.0.0 == a.0) (tally_rows a rows)

pub tally_itself : (a : App) (apps : List App) → tally a (a ∷ apps) ≡ suc (tally a apps)
tally_itself a apps = ap (λ (b : Bool). more_if b (tally a apps)) (eq-eqb a.0 a.0 refl)

pub tally_other : (a b : App) (apps : List App) → b.0 ≢ a.0 → tally a (b ∷ apps) ≡ tally a apps
tally_other a b apps other = ap (λ (c : Bool). more_if c (tally a apps)) (ne_eqb b.0 a.0 other)

pub tally_more : (a : App) (xs ys : List App) → tally a (xs ++ ys) ≡ tally a xs + tally a ys
tally_more a [] ys = omega arith
tally_more a (x ∷ xs) ys = by (x.0 == a.0) (tally_more a xs ys)
  where
    by : (c : Bool) → tally a (xs ++ ys) ≡ tally a xs + tally a ys → more_if c (tally a (xs ++ ys)) ≡ more_if c (tally a xs) + tally a ys
    by true same = omega (arith, same)
    by false same = same

pub none_tallied : (a : App) (apps : List App) → has_app a apps ≡ false → tally a apps ≡ 0
none_tallied a [] none = refl
none_tallied a (b ∷ apps) none = by (b.0 == a.0) none (none_tallied a apps)
  where
    by : (c : Bool) → (c || has_app a apps) ≡ false → (has_app a apps ≡ false → tally a apps ≡ 0) → more_if c (tally a apps) ≡ 0
    by true is rest = absurd (cc)
    by false is rest = rest is

pub tallied_none : (a : App) (apps : List App) → tally a apps ≡ 0 → has_app a apps ≡ false
tallied_none a [] none = refl
tallied_none a (b ∷ apps) none = by (b.0 == a.0) none (tallied_none a apps)
  where
    by : (c : Bool) → more_if c (tally a apps) ≡ 0 → (tally a apps ≡ 0 → has_app a apps ≡ false) → (c || has_app a apps) ≡ false
    by true is rest = absurd (omega (arith, is))
    by false is rest = rest is

-- where each application stands as often as in none, there is none
pub all_none : (apps : List App) → ((a : App) → tally a apps ≡ 0) → apps ≡ []
all_none [] none = refl
all_none (a ∷ apps) none =
    let some : tally a (a ∷ apps) ≡ suc (tally a apps) = tally_itself a apps in
    let no : tally a (a ∷ apps) ≡ 0 = none a in
    absurd (omega (arith, some, no))

pub no_rows : {T : Type 0} (rows : List (App × T)) → ((a : App) → tally_rows a rows ≡ 0) → rows ≡ []
no_rows [] none = refl
no_rows {T} (row ∷ rows) none =
    let some : tally_rows row.0 (row ∷ rows) ≡ suc (tally_rows row.0 rows) =
    ap (λ (b : Bool). more_if b (tally_rows row.0 rows)) (eq-eqb row.0.0 row.0.0 refl) in
    let no : tally_rows row.0 (row ∷ rows) ≡ 0 = none row.0 in
    absurd (omega (arith, some, no))

-- ---- rows

pub not_found : {T : Type 0} (a : App) (rows : List (App × T)) → tally_rows a rows ≡ 0 → keyfind a rows ≡ None
not_found a [] none = refl
not_found {T} a (row ∷ rows) none = by (row.0.0 == a.0) none (not_found a rows)
  where
    by : (c : Bool) → more_if c (tally_rows a rows) ≡ 0 → (tally_rows a rows ≡ 0 → keyfind a rows ≡ None)
        → option_map (λ (r : App × T). r.1) (cond c (Some row) (find (is_of a) rows)) ≡ None
    by true is rest = absurd (omega (arith, is))
    by false is rest = rest is

-- a row says of its application where it runs
abbrev pub IsMarked : (App → Node) → App × Node → Type 0
IsMarked at row = row.1 ≡ at row.0

pub found_at : (at : App → Node) (a : App) (rows : List (App × Node)) → All (IsMarked at) rows → 1 ≤ tally_rows a rows
    → keyfind a rows ≡ Some (at a)
found_at at a [] marked some = absurd (omega (arith, some))
found_at at a (row ∷ rows) marked some =
    by (cases_Bool (row.0.0 == a.0)) some (found_at at a rows (All-tail (IsMarked at) row rows marked))
  where
    by : ((row.0.0 == a.0) ≡ true) ⊎ ((row.0.0 == a.0) ≡ false) → 1 ≤ more_if (row.0.0 == a.0) (tally_rows a rows)
        → (1 ≤ tally_rows a rows → keyfind a rows ≡ Some (at a)) → keyfind a (row ∷ rows) ≡ Some (at a)
    by (inl is) some rest =
        ap (λ (c : Bool). option_map (λ (r : App × Node). r.1) (cond c (Some row) (find (is_of a) rows))) is
        ∙ ap Some (All-head (IsMarked at) row rows marked)
        ∙ ap (λ (b : App). Some (at b)) (same_app row.0 a (eqb-true row.0.0 a.0 is))
    by (inr other) some rest =
        let more : more_if (row.0.0 == a.0) (tally_rows a rows) ≡ tally_rows a rows =
        ap (λ (c : Bool). more_if c (tally_rows a rows)) other in
        ap (λ (c : Bool). option_map (λ (r : App × Node). r.1) (cond c (Some row) (find (is_of a) rows))) other
        ∙ rest (omega (arith, some, more))

-- the first row of an application is deleted
pub deleted : {T : Type 0} (a : App) (row : App × T) (rows : List (App × T))
    → keydelete a (row ∷ rows) ≡ cond (row.0.0 == a.0) rows (row ∷ keydelete a rows)
deleted {T} a row rows = by (row.0.0 == a.0)
  where
    by : (c : Bool) → remove (row ∷ rows) (cond (not c) (1 + position_or_len (is_of a) rows) 0) ≡ cond c rows (row ∷ keydelete a rows)
    by true = refl
    by false = ap (remove (row ∷ rows)) (let more : 1 + position_or_len (is_of a) rows ≡ suc (position_or_len (is_of a) rows) =
        omega arith in more)

pub fewer_rows : {T : Type 0} (a c : App) (rows : List (App × T)) → 1 ≤ tally_rows a rows
    → tally_rows c rows ≡ more_if (a.0 == c.0) (tally_rows c (keydelete a rows))
fewer_rows a c [] some = absurd (omega (arith, some))
fewer_rows {T} a c (row ∷ rows) some =
    by (cases_Bool (row.0.0 == a.0)) some (fewer_rows a c rows)
  where
    by : ((row.0.0 == a.0) ≡ true) ⊎ ((row.0.0 == a.0) ≡ false) → 1 ≤ more_if (row.0.0 == a.0) (tally_rows a rows)
        → (1 ≤ tally_rows a rows → tally_rows c rows ≡ more_if (a.0 == c.0) (tally_rows c (keydelete a rows)))
        → tally_rows c (row ∷ rows) ≡ more_if (a.0 == c.0) (tally_rows c (keydelete a (row ∷ rows)))
    by (inl is) some rest =
        ap (λ (b : App). more_if (b.0 == c.0) (tally_rows c rows)) (same_app row.0 a (eqb-true row.0.0 a.0 is))
        ∙ ap (λ (l : List (App × T)). more_if (a.0 == c.0) (tally_rows c l))
        (sym (deleted a row rows ∙ ap (λ (b : Bool). cond b rows (row ∷ keydelete a rows)) is))
    by (inr other) some rest =
        let more : more_if (row.0.0 == a.0) (tally_rows a rows) ≡ tally_rows a rows =
        ap (λ (b : Bool). more_if b (tally_rows a rows)) other in
        ap (more_if (row.0.0 == c.0)) (rest (omega (arith, some, more)))
        ∙ swapped (row.0.0 == c.0) (a.0 == c.0) (tally_rows c (keydelete a rows))
        ∙ ap (λ (l : List (App × T)). more_if (a.0 == c.0) (tally_rows c l))
        (sym (deleted a row rows ∙ ap (λ (b : Bool). cond b rows (row ∷ keydelete a rows)) other))

pub same_rows : {T : Type 0} (a : App) (rows : List (App × T)) → tally_rows a rows ≡ 0 → keydelete a rows ≡ rows
same_rows a [] none = refl
same_rows {T} a (row ∷ rows) none = deleted a row rows ∙ by (row.0.0 == a.0) none (same_rows a rows)
  where
    by : (c : Bool) → more_if c (tally_rows a rows) ≡ 0 → (tally_rows a rows ≡ 0 → keydelete a rows ≡ rows)
        → cond c rows (row ∷ keydelete a rows) ≡ row ∷ rows
    by true is rest = absurd (omega (arith, is))
    by false is rest = ap (λ (l : List (App × T)). row ∷ l) (rest is)

pub still_marked : (at : App → Node) (a : App) (rows : List (App × Node)) → All (IsMarked at) rows → All (IsMarked at) (keydelete a rows)
still_marked at a [] marked = marked
still_marked at a (row ∷ rows) marked =
    by (row.0.0 == a.0) (deleted a row rows) (still_marked at a rows (All-tail (IsMarked at) row rows marked))
  where
    by : (c : Bool) → keydelete a (row ∷ rows) ≡ cond c rows (row ∷ keydelete a rows) → All (IsMarked at) (keydelete a rows)
        → All (IsMarked at) (keydelete a (row ∷ rows))
    by true is rest = subst (All (IsMarked at)) (sym is) (All-tail (IsMarked at) row rows marked)
    by false is rest =
        subst (All (IsMarked at)) (sym is) (All-cons (IsMarked at) row (keydelete a rows) (All-head (IsMarked at) row rows marked) rest)
