-- What is so of some of the applications of a list, how often they stand there, and which of two stands first.
use Rattle.std.proofs.Common.{◌≡◌, ◌≢◌, ◌≤◌, ◌<◌, ◌⊎◌, ◌++◌, ◌==◌, ◌&&◌, ℕ, suc, Bool, true, false, cond, List, [], ◌∷◌, map, filter, refl, sym, ap, subst, ◌∙◌, inl, inr, arith}
use Rattle.std.specs.Prelude.{All}
use Rattle.std.proofs.lemmas.Bool.{cases_Bool, eq-eqb, eqb-true, ne_eqb, false≢true}
use Rattle.std.proofs.lemmas.List.Elements.{All-nil, All-cons, All-head, All-tail}
use Rattle.rh_model.specs.declared.node.App.{App}
use Rattle.rh_model.specs.declared.node.Node.{Node}
use Rattle.rh_otp_joins.proofs.Lists.{more_if}
use Rattle.rh_otp_together.proofs.Apps.{same_app, tally, tally_rows, IsMarked}

-- ---- what stands in a list

stands_first : (a : App) (apps : List App) → 1 ≤ tally a (a ∷ apps)
stands_first a apps = subst (λ (c : Bool). 1 ≤ more_if c (tally a apps)) (sym (eq-eqb a.0 a.0 refl)) (omega arith)

stands_later : (x a : App) (apps : List App) → 1 ≤ tally a apps → 1 ≤ tally a (x ∷ apps)
stands_later x a apps some = by (x.0 == a.0)
  where
    by : (c : Bool) → 1 ≤ more_if c (tally a apps)
    by true = omega (arith, some)
    by false = some

-- ---- what is so of those that pass

-- what is so of each that passes is so of those that are left
pub all_passing : (P : App → Type 0) (q : App → Bool) (apps : List App) → All (λ (a : App). q a ≡ true → P a) apps → All P (filter q apps)
all_passing P q [] all = All-nil P
all_passing P q (x ∷ apps) all =
    by (q x) (All-head (λ (a : App). q a ≡ true → P a) x apps all)
    (all_passing P q apps (All-tail (λ (a : App). q a ≡ true → P a) x apps all))
  where
    by : (c : Bool) → (c ≡ true → P x) → All P (filter q apps) → All P (cond c (x ∷ filter q apps) (filter q apps))
    by true so rest = All-cons P x (filter q apps) (so refl) rest
    by false so rest = rest

-- it is so of one that stands there
pub so_of_one : (P : App → Type 0) (a : App) (apps : List App) → All P apps → 1 ≤ tally a apps → P a
so_of_one P a [] all some = absurd (omega (arith, some))
so_of_one P a (x ∷ apps) all some =
    by (cases_Bool (x.0 == a.0)) some (so_of_one P a apps (All-tail P x apps all))
  where
    by : ((x.0 == a.0) ≡ true) ⊎ ((x.0 == a.0) ≡ false) → 1 ≤ more_if (x.0 == a.0) (tally a apps) → (1 ≤ tally a apps → P a) → P a
    by (inl is) some rest = subst P (same_app x a (eqb-true x.0 a.0 is)) (All-head P x apps all)
    by (inr other) some rest = rest (subst (λ (c : Bool). 1 ≤ more_if c (tally a apps)) other some)

-- how often one stands there that passes, or doesn't
pub tally_passing : (q : App → Bool) (a : App) (apps : List App) → tally a (filter q apps) ≡ cond (q a) (tally a apps) 0
tally_passing q a [] = by (q a)
  where
    by : (c : Bool) → ◌≡◌ {A = ℕ} 0 (cond c 0 0)
    by true = refl
    by false = refl
tally_passing q a (x ∷ apps) = by (cases_Bool (x.0 == a.0)) (tally_passing q a apps)
  where
    itself : (c : Bool) → q x ≡ c → tally a (filter q apps) ≡ cond c (tally a apps) 0
        → tally a (cond c (x ∷ filter q apps) (filter q apps)) ≡ cond c (more_if (x.0 == a.0) (tally a apps)) 0
    itself true is rest = ap (more_if (x.0 == a.0)) rest
    itself false is rest = rest

    skips : (c : Bool) → (x.0 == a.0) ≡ false → tally a (cond c (x ∷ filter q apps) (filter q apps)) ≡ tally a (filter q apps)
    skips true apart = ap (λ (d : Bool). more_if d (tally a (filter q apps))) apart
    skips false apart = refl

    by : ((x.0 == a.0) ≡ true) ⊎ ((x.0 == a.0) ≡ false) → tally a (filter q apps) ≡ cond (q a) (tally a apps) 0
        → tally a (cond (q x) (x ∷ filter q apps) (filter q apps)) ≡ cond (q a) (more_if (x.0 == a.0) (tally a apps)) 0
    by (inl is) rest =
        let same : q x ≡ q a = ap q (same_app x a (eqb-true x.0 a.0 is)) in
        itself (q x) refl (rest ∙ ap (λ (c : Bool). cond c (tally a apps) 0) (sym same))
        ∙ ap (λ (c : Bool). cond c (more_if (x.0 == a.0) (tally a apps)) 0) same
    by (inr other) rest =
        skips (q x) other ∙ rest ∙ ap (λ (d : Bool). cond (q a) (more_if d (tally a apps)) 0) (sym other)

-- of those that pass none stands there more often than in all
pub passing_few : (q : App → Bool) (a : App) (apps : List App) → tally a (filter q apps) ≤ tally a apps
passing_few q a apps = subst (λ (j : ℕ). j ≤ tally a apps) (sym (tally_passing q a apps)) (by (q a))
  where
    by : (c : Bool) → cond c (tally a apps) 0 ≤ tally a apps
    by true = omega arith
    by false = omega arith

-- where each of the list passes
pub all_pass : (q : App → Bool) (apps : List App) → ((a : App) → 1 ≤ tally a apps → q a ≡ true) → filter q apps ≡ apps
all_pass q [] so = refl
all_pass q (x ∷ apps) so =
    ap (λ (c : Bool). cond c (x ∷ filter q apps) (filter q apps)) (so x (stands_first x apps))
    ∙ ap (λ (l : List App). x ∷ l) (all_pass q apps (λ a some. so a (stands_later x a apps some)))

-- where of those of the list that pass one test the same pass another one as a third one
pub passing_same : (p q r : App → Bool) (apps : List App) → ((a : App) → 1 ≤ tally a apps → (p a && q a) ≡ r a)
    → filter q (filter p apps) ≡ filter r apps
passing_same p q r [] same = refl
passing_same p q r (x ∷ apps) same =
    by (p x) (q x) (r x) (same x (stands_first x apps)) refl (passing_same p q r apps (λ a some. same a (stands_later x a apps some)))
  where
    by : (c d e : Bool) → (c && d) ≡ e → q x ≡ d → filter q (filter p apps) ≡ filter r apps
        → filter q (cond c (x ∷ filter p apps) (filter p apps)) ≡ cond e (x ∷ filter r apps) (filter r apps)
    by true d e is other rest =
        ap (λ (y : Bool). cond y (x ∷ filter q (filter p apps)) (filter q (filter p apps))) (other ∙ is)
        ∙ ap (λ (l : List App). cond e (x ∷ l) l) rest
    by false d e is other rest = rest ∙ ap (λ (y : Bool). cond y (x ∷ filter r apps) (filter r apps)) is

-- ---- rows

-- a row says of its application where it runs, so these are all that they say
pub rows_marked : (at : App → Node) (rows : List (App × Node)) → All (IsMarked at) rows
    → rows ≡ map (λ (a : App). (a, at a)) (map (λ (row : App × Node). row.0) rows)
rows_marked at [] marked = refl
rows_marked at (row ∷ rows) marked =
    λ i. (row.0, All-head (IsMarked at) row rows marked i) ∷ rows_marked at rows (All-tail (IsMarked at) row rows marked) i

pub tally_apps : (a : App) (rows : List (App × Node)) → tally a (map (λ (row : App × Node). row.0) rows) ≡ tally_rows a rows
tally_apps a [] = refl
tally_apps a (row ∷ rows) = ap (more_if (row.0.0 == a.0)) (tally_apps a rows)

-- ---- which of two stands first

-- how many stand in front of the application
abbrev pub place_in : List App → App → ℕ
place_in [] a = 0
place_in (x ∷ apps) a = cond (x.0 == a.0) 0 (suc (place_in apps a))

-- Of those that pass, this one (`c`) stands behind some of which none is the other (`a`). So it stands before the other, if that one
-- passes, too.
pub stands_before : (q : App → Bool) (c a : App) (apps d l : List App) → filter q apps ≡ d ++ c ∷ l → q c ≡ true → q a ≡ true
    → tally a d ≡ 0 → c.0 ≢ a.0 → place_in apps c < place_in apps a
stands_before q c a [] [] l is first other none apart = absurd (cc)
stands_before q c a [] (z ∷ d) l is first other none apart = absurd (cc)
stands_before q c a (x ∷ apps) d l is first other none apart =
    by (q x) refl d (λ e left nothing. stands_before q c a apps e l left first other nothing apart) is none
  where
    stays : (c d : Bool) (i j : ℕ) → d ≡ false → i < j → cond c 0 (suc i) < cond d 0 (suc j)
    stays true true i j is less = absurd (false≢true (sym is))
    stays true false i j is less = omega arith
    stays false true i j is less = absurd (false≢true (sym is))
    stays false false i j is less = omega (arith, less)

    in_front : (c d : Bool) (i j : ℕ) → c ≡ true → d ≡ false → cond c 0 (suc i) < cond d 0 (suc j)
    in_front true true i j one two = absurd (false≢true (sym two))
    in_front true false i j one two = omega arith
    in_front false d i j one two = absurd (false≢true one)

    by : (e : Bool) → q x ≡ e → (d : List App)
        → ((k : List App) → filter q apps ≡ k ++ c ∷ l → tally a k ≡ 0 → place_in apps c < place_in apps a)
        → cond e (x ∷ filter q apps) (filter q apps) ≡ d ++ c ∷ l → tally a d ≡ 0 → place_in (x ∷ apps) c < place_in (x ∷ apps) a
    by false fails d later is none =
        stays (x.0 == c.0) (x.0 == a.0) (place_in apps c) (place_in apps a) (not_other (cases_Bool (x.0 == a.0))) (later d is none)
      where
        not_other : ((x.0 == a.0) ≡ true) ⊎ ((x.0 == a.0) ≡ false) → (x.0 == a.0) ≡ false
        not_other (inl same) = absurd (false≢true (sym fails ∙ ap q (same_app x a (eqb-true x.0 a.0 same)) ∙ other))
        not_other (inr differs) = differs
    by true passes [] later is none =
        let same : x ≡ c = cc in
        in_front (x.0 == c.0) (x.0 == a.0) (place_in apps c) (place_in apps a) (eq-eqb x.0 c.0 (ap (λ (b : App). b.0) same))
        (ne_eqb x.0 a.0 (λ equal. apart (ap (λ (b : App). b.0) (sym same) ∙ equal)))
    by true passes (z ∷ d) later is none =
        let same : x ≡ z = cc in
        let rest : filter q apps ≡ d ++ c ∷ l = cc in
        stays (x.0 == c.0) (x.0 == a.0) (place_in apps c) (place_in apps a)
        (ap (λ (b : App). b.0 == a.0) same ∙ (none_in (z.0 == a.0) none).0) (later d rest (none_in (z.0 == a.0) none).1)
      where
        none_in : (e : Bool) → more_if e (tally a d) ≡ 0 → (e ≡ false) × (tally a d ≡ 0)
        none_in true many = absurd (omega (arith, many))
        none_in false many = (refl, many)
