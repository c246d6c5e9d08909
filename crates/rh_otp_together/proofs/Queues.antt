-- The order in which news come: of those of one node none overtakes another.
use Rattle.std.proofs.Common.{◌≡◌, ◌⊎◌, ◌++◌, ◌==◌, ◌&&◌, ◌||◌, ℕ, zero, suc, Bool, true, false, cond, List, [], ◌∷◌, map, filter, refl, sym, ap, ◌∙◌, inl, inr, append_assoc}
use Rattle.std.specs.Prelude.{All, reverse}
use Rattle.std.proofs.Math.Bool.{or-true}
use Rattle.std.proofs.lemmas.Bool.{cases_Bool, eq-eqb, eqb-true}
use Rattle.std.proofs.lemmas.List.{reverse-append}
use Rattle.std.proofs.lemmas.List.Elements.{All-head, All-tail, filter-append}
use Rattle.rh_model.specs.declared.node.App.{App}
use Rattle.rh_model.specs.declared.node.Node.{Node}
use Rattle.rh_model.specs.declared.settings.Restart.{Restart}
use Rattle.rh_otp_model.specs.Rows.{keydelete}
use Rattle.rh_otp_dist.specs.Attempts.{has_app}
use Rattle.rh_otp_joins.proofs.Lists.{more_if, count_of}
use Rattle.rh_otp_together.proofs.Apps.{same_app, deleted}
use Rattle.rh_otp_together.proofs.Forms.{Token, news, onto, is_news, said_in, all_said}
use Rattle.rh_otp_together.proofs.Handling.{noted}
use Rattle.rh_otp_together.proofs.Stages.{heard, row_app}

-- ---- lists

pub onto_more : {A : Type 0} (xs ys l : List A) → onto (xs ++ ys) l ≡ onto ys (onto xs l)
onto_more [] ys l = refl
onto_more (x ∷ xs) ys l = onto_more xs ys (x ∷ l)

pub onto_reverse : {A : Type 0} (xs l : List A) → onto xs l ≡ reverse xs ++ l
onto_reverse [] l = refl
onto_reverse {A} (x ∷ xs) l =
    onto_reverse xs (x ∷ l)
    ∙ sym (append_assoc (reverse xs) (x ∷ []) l)
    ∙ ap (λ (y : List A). y ++ l) (sym (reverse-append (x ∷ []) xs))

pub filter_turned : {A : Type 0} (q : A → Bool) (xs l : List A) → filter q (onto xs l) ≡ onto (filter q xs) (filter q l)
filter_turned q [] l = refl
filter_turned {A} q (x ∷ xs) l = filter_turned q xs (x ∷ l) ∙ by (q x)
  where
    by : (c : Bool) → onto (filter q xs) (cond c (x ∷ filter q l) (filter q l)) ≡ onto (cond c (x ∷ filter q xs) (filter q xs)) (filter q l)
    by true = refl
    by false = refl

pub skipped : (q : App → Bool) (a : App) (l : List App) → q a ≡ false → filter q (a ∷ l) ≡ filter q l
skipped q a l is = ap (λ (c : Bool). cond c (a ∷ filter q l) (filter q l)) is

pub none_of : {A : Type 0} (q : A → Bool) (l : List A) → All (λ (c : A). q c ≡ false) l → filter q l ≡ []
none_of q [] all = refl
none_of {A} q (x ∷ l) all =
    ap (λ (c : Bool). cond c (x ∷ filter q l) (filter q l)) (All-head (λ (c : A). q c ≡ false) x l all)
    ∙ none_of q l (All-tail (λ (c : A). q c ≡ false) x l all)

-- an entry of a boot list stands there
still_there : (a : App) (d l : List (App × Restart)) → has_app a (map (λ (row : App × Restart). row.0) l) ≡ true
    → has_app a (map (λ (row : App × Restart). row.0) (onto d l)) ≡ true
still_there a [] l is = is
still_there a (x ∷ d) l is = still_there a d (x ∷ l) (ap (λ (c : Bool). x.0.0 == a.0 || c) is ∙ or-true (x.0.0 == a.0))

pub stands_in : (a : App) (r : Restart) (d l : List (App × Restart))
    → has_app a (map (λ (row : App × Restart). row.0) (onto d ((a, r) ∷ l))) ≡ true
stands_in a r d l = still_there a d ((a, r) ∷ l)
    (ap (λ (c : Bool). c || has_app a (map (λ (row : App × Restart). row.0) l)) (eq-eqb a.0 a.0 refl))

-- ---- rows

-- where the row of another application is deleted
pub kept_rows : (q : App → Bool) (a : App) (rows : List (App × Node)) → q a ≡ false
    → filter q (map row_app (keydelete a rows)) ≡ filter q (map row_app rows)
kept_rows q a [] is = refl
kept_rows q a (row ∷ rows) is =
    ap (λ (l : List (App × Node)). filter q (map row_app l)) (deleted a row rows) ∙ by (cases_Bool (row.0.0 == a.0)) (kept_rows q a rows is)
  where
    by : ((row.0.0 == a.0) ≡ true) ⊎ ((row.0.0 == a.0) ≡ false) → filter q (map row_app (keydelete a rows)) ≡ filter q (map row_app rows)
        → filter q (map row_app (cond (row.0.0 == a.0) rows (row ∷ keydelete a rows))) ≡ filter q (map row_app (row ∷ rows))
    by (inl same) rest =
        ap (λ (c : Bool). filter q (map row_app (cond c rows (row ∷ keydelete a rows)))) same
        ∙ sym (skipped q row.0 (map row_app rows) (ap q (same_app row.0 a (eqb-true row.0.0 a.0 same)) ∙ is))
    by (inr other) rest =
        ap (λ (c : Bool). filter q (map row_app (cond c rows (row ∷ keydelete a rows)))) other
        ∙ ap (λ (l : List App). cond (q row.0) (row.0 ∷ l) l) rest

pub noted_apps : (at : App → Node) (apps : List App) (rows : List (App × Node)) → map row_app (noted at apps rows)
    ≡ onto apps (map row_app rows)
noted_apps at [] rows = refl
noted_apps at (a ∷ apps) rows = noted_apps at apps ((a, at a) ∷ rows)

-- ---- news

all_said_more : (xs ys : List Token) → all_said (xs ++ ys) ≡ all_said xs ++ all_said ys
all_said_more [] ys = refl
all_said_more (x ∷ xs) ys =
    ap (λ (l : List App). said_in x ++ l) (all_said_more xs ys) ∙ sym (append_assoc (said_in x) (all_said xs) (all_said ys))

pub heard_more : (k : Node) (q : App → Bool) (xs ys : List Token) → heard k q (xs ++ ys) ≡ heard k q xs ++ heard k q ys
heard_more k q xs ys =
    ap all_said (filter-append (is_news k q) xs ys) ∙ all_said_more (filter (is_news k q) xs) (filter (is_news k q) ys)

abbrev pub often : App → ℕ → List App
often a zero = []
often a (suc j) = a ∷ often a j

-- of news to several nodes each of them gets its own
pub heard_of : (k : Node) (q : App → Bool) (a : App) (nodes : List Node)
    → heard k q (map (λ (x : Node). news x a) nodes) ≡ cond (q a) (often a (count_of k nodes)) []
heard_of k q a [] = by (q a)
  where
    by : (c : Bool) → ◌≡◌ {A = List App} [] (cond c [] [])
    by true = refl
    by false = refl
heard_of k q a (x ∷ nodes) = by (x.0 == k.0) (q a) (heard_of k q a nodes)
  where
    rest : List Token
    rest = filter (is_news k q) (map (λ (y : Node). news y a) nodes)

    by : (d e : Bool) → all_said rest ≡ cond e (often a (count_of k nodes)) []
        → all_said (cond (d && e) (news x a ∷ rest) rest) ≡ cond e (often a (more_if d (count_of k nodes))) []
    by true true same = ap (λ (l : List App). a ∷ l) same
    by true false same = same
    by false true same = same
    by false false same = same
