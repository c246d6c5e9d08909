-- Changes that are exchanged one after the other, taken back and made again.
use Rattle.std.proofs.Common.{◌≡◌, ℕ, zero, suc, ◌+◌, ◌<◌, ◌≤◌, List, [], ◌∷◌, ◌++◌, length, take, drop, refl, ap, sym, subst, ◌∙◌, get_or, set, append_assoc, arith}
use Rattle.std.proofs.lemmas.List.{set_at, get_or_at, take_more, drop_more, length-take-le}
use Rattle.rh_base.specs.Exchanges.{back, backed, forth, forthed, AllBack, AllForth}

pub back-append : {W C : Type 0} (put : W → C → W) (w : W) (cs ds : List C) → back put w (cs ++ ds) ≡ back put (back put w ds) cs
back-append put w [] ds = refl
back-append put w (c ∷ cs) ds = ap (λ v. put v c) (back-append put w cs ds)

pub forth-append : {W C : Type 0} (put : W → C → W) (w : W) (cs ds : List C) → forth put w (cs ++ ds) ≡ forth put (forth put w cs) ds
forth-append put w [] ds = refl
forth-append put w (c ∷ cs) ds = forth-append put (put w c) cs ds

pub forthed-append : {W C : Type 0} (put : W → C → W) (had : W → C → C) (w : W) (cs ds : List C) → forthed put had w (cs ++ ds) ≡ forthed put had w cs ++ forthed put had (forth put w cs) ds
forthed-append put had w [] ds = refl
forthed-append put had w (c ∷ cs) ds = ap (λ es. had w c ∷ es) (forthed-append put had (put w c) cs ds)

pub length-forthed : {W C : Type 0} (put : W → C → W) (had : W → C → C) (w : W) (cs : List C) → length (forthed put had w cs) ≡ length cs
length-forthed put had w [] = refl
length-forthed put had w (c ∷ cs) = ap (λ n. suc n) (length-forthed put had (put w c) cs)

pub length-backed : {W C : Type 0} (put : W → C → W) (had : W → C → C) (w : W) (cs : List C) → length (backed put had w cs) ≡ length cs
length-backed put had w [] = refl
length-backed put had w (c ∷ cs) = ap (λ n. suc n) (length-backed put had w cs)

-- where one exchange is taken back by the next, so are all
module _ {W C : Type 0} (put : W → C → W) (had : W → C → C) (law : (w : W) (c : C) → put (put w c) (had w c) ≡ w) where
  pub forth-back : (w : W) (cs : List C) → forth put (back put w cs) (backed put had w cs) ≡ w
  forth-back w [] = refl
  forth-back w (c ∷ cs) = ap (λ v. forth put v (backed put had w cs)) (law (back put w cs) c) ∙ forth-back w cs

  pub back-forth : (w : W) (cs : List C) → back put (forth put w cs) (forthed put had w cs) ≡ w
  back-forth w [] = refl
  back-forth w (c ∷ cs) = ap (λ v. put v (had w c)) (back-forth (put w c) cs) ∙ law w c

-- a loop from the last change to the first, at one more change: xs is what the changes hold so far
module _ {W C : Type 0} (put : W → C → W) (had : W → C → C) (w : W) (cs xs : List C) (m : ℕ) (d : C) (inside : m < length cs) where
  back_xs : xs ≡ take (m + 1) cs ++ backed put had w (drop (m + 1) cs) → xs ≡ take m cs ++ get_or cs m d ∷ backed put had w (drop (m + 1) cs)
  back_xs is = is ∙ ap (λ ys. ys ++ backed put had w (drop (m + 1) cs)) (take_more cs m d inside) ∙ append_assoc (take m cs) (get_or cs m d ∷ []) (backed put had w (drop (m + 1) cs))

  front : length (take m cs) ≡ m
  front = length-take-le m cs (omega (arith, inside))

  pub back_reads : xs ≡ take (m + 1) cs ++ backed put had w (drop (m + 1) cs) → get_or xs m d ≡ get_or cs m d
  back_reads is = ap (λ ys. get_or ys m d) (back_xs is) ∙ get_or_at (take m cs) (get_or cs m d) (backed put had w (drop (m + 1) cs)) d m front

  pub back_more : back put w (drop m cs) ≡ put (back put w (drop (m + 1) cs)) (get_or cs m d)
  back_more = ap (back put w) (drop_more cs m d inside)

  pub backed_more : xs ≡ take (m + 1) cs ++ backed put had w (drop (m + 1) cs)
      → set xs m (had (back put w (drop (m + 1) cs)) (get_or cs m d)) ≡ take m cs ++ backed put had w (drop m cs)
  backed_more is =
      ap (λ ys. set ys m (had (back put w (drop (m + 1) cs)) (get_or cs m d))) (back_xs is)
      ∙ set_at (take m cs) (get_or cs m d) (backed put had w (drop (m + 1) cs)) _ m front
      ∙ ap (λ ys. take m cs ++ backed put had w ys) (sym (drop_more cs m d inside))

  forth_xs : xs ≡ forthed put had w (take m cs) ++ drop m cs → xs ≡ forthed put had w (take m cs) ++ get_or cs m d ∷ drop (m + 1) cs
  forth_xs is = is ∙ ap (λ ys. forthed put had w (take m cs) ++ ys) (drop_more cs m d inside)

  forth_front : length (forthed put had w (take m cs)) ≡ m
  forth_front = length-forthed put had w (take m cs) ∙ front

  pub forth_reads : xs ≡ forthed put had w (take m cs) ++ drop m cs → get_or xs m d ≡ get_or cs m d
  forth_reads is = ap (λ ys. get_or ys m d) (forth_xs is) ∙ get_or_at (forthed put had w (take m cs)) (get_or cs m d) (drop (m + 1) cs) d m forth_front

  pub forth_more : forth put w (take (m + 1) cs) ≡ put (forth put w (take m cs)) (get_or cs m d)
  forth_more = ap (forth put w) (take_more cs m d inside) ∙ forth-append put w (take m cs) (get_or cs m d ∷ [])

  pub forthed_more : xs ≡ forthed put had w (take m cs) ++ drop m cs
      → set xs m (had (forth put w (take m cs)) (get_or cs m d)) ≡ forthed put had w (take (m + 1) cs) ++ drop (m + 1) cs
  forthed_more is =
      let x : C = had (forth put w (take m cs)) (get_or cs m d) in
      ap (λ ys. set ys m x) (forth_xs is)
      ∙ set_at (forthed put had w (take m cs)) (get_or cs m d) (drop (m + 1) cs) x m forth_front
      ∙ sym (append_assoc (forthed put had w (take m cs)) (x ∷ []) (drop (m + 1) cs))
      ∙ ap (λ ys. ys ++ drop (m + 1) cs) (sym (forthed-append put had w (take m cs) (get_or cs m d ∷ [])) ∙ ap (forthed put had w) (sym (take_more cs m d inside)))

pub AllBack-append : {W C : Type 0} (put : W → C → W) (P : W → C → Type 0) (w : W) (cs ds : List C) → AllBack put P w ds → AllBack put P (back put w ds) cs → AllBack put P w (cs ++ ds)
AllBack-append put P w [] ds late early = late
AllBack-append put P w (c ∷ cs) ds late early = (AllBack-append put P w cs ds late early.0, subst (λ v. P v c) (sym (back-append put w cs ds)) early.1)

pub AllBack-late : {W C : Type 0} (put : W → C → W) (P : W → C → Type 0) (w : W) (cs ds : List C) → AllBack put P w (cs ++ ds) → AllBack put P w ds
AllBack-late put P w [] ds all = all
AllBack-late put P w (c ∷ cs) ds all = AllBack-late put P w cs ds all.0

pub AllBack-early : {W C : Type 0} (put : W → C → W) (P : W → C → Type 0) (w : W) (cs ds : List C) → AllBack put P w (cs ++ ds) → AllBack put P (back put w ds) cs
AllBack-early put P w [] ds all = tt
AllBack-early put P w (c ∷ cs) ds all = (AllBack-early put P w cs ds all.0, subst (λ v. P v c) (back-append put w cs ds) all.1)

-- where the changes turn from one side to the other, so does what holds of each
module _ {W C : Type 0} (put : W → C → W) (had : W → C → C) (law : (w : W) (c : C) → put (put w c) (had w c) ≡ w)
    (P Q : W → C → Type 0) (turn : (w : W) (c : C) → P w c → Q (put w c) (had w c)) (unturn : (w : W) (c : C) → Q w c → P (put w c) (had w c)) where
  pub back_turns : (w : W) (cs : List C) → AllBack put P w cs → AllForth put Q (back put w cs) (backed put had w cs)
  back_turns w [] all = tt
  back_turns w (c ∷ cs) all =
      (turn (back put w cs) c all.1, subst (λ v. AllForth put Q v (backed put had w cs)) (sym (law (back put w cs) c)) (back_turns w cs all.0))

  pub forth_turns : (w : W) (cs : List C) → AllForth put Q w cs → AllBack put P (forth put w cs) (forthed put had w cs)
  forth_turns w [] all = tt
  forth_turns w (c ∷ cs) all =
      (forth_turns (put w c) cs all.1, subst (λ v. P v (had w c)) (sym (back-forth put had law (put w c) cs)) (unturn w c all.0))

-- what holds of the change at a place
pub AllBack-at : {W C : Type 0} (put : W → C → W) (P : W → C → Type 0) (w : W) (cs : List C) (m : ℕ) (d : C) → m < length cs → AllBack put P w cs → P (back put w (drop (m + 1) cs)) (get_or cs m d)
AllBack-at put P w [] m d inside all = absurd (omega (arith, inside))
AllBack-at put P w (c ∷ cs) zero d inside all = all.1
AllBack-at put P w (c ∷ cs) (suc m) d inside all =
    let e : suc (m + 1) ≡ suc m + 1 = omega arith in
    subst (λ n. P (back put w (drop n (c ∷ cs))) (get_or cs m d)) e (AllBack-at put P w cs m d (omega (arith, inside)) all.0)

pub AllForth-at : {W C : Type 0} (put : W → C → W) (P : W → C → Type 0) (w : W) (cs : List C) (m : ℕ) (d : C) → m < length cs → AllForth put P w cs → P (forth put w (take m cs)) (get_or cs m d)
AllForth-at put P w [] m d inside all = absurd (omega (arith, inside))
AllForth-at put P w (c ∷ cs) zero d inside all = all.0
AllForth-at put P w (c ∷ cs) (suc m) d inside all = AllForth-at put P (put w c) cs m d (omega (arith, inside)) all.1

-- a loop from the last change to the first, where n are left: v and xs are what it has made
pub get_or-any : {C : Type 0} (cs : List C) (m : ℕ) (c d : C) → m < length cs → get_or cs m c ≡ get_or cs m d
get_or-any [] m c d inside = absurd (omega (arith, inside))
get_or-any (x ∷ xs) zero c d inside = refl
get_or-any (x ∷ xs) (suc m) c d inside = get_or-any xs m c d (omega (arith, inside))

pub record BackLoop {W C : Type 0} (put : W → C → W) (had : W → C → C) (w : W) (cs : List C) (v : W) (xs : List C) (m : ℕ) (c : C) : Type 0 where
  pub inside : m < length cs
  pub change : c ≡ get_or cs m c
  pub words : put v c ≡ back put w (drop m cs)
  pub kept : set xs m (had v c) ≡ take m cs ++ backed put had w (drop m cs)
  pub reached : v ≡ back put w (drop (m + 1) cs)

pub back_loop : {W C : Type 0} (put : W → C → W) (had : W → C → C) (w : W) (cs : List C) (v : W) (xs : List C) (n m : ℕ) (c d : C) → n ≡ m + 1 → n ≤ length cs
    → v ≡ back put w (drop n cs) → xs ≡ take n cs ++ backed put had w (drop n cs) → c ≡ get_or xs m d → BackLoop put had w cs v xs m c
back_loop put had w cs v xs n m c d e within words kept read =
    let inside : m < length cs = omega (arith, e, within) in
    let v_is : v ≡ back put w (drop (m + 1) cs) = words ∙ ap (λ k. back put w (drop k cs)) e in
    let xs_is : xs ≡ take (m + 1) cs ++ backed put had w (drop (m + 1) cs) = kept ∙ ap (λ k. take k cs ++ backed put had w (drop k cs)) e in
    let c_is : c ≡ get_or cs m d = read ∙ back_reads put had w cs xs m d inside xs_is in
    record {
      inside = inside;
      change = c_is ∙ get_or-any cs m d c inside;
      words = (λ i. put (v_is i) (c_is i)) ∙ sym (back_more put had w cs xs m d inside);
      kept = ap (λ x. set xs m x) (λ i. had (v_is i) (c_is i)) ∙ backed_more put had w cs xs m d inside xs_is;
      reached = v_is;
    }

pub record ForthLoop {W C : Type 0} (put : W → C → W) (had : W → C → C) (w : W) (cs : List C) (v : W) (xs : List C) (m : ℕ) (c : C) : Type 0 where
  pub change : c ≡ get_or cs m c
  pub words : put v c ≡ forth put w (take (m + 1) cs)
  pub kept : set xs m (had v c) ≡ forthed put had w (take (m + 1) cs) ++ drop (m + 1) cs

pub forth_loop : {W C : Type 0} (put : W → C → W) (had : W → C → C) (w : W) (cs : List C) (v : W) (xs : List C) (m : ℕ) (c d : C) → m < length cs
    → v ≡ forth put w (take m cs) → xs ≡ forthed put had w (take m cs) ++ drop m cs → c ≡ get_or xs m d → ForthLoop put had w cs v xs m c
forth_loop put had w cs v xs m c d inside words kept read =
    let c_is : c ≡ get_or cs m d = read ∙ forth_reads put had w cs xs m d inside kept in
    record {
      change = c_is ∙ get_or-any cs m d c inside;
      words = (λ i. put (words i) (c_is i)) ∙ sym (forth_more put had w cs xs m d inside);
      kept = ap (λ x. set xs m x) (λ i. had (words i) (c_is i)) ∙ forthed_more put had w cs xs m d inside kept;
    }
