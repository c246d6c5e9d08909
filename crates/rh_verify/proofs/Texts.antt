-- Lines of a text, one after the other.
use Rattle.std.proofs.Common.{◌≡◌, ◌<◌, ◌+◌, ℕ, zero, suc, List, [], ◌∷◌, ◌++◌, length, take, get_or, map, Bool, true, false, Option, sym, ap, refl, ◌∙◌, append_assoc, arith}
use Rattle.std.specs.Prelude.{◌||◌}
use Rattle.std.specs.List.{filter_map, cons_option, list_any}
use Rattle.std.specs.Borrow.{Bor}
use Rattle.std.proofs.lemmas.List.{take_more, map_push}
use Rattle.std.proofs.lemmas.List.Elements.{filter_map-append}
use Rattle.rh_model.specs.ClusterView.{ClusterView}
use Rattle.rh_script.specs.declared.script.Line.{Line}
use Rattle.rh_script.specs.declared.script.Line.TheVariants.{Nothing, Asks, Bad}
use Rattle.rh_script.specs.Lines.{raw_lines, content}
use Rattle.rh_script.specs.Commands.{line_of}
use Rattle.rh_run.specs.RunText.{lines_asked}
use Rattle.rh_verify.specs.Spaces.{lines_of}
use Rattle.rh_verify.specs.Expected.{asked_by, ahead}

-- the first line, and those behind it
module _ (rest line after : List ℕ) (split : raw_lines rest ≡ line ∷ raw_lines after) where
  pub first_line : lines_of rest ≡ content line ∷ lines_of after
  first_line = ap (map content) split

  pub first_asked : (c : ClusterView) (a : Line) → line_of c (content line) ≡ a
      → asked_by c (lines_of rest) ≡ (content line, a) ∷ asked_by c (lines_of after)
  first_asked c a is =
      ap (asked_by c) first_line ∙ ap (λ (x : Line). (content line, x) ∷ asked_by c (lines_of after)) is

  -- the same, where the content is named
  pub asked_as : (c : ClusterView) (r : List ℕ) → r ≡ content line → asked_by c (lines_of rest) ≡ (r, line_of c r) ∷ asked_by c (lines_of after)
  asked_as c r is = ap (asked_by c) first_line ∙ ap (λ (t : List ℕ). (t, line_of c t) ∷ asked_by c (lines_of after)) (sym is)

  pub lines_as : (c : ClusterView) (r : List ℕ) → r ≡ content line → lines_asked c (lines_of rest) ≡ line_of c r ∷ lines_asked c (lines_of after)
  lines_as c r is = ap (lines_asked c) first_line ∙ ap (λ (t : List ℕ). line_of c t ∷ lines_asked c (lines_of after)) (sym is)

-- a command or a bad line ends what stands before it
pub ahead_ends : (line : List ℕ) (a : Line) (lines : List (List ℕ × Line)) → (a ≡ Nothing → ⊥) → ahead ((line, a) ∷ lines) ≡ []
ahead_ends line Nothing lines other = absurd (other refl)
ahead_ends line (Asks call) lines other = refl
ahead_ends line Bad lines other = refl

-- one element farther
pub farther : {X : Type 0} (all done rest : List X) (x : X) → all ≡ done ++ x ∷ rest → all ≡ (done ++ x ∷ []) ++ rest
farther all done rest x is = is ∙ sym (append_assoc done (x ∷ []) rest)

-- what is given by one line more
module _ {Y : Type 0} (h : List ℕ → Option Y) (xs : List (Bor (List ℕ))) (i : ℕ) (d : Bor (List ℕ)) (at : i < length xs) where
  pub given_more : filter_map h (map (λ (line : Bor (List ℕ)). line.now) (take (i + 1) xs))
      ≡ filter_map h (map (λ (line : Bor (List ℕ)). line.now) (take i xs)) ++ cons_option (h (get_or xs i d).now) []
  given_more =
      ap (λ (ls : List (Bor (List ℕ))). filter_map h (map (λ (line : Bor (List ℕ)). line.now) ls)) (take_more xs i d at)
      ∙ ap (filter_map h) (map_push (λ (line : Bor (List ℕ)). line.now) (take i xs) (get_or xs i d))
      ∙ filter_map-append h (map (λ (line : Bor (List ℕ)). line.now) (take i xs)) ((get_or xs i d).now ∷ [])

  pub given_next : (old new : List Y) → old ≡ filter_map h (map (λ (line : Bor (List ℕ)). line.now) (take i xs))
      → new ≡ old ++ cons_option (h (get_or xs i d).now) [] → new ≡ filter_map h (map (λ (line : Bor (List ℕ)). line.now) (take (i + 1) xs))
  given_next old new so_far is = is ∙ ap (λ (t : List Y). t ++ cons_option (h (get_or xs i d).now) []) so_far ∙ sym given_more

-- a line that passes a test
pub found : (p : List ℕ → Bool) (xs : List (Bor (List ℕ))) (i : ℕ) (d : Bor (List ℕ)) → i < length xs → p (get_or xs i d).now ≡ true
    → list_any p (map (λ (line : Bor (List ℕ)). line.now) xs) ≡ true
found p [] i d at h = absurd (omega (arith, at))
found p (x ∷ xs) zero d at h = rw h refl
found p (x ∷ xs) (suc i) d at h = rw (found p xs i d (omega (arith, at)) h) (either (p x.now))
  where
    either : (b : Bool) → (b || true) ≡ true
    either true = refl
    either false = refl
