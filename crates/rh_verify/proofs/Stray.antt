-- Expectations to which there is no command, one line after the other.
use Rattle.std.proofs.Common.{◌≡◌, ◌<◌, ◌+◌, ℕ, suc, List, [], ◌∷◌, ◌++◌, length, drop, get_or, map, filter, Bool, true, false, cond, sym, ap, subst, ◌∙◌, append-nil, append_assoc, arith}
use Rattle.std.specs.Borrow.{Bor}
use Rattle.std.specs.List.{flat_map}
use Rattle.std.proofs.lemmas.List.{length-append}
use Rattle.std.proofs.lemmas.Grind.{flat_map-append}
use Rattle.std.proofs.Math.Seq.{drop-cons}
use Rattle.rh_devices.specs.declared.fault.WriteFault.{WriteFault}
use Rattle.rh_devices.specs.declared.watched.Watched.{Watched}
use Rattle.rh_devices.specs.Devices.{Passed, WroteFront}
use Rattle.rh_devices.proofs.Passing.{passed_more, fault_behind, fault_before}
use Rattle.rh_verify.specs.Blocks.{stray_text}
use Rattle.rh_verify.specs.Expected.{numbered, is_expectation}

-- the expectations among lines of which the first is k
abbrev pub stray_from : ℕ → List (Bor (List ℕ)) → List (ℕ × List ℕ)
stray_from k lines = filter (λ at. is_expectation at.1) (numbered k (map (λ (line : Bor (List ℕ)). line.now) lines))

module _ (first : ℕ) (lines : List (Bor (List ℕ))) (i : ℕ) (d : Bor (List ℕ)) (at : i < length lines) where
  rest : drop i lines ≡ get_or lines i d ∷ drop (i + 1) lines
  rest = let one : suc i ≡ i + 1 = omega arith in drop-cons lines i d at ∙ ap (λ n. get_or lines i d ∷ drop n lines) one

  here : stray_from (first + i) (drop i lines)
      ≡ cond (is_expectation (get_or lines i d).now) ((first + i, (get_or lines i d).now) ∷ stray_from (first + (i + 1)) (drop (i + 1) lines))
      (stray_from (first + (i + 1)) (drop (i + 1) lines))
  here =
      let one : (first + i) + 1 ≡ first + (i + 1) = omega arith in
      ap (stray_from (first + i)) rest
      ∙ ap (λ (k : ℕ). cond (is_expectation (get_or lines i d).now) ((first + i, (get_or lines i d).now) ∷ stray_from k (drop (i + 1) lines))
      (stray_from k (drop (i + 1) lines))) one

  pub stray_here : is_expectation (get_or lines i d).now ≡ true
      → stray_from (first + i) (drop i lines) ≡ (first + i, (get_or lines i d).now) ∷ stray_from (first + (i + 1)) (drop (i + 1) lines)
  stray_here is = here ∙ ap (λ (b : Bool). cond b ((first + i, (get_or lines i d).now) ∷ stray_from (first + (i + 1)) (drop (i + 1) lines))
      (stray_from (first + (i + 1)) (drop (i + 1) lines))) is

  pub none_here : is_expectation (get_or lines i d).now ≡ false
      → stray_from (first + i) (drop i lines) ≡ stray_from (first + (i + 1)) (drop (i + 1) lines)
  none_here is = here ∙ ap (λ (b : Bool). cond b ((first + i, (get_or lines i d).now) ∷ stray_from (first + (i + 1)) (drop (i + 1) lines))
      (stray_from (first + (i + 1)) (drop (i + 1) lines))) is

-- the next line is written, or not; before it these were
module _ {K : Type 0} (takes : K → K → List ℕ → Type 0) (fails : K → K → Type 0) (first : ℕ) (lines : List (Bor (List ℕ))) (i : ℕ) (d : Bor (List ℕ))
    (at : i < length lines) (a b e : Watched K) (done : List (ℕ × List ℕ)) (count : ℕ) (text : List ℕ)
    (wrote : Passed takes a.inner b.inner (flat_map stray_text done))
    (so_far : stray_from first lines ≡ done ++ stray_from (first + i) (drop i lines)) (counted : length done ≡ count) where
  pub one_more : is_expectation (get_or lines i d).now ≡ true → text ≡ stray_text (first + i, (get_or lines i d).now) → Passed takes b.inner e.inner text
      → (more : List (ℕ × List ℕ)) × Passed takes a.inner e.inner (flat_map stray_text more)
      × (stray_from first lines ≡ more ++ stray_from (first + (i + 1)) (drop (i + 1) lines)) × (length more ≡ count + 1)
  one_more is shown passed =
      let x : ℕ × List ℕ = (first + i, (get_or lines i d).now) in
      let rest : List (ℕ × List ℕ) = stray_from (first + (i + 1)) (drop (i + 1) lines) in
      let whole : flat_map stray_text done ++ text ≡ flat_map stray_text (done ++ x ∷ []) =
      ap (λ (t : List ℕ). flat_map stray_text done ++ t) (shown ∙ sym (append-nil (stray_text x))) ∙ sym (flat_map-append stray_text done (x ∷ [])) in (
        done ++ x ∷ [],
        subst (λ (t : List ℕ). Passed takes a.inner e.inner t) whole
            (passed_more takes a.inner b.inner e.inner (flat_map stray_text done) text wrote passed),
        so_far ∙ ap (λ (xs : List (ℕ × List ℕ)). done ++ xs) (stray_here first lines i d at is) ∙ sym (append_assoc done (x ∷ []) rest),
        omega (arith, length-append done (x ∷ []), counted),
      )

  pub none_more : is_expectation (get_or lines i d).now ≡ false
      → (more : List (ℕ × List ℕ)) × Passed takes a.inner b.inner (flat_map stray_text more)
      × (stray_from first lines ≡ more ++ stray_from (first + (i + 1)) (drop (i + 1) lines)) × (length more ≡ count)
  none_more is = (done, wrote, so_far ∙ ap (λ (xs : List (ℕ × List ℕ)). done ++ xs) (none_here first lines i d at is), counted)

  pub breaks_off : is_expectation (get_or lines i d).now ≡ true → text ≡ stray_text (first + i, (get_or lines i d).now)
      → (f : WriteFault) → WroteFront takes fails f text b e → WroteFront takes fails f (flat_map stray_text (stray_from first lines)) a e
  breaks_off is shown f broke =
      let x : ℕ × List ℕ = (first + i, (get_or lines i d).now) in
      let rest : List (ℕ × List ℕ) = stray_from (first + (i + 1)) (drop (i + 1) lines) in
      let whole : flat_map stray_text (stray_from first lines) ≡ flat_map stray_text done ++ (text ++ flat_map stray_text rest) =
      ap (flat_map stray_text) (so_far ∙ ap (λ (xs : List (ℕ × List ℕ)). done ++ xs) (stray_here first lines i d at is))
      ∙ flat_map-append stray_text done (x ∷ rest)
      ∙ ap (λ (t : List ℕ). flat_map stray_text done ++ (t ++ flat_map stray_text rest)) (sym shown) in
      subst (λ (t : List ℕ). WroteFront takes fails f t a e) (sym whole)
      (fault_behind takes fails f a b e (flat_map stray_text done) (text ++ flat_map stray_text rest) wrote
      (fault_before takes fails f b e text (flat_map stray_text rest) broke))
