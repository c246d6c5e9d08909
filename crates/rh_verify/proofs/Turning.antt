-- One line of a script, and those behind it.
use Rattle.std.proofs.Common.{◌≡◌, ◌≤◌, ◌+◌, ℕ, List, [], ◌∷◌, ◌++◌, length, map, true, false, Option, Some, Ok, Err, refl, sym, ap, subst, ◌∙◌, append-nil, append_assoc, arith}
use Rattle.std.specs.List.{flat_map}
use Rattle.std.proofs.lemmas.List.{length-append}
use Rattle.std.proofs.lemmas.Grind.{flat_map-append}
use Rattle.rh_model.specs.ClusterView.{ClusterView}
use Rattle.rh_calls.specs.declared.call.Call.{Call}
use Rattle.rh_script.specs.declared.script.Line.{Line}
use Rattle.rh_script.specs.declared.script.Line.TheVariants.{Nothing, Asks, Bad}
use Rattle.rh_devices.specs.declared.fault.WriteFault.{WriteFault}
use Rattle.rh_devices.specs.declared.watched.Watched.{Watched}
use Rattle.rh_devices.specs.Devices.{Passed, WroteFront}
use Rattle.rh_devices.proofs.Passing.{passed_none, passed_more, fault_behind, fault_before}
use Rattle.rh_script.specs.Commands.{line_of}
use Rattle.rh_run.specs.RunText.{bad_line, lines_asked}
use Rattle.rh_verify.specs.declared.tally.Tally.{Tally}
use Rattle.rh_verify.specs.declared.tally.Verdict.{Verdict}
use Rattle.rh_verify.specs.Rules.{Rules}
use Rattle.rh_verify.specs.Expected.{Check, check_of, asked_by, checks, ahead, passed_by, Passes}
use Rattle.rh_verify.specs.Blocks.{block_text}
use Rattle.rh_verify.specs.Counts.{tally_of}
use Rattle.rh_verify.specs.Judging.{with_verdict, verdict_on, with_checks, Gave, Takes}
use Rattle.rh_verify.proofs.Counting.{counted_none, counted_one, counted_more}

-- a line that asks this was taken, or not
module _ {K V : Type 0} (takes : K → K → List ℕ → Type 0) (fails : K → K → Type 0)
    (r : Rules V) (before after : V) (sum total : Tally) (k : ℕ) (line : List ℕ) (a : Line) (lines : List (List ℕ × Line)) (old new : Watched K) where
  pub takes_nothing : a ≡ Nothing → old.failed ≡ false → Takes takes fails r (Ok false) before before sum sum k (line, a) lines old old
  takes_nothing is well = rw is ([], passed_none takes old.inner, refl, (λ bad. absurd (cc bad)), counted_none sum, omega arith, well)

  pub takes_bad : a ≡ Bad → Takes takes fails r (Ok true) before before sum sum k (line, a) lines old old
  takes_bad is = (is, refl, refl)

  module _ (call : Call) (is : a ≡ Asks call) where
    pub takes_call : (v : Verdict) → after ≡ r.behind before call
        → Gave takes fails (Ok v) (block_text (check_of r k line before call (ahead lines))) (verdict_on (check_of r k line before call (ahead lines))) old new
        → total ≡ with_verdict sum v → Takes takes fails r (Ok false) before after sum total k (line, a) lines old new
    takes_call v to gave adds =
        let x : Check = check_of r k line before call (ahead lines) in
        rw (is, to) (
          x ∷ [],
          subst (λ (t : List ℕ). Passed takes old.inner new.inner t) (sym (append-nil (block_text x))) gave.1,
          refl,
          (λ bad. absurd (cc bad)),
          adds ∙ ap (with_verdict sum) gave.0 ∙ counted_one sum x,
          omega arith,
          gave.2,
        )

    pub call_fails : (f : WriteFault) → WroteFront takes fails f (block_text (check_of r k line before call (ahead lines))) old new
        → Takes takes fails r (Err f) before after sum total k (line, a) lines old new
    call_fails f broke =
        rw is (fault_before takes fails f old new (block_text (check_of r k line before call (ahead lines)))
        (flat_map block_text (checks r (r.behind before call) (k + 1) lines)) broke)

-- a line in the midst of a script: what stands here is this line, and then tail
module _ {K V : Type 0} (takes : K → K → List ℕ → Type 0) (fails : K → K → Type 0)
    (r : Rules V) (start sim next : V) (first passed : ℕ) (all here tail : List (List ℕ × Line)) (line : List ℕ × Line)
    (a b d : Watched K) (sum total : Tally) (done : List Check)
    (at : here ≡ line ∷ tail) (wrote : Passed takes a.inner b.inner (flat_map block_text done))
    (so_far : checks r start first all ≡ done ++ checks r sim (first + passed) here) (tallied : sum ≡ tally_of done) (few : length done ≤ passed) where
  pub goes_on : Takes takes fails r (Ok false) sim next sum total (first + passed) line tail b d
      → (more : List Check) × Passed takes a.inner d.inner (flat_map block_text more)
      × (checks r start first all ≡ more ++ checks r next (first + (passed + 1)) tail) × (total ≡ tally_of more) × (length more ≤ passed + 1)
  goes_on t =
      let place : (first + passed) + 1 ≡ first + (passed + 1) = omega arith in (
        done ++ t.0,
        subst (λ (text : List ℕ). Passed takes a.inner d.inner text) (sym (flat_map-append block_text done t.0))
            (passed_more takes a.inner b.inner d.inner (flat_map block_text done) (flat_map block_text t.0) wrote t.1),
        so_far ∙ ap (λ ls. done ++ checks r sim (first + passed) ls) at ∙ ap (λ (xs : List Check). done ++ xs) t.2
            ∙ sym (append_assoc done t.0 (checks r next ((first + passed) + 1) tail))
            ∙ ap (λ (k : ℕ). (done ++ t.0) ++ checks r next k tail) place,
        t.4 ∙ ap (λ (s : Tally). with_checks s t.0) tallied ∙ counted_more done t.0,
        omega (arith, length-append done t.0, t.5, few),
      )

  pub breaks : (f : WriteFault) → Takes takes fails r (Err f) sim next sum total (first + passed) line tail b d
      → WroteFront takes fails f (flat_map block_text (checks r start first all)) a d
  breaks f t =
      rw (so_far, at, flat_map-append block_text done (checks r sim (first + passed) (line ∷ tail)))
      (fault_behind takes fails f a b d (flat_map block_text done) (flat_map block_text (checks r sim (first + passed) (line ∷ tail))) wrote t)

  pub stops : line.1 ≡ Bad → checks r start first all ≡ done
  stops is = so_far ∙ ap (λ ls. done ++ checks r sim (first + passed) ls) at ∙ ap (λ (x : Line). done ++ checks r sim (first + passed) ((line.0, x) ∷ tail)) is
      ∙ append-nil done

  -- the script ends here
  pub ends_here : here ≡ [] → checks r start first all ≡ done
  ends_here none = so_far ∙ ap (λ ls. done ++ checks r sim (first + passed) ls) none ∙ append-nil done

  pub told_so_far : (bad whole_bad : Option ℕ) → bad ≡ whole_bad → checks r start first all ≡ done → b.failed ≡ false
      → Gave {V = Tally × Option ℕ} takes fails (Ok (sum, bad)) (flat_map block_text (checks r start first all)) (tally_of (checks r start first all), whole_bad) a b
  told_so_far bad whole_bad is whole well = rw whole ((λ i. (tallied i, is i)), wrote, well)

-- the number of the first bad line
pub bad_next : (k : ℕ) (a : Line) (lines : List Line) → (a ≡ Bad → ⊥) → bad_line k (a ∷ lines) ≡ bad_line (k + 1) lines
bad_next k Nothing lines other = refl
bad_next k (Asks call) lines other = refl
bad_next k Bad lines other = absurd (other refl)

pub bad_here : (k : ℕ) (a : Line) (lines : List Line) → a ≡ Bad → bad_line k (a ∷ lines) ≡ Some k
bad_here k a lines is = rw is refl

-- ---- comments and blank lines that are passed
pub checks_past : {V : Type 0} (r : Rules V) (s : V) (k : ℕ) (passed : List (List ℕ)) (left : List (List ℕ × Line))
    → checks r s k (passed_by passed ++ left) ≡ checks r s (k + length passed) left
checks_past r s k [] left = let zero : k ≡ k + 0 = omega arith in ap (λ (n : ℕ). checks r s n left) zero
checks_past r s k (line ∷ passed) left =
    let place : (k + 1) + length passed ≡ k + length (line ∷ passed) = omega arith in
    checks_past r s (k + 1) passed left ∙ ap (λ (n : ℕ). checks r s n left) place

asked_lines : (c : ClusterView) (lines : List (List ℕ)) → lines_asked c lines ≡ map (λ (at : List ℕ × Line). at.1) (asked_by c lines)
asked_lines c [] = refl
asked_lines c (line ∷ lines) = ap (λ (asked : List Line). line_of c line ∷ asked) (asked_lines c lines)

none_bad : (k : ℕ) (passed : List (List ℕ)) (left : List (List ℕ × Line))
    → bad_line k (map (λ (at : List ℕ × Line). at.1) (passed_by passed ++ left)) ≡ bad_line (k + length passed) (map (λ (at : List ℕ × Line). at.1) left)
none_bad k [] left = let zero : k ≡ k + 0 = omega arith in ap (λ (n : ℕ). bad_line n (map (λ (at : List ℕ × Line). at.1) left)) zero
none_bad k (line ∷ passed) left =
    let place : (k + 1) + length passed ≡ k + length (line ∷ passed) = omega arith in
    none_bad (k + 1) passed left ∙ ap (λ (n : ℕ). bad_line n (map (λ (at : List ℕ × Line). at.1) left)) place

-- the same lines are left, farther on
module _ (c : ClusterView) (lines left : List (List ℕ)) (count : ℕ) (passes : Passes (asked_by c lines) (asked_by c left) count) where
  pub checks_left : {V : Type 0} (r : Rules V) (s : V) (k : ℕ) → checks r s (k + 1) (asked_by c lines) ≡ checks r s (k + count) (asked_by c left)
  checks_left r s k =
      let place : (k + 1) + length passes.0 ≡ k + count = let is = passes.2 in omega (arith, is) in
      ap (checks r s (k + 1)) passes.1 ∙ checks_past r s (k + 1) passes.0 (asked_by c left) ∙ ap (λ (n : ℕ). checks r s n (asked_by c left)) place

  pub bad_left : (k : ℕ) → bad_line (k + 1) (lines_asked c lines) ≡ bad_line (k + count) (lines_asked c left)
  bad_left k =
      let place : (k + 1) + length passes.0 ≡ k + count = let is = passes.2 in omega (arith, is) in
      ap (bad_line (k + 1)) (asked_lines c lines ∙ ap (map (λ (at : List ℕ × Line). at.1)) passes.1)
      ∙ none_bad (k + 1) passes.0 (asked_by c left)
      ∙ ap (λ (n : ℕ). bad_line n (map (λ (at : List ℕ × Line). at.1) (asked_by c left))) place
      ∙ ap (bad_line (k + count)) (sym (asked_lines c left))
