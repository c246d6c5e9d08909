-- That a verification tells blocks exactly if it tells a fault.
use Rattle.std.proofs.Common.{◌≡◌, ◌+◌, ◌++◌, ◌↔◌, ℕ, List, [], length, filter, Bool, true, false, not, cond, All, Some, None, refl, sym, ◌∙◌, arith}
use Rattle.std.specs.Prelude.{◌==◌}
use Rattle.std.specs.List.{flat_map}
use Rattle.std.proofs.lemmas.Bool.Decides.{nat_tests}
use Rattle.rh_model.specs.ClusterView.{ClusterView}
use Rattle.rh_rules.specs.declared.pick.Pick.{Pick}
use Rattle.rh_trail.specs.Lone.{opened}
use Rattle.rh_script.specs.Lines.{script_lines}
use Rattle.rh_run.specs.declared.fault.Told.TheVariants as told
use Rattle.rh_verify.specs.Rules.{Rules}
use Rattle.rh_verify.specs.Manual.{manual}
use Rattle.rh_verify.specs.Expected.{asked_by, checks, stray, is_expectation}
use Rattle.rh_verify.specs.Blocks.{holds, block_text, stray_text}
use Rattle.rh_verify.specs.VerifyText.{first_line, blocks_text, verified_end_by, verify_end}
use Rattle.rh_verify.specs.Laws.{IsScript}
use Rattle.rh_verify.proofs.Differing.{both_empty, none_differs, none_told, no_stray, stray_none}
use Rattle.rh_verify.proofs.Quiet.{quiet_checks, quiet_stray}

none_at : (n : ℕ) → n ≡ 0 → cond (n == 0) None (Some told.Differs) ≡ None
none_at n is = rw is refl

at_none : (n : ℕ) → cond (n == 0) None (Some told.Differs) ≡ None → n ≡ 0
at_none n = by (n == 0) refl
  where
    by : (b : Bool) → (n == 0) ≡ b → cond b None (Some told.Differs) ≡ None → n ≡ 0
    by true is h = grind (arith, nat_tests, is)
    by false is h = absurd (cc h)

module _ {V : Type 0} (r : Rules V) (start : ClusterView → V) (bytes : List ℕ) (c : ClusterView) (is : IsScript bytes c) (its : r.cluster (start c) ≡ c) where
  abbrev strays : ℕ
  strays = length (stray (first_line bytes) (asked_by c (script_lines bytes)))

  abbrev others : ℕ
  others = length (filter (λ x. not (holds x)) (checks r (start c) (first_line bytes) (asked_by c (script_lines bytes))))

  ends : verified_end_by r start bytes ≡ cond (strays + others == 0) None (Some told.Differs)
  ends = rw (is.cluster, its, is.lines) refl

  blocks : blocks_text r (start c) (first_line bytes) (script_lines bytes)
      ≡ flat_map stray_text (stray (first_line bytes) (asked_by c (script_lines bytes)))
      ++ flat_map block_text (checks r (start c) (first_line bytes) (asked_by c (script_lines bytes)))
  blocks = rw its refl

  pub agrees_by : (blocks_text r (start c) (first_line bytes) (script_lines bytes) ≡ []) ↔ (verified_end_by r start bytes ≡ None)
  agrees_by = (
    (λ none.
        let parts = both_empty (flat_map stray_text (stray (first_line bytes) (asked_by c (script_lines bytes))))
        (flat_map block_text (checks r (start c) (first_line bytes) (asked_by c (script_lines bytes)))) (sym blocks ∙ none) in
        ends ∙ none_at (strays + others) (omega (
          arith,
          no_stray (stray (first_line bytes) (asked_by c (script_lines bytes))) parts.0,
          none_differs (checks r (start c) (first_line bytes) (asked_by c (script_lines bytes))) parts.1,
        ))),
    (λ none.
        let zero : strays + others ≡ 0 = at_none (strays + others) (sym ends ∙ none) in
        blocks
        ∙ rw (stray_none (stray (first_line bytes) (asked_by c (script_lines bytes))) (omega (arith, zero)))
        (none_told (checks r (start c) (first_line bytes) (asked_by c (script_lines bytes))) (omega (arith, zero)))),
  )

  pub quiet_by : All (λ line. is_expectation line ≡ false) (script_lines bytes) → verified_end_by r start bytes ≡ None
  quiet_by none =
      ends ∙ none_at (strays + others) (omega (
        arith,
        quiet_stray c (first_line bytes) (script_lines bytes) none,
        quiet_checks r c (start c) (first_line bytes) (script_lines bytes) none,
      ))

-- by the rules of the manual
module _ (bytes : List ℕ) (c : ClusterView) (pick : Pick) (is : IsScript bytes c) where
  pub agrees : (blocks_text manual (opened c pick) (first_line bytes) (script_lines bytes) ≡ []) ↔ (verify_end bytes pick ≡ None)
  unfolding verify_end
  agrees = agrees_by manual (λ (k : ClusterView). opened k pick) bytes c is refl

  pub quiet : All (λ line. is_expectation line ≡ false) (script_lines bytes) → verify_end bytes pick ≡ None
  unfolding verify_end
  quiet none = quiet_by manual (λ (k : ClusterView). opened k pick) bytes c is refl none
