-- What comes of lines where the line `===` hasn't come before.
use Rattle.std.proofs.Common.{◌≡◌, ◌≤◌, ◌∙◌, ◌||◌, ℕ, List, ◌++◌, map, true, false, Result, Ok, Err, sym, ap, arith, append_assoc}
use Rattle.std.specs.List.{concat, list_any}
use Rattle.std.proofs.lemmas.List.{map-append}
use Rattle.std.proofs.lemmas.List.Folds.{concat-append}
use Rattle.rh_model.specs.ClusterView.{ClusterView}
use Rattle.rh_cluster.specs.ClusterOf.{cluster_of}
use Rattle.rh_cluster.specs.declared.fault.ClusterFault.{ClusterFault}
use Rattle.rh_devices.specs.declared.fault.WriteFault.{WriteFault}
use Rattle.rh_devices.specs.declared.watched.Watched.{Watched}
use Rattle.rh_devices.specs.Devices.{Passed}
use Rattle.rh_devices.proofs.Passing.{passed_more, fault_behind}
use Rattle.rh_script.specs.Lines.{raw_lines, content, is_separator, lines_before, lines_behind, cluster_text, script_lines}
use Rattle.rh_run.specs.RunText.{end_over}
use Rattle.rh_manner.specs.declared.stage.Stage.{Stage}
use Rattle.rh_manner.specs.declared.stage.Turn.{Turn}
use Rattle.rh_manner.specs.declared.stage.Turn.TheVariants as turn
use Rattle.rh_manner.specs.Speech.{Speech, over_said}
use Rattle.rh_manner.specs.Stages.{Leads, NumbersWithin, Takes, text_from, end_from, opened_from, opened_end, is_parted}
use Rattle.rh_manner.proofs.Parting.{before_none, behind_none, before_some, behind_some}
use Rattle.rh_manner.proofs.WholeLines.{joined}

-- none of the lines is that one
module _ {V : Type 0} (sp : Speech V) (before bytes : List ℕ) (none : list_any is_separator (raw_lines bytes) ≡ false) where
  cluster_on : (more : List (List ℕ)) → before ++ concat (lines_before (raw_lines bytes ++ more)) ≡ (before ++ bytes) ++ concat (lines_before more)
  cluster_on more =
      ap (λ ls. before ++ concat ls) (before_none (raw_lines bytes) more none)
      ∙ ap (λ t. before ++ t) (concat-append (raw_lines bytes) (lines_before more))
      ∙ ap (λ t. before ++ (t ++ concat (lines_before more))) (joined bytes)
      ∙ sym (append_assoc before bytes (concat (lines_before more)))

  pub text_goes_on : (more : List (List ℕ)) → opened_from sp before (raw_lines bytes ++ more) ≡ opened_from sp (before ++ bytes) more
  text_goes_on more =
      (λ i. over_said sp (cluster_on more i) (map content (behind_none (raw_lines bytes) more none i)) (cluster_of (cluster_on more i)))

  pub end_goes_on : (more : List (List ℕ)) → opened_end before (raw_lines bytes ++ more) ≡ opened_end (before ++ bytes) more
  end_goes_on more =
      (λ i. end_over (map content (behind_none (raw_lines bytes) more none i)) (cluster_of (cluster_on more i)))

-- one is, and the script behind it begins with these lines
module _ {V : Type 0} (sp : Speech V) (before bytes script : List ℕ) (some : list_any is_separator (raw_lines bytes) ≡ true)
    (behind : map content (raw_lines script) ≡ script_lines bytes) where
  lines_on : (more : List (List ℕ)) → map content (lines_behind (raw_lines bytes ++ more)) ≡ map content (raw_lines script ++ more)
  lines_on more =
      ap (map content) (behind_some (raw_lines bytes) more some) ∙ map-append content (lines_behind (raw_lines bytes)) more
      ∙ ap (λ ls. ls ++ map content more) (sym behind) ∙ sym (map-append content (raw_lines script) more)

  pub text_opens : (more : List (List ℕ)) → opened_from sp before (raw_lines bytes ++ more)
      ≡ over_said sp (before ++ cluster_text bytes) (map content (raw_lines script ++ more)) (cluster_of (before ++ cluster_text bytes))
  text_opens more =
      let file : before ++ concat (lines_before (raw_lines bytes ++ more)) ≡ before ++ cluster_text bytes =
      λ i. before ++ concat (before_some (raw_lines bytes) more some i) in
      (λ i. over_said sp (file i) (lines_on more i) (cluster_of (file i)))

  pub end_opens : (more : List (List ℕ)) → opened_end before (raw_lines bytes ++ more)
      ≡ end_over (map content (raw_lines script ++ more)) (cluster_of (before ++ cluster_text bytes))
  end_opens more =
      (λ i. end_over (lines_on more i) (cluster_of (before ++ concat (before_some (raw_lines bytes) more some i))))

  -- and so, by what the whole cluster file is
  pub text_read : (read : Result ClusterView ClusterFault) → cluster_of (before ++ cluster_text bytes) ≡ read → (more : List (List ℕ))
      → opened_from sp before (raw_lines bytes ++ more) ≡ over_said sp (before ++ cluster_text bytes) (map content (raw_lines script ++ more)) read
  text_read read is more = text_opens more ∙ ap (over_said sp (before ++ cluster_text bytes) (map content (raw_lines script ++ more))) is

  pub end_read : (read : Result ClusterView ClusterFault) → cluster_of (before ++ cluster_text bytes) ≡ read → (more : List (List ℕ))
      → opened_end before (raw_lines bytes ++ more) ≡ end_over (map content (raw_lines script ++ more)) read
  end_read read is more = end_opens more ∙ ap (end_over (map content (raw_lines script ++ more))) is

-- the numbers of lines have come no farther
pub numbers_more : {R : Type 0} (r : Result (Turn R) WriteFault) (n m : ℕ) → n ≤ m → NumbersWithin r n → NumbersWithin r m
numbers_more (Ok (turn.Goes after)) n m h within = omega (arith, h, within)
numbers_more (Ok (turn.Ends it)) n m h within = tt
numbers_more (Err f) n m h within = tt

-- what came of the lines of a script came of those before it, too, behind what was written first
module _ {K : Type 0} (takes : K → K → List ℕ → Type 0) (fails : K → K → Type 0) {R V : Type 0} (sp : Speech V) (see : R → V) (before mid : Stage R) (lines script : List (List ℕ))
    (opening : List ℕ) (a m b : Watched K) (wrote : Passed takes a.inner m.inner opening)
    (text : (more : List (List ℕ)) → text_from sp see before (lines ++ more) ≡ opening ++ text_from sp see mid (script ++ more))
    (end : (more : List (List ℕ)) → end_from sp see before (lines ++ more) ≡ end_from sp see mid (script ++ more))
    (parted : is_parted mid ≡ true) (some : (is_parted before || list_any is_separator lines) ≡ true) where
  within : (after : Stage R) (piece : List ℕ) → Leads sp see mid after script piece → is_parted after ≡ true
  within after piece leads = leads.parted ∙ ap (λ t. t || list_any is_separator script) parted

  pub opens : (r : Result (Turn R) WriteFault) → Takes takes fails sp see r mid script m b → Takes takes fails sp see r before lines a b
  opens (Ok (turn.Goes after)) h = (
    opening ++ h.0,
    passed_more takes a.inner m.inner b.inner opening h.0 wrote h.1,
    h.2,
    record {
      text = λ more. text more ∙ ap (λ (t : List ℕ). opening ++ t) (h.3.text more) ∙ sym (append_assoc opening h.0 (text_from sp see after more));
      end = λ more. end more ∙ h.3.end more;
      parted = within after h.0 h.3 ∙ sym some;
      silent = λ not. absurd (cc (sym (within after h.0 h.3) ∙ not));
    },
  )
  opens (Ok (turn.Ends told)) h = (
    opening ++ h.0,
    passed_more takes a.inner m.inner b.inner opening h.0 wrote h.1,
    h.2,
    record { text = λ more. text more ∙ ap (λ (t : List ℕ). opening ++ t) (h.3.text more); end = λ more. end more ∙ h.3.end more },
  )
  opens (Err f) h = λ more. rw (text more) (fault_behind takes fails f a m b opening (text_from sp see mid (script ++ more)) wrote (h more))
