-- The lines of verdicts, written one after the other.
use Rattle.std.proofs.Common.{◌≡◌, ◌≤◌, ◌<◌, ◌+◌, ℕ, List, ◌++◌, length, drop, get_or, sym, ap, subst, ◌∙◌, append-nil, append_assoc}
use Rattle.std.proofs.lemmas.List.{drop_all}
use Rattle.rh_model.specs.ClusterView.{ClusterView}
use Rattle.rh_state.specs.StateView.{StateView}
use Rattle.rh_rules.specs.declared.pick.Pick.{Pick}
use Rattle.rh_devices.specs.declared.fault.WriteFault.{WriteFault}
use Rattle.rh_devices.specs.declared.watched.Watched.{Watched}
use Rattle.rh_devices.specs.Devices.{Passed, WroteFront}
use Rattle.rh_devices.proofs.Passing.{passed_more, fault_behind, fault_before}
use Rattle.rh_explore.specs.declared.answers.Verdict.{Verdict}
use Rattle.rh_explore_text.specs.FoundLines.{verdict_line, verdict_lines}
use Rattle.rh_explore_text.proofs.Answered.{next_of}

module _ {K : Type 0} (takes : K → K → List ℕ → Type 0) (c : ClusterView) (pick : Pick) (base : StateView) (all : List Verdict) where
  -- the lines of the first of them were written, and those of the others are left
  abbrev pub AreWritten : Watched K → Watched K → ℕ → Type 0
  AreWritten a b i = (done : List ℕ) × Passed takes a.inner b.inner done
      × (verdict_lines c pick base 1 all ≡ done ++ verdict_lines c pick base (i + 1) (drop i all))

  -- the next of them
  module _ (i : ℕ) (next : Verdict) (is : next ≡ get_or all i next) (at : i < length all) (a b : Watched K) (so_far : AreWritten a b i) where
    abbrev here : List ℕ
    here = verdict_line c pick base (i + 1) next

    abbrev behind : List ℕ
    behind = verdict_lines c pick base (i + 1 + 1) (drop (i + 1) all)

    whole : verdict_lines c pick base 1 all ≡ so_far.0 ++ (here ++ behind)
    whole =
        so_far.2
        ∙ ap (λ vs. so_far.0 ++ verdict_lines c pick base (i + 1) vs) (next_of all i next at)
        ∙ ap (λ (v : Verdict). so_far.0 ++ (verdict_line c pick base (i + 1) v ++ behind)) (sym is)

    pub one_more : (e : Watched K) → Passed takes b.inner e.inner here → AreWritten a e (i + 1)
    one_more e wrote = (
      so_far.0 ++ here,
      passed_more takes a.inner b.inner e.inner so_far.0 here so_far.1 wrote,
      whole ∙ sym (append_assoc so_far.0 here behind),
    )

    pub breaks : (fails : K → K → Type 0) (f : WriteFault) (e : Watched K) → WroteFront takes fails f here b e
        → WroteFront takes fails f (verdict_lines c pick base 1 all) a e
    breaks fails f e broke =
        rw whole (fault_behind takes fails f a b e so_far.0 (here ++ behind) so_far.1 (fault_before takes fails f b e here behind broke))

  -- none is left
  pub all_written : (i : ℕ) (a b : Watched K) → length all ≤ i → AreWritten a b i → Passed takes a.inner b.inner (verdict_lines c pick base 1 all)
  all_written i a b over so_far =
      subst (λ (t : List ℕ). Passed takes a.inner b.inner t)
      (sym (so_far.2 ∙ ap (λ vs. so_far.0 ++ verdict_lines c pick base (i + 1) vs) (drop_all i all over) ∙ append-nil so_far.0)) so_far.1
