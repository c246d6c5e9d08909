-- What passed, where the devices are memory.
use Rattle.std.proofs.Common.{◌≡◌, ◌≤◌, ◌<◌, ℕ, List, [], ◌∷◌, ◌++◌, length, Bool, false, Option, Result, Ok, Err, inl, inr, refl, sym, ap, ◌∙◌}
use Rattle.std.proofs.Common.{append-nil, append_assoc, arith}
use Rattle.std.proofs.lemmas.List.{length-append}
use Rattle.std.specs.List.{flat_map}
use Rattle.rh_rules.specs.declared.pick.Pick.{Pick}
use Rattle.rh_run.specs.declared.fault.RunFault.{RunFault}
use Rattle.rh_run.specs.declared.fault.RunFault.TheVariants as end
use Rattle.rh_run.specs.declared.fault.Told.{Told}
use Rattle.rh_devices.specs.declared.watched.Watched.{Watched}
use Rattle.rh_devices.specs.Devices.{input_limit, InTurn, Passed, PassedAll}
use Rattle.rh_run.specs.Faults.{ended}
use Rattle.rh_devices.specs.Memory.{GivesFront, Holds}
use Rattle.rh_run.specs.Programs.{ProgramGives, NoThreads}
use Rattle.rh_run.specs.RunText.{run_text, run_end, OwesRun}

module _ {D : Type 0} (left : D → List ℕ) where
  front : (a b : D) (ps : List (List ℕ)) → InTurn (λ x y p. GivesFront (left x) (left y) p) a b ps → left a ≡ flat_map (λ p. p) ps ++ left b
  front a b [] h = ap left h
  front a b (p ∷ ps) h = h.1.0 ∙ ap (λ l. p ++ l) (front h.0 b ps h.2) ∙ sym (append_assoc p (flat_map (λ q. q) ps) (left b))

  passed_front : (a b : D) (bytes : List ℕ) → Passed (λ x y p. GivesFront (left x) (left y) p) a b bytes → left a ≡ bytes ++ left b
  passed_front a b bytes h = front a b h.0 h.1 ∙ ap (λ l. l ++ left b) h.2

  all_given : (a b : D) (bytes : List ℕ) → PassedAll (λ x y p. GivesFront (left x) (left y) p) a b bytes → left a ≡ bytes
  all_given a b bytes h =
      let none : left h.0 ≡ [] = h.2.0 ∙ h.2.1 refl in
      passed_front a h.0 bytes h.1 ∙ ap (λ l. bytes ++ l) none ∙ append-nil bytes

module _ {K : Type 0} (lacked : K → Bool) (items : K → List ℕ) where
  taken : (a b : K) (ps : List (List ℕ)) → InTurn (λ x y p. Holds (lacked x) (lacked y) (items x) (items y) p) a b ps → lacked b ≡ false
      → (lacked a ≡ false) × (items b ≡ items a ++ flat_map (λ p. p) ps)
  taken a b [] h whole = (ap lacked h ∙ whole, ap items (sym h) ∙ sym (append-nil (items a)))
  taken a b (p ∷ ps) h whole =
      let rest = taken h.0 b ps h.2 whole in
      let one = h.1 rest.0 in
      (one.0, rest.1 ∙ ap (λ l. l ++ flat_map (λ q. q) ps) one.1 ∙ append_assoc (items a) p (flat_map (λ q. q) ps))

  all_taken : (a b : K) (text : List ℕ) → Passed (λ x y p. Holds (lacked x) (lacked y) (items x) (items y) p) a b text → lacked b ≡ false
      → items b ≡ items a ++ text
  all_taken a b text h whole = (taken a b h.0 h.1 whole).1 ∙ ap (λ l. items a ++ l) h.2

-- a run over memory
module _ {D K : Type 0} (left : D → List ℕ) (lacked : K → Bool) (items : K → List ℕ) (pick : Pick) (old new : Watched D) (before after : Watched K)
    (empty : items before.inner ≡ []) (whole : lacked after.inner ≡ false) where
  abbrev Gave : Result (Unit {0}) RunFault → Type 0
  Gave r = ProgramGives (λ x y p. GivesFront (left x) (left y) p) (λ x y. ⊥) (λ x y p. Holds (lacked x) (lacked y) (items x) (items y) p) (λ x y. ⊥)
      (OwesRun pick) NoThreads r old new before after

  abbrev pub Is : Result (Unit {0}) RunFault → Type 0
  Is r = (length (left old.inner) ≤ input_limit → (items after.inner ≡ run_text (left old.inner) pick) × (r ≡ ended (run_end (left old.inner))))
      × (input_limit < length (left old.inner) → (items after.inner ≡ []) × (r ≡ Err end.Read))

  -- the input was read whole, and the text written whole
  answered : (r : Result (Unit {0}) RunFault) (bytes text : List ℕ) (owed : Option Told) → length bytes ≤ input_limit → left old.inner ≡ bytes
      → OwesRun pick bytes text owed → Passed (λ x y p. Holds (lacked x) (lacked y) (items x) (items y) p) before.inner after.inner text → r ≡ ended owed → Is r
  answered r bytes text owed small all owes taken is =
      let holds : items after.inner ≡ text = all_taken lacked items before.inner after.inner text taken whole ∙ ap (λ l. l ++ text) empty in (
        (λ few. (
          holds ∙ owes.0 ∙ ap (λ bs. run_text bs pick) (sym all),
          is ∙ ap ended owes.1 ∙ ap (λ bs. ended (run_end bs)) (sym all),
        )),
        (λ many. absurd (omega (arith, many, small, ap length all))),
      )

  pub in_memory : (r : Result (Unit {0}) RunFault) → (r ≡ Err end.OutOfMemory → ⊥) → Gave r → Is r
  in_memory (Err end.Read) other (inl failed, same) = absurd failed.2.2
  in_memory (Err end.Read) other (inr much, same) =
      let front = passed_front left old.inner new.inner much.1 much.2 in (
        (λ few. absurd (omega (arith, few, much.3, ap length front, length-append much.1 (left new.inner)))),
        (λ many. (ap (λ (w : Watched K). items w.inner) same ∙ empty, refl)),
      )
  in_memory (Err end.Write) other gave = absurd gave.3.2.2
  in_memory (Err end.OutOfMemory) other gave = absurd (other refl)
  in_memory (Err end.Room) other gave = absurd gave.2
  in_memory (Ok x) other gave =
      answered (Ok x) gave.2.0 gave.0 gave.1 gave.2.1.1 (all_given left old.inner new.inner gave.2.0 gave.2.1.0) gave.2.2 gave.3.0 gave.4
  in_memory (Err (end.Cluster f)) other gave =
      answered (Err (end.Cluster f)) gave.2.0 gave.0 gave.1 gave.2.1.1 (all_given left old.inner new.inner gave.2.0 gave.2.1.0) gave.2.2 gave.3.0 gave.4
  in_memory (Err (end.BadLine k)) other gave =
      answered (Err (end.BadLine k)) gave.2.0 gave.0 gave.1 gave.2.1.1 (all_given left old.inner new.inner gave.2.0 gave.2.1.0) gave.2.2 gave.3.0 gave.4
  in_memory (Err (end.Sweep f)) other gave =
      answered (Err (end.Sweep f)) gave.2.0 gave.0 gave.1 gave.2.1.1 (all_given left old.inner new.inner gave.2.0 gave.2.1.0) gave.2.2 gave.3.0 gave.4
  in_memory (Err end.Refused) other gave =
      answered (Err end.Refused) gave.2.0 gave.0 gave.1 gave.2.1.1 (all_given left old.inner new.inner gave.2.0 gave.2.1.0) gave.2.2 gave.3.0 gave.4
  in_memory (Err end.Differs) other gave =
      answered (Err end.Differs) gave.2.0 gave.0 gave.1 gave.2.1.1 (all_given left old.inner new.inner gave.2.0 gave.2.1.0) gave.2.2 gave.3.0 gave.4
  in_memory (Err end.Unfinished) other gave =
      answered (Err end.Unfinished) gave.2.0 gave.0 gave.1 gave.2.1.1 (all_given left old.inner new.inner gave.2.0 gave.2.1.0) gave.2.2 gave.3.0 gave.4
