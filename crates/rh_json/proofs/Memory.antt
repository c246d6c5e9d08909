-- A program that reads memory: what it wrote, by how it ended.
use Rattle.std.proofs.Common.{◌≡◌, ◌≤◌, ℕ, List, [], ◌∷◌, ◌++◌, length, false, Option, Result, Ok, Err, inl, inr, refl, sym, ap, subst, ◌∙◌}
use Rattle.std.proofs.Common.{append-nil, append_assoc, arith}
use Rattle.std.proofs.lemmas.List.{length-append}
use Rattle.std.specs.List.{flat_map}
use Rattle.rh_devices.specs.declared.watched.Watched.{Watched}
use Rattle.rh_devices.specs.Devices.{input_limit, InTurn, Passed, PassedAll, FrontTaken, FrontBroken}
use Rattle.rh_devices.specs.Memory.{GivesFront}
use Rattle.rh_devices.proofs.Passing.{nothing_yet}
use Rattle.rh_run.specs.declared.fault.RunFault.{RunFault}
use Rattle.rh_run.specs.declared.fault.RunFault.TheVariants as end
use Rattle.rh_run.specs.declared.fault.Told.{Told}
use Rattle.rh_run.specs.Programs.{ProgramGives, Answers, NoThreads}
use Rattle.rh_run.specs.RunText.{Broke}
use Rattle.rh_json.specs.Parts.{part_ended}

module _ {D : Type 0} (left : D → List ℕ) where
  front : (a b : D) (ps : List (List ℕ)) → InTurn (λ x y p. GivesFront (left x) (left y) p) a b ps → left a ≡ flat_map (λ p. p) ps ++ left b
  front a b [] h = ap left h
  front a b (p ∷ ps) h = h.1.0 ∙ ap (λ l. p ++ l) (front h.0 b ps h.2) ∙ sym (append_assoc p (flat_map (λ q. q) ps) (left b))

  passed_front : (a b : D) (bytes : List ℕ) → Passed (λ x y p. GivesFront (left x) (left y) p) a b bytes → left a ≡ bytes ++ left b
  passed_front a b bytes h = front a b h.0 h.1 ∙ ap (λ l. l ++ left b) h.2

  all_given : (a b : D) (bytes : List ℕ) → PassedAll (λ x y p. GivesFront (left x) (left y) p) a b bytes → left a ≡ bytes
  all_given a b bytes h =
      let none : left h.0 ≡ [] = h.2.0 ∙ h.2.1 refl in
      passed_front a h.0 bytes h.1 ∙ ap (λ l. bytes ++ l) none ∙ append-nil bytes

module _ {D K : Type 0} (left : D → List ℕ) (takes : K → K → List ℕ → Type 0) (fails : K → K → Type 0)
    (text : List ℕ → List ℕ) (tells : List ℕ → Option Told) (old new : Watched D) (before after : Watched K) where
  abbrev Owed : List ℕ → List ℕ → Option Told → Type 0
  Owed bytes it owed = (it ≡ text bytes) × (owed ≡ tells bytes)

  abbrev Gave : Result (Unit {0}) RunFault → Type 0
  Gave r = ProgramGives (λ x y p. GivesFront (left x) (left y) p) (λ x y. ⊥) takes fails Owed NoThreads r old new before after

  -- the text that it owes is that of all that was left
  owes_all : (it : List ℕ) (owed : Option Told) → Answers (λ x y p. GivesFront (left x) (left y) p) Owed old new it owed → it ≡ text (left old.inner)
  owes_all it owed is = is.2.0 ∙ ap text (sym (all_given left old.inner new.inner is.0 is.1.0))

  abbrev Whole : List ℕ → Type 0
  Whole it = Passed takes before.inner after.inner it

  pub is_part : (r : Result (Unit {0}) RunFault) → before.failed ≡ false → length (left old.inner) ≤ input_limit → Gave r
      → Broke takes fails (part_ended r) (text (left old.inner)) before after
  is_part (Err end.Read) well few (inl failed, same) = absurd failed.2.2
  is_part (Err end.Read) well few (inr much, same) =
      let front = passed_front left old.inner new.inner much.1 much.2 in
      absurd (omega (arith, few, much.3, ap length front, length-append much.1 (left new.inner)))
  is_part (Err end.Write) well few gave = (
    subst (λ it. FrontBroken takes fails before.inner after.inner it) (owes_all gave.0 gave.1 gave.2) gave.3,
    gave.4,
  )
  is_part (Err end.OutOfMemory) well few (read, written, inl same) = (
    subst (λ (w : Watched K). FrontTaken takes before.inner w.inner (text (left old.inner))) (sym same)
        (nothing_yet takes fails before.inner (text (left old.inner))),
    written,
  )
  is_part (Err end.OutOfMemory) well few (read, written, inr gave) = (
    subst (λ it. FrontTaken takes before.inner after.inner it) (owes_all gave.0 gave.1 gave.2) gave.3,
    written,
  )
  is_part (Err end.Room) well few gave = absurd gave.2
  is_part (Ok x) well few gave = (subst Whole (owes_all gave.0 gave.1 gave.2) gave.3.0, gave.3.1)
  is_part (Err (end.Cluster f)) well few gave = (subst Whole (owes_all gave.0 gave.1 gave.2) gave.3.0, gave.3.1)
  is_part (Err (end.BadLine k)) well few gave = (subst Whole (owes_all gave.0 gave.1 gave.2) gave.3.0, gave.3.1)
  is_part (Err (end.Sweep f)) well few gave = (subst Whole (owes_all gave.0 gave.1 gave.2) gave.3.0, gave.3.1)
  is_part (Err end.Refused) well few gave = (subst Whole (owes_all gave.0 gave.1 gave.2) gave.3.0, gave.3.1)
  is_part (Err end.Differs) well few gave = (subst Whole (owes_all gave.0 gave.1 gave.2) gave.3.0, gave.3.1)
  is_part (Err end.Unfinished) well few gave = (subst Whole (owes_all gave.0 gave.1 gave.2) gave.3.0, gave.3.1)
