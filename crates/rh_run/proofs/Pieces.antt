-- Texts that are written piece by piece.
use Rattle.std.proofs.Common.{◌≡◌, ◌<◌, ◌+◌, ℕ, List, [], ◌++◌, length, take, drop, get_or, Bool, Option, Result, Ok, Err}
use Rattle.std.proofs.Common.{sym, ap, subst, ◌∙◌, append_assoc, take-append-drop}
use Rattle.std.specs.List.{flat_map}
use Rattle.std.proofs.lemmas.List.{flat_map_more, take_more}
use Rattle.std.proofs.lemmas.Grind.{flat_map-append}
use Rattle.rh_devices.specs.declared.fault.WriteFault.{WriteFault}
use Rattle.rh_devices.specs.declared.watched.Watched.{Watched}
use Rattle.rh_devices.specs.Devices.{Passed, WroteFront}
use Rattle.rh_run.specs.RunText.{Broke}
use Rattle.rh_devices.proofs.Passing.{passed_more, fault_behind, fault_before}

-- a piece behind what was written
module _ {K : Type 0} (takes : K → K → List ℕ → Type 0) (fails : K → K → Type 0) where
  pub broke_behind : (r : Result (Unit {0}) WriteFault) (a b c : Watched K) (done text : List ℕ)
      → Passed takes a.inner b.inner done → Broke takes fails r text b c → Broke takes fails r (done ++ text) a c
  broke_behind (Ok x) a b c done text p q = (passed_more takes a.inner b.inner c.inner done text p q.0, q.1)
  broke_behind (Err f) a b c done text p q = fault_behind takes fails f a b c done text p q

-- the texts of elements, up to one of them: f gives the text of each
module _ {X : Type 0} (f : X → List ℕ) (xs : List X) (i : ℕ) (d : X) (at : i < length xs) where
  next_piece : flat_map f (take (i + 1) xs) ≡ flat_map f (take i xs) ++ f (get_or xs i d)
  next_piece = ap (flat_map f) (take_more xs i d at) ∙ sym (flat_map_more f [] (take i xs) (get_or xs i d))

  all_pieces : flat_map f xs ≡ flat_map f (take i xs) ++ (f (get_or xs i d) ++ flat_map f (drop (i + 1) xs))
  all_pieces =
      ap (flat_map f) (sym (take-append-drop (i + 1) xs))
      ∙ flat_map-append f (take (i + 1) xs) (drop (i + 1) xs)
      ∙ ap (λ l. l ++ flat_map f (drop (i + 1) xs)) next_piece
      ∙ append_assoc (flat_map f (take i xs)) (f (get_or xs i d)) (flat_map f (drop (i + 1) xs))

  pub goes_on : {K : Type 0} (takes : K → K → List ℕ → Type 0) → d ≡ get_or xs i d → (a b c : Watched K)
      → Passed takes a.inner b.inner (flat_map f (take i xs)) → Passed takes b.inner c.inner (f d) → Passed takes a.inner c.inner (flat_map f (take (i + 1) xs))
  goes_on takes is a b c p q =
      let here = subst (λ x. Passed takes b.inner c.inner (f x)) is q in
      rw next_piece (passed_more takes a.inner b.inner c.inner (flat_map f (take i xs)) (f (get_or xs i d)) p here)

  pub fails_midway : {K : Type 0} (takes : K → K → List ℕ → Type 0) (fails : K → K → Type 0) → d ≡ get_or xs i d
      → (f' : WriteFault) (a b c : Watched K) → Passed takes a.inner b.inner (flat_map f (take i xs)) → WroteFront takes fails f' (f d) b c
      → WroteFront takes fails f' (flat_map f xs) a c
  fails_midway takes fails is f' a b c p q =
      let here = subst (λ x. WroteFront takes fails f' (f x) b c) is q in
      let tail = flat_map f (drop (i + 1) xs) in
      rw all_pieces
      (fault_behind takes fails f' a b c (flat_map f (take i xs)) (f (get_or xs i d) ++ tail) p
      (fault_before takes fails f' b c (f (get_or xs i d)) tail here))
