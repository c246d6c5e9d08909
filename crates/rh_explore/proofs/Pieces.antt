-- What comes of pieces that are expanded each by itself.
use Rattle.std.proofs.Common.{◌≡◌, ◌<◌, ℕ, suc, List, [], ◌∷◌, ◌++◌, length, get_or, Result, Ok, Err, IfOk, OnOk, IsOk, All, Global, sym, subst, arith}
use Rattle.std.specs.List.{AllZip, flat_map}
use Rattle.std.specs.declared.collections.VecDeque.{VecDeque}
use Rattle.std.proofs.lemmas.List.Elements.{All-head, All-tail}
use Rattle.rh_base.specs.declared.memory.OutOfMemory.{OutOfMemory}
use Rattle.rh_state.specs.StateView.{StateView}
use Rattle.rh_rules.specs.declared.pick.Pick.{Pick}
use Rattle.rh_explore.specs.declared.families.Family.{Family}
use Rattle.rh_explore.specs.declared.leads.Expansion.{Expansion}
use Rattle.rh_explore.specs.Families.{piece_waiting, part_items}
use Rattle.rh_explore.proofs.Zips.{zip_append}

abbrev pub Piece : Type 0
Piece = VecDeque Family Global

abbrev pub Part : Type 0
Part = Result (VecDeque Expansion Global) OutOfMemory

module _ (R : StateView → Expansion → Type 0) (pick : Pick) where
  -- this came of a piece, if memory didn't run out
  abbrev pub CameOf : Piece → Part → Type 0
  CameOf piece part = IfOk part (λ expansions. AllZip R (piece_waiting pick piece) expansions.items)

  one_came : (piece : Piece) (part : Part) (states : List StateView) (rest : List Expansion) → IsOk part → CameOf piece part → AllZip R states rest
      → AllZip R (piece_waiting pick piece ++ states) (part_items part ++ rest)
  one_came piece (Ok expansions) states rest ok came others = zip_append R (piece_waiting pick piece) states expansions.items rest came others
  one_came piece (Err e) states rest ok came others = absurd (cc ok)

  pub all_came : (pieces : List Piece) (parts : List Part) → length parts ≡ length pieces → All IsOk parts
      → ((i : ℕ) (p : Piece) (r : Part) → i < length pieces → CameOf (get_or pieces i p) (get_or parts i r))
      → AllZip R (flat_map (piece_waiting pick) pieces) (flat_map part_items parts)
  all_came [] [] long ok came = tt
  all_came [] (r ∷ rs) long ok came = absurd (omega (arith, long))
  all_came (p ∷ ps) [] long ok came = absurd (omega (arith, long))
  all_came (p ∷ ps) (r ∷ rs) long ok came =
      one_came p r (flat_map (piece_waiting pick) ps) (flat_map part_items rs) (All-head IsOk r rs ok) (came 0 p r (omega arith))
      (all_came ps rs (omega (arith, long)) (All-tail IsOk r rs ok) (λ i q t l. came (suc i) q t (omega (arith, l))))

  -- and so of all, where they were joined
  pub joined_came : (pieces : List Piece) (parts : List Part) (all : Part) → OnOk all (All IsOk parts) → IfOk all (λ xs. xs.items ≡ flat_map part_items parts)
      → (All IsOk parts → AllZip R (flat_map (piece_waiting pick) pieces) (flat_map part_items parts))
      → IfOk all (λ xs. AllZip R (flat_map (piece_waiting pick) pieces) xs.items)
  joined_came pieces parts (Ok xs) whole is came =
      subst (λ (es : List Expansion). AllZip R (flat_map (piece_waiting pick) pieces) es) (sym is) (came whole)
  joined_came pieces parts (Err e) whole is came = tt
