-- Words of which none are linked.
use Rattle.std.proofs.Common.{◌≡◌, ℕ, zero, suc, ◌<◌, [], length, replicate, get_or, Option, Some, None, refl, sym, ap, subst, ◌∙◌, arith}
use Rattle.std.proofs.lemmas.List.{length-replicate}
use Rattle.rh_arena.specs.Words.{unlinked, head_of}
use Rattle.rh_arena.specs.Lists.{walk, listed}
use Rattle.rh_arena.specs.WellFormed.{IsWellFormed, IsList}

get_or-replicate_same : {A : Type 0} (n i : ℕ) (d : A) → get_or (replicate n d) i d ≡ d
get_or-replicate_same zero i d = refl
get_or-replicate_same (suc n) zero d = refl
get_or-replicate_same (suc n) (suc i) d = get_or-replicate_same n i d

pub unlinked_listed : (n m l : ℕ) → listed (unlinked n m) l ≡ []
unfolding listed
unlinked_listed n m l = ap (walk (unlinked n m) (head_of (unlinked n m) l)) (get_or-replicate_same m l 0)

unlinked_list : (n m l : ℕ) → IsList (unlinked n m) l []
unlinked_list n m l = record {
  linked = (get_or-replicate_same m l None, get_or-replicate_same m l None);
  counted = get_or-replicate_same m l 0;
  different = λ i j d h k. absurd (omega (arith, k));
}

pub unlinked_formed : (n m : ℕ) → IsWellFormed (unlinked n m)
unlinked_formed n m = record {
  next = refl;
  owner = refl;
  tail = refl;
  count = length-replicate m 0 ∙ sym (length-replicate {A = Option ℕ} m None);
  lists = λ l h. subst (IsList (unlinked n m) l) (sym (unlinked_listed n m l)) (unlinked_list n m l);
  owners = λ i l. (
    (λ e. absurd (let q : None ≡ Some l = sym (get_or-replicate_same n i None) ∙ e in cc)),
    (λ k. absurd (let h : k.0 < length (listed (unlinked n m) l) = k.1 in omega (arith, h, ap length (unlinked_listed n m l)))),
  );
}
