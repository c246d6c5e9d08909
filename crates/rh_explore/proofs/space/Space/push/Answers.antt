use Rattle.std.proofs.Common.{nat_eq, ◌≡◌, ◌<◌, ℕ, Bool, true, false, length, map, not, All, refl, sym, ap, ◌∙◌, subst, arith}
use Rattle.std.specs.List.{list_any}
use Rattle.std.specs.Cmp.Lexicographic.{pointwise}
use Rattle.rh_base.proofs.Truths.{both}
use Rattle.rh_explore.specs.Failures.{all_told}
use Rattle.rh_explore.proofs.KeyLists.{key_there, key_not_there, pushed, stayed}
use Rattle.rh_explore.proofs.space.Space.push.Goals as goal

-- a key is new where it isn't there
was : (new has : Bool) → new ≡ not has → new ≡ false → has ≡ true
was new true is said = refl
was new false is said = both new is said

was_not : (new has : Bool) → new ≡ not has → new ≡ true → has ≡ false
was_not new true is said = both new said is
was_not new false is said = refl

pub returns-then-not-added-clause-new : goal.returns-then-not-added-clause-new
returns-then-not-added-clause-new c =
    key_there c.args.self.now c.args.marks.key.bytes.items (was _ _ c.in_ok-added.ensures.added c.if-not-added.true)

pub returns-then-not-added-clause-added : goal.returns-then-not-added-clause-added
returns-then-not-added-clause-added c =
    let q = c.args.marks.key.bytes.items in
    record {
      found = refl;
      keys = ap (map (λ k. k.bytes.items)) c.in_ok-added.ensures.keys
          ∙ stayed (λ k. k.bytes.items) (λ k. pointwise nat_eq q k.bytes.items) q c.args.self.now.keys.keys c.args.marks.key
          (was _ _ c.in_ok-added.ensures.added c.if-not-added.true);
      bytes = refl;
      firsts = refl;
    }

pub fail_at-requires : goal.fail_at-requires
fail_at-requires c = subst (All (λ (j : ℕ). j < length c.args.self.now.firsts.items)) (sym c.as_slice.ensures.value) c.requires.fails

pub returns-clause-new : goal.returns-clause-new
returns-clause-new c = key_not_there c.args.self.now c.args.marks.key.bytes.items (was_not _ _ c.in_ok-added.ensures.added c.if-not-added.false)

pub returns-clause-added : goal.returns-clause-added
returns-clause-added c =
    let q = c.args.marks.key.bytes.items in
    let ks = c.args.self.now.keys.keys in
    let number : c.len-number.result ≡ length c.args.self.now.found.items = omega (arith, c.len-number.ensures, c.args.self.now.found.ok.0) in
    record {
      found = c.in_ok-push.ensures.items;
      keys = ap (map (λ k. k.bytes.items)) c.in_ok-added.ensures.keys
          ∙ pushed (λ k. k.bytes.items) (λ k. pointwise nat_eq q k.bytes.items) q ks c.args.marks.key
          (λ t. both (list_any (λ k. pointwise nat_eq q k.bytes.items) ks) t (was_not _ _ c.in_ok-added.ensures.added c.if-not-added.false));
      bytes = omega (arith, c.len-bytes.ensures, c.args.marks.key.bytes.ok.0);
      firsts = c.fail_at.ensures ∙ (λ i. all_told (number i) c.args.self.now.firsts.items (c.as_slice.ensures.value i));
    }
