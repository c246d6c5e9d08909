use Rattle.std.proofs.Common.{◌≡◌, ◌≤◌, ◌<◌, ◌==◌, ◌∙◌, ℕ, inl, inr, sym, subst, refl, count_by, arith}
use Rattle.std.proofs.lemmas.Bool.{cases_lt}
use Rattle.rh_room.specs.Legal.{PassView}
use Rattle.rh_room.proofs.closing.are_once.Goals as goal

each_more : (P : ℕ → Type 0) (n : ℕ) → ((k : ℕ) → 1 ≤ k → k < n → P k) → P n → (k : ℕ) → 1 ≤ k → k ≤ n → P k
each_more P n each last k low high = elim (cases_lt k n) [
  | inl below ↦ each k low below
  | inr above ↦ let at : n ≡ k = omega arith in subst P at last
]

pub returns-then-count_of-ne1 : goal.returns-then-count_of-ne1
returns-then-count_of-ne1 c = (
  λ t. absurd (cc),
  λ all. absurd
      (c.if-count_of-ne1.true (c.count_of.ensures ∙ all c.loop-session.session (omega arith, omega arith))),
)

pub loop-session-preserved : goal.loop-session-preserved
loop-session-preserved c = λ session low high. each_more
    (λ k. count_by (λ (p : PassView). p.session == k) c.args.passes.now ≡ 1) c.loop-session.session c.loop-session.invariant
    (sym c.count_of.ensures ∙ c.if-count_of-ne1.false) session low (omega arith)

pub returns-else-count_of-ne1 : goal.returns-else-count_of-ne1
returns-else-count_of-ne1 c = (
  λ _. λ session is. each_more
      (λ k. count_by (λ (p : PassView). p.session == k) c.args.passes.now ≡ 1) c.loop-session.session c.loop-session.invariant
      (sym c.count_of.ensures ∙ c.if-count_of-ne1.false) session is.0 (omega arith),
  λ _. refl,
)
