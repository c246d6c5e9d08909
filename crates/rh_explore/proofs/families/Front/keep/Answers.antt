use Rattle.std.proofs.Common.{◌≡◌, ◌<◌, ◌++◌, ◌∷◌, ◌==◌, [], ℕ, Bool, true, false, length, vec_len, inl, inr, sym, ap, ◌∙◌, arith, Box, Global}
use Rattle.std.proofs.lemmas.Bool.Decides.{eqb_tells}
use Rattle.std.proofs.lemmas.Option.{same_Some}
use Rattle.rh_base.proofs.Truths.{both}
use Rattle.rh_state.specs.Stored.{Stored}
use Rattle.rh_explore.specs.declared.families.Family.{Family}
use Rattle.rh_explore.proofs.families.Front.keep.Goals as goal

-- whether a list is empty, by its length as it is kept
none_are : (n m : ℕ) (b : Bool) → b ≡ (n == 0) → n ≡ m → b ≡ true → m ≡ 0
none_are n m b is same empty = elim (eqb_tells n 0) [
  | inl e ↦ sym same ∙ e.1
  | inr e ↦ both b empty (is ∙ e.0)
]

some_are : (n m : ℕ) (b : Bool) → b ≡ (n == 0) → n ≡ m → b ≡ false → 0 < m
some_are n m b is same not = elim (eqb_tells n 0) [
  | inl e ↦ both b (is ∙ e.0) not
  | inr e ↦ omega (arith, e.1, same)
]

pub returns-then-is_empty-clause-some : goal.returns-then-is_empty-clause-some
returns-then-is_empty-clause-some c = λ s some is.
    let events = c.args.events in
    let none = none_are (vec_len events) (length events.items) c.is_empty.result c.is_empty.ensures events.ok.0 c.if-is_empty.true in
    absurd (omega (arith, some, none))

pub unwrap-state-requires : goal.unwrap-state-requires
unwrap-state-requires c =
    let events = c.args.events in
    c.requires.some (some_are (vec_len events) (length events.items) c.is_empty.result c.is_empty.ensures events.ok.0 c.if-is_empty.false)

pub returns-clause-none : goal.returns-clause-none
returns-clause-none c = λ zero.
    let events = c.args.events in
    let some = some_are (vec_len events) (length events.items) c.is_empty.result c.is_empty.ensures events.ok.0 c.if-is_empty.false in
    absurd (omega (arith, some, zero))

pub returns-clause-some : goal.returns-clause-some
returns-clause-some c = λ s some is.
    let family : Box Stored Global → Family = λ z. record { state = z; events = c.args.events } in
    c.in_ok-push_back.ensures.items
    ∙ ap (λ (z : Box Stored Global). c.args.self.now.families.items ++ family z ∷ []) (same_Some c.unwrap-state.result s (sym c.unwrap-state.ensures ∙ is))
