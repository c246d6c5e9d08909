use Rattle.std.proofs.Common.{◌≤◌, ℕ, List, nat_eq, refl, sym, ◌∙◌, subst, arith}
use Rattle.std.specs.Prelude.{Contains}
use Rattle.std.specs.Cmp.Lexicographic.{pointwise, bytes_decides}
use Rattle.rh_state.specs.Stored.{Stored, read}
use Rattle.rh_trace.specs.Validity.{IsValid}
use Rattle.rh_keys.specs.declared.key.Key.{Key}
use Rattle.rh_explore.specs.Failures.{FailThere}
use Rattle.rh_explore.specs.Families.{knowing}
use Rattle.rh_explore.specs.Reaching.{not_up_count}
use Rattle.rh_explore.proofs.KeyLists.{any_contains}
use Rattle.rh_explore.proofs.worker.Worker.lead_to.Goals as goal

pub returns-then-contains-clause-lead : goal.returns-then-contains-clause-lead
returns-then-contains-clause-lead c =
    let counted = c.not_up_count.ensures in
    let few : not_up_count (read c.args.state.now) ≤ c.args.search.now.bounds.down = omega (arith, counted) in
    let k = knowing c.args.known.now in
    let q = c.make.new.self.key.bytes.items in
    let has : Contains k.keys q =
    any_contains (λ (key : Key). key.bytes.items) (λ (key : Key). pointwise nat_eq q key.bytes.items) q (λ key h. (bytes_decides q key.bytes.items).0 h)
    c.args.known.now.keys.now.keys (sym c.contains.ensures ∙ c.if-contains.true) in
    (few, subst (λ (z : List ℕ). Contains k.keys z) c.in_ok-make.ensures.key has)

pub marks-requires-clause-valid : goal.marks-requires-clause-valid
marks-requires-clause-valid c = subst (λ (z : Stored). IsValid (read z)) (sym c.in_ok-make.ensures.state) c.requires.valid

pub returns-clause-lead : goal.returns-clause-lead
returns-clause-lead c =
    let s = c.args.search.now in
    let counted = c.not_up_count.ensures in
    let few : not_up_count (read c.args.state.now) ≤ s.bounds.down = omega (arith, counted) in (
      refl,
      few,
      c.in_ok-marks.ensures.key ∙ c.in_ok-make.ensures.key,
      subst (λ (z : Stored). FailThere s.pick c.args.known.now.firsts.now s.asks.now (read z) c.in_ok-marks.marks.fails.items) c.in_ok-make.ensures.state
          c.in_ok-marks.ensures.fails,
    )
