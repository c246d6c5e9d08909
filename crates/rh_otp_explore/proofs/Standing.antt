-- Whether an event may come, by what it comes to and what is told behind it.
use Rattle.std.proofs.Common.{◌≡◌, ◌≤◌, ◌<◌, ℕ, nat_le, ◌&&◌, true, false, Some, None, sym, arith}
use Rattle.std.proofs.lemmas.Bool.Decides.{nat_tests}
use Rattle.rh_rules.specs.declared.event.Event.{Event}
use Rattle.rh_otp_report.specs.Report.{report_of}
use Rattle.rh_otp_sim.specs.Sim.{LiveSimView, without_past}
use Rattle.rh_otp_sim.specs.Stepping.{outcome_of}
use Rattle.rh_otp_explore.specs.Coming.{after, is_made, not_up_count, comes, made_if}

module _ (down : ℕ) (e : Event) (sim : LiveSimView) where
  abbrev not_up : ℕ
  not_up = not_up_count (report_of (after e sim)).nodes

  pub not_made : is_made (outcome_of e (without_past sim)) ≡ false → None ≡ made_if (comes down e sim) e sim
  not_made refused = sym (λ i. made_if (refused i && nat_le not_up down) e sim)

  pub too_few_up : is_made (outcome_of e (without_past sim)) ≡ true → down < not_up → None ≡ made_if (comes down e sim) e sim
  too_few_up made few =
      let none : nat_le not_up down ≡ false = grind (arith, nat_tests, few) in sym (λ i. made_if (made i && none i) e sim)

  pub may_come : is_made (outcome_of e (without_past sim)) ≡ true → not_up ≤ down → Some (after e sim) ≡ made_if (comes down e sim) e sim
  may_come made enough =
      let all : nat_le not_up down ≡ true = grind (arith, nat_tests, enough) in sym (λ i. made_if (made i && all i) e sim)
