use Rattle.std.proofs.lemmas.Bool.{eq-eqb}
use Rattle.rh_place.proofs.Bits.{no_bits, zero_has_none, is_zero}
use Rattle.rh_place.proofs.node_set.NodeSet.is_empty.Goals as goal

pub returns : goal.returns
returns c = rw (← c.self.view_is) (
  (λ h n. zero_has_none (record { bits = c.self.inside.bits }) (is_zero c.self.inside.bits h) n),
  (λ h. eq-eqb c.self.inside.bits 0 (no_bits (record { bits = c.self.inside.bits }) h)),
)
