-- Whether a growth was refused while terms were read (ours).
use Rattle.std.specs.Prelude.{Bool, true, false}
use Rattle.rh_terms.specs.declared.fault.TermFault.{TermFault}
use Rattle.rh_terms.specs.declared.fault.TermFault.TheVariants as terms

abbrev pub is_term_memory : TermFault → Bool
is_term_memory terms.OutOfMemory = true
is_term_memory f = false
