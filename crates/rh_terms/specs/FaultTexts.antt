-- How a fault of a text is shown: its code and its name (ours).
use Rattle.std.specs.Prelude.{ℕ, List, ◌++◌, codes}
use Rattle.std.specs.Fmt.{decimal}
use Rattle.rh_terms.specs.declared.fault.TermFault.{TermFault}
use Rattle.rh_terms.specs.declared.fault.TermFault.TheVariants.{Syntax, Unsupported, NotUtf8, TooDeep, IntRange}
use Rattle.rh_terms.specs.declared.fault.TermFault.TheVariants.{OutOfMemory}

abbrev pub term_fault_text : TermFault → List ℕ
term_fault_text (Syntax line) = codes "T1 syntax line " ++ decimal line
term_fault_text (Unsupported line) = codes "T2 unsupported line " ++ decimal line
term_fault_text NotUtf8 = codes "T3 not_utf8"
term_fault_text TooDeep = codes "T4 too_deep"
term_fault_text IntRange = codes "T5 int_range"
term_fault_text OutOfMemory = codes "T6 out_of_memory"
