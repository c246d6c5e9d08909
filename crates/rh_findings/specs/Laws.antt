-- Laws of lists of findings (ours).
use Rattle.std.specs.Prelude.{◌≡◌, List}
use Rattle.rh_findings.specs.declared.finding.Finding.{Finding}
use Rattle.rh_findings.specs.Order.{IsListed}

-- what was found is listed in one way
abbrev pub ListIsOne : Type 0
ListIsOne = (found first second : List Finding) → IsListed found first → IsListed found second → first ≡ second
