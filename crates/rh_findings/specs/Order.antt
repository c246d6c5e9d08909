-- The order in which findings are listed (ours).
use Rattle.std.specs.Prelude.{◌≡◌, ℕ, ◌+◌, ◌*◌, ◌==◌, List, unwrap_or, filter}
use Rattle.std.specs.List.Sorted.{IsNonDecreasingBy, IsPermutation}
use Rattle.rh_findings.specs.declared.finding.Kind.{Kind}
use Rattle.rh_findings.specs.declared.finding.Kind.TheVariants.{Error, Warning, Hint}
use Rattle.rh_findings.specs.declared.finding.Finding.{Finding}

abbrev pub rank : Kind → ℕ
rank Error = 0
rank Warning = 1
rank Hint = 2

-- by line, those without one first, and within a line errors, then warnings, then hints
abbrev pub place : Finding → ℕ
place f = 3 * unwrap_or f.line 0 + rank f.kind

-- those that stand where this one does, in their order
abbrev pub beside : Finding → List Finding → List Finding
beside f found = filter (λ g. place g == place f) found

-- the list has the findings that there are, in this order; what is of one line and one kind stands as it was found
pub record IsListed (found listed : List Finding) : Type 0 where
  pub same : IsPermutation found listed
  pub order : IsNonDecreasingBy place listed
  pub beside : (f : Finding) → beside f listed ≡ beside f found
