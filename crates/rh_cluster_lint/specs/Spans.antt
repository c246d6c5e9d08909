-- The bytes of a part (ours).
use Rattle.std.specs.Prelude.{ℕ, List, nat_le, take, drop, filter, Bool, ◌&&◌}
use Rattle.rh_findings.specs.declared.parts.Part.{Part}
use Rattle.rh_findings.specs.Parts.{parts_at}

abbrev pub span : List ℕ → Part → List ℕ
span text p = drop p.from (take p.to text)

-- a part stands in another one, or is it
abbrev pub holds : Part → Part → Bool
holds outer p = nat_le outer.from p.from && nat_le p.to outer.to

-- the parts of a depth in it
abbrev pub parts_in : List ℕ → ℕ → Part → List Part
parts_in text depth outer = filter (holds outer) (parts_at depth text)
