-- Where the text of a `Str` lies.
use Rattle.std.specs.Prelude.{ℕ, List}
use Rattle.std.specs.String.{string_bytes}
use Rattle.rh_base.specs.declared.text.Letters.{Letters}
use Rattle.rh_base.specs.declared.text.Letters.TheVariants.{Short, Long}

-- its bytes, wherever they lie
abbrev pub bytes_of : Letters → List ℕ
bytes_of (Short text) = text.bytes
bytes_of (Long text) = string_bytes text
