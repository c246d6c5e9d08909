-- The rule of names (ours).
use Rattle.std.specs.Prelude.{ℕ, List, length, Bool, not, ◌&&◌, ◌==◌, nat_le, nat_lt}
use Rattle.std.specs.List.{list_all}
use Rattle.rh_cluster.specs.declared.name_rule.TheConstants.{LONGEST_NAME, SPACE, DELETE}

-- neither a space nor a control byte
abbrev pub is_name_byte : ℕ → Bool
is_name_byte b = nat_lt SPACE b && not (b == DELETE)

-- one or more such bytes, up to the longest name
unfoldable pub is_name : List ℕ → Bool
is_name s = not (length s == 0) && nat_le (length s) LONGEST_NAME && list_all is_name_byte s
