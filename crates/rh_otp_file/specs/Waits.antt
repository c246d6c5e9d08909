-- `sync_nodes_timeout`, as a live node takes it (kernel(6)).
use Rattle.std.specs.Prelude.{ℕ, ℤ, pos, List, codes, ◌==◌, Option, Some, None, if◌then◌else◌}
use Rattle.std.specs.Str.{bytes_eq}
use Rattle.rh_base.specs.Tree.{Tree, atom, int}
use Rattle.rh_otp_model.specs.declared.wait.Wait.{Wait}
use Rattle.rh_otp_model.specs.declared.wait.Wait.TheVariants.{Unset, Refused, After, Forever}

-- a number: it has to be above 0
abbrev pub wait_number : ℤ → Wait
wait_number (pos n) = if n == 0 then Refused else After n
wait_number n = Refused

-- a word: `infinity`, and no other
abbrev pub wait_word : List ℕ → Wait
wait_word s = if bytes_eq s (codes "infinity") then Forever else Refused

-- a written value; all that is neither of these is refused too
unfoldable pub wait_of : Tree → Wait
wait_of (int n) = wait_number n
wait_of (atom s) = wait_word s
wait_of t = Refused

-- the same where there may be none
abbrev pub wait_in : Option Tree → Wait
wait_in (Some v) = wait_of v
wait_in None = Unset
