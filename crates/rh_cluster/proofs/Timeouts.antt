-- The waits and timeouts of a file are within their limit.
use Rattle.std.proofs.Common.{◌≡◌, ◌≤◌, ℕ, ℤ, pos, negsuc, true, false, Bool, cond, List, Option, Some, None, nat_le, unwrap_or, refl, subst, arith}
use Rattle.std.proofs.lemmas.Bool.Decides.{nat_tests}
use Rattle.std.proofs.lemmas.Option.{cond_some}
use Rattle.rh_base.specs.Tree.{Tree}
use Rattle.rh_model.specs.declared.settings.SyncWait.{SyncWait}
use Rattle.rh_model.specs.declared.settings.SyncWait.TheVariants.{Unset, Forever}
use Rattle.rh_model.specs.Limits.{timeout_limit, IsWithinLimit}
use Rattle.rh_cluster.specs.Sections.{as_sync_wait, wait_by}
use Rattle.rh_cluster.specs.Shapes.{as_atom, as_int, as_time, if_within, ◌>>=◌}
use Rattle.rh_cluster.specs.Values.{time_or_zero, wait_in}

-- a number that passes a limit is within it
passed : (most : ℕ) (n : ℤ) (m : ℕ) → if_within most n ≡ Some m → m ≤ most
passed most (pos n) m h =
    let at = cond_some (nat_le n most) n m h in
    let within : n ≤ most = le at.0 in
    subst (λ k. k ≤ most) at.1 within
  where
    le : nat_le n most ≡ true → n ≤ most
    le e = grind (arith, nat_tests)
passed most (negsuc n) m h = cc

passed_if : (most : ℕ) (o : Option ℤ) (m : ℕ) → (o >>= if_within most) ≡ Some m → m ≤ most
passed_if most None m h = cc
passed_if most (Some n) m h = passed most n m h

or_zero : (most : ℕ) (o : Option ℕ) → ((m : ℕ) → o ≡ Some m → m ≤ most) → unwrap_or o 0 ≤ most
or_zero most None each = omega arith
or_zero most (Some n) each = each n refl

pub time_within : (o : Option Tree) → time_or_zero o ≤ timeout_limit
unfolding as_time
time_within None = omega arith
time_within (Some t) = or_zero timeout_limit (as_int t >>= if_within timeout_limit) (passed_if timeout_limit (as_int t))

-- ---- waits

abbrev waits : Option SyncWait → SyncWait
waits o = unwrap_or o Unset

by_word : (unset forever : Bool) → IsWithinLimit (waits (cond unset (Some Unset) (cond forever (Some Forever) None)))
by_word true forever = tt
by_word false true = tt
by_word false false = tt

by_value : (word : Option (List ℕ)) (time : Option ℕ) → ((m : ℕ) → time ≡ Some m → m ≤ timeout_limit) → IsWithinLimit (waits (wait_by word time))
by_value (Some s) time each = by_word _ _
by_value None None each = tt
by_value None (Some m) each = each m refl

pub wait_within : (o : Option Tree) → IsWithinLimit (wait_in o)
unfolding as_sync_wait as_time
wait_within None = tt
wait_within (Some t) = by_value (as_atom t) (as_int t >>= if_within timeout_limit) (passed_if timeout_limit (as_int t))
