-- In which order things are taken that may come in any (ours).
use Rattle.std.specs.Prelude.{ℕ, ◌-◌, ◌*◌, ◌%◌}
use Rattle.rh_otp_net.specs.declared.order.Order.{Order}
use Rattle.rh_otp_net.specs.declared.order.Order.TheVariants.{FirstComes, LastComes, Drawn}

-- the number that is drawn behind another one (Park and Miller's minimal standard)
abbrev pub drawn : ℕ → ℕ
drawn number = number * 48271 % 2147483647

-- the place of what is taken next, of so many
abbrev pub place_in : Order → ℕ → ℕ
place_in FirstComes count = 0
place_in LastComes count = count - 1
place_in (Drawn number) count = drawn number % count

-- the order behind that
abbrev pub next_order : Order → Order
next_order (Drawn number) = Drawn (drawn number)
next_order order = order
