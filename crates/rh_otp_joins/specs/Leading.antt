-- States to which every order of moves leads, and that what ends alike behind such a state ends alike.
use Rattle.std.specs.Prelude.{◌+◌, ℕ, zero, suc}
use Rattle.rh_otp_system.specs.Moves.{Delivers}
use Rattle.rh_otp_system.specs.State.{SystemView}
use Rattle.rh_otp_laws.specs.Acting.{IsReached}
use Rattle.rh_otp_orders.specs.Orders.{AreAlike}
use Rattle.rh_otp_orders.specs.Confluence.{EveryOrderEndsAlike}

-- However the moves are chosen, so many of them can be made, and behind them a system stands that is alike to the second one (ours).
abbrev pub LeadsTo : ℕ → SystemView → SystemView → Type 0
LeadsTo zero s t = AreAlike s t
LeadsTo (suc n) s t = ((u : SystemView) × Delivers s u) × ((u : SystemView) → Delivers s u → LeadsTo n u t)

-- Where every order leads to what ends alike, every order ends alike.
abbrev pub WhatLeadsThereEndsAlike : Type 0
WhatLeadsThereEndsAlike = (n : ℕ) (s t : SystemView) → IsReached s → LeadsTo n s t → EveryOrderEndsAlike t → EveryOrderEndsAlike s

-- What leads to a state that leads to a third one leads there, by as many moves as both.
abbrev pub LeadsOn : Type 0
LeadsOn = (n k : ℕ) (s t u : SystemView) → IsReached s → LeadsTo n s t → LeadsTo k t u → LeadsTo (n + k) s u
