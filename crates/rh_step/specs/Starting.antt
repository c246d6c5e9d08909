-- Which events, before any application moves, may let a local application start at a pair that they don't mark (app(4), applications;
-- application(3), permit/2, takeover/2; ours).
use Rattle.std.specs.Prelude.{Bool, true, false}
use Rattle.rh_rules.specs.declared.event.Event.{Event}
use Rattle.rh_rules.specs.declared.event.Event.TheVariants.{Permit, Takeover}

-- a permission may be what it waited for, and so may an application that is taken over by hand to its node
abbrev pub may_let_start : Event → Bool
may_let_start (Permit n a allow) = allow
may_let_start (Takeover n a r) = true
may_let_start _ = false
