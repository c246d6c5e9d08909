use Rattle.std.proofs.Common.{◌≡◌, ◌<◌, ◌∙◌, length, sym, subst, arith}
use Rattle.rh_calls.specs.declared.call.Reply.{Reply}
use Rattle.rh_trail.specs.Lone.{answered, served}
use Rattle.rh_room.specs.declared.pass.Receipt.{Receipt}
use Rattle.rh_room.specs.Legal.{IsRoom, IsSession, RoomView, PassView, InOrder, receipt, log_limit}
use Rattle.rh_room.specs.Serving.{IsPassOf}
use Rattle.rh_room.proofs.Rooms.{room_goes_on, look_is_still}
use Rattle.rh_room.proofs.Orders.{order_goes_on, few_receipts}
use Rattle.rh_room.proofs.room.Room.serve_known.Goals as goal

pub reply_to-requires : goal.reply_to-requires
reply_to-requires c =
    rw c.deref.ensures.value (look_is_still c.self.inside.sim.seen c.self.inside.sessions c.self.inside.log.items c.self.invariant.legal)

pub push_reserved-requires : goal.push_reserved-requires
push_reserved-requires c =
    let s = c.self.inside in
    let below : length s.log.items < log_limit = subst (λ (v : RoomView). length v.log < log_limit) (sym c.self.view_is) c.requires.room in
    omega (arith, below, s.log.ok.0, c.self.invariant.room)

pub invariant_of-self-2 : goal.invariant_of-self-2
invariant_of-self-2 c =
    let s = c.self.inside in
    record {
      legal = subst (IsRoom c.reply_to.new.sim.seen s.sessions) (sym c.push_reserved.ensures.items)
          (room_goes_on s.sim.seen c.reply_to.new.sim.seen s.sessions s.log.items c.session-session.result c.args.call c.into_three-logged.result.0
          c.self.invariant.legal
          (subst (λ (r : Reply). served s.sim.seen c.args.call ≡ answered r c.reply_to.new.sim.seen) (sym c.into_three-logged.ensures.logged) c.in_ok-replies.ensures.reply)
          (subst (λ n. IsSession s.sessions n) (sym c.session-session.ensures)
          (subst (λ (v : RoomView). IsSession v.sessions c.args.pass.now.session) (sym c.self.view_is) c.requires.known.0))
          (subst (λ (v : RoomView). length v.log < log_limit) (sym c.self.view_is) c.requires.room));
      room = omega (arith, c.push_reserved.ensures.capacity, c.self.invariant.room);
    }

pub push_reserved-requires-2 : goal.push_reserved-requires-2
push_reserved-requires-2 c =
    let p = c.pass.inside in
    let room : RoomView = record { sim = c.self.inside.sim; sessions = c.self.inside.sessions; log = c.self.inside.log.items } in
    let pass : PassView = record { session = p.session; receipts = p.receipts.items } in
    let known : IsPassOf room pass = subst (λ (v : PassView). IsPassOf room v) (sym c.pass.view_is)
    (subst (λ (v : RoomView). IsPassOf v c.args.pass.now) (sym c.self.view_is) c.requires.known) in
    let below : length c.self.inside.log.items < log_limit = subst (λ (v : RoomView). length v.log < log_limit) (sym c.self.view_is) c.requires.room in
    let few = few_receipts room p.session p.receipts.items c.pass.invariant.order known.1 in
    omega (arith, few, below, p.receipts.ok.0, c.pass.invariant.room)

pub invariant_of-pass : goal.invariant_of-pass
invariant_of-pass c =
    let p = c.pass.inside in
    let room : RoomView = record { sim = c.self.inside.sim; sessions = c.self.inside.sessions; log = c.self.inside.log.items } in
    let pass : PassView = record { session = p.session; receipts = p.receipts.items } in
    let r : Receipt = receipt c.len-place.result c.args.call c.into_three-logged.result.1 in
    let known : IsPassOf room pass = subst (λ (v : PassView). IsPassOf room v) (sym c.pass.view_is)
    (subst (λ (v : RoomView). IsPassOf v c.args.pass.now) (sym c.self.view_is) c.requires.known) in
    record {
      order = subst InOrder (sym c.push_reserved-2.ensures.items)
          (order_goes_on room p.session p.receipts.items r c.pass.invariant.order known.1 (c.len-place.ensures ∙ c.self.inside.log.ok.0));
      room = omega (arith, c.push_reserved-2.ensures.capacity, c.pass.invariant.room);
    }
