use Rattle.std.proofs.Common.{ap, ◌∙◌, map, reverse, [], ◌∷◌, arith}
use Rattle.std.proofs.lemmas.List.{nil_from_length, reverse-append}
use Rattle.event_manager.specs.Manager.{state_of}
use Rattle.event_manager.proofs.TraceSoFar.{none_traced, one_more_traced, all_traced}
use Rattle.event_manager.proofs.lists.drive.Goals as goal

pub loop-planned-init : goal.loop-planned-init
loop-planned-init g c = record {
  so_far = none_traced g.S.MutEventSubscriber.begins g.S.MutEventSubscriber.serves g.J.Job.may g.P.EventPoller.controls g.P.EventPoller.waits (state_of c.args.manager.now) (map (λ p. p.call) (reverse c.in_ok-plan.plan.items)) c.reserve.new.self.items;
  room = omega (arith, c.in_ok-reserve.ensures.ok, c.in_ok-plan.ensures.count, c.len.ensures);
}

pub loop-planned-preserved : goal.loop-planned-preserved
loop-planned-preserved g c =
    let planned = c.in-Some.planned in
    let same = ap reverse c.in-Some.ensures.items ∙ reverse-append c.pop.new.self.items (planned ∷ []) in
    let here = rw same at c.loop-planned.invariant.so_far in
    let did = c.make_call-reply.ensures in
    record {
      so_far = rw c.push_reserved.ensures.items (one_more_traced g.S.MutEventSubscriber.begins g.S.MutEventSubscriber.serves g.J.Job.may g.P.EventPoller.controls g.P.EventPoller.waits
          (state_of c.args.manager.now) (state_of c.loop-planned.manager) (state_of c.make_call-reply.new.manager) _ (map (λ p. p.call) (reverse c.pop.new.self.items)) _ c.loop-planned.replies.items planned.call c.make_call-reply.result did.0 here did.1 did.2);
      room = omega (arith, c.loop-planned.invariant.room, c.in-Some.ensures.cases, c.push_reserved.ensures.len, c.push_reserved.ensures.capacity);
    }

pub returns-clause-driven : goal.returns-clause-driven
returns-clause-driven g c =
    let none = nil_from_length c.loop-planned.plan.items (omega (arith, c.in_default.ensures.cases)) in
    let here = rw none at c.loop-planned.invariant.so_far in
    let all = all_traced g.S.MutEventSubscriber.begins g.S.MutEventSubscriber.serves g.J.Job.may g.P.EventPoller.controls g.P.EventPoller.waits (state_of c.args.manager.now) (state_of c.loop-planned.manager) _ c.reserve.new.self.items c.loop-planned.replies.items c.next_id-next.ensures.below here in
    rw (← c.in_ok-plan.ensures.calls, ← c.reserve.ensures.items) all
