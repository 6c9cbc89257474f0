use Rattle.std.proofs.Common.{arith, ap, sym, ◌≡◌, ◌∙◌, ◌++◌, [], ◌∷◌, length}
use Rattle.event_manager.specs.Manager.{state_of}
use Rattle.evloop.proofs.Replies.{one_reply, made_alone, is_of_kind}
use Rattle.evloop.proofs.calls.make_call.Goals as goal

pub unreachable-requires : goal.unreachable-requires
unreachable-requires g c =
    let did = c.in-Ok.ensures.driven in
    let alone : c.push.new.self.items ≡ c.args.call ∷ [] = c.in_ok-push.ensures.items ∙ ap (λ old. old ++ c.args.call ∷ []) c.new-calls.ensures.items in
    let new : c.drive.new.replies.items ≡ did.0 = did.1 ∙ ap (λ old. old ++ did.0) c.new-replies.ensures.items in
    let one = one_reply g.S.MutEventSubscriber.begins g.S.MutEventSubscriber.serves g.J.Job.may g.P.EventPoller.controls g.P.EventPoller.waits _ _ _ _ did.0 alone did.2 in
    omega (arith, ap length new, one, c.in-None.ensures.cases)

pub returns-clause-driven : goal.returns-clause-driven
returns-clause-driven g c =
    let did = c.in-Ok.ensures.driven in
    let alone : c.push.new.self.items ≡ c.args.call ∷ [] = c.in_ok-push.ensures.items ∙ ap (λ old. old ++ c.args.call ∷ []) c.new-calls.ensures.items in
    let new : c.drive.new.replies.items ≡ did.0 = did.1 ∙ ap (λ old. old ++ did.0) c.new-replies.ensures.items in
    made_alone g.S.MutEventSubscriber.begins g.S.MutEventSubscriber.serves g.J.Job.may g.P.EventPoller.controls g.P.EventPoller.waits _ _ _ _ did.0 alone did.2 c.pop.new.self.items c.in-Some.reply (sym new ∙ c.in-Some.ensures.items)

pub returns-clause-kind : goal.returns-clause-kind
returns-clause-kind g c =
    is_of_kind g.S.MutEventSubscriber.begins g.S.MutEventSubscriber.serves g.J.Job.may g.P.EventPoller.controls g.P.EventPoller.waits c.args.call c.in-Some.reply
    (state_of c.args.manager.now) (state_of c.drive.new.manager) (returns-clause-driven g c)
