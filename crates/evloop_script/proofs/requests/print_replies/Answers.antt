use Rattle.std.proofs.Common.{List, drop, length, refl, subst, sym, arith}
use Rattle.std.proofs.lemmas.Iterator.{YieldsList-from_slice, YieldsList-from_zip}
use Rattle.std.proofs.lemmas.Iterator.Consumers.{YieldsList-turn, YieldsList-end}
use Rattle.std.proofs.lemmas.List.{length_push, drop_all}
use Rattle.std.specs.List.{zip}
use Rattle.event_loop.specs.Exchange.{Exchanges}
use Rattle.evloop_script.specs.Printed.{written_by, PrintsReplies}
use Rattle.evloop_script.proofs.Written.{one_more_reply}
use Rattle.evloop_script.proofs.requests.print_replies.Goals as goal

pub loop-request-preserved : goal.loop-request-preserved
loop-request-preserved g c =
    let exchanges = zip c.args.requests.now c.args.answers.now in
    let turn = YieldsList-turn (YieldsList-from_zip (YieldsList-from_slice c.args.requests.now cc) (YieldsList-from_slice c.args.answers.now cc))
    c.loop-request.yielded _ c.loop-request.yielded_by _ c.next.new.self (c.in-Some.request, c.in-Some.answer) c.in-Some.is c.next.ensures.steps in
    λ after rest. c.loop-request.invariant after
    (one_more_reply _ _ after c.args.name.now exchanges (length c.loop-request.yielded) _ (c.in-Some.request.now, c.in-Some.answer.now) (length_push c.loop-request.yielded _) turn.0 turn.1 c.print_reply.ensures rest)

pub returns : goal.returns
returns g c =
    let exchanges = zip c.args.requests.now c.args.answers.now in
    let end = YieldsList-end (YieldsList-from_zip (YieldsList-from_slice c.args.requests.now cc) (YieldsList-from_slice c.args.answers.now cc))
    c.loop-request.yielded _ c.loop-request.yielded_by _ c.next.new.self c.in-None.is c.next.ensures.steps in
    let now = written_by g.O.Write.contents c.loop-request.printer in
    c.loop-request.invariant now
    (subst (λ (left : Exchanges). PrintsReplies now c.args.name.now left now) (sym (drop_all (length c.loop-request.yielded) exchanges (omega (arith, end.1)))) refl)
