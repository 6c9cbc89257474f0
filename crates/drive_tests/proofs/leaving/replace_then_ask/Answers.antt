use Rattle.std.proofs.Common.{◌++◌, refl, ap, ◌∙◌}
use Rattle.std.proofs.lemmas.Result.{on_ok_weaker}
use Rattle.event_manager.proofs.CallsApart.{unknown_to}
use Rattle.drive_tests.proofs.leaving.replace_then_ask.Goals as goal

pub returns : goal.returns
returns g c = on_ok_weaker c.drive.result (λ d.
    let are = rw (c.in_ok-push-3.ensures.items, c.in_ok-push-2.ensures.items, c.in_ok-push.ensures.items, c.new-calls.ensures.items) at c.in_ok-push-4.ensures.items in
    let told = unknown_to d.2 are in
    let law = told.1.1.1.1.1 in
    (told.0, told.1.0, told.1.1.0, told.1.1.1.0, d.1 ∙ ap (λ new. c.args.replies.now.items ++ new) told.1.1.1.1.0, λ gone left. (law.0 c.args.id gone refl left).1.1.0 refl)) c.drive.ensures.driven
